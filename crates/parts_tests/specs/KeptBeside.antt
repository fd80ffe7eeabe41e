-- What counts and the plain lists beside them keep.
use Rattle.std.specs.Prelude.{◌≡◌, ℕ, List, length}
use Rattle.clk_tree.specs.TreeState.{TreeState}
use Rattle.counts_core.specs.Counted.{CountState, AreCounts, HasLinks}

-- the sums are over the tree's links, and the plain lists are the holders
pub record AreBeside (tree : TreeState) (counts : CountState) (enables prepares exclusives : List ℕ) : Type 0 where
  pub size : length tree.defs ≡ length counts.links
  pub links : HasLinks tree.clocks counts.links
  pub stands : AreCounts counts
  pub enabled : counts.enables ≡ enables
  pub prepared : counts.prepares ≡ prepares
  pub excluded : counts.exclusives ≡ exclusives
