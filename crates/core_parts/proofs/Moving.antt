-- The parts of a core where the gates of some clocks move.
use Rattle.std.proofs.Common.{◌≡◌, ℕ, ◌<◌, Bool, true, List, Option, Some, None, sym, subst, ◌∙◌, arith, length}
use Rattle.std.specs.Option.{option_map}
use Rattle.clk_base.specs.Checked.{Checked}
use Rattle.clk_base.specs.Description.{Description}
use Rattle.clk_base.specs.Valid.{IsValid}
use Rattle.clk_model.specs.declared.row.ClockRow.{ClockRow}
use Rattle.clk_model.specs.Lists.{is_in, count_from}
use Rattle.clk_model.specs.State.{registered, link_in}
use Rattle.clk_model.specs.Tree.{path_within}
use Rattle.clk_model.specs.Gates.{gates_moved}
use Rattle.clk_model.proofs.Members.{is_in-count_from}
use Rattle.clk_model.proofs.PathLaws.{path_all}
use Rattle.clk_model.proofs.GateLaws.{GatesLie, GatesLie-part, AreWords-gates_moved, length-gates_moved}
use Rattle.clk_model.proofs.GateRateLaws.{rate-moved}
use Rattle.clk_tree.specs.TreeState.{TreeState}
use Rattle.core_parts.specs.Window.{Shown, AreTold}
use Rattle.core_parts.specs.Tied.{AreKept, AreTied}
use Rattle.core_parts.specs.Shape.{LinksLie}
use Rattle.core_parts.proofs.Shapes.{registered_lies, link_lies, gates_lie}

-- links lead to clocks of the description
pub links_within : (desc : Checked) (window : Shown) (tree : TreeState) → AreTied desc window tree → LinksLie desc.defs tree.clocks
links_within desc window tree tied = record {
  lie = λ c p e. subst (λ (d : Description). p < length d) tied.defs (link_lies tree.defs tree.clocks tree.order tree.rates c p tied.stands e);
}

-- and so do the clocks of a path
pub path_within_desc : (desc : Checked) (window : Shown) (tree : TreeState) (levels clock : ℕ) → AreTied desc window tree → registered tree.clocks clock ≡ true
    → (c : ℕ) → is_in c (path_within (link_in tree.clocks) levels clock) ≡ true → c < length desc.defs
path_within_desc desc window tree levels clock tied here c m =
    subst (λ (d : Description). c < length d) tied.defs
    (registered_lies tree.defs tree.clocks tree.order tree.rates c tied.stands
    (path_all (λ b. registered tree.clocks b ≡ true) (link_in tree.clocks) levels clock c (λ d p _ e. tied.stands.links d p e) here m))

-- so is a registered clock
pub clock_within : (desc : Checked) (window : Shown) (tree : TreeState) (c : ℕ) → AreTied desc window tree → registered tree.clocks c ≡ true → c < length desc.defs
clock_within desc window tree c tied here =
    subst (λ (d : Description). c < length d) tied.defs (registered_lies tree.defs tree.clocks tree.order tree.rates c tied.stands here)

-- the gates of some clocks, where those of all lie in the bank
some_lie : (words : ℕ) (defs : Description) (cs : List ℕ) → IsValid words defs → ((c : ℕ) → is_in c cs ≡ true → c < length defs) → GatesLie defs cs words
some_lie words defs cs valid within =
    GatesLie-part defs (count_from 0 (length defs)) cs words
    (λ c m. is_in-count_from c 0 (length defs) (omega arith) (let below : c < length defs = within c m in omega arith))
    (gates_lie words defs valid)

told_moved : (n : ℕ) (told : Option (List ℕ)) (defs : Description) (before after : ℕ → Bool) (cs : List ℕ) → AreTold n told → GatesLie defs cs n
    → AreTold n (option_map (gates_moved defs before after cs) told)
told_moved n None defs before after cs are lie = tt
told_moved n (Some ws) defs before after cs are lie = (AreWords-gates_moved defs before after cs ws n lie are.0, length-gates_moved defs before after cs ws ∙ are.1)

-- gates have no part in rates
kept_moved : (words : ℕ) (told : Option (List ℕ)) (defs : Description) (before after : ℕ → Bool) (cs : List ℕ) (clocks : List ClockRow) (rates : List ℕ)
    → IsValid words defs → AreKept defs told clocks rates
    → AreKept defs (option_map (gates_moved defs before after cs) told) clocks rates
kept_moved words None defs before after cs clocks rates valid kept = tt
kept_moved words (Some ws) defs before after cs clocks rates valid kept =
    λ c there. kept c there ∙ sym (rate-moved words defs before after cs ws clocks c valid)

-- the words and the tree after the gates of some clocks have moved
pub tied-moved : (desc : Checked) (window window' : Shown) (tree : TreeState) (before after : ℕ → Bool) (cs : List ℕ)
    → AreTied desc window tree → ((c : ℕ) → is_in c cs ≡ true → c < length desc.defs)
    → window'.size ≡ window.size → window'.words ≡ option_map (gates_moved desc.defs before after cs) window.words
    → AreTied desc window' tree
tied-moved desc window window' tree before after cs tied within size words = record {
  valid = tied.valid;
  words = size ∙ tied.words;
  told = subst (λ (n : ℕ). AreTold n window'.words) (sym size)
      (subst (λ (o : Option (List ℕ)). AreTold window.size o) (sym words)
      (told_moved window.size window.words desc.defs before after cs tied.told
      (subst (λ (n : ℕ). GatesLie desc.defs cs n) (sym tied.words) (some_lie desc.words desc.defs cs tied.valid within))));
  defs = tied.defs;
  stands = tied.stands;
  kept = subst (λ (o : Option (List ℕ)). AreKept desc.defs o tree.clocks tree.rates) (sym words)
      (kept_moved desc.words window.words desc.defs before after cs tree.clocks tree.rates tied.valid tied.kept);
}
