-- Laws on the links of a tree: what the calls of a tree leave of those that the sums are over.
use Rattle.std.proofs.Common.{◌≡◌, ℕ, zero, suc, None, refl, sym, ap, ◌∙◌}
use Rattle.std.specs.Prelude.{replicate}
use Rattle.std.specs.Option.{option_map}
use Rattle.clk_base.specs.declared.clock.ClockId.{ClockId}
use Rattle.clk_model.specs.State.{link_in, unregistered_row}
use Rattle.counts_core.specs.Counted.{HasLinks}
use Rattle.counts_core.proofs.Held.{none_link, nowhere}

-- without a registered clock there is no link
pub links_at_first : (n m : ℕ) → HasLinks (replicate n unregistered_row) (replicate m (none_link tt))
links_at_first n m c = unlinked n c ∙ sym (ap (option_map (λ (p : ClockId). p.0)) (nowhere m c)) where
  unlinked : (k d : ℕ) → link_in (replicate k unregistered_row) d ≡ None
  unlinked zero d = refl
  unlinked (suc k) zero = refl
  unlinked (suc k) (suc d) = unlinked k d
