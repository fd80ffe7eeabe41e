-- The clocks that were read have the places that the record has.
use Rattle.std.proofs.Common.{◌≡◌, ℕ, true, ◌&&◌, sym, ap, ◌∙◌, length}
use Rattle.std.specs.Prelude.{nat_lt}
use Rattle.std.specs.List.{list_all}
use Rattle.std.proofs.lemmas.List.{length-map}
use Rattle.std.proofs.lemmas.List.Folds.{list_all-map}
use Rattle.clk_base.specs.declared.clock.ClockId.{ClockId}
use Rattle.clk_base.specs.Valid.{can_have_parents}
use Rattle.clk_base.proofs.check.has_its_parents.Goals as goal

pub returns-then-can_have_parents : goal.returns-then-can_have_parents
returns-then-can_have_parents c =
    let below = list_all (λ p. nat_lt p c.args.clocks) c.args.def.now.parents in
    let count : length c.as_slice-parents.result.now ≡ length c.args.def.now.parents =
    sym (length-map c.as_slice-parents.result.now (λ (p : ClockId). p.0)) ∙ ap length c.as_slice-parents.ensures in
    let can : can_have_parents c.args.def.now.kind (length c.args.def.now.parents) ≡ true =
    ap (can_have_parents c.args.def.now.kind) (sym count) ∙ sym c.if-can_have_parents.ensures in
    let are : c.are_below.result ≡ below =
    c.are_below.ensures
    ∙ (sym (list_all-map (λ (p : ℕ). nat_lt p c.args.clocks) (λ (p : ClockId). p.0) c.as_slice-parents.result.now)
    ∙ ap (list_all (λ p. nat_lt p c.args.clocks)) c.as_slice-parents.ensures) in
    are ∙ ap (λ b. b && below) (sym can)
