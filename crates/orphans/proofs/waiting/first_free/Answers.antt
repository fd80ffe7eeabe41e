-- Place by place.
use Rattle.std.proofs.Common.{◌≡◌, ◌∙◌, ◌+◌, Bool, cond, Some, ℕ, suc, sym, ap, arith, drop, map}
use Rattle.std.specs.Prelude.{find, slice_get}
use Rattle.std.specs.Option.{option_map}
use Rattle.std.proofs.lemmas.Option.{slice_get-map}
use Rattle.clk_base.specs.declared.clock.ClockId.{ClockId}
use Rattle.orphans.specs.Beside.{is_free, rows_with}
use Rattle.orphans.proofs.WaitingLaws.{find_at}
use Rattle.orphans.proofs.waiting.first_free.Goals as goal

pub returns-then-is_free-clause-first : goal.returns-then-is_free-clause-first
returns-then-is_free-clause-first g c = λ regs told.
    let t = c.args.tree.now in
    let test : ℕ → Bool = is_free t.defs regs (rows_with t regs c.args.new.0) c.args.marks.now in
    let at : slice_get (map (λ (x : ClockId). x.0) c.args.waiting.now) c.loop-place.place ≡ Some c.clock_at-clock.result.0 =
    slice_get-map (λ (x : ClockId). x.0) c.args.waiting.now c.loop-place.place ∙ ap (option_map (λ (x : ClockId). x.0)) c.clock_at-clock.ensures in
    c.loop-place.invariant regs told
    ∙ find_at test (map (λ (x : ClockId). x.0) c.args.waiting.now) c.loop-place.place c.clock_at-clock.result.0 at
    ∙ ap (λ (b : Bool). cond b (Some c.clock_at-clock.result.0) (find test (drop (suc c.loop-place.place) (map (λ (x : ClockId). x.0) c.args.waiting.now)))) (sym (c.is_free.ensures regs told) ∙ c.if-is_free.true) ∙ sym at

pub loop-place-preserved : goal.loop-place-preserved
loop-place-preserved g c = λ regs told.
    let t = c.args.tree.now in
    let test : ℕ → Bool = is_free t.defs regs (rows_with t regs c.args.new.0) c.args.marks.now in
    let at : slice_get (map (λ (x : ClockId). x.0) c.args.waiting.now) c.loop-place.place ≡ Some c.clock_at-clock.result.0 =
    slice_get-map (λ (x : ClockId). x.0) c.args.waiting.now c.loop-place.place ∙ ap (option_map (λ (x : ClockId). x.0)) c.clock_at-clock.ensures in
    c.loop-place.invariant regs told
    ∙ find_at test (map (λ (x : ClockId). x.0) c.args.waiting.now) c.loop-place.place c.clock_at-clock.result.0 at
    ∙ ap (λ (b : Bool). cond b (Some c.clock_at-clock.result.0) (find test (drop (suc c.loop-place.place) (map (λ (x : ClockId). x.0) c.args.waiting.now)))) (sym (c.is_free.ensures regs told) ∙ c.if-is_free.false)
    ∙ ap (λ (n : ℕ). find test (drop n (map (λ (x : ClockId). x.0) c.args.waiting.now))) (let one : suc c.loop-place.place ≡ c.loop-place.place + 1 = omega arith in one)
