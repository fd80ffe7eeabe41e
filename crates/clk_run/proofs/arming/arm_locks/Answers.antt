use Rattle.std.proofs.Common.{◌≡◌, ◌∙◌, ◌<◌, ◌+◌, ◌==◌, ℕ, true, false, List, Option, ap, sym, length, get_or, drop, inl, inr, arith, if◌then◌else◌}
use Rattle.std.specs.Option.{option_map}
use Rattle.std.proofs.lemmas.Bool.{cases_eq, cond-true, cond-false}
use Rattle.std.proofs.lemmas.Bool.Decides.{nat_tests}
use Rattle.std.proofs.lemmas.List.{drop_more}
use Rattle.drv_scripts.specs.declared.bundle.LockLine.{LockLine}
use Rattle.reg_bank.specs.Locks.{most_plls, armed}
use Rattle.reg_bank.specs.declared.pll_lock.PllLock.{PllLock}
use Rattle.clk_run.specs.Arming.{armed_by}
use Rattle.driver_runs.proofs.Going.{element}
use Rattle.clk_run.proofs.arming.arm_locks.Goals as goal

-- a lock after one line
one_lock : (clock polls p : ℕ) (old new : Option PllLock) → (p ≡ clock → new ≡ option_map (armed polls) old) → ((p ≡ clock → ⊥) → new ≡ old)
    → new ≡ (if clock == p then option_map (armed polls) old else old)
one_lock clock polls p old new this others =
    elim (cases_eq p clock) [
      | inl same ↦ (let here : (clock == p) ≡ true = grind (arith, nat_tests) in this same ∙ sym (cond-true _ _ _ here))
      | inr other ↦ (let away : (clock == p) ≡ false = grind (arith, nat_tests) in others other ∙ sym (cond-false _ _ _ away))
    ]

-- and the lines behind it
lock_more : (lines : List LockLine) (i : ℕ) (d : LockLine) (p : ℕ) (old new : Option PllLock) → i < length lines
    → new ≡ (if (get_or lines i d).clock.0 == p then option_map (armed (get_or lines i d).polls) old else old) → armed_by (drop (i + 1) lines) p new ≡ armed_by (drop i lines) p old
lock_more lines i d p old new within e =
    ap (armed_by (drop (i + 1) lines) p) e ∙ sym (ap (λ (ls : List LockLine). armed_by ls p old) (drop_more lines i d within))

pub arm-requires : goal.arm-requires
arm-requires g c = element (λ (l : LockLine). l.clock.0 < most_plls) c.args.locks.now c.loop-line.line-index _ c.requires c.loop-line-test.true

pub loop-line-preserved : goal.loop-line-preserved
loop-line-preserved g c =
    let was = c.loop-line.invariant in
    let armed_ = c.arm.ensures in
    let lock = g.B.Bank.lock in
    let none : LockLine = record { clock = record { 0 = 0 }; polls = 0 } in
    let polls = (get_or c.args.locks.now c.loop-line.line-index none).polls in
    record {
      size = armed_.size ∙ was.size;
      words = armed_.words ∙ was.words;
      locks = λ p.
          lock_more c.args.locks.now c.loop-line.line-index none p (lock c.loop-line.bank p) (lock c.arm.new.self p) c.loop-line-test.true
          (one_lock _ _ p (lock c.loop-line.bank p) (lock c.arm.new.self p)
          (λ same. ap (lock c.arm.new.self) same ∙ armed_.lock ∙ ap (λ (n : ℕ). option_map (armed polls) (lock c.loop-line.bank n)) (sym same))
          (λ other. armed_.others p other))
          ∙ was.locks p;
    }
