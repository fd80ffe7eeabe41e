use Rattle.std.proofs.Math.Path.{fun_ext}
use Rattle.std.proofs.Common.{◌≡◌, ◌∙◌, ap, ◌<◌, ℕ, List, [], Option, sym, subst, length}
use Rattle.std.specs.Prelude.{is_some, IfOk, IfErr}
use Rattle.std.specs.List.{AllByRecursion}
use Rattle.clk_base.proofs.Valid.{length-valid}
use Rattle.drv_scripts.specs.declared.bundle.LockLine.{LockLine}
use Rattle.reg_bank.specs.Locks.{most_plls}
use Rattle.reg_bank.specs.declared.pll_lock.PllLock.{PllLock}
use Rattle.core_parts.specs.Window.{delays_in, locks_of}
use Rattle.clk_run.specs.Arming.{armed_by}
use Rattle.clk_run.specs.Runs.{telling, Printed, LeftByFault}
use Rattle.clk_run.proofs.LocksPlaced.{locks_few}
use Rattle.clk_run.proofs.side_by_side.run_bundle.Goals as goal

pub arm_locks-requires : goal.arm_locks-requires
arm_locks-requires g c =
    let b = c.args.bundle.now in
    subst (λ (locks : List LockLine). AllByRecursion (λ l. l.clock.0 < most_plls) locks) (sym c.as_slice.ensures)
    (locks_few (length b.desc.defs) b.locks (length-valid b.desc.words b.desc.defs c.requires.sound.valid) c.requires.sound.locks)

pub returns-clause-done : goal.returns-clause-done
returns-clause-done g c =
    let b = c.args.bundle.now in
    let armed : g.B.Bank.lock c.arm_locks.new.bank ≡ (λ p. armed_by b.locks p (g.B.Bank.lock c.args.bank p)) = fun_ext (λ p. c.arm_locks.ensures.locks p ∙ ap (λ (ls : List LockLine). armed_by ls p (g.B.Bank.lock c.args.bank p)) c.as_slice.ensures) in
    subst (λ (lock : ℕ → Option PllLock). IfOk c.run_armed.result (λ left. Printed b c.args.cli.now (telling (g.B.Bank.contents c.args.bank) lock) (g.B.Bank.contents c.args.bank) (g.K.Sink.written c.args.out.now) (g.K.Sink.written c.run_armed.new.out) (g.B.Bank.contents left))) armed
    (subst (λ (contents : Option (List ℕ)). IfOk c.run_armed.result (λ left. Printed b c.args.cli.now (telling contents (g.B.Bank.lock c.arm_locks.new.bank)) contents (g.K.Sink.written c.args.out.now) (g.K.Sink.written c.run_armed.new.out) (g.B.Bank.contents left)))
    c.arm_locks.ensures.words c.run_armed.ensures.done)

pub returns-clause-told : goal.returns-clause-told
returns-clause-told g c =
    subst (λ (contents : Option (List ℕ)). IfOk c.run_armed.result (λ left. is_some (g.B.Bank.contents left) ≡ is_some contents)) c.arm_locks.ensures.words c.run_armed.ensures.told

pub returns-clause-delays : goal.returns-clause-delays
returns-clause-delays g c =
    let b = c.args.bundle.now in
    let armed : g.B.Bank.lock c.arm_locks.new.bank ≡ (λ p. armed_by b.locks p (g.B.Bank.lock c.args.bank p)) = fun_ext (λ p. c.arm_locks.ensures.locks p ∙ ap (λ (ls : List LockLine). armed_by ls p (g.B.Bank.lock c.args.bank p)) c.as_slice.ensures) in
    subst (λ (lock : ℕ → Option PllLock). IfOk c.run_armed.result (λ left. delays_in (locks_of (g.B.Bank.lock left)) ≡ (telling (g.B.Bank.contents c.args.bank) lock).delays)) armed c.run_armed.ensures.delays

pub returns-clause-fault : goal.returns-clause-fault
returns-clause-fault g c =
    let b = c.args.bundle.now in
    let armed : g.B.Bank.lock c.arm_locks.new.bank ≡ (λ p. armed_by b.locks p (g.B.Bank.lock c.args.bank p)) = fun_ext (λ p. c.arm_locks.ensures.locks p ∙ ap (λ (ls : List LockLine). armed_by ls p (g.B.Bank.lock c.args.bank p)) c.as_slice.ensures) in
    subst (λ (lock : ℕ → Option PllLock). IfErr c.run_armed.result (LeftByFault b c.args.cli.now (telling (g.B.Bank.contents c.args.bank) lock) (g.K.Sink.written c.args.out.now) (g.K.Sink.written c.run_armed.new.out))) armed
    (subst (λ (contents : Option (List ℕ)). IfErr c.run_armed.result (LeftByFault b c.args.cli.now (telling contents (g.B.Bank.lock c.arm_locks.new.bank)) (g.K.Sink.written c.args.out.now) (g.K.Sink.written c.run_armed.new.out)))
    c.arm_locks.ensures.words c.run_armed.ensures.fault)
