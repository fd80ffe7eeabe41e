use Rattle.std.proofs.Common.{◌≡◌, ◌∙◌, ap, Option, sym, subst}
use Rattle.std.specs.Prelude.{drop, IfSome}
use Rattle.std.specs.Option.{option_map}
use Rattle.reg_bank.specs.Locks.{polled, is_locked}
use Rattle.reg_bank.specs.declared.pll_lock.PllLock.{PllLock}
use Rattle.core_parts.proofs.LockLaws.{delay_of, delays_stay, behind_stays, poll_leaves, lock_of, others_same, lock_changed}
use Rattle.core_parts.proofs.window.Window.locked.Goals as goal

pub returns-clause-lock : goal.returns-clause-lock
returns-clause-lock g c =
    rw (← c.self.view_is) (lock_changed (g.B.Bank.lock c.self.inside.bank) (g.B.Bank.lock c.locked.new.self) c.args.pll.0 polled c.requires c.locked.ensures.lock)

pub returns-clause-others : goal.returns-clause-others
returns-clause-others g c =
    rw (← c.self.view_is) (others_same (g.B.Bank.lock c.self.inside.bank) (g.B.Bank.lock c.locked.new.self) c.args.pll.0 c.locked.ensures.others)

pub returns-clause-answer : goal.returns-clause-answer
returns-clause-answer g c =
    (subst (λ (o : Option PllLock). IfSome o (λ now. c.locked.result ≡ is_locked now)) (sym (lock_of (g.B.Bank.lock c.locked.new.self) c.args.pll.0 c.requires)) c.locked.ensures.answer)

pub returns-clause-behind : goal.returns-clause-behind
returns-clause-behind g c =
    rw (← c.self.view_is)
    (behind_stays c.self.inside.size (g.B.Bank.contents c.self.inside.bank) (g.B.Bank.contents c.locked.new.self) (g.B.Bank.lock c.self.inside.bank) (g.B.Bank.lock c.locked.new.self)
    (ap (option_map (drop c.self.inside.size)) c.locked.ensures.words)
    (delays_stay (g.B.Bank.lock c.self.inside.bank) (g.B.Bank.lock c.locked.new.self) c.args.pll.0 (ap delay_of c.locked.ensures.lock ∙ poll_leaves (g.B.Bank.lock c.self.inside.bank c.args.pll.0)) c.locked.ensures.others))
