use Rattle.std.proofs.Common.{ap, ◌∙◌}
use Rattle.std.specs.Prelude.{drop}
use Rattle.std.specs.Option.{option_map}
use Rattle.reg_bank.specs.Locks.{started}
use Rattle.core_parts.proofs.LockLaws.{delay_of, delays_stay, behind_stays, start_leaves, others_same, lock_changed}
use Rattle.core_parts.proofs.window.Window.start.Goals as goal

pub returns-clause-lock : goal.returns-clause-lock
returns-clause-lock g c =
    rw (← c.self.view_is) (lock_changed (g.B.Bank.lock c.self.inside.bank) (g.B.Bank.lock c.start.new.self) c.args.pll.0 started c.requires c.start.ensures.lock)

pub returns-clause-others : goal.returns-clause-others
returns-clause-others g c =
    rw (← c.self.view_is) (others_same (g.B.Bank.lock c.self.inside.bank) (g.B.Bank.lock c.start.new.self) c.args.pll.0 c.start.ensures.others)

pub returns-clause-behind : goal.returns-clause-behind
returns-clause-behind g c =
    rw (← c.self.view_is)
    (behind_stays c.self.inside.size (g.B.Bank.contents c.self.inside.bank) (g.B.Bank.contents c.start.new.self) (g.B.Bank.lock c.self.inside.bank) (g.B.Bank.lock c.start.new.self)
    (ap (option_map (drop c.self.inside.size)) c.start.ensures.words)
    (delays_stay (g.B.Bank.lock c.self.inside.bank) (g.B.Bank.lock c.start.new.self) c.args.pll.0 (ap delay_of c.start.ensures.lock ∙ start_leaves (g.B.Bank.lock c.self.inside.bank c.args.pll.0)) c.start.ensures.others))
