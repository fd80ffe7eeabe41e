use Rattle.std.proofs.Common.{◌∙◌, List, sym, subst, inl, inr, arith, rules}
use Rattle.std.proofs.lemmas.Result.{on_ok_weaker}
use Rattle.clk_base.specs.declared.call.Micro.{Micro}
use Rattle.clk_base.specs.declared.call.Sleeping.TheVariants.{Sweep}
use Rattle.clk_machine.specs.SettingOut.{SetsOut}
use Rattle.clk_machine.proofs.SettingOut.{can_sweep, no_room}
use Rattle.clk_machine.proofs.Starting.{room_told}
use Rattle.clk_machine.proofs.machine.Machine.ready_sweep.Goals as goal

pub returns-then-credits_left-eq0-clause-never : goal.returns-then-credits_left-eq0-clause-never
returns-then-credits_left-eq0-clause-never g c = λ off. inl (let left = c.credits_left.ensures in let none = c.if-credits_left-eq0.true in omega arith)

pub returns-then-not-fits-clause-never : goal.returns-then-not-fits-clause-never
returns-then-not-fits-clause-never g c = λ off. inr (let full = no_room c.used.result (sym c.fits.ensures ∙ c.if-not-fits.true) in let used = c.used.ensures in omega arith)

pub returns-clause-ready : goal.returns-clause-ready
returns-clause-ready g c =
    on_ok_weaker c.fly.result
    (λ sets on. can_sweep c.args.self.now c.args.driver c.fly.new.flight c.fly.ensures.whole (let left = c.credits_left.ensures in let some = c.if-credits_left-eq0.false in omega arith)
    (let used = c.used.ensures in let room = room_told _ (sym c.if-not-fits.false ∙ c.fits.ensures) in omega arith)
    (subst (λ (ms : List Micro). SetsOut c.args.self.now c.args.driver Sweep ms c.fly.new.flight) (search rules) sets)) c.fly.ensures.ok
