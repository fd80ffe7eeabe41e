use Rattle.std.proofs.Common.{refl, ◌∙◌, sym, ap, ℕ, List, Option, length}
use Rattle.clk_base.specs.declared.clock.ClockId.{ClockId}
use Rattle.clk_base.specs.declared.event.Event.TheVariants.{Begin}
use Rattle.clk_base.specs.declared.event.Errno.TheVariants.{ENOENT, EPROBE_DEFER}
use Rattle.clk_base.specs.declared.event.Reply.TheVariants as reply
use Rattle.clk_base.specs.declared.event.Turn.TheVariants.{Done}
use Rattle.clk_base.specs.declared.call.Sleeping.TheVariants.{Get}
use Rattle.clk_model.specs.declared.row.HandleRow.{HandleRow}
use Rattle.clk_model.specs.Machine.{paid, next}
use Rattle.clk_model.proofs.EventLaws.{get-not_found, get-deferred, get-given}
use Rattle.clk_machine.specs.Holding.{gives, stays}
use Rattle.clk_machine.proofs.Flying.{quiet_stands}
use Rattle.clk_machine.proofs.Entered.{enters, rooted_stands}
use Rattle.clk_machine.proofs.machine.Machine.get.Goals as goal

pub returns-in_default-clause-ok : goal.returns-in_default-clause-ok
returns-in_default-clause-ok g c =
    enters c.args.self.now c.spend.new.self c.args.driver (Begin (Get c.args.found)) (reply.Refused ENOENT) stays refl c.requires.quiet c.requires.credit c.spend.ensures
    (λ s stands sound. ap (λ (found : Option ClockId). next s c.args.driver (Begin (Get found))) c.in_default.is ∙ get-not_found s c.args.driver (quiet_stands c.args.self.now s stands c.requires.quiet))

pub returns-then-not-is_rooted-clause-ok : goal.returns-then-not-is_rooted-clause-ok
returns-then-not-is_rooted-clause-ok g c =
    enters c.args.self.now c.spend-then-not-is_rooted.new.self c.args.driver (Begin (Get c.args.found)) (reply.Refused EPROBE_DEFER) stays refl c.requires.quiet c.requires.credit c.spend-then-not-is_rooted.ensures
    (λ s stands sound. ap (λ (found : Option ClockId). next s c.args.driver (Begin (Get found))) c.in-Some.is
    ∙ get-deferred s c.args.driver c.in-Some.clock (quiet_stands c.args.self.now s stands c.requires.quiet)
    (rooted_stands c.args.self.now s c.in-Some.clock.0 stands ∙ sym c.is_rooted.ensures.rooted ∙ c.if-not-is_rooted.true))

pub returns-clause-ok : goal.returns-clause-ok
returns-clause-ok g c =
    enters c.args.self.now c.add_handle.new.self c.args.driver (Begin (Get c.args.found)) (reply.Handle c.in_ok-handle.handle) (gives c.args.driver c.in-Some.clock.0) refl c.requires.quiet c.requires.credit
    c.in_ok-handle.ensures.ok
    (λ s stands sound. ap (λ (found : Option ClockId). next s c.args.driver (Begin (Get found))) c.in-Some.is
    ∙ get-given s c.args.driver c.in-Some.clock (quiet_stands c.args.self.now s stands c.requires.quiet)
    (rooted_stands c.args.self.now s c.in-Some.clock.0 stands ∙ sym c.is_rooted.ensures.rooted ∙ c.if-not-is_rooted.false)
    ∙ ap (λ (n : ℕ). paid s (gives c.args.driver c.in-Some.clock.0 s, Done (reply.Handle (record { number = n; slot = 0; driver = c.args.driver }))))
    (ap (λ (hs : List (Option HandleRow)). length hs) stands.handles ∙ sym c.in_ok-handle.ensures.number.0)
    ∙ ap (λ (d : ℕ). paid s (gives c.args.driver c.in-Some.clock.0 s, Done (reply.Handle (record { number = c.in_ok-handle.handle.number; slot = 0; driver = d })))) (sym c.in_ok-handle.ensures.number.1))
