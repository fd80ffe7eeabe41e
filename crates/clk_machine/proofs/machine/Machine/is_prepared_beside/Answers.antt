use Rattle.std.proofs.Common.{◌≡◌, ◌∙◌, ◌||◌, ◌&&◌, ℕ, Bool, false, sym, ap, List}
use Rattle.clk_base.specs.Description.{Description}
use Rattle.clk_base.specs.Flags.{is_critical}
use Rattle.clk_model.specs.declared.row.ClockRow.{ClockRow}
use Rattle.clk_model.specs.Holders.{prepared}
use Rattle.clk_model.specs.State.{registered}
use Rattle.clk_machine.proofs.Adopting.{prepared_behind}
use Rattle.clk_machine.proofs.Flying.{quiet_stands}
use Rattle.clk_machine.proofs.machine.Machine.is_prepared_beside.Goals as goal

pub returns : goal.returns
returns g c = λ s stands sound.
    let m = c.args.self.now in
    let new : ℕ = c.args.new.0 in
    let a : ℕ = c.args.clock.0 in
    let free : registered s.clocks new ≡ false = ap (λ (rows : List ClockRow). registered rows new) stands.clocks ∙ c.requires.free in
    c.is_held.ensures
    ∙ ap (λ (t : Bool). t || (c.is_critical-critical.result && c.is_above-above.result)) (c.is_prepared-prepared.ensures s stands)
    ∙ ap (λ (t : Bool). prepared s a || (t && c.is_above-above.result)) (c.is_critical-critical.ensures.critical ∙ sym (ap (λ (ds : Description). is_critical ds new) stands.defs))
    ∙ ap (λ (t : Bool). prepared s a || (is_critical s.defs new && t)) (c.is_above-above.ensures s stands)
    ∙ sym (prepared_behind m.window.size s new a sound.like (quiet_stands m s stands c.requires.quiet) free)
