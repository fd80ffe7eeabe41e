use Rattle.std.proofs.Common.{◌≡◌, subst, List, Option, ℕ}
use Rattle.std.specs.Prelude.{IfSome}
use Rattle.clk_model.specs.declared.row.HandleRow.{HandleRow}
use Rattle.clk_model.specs.Round.{View, round_rate}
use Rattle.rate_planner.specs.Kept.{wired}
use Rattle.core_parts.specs.Free.{free_seen, freed}
use Rattle.core_parts.specs.Seen.{handles_seen}
use Rattle.core_parts.proofs.Shapes.{link_lies, registered_lies}
use Rattle.core_parts.proofs.Taking.{kept_given, none_given}
use Rattle.core_parts.proofs.planning.keeps_rate.Goals as goal

pub freed_above-requires-clause-links : goal.freed_above-requires-clause-links
freed_above-requires-clause-links g c =
    let tree = c.args.tree.now in
    record { lie = λ a p at. link_lies tree.defs tree.clocks tree.order tree.rates a p c.requires.tied.stands at }

pub rate-requires : goal.rate-requires
rate-requires g c =
    let tree = c.args.tree.now in
    record { place = registered_lies tree.defs tree.clocks tree.order tree.rates c.args.clock.0 c.requires.tied.stands c.requires.there }

pub returns-in-Some-clause-keeps : goal.returns-in-Some-clause-keeps
returns-in-Some-clause-keeps g c =
    let tree = c.args.tree.now in
    let handles : List (Option HandleRow) = handles_seen c.args.view.now.ranged c.args.view.now.handles.now.handles in
    let counts = c.args.view.now.counts.now in
    let seen_ : View = free_seen handles counts (freed tree.clocks counts c.args.clock.0) in
    let free = subst (λ (cs : List ℕ). IfSome c.args.window.now.words (λ regs. c.round_seen.result ≡ round_rate (wired tree.defs regs tree) (free_seen handles counts cs) c.args.clock.0 c.args.wanted))
    c.freed_above.ensures.freed c.round_seen.ensures in
    kept_given c.args.window.now.words tree.defs tree seen_ c.args.clock.0 c.args.wanted c.in-Some.rounded c.rate.result c.requires.there c.rate.ensures.rate c.requires.tied.kept
    (subst (λ (o : Option ℕ). IfSome c.args.window.now.words (λ regs. o ≡ round_rate (wired tree.defs regs tree) seen_ c.args.clock.0 c.args.wanted)) c.in-Some.is free)

pub returns-in-None-clause-keeps : goal.returns-in-None-clause-keeps
returns-in-None-clause-keeps g c =
    let tree = c.args.tree.now in
    let handles : List (Option HandleRow) = handles_seen c.args.view.now.ranged c.args.view.now.handles.now.handles in
    let counts = c.args.view.now.counts.now in
    let seen_ : View = free_seen handles counts (freed tree.clocks counts c.args.clock.0) in
    let free = subst (λ (cs : List ℕ). IfSome c.args.window.now.words (λ regs. c.round_seen.result ≡ round_rate (wired tree.defs regs tree) (free_seen handles counts cs) c.args.clock.0 c.args.wanted))
    c.freed_above.ensures.freed c.round_seen.ensures in
    none_given c.args.window.now.words tree.defs tree seen_ c.args.clock.0 c.args.wanted
    (subst (λ (o : Option ℕ). IfSome c.args.window.now.words (λ regs. o ≡ round_rate (wired tree.defs regs tree) seen_ c.args.clock.0 c.args.wanted)) c.in-None.is free)
