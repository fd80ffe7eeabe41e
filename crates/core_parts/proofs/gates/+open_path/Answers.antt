use Rattle.std.proofs.Common.{◌≡◌, ℕ, ◌-◌, ◌<◌, Bool, false, true, List, [], Option, length, sym, subst, ap, ◌∙◌, take}
use Rattle.std.specs.Option.{option_map_or}
use Rattle.clk_base.specs.declared.clock.ClockId.{ClockId}
use Rattle.clk_model.specs.Lists.{is_in}
use Rattle.clk_model.specs.State.{link_in}
use Rattle.clk_model.specs.Tree.{path_within}
use Rattle.clk_model.proofs.PathLaws.{path_all}
use Rattle.core_parts.proofs.Opening.{opened, opened_none, opened_behind}
use Rattle.core_parts.proofs.Gathering.{places, in_front}
use Rattle.core_parts.proofs.gates.+open_path.Goals as goal
use Rattle.core_parts.proofs.gates.+open_path.Goals.{in-Some, in_default}

pub open_gathered-requires-clause-inside : goal.open_gathered-requires-clause-inside
open_gathered-requires-clause-inside g t c =
    λ k m. path_all (λ b. b < length c.args.tree.now.defs) (link_in c.args.tree.now.clocks) c.args.levels c.args.clock.0 k (λ b p _ e. c.requires.links.lie b p e) c.requires.place
    (subst (λ (cs : List ℕ). is_in k cs ≡ true) (sym c.gather-count.ensures.path) (in_front k (places (take c.gather-count.result.count c.gather-count.new.path)) _ m))

pub returns-clause-words : goal.returns-clause-words
returns-clause-words g t c =
    let defs = c.args.tree.now.defs in
    let before : ℕ → Bool = (λ _. false) in
    let rest : Option ClockId → List ℕ = (λ above. option_map_or (λ p. path_within (link_in c.args.tree.now.clocks) (c.args.levels - c.gather-count.result.count) p.0) above []) in
    let first : c.match-above.window.words ≡ opened defs before (rest c.gather-count.result.above) c.args.window.now.words =
    elim c.match-above.branch [
      | in-Some w ↦ ap (λ window. window.words) w.window-is ∙ w.open_path.ensures.words
          ∙ ap (λ (above : Option ClockId). opened defs before (rest above) c.args.window.now.words) (sym w.in-Some.is)
      | in_default w ↦ ap (λ window. window.words) w.window-is ∙ opened_none defs before c.args.window.now.words
          ∙ ap (λ (above : Option ClockId). opened defs before (rest above) c.args.window.now.words) (sym w.in_default.is)
    ] in
    opened_behind defs before (places (take c.gather-count.result.count c.gather-count.new.path)) (rest c.gather-count.result.above) c.args.window.now.words c.match-above.window.words c.open_gathered.new.window.words
    first c.open_gathered.ensures.words
    ∙ ap (λ (cs : List ℕ). opened defs before cs c.args.window.now.words) (sym c.gather-count.ensures.path)
