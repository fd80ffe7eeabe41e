use Rattle.std.proofs.Common.{◌≡◌, ◌∙◌, ◌++◌, ◌+◌, ◌∷◌, [], List, ap, sym, refl, map, drop, append_assoc, append-nil}
use Rattle.std.specs.List.{flat_map}
use Rattle.std.proofs.lemmas.List.{drop_more, drop_all}
use Rattle.clk_base.specs.declared.command.Command.{Command}
use Rattle.dts_clocks.specs.declared.loaded.Assigned.{Assigned}
use Rattle.dts_clocks.specs.declared.loaded.AssignedStep.{AssignedStep}
use Rattle.dts_clocks.specs.Assigned.{SeenAssigned, seen_assigned}
use Rattle.drv_scripts.specs.Spelled.{step_commands, assigned_commands}
use Rattle.drv_scripts.proofs.boot.boot_commands.Goals as goal

-- the commands for a node more
node_more : (a : SeenAssigned) (nodes : List SeenAssigned) → assigned_commands (a ∷ nodes) ≡ flat_map step_commands a.steps ++ assigned_commands nodes
unfolding assigned_commands
node_more a nodes = refl

no_node : assigned_commands [] ≡ []
unfolding assigned_commands
no_node = refl

pub loop-node-preserved : goal.loop-node-preserved
loop-node-preserved c =
    let nodes = c.args.assigned.now in
    let i = c.loop-node.node-index in
    let done = c.loop-node.commands.items in
    let item = c.node-item.result in
    let rest = map seen_assigned (drop (i + 1) nodes) in
    ap (λ (xs : List Command). xs ++ assigned_commands rest) c.in_ok-push_steps.ensures
    ∙ append_assoc done (flat_map step_commands c.as_slice.result.now) (assigned_commands rest)
    ∙ ap (λ (steps : List AssignedStep). done ++ (flat_map step_commands steps ++ assigned_commands rest)) c.as_slice.ensures.value
    ∙ ap (λ (xs : List Command). done ++ xs) (sym (node_more (seen_assigned item) rest))
    ∙ ap (λ (a : Assigned). done ++ assigned_commands (seen_assigned a ∷ rest)) c.node-item.is
    ∙ ap (λ (xs : List Assigned). done ++ assigned_commands (map seen_assigned xs)) (sym (drop_more nodes i item c.loop-node-test.true))
    ∙ c.loop-node.invariant

pub returns : goal.returns
returns c =
    let nodes = c.args.assigned.now in
    let done = c.loop-node.commands.items in
    sym (append-nil done) ∙ ap (λ (xs : List Command). done ++ xs) (sym no_node)
    ∙ ap (λ (xs : List Assigned). done ++ assigned_commands (map seen_assigned xs)) (sym (drop_all c.loop-node.node-index nodes c.loop-node-test.false))
    ∙ c.loop-node.invariant
