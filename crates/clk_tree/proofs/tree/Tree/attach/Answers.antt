-- The tree with the clock in front of its group and of all.
use Rattle.std.proofs.Common.{◌≡◌, ◌<◌, true, ℕ, Bool, List, length, sym, ap, subst, ◌∙◌, arith}
use Rattle.std.specs.Prelude.{IfSome, slice_set}
use Rattle.std.specs.Vec.{with_items}
use Rattle.std.proofs.lemmas.List.{with_items_is}
use Rattle.clk_base.specs.Description.{parents_of}
use Rattle.clk_model.specs.Lists.{is_in, to_front}
use Rattle.clk_model.specs.State.{registered}
use Rattle.clk_tree.specs.declared.group.Group.{Group}
use Rattle.clk_tree.specs.Groups.{end_of, group_of}
use Rattle.clk_tree.specs.Held.{IsHeld}
use Rattle.clk_tree.specs.Rings.{ring_of}
use Rattle.clk_tree.proofs.GroupLaws.{Moves}
use Rattle.clk_tree.proofs.HeldLaws.{held_attached}
use Rattle.clk_tree.proofs.RootedLaws.{UpdatesFlags}
use Rattle.clk_tree.proofs.tree.Tree.attach.Goals as goal

after : (c : goal.After-self-2-1) → (ring_of c.move_behind-2.new.self (length c.self.inside.desc.defs) ≡ to_front c.args.c.0 (ring_of c.self.inside.turns (length c.self.inside.desc.defs)))
    × IsHeld c.self.inside.desc.defs (slice_set c.self.inside.clocks.items c.args.c.0 (record c.row_of.result { registered = true; link = c.args.p })) c.self.inside.rates.items c.move_behind-2.new.self c.move_behind.new.self c.self.inside.plls
    (with_items c.self.inside.rooted c.update_flags.new.flags).items
after c =
    let m = c.self.inside in
    let n = c.count_of-count.ensures.count in
    let place : c.args.c.0 < length m.desc.defs = rw (← c.self.view_is) at c.requires.place in
    let there : IfSome c.args.p (λ q. registered m.clocks.items q.0 ≡ true) = rw (← c.self.view_is) at c.requires.there in
    let can : IfSome c.args.p (λ q. is_in q.0 (parents_of m.desc.defs c.args.c.0) ≡ true) = rw (← c.self.view_is) at c.requires.possible in
    let ends : c.end_of-end.result ≡ end_of (length m.desc.defs) (group_of m.desc.defs c.args.c.0 c.args.p) =
    c.end_of-end.ensures ∙ ap (λ (k : ℕ). end_of k c.group_of.result) n ∙ ap (λ (g : Group). end_of (length m.desc.defs) g) c.group_of.ensures in
    let new = (with_items m.rooted c.update_flags.new.flags).items in
    let same : new ≡ c.update_flags.new.flags = with_items_is m.rooted c.update_flags.new.flags (let size = c.update_flags.ensures.size in let len = c.deref_mut.ensures.len in omega arith) in
    let sets : UpdatesFlags m.desc.defs c.move_behind.new.self m.rooted.items new c.args.c.0 c.args.p =
    subst (λ (fs : List Bool). UpdatesFlags m.desc.defs c.move_behind.new.self m.rooted.items fs c.args.c.0 c.args.p) (sym same)
    (subst (λ (fs : List Bool). UpdatesFlags m.desc.defs c.move_behind.new.self fs c.update_flags.new.flags c.args.c.0 c.args.p) c.deref_mut.ensures.value
    (record { size = c.update_flags.ensures.size; below = c.update_flags.ensures.below; others = c.update_flags.ensures.others })) in
    held_attached m.desc.words m.desc.defs m.clocks.items c.deref.result.now m.rates.items m.turns m.siblings c.move_behind-2.new.self c.move_behind.new.self m.plls m.rooted.items new c.args.c.0 c.args.p c.row_of.result
    c.count_of-count.ensures.valid c.self.invariant place there can c.row_of.ensures c.deref.ensures.value
    (subst (λ (e : ℕ). Moves m.siblings c.move_behind.new.self e c.args.c.0) ends
    (record { size = c.move_behind.ensures.size; front = c.move_behind.ensures.front; others = c.move_behind.ensures.others; stays = c.move_behind.ensures.stays }))
    (subst (λ (e : ℕ). Moves m.turns c.move_behind-2.new.self e c.args.c.0) n
    (record { size = c.move_behind-2.ensures.size; front = c.move_behind-2.ensures.front; others = c.move_behind-2.ensures.others; stays = c.move_behind-2.ensures.stays }))
    sets

pub invariant_of-self : goal.invariant_of-self
invariant_of-self c = (after c).1

pub returns-clause-newest : goal.returns-clause-newest
returns-clause-newest c = rw (← c.self.view_is) (after c).0

pub returns-clause-stands : goal.returns-clause-stands
returns-clause-stands c = (after c).1.tree
