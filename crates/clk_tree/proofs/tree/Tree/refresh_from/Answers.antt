-- The clock and what is below it.
use Rattle.std.proofs.Common.{◌≡◌, ℕ, List, length, sym, ap, subst, ◌∙◌, arith}
use Rattle.std.specs.Prelude.{slice_index}
use Rattle.std.specs.Option.{option_map, option_map_or}
use Rattle.std.specs.Vec.{with_items}
use Rattle.std.proofs.lemmas.List.{with_items_is}
use Rattle.clk_base.specs.Levels.{depth}
use Rattle.clk_model.specs.State.{link_in}
use Rattle.clk_model.specs.declared.row.ClockRow.{ClockRow}
use Rattle.clk_tree.specs.Rings.{ring_of}
use Rattle.clk_tree.specs.TreeState.{TreeState, IsTree}
use Rattle.clk_tree.proofs.Refreshing.{RefreshesBelow}
use Rattle.clk_tree.proofs.Freshness.{done_in_tree, fresh_below, others_stay, fresh_all, link_rated}
use Rattle.clk_tree.proofs.tree.Tree.refresh_from.Goals as goal

pub rate_behind-parent-requires : goal.rate_behind-parent-requires
rate_behind-parent-requires g c =
    let m = c.self.inside in
    link_rated m.desc.defs m.clocks.items (ring_of m.turns (length m.desc.defs)) m.rates.items c.args.c.0 (length c.deref-2.result.now) c.link_of-link.result c.self.invariant.tree
    (c.link_of-link.ensures ∙ ap (λ (rows : List ClockRow). link_in rows c.args.c.0) c.deref.ensures.value) (ap (λ (rs : List ℕ). length rs) c.deref-2.ensures.value)

pub returns-clause-below : goal.returns-clause-below
returns-clause-below g c =
    let m = c.self.inside in
    let told = g.B.Bank.contents c.args.bank.now in
    let new = (with_items m.rates c.refresh_below.new.rates).items in
    let link : option_map (λ p. p.0) c.link_of-link.result ≡ link_in m.clocks.items c.args.c.0 =
    c.link_of-link.ensures ∙ ap (λ (rows : List ClockRow). link_in rows c.args.c.0) c.deref.ensures.value in
    let above : c.rate_behind-parent.result ≡ option_map_or (λ p. slice_index m.rates.items p.0) c.link_of-link.result 0 =
    c.rate_behind-parent.ensures ∙ ap (λ (rs : List ℕ). option_map_or (λ p. slice_index rs p.0) c.link_of-link.result 0) c.deref-2.ensures.value in
    let done : RefreshesBelow m.desc.defs told m.siblings m.rates.items new depth c.args.c.0 c.rate_behind-parent.result =
    done_in_tree m.desc.defs told m.siblings m.rates.items c.deref_mut.result.now new c.refresh_below.new.rates c.depth-levels.result c.args.c.0 c.rate_behind-parent.result
    c.deref_mut.ensures.value
    (sym (with_items_is m.rates c.refresh_below.new.rates (let rated = c.refresh_below.ensures.rated in let value = c.deref_mut.ensures.len in omega arith))) c.depth-levels.ensures
    (record { below = c.refresh_below.ensures.below; others = c.refresh_below.ensures.others }) in
    rw (← c.self.view_is)
    (fresh_below m.desc.defs told m.clocks.items (ring_of m.turns (length m.desc.defs)) m.rates.items new m.turns m.siblings c.args.c.0 c.rate_behind-parent.result c.link_of-link.result
    c.self.invariant.tree c.self.invariant.listed link above done)

pub returns-clause-others : goal.returns-clause-others
returns-clause-others g c =
    let m = c.self.inside in
    let told = g.B.Bank.contents c.args.bank.now in
    let new = (with_items m.rates c.refresh_below.new.rates).items in
    let done : RefreshesBelow m.desc.defs told m.siblings m.rates.items new depth c.args.c.0 c.rate_behind-parent.result =
    done_in_tree m.desc.defs told m.siblings m.rates.items c.deref_mut.result.now new c.refresh_below.new.rates c.depth-levels.result c.args.c.0 c.rate_behind-parent.result
    c.deref_mut.ensures.value
    (sym (with_items_is m.rates c.refresh_below.new.rates (let rated = c.refresh_below.ensures.rated in let value = c.deref_mut.ensures.len in omega arith))) c.depth-levels.ensures
    (record { below = c.refresh_below.ensures.below; others = c.refresh_below.ensures.others }) in
    rw (← c.self.view_is)
    (others_stay m.desc.defs told m.clocks.items (ring_of m.turns (length m.desc.defs)) m.rates.items new m.turns m.siblings c.args.c.0 c.rate_behind-parent.result
    c.self.invariant.tree c.self.invariant.listed done)

pub returns-clause-rates : goal.returns-clause-rates
returns-clause-rates g c =
    let s = c.args.self.now in
    fresh_all s.defs (g.B.Bank.contents c.args.bank.now) s.clocks s.order s.rates (with_items c.self.inside.rates c.refresh_below.new.rates).items c.args.c.0
    (subst (λ (t : TreeState). IsTree t.defs t.clocks t.order t.rates) c.self.view_is c.self.invariant.tree) (returns-clause-below g c) (returns-clause-others g c)
