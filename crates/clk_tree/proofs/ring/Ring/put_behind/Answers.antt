-- The ring of the end with the number in front, and the others as before.
use Rattle.std.proofs.Common.{◌≡◌, ◌<◌, length, sym, ℕ, List, subst}
use Rattle.std.specs.Prelude.{slice_index}
use Rattle.std.proofs.lemmas.List.{get_or_read}
use Rattle.clk_tree.specs.Rings.{Leads}
use Rattle.clk_tree.proofs.RingLaws.{rings_put, leads_front, leads_apart, put_stays}
use Rattle.clk_tree.proofs.ring.Ring.put_behind.Goals as goal

pub invariant_of-self : goal.invariant_of-self
invariant_of-self c =
    let m = c.self.inside in
    let within : c.args.number < length m.after.items = rw (← c.self.view_is) at c.requires.number in
    let end_in : c.args.end < length m.after.items = rw (← c.self.view_is) at c.requires.end in
    let alone : slice_index m.after.items c.args.number ≡ c.args.number = rw (← c.self.view_is) at c.requires.alone in
    rings_put m.after.items m.before.items c.args.end c.args.number c.index-first.result.now c.self.invariant end_in within c.requires.two alone
    (sym (get_or_read m.after.items c.args.end c.index-first.result.now end_in c.index-first.ensures 0))

pub returns-clause-front : goal.returns-clause-front
returns-clause-front c = λ xs no_end no_number is.
    let m = c.self.inside in
    let within : c.args.number < length m.after.items = rw (← c.self.view_is) at c.requires.number in
    let end_in : c.args.end < length m.after.items = rw (← c.self.view_is) at c.requires.end in
    leads_front m.after.items c.args.end c.args.number c.index-first.result.now xs end_in within c.requires.two
    (sym (get_or_read m.after.items c.args.end c.index-first.result.now end_in c.index-first.ensures 0)) no_end no_number
    (subst (λ (ring : List ℕ). Leads ring c.args.end c.args.end xs) (sym c.self.view_is) is)

pub returns-clause-others : goal.returns-clause-others
returns-clause-others c = λ e xs other apart no_end no_number is.
    leads_apart c.self.inside.after.items e c.args.end c.args.number c.index-first.result.now xs other apart no_end no_number
    (subst (λ (ring : List ℕ). Leads ring e e xs) (sym c.self.view_is) is)

pub returns-clause-stays : goal.returns-clause-stays
returns-clause-stays c = λ k apart other alone.
    put_stays c.self.inside.after.items c.args.end c.args.number c.index-first.result.now k apart other
    (subst (λ (ring : List ℕ). slice_index ring k ≡ k) (sym c.self.view_is) alone)
