-- The rings without the number.
use Rattle.std.proofs.Common.{◌≡◌, ◌<◌, arith, length, sym, ℕ, List, subst}
use Rattle.std.specs.Prelude.{slice_index}
use Rattle.std.proofs.lemmas.List.{get_or_read}
use Rattle.clk_tree.specs.Rings.{Leads}
use Rattle.clk_tree.proofs.RingLaws.{rings_taken, leads_taken, taken_stays}
use Rattle.clk_tree.proofs.ring.Ring.take_out.Goals as goal

pub invariant_of-self : goal.invariant_of-self
invariant_of-self c =
    let m = c.self.inside in
    let sizes = c.self.invariant.sizes in
    let within : c.args.number < length m.after.items = rw (← c.self.view_is) at c.requires in
    rings_taken m.after.items m.before.items c.args.number c.index-after.result.now c.index-before.result.now c.self.invariant within
    (sym (get_or_read m.after.items c.args.number c.index-after.result.now within c.index-after.ensures 0))
    (sym (get_or_read m.before.items c.args.number c.index-before.result.now (omega arith) c.index-before.ensures 0))

pub returns-clause-rings : goal.returns-clause-rings
returns-clause-rings c = λ end xs other is.
    let m = c.self.inside in
    let sizes = c.self.invariant.sizes in
    let within : c.args.number < length m.after.items = rw (← c.self.view_is) at c.requires in
    leads_taken m.after.items m.before.items c.args.number c.index-after.result.now c.index-before.result.now end xs c.self.invariant within
    (sym (get_or_read m.after.items c.args.number c.index-after.result.now within c.index-after.ensures 0))
    (sym (get_or_read m.before.items c.args.number c.index-before.result.now (omega arith) c.index-before.ensures 0)) other
    (subst (λ (ring : List ℕ). Leads ring end end xs) (sym c.self.view_is) is)

pub returns-clause-stays : goal.returns-clause-stays
returns-clause-stays c = λ k other alone.
    let m = c.self.inside in
    let sizes = c.self.invariant.sizes in
    let within : c.args.number < length m.after.items = rw (← c.self.view_is) at c.requires in
    taken_stays m.after.items m.before.items c.args.number c.index-after.result.now c.index-before.result.now k c.self.invariant within
    (sym (get_or_read m.before.items c.args.number c.index-before.result.now (omega arith) c.index-before.ensures 0)) other
    (subst (λ (ring : List ℕ). slice_index ring k ≡ k) (sym c.self.view_is) alone)
