use Rattle.std.proofs.Common.{◌≡◌, ◌<◌, [], ◌∷◌, ◌++◌, ◌∙◌, false, sym, ap, subst, length, List}
use Rattle.std.proofs.lemmas.List.{length-set}
use Rattle.clk_model.specs.State.{NotifierRow}
use Rattle.notifiers.specs.Chains.{row_on, IsWith}
use Rattle.notifiers.specs.declared.notifier.Notifier.{Notifier}
use Rattle.clk_machine.specs.Parts.{Parts, parts_of}
use Rattle.clk_machine.proofs.Notifying.{whole_notified, becomes_notified}
use Rattle.clk_machine.proofs.machine.Machine.put_chain.Goals as goal

pub invariant_of-self : goal.invariant_of-self
invariant_of-self g c =
    let m = c.self.inside in
    let p : Parts = parts_of m.window m.tree m.handles m.counts m.notifiers m.credits m.spent m.ignore_unused m.flight m.course m.prepare_holds m.enable_holds m.steps in
    let quiet : m.flight.going ≡ false = rw (← c.self.view_is) at c.requires.quiet in
    let left : m.spent < m.credits = rw (← c.self.view_is) at c.requires.credit in
    let n = c.requires.made.0 in
    let k = c.args.clock.0 in
    let made : IsWith m.notifiers (row_on k n) c.args.chain.now = subst (λ (q : Parts). IsWith q.chains (row_on k n) c.args.chain.now) (sym c.self.view_is) c.requires.made.1 in
    let listed = c.self.invariant.listed in
    whole_notified p c.put_chain.new.self c.self.invariant quiet left (ap (λ (cs : List (List Notifier)). length cs) c.put_chain.ensures.put ∙ length-set m.notifiers k c.args.chain.now)
    (record { rows = listed.rows ++ row_on k n ∷ []; tells = c.put_chain.ensures.told listed.rows n made listed.tells })

pub returns : goal.returns
returns g c = λ n with_.
    let m = c.self.inside in
    let p : Parts = parts_of m.window m.tree m.handles m.counts m.notifiers m.credits m.spent m.ignore_unused m.flight m.course m.prepare_holds m.enable_holds m.steps in
    let quiet : m.flight.going ≡ false = rw (← c.self.view_is) at c.requires.quiet in
    let k = c.args.clock.0 in
    let made : IsWith m.notifiers (row_on k n) c.args.chain.now = subst (λ (q : Parts). IsWith q.chains (row_on k n) c.args.chain.now) (sym c.self.view_is) with_ in
    rw (← c.self.view_is)
    (becomes_notified p c.put_chain.new.self (λ (ns : List NotifierRow). ns ++ row_on k n ∷ []) quiet (λ ns tells. c.put_chain.ensures.told ns n made tells))
