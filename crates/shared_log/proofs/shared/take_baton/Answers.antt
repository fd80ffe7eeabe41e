use Rattle.std.proofs.Common.{◌≡◌, ℕ, true, nat_eq, get_or, Some, position, sym, ap, ◌∙◌, arith}
use Rattle.std.proofs.lemmas.Bool.Decides.{nat_tests}
use Rattle.std.proofs.Math.Seq.{map-set_same}
use Rattle.std.proofs.lemmas.List.Quantifiers.{position-Some}
use Rattle.shared_log.specs.Entering.{without_baton}
use Rattle.shared_log.proofs.Alike.{first_found}
use Rattle.shared_log.proofs.shared.take_baton.Goals as goal

is_zero : (n : ℕ) → nat_eq n 0 ≡ true → n ≡ 0
is_zero n passes = grind (arith, nat_tests)

pub unreachable-requires : goal.unreachable-requires
unreachable-requires g c = c.in_default.not-Some _ (c.first_place.ensures ∙ ap (λ ps. position (λ p. nat_eq p.number 0) ps) c.deref.ensures.value ∙ first_found c.args.passes.now.items c.requires.all)

pub hand_back-requires-clause-baton : goal.hand_back-requires-clause-baton
hand_back-requires-clause-baton g c =
    let ps = c.args.passes.now.items in
    let x = c.index_mut.result.now in
    let place : position (λ p. nat_eq p.number 0) ps ≡ Some c.in-Some.place =
    sym (ap (λ qs. position (λ p. nat_eq p.number 0) qs) c.deref.ensures.value) ∙ sym c.first_place.ensures ∙ c.in-Some.is in
    let first = position-Some (λ p. nat_eq p.number 0) ps c.in-Some.place x place in
    ap (λ p. p.baton) c.index_mut.ensures.value ∙ (c.requires.ready c.in-Some.place x first.0).baton (is_zero (get_or ps c.in-Some.place x).number first.1)

pub returns-clause-same : goal.returns-clause-same
returns-clause-same g c =
    map-set_same (λ p. without_baton p) c.args.passes.now.items c.in-Some.place c.hand_back.new.pass c.index_mut.result.now
    (ap (λ p. without_baton p) c.hand_back.ensures.pass ∙ ap (λ p. without_baton p) c.index_mut.ensures.value)
