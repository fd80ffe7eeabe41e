-- The next bit was taken where another field covers it.
use Rattle.std.proofs.Common.{◌≡◌, ◌+◌, ◌-◌, ◌<◌, true, false, sym, ap, ◌∙◌, subst, inl, inr, arith, length, ◌∷◌}
use Rattle.std.specs.List.{list_any}
use Rattle.std.proofs.lemmas.Bool.{not-true, not-false, and_parts, ltb-true, cases_lt, not_from_true}
use Rattle.reg_bank.specs.Registers.{is_set}
use Rattle.clk_base.specs.Tables.{covers, IsTaken}
use Rattle.clk_base.proofs.Covered.{field, any_shares, IsTaken-more, next_taken, free_shares}
use Rattle.clk_base.proofs.rules.apart.take_field.Goals as goal

pub returns-then-not-take-clause-free : goal.returns-then-not-take-clause-free
returns-then-not-take-clause-free c = λ fields is.
    let next : c.loop-bit.bit ≡ c.args.shift + (c.loop-bit.bit - c.args.shift) = omega (arith, c.loop-bit.auto.bit) in
    let set : is_set c.loop-bit.taken c.args.word c.loop-bit.bit ≡ true = not-false _ (sym c.take.ensures.free ∙ c.if-not-take.true) in
    let covered : list_any (covers c.args.word c.loop-bit.bit) fields ≡ true =
    sym (next_taken c.loop-bit.taken fields c.args.word c.args.shift (c.loop-bit.bit - c.args.shift) c.loop-bit.bit next (c.loop-bit.invariant.taken fields is)) ∙ set in
    sym (not_from_true _ (any_shares (field c.args.word c.args.shift c.args.width) fields c.loop-bit.bit c.loop-bit.auto.bit c.loop-bit-test.true covered))

pub loop-bit-preserved : goal.loop-bit-preserved
loop-bit-preserved c =
    let next : c.loop-bit.bit ≡ c.args.shift + (c.loop-bit.bit - c.args.shift) = omega (arith, c.loop-bit.auto.bit) in
    let more : c.loop-bit.bit + 1 - c.args.shift ≡ c.loop-bit.bit - c.args.shift + 1 = omega (arith, c.loop-bit.auto.bit) in
    let inside : c.args.word < length c.args.taken.now = ltb-true _ _ (and_parts _ _ c.requires).0 in
    record {
      words = c.take.ensures.words ∙ c.loop-bit.invariant.words;
      free = λ fields is bit low high. elim (cases_lt bit c.loop-bit.bit) [
        | inl before ↦ c.loop-bit.invariant.free fields is bit low before
        | inr after ↦
            let here : bit ≡ c.loop-bit.bit = omega arith in
            let unset : is_set c.loop-bit.taken c.args.word c.loop-bit.bit ≡ false = not-true _ (sym c.take.ensures.free ∙ c.if-not-take.false) in
            ap (λ n. list_any (covers c.args.word n) fields) here
            ∙ (sym (next_taken c.loop-bit.taken fields c.args.word c.args.shift (c.loop-bit.bit - c.args.shift) c.loop-bit.bit next (c.loop-bit.invariant.taken fields is)) ∙ unset)
      ];
      taken = λ fields is.
          subst (λ n. IsTaken c.take.new.self (field c.args.word c.args.shift n ∷ fields)) (sym more)
          (subst (λ ws. IsTaken ws (field c.args.word c.args.shift (c.loop-bit.bit - c.args.shift + 1) ∷ fields)) (sym c.take.ensures.taken)
          (IsTaken-more c.loop-bit.taken fields c.args.word c.args.shift (c.loop-bit.bit - c.args.shift) c.loop-bit.bit (omega (arith, c.loop-bit.invariant.words)) next (c.loop-bit.invariant.taken fields is)));
    }

pub returns-clause-free : goal.returns-clause-free
returns-clause-free c = λ fields is.
    sym (free_shares (field c.args.word c.args.shift c.args.width) fields (λ bit low high. c.loop-bit.invariant.free fields is bit low (omega (arith, c.loop-bit-test.false))))
