-- One clock more, over its possible parents.
use Rattle.std.proofs.Common.{◌≡◌, ℕ, suc, ◌<◌, List, ap, ◌∙◌, arith, length}
use Rattle.std.specs.Prelude.{nat_lt}
use Rattle.std.specs.List.{list_all}
use Rattle.std.proofs.lemmas.List.{length_push}
use Rattle.clk_base.specs.declared.clock.ClockDef.{ClockDef}
use Rattle.clk_base.specs.Description.{parents_of}
use Rattle.clk_base.specs.Places.{places}
use Rattle.clk_base.proofs.Tabled.{All-places, parents-below, entry_more}
use Rattle.clk_model.specs.Script.{plls_within}
use Rattle.clk_tree.proofs.PllTables.{entry_tells}
use Rattle.clk_tree.proofs.plls.one_level_more.Goals as goal

pub greatest_above-most-requires-clause-inside : goal.greatest_above-most-requires-clause-inside
greatest_above-most-requires-clause-inside c =
    let defs = c.args.desc.now.defs in
    let n = c.loop-place.place in
    let lt : n < length defs = let test = c.loop-place-test.true in let len = c.len-place-end.ensures.len in omega arith in
    let parents : places c.as_slice.result.now ≡ parents_of defs n = c.as_slice.ensures ∙ ap (λ (d : ClockDef). d.parents) c.def-def.ensures.def in
    All-places (length c.args.above.now) c.as_slice.result.now
    (ap (λ (k : ℕ). list_all (λ p. nat_lt p k) (places c.as_slice.result.now)) c.requires.each
    ∙ ap (λ (ps : List ℕ). list_all (λ p. nat_lt p (length defs)) ps) parents
    ∙ parents-below defs c.def-def.ensures.valid.parents n lt)

pub loop-place-preserved : goal.loop-place-preserved
loop-place-preserved c =
    let defs = c.args.desc.now.defs in
    let n = c.loop-place.place in
    let lt : n < length defs = let test = c.loop-place-test.true in let len = c.len-place-end.ensures.len in omega arith in
    rw c.in_ok-push.ensures.items (record {
      each = omega (arith, length_push c.loop-place.counts.items c.with_own.result, c.loop-place.invariant.each);
      told = λ levels tells. entry_more (λ (k x : ℕ). x ≡ plls_within defs (suc levels) k) c.loop-place.counts.items n c.with_own.result 0
          c.loop-place.invariant.each (c.loop-place.invariant.told levels tells)
          (entry_tells c.args.desc.now.words defs levels n c.args.above.now c.as_slice.result.now c.def-def.result.now c.greatest_above-most.result c.with_own.result
          c.def-def.ensures.valid lt tells c.def-def.ensures.def c.as_slice.ensures c.greatest_above-most.ensures.greatest c.with_own.ensures);
    })

pub returns : goal.returns
returns c = λ levels tells. record {
  each = let test = c.loop-place-test.false in let auto = c.loop-place.auto.place-end in let len = c.len-place-end.ensures.len in let each = c.loop-place.invariant.each in omega arith;
  told = λ k lt. c.loop-place.invariant.told levels tells k (let test = c.loop-place-test.false in let len = c.len-place-end.ensures.len in omega arith);
}
