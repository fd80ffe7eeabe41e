-- A clock's lines have at most so many clocks where those of its possible parents have one less.
use Rattle.std.proofs.Common.{◌≡◌, ℕ, Bool, false, sym, ap, ◌∙◌, arith, length}
use Rattle.std.specs.List.{list_all}
use Rattle.std.proofs.lemmas.List.{length_push}
use Rattle.std.proofs.lemmas.List.Folds.{list_all-map}
use Rattle.clk_base.specs.declared.clock.ClockId.{ClockId}
use Rattle.clk_base.specs.Description.{parents_of}
use Rattle.clk_base.specs.Tables.{flag_at}
use Rattle.clk_base.proofs.Tabled.{parents_inside, parents_read, entry_more, TellsEnds-more}
use Rattle.clk_base.proofs.rules.levels.one_level_more.Goals as goal

pub all_end-requires : goal.all_end-requires
all_end-requires c =
    parents_inside c.args.defs.now c.loop-def.def-index (length c.args.above.now) c.def-item.result c.as_slice.result.now c.requires.parents c.loop-def-test.true c.def-item.is c.as_slice.ensures c.requires.each

pub loop-def-preserved : goal.loop-def-preserved
loop-def-preserved c =
    let asked : c.all_end.result ≡ list_all (flag_at c.args.above.now) (parents_of c.args.defs.now c.loop-def.def-index) =
    c.all_end.ensures
    ∙ (sym (list_all-map (flag_at c.args.above.now) (λ (p : ClockId). p.0) c.as_slice.result.now)
    ∙ ap (list_all (flag_at c.args.above.now)) (parents_read c.args.defs.now c.loop-def.def-index c.def-item.result _ c.loop-def-test.true c.def-item.is c.as_slice.ensures)) in
    rw c.in_ok-push.ensures.items (record {
      each = omega (arith, length_push c.loop-def.ends.items c.all_end.result, c.loop-def.invariant.each);
      told = entry_more (λ (k : ℕ) (b : Bool). b ≡ list_all (flag_at c.args.above.now) (parents_of c.args.defs.now k)) c.loop-def.ends.items c.loop-def.def-index c.all_end.result false c.loop-def.invariant.each c.loop-def.invariant.told asked;
    })

pub returns : goal.returns
returns c = λ levels tells.
    TellsEnds-more c.args.defs.now levels c.args.above.now c.loop-def.ends.items c.requires.parents tells
    (omega (arith, c.loop-def.invariant.each, c.loop-def-test.false, c.loop-def.auto.def-index-end))
    (λ k lt. c.loop-def.invariant.told k (omega (arith, c.loop-def-test.false)))
