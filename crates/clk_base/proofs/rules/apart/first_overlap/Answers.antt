-- A clock's fields were free exactly where it keeps the rule, and are taken with it.
use Rattle.std.proofs.Common.{◌≡◌, ◌+◌, ◌++◌, true, sym, ap, subst, ◌∙◌, below_more}
use Rattle.std.proofs.lemmas.List.{get_or_read}
use Rattle.clk_base.specs.declared.clock.ClockDef.{ClockDef}
use Rattle.clk_base.specs.Description.{nobody, def_of}
use Rattle.clk_base.specs.Fields.{fields_of}
use Rattle.clk_base.specs.Tables.{IsTaken}
use Rattle.clk_base.specs.Valid.{keeps_apart, fields_before, stand_apart}
use Rattle.clk_base.proofs.Covered.{fields_before-more}
use Rattle.clk_base.proofs.rules.apart.first_overlap.Goals as goal

pub loop-i-preserved : goal.loop-i-preserved
loop-i-preserved c =
    let before = fields_before c.args.defs.now c.loop-i.i in
    let read : c.index-defs-i.result ≡ def_of c.args.defs.now c.loop-i.i = get_or_read c.args.defs.now c.loop-i.i c.index-defs-i.result c.loop-i-test.true c.index-defs-i.is nobody in
    let fields : before ++ fields_of c.index-defs-i.result.kind ≡ fields_before c.args.defs.now (c.loop-i.i + 1) =
    ap (λ (d : ClockDef). before ++ fields_of d.kind) read ∙ sym (fields_before-more c.args.defs.now c.loop-i.i c.loop-i-test.true) in
    let here : keeps_apart c.args.words c.args.defs.now c.loop-i.i ≡ true =
    ap (λ (d : ClockDef). stand_apart before (fields_of d.kind)) (sym read)
    ∙ (sym (c.take_fields.ensures.free before c.loop-i.invariant.taken) ∙ c.if-not-take_fields.false) in
    record {
      words = c.take_fields.ensures.words ∙ c.loop-i.invariant.words;
      taken = subst (IsTaken c.take_fields.new.taken) fields (c.take_fields.ensures.taken before c.loop-i.invariant.taken c.if-not-take_fields.false);
      kept = below_more (λ k. keeps_apart c.args.words c.args.defs.now k ≡ true) c.loop-i.i c.loop-i.invariant.kept here;
    }
