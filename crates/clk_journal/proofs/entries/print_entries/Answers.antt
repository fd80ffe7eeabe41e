use Rattle.std.proofs.Common.{[], refl, arith, ◌+◌, ◌∙◌, ap, ◌++◌, map, string_bytes}
use Rattle.clk_base.specs.declared.event.Entry.{Entry}
use Rattle.clk_base.specs.declared.event.Event.TheVariants.{Enable}
use Rattle.clk_base.specs.declared.event.Turn.TheVariants.{Going}
use Rattle.clk_io.proofs.Gathering.{PassesOn-none, PassesOn-after, front_of_whole}
use Rattle.clk_journal.proofs.EntryTexts.{entries_at}
use Rattle.clk_journal.proofs.Lines.{Gathers-fault, one_more}
use Rattle.clk_journal.proofs.Stays.{handed_on, rises_since, stays_of_whole}
use Rattle.clk_journal.proofs.entries.print_entries.Goals as goal

-- any entry
abbrev some_entry : Entry
some_entry = record { driver = 0; event = Enable 0; turn = Going }

pub returns-in_err-print_entry-clause-gathers : goal.returns-in_err-print_entry-clause-gathers
returns-in_err-print_entry-clause-gathers g c =
    let was = c.loop-index.invariant.printed in
    let at = entries_at c.args.desc.now.defs (map string_bytes c.args.names.now) c.args.entries.now (c.loop-index.index + 1) c.loop-index.index some_entry c.loop-index-test.true in
    Gathers-fault _ _ _ _ _ _ c.from_residual.ensures.0
    (front_of_whole _ _ _ _ _ was.0 _ _ _ was.1 c.in_err-print_entry.ensures.gathers (was.2 ∙ ap (λ rest. was.0 ++ rest) at))

pub returns-in_err-print_entry-clause-stays : goal.returns-in_err-print_entry-clause-stays
returns-in_err-print_entry-clause-stays g c =
    let was = c.loop-index.invariant.printed in
    let at = entries_at c.args.desc.now.defs (map string_bytes c.args.names.now) c.args.entries.now (c.loop-index.index + 1) c.loop-index.index some_entry c.loop-index-test.true in
    handed_on _ _ _ c.from_residual.ensures.1
    (stays_of_whole _ _ _ _ _ _ was.0 _ _ _ _ was.1 c.in_err-print_entry.ensures.stays (was.2 ∙ ap (λ rest. was.0 ++ rest) at))

pub returns-in_err-print_entry-clause-counts : goal.returns-in_err-print_entry-clause-counts
returns-in_err-print_entry-clause-counts g c =
    handed_on _ _ _ c.from_residual.ensures.1 (rises_since _ _ _ _ c.loop-index.invariant.later c.in_err-print_entry.ensures.counts)

pub loop-index-init : goal.loop-index-init
loop-index-init g c = record { printed = ([], PassesOn-none _ _, refl); tells = refl; later = omega arith }

pub loop-index-preserved : goal.loop-index-preserved
loop-index-preserved g c =
    let was = c.loop-index.invariant.printed in
    let at = entries_at c.args.desc.now.defs (map string_bytes c.args.names.now) c.args.entries.now (c.loop-index.index + 1) c.loop-index.index some_entry c.loop-index-test.true in
    record {
      printed = (_, PassesOn-after _ _ _ _ _ _ _ _ was.1 c.in_ok-print_entry.ensures.gathers, one_more _ _ _ _ _ was.2 at);
      tells = cc;
      later = omega (arith, c.loop-index.invariant.later, c.in_ok-print_entry.ensures.later);
    }
