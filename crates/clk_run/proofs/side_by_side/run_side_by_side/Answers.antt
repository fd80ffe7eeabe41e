use Rattle.std.proofs.Common.{inl, refl, subst}
use Rattle.clk_run.specs.Runs.{armed_telling}
use Rattle.clk_run.specs.Outcomes.{generates, StopsReading, EndsWith, Reaches}
use Rattle.std.specs.Prelude.{is_some}
use Rattle.clk_run.proofs.Deciding.{gives_decides, refuses_decides, memory_decides}
use Rattle.clk_run.proofs.Leaving.{front_by, short_by, rose_by, memory_by}
use Rattle.clk_run.proofs.side_by_side.run_side_by_side.Goals as goal

pub returns-in-Ok-run_bundle-clause-decided : goal.returns-in-Ok-run_bundle-clause-decided
returns-in-Ok-run_bundle-clause-decided g c = gives_decides _ _ (g.S.Source.left c.take_bundle.new.input) c.in-Ok.bundle (EndsWith 0) c.in-Ok.ensures.gives (inl refl)

pub returns-in-Ok-run_bundle-clause-complete : goal.returns-in-Ok-run_bundle-clause-complete
returns-in-Ok-run_bundle-clause-complete g c = λ none.
    gives_decides _ _ (g.S.Source.left c.take_bundle.new.input) c.in-Ok.bundle (Reaches 0) c.in-Ok.ensures.gives (inl refl)

pub returns-in-Ok-clause-writes : goal.returns-in-Ok-clause-writes
returns-in-Ok-clause-writes g c = λ five. rose_by _ _ c.in-Err.fault c.status_of.result c.in-Err.ensures.counts c.status_of.ensures five

pub returns-in-Ok-clause-complete : goal.returns-in-Ok-clause-complete
returns-in-Ok-clause-complete g c = λ none.
    memory_decides _ _ _ (memory_by _ _ c.in-Err.fault c.status_of.result c.in-Err.ensures.counts c.status_of.ensures none.sink)

pub returns-in-Ok-clause-unwritten : goal.returns-in-Ok-clause-unwritten
returns-in-Ok-clause-unwritten g c = λ five.
    inl (
      c.in-Ok.bundle,
      c.in-Ok.ensures.gives,
      front_by c.in-Ok.bundle c.args.cli.now (armed_telling c.in-Ok.bundle (g.B.Bank.contents c.args.bank) (g.B.Bank.lock c.args.bank)) (g.K.Sink.written c.args.out.now) (g.K.Sink.written c.run_bundle.new.out)
          c.in-Err.fault c.status_of.result c.in-Err.ensures.fault c.status_of.ensures five,
    )

pub returns-in-Ok-clause-short : goal.returns-in-Ok-clause-short
returns-in-Ok-clause-short g c = λ three.
    short_by c.in-Ok.bundle c.args.cli.now (g.B.Bank.contents c.args.bank) (g.B.Bank.lock c.args.bank) (g.S.Source.left c.args.input.now) (g.S.Source.left c.take_bundle.new.input)
    (g.K.Sink.written c.args.out.now) (g.K.Sink.written c.run_bundle.new.out) c.in-Err.fault c.status_of.result c.in-Ok.ensures.gives c.in-Err.ensures.fault
    c.status_of.ensures three

pub returns-in-Ok-print_refusal-clause-decided : goal.returns-in-Ok-print_refusal-clause-decided
returns-in-Ok-print_refusal-clause-decided g c =
    refuses_decides _ _ (g.S.Source.left c.take_bundle.new.input) c.in-Err-Refused.line c.in-Err-Refused.reason (EndsWith 2)
    (subst (StopsReading (generates c.args.cli.now.mode) (g.S.Source.left c.args.input.now) (g.S.Source.left c.take_bundle.new.input))
    c.in-Err-Refused.field-0-is c.in-Err-Refused.ensures.stops) (inl refl)

pub returns-in-Ok-print_refusal-clause-complete : goal.returns-in-Ok-print_refusal-clause-complete
returns-in-Ok-print_refusal-clause-complete g c = λ none.
    refuses_decides _ _ (g.S.Source.left c.take_bundle.new.input) c.in-Err-Refused.line c.in-Err-Refused.reason (Reaches 2)
    (subst (StopsReading (generates c.args.cli.now.mode) (g.S.Source.left c.args.input.now) (g.S.Source.left c.take_bundle.new.input))
    c.in-Err-Refused.field-0-is c.in-Err-Refused.ensures.stops) (inl refl)
