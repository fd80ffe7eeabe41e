use Rattle.std.proofs.Common.{◌≡◌, ◌∙◌, ◌-◌, ◌++◌, ℕ, List, Option, ap, sym, subst, length, arith, length-append}
use Rattle.std.proofs.lemmas.Result.{err_from_is_err_and}
use Rattle.bundle_text.specs.Lines.{line_at}
use Rattle.bundle_text.specs.Words.{texts, said_words}
use Rattle.bundle_text.specs.declared.reason.Reason.{Reason}
use Rattle.drv_scripts.specs.Judged.{Stops, StopsLine}
use Rattle.drv_scripts.specs.ListLines.{turns_named, turns_at, turns_of, turns_fault, order_fault}
use Rattle.drv_scripts.proofs.ListLaws.{turns_none, turns_more}
use Rattle.drv_scripts.proofs.Turns.{kept_none, kept_more, stopped_line}
use Rattle.drv_scripts.proofs.order_section.read_order.Goals as goal

-- the fault of a line behind so many turns
fault_behind : (names ls : List (List ℕ)) (first k : ℕ) (before : ℕ) → before ≡ length (turns_of names ls first (k - first)) → order_fault names ls first k ≡ turns_fault before (turns_named names (said_words (line_at ls k)))
unfolding order_fault
fault_behind names ls first k before same = ap (λ (n : ℕ). turns_fault n (turns_named names (said_words (line_at ls k)))) (sym same)

pub loop-at-init : goal.loop-at-init
loop-at-init c = record {
  kept = kept_none (order_fault (texts c.args.drivers.now) c.args.lines.now c.args.from) c.args.from;
  read = c.new-turns.ensures.items ∙ sym (turns_none (texts c.args.drivers.now) c.args.lines.now c.args.from);
  few = let none = ap (λ (xs : List ℕ). length xs) c.new-turns.ensures.items in omega arith;
}

pub returns-in_err-more : goal.returns-in_err-more
returns-in_err-more c =
    let names = texts c.args.drivers.now in
    let ls = c.args.lines.now in
    let k = c.loop-at.at in
    let test = order_fault names ls c.args.from in
    let len : c.len.result ≡ length c.loop-at.turns.items = omega (arith, c.len.ensures, c.loop-at.turns.ok.0) in
    let before = len ∙ ap (λ (xs : List ℕ). length xs) c.loop-at.invariant.read in
    let stop = c.in_err-more.field-0.0 in
    let here = subst (λ (o : Option Reason). StopsLine o k stop) (sym (fault_behind names ls c.args.from k _ before)) c.in_err-more.ensures.read in
    let p = err_from_is_err_and c.from_residual.result c.from_residual.ensures.1 in
    rw p.1 (subst (Stops test c.args.from c.args.to) (sym p.2) (stopped_line test c.args.from c.args.to k stop (omega arith) c.loop-at-test.true c.loop-at.invariant.kept here))

pub loop-at-preserved : goal.loop-at-preserved
loop-at-preserved c =
    let names = texts c.args.drivers.now in
    let ls = c.args.lines.now in
    let was = c.loop-at.invariant in
    let k = c.loop-at.at in
    let read = c.in_ok-more.ensures.read in
    let len : c.len.result ≡ length c.loop-at.turns.items = omega (arith, c.len.ensures, c.loop-at.turns.ok.0) in
    let before = len ∙ ap (λ (xs : List ℕ). length xs) was.read in
    let items = c.in_ok-extend_from_slice.ensures.items ∙ ap (λ (xs : List ℕ). c.loop-at.turns.items ++ xs) (c.deref.ensures.value ∙ read.1) in
    let few = c.in_ok-more.ensures.few in
    record {
      kept = kept_more (order_fault names ls c.args.from) c.args.from k was.kept (fault_behind names ls c.args.from k _ before ∙ read.0);
      read = items ∙ ap (λ (xs : List ℕ). xs ++ turns_at names ls k) was.read ∙ sym (turns_more names ls c.args.from k (omega arith));
      few = omega (arith, few, len, length-append c.loop-at.turns.items c.deref.result.now, ap (λ (xs : List ℕ). length xs) c.in_ok-extend_from_slice.ensures.items, ap (λ (xs : List ℕ). length xs) c.deref.ensures.value);
    }
