-- What stays gathered after a fault: of one line, of lines behind others, and of a summary.
use Rattle.std.proofs.Common.{◌≡◌, ℕ, ◌+◌, ◌≤◌, Bool, true, false, List, [], ◌++◌, length, take, Option, Result, Ok, Err, refl, sym, subst, ap, ◌∙◌, length-append, append-nil, arith}
use Rattle.std.specs.Prelude.{IfErr}
use Rattle.std.specs.Result.{IsErrAnd}
use Rattle.std.proofs.lemmas.List.{take-append-le}
use Rattle.std.proofs.lemmas.Result.{err_from_is_err_and}
use Rattle.std.proofs.Math.Seq.{take-append-add}
use Rattle.clk_io.specs.Counts.{RisesAtWrite, CountsPrintFault}
use Rattle.clk_io.specs.declared.faults.PrintFault.{PrintFault}
use Rattle.clk_io.specs.declared.faults.PrintFault.TheVariants as printing
use Rattle.clk_io.specs.Gathers.{PassesOn, StaysGathered}
use Rattle.clk_io.proofs.Gathering.{PassesOn-none, PassesOn-after}
use Rattle.clk_machine.specs.Run.{Run, now_of}
use Rattle.clk_model.specs.Summary.{header, summary}
use Rattle.clk_summary.specs.Tables.{HasLines, StaysLines, StaysSummary}
use Rattle.clk_summary.proofs.Lined.{no_lines, more_lines, some_summary}

-- what is said of a fault holds of the same fault, handed on
pub handed_on : {T : Type 0} (P : PrintFault → Type 0) (r : Result T PrintFault) (e : PrintFault) → IsErrAnd r (λ y. y ≡ e) → P e → IfErr r P
handed_on P r e same holds =
    let p = err_from_is_err_and r same in
    subst (λ (q : Result _ PrintFault). IfErr q P) (sym p.1) (subst P (sym p.2) holds)

-- a count that rose in the last of several calls rose in all of them
pub rises_since : (a b c : ℕ) (e : PrintFault) → a ≤ b → RisesAtWrite b c e → RisesAtWrite a c e
rises_since a b c printing.Write later rises = omega (arith, later, rises)
rises_since a b c printing.NoMemory later rises = tt

-- the same of each answer
pub counts_since : {T : Type 0} (a b c : ℕ) (r : Result T PrintFault) → a ≤ b → CountsPrintFault b c r → CountsPrintFault a c r
counts_since a b c (Ok x) later counts = tt
counts_since a b c (Err e) later counts = rises_since a b c e later counts

-- without memory, what was gathered before stays, and nothing of the text
pub stays_before : (a : Option (List ℕ)) (gathered text : List ℕ) → StaysGathered a a gathered gathered text printing.NoMemory
stays_before a gathered text = (0, omega arith, PassesOn-none a gathered)

-- the same of a line that isn't gathered; and with a write that failed nothing stays
pub stays_of_line : {T : Type 0} (a b : Option (List ℕ)) (before after text : List ℕ) (r : Result T PrintFault)
    → (r ≡ Err printing.NoMemory → (b ≡ a) × (after ≡ before)) → (r ≡ Err printing.Write → after ≡ []) → IfErr r (StaysGathered a b before after text)
stays_of_line a b before after text (Ok x) kept lost = tt
stays_of_line a b before after text (Err printing.Write) kept lost = lost refl
stays_of_line a b before after text (Err printing.NoMemory) kept lost =
    let same = kept refl in
    subst (λ (w : Option (List ℕ)). StaysGathered a w before after text printing.NoMemory) (sym same.0)
    (subst (λ (xs : List ℕ). StaysGathered a a before xs text printing.NoMemory) (sym same.1) (stays_before a before text))

-- what stays of the next text, behind all of what was gathered and passed on before, stays of the whole, which goes on behind it
pub stays_of_whole : (a b c : Option (List ℕ)) (before middle after done text rest whole : List ℕ) (e : PrintFault)
    → PassesOn a b before middle done → StaysGathered b c middle after text e → whole ≡ done ++ (text ++ rest) → StaysGathered a c before after whole e
stays_of_whole a b c before middle after done text rest whole printing.Write p lost is = lost
stays_of_whole a b c before middle after done text rest whole printing.NoMemory p stays is =
    let n = stays.0 in
    let within : n ≤ length text = stays.1 in
    let front : take (length done + n) whole ≡ done ++ take n text =
    ap (take (length done + n)) is ∙ take-append-add done (text ++ rest) n ∙ ap (λ xs. done ++ xs) (take-append-le n text rest within) in
    let long : length whole ≡ length done + (length text + length rest) =
    ap length is ∙ length-append done (text ++ rest) ∙ ap (λ k. length done + k) (length-append text rest) in
    (length done + n, omega (arith, within, long), subst (PassesOn a c before after) (sym front) (PassesOn-after a b c before middle after done (take n text) p stays.2))

-- the same of the last text of a whole
pub stays_at_end : (a b c : Option (List ℕ)) (before middle after done text whole : List ℕ) (e : PrintFault)
    → PassesOn a b before middle done → StaysGathered b c middle after text e → whole ≡ done ++ text → StaysGathered a c before after whole e
stays_at_end a b c before middle after done text whole e p stays is =
    stays_of_whole a b c before middle after done text [] whole e p stays (is ∙ ap (λ xs. done ++ xs) (sym (append-nil text)))

-- if nothing of a text was gathered, no line was
pub no_line_stays : (run : Run) (a b : Option (List ℕ)) (before after : List ℕ) (e : PrintFault) → StaysGathered a b before after [] e → StaysLines run a b before after e
no_line_stays run a b before after e stays = record { text = []; lines = no_lines run.start.defs run.journal; stays = stays }

-- lines behind others
pub more_lines_stay : (run : Run) (a b c : Option (List ℕ)) (before middle after done : List ℕ) (e : PrintFault)
    → HasLines run.start.defs run.journal done → PassesOn a b before middle done → StaysLines run b c middle after e → StaysLines run a c before after e
more_lines_stay run a b c before middle after done e some passed others = record {
  text = done ++ others.text;
  lines = more_lines run.start.defs run.journal done others.text some others.lines;
  stays = stays_at_end a b c before middle after done others.text (done ++ others.text) e passed others.stays refl;
}

-- a summary of which nothing was gathered
pub no_summary_stays : (run : Run) (a b : Option (List ℕ)) (before after : List ℕ) (e : PrintFault) → ((text : List ℕ) → StaysGathered a b before after text e) → StaysSummary run a b before after e
no_summary_stays run a b before after e stays =
    let some = some_summary run in
    record { text = some.0; summary = some.1; stays = stays some.0 }

-- the header of a summary, and behind it what stays of its trees
pub summary_stays : {T : Type 0} (run : Run) (a b c : Option (List ℕ)) (before middle after trees : List ℕ) (r : Result T PrintFault) → PassesOn a b before middle header
    → (run.told ≡ true → IfErr r (StaysGathered b c middle after trees)) → IfErr r (StaysLines run b c middle after) → summary (now_of run) ≡ header ++ trees
    → IfErr r (StaysSummary run a c before after)
summary_stays run a b c before middle after trees (Ok x) passed told untold is = tt
summary_stays run a b c before middle after trees (Err e) passed told untold is = pick run.told refl where
  pick : (t : Bool) → run.told ≡ t → StaysSummary run a c before after e
  pick true tells = record {
    text = summary (now_of run);
    summary = record { told = λ same. refl; untold = λ not. absurd (cc) };
    stays = stays_at_end a b c before middle after header trees (summary (now_of run)) e passed (told tells) is;
  }
  pick false tells = record {
    text = header ++ untold.text;
    summary = record { told = λ same. absurd (cc); untold = λ not. record { lines = untold.text; of_rows = untold.lines; text_is = refl } };
    stays = stays_at_end a b c before middle after header untold.text (header ++ untold.text) e passed untold.stays refl;
  }
