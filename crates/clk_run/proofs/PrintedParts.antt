-- What is printed in parts: a front that a fault leaves, and the whole once it is finished.
use Rattle.std.proofs.Common.{◌≡◌, ◌∙◌, ℕ, List, [], ◌++◌, Option, Result, Ok, Err, ap, sym, subst}
use Rattle.std.specs.Result.{IsErr}
use Rattle.clk_base.specs.Description.{Description}
use Rattle.clk_base.specs.declared.command.Answer.{Answer}
use Rattle.clk_base.specs.declared.event.Entry.{Entry}
use Rattle.clk_cli.specs.declared.cli.Cli.{Cli}
use Rattle.drv_scripts.specs.declared.bundle.Script.{Script}
use Rattle.clk_io.specs.Streams.{AppendsFront}
use Rattle.clk_io.specs.Prints.{Prints}
use Rattle.clk_io.specs.Gathers.{PassesOn}
use Rattle.clk_io.proofs.Chains.{AppendsFront-more}
use Rattle.clk_io.proofs.Gathering.{Prints-finished}
use Rattle.clk_model.specs.Text.{registers_text}
use Rattle.clk_run.specs.Texts.{calls_text, run_text}

-- a front of the first parts is a front of the whole, where nothing was gathered before
pub front_of_parts : (a b : Option (List ℕ)) (start parts rest whole : List ℕ) → start ≡ [] → whole ≡ parts ++ rest
    → AppendsFront a b (start ++ parts) → AppendsFront a b whole
front_of_parts a b start parts rest whole none e h =
    let front : AppendsFront a b parts = subst (λ (xs : List ℕ). AppendsFront a b (xs ++ parts)) none h in
    subst (AppendsFront a b) (sym e) (AppendsFront-more a b parts rest front)

-- the parts are the whole, once what was gathered has been written
pub printed_of_parts : {T E : Type 0} (a b c : Option (List ℕ)) (start gathered parts whole : List ℕ) (r : Result T E) → start ≡ [] → whole ≡ parts
    → PassesOn a b start gathered parts → Prints b c gathered r → Prints a c whole r
printed_of_parts a b c start gathered parts whole r none e p h =
    subst (λ (xs : List ℕ). Prints a c xs r) (sym e) (Prints-finished a b c gathered parts r (subst (λ (xs : List ℕ). PassesOn a b xs gathered parts) none p) h)

-- a front of the text is what a fault may leave of it
pub Prints-fault : {T E : Type 0} (a b : Option (List ℕ)) (text : List ℕ) (r : Result T E) → IsErr r → AppendsFront a b text → Prints a b text r
Prints-fault a b text (Ok x) i h = absurd (cc)
Prints-fault a b text (Err e) i h = h

-- the text of a run is that of its calls, and then the summary and the registers
pub run_in_parts : (defs : Description) (cli : Cli) (drivers run : List Script) (journal told : List Entry) (answers : List (List Answer)) (table words : List ℕ) → run ≡ drivers → told ≡ journal
    → run_text defs cli drivers journal answers table words ≡ calls_text defs cli run told answers ++ (table ++ registers_text words)
run_in_parts defs cli drivers run journal told answers table words these its =
    ap (λ (ds : List Script). calls_text defs cli ds journal answers ++ (table ++ registers_text words)) (sym these)
    ∙ ap (λ (j : List Entry). calls_text defs cli run j answers ++ (table ++ registers_text words)) (sym its)
