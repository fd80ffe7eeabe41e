use Rattle.std.proofs.Common.{◌≡◌, ◌∙◌, ◌+◌, ◌≤◌, ℕ, List, [], Option, Some, None, ap, sym, length, arith}
use Rattle.std.specs.Prelude.{unwrap_or}
use Rattle.std.specs.Option.{option_map}
use Rattle.std.proofs.lemmas.Bool.{le-ltb, cond-false}
use Rattle.bundle_text.specs.Lines.{line_at}
use Rattle.bundle_text.specs.Words.{texts, said_words}
use Rattle.drv_scripts.specs.ListLines.{turns_named, turns_at, turns_fault}
use Rattle.drv_scripts.proofs.order_section.read_turns.Goals as goal

-- turns that are few enough have no fault
few_enough : (before : ℕ) (turns : List ℕ) → before + length turns ≤ 1048576 → turns_fault before (Some turns) ≡ None
few_enough before turns few = cond-false _ _ _ (le-ltb 1048576 (before + length turns) few)

-- what the line at a place states, where its words name drivers
stated : (names ls : List (List ℕ)) (k : ℕ) (turns : List ℕ) → turns_named names (said_words (line_at ls k)) ≡ Some turns → turns ≡ turns_at names ls k
unfolding turns_at
stated names ls k turns e = sym (ap (λ (o : Option (List ℕ)). unwrap_or o []) e)

pub returns-clause-read : goal.returns-clause-read
returns-clause-read c =
    let names = texts c.args.drivers.now in
    let turns = c.in-Some.turns.items in
    let named = ap (turns_named names) (sym (ap texts c.deref.ensures.value ∙ c.in_ok-words.ensures)) ∙ sym c.in_ok-turns.ensures ∙ ap (option_map (λ v. v.items)) c.in-Some.is in
    let few = c.if-len-before.false in
    let len : c.len.result ≡ length turns = omega (arith, c.len.ensures, c.in-Some.turns.ok.0) in
    (ap (turns_fault c.args.before) named ∙ few_enough c.args.before turns (omega (arith, few, len, c.requires.fewer)), stated names c.args.lines.now c.args.at turns named)
