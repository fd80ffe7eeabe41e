-- What the words of one line, and then the line at one place, add to the clocks.
use Rattle.std.proofs.Common.{◌≡◌, ℕ, zero, suc, ◌+◌, ◌-◌, ◌<◌, ◌≤◌, Bool, true, false, List, [], ◌∷◌, ◌++◌, length, drop, Option, Some, None, refl, ap, sym, ◌∙◌, arith, cond, length-take, length-drop}
use Rattle.std.specs.Prelude.{Ok, slice_range}
use Rattle.std.specs.Option.{option_map, option_to_list}
use Rattle.std.specs.Result.{result_ok, result_err}
use Rattle.std.proofs.lemmas.List.{append-nil, get_or-drop, get_or-take}
use Rattle.bundle_text.specs.Firsts.{onto, said_from}
use Rattle.bundle_text.specs.Lines.{line_at}
use Rattle.bundle_text.specs.Words.{said_words}
use Rattle.bundle_text.proofs.Rows.{KeepsBelow-more, said_from-next}
use Rattle.bundle_text.specs.declared.reason.Reason.{Reason}
use Rattle.clock_lines.specs.Said.{SaidClock, PlacedClock}
use Rattle.clock_lines.specs.ClockLines.{clock_line, known_line}
use Rattle.clock_lines.specs.Section.{placed_clock, clock_at, clocks_before, is_named, name_word, fault_behind, fault_at}
use Rattle.clock_lines.specs.Steps.{IsRead}
use Rattle.clock_lines.specs.Verdict.{HasFault}
use Rattle.clock_lines.proofs.Fine.{line-fine, known-said}

-- ## Words

-- no words say no clock, and have no fault
pub empty-taken : (version : ℕ) (clocks : List PlacedClock) (place : ℕ) (words : List (List ℕ)) → length words ≡ 0
    → (fault_behind version clocks words ≡ None) × (clocks ≡ clocks ++ option_to_list (placed_clock place words))
unfolding fault_behind placed_clock clock_line
empty-taken version clocks place [] h = (refl, sym (append-nil clocks))
empty-taken version clocks place (word ∷ words) h = absurd (omega arith)

-- a line that says a clock has a name that no earlier clock has
pub fresh-name : (version : ℕ) (clocks : List PlacedClock) (words : List (List ℕ)) (taken : Bool) (c : SaidClock) → taken ≡ is_named clocks (name_word words)
    → known_line version (clock_line taken words) ≡ Ok c → is_named clocks c.name ≡ false
fresh-name version clocks words taken c e known =
    let fine = line-fine taken words c (known-said version (clock_line taken words) c known) in
    ap (is_named clocks) fine.name_is ∙ (sym e ∙ fine.fresh)

none_either : {R : Type 0} (b : Bool) (o : Option R) → o ≡ None → cond b None o ≡ None
none_either true o h = refl
none_either false o h = h

-- such a line has no fault, and its clock goes last
pub said-taken : (version : ℕ) (clocks after : List PlacedClock) (place : ℕ) (words : List (List ℕ)) (taken : Bool) (c : SaidClock) → taken ≡ is_named clocks (name_word words)
    → known_line version (clock_line taken words) ≡ Ok c → after ≡ clocks ++ record { place = place; clock = c } ∷ []
    → (fault_behind version clocks words ≡ None) × (after ≡ clocks ++ option_to_list (placed_clock place words))
unfolding fault_behind placed_clock
said-taken version clocks after place words taken c e known more =
    let said : clock_line taken words ≡ Ok c = known-said version (clock_line taken words) c known in
    let fine = line-fine taken words c said in
    let here : known_line version (clock_line (is_named clocks (name_word words)) words) ≡ Ok c = ap (λ b. known_line version (clock_line b words)) (sym e) ∙ known in
    let free : clock_line false words ≡ Ok c = ap (λ b. clock_line b words) (sym fine.fresh) ∙ said in (
      none_either _ _ (ap result_err here),
      more ∙ ap (λ r. clocks ++ option_to_list (option_map (λ (clock : SaidClock). record { place = place; clock = clock }) (result_ok r))) (sym free),
    )

-- ## Places

-- the line of a section stands in the text
pub line-at : (ls : List (List ℕ)) (from to place : ℕ) → from + place < to → line_at (slice_range ls from to) place ≡ line_at ls (from + place)
line-at ls from to place within =
    let low : place < to - from = omega arith in
    get_or-take (to - from) (drop from ls) place [] low ∙ get_or-drop from ls place []

-- a section has as many lines as lie between its ends
pub length-section : (ls : List (List ℕ)) (from to : ℕ) → from ≤ to → to ≤ length ls → length (slice_range ls from to) ≡ to - from
length-section ls from to order within = omega (arith, length-take (to - from) (drop from ls), length-drop from ls)

-- the line at the next place has no fault, and its clock goes last
pub read-more : (version : ℕ) (section : List (List ℕ)) (place : ℕ) (clocks after : List PlacedClock) (words : List (List ℕ)) → IsRead version section place clocks → words ≡ said_words (line_at section place)
    → fault_behind version clocks words ≡ None → after ≡ clocks ++ option_to_list (placed_clock place words) → IsRead version section (place + 1) after
unfolding fault_at clocks_before clock_at
read-more version section place clocks after words read said none more =
    let here : fault_at version section place ≡ None = ap (λ cs. fault_behind version cs (said_words (line_at section place))) (sym read.clocks_are) ∙ (ap (fault_behind version clocks) (sym said) ∙ none) in
    record {
      kept = KeepsBelow-more (fault_at version section) place read.kept here;
      clocks_are =
          more ∙ (ap (λ cs. cs ++ option_to_list (placed_clock place words)) read.clocks_are
          ∙ (ap (λ ws. clocks_before section place ++ option_to_list (placed_clock place ws)) said ∙ sym (said_from-next (clock_at section) 0 place place (omega arith))));
    }

-- the line at the next place has this fault
pub read-fault : (version from : ℕ) (section : List (List ℕ)) (place : ℕ) (clocks : List PlacedClock) (words : List (List ℕ)) (reason : Reason) → place < length section → IsRead version section place clocks
    → words ≡ said_words (line_at section place) → fault_behind version clocks words ≡ Some reason → HasFault version from section (from + place + 1) reason
unfolding fault_at
read-fault version from section place clocks words reason within read said wrong =
    let here : fault_at version section place ≡ Some reason = ap (λ cs. fault_behind version cs (said_words (line_at section place))) (sym read.clocks_are) ∙ (ap (fault_behind version clocks) (sym said) ∙ wrong) in
    record { place = place; first = record { within = within; before = read.kept; found = here }; line_is = refl }

-- no line was read
pub read-none : (version : ℕ) (section : List (List ℕ)) → IsRead version section 0 []
unfolding clocks_before
read-none version section = record { kept = λ k lt. absurd (omega arith); clocks_are = refl }
