-- What is known of the clocks of lines without a fault.
use Rattle.std.proofs.Common.{◌≡◌, ℕ, zero, suc, ◌+◌, ◌<◌, ◌≤◌, true, false, ◌&&◌, List, [], ◌∷◌, map, length, take, Option, Some, None, refl, ap, sym, ◌∙◌, subst, arith, eqb, inr, length-take}
use Rattle.std.specs.Prelude.{Result, Ok, Err, IsTrue, nat_lt}
use Rattle.std.specs.List.{list_all}
use Rattle.std.specs.Option.{option_map, option_map_or}
use Rattle.std.specs.Result.{result_ok, result_err}
use Rattle.std.specs.Str.{bytes_eq}
use Rattle.std.proofs.lemmas.Bool.{and_from, and_parts, lt-ltb, cond-true, cond-false, false_from_ne_true, eqb-true}
use Rattle.std.proofs.lemmas.List.{length-map, get_or-map, get_or-take, take_all}
use Rattle.std.proofs.lemmas.Option.{none-some, same_Some}
use Rattle.bundle_text.specs.Firsts.{KeepsBelow, onto, said_from}
use Rattle.bundle_text.specs.Lines.{line_at}
use Rattle.bundle_text.specs.Names.{is_clock_name}
use Rattle.bundle_text.specs.Words.{said_words}
use Rattle.clk_base.specs.declared.clock.ClockDef.{ClockDef}
use Rattle.clk_base.specs.Description.{Description, nobody, def_of, name_of, EachClock}
use Rattle.clk_base.specs.Valid.{can_have_parents, has_its_parents}
use Rattle.bundle_text.specs.declared.reason.Reason.{Reason}
use Rattle.bundle_text.specs.declared.reason.Reason.TheVariants.{UnknownName}
use Rattle.bundle_text.specs.declared.fault.BundleFault.{BundleFault}
use Rattle.bundle_text.specs.declared.fault.BundleFault.TheVariants.{Refused, NoMemory}
use Rattle.clock_lines.specs.Said.{SaidClock, PlacedClock}
use Rattle.clock_lines.specs.ClockLines.{clock_line, known_line}
use Rattle.clock_lines.specs.Section.{placed_clock, clock_at, clocks_before, all_clocks, names_of, is_named, name_word, fault_behind, fault_at, finds_parents, parent_fault, parent_fault_at, place_of, clock_in, desc_of, lines_of}
use Rattle.clock_lines.specs.Steps.{IsRead, no_clock, clock_number, StandApart, HaveLines, FindParents, IsFirstLacking, Lacks}
use Rattle.clock_lines.specs.Verdict.{Spells, LacksParent, Refuses}
use Rattle.bundle_text.specs.Faults.{Tells}
use Rattle.clock_lines.proofs.Fine.{line-fine, known-said}
use Rattle.clock_lines.proofs.Indices.{said-at, number-of}
use Rattle.bundle_text.proofs.Found.{any_within}
use Rattle.bundle_text.proofs.Rows.{length-said_from}

-- ## One line

err_none : {T E : Type 0} (r : Result T E) → result_err r ≡ None → (c : T) × (r ≡ Ok c)
err_none (Ok c) h = (c, refl)
err_none (Err e) h = absurd (none-some e (sym h))

-- the clock of a line without a fault has a clock's name, which no earlier clock has, and as many parents as its kind can have
pub record IsClockOf (earlier : List PlacedClock) (place : ℕ) (placed : PlacedClock) : Type 0 where
  pub place_is : placed.place ≡ place
  pub named : is_clock_name placed.clock.name ≡ true
  pub fresh : is_named earlier placed.clock.name ≡ false
  pub parents : can_have_parents placed.clock.kind (length placed.clock.parents) ≡ true

-- no words say no clock
nothing_placed : (place : ℕ) (placed : PlacedClock) → placed_clock place [] ≡ Some placed → ⊥
unfolding placed_clock clock_line
nothing_placed place placed said = none-some placed said

-- words are judged
judged : (version : ℕ) (earlier : List PlacedClock) (word : List ℕ) (rest : List (List ℕ))
    → fault_behind version earlier (word ∷ rest) ≡ result_err (known_line version (clock_line (is_named earlier (name_word (word ∷ rest))) (word ∷ rest)))
unfolding fault_behind
judged version earlier word rest =
    cond-false _ _ _ (false_from_ne_true (eqb (length (word ∷ rest)) 0) (λ e. let none : length (word ∷ rest) ≡ 0 = eqb-true (length (word ∷ rest)) 0 e in absurd (omega arith)))

clock-of : (version : ℕ) (earlier : List PlacedClock) (place : ℕ) (words : List (List ℕ)) (placed : PlacedClock) → fault_behind version earlier words ≡ None → placed_clock place words ≡ Some placed → IsClockOf earlier place placed
unfolding placed_clock
clock-of version earlier place [] placed kept said = absurd (nothing_placed place placed said)
clock-of version earlier place (word ∷ rest) placed kept said =
    let words = word ∷ rest in
    let line = clock_line (is_named earlier (name_word words)) words in
    let ok = err_none (known_line version line) (sym (judged version earlier word rest) ∙ kept) in
    let whole : line ≡ Ok ok.0 = known-said version line ok.0 ok.1 in
    let fine = line-fine (is_named earlier (name_word words)) words ok.0 whole in
    let free : clock_line false words ≡ Ok ok.0 = ap (λ b. clock_line b words) (sym fine.fresh) ∙ whole in
    let made : PlacedClock = record { place = place; clock = ok.0 } in
    let same : made ≡ placed =
    same_Some made placed (sym (ap (λ r. option_map (λ (clock : SaidClock). record { place = place; clock = clock }) (result_ok r)) free) ∙ said) in
    subst (IsClockOf earlier place) same (record { place_is = refl; named = fine.named; fresh = ap (is_named earlier) fine.name_is ∙ fine.fresh; parents = fine.parents })

-- ## The clocks by their numbers

-- there are at most as many clocks as lines
pub few-clocks : (version : ℕ) (section : List (List ℕ)) (clocks : List PlacedClock) → IsRead version section (length section) clocks → length clocks ≤ length section
unfolding clocks_before
few-clocks version section clocks read = omega (arith, ap length read.clocks_are, length-said_from (clock_at section) 0 (length section))

-- the clock of a number has a line
pub record HasLine (section : List (List ℕ)) (clocks : List PlacedClock) (j : ℕ) : Type 0 where
  pub place : ℕ
  pub within : place < length section
  pub said : clock_at section place ≡ Some (clock_number clocks j)
  pub earlier : clocks_before section place ≡ take j clocks
  pub clock : IsClockOf (take j clocks) place (clock_number clocks j)

has-line : (version : ℕ) (section : List (List ℕ)) (j : ℕ) → KeepsBelow (fault_at version section) (length section) → j < length (all_clocks section) → HasLine section (all_clocks section) j
unfolding clocks_before clock_at fault_at
has-line version section j kept lt =
    let all = all_clocks section in
    let at = said-at (clock_at section) 0 (length section) j no_clock lt in
    let x = clock_number all j in
    let zero_more : 0 + at.steps ≡ at.steps = omega arith in
    let said : clock_at section at.steps ≡ Some x = sym (ap (clock_at section) zero_more) ∙ at.here in
    record {
      place = at.steps;
      within = at.within;
      said = said;
      earlier = at.earlier;
      clock = clock-of version (take j all) at.steps (said_words (line_at section at.steps)) x (ap (λ cs. fault_behind version cs (said_words (line_at section at.steps))) (sym at.earlier) ∙ kept at.steps at.within) said;
    }

-- the same of the clocks that were read
pub line-of : (version : ℕ) (section : List (List ℕ)) (clocks : List PlacedClock) (j : ℕ) → IsRead version section (length section) clocks → j < length clocks → HasLine section clocks j
line-of version section clocks j read lt =
    subst (λ cs. HasLine section cs j) (sym read.clocks_are) (has-line version section j read.kept (omega (arith, ap length read.clocks_are)))

pub stand-apart : (version : ℕ) (section : List (List ℕ)) (clocks : List PlacedClock) → IsRead version section (length section) clocks → StandApart clocks
stand-apart version section clocks read j lt = (line-of version section clocks j read lt).clock.fresh

pub have-lines : (version : ℕ) (section : List (List ℕ)) (clocks : List PlacedClock) (from to : ℕ) → IsRead version section (length section) clocks → from + length section ≡ to → to < 4294967295 → HaveLines from clocks
have-lines version section clocks from to read end few j lt =
    let line = line-of version section clocks j read lt in
    omega (arith, line.within, line.clock.place_is)

-- ## Parents

-- the clock that a line says has a number
number-at : (section : List (List ℕ)) (n k : ℕ) (x : PlacedClock) → k < n → clock_at section k ≡ Some x → (j : ℕ) × (j < length (clocks_before section n)) × (clock_number (clocks_before section n) j ≡ x)
unfolding clocks_before
number-at section n k x lt here =
    let zero_more : 0 + k ≡ k = omega arith in
    let of = number-of (clock_at section) 0 n k x no_clock lt (ap (clock_at section) zero_more ∙ here) in
    (of.number, of.within, of.here)

no_parent_fault : (clocks : List PlacedClock) (x : PlacedClock) → finds_parents clocks x ≡ true → parent_fault clocks x ≡ None
no_parent_fault clocks x h = cond-true _ _ _ h

one_parent_fault : (clocks : List PlacedClock) (x : PlacedClock) → finds_parents clocks x ≡ false → parent_fault clocks x ≡ Some UnknownName
one_parent_fault clocks x h = cond-false _ _ _ h

-- a line whose clock finds its parents, or that says no clock, lacks no parent
pub line-finds : (section : List (List ℕ)) (k : ℕ) → ((x : PlacedClock) → clock_at section k ≡ Some x → finds_parents (all_clocks section) x ≡ true) → parent_fault_at section k ≡ None
unfolding parent_fault_at
line-finds section k each =
    elim (clock_at section k) as (λ o. clock_at section k ≡ o → option_map_or (parent_fault (all_clocks section)) o None ≡ None) [
      | None ↦ λ e. refl
      | Some x ↦ λ e. no_parent_fault (all_clocks section) x (each x e)
    ] refl

-- where the first clocks find their parents, the lines of the first clocks do
pub lines-find : (section : List (List ℕ)) (n j : ℕ) → n ≤ length section → FindParents (all_clocks section) j → clocks_before section n ≡ take j (all_clocks section) → KeepsBelow (parent_fault_at section) n
lines-find section n j within found earlier k lt =
    let all = all_clocks section in
    line-finds section k (λ x here.
    let of = number-at section n k x lt here in
    let low : of.0 < j = omega (arith, of.1, ap length earlier, length-take j all) in
    let same : clock_number all of.0 ≡ x = sym (get_or-take j all of.0 no_clock low) ∙ (sym (ap (λ cs. clock_number cs of.0) earlier) ∙ of.2) in
    ap (finds_parents all) (sym same) ∙ found of.0 low)

-- the first clock that lacks a parent has the first line that does
pub lacks-parent : (version from : ℕ) (section : List (List ℕ)) (line : ℕ) (reason : Reason) → KeepsBelow (fault_at version section) (length section) → IsFirstLacking from (all_clocks section) line reason → LacksParent version from section line reason
unfolding parent_fault_at
lacks-parent version from section line reason kept lacking =
    let all = all_clocks section in
    let line_of = has-line version section lacking.number kept lacking.within in
    let found : parent_fault_at section line_of.place ≡ Some reason =
    ap (λ o. option_map_or (parent_fault all) o None) line_of.said ∙ (one_parent_fault all (clock_number all lacking.number) lacking.lacks ∙ ap Some (sym lacking.reason_is)) in
    record {
      kept = kept;
      place = line_of.place;
      first = record { within = line_of.within; before = lines-find section line_of.place lacking.number (omega (arith, line_of.within)) lacking.before line_of.earlier; found = found };
      line_is = lacking.line_is ∙ ap (λ p. from + p + 1) line_of.clock.place_is;
    }

pub lacks-fault : (version from : ℕ) (section : List (List ℕ)) (clocks : List PlacedClock) (fault : BundleFault) → IsRead version section (length section) clocks → Lacks from clocks fault → Tells (Refuses version from section) fault
lacks-fault version from section clocks (Refused line reason) read lacks =
    inr (lacks-parent version from section line reason read.kept (subst (λ cs. IsFirstLacking from cs line reason) read.clocks_are lacks))
lacks-fault version from section clocks NoMemory read lacks = tt

-- ## The description

-- lines without a fault whose clocks find their parents spell their description
pub spells : (version from : ℕ) (section : List (List ℕ)) (clocks : List PlacedClock) (desc : Description) (lines : List ℕ) → IsRead version section (length section) clocks → FindParents clocks (length clocks)
    → desc ≡ map (clock_in clocks) clocks → lines ≡ map (λ placed. from + placed.place + 1) clocks → Spells version from section desc lines
unfolding desc_of lines_of
spells version from section clocks desc lines read found desc_is lines_are =
    let all = all_clocks section in
    let whole : clocks_before section (length section) ≡ take (length all) all = sym (take_all (length all) all (omega arith)) in
    record {
      kept = read.kept;
      found = lines-find section (length section) (length all) (omega arith) (subst (λ cs. FindParents cs (length cs)) read.clocks_are found) whole;
      desc_is = desc_is ∙ ap (λ cs. map (clock_in cs) cs) read.clocks_are;
      lines_are = lines_are ∙ ap (map (λ (placed : PlacedClock). from + placed.place + 1)) read.clocks_are;
    }

-- parents that are named have places among the clocks
places_within : (clocks : List PlacedClock) (size : ℕ) (names : List (List ℕ)) → size ≡ length clocks → list_all (is_named clocks) names ≡ true → list_all (λ p. nat_lt p size) (map (place_of clocks) names) ≡ true
places_within clocks size [] same h = refl
places_within clocks size (name ∷ names) same h =
    let parts = and_parts (is_named clocks name) (list_all (is_named clocks) names) h in
    let low : place_of clocks name < size = omega (arith, any_within (bytes_eq name) (names_of clocks) parts.0, length-map clocks (λ (placed : PlacedClock). placed.clock.name)) in
    and_from _ _ (lt-ltb _ _ low) (places_within clocks size names same parts.1)

-- each clock of the description has its parents
pub each-has_parents : (version : ℕ) (section : List (List ℕ)) (clocks : List PlacedClock) (desc : Description) → IsRead version section (length section) clocks → FindParents clocks (length clocks)
    → desc ≡ map (clock_in clocks) clocks → EachClock desc (has_its_parents desc)
unfolding clock_in finds_parents
each-has_parents version section clocks desc read found desc_is c lt =
    let size : length desc ≡ length clocks = ap length desc_is ∙ length-map clocks (clock_in clocks) in
    let low : c < length clocks = omega arith in
    let x = clock_number clocks c in
    let def : def_of desc c ≡ clock_in clocks x = ap (λ ds. def_of ds c) desc_is ∙ get_or-map (clock_in clocks) clocks c no_clock nobody low in
    let line = line-of version section clocks c read low in
    let count : length (map (place_of clocks) x.clock.parents) ≡ length x.clock.parents = length-map x.clock.parents (place_of clocks) in
    subst (λ (d : ClockDef). IsTrue (can_have_parents d.kind (length d.parents) && list_all (λ p. nat_lt p (length desc)) d.parents)) (sym def)
    (and_from _ _ (ap (can_have_parents x.clock.kind) count ∙ line.clock.parents) (places_within clocks (length desc) x.clock.parents size (found c low)))

-- ## Names

-- each clock of the description has a clock's name
pub each-has_name : (version : ℕ) (section : List (List ℕ)) (clocks : List PlacedClock) (desc : Description) → IsRead version section (length section) clocks → desc ≡ map (clock_in clocks) clocks
    → EachClock desc (λ c. is_clock_name (name_of desc c))
unfolding clock_in
each-has_name version section clocks desc read desc_is c lt =
    let low : c < length clocks = omega (arith, ap length desc_is, length-map clocks (clock_in clocks)) in
    let x = clock_number clocks c in
    let def : def_of desc c ≡ clock_in clocks x = ap (λ ds. def_of ds c) desc_is ∙ get_or-map (clock_in clocks) clocks c no_clock nobody low in
    subst (λ (d : ClockDef). IsTrue (is_clock_name d.name)) (sym def) (line-of version section clocks c read low).clock.named
