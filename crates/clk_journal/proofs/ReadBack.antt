-- The words of an entry are read back, and an entry that was read has the words that it was read from.
use Rattle.std.proofs.Common.{◌≡◌, ℕ, suc, ◌+◌, ◌<◌, ◌≤◌, Bool, true, cond, List, [], ◌∷◌, ◌++◌, Some, None, refl, sym, ap, ◌∙◌, length, codes, arith, take, drop}
use Rattle.std.specs.Prelude.{nat_lt, slice_index_or}
use Rattle.std.specs.Fmt.{decimal}
use Rattle.std.specs.List.{position_or_len}
use Rattle.std.specs.Option.{option_map, option_and_then}
use Rattle.std.specs.Str.{bytes_eq}
use Rattle.std.proofs.Math.Seq.{take-append_seam, drop-append-add, split_at}
use Rattle.std.proofs.lemmas.Bool.Decides.{nat_tests}
use Rattle.std.proofs.lemmas.List.Quantifiers.{position-Some}
use Rattle.std.proofs.lemmas.Slice.Eq.{bytes_eq-Decides}
use Rattle.clk_base.specs.declared.event.Entry.{Entry}
use Rattle.clk_base.specs.declared.event.Event.{Event}
use Rattle.clk_base.specs.declared.event.Reply.TheVariants as reply
use Rattle.clk_base.specs.declared.event.Turn.{Turn}
use Rattle.clk_base.specs.declared.event.Turn.TheVariants as turn
use Rattle.clk_base.specs.Description.{Description}
use Rattle.clk_model.specs.Text.{Word, event_words, turn_words}
use Rattle.clk_journal.specs.Told.{told_event, told_turn, told_entry, is_absent, CanBeTold, TellApart}
use Rattle.clk_journal.specs.ReadEntries.{read_event, read_turn, driver_named, sign_at, with_turn, of_parts, of_driver, read_words}
use Rattle.clk_journal.proofs.Gives.{Gives, gives_none, at_word, behind, mapped, onto}
use Rattle.clk_journal.proofs.Named.{first_place}
use Rattle.clk_journal.proofs.Turns.{turn_back, IsTurnOf, turn_forth}
use Rattle.clk_journal.proofs.Events.{event_back, IsEventOf, event_forth}
use Rattle.clk_journal.proofs.Signs.{sign_back, IsSign, sign_forth}

-- ---- drivers

driver_back : (names : List Word) (d : ℕ) → d < length names → ((a b : ℕ) → a < length names → b < length names → slice_index_or names a [] ≡ slice_index_or names b [] → a ≡ b)
    → driver_named names (slice_index_or names d []) ≡ Some d
driver_back names d low apart =
    let name = slice_index_or names d [] in
    let place = position_or_len (λ x. bytes_eq name x) names in
    let first : place ≤ d = first_place (λ x. bytes_eq name x) names d [] low ((bytes_eq-Decides name name).1 refl) in
    let there : nat_lt place (length names) ≡ true = grind (arith, nat_tests, first, low) in
    let found : driver_named names name ≡ Some place = ap (λ b. cond b (Some place) None) there in
    let is = position-Some (λ x. bytes_eq name x) names place [] found in
    found ∙ ap (λ n. Some n) (sym (apart d place low (omega (arith, first, low)) ((bytes_eq-Decides name (slice_index_or names place [])).0 is.1)))

record IsDriver (names : List Word) (w : Word) (d : ℕ) : Type 0 where
  low : d < length names
  name : slice_index_or names d [] ≡ w

driver_forth : (names : List Word) (w : Word) → Gives (IsDriver names w) (driver_named names w)
driver_forth names w = record { holds = λ d e. let is = position-Some (λ x. bytes_eq w x) names d [] e in record { low = is.0; name = sym ((bytes_eq-Decides w (slice_index_or names d [])).0 is.1) } }

-- ---- entries

-- the words of the line of an entry
abbrev pub entry_words : Description → List Word → ℕ → Entry → List Word
entry_words defs names number e = decimal number ∷ slice_index_or names e.driver [] ∷ event_words defs e.event ++ codes "=" ∷ turn_words defs e.turn

absent_told : (defs : Description) (d : ℕ) (t : Turn) → is_absent (told_turn defs d t) ≡ is_absent t
absent_told defs d turn.Going = refl
absent_told defs d (turn.Done reply.Fine) = refl
absent_told defs d (turn.Done reply.Warn) = refl
absent_told defs d (turn.Done reply.Yes) = refl
absent_told defs d (turn.Done reply.No) = refl
absent_told defs d (turn.Done (reply.Handle h)) = refl
absent_told defs d (turn.Done (reply.Rate r)) = refl
absent_told defs d (turn.Done (reply.Clock c)) = refl
absent_told defs d (turn.Done (reply.Refused e)) = refl

module _ (defs : Description) (names : List Word) (apart : TellApart defs names) where
  parts_back : (e : Entry) → CanBeTold defs names e → of_parts defs e.driver (event_words defs e.event) (turn_words defs e.turn) ≡ Some (told_entry defs e)
  unfolding of_parts
  parts_back e can =
      ap (option_and_then (with_turn defs e.driver (event_words defs e.event))) (turn_back defs apart.clocks e.driver e.turn can.turn_)
      ∙ ap (λ (b : Bool). option_map (λ (v : Event). let x : Entry = record { driver = e.driver; event = v; turn = told_turn defs e.driver e.turn } in x) (read_event defs b e.driver (event_words defs e.event))) (absent_told defs e.driver e.turn)
      ∙ ap (option_map (λ (v : Event). let x : Entry = record { driver = e.driver; event = v; turn = told_turn defs e.driver e.turn } in x)) (event_back defs apart.clocks (is_absent e.turn) e.driver e.event can.event_)

  pub words_back : (number : ℕ) (e : Entry) → CanBeTold defs names e → read_words defs names number (entry_words defs names number e) ≡ Some (told_entry defs e)
  unfolding read_words of_driver
  words_back number e can =
      let es = event_words defs e.event in
      let ts = turn_words defs e.turn in
      let ws = es ++ codes "=" ∷ ts in
      ap (λ (b : Bool). cond b (option_and_then (of_driver defs ws) (driver_named names (slice_index_or names e.driver []))) None) ((bytes_eq-Decides (decimal number) (decimal number)).1 refl)
      ∙ ap (option_and_then (of_driver defs ws)) (driver_back names e.driver can.driver_ apart.drivers)
      ∙ ap (option_and_then (λ at. of_parts defs e.driver (take at ws) (drop (at + 1) ws))) (sign_back defs es e.turn)
      ∙ ap (λ us. of_parts defs e.driver us (drop (length es + 1) ws)) (take-append_seam es (codes "=" ∷ ts))
      ∙ ap (of_parts defs e.driver es) (drop-append-add es (codes "=" ∷ ts) 1)
      ∙ parts_back e can

-- an entry with these words, that can be told, and is as it is told
pub record IsEntryOf (defs : Description) (names : List Word) (number : ℕ) (ws : List Word) (e : Entry) : Type 0 where
  pub words : entry_words defs names number e ≡ ws
  pub can : CanBeTold defs names e
  pub told : told_entry defs e ≡ e

-- the parts of an entry of a driver
record ArePartsOf (defs : Description) (d : ℕ) (es ts : List Word) (e : Entry) : Type 0 where
  driver_ : e.driver ≡ d
  event_ : IsEventOf defs (is_absent e.turn) d es e.event
  turn_ : IsTurnOf defs d ts e.turn

parts_forth : (defs : Description) (d : ℕ) (es ts : List Word) → Gives (ArePartsOf defs d es ts) (of_parts defs d es ts)
unfolding of_parts
parts_forth defs d es ts =
    let P = ArePartsOf defs d es ts in
    behind P (with_turn defs d es) (read_turn defs d ts) (λ t f.
    mapped P (λ v. let x : Entry = record { driver = d; event = v; turn = t } in x) (read_event defs (is_absent t) d es) (λ v g.
    record { driver_ = refl; event_ = (event_forth defs (is_absent t) d es).holds v g; turn_ = (turn_forth defs d ts).holds t f }))

driver_parts : (defs : Description) (names : List Word) (number : ℕ) (first w : Word) (ws : List Word) (d at : ℕ) (e : Entry) → first ≡ decimal number → IsDriver names w d → IsSign ws at
    → ArePartsOf defs d (take at ws) (drop (at + 1) ws) e → IsEntryOf defs names number (first ∷ w ∷ ws) e
driver_parts defs names number first w ws d at e same is sign parts =
    let one : suc at ≡ at + 1 = omega arith in
    let cut : ws ≡ take at ws ++ codes "=" ∷ drop (at + 1) ws = split_at ws at [] sign.low ∙ ap (λ v. take at ws ++ v ∷ drop (suc at) ws) sign.sign ∙ ap (λ n. take at ws ++ codes "=" ∷ drop n ws) one in
    record {
      words = onto (sym same) (onto (ap (λ n. slice_index_or names n []) parts.driver_ ∙ is.name)
          (ap (λ us. us ++ codes "=" ∷ turn_words defs e.turn) parts.event_.words ∙ ap (λ us. take at ws ++ codes "=" ∷ us) parts.turn_.words ∙ sym cut));
      can = record { driver_ = rw parts.driver_ is.low; event_ = parts.event_.can; turn_ = parts.turn_.can };
      told =
          ap (λ n. let x : Entry = record { driver = e.driver; event = told_event defs (is_absent e.turn) n e.event; turn = told_turn defs n e.turn } in x) parts.driver_
          ∙ ap (λ v. let x : Entry = record { driver = e.driver; event = v; turn = told_turn defs d e.turn } in x) parts.event_.told
          ∙ ap (λ t. let x : Entry = record { driver = e.driver; event = e.event; turn = t } in x) parts.turn_.told;
    }

pub words_forth : (defs : Description) (names : List Word) (number : ℕ) (ws : List Word) → Gives (IsEntryOf defs names number ws) (read_words defs names number ws)
unfolding read_words of_driver
words_forth defs names number [] = gives_none (IsEntryOf defs names number [])
words_forth defs names number (first ∷ []) = gives_none (IsEntryOf defs names number (first ∷ []))
words_forth defs names number (first ∷ w ∷ ws) =
    let P = IsEntryOf defs names number (first ∷ w ∷ ws) in
    at_word P first (decimal number) _ _ (λ e.
    behind P (of_driver defs ws) (driver_named names w) (λ d f.
    behind P (λ at. of_parts defs d (take at ws) (drop (at + 1) ws)) (sign_at ws) (λ at g.
    record { holds = λ x h. driver_parts defs names number first w ws d at x e ((driver_forth names w).holds d f) ((sign_forth ws).holds at g) ((parts_forth defs d (take at ws) (drop (at + 1) ws)).holds x h) })))
    (gives_none P)
