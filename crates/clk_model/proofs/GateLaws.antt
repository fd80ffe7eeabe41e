-- Laws on gates that follow their clocks: which bits move, and that the order of the clocks doesn't matter.
use Rattle.std.proofs.Common.{◌≡◌, ◌≢◌, ℕ, ◌<◌, Bool, true, false, cond, not, ◌&&◌, List, [], ◌∷◌, ◌++◌, Option, Some, None, refl, sym, ap, subst, ◌∙◌, ◌⊎◌, inl, inr, nat_eq, length}
use Rattle.std.specs.Option.{option_map_or}
use Rattle.std.specs.List.{list_any}
use Rattle.clk_base.specs.Description.{Description, kind_of}
use Rattle.clk_base.specs.Fields.{GateBit, gate_of}
use Rattle.reg_bank.specs.Registers.{Registers, AreWords, is_set}
use Rattle.reg_bank.proofs.BitLaws.{length-put_bit, is_set-put_bit_same, is_set-put_bit_other, AreWords-put_bit, same_words}
use Rattle.clk_model.specs.Lists.{is_in}
use Rattle.clk_model.specs.Gates.{follow, gates_moved}
use Rattle.clk_model.proofs.Members.{both_left, both_right, any_in, none_in, is_in_head, is_in_tail, is_in_cases, same_from_test, test_same, test_other}

-- ---- one gate

pub length-follow : (regs : Registers) (before after : Bool) (gate : GateBit) → length (follow regs before after gate) ≡ length regs
length-follow regs false true gate = length-put_bit regs gate.word gate.bit _
length-follow regs true false gate = length-put_bit regs gate.word gate.bit _
length-follow regs false false gate = refl
length-follow regs true true gate = refl

-- a gate whose clock stays as it is stays too
pub follow-same : (regs : Registers) (before after : Bool) (gate : GateBit) → before ≡ after → follow regs before after gate ≡ regs
follow-same regs false false gate e = refl
follow-same regs true true gate e = refl
follow-same regs false true gate e = absurd cc
follow-same regs true false gate e = absurd cc

-- the bit that an open or a closed gate has
abbrev pub gate_bit : GateBit → Bool → Bool
gate_bit gate open_ = cond gate.set_to_disable (not open_) open_

-- the bit of a gate whose clock changes
pub is_set-follow_same : (regs : Registers) (before after : Bool) (gate : GateBit) → gate.word < length regs → before ≢ after
    → is_set (follow regs before after gate) gate.word gate.bit ≡ gate_bit gate after
is_set-follow_same regs false true gate within other = is_set-put_bit_same regs gate.word gate.bit _ within
is_set-follow_same regs true false gate within other = is_set-put_bit_same regs gate.word gate.bit _ within
is_set-follow_same regs false false gate within other = absurd (other refl)
is_set-follow_same regs true true gate within other = absurd (other refl)

-- a bit that isn't the gate's stays
pub is_set-follow_other : (regs : Registers) (before after : Bool) (gate : GateBit) (word bit : ℕ) → ((word ≢ gate.word) ⊎ (bit ≢ gate.bit))
    → is_set (follow regs before after gate) word bit ≡ is_set regs word bit
is_set-follow_other regs false true gate word bit apart = is_set-put_bit_other regs gate.word gate.bit _ word bit apart
is_set-follow_other regs true false gate word bit apart = is_set-put_bit_other regs gate.word gate.bit _ word bit apart
is_set-follow_other regs false false gate word bit apart = refl
is_set-follow_other regs true true gate word bit apart = refl

-- ---- several gates

-- a gate is at a bit, or it differs in the word or in the bit
pub at_or_apart : (gate : GateBit) (word bit : ℕ) → ((gate.word ≡ word) × (gate.bit ≡ bit)) ⊎ ((word ≢ gate.word) ⊎ (bit ≢ gate.bit))
at_or_apart gate word bit =
    elim (nat_eq gate.word word) as (λ t. nat_eq gate.word word ≡ t → ((gate.word ≡ word) × (gate.bit ≡ bit)) ⊎ ((word ≢ gate.word) ⊎ (bit ≢ gate.bit))) [
      | false ↦ λ e. inr (inl (λ same. test_other gate.word word e (sym same)))
      | true ↦ λ e. elim (nat_eq gate.bit bit) as (λ t. nat_eq gate.bit bit ≡ t → ((gate.word ≡ word) × (gate.bit ≡ bit)) ⊎ ((word ≢ gate.word) ⊎ (bit ≢ gate.bit))) [
        | true ↦ λ f. inl (same_from_test gate.word word e, same_from_test gate.bit bit f)
        | false ↦ λ f. inr (inr (λ same. test_other gate.bit bit f (sym same)))
      ] refl
    ] refl

length-moved : (o : Option GateBit) (regs : Registers) (before after : Bool) → length (option_map_or (follow regs before after) o regs) ≡ length regs
length-moved None regs before after = refl
length-moved (Some gate) regs before after = length-follow regs before after gate

pub length-gates_moved : (defs : Description) (before after : ℕ → Bool) (cs : List ℕ) (regs : Registers) → length (gates_moved defs before after cs regs) ≡ length regs
length-gates_moved defs before after [] regs = refl
length-gates_moved defs before after (c ∷ cs) regs =
    length-moved (gate_of (kind_of defs c)) (gates_moved defs before after cs regs) (before c) (after c) ∙ length-gates_moved defs before after cs regs

moved_other : (o : Option GateBit) (regs : Registers) (before after : Bool) (word bit : ℕ)
    → ((gate : GateBit) → o ≡ Some gate → gate.word ≡ word → gate.bit ≡ bit → before ≡ after)
    → is_set (option_map_or (follow regs before after) o regs) word bit ≡ is_set regs word bit
moved_other None regs before after word bit still = refl
moved_other (Some gate) regs before after word bit still =
    elim (at_or_apart gate word bit) [
      | inl at ↦ ap (λ (r : Registers). is_set r word bit) (follow-same regs before after gate (still gate refl at.0 at.1))
      | inr apart ↦ is_set-follow_other regs before after gate word bit apart
    ]

-- a bit that belongs to no clock that changes stays
pub is_set-gates_moved_other : (defs : Description) (before after : ℕ → Bool) (cs : List ℕ) (regs : Registers) (word bit : ℕ)
    → ((c : ℕ) (gate : GateBit) → is_in c cs ≡ true → gate_of (kind_of defs c) ≡ Some gate → gate.word ≡ word → gate.bit ≡ bit → before c ≡ after c)
    → is_set (gates_moved defs before after cs regs) word bit ≡ is_set regs word bit
is_set-gates_moved_other defs before after [] regs word bit still = refl
is_set-gates_moved_other defs before after (c ∷ cs) regs word bit still =
    moved_other (gate_of (kind_of defs c)) (gates_moved defs before after cs regs) (before c) (after c) word bit (λ gate e. still c gate (is_in_head c cs) e)
    ∙ is_set-gates_moved_other defs before after cs regs word bit (λ d gate m. still d gate (is_in_tail d c cs m))

-- the gates of these clocks lie in so many words, and no two of them have one bit
pub record GatesLie (defs : Description) (cs : List ℕ) (words : ℕ) : Type 0 where
  pub within : (c : ℕ) (gate : GateBit) → is_in c cs ≡ true → gate_of (kind_of defs c) ≡ Some gate → (gate.word < words) × (gate.bit < 32)
  pub apart : (c d : ℕ) (gate other : GateBit) → is_in c cs ≡ true → is_in d cs ≡ true → gate_of (kind_of defs c) ≡ Some gate → gate_of (kind_of defs d) ≡ Some other
      → other.word ≡ gate.word → other.bit ≡ gate.bit → d ≡ c

pub GatesLie-tail : (defs : Description) (c : ℕ) (cs : List ℕ) (words : ℕ) → GatesLie defs (c ∷ cs) words → GatesLie defs cs words
GatesLie-tail defs c cs words lie = record {
  within = λ d gate m. lie.within d gate (is_in_tail d c cs m);
  apart = λ d e gate other m n. lie.apart d e gate other (is_in_tail d c cs m) (is_in_tail e c cs n);
}

-- the gates of some of these clocks lie there too
pub GatesLie-part : (defs : Description) (xs ys : List ℕ) (words : ℕ) → ((c : ℕ) → is_in c ys ≡ true → is_in c xs ≡ true) → GatesLie defs xs words → GatesLie defs ys words
GatesLie-part defs xs ys words part lie = record {
  within = λ d gate m. lie.within d gate (part d m);
  apart = λ d e gate other m n. lie.apart d e gate other (part d m) (part e n);
}

-- the bit of a clock that changes is what its gate wants
pub is_set-gates_moved_same : (defs : Description) (before after : ℕ → Bool) (cs : List ℕ) (regs : Registers) (c : ℕ) (gate : GateBit)
    → GatesLie defs cs (length regs) → is_in c cs ≡ true → gate_of (kind_of defs c) ≡ Some gate → before c ≢ after c
    → is_set (gates_moved defs before after cs regs) gate.word gate.bit ≡ gate_bit gate (after c)
is_set-gates_moved_same defs before after [] regs c gate lie m e other = absurd cc
is_set-gates_moved_same defs before after (d ∷ cs) regs c gate lie m e other =
    let rest : Registers = gates_moved defs before after cs regs in
    elim (nat_eq d c) as (λ t. nat_eq d c ≡ t → is_set (gates_moved defs before after (d ∷ cs) regs) gate.word gate.bit ≡ gate_bit gate (after c)) [
      | true ↦ λ same.
          let here : d ≡ c = same_from_test d c same in
          ap (λ (x : ℕ). is_set (option_map_or (follow rest (before x) (after x)) (gate_of (kind_of defs x)) rest) gate.word gate.bit) here
          ∙ ap (λ (o : Option GateBit). is_set (option_map_or (follow rest (before c) (after c)) o rest) gate.word gate.bit) e
          ∙ is_set-follow_same rest (before c) (after c) gate (rw (length-gates_moved defs before after cs regs) (lie.within c gate m e).0) other
      | false ↦ λ differs.
          let later : is_in c cs ≡ true = elim (is_in_cases c d cs m) [ inl here ↦ absurd (test_other d c differs here) | inr r ↦ r ] in
          moved_other (gate_of (kind_of defs d)) rest (before d) (after d) gate.word gate.bit
          (λ own at word bit. absurd (test_other d c differs (lie.apart c d gate own m (is_in_head d cs) e at word bit)))
          ∙ is_set-gates_moved_same defs before after cs regs c gate (GatesLie-tail defs d cs (length regs) lie) later e other
    ] refl

AreWords-moved : (o : Option GateBit) (regs : Registers) (before after : Bool) → ((gate : GateBit) → o ≡ Some gate → gate.bit < 32) → AreWords regs
    → AreWords (option_map_or (follow regs before after) o regs)
AreWords-moved None regs before after small words = words
AreWords-moved (Some gate) regs false true small words = AreWords-put_bit regs gate.word gate.bit _ (small gate refl) words
AreWords-moved (Some gate) regs true false small words = AreWords-put_bit regs gate.word gate.bit _ (small gate refl) words
AreWords-moved (Some gate) regs false false small words = words
AreWords-moved (Some gate) regs true true small words = words

pub AreWords-gates_moved : (defs : Description) (before after : ℕ → Bool) (cs : List ℕ) (regs : Registers) (words : ℕ) → GatesLie defs cs words → AreWords regs
    → AreWords (gates_moved defs before after cs regs)
AreWords-gates_moved defs before after [] regs words lie are = are
AreWords-gates_moved defs before after (c ∷ cs) regs words lie are =
    AreWords-moved (gate_of (kind_of defs c)) (gates_moved defs before after cs regs) (before c) (after c)
    (λ gate e. (lie.within c gate (is_in_head c cs) e).1)
    (AreWords-gates_moved defs before after cs regs words (GatesLie-tail defs c cs words lie) are)

-- clocks that stay as they are leave the registers
pub gates_moved-still : (defs : Description) (before after : ℕ → Bool) (cs : List ℕ) (regs : Registers) → ((c : ℕ) → before c ≡ after c) → gates_moved defs before after cs regs ≡ regs
gates_moved-still defs before after [] regs still = refl
gates_moved-still defs before after (c ∷ cs) regs still =
    one (gate_of (kind_of defs c)) (gates_moved defs before after cs regs) (before c) (after c) (still c) ∙ gates_moved-still defs before after cs regs still where
      one : (o : Option GateBit) (r : Registers) (b a : Bool) → b ≡ a → option_map_or (follow r b a) o r ≡ r
      one None r b a e = refl
      one (Some gate) r b a e = follow-same r b a gate e

-- only what the clocks of the list were and are matters
pub gates_moved-alike : (defs : Description) (before after after' : ℕ → Bool) (cs : List ℕ) (regs : Registers) → ((c : ℕ) → is_in c cs ≡ true → after c ≡ after' c)
    → gates_moved defs before after cs regs ≡ gates_moved defs before after' cs regs
gates_moved-alike defs before after after' [] regs alike = refl
gates_moved-alike defs before after after' (c ∷ cs) regs alike =
    ap (λ (a : Bool). option_map_or (follow (gates_moved defs before after cs regs) (before c) a) (gate_of (kind_of defs c)) (gates_moved defs before after cs regs)) (alike c (is_in_head c cs))
    ∙ ap (λ (r : Registers). option_map_or (follow r (before c) (after' c)) (gate_of (kind_of defs c)) r) (gates_moved-alike defs before after after' cs regs (λ d m. alike d (is_in_tail d c cs m)))

-- whether a clock changes at this bit
abbrev changes_at : Description → (ℕ → Bool) → (ℕ → Bool) → ℕ → ℕ → ℕ → Bool
changes_at defs before after word bit c =
    option_map_or (λ gate. nat_eq gate.word word && nat_eq gate.bit bit) (gate_of (kind_of defs c)) false && unlike (before c) (after c) where
      unlike : Bool → Bool → Bool
      unlike a b = cond a (not b) b

-- what a gate that a test finds at a bit says
found_at : (o : Option GateBit) (word bit : ℕ) → option_map_or (λ gate. nat_eq gate.word word && nat_eq gate.bit bit) o false ≡ true
    → (gate : GateBit) × (o ≡ Some gate) × (gate.word ≡ word) × (gate.bit ≡ bit)
found_at None word bit h = absurd cc
found_at (Some gate) word bit h =
    (gate, refl, same_from_test gate.word word (both_left (nat_eq gate.word word) (nat_eq gate.bit bit) h), same_from_test gate.bit bit (both_right (nat_eq gate.word word) (nat_eq gate.bit bit) h))

pub test_at : (gate : GateBit) (word bit : ℕ) → gate.word ≡ word → gate.bit ≡ bit → (nat_eq gate.word word && nat_eq gate.bit bit) ≡ true
test_at gate word bit e f = rw (e, f) (both_true (test_same word) (test_same bit)) where
  both_true : {a b : Bool} → a ≡ true → b ≡ true → (a && b) ≡ true
  both_true {a = a} {b = b} p q = rw (p, q) refl

unlike_other : (a b : Bool) → cond a (not b) b ≡ true → a ≢ b
unlike_other true true h = absurd cc
unlike_other false false h = absurd cc
unlike_other true false h = λ e. cc
unlike_other false true h = λ e. cc

like_same : (a b : Bool) → cond a (not b) b ≡ false → a ≡ b
like_same true true h = refl
like_same false false h = refl
like_same true false h = absurd cc
like_same false true h = absurd cc

pub and_false : (a b : Bool) → (a && b) ≡ false → a ≡ true → b ≡ false
and_false true b h e = h
and_false false b h e = absurd cc

-- the gates of two lists of clocks move alike, where the second is a part of the first and has each clock that changes
pub gates_moved-lists : (defs : Description) (before after : ℕ → Bool) (xs ys : List ℕ) (regs : Registers)
    → AreWords regs → GatesLie defs xs (length regs) → ((c : ℕ) → is_in c ys ≡ true → is_in c xs ≡ true)
    → ((c : ℕ) → is_in c xs ≡ true → before c ≢ after c → is_in c ys ≡ true)
    → gates_moved defs before after xs regs ≡ gates_moved defs before after ys regs
gates_moved-lists defs before after xs ys regs words lie part whole =
    let lie' = GatesLie-part defs xs ys (length regs) part lie in
    same_words (gates_moved defs before after xs regs) (gates_moved defs before after ys regs)
    (length-gates_moved defs before after xs regs ∙ sym (length-gates_moved defs before after ys regs))
    (AreWords-gates_moved defs before after xs regs (length regs) lie words)
    (AreWords-gates_moved defs before after ys regs (length regs) lie' words)
    (λ word bit within small.
    elim (list_any (changes_at defs before after word bit) xs) as (λ t. list_any (changes_at defs before after word bit) xs ≡ t
    → is_set (gates_moved defs before after xs regs) word bit ≡ is_set (gates_moved defs before after ys regs) word bit) [
      | true ↦ λ some.
          let c = any_in (changes_at defs before after word bit) xs some in
          let at = found_at (gate_of (kind_of defs c.0)) word bit (both_left (option_map_or (λ gate. nat_eq gate.word word && nat_eq gate.bit bit) (gate_of (kind_of defs c.0)) false) _ c.2) in
          let other : before c.0 ≢ after c.0 = unlike_other (before c.0) (after c.0) (both_right (option_map_or (λ gate. nat_eq gate.word word && nat_eq gate.bit bit) (gate_of (kind_of defs c.0)) false) _ c.2) in
          subst (λ (w : ℕ). is_set (gates_moved defs before after xs regs) w bit ≡ is_set (gates_moved defs before after ys regs) w bit) at.2
          (subst (λ (b : ℕ). is_set (gates_moved defs before after xs regs) at.0.word b ≡ is_set (gates_moved defs before after ys regs) at.0.word b) at.3
          (is_set-gates_moved_same defs before after xs regs c.0 at.0 lie c.1 at.1 other
          ∙ sym (is_set-gates_moved_same defs before after ys regs c.0 at.0 lie' (whole c.0 c.1 other) at.1 other)))
      | false ↦ λ none.
          let still : (c : ℕ) (gate : GateBit) → is_in c xs ≡ true → gate_of (kind_of defs c) ≡ Some gate → gate.word ≡ word → gate.bit ≡ bit → before c ≡ after c =
          (λ c gate m e w b.
          like_same (before c) (after c)
          (and_false (option_map_or (λ g. nat_eq g.word word && nat_eq g.bit bit) (gate_of (kind_of defs c)) false) _ (none_in (changes_at defs before after word bit) xs none c m)
          (ap (λ (o : Option GateBit). option_map_or (λ g. nat_eq g.word word && nat_eq g.bit bit) o false) e ∙ test_at gate word bit w b))) in
          is_set-gates_moved_other defs before after xs regs word bit still
          ∙ sym (is_set-gates_moved_other defs before after ys regs word bit (λ c gate m. still c gate (part c m)))
    ] refl)

-- likewise for what they were
pub gates_moved-before : (defs : Description) (before before' after : ℕ → Bool) (cs : List ℕ) (regs : Registers) → ((c : ℕ) → is_in c cs ≡ true → before c ≡ before' c)
    → gates_moved defs before after cs regs ≡ gates_moved defs before' after cs regs
gates_moved-before defs before before' after [] regs alike = refl
gates_moved-before defs before before' after (c ∷ cs) regs alike =
    ap (λ (b : Bool). option_map_or (follow (gates_moved defs before after cs regs) b (after c)) (gate_of (kind_of defs c)) (gates_moved defs before after cs regs)) (alike c (is_in_head c cs))
    ∙ ap (λ (r : Registers). option_map_or (follow r (before' c) (after c)) (gate_of (kind_of defs c)) r)
    (gates_moved-before defs before before' after cs regs (λ d m. alike d (is_in_tail d c cs m)))

-- the gates of one list move after those of another
pub gates_moved-append : (defs : Description) (before after : ℕ → Bool) (xs ys : List ℕ) (regs : Registers)
    → gates_moved defs before after (xs ++ ys) regs ≡ gates_moved defs before after xs (gates_moved defs before after ys regs)
gates_moved-append defs before after [] ys regs = refl
gates_moved-append defs before after (x ∷ xs) ys regs =
    ap (λ (r : Registers). option_map_or (follow r (before x) (after x)) (gate_of (kind_of defs x)) r) (gates_moved-append defs before after xs ys regs)
