-- Laws on the first words of a bank.
use Rattle.std.proofs.Common.{◌≡◌, ℕ, zero, suc, ◌<◌, ◌≤◌, ◌^◌, Bool, List, [], ◌∷◌, Option, Some, None, refl, sym, ap, ◌∙◌, arith, length, take, drop, set}
use Rattle.std.specs.Prelude.{IfSome, ◌==◌, if◌then◌else◌}
use Rattle.std.specs.Option.{option_map}
use Rattle.std.proofs.lemmas.List.{get_or-take, drop-set-lt, length-take-le}
use Rattle.reg_bank.specs.Registers.{Registers, AreWords, bits_of, with_bits, field, put, is_set, put_bit}
use Rattle.core_parts.specs.Window.{AreTold}
use Rattle.std.proofs.lemmas.List.Elements.{All-take}

pub take_set : (n : ℕ) (words : List ℕ) (i value : ℕ) → take n (set words i value) ≡ set (take n words) i value
take_set zero words i value = refl
take_set (suc n) [] i value = refl
take_set (suc n) (w ∷ words) zero value = refl
take_set (suc n) (w ∷ words) (suc i) value = ap (λ (ws : List ℕ). w ∷ ws) (take_set n words i value)

-- putting a bit of the first words leaves those behind them
pub behind_put : (n : ℕ) (told new : Option (List ℕ)) (word bit : ℕ) (value : Bool) → word < n → new ≡ option_map (λ words. put_bit words word bit value) told
    → option_map (drop n) new ≡ option_map (drop n) told
unfolding put_bit put
behind_put n None new word bit value within h = ap (option_map (drop n)) h
behind_put n (Some words) new word bit value within h =
    ap (option_map (drop n)) h ∙ ap (λ (ws : List ℕ). Some ws) (drop-set-lt n words word _ within)

-- a field of the first words is that of all words
pub field-take : (n : ℕ) (words : Registers) (word shift width : ℕ) → word < n → field (take n words) word shift width ≡ field words word shift width
unfolding field
field-take n words word shift width within = ap (λ (value : ℕ). bits_of value shift width) (get_or-take n words word 0 within)

-- a bit of the first words is that of all words
pub is_set-take : (n : ℕ) (words : Registers) (word bit : ℕ) → word < n → is_set (take n words) word bit ≡ is_set words word bit
unfolding is_set field
is_set-take n words word bit within = ap (λ (value : ℕ). bits_of value bit 1 == 1) (get_or-take n words word 0 within)

-- putting a bit of the first words puts that of all words
pub put_bit-take : (n : ℕ) (words : Registers) (word bit : ℕ) (value : Bool) → word < n → put_bit (take n words) word bit value ≡ take n (put_bit words word bit value)
unfolding put_bit put
put_bit-take n words word bit value within =
    ap (λ (old : ℕ). set (take n words) word (with_bits old bit 1 (if value then 1 else 0))) (get_or-take n words word 0 within)
    ∙ sym (take_set n words word _)

-- where the words are told, so is the bit
pub told_bit : (n : ℕ) (told : Option (List ℕ)) (word bit : ℕ) (answer : Bool) → word < n → IfSome told (λ words. answer ≡ is_set words word bit)
    → IfSome (option_map (take n) told) (λ words. answer ≡ is_set words word bit)
told_bit n None word bit answer within h = tt
told_bit n (Some words) word bit answer within h = h ∙ sym (is_set-take n words word bit within)

pub told_put : (n : ℕ) (told new : Option (List ℕ)) (word bit : ℕ) (value : Bool) → word < n → new ≡ option_map (λ words. put_bit words word bit value) told
    → option_map (take n) new ≡ option_map (λ words. put_bit words word bit value) (option_map (take n) told)
told_put n None new word bit value within h = ap (option_map (take n)) h
told_put n (Some words) new word bit value within h =
    ap (option_map (take n)) h ∙ ap (λ (ws : List ℕ). Some ws) (sym (put_bit-take n words word bit value within))

-- the first words that are told are words, and as many
pub told_first : (n size : ℕ) (told : Option (List ℕ)) → n ≤ size → IfSome told (λ words. length words ≡ size) → IfSome told AreWords → AreTold n (option_map (take n) told)
told_first n size None fits sized whole = tt
told_first n size (Some words) fits sized whole = (All-take (λ word. word < 2 ^ 32) n words whole, length-take-le n words (omega arith))

-- so is a number that is put into a field
pub field_told_put : (n : ℕ) (told new : Option (List ℕ)) (word shift width value : ℕ) → word < n → new ≡ option_map (λ words. put words word shift width value) told
    → option_map (take n) new ≡ option_map (λ words. put words word shift width value) (option_map (take n) told)
unfolding put
field_told_put n None new word shift width value within h = ap (option_map (take n)) h
field_told_put n (Some words) new word shift width value within h =
    ap (option_map (take n)) h
    ∙ ap (λ (ws : List ℕ). Some ws)
    (sym (ap (λ (old : ℕ). set (take n words) word (with_bits old shift width value)) (get_or-take n words word 0 within) ∙ sym (take_set n words word _)))

pub field_behind_put : (n : ℕ) (told new : Option (List ℕ)) (word shift width value : ℕ) → word < n → new ≡ option_map (λ words. put words word shift width value) told
    → option_map (drop n) new ≡ option_map (drop n) told
unfolding put
field_behind_put n None new word shift width value within h = ap (option_map (drop n)) h
field_behind_put n (Some words) new word shift width value within h =
    ap (option_map (drop n)) h ∙ ap (λ (ws : List ℕ). Some ws) (drop-set-lt n words word _ within)
