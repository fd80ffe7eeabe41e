-- The definitions computed on small words.
use Rattle.std.specs.Prelude.{◌≡◌, [], ◌∷◌, true, false, refl}
use Rattle.reg_bank.specs.Registers.{field, put, is_set, put_bit, bits_of, with_bits}

-- of 8 bit 3 is set, and bit 2 isn't
pub bit_three_of_eight : is_set (8 ∷ []) 0 3 ≡ true
unfolding is_set field bits_of
bit_three_of_eight = refl

pub bit_two_of_eight : is_set (8 ∷ []) 0 2 ≡ false
unfolding is_set field bits_of
bit_two_of_eight = refl

-- bit 5 of the second word is set, the others stay
pub bit_put : put_bit (7 ∷ 0x80000001 ∷ []) 1 5 true ≡ 7 ∷ 0x80000021 ∷ []
unfolding put_bit put with_bits
bit_put = refl

-- bit 1 is cleared, the others stay
pub bit_cleared : put_bit (7 ∷ []) 0 1 false ≡ 5 ∷ []
unfolding put_bit put with_bits
bit_cleared = refl

-- the four bits of 0xabcd from bit 4 on
pub field_of_word : field (0xabcd ∷ []) 0 4 4 ≡ 0xc
unfolding field bits_of
field_of_word = refl

-- and 5 in their place
pub field_put : put (0xabcd ∷ []) 0 4 4 5 ≡ 0xab5d ∷ []
unfolding put with_bits
field_put = refl
