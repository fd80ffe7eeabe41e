-- The words of a register bank, and the fields and bits in them. Bits are counted from 0, the lowest.
use Rattle.std.specs.Prelude.{ℕ, ◌+◌, ◌*◌, ◌/◌, ◌%◌, ◌^◌, ◌<◌, List, Bool, ◌==◌, if◌then◌else◌, slice_index, slice_set}
use Rattle.std.specs.List.{All}

-- the words of a bank, the first at place 0
abbrev pub Registers : Type 0
Registers = List ℕ

-- each word has 32 bits
abbrev pub AreWords : Registers → Type 0
AreWords words = All (λ value. value < 2 ^ 32) words

-- the number in the `width` bits of a word from `shift` on
unfoldable pub bits_of : ℕ → ℕ → ℕ → ℕ
bits_of value shift width = value / 2 ^ shift % 2 ^ width

-- the number whose bits above the field, in it and below it are those of `value`, of `new` and of `value`
unfoldable pub with_bits : ℕ → ℕ → ℕ → ℕ → ℕ
with_bits value shift width new =
    (value / 2 ^ (shift + width) * 2 ^ width + new) * 2 ^ shift + value % 2 ^ shift

-- the number in a field: the `width` bits of the word at place `word`, from `shift` on
unfoldable pub field : Registers → ℕ → ℕ → ℕ → ℕ
field words word shift width = bits_of (slice_index words word) shift width

-- the words with `value` in these bits of this word, and every other bit as before
unfoldable pub put : Registers → ℕ → ℕ → ℕ → ℕ → Registers
put words word shift width value =
    slice_set words word (with_bits (slice_index words word) shift width value)

-- the bit is 1; a bit is a field of width 1
unfoldable pub is_set : Registers → ℕ → ℕ → Bool
is_set words word bit = field words word bit 1 == 1

-- the words with this bit 1 or 0, and every other bit as before
unfoldable pub put_bit : Registers → ℕ → ℕ → Bool → Registers
put_bit words word bit value = put words word bit 1 (if value then 1 else 0)
