-- The flag words behind the parameters of a clock line.
use Rattle.std.specs.Prelude.{ℕ, ◌==◌, ◌&&◌, ◌||◌, not, Bool, false, List, codes, count_by, if◌then◌else◌}
use Rattle.std.specs.Int.RustNames.{bit_or}
use Rattle.std.specs.List.{list_all, list_any}
use Rattle.std.specs.Str.{bytes_eq}
use Rattle.clk_base.specs.declared.clock.Kind.{Kind}
use Rattle.clk_base.specs.declared.clock.Kind.TheVariants.{FixedRate, Factor, Gate, Mux, Divider, Pll}
use Rattle.clk_base.specs.declared.flags.ClkFlags.{ClkFlags}
use Rattle.clk_base.specs.Flags.{has_flag}

-- the word is one of the words
abbrev pub stands : List ℕ → List (List ℕ) → Bool
stands word words = list_any (bytes_eq word) words

-- a flag word that a clock of every kind may have
unfoldable pub is_common_flag : List ℕ → Bool
is_common_flag word =
    bytes_eq word (codes "set-rate-gate") || bytes_eq word (codes "set-parent-gate") || bytes_eq word (codes "set-rate-parent")
    || bytes_eq word (codes "ignore-unused") || bytes_eq word (codes "no-reparent") || bytes_eq word (codes "critical")
    || bytes_eq word (codes "ops-parent-enable") || bytes_eq word (codes "set-rate-ungate")

-- a flag word that a clock of this kind may have, and of no other
unfoldable pub is_own_flag : Kind → List ℕ → Bool
is_own_flag (FixedRate rate) word = false
is_own_flag (Factor mult div) word = false
is_own_flag (Gate w bit set_to_disable) word = bytes_eq word (codes "set-to-disable")
is_own_flag (Mux w shift width read_only) word = bytes_eq word (codes "read-only")
is_own_flag (Divider w shift width one_based power_of_two) word = bytes_eq word (codes "one-based") || bytes_eq word (codes "power-of-two")
is_own_flag (Pll w shift width power_word power_bit least most m) word = false

-- each word is a flag word that a clock of this kind may have, and stands once
unfoldable pub are_flags : Kind → List (List ℕ) → Bool
are_flags kind words = list_all (λ w. (is_common_flag w || is_own_flag kind w) && (count_by (bytes_eq w) words == 1)) words

-- the bit of a flag, where its word is one of the words
abbrev pub flag_bit : ℕ → List ℕ → List (List ℕ) → ℕ
flag_bit bit word words = if stands word words then bit else 0

-- the flags whose words are among the words
unfoldable pub flags_of_words : List (List ℕ) → ClkFlags
flags_of_words words =
    let gates = bit_or (flag_bit 1 (codes "set-rate-gate") words) (flag_bit 2 (codes "set-parent-gate") words) in
    let rates = bit_or (flag_bit 4 (codes "set-rate-parent") words) (flag_bit 8 (codes "ignore-unused") words) in
    let rest = bit_or (flag_bit 16 (codes "no-reparent") words) (flag_bit 32 (codes "critical") words) in
    let runs = bit_or (flag_bit 64 (codes "ops-parent-enable") words) (flag_bit 128 (codes "set-rate-ungate") words) in
    record { 0 = bit_or (bit_or gates rates) (bit_or rest runs) }

-- a bundle of this version knows these flags: version 2 all of them, version 1 all but `ops-parent-enable` and `set-rate-ungate`
unfoldable pub are_known : ℕ → ClkFlags → Bool
are_known version flags = version == 2 || not (has_flag flags 64 || has_flag flags 128)
