-- The flags of a clock, each as a test. They are Linux's flags, one bit each in the order of `ClkFlags`.
use Rattle.std.specs.Prelude.{ℕ, Bool, ◌==◌}
use Rattle.std.specs.Int.RustNames.{bit_and}
use Rattle.clk_base.specs.declared.flags.ClkFlags.{ClkFlags}
use Rattle.clk_base.specs.Description.{Description, flags_of}

-- whether the set of flags has the flag of this bit
abbrev pub has_flag : ClkFlags → ℕ → Bool
has_flag flags bit = bit_and flags.0 bit == bit

-- a prepared clock is protected as an exclusive holder would
abbrev pub sets_rate_gate : Description → ℕ → Bool
sets_rate_gate defs c = has_flag (flags_of defs c) 1

-- a prepared clock keeps its parent
abbrev pub sets_parent_gate : Description → ℕ → Bool
sets_parent_gate defs c = has_flag (flags_of defs c) 2

-- a request for a rate is passed on to the parent
abbrev pub sets_rate_parent : Description → ℕ → Bool
sets_rate_parent defs c = has_flag (flags_of defs c) 4

-- the unused sweep leaves the clock alone
abbrev pub ignores_unused : Description → ℕ → Bool
ignores_unused defs c = has_flag (flags_of defs c) 8

-- a request for a rate doesn't move the clock to another parent
abbrev pub keeps_parent : Description → ℕ → Bool
keeps_parent defs c = has_flag (flags_of defs c) 16

-- the clock is active from its registration on
abbrev pub is_critical : Description → ℕ → Bool
is_critical defs c = has_flag (flags_of defs c) 32

-- the clock's parent runs while the clock is moved, or its setting is written
abbrev pub runs_parent : Description → ℕ → Bool
runs_parent defs c = has_flag (flags_of defs c) 64

-- the clock runs while its setting is written
abbrev pub runs_to_set : Description → ℕ → Bool
runs_to_set defs c = has_flag (flags_of defs c) 128
