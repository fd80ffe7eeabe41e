-- Numbers as the words of a line of a journal tell them.
use Rattle.std.specs.Prelude.{ℕ, ℤ, zero, suc, pos, negsuc, ◌==◌, ◌&&◌, ◌^◌, ◌-◌, nat_le, decimal, drop, slice_index, Option, Some, None, if◌then◌else◌, option_and_then}
use Rattle.std.specs.Option.{option_map}
use Rattle.std.specs.Str.{bytes_eq}
use Rattle.std.specs.Str.Parse.{digits_value}
use Rattle.clk_base.specs.declared.handle.Handle.{Handle}
use Rattle.clk_model.specs.Text.{Word}

-- the number up to a most that a word writes as it is printed
unfoldable pub number : ℕ → Word → Option ℕ
number most w = if bytes_eq w (decimal (digits_value 10 w)) && nat_le (digits_value 10 w) most then Some (digits_value 10 w) else None

-- a number of 32 bits, and one of 64
abbrev pub small : Word → Option ℕ
small w = number (2 ^ 32 - 1) w

abbrev pub large : Word → Option ℕ
large w = number (2 ^ 64 - 1) w

-- a handle of a driver
abbrev pub handle : ℕ → Word → Option Handle
handle d w = option_map (λ n. record { number = n; slot = 0; driver = d }) (small w)

-- the number below 0 of this size, which isn't 0
abbrev pub minus : ℕ → Option ℤ
minus zero = None
minus (suc n) = Some (negsuc n)

-- the number below 0 that digits after a minus sign write
unfoldable pub below : Word → Option ℤ
below digits = option_and_then minus (number (2 ^ 31) digits)

-- the priority that a word writes as it is printed
unfoldable pub priority : Word → Option ℤ
priority w = if slice_index w 0 == 45 then below (drop 1 w) else option_map (λ n. pos n) (number (2 ^ 31 - 1) w)
