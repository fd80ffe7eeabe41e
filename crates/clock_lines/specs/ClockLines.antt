-- A clock line by itself: the clock that its words say, or the first thing that is wrong with them. `taken` tells whether a clock of an earlier line has the name. Each version reads a line in the same way; what a version doesn't know is judged last.
use Rattle.std.specs.Prelude.{ℕ, Bool, not, nat_lt, List, [], ◌∷◌, length, take, drop, Option, Some, None, Result, Ok, Err, codes, if◌then◌else◌}
use Rattle.std.specs.Str.{bytes_eq}
use Rattle.clk_base.specs.declared.clock.Kind.{Kind}
use Rattle.bundle_text.specs.Names.{is_clock_name}
use Rattle.bundle_text.specs.Numbers.{number_within}
use Rattle.bundle_text.specs.declared.reason.Reason.{Reason}
use Rattle.bundle_text.specs.declared.reason.Reason.TheVariants.{UnknownKind, BadWords, BadName, TwiceNamed, BadNumber, BadFlag}
use Rattle.clock_lines.specs.Said.{SaidClock}
use Rattle.clock_lines.specs.FlagWords.{are_flags, flags_of_words, are_known}
use Rattle.clock_lines.specs.Kinds.{field_said, fixed_kind, factor_kind, gate_kind, mux_kind, divider_kind, pll_kind}

-- the clock of a kind whose numbers can be read, with the flags that stand behind the parameters
unfoldable pub with_flags : List ℕ → Option Kind → List (List ℕ) → List (List ℕ) → Result SaidClock Reason
with_flags name None parents flags = Err BadNumber
with_flags name (Some kind) parents flags =
    if are_flags kind flags then Ok (record { name = name; kind = kind; flags = flags_of_words flags; parents = parents })
    else Err BadFlag

-- a name, the kind where its numbers can be read, names of parents, and flags
unfoldable pub clock_said : Bool → List ℕ → Option Kind → List (List ℕ) → List (List ℕ) → Result SaidClock Reason
clock_said taken name kind parents flags =
    if not (is_clock_name name) then Err BadName
    else if taken then Err TwiceNamed
    else with_flags name kind parents flags

-- `fixed NAME RATE`
unfoldable pub fixed_line : Bool → List (List ℕ) → Result SaidClock Reason
fixed_line taken (name ∷ rate ∷ flags) = clock_said taken name (fixed_kind rate) [] flags
fixed_line taken _ = Err BadWords

-- `factor NAME PARENT MULT DIV`
unfoldable pub factor_line : Bool → List (List ℕ) → Result SaidClock Reason
factor_line taken (name ∷ parent ∷ mult ∷ div ∷ flags) = clock_said taken name (factor_kind mult div) (parent ∷ []) flags
factor_line taken _ = Err BadWords

-- `gate NAME PARENT WORD BIT`
unfoldable pub gate_line : Bool → List (List ℕ) → Result SaidClock Reason
gate_line taken (name ∷ parent ∷ word ∷ bit ∷ flags) = clock_said taken name (gate_kind word bit flags) (parent ∷ []) flags
gate_line taken _ = Err BadWords

-- the words behind the COUNT of a mux: so many parents, and flags
unfoldable pub mux_rest : Bool → List ℕ → List ℕ → List ℕ → List ℕ → ℕ → List (List ℕ) → Result SaidClock Reason
mux_rest taken name word shift width count rest =
    if nat_lt (length rest) count then Err BadWords
    else clock_said taken name (mux_kind word shift width (drop count rest)) (take count rest) (drop count rest)

-- a mux with its COUNT, where that is a number from 1 to 64; else parents can't be told from flags
unfoldable pub mux_counted : Bool → List ℕ → List ℕ → List ℕ → List ℕ → Option ℕ → List (List ℕ) → Result SaidClock Reason
mux_counted taken name word shift width None rest = clock_said taken name None [] rest
mux_counted taken name word shift width (Some count) rest = mux_rest taken name word shift width count rest

-- `mux NAME WORD SHIFT WIDTH COUNT` and COUNT parents
unfoldable pub mux_line : Bool → List (List ℕ) → Result SaidClock Reason
mux_line taken (name ∷ word ∷ shift ∷ width ∷ count ∷ rest) = mux_counted taken name word shift width (number_within 1 64 count) rest
mux_line taken _ = Err BadWords

-- `divider NAME PARENT WORD SHIFT WIDTH`
unfoldable pub divider_line : Bool → List (List ℕ) → Result SaidClock Reason
divider_line taken (name ∷ parent ∷ word ∷ shift ∷ width ∷ flags) =
    clock_said taken name (divider_kind word shift width flags) (parent ∷ []) flags
divider_line taken _ = Err BadWords

-- `pll NAME PARENT WORD SHIFT WIDTH PWORD PBIT NMIN NMAX M`
unfoldable pub pll_line : Bool → List (List ℕ) → Result SaidClock Reason
pll_line taken (name ∷ parent ∷ word ∷ shift ∷ width ∷ pword ∷ pbit ∷ nmin ∷ nmax ∷ m ∷ flags) =
    clock_said taken name (pll_kind (field_said word shift width) pword pbit nmin nmax m) (parent ∷ []) flags
pll_line taken _ = Err BadWords

-- the words of a clock line; its first word is its kind
unfoldable pub clock_line : Bool → List (List ℕ) → Result SaidClock Reason
clock_line taken [] = Err UnknownKind
clock_line taken (kind ∷ rest) =
    if bytes_eq kind (codes "fixed") then fixed_line taken rest
    else if bytes_eq kind (codes "factor") then factor_line taken rest
    else if bytes_eq kind (codes "gate") then gate_line taken rest
    else if bytes_eq kind (codes "mux") then mux_line taken rest
    else if bytes_eq kind (codes "divider") then divider_line taken rest
    else if bytes_eq kind (codes "pll") then pll_line taken rest
    else Err UnknownKind

-- what a line says in a bundle of this version: a clock whose flags the version knows
unfoldable pub known_line : ℕ → Result SaidClock Reason → Result SaidClock Reason
known_line version (Err reason) = Err reason
known_line version (Ok clock) = if are_known version clock.flags then Ok clock else Err BadFlag
