-- Worked rows: what lines say, by computation.
use Rattle.std.specs.Prelude.{◌≡◌, ℕ, true, false, List, [], ◌∷◌, map, Some, None, take, Ok, Err, codes, refl}
use Rattle.clk_base.specs.declared.clock.Kind.TheVariants.{FixedRate, Gate, Mux}
use Rattle.bundle_text.specs.Names.{is_clock_name}
use Rattle.bundle_text.specs.Numbers.{number_up_to, hexadecimal_up_to, behind_0x, written_up_to, number_within}
use Rattle.bundle_text.specs.declared.reason.Reason.TheVariants.{UnknownKind, BadWords, TwiceNamed, BadNumber, BadFlag}
use Rattle.clock_lines.specs.FlagWords.{is_common_flag, is_own_flag, are_flags, flags_of_words, are_known}
use Rattle.clock_lines.specs.Kinds.{field_said, fixed_kind, gate_kind, mux_kind}
use Rattle.clock_lines.specs.ClockLines.{with_flags, clock_said, fixed_line, gate_line, mux_rest, mux_counted, mux_line, clock_line, known_line}
use Rattle.clock_lines.specs.Said.{PlacedClock}
use Rattle.clock_lines.specs.Section.{fault_behind, finds_parents, clock_in}

-- `fixed osc 0x10` says a fixed clock of 16 Hz
pub fixed-row : clock_line false (codes "fixed" ∷ codes "osc" ∷ codes "0x10" ∷ []) ≡ Ok (record { name = codes "osc"; kind = FixedRate 16; flags = record { 0 = 0 }; parents = [] })
unfolding clock_line fixed_line clock_said with_flags fixed_kind are_flags flags_of_words is_clock_name number_within written_up_to behind_0x hexadecimal_up_to number_up_to
fixed-row = refl

-- `gate g osc 3 7 critical set-to-disable` says a gate with a flag, turned round
pub gate-row : clock_line false (codes "gate" ∷ codes "g" ∷ codes "osc" ∷ codes "3" ∷ codes "7" ∷ codes "critical" ∷ codes "set-to-disable" ∷ [])
    ≡ Ok (record { name = codes "g"; kind = Gate 3 7 true; flags = record { 0 = 32 }; parents = codes "osc" ∷ [] })
unfolding clock_line gate_line clock_said with_flags gate_kind are_flags is_common_flag is_own_flag flags_of_words is_clock_name number_within written_up_to behind_0x number_up_to
gate-row = refl

-- `mux m 0 4 1 2 a b` says a mux of two parents
pub mux-row : clock_line false (codes "mux" ∷ codes "m" ∷ codes "0" ∷ codes "4" ∷ codes "1" ∷ codes "2" ∷ codes "a" ∷ codes "b" ∷ [])
    ≡ Ok (record { name = codes "m"; kind = Mux 0 4 1 false; flags = record { 0 = 0 }; parents = codes "a" ∷ codes "b" ∷ [] })
unfolding clock_line mux_line mux_counted mux_rest clock_said with_flags mux_kind field_said are_flags flags_of_words is_clock_name number_within written_up_to behind_0x number_up_to
mux-row = refl

-- `mux m 0 4 1 2 a` has too few words for two parents
pub short-row : clock_line false (codes "mux" ∷ codes "m" ∷ codes "0" ∷ codes "4" ∷ codes "1" ∷ codes "2" ∷ codes "a" ∷ []) ≡ Err BadWords
unfolding clock_line mux_line mux_counted mux_rest number_within written_up_to behind_0x number_up_to
short-row = refl

-- `mux m 0 4 1 65` has a COUNT outside its range
pub count-row : clock_line false (codes "mux" ∷ codes "m" ∷ codes "0" ∷ codes "4" ∷ codes "1" ∷ codes "65" ∷ []) ≡ Err BadNumber
unfolding clock_line mux_line mux_counted clock_said with_flags is_clock_name number_within written_up_to behind_0x number_up_to
count-row = refl

-- `gate g osc x 7`: a taken name comes before a word that is no number
pub taken-row : clock_line true (codes "gate" ∷ codes "g" ∷ codes "osc" ∷ codes "x" ∷ codes "7" ∷ []) ≡ Err TwiceNamed
unfolding clock_line gate_line clock_said is_clock_name
taken-row = refl

pub number-row : clock_line false (codes "gate" ∷ codes "g" ∷ codes "osc" ∷ codes "x" ∷ codes "7" ∷ []) ≡ Err BadNumber
unfolding clock_line gate_line clock_said with_flags gate_kind is_clock_name number_within written_up_to behind_0x number_up_to
number-row = refl

-- `fixed osc 5 critical critical` has a flag twice
pub flag-row : clock_line false (codes "fixed" ∷ codes "osc" ∷ codes "5" ∷ codes "critical" ∷ codes "critical" ∷ []) ≡ Err BadFlag
unfolding clock_line fixed_line clock_said with_flags fixed_kind are_flags is_common_flag is_own_flag is_clock_name number_within written_up_to behind_0x number_up_to
flag-row = refl

-- `fixed osc 5 set-rate-ungate` says a clock with a flag that version 2 knows, and version 1 doesn't
abbrev ungated : List (List ℕ)
ungated = codes "fixed" ∷ codes "osc" ∷ codes "5" ∷ codes "set-rate-ungate" ∷ []

pub ungate-row : known_line 2 (clock_line false ungated) ≡ Ok (record { name = codes "osc"; kind = FixedRate 5; flags = record { 0 = 128 }; parents = [] })
unfolding known_line clock_line fixed_line clock_said with_flags fixed_kind are_flags is_common_flag is_own_flag flags_of_words are_known is_clock_name number_within written_up_to behind_0x number_up_to
ungate-row = refl

pub older-row : known_line 1 (clock_line false ungated) ≡ Err BadFlag
unfolding known_line clock_line fixed_line clock_said with_flags fixed_kind are_flags is_common_flag is_own_flag flags_of_words are_known is_clock_name number_within written_up_to behind_0x number_up_to
older-row = refl

-- `clock osc 5` has no kind
pub kind-row : clock_line false (codes "clock" ∷ codes "osc" ∷ codes "5" ∷ []) ≡ Err UnknownKind
unfolding clock_line
kind-row = refl

-- a gate over a clock of a later line, and that clock, behind an empty line
abbrev forward : List PlacedClock
forward =
    record { place = 0; clock = record { name = codes "g"; kind = Gate 0 1 false; flags = record { 0 = 0 }; parents = codes "osc" ∷ [] } }
    ∷ record { place = 2; clock = record { name = codes "osc"; kind = FixedRate 5; flags = record { 0 = 0 }; parents = [] } } ∷ []

-- the gate's parent is the second clock
pub forward-row : map (clock_in forward) forward
    ≡ record { name = codes "g"; kind = Gate 0 1 false; flags = record { 0 = 0 }; parents = 1 ∷ [] } ∷ record { name = codes "osc"; kind = FixedRate 5; flags = record { 0 = 0 }; parents = [] } ∷ []
unfolding clock_in
forward-row = refl

-- all parents are found, and without the second clock one isn't
pub found-row : map (finds_parents forward) forward ≡ true ∷ true ∷ []
unfolding finds_parents
found-row = refl

pub lacking-row : map (finds_parents (take 1 forward)) forward ≡ false ∷ true ∷ []
unfolding finds_parents
lacking-row = refl

-- behind them a third clock has a fault where it has one of their names, and no words have none
pub twice-row : fault_behind 1 forward (codes "fixed" ∷ codes "g" ∷ codes "6" ∷ []) ≡ Some TwiceNamed
unfolding fault_behind known_line clock_line fixed_line clock_said is_clock_name
twice-row = refl

pub empty-row : fault_behind 1 forward [] ≡ None
unfolding fault_behind
empty-row = refl
