-- What a call does to a count of faults: it never falls, and an answer that tells of a fault comes only if it rose.
use Rattle.std.specs.Prelude.{ℕ, ◌+◌, ◌-◌, ◌^◌, ◌≤◌, ⊤, min, Result, IfErr}
use Rattle.clk_io.specs.declared.faults.ReadFault.{ReadFault}
use Rattle.clk_io.specs.declared.faults.ReadFault.TheVariants as reading
use Rattle.clk_io.specs.declared.faults.PrintFault.{PrintFault}
use Rattle.clk_io.specs.declared.faults.PrintFault.TheVariants as printing

-- a count one higher, or at its last value
abbrev pub counted : ℕ → ℕ
counted n = min (n + 1) (2 ^ 64 - 1)

-- the count is higher than before, or stands at its last value
abbrev pub Rose : ℕ → ℕ → Type 0
Rose before now = counted before ≤ now

-- a failure comes only if the count rose
abbrev pub CountsFault : {T E : Type 0} → ℕ → ℕ → Result T E → Type 0
CountsFault before now r = IfErr r (λ _. Rose before now)

-- a read has failed only if the count rose
abbrev pub RisesAtRead : ℕ → ℕ → ReadFault → Type 0
RisesAtRead before now reading.Read = Rose before now
RisesAtRead before now reading.TooLong = ⊤
RisesAtRead before now reading.NoMemory = ⊤

-- a write has failed only if the count rose
abbrev pub RisesAtWrite : ℕ → ℕ → PrintFault → Type 0
RisesAtWrite before now printing.Write = Rose before now
RisesAtWrite before now printing.NoMemory = ⊤

-- the answer that a read failed comes only if the source's count rose
abbrev pub CountsReadFault : {T : Type 0} → ℕ → ℕ → Result T ReadFault → Type 0
CountsReadFault before now r = IfErr r (RisesAtRead before now)

-- the answer that a write failed comes only if the sink's count rose
abbrev pub CountsPrintFault : {T : Type 0} → ℕ → ℕ → Result T PrintFault → Type 0
CountsPrintFault before now r = IfErr r (RisesAtWrite before now)
