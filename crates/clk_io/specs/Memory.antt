-- Sources and sinks in memory, whose faults are arranged.
use Rattle.std.specs.Prelude.{ℕ, ◌-◌, ◌==◌, Bool, List, length, drop, ◌++◌}
use Rattle.std.specs.List.{list_any}
use Rattle.clk_io.specs.Counts.{counted}

-- a source in memory: what is left, the numbers of the calls that fail, and how many calls and faults there were
pub record Given : Type 0 where
  pub left : List ℕ
  pub fail_at : List ℕ
  pub calls : ℕ
  pub faults : ℕ

-- a sink in memory: what was written, how many bytes it still has room for, the most bytes that a call takes, the numbers of the calls that fail, and how many calls and faults there were
pub record Taken : Type 0 where
  pub written : List ℕ
  pub room : ℕ
  pub most : ℕ
  pub fail_at : List ℕ
  pub calls : ℕ
  pub faults : ℕ

-- the call is among those that fail
abbrev pub is_listed : List ℕ → ℕ → Bool
is_listed fail_at call = list_any (λ n. n == call) fail_at

-- the source after a call that gave n bytes
abbrev pub given_after : Given → ℕ → Given
given_after g n = record g { left = drop n g.left; calls = counted g.calls }

-- the source after a call that failed
abbrev pub given_failed : Given → Given
given_failed g = record g { calls = counted g.calls; faults = counted g.faults }

-- the sink after a call that took these bytes
abbrev pub taken_after : Taken → List ℕ → Taken
taken_after t bytes = record t { written = t.written ++ bytes; room = t.room - length bytes; calls = counted t.calls }

-- the sink after a call that failed
abbrev pub taken_failed : Taken → Taken
taken_failed t = record t { calls = counted t.calls; faults = counted t.faults }
