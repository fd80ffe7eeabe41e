-- What the bytes of a command spell is its bundle, or why it has none.
use Rattle.std.proofs.Common.{◌≡◌, ℕ, List, [], Option, Some, None, Result, Ok, Err, refl, sym, subst, arith, inr}
use Rattle.std.specs.Prelude.{IfOk, IfErr}
use Rattle.clk_io.specs.Streams.{TakesSome}
use Rattle.clk_io.specs.declared.reading.TheConstants.{MOST_BYTES}
use Rattle.drv_scripts.specs.declared.bundle.Bundle.{Bundle}
use Rattle.drv_scripts.specs.Verdict.{Accepts}
use Rattle.clk_run.specs.declared.taking.Stop.{Stop}
use Rattle.clk_run.specs.declared.taking.Stop.TheVariants as stop
use Rattle.clk_run.specs.Outcomes.{TakesBytes, GivesBundle, StopsSpelling, StopsReading, CountsStop}

-- nothing was taken of what stayed
pub takes_none : (limit : ℕ) (left : Option (List ℕ)) → TakesSome limit left left
takes_none limit None = ([], omega arith, tt)
takes_none limit (Some xs) = ([], omega arith, refl)

-- for a bundle no more is taken than it may have
pub takes_some : (made : Option ℕ) (old new : Option (List ℕ)) (b : Bundle) → GivesBundle made old new b → TakesSome MOST_BYTES old new
takes_some None old new b gives = (gives.0, gives.1.fits, gives.1.taken)
takes_some (Some drivers) old new b gives = subst (λ (left : Option (List ℕ)). TakesSome MOST_BYTES old left) (sym gives.1.0) (takes_none MOST_BYTES old)

-- the bundle that they spell
pub spelled_gives : (made : Option ℕ) (old new : Option (List ℕ)) (bytes : List ℕ) (r : Result Bundle Stop) → TakesBytes made old new bytes → IfOk r (Accepts bytes) → IfOk r (GivesBundle made old new)
spelled_gives made old new bytes (Ok b) takes spelled = (bytes, takes, spelled)
spelled_gives made old new bytes (Err e) takes spelled = tt

-- and why those of a source spell none
pub spelled_stops : (old new : Option (List ℕ)) (bytes : List ℕ) (r : Result Bundle Stop) → TakesBytes None old new bytes → IfErr r (StopsSpelling bytes) → IfErr r (StopsReading None old new)
spelled_stops old new bytes (Ok b) takes stops = tt
spelled_stops old new bytes (Err (stop.Refused line reason)) takes stops = inr (bytes, takes, stops)
spelled_stops old new bytes (Err stop.Read) takes stops = absurd stops
spelled_stops old new bytes (Err stop.NoMemory) takes stops = (bytes, takes.fits, takes.taken)

-- what bytes spell is decided without a read
pub spelled_counts : (bytes : List ℕ) (before now : ℕ) (r : Result Bundle Stop) → IfErr r (StopsSpelling bytes) → CountsStop before now r
spelled_counts bytes before now (Ok b) stops = tt
spelled_counts bytes before now (Err (stop.Refused line reason)) stops = tt
spelled_counts bytes before now (Err stop.Read) stops = absurd stops
spelled_counts bytes before now (Err stop.NoMemory) stops = tt
