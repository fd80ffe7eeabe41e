-- A bundle that was read has few enough commands, and so have the drivers that run.
use Rattle.std.proofs.Common.{◌≡◌, ℕ, suc, ◌-◌, ◌≤◌, List, [], ◌∷◌, refl, ap, ◌∙◌, arith, length, sum_by, take, drop}
use Rattle.std.proofs.lemmas.List.{take_all}
use Rattle.std.specs.List.{AllByRecursion}
use Rattle.drv_scripts.specs.declared.bundle.Bundle.{Bundle}
use Rattle.drv_scripts.specs.declared.bundle.Script.{Script}
use Rattle.drv_scripts.specs.Placed.{IsSound}
use Rattle.clk_cli.specs.declared.cli.Mode.{Mode}
use Rattle.clk_cli.specs.declared.cli.Mode.TheVariants.{Check, Sim, Run, Bench}
use Rattle.clk_run.specs.Runs.{credits_of, drivers_in}
use Rattle.clk_model.specs.Begin.{most_credits}

-- ---- credits

-- its commands are few enough for the credits
pub few_credits : (b : Bundle) → IsSound b → credits_of b ≤ most_credits
few_credits b is =
    let boot = is.boots in
    let sum = is.commands in
    omega arith

-- ---- the drivers that run

-- what holds of each driver of a bundle holds of those that run
pub drivers_keep : (P : Script → Type 0) (mode : Mode) (b : Bundle) → AllByRecursion P b.drivers → AllByRecursion P (drivers_in mode b)
drivers_keep P Check b all = tt
drivers_keep P Sim b all = all
drivers_keep P Run b all = all
drivers_keep P (Bench n) b all = all

-- no more drivers run than there are
pub drivers_few : (mode : Mode) (b : Bundle) → length (drivers_in mode b) ≤ length b.drivers
drivers_few Check b = omega arith
drivers_few Sim b = omega arith
drivers_few Run b = omega arith
drivers_few (Bench n) b = omega arith

-- and no more commands
pub commands_few : (mode : Mode) (b : Bundle) → sum_by (λ s. length s.commands) (drivers_in mode b) ≤ sum_by (λ s. length s.commands) b.drivers
commands_few Check b = omega arith
commands_few Sim b = omega arith
commands_few Run b = omega arith
commands_few (Bench n) b = omega arith

-- ---- lists

-- all behind the first
pub behind_first : {X : Type 0} (xs : List X) → take (length xs - 1) (drop 1 xs) ≡ drop 1 xs
behind_first [] = refl
behind_first (x ∷ xs) =
    let same : suc (length xs) - 1 ≡ length xs = omega arith in
    ap (λ (n : ℕ). take n xs) same ∙ take_all (length xs) xs (omega arith)
