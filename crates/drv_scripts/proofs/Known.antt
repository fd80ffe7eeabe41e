-- Which commands are known.
use Rattle.std.proofs.Common.{◌≡◌, ℕ, ◌+◌, ◌<◌, Bool, true, false, cond, List, Option, Some, None, Err, refl, ap, sym, ◌∙◌, arith}
use Rattle.std.specs.Option.{option_map}
use Rattle.std.proofs.lemmas.Bool.{cond-true, cond-false}
use Rattle.std.proofs.lemmas.Bool.Decides.{nat_tests}
use Rattle.clk_base.specs.declared.command.Act.{Act}
use Rattle.clk_base.specs.declared.command.Command.{Command}
use Rattle.clk_base.specs.Description.{Description}
use Rattle.dts_clocks.specs.Consumers.{SeenName}
use Rattle.bundle_text.specs.declared.reason.Reason.{Reason}
use Rattle.bundle_text.specs.declared.reason.Reason.TheVariants.{UnknownName, TooManyCommands}
use Rattle.drv_scripts.specs.declared.stop.Stop.{Stop}
use Rattle.drv_scripts.specs.declared.stop.Stop.TheVariants.{At, NoMemory}
use Rattle.drv_scripts.specs.CommandLines.{CommandLine}
use Rattle.drv_scripts.specs.Commands.{act_in, has_variable, variable_of, known_command, known_fault, is_full}
use Rattle.drv_scripts.specs.Judged.{StopsLine}
use Rattle.drv_scripts.specs.Steps.{TakesCommand}

-- a variable that no `get` names
pub unknown_variable : (defs : Description) (names : Option (List SeenName)) (vars : List (List ℕ)) (full : Bool) (line : ℕ) (said : CommandLine) → has_variable vars said ≡ false
    → known_fault full (known_command defs names vars line said) ≡ Some UnknownName
unfolding known_command
unknown_variable defs names vars full line said none = ap (known_fault full) (cond-false _ _ _ none)

both_none : {X : Type 0} (b : Bool) (o : Option X) → o ≡ None → cond b o None ≡ None
both_none true o e = e
both_none false o e = refl

-- a clock that isn't there
pub unknown_clock : (defs : Description) (names : Option (List SeenName)) (vars : List (List ℕ)) (full : Bool) (line : ℕ) (said : CommandLine) → act_in defs names said ≡ None
    → known_fault full (known_command defs names vars line said) ≡ Some UnknownName
unfolding known_command
unknown_clock defs names vars full line said none =
    let Made : Act → Command = λ act. record { line = line; var = variable_of vars said; act = act } in
    ap (known_fault full) (both_none (has_variable vars said) (option_map Made (act_in defs names said)) (ap (option_map Made) none))

-- a known command
pub known : (defs : Description) (names : Option (List SeenName)) (vars : List (List ℕ)) (line : ℕ) (said : CommandLine) (act : Act) (var : Option ℕ) → has_variable vars said ≡ true → act_in defs names said ≡ Some act
    → var ≡ variable_of vars said → known_command defs names vars line said ≡ Some (record { line = line; var = var; act = act })
unfolding known_command
known defs names vars line said act var some found number =
    let Made : Act → Command = λ act. record { line = line; var = variable_of vars said; act = act } in
    cond-true _ _ _ some ∙ (ap (option_map Made) found ∙ ap (λ v. Some (record { line = line; var = v; act = act })) (sym number))

-- one more known command is one too many
pub over_full : (full : Bool) (found : Option Command) (command : Command) → found ≡ Some command → full ≡ true → known_fault full found ≡ Some TooManyCommands
over_full full found command known e = ap (known_fault full) known ∙ cond-true _ _ _ e

pub not_full : (own before : ℕ) → is_full own before ≡ false → (own < 65536) × (before + own < 1048576)
unfolding is_full
not_full own before h = grind (arith, nat_tests)

-- a command that isn't taken stops at its line
pub taken_stop : (defs : Description) (names : Option (List SeenName)) (vars : List (List ℕ)) (full : Bool) (k : ℕ) (said : CommandLine) (after : List (List ℕ)) (fault : Option Reason) (stop : Stop)
    → fault ≡ known_fault full (known_command defs names vars (k + 1) said) → TakesCommand defs names vars full k said after (Err stop) → StopsLine fault k stop
taken_stop defs names vars full k said after fault (At place reason) same h = (h.0, same ∙ h.1)
taken_stop defs names vars full k said after fault NoMemory same h = tt
