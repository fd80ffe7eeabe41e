-- Lines of `%driver`, each by itself: what the words of a command say, or what is wrong with them.
use Rattle.std.specs.Prelude.{ℕ, ℤ, pos, neg_ℤ, ◌==◌, ◌-◌, ◌^◌, List, [], ◌∷◌, drop, slice_index, Option, Some, None, Result, Ok, Err, codes, if◌then◌else◌}
use Rattle.std.specs.Option.{option_map}
use Rattle.std.specs.Str.{bytes_eq}
use Rattle.clk_base.specs.declared.command.Act.{Act}
use Rattle.clk_base.specs.declared.command.Act.TheVariants as call
use Rattle.clk_base.specs.declared.handle.Policy.{Policy}
use Rattle.clk_base.specs.declared.handle.Policy.TheVariants.{Accept, VetoAbove, VetoBelow, VetoAll}
use Rattle.bundle_text.specs.Names.{is_variable}
use Rattle.bundle_text.specs.Numbers.{number_up_to, number_within}
use Rattle.bundle_text.specs.declared.reason.Reason.{Reason}
use Rattle.bundle_text.specs.declared.reason.Reason.TheVariants.{BadWords, BadNumber, UnknownCommand}
use Rattle.drv_scripts.specs.BankLines.{most_number}
use Rattle.drv_scripts.specs.Verbs.{rated_act, verb_of}
use Rattle.drv_scripts.specs.declared.verb.RateVerb.{RateVerb}
use Rattle.drv_scripts.specs.declared.verb.Verb.{Verb}
use Rattle.drv_scripts.specs.declared.verb.Verb.TheVariants.{Acts, Get, Rated, Range, Reparent, Notify, Unnotify, Probe, Sweep}

-- what a command line says: a handle of the clock of a name into a variable; an act on the handle that a variable holds; a new parent by its name for the clock of that handle; the registration of the clock of a name; the sweep
pub data CommandLine : Type 0 where
  gets : (var name : List ℕ) → CommandLine
  acts : (act : Act) (var : List ℕ) → CommandLine
  moves : (var name : List ℕ) → CommandLine
  registers : (name : List ℕ) → CommandLine
  sweeps : CommandLine

-- the rate that a word writes, up to the greatest of 64 bits
abbrev pub rate_of : List ℕ → Option ℕ
rate_of word = number_within 0 (2 ^ 64 - 1) word

-- the identifier that a word writes
abbrev pub id_of : List ℕ → Option ℕ
id_of word = number_within 0 most_number word

-- what stands after the first word of an act that needs a variable alone: V
unfoldable pub plain_line : Act → List (List ℕ) → Result CommandLine Reason
plain_line act (var ∷ []) = if is_variable var then Ok (acts act var) else Err BadWords
plain_line act _ = Err BadWords

-- what stands after `get`: V NAME
unfoldable pub get_line : List (List ℕ) → Result CommandLine Reason
get_line (var ∷ name ∷ []) = if is_variable var then Ok (gets var name) else Err BadWords
get_line _ = Err BadWords

-- an act on a variable, if its numbers could be read
unfoldable pub acts_if : List ℕ → Option Act → Result CommandLine Reason
acts_if var None = Err BadNumber
acts_if var (Some act) = Ok (acts act var)

-- the act of one of these with the rate that a word writes
abbrev pub rated_of : RateVerb → List ℕ → Option Act
rated_of verb word = option_map (rated_act verb) (rate_of word)

-- what stands after `round`, `set` and `setx`: V R
unfoldable pub rated_line : RateVerb → List (List ℕ) → Result CommandLine Reason
rated_line verb (var ∷ rate ∷ []) =
    if is_variable var then acts_if var (rated_of verb rate) else Err BadWords
rated_line verb _ = Err BadWords

-- the act of `range` with two rates, if both are numbers
unfoldable pub range_act : Option ℕ → Option ℕ → Option Act
range_act None most = None
range_act (Some least) None = None
range_act (Some least) (Some most) = Some (call.SetRange least most)

-- what stands after `range`: V MIN MAX
unfoldable pub range_line : List (List ℕ) → Result CommandLine Reason
range_line (var ∷ least ∷ most ∷ []) =
    if is_variable var then acts_if var (range_act (rate_of least) (rate_of most)) else Err BadWords
range_line _ = Err BadWords

-- what stands after `reparent`: V NAME
unfoldable pub reparent_line : List (List ℕ) → Result CommandLine Reason
reparent_line (var ∷ name ∷ []) = if is_variable var then Ok (moves var name) else Err BadWords
reparent_line _ = Err BadWords

-- the number below 0 or 0 that decimal digits after a minus sign write, from -2147483648 on
abbrev pub negative : List ℕ → Option ℤ
negative digits = option_map (λ n. neg_ℤ (pos n)) (number_up_to 2147483648 digits)

-- the number from 0 to 2147483647 that decimal digits write
abbrev pub positive : List ℕ → Option ℤ
positive word = option_map (λ n. pos n) (number_up_to 2147483647 word)

-- the number that decimal digits write, after a minus sign or none
unfoldable pub priority_of : List ℕ → Option ℤ
priority_of word = if slice_index word 0 == 45 then negative (drop 1 word) else positive word

-- a veto above a rate, if the word is one
abbrev pub veto_above : List ℕ → Option Policy
veto_above rate = option_map (λ r. VetoAbove r) (rate_of rate)

-- a veto below a rate, if the word is one
abbrev pub veto_below : List ℕ → Option Policy
veto_below rate = option_map (λ r. VetoBelow r) (rate_of rate)

-- a policy, if its rate is a number
unfoldable pub policy_if : Option Policy → Result Policy Reason
policy_if None = Err BadNumber
policy_if (Some policy) = Ok policy

-- a policy with a rate
unfoldable pub bound_policy : List ℕ → List ℕ → Result Policy Reason
bound_policy word rate =
    if bytes_eq word (codes "above") then policy_if (veto_above rate)
    else if bytes_eq word (codes "below") then policy_if (veto_below rate)
    else Err BadWords

-- a policy without a rate
unfoldable pub plain_policy : List ℕ → Result Policy Reason
plain_policy word =
    if bytes_eq word (codes "accept") then Ok Accept
    else if bytes_eq word (codes "veto") then Ok VetoAll
    else Err BadWords

-- a POLICY: `accept`, `veto`, `above R` or `below R`
unfoldable pub policy_line : List (List ℕ) → Result Policy Reason
policy_line (word ∷ []) = plain_policy word
policy_line (word ∷ rate ∷ []) = bound_policy word rate
policy_line _ = Err BadWords

-- the act of `notify` with this identifier, priority and policy, if both are numbers
unfoldable pub notify_act : Option ℕ → Option ℤ → Policy → Option Act
notify_act None priority policy = None
notify_act (Some id) None policy = None
notify_act (Some id) (Some priority) policy = Some (call.NotifierAdd id priority policy)

-- a notifier with a policy that was read or not
unfoldable pub notify_said : List ℕ → List ℕ → List ℕ → Result Policy Reason → Result CommandLine Reason
notify_said var id priority (Err reason) = Err reason
notify_said var id priority (Ok policy) = acts_if var (notify_act (id_of id) (priority_of priority) policy)

-- what stands after `notify`: V ID PRIO POLICY
unfoldable pub notify_line : List (List ℕ) → Result CommandLine Reason
notify_line (var ∷ id ∷ priority ∷ policy) =
    if is_variable var then notify_said var id priority (policy_line policy) else Err BadWords
notify_line _ = Err BadWords

-- the act of `unnotify` with the identifier that a word writes
abbrev pub removal_of : List ℕ → Option Act
removal_of word = option_map (λ n. call.NotifierRemove n) (id_of word)

-- what stands after `unnotify`: V ID
unfoldable pub unnotify_line : List (List ℕ) → Result CommandLine Reason
unnotify_line (var ∷ id ∷ []) =
    if is_variable var then acts_if var (removal_of id) else Err BadWords
unnotify_line _ = Err BadWords

-- what stands after `probe`: NAME
unfoldable pub probe_line : List (List ℕ) → Result CommandLine Reason
probe_line (name ∷ []) = Ok (registers name)
probe_line _ = Err BadWords

-- what stands after `sweep`: nothing
unfoldable pub sweep_line : List (List ℕ) → Result CommandLine Reason
sweep_line [] = Ok sweeps
sweep_line _ = Err BadWords

-- what a verb says with the words after it
unfoldable pub verb_line : Verb → List (List ℕ) → Result CommandLine Reason
verb_line (Acts act) rest = plain_line act rest
verb_line Get rest = get_line rest
verb_line (Rated verb) rest = rated_line verb rest
verb_line Range rest = range_line rest
verb_line Reparent rest = reparent_line rest
verb_line Notify rest = notify_line rest
verb_line Unnotify rest = unnotify_line rest
verb_line Probe rest = probe_line rest
verb_line Sweep rest = sweep_line rest

-- what a verb says with the words after it, if the first word is one
unfoldable pub line_if : Option Verb → List (List ℕ) → Result CommandLine Reason
line_if None rest = Err UnknownCommand
line_if (Some verb) rest = verb_line verb rest

-- what the words of a command line say, or what is wrong with them
unfoldable pub command_line : List (List ℕ) → Result CommandLine Reason
command_line [] = Err UnknownCommand
command_line (word ∷ rest) = line_if (verb_of word) rest
