-- What a command line says by itself names no clock, and what it means names clocks of the description.
use Rattle.std.proofs.Common.{◌≡◌, ℕ, zero, suc, ◌+◌, ◌<◌, Bool, true, false, cond, List, [], ◌∷◌, length, Option, Some, None, IfSome, IfOk, Result, Ok, Err, refl, subst}
use Rattle.std.specs.Prelude.{codes, ℤ, slice_get}
use Rattle.std.specs.List.{position}
use Rattle.std.specs.Option.{option_map, option_and_then}
use Rattle.std.specs.Result.{result_ok}
use Rattle.std.specs.Str.{bytes_eq}
use Rattle.std.proofs.lemmas.Bool.{ltb-true}
use Rattle.std.proofs.lemmas.Option.{none-some, same_Some}
use Rattle.clk_base.specs.declared.clock.ClockId.{ClockId}
use Rattle.clk_base.specs.declared.command.Act.{Act}
use Rattle.clk_base.specs.declared.command.Act.TheVariants.{Get, SetParent, Probe}
use Rattle.clk_base.specs.declared.command.Command.{Command}
use Rattle.clk_base.specs.declared.handle.Policy.{Policy}
use Rattle.clk_base.specs.Description.{Description, clock_named}
use Rattle.clk_base.proofs.Names.{clock_named-Some}
use Rattle.dts_clocks.specs.Consumers.{SeenName}
use Rattle.bundle_text.specs.Names.{is_variable}
use Rattle.bundle_text.specs.Firsts.{said_from, onto}
use Rattle.bundle_text.specs.Lines.{line_at}
use Rattle.bundle_text.specs.Words.{said_words}
use Rattle.bundle_text.specs.declared.reason.Reason.{Reason}
use Rattle.drv_scripts.specs.CommandLines.{
  CommandLine,
  gets,
  acts,
  moves,
  registers,
  sweeps,
  rate_of,
  id_of,
  plain_line,
  get_line,
  acts_if,
  rated_line,
  range_act,
  range_line,
  reparent_line,
  priority_of,
  policy_line,
  notify_act,
  notify_said,
  notify_line,
  unnotify_line,
  probe_line,
  sweep_line,
  verb_line,
  line_if,
  command_line,
}
use Rattle.drv_scripts.specs.Verbs.{rated_act, verb_of}
use Rattle.drv_scripts.specs.declared.verb.RateVerb.{RateVerb}
use Rattle.drv_scripts.specs.declared.verb.RateVerb.TheVariants.{Round, Set, SetExclusive}
use Rattle.drv_scripts.specs.declared.verb.Verb.{Verb}
use Rattle.drv_scripts.specs.declared.verb.Verb.TheVariants as verbs
use Rattle.drv_scripts.specs.Commands.{clock_for, act_in, has_variable, variable_of, known_command, said_at, variables_before, command_at, commands_of}
use Rattle.drv_scripts.specs.Placed.{NamesPlace, NamePlaces}
use Rattle.dts_clocks.proofs.Parented.{is_below, passes_both}
use Rattle.dts_clocks.proofs.Within.{are_below}

-- ## A line by itself

-- the act that a line says names no clock
abbrev NamesNone : ℕ → CommandLine → Type 0
NamesNone clocks (acts act var) = NamesPlace clocks act
NamesNone clocks (gets var name) = Unit {0}
NamesNone clocks (moves var name) = Unit {0}
NamesNone clocks (registers name) = Unit {0}
NamesNone clocks sweeps = Unit {0}

either : {X : Type 0} (P : X → Type 0) (b : Bool) (x y : Option X) → IfSome x P → IfSome y P → IfSome (cond b x y) P
either P true x y p q = p
either P false x y p q = q

either_said : {X : Type 0} (P : X → Type 0) (b : Bool) (x y : Result X Reason) → IfOk x P → IfOk y P → IfOk (cond b x y) P
either_said P true x y p q = p
either_said P false x y p q = q

plain_line-named : (clocks : ℕ) (act : Act) (rest : List (List ℕ)) → NamesPlace clocks act → IfOk (plain_line act rest) (NamesNone clocks)
unfolding plain_line
plain_line-named clocks act [] h = tt
plain_line-named clocks act (var ∷ []) h = either_said (NamesNone clocks) (is_variable var) _ _ h tt
plain_line-named clocks act (var ∷ word ∷ rest) h = tt

get_line-named : (clocks : ℕ) (rest : List (List ℕ)) → IfOk (get_line rest) (NamesNone clocks)
unfolding get_line
get_line-named clocks [] = tt
get_line-named clocks (var ∷ []) = tt
get_line-named clocks (var ∷ name ∷ []) = either_said (NamesNone clocks) (is_variable var) _ _ tt tt
get_line-named clocks (var ∷ name ∷ word ∷ rest) = tt

reparent_line-named : (clocks : ℕ) (rest : List (List ℕ)) → IfOk (reparent_line rest) (NamesNone clocks)
unfolding reparent_line
reparent_line-named clocks [] = tt
reparent_line-named clocks (var ∷ []) = tt
reparent_line-named clocks (var ∷ name ∷ []) = either_said (NamesNone clocks) (is_variable var) _ _ tt tt
reparent_line-named clocks (var ∷ name ∷ word ∷ rest) = tt

acts_if-named : (clocks : ℕ) (var : List ℕ) (act : Option Act) → IfSome act (NamesPlace clocks) → IfOk (acts_if var act) (NamesNone clocks)
unfolding acts_if
acts_if-named clocks var None h = tt
acts_if-named clocks var (Some act) h = h

rated_act-named : (clocks : ℕ) (verb : RateVerb) (rate : ℕ) → NamesPlace clocks (rated_act verb rate)
unfolding rated_act
rated_act-named clocks Round rate = tt
rated_act-named clocks Set rate = tt
rated_act-named clocks SetExclusive rate = tt

mapped : {X : Type 0} (clocks : ℕ) (f : X → Act) (o : Option X) → ((x : X) → NamesPlace clocks (f x)) → IfSome (option_map f o) (NamesPlace clocks)
mapped clocks f None each = tt
mapped clocks f (Some x) each = each x

rated_line-named : (clocks : ℕ) (verb : RateVerb) (rest : List (List ℕ)) → IfOk (rated_line verb rest) (NamesNone clocks)
unfolding rated_line
rated_line-named clocks verb [] = tt
rated_line-named clocks verb (var ∷ []) = tt
rated_line-named clocks verb (var ∷ rate ∷ []) =
    either_said (NamesNone clocks) (is_variable var) _ _ (acts_if-named clocks var _ (mapped clocks (rated_act verb) (rate_of rate) (rated_act-named clocks verb))) tt
rated_line-named clocks verb (var ∷ rate ∷ word ∷ rest) = tt

range_act-named : (clocks : ℕ) (least most : Option ℕ) → IfSome (range_act least most) (NamesPlace clocks)
unfolding range_act
range_act-named clocks None most = tt
range_act-named clocks (Some least) None = tt
range_act-named clocks (Some least) (Some most) = tt

range_line-named : (clocks : ℕ) (rest : List (List ℕ)) → IfOk (range_line rest) (NamesNone clocks)
unfolding range_line
range_line-named clocks [] = tt
range_line-named clocks (var ∷ []) = tt
range_line-named clocks (var ∷ least ∷ []) = tt
range_line-named clocks (var ∷ least ∷ most ∷ []) =
    either_said (NamesNone clocks) (is_variable var) _ _ (acts_if-named clocks var _ (range_act-named clocks (rate_of least) (rate_of most))) tt
range_line-named clocks (var ∷ least ∷ most ∷ word ∷ rest) = tt

notify_act-named : (clocks : ℕ) (id : Option ℕ) (priority : Option ℤ) (policy : Policy) → IfSome (notify_act id priority policy) (NamesPlace clocks)
unfolding notify_act
notify_act-named clocks None priority policy = tt
notify_act-named clocks (Some id) None policy = tt
notify_act-named clocks (Some id) (Some priority) policy = tt

notify_said-named : (clocks : ℕ) (var id priority : List ℕ) (policy : Result Policy Reason) → IfOk (notify_said var id priority policy) (NamesNone clocks)
unfolding notify_said
notify_said-named clocks var id priority (Err reason) = tt
notify_said-named clocks var id priority (Ok policy) = acts_if-named clocks var _ (notify_act-named clocks (id_of id) (priority_of priority) policy)

notify_line-named : (clocks : ℕ) (rest : List (List ℕ)) → IfOk (notify_line rest) (NamesNone clocks)
unfolding notify_line
notify_line-named clocks [] = tt
notify_line-named clocks (var ∷ []) = tt
notify_line-named clocks (var ∷ id ∷ []) = tt
notify_line-named clocks (var ∷ id ∷ priority ∷ policy) = either_said (NamesNone clocks) (is_variable var) _ _ (notify_said-named clocks var id priority (policy_line policy)) tt

unnotify_line-named : (clocks : ℕ) (rest : List (List ℕ)) → IfOk (unnotify_line rest) (NamesNone clocks)
unfolding unnotify_line
unnotify_line-named clocks [] = tt
unnotify_line-named clocks (var ∷ []) = tt
unnotify_line-named clocks (var ∷ id ∷ []) = either_said (NamesNone clocks) (is_variable var) _ _ (acts_if-named clocks var _ (mapped clocks _ (id_of id) (λ n. tt))) tt
unnotify_line-named clocks (var ∷ id ∷ word ∷ rest) = tt

probe_line-named : (clocks : ℕ) (rest : List (List ℕ)) → IfOk (probe_line rest) (NamesNone clocks)
unfolding probe_line
probe_line-named clocks [] = tt
probe_line-named clocks (name ∷ []) = tt
probe_line-named clocks (name ∷ word ∷ rest) = tt

sweep_line-named : (clocks : ℕ) (rest : List (List ℕ)) → IfOk (sweep_line rest) (NamesNone clocks)
unfolding sweep_line
sweep_line-named clocks [] = tt
sweep_line-named clocks (word ∷ rest) = tt

-- an act that a verb brings along names no clock
abbrev BringsNone : ℕ → Verb → Type 0
BringsNone clocks (verbs.Acts act) = NamesPlace clocks act
BringsNone clocks _ = Unit {0}

verb_of-named : (clocks : ℕ) (word : List ℕ) → IfSome (verb_of word) (BringsNone clocks)
unfolding verb_of
verb_of-named clocks word =
    let P = BringsNone clocks in
    either P (bytes_eq word (codes "put")) _ _ tt
    (either P (bytes_eq word (codes "prepare")) _ _ tt
    (either P (bytes_eq word (codes "unprepare")) _ _ tt
    (either P (bytes_eq word (codes "enable")) _ _ tt
    (either P (bytes_eq word (codes "disable")) _ _ tt
    (either P (bytes_eq word (codes "running")) _ _ tt
    (either P (bytes_eq word (codes "rate")) _ _ tt
    (either P (bytes_eq word (codes "parent")) _ _ tt
    (either P (bytes_eq word (codes "lock")) _ _ tt
    (either P (bytes_eq word (codes "unlock")) _ _ tt
    (either P (bytes_eq word (codes "get")) _ _ tt
    (either P (bytes_eq word (codes "round")) _ _ tt
    (either P (bytes_eq word (codes "set")) _ _ tt
    (either P (bytes_eq word (codes "setx")) _ _ tt
    (either P (bytes_eq word (codes "range")) _ _ tt
    (either P (bytes_eq word (codes "reparent")) _ _ tt
    (either P (bytes_eq word (codes "notify")) _ _ tt
    (either P (bytes_eq word (codes "unnotify")) _ _ tt
    (either P (bytes_eq word (codes "probe")) _ _ tt
    (either P (bytes_eq word (codes "sweep")) _ _ tt tt)))))))))))))))))))

verb_line-named : (clocks : ℕ) (verb : Verb) (rest : List (List ℕ)) → BringsNone clocks verb → IfOk (verb_line verb rest) (NamesNone clocks)
unfolding verb_line
verb_line-named clocks (verbs.Acts act) rest h = plain_line-named clocks act rest h
verb_line-named clocks verbs.Get rest h = get_line-named clocks rest
verb_line-named clocks (verbs.Rated verb) rest h = rated_line-named clocks verb rest
verb_line-named clocks verbs.Range rest h = range_line-named clocks rest
verb_line-named clocks verbs.Reparent rest h = reparent_line-named clocks rest
verb_line-named clocks verbs.Notify rest h = notify_line-named clocks rest
verb_line-named clocks verbs.Unnotify rest h = unnotify_line-named clocks rest
verb_line-named clocks verbs.Probe rest h = probe_line-named clocks rest
verb_line-named clocks verbs.Sweep rest h = sweep_line-named clocks rest

line_if-named : (clocks : ℕ) (verb : Option Verb) (rest : List (List ℕ)) → IfSome verb (BringsNone clocks) → IfOk (line_if verb rest) (NamesNone clocks)
unfolding line_if
line_if-named clocks None rest h = tt
line_if-named clocks (Some verb) rest h = verb_line-named clocks verb rest h

command_line-named : (clocks : ℕ) (words : List (List ℕ)) → IfOk (command_line words) (NamesNone clocks)
unfolding command_line
command_line-named clocks [] = tt
command_line-named clocks (word ∷ rest) = line_if-named clocks (verb_of word) rest (verb_of-named clocks word)

-- ## What it means

name_get : (n : ℕ) (names : List SeenName) (i : ℕ) (x : SeenName) → are_below n names ≡ true → slice_get names i ≡ Some x → is_below n x.clock ≡ true
name_get n [] i x all e = absurd (none-some x e)
name_get n (y ∷ ys) zero x all e = subst (λ s. is_below n s.clock ≡ true) (same_Some y x e) (passes_both (is_below n y.clock) (are_below n ys) all).0
name_get n (y ∷ ys) (suc i) x all e = name_get n ys i x (passes_both (is_below n y.clock) (are_below n ys) all).1 e

below_placed : (n : ℕ) (o : Option ClockId) → is_below n o ≡ true → IfSome o (λ c. c.0 < n)
below_placed n None h = tt
below_placed n (Some c) h = ltb-true c.0 n h

-- the clock of a name that is one of these
clock_there : (n : ℕ) (names : List SeenName) (at : Option ℕ) → are_below n names ≡ true → IfSome (option_and_then (λ s. s.clock) (option_and_then (slice_get names) at)) (λ c. c.0 < n)
clock_there n names None all = tt
clock_there n names (Some i) all =
    elim (slice_get names i) as (λ o. slice_get names i ≡ o → IfSome (option_and_then (λ s. s.clock) o) (λ c. c.0 < n))
    [ None ↦ λ e. tt | Some x ↦ λ e. below_placed n x.clock (name_get n names i x all e) ] refl

-- the names of a driver's consumer, if it has one, mean clocks among the first n
abbrev pub MayBeNamed : ℕ → Option (List SeenName) → Type 0
MayBeNamed n names = IfSome names (λ own. are_below n own ≡ true)

-- the clock that a name means is one of the description
pub found_named : (defs : Description) (name : List ℕ) → IfSome (clock_named defs name) (λ c. c.0 < length defs)
found_named defs name =
    elim (clock_named defs name) as (λ o. clock_named defs name ≡ o → IfSome o (λ c. c.0 < length defs))
    [ None ↦ λ e. tt | Some c ↦ λ e. (clock_named-Some defs name c e).0 ] refl

clock_for-named : (defs : Description) (names : Option (List SeenName)) (name : List ℕ) → MayBeNamed (length defs) names → IfSome (clock_for defs names name) (λ c. c.0 < length defs)
unfolding clock_for
clock_for-named defs None name all = found_named defs name
clock_for-named defs (Some names) name all = clock_there (length defs) names (position (λ n. bytes_eq n.name name) names) all

get_placed : (clocks : ℕ) (found : Option ClockId) → IfSome found (λ c. c.0 < clocks) → NamesPlace clocks (Get found)
get_placed clocks None h = tt
get_placed clocks (Some c) h = h

act_placed : (clocks : ℕ) (f : ClockId → Act) (found : Option ClockId) → ((c : ClockId) → c.0 < clocks → NamesPlace clocks (f c)) → IfSome found (λ c. c.0 < clocks) → IfSome (option_map f found) (NamesPlace clocks)
act_placed clocks f None each h = tt
act_placed clocks f (Some c) each h = each c h

act_in-placed : (defs : Description) (names : Option (List SeenName)) (said : CommandLine) → MayBeNamed (length defs) names → NamesNone (length defs) said → IfSome (act_in defs names said) (NamesPlace (length defs))
unfolding act_in
act_in-placed defs names (gets var name) all h = get_placed (length defs) (clock_for defs names name) (clock_for-named defs names name all)
act_in-placed defs names (acts act var) all h = h
act_in-placed defs names (moves var name) all h = act_placed (length defs) (λ c. SetParent c) (clock_named defs name) (λ c lt. lt) (found_named defs name)
act_in-placed defs names (registers name) all h = act_placed (length defs) (λ c. Probe c) (clock_named defs name) (λ c lt. lt) (found_named defs name)
act_in-placed defs names sweeps all h = tt

made_placed : (clocks line : ℕ) (var : Option ℕ) (act : Option Act) → IfSome act (NamesPlace clocks)
    → IfSome (option_map (λ act. record { line = line; var = var; act = act }) act) (λ (command : Command). NamesPlace clocks command.act)
made_placed clocks line var None h = tt
made_placed clocks line var (Some act) h = h

known_placed : (defs : Description) (names : Option (List SeenName)) (vars : List (List ℕ)) (line : ℕ) (said : CommandLine) → MayBeNamed (length defs) names → NamesNone (length defs) said
    → IfSome (known_command defs names vars line said) (λ command. NamesPlace (length defs) command.act)
unfolding known_command
known_placed defs names vars line said all h =
    either (λ (command : Command). NamesPlace (length defs) command.act) (has_variable vars said) _ _ (made_placed (length defs) line (variable_of vars said) (act_in defs names said) (act_in-placed defs names said all h)) tt

-- ## Commands at places

said_named : (clocks : ℕ) (b : Bool) (read : Result CommandLine Reason) → IfOk read (NamesNone clocks) → IfSome (cond b None (result_ok read)) (NamesNone clocks)
said_named clocks true read h = tt
said_named clocks false (Ok said) h = h
said_named clocks false (Err reason) h = tt

said_at-named : (clocks : ℕ) (ls : List (List ℕ)) (k : ℕ) → IfSome (said_at ls k) (NamesNone clocks)
unfolding said_at
said_at-named clocks ls k = said_named clocks _ (command_line (said_words (line_at ls k))) (command_line-named clocks (said_words (line_at ls k)))

then_placed : (defs : Description) (names : Option (List SeenName)) (vars : List (List ℕ)) (line : ℕ) (said : Option CommandLine) → MayBeNamed (length defs) names → IfSome said (NamesNone (length defs))
    → IfSome (option_and_then (known_command defs names vars line) said) (λ command. NamesPlace (length defs) command.act)
then_placed defs names vars line None all h = tt
then_placed defs names vars line (Some said) all h = known_placed defs names vars line said all h

command_at-placed : (defs : Description) (names : Option (List SeenName)) (ls : List (List ℕ)) (first k : ℕ) → MayBeNamed (length defs) names → IfSome (command_at defs names ls first k) (λ command. NamesPlace (length defs) command.act)
unfolding command_at
command_at-placed defs names ls first k all = then_placed defs names (variables_before ls first k) (k + 1) (said_at ls k) all (said_at-named (length defs) ls k)

onto_placed : (clocks : ℕ) (found : Option Command) (commands : List Command) → IfSome found (λ command. NamesPlace clocks command.act) → NamePlaces clocks commands → NamePlaces clocks (onto found commands)
onto_placed clocks None commands h rest = rest
onto_placed clocks (Some command) commands h rest = (h, rest)

said_placed : (clocks : ℕ) (said : ℕ → Option Command) → ((k : ℕ) → IfSome (said k) (λ command. NamesPlace clocks command.act)) → (from count : ℕ) → NamePlaces clocks (said_from said from count)
said_placed clocks said each from zero = tt
said_placed clocks said each from (suc count) = onto_placed clocks (said from) (said_from said (from + 1) count) (each from) (said_placed clocks said each (from + 1) count)

pub commands_placed : (defs : Description) (names : Option (List SeenName)) (ls : List (List ℕ)) (first count : ℕ) → MayBeNamed (length defs) names → NamePlaces (length defs) (commands_of defs names ls first count)
unfolding commands_of
commands_placed defs names ls first count all = said_placed (length defs) (command_at defs names ls first) (λ k. command_at-placed defs names ls first k all) first count
