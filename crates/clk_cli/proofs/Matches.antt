-- What `clap`'s promises say of this command line.
use Rattle.std.proofs.Common.{ap, inl, inr, subst, sym, refl, ◌∙◌, ◌≡◌, ◌≢◌, ◌⊎◌, true, List, [], ◌∷◌, Option, Some, None, Result, Ok, Err, IfOk}
use Rattle.std.specs.Prelude.{ok_or}
use Rattle.clap.proofs.OnLiterals.{clap_on_literals}
use Rattle.clap.specs.Faults.{fault_of, is_simple_and_free}
use Rattle.clap.specs.Kinds.{Kinds, HasKind, FailsBy}
use Rattle.clap.specs.Matches.{found_of}
use Rattle.clap.specs.Simple.{App, HasMatchesOf, is_simple, matches_of}
use Rattle.clap.specs.Values.{kind_of}
use Rattle.clap.specs.Walk.{Text, rows_of}
use Rattle.clap.specs.declared.error.Error.{Error}
use Rattle.clap.specs.declared.error.kind.ErrorKind.TheVariants.{OutOfMemory}
use Rattle.clap.specs.declared.parser.matches.ArgMatches.{ArgMatches}
use Rattle.clk_cli.specs.declared.cli.Cli.{Cli}
use Rattle.clk_cli.specs.declared.cli.CliFault.{CliFault}
use Rattle.clk_cli.specs.declared.cli.CliFault.TheVariants.{Usage, NoMemory}
use Rattle.clk_cli.specs.CommandLine.{clkbench}
use Rattle.clk_cli.specs.Meaning.{meaning, read_rows, unless, fault_told, cli_told}

-- ---- the command line is one of which `clap` says exactly what it makes of any words

clkbench-is_simple : is_simple clkbench ≡ true
unfolding clkbench
clkbench-is_simple = refl

clkbench-is_simple_and_free : is_simple_and_free clkbench ≡ true
unfolding clkbench
clkbench-is_simple_and_free = refl

fails_as : {M : Type 0} (a : App) (words : List Text) (r : Result M Error) → a ≡ clkbench → (is_simple_and_free a ≡ true → FailsBy (fault_of a words) r) → FailsBy (fault_of clkbench words) r
fails_as a words r same says = subst (λ (x : App). FailsBy (fault_of x words) r) same (says (ap is_simple_and_free same ∙ clkbench-is_simple_and_free))

rows_as : (a : App) (words : List Text) (m : ArgMatches) → a ≡ clkbench → HasMatchesOf a words m → rows_of (found_of m) ≡ matches_of clkbench words
rows_as a words m same says = (says (ap is_simple same ∙ clkbench-is_simple)).0 ∙ ap (λ (x : App). matches_of x words) same

-- ---- what the words mean

-- a fault that isn't want of memory has a kind
some_kind : (e : Error) → HasKind [] e → kind_of e ≢ OutOfMemory → ⊥
some_kind e (inl memory) other = other memory
some_kind e (inr among) other = among

unless-fault : (e : Error) (kinds : Kinds) (cli : Option Cli) → HasKind kinds e → kind_of e ≢ OutOfMemory → unless kinds cli ≡ None
unless-fault e [] cli has other = absurd (some_kind e has other)
unless-fault e (kind ∷ kinds) cli has other = refl

-- where `clap` refuses words for another cause than memory, they mean nothing
nothing_meant : (words : List Text) (e : Error) → HasKind (fault_of clkbench words) e → kind_of e ≢ OutOfMemory → meaning words ≡ None
unfolding meaning
nothing_meant words e has other = unless-fault e (fault_of clkbench words) (read_rows (matches_of clkbench words)) has other

-- where `clap` takes them, they mean what its matches say
meant_so : (words : List Text) (cli : Option Cli) → fault_of clkbench words ≡ [] → cli ≡ read_rows (matches_of clkbench words) → meaning words ≡ cli
unfolding meaning
meant_so words cli taken said = ap (λ (kinds : Kinds). unless kinds (read_rows (matches_of clkbench words))) taken ∙ sym said

matches_meant : (words : List Text) (m : ArgMatches) → fault_of clkbench words ≡ [] → rows_of (found_of m) ≡ matches_of clkbench words → meaning words ≡ read_rows (rows_of (found_of m))
matches_meant words m taken same = meant_so words (read_rows (rows_of (found_of m))) taken (ap read_rows same)

-- ---- what `clap`'s answer tells

ok-said : (words : List Text) (cli : Option Cli) → meaning words ≡ cli → IfOk (ok_or cli Usage) (λ c. meaning words ≡ Some c)
ok-said words None means = tt
ok-said words (Some cli) means = means

usage-said : (words : List Text) (cli : Option Cli) → meaning words ≡ cli → ok_or cli Usage ≡ Err Usage → meaning words ≡ None
usage-said words None means same = means
usage-said words (Some cli) means same = absurd (cc)

abbrev fault_left : Result Cli CliFault → CliFault
fault_left (Ok cli) = Usage
fault_left (Err fault) = fault

usage-other : (e : Error) → fault_told (kind_of e) ≡ Usage → kind_of e ≢ OutOfMemory
usage-other e usage memory =
    let told : fault_told (kind_of e) ≡ NoMemory = ap fault_told memory in
    absurd (cc (told, usage))

-- what the answer tells is what the words mean
pub told-ok : (a : App) (words : List Text) (answer : Result ArgMatches Error) → a ≡ clkbench → (is_simple_and_free a ≡ true → FailsBy (fault_of a words) answer) → IfOk answer (HasMatchesOf a words) → IfOk (cli_told answer) (λ cli. meaning words ≡ Some cli)
told-ok a words (Ok m) same says matches =
    ok-said words (read_rows (rows_of (found_of m))) (matches_meant words m (fails_as {M = ArgMatches} a words (Ok m) same says) (rows_as a words m same matches))
told-ok a words (Err e) same says matches = tt

-- where it tells that they mean nothing, they do
pub told-usage : (a : App) (words : List Text) (answer : Result ArgMatches Error) → a ≡ clkbench → (is_simple_and_free a ≡ true → FailsBy (fault_of a words) answer) → IfOk answer (HasMatchesOf a words) → cli_told answer ≡ Err Usage → meaning words ≡ None
told-usage a words (Ok m) same says matches told =
    usage-said words (read_rows (rows_of (found_of m))) (matches_meant words m (fails_as {M = ArgMatches} a words (Ok m) same says) (rows_as a words m same matches)) told
told-usage a words (Err e) same says matches told =
    nothing_meant words e (fails_as {M = ArgMatches} a words (Err e) same says) (usage-other e (ap fault_left told))
