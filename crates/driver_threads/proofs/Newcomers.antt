-- Driver 0 makes a driver for each script, one after the other.
use Rattle.std.proofs.Common.{◌≡◌, ℕ, suc, ◌+◌, ◌-◌, ◌<◌, ◌≤◌, List, [], ◌∷◌, ◌++◌, sym, ap, subst, ◌∙◌, arith, length, map, take, drop, get_or, add-zero, sum_by}
use Rattle.std.proofs.lemmas.List.{map-append, take_more, length-map, length-take}
use Rattle.std.proofs.lemmas.List.Sums.{sum_by-drop_more}
use Rattle.atomic_table.specs.Seated.{TableId}
use Rattle.clk_base.specs.declared.command.Command.{Command}
use Rattle.tier_lock.specs.Known.{parted, next_pass}
use Rattle.clk_framework.specs.Calls.{DriverView, IsReady}
use Rattle.drv_scripts.specs.declared.bundle.Script.{Script}
use Rattle.drv_scripts.specs.Placed.{IsScript, NamePlaces}
use Rattle.driver_runs.proofs.Going.{element}
use Rattle.driver_threads.specs.Going.{MayRun}
use Rattle.driver_threads.specs.Workers.{MayMake, HasMade, newcomer, newcomers}

-- the commands of a script, and how many they are
abbrev pub commands_of : Script → List Command
commands_of s = s.commands

-- ---- one element more

pub map_more : {X Y : Type 0} (f : X → Y) (xs xs' : List X) (x : X) (ys : List Y) (y : Y) → map f xs ≡ ys → xs' ≡ xs ++ x ∷ [] → f x ≡ y → map f xs' ≡ ys ++ y ∷ []
map_more {Y = Y} f xs xs' x ys y so_far more is =
    ap (map f) more ∙ map-append f xs (x ∷ []) ∙ ap (λ (l : List Y). l ++ f x ∷ []) so_far ∙ ap (λ (z : Y). ys ++ z ∷ []) is

pub commands_more : (scripts : List Script) (i : ℕ) (s : Script) → i < length scripts → s ≡ get_or scripts i s
    → map commands_of (take (i + 1) scripts) ≡ map commands_of (take i scripts) ++ s.commands ∷ []
commands_more scripts i s within is =
    ap (map commands_of) (take_more scripts i s within ∙ ap (λ (x : Script). take i scripts ++ x ∷ []) (sym is)) ∙ map-append commands_of (take i scripts) (s ∷ [])

-- ---- driver 0

pub made_more : (old mid new : DriverView) (i n : ℕ) → HasMade old i mid → new ≡ parted n mid → HasMade old (i + 1) new
made_more old mid new i n made parts =
    let before = ap (λ (d : DriverView). d.made) made in
    let count : mid.made + 1 ≡ old.made + (i + 1) = omega (arith, before) in
    parts ∙ ap (λ (d : DriverView). let e : DriverView = record d { made = mid.made + 1; room = mid.room - n } in e) made
    ∙ ap (λ (k : ℕ). let e : DriverView = record old { made = k; room = mid.room - n } in e) count
    ∙ ap (λ (k : ℕ). let e : DriverView = record old { made = old.made + (i + 1); room = k } in e) (sym (ap (λ (d : DriverView). d.room) parts))

-- it may make the next one
pub record MayNext (table : TableId) (d : DriverView) (credits : ℕ) : Type 0 where
  pub ready : IsReady table d
  pub number : d.number ≡ 0
  pub room : credits ≤ d.room
  pub few : d.made < 4294967295

module _ (table : TableId) (old mid : DriverView) (scripts : List Script) (i : ℕ) (s : Script) (may : MayMake table old scripts) (made : HasMade old i mid) (within : i < length scripts)
    (is : s ≡ get_or scripts i s) (enough : sum_by (λ x. length x.commands) (drop i scripts) ≤ mid.room) where
  this : length s.commands ≡ length (get_or scripts i s).commands
  this = ap (λ (x : Script). length x.commands) is

  left : sum_by (λ x. length x.commands) (drop i scripts) ≡ length (get_or scripts i s).commands + sum_by (λ x. length x.commands) (drop (i + 1) scripts)
  left = let more = sum_by-drop_more (λ (x : Script). length x.commands) scripts i s within in omega (arith, more)

  pub may_next_driver : MayNext table mid (length s.commands)
  may_next_driver = record {
    ready = record {
      table_is = ap (λ (d : DriverView). d.table) made ∙ may.ready.table_is;
      turn = ap (λ (d : DriverView). d.turn) made ∙ may.ready.turn;
      baton = ap (λ (d : DriverView). d.baton) made ∙ may.ready.baton;
    };
    number = ap (λ (d : DriverView). d.number) made ∙ may.number;
    room = omega (arith, this, left, enough);
    few = let count = ap (λ (d : DriverView). d.made) made in let all = may.few in omega (arith, count, all, within);
  }

  pub credits_next : (new : DriverView) → new ≡ parted (length s.commands) mid → sum_by (λ x. length x.commands) (drop (i + 1) scripts) ≤ new.room
  credits_next new parts = let room = ap (λ (d : DriverView). d.room) parts in omega (arith, this, left, enough, room)

  -- the next driver may run its script
  pub may_work : (d : DriverView) (commands : List Command) → d ≡ next_pass (length s.commands) mid → commands ≡ s.commands → MayRun table d commands
  may_work d commands new same =
      let fixed : d.fixed ≡ old.fixed = ap (λ (p : DriverView). p.fixed) new ∙ ap (λ (p : DriverView). p.fixed) made in
      subst (λ (cs : List Command). MayRun table d cs) (sym same) record {
        ready = record {
          table_is = ap (λ (p : DriverView). p.table) new ∙ ap (λ (p : DriverView). p.table) made ∙ may.ready.table_is;
          turn = ap (λ (p : DriverView). p.turn) new;
          baton = ap (λ (p : DriverView). p.baton) new;
        };
        credits = let room = ap (λ (p : DriverView). p.room) new in omega (arith, room);
        opened = may.opened;
        knows = fixed ∙ may.knows;
        places = subst (λ (x : Script). NamePlaces (length may.opened.defs) x.commands) (sym is) (element (IsScript (length may.opened.defs)) scripts i s may.placed within).placed;
      }

-- ---- the new drivers

newcomers_more : (first : DriverView) (number : ℕ) (xs : List (List Command)) (commands : List Command)
    → newcomers first number (xs ++ commands ∷ []) ≡ newcomers first number xs ++ newcomer first (number + length xs) commands ∷ []
newcomers_more first number [] commands = ap (λ (n : ℕ). newcomer first n commands ∷ []) (sym (add-zero number))
newcomers_more first number (x ∷ xs) commands =
    let sum : number + 1 + length xs ≡ number + suc (length xs) = omega arith in
    ap (λ (ds : List DriverView). newcomer first number x ∷ ds) (newcomers_more first (number + 1) xs commands)
    ∙ ap (λ (n : ℕ). newcomer first number x ∷ (newcomers first (number + 1) xs ++ newcomer first n commands ∷ [])) sum

pub newcomers_next : (old mid d : DriverView) (scripts : List Script) (i : ℕ) (s : Script) (ds : List DriverView) → HasMade old i mid → i < length scripts → s ≡ get_or scripts i s
    → ds ≡ newcomers old old.made (map commands_of (take i scripts)) → d ≡ next_pass (length s.commands) mid
    → ds ++ d ∷ [] ≡ newcomers old old.made (map commands_of (take (i + 1) scripts))
newcomers_next old mid d scripts i s ds made within is so_far new =
    let done = map commands_of (take i scripts) in
    let count : length done ≡ i = length-map (take i scripts) commands_of ∙ few in
    ap (λ (es : List DriverView). es ++ d ∷ []) so_far
    ∙ ap (λ (e : DriverView). newcomers old old.made done ++ e ∷ []) (new ∙ ap (λ (p : DriverView). next_pass (length s.commands) p) made)
    ∙ ap (λ (n : ℕ). newcomers old old.made done ++ newcomer old (old.made + n) s.commands ∷ []) (sym count)
    ∙ sym (newcomers_more old old.made done s.commands)
    ∙ ap (λ (cs : List (List Command)). newcomers old old.made cs) (sym (commands_more scripts i s within is)) where
      few : length (take i scripts) ≡ i
      few = let is = length-take i scripts in omega (arith, is)
