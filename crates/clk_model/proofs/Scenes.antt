-- What the steps of a script read and change of a state, when that is sound, and when a script goes well over it: whatever enables
-- and disables come between its steps, each active clock stays fed.
use Rattle.std.proofs.Common.{inl, inr}
use Rattle.std.specs.Prelude.{◌≡◌, ◌⊎◌, ℕ, ◌<◌, ◌≤◌, ◌^◌, ◌++◌, List, [], ◌∷◌, Bool, true, false, cond, ◌&&◌, nat_lt, Option, Some, None, filter, length, if◌then◌else◌, option_map, option_and_then, slice_get, map, IfSome}
use Rattle.std.specs.List.{list_all, list_any}
use Rattle.std.specs.Option.{option_map_or}
use Rattle.clk_base.specs.declared.call.Micro.{Micro}
use Rattle.clk_base.specs.declared.call.Micro.TheVariants as micro
use Rattle.clk_base.specs.declared.call.Sleeping.{Sleeping}
use Rattle.clk_base.specs.declared.call.Sleeping.TheVariants as call
use Rattle.clk_base.specs.declared.clock.ClockId.{ClockId}
use Rattle.clk_base.specs.declared.handle.Handle.{Handle}
use Rattle.clk_base.specs.Description.{Description, kind_of, parents_of}
use Rattle.clk_base.specs.Fields.{Field, power_of}
use Rattle.clk_base.specs.Flags.{is_critical}
use Rattle.clk_base.specs.Levels.{depth}
use Rattle.clk_model.specs.declared.row.HandleRow.{HandleRow}
use Rattle.clk_model.specs.Lists.{is_in, count_from, same_place, without_one, to_front}
use Rattle.clk_model.specs.Kinds.{mux_field, is_powered}
use Rattle.clk_model.specs.State.{State, Change, registered, link_in, handle_at}
use Rattle.clk_model.specs.Tree.{path_within, selected, path_to_be}
use Rattle.clk_model.specs.Holders.{clocks_of, is_prepared, prepared}
use Rattle.clk_model.specs.Round.{wiring}
use Rattle.clk_model.specs.Chain.{clock_id}
use Rattle.clk_model.specs.Step.{passed_over, cut_short, to_raise}
use Rattle.clk_model.specs.Wired.{IsWired}
use Rattle.clk_model.specs.Laws.Supplied.{GatesOpen}
use Rattle.clk_model.proofs.AboveLaws.{put_at, held_up, HasRoot}
use Rattle.clk_model.proofs.BelowLaws.{IsUp}

-- ---- scenes

-- the links, the registered clocks, the order of attaching and the parents that the registers select; the clocks of handles with a
-- prepare, and of the handle of each number; what the change in flight holds; and the mux whose field isn't written yet
pub record Scene : Type 0 where
  pub up : ℕ → Option ℕ
  pub there : ℕ → Bool
  pub order : List ℕ
  pub sel : ℕ → Option ℕ
  pub prepares : List ℕ
  pub clock_at : ℕ → Option ℕ
  pub prepare_holds : List ℕ
  pub enable_holds : List ℕ
  pub late : Option ℕ

-- the scene of a state
abbrev pub scene : Option ℕ → State → Scene
scene late s = record {
  up = link_in s.clocks;
  there = registered s.clocks;
  order = s.order;
  sel = selected s.defs s.regs;
  prepares = clocks_of is_prepared s.handles;
  clock_at = λ n. option_map (λ h. h.clock.0) (handle_at s.handles n);
  prepare_holds = s.prepare_holds;
  enable_holds = s.enable_holds;
  late = late;
}

-- the same scene with these holds and this late mux
abbrev pub holding : Scene → List ℕ → List ℕ → Option ℕ → Scene
holding a ps es late = record a { prepare_holds = ps; enable_holds = es; late = late }

-- who keeps clocks prepared besides the change in flight, and with it
abbrev pub keepers : Description → Scene → List ℕ
keepers defs a = a.prepares ++ filter (λ c. is_critical defs c && a.there c) (count_from 0 (length defs))

abbrev pub preparers : Description → Scene → List ℕ
preparers defs a = keepers defs a ++ a.prepare_holds

-- whether a clock is prepared
abbrev pub prepared_in : Description → Scene → ℕ → Bool
prepared_in defs a c = held_up a.up (preparers defs a) c

-- the clock that feeds a clock whose link is p
abbrev pub fed_by : Description → Scene → ℕ → ℕ → Option ℕ
fed_by defs a c p = option_map_or (λ f. a.sel c) (mux_field (kind_of defs c)) (Some p)

-- the parent that a registration would give, and the path
abbrev pub given_in : Scene → ℕ → Option ℕ
given_in a c = option_and_then (λ p. if a.there p then Some p else None) (a.sel c)

abbrev pub to_be : Scene → ℕ → List ℕ
to_be a x = if a.there x then path_within a.up depth x else x ∷ option_map_or (path_within a.up depth) (given_in a x) []

-- ---- sound scenes

-- links lead to possible parents, and from registered clocks to registered ones; the clock of each handle has a root; and what is
-- listed is registered, or no clock of the description
pub record IsTree (defs : Description) (up : ℕ → Option ℕ) (there : ℕ → Bool) (clock_at : ℕ → Option ℕ) (order : List ℕ) : Type 0 where
  pub possible : IsUp (parents_of defs) up
  pub linked : (c p : ℕ) → up c ≡ Some p → (there c ≡ true) × (there p ≡ true)
  pub rooted : (n c : ℕ) → clock_at n ≡ Some c → (there c ≡ true) × HasRoot defs up c
  pub listed : (c : ℕ) → is_in c order ≡ true → (there c ≡ true) ⊎ (length defs ≤ c)

-- a late mux is fed by a clock that is held enabled
abbrev pub IsHeldLate : Description → Scene → Type 0
IsHeldLate defs a = (c p : ℕ) → a.late ≡ Some c → a.up c ≡ Some p → prepared_in defs a c ≡ true
    → (o : ℕ) × (fed_by defs a c p ≡ Some o) × (held_up a.up a.enable_holds o ≡ true)

-- each clock with a link is fed by it, but for a late mux; and what is held enabled is prepared
pub record IsSound (defs : Description) (a : Scene) : Type 0 where
  pub tree : IsTree defs a.up a.there a.clock_at a.order
  pub fed : (c p : ℕ) → a.up c ≡ Some p → (fed_by defs a c p ≡ Some p) ⊎ (a.late ≡ Some c)
  pub late_held : IsHeldLate defs a
  pub holds : (h : ℕ) → is_in h a.enable_holds ≡ true → prepared_in defs a h ≡ true

-- nothing is held, and no mux is late
pub record IsFree (a : Scene) : Type 0 where
  pub prepares : a.prepare_holds ≡ []
  pub enables : a.enable_holds ≡ []
  pub late : a.late ≡ None

-- ---- steps

-- the scene after a step
abbrev pub after : Description → Scene → Micro → Scene
after defs a (micro.HoldPrepare x) = record a { prepare_holds = x.0 ∷ a.prepare_holds }
after defs a (micro.HoldEnable x) = record a { enable_holds = x.0 ∷ a.enable_holds }
after defs a (micro.Relink c p) = record a {
  up = put_at c.0 (Some p.0) a.up;
  order = to_front c.0 a.order;
  prepare_holds = passed_over p.0 (a.up c.0) a.prepare_holds;
  enable_holds = passed_over p.0 (a.up c.0) a.enable_holds;
  late = cond (same_place (fed_by defs a c.0 p.0) (Some p.0)) None (Some c.0);
}
after defs a (micro.WriteMux c place) = record a {
  sel = put_at c.0 (option_map_or (λ f. slice_get (parents_of defs c.0) place) (mux_field (kind_of defs c.0)) (a.sel c.0)) a.sel;
  late = None;
}
after defs a (micro.DropEnable x) = record a { enable_holds = without_one x.0 a.enable_holds }
after defs a (micro.DropPrepare x) = record a { prepare_holds = without_one x.0 a.prepare_holds }
after defs a (micro.Register c) = record a {
  up = cond (nat_lt c.0 (length defs)) (put_at c.0 (given_in a c.0) a.up) a.up;
  there = cond (nat_lt c.0 (length defs)) (put_at c.0 true a.there) a.there;
  order = to_front c.0 a.order;
}
after defs a _ = a

-- whether a step can be one of a script that is neither a raise nor the end
abbrev pub is_plain : Micro → Bool
is_plain (micro.Raise x) = false
is_plain (micro.Poll y) = false
is_plain (micro.Fall y) = false
is_plain micro.End = false
is_plain _ = true

-- a clock that gets a new link is held enabled, and its new parent is, or nobody prepares it and nothing is held enabled
abbrev pub IsHeldToMove : Description → Scene → ℕ → ℕ → Type 0
IsHeldToMove defs a c p = ((is_in c a.enable_holds ≡ true) × (is_in p a.enable_holds ≡ true)) ⊎ ((prepared_in defs a c ≡ false) × (a.enable_holds ≡ []))

-- what a step needs, if the paths of the clocks of cover were raised for the holds to come: these come in the order of the raises,
-- with enable holds between them; else a new link leads to a possible parent and is held for, a place fits the field, and what loses
-- its power isn't prepared
abbrev pub Serves : Description → List ℕ → Scene → Micro → Type 0
Serves defs [] a (micro.Unpower c) = prepared_in defs a c.0 ≡ false
Serves defs [] a (micro.Relink c p) = (is_in p.0 (parents_of defs c.0) ≡ true) × IsHeldToMove defs a c.0 p.0
Serves defs [] a (micro.WriteMux c place) = (f : Field) → mux_field (kind_of defs c.0) ≡ Some f → place < 2 ^ f.width
Serves defs [] a _ = Unit {0}
Serves defs (x ∷ xs) a (micro.HoldPrepare y) = (y.0 ≡ x) × (a.there x ≡ true)
Serves defs (x ∷ xs) a (micro.HoldEnable y) = Unit {0}
Serves defs (x ∷ xs) a (micro.Register y) = (y.0 ≡ x) × (xs ≡ [])
Serves defs (x ∷ xs) a _ = ⊥

-- what is still covered after a step
abbrev pub uncovers : Micro → List ℕ → List ℕ
uncovers (micro.HoldPrepare y) [] = []
uncovers (micro.HoldPrepare y) (x ∷ xs) = xs
uncovers (micro.HoldEnable y) cover = cover
uncovers _ cover = []

-- a clock is on a path that was raised
abbrev pub IsCovered : List ℕ → Scene → ℕ → Type 0
IsCovered [] a c = ⊥
IsCovered (x ∷ []) a c = is_in c (to_be a x) ≡ true
IsCovered (x ∷ y ∷ ys) a c = (is_in c (to_be a x) ≡ true) ⊎ IsCovered (y ∷ ys) a c

-- a step prepares no clock but those that were raised for it
abbrev pub Grows : Description → List ℕ → Scene → Scene → Type 0
Grows defs cover a b = (c : ℕ) → prepared_in defs b c ≡ true → (prepared_in defs a c ≡ true) ⊎ IsCovered cover a c

-- whether a step lets go of a clock on the path that the lower behind it lowers
abbrev pub LowersNext : Scene → Micro → List Micro → ℕ → Type 0
LowersNext a (micro.DropPrepare o) (micro.Lower x ∷ ms) c = is_in c (path_within a.up depth x.0) ≡ true
LowersNext a _ _ c = ⊥

-- or is on a path that was raised and isn't held yet
abbrev pub OrCovered : List ℕ → Scene → ℕ → Type 0 → Type 0
OrCovered [] a c P = P
OrCovered (x ∷ xs) a c P = P ⊎ IsCovered (x ∷ xs) a c

-- what is prepared before a step, or was raised for it, is prepared after it, or raised still, unless the lower that comes next
-- lowers it
abbrev pub Stays : Description → List ℕ → Scene → Micro → List Micro → Type 0
Stays defs cover a m ms = (c : ℕ) → (prepared_in defs a c ≡ true) ⊎ IsCovered cover a c
    → OrCovered (uncovers m cover) (after defs a m) c ((prepared_in defs (after defs a m) c ≡ true) ⊎ LowersNext a m ms c)

-- where nothing was raised
pub uncovered : {P Q : Type 0} → P ⊎ ⊥ → P ⊎ Q
uncovered (inl p) = inl p
uncovered (inr never) = absurd never

-- only the end of a prepare comes behind a raise, and there no poll has timed out
abbrev pub EndsRaise : Sleeping → Bool → List ℕ → Type 0
EndsRaise what timed [] = Unit {0}
EndsRaise what timed (x ∷ xs) = (timed ≡ false) × ((h : Handle) × (what ≡ call.Prepare h))

-- at the end of a prepare the path of its clock was raised, unless a poll has timed out
abbrev pub EndsPrepare : Sleeping → Bool → List ℕ → Scene → Type 0
EndsPrepare what timed cover a = (h : Handle) → what ≡ call.Prepare h
    → (timed ≡ true) ⊎ ((x : ℕ) × (cover ≡ x ∷ []) × (a.there x ≡ true) × (a.clock_at h.number ≡ Some x))

-- what is left of a script goes well over a scene: each scene on the way is sound, also where a poll times out; what was raised is
-- there for the steps after it, and nothing is held while more is raised
pub data GoesWell (defs : Description) (what : Sleeping) : Bool → List ℕ → Scene → List Micro → Type 0 where
  raises : {timed : Bool} {cover : List ℕ} {a : Scene} {ms : List Micro} (x : ClockId) → IsSound defs a → GoesWell defs what timed (cover ++ x.0 ∷ []) a ms
      → GoesWell defs what true [] a (cut_short what ms) → GoesWell defs what timed cover a (micro.Raise x ∷ ms)
  makes : {timed : Bool} {cover : List ℕ} {a : Scene} {ms : List Micro} (m : Micro) → is_plain m ≡ true → IsSound defs a → Serves defs cover a m
      → Grows defs cover a (after defs a m) → Stays defs cover a m ms → GoesWell defs what timed (uncovers m cover) (after defs a m) ms → GoesWell defs what timed cover a (m ∷ ms)
  ends : {timed : Bool} {cover : List ℕ} {a : Scene} → IsSound defs a → IsFree a → EndsRaise what timed cover → EndsPrepare what timed cover a → GoesWell defs what timed cover a (micro.End ∷ [])

-- ---- safe states

-- a handle with an enable has a prepare
abbrev pub EnablesPrepared : List (Option HandleRow) → Type 0
EnablesPrepared handles = (n : ℕ) (h : HandleRow) → handle_at handles n ≡ Some h → 0 < h.enables → 0 < h.prepares

-- the PLLs of prepared clocks are powered
abbrev pub PowersOn : State → Type 0
PowersOn s = (c : ℕ) → prepared s c ≡ true → IfSome (power_of (kind_of s.defs c)) (λ power. is_powered s.regs power ≡ true)

-- a state in which each active clock is fed, and stays so whatever enables and disables come
pub record IsSafe (late : Option ℕ) (s : State) : Type 0 where
  pub wired : IsWired (length s.regs) (wiring s)
  pub sound : IsSound s.defs (scene late s)
  pub enables : EnablesPrepared s.handles
  pub powers : PowersOn s
  pub gates : GatesOpen s s

-- whether a clock is on the path of one of these
abbrev pub is_over : State → List ℕ → ℕ → Bool
is_over s xs y = list_any (λ x. is_in y (path_to_be s.defs s.regs s.clocks x)) xs

-- the PLLs that a change has raised: on the paths of these clocks, powered, and unprepared
pub record RaisedWell (s : State) (k : Change) (xs : List ℕ) : Type 0 where
  pub within : (y : ℕ) → is_in y k.raised ≡ true → is_over s xs y ≡ true
  pub powered : (y : ℕ) → is_in y k.raised ≡ true → IfSome (power_of (kind_of s.defs y)) (λ power. is_powered s.regs power ≡ true)
  pub unprepared : (y : ℕ) → is_in y k.raised ≡ true → prepared s y ≡ false

-- none is left to be raised for these clocks
abbrev pub AllRaised : State → Change → List ℕ → Type 0
AllRaised s k xs = (x : ℕ) → is_in x xs ≡ true → to_raise s k x ≡ []

-- what stands before a script while the path of x is raised: the poll of a PLL, after which none is left or the raise comes
-- again, or that raise
pub data RaisingFront (s : State) (k : Change) (x : ℕ) : Type 0 where
  asks : (y : ClockId) → k.front ≡ micro.Poll y ∷ [] → to_raise s k x ≡ [] → RaisingFront s k x
  asks_first : (y : ClockId) → k.front ≡ micro.Poll y ∷ micro.Raise (clock_id x) ∷ [] → RaisingFront s k x
  comes_again : k.front ≡ micro.Raise (clock_id x) ∷ [] → RaisingFront s k x

-- whether a step in front of a script leaves the scene: a notice, or a lower that comes again
abbrev pub is_calm : Micro → Bool
is_calm (micro.Notify kind c id old new) = true
is_calm (micro.Lower x) = true
is_calm _ = false

-- how far a change has come: it is between its raises, with the falls of what was raised and calm steps first; after raises, before what
-- was raised is held; or raising the path of a clock
pub data Stands (s : State) (k : Change) (late : Option ℕ) : Type 0 where
  calm : (rest : List Micro) → k.front ≡ map (λ y. micro.Fall (clock_id y)) k.raised ++ rest → list_all is_calm rest ≡ true
      → ((y : ℕ) → is_in y k.raised ≡ true → prepared s y ≡ false) → GoesWell s.defs k.call k.timed_out [] (scene late s) k.left → Stands s k late
  covered : (xs : List ℕ) → k.front ≡ [] → RaisedWell s k xs → AllRaised s k xs → GoesWell s.defs k.call k.timed_out xs (scene late s) k.left → Stands s k late
  raising : (done : List ℕ) (x : ℕ) → RaisedWell s k (done ++ x ∷ []) → AllRaised s k done → RaisingFront s k x → GoesWell s.defs k.call k.timed_out (done ++ x ∷ []) (scene late s) k.left
      → GoesWell s.defs k.call true [] (scene late s) (cut_short k.call k.left) → Stands s k late

-- a call in flight is safe, and its change stands so
pub record InCall (s : State) (k : Change) : Type 0 where
  pub late : Option ℕ
  pub safe : IsSafe late s
  pub stands : Stands s k late

-- while no call is in flight a state is safe, and nothing is held
pub record IsAtRest (s : State) : Type 0 where
  pub safe : IsSafe None s
  pub prepares : s.prepare_holds ≡ []
  pub enables : s.enable_holds ≡ []
