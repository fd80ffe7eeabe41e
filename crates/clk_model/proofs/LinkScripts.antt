-- Laws on scripts: the steps of each script link possible parents.
use Rattle.std.proofs.Common.{sym, ◌≡◌, ℕ, Bool, true, false, cond, ◌&&◌, ◌||◌, List, [], ◌∷◌, ◌++◌, map, Option, Some, None, refl, ap, ◌∙◌}
use Rattle.std.specs.Prelude.{slice_index, not, if◌then◌else◌}
use Rattle.std.specs.List.{list_all, list_any, AllByRecursion}
use Rattle.std.specs.Option.{option_map_or}
use Rattle.std.proofs.lemmas.List.Folds.{list_all-append}
use Rattle.clk_base.specs.declared.call.Micro.{Micro}
use Rattle.clk_base.specs.declared.call.Micro.TheVariants as micro
use Rattle.clk_base.specs.declared.call.Notice.TheVariants as notice
use Rattle.clk_base.specs.declared.call.Sleeping.{Sleeping}
use Rattle.clk_base.specs.Description.{Description, parents_of}
use Rattle.clk_model.specs.declared.row.ClockRow.{ClockRow}
use Rattle.clk_model.specs.Lists.{is_in}
use Rattle.clk_model.specs.State.{State, ChainStep, NotifierRow, link_in}
use Rattle.clk_model.specs.Tree.{link_given}
use Rattle.clk_model.specs.Holders.{prepared}
use Rattle.clk_model.specs.Round.{Wiring, wiring}
use Rattle.clk_model.specs.Chain.{clock_id}
use Rattle.clk_model.specs.Notices.{Rates, notifiers_of, abort_list, post_list}
use Rattle.clk_model.specs.Script.{unfeed, planned, move, move_of, adoption, probe_script, sweep_script}
use Rattle.clk_model.specs.Step.{cut_short}
use Rattle.clk_model.specs.Laws.Plans.{HasParent}
use Rattle.clk_model.specs.Laws.LinksKept.{links_possible}
use Rattle.clk_model.proofs.Members.{both_left, both_right}
use Rattle.clk_model.proofs.PllLaws.{link_given_possible}
use Rattle.clk_model.proofs.NoneLaws.{none_front, none_rest}
use Rattle.clk_model.proofs.BeginLaws.{sweep_has_no}
use Rattle.clk_model.proofs.ScriptLaws.{NoMove, none_aborts, none_move_of, none_visit, none_planned, none_probe, none_cut}
use Rattle.clk_model.proofs.FeedLaws.{NoFeeding}
use Rattle.clk_base.specs.Flags.{runs_parent}
use Rattle.std.proofs.lemmas.Bool.{and_from}
use Rattle.clk_model.proofs.ChainStepLaws.{AllSteps-more}

-- ---- lists of steps

-- all of these steps link possible parents
abbrev pub AllLink : Description → List Micro → Type 0
AllLink defs ms = list_all (links_possible defs) ms ≡ true

pub link_append : (defs : Description) (xs ys : List Micro) → AllLink defs xs → AllLink defs ys → AllLink defs (xs ++ ys)
link_append defs xs ys e f = list_all-append (links_possible defs) xs ys ∙ and_from (list_all (links_possible defs) xs) (list_all (links_possible defs) ys) e f

pub link_front : (defs : Description) (xs ys : List Micro) → AllLink defs (xs ++ ys) → AllLink defs xs
link_front defs [] ys all = refl
link_front defs (x ∷ xs) ys all =
    and_from (links_possible defs x) (list_all (links_possible defs) xs) (both_left (links_possible defs x) (list_all (links_possible defs) (xs ++ ys)) all)
    (link_front defs xs ys (both_right (links_possible defs x) (list_all (links_possible defs) (xs ++ ys)) all))

pub link_left : (defs : Description) (xs ys : List Micro) → AllLink defs (xs ++ ys) → AllLink defs ys
link_left defs [] ys all = all
link_left defs (x ∷ xs) ys all = link_left defs xs ys (both_right (links_possible defs x) (list_all (links_possible defs) (xs ++ ys)) all)

pub link_map : {X : Type 0} (defs : Description) (f : X → Micro) (xs : List X) → ((x : X) → links_possible defs (f x) ≡ true) → AllLink defs (map f xs)
link_map defs f [] each = refl
link_map defs f (x ∷ xs) each = and_from (links_possible defs (f x)) (list_all (links_possible defs) (map f xs)) (each x) (link_map defs f xs each)

-- whether a step links what is no possible parent
abbrev strays : Description → Micro → Bool
strays defs m = not (links_possible defs m)

-- where no step strays all link possible parents, and the other way round
none_stray : (defs : Description) (ms : List Micro) → list_any (strays defs) ms ≡ false → AllLink defs ms
none_stray defs [] none = refl
none_stray defs (m ∷ ms) none = one (links_possible defs m) (none_front (strays defs) m ms none) (none_stray defs ms (none_rest (strays defs) m ms none)) where
  one : (t : Bool) → not t ≡ false → AllLink defs ms → (t && list_all (links_possible defs) ms) ≡ true
  one true e rest = rest
  one false e rest = absurd cc

all_stay : (defs : Description) (ms : List Micro) → AllLink defs ms → list_any (strays defs) ms ≡ false
all_stay defs [] all = refl
all_stay defs (m ∷ ms) all =
    ap (λ (t : Bool). not t || list_any (strays defs) ms) (both_left (links_possible defs m) (list_all (links_possible defs) ms) all)
    ∙ all_stay defs ms (both_right (links_possible defs m) (list_all (links_possible defs) ms) all)

pub link_aborts : (defs : Description) (rates : Rates) (ns : List NotifierRow) (cs : List ℕ) → AllLink defs (abort_list rates ns cs)
link_aborts defs rates ns cs = none_stray defs (abort_list rates ns cs) (none_aborts (strays defs) rates ns cs (λ kind c id old new. refl))

pub link_posts : (defs : Description) (rates : Rates) (ns : List NotifierRow) (c : ℕ) → AllLink defs (post_list rates ns c)
link_posts defs rates ns c =
    link_map defs (λ (n : NotifierRow). micro.Notify notice.Post (clock_id c) n.id (slice_index rates.before c) (slice_index rates.outcome c)) (notifiers_of ns c) (λ n. refl)

-- ---- moves

move_stays : (defs : Description) (clocks : List ClockRow) (prep : ℕ → Bool) (c p : ℕ) → is_in p (parents_of defs c) ≡ true → list_any (strays defs) (move defs clocks prep c p) ≡ false
move_stays defs clocks prep c p possible = either (prep c) _ _ (own _ (lets (link_in clocks c))) (either (runs_parent defs c) _ _ (own _ (more (link_in clocks c))) (own _ refl)) where
  own : (b : Bool) → b ≡ false → (strays defs (micro.Relink (clock_id c) (clock_id p)) || b) ≡ false
  own b e = ap (λ (t : Bool). not t || b) possible ∙ e

  lets : (l : Option ℕ) → list_any (strays defs) (option_map_or unfeed l []) ≡ false
  lets None = refl
  lets (Some o) = refl

  more : (l : Option ℕ) → list_any (strays defs) (option_map_or unfeed l [] ++ unfeed c) ≡ false
  more None = refl
  more (Some o) = refl

  either : (t : Bool) (xs ys : List Micro) → list_any (strays defs) xs ≡ false → list_any (strays defs) ys ≡ false → list_any (strays defs) (cond t xs ys) ≡ false
  either true xs ys e f = e
  either false xs ys e f = f

-- the move of a clock links its planned parent, which is a possible one
move_of_stays : (w : Wiring) (clocks : List ClockRow) (prep : ℕ → Bool) (ks : List ChainStep) (c : ℕ) → AllByRecursion (HasParent w) ks
    → list_any (strays w.defs) (move_of w.defs clocks prep ks c) ≡ false
move_of_stays w clocks prep ks c parents =
    none_move_of (strays w.defs) w.defs clocks prep ks c
    (AllSteps-more (HasParent w) (NoMove (strays w.defs) w.defs clocks prep c) ks
    (λ k has same p up. move_stays w.defs clocks prep c p (ap (λ (x : ℕ). is_in p (parents_of w.defs x)) (sym same) ∙ has.possible p up)) parents)

-- ---- scripts

feeding_stays : (defs : Description) → NoFeeding (strays defs)
feeding_stays defs (micro.Relink c p) e = absurd cc
feeding_stays defs m e = refl

-- a planned script links possible parents
pub link_planned : (s : State) (ks : List ChainStep) (settles : List Micro) → AllByRecursion (HasParent (wiring s)) ks → AllLink s.defs settles
    → AllLink s.defs (planned s ks settles).steps
link_planned s ks settles parents all =
    none_stray s.defs (planned s ks settles).steps
    (none_planned (strays s.defs) s ks settles (λ kind c id old new. refl) (λ c. move_of_stays (wiring s) s.clocks (prepared s) ks c parents) (λ c. none_visit (strays s.defs) s.defs s.clocks ks c (feeding_stays s.defs) refl)
    (all_stay s.defs settles all) refl)

-- an adoption links what a registration would link
adoption_stays : (s : State) (a : ℕ) → list_any (strays s.defs) (adoption s a) ≡ false
adoption_stays s a = one (link_given s.defs s.regs s.clocks a) (prepared s a) (λ p e. link_given_possible s.defs s.regs s.clocks a p e) where
  own : (p : ℕ) (b : Bool) → is_in p (parents_of s.defs a) ≡ true → b ≡ false → (strays s.defs (micro.Relink (clock_id a) (clock_id p)) || b) ≡ false
  own p b possible e = ap (λ (t : Bool). not t || b) possible ∙ e

  one : (o : Option ℕ) (t : Bool) → ((p : ℕ) → o ≡ Some p → is_in p (parents_of s.defs a) ≡ true) → list_any (strays s.defs) (option_map_or (λ p.
      if t
      then micro.Raise (clock_id p) ∷ micro.HoldPrepare (clock_id p) ∷ micro.HoldEnable (clock_id p) ∷ micro.HoldEnable (clock_id a)
      ∷ micro.Relink (clock_id a) (clock_id p) ∷ micro.DropEnable (clock_id a) ∷ micro.Settle (clock_id a) ∷ []
      else micro.Relink (clock_id a) (clock_id p) ∷ micro.Settle (clock_id a) ∷ []) o []) ≡ false
  one None t possible = refl
  one (Some p) true possible = own p false (possible p refl) refl
  one (Some p) false possible = own p false (possible p refl) refl

pub link_probe : (s : State) (c : ℕ) → AllLink s.defs (probe_script s c)
link_probe s c = none_stray s.defs (probe_script s c) (none_probe (strays s.defs) s c refl refl (λ a m. adoption_stays s a) refl)

pub link_sweep : (s : State) → AllLink s.defs (sweep_script s)
link_sweep s = none_stray s.defs (sweep_script s) (sweep_has_no (strays s.defs) s (feeding_stays s.defs) (λ c. refl) (λ c. refl) refl)

-- ---- timing out

-- what a timeout leaves links possible parents
pub link_cut : (defs : Description) (what : Sleeping) (ms : List Micro) → AllLink defs ms → AllLink defs (cut_short what ms)
link_cut defs what ms all = none_stray defs (cut_short what ms) (none_cut (strays defs) what ms (all_stay defs ms all))
