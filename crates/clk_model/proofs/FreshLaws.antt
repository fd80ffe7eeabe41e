-- Laws on beginnings: a call that goes on begins with a paced change.
use Rattle.std.proofs.Common.{◌≡◌, ℕ, ◌+◌, ◌≤◌, Bool, true, false, not, ◌&&◌, ◌||◌, cond, List, [], ◌∷◌, ◌++◌, map, Option, Some, None, refl, ap, ◌∙◌, inl, inr, arith, length, nat_lt}
use Rattle.std.specs.Prelude.{◌==◌, flat_map, filter, is_none, slice_get, slice_index, if◌then◌else◌}
use Rattle.std.specs.List.{list_all, list_any}
use Rattle.std.specs.Option.{option_map_or}
use Rattle.std.proofs.lemmas.List.{length-map, length-append}
use Rattle.std.proofs.lemmas.List.Folds.{list_all-append}
use Rattle.std.proofs.lemmas.List.Sums.{sum_by-cons}
use Rattle.clk_base.specs.declared.call.Micro.{Micro}
use Rattle.clk_base.specs.declared.call.Micro.TheVariants as micro
use Rattle.clk_base.specs.declared.call.Notice.TheVariants as notice
use Rattle.clk_base.specs.declared.call.Sleeping.{Sleeping}
use Rattle.clk_base.specs.declared.event.Errno.TheVariants as errno
use Rattle.clk_base.specs.declared.event.Reply.{Reply}
use Rattle.clk_base.specs.declared.event.Reply.TheVariants as reply
use Rattle.clk_base.specs.declared.event.Turn.{Turn}
use Rattle.clk_base.specs.declared.event.Turn.TheVariants as turn
use Rattle.clk_base.specs.Description.{Description}
use Rattle.clk_base.specs.Flags.{runs_parent, ignores_unused, is_critical}
use Rattle.clk_model.specs.declared.row.ClockRow.{ClockRow}
use Rattle.clk_model.specs.declared.row.HandleRow.{HandleRow}
use Rattle.clk_model.specs.State.{State, Change, ChainStep, NotifierRow, link_in}
use Rattle.clk_model.specs.Tree.{link_given}
use Rattle.clk_model.specs.Holders.{active, prepared}
use Rattle.clk_model.specs.Round.{Wiring, wiring}
use Rattle.clk_model.specs.Chain.{clock_id, moves, outcome}
use Rattle.clk_model.specs.Walk.{walk, changing, rates_in}
use Rattle.clk_model.specs.Notices.{Rates, vetoes, notifiers_of, until_veto, is_veto, pre_list, abort_list}
use Rattle.clk_model.specs.Script.{unfeed, fed_step, runs_for, visit_of, close_of, planned, move, move_of, adoption, adoptable, adoption_order, probe_script, lets_through, runs, sweep_order, sweep_script, is_raise, notices_of}
use Rattle.clk_model.proofs.ScriptLaws.{is_moving, moves_are_moving}
use Rattle.clk_model.specs.Begin.{refused, pick, most_credits, weight_of, starts, change_of, change_along, own_handle, with_handle, reparenting}
use Rattle.clk_model.specs.Step.{is_end, sets_parent, aborts_of}
use Rattle.clk_model.specs.Machine.{is_poll}
use Rattle.clk_model.specs.Laws.Paced.{may_time_out, is_scripted, ends_last}
use Rattle.clk_model.proofs.Members.{both_left, both_right, or_cases, or_left, or_right}
use Rattle.std.proofs.lemmas.Bool.{and_from}

-- ---- scripts

-- a step that a script may have before its end
abbrev is_inner : Micro → Bool
is_inner m = is_scripted m && not (is_end m)

-- steps of a script, with nothing behind an end
pub record IsScript (ms : List Micro) : Type 0 where
  pub scripted : list_all is_scripted ms ≡ true
  pub last : ends_last ms ≡ true

not_end : (t u : Bool) → not t ≡ true → (not t || u) ≡ true
not_end true u e = absurd cc
not_end false u e = refl

script_more : (xs ys : List Micro) → list_all is_inner xs ≡ true → IsScript ys → IsScript (xs ++ ys)
script_more [] ys all rest = rest
script_more (x ∷ xs) ys all rest =
    let here = both_left (is_inner x) (list_all is_inner xs) all in
    let more = script_more xs ys (both_right (is_inner x) (list_all is_inner xs) all) rest in
    record {
      scripted = and_from (is_scripted x) (list_all is_scripted (xs ++ ys)) (both_left (is_scripted x) (not (is_end x)) here) more.scripted;
      last = and_from (not (is_end x) || is_none (slice_get (xs ++ ys) 0)) (ends_last (xs ++ ys))
          (not_end (is_end x) (is_none (slice_get (xs ++ ys) 0)) (both_right (is_scripted x) (not (is_end x)) here)) more.last;
    }

only_end : IsScript (micro.End ∷ [])
only_end = record { scripted = refl; last = refl }

all_append : (xs ys : List Micro) → list_all is_inner xs ≡ true → list_all is_inner ys ≡ true → list_all is_inner (xs ++ ys) ≡ true
all_append xs ys e f = list_all-append is_inner xs ys ∙ and_from (list_all is_inner xs) (list_all is_inner ys) e f

all_flat_map : {X : Type 0} (f : X → List Micro) (xs : List X) → ((x : X) → list_all is_inner (f x) ≡ true) → list_all is_inner (flat_map f xs) ≡ true
all_flat_map f [] each = refl
all_flat_map f (x ∷ xs) each = all_append (f x) (flat_map f xs) (each x) (all_flat_map f xs each)

all_map : {X : Type 0} (f : X → Micro) (xs : List X) → ((x : X) → is_inner (f x) ≡ true) → list_all is_inner (map f xs) ≡ true
all_map f [] each = refl
all_map f (x ∷ xs) each = and_from (is_inner (f x)) (list_all is_inner (map f xs)) (each x) (all_map f xs each)

all_until_veto : (rates : Rates) (c : ℕ) (ns : List NotifierRow) → list_all is_inner (until_veto rates c ns) ≡ true
all_until_veto rates c [] = refl
all_until_veto rates c (n ∷ ns) = one (vetoes n.policy (slice_index rates.outcome c)) (all_until_veto rates c ns) where
  one : (t : Bool) → list_all is_inner (until_veto rates c ns) ≡ true → list_all is_inner (if t then [] else until_veto rates c ns) ≡ true
  one true rest = refl
  one false rest = rest

all_aborts : (rates : Rates) (ns : List NotifierRow) (cs : List ℕ) → list_all is_inner (abort_list rates ns cs) ≡ true
all_aborts rates ns cs =
    all_flat_map (λ c. map (λ n. micro.Notify notice.Abort (clock_id c) n.id (slice_index rates.before c) (slice_index rates.outcome c)) (notifiers_of ns c)) cs
    (λ c. all_map (λ (n : NotifierRow). micro.Notify notice.Abort (clock_id c) n.id (slice_index rates.before c) (slice_index rates.outcome c)) (notifiers_of ns c) (λ n. refl))

-- the steps of moves and feeds
inner_moving : (ms : List Micro) → list_all is_moving ms ≡ true → list_all is_inner ms ≡ true
inner_moving [] all = refl
inner_moving (m ∷ ms) all = and_from (is_inner m) (list_all is_inner ms) (one m (both_left (is_moving m) (list_all is_moving ms) all)) (inner_moving ms (both_right (is_moving m) (list_all is_moving ms) all)) where
  one : (n : Micro) → is_moving n ≡ true → is_inner n ≡ true
  one (micro.Poll y) e = absurd cc
  one (micro.Fall y) e = absurd cc
  one micro.End e = absurd cc
  one n e = refl

all_move : (defs : Description) (clocks : List ClockRow) (prep : ℕ → Bool) (c p : ℕ) → list_all is_inner (move defs clocks prep c p) ≡ true
all_move defs clocks prep c p = inner_moving (move defs clocks prep c p) (moves_are_moving defs clocks prep c p)

all_fed : (o : Option ℕ) (m : Micro) → is_inner m ≡ true → list_all is_inner (fed_step o m) ≡ true
all_fed None m own = and_from (is_inner m) true own refl
all_fed (Some x) m own = and_from (is_inner m) (list_all is_inner (unfeed x)) own refl

all_move_of : (defs : Description) (clocks : List ClockRow) (prep : ℕ → Bool) (ks : List ChainStep) (c : ℕ) → list_all is_inner (move_of defs clocks prep ks c) ≡ true
all_move_of defs clocks prep ks c =
    all_flat_map (λ k. option_map_or (move defs clocks prep c) k.parent []) (filter (λ k. (k.clock == c) && moves clocks k) ks) (λ k. one k.parent) where
      one : (o : Option ℕ) → list_all is_inner (option_map_or (move defs clocks prep c) o []) ≡ true
      one None = refl
      one (Some p) = all_move defs clocks prep c p

-- the steps of a plan between its notices and its end
abbrev walked : State → List ChainStep → List Micro → Rates → List ℕ → Bool → List Micro
walked s ks settles rates clocks t =
    if t then abort_list rates s.notifiers clocks
    else flat_map (λ c. move_of s.defs s.clocks (prepared s) ks c ++ visit_of s.defs s.clocks ks c) (walk s.order (wiring s) ks) ++ settles

all_walked : (s : State) (ks : List ChainStep) (settles : List Micro) (rates : Rates) (clocks : List ℕ) (t : Bool) → list_all is_inner settles ≡ true
    → list_all is_inner (walked s ks settles rates clocks t) ≡ true
all_walked s ks settles rates clocks true all = all_aborts rates s.notifiers clocks
all_walked s ks settles rates clocks false all =
    all_append (flat_map (λ c. move_of s.defs s.clocks (prepared s) ks c ++ visit_of s.defs s.clocks ks c) (walk s.order (wiring s) ks)) settles
    (all_flat_map (λ c. move_of s.defs s.clocks (prepared s) ks c ++ visit_of s.defs s.clocks ks c) (walk s.order (wiring s) ks)
    (λ c. all_append (move_of s.defs s.clocks (prepared s) ks c) (visit_of s.defs s.clocks ks c) (all_move_of s.defs s.clocks (prepared s) ks c) (all_fed (runs_for s.defs s.clocks ks c) (micro.Visit (clock_id c)) refl))) all

-- a planned script
pub script_planned : (s : State) (ks : List ChainStep) (settles : List Micro) → list_all is_inner settles ≡ true → IsScript (planned s ks settles).steps
unfolding planned
script_planned s ks settles all =
    let w : Wiring = wiring s in
    let rates : Rates = record { before = rates_in w; outcome = rates_in (outcome ks w) } in
    let clocks : List ℕ = changing s.order w ks in
    let notices : List Micro = pre_list rates s.notifiers clocks in
    let middle : List Micro = walked s ks settles rates clocks (list_any is_veto notices) in
    script_more (notices ++ middle) (micro.End ∷ [])
    (all_append notices middle (all_flat_map (λ c. until_veto rates c (notifiers_of s.notifiers c)) clocks (λ c. all_until_veto rates c (notifiers_of s.notifiers c)))
    (all_walked s ks settles rates clocks (list_any is_veto notices) all)) only_end

all_adoption : (s : State) (a : ℕ) → list_all is_inner (adoption s a) ≡ true
all_adoption s a = one (link_given s.defs s.regs s.clocks a) (prepared s a) where
  one : (o : Option ℕ) (t : Bool) → list_all is_inner (option_map_or (λ p.
      if t
      then micro.Raise (clock_id p) ∷ micro.HoldPrepare (clock_id p) ∷ micro.HoldEnable (clock_id p) ∷ micro.HoldEnable (clock_id a)
      ∷ micro.Relink (clock_id a) (clock_id p) ∷ micro.DropEnable (clock_id a) ∷ micro.Settle (clock_id a) ∷ []
      else micro.Relink (clock_id a) (clock_id p) ∷ micro.Settle (clock_id a) ∷ []) o []) ≡ true
  one None t = refl
  one (Some p) true = refl
  one (Some p) false = refl

pub script_probe : (s : State) (c : ℕ) → IsScript (probe_script s c)
unfolding probe_script
script_probe s c =
    let first : List Micro = if is_critical s.defs c then micro.Raise (clock_id c) ∷ [] else [] in
    let adoptions : List Micro = flat_map (adoption s) (adoption_order (length (adoptable s)) s (adoptable s)) in
    script_more ((first ++ micro.Register (clock_id c) ∷ []) ++ adoptions) (micro.End ∷ [])
    (all_append (first ++ micro.Register (clock_id c) ∷ []) adoptions
    (all_append first (micro.Register (clock_id c) ∷ []) (one (is_critical s.defs c)) refl)
    (all_flat_map (adoption s) (adoption_order (length (adoptable s)) s (adoptable s)) (all_adoption s))) only_end where
      one : (t : Bool) → list_all is_inner (if t then micro.Raise (clock_id c) ∷ [] else []) ≡ true
      one true = refl
      one false = refl

pub script_sweep : (s : State) → IsScript (sweep_script s)
unfolding sweep_script
script_sweep s =
    let closed : List ℕ = filter (λ c. not (ignores_unused s.defs c) && lets_through s.defs s.regs c && not (active s c)) (sweep_order s) in
    let unpowered : List ℕ = filter (λ c. not (ignores_unused s.defs c) && runs s.defs s.regs c && not (prepared s c)) (sweep_order s) in
    script_more (flat_map (close_of s.defs s.clocks) closed ++ map (λ c. micro.Unpower (clock_id c)) unpowered) (micro.End ∷ [])
    (all_append (flat_map (close_of s.defs s.clocks) closed) (map (λ c. micro.Unpower (clock_id c)) unpowered)
    (all_flat_map (close_of s.defs s.clocks) closed (λ c. all_fed (if runs_parent s.defs c then link_in s.clocks c else None) (micro.Close (clock_id c)) refl)) (all_map (λ (c : ℕ). micro.Unpower (clock_id c)) unpowered (λ c. refl))) only_end

-- ---- beginnings

-- a change that is about to begin
pub record Fresh (s : State) (k : Change) : Type 0 where
  pub front : k.front ≡ []
  pub again : k.again ≡ 0
  pub raised : k.raised ≡ []
  pub steps : IsScript k.left
  pub aborts : list_any may_time_out k.left ≡ true → length (aborts_of s k) ≤ k.extra

-- where a call goes on, it does so with such a change, for which there is room
pub record Begins (r : State × Turn) : Type 0 where
  pub goes : r.1 ≡ turn.Going → (k : Change) × (r.0.change ≡ Some k) × Fresh r.0 k × (nat_lt most_credits (r.0.credits + r.0.steps + weight_of r.0 k) ≡ false)

pub begins_done : (s : State) (r : Reply) → Begins (s, turn.Done r)
begins_done s r = record { goes = λ e. absurd cc }

pub begins_pick : (b : Bool) (f g : Unit {0} → State × Turn) → Begins (f tt) → Begins (g tt) → Begins (pick b f g)
unfolding pick
begins_pick true f g x y = x
begins_pick false f g x y = y

pub begins_starts : (old new : State) (k : Change) → Fresh new k → Begins (starts old new k)
unfolding pick
begins_starts old new k fresh = by_room (nat_lt most_credits (new.credits + new.steps + weight_of new k)) refl where
  by_room : (t : Bool) → nat_lt most_credits (new.credits + new.steps + weight_of new k) ≡ t
      → Begins (pick t (λ u. refused old errno.ENOSPC) (λ u. (record new { change = Some k }, turn.Going)))
  by_room true e = begins_done old (reply.Refused errno.ENOSPC)
  by_room false e = record { goes = λ going. (k, refl, record { front = fresh.front; again = fresh.again; raised = fresh.raised; steps = fresh.steps; aborts = fresh.aborts }, e) }

pub begins_handle : (s : State) (d n : ℕ) (f : HandleRow → State × Turn) → ((h : HandleRow) → Begins (f h)) → Begins (with_handle s d n f)
begins_handle s d n f each = one (own_handle s d n) where
  one : (o : Option HandleRow) → Begins (option_map_or f o (refused s errno.ENOENT))
  one None = begins_done s (reply.Refused errno.ENOENT)
  one (Some h) = each h

-- ---- changes

pub fresh_change : (s : State) (d : ℕ) (what : Sleeping) (ms : List Micro) → IsScript ms → sets_parent what ≡ false → Fresh s (change_of s d what ms)
fresh_change s d what ms is other = record {
  front = refl;
  again = refl;
  raised = refl;
  steps = is;
  aborts = λ late. let none : length (aborts_of s (change_of s d what ms)) ≡ 0 = ap (λ (t : Bool). length (cond t (abort_list (record { before = rates_in (wiring s); outcome = rates_in (wiring s) }) s.notifiers []) [])) other in omega arith;
}

pub fresh_along : (s : State) (d : ℕ) (what : Sleeping) (ks : List ChainStep) (range : Option (ℕ × ℕ)) → sets_parent what ≡ false → Fresh s (change_along s d what ks [] range)
fresh_along s d what ks range other = record {
  front = refl;
  again = refl;
  raised = refl;
  steps = script_planned s ks [] refl;
  aborts = λ late.
      let p = planned s ks [] in
      let none : length (aborts_of s (change_along s d what ks [] range)) ≡ 0 =
      ap (λ (t : Bool). length (cond t (abort_list (record { before = rates_in (wiring s); outcome = p.outcome }) s.notifiers p.changing) [])) other in omega arith;
}

scripted_raises : (m : Micro) → is_scripted m ≡ true → may_time_out m ≡ true → is_raise m ≡ true
scripted_raises m is late = elim (or_cases (is_raise m) (is_poll m) late) [
  | inl raises ↦ raises
  | inr polls ↦ absurd (no_poll m is polls)
] where
  no_poll : (n : Micro) → is_scripted n ≡ true → is_poll n ≡ true → ⊥
  no_poll (micro.Poll y) e f = cc
  no_poll (micro.Notify kind c id old new) e f = cc
  no_poll (micro.Raise x) e f = cc
  no_poll (micro.Fall y) e f = cc
  no_poll (micro.HoldPrepare x) e f = cc
  no_poll (micro.HoldEnable x) e f = cc
  no_poll (micro.Relink c p) e f = cc
  no_poll (micro.WriteMux c place) e f = cc
  no_poll (micro.DropEnable x) e f = cc
  no_poll (micro.DropPrepare x) e f = cc
  no_poll (micro.Lower x) e f = cc
  no_poll (micro.Visit c) e f = cc
  no_poll (micro.Register c) e f = cc
  no_poll (micro.Settle c) e f = cc
  no_poll (micro.Close c) e f = cc
  no_poll (micro.Unpower c) e f = cc
  no_poll micro.End e f = cc

script_raises : (ms : List Micro) → list_all is_scripted ms ≡ true → list_any may_time_out ms ≡ true → list_any is_raise ms ≡ true
script_raises [] all late = absurd cc
script_raises (m ∷ ms) all late =
    elim (or_cases (may_time_out m) (list_any may_time_out ms) late) [
      | inl here ↦ or_left (is_raise m) (list_any is_raise ms) (scripted_raises m (both_left (is_scripted m) (list_all is_scripted ms) all) here)
      | inr later ↦ or_right (is_raise m) (list_any is_raise ms) (script_raises ms (both_right (is_scripted m) (list_all is_scripted ms) all) later)
    ]

pub length-aborts : (rates : Rates) (s : State) (cs : List ℕ) → length (abort_list rates s.notifiers cs) ≡ notices_of s cs
length-aborts rates s [] = refl
length-aborts rates s (c ∷ cs) =
    let one : List Micro = map (λ n. micro.Notify notice.Abort (clock_id c) n.id (slice_index rates.before c) (slice_index rates.outcome c)) (notifiers_of s.notifiers c) in
    let many : length one ≡ length (notifiers_of s.notifiers c) = length-map (notifiers_of s.notifiers c) _ in
    let sum = sum_by-cons (λ x. length (notifiers_of s.notifiers x)) c cs in
    let rest = length-aborts rates s cs in
    let both = length-append one (abort_list rates s.notifiers cs) in
    omega arith

pub fresh_reparenting : (s : State) (d : ℕ) (what : Sleeping) (c p : ℕ) → sets_parent what ≡ true → Fresh s (reparenting s d what c p)
fresh_reparenting s d what c p is = record {
  front = refl;
  again = refl;
  raised = refl;
  steps = steps;
  aborts = λ late.
      let k : Change = reparenting s d what c p in
      let most : length (aborts_of s k) ≡ notices_of s k.changing =
      ap (λ (t : Bool). length (cond t (abort_list (record { before = k.before; outcome = k.outcome }) s.notifiers k.changing) [])) is
      ∙ length-aborts (record { before = k.before; outcome = k.outcome }) s k.changing in
      let extra : k.extra ≡ notices_of s k.changing = ap (λ (t : Bool). cond t (notices_of s k.changing) 0) (script_raises k.left steps.scripted late) in
      omega arith;
} where
  steps : IsScript (reparenting s d what c p).left
  steps = script_planned s _ (micro.Settle (clock_id c) ∷ []) refl
