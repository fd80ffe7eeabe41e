-- A registration that goes on: how it begins, in states and in the parts of a core.
use Rattle.std.proofs.Common.{◌≡◌, ℕ, ◌+◌, ◌-◌, ◌*◌, ◌^◌, ◌<◌, ◌≤◌, ◌&&◌, ◌||◌, not, Bool, true, false, List, [], ◌∷◌, ◌++◌, Option, Some, None, refl, sym, ap, subst, ◌∙◌, arith, length, min, nat_eq, nat_lt, nat_le}
use Rattle.std.specs.Prelude.{is_none, slice_get, sum_by, IfSome}
use Rattle.std.specs.List.{list_all, list_any}
use Rattle.std.specs.Option.{option_map, option_map_or}
use Rattle.std.proofs.Math.Bool.{or-false}
use Rattle.std.proofs.lemmas.Bool.{and_from}
use Rattle.std.proofs.lemmas.Bool.Decides.{nat_tests}
use Rattle.std.proofs.lemmas.List.Sums.{sum_by-cons}
use Rattle.clk_base.specs.declared.call.Micro.{Micro}
use Rattle.clk_base.specs.declared.call.Micro.TheVariants as micro
use Rattle.clk_base.specs.declared.call.Sleeping.{Sleeping}
use Rattle.clk_base.specs.declared.call.Sleeping.TheVariants as call
use Rattle.clk_base.specs.declared.clock.ClockId.{ClockId}
use Rattle.clk_base.specs.declared.event.Errno.TheVariants as errno
use Rattle.clk_base.specs.declared.event.Event.TheVariants as event
use Rattle.clk_base.specs.declared.event.Reply.TheVariants as reply
use Rattle.clk_base.specs.declared.event.Turn.{Turn}
use Rattle.clk_base.specs.declared.event.Turn.TheVariants as turn
use Rattle.clk_base.specs.Description.{Description, parents_of}
use Rattle.clk_base.specs.Flags.{is_critical}
use Rattle.clk_base.specs.Places.{places}
use Rattle.clk_base.proofs.Valid.{lines_end}
use Rattle.clk_model.specs.declared.row.ClockRow.{ClockRow}
use Rattle.clk_model.specs.Begin.{most_credits, weight_of, change_of, register, begun, refused}
use Rattle.clk_model.specs.Lists.{is_in}
use Rattle.clk_model.specs.Machine.{paid, next}
use Rattle.clk_model.specs.Script.{adoptable, adoption_order, plls, probe_script, unprepared_plls, weight}
use Rattle.clk_model.specs.State.{State, Change, NotifierRow, registered}
use Rattle.clk_model.specs.Step.{is_end, is_register, is_settle, is_visit}
use Rattle.clk_model.specs.Tree.{path, path_to_be, link_given}
use Rattle.clk_model.proofs.EventLaws.{pick-true, pick-false, begin_quiet}
use Rattle.clk_model.proofs.Members.{not_either, or_right, same_from_test, test_same}
use Rattle.clk_model.proofs.StateLaws.{paid-still}
use Rattle.clk_flight.specs.Flights.{FlightState, IsChange}
use Rattle.clk_flight.specs.LeftOver.{step_weight, left_over}
use Rattle.core_parts.specs.Adoption.{adoption_by, registration_of}
use Rattle.clk_machine.specs.Adopting.{adopted, is_beside, AreAdoptions, none, one_more, AreProbeSteps}
use Rattle.clk_machine.specs.Holding.{stays}
use Rattle.core_parts.specs.InFlight.{can_link, changes_rate, cuts_behind, is_script, may_make, probes, there_behind}
use Rattle.core_parts.specs.Listed.{rows_from}
use Rattle.clk_machine.specs.Parts.{Parts, IsOwnCall, IsWhole}
use Rattle.core_parts.specs.Plls.{is_loose}
use Rattle.clk_machine.specs.Probing.{must_raise, goes_on}
use Rattle.clk_machine.specs.Sound.{IsNarrow, IsSound}
use Rattle.clk_machine.specs.Stands.{Stands, Enters}
use Rattle.clk_machine.specs.Starting.{StartsCall}
use Rattle.clk_machine.proofs.Adopting.{none_adopted}
use Rattle.clk_machine.proofs.Attaching.{IsNarrow-register}
use Rattle.clk_machine.proofs.Flying.{quiet_stands}
use Rattle.clk_machine.proofs.Making.{loose_among, path_stands, path_under}
use Rattle.clk_machine.proofs.Soundness.{links_possible}
use Rattle.core_parts.proofs.Seeking.{none_or_any}
use Rattle.core_parts.proofs.Deciding.{not_less}
use Rattle.clk_machine.proofs.Starting.{Started, flying, stands_flying, stands_spent, started_left, started_way, whole_flying, with_spent}
use Rattle.clk_machine.proofs.Writing.{whole_spent}

-- ---- whether something has to be raised

twice_not : (b : Bool) → not (not b) ≡ b
twice_not true = refl
twice_not false = refl

-- nothing has to be for a clock that isn't critical
pub must_plain : (m : Parts) (s : State) (c : ℕ) → Stands m s → is_critical m.desc.defs c ≡ false → false ≡ must_raise s c
must_plain m s c stands plain =
    sym (ap (λ (b : Bool). b && not (is_none (slice_get (unprepared_plls s (path_to_be s.defs s.regs s.clocks c)) 0))) (ap (λ (ds : Description). is_critical ds c) stands.defs ∙ plain))

-- a critical one, by the parts
pub must_critical : (m : Parts) (s : State) (c : ℕ) (parent : Option ClockId) (t : Bool) → IsWhole m → Stands m s → is_critical m.desc.defs c ≡ true → registered m.tree.clocks c ≡ false
    → IfSome m.window.words (λ regs. option_map (λ p. p.0) parent ≡ link_given m.desc.defs regs m.tree.clocks c)
    → t ≡ list_any (is_loose m.desc.defs m.counts) (c ∷ option_map_or (λ p. path m.tree.clocks p.0) parent []) → t ≡ must_raise s c
must_critical m s c parent t whole stands critical free given is =
    let link : option_map (λ p. p.0) parent ≡ link_given m.desc.defs s.regs m.tree.clocks c =
    subst (λ (o : Option (List ℕ)). IfSome o (λ regs. option_map (λ p. p.0) parent ≡ link_given m.desc.defs regs m.tree.clocks c)) stands.regs given in
    let xs : List ℕ = path_to_be s.defs s.regs s.clocks c in
    let same : c ∷ option_map_or (λ p. path m.tree.clocks p.0) parent [] ≡ xs = path_under m.desc.defs s.regs m.tree.clocks c parent free link ∙ sym (path_stands m s c stands) in
    is ∙ ap (λ (ys : List ℕ). list_any (is_loose m.desc.defs m.counts) ys) same
    ∙ sym (twice_not (list_any (is_loose m.desc.defs m.counts) xs))
    ∙ ap not (sym (none_or_any (is_loose m.desc.defs m.counts) xs))
    ∙ ap (λ (ys : List ℕ). not (is_none (slice_get ys 0))) (sym (loose_among m s xs whole stands))
    ∙ sym (ap (λ (b : Bool). b && not (is_none (slice_get (unprepared_plls s xs) 0))) (ap (λ (ds : Description). is_critical ds c) stands.defs ∙ critical))

-- no orphan is adopted where their list is empty
pub empty_is : (xs : List ClockId) → nat_eq (length xs) 0 ≡ is_none (slice_get (places xs) 0)
empty_is [] = refl
empty_is (x ∷ xs) = grind (arith, nat_tests)

-- whether a registration goes on, by the parts
pub goes_on_told : (m : Parts) (s : State) (c : ℕ) (orphans : List ℕ) (raises : Bool) → IsWhole m → Stands m s → IsSound m.window.size s → c < length m.desc.defs → orphans ≡ adopted (register s c) → raises ≡ must_raise s c
    → (not (is_none (slice_get orphans 0)) || raises) ≡ goes_on s c
goes_on_told m s c orphans raises whole stands sound within is must =
    ap (λ (b : Bool). not b || raises) (by orphans is) ∙ ap (λ (b : Bool). not (is_none (slice_get (adoptable (register s c)) 0)) || b) must where
      inside : c < length s.defs
      inside = subst (λ (ds : Description). c < length ds) (sym stands.defs) within

      after : IsNarrow m.window.size (register s c)
      after = IsNarrow-register m.window.size s c sound.narrow inside

      some_adopted : (r : State) (x : ℕ) (xs : List ℕ) → adopted r ≡ x ∷ xs → is_none (slice_get (adoptable r) 0) ≡ false
      some_adopted r x xs at = one (adoptable r) refl where
        one : (left : List ℕ) → adoptable r ≡ left → is_none (slice_get left 0) ≡ false
        one (y ∷ ys) e = refl
        one [] e =
            let empty : adopted r ≡ [] = ap (λ (left : List ℕ). adoption_order (length left) r left) e in
            let no : [] ≡ x ∷ xs = sym empty ∙ at in
            absurd cc

      by : (xs : List ℕ) → xs ≡ adopted (register s c) → is_none (slice_get xs 0) ≡ is_none (slice_get (adoptable (register s c)) 0)
      by [] at =
          sym (ap (λ (left : List ℕ). is_none (slice_get left 0))
          (none_adopted (register s c) (lines_end m.window.size (register s c).defs after.valid) (links_possible m.window.size (register s c) after) (sym at)))
      by (x ∷ xs) at = sym (some_adopted (register s c) x xs (sym at))

-- ---- the beginning, in states

-- a registration that doesn't go on is answered at once
at_once_is : (a t b : Bool) → (a && (not t || b)) ≡ not (not a || (t && not b))
at_once_is true true true = refl
at_once_is true true false = refl
at_once_is true false b = refl
at_once_is false t b = refl

at_once : (s : State) (c : ℕ)
    → (is_none (slice_get (adoptable (register s c)) 0) && (not (is_critical s.defs c) || is_none (slice_get (unprepared_plls s (path_to_be s.defs s.regs s.clocks c)) 0))) ≡ not (goes_on s c)
at_once s c = at_once_is (is_none (slice_get (adoptable (register s c)) 0)) (is_critical s.defs c) (is_none (slice_get (unprepared_plls s (path_to_be s.defs s.regs s.clocks c)) 0))

-- what is known where a registration begins
pub record MayProbe (s : State) (c : ClockId) : Type 0 where
  pub quiet : s.change ≡ None
  pub free : registered s.clocks c.0 ≡ false

pub may_probe : (m : Parts) (s : State) (c : ClockId) → Stands m s → m.flight.going ≡ false → registered m.tree.clocks c.0 ≡ false → MayProbe s c
may_probe m s c stands quiet free = record {
  quiet = quiet_stands m s stands quiet;
  free = ap (λ (rs : List ClockRow). registered rs c.0) stands.clocks ∙ free;
}

-- at once where it doesn't go on
pub probe_calm : (s : State) (d : ℕ) (c : ClockId) → MayProbe s c → goes_on s c.0 ≡ false → next s d (event.Begin (call.Probe c)) ≡ paid s (register s c.0, turn.Done reply.Fine)
unfolding begun
probe_calm s d c may calm =
    begin_quiet s d (call.Probe c) may.quiet ∙ ap (paid s) (pick-false (registered s.clocks c.0) _ _ may.free ∙ pick-true _ _ _ (at_once s c.0 ∙ ap not calm))

-- refused where there is no room
pub probe_full : (s : State) (d : ℕ) (c : ClockId) → MayProbe s c → goes_on s c.0 ≡ true → most_credits < s.credits + s.steps + sum_by (weight s) (probe_script (register s c.0) c.0)
    → next s d (event.Begin (call.Probe c)) ≡ paid s (refused s errno.ENOSPC)
unfolding begun
probe_full s d c may goes full =
    let k : Change = change_of s d (call.Probe c) (probe_script (register s c.0) c.0) in
    let more : nat_lt most_credits (s.credits + s.steps + weight_of s k) ≡ true = less_is most_credits (s.credits + s.steps + weight_of s k) (omega arith) in
    begin_quiet s d (call.Probe c) may.quiet
    ∙ ap (paid s) (pick-false (registered s.clocks c.0) _ _ may.free ∙ pick-false _ _ _ (at_once s c.0 ∙ ap not goes) ∙ pick-true (nat_lt most_credits (s.credits + s.steps + weight_of s k)) _ _ more) where
      less_is : (a b : ℕ) → a < b → nat_lt a b ≡ true
      less_is a b lt = grind (arith, nat_tests)

-- and else it goes on
pub probe_going : (s : State) (d : ℕ) (c : ClockId) → MayProbe s c → goes_on s c.0 ≡ true → s.spent < s.credits → s.credits + s.steps + sum_by (weight s) (probe_script (register s c.0) c.0) ≤ most_credits
    → next s d (event.Begin (call.Probe c)) ≡ Some (record s { change = Some (change_of s d (call.Probe c) (probe_script (register s c.0) c.0)); spent = s.spent + 1 }, turn.Going)
unfolding begun
probe_going s d c may goes left room =
    let k : Change = change_of s d (call.Probe c) (probe_script (register s c.0) c.0) in
    let fits : nat_lt most_credits (s.credits + s.steps + weight_of s k) ≡ false = not_less (s.credits + s.steps + weight_of s k) most_credits (omega arith) in
    begin_quiet s d (call.Probe c) may.quiet
    ∙ ap (paid s) (pick-false (registered s.clocks c.0) _ _ may.free ∙ pick-false _ _ _ (at_once s c.0 ∙ ap not goes) ∙ pick-false (nat_lt most_credits (s.credits + s.steps + weight_of s k)) _ _ fits)
    ∙ paid-still s (record s { change = Some k }) turn.Going left (λ c. refl)

-- ---- the script

-- a step in front of a script of a registration
in_front : (c : ClockId) (there : ℕ → Bool) (m : Micro) (ms : List Micro) → cuts_behind (call.Probe c) m ms ≡ true → may_make (call.Probe c) there m ≡ true → is_script (call.Probe c) (there_behind there m) ms ≡ true
    → is_script (call.Probe c) there (m ∷ ms) ≡ true
in_front c there m ms cuts may more =
    or_right (is_end m && is_none (slice_get ms 0)) (cuts_behind (call.Probe c) m ms && (may_make (call.Probe c) there m && is_script (call.Probe c) (there_behind there m) ms))
    (and_from (cuts_behind (call.Probe c) m ms) (may_make (call.Probe c) there m && is_script (call.Probe c) (there_behind there m) ms) cuts
    (and_from (may_make (call.Probe c) there m) (is_script (call.Probe c) (there_behind there m) ms) may more))

-- adoptions of registered clocks by registered parents, and the end
adoptions_script : (c : ClockId) (defs : Description) (there : ℕ → Bool) {ms : List Micro} → AreAdoptions defs there ms → is_script (call.Probe c) there (ms ++ micro.End ∷ []) ≡ true
adoptions_script c defs there none = refl
adoptions_script c defs there (one_more {rest = rest} a p held here parent possible more) = by held (adoptions_script c defs there more) where
  behind : List Micro
  behind = rest ++ micro.End ∷ []

  links : (there a.0 && there p.0) ≡ true
  links = and_from (there a.0) (there p.0) here parent

  near : (there p.0 || nat_eq c.0 p.0) ≡ true
  near = ap (λ (b : Bool). b || nat_eq c.0 p.0) parent

  bare : is_script (call.Probe c) there behind ≡ true → is_script (call.Probe c) there (micro.Relink a p ∷ micro.Settle a ∷ behind) ≡ true
  bare ends = in_front c there (micro.Relink a p) (micro.Settle a ∷ behind) refl links (in_front c there (micro.Settle a) behind refl here ends)

  let_go : is_script (call.Probe c) there behind ≡ true → is_script (call.Probe c) there (micro.Relink a p ∷ micro.DropEnable a ∷ micro.Settle a ∷ behind) ≡ true
  let_go ends =
      in_front c there (micro.Relink a p) (micro.DropEnable a ∷ micro.Settle a ∷ behind) refl links
      (in_front c there (micro.DropEnable a) (micro.Settle a ∷ behind) refl here (in_front c there (micro.Settle a) behind refl here ends))

  behind_holds : List Micro
  behind_holds = micro.Relink a p ∷ micro.DropEnable a ∷ micro.Settle a ∷ behind

  under_raise : List Micro
  under_raise = micro.HoldPrepare p ∷ micro.HoldEnable p ∷ micro.HoldEnable a ∷ behind_holds

  cuts : (list_any is_register under_raise || list_any is_settle under_raise) ≡ true
  cuts = or_right (list_any is_register under_raise) (list_any is_settle under_raise) refl

  raised : is_script (call.Probe c) there under_raise ≡ true → is_script (call.Probe c) there (micro.Raise p ∷ under_raise) ≡ true
  raised more_ = in_front c there (micro.Raise p) under_raise cuts near more_

  by : (t : Bool) → is_script (call.Probe c) there behind ≡ true → is_script (call.Probe c) there (adoption_by a p t ++ rest ++ micro.End ∷ []) ≡ true
  by false ends = bare ends
  by true ends = raised (in_front c there (micro.HoldPrepare p) (micro.HoldEnable p ∷ micro.HoldEnable a ∷ behind_holds) refl parent
      (in_front c there (micro.HoldEnable p) (micro.HoldEnable a ∷ behind_holds) refl parent (in_front c there (micro.HoldEnable a) behind_holds refl here (let_go ends))))

-- none of them registers a clock or visits one
adoptions_plain : (defs : Description) (there : ℕ → Bool) {ms : List Micro} → AreAdoptions defs there ms → list_any is_register (ms ++ micro.End ∷ []) ≡ false
adoptions_plain defs there none = refl
adoptions_plain defs there (one_more {rest = rest} a p held here parent possible more) = by held (adoptions_plain defs there more) where
  by : (t : Bool) → list_any is_register (rest ++ micro.End ∷ []) ≡ false → list_any is_register (adoption_by a p t ++ rest ++ micro.End ∷ []) ≡ false
  by true lacks = lacks
  by false lacks = lacks

adoptions_unvisited : (defs : Description) (there : ℕ → Bool) {ms : List Micro} → AreAdoptions defs there ms → list_any is_visit (ms ++ micro.End ∷ []) ≡ false
adoptions_unvisited defs there none = refl
adoptions_unvisited defs there (one_more {rest = rest} a p held here parent possible more) = by held (adoptions_unvisited defs there more) where
  by : (t : Bool) → list_any is_visit (rest ++ micro.End ∷ []) ≡ false → list_any is_visit (adoption_by a p t ++ rest ++ micro.End ∷ []) ≡ false
  by true lacks = lacks
  by false lacks = lacks

-- and each can be made
adoptions_link : (defs : Description) (clocks : List ClockRow) (there : ℕ → Bool) {ms : List Micro} → AreAdoptions defs there ms → list_all (can_link defs clocks) (ms ++ micro.End ∷ []) ≡ true
adoptions_link defs clocks there none = refl
adoptions_link defs clocks there (one_more {rest = rest} a p held here parent possible more) = by held (adoptions_link defs clocks there more) where
  both : list_all (can_link defs clocks) (rest ++ micro.End ∷ []) ≡ true → (is_in p.0 (parents_of defs a.0) && list_all (can_link defs clocks) (rest ++ micro.End ∷ [])) ≡ true
  both all = and_from (is_in p.0 (parents_of defs a.0)) (list_all (can_link defs clocks) (rest ++ micro.End ∷ [])) possible all

  by : (t : Bool) → list_all (can_link defs clocks) (rest ++ micro.End ∷ []) ≡ true → list_all (can_link defs clocks) (adoption_by a p t ++ rest ++ micro.End ∷ []) ≡ true
  by true all = both all
  by false all = both all

-- the steps of a registration are a script of its call
pub probe_script_is : (m : Parts) (c : ClockId) (orphans : List ℕ) (steps : List Micro) → AreProbeSteps m c orphans steps → is_script (call.Probe c) (registered m.tree.clocks) steps ≡ true
probe_script_is m c orphans steps made = ap (is_script (call.Probe c) (registered m.tree.clocks)) made.steps_ ∙ by (is_critical m.desc.defs c.0) where
  behind : List Micro
  behind = made.added ++ micro.End ∷ []

  registers : is_script (call.Probe c) (registered m.tree.clocks) (micro.Register c ∷ behind) ≡ true
  registers =
      in_front c (registered m.tree.clocks) (micro.Register c) behind (ap not (adoptions_plain m.desc.defs (is_beside m c.0) made.are)) (test_same c.0)
      (adoptions_script c m.desc.defs (is_beside m c.0) made.are)

  by : (t : Bool) → is_script (call.Probe c) (registered m.tree.clocks) (registration_of t c ++ made.added ++ micro.End ∷ []) ≡ true
  by false = registers
  by true = in_front c (registered m.tree.clocks) (micro.Raise c) (micro.Register c ∷ behind) refl (or_right (registered m.tree.clocks c.0) (nat_eq c.0 c.0) (test_same c.0)) registers

-- that can be made
pub probe_links : (m : Parts) (c : ClockId) (orphans : List ℕ) (steps : List Micro) → AreProbeSteps m c orphans steps → c.0 < length m.desc.defs → registered m.tree.clocks c.0 ≡ false
    → list_all (can_link m.desc.defs m.tree.clocks) steps ≡ true
probe_links m c orphans steps made place free = ap (list_all (can_link m.desc.defs m.tree.clocks)) made.steps_ ∙ by (is_critical m.desc.defs c.0) where
  inside : nat_lt c.0 (length m.desc.defs) ≡ true
  inside = grind (arith, nat_tests)

  registers : ((nat_lt c.0 (length m.desc.defs) && not (registered m.tree.clocks c.0)) && list_all (can_link m.desc.defs m.tree.clocks) (made.added ++ micro.End ∷ [])) ≡ true
  registers =
      and_from (nat_lt c.0 (length m.desc.defs) && not (registered m.tree.clocks c.0)) (list_all (can_link m.desc.defs m.tree.clocks) (made.added ++ micro.End ∷ []))
      (and_from (nat_lt c.0 (length m.desc.defs)) (not (registered m.tree.clocks c.0)) inside (ap not free)) (adoptions_link m.desc.defs m.tree.clocks (is_beside m c.0) made.are)

  by : (t : Bool) → list_all (can_link m.desc.defs m.tree.clocks) (registration_of t c ++ made.added ++ micro.End ∷ []) ≡ true
  by false = registers
  by true = registers

-- and visits no clock
probe_unvisited : (m : Parts) (c : ClockId) (orphans : List ℕ) (steps : List Micro) → AreProbeSteps m c orphans steps → list_any is_visit steps ≡ false
probe_unvisited m c orphans steps made = ap (list_any is_visit) made.steps_ ∙ by (is_critical m.desc.defs c.0) where
  by : (t : Bool) → list_any is_visit (registration_of t c ++ made.added ++ micro.End ∷ []) ≡ false
  by false = adoptions_unvisited m.desc.defs (is_beside m c.0) made.are
  by true = adoptions_unvisited m.desc.defs (is_beside m c.0) made.are

-- ---- what they weigh

plain_weight : (s : State) (rows : List NotifierRow) (p : ℕ) (m : Micro) → is_visit m ≡ false → p ≡ plls s.defs → weight s m ≡ step_weight rows p m
plain_weight s rows p (micro.Raise x) plain same = ap (λ (n : ℕ). 34 * n + 1) (sym same)
plain_weight s rows p (micro.Lower x) plain same = ap (λ (n : ℕ). n + 1) (sym same)
plain_weight s rows p (micro.Visit c) plain same = absurd cc
plain_weight s rows p _ plain same = refl

-- in a state as in the parts, where no clock is visited
pub plain_sum : (s : State) (rows : List NotifierRow) (p : ℕ) (ms : List Micro) → list_any is_visit ms ≡ false → p ≡ plls s.defs → sum_by (weight s) ms ≡ sum_by (step_weight rows p) ms
plain_sum s rows p [] plain same = refl
plain_sum s rows p (m ∷ ms) plain same =
    let parts = not_either (is_visit m) (list_any is_visit ms) plain in
    let one = plain_weight s rows p m parts.0 same in
    let rest = plain_sum s rows p ms parts.1 same in
    let left = sum_by-cons (weight s) m ms in
    let right = sum_by-cons (step_weight rows p) m ms in
    omega arith

-- ---- in the parts

-- the parts stay whole where its flight begins
pub whole_probing : (old : Parts) (d : ℕ) (c : ClockId) (steps : List Micro) (flight' : FlightState) → IsWhole old → old.spent < old.credits → c.0 < length old.desc.defs
    → is_script (call.Probe c) (registered old.tree.clocks) steps ≡ true → list_all (can_link old.desc.defs old.tree.clocks) steps ≡ true
    → old.credits + old.steps + sum_by (step_weight (rows_from 0 old.chains) (plls old.desc.defs)) steps ≤ most_credits → Started old d (call.Probe c) steps flight' → IsWhole (flying (with_spent old) flight')
whole_probing old d c steps flight' whole left place script links room now =
    whole_flying (with_spent old) flight' (whole_spent old whole left) (record {
      plls_ = now.plls_;
      tells = λ changes. let no : true ≡ false = sym changes ∙ ap changes_rate now.call_ in absurd cc;
      links = λ changes. ap (λ (ms : List Micro). list_all (can_link old.desc.defs old.tree.clocks) ms) now.left ∙ links;
      placed = λ x here. subst (λ (n : ℕ). n < length old.desc.defs) (same_from_test c.0 x (sym (ap (λ (what : Sleeping). probes what x) now.call_) ∙ here)) place;
      way = started_way old d (call.Probe c) steps flight' (registered old.tree.clocks) now refl script;
      own = subst (λ (what : Sleeping). IsOwnCall old.table.handles flight'.driver what) (sym now.call_) tt;
      paid = let few = whole.paid.few_holds in omega arith;
    }) (let few = started_left old d (call.Probe c) steps flight' now in omega arith)

pub starts_probe : (old : Parts) (d : ℕ) (c : ClockId) (steps : List Micro) (flight' : FlightState) → Started old d (call.Probe c) steps flight' → ((s : State) → IsChange s.notifiers flight' (change_of s d (call.Probe c) steps))
    → StartsCall old d (call.Probe c) steps stays (flying (with_spent old) flight')
starts_probe old d c steps flight' now change = record {
  remains = record { desc = refl; told = refl; size = refl; behind = refl; credits = refl; ignore_unused = refl };
  spent = refl;
  locks = refl;
  rows = λ c. refl;
  going = now.going;
  driver_ = now.driver;
  left = started_left old d (call.Probe c) steps flight' now;
  stands = λ s stands. stands_flying (with_spent old) flight' (record s { spent = s.spent + 1 }) (change_of s d (call.Probe c) steps) (stands_spent old s stands) (change s) (λ changes. absurd cc);
}

-- how many steps are to come
pub probe_left : (old new : Parts) (d : ℕ) (c : ClockId) (steps : List Micro) → StartsCall old d (call.Probe c) steps stays new
    → left_over (rows_from 0 new.chains) new.flight ≡ sum_by (step_weight (rows_from 0 old.chains) (plls old.desc.defs)) steps
probe_left old new d c steps starts_ = starts_.left

-- what the script of a registration weighs in a state that the parts stand for
probe_weighs : (m : Parts) (s : State) (c : ClockId) (orphans : List ℕ) (steps : List Micro) → Stands m s → AreProbeSteps m c orphans steps → steps ≡ probe_script (register s c.0) c.0
    → sum_by (weight s) (probe_script (register s c.0) c.0) ≡ sum_by (step_weight (rows_from 0 m.chains) (plls m.desc.defs)) steps
probe_weighs m s c orphans steps stands made is =
    ap (λ (ms : List Micro). sum_by (weight s) ms) (sym is)
    ∙ plain_sum s (rows_from 0 m.chains) (plls m.desc.defs) steps (probe_unvisited m c orphans steps made) (ap plls (sym stands.defs))

-- where the parts have no room, the state hasn't either
pub probe_refused : (m : Parts) (s : State) (d : ℕ) (c : ClockId) (orphans : List ℕ) (steps : List Micro) (used weight_ : ℕ) → Stands m s → MayProbe s c → goes_on s c.0 ≡ true → AreProbeSteps m c orphans steps
    → steps ≡ probe_script (register s c.0) c.0 → used ≡ m.credits + m.steps → weight_ ≡ min (sum_by (step_weight (rows_from 0 m.chains) (plls m.desc.defs)) steps) (2 ^ 64 - 1) → nat_le (used + weight_) most_credits ≡ false
    → next s d (event.Begin (call.Probe c)) ≡ paid s (refused s errno.ENOSPC)
probe_refused m s d c orphans steps used weight_ stands may goes made script is weighs full =
    let over : most_credits < used + weight_ = more most_credits (used + weight_) full in
    let one = stands.credits in
    let two = stands.steps in
    let sum = probe_weighs m s c orphans steps stands made script in
    probe_full s d c may goes (omega arith) where
      more : (a b : ℕ) → nat_le b a ≡ false → a < b
      more a b e = grind (arith, nat_tests)

-- a registration that goes on takes the parts on
pub enters_probe : (old new : Parts) (d : ℕ) (c : ClockId) (orphans : List ℕ) (steps : List Micro) → old.flight.going ≡ false → old.spent < old.credits → registered old.tree.clocks c.0 ≡ false
    → ((s : State) → Stands old s → orphans ≡ adopted (register s c.0)) → ((s : State) → Stands old s → IsSound old.window.size s → goes_on s c.0 ≡ true) → AreProbeSteps old c orphans steps
    → old.credits + old.steps + sum_by (step_weight (rows_from 0 old.chains) (plls old.desc.defs)) steps ≤ most_credits → StartsCall old d (call.Probe c) steps stays new → Enters old d (event.Begin (call.Probe c)) turn.Going new
enters_probe old new d c orphans steps quiet left free adopts goes made room starts_ = record {
  remains = starts_.remains;
  pays = starts_.spent;
  rows = λ k. starts_.rows k ∙ sym (or-false (registered old.tree.clocks k));
  going = starts_.going;
  driver_ = λ still. starts_.driver_;
  fewer = λ free. absurd cc;
  begun = λ paid goes. let few = probe_left old new d c steps starts_ in omega arith;
  no_more = λ paid done. absurd cc;
  locks = λ still. starts_.locks;
  beside = λ tier. absurd cc;
  step = λ s stands sound.
      let may = may_probe old s c stands quiet free in
      let is : steps ≡ probe_script (register s c.0) c.0 = made.told s stands sound (adopts s stands) in
      let spends : s.spent < s.credits = let one = stands.spent in let two = stands.credits in omega arith in
      let sum = probe_weighs old s c orphans steps stands made is in
      let fits : s.credits + s.steps + sum_by (weight s) (probe_script (register s c.0) c.0) ≤ most_credits = let one = stands.credits in let two = stands.steps in omega arith in
      record {
        to = record s { change = Some (change_of s d (call.Probe c) steps); spent = s.spent + 1 };
        next_ = probe_going s d c may (goes s stands sound) spends fits
            ∙ ap (λ (ms : List Micro). let x : State × Turn = (record s { change = Some (change_of s d (call.Probe c) ms); spent = s.spent + 1 }, turn.Going) in Some x) (sym is);
        stands = starts_.stands s stands;
      };
}
