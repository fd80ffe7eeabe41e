-- A request for a rate that goes on gives each clock that it moves a parent that it can get.
use Rattle.std.proofs.Common.{◌≡◌, ℕ, ◌+◌, ◌&&◌, ◌||◌, Bool, true, false, List, [], ◌∷◌, Option, Some, None, refl, sym, ap, ◌∙◌, ◌⊎◌, inl, inr, nat_eq}
use Rattle.std.specs.Prelude.{IfSome, is_some}
use Rattle.std.specs.List.{AllByRecursion}
use Rattle.std.specs.Option.{option_map_or}
use Rattle.std.proofs.lemmas.Bool.{and_from}
use Rattle.clk_base.specs.declared.call.Sleeping.{Sleeping}
use Rattle.clk_base.specs.declared.call.Sleeping.TheVariants as call
use Rattle.clk_base.specs.declared.event.Event.TheVariants as event
use Rattle.clk_base.specs.declared.event.Errno.TheVariants as errno
use Rattle.clk_base.specs.declared.event.Turn.{Turn}
use Rattle.clk_base.specs.declared.event.Turn.TheVariants as turn
use Rattle.clk_base.specs.declared.handle.Handle.{Handle}
use Rattle.clk_base.specs.Description.{def_of, kind_of, parents_of}
use Rattle.clk_base.specs.Levels.{depth}
use Rattle.clk_base.specs.Valid.{IsValid}
use Rattle.clk_model.specs.declared.row.HandleRow.{HandleRow}
use Rattle.clk_model.specs.Begin.{begun, change_along, held_once_more, misses, put_handle, range_set, refused, request, request_between, starts}
use Rattle.clk_model.specs.Chain.{chain}
use Rattle.clk_model.specs.Gates.{settled}
use Rattle.clk_model.specs.Kinds.{can_round, mux_field}
use Rattle.clk_model.specs.Lists.{is_in}
use Rattle.clk_model.specs.Machine.{next}
use Rattle.clk_model.specs.Round.{Wiring, View, Rounded, wiring, round}
use Rattle.clk_model.specs.State.{State, Change, ChainStep, handle_at, link_in, registered}
use Rattle.clk_model.specs.Tree.{rooted}
use Rattle.clk_model.specs.Views.{lift, view}
use Rattle.clk_model.specs.Wired.{LinksArePossible}
use Rattle.clk_model.proofs.EventLaws.{own_is_live}
use Rattle.clk_model.proofs.FlightLaws.{begin_is}
use Rattle.clk_model.proofs.Members.{both_left, test_same}
use Rattle.clk_model.proofs.PlanRootLaws.{StepsRooted, chain_all, plan_rooted, rooted_linked}
use Rattle.clk_model.proofs.RoundLaws.{Fits, fits_round}
use Rattle.clk_model.specs.Round.{rate_for}
use Rattle.clk_model.proofs.TierLaws.{pick_either, with_handle_either}
use Rattle.core_parts.specs.InFlight.{asks_rate}
use Rattle.core_parts.specs.Movable.{can_go, can_go_along, may_move}
use Rattle.core_parts.specs.Reparenting.{is_candidate}
use Rattle.clk_machine.specs.Sound.{IsSound}
use Rattle.clk_machine.proofs.Movable.{handle_has_root}
use Rattle.clk_machine.proofs.Staying.{Stays, round_stays}

-- ---- what a planned chain is

-- where a step leads: to the link or to a rooted clock, and to the link where its clock may not be moved
record Leads (w : Wiring) (k : ChainStep) : Type 0 where
  from : (p : ℕ) → k.parent ≡ Some p → (link_in w.clocks k.clock ≡ Some p) ⊎ (rooted w.defs w.clocks p ≡ true)
  stays : may_move (def_of w.defs k.clock) ≡ false → k.parent ≡ link_in w.clocks k.clock

record RoundsSo (w : Wiring) (c : ℕ) (r : Rounded) : Type 0 where
  fits : Fits w c r
  stays : may_move (def_of w.defs c) ≡ false → Stays w c r

rounds_so : (w : Wiring) (seen : View) (c x : ℕ) → LinksArePossible w.defs w.clocks → IfSome (round w seen c x) (RoundsSo w c)
unfolding round
rounds_so w seen c x links = both (round w seen c x) (fits_round (rate_for depth w seen) w seen c x links) (λ none. round_stays w seen c x none) where
  both : (o : Option Rounded) → IfSome o (Fits w c) → (may_move (def_of w.defs c) ≡ false → IfSome o (Stays w c)) → IfSome o (RoundsSo w c)
  both None fits stays = tt
  both (Some r) fits stays = record { fits = fits; stays = stays }

leads_chain : (w : Wiring) (seen : View) (c x : ℕ) (ks : List ChainStep) → LinksArePossible w.defs w.clocks → chain w seen c x ≡ Some ks → AllByRecursion (Leads w) ks
leads_chain w seen c x ks links planned = chain_all (RoundsSo w) (λ c. Unit {0}) (Leads w) w seen c x ks (record {
  rounds = λ c x. rounds_so w seen c x links;
  here = λ c r own so. record { from = so.fits.from; stays = so.stays };
  up = λ c p r own so at asks. tt;
}) tt planned

-- ---- its steps can be made

-- what is known of the clock of a step with a parent
record Placed (w : Wiring) (k : ChainStep) (p : ℕ) : Type 0 where
  link : ℕ
  at : link_in w.clocks k.clock ≡ Some link
  possible : is_in p (parents_of w.defs k.clock) ≡ true
  leads : Leads w k

-- one that is given another parent can get it
gets_other : (w : Wiring) (k : ChainStep) (p : ℕ) → k.parent ≡ Some p → (is : Placed w k p) → nat_eq is.link p ≡ false → is_candidate w.defs w.clocks k.clock p ≡ true
gets_other w k p parent is other =
    and_from (is_some (mux_field (kind_of w.defs c)) && is_in p (parents_of w.defs c)) (rooted w.defs w.clocks p) (and_from (is_some (mux_field (kind_of w.defs c))) (is_in p (parents_of w.defs c)) mux is.possible) root where
      c : ℕ
      c = k.clock

      apart : is.link ≡ p → ⊥
      apart same = let no : true ≡ false = sym (test_same p) ∙ ap (λ (y : ℕ). nat_eq y p) (sym same) ∙ other in absurd cc

      may : may_move (def_of w.defs c) ≡ true
      may = by (may_move (def_of w.defs c)) refl where
        by : (t : Bool) → may_move (def_of w.defs c) ≡ t → t ≡ true
        by true e = refl
        by false e = absurd (apart (let same : Some p ≡ Some is.link = sym parent ∙ is.leads.stays e ∙ is.at in cc))

      mux : is_some (mux_field (kind_of w.defs c)) ≡ true
      mux = both_left (is_some (mux_field (kind_of w.defs c))) (can_round (kind_of w.defs c)) (both_left (is_some (mux_field (kind_of w.defs c)) && can_round (kind_of w.defs c)) _ may)

      root : rooted w.defs w.clocks p ≡ true
      root = elim (is.leads.from p parent) [
        | inl same ↦ absurd (apart (let both : Some is.link ≡ Some p = sym is.at ∙ same in cc))
        | inr is_rooted ↦ is_rooted
      ]

step_can : (words : ℕ) (w : Wiring) (k : ChainStep) → IsValid words w.defs → StepsRooted w k → Leads w k
    → can_go false w.defs w.clocks k ≡ true
step_can words w k valid roots leads = by k.parent refl where
  found : (p : ℕ) → k.parent ≡ Some p → Placed w k p
  found p at =
      let link = rooted_linked words w.defs w.clocks k.clock p valid roots.own.root (roots.possible p at) in
      record { link = link.0; at = link.1; possible = roots.possible p at; leads = leads }

  at_link : (p : ℕ) → k.parent ≡ Some p → (is : Placed w k p) → (t : Bool) → nat_eq is.link p ≡ t → (t || is_candidate w.defs w.clocks k.clock p) ≡ true
  at_link p at is true e = refl
  at_link p at is false e = gets_other w k p at is e

  with_link : (p : ℕ) → k.parent ≡ Some p → (is : Placed w k p) → option_map_or (λ x. nat_eq x p || is_candidate w.defs w.clocks k.clock p) (link_in w.clocks k.clock) false ≡ true
  with_link p at is =
      ap (λ (o : Option ℕ). option_map_or (λ x. nat_eq x p || is_candidate w.defs w.clocks k.clock p) o false) is.at ∙ at_link p at is (nat_eq is.link p) refl

  by : (o : Option ℕ) → k.parent ≡ o
      → option_map_or (λ p. option_map_or (λ x. nat_eq x p || is_candidate w.defs w.clocks k.clock p) (link_in w.clocks k.clock) false) o true ≡ true
  by None at = refl
  by (Some p) at = with_link p at (found p at)

steps_can : (words : ℕ) (w : Wiring) (ks : List ChainStep) → IsValid words w.defs → AllByRecursion (StepsRooted w) ks → AllByRecursion (Leads w) ks
    → can_go_along false w.defs w.clocks ks ≡ true
steps_can words w [] valid roots leads = refl
steps_can words w (k ∷ ks) valid roots leads =
    and_from (can_go false w.defs w.clocks k) (can_go_along false w.defs w.clocks ks) (step_can words w k valid roots.0 leads.0) (steps_can words w ks valid roots.1 leads.1)

-- ---- calls

-- a call that goes on has a chain that is planned over a state like this, as far as its clocks go
record Asked (s : State) (ks : List ChainStep) : Type 0 where
  number : ℕ
  row : HandleRow
  live : handle_at s.handles number ≡ Some row
  seen : View
  rate : ℕ
  found : chain (wiring s) seen row.clock.0 rate ≡ Some ks

-- what is known of such a call once its answer is
abbrev Asks : State → State × Turn → Type 0
Asks s y = (k : Change) → y.1 ≡ turn.Going → y.0.change ≡ Some k → Asked s k.chain

by_planned : (s : State) (o : Option (List ChainStep)) (f : List ChainStep → State × Turn) (x : State × Turn) → Asks s x → ((ks : List ChainStep) → o ≡ Some ks → Asks s (f ks)) → Asks s (option_map_or f o x)
by_planned s None f x none some = none
by_planned s (Some ks) f x none some = some ks refl

request_asks : (s new fine lifted : State) (d : ℕ) (what : Sleeping) (number x : ℕ) (row : HandleRow) (range : Option (ℕ × ℕ)) → handle_at s.handles number ≡ Some row → wiring new ≡ wiring s
    → Asks s (request s new fine lifted d what row.clock.0 x range)
request_asks s new fine lifted d what number x row range live same =
    pick_either (Asks s) _ _ _ (λ e k going has. absurd cc)
    (λ e. pick_either (Asks s) _ _ _ (λ busy k going has. absurd cc)
    (λ free. by_planned s (chain (wiring new) (view lifted) row.clock.0 x) (λ ks. starts s new (change_along new d what ks [] range)) (refused s errno.EINVAL) (λ k going has. absurd cc)
    (λ ks planned. pick_either (Asks s) _ _ _ (λ full k going has. absurd cc)
    (λ room k going has.
    let is : change_along new d what ks [] range ≡ k = cc in
    record {
      number = number;
      row = row;
      live = live;
      seen = view lifted;
      rate = x;
      found = ap (λ (w : Wiring). chain w (view lifted) row.clock.0 x) (sym same) ∙ planned ∙ ap (λ (j : Change). Some j.chain) is;
    }))))

abbrev ranged_row : HandleRow → ℕ → ℕ → HandleRow
ranged_row row least most = record row { min = least; max = most }

rate_asks : (s : State) (d : ℕ) (h : Handle) (x : ℕ) → Asks s (begun s d (call.SetRate h x))
unfolding begun
rate_asks s d h x =
    with_handle_either (Asks s) s d h.number (λ row. request s s s (lift s h.number) d (call.SetRate h x) row.clock.0 x None) (λ k going has. absurd cc)
    (λ row own. let at = own_is_live s d h.number row own in
    request_asks s s s (lift s h.number) d (call.SetRate h x) h.number x row None at refl)

exclusive_asks : (s : State) (d : ℕ) (h : Handle) (x : ℕ) → Asks s (begun s d (call.SetRateExclusive h x))
unfolding begun
exclusive_asks s d h x =
    with_handle_either (Asks s) s d h.number (λ row. request s s (held_once_more s h.number row) s d (call.SetRateExclusive h x) row.clock.0 x None) (λ k going has. absurd cc)
    (λ row own. request_asks s s (held_once_more s h.number row) s d (call.SetRateExclusive h x) h.number x row None (own_is_live s d h.number row own) refl)

range_asks : (s : State) (d : ℕ) (h : Handle) (least most : ℕ) → Asks s (begun s d (call.SetRange h least most))
unfolding begun
range_asks s d h least most =
    with_handle_either (Asks s) s d h.number (λ row. range_set s d (call.SetRange h least most) h.number row least most) (λ k going has. absurd cc)
    (λ row own. let at = own_is_live s d h.number row own in
    let new : State = put_handle s h.number (Some (ranged_row row least most)) in
    pick_either (Asks s) (misses s h.number row least most) _ _ (λ missed k going has. absurd cc)
    (λ fits. request_asks s new new (lift new h.number) d (call.SetRange h least most) h.number (request_between s.clocks row.clock.0 least most) row (Some (row.min, row.max)) at refl))

asks_so : (s : State) (d : ℕ) (what : Sleeping) → asks_rate what ≡ true → Asks s (begun s d what)
asks_so s d (call.SetRate h x) e = rate_asks s d h x
asks_so s d (call.SetRateExclusive h x) e = exclusive_asks s d h x
asks_so s d (call.SetRange h least most) e = range_asks s d h least most
asks_so s d _ e = absurd cc

-- the chain of a request for a rate that goes on can be gone along
pub request_can : (words : ℕ) (s t : State) (d : ℕ) (what : Sleeping) (k : Change) → IsSound words s → ((c p : ℕ) → link_in s.clocks c ≡ Some p → registered s.clocks p ≡ true)
    → asks_rate what ≡ true → next s d (event.Begin what) ≡ Some (t, turn.Going) → t.change ≡ Some k → can_go_along false s.defs s.clocks k.chain ≡ true
unfolding settled
request_can words s t d what k sound there asks comes at =
    steps_can words (wiring s) k.chain sound.narrow.valid
    (plan_rooted words (wiring s) asked.seen asked.row.clock.0 asked.rate k.chain sound.narrow.valid sound.narrow.possible there
    (handle_has_root words s asked.number asked.row sound.like start.0 asked.live) asked.found)
    (leads_chain (wiring s) asked.seen asked.row.clock.0 asked.rate k.chain sound.narrow.possible asked.found) where
      start : (s.change ≡ None) × (record (settled s (begun s d what).0) { spent = s.spent + 1 } ≡ t) × ((begun s d what).1 ≡ turn.Going)
      start = begin_is s t d what turn.Going comes

      asked : Asked s k.chain
      asked = asks_so s d what asks k start.2 (ap (λ (u : State). u.change) start.1 ∙ at)
