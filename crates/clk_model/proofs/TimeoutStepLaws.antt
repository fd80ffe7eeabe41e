-- Laws on steps that change nothing but power bits, and on scripts in which no raise stands behind a step that does more.
use Rattle.std.proofs.Common.{◌≡◌, ℕ, ◌-◌, ◌||◌, ◌&&◌, Bool, true, false, List, [], ◌∷◌, ◌++◌, Option, Some, None, refl, ap, ◌∙◌, length}
use Rattle.std.specs.Prelude.{nat_le, option_map, reverse, slice_get, if◌then◌else◌}
use Rattle.std.specs.List.{list_any}
use Rattle.clk_base.specs.declared.call.Micro.{Micro}
use Rattle.clk_base.specs.declared.call.Micro.TheVariants as micro
use Rattle.clk_base.specs.declared.call.Sleeping.{Sleeping}
use Rattle.clk_base.specs.declared.call.Sleeping.TheVariants as call
use Rattle.clk_base.specs.declared.event.Event.{Event}
use Rattle.clk_base.specs.declared.event.Turn.{Turn}
use Rattle.clk_base.specs.Description.{Description, kind_of}
use Rattle.clk_base.specs.Fields.{Field, GateBit, field_of, gate_of}
use Rattle.clk_base.specs.Valid.{IsValid}
use Rattle.clk_base.proofs.Valid.{field-field}
use Rattle.clk_model.specs.declared.row.ClockRow.{ClockRow}
use Rattle.clk_model.specs.State.{State, Change, handle_at}
use Rattle.clk_model.specs.Rate.{rate}
use Rattle.clk_model.specs.Gates.{settled}
use Rattle.clk_model.specs.Chain.{clock_id}
use Rattle.clk_model.specs.Step.{is_end, from_first, cut_short, on, powered, timed_out, to_raise, raise_one, poll, is_yes, to_lower, lower_one, stepped}
use Rattle.clk_model.specs.Machine.{next}
use Rattle.clk_model.specs.Prep.{without_enables}
use Rattle.clk_model.specs.Tier.{is_enable_tier}
use Rattle.clk_model.specs.Laws.NothingLeft.{DiffersInPower, is_dropped_whole}
use Rattle.clk_model.proofs.Members.{not_either}
use Rattle.clk_model.proofs.NoneLaws.{none_append, none_front, none_rest}
use Rattle.clk_model.proofs.Cases.{by_option, by_test}
use Rattle.clk_model.proofs.ApartLaws.{gate_or_field}
use Rattle.clk_model.proofs.RateLaws.{writes_leave_rates}
use Rattle.clk_model.proofs.TierLaws.{enable_tier_leaves_prep}
use Rattle.clk_model.proofs.PrepToldLaws.{prep_tells}
use Rattle.clk_model.proofs.StepLaws.{raises}
use Rattle.clk_model.proofs.FieldLaws.{FieldStays, powered_stays, closed_stays, settled_stays}
use Rattle.clk_model.proofs.GateRateLaws.{scales_is_field}

-- ---- steps that do more than power

-- whether a step changes more than power bits and gates
abbrev pub does_more : Micro → Bool
does_more (micro.HoldPrepare x) = true
does_more (micro.HoldEnable x) = true
does_more (micro.Relink c p) = true
does_more (micro.WriteMux c place) = true
does_more (micro.DropEnable x) = true
does_more (micro.DropPrepare x) = true
does_more (micro.Visit c) = true
does_more (micro.Register c) = true
does_more (micro.Settle c) = true
does_more _ = false

-- whether a raise stands behind a step that does more
abbrev pub raises_late : List Micro → Bool
raises_late [] = false
raises_late (m ∷ ms) = (does_more m && list_any raises ms) || raises_late ms

-- where nothing raises, nothing raises late
pub late_calm : (ms : List Micro) → list_any raises ms ≡ false → raises_late ms ≡ false
late_calm [] none = refl
late_calm (m ∷ ms) none =
    let rest = none_rest raises m ms none in
    ap (λ (t : Bool). (does_more m && t) || raises_late ms) rest ∙ one (does_more m) (late_calm ms rest) where
      one : (b : Bool) → raises_late ms ≡ false → ((b && false) || raises_late ms) ≡ false
      one true e = e
      one false e = e

-- behind steps that do no more, the rest raises late
pub late_past : (xs ys : List Micro) → list_any does_more xs ≡ false → raises_late ys ≡ false → raises_late (xs ++ ys) ≡ false
late_past [] ys none late = late
late_past (x ∷ xs) ys none late =
    ap (λ (t : Bool). (t && list_any raises (xs ++ ys)) || raises_late (xs ++ ys)) (none_front does_more x xs none) ∙ late_past xs ys (none_rest does_more x xs none) late

-- in front of steps that don't raise, only the first part raises late
pub late_front : (xs ys : List Micro) → list_any raises ys ≡ false → raises_late xs ≡ false → raises_late (xs ++ ys) ≡ false
late_front [] ys none late = late_calm ys none
late_front (x ∷ xs) ys none late =
    let parts = not_either (does_more x && list_any raises xs) (raises_late xs) late in
    both (does_more x) (list_any raises xs) refl parts.0 (late_front xs ys none parts.1) where
      both : (a b : Bool) → list_any raises xs ≡ b → (a && b) ≡ false → raises_late (xs ++ ys) ≡ false → ((a && list_any raises (xs ++ ys)) || raises_late (xs ++ ys)) ≡ false
      both false b e f rest = rest
      both true true e f rest = absurd cc
      both true false e f rest = ap (λ (t : Bool). t || raises_late (xs ++ ys)) (none_append raises xs ys e none) ∙ rest

-- what a timeout leaves raises late no more than the whole does
pub late_from : (ms : List Micro) → raises_late ms ≡ false → raises_late (from_first is_end ms) ≡ false
late_from [] late = refl
late_from (m ∷ ms) late = one (is_end m) (late_from ms (not_either (does_more m && list_any raises ms) (raises_late ms) late).1) where
  one : (t : Bool) → raises_late (from_first is_end ms) ≡ false → raises_late (if t then m ∷ ms else from_first is_end ms) ≡ false
  one true rest = late
  one false rest = rest

pub from_twice : (ms : List Micro) → from_first is_end (from_first is_end ms) ≡ from_first is_end ms
from_twice [] = refl
from_twice (m ∷ ms) = one (is_end m) refl (from_twice ms) where
  one : (t : Bool) → is_end m ≡ t → from_first is_end (from_first is_end ms) ≡ from_first is_end ms → from_first is_end (if t then m ∷ ms else from_first is_end ms) ≡ (if t then m ∷ ms else from_first is_end ms)
  one true e rest = ap (λ (t : Bool). if t then m ∷ ms else from_first is_end ms) e
  one false e rest = rest

pub cut_is_from : (what : Sleeping) (ms : List Micro) → is_dropped_whole what ≡ true → cut_short what ms ≡ from_first is_end ms
cut_is_from (call.Prepare h) ms is = refl
cut_is_from (call.SetParent h p) ms is = refl
cut_is_from _ ms is = absurd cc

-- ---- what steps leave that do no more

-- a state has all of another but power bits, gates and enables
pub record IsPowered (q s : State) : Type 0 where
  pub defs : s.defs ≡ q.defs
  pub clocks : s.clocks ≡ q.clocks
  pub order : s.order ≡ q.order
  pub handles : (number : ℕ) → option_map without_enables (handle_at s.handles number) ≡ option_map without_enables (handle_at q.handles number)
  pub notifiers : s.notifiers ≡ q.notifiers
  pub prepare_holds : s.prepare_holds ≡ q.prepare_holds
  pub fields : (c : ℕ) → FieldStays q.defs q.regs s.regs c

-- so it has its rates
pub differs_of : (q s : State) → IsPowered q s → DiffersInPower q s
differs_of q s is = record {
  defs = is.defs;
  clocks = is.clocks;
  order = is.order;
  handles = is.handles;
  notifiers = is.notifiers;
  prepare_holds = is.prepare_holds;
  fields = λ c f at. is.fields c f at;
  rates = λ c.
      ap (λ (ds : Description). rate ds s.regs s.clocks c) is.defs ∙ ap (λ (rs : List ClockRow). rate q.defs s.regs rs c) is.clocks
      ∙ writes_leave_rates q.defs q.regs s.regs q.clocks c (λ a m f at. is.fields a f (scales_is_field (kind_of q.defs a) f at));
}

-- the same of a state that differs in its registers alone, which keep all fields
pub powered_over : (q s u : State) → IsPowered q s → u.defs ≡ s.defs → u.clocks ≡ s.clocks → u.order ≡ s.order → u.handles ≡ s.handles → u.notifiers ≡ s.notifiers → u.prepare_holds ≡ s.prepare_holds
    → ((c : ℕ) → FieldStays s.defs s.regs u.regs c) → IsPowered q u
powered_over q s u is defs clocks order handles notifiers holds fields = record {
  defs = defs ∙ is.defs;
  clocks = clocks ∙ is.clocks;
  order = order ∙ is.order;
  handles = λ number. ap (λ hs. option_map without_enables (handle_at hs number)) handles ∙ is.handles number;
  notifiers = notifiers ∙ is.notifiers;
  prepare_holds = holds ∙ is.prepare_holds;
  fields = λ c f at. fields c f (ap (λ (ds : Description). field_of (kind_of ds c)) is.defs ∙ at) ∙ is.fields c f at;
}

pub powered_settled : (q s u : State) (spent steps : ℕ) → IsValid (length u.regs) u.defs → IsPowered q u → IsPowered q (record (settled s u) { spent = spent; steps = steps })
unfolding settled
powered_settled q s u spent steps valid is = powered_over q u _ is refl refl refl refl refl refl (λ c. settled_stays s u c valid)

-- the state before the gates follow
pub powered_same : (q s : State) (change : Option Change) → IsPowered q s → IsPowered q (record s { change = change })
powered_same q s change is = powered_over q s _ is refl refl refl refl refl refl (λ c f at. refl)

pub powered_bit : (q s : State) (z : ℕ) (up : Bool) (k : Change) → IsValid (length s.regs) s.defs → IsPowered q s → IsPowered q (on (powered s z up) k)
powered_bit q s z up k valid is = powered_over q s _ is refl refl refl refl refl refl (λ c. powered_stays s (length s.regs) z up c valid)

-- a step that does no more leaves it so
pub step_powers : (q s : State) (k : Change) (answer : Option Bool) (m : Micro) → IsValid (length s.regs) s.defs → does_more m ≡ false → is_end m ≡ false → IsPowered q s → IsPowered q (stepped s k answer m).0
unfolding stepped
step_powers q s k answer (micro.Notify kind c id old new) valid less going is = powered_same q s (Some k) is
step_powers q s k answer (micro.Raise x) valid less going is =
    by_option (IsPowered q) (slice_get (reverse (to_raise s k x.0)) 0) (raise_one s k x.0) (on s (record k { again = 0 })) (powered_same q s _ is) (λ y. powered_bit q s y true _ valid is)
step_powers q s k answer (micro.Lower x) valid less going is =
    by_option (IsPowered q) (slice_get (to_lower s x.0) 0) (lower_one s k x.0) (on s (record k { again = 0 })) (powered_same q s _ is) (λ y. powered_bit q s y false _ valid is)
step_powers q s k answer (micro.Poll y) valid less going is = by_yes (is_yes answer) where
  by_yes : (b : Bool) → IsPowered q (poll s k y.0 b)
  by_yes true = powered_same q s _ is
  by_yes false =
      by_test (IsPowered q) (nat_le k.polls 1) (timed_out s (record k { polls = 0 })) (on s (record k { polls = k.polls - 1; front = micro.Poll (clock_id y.0) ∷ k.front })) (powered_same q s _ is) (powered_same q s _ is)
step_powers q s k answer (micro.Fall y) valid less going is = powered_bit q s y.0 false _ valid is
step_powers q s k answer (micro.Unpower c) valid less going is = powered_bit q s c.0 false k valid is
step_powers q s k answer (micro.Close c) valid less going is = powered_over q s _ is refl refl refl refl refl refl (λ d. closed_stays s (length s.regs) c.0 d valid)
step_powers q s k answer micro.End valid less going is = absurd cc
step_powers q s k answer _ valid less going is = absurd cc

-- an event of the enable tier does, too
pub no_gate : (defs : Description) (c : ℕ) (f : Field) → field_of (kind_of defs c) ≡ Some f → gate_of (kind_of defs c) ≡ None
no_gate defs c f at = one (gate_of (kind_of defs c)) refl where
  one : (o : Option GateBit) → gate_of (kind_of defs c) ≡ o → o ≡ None
  one None own = refl
  one (Some gate) own = absurd (gate_or_field (kind_of defs c) gate f own at)

pub tier_powers : (q s t : State) (d : ℕ) (e : Event) (x : Turn) → IsValid (length s.regs) s.defs → is_enable_tier e ≡ true → next s d e ≡ Some (t, x) → IsPowered q s → IsPowered q t
tier_powers q s t d e x valid tier step is =
    let told = prep_tells s t valid (enable_tier_leaves_prep s t d e x tier step) in
    record {
      defs = told.defs ∙ is.defs;
      clocks = told.clocks ∙ is.clocks;
      order = told.order ∙ is.order;
      handles = λ number. told.handles number ∙ is.handles number;
      notifiers = told.notifiers ∙ is.notifiers;
      prepare_holds = told.prepare_holds ∙ is.prepare_holds;
      fields = λ c f at.
          let own : field_of (kind_of s.defs c) ≡ Some f = ap (λ (ds : Description). field_of (kind_of ds c)) is.defs ∙ at in
          told.fields c 0 f (field-field (kind_of s.defs c) f own) (no_gate s.defs c f own) ∙ is.fields c f at;
    }
