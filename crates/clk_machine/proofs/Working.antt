-- What comes next of the change in flight, and what a search for PLLs comes to.
use Rattle.std.proofs.Common.{◌≡◌, ℕ, ◌+◌, ◌≤◌, true, false, length, arith, List, Option, Some, None, refl, sym, ap, subst, ◌∙◌, reverse}
use Rattle.std.specs.Prelude.{slice_get, IfSome}
use Rattle.std.specs.Option.{option_map}
use Rattle.clk_base.specs.declared.call.Micro.{Micro}
use Rattle.clk_base.specs.declared.call.Micro.TheVariants as micro
use Rattle.clk_base.specs.declared.clock.ClockId.{ClockId}
use Rattle.clk_model.specs.State.{Change, NotifierRow, registered}
use Rattle.clk_model.specs.Tree.{path, path_to_be}
use Rattle.clk_model.specs.Step.{todo}
use Rattle.clk_model.specs.Laws.Paced.{is_notice}
use Rattle.clk_model.specs.Notices.{notifiers_of}
use Rattle.clk_flight.specs.declared.front.Front.{Front}
use Rattle.clk_flight.specs.declared.front.Front.TheVariants.{Empty, Poll, Raise, Lower, Falls, Posts}
use Rattle.core_parts.specs.InFlight.{changes_rate, is_front}
use Rattle.core_parts.specs.Course.{notifiers_at, PostsFit}
use Rattle.clk_flight.specs.Flights.{IsChange, own_step, comes_next}
use Rattle.clk_flight.specs.Steps.{is_fall}
use Rattle.notifiers.specs.Chains.{Tells}
use Rattle.core_parts.specs.declared.plls.Sought.{Sought}
use Rattle.clk_machine.specs.Making.{ComesFirst, ComesNext, FindsNothing}
use Rattle.clk_machine.specs.Parts.{Parts, IsWhole}
use Rattle.core_parts.specs.Plls.{raisable, lowerable, Finds}
use Rattle.core_parts.proofs.Coming.{some_comes}
use Rattle.core_parts.proofs.InFlight.{raise_there, lower_there}
use Rattle.core_parts.proofs.StepsInFlight.{fall_untold}
use Rattle.core_parts.proofs.NotifierRows.{count_told}
use Rattle.clk_machine.proofs.Telling.{tells_next}
use Rattle.clk_machine.proofs.Making.{to_raise_stands, to_lower_stands}
use Rattle.clk_machine.proofs.Stepping.{raises_none, lowers_none}

-- ---- what comes next

-- what stands in front of a change of rate fits the notifiers
posts_fit : (p : Parts) (rows : List NotifierRow) → IsWhole p → p.flight.going ≡ true → Tells p.chains rows → PostsFit (λ c. length (notifiers_of rows c)) p.flight.front
posts_fit p rows whole going tells = by p.flight.front refl where
  by : (front : Front) → p.flight.front ≡ front → PostsFit (λ c. length (notifiers_of rows c)) front
  by (Posts c told left old new) at =
      let way = (whole.flown going).way in
      let changes : changes_rate p.flight.call ≡ true = sym (ap (is_front p.flight.call (registered p.tree.clocks)) at) ∙ way.front in
      let fits : told + left ≤ notifiers_at p.chains c.0 = subst (λ (front : Front). PostsFit (notifiers_at p.chains) front) at ((whole.flown going).tells changes).front in
      let same : length (notifiers_of rows c.0) ≡ notifiers_at p.chains c.0 = count_told p.chains rows c.0 tells in
      omega arith
  by Empty at = tt
  by (Poll y polls again) at = tt
  by (Raise x) at = tt
  by (Lower x) at = tt
  by (Falls told left) at = tt

pub works : (p : Parts) (r : Option Micro) → IsWhole p → p.flight.going ≡ true
    → ((rows : List NotifierRow) → Tells p.chains rows → r ≡ comes_next rows p.flight)
    → ((m : Micro) → r ≡ Some m → is_notice m ≡ false → is_fall m ≡ false → own_step p.flight ≡ Some m)
    → ((rows : List NotifierRow) (k : Change) → Tells p.chains rows → IsChange rows p.flight k → r ≡ slice_get (todo k) 0)
    → ComesNext p r
works p (Some (micro.Notify kind c id old new)) whole going step own first =
    (tells_next p (micro.Notify kind c id old new) whole going (sym (step whole.listed.rows whole.listed.tells)) refl, λ rows k tells change. sym (first rows k tells change))
works p (Some (micro.Fall y)) whole going step own first =
    (fall_untold whole.listed.rows p.flight y (sym (step whole.listed.rows whole.listed.tells)), λ rows k tells change. sym (first rows k tells change))
works p (Some micro.End) whole going step own first = λ rows k tells change. sym (first rows k tells change)
works p None whole going step own first = λ rows k tells change.
    absurd (some_comes rows p.flight (registered p.tree.clocks) k going change (posts_fit p rows whole going tells) (whole.flown going).way (sym (step rows tells)))
works p (Some (micro.Raise x)) whole going step own first = (own (micro.Raise x) refl refl refl, λ rows k tells change. sym (first rows k tells change))
works p (Some (micro.Poll y)) whole going step own first = (own (micro.Poll y) refl refl refl, λ rows k tells change. sym (first rows k tells change))
works p (Some (micro.Lower x)) whole going step own first = (own (micro.Lower x) refl refl refl, λ rows k tells change. sym (first rows k tells change))
works p (Some (micro.HoldPrepare x)) whole going step own first = (own (micro.HoldPrepare x) refl refl refl, λ rows k tells change. sym (first rows k tells change))
works p (Some (micro.HoldEnable x)) whole going step own first = (own (micro.HoldEnable x) refl refl refl, λ rows k tells change. sym (first rows k tells change))
works p (Some (micro.DropEnable x)) whole going step own first = (own (micro.DropEnable x) refl refl refl, λ rows k tells change. sym (first rows k tells change))
works p (Some (micro.DropPrepare x)) whole going step own first = (own (micro.DropPrepare x) refl refl refl, λ rows k tells change. sym (first rows k tells change))
works p (Some (micro.Relink c q)) whole going step own first = (own (micro.Relink c q) refl refl refl, λ rows k tells change. sym (first rows k tells change))
works p (Some (micro.WriteMux c n)) whole going step own first = (own (micro.WriteMux c n) refl refl refl, λ rows k tells change. sym (first rows k tells change))
works p (Some (micro.Visit c)) whole going step own first = (own (micro.Visit c) refl refl refl, λ rows k tells change. sym (first rows k tells change))
works p (Some (micro.Register c)) whole going step own first = (own (micro.Register c) refl refl refl, λ rows k tells change. sym (first rows k tells change))
works p (Some (micro.Settle c)) whole going step own first = (own (micro.Settle c) refl refl refl, λ rows k tells change. sym (first rows k tells change))
works p (Some (micro.Close c)) whole going step own first = (own (micro.Close c) refl refl refl, λ rows k tells change. sym (first rows k tells change))
works p (Some (micro.Unpower c)) whole going step own first = (own (micro.Unpower c) refl refl refl, λ rows k tells change. sym (first rows k tells change))

-- ---- a search

-- what was found, where a PLL was
pub finds_some : (found : Sought) (pll : ClockId) (xs : List ℕ) → found.pll ≡ Some pll → Finds found xs → Finds (record { pll = Some pll; more = found.more }) xs
finds_some found pll xs at is = record { first = sym (ap (option_map (λ c. c.0)) at) ∙ is.first; more = is.more }

pub finds_some_told : (found : Sought) (pll : ClockId) (words : Option (List ℕ)) (xs : List ℕ → List ℕ) → found.pll ≡ Some pll → IfSome words (λ regs. Finds found (xs regs))
    → IfSome words (λ regs. Finds (record { pll = Some pll; more = found.more }) (xs regs))
finds_some_told found pll None xs at is = tt
finds_some_told found pll (Some regs) xs at is = finds_some found pll (xs regs) at is

-- a raise that finds none
pub raise_nothing : (p : Parts) (x : ClockId) (found : Sought) → IsWhole p → p.flight.going ≡ true → own_step p.flight ≡ Some (micro.Raise x) → ComesFirst p (micro.Raise x)
    → IfSome p.window.words (λ regs. Finds found (reverse (raisable p.desc.defs p.counts p.flight.raised (path_to_be p.desc.defs regs p.tree.clocks x.0)))) → found.pll ≡ None → FindsNothing p (micro.Raise x)
raise_nothing p x found whole going own first is none = record {
  first = first;
  seeks = raise_there p.flight (registered p.tree.clocks) x own (whole.flown going).way;
  taken_ = λ s k stands change same.
      let told : Finds found (reverse (raisable p.desc.defs p.counts p.flight.raised (path_to_be p.desc.defs s.regs p.tree.clocks x.0))) =
      subst (λ (o : Option (List ℕ)). IfSome o (λ regs. Finds found (reverse (raisable p.desc.defs p.counts p.flight.raised (path_to_be p.desc.defs regs p.tree.clocks x.0))))) stands.regs is in
      raises_none s p.flight.driver k x (record { change = change; driver = same.driver; first = first s.notifiers k stands.notifiers same })
      (ap (λ (ys : List ℕ). slice_get (reverse ys) 0) (to_raise_stands p s k x.0 whole stands same) ∙ sym told.first ∙ ap (option_map (λ c. c.0)) none);
}

-- a lower that finds none
pub lower_nothing : (p : Parts) (x : ClockId) (found : Sought) → IsWhole p → p.flight.going ≡ true → own_step p.flight ≡ Some (micro.Lower x) → ComesFirst p (micro.Lower x)
    → IfSome p.window.words (λ regs. Finds found (lowerable p.desc.defs p.counts regs (path p.tree.clocks x.0))) → found.pll ≡ None → FindsNothing p (micro.Lower x)
lower_nothing p x found whole going own first is none = record {
  first = first;
  seeks = lower_there p.flight (registered p.tree.clocks) x own (whole.flown going).way;
  taken_ = λ s k stands change same.
      let told : Finds found (lowerable p.desc.defs p.counts s.regs (path p.tree.clocks x.0)) =
      subst (λ (o : Option (List ℕ)). IfSome o (λ regs. Finds found (lowerable p.desc.defs p.counts regs (path p.tree.clocks x.0)))) stands.regs is in
      lowers_none s p.flight.driver k x (record { change = change; driver = same.driver; first = first s.notifiers k stands.notifiers same })
      (ap (λ (ys : List ℕ). slice_get ys 0) (to_lower_stands p s x.0 whole stands) ∙ sym told.first ∙ ap (option_map (λ c. c.0)) none);
}
