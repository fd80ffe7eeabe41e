-- How a call begins that is made in a legal run.
use Rattle.std.proofs.Common.{◌≡◌, ℕ, List, [], ◌∷◌, ◌++◌, Option, Some, length, sym, ap, subst, ◌∙◌}
use Rattle.std.specs.Option.{option_map_or}
use Rattle.clk_base.specs.Valid.{IsValid}
use Rattle.clk_base.specs.declared.call.Sleeping.{Sleeping}
use Rattle.clk_base.specs.declared.event.Entry.{Entry}
use Rattle.clk_base.specs.declared.event.Event.TheVariants as event
use Rattle.clk_base.specs.declared.event.Turn.{Turn}
use Rattle.clk_model.specs.State.{State}
use Rattle.clk_model.specs.Machine.{next}
use Rattle.clk_model.specs.Journal.{Legal, replay, slotless}
use Rattle.clk_model.specs.Round.{wiring}
use Rattle.clk_model.specs.Wired.{IsWired}
use Rattle.clk_model.proofs.CopyLaws.{copies_serve}
use Rattle.clk_model.proofs.FlightLaws.{begin_is}
use Rattle.clk_model.proofs.LinkLaws.{runs_are_wired}
use Rattle.clk_framework.specs.declared.opened.Opened.{Opened}
use Rattle.clk_framework.specs.Opening.{start_of}
use Rattle.clk_framework.specs.Calls.{entry_of, BeginsByPrep}

-- an entry of a legal journal is made in the state before it
pub made_at : (s : State) (prefix rest : List Entry) (e : Entry) → Legal s (prefix ++ e ∷ rest) → (t : State) × (next (replay s prefix) e.driver e.event ≡ Some (t, slotless e.turn))
made_at s [] rest e legal = (legal.0, legal.1)
made_at s (f ∷ prefix) rest e legal =
    let after : option_map_or (λ x. x.0) (next s f.driver f.event) s ≡ legal.0 = ap (λ (o : Option (State × Turn)). option_map_or (λ x. x.0) o s) legal.1 in
    let more = made_at legal.0 prefix rest e legal.2 in
    (more.0, ap (λ (u : State). next (replay u prefix) e.driver e.event) after ∙ more.1)

-- if it is a call's beginning, the call begins by the prepare tier's part of that state
pub begins_by_prep : (o : Opened) (d : ℕ) (what : Sleeping) (before rest : List Entry) (first : Turn) → IsValid (length o.words) o.defs
    → Legal (start_of o) (before ++ entry_of d (event.Begin what) first ∷ rest) → BeginsByPrep (replay (start_of o) before) d what first
begins_by_prep o d what before rest first valid legal =
    let s : State = replay (start_of o) before in
    let made = made_at (start_of o) before rest (entry_of d (event.Begin what) first) legal in
    let is = begin_is s made.0 d what (slotless first) made.1 in
    let known = runs_are_wired o.defs o.words o.ignore_unused o.credits before valid in
    record {
      quiet = is.0;
      begins = sym is.2;
      serves = copies_serve s d what (subst (λ (n : ℕ). IsWired n (wiring s)) (sym known.size) known.wired);
    }
