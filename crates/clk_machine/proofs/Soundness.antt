-- What holds of a state that a journal leads to, and what the rows of one say so far.
use Rattle.std.proofs.Common.{◌≡◌, ℕ, Bool, List, [], ◌∷◌, ◌++◌, Some, refl, sym, ap, subst, ◌∙◌, ◌≤◌, length}
use Rattle.std.proofs.lemmas.List.{length-replicate}
use Rattle.clk_base.specs.declared.event.Entry.{Entry}
use Rattle.clk_base.specs.declared.event.Event.{Event}
use Rattle.clk_base.specs.declared.event.Turn.{Turn}
use Rattle.clk_base.specs.Description.{Description}
use Rattle.clk_base.specs.Valid.{IsValid}
use Rattle.clk_model.specs.State.{State}
use Rattle.clk_model.specs.Fed.{Fed}
use Rattle.clk_model.specs.Begin.{most_credits}
use Rattle.clk_model.specs.Machine.{next}
use Rattle.clk_model.specs.Journal.{opening, replay}
use Rattle.clk_model.specs.Wired.{LinksArePossible}
use Rattle.clk_model.specs.Laws.LinksKept.{KeepsLinks, IsWiredOver}
use Rattle.clk_model.specs.Laws.RunsEnd.{HasRoom}
use Rattle.clk_model.proofs.GatesFollowLaws.{blank_link}
use Rattle.clk_model.proofs.JournalLaws.{replay-append}
use Rattle.clk_model.proofs.LinkLaws.{runs_keep_links, runs_are_wired}
use Rattle.clk_model.proofs.RoomLaws.{runs_have_room}
use Rattle.clk_model.proofs.RunsFedLaws.{runs_are_fed}
use Rattle.clk_machine.specs.Sound.{IsReached, IsNarrow}

-- ---- a state that a journal leads to

-- its tree is wired over a valid description with so many words
pub wired_reached : (words : ℕ) (s : State) (is : IsReached words s) → IsWiredOver is.defs words s
wired_reached words s is =
    subst (λ (t : State). IsWiredOver is.defs words t) (sym is.leads)
    (subst (λ (n : ℕ). IsWiredOver is.defs n (replay (opening is.defs is.regs is.ignore_unused is.credits) is.journal)) is.size
    (runs_are_wired is.defs is.regs is.ignore_unused is.credits is.journal is.valid))

-- its links are kept
pub links_reached : (words : ℕ) (s : State) → IsReached words s → KeepsLinks s
links_reached words s is =
    subst (λ (t : State). KeepsLinks t) (sym is.leads)
    (runs_keep_links (length is.regs) is.defs is.regs is.ignore_unused is.credits is.journal is.valid)

-- it has room for the entries that may still come
pub room_reached : (words : ℕ) (s : State) → IsReached words s → HasRoom s
room_reached words s is =
    subst (λ (t : State). HasRoom t) (sym is.leads)
    (runs_have_room is.defs is.regs is.ignore_unused is.credits is.journal is.valid is.few)

-- its active clocks are fed
pub fed_reached : (words : ℕ) (s : State) → IsReached words s → Fed s
fed_reached words s is =
    subst (λ (t : State). Fed t) (sym is.leads) (runs_are_fed is.defs is.regs is.ignore_unused is.credits is.journal is.valid)

-- an event leads on
pub reached_next : (words : ℕ) (s t : State) (d : ℕ) (e : Event) (x : Turn) → IsReached words s → next s d e ≡ Some (t, x) → IsReached words t
reached_next words s t d e x is step =
    let entry : Entry = record { driver = d; event = e; turn = x } in
    record {
      defs = is.defs;
      regs = is.regs;
      ignore_unused = is.ignore_unused;
      credits = is.credits;
      journal = is.journal ++ entry ∷ [];
      valid = is.valid;
      size = is.size;
      few = is.few;
      leads = sym (replay-append (opening is.defs is.regs is.ignore_unused is.credits) t x is.journal entry (ap (λ (u : State). next u d e) (sym is.leads) ∙ step));
    }

-- ---- links

-- its link is a possible parent
pub links_possible : (words : ℕ) (s : State) → IsNarrow words s → LinksArePossible s.defs s.clocks
links_possible words s sound c p at = sound.possible c p at

-- ---- the opening

pub reached_opening : (words : List ℕ) (defs : Description) (ignore_unused : Bool) (credits : ℕ) → IsValid (length words) defs → credits ≤ most_credits
    → IsReached (length words) (opening defs words ignore_unused credits)
reached_opening words defs ignore_unused credits valid few = record {
  defs = defs;
  regs = words;
  ignore_unused = ignore_unused;
  credits = credits;
  journal = [];
  valid = valid;
  size = refl;
  few = few;
  leads = refl;
}

pub narrow_opening : (words : List ℕ) (defs : Description) (ignore_unused : Bool) (credits : ℕ) → IsValid (length words) defs → IsNarrow (length words) (opening defs words ignore_unused credits)
narrow_opening words defs ignore_unused credits valid = record {
  valid = valid;
  rows = length-replicate (length defs) _;
  attached = λ c m. absurd cc;
  unlinked = λ c free. blank_link (length defs) c;
  possible = λ c p at. let none = blank_link (length defs) c in absurd cc;
}
