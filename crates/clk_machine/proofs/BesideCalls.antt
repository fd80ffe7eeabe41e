-- A call in a journal whose steps touch neither enables nor gates leaves both to the enables and disables beside it.
use Rattle.std.proofs.Common.{◌≡◌, ℕ, Bool, false, List, [], ◌∷◌, ◌++◌, Option, Some, refl, sym, ap, subst, ◌∙◌, length}
use Rattle.std.specs.List.{list_any}
use Rattle.std.specs.Option.{option_map_or}
use Rattle.clk_base.specs.declared.call.Micro.{Micro}
use Rattle.clk_base.specs.declared.call.Micro.TheVariants as micro
use Rattle.clk_base.specs.declared.event.Entry.{Entry}
use Rattle.clk_base.specs.declared.event.Errno.{Errno}
use Rattle.clk_base.specs.declared.event.Event.{Event}
use Rattle.clk_base.specs.declared.event.Event.TheVariants as event
use Rattle.clk_base.specs.declared.event.Reply.TheVariants as reply
use Rattle.clk_base.specs.declared.event.Turn.{Turn}
use Rattle.clk_base.specs.declared.event.Turn.TheVariants as turn
use Rattle.clk_base.specs.Valid.{IsValid}
use Rattle.clk_model.specs.Journal.{slotless, replay, Legal}
use Rattle.clk_model.specs.Laws.Flight.{IsInFlight, steps_of}
use Rattle.clk_model.specs.Machine.{next}
use Rattle.clk_model.specs.State.{State}
use Rattle.clk_model.proofs.FlightLaws.{step_is}
use Rattle.clk_model.proofs.VetoLaws.{ends_it}
use Rattle.clk_machine.specs.Besides.{SameEnables, enable_tier_of}
use Rattle.clk_machine.proofs.Besides.{Beside}
use Rattle.clk_machine.proofs.BesideBegins.{begin_beside, is_unprepare}
use Rattle.clk_machine.proofs.BesideSteps.{end_beside, steps_beside, touches}
use Rattle.clk_machine.proofs.Dropped.{flight_begins, made_no_end}

-- the rest of a legal journal is legal from where its first entries lead, and leads where the whole does
legal_behind : (s : State) (xs ys : List Entry) → Legal s (xs ++ ys) → Legal (replay s xs) ys
legal_behind s [] ys legal = legal
legal_behind s (x ∷ xs) ys legal =
    let after : option_map_or (λ (y : State × Turn). y.0) (next s x.driver x.event) s ≡ legal.0 = ap (λ (o : Option (State × Turn)). option_map_or (λ y. y.0) o s) legal.1 in
    subst (λ (u : State). Legal (replay u xs) ys) (sym after) (legal_behind legal.0 xs ys legal.2)

replay_behind : (s : State) (xs ys : List Entry) → replay s (xs ++ ys) ≡ replay (replay s xs) ys
replay_behind s [] ys = refl
replay_behind s (x ∷ xs) ys = replay_behind (option_map_or (λ y. y.0) (next s x.driver x.event) s) xs ys

-- behind the steps that a call in flight has made
call_beside : (start : State) (journal : List Entry) (f : IsInFlight start journal) → IsValid (length (replay start f.before).regs) (replay start f.before).defs → Legal start journal
    → is_unprepare f.what ≡ false → list_any touches (steps_of f.since) ≡ false
    → Beside (length (replay start f.before).regs) (replay (replay start f.before) (enable_tier_of f.since)) (replay start journal)
call_beside start journal f valid legal other mild =
    let q : State = replay start f.before in
    let rest = legal_behind start f.before (f.first ∷ f.since) (subst (λ (es : List Entry). Legal start es) f.parts legal) in
    let t : State = rest.0 in
    let first : next q f.first.driver f.first.event ≡ Some (t, slotless f.first.turn) = rest.1 in
    let begins = flight_begins q f.first.driver f.what f.flight in
    let same : t ≡ begins.0 =
    ap (λ (o : Option (State × Turn)). option_map_or (λ (y : State × Turn). y.0) o t) (sym first ∙ ap (λ (v : Event). next q f.first.driver v) f.beginning ∙ begins.1) in
    let beside = begin_beside q begins.0 f.first.driver f.what valid other begins.1 in
    let comes : replay start journal ≡ replay t f.since =
    ap (replay start) f.parts ∙ replay_behind start f.before (f.first ∷ f.since) ∙ ap (λ (o : Option (State × Turn)). replay (option_map_or (λ x. x.0) o q) f.since) first in
    subst (λ (w : State). Beside (length q.regs) (replay q (enable_tier_of f.since)) w) (sym comes)
    (steps_beside (length q.regs) q t beside.1 f.since (subst (λ (w : State). Beside (length q.regs) q w) (sym same) beside.0) (ap (λ (w : State). w.change) same ∙ beside.2) rest.2 mild
    (made_no_end q f.first.driver f.what f.flight))

-- and at its end, where it is refused
pub refused_beside : (start t : State) (journal : List Entry) (f : IsInFlight start journal) (d : ℕ) (m : Micro) (answer : Option Bool) (e : Errno)
    → IsValid (length (replay start f.before).regs) (replay start f.before).defs → Legal start journal
    → is_unprepare f.what ≡ false → list_any touches (steps_of f.since) ≡ false → next (replay start journal) d (event.Step m answer) ≡ Some (t, turn.Done (reply.Refused e))
    → SameEnables t (replay (replay start f.before) (enable_tier_of f.since))
refused_beside start t journal f d m answer e valid legal other mild step =
    let q : State = replay start f.before in
    let of = step_is (replay start journal) t d m answer (turn.Done (reply.Refused e)) step in
    let end : m ≡ micro.End = ends_it (replay start journal) _ answer m (reply.Refused e) of.1.answered in
    end_beside (length q.regs) (replay q (enable_tier_of f.since)) (replay start journal) t d answer e (call_beside start journal f valid legal other mild)
    (ap (λ (x : Micro). next (replay start journal) d (event.Step x answer)) (sym end) ∙ step)
