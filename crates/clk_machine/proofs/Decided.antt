-- A call that changes a rate begins as was decided, in each sound state that the parts of a core stand for.
use Rattle.std.proofs.Common.{◌≡◌, ℕ, Bool, List, Option, Some, None, refl, sym, ap, subst, ◌∙◌, length}
use Rattle.std.proofs.Math.Path.{fun_ext}
use Rattle.clk_base.specs.declared.call.Sleeping.{Sleeping}
use Rattle.clk_base.specs.declared.call.Sleeping.TheVariants as call
use Rattle.clk_base.specs.declared.event.Errno.TheVariants as errno
use Rattle.clk_base.specs.declared.event.Turn.{Turn}
use Rattle.clk_base.specs.declared.handle.Handle.{Handle}
use Rattle.clk_model.specs.declared.row.HandleRow.{HandleRow}
use Rattle.clk_model.specs.Begin.{own_handle, with_handle, held_once_more, request, begun}
use Rattle.clk_model.specs.Holders.{guarded}
use Rattle.clk_model.specs.Laws.Lifting.{LiftedSees}
use Rattle.clk_model.specs.Round.{View, wiring}
use Rattle.clk_model.specs.State.{State, handle_at}
use Rattle.clk_model.specs.Views.{lift}
use Rattle.clk_model.specs.Wired.{IsWired}
use Rattle.clk_model.proofs.EventLaws.{with-none, with-some}
use Rattle.clk_model.proofs.LiftLaws.{lifting_sees}
use Rattle.counts_core.specs.Counted.{is_prepared}
use Rattle.counts_core.specs.Standing.{StandsFor}
use Rattle.counts_core.proofs.Standing.{tells_holds}
use Rattle.rate_requests.specs.Handles.{low_in, high_in}
use Rattle.core_parts.specs.Decisions.{Decision}
use Rattle.core_parts.specs.Decisions as decided
use Rattle.core_parts.specs.Planned.{AreItsNotifiers, IsAnswer, IsGiven, IsOver, answered}
use Rattle.core_parts.proofs.Deciding.{listed}
use Rattle.clk_machine.specs.Deciding.{Decides}
use Rattle.clk_machine.specs.Parts.{Parts, own_in, IsWhole}
use Rattle.clk_machine.specs.Sound.{IsSound}
use Rattle.clk_machine.specs.Stands.{Stands}
use Rattle.clk_machine.proofs.Entered.{own_stands}
use Rattle.clk_machine.proofs.Likeness.{wired_like}
use Rattle.clk_machine.proofs.Writing.{counts_stand, live_in}

-- ---- what planning is given

-- the tree of a sound state is wired
wired_sound : (words : ℕ) (s : State) → IsSound words s → IsWired (length s.regs) (wiring s)
wired_sound words s sound = let known = wired_like words s sound.like in subst (λ (n : ℕ). IsWired n (wiring s)) (sym known.size) known.wired

-- a state with these handles, which parts stand for but for their own
abbrev pub with_handles : State → List (Option HandleRow) → State
with_handles s hs = record s { handles = hs }

-- planning is given the words and the tree of a state that the parts stand for
pub over_parts : (m : Parts) (s : State) (hs : List (Option HandleRow)) → Stands m s → IsOver m.desc m.window m.tree (with_handles s hs)
over_parts m s hs stands = record { regs = stands.regs; defs = stands.defs; clocks = stands.clocks; order = stands.order }

-- and its notifiers
pub its_notifiers : (m : Parts) (s : State) (hs : List (Option HandleRow)) → Stands m s → AreItsNotifiers m.chains (with_handles s hs)
its_notifiers m s hs stands = stands.notifiers

abbrev view_of : (ℕ → ℕ) → (ℕ → ℕ) → (ℕ → Bool) → (ℕ → Bool) → View
view_of low high guarded_ prepared_ = record { low = low; high = high; guarded = guarded_; prepared = prepared_ }

-- with handles that the counts are of, that of the state with them
pub given_with : (m : Parts) (s : State) (hs : List (Option HandleRow)) → IsWhole m → Stands m s → StandsFor m.counts (with_handles s hs) → IsGiven m.desc m.window m.tree hs m.counts (with_handles s hs)
given_with m s hs whole stands counted = record {
  over = over_parts m s hs stands;
  counted = counted;
  sees =
      ap (λ (test : ℕ → Bool). view_of (low_in hs) (high_in hs) test (is_prepared m.counts)) (fun_ext (λ c. (tells_holds m.counts (with_handles s hs) whole.counted.keeps counted c).guarded))
      ∙ ap (λ (test : ℕ → Bool). view_of (low_in hs) (high_in hs) (guarded (with_handles s hs)) test) (fun_ext (λ c. (tells_holds m.counts (with_handles s hs) whole.counted.keeps counted c).prepared));
}

pub given_itself : (m : Parts) (s : State) → IsWhole m → Stands m s → IsGiven m.desc m.window m.tree m.table.handles m.counts s
given_itself m s whole stands =
    subst (λ (hs : List (Option HandleRow)). IsGiven m.desc m.window m.tree hs m.counts s) stands.handles (given_with m s s.handles whole stands (counts_stand m s whole stands))

-- what planning sees with one exclusive of a handle less
pub lifts_with : (m : Parts) (s : State) (hs : List (Option HandleRow)) (n : ℕ) (row : HandleRow) → IsWhole m → Stands m s → IsSound m.window.size s → handle_at hs n ≡ Some row → LiftedSees (with_handles s hs) n row
lifts_with m s hs n row whole stands sound at =
    lifting_sees (with_handles s hs) n row (wired_sound m.window.size s sound) (listed (over_parts m s hs stands) whole.tied) at

-- ---- calls

-- a call without a handle of its driver is refused
pub decides_unknown : (s : State) (d number : ℕ) (what : Sleeping) (f : HandleRow → State × Turn) → own_handle s d number ≡ None → begun s d what ≡ with_handle s d number f
    → Decides s d number what (decided.Refused errno.ENOENT)
decides_unknown s d number what f none is = ((λ e. absurd cc), is ∙ with-none s d number f none)

-- ---- a request for a rate

pub rate_unknown : (s : State) (d : ℕ) (h : Handle) (x : ℕ) → own_handle s d h.number ≡ None → Decides s d h.number (call.SetRate h x) (decided.Refused errno.ENOENT)
unfolding begun
rate_unknown s d h x none = decides_unknown s d h.number (call.SetRate h x) (λ row. request s s s (lift s h.number) d (call.SetRate h x) row.clock.0 x None) none refl

rate_comes : (s : State) (d : ℕ) (h : Handle) (x : ℕ) (row : HandleRow) (decision : Decision) → own_handle s d h.number ≡ Some row
    → IsAnswer s (lift s h.number) row.clock.0 x decision → begun s d (call.SetRate h x) ≡ answered s s s d (call.SetRate h x) None decision
unfolding begun
rate_comes s d h x row decision own answer =
    with-some s d h.number (λ row. request s s s (lift s h.number) d (call.SetRate h x) row.clock.0 x None) row own ∙ answer.begins s s d (call.SetRate h x) None

pub rate_known : (s : State) (d : ℕ) (h : Handle) (x : ℕ) (row : HandleRow) (decision : Decision) → own_handle s d h.number ≡ Some row
    → IsAnswer s (lift s h.number) row.clock.0 x decision → Decides s d h.number (call.SetRate h x) decision
rate_known s d h x row (decided.Refused e) own answer = (answer.room, rate_comes s d h x row (decided.Refused e) own answer)
rate_known s d h x row decided.AtOnce own answer = record { row = row; own = own; begins = rate_comes s d h x row decided.AtOnce own answer }
rate_known s d h x row (decided.Change plan script) own answer = record {
  row = row;
  own = own;
  begins = rate_comes s d h x row (decided.Change plan script) own answer;
  along = answer.along;
  planned = (answer.planned d (call.SetRate h x) None).0;
  set_parent = (answer.planned d (call.SetRate h x) None).1;
}

-- so it is where it was decided over the parts of a core
pub decides_rate : (m : Parts) (s : State) (d : ℕ) (h : Handle) (x : ℕ) (row : HandleRow) (decision : Decision) → IsWhole m
    → own_in m.table.handles d h.number ≡ Some row → handle_at m.table.handles h.number ≡ Some row
    → ((t : State) (number : ℕ) → IsGiven m.desc m.window m.tree m.table.handles m.counts t → AreItsNotifiers m.chains t → LiftedSees t number row → IsAnswer t (lift t number) row.clock.0 x decision)
    → Stands m s → IsSound m.window.size s → Decides s d h.number (call.SetRate h x) decision
decides_rate m s d h x row decision whole own live answers stands sound =
    rate_known s d h x row decision (own_stands m s d h.number (Some row) stands own)
    (answers s h.number (given_itself m s whole stands) (its_notifiers m s s.handles stands) (lifts_with m s s.handles h.number row whole stands sound (live_in m s h.number row stands live)))

-- ---- a request with an exclusive

pub exclusive_unknown : (s : State) (d : ℕ) (h : Handle) (x : ℕ) → own_handle s d h.number ≡ None → Decides s d h.number (call.SetRateExclusive h x) (decided.Refused errno.ENOENT)
unfolding begun
exclusive_unknown s d h x none =
    decides_unknown s d h.number (call.SetRateExclusive h x) (λ row. request s s (held_once_more s h.number row) s d (call.SetRateExclusive h x) row.clock.0 x None) none refl

exclusive_comes : (s : State) (d : ℕ) (h : Handle) (x : ℕ) (row : HandleRow) (decision : Decision) → own_handle s d h.number ≡ Some row
    → IsAnswer s s row.clock.0 x decision → begun s d (call.SetRateExclusive h x) ≡ answered s s (held_once_more s h.number row) d (call.SetRateExclusive h x) None decision
unfolding begun
exclusive_comes s d h x row decision own answer =
    with-some s d h.number (λ row. request s s (held_once_more s h.number row) s d (call.SetRateExclusive h x) row.clock.0 x None) row own
    ∙ answer.begins s (held_once_more s h.number row) d (call.SetRateExclusive h x) None

exclusive_known : (s : State) (d : ℕ) (h : Handle) (x : ℕ) (row : HandleRow) (decision : Decision) → own_handle s d h.number ≡ Some row
    → IsAnswer s s row.clock.0 x decision → Decides s d h.number (call.SetRateExclusive h x) decision
exclusive_known s d h x row (decided.Refused e) own answer = (answer.room, exclusive_comes s d h x row (decided.Refused e) own answer)
exclusive_known s d h x row decided.AtOnce own answer = record { row = row; own = own; begins = exclusive_comes s d h x row decided.AtOnce own answer }
exclusive_known s d h x row (decided.Change plan script) own answer = record {
  row = row;
  own = own;
  begins = exclusive_comes s d h x row (decided.Change plan script) own answer;
  along = answer.along;
  planned = (answer.planned d (call.SetRateExclusive h x) None).0;
  set_parent = (answer.planned d (call.SetRateExclusive h x) None).1;
}

pub decides_exclusive : (m : Parts) (s : State) (d : ℕ) (h : Handle) (x : ℕ) (row : HandleRow) (decision : Decision) → IsWhole m
    → own_in m.table.handles d h.number ≡ Some row
    → ((t : State) → IsGiven m.desc m.window m.tree m.table.handles m.counts t → AreItsNotifiers m.chains t → IsAnswer t t row.clock.0 x decision)
    → Stands m s → IsSound m.window.size s → Decides s d h.number (call.SetRateExclusive h x) decision
decides_exclusive m s d h x row decision whole own answers stands sound =
    exclusive_known s d h x row decision (own_stands m s d h.number (Some row) stands own) (answers s (given_itself m s whole stands) (its_notifiers m s s.handles stands))
