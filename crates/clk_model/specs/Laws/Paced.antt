-- What a change in flight keeps, so that each of its steps lowers the weight that is left: the laws of weight.
use Rattle.std.specs.Prelude.{◌≡◌, ℕ, ◌+◌, ◌<◌, ◌≤◌, ◌&&◌, ◌||◌, List, [], ◌∷◌, Bool, true, false, not, Option, Some, None, is_none, slice_get, sum_by, length}
use Rattle.std.specs.List.{list_all, list_any}
use Rattle.std.specs.Option.{option_map_or}
use Rattle.clk_base.specs.declared.call.Micro.{Micro}
use Rattle.clk_base.specs.declared.call.Micro.TheVariants as micro
use Rattle.clk_base.specs.declared.call.Sleeping.{Sleeping}
use Rattle.clk_base.specs.declared.clock.ClockId.{ClockId}
use Rattle.clk_base.specs.declared.event.Event.{Event}
use Rattle.clk_base.specs.declared.event.Event.TheVariants as event
use Rattle.clk_base.specs.declared.event.Turn.{Turn}
use Rattle.clk_base.specs.declared.event.Turn.TheVariants as turn
use Rattle.clk_base.specs.Valid.{IsValid}
use Rattle.clk_model.specs.Lists.{is_in, without_one}
use Rattle.clk_model.specs.State.{State, Change}
use Rattle.clk_model.specs.Script.{plls, is_raise, weight}
use Rattle.clk_model.specs.Begin.{most_credits}
use Rattle.clk_model.specs.Step.{is_end, todo, to_raise, to_lower, aborts_of}
use Rattle.clk_model.specs.Machine.{is_poll, next}
use Rattle.clk_model.specs.Laws.Weight.{weight_left}
use Rattle.clk_model.specs.Tier.{is_enable_tier}
use Rattle.clk_model.specs.Wired.{LinksArePossible}

-- the weight that is left of the change in flight, 0 where there is none
abbrev pub left_of : State → ℕ
left_of s = option_map_or (weight_left s) s.change 0

-- whether a step only tells a notifier, and the PLL that a step lets fall
abbrev pub is_notice : Micro → Bool
is_notice (micro.Notify kind c id old new) = true
is_notice _ = false

abbrev pub fall_of : Micro → Option ℕ
fall_of (micro.Fall y) = Some y.0
fall_of _ = None

-- whether each fall among these steps takes a raised PLL, one after the other, and the others are notices
abbrev pub winds_down : List Micro → List ℕ → Bool
winds_down [] raised = true
winds_down (m ∷ ms) raised =
    option_map_or (λ y. is_in y raised && winds_down ms (without_one y raised)) (fall_of m) (is_notice m && winds_down ms raised)

-- whether a step may time out
abbrev pub may_time_out : Micro → Bool
may_time_out m = is_raise m || is_poll m

-- whether a step can be one of a script: a poll and a fall are put in front only
abbrev pub is_scripted : Micro → Bool
is_scripted (micro.Poll y) = false
is_scripted (micro.Fall y) = false
is_scripted _ = true

-- what has been raised or lowered so far, with what is still to be, is at most as many PLLs as a path has
abbrev pub StillToRaise : State → Change → ClockId → Type 0
StillToRaise s k x = k.again + length (to_raise s k x.0) ≤ plls s.defs

abbrev pub StillToLower : State → Change → ClockId → Type 0
StillToLower s k x = k.again + length (to_lower s x.0) ≤ plls s.defs

-- whether nothing stands behind an end
abbrev pub ends_last : List Micro → Bool
ends_last [] = true
ends_last (m ∷ ms) = (not (is_end m) || is_none (slice_get ms 0)) && ends_last ms

-- what stands in front of a script: notices behind falls of raised PLLs; a poll, alone or before the raise that comes again;
-- or that raise, or a lower that comes again
pub data Front (s : State) (k : Change) : Type 0 where
  tells : winds_down k.front k.raised ≡ true → k.again ≡ 0 → Front s k
  polls : (y : ClockId) → k.front ≡ micro.Poll y ∷ [] → 0 < k.polls → k.again ≡ 0 → Front s k
  polls_to_raise : (y x : ClockId) → k.front ≡ micro.Poll y ∷ micro.Raise x ∷ [] → 0 < k.polls → StillToRaise s k x → Front s k
  raises : (x : ClockId) → k.front ≡ micro.Raise x ∷ [] → StillToRaise s k x → Front s k
  lowers : (x : ClockId) → k.front ≡ micro.Lower x ∷ [] → StillToLower s k x → Front s k

-- what a change keeps: what stands in front is so, the script has no poll and no fall, and nothing behind its end, and while a step may
-- time out there is weight for the notices that a timeout brings
pub record IsPaced (s : State) (k : Change) : Type 0 where
  pub front : Front s k
  pub script : list_all is_scripted k.left ≡ true
  pub last : ends_last k.left ≡ true
  pub aborts : list_any may_time_out (todo k) ≡ true → length (aborts_of s k) ≤ k.extra

-- each step of a paced change lowers the weight that is left
abbrev pub StepsLowerWeight : Type 0
StepsLowerWeight = (s t : State) (k : Change) (d : ℕ) (m : Micro) (answer : Option Bool) (x : Turn)
    → IsValid (length s.regs) s.defs → LinksArePossible s.defs s.clocks → s.change ≡ Some k → IsPaced s k
    → next s d (event.Step m answer) ≡ Some (t, x) → left_of t < left_of s

-- a change that begins is paced, weighs what its script weighs, with the notices of a timeout, and has room for as many entries
pub record BeginsWith (t : State) (k : Change) : Type 0 where
  pub change : t.change ≡ Some k
  pub paced : IsPaced t k
  pub whole : left_of t ≡ sum_by (weight t) (todo k) + k.extra
  pub room : t.credits + t.steps + left_of t ≤ most_credits

-- each call that goes on begins so
abbrev pub CallsBeginPaced : Type 0
CallsBeginPaced = (s t : State) (d : ℕ) (what : Sleeping) → next s d (event.Begin what) ≡ Some (t, turn.Going) → (k : Change) × BeginsWith t k

-- each step of a paced change leaves it paced, where it goes on
abbrev pub StepsKeepPaced : Type 0
StepsKeepPaced = (s t : State) (k l : Change) (d : ℕ) (m : Micro) (answer : Option Bool) (x : Turn)
    → IsValid (length s.regs) s.defs → LinksArePossible s.defs s.clocks → s.change ≡ Some k → IsPaced s k
    → next s d (event.Step m answer) ≡ Some (t, x) → t.change ≡ Some l → IsPaced t l

-- and the enable tier leaves the change, paced as it was, and its weight
abbrev pub EnableTierKeepsPaced : Type 0
EnableTierKeepsPaced = (s t : State) (k : Change) (d : ℕ) (e : Event) (x : Turn)
    → IsValid (length s.regs) s.defs → s.change ≡ Some k → IsPaced s k → is_enable_tier e ≡ true
    → next s d e ≡ Some (t, x) → (t.change ≡ Some k) × IsPaced t k × (left_of t ≡ left_of s)
