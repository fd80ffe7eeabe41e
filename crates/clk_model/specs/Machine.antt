-- The machine: what each event does, and where it is defined.
use Rattle.std.specs.Prelude.{ℕ, ◌+◌, ◌-◌, ◌==◌, ◌&&◌, List, [], ◌∷◌, Bool, true, false, not, nat_lt, Option, Some, None, if◌then◌else◌, option_and_then, is_some}
use Rattle.clk_base.specs.declared.call.Micro.{Micro}
use Rattle.clk_base.specs.declared.call.Micro.TheVariants as micro
use Rattle.clk_base.specs.declared.call.Notice.{Notice}
use Rattle.clk_base.specs.declared.call.Notice.TheVariants as notice
use Rattle.clk_base.specs.declared.event.Errno.TheVariants as errno
use Rattle.clk_base.specs.declared.event.Event.{Event}
use Rattle.clk_base.specs.declared.event.Event.TheVariants as event
use Rattle.clk_base.specs.declared.event.Reply.TheVariants as reply
use Rattle.clk_base.specs.declared.event.Turn.{Turn}
use Rattle.clk_model.specs.declared.row.HandleRow.{HandleRow}
use Rattle.clk_model.specs.State.{State, Change, is_quiet}
use Rattle.clk_model.specs.Holders.{active}
use Rattle.clk_model.specs.Gates.{settled}
use Rattle.clk_model.specs.Begin.{done, refused, pick, put_handle, with_handle, begun}
use Rattle.clk_model.specs.Step.{taken, stepped, todo}

-- ---- the enable tier

-- Enable: the handle must have a prepare
abbrev pub enabled : State → ℕ → HandleRow → State × Turn
enabled s number h =
    pick (h.prepares == 0)
    (λ t. refused s errno.ESHUTDOWN)
    (λ t. done (put_handle s number (Some (record h { enables = h.enables + 1 }))) reply.Fine)

-- Disable: the handle must have an enable, else a warning
abbrev pub disabled : State → ℕ → HandleRow → State × Turn
disabled s number h =
    pick (h.enables == 0)
    (λ t. done s reply.Warn)
    (λ t. done (put_handle s number (Some (record h { enables = h.enables - 1 }))) reply.Fine)

-- Running: whether the clock of the handle is active
abbrev pub running : State → HandleRow → State × Turn
running s h = done s (if active s h.clock.0 then reply.Yes else reply.No)

-- ---- steps

-- whether two lists of numbers are the same
abbrev pub same_list : List ℕ → List ℕ → Bool
same_list [] [] = true
same_list (x ∷ xs) (y ∷ ys) = (x == y) && same_list xs ys
same_list _ _ = false

-- a kind of notice as a list of numbers
abbrev pub notice_code : Notice → List ℕ
notice_code (notice.Pre veto) = 0 ∷ (if veto then 1 else 0) ∷ []
notice_code notice.Abort = 1 ∷ []
notice_code notice.Post = 2 ∷ []

-- a step as a list of numbers, to compare it by
abbrev pub micro_code : Micro → List ℕ
micro_code (micro.Notify kind c id old new) = 0 ∷ c.0 ∷ id ∷ old ∷ new ∷ notice_code kind
micro_code (micro.Raise x) = 1 ∷ x.0 ∷ []
micro_code (micro.Poll y) = 2 ∷ y.0 ∷ []
micro_code (micro.Fall y) = 3 ∷ y.0 ∷ []
micro_code (micro.HoldPrepare x) = 4 ∷ x.0 ∷ []
micro_code (micro.HoldEnable x) = 5 ∷ x.0 ∷ []
micro_code (micro.Relink c p) = 6 ∷ c.0 ∷ p.0 ∷ []
micro_code (micro.WriteMux c place) = 7 ∷ c.0 ∷ place ∷ []
micro_code (micro.DropEnable x) = 8 ∷ x.0 ∷ []
micro_code (micro.DropPrepare x) = 9 ∷ x.0 ∷ []
micro_code (micro.Lower x) = 10 ∷ x.0 ∷ []
micro_code (micro.Visit c) = 11 ∷ c.0 ∷ []
micro_code (micro.Register c) = 12 ∷ c.0 ∷ []
micro_code (micro.Settle c) = 13 ∷ c.0 ∷ []
micro_code (micro.Close c) = 14 ∷ c.0 ∷ []
micro_code (micro.Unpower c) = 15 ∷ c.0 ∷ []
micro_code micro.End = 16 ∷ []

-- whether a step asks the bank for a lock
abbrev pub is_poll : Micro → Bool
is_poll (micro.Poll y) = true
is_poll _ = false

-- whether a step is the first that a change has left to do
abbrev pub comes_next : Micro → List Micro → Bool
comes_next m [] = false
comes_next m (n ∷ ns) = same_list (micro_code m) (micro_code n)

-- whether a change of this driver takes the step next; a poll alone has an answer
abbrev pub may_step : ℕ → Micro → Option Bool → Change → Bool
may_step d m answer k = (k.driver == d) && comes_next m (todo k) && same_bool (is_poll m) (is_some answer) where
  same_bool : Bool → Bool → Bool
  same_bool true b = b
  same_bool false b = not b

-- ---- events

-- an event of the enable tier or the beginning of a call spends a credit, and one has to be left
abbrev pub paid : State → State × Turn → Option (State × Turn)
paid s x = if nat_lt s.spent s.credits then Some (record (settled s x.0) { spent = s.spent + 1 }, x.1) else None

-- a step is counted
abbrev pub counted : State → State × Turn → State × Turn
counted s x = (record (settled s x.0) { steps = s.steps + 1 }, x.1)

-- what an event of a driver does to the state and answers, where it is defined
unfoldable pub next : State → ℕ → Event → Option (State × Turn)
next s d (event.Enable number) = paid s (with_handle s d number (enabled s number))
next s d (event.Disable number) = paid s (with_handle s d number (disabled s number))
next s d (event.Running number) = paid s (with_handle s d number (running s))
next s d (event.Begin what) = if is_quiet s.change then paid s (begun s d what) else None
next s d (event.Step m answer) =
    option_and_then (λ k. if may_step d m answer k then Some (counted s (stepped s (taken k) answer m)) else None) s.change
