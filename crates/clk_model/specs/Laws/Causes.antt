-- Why each event of the enable tier, and seven calls that are answered at once, have their reply: it comes exactly where its cause holds.
use Rattle.std.specs.Prelude.{◌≡◌, ◌⊎◌, ◌<◌, ℕ, ◌+◌, Bool, true, false, Some, None}
use Rattle.clk_base.specs.declared.event.Errno.TheVariants as errno
use Rattle.clk_base.specs.declared.event.Reply.{Reply}
use Rattle.clk_base.specs.declared.event.Reply.TheVariants as reply
use Rattle.clk_base.specs.declared.event.Turn.{Turn}
use Rattle.clk_base.specs.declared.event.Turn.TheVariants as turn
use Rattle.clk_model.specs.declared.row.HandleRow.{HandleRow}
use Rattle.clk_model.specs.State.{State}
use Rattle.clk_model.specs.Holders.{active}
use Rattle.clk_model.specs.Begin.{own_handle}

-- ---- words

-- the reply is the wanted one exactly where the cause holds
abbrev pub Exactly : Reply → Reply → Type 0 → Type 0
Exactly wanted given cause = (given ≡ wanted → cause) × (cause → given ≡ wanted)

-- the driver has no live handle of this number
abbrev pub Lacks : State → ℕ → ℕ → Type 0
Lacks s driver number = own_handle s driver number ≡ None

-- the driver has a live handle of this number, and this holds of it
abbrev pub Has : State → ℕ → ℕ → (HandleRow → Type 0) → Type 0
Has s driver number holds = (h : HandleRow) × (own_handle s driver number ≡ Some h) × holds h

-- whether a turn refuses
abbrev pub is_refusal : Turn → Bool
is_refusal (turn.Done (reply.Refused e)) = true
is_refusal _ = false

-- ---- the enable tier

-- Enable: the driver has the handle, and the handle a prepare
pub record EnableCauses (s : State) (driver number : ℕ) (r : Reply) : Type 0 where
  pub unknown : Exactly (reply.Refused errno.ENOENT) r (Lacks s driver number)
  pub unprepared : Exactly (reply.Refused errno.ESHUTDOWN) r (Has s driver number (λ h. h.prepares ≡ 0))
  pub fine : Exactly reply.Fine r (Has s driver number (λ h. 0 < h.prepares))

-- Disable: the driver has the handle, and the handle an enable
pub record DisableCauses (s : State) (driver number : ℕ) (r : Reply) : Type 0 where
  pub unknown : Exactly (reply.Refused errno.ENOENT) r (Lacks s driver number)
  pub idle : Exactly reply.Warn r (Has s driver number (λ h. h.enables ≡ 0))
  pub fine : Exactly reply.Fine r (Has s driver number (λ h. 0 < h.enables))

-- Running: the driver has the handle, and its clock is active or not
pub record RunningCauses (s : State) (driver number : ℕ) (r : Reply) : Type 0 where
  pub unknown : Exactly (reply.Refused errno.ENOENT) r (Lacks s driver number)
  pub active_ : Exactly reply.Yes r (Has s driver number (λ h. active s h.clock.0 ≡ true))
  pub stopped : Exactly reply.No r (Has s driver number (λ h. active s h.clock.0 ≡ false))

-- ---- calls

-- a handle that has a prepare, an enable or an exclusive hold
abbrev pub HoldsSomething : HandleRow → Type 0
HoldsSomething h = (0 < h.prepares) ⊎ ((0 < h.enables) ⊎ (0 < h.exclusives))

-- a handle that has no prepare to give up, or only one while it is enabled
abbrev pub KeepsPrepare : HandleRow → Type 0
KeepsPrepare h = (h.prepares ≡ 0) ⊎ ((h.prepares ≡ 1) × (0 < h.enables))

-- a refusal spends a credit, and changes nothing else
abbrev pub LeavesRefused : Turn → State → State → Type 0
LeavesRefused answer old new = is_refusal answer ≡ true → new ≡ record old { spent = old.spent + 1 }
