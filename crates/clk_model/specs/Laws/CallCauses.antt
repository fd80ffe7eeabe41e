-- Why each call begins as it does: each of its turns comes exactly where its cause holds, over the state before it. A cause holds only
-- where those that stand before it don't.
use Rattle.std.specs.Prelude.{◌≡◌, ◌↔◌, ◌⊎◌, ◌<◌, ◌≤◌, ℕ, ◌+◌, ◌-◌, true, false, List, [], ◌∷◌, Option, Some, None, filter, length, option_map}
use Rattle.clk_base.specs.declared.call.Micro.TheVariants as micro
use Rattle.clk_base.specs.declared.call.Sleeping.{Sleeping}
use Rattle.clk_base.specs.declared.call.Sleeping.TheVariants as call
use Rattle.clk_base.specs.declared.clock.ClockId.{ClockId}
use Rattle.clk_base.specs.declared.event.Errno.{Errno}
use Rattle.clk_base.specs.declared.event.Errno.TheVariants as errno
use Rattle.clk_base.specs.declared.event.Event.{Event}
use Rattle.clk_base.specs.declared.event.Event.TheVariants as event
use Rattle.clk_base.specs.declared.event.Reply.TheVariants as reply
use Rattle.clk_base.specs.declared.event.Turn.{Turn}
use Rattle.clk_base.specs.declared.event.Turn.TheVariants as turn
use Rattle.clk_base.specs.Description.{kind_of, parents_of}
use Rattle.clk_base.specs.Flags.{is_critical, sets_parent_gate}
use Rattle.clk_model.specs.declared.row.HandleRow.{HandleRow}
use Rattle.clk_model.specs.Lists.{is_in}
use Rattle.clk_model.specs.Kinds.{mux_field, is_read_only}
use Rattle.clk_model.specs.State.{State, Change, ChainStep, registered, link_in}
use Rattle.clk_model.specs.Tree.{path, path_to_be, rooted}
use Rattle.clk_model.specs.Rate.{rate}
use Rattle.clk_model.specs.Holders.{prepared, guarded}
use Rattle.clk_model.specs.Round.{wiring, round_rate}
use Rattle.clk_model.specs.Chain.{clock_id, chain}
use Rattle.clk_model.specs.Notices.{notifiers_of}
use Rattle.clk_model.specs.Views.{view, free_view, lift}
use Rattle.clk_model.specs.Script.{unprepared_plls, runs, adoptable, probe_script, sweep_script}
use Rattle.clk_model.specs.Begin.{most_credits, weight_of, change_of, change_along, put_handle, own_handle, misses, request_between, reparenting, most_notifiers, has_notifier, register}
use Rattle.clk_model.specs.Machine.{next}
use Rattle.clk_model.specs.Tier.{is_enable_tier}
use Rattle.clk_model.specs.Laws.Causes.{Lacks, HoldsSomething, KeepsPrepare, EnableCauses, DisableCauses, RunningCauses}

-- ---- words

-- the turn is the wanted one exactly where the cause holds
abbrev pub Comes : Turn → Turn → Type 0 → Type 0
Comes wanted given cause = (given ≡ wanted) ↔ cause

-- the turn of a refusal
abbrev pub refusal : Errno → Turn
refusal e = turn.Done (reply.Refused e)

-- the turn that says that all went well
abbrev pub fine : Turn
fine = turn.Done reply.Fine

-- the turn of a warning
abbrev pub warned : Turn
warned = turn.Done reply.Warn

-- there is room for the entries that a change's steps may come to, in the state that it is made in
abbrev pub HasRoom : State → Change → Type 0
HasRoom n k = n.credits + n.steps + weight_of n k ≤ most_credits

-- a call with something left to do goes on where there is room for it, and is refused where there is none
pub record GoesOnWhere (given : Turn) (left : Type 0) (n : State) (k : Change) : Type 0 where
  pub full : Comes (refusal errno.ENOSPC) given (left × (HasRoom n k → ⊥))
  pub going : Comes turn.Going given (left × HasRoom n k)

-- a call on a handle is refused where the driver has no such handle; what holds for the row of its handle holds where it has one
pub record OnHandle (s : State) (d number : ℕ) (given : Turn) (holds : HandleRow → Type 0) : Type 0 where
  pub unknown : Lacks s d number → given ≡ refusal errno.ENOENT
  pub known : (row : HandleRow) → own_handle s d number ≡ Some row → holds row

-- and is refused so for no other reason
pub record OnlyUnknown (s : State) (d number : ℕ) (given : Turn) (holds : HandleRow → Type 0) : Type 0 where
  pub unknown : Comes (refusal errno.ENOENT) given (Lacks s d number)
  pub known : (row : HandleRow) → own_handle s d number ≡ Some row → holds row

-- ---- handles

-- Get: the clock is found, registered and rooted; the new handle has the next number
pub record GetTurns (s : State) (d : ℕ) (found : Option ClockId) (given : Turn) : Type 0 where
  pub unknown : Comes (refusal errno.ENOENT) given (found ≡ None)
  pub deferred : Comes (refusal errno.EPROBE_DEFER) given ((c : ClockId) × (found ≡ Some c) × (rooted s.defs s.clocks c.0 ≡ false))
  pub given_ : (c : ClockId) → found ≡ Some c → rooted s.defs s.clocks c.0 ≡ true
      → given ≡ turn.Done (reply.Handle (record { number = length s.handles; slot = 0; driver = d }))

-- Put: a handle that holds something stays
pub record PutTurns (row : HandleRow) (given : Turn) : Type 0 where
  pub busy : Comes (refusal errno.EBUSY) given (HoldsSomething row)
  pub done : Comes fine given (HoldsSomething row → ⊥)

-- ---- prepares

-- no PLL on the path of a clock has to be raised
abbrev pub NoneToRaise : State → ℕ → Type 0
NoneToRaise s c = unprepared_plls s (path s.clocks c) ≡ []

-- Prepare: at once where no PLL has to be raised
pub record PrepareTurns (s : State) (d : ℕ) (what : Sleeping) (row : HandleRow) (given : Turn) : Type 0 where
  pub done : Comes fine given (NoneToRaise s row.clock.0)
  pub rest : GoesOnWhere given (NoneToRaise s row.clock.0 → ⊥) s (change_of s d what (micro.Raise row.clock ∷ micro.End ∷ []))

-- the state with a prepare of a handle less
abbrev pub one_less : State → ℕ → HandleRow → State
one_less s number row = put_handle s number (Some (record row { prepares = row.prepares - 1 }))

-- no PLL on the path of a clock is powered without a prepare
abbrev pub NoneToLower : State → ℕ → Type 0
NoneToLower s c = filter (runs s.defs s.regs) (unprepared_plls s (path s.clocks c)) ≡ []

-- Unprepare: the handle can give up a prepare; at once where then no PLL has to be lowered
pub record UnprepareTurns (s : State) (d : ℕ) (what : Sleeping) (number : ℕ) (row : HandleRow) (given : Turn) : Type 0 where
  pub kept : Comes warned given (KeepsPrepare row)
  pub done : Comes fine given ((KeepsPrepare row → ⊥) × NoneToLower (one_less s number row) row.clock.0)
  pub rest : GoesOnWhere given ((KeepsPrepare row → ⊥) × (NoneToLower (one_less s number row) row.clock.0 → ⊥)) (one_less s number row)
      (change_of s d what (micro.Lower row.clock ∷ micro.End ∷ []))

-- ---- rates

-- RoundRate: what a request would give, with one exclusive of the handle lifted, where it gives something
pub record RoundTurns (s : State) (number : ℕ) (row : HandleRow) (x : ℕ) (given : Turn) : Type 0 where
  pub told : (r : ℕ) → round_rate (wiring s) (view (lift s number)) row.clock.0 x ≡ Some r → given ≡ turn.Done (reply.Rate r)
  pub none : Comes (refusal errno.EINVAL) given (round_rate (wiring s) (view (lift s number)) row.clock.0 x ≡ None)

-- a clock would give the rate that it has, if it were free
abbrev pub KeepsRate : State → State → ℕ → ℕ → Type 0
KeepsRate n lifted c x = round_rate (wiring n) (free_view lifted c) c x ≡ Some (rate n.defs n.regs n.clocks c)

-- a clock is to get another rate, nothing guards it, and this is the plan
abbrev pub HasPlan : State → State → ℕ → ℕ → Option (List ChainStep) → Type 0
HasPlan n lifted c x plan = (KeepsRate n lifted c x → ⊥) × (guarded lifted c ≡ false) × (chain (wiring n) (view lifted) c x ≡ plan)

-- a request for a rate: nothing to do where the clock keeps its rate; then it must not be guarded, and there must be a plan. Here n is
-- the state that the change is made in, and lifted the one that is planned over
pub record RequestTurns (n lifted : State) (d : ℕ) (what : Sleeping) (c x : ℕ) (range : Option (ℕ × ℕ)) (given : Turn) : Type 0 where
  pub done : Comes fine given (KeepsRate n lifted c x)
  pub busy : Comes (refusal errno.EBUSY) given ((KeepsRate n lifted c x → ⊥) × (guarded lifted c ≡ true))
  pub no_plan : Comes (refusal errno.EINVAL) given (HasPlan n lifted c x None)
  pub full : Comes (refusal errno.ENOSPC) given
      ((ks : List ChainStep) × HasPlan n lifted c x (Some ks) × (HasRoom n (change_along n d what ks [] range) → ⊥))
  pub going : Comes turn.Going given
      ((ks : List ChainStep) × HasPlan n lifted c x (Some ks) × HasRoom n (change_along n d what ks [] range))

-- the state with another range of a handle
abbrev pub with_limits : State → ℕ → HandleRow → ℕ → ℕ → State
with_limits s number row least most = put_handle s number (Some (record row { min = least; max = most }))

-- SetRange: refused where the range is empty or misses that of another handle of the clock; else the last request is made anew within it
pub record RangeTurns (s : State) (d : ℕ) (what : Sleeping) (number : ℕ) (row : HandleRow) (least most : ℕ) (given : Turn) : Type 0 where
  pub missed : misses s number row least most ≡ true → given ≡ refusal errno.EINVAL
  pub asked : misses s number row least most ≡ false
      → RequestTurns (with_limits s number row least most) (lift (with_limits s number row least most) number) d what row.clock.0
      (request_between s.clocks row.clock.0 least most) (Some (row.min, row.max)) given

-- ---- parents

-- a mux that is only read, with two possible parents or more
abbrev pub IsBound : State → ℕ → Type 0
IsBound s c = (is_read_only (kind_of s.defs c) ≡ true) × (2 ≤ length (parents_of s.defs c))

-- a clock that keeps its parent while it is prepared, and is, or one that is guarded in lifted
abbrev pub IsBusy : State → State → ℕ → Type 0
IsBusy s lifted c = ((sets_parent_gate s.defs c ≡ true) × (prepared s c ≡ true)) ⊎ (guarded lifted c ≡ true)

-- a mux with this possible parent, which is rooted
pub record IsCandidate (s : State) (c p : ℕ) : Type 0 where
  pub mux : mux_field (kind_of s.defs c) ≡ None → ⊥
  pub parent : is_in p (parents_of s.defs c) ≡ true
  pub root : rooted s.defs s.clocks p ≡ true

-- a clock is to get another parent, and nothing keeps it from moving
pub record MayMove (s lifted : State) (c p : ℕ) : Type 0 where
  pub another : link_in s.clocks c ≡ Some p → ⊥
  pub unbound : IsBound s c → ⊥
  pub idle : IsBusy s lifted c → ⊥

-- SetParent: nothing to do for the parent that the clock has; the clock must be free to move, and the parent be a candidate
pub record ParentTurns (s lifted : State) (d : ℕ) (what : Sleeping) (c p : ℕ) (given : Turn) : Type 0 where
  pub done : Comes fine given (link_in s.clocks c ≡ Some p)
  pub bound : Comes (refusal errno.EPERM) given ((link_in s.clocks c ≡ Some p → ⊥) × IsBound s c)
  pub busy : Comes (refusal errno.EBUSY) given ((link_in s.clocks c ≡ Some p → ⊥) × (IsBound s c → ⊥) × IsBusy s lifted c)
  pub no_candidate : Comes (refusal errno.EINVAL) given (MayMove s lifted c p × (IsCandidate s c p → ⊥))
  pub rest : GoesOnWhere given (MayMove s lifted c p × IsCandidate s c p) s (reparenting s d what c p)

-- ---- exclusives and notifiers

-- ExclusivePut: the handle must have an exclusive
pub record ExclusivePutTurns (row : HandleRow) (given : Turn) : Type 0 where
  pub none : Comes warned given (row.exclusives ≡ 0)
  pub done : Comes fine given (0 < row.exclusives)

-- NotifierAdd: the id must be new to the clock, and its chain not full
pub record NotifierAddTurns (s : State) (c id : ℕ) (given : Turn) : Type 0 where
  pub known : Comes (refusal errno.EEXIST) given (has_notifier s c id ≡ true)
  pub full : Comes (refusal errno.ENOSPC) given ((has_notifier s c id ≡ false) × (most_notifiers ≤ length (notifiers_of s.notifiers c)))
  pub done : Comes fine given ((has_notifier s c id ≡ false) × (length (notifiers_of s.notifiers c) < most_notifiers))

-- NotifierRemove: the clock must have the id
pub record NotifierRemoveTurns (s : State) (c id : ℕ) (given : Turn) : Type 0 where
  pub lacking : Comes (refusal errno.ENOENT) given (has_notifier s c id ≡ false)
  pub done : Comes fine given (has_notifier s c id ≡ true)

-- ---- registration and the sweep

-- no orphan is to be adopted, and no PLL has to be raised for a critical clock
abbrev pub IsPlain : State → ℕ → Type 0
IsPlain s c = (adoptable (register s c) ≡ []) × ((is_critical s.defs c ≡ false) ⊎ (unprepared_plls s (path_to_be s.defs s.regs s.clocks c) ≡ []))

-- Probe: the clock must not be registered; at once where nothing else has to be done
pub record ProbeTurns (s : State) (d : ℕ) (what : Sleeping) (c : ℕ) (given : Turn) : Type 0 where
  pub known : Comes (refusal errno.EEXIST) given (registered s.clocks c ≡ true)
  pub done : Comes fine given ((registered s.clocks c ≡ false) × IsPlain s c)
  pub rest : GoesOnWhere given ((registered s.clocks c ≡ false) × (IsPlain s c → ⊥)) s (change_of s d what (probe_script (register s c) c))

-- Sweep: nothing to do where it is switched off
pub record SweepTurns (s : State) (d : ℕ) (what : Sleeping) (given : Turn) : Type 0 where
  pub done : Comes fine given (s.ignore_unused ≡ true)
  pub rest : GoesOnWhere given (s.ignore_unused ≡ false) s (change_of s d what (sweep_script s))

-- ---- each call

-- the causes of each call's turns
abbrev pub CallTurns : State → ℕ → Sleeping → Turn → Type 0
CallTurns s d (call.Get found) x = GetTurns s d found x
CallTurns s d (call.Put h) x = OnlyUnknown s d h.number x (λ row. PutTurns row x)
CallTurns s d (call.Prepare h) x = OnlyUnknown s d h.number x (λ row. PrepareTurns s d (call.Prepare h) row x)
CallTurns s d (call.Unprepare h) x = OnlyUnknown s d h.number x (λ row. UnprepareTurns s d (call.Unprepare h) h.number row x)
CallTurns s d (call.GetRate h) x = OnlyUnknown s d h.number x (λ row. x ≡ turn.Done (reply.Rate (rate s.defs s.regs s.clocks row.clock.0)))
CallTurns s d (call.RoundRate h y) x = OnlyUnknown s d h.number x (λ row. RoundTurns s h.number row y x)
CallTurns s d (call.SetRate h y) x = OnlyUnknown s d h.number x (λ row. RequestTurns s (lift s h.number) d (call.SetRate h y) row.clock.0 y None x)
CallTurns s d (call.SetRateExclusive h y) x = OnlyUnknown s d h.number x (λ row. RequestTurns s s d (call.SetRateExclusive h y) row.clock.0 y None x)
CallTurns s d (call.SetRange h least most) x = OnlyUnknown s d h.number x (λ row. RangeTurns s d (call.SetRange h least most) h.number row least most x)
CallTurns s d (call.SetParent h p) x = OnlyUnknown s d h.number x (λ row. ParentTurns s (lift s h.number) d (call.SetParent h p) row.clock.0 p.0 x)
CallTurns s d (call.GetParent h) x = OnlyUnknown s d h.number x (λ row. x ≡ turn.Done (reply.Clock (option_map clock_id (link_in s.clocks row.clock.0))))
CallTurns s d (call.ExclusiveGet h) x = OnlyUnknown s d h.number x (λ row. x ≡ fine)
CallTurns s d (call.ExclusivePut h) x = OnlyUnknown s d h.number x (λ row. ExclusivePutTurns row x)
CallTurns s d (call.NotifierAdd h id priority policy) x = OnlyUnknown s d h.number x (λ row. NotifierAddTurns s row.clock.0 id x)
CallTurns s d (call.NotifierRemove h id) x = OnHandle s d h.number x (λ row. NotifierRemoveTurns s row.clock.0 id x)
CallTurns s d (call.Probe c) x = ProbeTurns s d (call.Probe c) c.0 x
CallTurns s d call.Sweep x = SweepTurns s d call.Sweep x

-- each call begins for its cause, and where no change is in flight
abbrev pub CallsHaveCauses : Type 0
CallsHaveCauses = (s t : State) (d : ℕ) (what : Sleeping) (x : Turn) → next s d (event.Begin what) ≡ Some (t, x) → (s.change ≡ None) × CallTurns s d what x

-- a call goes on behind its beginning, or behind a step of it, exactly where a change is left in flight
abbrev pub GoingLeavesChanges : Type 0
GoingLeavesChanges = (s t : State) (d : ℕ) (e : Event) (x : Turn) → next s d e ≡ Some (t, x) → is_enable_tier e ≡ false
    → (x ≡ turn.Going) ↔ ((k : Change) × (t.change ≡ Some k))

-- each answer of the enable tier has its cause, whatever is in flight
abbrev pub TierTurns : State → ℕ → Event → Turn → Type 0
TierTurns s d (event.Enable number) (turn.Done r) = EnableCauses s d number r
TierTurns s d (event.Disable number) (turn.Done r) = DisableCauses s d number r
TierTurns s d (event.Running number) (turn.Done r) = RunningCauses s d number r
TierTurns s d _ turn.Going = ⊥
TierTurns s d _ _ = Unit {0}

-- so it is with each event of the enable tier
abbrev pub TierHasCauses : Type 0
TierHasCauses = (s t : State) (d : ℕ) (e : Event) (x : Turn) → next s d e ≡ Some (t, x) → is_enable_tier e ≡ true → TierTurns s d e x
