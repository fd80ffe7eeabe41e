-- How each call begins: answered at once, refused, or going on with a script.
use Rattle.std.specs.Prelude.{ℕ, ℤ, ◌+◌, ◌-◌, ◌==◌, ◌&&◌, ◌||◌, List, [], ◌∷◌, ◌++◌, Bool, true, false, not, nat_lt, nat_le, Option, Some, None, filter, min, max, if◌then◌else◌, length, sum_by, option_map, is_some, is_none, slice_get, slice_set}
use Rattle.std.specs.List.{list_any}
use Rattle.std.specs.Option.{option_map_or}
use Rattle.clk_base.specs.declared.call.Sleeping.{Sleeping}
use Rattle.clk_base.specs.declared.call.Sleeping.TheVariants as call
use Rattle.clk_base.specs.declared.call.Micro.{Micro}
use Rattle.clk_base.specs.declared.call.Micro.TheVariants as micro
use Rattle.clk_base.specs.declared.event.Errno.{Errno}
use Rattle.clk_base.specs.declared.event.Errno.TheVariants as errno
use Rattle.clk_base.specs.declared.event.Reply.{Reply}
use Rattle.clk_base.specs.declared.event.Reply.TheVariants as reply
use Rattle.clk_base.specs.declared.event.Turn.{Turn}
use Rattle.clk_base.specs.declared.event.Turn.TheVariants as turn
use Rattle.clk_base.specs.declared.handle.Policy.{Policy}
use Rattle.clk_base.specs.Description.{Description, kind_of, parents_of}
use Rattle.reg_bank.specs.Registers.{Registers}
use Rattle.clk_base.specs.Flags.{is_critical, sets_parent_gate}
use Rattle.clk_model.specs.declared.row.HandleRow.{HandleRow}
use Rattle.clk_model.specs.declared.row.ClockRow.{ClockRow}
use Rattle.clk_model.specs.Lists.{is_in, is_at, to_front}
use Rattle.clk_model.specs.Kinds.{mux_field, is_read_only}
use Rattle.clk_model.specs.State.{State, Change, ChainStep, registered, link_in, handle_at}
use Rattle.clk_model.specs.Tree.{rooted, path_to_be, path, link_given}
use Rattle.clk_model.specs.Rate.{rate}
use Rattle.clk_model.specs.Holders.{guarded, prepared}
use Rattle.clk_model.specs.Round.{wiring, rate_in, most_rate, round_rate}
use Rattle.clk_model.specs.Chain.{clock_id, chain, outcome}
use Rattle.clk_model.specs.Walk.{rates_in}
use Rattle.clk_model.specs.Notices.{notifiers_of}
use Rattle.clk_model.specs.Views.{view, free_view, lift, handles_on}
use Rattle.clk_model.specs.Script.{planned, unprepared_plls, runs, probe_script, sweep_script, adoptable, weight, is_raise, notices_of}
use Rattle.clk_base.specs.declared.credits.TheConstants.{MOST_CREDITS}

-- ---- answers

-- the call is answered
abbrev pub done : State → Reply → State × Turn
done s r = (s, turn.Done r)

-- the call is refused, and nothing changes
abbrev pub refused : State → Errno → State × Turn
refused s e = (s, turn.Done (reply.Refused e))

-- one of two answers; only the chosen one is looked at
unfoldable pub pick : Bool → (Unit {0} → State × Turn) → (Unit {0} → State × Turn) → State × Turn
pick true f g = f tt
pick false f g = g tt

-- ---- going on

-- the credits that a framework may be made with at most
abbrev pub most_credits : ℕ
most_credits = MOST_CREDITS

-- what a script weighs, with the notices that a timeout may bring
abbrev pub weight_of : State → Change → ℕ
weight_of s k = sum_by (weight s) k.left + k.extra

-- the call goes on with this change, unless there is no room left for the entries of its steps
abbrev pub starts : State → State → Change → State × Turn
starts old new k =
    pick (nat_lt most_credits (new.credits + new.steps + weight_of new k))
    (λ t. refused old errno.ENOSPC)
    (λ t. (record new { change = Some k }, turn.Going))

-- a change with this script, and nothing else
abbrev pub change_of : State → ℕ → Sleeping → List Micro → Change
change_of s driver what steps = record {
  driver = driver;
  call = what;
  front = [];
  left = steps;
  polls = 0;
  again = 0;
  raised = [];
  before = rates_in (wiring s);
  outcome = rates_in (wiring s);
  chain = [];
  changing = [];
  range = None;
  extra = 0;
  vetoed = false;
  timed_out = false;
  missed = None;
}

-- a change of rates or of a parent by a planned chain
abbrev pub change_along : State → ℕ → Sleeping → List ChainStep → List Micro → Option (ℕ × ℕ) → Change
change_along s driver what ks settles range =
    let p = planned s ks settles in
    record (change_of s driver what p.steps) { chain = ks; changing = p.changing; outcome = p.outcome; vetoed = p.vetoed; range = range }

-- ---- handles

-- the state with a handle in the place of this number, or none
abbrev pub put_handle : State → ℕ → Option HandleRow → State
put_handle s number h = record s { handles = slice_set s.handles number h }

-- a live handle of the driver
abbrev pub own_handle : State → ℕ → ℕ → Option HandleRow
own_handle s driver number = option_map_or (λ h. if h.driver == driver then Some h else None) (handle_at s.handles number) None

-- a call on a handle is refused where the driver has no such live handle
abbrev pub with_handle : State → ℕ → ℕ → (HandleRow → State × Turn) → State × Turn
with_handle s driver number f = option_map_or f (own_handle s driver number) (refused s errno.ENOENT)

-- a new handle, which allows every rate; what is given has its number, and the slot is no part of it
abbrev pub given : State → ℕ → ℕ → State × Turn
given s driver c = (
  record s { handles = s.handles ++ Some (record { driver = driver; clock = clock_id c; prepares = 0; enables = 0; exclusives = 0; min = 0; max = most_rate }) ∷ [] },
  turn.Done (reply.Handle (record { number = length s.handles; slot = 0; driver = driver })),
)

-- Get: the clock must be found, registered and rooted
abbrev pub got : State → ℕ → Option ℕ → State × Turn
got s driver None = refused s errno.ENOENT
got s driver (Some c) = pick (rooted s.defs s.clocks c) (λ t. given s driver c) (λ t. refused s errno.EPROBE_DEFER)

-- whether a handle has a prepare, an enable or an exclusive hold
abbrev pub holds_something : HandleRow → Bool
holds_something h = nat_lt 0 h.prepares || nat_lt 0 h.enables || nat_lt 0 h.exclusives

-- Put: a handle that holds something stays
abbrev pub put_back : State → ℕ → HandleRow → State × Turn
put_back s number h =
    pick (holds_something h)
    (λ t. refused s errno.EBUSY)
    (λ t. done (put_handle s number None) reply.Fine)

-- ---- prepares

-- the state with one prepare of the handle more
abbrev pub prepared_once_more : State → ℕ → HandleRow → State
prepared_once_more s number h = put_handle s number (Some (record h { prepares = h.prepares + 1 }))

-- Prepare: at once where no PLL above has to be raised
abbrev pub prepare : State → ℕ → Sleeping → ℕ → HandleRow → State × Turn
prepare s driver what number h =
    pick (is_none (slice_get (unprepared_plls s (path s.clocks h.clock.0)) 0))
    (λ t. done (prepared_once_more s number h) reply.Fine)
    (λ t. starts s s (change_of s driver what (micro.Raise h.clock ∷ micro.End ∷ [])))

-- whether a handle has no prepare to give up, or only one while it is enabled
abbrev pub keeps_prepare : HandleRow → Bool
keeps_prepare h = h.prepares == 0 || (h.prepares == 1 && nat_lt 0 h.enables)

-- Unprepare: a warning where the handle keeps its prepare; at once where no PLL above has to be lowered
abbrev pub unprepare : State → ℕ → Sleeping → ℕ → HandleRow → State × Turn
unprepare s driver what number h =
    pick (keeps_prepare h)
    (λ t. done s reply.Warn)
    (λ t. let less = put_handle s number (Some (record h { prepares = h.prepares - 1 })) in
    pick (is_none (slice_get (filter (runs s.defs s.regs) (unprepared_plls less (path s.clocks h.clock.0))) 0))
    (λ t. done less reply.Fine)
    (λ t. starts s less (change_of s driver what (micro.Lower h.clock ∷ micro.End ∷ []))))

-- ---- rates

-- RoundRate: what a request would give, with one exclusive of the handle lifted
abbrev pub rounded : State → ℕ → HandleRow → ℕ → State × Turn
rounded s number h x =
    option_map_or (λ r. done s (reply.Rate r)) (round_rate (wiring s) (view (lift s number)) h.clock.0 x) (refused s errno.EINVAL)

-- a request for a rate: nothing to do where the clock would give its rate anyway, refused where it is guarded or there is no plan.
-- Here old is the state that a refusal leaves, new the one with a new range, fine the one after an answer at once, and lifted
-- the one that is planned over
abbrev pub request : State → State → State → State → ℕ → Sleeping → ℕ → ℕ → Option (ℕ × ℕ) → State × Turn
request old new fine lifted driver what c x range =
    pick (is_at (rate new.defs new.regs new.clocks c) (round_rate (wiring new) (free_view lifted c) c x))
    (λ t. done fine reply.Fine)
    (λ t. pick (guarded lifted c)
    (λ t. refused old errno.EBUSY)
    (λ t. option_map_or (λ ks. starts old new (change_along new driver what ks [] range)) (chain (wiring new) (view lifted) c x) (refused old errno.EINVAL)))

-- the state with one exclusive hold of the handle more
abbrev pub held_once_more : State → ℕ → HandleRow → State
held_once_more s number h = put_handle s number (Some (record h { exclusives = h.exclusives + 1 }))

-- whether a range is empty, or misses that of another handle of the clock
abbrev pub misses : State → ℕ → HandleRow → ℕ → ℕ → Bool
misses s number h least most =
    nat_lt most least
    || list_any (λ o. nat_lt o.max least || nat_lt most o.min) (handles_on (put_handle s number None) h.clock.0)

-- the last request between two rates
abbrev pub request_between : List ClockRow → ℕ → ℕ → ℕ → ℕ
request_between clocks c least most = min most (max least (option_map_or (λ row. row.last_request) (slice_get clocks c) 0))

-- SetRange: the range is stored, and the last request is made anew within it
abbrev pub range_set : State → ℕ → Sleeping → ℕ → HandleRow → ℕ → ℕ → State × Turn
range_set s driver what number h least most =
    let new = put_handle s number (Some (record h { min = least; max = most })) in
    pick (misses s number h least most)
    (λ t. refused s errno.EINVAL)
    (λ t. request s new new (lift new number) driver what h.clock.0 (request_between s.clocks h.clock.0 least most) (Some (h.min, h.max)))

-- ---- parents

-- the change that gives a clock another parent, with its rate over that parent
abbrev pub reparenting : State → ℕ → Sleeping → ℕ → ℕ → Change
reparenting s driver what c p =
    let bare : List ChainStep = record { clock = c; rate = 0; parent = Some p } ∷ [] in
    let ks : List ChainStep = record { clock = c; rate = rate_in (outcome bare (wiring s)) c; parent = Some p } ∷ [] in
    let k = change_along s driver what ks (micro.Settle (clock_id c) ∷ []) None in
    record k { extra = if list_any is_raise k.left then notices_of s k.changing else 0 }

-- SetParent: nothing to do for the parent that the clock has; refused where the field is only read, where a prepared clock keeps
-- its parent, where the clock is guarded in lifted, which is the state with one exclusive of the handle less, and where p is no
-- candidate
abbrev pub parent_set : State → State → ℕ → Sleeping → ℕ → ℕ → State × Turn
parent_set s lifted driver what c p =
    pick (is_at p (link_in s.clocks c))
    (λ t. done s reply.Fine)
    (λ t. pick (is_read_only (kind_of s.defs c) && nat_le 2 (length (parents_of s.defs c)))
    (λ t. refused s errno.EPERM)
    (λ t. pick ((sets_parent_gate s.defs c && prepared s c) || guarded lifted c)
    (λ t. refused s errno.EBUSY)
    (λ t. pick (is_some (mux_field (kind_of s.defs c)) && is_in p (parents_of s.defs c) && rooted s.defs s.clocks p)
    (λ t. starts s s (reparenting s driver what c p))
    (λ t. refused s errno.EINVAL))))

-- ---- exclusives and notifiers

-- ExclusivePut: the handle must have an exclusive hold, else a warning
abbrev pub exclusive_put : State → ℕ → HandleRow → State × Turn
exclusive_put s number h =
    pick (h.exclusives == 0)
    (λ t. done s reply.Warn)
    (λ t. done (put_handle s number (Some (record h { exclusives = h.exclusives - 1 }))) reply.Fine)

-- how many notifiers a clock may have
abbrev pub most_notifiers : ℕ
most_notifiers = 256

-- whether the clock has a notifier of this id
abbrev pub has_notifier : State → ℕ → ℕ → Bool
has_notifier s c id = list_any (λ n. (n.clock == c) && (n.id == id)) s.notifiers

-- NotifierAdd: refused where the clock has the id or as many notifiers as it may have
abbrev pub notifier_added : State → ℕ → ℕ → ℤ → Policy → State × Turn
notifier_added s c id priority policy =
    pick (has_notifier s c id)
    (λ t. refused s errno.EEXIST)
    (λ t. pick (nat_le most_notifiers (length (notifiers_of s.notifiers c)))
    (λ t. refused s errno.ENOSPC)
    (λ t. done (record s { notifiers = s.notifiers ++ record { clock = c; id = id; priority = priority; policy = policy } ∷ [] }) reply.Fine))

-- NotifierRemove: refused where the clock hasn't the id
abbrev pub notifier_removed : State → ℕ → ℕ → State × Turn
notifier_removed s c id =
    pick (has_notifier s c id)
    (λ t. done (record s { notifiers = filter (λ n. not ((n.clock == c) && (n.id == id))) s.notifiers }) reply.Fine)
    (λ t. refused s errno.ENOENT)

-- ---- registration and the sweep

-- the clock's row after its registration: registered, with the link that the registration gives
abbrev pub registered_row : Description → Registers → List ClockRow → ℕ → ClockRow
registered_row defs regs clocks c = record { registered = true; link = option_map clock_id (link_given defs regs clocks c); last_request = 0 }

-- the rows with the clock registered, its rate as its last request
abbrev pub registered_rows : Description → Registers → List ClockRow → ℕ → List ClockRow
registered_rows defs regs clocks c =
    slice_set clocks c (record (registered_row defs regs clocks c) {
      last_request = rate defs regs (slice_set clocks c (registered_row defs regs clocks c)) c;
    })

-- the state with the clock registered, and first in the order of attaching
unfoldable pub register : State → ℕ → State
register s c = record s { clocks = registered_rows s.defs s.regs s.clocks c; order = to_front c s.order }

-- Probe: at once where no orphan can be adopted and nothing has to be raised for a critical clock
abbrev pub probed : State → ℕ → Sleeping → ℕ → State × Turn
probed s driver what c =
    pick (registered s.clocks c)
    (λ t. refused s errno.EEXIST)
    (λ t. pick (is_none (slice_get (adoptable (register s c)) 0)
    && (not (is_critical s.defs c) || is_none (slice_get (unprepared_plls s (path_to_be s.defs s.regs s.clocks c)) 0)))
    (λ t. done (register s c) reply.Fine)
    (λ t. starts s s (change_of s driver what (probe_script (register s c) c))))

-- Sweep: nothing to do where it is switched off
abbrev pub swept : State → ℕ → Sleeping → State × Turn
swept s driver what =
    pick s.ignore_unused
    (λ t. done s reply.Fine)
    (λ t. starts s s (change_of s driver what (sweep_script s)))

-- ---- each call

-- how a call of a driver begins
unfoldable pub begun : State → ℕ → Sleeping → State × Turn
begun s d (call.Get found) = got s d (option_map (λ c. c.0) found)
begun s d (call.Put h) = with_handle s d h.number (put_back s h.number)
begun s d (call.Prepare h) = with_handle s d h.number (prepare s d (call.Prepare h) h.number)
begun s d (call.Unprepare h) = with_handle s d h.number (unprepare s d (call.Unprepare h) h.number)
begun s d (call.GetRate h) = with_handle s d h.number (λ row. done s (reply.Rate (rate s.defs s.regs s.clocks row.clock.0)))
begun s d (call.RoundRate h x) = with_handle s d h.number (λ row. rounded s h.number row x)
begun s d (call.SetRate h x) =
    with_handle s d h.number (λ row. request s s s (lift s h.number) d (call.SetRate h x) row.clock.0 x None)
begun s d (call.SetRateExclusive h x) =
    with_handle s d h.number (λ row. request s s (held_once_more s h.number row) s d (call.SetRateExclusive h x) row.clock.0 x None)
begun s d (call.SetRange h least most) = with_handle s d h.number (λ row. range_set s d (call.SetRange h least most) h.number row least most)
begun s d (call.SetParent h p) = with_handle s d h.number (λ row. parent_set s (lift s h.number) d (call.SetParent h p) row.clock.0 p.0)
begun s d (call.GetParent h) = with_handle s d h.number (λ row. done s (reply.Clock (option_map clock_id (link_in s.clocks row.clock.0))))
begun s d (call.ExclusiveGet h) = with_handle s d h.number (λ row. done (held_once_more s h.number row) reply.Fine)
begun s d (call.ExclusivePut h) = with_handle s d h.number (exclusive_put s h.number)
begun s d (call.NotifierAdd h id priority policy) = with_handle s d h.number (λ row. notifier_added s row.clock.0 id priority policy)
begun s d (call.NotifierRemove h id) = with_handle s d h.number (λ row. notifier_removed s row.clock.0 id)
begun s d (call.Probe c) = probed s d (call.Probe c) c.0
begun s d call.Sweep = swept s d call.Sweep
