-- Requests for a parent, and what boot assigns.
use Rattle.std.specs.Prelude.{◌≡◌, List, [], ◌∷◌, ◌++◌, true, false, Some, None, pos, map, codes, refl}
use Rattle.clk_base.specs.declared.clock.ClockId.{ClockId}
use Rattle.clk_base.specs.declared.clock.Kind.TheVariants as kinds
use Rattle.clk_base.specs.declared.call.Micro.TheVariants as micro
use Rattle.clk_base.specs.declared.call.Sleeping.TheVariants as call
use Rattle.clk_base.specs.declared.event.Entry.{Entry}
use Rattle.clk_base.specs.declared.event.Errno.TheVariants as errno
use Rattle.clk_base.specs.declared.event.Event.TheVariants as event
use Rattle.clk_base.specs.declared.event.Reply.TheVariants as reply
use Rattle.clk_base.specs.declared.handle.Handle.{Handle}
use Rattle.clk_base.specs.declared.handle.Policy.TheVariants as policy
use Rattle.clk_base.specs.Description.{Description}
use Rattle.clk_model.specs.State.{State}
use Rattle.clk_model.specs.Chain.{clock_id}
use Rattle.clk_model.specs.Journal.{opening, replay}
use Rattle.clk_model.specs.Examples.Rows.{turns, stated, clock, flagged, set_parent_gate, handle, answers, begins, goes_on, step, ends, boot, gets}
use Rattle.clk_model.specs.Examples.Rounding.{two_sources, two_sources_start, b, m}

-- ---- parents and rates that boot assigns

-- `a` 48000000, `b` 30000000, the mux `mux` over them, `ref` 100, and the divider `div` over it
abbrev assigned : Description
assigned =
    clock (codes "a") (kinds.FixedRate 48000000) [] ∷ clock (codes "b") (kinds.FixedRate 30000000) []
    ∷ clock (codes "mux") (kinds.Mux 0 0 1 false) (0 ∷ 1 ∷ [])
    ∷ clock (codes "ref") (kinds.FixedRate 100) [] ∷ clock (codes "div") (kinds.Divider 1 0 3 false false) (3 ∷ []) ∷ []

abbrev div : ClockId
div = clock_id 4

abbrev assigned_start : State
assigned_start = opening assigned (0 ∷ 0 ∷ []) false 100

-- boot gets each clock, sets its parent or its rate, and puts the handle
abbrev assignments : List Entry
assignments =
    boot 5 ++ gets 0 m 0
    ∷ goes_on 0 (call.SetParent (handle 0 0) b)
    ∷ step 0 (micro.Relink m b) ∷ step 0 (micro.WriteMux m 1) ∷ step 0 (micro.Visit m) ∷ step 0 (micro.Settle m) ∷ ends 0 reply.Fine
    ∷ begins 0 (call.Put (handle 0 0)) reply.Fine
    ∷ gets 0 div 1
    ∷ goes_on 0 (call.SetRate (handle 1 0) 25) ∷ step 0 (micro.Visit div) ∷ ends 0 reply.Fine
    ∷ begins 0 (call.Put (handle 1 0)) reply.Fine
    ∷ []

pub assignments_turns : turns assigned_start assignments ≡ stated assignments
unfolding turns
assignments_turns = refl

pub assignments_registers : (replay assigned_start assignments).regs ≡ 1 ∷ 3 ∷ []
unfolding turns
assignments_registers = refl

-- ---- what a handle and its notifiers refuse

-- a name that isn't there, a notifier twice and one that isn't there, a put of a handle that holds something, what isn't held,
-- a clock that is registered, and a handle that was put
abbrev refusals : List Entry
refusals =
    boot 3 ++ begins 1 (call.Get None) (reply.Refused errno.ENOENT)
    ∷ gets 1 m 0
    ∷ begins 1 (call.NotifierAdd (handle 0 1) 1 (pos 0) policy.Accept) reply.Fine
    ∷ begins 1 (call.NotifierAdd (handle 0 1) 1 (pos 0) policy.Accept) (reply.Refused errno.EEXIST)
    ∷ begins 1 (call.NotifierRemove (handle 0 1) 2) (reply.Refused errno.ENOENT)
    ∷ begins 1 (call.ExclusiveGet (handle 0 1)) reply.Fine
    ∷ begins 1 (call.Put (handle 0 1)) (reply.Refused errno.EBUSY)
    ∷ begins 1 (call.ExclusivePut (handle 0 1)) reply.Fine
    ∷ begins 1 (call.ExclusivePut (handle 0 1)) reply.Warn
    ∷ begins 1 (call.Put (handle 0 1)) reply.Fine
    ∷ begins 1 (call.Probe m) (reply.Refused errno.EEXIST)
    ∷ answers 1 (event.Enable 0) (reply.Refused errno.ENOENT)
    ∷ begins 1 (call.GetRate (handle 0 1)) (reply.Refused errno.ENOENT)
    ∷ []

pub refusals_turns : turns two_sources_start refusals ≡ stated refusals
unfolding turns
refusals_turns = refl

-- a handle is its driver's own
abbrev others_handle : List Entry
others_handle =
    boot 3 ++ gets 1 m 0
    ∷ begins 2 (call.Prepare (handle 0 2)) (reply.Refused errno.ENOENT)
    ∷ answers 2 (event.Running 0) (reply.Refused errno.ENOENT)
    ∷ answers 1 (event.Running 0) reply.No
    ∷ []

pub others_handle_turns : turns two_sources_start others_handle ≡ stated others_handle
unfolding turns
others_handle_turns = refl

-- ---- which parents a mux may get

-- `fixed a 48000000`, `fixed b 30000000`, `fixed c 10000000`, `mux r 0 0 1 2 a b read-only`, `mux s 0 1 1 2 a b set-parent-gate`, `mux t 0 2 1 2 a b`
abbrev muxes : Description
muxes =
    clock (codes "a") (kinds.FixedRate 48000000) [] ∷ clock (codes "b") (kinds.FixedRate 30000000) [] ∷ clock (codes "c") (kinds.FixedRate 10000000) []
    ∷ clock (codes "r") (kinds.Mux 0 0 1 true) (0 ∷ 1 ∷ [])
    ∷ flagged set_parent_gate (codes "s") (kinds.Mux 0 1 1 false) (0 ∷ 1 ∷ [])
    ∷ clock (codes "t") (kinds.Mux 0 2 1 false) (0 ∷ 1 ∷ []) ∷ []

abbrev a : ClockId
a = clock_id 0

abbrev c : ClockId
c = clock_id 2

abbrev on_r : Handle
on_r = handle 0 1

abbrev on_s : Handle
on_s = handle 1 1

abbrev on_t : Handle
on_t = handle 2 1

abbrev again_on_t : Handle
again_on_t = handle 3 1

abbrev s : ClockId
s = clock_id 4

abbrev t : ClockId
t = clock_id 5

abbrev muxes_start : State
muxes_start = opening muxes (0 ∷ []) false 100

-- a read-only mux keeps its parent, a mux with the parent gate keeps it while it is prepared, a clock that is no parent is
-- refused, and an exclusive hold keeps the parent against all but its one holder
abbrev parents : List Entry
parents =
    boot 6 ++ gets 1 (clock_id 3) 0 ∷ gets 1 s 1 ∷ gets 1 t 2 ∷ gets 1 t 3
    ∷ begins 1 (call.SetParent on_r a) reply.Fine
    ∷ begins 1 (call.SetParent on_r b) (reply.Refused errno.EPERM)
    ∷ begins 1 (call.Prepare on_s) reply.Fine
    ∷ begins 1 (call.SetRate on_s 30000000) (reply.Refused errno.EINVAL)
    ∷ begins 1 (call.SetParent on_s b) (reply.Refused errno.EBUSY)
    ∷ begins 1 (call.Unprepare on_s) reply.Fine
    ∷ goes_on 1 (call.SetParent on_s b)
    ∷ step 1 (micro.Relink s b) ∷ step 1 (micro.WriteMux s 1) ∷ step 1 (micro.Visit s) ∷ step 1 (micro.Settle s) ∷ ends 1 reply.Fine
    ∷ begins 1 (call.SetParent on_t c) (reply.Refused errno.EINVAL)
    ∷ begins 1 (call.ExclusiveGet again_on_t) reply.Fine
    ∷ begins 1 (call.SetParent on_t b) (reply.Refused errno.EBUSY)
    ∷ goes_on 1 (call.SetParent again_on_t b)
    ∷ step 1 (micro.Relink t b) ∷ step 1 (micro.WriteMux t 1) ∷ step 1 (micro.Visit t) ∷ step 1 (micro.Settle t) ∷ ends 1 reply.Fine
    ∷ begins 1 (call.GetParent on_t) (reply.Clock (Some b))
    ∷ []

pub parents_turns : turns muxes_start parents ≡ stated parents
unfolding turns
parents_turns = refl

pub parents_registers : (replay muxes_start parents).regs ≡ 6 ∷ []
unfolding turns
parents_registers = refl

-- a mux that moved has its new rate as its last request
pub parents_requests :
    map (λ row. row.last_request) (replay muxes_start parents).clocks ≡ 48000000 ∷ 30000000 ∷ 10000000 ∷ 48000000 ∷ 30000000 ∷ 30000000 ∷ []
unfolding turns
parents_requests = refl

-- `fixed a 48000000`, `fixed b 30000000`, `mux m 0 0 1 1 a read-only`, `gate g a 0 1`
abbrev one_parent : Description
one_parent =
    clock (codes "a") (kinds.FixedRate 48000000) [] ∷ clock (codes "b") (kinds.FixedRate 30000000) []
    ∷ clock (codes "m") (kinds.Mux 0 0 1 true) (0 ∷ []) ∷ clock (codes "g") (kinds.Gate 0 1 false) (0 ∷ []) ∷ []

-- a mux with one parent, and a clock that is no mux, have no other parent to be had
abbrev no_other_parent : List Entry
no_other_parent =
    boot 4 ++ gets 1 m 0 ∷ gets 1 (clock_id 3) 1
    ∷ begins 1 (call.SetParent (handle 0 1) a) reply.Fine
    ∷ begins 1 (call.SetParent (handle 0 1) b) (reply.Refused errno.EINVAL)
    ∷ begins 1 (call.SetParent (handle 1 1) a) reply.Fine
    ∷ begins 1 (call.SetParent (handle 1 1) b) (reply.Refused errno.EINVAL)
    ∷ begins 1 (call.ExclusiveGet (handle 1 1)) reply.Fine
    ∷ begins 1 (call.ExclusiveGet (handle 1 1)) reply.Fine
    ∷ begins 1 (call.SetParent (handle 1 1) a) reply.Fine
    ∷ begins 1 (call.SetParent (handle 1 1) b) (reply.Refused errno.EBUSY)
    ∷ []

pub no_other_parent_turns : turns (opening one_parent (0 ∷ []) false 100) no_other_parent ≡ stated no_other_parent
unfolding turns
no_other_parent_turns = refl

-- ---- what a request for a parent leaves

-- `fixed a 48000000`, `fixed b 30000000`, `mux m 0 0 1 2 a b`, `factor f m 1 2`
abbrev factor_below : Description
factor_below = two_sources ++ clock (codes "f") (kinds.Factor 1 2) (2 ∷ []) ∷ []

abbrev factor_below_start : State
factor_below_start = opening factor_below (0 ∷ []) false 100

abbrev settled_below : List Entry
settled_below =
    boot 4 ++ gets 1 m 0
    ∷ goes_on 1 (call.SetParent (handle 0 1) b)
    ∷ step 1 (micro.Relink m b) ∷ step 1 (micro.WriteMux m 1) ∷ step 1 (micro.Visit m) ∷ step 1 (micro.Visit (clock_id 3))
    ∷ step 1 (micro.Settle m) ∷ ends 1 reply.Fine
    ∷ []

pub settled_below_turns : turns factor_below_start settled_below ≡ stated settled_below
unfolding turns
settled_below_turns = refl

-- the clock below the mux has its new rate as its last request too
pub settled_below_requests :
    map (λ row. row.last_request) (replay factor_below_start settled_below).clocks ≡ 48000000 ∷ 30000000 ∷ 30000000 ∷ 15000000 ∷ []
unfolding turns
settled_below_requests = refl

-- a range doesn't keep a clock from another parent
abbrev out_of_range : List Entry
out_of_range =
    boot 3 ++ gets 1 m 0
    ∷ begins 1 (call.SetRange (handle 0 1) 40000000 50000000) reply.Fine
    ∷ goes_on 1 (call.SetParent (handle 0 1) b)
    ∷ step 1 (micro.Relink m b) ∷ step 1 (micro.WriteMux m 1) ∷ step 1 (micro.Visit m) ∷ step 1 (micro.Settle m) ∷ ends 1 reply.Fine
    ∷ begins 1 (call.GetRate (handle 0 1)) (reply.Rate 30000000)
    ∷ []

pub out_of_range_turns : turns two_sources_start out_of_range ≡ stated out_of_range
unfolding turns
out_of_range_turns = refl
