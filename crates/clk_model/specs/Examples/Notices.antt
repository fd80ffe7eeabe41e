-- The order of notices, and a veto.
use Rattle.std.specs.Prelude.{◌≡◌, ℕ, List, [], ◌∷◌, ◌++◌, Bool, true, false, pos, neg_ℤ, codes, refl}
use Rattle.clk_base.specs.declared.clock.ClockId.{ClockId}
use Rattle.clk_base.specs.declared.clock.Kind.TheVariants as kinds
use Rattle.clk_base.specs.declared.call.Micro.TheVariants as micro
use Rattle.clk_base.specs.declared.call.Notice.TheVariants as notice
use Rattle.clk_base.specs.declared.call.Sleeping.TheVariants as call
use Rattle.clk_base.specs.declared.event.Entry.{Entry}
use Rattle.clk_base.specs.declared.event.Errno.TheVariants as errno
use Rattle.clk_base.specs.declared.event.Event.TheVariants as event
use Rattle.clk_base.specs.declared.event.Reply.TheVariants as reply
use Rattle.clk_base.specs.declared.handle.Policy.TheVariants as policy
use Rattle.clk_base.specs.Description.{Description}
use Rattle.clk_model.specs.State.{State}
use Rattle.clk_model.specs.Chain.{clock_id}
use Rattle.clk_model.specs.Journal.{opening, replay}
use Rattle.clk_model.specs.Examples.Rows.{turns, stated, clock, flagged, set_rate_parent, handle, answers, begins, goes_on, step, ends, boot, gets}
use Rattle.clk_model.specs.Examples.Rounding.{divided_start, div}

-- ---- notices in the order of the walk

-- `fixed osc 24000000`, `pll vco osc 0 0 9 0 31 100 400 24`, `divider d vco 1 0 2 set-rate-parent`, `factor x vco 1 4`, `factor y vco 1 5`
abbrev oscillator : Description
oscillator =
    clock (codes "osc") (kinds.FixedRate 24000000) []
    ∷ clock (codes "vco") (kinds.Pll 0 0 9 0 31 100 400 24) (0 ∷ [])
    ∷ flagged set_rate_parent (codes "d") (kinds.Divider 1 0 2 false false) (1 ∷ [])
    ∷ clock (codes "x") (kinds.Factor 1 4) (1 ∷ [])
    ∷ clock (codes "y") (kinds.Factor 1 5) (1 ∷ []) ∷ []

abbrev vco : ClockId
vco = clock_id 1

abbrev d : ClockId
d = clock_id 2

abbrev x : ClockId
x = clock_id 3

abbrev y : ClockId
y = clock_id 4

abbrev oscillator_start : State
oscillator_start = opening oscillator (0x800000c8 ∷ 1 ∷ []) false 100

-- a divider passes its request on to the PLL: first all notices before the change from the PLL down, the newest child first, then
-- at each clock its setting and its notice
abbrev notices_in_order : List Entry
notices_in_order =
    boot 5 ++ gets 1 vco 0 ∷ gets 1 y 1 ∷ gets 1 x 2 ∷ gets 1 d 3
    ∷ begins 1 (call.NotifierAdd (handle 0 1) 1 (pos 0) policy.Accept) reply.Fine
    ∷ begins 1 (call.NotifierAdd (handle 1 1) 1 (pos 0) policy.Accept) reply.Fine
    ∷ begins 1 (call.NotifierAdd (handle 2 1) 1 (pos 0) policy.Accept) reply.Fine
    ∷ begins 1 (call.NotifierAdd (handle 3 1) 1 (pos 0) policy.Accept) reply.Fine
    ∷ goes_on 1 (call.SetRate (handle 3 1) 150000000)
    ∷ step 1 (micro.Notify (notice.Pre false) vco 1 200000000 150000000)
    ∷ step 1 (micro.Notify (notice.Pre false) y 1 40000000 30000000)
    ∷ step 1 (micro.Notify (notice.Pre false) x 1 50000000 37500000)
    ∷ step 1 (micro.Notify (notice.Pre false) d 1 100000000 150000000)
    ∷ step 1 (micro.Visit vco) ∷ step 1 (micro.Notify notice.Post vco 1 200000000 150000000)
    ∷ step 1 (micro.Visit y) ∷ step 1 (micro.Notify notice.Post y 1 40000000 30000000)
    ∷ step 1 (micro.Visit x) ∷ step 1 (micro.Notify notice.Post x 1 50000000 37500000)
    ∷ step 1 (micro.Visit d) ∷ step 1 (micro.Notify notice.Post d 1 100000000 150000000)
    ∷ ends 1 reply.Fine
    ∷ []

pub notices_in_order_turns : turns oscillator_start notices_in_order ≡ stated notices_in_order
unfolding turns
notices_in_order_turns = refl

pub notices_in_order_registers : (replay oscillator_start notices_in_order).regs ≡ 0x80000096 ∷ 0 ∷ []
unfolding turns
notices_in_order_registers = refl

-- ---- a veto

-- `fixed ref 100`, `divider s ref 0 0 3`, `factor u s 1 2`, `factor w s 1 4`, `gate q s 1 0`
abbrev pub vetoed : Description
vetoed =
    clock (codes "ref") (kinds.FixedRate 100) []
    ∷ clock (codes "s") (kinds.Divider 0 0 3 false false) (0 ∷ [])
    ∷ clock (codes "u") (kinds.Factor 1 2) (1 ∷ [])
    ∷ clock (codes "w") (kinds.Factor 1 4) (1 ∷ [])
    ∷ clock (codes "q") (kinds.Gate 1 0 false) (1 ∷ []) ∷ []

abbrev s : ClockId
s = clock_id 1

abbrev u : ClockId
u = clock_id 2

abbrev w : ClockId
w = clock_id 3

abbrev q : ClockId
q = clock_id 4

abbrev pub vetoed_start : State
vetoed_start = opening vetoed (0 ∷ 0 ∷ []) false 100

-- a notice before the change
abbrev pre : ClockId → ℕ → ℕ → ℕ → Bool → Entry
pre c id old new veto = step 1 (micro.Notify (notice.Pre veto) c id old new)

-- a notice that the change is called off
abbrev abort : ClockId → ℕ → ℕ → ℕ → Entry
abort c id old new = step 1 (micro.Notify notice.Abort c id old new)

-- a notice that the rate has changed
abbrev post : ClockId → ℕ → ℕ → ℕ → Entry
post c id old new = step 1 (micro.Notify notice.Post c id old new)

abbrev pub before_veto : List Entry
before_veto =
    boot 5 ++ gets 2 q 0 ∷ begins 2 (call.Prepare (handle 0 2)) reply.Fine
    ∷ gets 1 s 1 ∷ gets 1 w 2 ∷ gets 1 u 3
    ∷ begins 1 (call.NotifierAdd (handle 2 1) 1 (pos 10) policy.Accept) reply.Fine
    ∷ begins 1 (call.NotifierAdd (handle 2 1) 2 (pos 5) policy.VetoAll) reply.Fine
    ∷ begins 1 (call.NotifierAdd (handle 2 1) 3 (pos 1) policy.Accept) reply.Fine
    ∷ begins 1 (call.NotifierAdd (handle 3 1) 4 (pos 0) policy.Accept) reply.Fine
    ∷ []

-- a veto ends the notices of its own clock alone, then the whole chain of each clock hears that the change is called off;
-- another driver enables a gate meanwhile
abbrev pub one_veto : List Entry
one_veto =
    before_veto ++ goes_on 1 (call.SetRate (handle 1 1) 50)
    ∷ pre w 1 25 12 false
    ∷ answers 2 (event.Enable 0) reply.Fine
    ∷ pre w 2 25 12 true
    ∷ pre u 4 50 25 false
    ∷ abort w 1 25 12 ∷ abort w 2 25 12 ∷ abort w 3 25 12 ∷ abort u 4 50 25
    ∷ ends 1 (reply.Refused errno.EBUSY)
    ∷ []

pub one_veto_turns : turns vetoed_start one_veto ≡ stated one_veto
unfolding turns
one_veto_turns = refl

-- the divider has its old field, and the gate is open
pub one_veto_registers : (replay vetoed_start one_veto).regs ≡ 0 ∷ 1 ∷ []
unfolding turns
one_veto_registers = refl

-- ---- priorities and policies

-- notifier 1 comes last, for its priority is below 0; 3 vetoes rates above 60, and 4 rates below 30
abbrev policies : List Entry
policies =
    boot 5 ++ gets 1 s 0
    ∷ begins 1 (call.NotifierAdd (handle 0 1) 1 (neg_ℤ (pos 5)) policy.Accept) reply.Fine
    ∷ begins 1 (call.NotifierAdd (handle 0 1) 2 (pos 3) policy.Accept) reply.Fine
    ∷ begins 1 (call.NotifierAdd (handle 0 1) 3 (pos 3) (policy.VetoAbove 60)) reply.Fine
    ∷ begins 1 (call.NotifierAdd (handle 0 1) 4 (pos 0) (policy.VetoBelow 30)) reply.Fine
    ∷ goes_on 1 (call.SetRate (handle 0 1) 50)
    ∷ pre s 2 100 50 false ∷ pre s 3 100 50 false ∷ pre s 4 100 50 false ∷ pre s 1 100 50 false
    ∷ step 1 (micro.Visit s) ∷ post s 2 100 50 ∷ post s 3 100 50 ∷ post s 4 100 50 ∷ post s 1 100 50
    ∷ step 1 (micro.Visit q) ∷ step 1 (micro.Visit w) ∷ step 1 (micro.Visit u)
    ∷ ends 1 reply.Fine
    ∷ goes_on 1 (call.SetRate (handle 0 1) 25)
    ∷ pre s 2 50 25 false ∷ pre s 3 50 25 false ∷ pre s 4 50 25 true
    ∷ abort s 2 50 25 ∷ abort s 3 50 25 ∷ abort s 4 50 25 ∷ abort s 1 50 25
    ∷ ends 1 (reply.Refused errno.EBUSY)
    ∷ goes_on 1 (call.SetRate (handle 0 1) 100)
    ∷ pre s 2 50 100 false ∷ pre s 3 50 100 true
    ∷ abort s 2 50 100 ∷ abort s 3 50 100 ∷ abort s 4 50 100 ∷ abort s 1 50 100
    ∷ ends 1 (reply.Refused errno.EBUSY)
    ∷ []

pub policies_turns : turns vetoed_start policies ≡ stated policies
unfolding turns
policies_turns = refl

-- of equal priorities the one added first is told first, whatever its id; one that was removed and added again comes last
abbrev equals : List Entry
equals =
    boot 2 ++ gets 1 div 0
    ∷ begins 1 (call.NotifierAdd (handle 0 1) 7 (pos 0) policy.Accept) reply.Fine
    ∷ begins 1 (call.NotifierAdd (handle 0 1) 5 (pos 0) policy.Accept) reply.Fine
    ∷ begins 1 (call.NotifierAdd (handle 0 1) 6 (pos 0) policy.Accept) reply.Fine
    ∷ goes_on 1 (call.SetRate (handle 0 1) 50)
    ∷ pre div 7 100 50 false ∷ pre div 5 100 50 false ∷ pre div 6 100 50 false
    ∷ step 1 (micro.Visit div) ∷ post div 7 100 50 ∷ post div 5 100 50 ∷ post div 6 100 50
    ∷ ends 1 reply.Fine
    ∷ begins 1 (call.NotifierRemove (handle 0 1) 7) reply.Fine
    ∷ begins 1 (call.NotifierAdd (handle 0 1) 7 (pos 0) policy.Accept) reply.Fine
    ∷ goes_on 1 (call.SetRate (handle 0 1) 25)
    ∷ pre div 5 50 25 false ∷ pre div 6 50 25 false ∷ pre div 7 50 25 false
    ∷ step 1 (micro.Visit div) ∷ post div 5 50 25 ∷ post div 6 50 25 ∷ post div 7 50 25
    ∷ ends 1 reply.Fine
    ∷ []

pub equals_turns : turns divided_start equals ≡ stated equals
unfolding turns
equals_turns = refl

-- a veto above a rate, or below it, lets the rate itself pass
abbrev just_allowed : List Entry
just_allowed =
    boot 2 ++ gets 1 div 0
    ∷ begins 1 (call.NotifierAdd (handle 0 1) 1 (pos 0) (policy.VetoAbove 50)) reply.Fine
    ∷ begins 1 (call.NotifierAdd (handle 0 1) 2 (pos 0) (policy.VetoBelow 50)) reply.Fine
    ∷ goes_on 1 (call.SetRate (handle 0 1) 50)
    ∷ pre div 1 100 50 false ∷ pre div 2 100 50 false
    ∷ step 1 (micro.Visit div) ∷ post div 1 100 50 ∷ post div 2 100 50
    ∷ ends 1 reply.Fine
    ∷ []

pub just_allowed_turns : turns divided_start just_allowed ≡ stated just_allowed
unfolding turns
just_allowed_turns = refl

-- ---- clocks whose rate stays

-- `fixed ref 100`, `divider s ref 0 0 3`, `factor z s 1 200`
abbrev unmoved : Description
unmoved =
    clock (codes "ref") (kinds.FixedRate 100) [] ∷ clock (codes "s") (kinds.Divider 0 0 3 false false) (0 ∷ [])
    ∷ clock (codes "z") (kinds.Factor 1 200) (1 ∷ []) ∷ []

-- a two-hundredth of 100 and of 50 is 0, so the factor's notifier hears nothing
abbrev no_notice : List Entry
no_notice =
    boot 3 ++ gets 1 s 0 ∷ gets 1 (clock_id 2) 1
    ∷ begins 1 (call.NotifierAdd (handle 1 1) 1 (pos 0) policy.VetoAll) reply.Fine
    ∷ goes_on 1 (call.SetRate (handle 0 1) 50) ∷ step 1 (micro.Visit s) ∷ step 1 (micro.Visit (clock_id 2)) ∷ ends 1 reply.Fine
    ∷ []

pub no_notice_turns : turns (opening unmoved (0 ∷ []) false 100) no_notice ≡ stated no_notice
unfolding turns
no_notice_turns = refl

-- `fixed ref 1000`, `divider s ref 0 0 3`, `factor x s 1 100 set-rate-parent`, `divider d x 1 0 1 set-rate-parent`
abbrev pub kept_between : Description
kept_between =
    clock (codes "ref") (kinds.FixedRate 1000) []
    ∷ clock (codes "s") (kinds.Divider 0 0 3 false false) (0 ∷ [])
    ∷ flagged set_rate_parent (codes "x") (kinds.Factor 1 100) (1 ∷ [])
    ∷ flagged set_rate_parent (codes "d") (kinds.Divider 1 0 1 false false) (2 ∷ []) ∷ []

-- the dividers' fields are 4 and 1, so s has the rate 200, x has 2, and d has 1
abbrev pub kept_between_start : State
kept_between_start = opening kept_between (4 ∷ 1 ∷ []) false 100

abbrev hundredth : ClockId
hundredth = clock_id 2

abbrev lowest : ClockId
lowest = clock_id 3

-- for 4 the lower divider wants 3 of the factor, which for 3 gets 250 of the upper divider: a hundredth of it is 2, as before. The
-- factor stands still, so neither it nor the divider behind it is asked, and both vetoes stay unheard. The lower divider now
-- divides 2 by 1, and its notifier is told so
abbrev still_between : List Entry
still_between =
    boot 4 ++ gets 1 s 0 ∷ gets 1 hundredth 1 ∷ gets 1 lowest 2
    ∷ begins 1 (call.NotifierAdd (handle 0 1) 1 (pos 0) policy.Accept) reply.Fine
    ∷ begins 1 (call.NotifierAdd (handle 1 1) 1 (pos 0) policy.VetoAll) reply.Fine
    ∷ begins 1 (call.NotifierAdd (handle 2 1) 1 (pos 0) policy.VetoAll) reply.Fine
    ∷ begins 1 (call.RoundRate (handle 2 1) 4) (reply.Rate 3)
    ∷ goes_on 1 (call.SetRate (handle 2 1) 4)
    ∷ pre s 1 200 250 false
    ∷ step 1 (micro.Visit s) ∷ post s 1 200 250
    ∷ step 1 (micro.Visit hundredth)
    ∷ step 1 (micro.Visit lowest) ∷ post lowest 1 1 2
    ∷ ends 1 reply.Fine
    ∷ begins 1 (call.GetRate (handle 2 1)) (reply.Rate 2)
    ∷ []

pub still_between_turns : turns kept_between_start still_between ≡ stated still_between
unfolding turns
still_between_turns = refl

pub still_between_registers : (replay kept_between_start still_between).regs ≡ 3 ∷ 0 ∷ []
unfolding turns
still_between_registers = refl
