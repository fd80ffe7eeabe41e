-- What each step of a call that goes on does.
use Rattle.std.specs.Prelude.{ℕ, ◌+◌, ◌-◌, ◌==◌, ◌||◌, List, [], ◌∷◌, ◌++◌, Bool, true, false, not, nat_le, Option, Some, None, filter, map, if◌then◌else◌, length, option_map, slice_get, slice_set, slice_index, find, reverse}
use Rattle.std.specs.List.{list_any}
use Rattle.std.specs.Option.{option_map_or}
use Rattle.clk_base.specs.declared.call.Sleeping.{Sleeping}
use Rattle.clk_base.specs.declared.call.Sleeping.TheVariants as call
use Rattle.clk_base.specs.declared.call.Micro.{Micro}
use Rattle.clk_base.specs.declared.call.Micro.TheVariants as micro
use Rattle.clk_base.specs.declared.event.Errno.TheVariants as errno
use Rattle.clk_base.specs.declared.event.Reply.TheVariants as reply
use Rattle.clk_base.specs.declared.event.Turn.{Turn}
use Rattle.clk_base.specs.declared.event.Turn.TheVariants as turn
use Rattle.clk_base.specs.Description.{kind_of}
use Rattle.clk_base.specs.Levels.{depth}
use Rattle.reg_bank.specs.Registers.{Registers, put}
use Rattle.clk_model.specs.declared.row.ClockRow.{ClockRow}
use Rattle.clk_model.specs.declared.row.HandleRow.{HandleRow}
use Rattle.clk_model.specs.Lists.{is_in, is_at, without_one, without, to_front}
use Rattle.clk_base.specs.Fields.{gate_of, power_of}
use Rattle.clk_model.specs.Kinds.{mux_field, with_gate, with_power}
use Rattle.clk_model.specs.State.{State, Change, row_of, link_in, handle_at, requested}
use Rattle.clk_model.specs.Tree.{path, path_to_be, children}
use Rattle.clk_model.specs.Rate.{rate}
use Rattle.clk_model.specs.Holders.{active}
use Rattle.clk_model.specs.Round.{wiring, parent_rate_in}
use Rattle.clk_model.specs.Chain.{clock_id, linked, setting}
use Rattle.clk_model.specs.Walk.{below_within}
use Rattle.clk_model.specs.Notices.{abort_list, post_list}
use Rattle.clk_model.specs.Script.{unprepared_plls, runs}
use Rattle.clk_model.specs.Begin.{register, prepared_once_more, held_once_more, request_between}

-- what is left of a change: what stands in front, and then the script
abbrev pub todo : Change → List Micro
todo k = k.front ++ k.left

-- a list of steps without the first
abbrev pub rest_of : List Micro → List Micro
rest_of [] = []
rest_of (m ∷ ms) = ms

-- what is left of the script behind the next step: that step is taken from what stands in front, or else from the script
abbrev pub left_behind : List Micro → List Micro → List Micro
left_behind [] left = rest_of left
left_behind (m ∷ ms) left = left

-- the change without its first step
abbrev pub taken : Change → Change
taken k = record k { front = rest_of k.front; left = left_behind k.front k.left }

-- the state with the change as it is now
abbrev pub on : State → Change → State
on s k = record s { change = Some k }

-- the state with a power bit set or cleared
abbrev pub powered : State → ℕ → Bool → State
powered s y up = record s { regs = option_map_or (λ power. with_power s.regs power up) (power_of (kind_of s.defs y)) s.regs }

-- ---- timing out

-- whether a step is the end, a visit, a registration or the settling of a last request
abbrev pub is_end : Micro → Bool
is_end micro.End = true
is_end _ = false

abbrev pub is_visit : Micro → Bool
is_visit (micro.Visit c) = true
is_visit _ = false

abbrev pub is_register : Micro → Bool
is_register (micro.Register c) = true
is_register _ = false

abbrev pub is_settle : Micro → Bool
is_settle (micro.Settle c) = true
is_settle _ = false

abbrev pub is_close : Micro → Bool
is_close (micro.Close c) = true
is_close _ = false

-- whether a step lets go of what was kept running
abbrev pub lets_go : Micro → Bool
lets_go (micro.DropEnable x) = true
lets_go (micro.DropPrepare x) = true
lets_go (micro.Lower x) = true
lets_go _ = false

-- a script from its first step of a kind on
abbrev pub from_first : (Micro → Bool) → List Micro → List Micro
from_first test [] = []
from_first test (m ∷ ms) = if test m then m ∷ ms else from_first test ms

-- a script behind its first step of a kind
abbrev pub behind_first : (Micro → Bool) → List Micro → List Micro
behind_first test [] = []
behind_first test (m ∷ ms) = if test m then ms else behind_first test ms

-- a script after the steps before it that let go
abbrev pub behind_lets : List Micro → List Micro
behind_lets [] = []
behind_lets (m ∷ ms) = if lets_go m then behind_lets ms else m ∷ ms

-- a script without the steps that let go after its first step
abbrev pub first_alone : List Micro → List Micro
first_alone [] = []
first_alone (m ∷ ms) = m ∷ behind_lets ms

-- the clock of the next visit
abbrev pub visit_clock : Micro → Option ℕ
visit_clock (micro.Visit c) = Some c.0
visit_clock _ = None

abbrev pub next_visit : List Micro → Option ℕ
next_visit [] = None
next_visit (m ∷ ms) = if is_visit m then visit_clock m else next_visit ms

-- the clock that isn't set after a timeout: of a change of rate, the one that is visited next
abbrev pub missed_by : Sleeping → List Micro → Option ℕ
missed_by (call.SetRate h x) ms = next_visit ms
missed_by (call.SetRateExclusive h x) ms = next_visit ms
missed_by (call.SetRange h least most) ms = next_visit ms
missed_by _ ms = None

-- what a timeout leaves of a script: of a prepare, a change of parent and a registration that isn't made only the end,
-- of an adoption and of a gate that is closed what stands after it, and of a move and a visit that visit alone and the rest of the walk
abbrev pub cut_short : Sleeping → List Micro → List Micro
cut_short (call.Prepare h) ms = from_first is_end ms
cut_short (call.SetParent h p) ms = from_first is_end ms
cut_short (call.Probe c) ms = if list_any is_register ms then from_first is_end ms else behind_first is_settle ms
cut_short call.Sweep ms = behind_lets (behind_first is_close ms)
cut_short _ ms = first_alone (from_first is_visit ms)

-- whether the call changes a parent
abbrev pub sets_parent : Sleeping → Bool
sets_parent (call.SetParent h p) = true
sets_parent _ = false

-- the notices that a timeout brings: a change of parent is called off
abbrev pub aborts_of : State → Change → List Micro
aborts_of s k =
    if sets_parent k.call then abort_list (record { before = k.before; outcome = k.outcome }) s.notifiers k.changing else []

-- the raised PLLs fall, the last raised first, the script is cut short, and a clock is missed
abbrev pub timed_out : State → Change → State
timed_out s k = on s (record k {
  timed_out = true;
  again = 0;
  extra = 0;
  front = map (λ y. micro.Fall (clock_id y)) k.raised ++ aborts_of s k;
  left = cut_short k.call k.left;
  missed = missed_by k.call k.left;
})

-- ---- PLLs

-- the PLLs of a path that neither a prepare nor this change keeps powered
abbrev pub to_raise : State → Change → ℕ → List ℕ
to_raise s k x = filter (λ y. not (is_in y k.raised)) (unprepared_plls s (path_to_be s.defs s.regs s.clocks x))

-- how often a poll may ask
abbrev pub most_polls : ℕ
most_polls = 32

-- a PLL is powered and then polled, and the raise comes again while another remains
abbrev pub raise_one : State → Change → ℕ → ℕ → State
raise_one s k x y =
    let more = nat_le 2 (length (to_raise s k x)) in
    on (powered s y true) (record k {
      raised = y ∷ k.raised;
      polls = most_polls;
      again = if more then k.again + 1 else 0;
      front = micro.Poll (clock_id y) ∷ (if more then micro.Raise (clock_id x) ∷ [] else []) ++ k.front;
    })

-- Raise: the highest such PLL is raised
abbrev pub raise : State → Change → ℕ → State
raise s k x = option_map_or (raise_one s k x) (slice_get (reverse (to_raise s k x)) 0) (on s (record k { again = 0 }))

-- Poll: on a no it comes again, until it has asked often enough
abbrev pub poll : State → Change → ℕ → Bool → State
poll s k y true = on s (record k { polls = 0 })
poll s k y false =
    if nat_le k.polls 1 then timed_out s (record k { polls = 0 })
    else on s (record k { polls = k.polls - 1; front = micro.Poll (clock_id y) ∷ k.front })

-- Fall: the PLL loses its power and is no longer raised
abbrev pub fall : State → Change → ℕ → State
fall s k y = on (powered s y false) (record k { raised = without_one y k.raised })

-- the PLLs of a path that are powered without a prepare
abbrev pub to_lower : State → ℕ → List ℕ
to_lower s x = filter (runs s.defs s.regs) (unprepared_plls s (path s.clocks x))

-- a PLL loses its power, and the lowering stays while another remains
abbrev pub lower_one : State → Change → ℕ → ℕ → State
lower_one s k x y =
    let more = nat_le 2 (length (to_lower s x)) in
    on (powered s y false) (record k {
      again = if more then k.again + 1 else 0;
      front = (if more then micro.Lower (clock_id x) ∷ [] else []) ++ k.front;
    })

-- Lower: the lowest such PLL is lowered
abbrev pub lower : State → Change → ℕ → State
lower s k x = option_map_or (lower_one s k x) (slice_get (to_lower s x) 0) (on s (record k { again = 0 }))

-- ---- holds and links

-- HoldPrepare: the PLLs above are held by a prepare from now on
abbrev pub hold_prepare : State → Change → ℕ → State
hold_prepare s k x =
    on (record s { prepare_holds = x ∷ s.prepare_holds }) (record k { raised = without (path s.clocks x) k.raised })

-- HoldEnable: the clock is held by an enable from now on
abbrev pub hold_enable : State → Change → ℕ → State
hold_enable s k x = on (record s { enable_holds = x ∷ s.enable_holds }) k

-- the holds on a clock become holds on another, or end
abbrev pub passed_over : ℕ → Option ℕ → List ℕ → List ℕ
passed_over p None holds = without (p ∷ []) holds
passed_over p (Some o) holds = map (λ h. if h == p then o else h) holds

-- Relink: a new link, with the clock first in the order of attaching; the holds on the new parent become holds on the old one
abbrev pub relink : State → Change → ℕ → ℕ → State
relink s k c p =
    on (record s {
      clocks = linked s.clocks c p;
      order = to_front c s.order;
      prepare_holds = passed_over p (link_in s.clocks c) s.prepare_holds;
      enable_holds = passed_over p (link_in s.clocks c) s.enable_holds;
    }) k

-- WriteMux: the field selects the parent at this place
abbrev pub write_mux : State → Change → ℕ → ℕ → State
write_mux s k c place =
    on (record s { regs = option_map_or (λ f. put s.regs f.word f.shift f.width place) (mux_field (kind_of s.defs c)) s.regs }) k

-- DropEnable and DropPrepare: the hold ends
abbrev pub drop_enable : State → Change → ℕ → State
drop_enable s k x = on (record s { enable_holds = without_one x s.enable_holds }) k

abbrev pub drop_prepare : State → Change → ℕ → State
drop_prepare s k x = on (record s { prepare_holds = without_one x s.prepare_holds }) k

-- ---- visits, registration, sweep

-- the planned rate of a clock of the chain, unless a poll for its visit has timed out
abbrev pub planned_rate : Change → ℕ → Option ℕ
planned_rate k c = if is_at c k.missed then None else option_map (λ step. step.rate) (find (λ step. step.clock == c) k.chain)

-- the registers with the setting of a clock of the chain
abbrev pub set_in_chain : State → Change → ℕ → Registers
set_in_chain s k c =
    option_map_or (λ planned. setting (kind_of s.defs c) (parent_rate_in (wiring s) c) planned s.regs) (planned_rate k c) s.regs

-- Visit: the clock's setting is written, and where its rate is another than at the beginning its notifiers are told
abbrev pub visit : State → Change → ℕ → State
visit s k c =
    let regs = set_in_chain s k c in
    on (record s { regs = regs }) (record k {
      front = (if rate s.defs regs s.clocks c == slice_index k.before c then []
          else post_list (record { before = k.before; outcome = k.outcome }) s.notifiers c) ++ k.front;
    })

-- Register: the clock is registered, and the PLLs above are held from now on where it is critical
abbrev pub register_in : State → Change → ℕ → State
register_in s k c = on (register s c) (record k { raised = without (path_to_be s.defs s.regs s.clocks c) k.raised })

-- the last request of each of these clocks becomes its rate
abbrev pub settle_all : State → List ℕ → List ClockRow
settle_all s [] = s.clocks
settle_all s (c ∷ cs) =
    slice_set (settle_all s cs) c (record (row_of (settle_all s cs) c) { last_request = rate s.defs s.regs s.clocks c })

-- Settle: the last request of a clock and of each clock below it becomes its rate
abbrev pub settle : State → Change → ℕ → State
settle s k c = on (record s { clocks = settle_all s (below_within (children s.order s.clocks) depth c) }) k

-- Close: the gate is closed where nothing keeps the clock active
abbrev pub close : State → Change → ℕ → State
close s k c =
    on (record s { regs = if active s c then s.regs else option_map_or (λ gate. with_gate s.regs gate false) (gate_of (kind_of s.defs c)) s.regs }) k

-- ---- the end

-- what a call that went well leaves
abbrev pub ended_well : State → ℕ → Sleeping → State
ended_well s d (call.Prepare h) = option_map_or (prepared_once_more s h.number) (handle_at s.handles h.number) s
ended_well s d (call.SetRate h x) = option_map_or (λ row. record s { clocks = requested s.clocks row.clock.0 x }) (handle_at s.handles h.number) s
ended_well s d (call.SetRateExclusive h x) =
    option_map_or (λ row. record (held_once_more s h.number row) { clocks = requested s.clocks row.clock.0 x }) (handle_at s.handles h.number) s
ended_well s d (call.SetRange h least most) =
    option_map_or (λ row. record s { clocks = requested s.clocks row.clock.0 (request_between s.clocks row.clock.0 least most) }) (handle_at s.handles h.number) s
ended_well s d _ = s

-- a handle with this range
abbrev pub with_range : ℕ × ℕ → HandleRow → HandleRow
with_range range h = record h { min = range.0; max = range.1 }

-- the handles with the range put back that a call has changed
abbrev pub range_back : Sleeping → Option (ℕ × ℕ) → List (Option HandleRow) → List (Option HandleRow)
range_back (call.SetRange h least most) (Some range) handles =
    slice_set handles h.number (option_map (with_range range) (handle_at handles h.number))
range_back _ _ handles = handles

-- the state with the range put back that a call has changed
abbrev pub unranged : State → Change → State
unranged s k = record s { handles = range_back k.call k.range s.handles }

-- End: the final effect where nothing vetoed and nothing timed out, and the answer
abbrev pub end_of : State → Change → State × Turn
end_of s k = (
  record (if k.vetoed || k.timed_out then unranged s k else ended_well s k.driver k.call) { change = None },
  turn.Done (if k.vetoed then reply.Refused errno.EBUSY else if k.timed_out then reply.Refused errno.ETIMEDOUT else reply.Fine),
)

-- ---- each step

-- whether a poll is answered by yes
abbrev pub is_yes : Option Bool → Bool
is_yes None = false
is_yes (Some b) = b

-- what a step does, where k is the change without it, and whether the call goes on
unfoldable pub stepped : State → Change → Option Bool → Micro → State × Turn
stepped s k answer (micro.Notify kind c id old new) = (on s k, turn.Going)
stepped s k answer (micro.Raise x) = (raise s k x.0, turn.Going)
stepped s k answer (micro.Poll y) = (poll s k y.0 (is_yes answer), turn.Going)
stepped s k answer (micro.Fall y) = (fall s k y.0, turn.Going)
stepped s k answer (micro.HoldPrepare x) = (hold_prepare s k x.0, turn.Going)
stepped s k answer (micro.HoldEnable x) = (hold_enable s k x.0, turn.Going)
stepped s k answer (micro.Relink c p) = (relink s k c.0 p.0, turn.Going)
stepped s k answer (micro.WriteMux c place) = (write_mux s k c.0 place, turn.Going)
stepped s k answer (micro.DropEnable x) = (drop_enable s k x.0, turn.Going)
stepped s k answer (micro.DropPrepare x) = (drop_prepare s k x.0, turn.Going)
stepped s k answer (micro.Lower x) = (lower s k x.0, turn.Going)
stepped s k answer (micro.Visit c) = (visit s k c.0, turn.Going)
stepped s k answer (micro.Register c) = (register_in s k c.0, turn.Going)
stepped s k answer (micro.Settle c) = (settle s k c.0, turn.Going)
stepped s k answer (micro.Close c) = (close s k c.0, turn.Going)
stepped s k answer (micro.Unpower c) = (on (powered s c.0 false) k, turn.Going)
stepped s k answer micro.End = end_of s k
