-- How a worked run is written: a list of entries, each with the turn that it has to have.
use Rattle.std.specs.Prelude.{ℕ, List, [], ◌∷◌, ◌++◌, Bool, false, Some, None, map, replicate}
use Rattle.std.specs.Option.{option_map_or}
use Rattle.clk_base.specs.declared.clock.ClockDef.{ClockDef}
use Rattle.clk_base.specs.declared.clock.Kind.{Kind}
use Rattle.clk_base.specs.declared.clock.ClockId.{ClockId}
use Rattle.clk_base.specs.declared.call.Micro.{Micro}
use Rattle.clk_base.specs.declared.call.Micro.TheVariants as micro
use Rattle.clk_base.specs.declared.call.Sleeping.{Sleeping}
use Rattle.clk_base.specs.declared.call.Sleeping.TheVariants as call
use Rattle.clk_base.specs.declared.event.Entry.{Entry}
use Rattle.clk_base.specs.declared.event.Event.{Event}
use Rattle.clk_base.specs.declared.event.Event.TheVariants as event
use Rattle.clk_base.specs.declared.event.Reply.{Reply}
use Rattle.clk_base.specs.declared.event.Reply.TheVariants as reply
use Rattle.clk_base.specs.declared.event.Turn.{Turn}
use Rattle.clk_base.specs.declared.event.Turn.TheVariants as turn
use Rattle.clk_base.specs.declared.handle.Handle.{Handle}
use Rattle.clk_base.specs.Levels.{depth}
use Rattle.reg_bank.specs.Registers.{Registers, bits_of, with_bits, field, put, is_set, put_bit}
use Rattle.kind_math.specs.Rates.{factor_rate, divisor, div_rate, pll_rate}
use Rattle.kind_math.specs.Choices.{least, greatest, greatest_of}
use Rattle.kind_math.specs.Dividers.{valid_fields, valid_divisors, least_or_greatest, div_round, div_setting}
use Rattle.kind_math.specs.Plls.{pll_multiplier}
use Rattle.clk_model.specs.Lists.{count_from}
use Rattle.clk_model.specs.State.{State}
use Rattle.clk_model.specs.Tree.{link_given}
use Rattle.clk_model.specs.Rate.{rate}
use Rattle.clk_model.specs.Gates.{settled}
use Rattle.clk_model.specs.Round.{round}
use Rattle.clk_model.specs.Chain.{clock_id, outcome, chain}
use Rattle.clk_model.specs.Walk.{walk, changing}
use Rattle.clk_model.specs.Script.{planned, probe_script, sweep_order, sweep_script, plls}
use Rattle.clk_model.specs.Begin.{pick, register, begun}
use Rattle.clk_model.specs.Step.{stepped}
use Rattle.clk_model.specs.Machine.{next}
use Rattle.clk_model.specs.Journal.{replay}

-- the turns that the machine gives to the events of a journal; where `turns` unfolds, every definition of the machine computes
unfoldable pub turns : State → List Entry → List Turn
unfolding next begun stepped pick register probe_script sweep_script sweep_order planned plls chain outcome walk changing round settled rate link_given depth bits_of with_bits field put is_set put_bit factor_rate divisor div_rate pll_rate least greatest greatest_of valid_fields valid_divisors least_or_greatest div_round div_setting pll_multiplier
turns s [] = []
turns s (e ∷ es) = option_map_or (λ x. x.1 ∷ turns x.0 es) (next s e.driver e.event) []

-- ---- how a row is written

-- a clock with flags, which are numbered as their bits are
abbrev pub flagged : ℕ → List ℕ → Kind → List ℕ → ClockDef
flagged flags name kind parents = record { name = name; kind = kind; flags = record { 0 = flags }; parents = parents }

abbrev pub clock : List ℕ → Kind → List ℕ → ClockDef
clock name kind parents = flagged 0 name kind parents

abbrev pub set_rate_gate : ℕ
set_rate_gate = 1

abbrev pub set_parent_gate : ℕ
set_parent_gate = 2

abbrev pub set_rate_parent : ℕ
set_rate_parent = 4

abbrev pub ignore_unused : ℕ
ignore_unused = 8

abbrev pub no_reparent : ℕ
no_reparent = 16

abbrev pub critical : ℕ
critical = 32

abbrev pub handle : ℕ → ℕ → Handle
handle number driver = record { number = number; slot = 0; driver = driver }

abbrev pub entry : ℕ → Event → Turn → Entry
entry driver event turn = record { driver = driver; event = event; turn = turn }

-- an entry that answers a reply
abbrev pub answers : ℕ → Event → Reply → Entry
answers driver event reply = entry driver event (turn.Done reply)

abbrev pub begins : ℕ → Sleeping → Reply → Entry
begins driver what reply = answers driver (event.Begin what) reply

-- a call that goes on, a step of it, a poll of it with its answer, and its end
abbrev pub goes_on : ℕ → Sleeping → Entry
goes_on driver what = entry driver (event.Begin what) turn.Going

abbrev pub step : ℕ → Micro → Entry
step driver m = entry driver (event.Step m None) turn.Going

abbrev pub poll : ℕ → ClockId → Bool → Entry
poll driver y locked = entry driver (event.Step (micro.Poll y) (Some locked)) turn.Going

abbrev pub ends : ℕ → Reply → Entry
ends driver reply = answers driver (event.Step micro.End None) reply

-- so many polls of a PLL that hasn't locked
abbrev pub polls_in_vain : ℕ → ℕ → ClockId → List Entry
polls_in_vain count driver y = replicate count (poll driver y false)

-- a raise for a clock whose PLL times out, and its fall
abbrev pub in_vain : ℕ → ClockId → ClockId → List Entry
in_vain driver x y = step driver (micro.Raise x) ∷ polls_in_vain 32 driver y ++ step driver (micro.Fall y) ∷ []

-- boot probes a clock
abbrev pub probe : ℕ → Entry
probe c = begins 0 (call.Probe (clock_id c)) reply.Fine

-- boot probes the first so many clocks, in their order
abbrev pub boot : ℕ → List Entry
boot count = map probe (count_from 0 count)

-- a driver gets a handle of a clock, with this number
abbrev pub gets : ℕ → ClockId → ℕ → Entry
gets driver c number = begins driver (call.Get (Some c)) (reply.Handle (handle number driver))

-- the turns that a journal states
abbrev pub stated : List Entry → List Turn
stated journal = map (λ e. e.turn) journal

-- the registers after each entry of a journal
abbrev pub words_after : State → List Entry → List Registers
words_after s [] = []
words_after s (e ∷ es) = (replay s (e ∷ [])).regs ∷ words_after (replay s (e ∷ [])) es
