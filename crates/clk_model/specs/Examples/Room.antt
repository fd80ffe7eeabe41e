-- The room for entries: a call goes on where its script has room behind the credits.
use Rattle.std.specs.Prelude.{◌≡◌, ℕ, List, [], ◌∷◌, ◌++◌, true, false, Some, None, pos, option_map, refl}
use Rattle.clk_base.specs.declared.call.Micro.TheVariants as micro
use Rattle.clk_base.specs.declared.call.Sleeping.TheVariants as call
use Rattle.clk_base.specs.declared.event.Entry.{Entry}
use Rattle.clk_base.specs.declared.event.Errno.TheVariants as errno
use Rattle.clk_base.specs.declared.event.Event.TheVariants as event
use Rattle.clk_base.specs.declared.event.Reply.TheVariants as reply
use Rattle.clk_base.specs.declared.handle.Handle.{Handle}
use Rattle.clk_base.specs.declared.handle.Policy.TheVariants as policy
use Rattle.clk_model.specs.State.{State, link_in}
use Rattle.clk_model.specs.Round.{most_rate}
use Rattle.clk_model.specs.Begin.{weight_of}
use Rattle.clk_model.specs.Journal.{opening, replay}
use Rattle.clk_model.specs.Examples.Rows.{turns, stated, handle, answers, begins, goes_on, step, poll, polls_in_vain, ends, boot, gets}
use Rattle.clk_model.specs.Examples.Plls.{board, p, g, m}

abbrev a : Handle
a = handle 0 1

-- the framework of a PLL, a gate and a mux below it, made with so many credits
abbrev with_credits : ℕ → State
with_credits credits = opening board (0x64 ∷ 0 ∷ 0 ∷ []) false credits

-- ---- a prepare

abbrev before_prepare : List Entry
before_prepare = boot 3 ++ gets 1 g 0 ∷ []

-- with one PLL on a path a raise weighs 35 and an end 1, so a prepare weighs 36
pub prepare_weight :
    option_map (weight_of (replay (with_credits 100) before_prepare)) (replay (with_credits 100) (before_prepare ++ goes_on 1 (call.Prepare a) ∷ [])).change ≡ Some 36
unfolding turns
prepare_weight = refl

abbrev fitting_prepare : List Entry
fitting_prepare = before_prepare ++ goes_on 1 (call.Prepare a) ∷ []

pub fitting_prepare_turns : turns (with_credits 4194268) fitting_prepare ≡ stated fitting_prepare
unfolding turns
fitting_prepare_turns = refl

abbrev full_prepare : List Entry
full_prepare = before_prepare ++ begins 1 (call.Prepare a) (reply.Refused errno.ENOSPC) ∷ []

pub full_prepare_turns : turns (with_credits 4194269) full_prepare ≡ stated full_prepare
unfolding turns
full_prepare_turns = refl

-- no change is in flight, and the handle has no prepare
pub full_prepare_change : (replay (with_credits 4194269) full_prepare).change ≡ None
unfolding turns
full_prepare_change = refl

pub full_prepare_handles :
    (replay (with_credits 4194269) full_prepare).handles
    ≡ Some (record { driver = 1; clock = g; prepares = 0; enables = 0; exclusives = 0; min = 0; max = most_rate }) ∷ []
unfolding turns
full_prepare_handles = refl

pub full_prepare_registers : (replay (with_credits 4194269) full_prepare).regs ≡ 0x64 ∷ 0 ∷ 0 ∷ []
unfolding turns
full_prepare_registers = refl

-- ---- a change of parent

abbrev before_reparenting : List Entry
before_reparenting =
    boot 4 ++ gets 1 m 0 ∷ begins 1 (call.Prepare a) reply.Fine
    ∷ begins 1 (call.NotifierAdd a 1 (pos 0) policy.Accept) reply.Fine ∷ []

abbrev fitting_reparenting : List Entry
fitting_reparenting = before_reparenting ++ goes_on 1 (call.SetParent a p) ∷ []

-- a notice, a move with its raise and its lower, a visit with its notice, a settle, an end, and the notice of a timeout
pub reparenting_weight :
    option_map (weight_of (replay (with_credits 100) before_reparenting)) (replay (with_credits 100) fitting_reparenting).change ≡ Some 51
unfolding turns
reparenting_weight = refl

pub fitting_reparenting_turns : turns (with_credits 4194253) fitting_reparenting ≡ stated fitting_reparenting
unfolding turns
fitting_reparenting_turns = refl

abbrev full_reparenting : List Entry
full_reparenting = before_reparenting ++ begins 1 (call.SetParent a p) (reply.Refused errno.ENOSPC) ∷ []

pub full_reparenting_turns : turns (with_credits 4194254) full_reparenting ≡ stated full_reparenting
unfolding turns
full_reparenting_turns = refl

-- no change is in flight, and the mux has its parent
pub full_reparenting_change : (replay (with_credits 4194254) full_reparenting).change ≡ None
unfolding turns
full_reparenting_change = refl

pub full_reparenting_link : link_in (replay (with_credits 4194254) full_reparenting).clocks 3 ≡ Some 0
unfolding turns
full_reparenting_link = refl

pub full_reparenting_registers : (replay (with_credits 4194254) full_reparenting).regs ≡ 0x64 ∷ 0 ∷ 0 ∷ []
unfolding turns
full_reparenting_registers = refl

-- ---- an unprepare

-- a prepare whose PLL locks at its last poll leaves no room for an unprepare, which keeps the handle's prepare
abbrev full_unprepare : List Entry
full_unprepare =
    fitting_prepare ++ step 1 (micro.Raise g) ∷ polls_in_vain 31 1 p ++ poll 1 p true ∷ ends 1 reply.Fine
    ∷ begins 1 (call.Unprepare a) (reply.Refused errno.ENOSPC)
    ∷ answers 1 (event.Enable 0) reply.Fine
    ∷ []

pub full_unprepare_turns : turns (with_credits 4194268) full_unprepare ≡ stated full_unprepare
unfolding turns
full_unprepare_turns = refl
