-- That whoever was told that a rate would change is told that it has: the law of notices of changes that went well.
use Rattle.std.specs.Prelude.{◌≡◌, ℕ, ◌==◌, List, Bool, true, false, Option, Some, length, filter}
use Rattle.clk_base.specs.declared.call.Micro.{Micro}
use Rattle.clk_base.specs.declared.call.Micro.TheVariants as micro
use Rattle.clk_base.specs.declared.call.Notice.TheVariants as notice
use Rattle.clk_base.specs.declared.call.Sleeping.{Sleeping}
use Rattle.clk_base.specs.declared.event.Entry.{Entry}
use Rattle.clk_base.specs.declared.event.Event.TheVariants as event
use Rattle.clk_base.specs.declared.event.Reply.TheVariants as reply
use Rattle.clk_base.specs.declared.event.Turn.TheVariants as turn
use Rattle.clk_base.specs.Description.{Description}
use Rattle.clk_base.specs.Valid.{IsValid}
use Rattle.reg_bank.specs.Registers.{Registers}
use Rattle.clk_model.specs.Lists.{is_in}
use Rattle.clk_model.specs.State.{State}
use Rattle.clk_model.specs.Round.{wiring}
use Rattle.clk_model.specs.Walk.{changing}
use Rattle.clk_model.specs.Notices.{post_list}
use Rattle.clk_model.specs.Machine.{next}
use Rattle.clk_model.specs.Journal.{replay, opening}
use Rattle.clk_model.specs.Laws.Flight.{Flight, plan, plan_rates, pre_notices}
use Rattle.clk_model.specs.Laws.PlansRead.{plans}

-- whether a step tells a notifier of this clock that its rate has changed
abbrev pub is_post_of : ℕ → Micro → Bool
is_post_of c (micro.Notify notice.Post d id old new) = d.0 == c
is_post_of c _ = false

-- at the end of a change of rates or of a parent that went well, without veto and timeout, each clock that the notices before the change
-- were for has been told of it once: over all its notifiers, in their order, with the rates of those notices
abbrev pub ChangesAreTold : Type 0
ChangesAreTold = (defs : Description) (regs : Registers) (ignore_unused : Bool) (credits : ℕ) (before : List Entry) (q s t : State) (d : ℕ) (what : Sleeping) (made : List Micro)
    (m : Micro) (answer : Option Bool) → IsValid (length regs) defs → plans what ≡ true → replay (opening defs regs ignore_unused credits) before ≡ q
    → Flight q d what s made → next s d (event.Step m answer) ≡ Some (t, turn.Done reply.Fine)
    → (c : ℕ) → is_in c (changing q.order (wiring q) (plan q d what)) ≡ true
    → filter (is_post_of c) made ≡ post_list (plan_rates q (plan q d what)) q.notifiers c

-- whether a step asks a notifier before a change
abbrev pub is_pre : Micro → Bool
is_pre (micro.Notify (notice.Pre veto) c id old new) = true
is_pre _ = false

-- and no others have been asked: the notices before such a change were those of its plan, over the clocks whose rate it changes, each once
abbrev pub ChangesAreAsked : Type 0
ChangesAreAsked = (defs : Description) (regs : Registers) (ignore_unused : Bool) (credits : ℕ) (before : List Entry) (q s t : State) (d : ℕ) (what : Sleeping) (made : List Micro)
    (m : Micro) (answer : Option Bool) → IsValid (length regs) defs → plans what ≡ true → replay (opening defs regs ignore_unused credits) before ≡ q
    → Flight q d what s made → next s d (event.Step m answer) ≡ Some (t, turn.Done reply.Fine)
    → filter is_pre made ≡ pre_notices q (plan q d what)
