-- Polls that answer by the delay of their PLL.
use Rattle.std.specs.Prelude.{◌≡◌, List, [], ◌∷◌, ◌++◌, true, false, refl}
use Rattle.clk_base.specs.declared.call.Micro.TheVariants as micro
use Rattle.clk_base.specs.declared.call.Sleeping.TheVariants as call
use Rattle.clk_base.specs.declared.event.Entry.{Entry}
use Rattle.clk_base.specs.declared.event.Reply.TheVariants as reply
use Rattle.clk_model.specs.Journal.{Polled}
use Rattle.clk_model.specs.Examples.Rows.{turns, stated, handle, goes_on, step, poll, ends}
use Rattle.clk_model.specs.Examples.Plls.{p, g, board_start, start, lowered}

-- a prepare whose PLL locks at its second poll
abbrev raised_slowly : List Entry
raised_slowly =
    goes_on 1 (call.Prepare (handle 0 1)) ∷ step 1 (micro.Raise g) ∷ poll 1 p false ∷ poll 1 p true ∷ ends 1 reply.Fine ∷ []

-- at the first poll behind a raise a PLL with a delay of 1 has locked
pub polled_at_once : Polled (λ y. 1) (goes_on 1 (call.Prepare (handle 0 1)) ∷ step 1 (micro.Raise g) ∷ poll 1 p true ∷ [])
polled_at_once = (tt, (tt, (refl, tt)))

-- with a delay of 2 it has at the second, and polls count anew from each raise
pub polled_slowly : Polled (λ y. 2) (raised_slowly ++ lowered ++ raised_slowly)
polled_slowly = (tt, (tt, (refl, (refl, (tt, (tt, (tt, (tt, (tt, (tt, (refl, (refl, (tt, tt)))))))))))))

pub slowly_turns : turns board_start (start ++ raised_slowly ++ lowered ++ raised_slowly) ≡ stated (start ++ raised_slowly ++ lowered ++ raised_slowly)
unfolding turns
slowly_turns = refl
