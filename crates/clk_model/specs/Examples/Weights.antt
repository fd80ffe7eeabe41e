-- The weight that is left of calls that go on: it falls with each step.
use Rattle.std.specs.Prelude.{◌≡◌, ℕ, ◌+◌, List, [], ◌∷◌, ◌++◌, refl}
use Rattle.std.specs.Option.{option_map_or}
use Rattle.clk_base.specs.declared.event.Entry.{Entry}
use Rattle.clk_model.specs.State.{State}
use Rattle.clk_model.specs.Journal.{replay}
use Rattle.clk_model.specs.Laws.Weight.{weight_left}
use Rattle.clk_model.specs.Examples.Rows.{turns}
use Rattle.clk_model.specs.Examples.Plls.{board_start, start, raised, lowered, two_plls_start, two_plls_get, lower_too_late}

-- the weight that is left after each entry, 0 where no call goes on
abbrev weights_after : State → List Entry → List ℕ
weights_after s [] = []
weights_after s (e ∷ es) = option_map_or (weight_left (replay s (e ∷ []))) (replay s (e ∷ [])).change 0 ∷ weights_after (replay s (e ∷ [])) es

-- after its begin a prepare over one PLL has the weight of a raise, 35, and an end; then 32 polls, a fall and the end are left
pub raised_weights : weights_after (replay board_start start) raised ≡ 36 ∷ 34 ∷ 2 ∷ 0 ∷ []
unfolding turns weight_left
raised_weights = refl

pub lowered_weights : weights_after (replay board_start (start ++ raised)) lowered ≡ 3 ∷ 1 ∷ 0 ∷ []
unfolding turns weight_left
lowered_weights = refl

-- over two PLLs the raise weighs 69, and 34 less when it comes again
pub lower_too_late_weights : weights_after (replay two_plls_start two_plls_get) lower_too_late ≡
    70 ∷ (35 + 32 + 1 + 1) ∷ (35 + 1 + 1) ∷ (32 + 2 + 1)
    ∷ 34 ∷ 33 ∷ 32 ∷ 31 ∷ 30 ∷ 29 ∷ 28 ∷ 27 ∷ 26 ∷ 25 ∷ 24 ∷ 23 ∷ 22 ∷ 21 ∷ 20 ∷ 19 ∷ 18 ∷ 17 ∷ 16 ∷ 15 ∷ 14 ∷ 13 ∷ 12 ∷ 11 ∷ 10 ∷ 9 ∷ 8 ∷ 7 ∷ 6 ∷ 5 ∷ 4
    ∷ 3 ∷ 2 ∷ 1 ∷ 0 ∷ []
unfolding turns weight_left
lower_too_late_weights = refl
