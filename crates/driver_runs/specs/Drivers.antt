-- What a journal has of several drivers: the calls of each, and of nobody else.
use Rattle.std.specs.Prelude.{ℕ, ◌+◌, ◌==◌, List, [], ◌∷◌, Bool, not, nat_lt}
use Rattle.std.specs.List.{list_all}
use Rattle.clk_base.specs.declared.command.Answer.{Answer}
use Rattle.clk_base.specs.declared.command.Command.{Command}
use Rattle.clk_base.specs.declared.event.Entry.{Entry}
use Rattle.clk_model.specs.Journal.{calls, MakesOneCallAtATime}
use Rattle.clk_model.specs.Follows.{Follows}
use Rattle.clk_model.specs.Ordered.{after_boot}

-- drivers, numbered from this one on, have their calls once, in their order, one after the other, and these answers
abbrev pub FollowAll : ℕ → List (List Command) → List (List Answer) → List Entry → Type 0
FollowAll d [] [] journal = Unit {0}
FollowAll d [] (own ∷ answers) journal = ⊥
FollowAll d (commands ∷ scripts) [] journal = ⊥
FollowAll d (commands ∷ scripts) (own ∷ answers) journal =
    Follows commands (calls journal d) own × MakesOneCallAtATime journal d × FollowAll (d + 1) scripts answers journal

-- each entry is of one of so many drivers
abbrev pub are_among : ℕ → List Entry → Bool
are_among drivers journal = list_all (λ e. nat_lt e.driver drivers) journal

-- boot's entries stand before all others
abbrev pub boot_first : List Entry → Bool
boot_first journal = list_all (λ e. not (e.driver == 0)) (after_boot journal)
