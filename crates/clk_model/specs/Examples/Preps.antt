-- The prepare tier's part of a state: a call that a notice vetoes leaves it as it was, though another driver's gate opened
-- meanwhile; and it has the holds and the steps of the prepare tier alone.
use Rattle.std.specs.Prelude.{◌≡◌, [], ◌∷◌, ◌++◌, false, Some, map, length, option_map, take, refl}
use Rattle.clk_model.specs.Lists.{present}
use Rattle.clk_model.specs.State.{State}
use Rattle.clk_model.specs.Journal.{replay}
use Rattle.clk_model.specs.Prep.{masked, prep}
use Rattle.clk_model.specs.Examples.Rows.{turns}
use Rattle.clk_model.specs.Examples.Notices.{vetoed_start, one_veto}
use Rattle.clk_model.specs.Examples.Migrations.{migration_start, before_move, move}
use Rattle.clk_model.specs.Examples.Sweeps.{unused_start, sweep}

-- the gate's bit is set, but it is no part of the prepare tier
pub veto_leaves_fields : (prep (replay vetoed_start one_veto)).regs ≡ 0 ∷ 0 ∷ []
unfolding turns prep masked
veto_leaves_fields = refl

-- one handle has an enable, but it is no part of the prepare tier; its prepare is
pub enables_after_veto : map (λ h. h.enables) (present (replay vetoed_start one_veto).handles) ≡ 1 ∷ 0 ∷ 0 ∷ 0 ∷ []
unfolding turns
enables_after_veto = refl

pub prep_has_no_enables : map (λ h. h.enables) (present (prep (replay vetoed_start one_veto)).handles) ≡ 0 ∷ 0 ∷ 0 ∷ 0 ∷ []
unfolding turns prep
prep_has_no_enables = refl

pub prep_has_prepares : map (λ h. h.prepares) (present (prep (replay vetoed_start one_veto)).handles) ≡ 1 ∷ 0 ∷ 0 ∷ 0 ∷ []
unfolding turns prep
prep_has_prepares = refl

-- each clock's last request is the rate that it was registered with
pub veto_leaves_requests : map (λ row. row.last_request) (prep (replay vetoed_start one_veto)).clocks ≡ 100 ∷ 100 ∷ 50 ∷ 25 ∷ 100 ∷ []
unfolding turns prep
veto_leaves_requests = refl

-- ---- in the middle of a move

-- the move up to where it holds the mux and its new parent, before it relinks
abbrev held : State
held = replay migration_start (before_move ++ take 8 move)

pub enables_held : held.enable_holds ≡ 4 ∷ 3 ∷ []
unfolding turns
enables_held = refl

pub prep_has_no_enable_holds : (prep held).enable_holds ≡ []
unfolding turns prep
prep_has_no_enable_holds = refl

pub prep_has_prepare_holds : (prep held).prepare_holds ≡ 3 ∷ []
unfolding turns prep
prep_has_prepare_holds = refl

pub prep_has_what_is_left : option_map (λ k. length k.left) (prep held).change ≡ Some 9
unfolding turns prep
prep_has_what_is_left = refl

-- ---- in the middle of a sweep, which looks at what is enabled

abbrev sweeping : State
sweeping = replay (unused_start false) (take 7 sweep)

pub sweep_left : option_map (λ k. length k.left) sweeping.change ≡ Some 2
unfolding turns
sweep_left = refl

pub prep_has_nothing_left_of_a_sweep : option_map (λ k. k.left) (prep sweeping).change ≡ Some []
unfolding turns prep
prep_has_nothing_left_of_a_sweep = refl
