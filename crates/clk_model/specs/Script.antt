-- The scripts of the calls that go on, and what they weigh.
use Rattle.std.specs.Prelude.{ℕ, zero, suc, ◌+◌, ◌*◌, List, [], ◌∷◌, ◌++◌, Bool, true, false, not, ◌&&◌, ◌==◌, Option, Some, None, filter, map, if◌then◌else◌, flat_map, length, sum_by, find}
use Rattle.std.specs.List.{list_any}
use Rattle.std.specs.Option.{option_map_or}
use Rattle.clk_base.specs.declared.call.Micro.{Micro}
use Rattle.clk_base.specs.declared.call.Micro.TheVariants as micro
use Rattle.clk_base.specs.Description.{Description, kind_of, parents_of}
use Rattle.clk_base.specs.Levels.{depth}
use Rattle.clk_base.specs.Flags.{ignores_unused, is_critical, runs_parent, runs_to_set}
use Rattle.reg_bank.specs.Registers.{Registers}
use Rattle.kind_math.specs.Choices.{greatest_of}
use Rattle.clk_model.specs.declared.row.ClockRow.{ClockRow}
use Rattle.clk_model.specs.Lists.{is_in, count_from, without_one}
use Rattle.clk_base.specs.Fields.{gate_of, power_of}
use Rattle.clk_model.specs.Kinds.{is_pll, is_open, is_powered, has_setting}
use Rattle.clk_model.specs.State.{State, ChainStep, link_in}
use Rattle.clk_model.specs.Tree.{path, children, roots, orphans, link_given}
use Rattle.clk_model.specs.Holders.{active, prepared}
use Rattle.clk_model.specs.Round.{wiring}
use Rattle.clk_model.specs.Chain.{clock_id, moves, outcome, place_of}
use Rattle.clk_model.specs.Walk.{walk, changing, rates_in}
use Rattle.clk_model.specs.Notices.{Rates, notifiers_of, is_veto, pre_list, abort_list}

-- ---- PLLs on a path

-- the PLLs of a path that nothing keeps prepared
abbrev pub unprepared_plls : State → List ℕ → List ℕ
unprepared_plls s cs = filter (λ c. is_pll (kind_of s.defs c) && not (prepared s c)) cs

-- whether a PLL is powered
abbrev pub runs : Description → Registers → ℕ → Bool
runs defs regs c = option_map_or (is_powered regs) (power_of (kind_of defs c)) false

-- ---- a change of rates or of a parent

-- what a plan comes to: its steps, whether a notice vetoes, and the clocks and rates that it changes
pub record Planned : Type 0 where
  pub steps : List Micro
  pub vetoed : Bool
  pub changing : List ℕ
  pub outcome : List ℕ

-- the steps that keep a clock running, and that let it go
abbrev pub feed : ℕ → List Micro
feed x = micro.Raise (clock_id x) ∷ micro.HoldPrepare (clock_id x) ∷ micro.HoldEnable (clock_id x) ∷ []

abbrev pub unfeed : ℕ → List Micro
unfeed x = micro.DropEnable (clock_id x) ∷ micro.DropPrepare (clock_id x) ∷ micro.Lower (clock_id x) ∷ []

-- the steps that move a clock: a mux that isn't prepared is only relinked, or is kept running with its new parent meanwhile, if
-- its parent runs for it; under a prepared one the new parent runs before and the old one after
abbrev pub move : Description → List ClockRow → (ℕ → Bool) → ℕ → ℕ → List Micro
move defs clocks prepared c p =
    if prepared c
    then micro.Raise (clock_id p) ∷ micro.HoldPrepare (clock_id p) ∷ micro.HoldEnable (clock_id p) ∷ micro.HoldEnable (clock_id c)
    ∷ micro.Relink (clock_id c) (clock_id p) ∷ micro.WriteMux (clock_id c) (place_of defs c p) ∷ micro.DropEnable (clock_id c)
    ∷ option_map_or unfeed (link_in clocks c) []
    else if runs_parent defs c
    then micro.Raise (clock_id c) ∷ micro.Raise (clock_id p) ∷ micro.HoldPrepare (clock_id c) ∷ micro.HoldEnable (clock_id c)
    ∷ micro.HoldPrepare (clock_id p) ∷ micro.HoldEnable (clock_id p)
    ∷ micro.Relink (clock_id c) (clock_id p) ∷ micro.WriteMux (clock_id c) (place_of defs c p)
    ∷ option_map_or unfeed (link_in clocks c) [] ++ unfeed c
    else micro.Relink (clock_id c) (clock_id p) ∷ micro.WriteMux (clock_id c) (place_of defs c p) ∷ []

-- the move of a clock, where the chain moves it
abbrev pub move_of : Description → List ClockRow → (ℕ → Bool) → List ChainStep → ℕ → List Micro
move_of defs clocks prepared ks c =
    flat_map (λ k. option_map_or (move defs clocks prepared c) k.parent []) (filter (λ k. (k.clock == c) && moves clocks k) ks)

-- the clock that runs while a clock of the chain is set: the clock itself, or its parent
abbrev pub runs_for : Description → List ClockRow → List ChainStep → ℕ → Option ℕ
runs_for defs clocks ks c =
    if list_any (λ k. k.clock == c) ks && has_setting (kind_of defs c)
    then (if runs_to_set defs c then Some c else if runs_parent defs c then link_in clocks c else None)
    else None

-- a step within what keeps a clock running for it, if there is one
abbrev pub fed_step : Option ℕ → Micro → List Micro
fed_step o m = option_map_or (λ x. feed x ++ m ∷ unfeed x) o (m ∷ [])

-- the visit of a clock
abbrev pub visit_of : Description → List ClockRow → List ChainStep → ℕ → List Micro
visit_of defs clocks ks c = fed_step (runs_for defs clocks ks c) (micro.Visit (clock_id c))

-- the script of a plan: all notices before it; then where one vetoes the notices that it is called off, else each clock of
-- the walk with its move; and the end
unfoldable pub planned : State → List ChainStep → List Micro → Planned
planned s ks settles =
    let w = wiring s in
    let rates : Rates = record { before = rates_in w; outcome = rates_in (outcome ks w) } in
    let clocks = changing s.order w ks in
    let notices = pre_list rates s.notifiers clocks in
    let vetoed = list_any is_veto notices in
    record {
      steps = notices
          ++ (if vetoed then abort_list rates s.notifiers clocks
          else flat_map (λ c. move_of s.defs s.clocks (prepared s) ks c ++ visit_of s.defs s.clocks ks c) (walk s.order w ks) ++ settles)
          ++ micro.End ∷ [];
      vetoed = vetoed;
      changing = clocks;
      outcome = rates.outcome;
    }

-- ---- registration

-- the orphans whose parent is there
abbrev pub adoptable : State → List ℕ
adoptable s = filter (λ a. option_map_or (λ p. true) (link_given s.defs s.regs s.clocks a) false) (orphans s.defs s.order s.clocks)

-- whether none of these clocks but a itself is on the path of a's new parent
abbrev pub is_next : State → List ℕ → ℕ → Bool
is_next s left a =
    option_map_or (λ p. not (list_any (λ b. is_in b (path s.clocks p)) (without_one a left))) (link_given s.defs s.regs s.clocks a) false

-- the order of adoptions: always the newest attached of those left that has no other of them above its new parent
abbrev pub adoption_order : ℕ → State → List ℕ → List ℕ
adoption_order zero s left = []
adoption_order (suc n) s left = option_map_or (λ a. a ∷ adoption_order n s (without_one a left)) (find (is_next s left) left) []

-- the steps that adopt an orphan
abbrev pub adoption : State → ℕ → List Micro
adoption s a =
    option_map_or (λ p.
    if prepared s a
    then micro.Raise (clock_id p) ∷ micro.HoldPrepare (clock_id p) ∷ micro.HoldEnable (clock_id p) ∷ micro.HoldEnable (clock_id a)
    ∷ micro.Relink (clock_id a) (clock_id p) ∷ micro.DropEnable (clock_id a) ∷ micro.Settle (clock_id a) ∷ []
    else micro.Relink (clock_id a) (clock_id p) ∷ micro.Settle (clock_id a) ∷ [])
    (link_given s.defs s.regs s.clocks a) []

-- the script of a registration, where s is the state with the clock registered
unfoldable pub probe_script : State → ℕ → List Micro
probe_script s c =
    (if is_critical s.defs c then micro.Raise (clock_id c) ∷ [] else [])
    ++ micro.Register (clock_id c) ∷ []
    ++ flat_map (adoption s) (adoption_order (length (adoptable s)) s (adoptable s))
    ++ micro.End ∷ []

-- ---- the unused sweep

-- a clock behind all below it
abbrev pub tree_within : (ℕ → List ℕ) → ℕ → ℕ → List ℕ
tree_within kids zero c = []
tree_within kids (suc levels) c = flat_map (tree_within kids levels) (kids c) ++ c ∷ []

-- the trees of the roots and then of the orphans, children before their parent
unfoldable pub sweep_order : State → List ℕ
sweep_order s =
    flat_map (tree_within (children s.order s.clocks) depth) (roots s.defs s.order ++ orphans s.defs s.order s.clocks)

-- whether a gate is open
abbrev pub lets_through : Description → Registers → ℕ → Bool
lets_through defs regs c = option_map_or (is_open regs) (gate_of (kind_of defs c)) false

-- a gate is closed; its parent runs meanwhile, if it runs for it
abbrev pub close_of : Description → List ClockRow → ℕ → List Micro
close_of defs clocks c = fed_step (if runs_parent defs c then link_in clocks c else None) (micro.Close (clock_id c))

-- the gates that are open without need, then the PLLs that are powered without need
unfoldable pub sweep_script : State → List Micro
sweep_script s =
    flat_map (close_of s.defs s.clocks) (filter (λ c. not (ignores_unused s.defs c) && lets_through s.defs s.regs c && not (active s c)) (sweep_order s))
    ++ map (λ c. micro.Unpower (clock_id c)) (filter (λ c. not (ignores_unused s.defs c) && runs s.defs s.regs c && not (prepared s c)) (sweep_order s))
    ++ micro.End ∷ []

-- ---- weights

-- the greatest number of PLLs on a line of possible parents from a clock on
abbrev pub plls_within : Description → ℕ → ℕ → ℕ
plls_within defs zero c = 0
plls_within defs (suc levels) c =
    (if is_pll (kind_of defs c) then 1 else 0) + greatest_of (map (plls_within defs levels) (parents_of defs c))

-- the greatest number of PLLs on one path of possible parents
unfoldable pub plls : Description → ℕ
plls defs = greatest_of (map (plls_within defs depth) (count_from 0 (length defs)))

-- what a step weighs: how many steps it may become
abbrev pub weight : State → Micro → ℕ
weight s (micro.Raise x) = 34 * plls s.defs + 1
weight s (micro.Lower x) = plls s.defs + 1
weight s (micro.Visit c) = 1 + length (notifiers_of s.notifiers c.0)
weight s _ = 1

-- whether a step raises PLLs
abbrev pub is_raise : Micro → Bool
is_raise (micro.Raise x) = true
is_raise _ = false

-- the notices that a timeout of a script with a raise may bring
abbrev pub notices_of : State → List ℕ → ℕ
notices_of s cs = sum_by (λ c. length (notifiers_of s.notifiers c)) cs
