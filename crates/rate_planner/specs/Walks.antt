-- The rates that a plan gives the clocks of its walk.
use Rattle.std.specs.Prelude.{◌≡◌, ℕ, ◌==◌, ◌++◌, List, [], ◌∷◌, true, not, Bool, if◌then◌else◌, filter, map, flat_map, Option, Some, IfSome}
use Rattle.std.specs.List.{list_any}
use Rattle.clk_base.specs.Description.{Description, kind_of}
use Rattle.reg_bank.specs.Registers.{Registers}
use Rattle.clk_model.specs.declared.row.ClockRow.{ClockRow}
use Rattle.clk_model.specs.Lists.{is_in}
use Rattle.clk_model.specs.Rate.{rate_over}
use Rattle.clk_model.specs.Round.{Wiring, rate_in}
use Rattle.clk_model.specs.Chain.{moves, outcome}
use Rattle.clk_model.specs.State.{ChainStep}
use Rattle.clk_model.specs.Walk.{below_within, kids_after, movers_to, moves_away, walk}
use Rattle.clk_tree.specs.Plans.{ClockRate}
use Rattle.clk_tree.specs.TreeState.{TreeState}

-- a clock with its rate
abbrev pub at_rate : (ℕ → ℕ) → ℕ → ClockRate
at_rate rated c = record { clock = c; rate = rated c }

-- the clocks of a plan's walk with their rates in the outcome
abbrev pub walked_rates : List ℕ → Wiring → List ChainStep → List ClockRate
walked_rates order w ks = map (at_rate (rate_in (outcome ks w))) (walk order w ks)

-- whether a chain moves some clock to another parent
abbrev pub has_moves : List ClockRow → List ChainStep → Bool
has_moves clocks ks = list_any (moves clocks) ks

-- all that will be below a clock, within so many levels
abbrev pub below_after : List ℕ → List ClockRow → List ChainStep → ℕ → ℕ → List ℕ
below_after order clocks ks levels c = flat_map (below_within (kids_after order clocks ks) levels) (kids_after order clocks ks c)

-- whether a child stays with its parent
abbrev pub stays : List ClockRow → List ChainStep → ℕ → Bool
stays clocks ks c = not (moves_away clocks ks c)

-- all that will be below those of these children that stay, within so many levels
abbrev pub stay_after : TreeState → List ChainStep → ℕ → List ℕ → List ℕ
stay_after t ks levels cs = flat_map (below_within (kids_after t.order t.clocks ks) levels) (filter (stays t.clocks ks) cs)

-- and all that will be below the clocks that these steps of a chain move to a clock
abbrev pub move_after : TreeState → List ChainStep → ℕ → List ChainStep → ℕ → List ℕ
move_after t ks levels ls c = flat_map (below_within (kids_after t.order t.clocks ks) levels) (movers_to t.clocks ls c)

-- the rate of a clock below a parent of this rate: of a clock of the chain the one that comes out, of another that of its kind
abbrev pub kid_rate : Description → Registers → List ChainStep → List ℕ → ℕ → ℕ → ℕ
kid_rate defs regs [] rates c parent = rate_over (kind_of defs c) regs parent
kid_rate defs regs (k ∷ ks) [] c parent = rate_over (kind_of defs c) regs parent
kid_rate defs regs (k ∷ ks) (r ∷ rates) c parent = if k.clock == c then r else kid_rate defs regs ks rates c parent

-- the rate of each child after the plan is that over its parent's
abbrev pub AreWalked : Description → Registers → TreeState → List ChainStep → List ℕ → (ℕ → ℕ) → Type 0
AreWalked defs regs t ks rates rated =
    (p d : ℕ) → is_in d (kids_after t.order t.clocks ks p) ≡ true → rated d ≡ kid_rate defs regs ks rates d (rated p)

-- to some rates those of these clocks are added, if a clock has this rate
abbrev pub Walks : Option Registers → Description → TreeState → List ChainStep → List ℕ → ℕ → ℕ → List ClockRate → List ClockRate → List ℕ → Type 0
Walks told defs t ks rates clock rate old new added =
    IfSome told (λ regs. (rated : ℕ → ℕ) → AreWalked defs regs t ks rates rated → rated clock ≡ rate → new ≡ old ++ map (at_rate rated) added)

-- the chain of a change of parent: the clock alone with its new parent, and the rate that comes out of that
abbrev pub parent_chain : Wiring → ℕ → ℕ → List ChainStep
parent_chain w c p =
    let bare : List ChainStep = record { clock = c; rate = 0; parent = Some p } ∷ [] in
    record { clock = c; rate = rate_in (outcome bare w) c; parent = Some p } ∷ []
