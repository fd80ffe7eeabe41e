-- What a planned chain is, and what comes out of it: the law of plans.
use Rattle.std.specs.Prelude.{◌≡◌, ◌≢◌, ◌⊎◌, ℕ, ◌+◌, ◌<◌, ◌≤◌, List, [], ◌∷◌, true, false, Some, None, map, slice_get, option_map, IfSome, length}
use Rattle.std.specs.List.{AllByRecursion}
use Rattle.clk_base.specs.Description.{Description, kind_of, parents_of}
use Rattle.clk_base.specs.Fields.{Field, GateBit, PowerBit, field_of, fields_of, gate_of, power_of}
use Rattle.clk_base.specs.Valid.{IsValid}
use Rattle.reg_bank.specs.Registers.{field}
use Rattle.clk_model.specs.Lists.{is_in, none_twice}
use Rattle.clk_model.specs.Fed.{feeds}
use Rattle.clk_model.specs.Kinds.{is_open, is_powered}
use Rattle.clk_model.specs.State.{ChainStep, row_of, link_in}
use Rattle.clk_model.specs.Round.{Wiring, View, rate_in}
use Rattle.clk_model.specs.Chain.{clock_id, moves, chain, outcome}
use Rattle.clk_model.specs.Wired.{LinesEnd, LinksArePossible, IsWired}

-- the clocks of a chain, from the bottom to the top
abbrev pub clocks_in : List ChainStep → List ℕ
clocks_in ks = map (λ k. k.clock) ks

-- a planned parent is a possible parent, and a clock that is to have none has none
pub record HasParent (w : Wiring) (k : ChainStep) : Type 0 where
  pub possible : (p : ℕ) → k.parent ≡ Some p → is_in p (parents_of w.defs k.clock) ≡ true
  pub none : k.parent ≡ None → link_in w.clocks k.clock ≡ None

-- the planned parent of each clock of a chain but the last is the next clock of the chain
abbrev pub LeadsUp : List ChainStep → Type 0
LeadsUp [] = Unit {0}
LeadsUp (k ∷ []) = Unit {0}
LeadsUp (k ∷ l ∷ ks) = (k.parent ≡ Some l.clock) × LeadsUp (l ∷ ks)

-- the rate of a clock of the chain in the outcome lies between its boundaries
pub record KeepsBoundaries (w : Wiring) (view : View) (ks : List ChainStep) (k : ChainStep) : Type 0 where
  pub low : view.low k.clock ≤ rate_in (outcome ks w) k.clock
  pub high : rate_in (outcome ks w) k.clock ≤ view.high k.clock

-- a chain that begins at a clock, leads upwards over possible parents, and has no clock twice
pub record LeadsFrom (w : Wiring) (c : ℕ) (ks : List ChainStep) : Type 0 where
  pub first : option_map (λ k. k.clock) (slice_get ks 0) ≡ Some c
  pub leads : LeadsUp ks
  pub parents : AllByRecursion (HasParent w) ks
  pub once : none_twice (clocks_in ks) ≡ true

-- a planned chain leads upwards from its clock, has no clock twice, and keeps the boundaries
pub record IsPlan (w : Wiring) (view : View) (c : ℕ) (ks : List ChainStep) : Type 0 where
  pub leads : LeadsFrom w c ks
  pub boundaries : AllByRecursion (KeepsBoundaries w view ks) ks

-- each planned chain is so, where lines of possible parents end and links are possible
abbrev pub ChainsLead : Type 0
ChainsLead = (w : Wiring) (view : View) (c x : ℕ) (ks : List ChainStep) → LinesEnd w.defs → LinksArePossible w.defs w.clocks
    → chain w view c x ≡ Some ks → IsPlan w view c ks

-- ---- the outcome

-- two fields lie apart: in different words, or one above the other
abbrev pub LieApart : Field → Field → Type 0
LieApart f g = (f.word ≢ g.word) ⊎ ((f.shift + f.width ≤ g.shift) ⊎ (g.shift + g.width ≤ f.shift))

-- a field lies apart from that of each clock of a chain by which a clock selects, divides or multiplies
abbrev pub LiesOutside : Description → List ChainStep → Field → Type 0
LiesOutside defs ks f = AllByRecursion (λ k. IfSome (field_of (kind_of defs k.clock)) (LieApart f)) ks

-- a field reads the same in two trees
abbrev pub ReadsSame : Wiring → Wiring → Field → Type 0
ReadsSame v w f = field v.regs f.word f.shift f.width ≡ field w.regs f.word f.shift f.width

-- a tree is another, but for the links and the fields of the clocks of a chain
pub record DiffersIn (ks : List ChainStep) (w v : Wiring) : Type 0 where
  pub defs : v.defs ≡ w.defs
  pub words : length v.regs ≡ length w.regs
  pub size : length v.clocks ≡ length w.clocks
  -- a clock outside of the chain has its row as before
  pub others : (c : ℕ) → is_in c (clocks_in ks) ≡ false → row_of v.clocks c ≡ row_of w.clocks c
  -- a clock of the chain has its planned parent, and the rest of its row as before
  pub links : AllByRecursion (λ k. k.clock < length w.clocks → row_of v.clocks k.clock ≡ record (row_of w.clocks k.clock) { link = option_map clock_id k.parent }) ks
  -- what lies apart from the fields of the chain reads the same
  pub fields : (f : Field) → LiesOutside w.defs ks f → ReadsSame v w f

-- the fields of other clocks, all gates and all power bits read the same in two trees
pub record LeavesFields (ks : List ChainStep) (w v : Wiring) : Type 0 where
  pub others : (c j : ℕ) (f : Field) → is_in c (clocks_in ks) ≡ false → slice_get (fields_of (kind_of w.defs c)) j ≡ Some f → ReadsSame v w f
  pub gates : (c : ℕ) (gate : GateBit) → gate_of (kind_of w.defs c) ≡ Some gate → is_open v.regs gate ≡ is_open w.regs gate
  pub powers : (c : ℕ) (power : PowerBit) → power_of (kind_of w.defs c) ≡ Some power → is_powered v.regs power ≡ is_powered w.regs power

-- so it is with the outcome of a chain that leads upwards, over a valid description
abbrev pub OutcomesKeep : Type 0
OutcomesKeep = (words : ℕ) (w : Wiring) (c : ℕ) (ks : List ChainStep) → IsValid words w.defs → LeadsFrom w c ks
    → DiffersIn ks w (outcome ks w) × LeavesFields ks w (outcome ks w)

-- each clock that a chain moves is fed by its planned parent in the outcome
abbrev pub MovedAreFed : Type 0
MovedAreFed = (w : Wiring) (c : ℕ) (ks : List ChainStep) → IsWired (length w.regs) w → LeadsFrom w c ks
    → AllByRecursion (λ k. moves w.clocks k ≡ true → feeds w.defs (outcome ks w).regs (outcome ks w).clocks k.clock ≡ k.parent) ks
