-- Laws on states that are alike: the prepare tier's part of both is the same.
use Rattle.std.proofs.Common.{◌≡◌, ℕ, ◌&&◌, Bool, true, false, List, [], ◌∷◌, Option, Some, None, refl, sym, ap, ◌∙◌, arith, length, nat_eq, set}
use Rattle.std.specs.Prelude.{if◌then◌else◌, option_map}
use Rattle.std.specs.List.{list_any}
use Rattle.std.specs.Option.{option_map_or}
use Rattle.clk_base.specs.declared.clock.Kind.{Kind}
use Rattle.clk_base.specs.declared.clock.Kind.TheVariants.{FixedRate, Factor, Gate, Mux, Divider, Pll}
use Rattle.clk_base.specs.Description.{Description, kind_of}
use Rattle.clk_base.specs.Fields.{GateBit, PowerBit, bit_field, gate_of, power_of}
use Rattle.clk_base.specs.Valid.{IsValid}
use Rattle.clk_base.proofs.Valid.{field-field, gate-field, power-field}
use Rattle.reg_bank.specs.Registers.{Registers, is_set}
use Rattle.clk_model.specs.declared.row.ClockRow.{ClockRow}
use Rattle.clk_model.specs.declared.row.HandleRow.{HandleRow}
use Rattle.clk_model.specs.Lists.{count_from}
use Rattle.clk_model.specs.Kinds.{with_gate}
use Rattle.clk_model.specs.State.{State, NotifierRow, Change}
use Rattle.clk_model.specs.Gates.{gates_moved}
use Rattle.clk_model.specs.Script.{runs}
use Rattle.clk_model.specs.Begin.{put_handle}
use Rattle.clk_model.specs.Prep.{masked, without_enables, is_sweep, change_prep, prep}
use Rattle.clk_model.proofs.Members.{is_in-count_from, none_in}
use Rattle.clk_model.proofs.GateLaws.{length-gates_moved, is_set-gates_moved_other, test_at}
use Rattle.clk_model.proofs.ApartLaws.{fielded_lt}
use Rattle.clk_model.proofs.BareHandleLaws.{bare, set_bare}
use Rattle.clk_model.proofs.PlannedSameLaws.{Rest, beside}
use Rattle.clk_model.proofs.PrepLaws.{is_gate_at, masked_same}
use Rattle.clk_model.proofs.PrepToldLaws.{same_field, same_words, off_gates}
use Rattle.clk_model.proofs.SameSettingLaws.{SameFields}
use Rattle.clk_model.proofs.TimeoutStepLaws.{no_gate}

-- ---- states that are alike

-- two states are alike but for gates, enables, enable holds, what is left of a sweep, credits spent and steps made
pub record Alike (u v : State) : Type 0 where
  pub defs : u.defs ≡ v.defs
  pub regs : masked v.defs u.regs ≡ masked v.defs v.regs
  pub clocks : u.clocks ≡ v.clocks
  pub order : u.order ≡ v.order
  pub handles : bare u.handles ≡ bare v.handles
  pub notifiers : u.notifiers ≡ v.notifiers
  pub prepare_holds : u.prepare_holds ≡ v.prepare_holds
  pub change : option_map change_prep u.change ≡ option_map change_prep v.change
  pub credits : u.credits ≡ v.credits
  pub ignore_unused : u.ignore_unused ≡ v.ignore_unused

abbrev built : Description → Registers → List ClockRow → List ℕ → List (Option HandleRow) → List NotifierRow → List ℕ → Option Change → ℕ → Bool → State
built defs regs clocks order handles notifiers holds change credits ignore_unused = record {
  defs = defs;
  regs = regs;
  clocks = clocks;
  order = order;
  handles = handles;
  notifiers = notifiers;
  prepare_holds = holds;
  enable_holds = [];
  change = change;
  credits = credits;
  spent = 0;
  steps = 0;
  ignore_unused = ignore_unused;
}

-- then the prepare tier's part of both is the same
pub alike_prep : (u v : State) → Alike u v → prep u ≡ prep v
unfolding prep
alike_prep u v a =
    ap (λ (ds : Description). built ds (masked ds u.regs) u.clocks u.order (bare u.handles) u.notifiers u.prepare_holds (option_map change_prep u.change) u.credits u.ignore_unused) a.defs
    ∙ ap (λ (rs : Registers). built v.defs rs u.clocks u.order (bare u.handles) u.notifiers u.prepare_holds (option_map change_prep u.change) u.credits u.ignore_unused) a.regs
    ∙ ap (λ (cs : List ClockRow). built v.defs (masked v.defs v.regs) cs u.order (bare u.handles) u.notifiers u.prepare_holds (option_map change_prep u.change) u.credits u.ignore_unused) a.clocks
    ∙ ap (λ (o : List ℕ). built v.defs (masked v.defs v.regs) v.clocks o (bare u.handles) u.notifiers u.prepare_holds (option_map change_prep u.change) u.credits u.ignore_unused) a.order
    ∙ ap (λ (hs : List (Option HandleRow)). built v.defs (masked v.defs v.regs) v.clocks v.order hs u.notifiers u.prepare_holds (option_map change_prep u.change) u.credits u.ignore_unused) a.handles
    ∙ ap (λ (ns : List NotifierRow). built v.defs (masked v.defs v.regs) v.clocks v.order (bare v.handles) ns u.prepare_holds (option_map change_prep u.change) u.credits u.ignore_unused) a.notifiers
    ∙ ap (λ (hs : List ℕ). built v.defs (masked v.defs v.regs) v.clocks v.order (bare v.handles) v.notifiers hs (option_map change_prep u.change) u.credits u.ignore_unused) a.prepare_holds
    ∙ ap (λ (k : Option Change). built v.defs (masked v.defs v.regs) v.clocks v.order (bare v.handles) v.notifiers v.prepare_holds k u.credits u.ignore_unused) a.change
    ∙ ap (λ (n : ℕ). built v.defs (masked v.defs v.regs) v.clocks v.order (bare v.handles) v.notifiers v.prepare_holds (option_map change_prep v.change) n u.ignore_unused) a.credits
    ∙ ap (λ (b : Bool). built v.defs (masked v.defs v.regs) v.clocks v.order (bare v.handles) v.notifiers v.prepare_holds (option_map change_prep v.change) v.credits b) a.ignore_unused

-- what two states have to share, whose rest may differ: a valid description, registers without their gates, and handles without enables
pub record LooksAlike (words : ℕ) (s : State) (new : Registers) (after : List (Option HandleRow)) : Type 0 where
  pub valid : IsValid words s.defs
  pub masks : masked s.defs new ≡ masked s.defs s.regs
  pub handles : bare after ≡ bare s.handles

-- ---- what registers without their gates tell

power_no_gate : (defs : Description) (y : ℕ) (p : PowerBit) → power_of (kind_of defs y) ≡ Some p → gate_of (kind_of defs y) ≡ None
power_no_gate defs y p at = by (kind_of defs y) at where
  by : (kind : Kind) → power_of kind ≡ Some p → gate_of kind ≡ None
  by (FixedRate r) e = absurd cc
  by (Factor mult div) e = refl
  by (Gate word bit set_to_disable) e = absurd cc
  by (Mux word shift width read_only) e = refl
  by (Divider word shift width one_based power_of_two) e = refl
  by (Pll word shift width power_word power_bit least most m) e = refl

-- each field by which a clock selects, divides or multiplies
pub fields_of_masks : (words : ℕ) (defs : Description) (old new : Registers) → IsValid words defs → masked defs new ≡ masked defs old → SameFields defs old new
fields_of_masks words defs old new valid masks = record {
  words = same_words defs new old masks;
  fields = λ c f at. same_field defs new old f (off_gates words defs c 0 f valid (field-field (kind_of defs c) f at) (no_gate defs c f at)) masks;
}

-- and whether a PLL is powered
pub runs_same : (words : ℕ) (defs : Description) (old new : Registers) (y : ℕ) → IsValid words defs → masked defs new ≡ masked defs old → runs defs new y ≡ runs defs old y
unfolding is_set
runs_same words defs old new y valid masks = by (power_of (kind_of defs y)) refl where
  by : (o : Option PowerBit) → power_of (kind_of defs y) ≡ o → option_map_or (λ p. is_set new p.word p.bit) o false ≡ option_map_or (λ p. is_set old p.word p.bit) o false
  by None at = refl
  by (Some p) at =
      ap (λ (n : ℕ). nat_eq n 1)
      (same_field defs new old (bit_field p.word p.bit) (off_gates words defs y 1 (bit_field p.word p.bit) valid (power-field (kind_of defs y) p at) (power_no_gate defs y p at)) masks)

-- a gate that is closed is no part of them
pub masked_closed : (defs : Description) (regs : Registers) (c : ℕ)
    → masked defs (option_map_or (λ gate. with_gate regs gate false) (gate_of (kind_of defs c)) regs) ≡ masked defs regs
masked_closed defs regs c =
    masked_same defs (gates_moved defs (λ a. true) (λ a. false) (c ∷ []) regs) regs (length-gates_moved defs (λ a. true) (λ a. false) (c ∷ []) regs)
    (λ word bit none. is_set-gates_moved_other defs (λ a. true) (λ a. false) (c ∷ []) regs word bit (λ d gate m at w b. absurd (no_gate_here word bit none d gate at w b))) where
      no_gate_here : (word bit : ℕ) → list_any (is_gate_at defs word bit) (count_from 0 (length defs)) ≡ false
          → (d : ℕ) (gate : GateBit) → gate_of (kind_of defs d) ≡ Some gate → gate.word ≡ word → gate.bit ≡ bit → ⊥
      no_gate_here word bit none d gate at w b =
          let less = fielded_lt defs d 0 (bit_field gate.word gate.bit) (gate-field (kind_of defs d) gate at) in
          let off : is_gate_at defs word bit d ≡ false = none_in (is_gate_at defs word bit) (count_from 0 (length defs)) none d (is_in-count_from d 0 (length defs) (omega arith) (omega arith)) in
          let on : is_gate_at defs word bit d ≡ true = ap (λ (o : Option GateBit). option_map_or (λ g. nat_eq g.word word && nat_eq g.bit bit) o false) at ∙ test_at gate word bit w b in
          let no : true ≡ false = sym on ∙ off in
          cc

-- ---- what is left of a state beside the part

-- the enable tier's part of a state, besides registers and handles, and the change in flight
abbrev pub rest_of : State → Rest
rest_of s = record { enable_holds = s.enable_holds; change = s.change; spent = s.spent; steps = s.steps }

pub is_beside : (s t : State) → prep t ≡ prep s → t ≡ beside s t.regs t.handles (rest_of t)
unfolding prep
is_beside s t same =
    ap (λ (a : State). let u : State = record t { defs = a.defs; clocks = a.clocks; order = a.order; notifiers = a.notifiers; prepare_holds = a.prepare_holds; credits = a.credits; ignore_unused = a.ignore_unused } in u) same

pub looks_alike : (words : ℕ) (s t : State) → IsValid words s.defs → prep t ≡ prep s → LooksAlike words s t.regs t.handles
unfolding prep
looks_alike words s t valid same = record {
  valid = valid;
  masks = ap (λ (ds : Description). masked ds t.regs) (sym (ap (λ (u : State). u.defs) same)) ∙ ap (λ (u : State). u.regs) same;
  handles = ap (λ (u : State). u.handles) same;
}

pub same_changes : (s t : State) → prep t ≡ prep s → option_map change_prep t.change ≡ option_map change_prep s.change
unfolding prep
same_changes s t same = ap (λ (u : State). u.change) same

pub inside_change : {a b : Change} → Some a ≡ Some b → a ≡ b
inside_change e = cc

whole : (k : Change) → is_sweep k.call ≡ false → change_prep k ≡ k
whole k other = ap (λ (b : Bool). let l : Change = record k { front = if b then [] else k.front; left = if b then [] else k.left; timed_out = if b then false else k.timed_out } in l) other

-- but for a sweep the change in flight is the same
pub same_change : (s t : State) (k : Change) → prep t ≡ prep s → s.change ≡ Some k → is_sweep k.call ≡ false → t.change ≡ Some k
same_change s t k same at other = by t.change (same_changes s t same ∙ ap (λ (o : Option Change). option_map change_prep o) at) where
  by : (o : Option Change) → option_map change_prep o ≡ Some (change_prep k) → o ≡ Some k
  by None e = absurd cc
  by (Some l) e =
      let one : change_prep l ≡ change_prep k = inside_change e in
      let no_l : is_sweep l.call ≡ false = ap (λ (j : Change). is_sweep j.call) one ∙ other in
      ap (λ (j : Change). Some j) (sym (whole l no_l) ∙ one ∙ whole k other)

-- ---- states that become alike again

-- handles that are the same without enables, in states with the same part
pub prep_handles : (s t : State) (hs hs' : List (Option HandleRow)) → prep t ≡ prep s → bare hs' ≡ bare hs → (let u : State = record t { handles = hs' } in prep u) ≡ (let u : State = record s { handles = hs } in prep u)
unfolding prep
prep_handles s t hs hs' same handles =
    ap (λ (u : State). let v : State = record u { handles = bare hs' } in v) same ∙ ap (λ (ks : List (Option HandleRow)). let v : State = record (prep s) { handles = ks } in v) handles

-- one handle
pub prep_put : (s t : State) (n : ℕ) (o o' : Option HandleRow) → prep t ≡ prep s → bare t.handles ≡ bare s.handles → option_map without_enables o' ≡ option_map without_enables o
    → prep (put_handle t n o') ≡ prep (put_handle s n o)
prep_put s t n o o' same handles one = prep_handles s t (set s.handles n o) (set t.handles n o') same (set_bare s.handles t.handles n o o' handles one)

-- notifiers
pub prep_notifiers : (s t : State) (ns : List NotifierRow) → prep t ≡ prep s → (let u : State = record t { notifiers = ns } in prep u) ≡ (let u : State = record s { notifiers = ns } in prep u)
unfolding prep
prep_notifiers s t ns same = ap (λ (u : State). let v : State = record u { notifiers = ns } in v) same

-- links with an order
pub prep_rows : (s t : State) (cs : List ClockRow) (order : List ℕ) → prep t ≡ prep s → (let u : State = record t { clocks = cs; order = order } in prep u) ≡ (let u : State = record s { clocks = cs; order = order } in prep u)
unfolding prep
prep_rows s t cs order same = ap (λ (u : State). let v : State = record u { clocks = cs; order = order } in v) same

-- a change in flight
pub prep_change : (s t : State) (k l : Change) → prep t ≡ prep s → change_prep l ≡ change_prep k → (let u : State = record t { change = Some l } in prep u) ≡ (let u : State = record s { change = Some k } in prep u)
unfolding prep
prep_change s t k l same one = ap (λ (u : State). let v : State = record u { change = Some (change_prep l) } in v) same ∙ ap (λ (j : Change). let v : State = record (prep s) { change = Some j } in v) one
