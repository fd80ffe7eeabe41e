-- Laws on what is still to be raised or lowered: powering a PLL and moving gates change it as they ought to.
use Rattle.std.proofs.Common.{◌≡◌, ℕ, ◌+◌, ◌<◌, ◌≤◌, Bool, true, false, not, ◌||◌, cond, List, [], ◌∷◌, Option, Some, None, refl, sym, ap, ◌∙◌, inl, inr, arith, length}
use Rattle.std.specs.Prelude.{◌==◌, filter, option_and_then, reverse, slice_get, if◌then◌else◌}
use Rattle.std.specs.Option.{option_map_or}
use Rattle.clk_base.specs.Description.{Description, kind_of}
use Rattle.clk_base.specs.Fields.{Field, PowerBit, bit_field, power_of}
use Rattle.clk_base.specs.Valid.{IsValid}
use Rattle.clk_base.proofs.Valid.{field-field, power-field, power-within}
use Rattle.reg_bank.specs.Registers.{Registers, field, is_set, put_bit}
use Rattle.reg_bank.proofs.BitLaws.{is_set-put_bit_same, is_set-put_bit_other}
use Rattle.clk_model.specs.declared.row.ClockRow.{ClockRow}
use Rattle.clk_model.specs.Lists.{is_in, count_from}
use Rattle.clk_model.specs.Kinds.{mux_field, is_powered, with_power}
use Rattle.clk_model.specs.State.{State, Change, registered}
use Rattle.clk_model.specs.Tree.{path, if_registered, link_given, path_to_be}
use Rattle.clk_model.specs.Holders.{active}
use Rattle.clk_model.specs.Gates.{settled}
use Rattle.clk_model.specs.Script.{runs, unprepared_plls}
use Rattle.clk_model.specs.Step.{on, powered, to_raise, to_lower}
use Rattle.clk_model.proofs.Members.{is_in_head, is_in_cases, is_in-reverse}
use Rattle.clk_model.specs.Laws.Plans.{LieApart}
use Rattle.clk_model.proofs.GateLaws.{at_or_apart}
use Rattle.clk_model.proofs.ApartLaws.{fields_apart, fielded_lt, mux_is_field}
use Rattle.clk_model.proofs.SettingLaws.{bit_same}
use Rattle.clk_model.proofs.OnceLaws.{filter_passes}
use Rattle.clk_model.proofs.PllLaws.{at_place, length-filter-weaker}
use Rattle.clk_model.proofs.SupplyLaws.{field-put_off, field-gates_moved, mux_off_gates, power_off_gates, selected_same}
use Rattle.clk_model.proofs.OnceLaws.{is_in-filter}

-- ---- filters

-- filters by tests that agree are the same
pub filter-agree : (p q : ℕ → Bool) (xs : List ℕ) → ((x : ℕ) → p x ≡ q x) → filter p xs ≡ filter q xs
filter-agree p q [] same = refl
filter-agree p q (x ∷ xs) same =
    ap (λ (t : Bool). cond t (x ∷ filter p xs) (filter p xs)) (same x) ∙ ap (λ (ys : List ℕ). cond (q x) (x ∷ ys) ys) (filter-agree p q xs same)

-- a filter that drops one of the list's numbers leaves fewer
pub filter_drops : (p q : ℕ → Bool) (z : ℕ) (xs : List ℕ) → ((x : ℕ) → q x ≡ true → p x ≡ true) → p z ≡ true → q z ≡ false → is_in z xs ≡ true
    → length (filter q xs) + 1 ≤ length (filter p xs)
filter_drops p q z [] weaker pass fail m = absurd cc
filter_drops p q z (x ∷ xs) weaker pass fail m =
    elim (is_in_cases z x xs m) [
      | inl same ↦ here (p x) (q x) (ap p same ∙ pass) (ap q same ∙ fail)
      | inr later ↦ there (p x) (q x) (weaker x) (filter_drops p q z xs weaker pass fail later)
    ] where
      here : (t u : Bool) → t ≡ true → u ≡ false → length (cond u (x ∷ filter q xs) (filter q xs)) + 1 ≤ length (cond t (x ∷ filter p xs) (filter p xs))
      here true false e f = let rest = length-filter-weaker q p xs weaker in omega arith
      here true true e f = absurd cc
      here false u e f = absurd cc

      there : (t u : Bool) → (u ≡ true → t ≡ true) → length (filter q xs) + 1 ≤ length (filter p xs)
          → length (cond u (x ∷ filter q xs) (filter q xs)) + 1 ≤ length (cond t (x ∷ filter p xs) (filter p xs))
      there true true w rest = omega arith
      there true false w rest = omega arith
      there false true w rest = let no : false ≡ true = w refl in absurd cc
      there false false w rest = omega arith

-- ---- registers with the same muxes

-- the muxes read the same in other registers
abbrev pub SameMuxes : Description → Registers → Registers → Type 0
SameMuxes defs regs regs' = (c : ℕ) (f : Field) → mux_field (kind_of defs c) ≡ Some f → field regs' f.word f.shift f.width ≡ field regs f.word f.shift f.width

pub link_given_same : (defs : Description) (regs regs' : Registers) (clocks : List ClockRow) (c : ℕ) → SameMuxes defs regs regs' → link_given defs regs' clocks c ≡ link_given defs regs clocks c
unfolding link_given
link_given_same defs regs regs' clocks c same = ap (λ (o : Option ℕ). option_and_then (if_registered clocks) o) (selected_same defs regs regs' c (same c))

pub to_raise_over : (s : State) (regs : Registers) (k : Change) (x : ℕ) → SameMuxes s.defs s.regs regs → to_raise (record s { regs = regs }) k x ≡ to_raise s k x
to_raise_over s regs k x same =
    ap (λ (o : Option ℕ). filter (λ y. not (is_in y k.raised)) (unprepared_plls s (if registered s.clocks x then path s.clocks x else x ∷ option_map_or (path s.clocks) o [])))
    (link_given_same s.defs s.regs regs s.clocks x same)

-- gates that follow leave the muxes and the power bits
pub settled_muxes : (s y : State) (words : ℕ) → IsValid words y.defs → SameMuxes y.defs y.regs (settled s y).regs
unfolding settled
settled_muxes s y words valid c f at =
    field-gates_moved y.defs (active s) (active y) (count_from 0 (length y.defs)) y.regs f (mux_off_gates words y.defs (count_from 0 (length y.defs)) c f valid at)

pub settled_power : (s y : State) (words c : ℕ) (power : PowerBit) → IsValid words y.defs → power_of (kind_of y.defs c) ≡ Some power
    → is_powered (settled s y).regs power ≡ is_powered y.regs power
unfolding settled
settled_power s y words c power valid at =
    bit_same _ y.regs power.word power.bit
    (field-gates_moved y.defs (active s) (active y) (count_from 0 (length y.defs)) y.regs (bit_field power.word power.bit)
    (power_off_gates words y.defs (count_from 0 (length y.defs)) c power valid at))

pub settled_raise : (s y : State) (words n : ℕ) (k : Change) (x : ℕ) → IsValid words y.defs → to_raise (record (settled s y) { steps = n }) k x ≡ to_raise y k x
unfolding settled
settled_raise s y words n k x valid = to_raise_over y (settled s y).regs k x (settled_muxes s y words valid)

pub runs_same : (s y : State) (words c : ℕ) → IsValid words y.defs → runs y.defs (settled s y).regs c ≡ runs y.defs y.regs c
runs_same s y words c valid = one (power_of (kind_of y.defs c)) (λ power at. settled_power s y words c power valid at) where
  one : (o : Option PowerBit) → ((power : PowerBit) → o ≡ Some power → is_powered (settled s y).regs power ≡ is_powered y.regs power)
      → option_map_or (is_powered (settled s y).regs) o false ≡ option_map_or (is_powered y.regs) o false
  one None each = refl
  one (Some power) each = each power refl

pub settled_lower : (s y : State) (words n x : ℕ) → IsValid words y.defs → to_lower (record (settled s y) { steps = n }) x ≡ to_lower y x
unfolding settled
settled_lower s y words n x valid =
    filter-agree (runs y.defs (settled s y).regs) (runs y.defs y.regs) (unprepared_plls y (path y.clocks x)) (λ c. runs_same s y words c valid)

-- ---- one PLL more that is raised

powered_field : (o : Option PowerBit) (regs : Registers) (f : Field) (up : Bool) → ((power : PowerBit) → o ≡ Some power → LieApart f (bit_field power.word power.bit))
    → field (option_map_or (λ power. with_power regs power up) o regs) f.word f.shift f.width ≡ field regs f.word f.shift f.width
powered_field None regs f up apart = refl
powered_field (Some power) regs f up apart = field-put_off regs f (record { word = power.word; bit = power.bit; set_to_disable = false }) up (apart power refl)

pub powered_muxes : (s : State) (words z : ℕ) (up : Bool) → IsValid words s.defs → SameMuxes s.defs s.regs (powered s z up).regs
powered_muxes s words z up valid c f at =
    powered_field (power_of (kind_of s.defs z)) s.regs f up
    (λ power e.
    fields_apart words s.defs valid c 0 f z 1 (bit_field power.word power.bit) (field-field (kind_of s.defs c) f (mux_is_field (kind_of s.defs c) f at))
    (power-field (kind_of s.defs z) power e) (λ same equal. omega arith))

not_or : (a b : Bool) → not (a || b) ≡ true → not b ≡ true
not_or true b e = absurd cc
not_or false b e = e

-- after one of them is raised fewer are to be raised
pub raised_fewer : (s : State) (words : ℕ) (k l : Change) (x z n : ℕ) → IsValid words s.defs → slice_get (reverse (to_raise s k x)) 0 ≡ Some z → l.raised ≡ z ∷ k.raised
    → length (to_raise (record (settled s (on (powered s z true) l)) { steps = n }) l x) + 1 ≤ length (to_raise s k x)
raised_fewer s words k l x z n valid at more =
    let us : List ℕ = unprepared_plls s (path_to_be s.defs s.regs s.clocks x) in
    let there : is_in z (to_raise s k x) ≡ true = sym (is_in-reverse z (to_raise s k x)) ∙ at_place (reverse (to_raise s k x)) 0 z at in
    let same : to_raise (record (settled s (on (powered s z true) l)) { steps = n }) l x ≡ filter (λ y. not (is_in y (z ∷ k.raised))) us =
    settled_raise s (on (powered s z true) l) words n l x valid
    ∙ to_raise_over s (powered s z true).regs l x (powered_muxes s words z true valid)
    ∙ ap (λ (ys : List ℕ). filter (λ y. not (is_in y ys)) us) more in
    let fewer = filter_drops (λ y. not (is_in y k.raised)) (λ y. not (is_in y (z ∷ k.raised))) z us (λ y e. not_or (z == y) (is_in y k.raised) e)
    (filter_passes (λ y. not (is_in y k.raised)) z us there) (ap not (is_in_head z k.raised)) (is_in-filter (λ y. not (is_in y k.raised)) z us there) in
    let long = ap (λ (ys : List ℕ). length ys) same in
    omega arith

-- ---- one PLL less that runs

-- a PLL that another one's powering off leaves running was running
still_running : (regs : Registers) (power other : PowerBit) → is_powered (with_power regs power false) other ≡ true → power.word < length regs → is_powered regs other ≡ true
still_running regs power other e within =
    elim (at_or_apart (record { word = power.word; bit = power.bit; set_to_disable = false }) other.word other.bit) [
      | inl at ↦
          let off : is_powered (with_power regs power false) other ≡ false =
          ap (λ (w : ℕ). is_set (put_bit regs power.word power.bit false) w other.bit) (sym at.0) ∙ ap (λ (b : ℕ). is_set (put_bit regs power.word power.bit false) power.word b) (sym at.1)
          ∙ is_set-put_bit_same regs power.word power.bit false within in
          absurd cc
      | inr apart ↦ sym (is_set-put_bit_other regs power.word power.bit false other.word other.bit apart) ∙ e
    ]

-- what another one's powering off leaves running was running
pub running_before : (s : State) (z c : ℕ) → IsValid (length s.regs) s.defs → runs s.defs (powered s z false).regs c ≡ true → runs s.defs s.regs c ≡ true
running_before s z c valid e = one (power_of (kind_of s.defs z)) refl (power_of (kind_of s.defs c)) e where
  one : (o : Option PowerBit) → power_of (kind_of s.defs z) ≡ o → (p : Option PowerBit)
      → option_map_or (is_powered (option_map_or (λ power. with_power s.regs power false) o s.regs)) p false ≡ true → option_map_or (is_powered s.regs) p false ≡ true
  one None at p f = f
  one (Some power) at None f = f
  one (Some power) at (Some other) f =
      still_running s.regs power other f
      (power-within (length s.regs) s.defs valid z power (fielded_lt s.defs z 1 (bit_field power.word power.bit) (power-field (kind_of s.defs z) power at)) at).0

-- a PLL whose power bit is cleared doesn't run
pub stopped : (s : State) (z : ℕ) → IsValid (length s.regs) s.defs → runs s.defs (powered s z false).regs z ≡ false
stopped s z valid = one (power_of (kind_of s.defs z)) refl where
  one : (o : Option PowerBit) → power_of (kind_of s.defs z) ≡ o → option_map_or (is_powered (option_map_or (λ power. with_power s.regs power false) o s.regs)) o false ≡ false
  one None at = refl
  one (Some power) at =
      is_set-put_bit_same s.regs power.word power.bit false
      (power-within (length s.regs) s.defs valid z power (fielded_lt s.defs z 1 (bit_field power.word power.bit) (power-field (kind_of s.defs z) power at)) at).0

-- after one of them is lowered fewer are to be lowered
pub lowered_fewer : (s : State) (l : Change) (x z n : ℕ) → IsValid (length s.regs) s.defs → slice_get (to_lower s x) 0 ≡ Some z
    → length (to_lower (record (settled s (on (powered s z false) l)) { steps = n }) x) + 1 ≤ length (to_lower s x)
lowered_fewer s l x z n valid at =
    let us : List ℕ = unprepared_plls s (path s.clocks x) in
    let there : is_in z (to_lower s x) ≡ true = at_place (to_lower s x) 0 z at in
    let same : to_lower (record (settled s (on (powered s z false) l)) { steps = n }) x ≡ filter (runs s.defs (powered s z false).regs) us =
    settled_lower s (on (powered s z false) l) (length s.regs) n x valid in
    let fewer = filter_drops (runs s.defs s.regs) (runs s.defs (powered s z false).regs) z us (λ c e. running_before s z c valid e)
    (filter_passes (runs s.defs s.regs) z us there) (stopped s z valid) (is_in-filter (runs s.defs s.regs) z us there) in
    let long = ap (λ (ys : List ℕ). length ys) same in
    omega arith
