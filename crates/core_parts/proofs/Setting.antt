-- What a setting that is written makes of words and kept rates.
use Rattle.std.proofs.Common.{◌≡◌, ℕ, zero, suc, ◌+◌, ◌<◌, ◌≤◌, ◌^◌, Bool, true, false, cond, List, [], ◌∷◌, Option, Some, None, refl, sym, ap, subst, ◌∙◌, arith, length, take, drop, nat_eq}
use Rattle.std.specs.Prelude.{IfSome, slice_get, option_map, find}
use Rattle.std.specs.Option.{option_map_or}
use Rattle.clk_base.specs.Description.{Description, kind_of}
use Rattle.clk_base.specs.Fields.{Field, field_of}
use Rattle.clk_base.specs.Valid.{IsValid}
use Rattle.clk_base.proofs.Valid.{field-field, fields-within}
use Rattle.reg_bank.specs.Registers.{Registers, field, put}
use Rattle.clk_model.specs.declared.row.ClockRow.{ClockRow}
use Rattle.clk_model.specs.State.{ChainStep}
use Rattle.clk_model.specs.Rate.{rate}
use Rattle.clk_model.proofs.ApartLaws.{fields_apart}
use Rattle.clk_model.proofs.GateRateLaws.{scales_is_field}
use Rattle.clk_model.proofs.OutcomeLaws.{field-put_outside}
use Rattle.clk_model.proofs.RateLaws.{writes_leave_rates}
use Rattle.clk_tree.specs.declared.chain.ChainStep as chain
use Rattle.clk_tree.specs.Plans.{chain_of}
use Rattle.clk_tree.specs.Refreshed.{is_below, FreshensAll}
use Rattle.rate_planner.specs.Settings.{put_field}
use Rattle.change_walk.proofs.Rests.{rest_of}
use Rattle.change_walk.specs.declared.changes.Changed.{Changed}
use Rattle.core_parts.specs.Course.{planned_along, behind_first}
use Rattle.core_parts.specs.Tied.{AreKept}
use Rattle.core_parts.proofs.RegisteredTree.{rate-take}

-- a field lies in the words
pub field_fits : (words : ℕ) (defs : Description) (c value : ℕ) → IsValid words defs → c < length defs → IfSome (field_of (kind_of defs c)) (λ f. value < 2 ^ f.width)
    → IfSome (field_of (kind_of defs c)) (λ f. (f.word < words) × (f.shift + f.width ≤ 32) × (value < 2 ^ f.width))
field_fits words defs c value valid within few = by (field_of (kind_of defs c)) refl few where
  by : (o : Option Field) → field_of (kind_of defs c) ≡ o → IfSome o (λ f. value < 2 ^ f.width) → IfSome o (λ f. (f.word < words) × (f.shift + f.width ≤ 32) × (value < 2 ^ f.width))
  by None own less = tt
  by (Some f) own less = let is = fields-within words defs valid c 0 f within (field-field (kind_of defs c) f own) in (is.0, is.1, less)

-- the fields of other clocks read the same
put_stays : (words : ℕ) (defs : Description) (regs : Registers) (c value a : ℕ) (f : Field) → IsValid words defs → (a ≡ c → ⊥) → IfSome (field_of (kind_of defs c)) (λ g. value < 2 ^ g.width)
    → field_of (kind_of defs a) ≡ Some f → field (put_field (kind_of defs c) (Some value) regs) f.word f.shift f.width ≡ field regs f.word f.shift f.width
put_stays words defs regs c value a f valid other few at = by (field_of (kind_of defs c)) refl few where
  by : (o : Option Field) → field_of (kind_of defs c) ≡ o → IfSome o (λ g. value < 2 ^ g.width)
      → field (option_map_or (λ g. put regs g.word g.shift g.width value) o regs) f.word f.shift f.width ≡ field regs f.word f.shift f.width
  by None own less = refl
  by (Some g) own less =
      field-put_outside regs f g value
      (fields_apart words defs valid a 0 f c 0 g (field-field (kind_of defs a) f at) (field-field (kind_of defs c) g own) (λ same. absurd (other same))) less

-- so do the rates of clocks that aren't below it
pub rate_beside : (words : ℕ) (defs : Description) (regs : Registers) (clocks : List ClockRow) (c value k : ℕ) → IsValid words defs → IfSome (field_of (kind_of defs c)) (λ g. value < 2 ^ g.width)
    → is_below clocks c k ≡ false → rate defs (put_field (kind_of defs c) (Some value) regs) clocks k ≡ rate defs regs clocks k
rate_beside words defs regs clocks c value k valid few off =
    writes_leave_rates defs regs (put_field (kind_of defs c) (Some value) regs) clocks k
    (λ a m f at. put_stays words defs regs c value a f valid
    (λ same. let on : is_below clocks c k ≡ true = subst (λ (x : ℕ). is_below clocks x k ≡ true) same m in let no : true ≡ false = sym on ∙ off in absurd cc) few (scales_is_field (kind_of defs a) f at))

-- where a refresh makes all rates right where those of the others are, all are, after the setting as before
pub kept_set : (n : ℕ) (told : Option Registers) (was : Option (List ℕ)) (defs : Description) (clocks : List ClockRow) (old new : List ℕ) (c value : ℕ) → IsValid n defs
    → option_map (take n) told ≡ option_map (put_field (kind_of defs c) (Some value)) was → IfSome (field_of (kind_of defs c)) (λ g. value < 2 ^ g.width) → AreKept defs was clocks old
    → FreshensAll defs told clocks old new c
    → AreKept defs (option_map (take n) told) clocks new
kept_set n None was defs clocks old new c value valid is few kept says = tt
kept_set n (Some regs) None defs clocks old new c value valid is few kept says = absurd cc
kept_set n (Some regs) (Some ws) defs clocks old new c value valid is few kept says =
    let same : take n regs ≡ put_field (kind_of defs c) (Some value) ws = inside is in
    λ k there.
    says
    (λ j here off.
    kept j here ∙ sym (rate_beside n defs ws clocks c value j valid few off)
    ∙ ap (λ (xs : Registers). rate defs xs clocks j) (sym same) ∙ rate-take n defs regs clocks j valid) k there
    ∙ sym (rate-take n defs regs clocks k valid) where
      inside : {x y : List ℕ} → Some x ≡ Some y → x ≡ y
      inside e = cc

-- ---- the planned rate, step by step

drop_at : {A : Type 0} (xs : List A) (k : ℕ) (x : A) → slice_get xs k ≡ Some x → drop k xs ≡ x ∷ drop (suc k) xs
drop_at [] k x e = absurd cc
drop_at (y ∷ xs) zero x e = let same : y ≡ x = cc in ap (λ z. z ∷ xs) same
drop_at (y ∷ xs) (suc k) x e = drop_at xs k x e

-- a step as the definitions have it
abbrev step_of : chain.ChainStep → ChainStep
step_of s = record { clock = s.clock.0; rate = s.rate; parent = option_map (λ p. p.0) s.parent }

planned_first : (k : ChainStep) (ks : List ChainStep) (c : ℕ) (t : Bool) → nat_eq k.clock c ≡ t → planned_along (k ∷ ks) c ≡ cond t (Some k.rate) (planned_along ks c)
planned_first k ks c true e = ap (λ (t : Bool). option_map (λ (k : ChainStep). k.rate) (cond t (Some k) (find (λ k. nat_eq k.clock c) ks))) e
planned_first k ks c false e = ap (λ (t : Bool). option_map (λ (k : ChainStep). k.rate) (cond t (Some k) (find (λ k. nat_eq k.clock c) ks))) e

pub planned_found : (steps : List chain.ChainStep) (k : ℕ) (step : chain.ChainStep) (c : ℕ) (whole : Option ℕ) → slice_get steps k ≡ Some step → nat_eq step.clock.0 c ≡ true
    → planned_along (drop k (chain_of steps)) c ≡ whole → Some step.rate ≡ whole
planned_found steps k step c whole at same all =
    sym (planned_first (step_of step) (drop (k + 1) (chain_of steps)) c true same) ∙ ap (λ (ks : List ChainStep). planned_along ks c) (sym (rest_of step_of steps k step at)) ∙ all

pub planned_passed : (steps : List chain.ChainStep) (k : ℕ) (step : chain.ChainStep) (c : ℕ) (whole : Option ℕ) → slice_get steps k ≡ Some step → nat_eq step.clock.0 c ≡ false
    → planned_along (drop k (chain_of steps)) c ≡ whole → planned_along (drop (k + 1) (chain_of steps)) c ≡ whole
planned_passed steps k step c whole at other all =
    sym (planned_first (step_of step) (drop (k + 1) (chain_of steps)) c false other) ∙ ap (λ (ks : List ChainStep). planned_along ks c) (sym (rest_of step_of steps k step at)) ∙ all

-- the clocks behind the first
pub drop_one : (k : ℕ) (xs : List Changed) → drop (k + 1) xs ≡ behind_first (drop k xs)
drop_one k xs = sym (ap (λ (n : ℕ). drop n xs) (let e : suc k ≡ k + 1 = omega arith in e)) ∙ one k xs where
  one : (k : ℕ) (xs : List Changed) → drop (suc k) xs ≡ behind_first (drop k xs)
  one zero [] = refl
  one zero (x ∷ xs) = refl
  one (suc k) [] = refl
  one (suc k) (x ∷ xs) = one k xs

-- none is behind the last
pub drop_last : (k : ℕ) (xs : List Changed) → length xs ≤ k → drop k xs ≡ behind_first (drop k xs)
drop_last zero [] past = refl
drop_last zero (x ∷ xs) past = absurd (omega arith)
drop_last (suc k) [] past = refl
drop_last (suc k) (x ∷ xs) past = drop_last k xs (omega arith)
