-- A tree in which a clock was registered, and what the first words of a bank say of it.
use Rattle.std.proofs.Common.{◌≡◌, ◌≢◌, ℕ, ◌<◌, ◌||◌, Bool, true, false, List, Option, Some, None, refl, sym, ap, subst, ◌∙◌, inl, inr, arith, length, take, nat_eq}
use Rattle.std.specs.Prelude.{IfSome, option_and_then, slice_get, slice_index}
use Rattle.std.specs.Option.{option_map}
use Rattle.std.proofs.lemmas.Bool.{cases_lt}
use Rattle.std.proofs.lemmas.List.{get_or_past, length-set}
use Rattle.clk_base.specs.declared.clock.ClockDef.{ClockDef}
use Rattle.clk_base.specs.declared.clock.ClockId.{ClockId}
use Rattle.clk_base.specs.declared.clock.Kind.{Kind}
use Rattle.clk_base.specs.declared.clock.Kind.TheVariants.{FixedRate, Factor, Gate, Mux, Divider, Pll}
use Rattle.clk_base.specs.Description.{Description, nobody, kind_of}
use Rattle.clk_base.specs.Fields.{Field, fields_of}
use Rattle.clk_base.specs.Valid.{IsValid}
use Rattle.clk_base.proofs.Valid.{fields-within}
use Rattle.reg_bank.specs.Registers.{Registers}
use Rattle.clk_model.specs.declared.row.ClockRow.{ClockRow}
use Rattle.clk_model.specs.State.{row_of, registered, link_in, requested}
use Rattle.clk_model.specs.Kinds.{mux_field}
use Rattle.clk_model.specs.Tree.{if_registered, link_given}
use Rattle.clk_model.specs.Rate.{rate}
use Rattle.clk_model.specs.Begin.{registered_rows}
use Rattle.clk_model.proofs.StateLaws.{row_of-set_other}
use Rattle.clk_model.proofs.Members.{test_same}
use Rattle.clk_model.proofs.RateLaws.{rate-links, writes_leave_rates}
use Rattle.clk_model.proofs.SupplyLaws.{selected_same}
use Rattle.clk_model.proofs.OutcomeRateLaws.{scale_lt}
use Rattle.clk_tree.specs.TreeState.{TreeState, attached}
use Rattle.clk_tree.specs.Refreshed.{FreshensAll}
use Rattle.clk_tree.proofs.Fitting.{attached-registered}
use Rattle.clk_tree.proofs.Freshness.{fresh_attached}
use Rattle.clk_tree.proofs.Rows.{registered-set, registered-requested, link-requested}
use Rattle.core_parts.specs.Tied.{AreKept}
use Rattle.core_parts.proofs.WindowLaws.{field-take}

-- ---- the rates of the first words

-- so the first words give the rates that all words give
pub rate-take : (words : ℕ) (defs : Description) (regs : Registers) (clocks : List ClockRow) (c : ℕ) → IsValid words defs
    → rate defs (take words regs) clocks c ≡ rate defs regs clocks c
rate-take words defs regs clocks c valid =
    writes_leave_rates defs regs (take words regs) clocks c (λ a m f e. field-take words regs f.word f.shift f.width (scale_lt words defs a f valid e))

-- ---- the parent that the first words give

-- the field of a mux lies in the first words
mux_lies : (words : ℕ) (defs : Description) (c : ℕ) (f : Field) → IsValid words defs → mux_field (kind_of defs c) ≡ Some f → f.word < words
mux_lies words defs c f valid e = elim (cases_lt c (length defs)) [
  | inl inside ↦ by (kind_of defs c) e (λ at. (fields-within words defs valid c 0 f inside at).0)
  | inr outside ↦
      let none : mux_field (kind_of defs c) ≡ None = ap (λ (d : ClockDef). mux_field d.kind) (get_or_past defs c nobody (omega arith)) in
      absurd cc
] where
  by : (kind : Kind) → mux_field kind ≡ Some f → (slice_get (fields_of kind) 0 ≡ Some f → f.word < words) → f.word < words
  by (FixedRate rate) e lies = absurd cc
  by (Factor mult div) e lies = absurd cc
  by (Gate word bit set_to_disable) e lies = absurd cc
  by (Mux word shift width read_only) e lies = lies e
  by (Divider word shift width one_based power_of_two) e lies = absurd cc
  by (Pll word shift width power_word power_bit least most m) e lies = absurd cc

-- so they give the parent that all words give
pub link_given-take : (words : ℕ) (defs : Description) (regs : Registers) (clocks : List ClockRow) (c : ℕ) → IsValid words defs → link_given defs (take words regs) clocks c ≡ link_given defs regs clocks c
unfolding link_given
link_given-take words defs regs clocks c valid =
    ap (option_and_then (if_registered clocks)) (selected_same defs regs (take words regs) c (λ f e. field-take words regs f.word f.shift f.width (mux_lies words defs c f valid e)))

-- and the one that is found over a bank is that
pub given_first : (n : ℕ) (told : Option (List ℕ)) (defs : Description) (clocks : List ClockRow) (c : ℕ) (parent : Option ClockId) → IsValid n defs
    → ((regs : Registers) → told ≡ Some regs → option_map (λ p. p.0) parent ≡ link_given defs regs clocks c)
    → IfSome (option_map (take n) told) (λ regs. option_map (λ p. p.0) parent ≡ link_given defs regs clocks c)
given_first n None defs clocks c parent valid link = tt
given_first n (Some regs) defs clocks c parent valid link = link regs refl ∙ sym (link_given-take n defs regs clocks c valid)

-- ---- the tree after a registration

-- rates that were computed anew, before the last request was kept, over the whole bank
pub kept_registered : (n : ℕ) (told : Option (List ℕ)) (defs : Description) (clocks : List ClockRow) (rates : List ℕ) (c request : ℕ)
    → IsValid n defs → c < length clocks
    → IfSome told (λ regs. (k : ℕ) → registered clocks k ≡ true → slice_index rates k ≡ rate defs regs clocks k)
    → AreKept defs (option_map (take n) told) (requested clocks c request) rates
kept_registered n None defs clocks rates c request valid within fresh = tt
kept_registered n (Some regs) defs clocks rates c request valid within fresh =
    λ k there.
    fresh k (sym (registered-requested clocks c request k within) ∙ there)
    ∙ sym (rate-take n defs regs clocks k valid)
    ∙ sym (rate-links defs (take n regs) clocks (requested clocks c request) k (λ a. link-requested clocks c request a within))

-- where the kept rates were right before a clock was attached, and a refresh makes all right where those that it leaves are, all are
pub fresh_registered : (n : ℕ) (told : Option (List ℕ)) (defs : Description) (clocks : List ClockRow) (old new : List ℕ) (c : ℕ) (parent : Option ClockId)
    → IsValid n defs → c < length clocks → AreKept defs (option_map (take n) told) clocks old
    → FreshensAll defs told (attached clocks c parent) old new c
    → IfSome told (λ regs. (k : ℕ) → registered (attached clocks c parent) k ≡ true → slice_index new k ≡ rate defs regs (attached clocks c parent) k)
fresh_registered n None defs clocks old new c parent valid within kept refreshed = tt
fresh_registered n (Some regs) defs clocks old new c parent valid within kept refreshed =
    refreshed (fresh_attached defs regs clocks old c parent within (λ k there. kept k there ∙ rate-take n defs regs clocks k valid))

-- each kept rate is the one that the registers give
abbrev pub Fresh : Description → Option (List ℕ) → List ClockRow → List ℕ → Type 0
Fresh defs told clocks rates = IfSome told (λ regs. (k : ℕ) → registered clocks k ≡ true → slice_index rates k ≡ rate defs regs clocks k)

-- what a refresh says of a tree with a clock attached
pub refreshed : (n : ℕ) (told : Option (List ℕ)) (defs : Description) (tree : TreeState) (clocks : List ClockRow) (old new : List ℕ) (c : ℕ) (parent : Option ClockId)
    → IsValid n defs → c < length clocks → tree.defs ≡ defs → tree.clocks ≡ attached clocks c parent → tree.rates ≡ old → AreKept defs (option_map (take n) told) clocks old
    → FreshensAll tree.defs told tree.clocks tree.rates new c
    → Fresh defs told (attached clocks c parent) new
refreshed n told defs tree clocks old new c parent valid within made link rates kept says =
    fresh_registered n told defs clocks old new c parent valid within kept
    (subst (λ (ds : Description). FreshensAll ds told (attached clocks c parent) old new c) made
    (subst (λ (rs : List ClockRow). FreshensAll tree.defs told rs old new c) link
    (subst (λ (xs : List ℕ). FreshensAll tree.defs told tree.clocks xs new c) rates says)))

-- the rows are those of the registration
pub rows_registered : (n : ℕ) (told : Option (List ℕ)) (defs : Description) (clocks : List ClockRow) (rates : List ℕ) (c : ℕ) (parent : Option ClockId)
    → IsValid n defs → c < length clocks → IfSome (option_map (take n) told) (λ regs. option_map (λ p. p.0) parent ≡ link_given defs regs clocks c)
    → IfSome told (λ regs. (k : ℕ) → registered (attached clocks c parent) k ≡ true → slice_index rates k ≡ rate defs regs (attached clocks c parent) k)
    → IfSome (option_map (take n) told) (λ regs. requested (attached clocks c parent) c (slice_index rates c) ≡ registered_rows defs regs clocks c)
rows_registered n None defs clocks rates c parent valid within is fresh = tt
rows_registered n (Some regs) defs clocks rates c parent valid within is fresh =
    let rows : List ClockRow = attached clocks c parent in
    let there : registered rows c ≡ true = registered-set clocks c _ c within refl ∙ ap (λ (b : Bool). b || registered clocks c) (test_same c) in
    ap (λ (r : ℕ). requested rows c r) (fresh c there ∙ sym (rate-take n defs regs rows c valid))
    ∙ attached-registered defs (take n regs) clocks c parent within is

-- who is registered after it
pub registered-registered : (clocks : List ClockRow) (c : ℕ) (parent : Option ClockId) (request k : ℕ) → c < length clocks → c < length (attached clocks c parent)
    → registered (requested (attached clocks c parent) c request) k ≡ (registered clocks k || nat_eq c k)
registered-registered clocks c parent request k within inside =
    registered-requested (attached clocks c parent) c request k inside ∙ registered-set clocks c _ k within refl ∙ or_turned (nat_eq c k) (registered clocks k) where
      or_turned : (a b : Bool) → (a || b) ≡ (b || a)
      or_turned true true = refl
      or_turned true false = refl
      or_turned false true = refl
      or_turned false false = refl

-- the links of the others stay
pub links_beside : (clocks : List ClockRow) (c : ℕ) (parent : Option ClockId) (request d : ℕ) → d ≢ c → link_in (requested (attached clocks c parent) c request) d ≡ link_in clocks d
links_beside clocks c parent request d other =
    ap (λ (r : ClockRow). option_map (λ (p : ClockId). p.0) r.link)
    (row_of-set_other (attached clocks c parent) c _ d (λ same. other (sym same)) ∙ row_of-set_other clocks c _ d (λ same. other (sym same)))

-- a clock of the description has a row, where the tree has as many rows after it was attached
pub row_within : (clocks new : List ClockRow) (c n : ℕ) (parent : Option ClockId) → new ≡ attached clocks c parent → length new ≡ n → c < n → c < length clocks
row_within clocks new c n parent is rows within =
    let len = length-set clocks c (record (row_of clocks c) { registered = true; link = parent }) in
    let same : length new ≡ length (attached clocks c parent) = ap (λ (rs : List ClockRow). length rs) is in
    omega arith
