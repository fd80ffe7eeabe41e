-- Laws on what the rate of a kind reads, and on banks with more words.
use Rattle.std.proofs.Common.{◌≡◌, ℕ, ◌+◌, ◌<◌, ◌≤◌, true, List, [], ◌∷◌, refl, arith, length, Some}
use Rattle.std.specs.Prelude.{slice_get}
use Rattle.std.specs.List.{list_all}
use Rattle.std.proofs.lemmas.Bool.{and_parts, and_from, lt-ltb, ltb-true}
use Rattle.clk_base.specs.declared.clock.Kind.{Kind}
use Rattle.clk_base.specs.declared.clock.Kind.TheVariants.{FixedRate, Factor, Gate, Mux, Divider, Pll}
use Rattle.clk_base.specs.Description.{Description, EachClock, kind_of, parents_of}
use Rattle.clk_base.specs.Fields.{Field, fields_of, is_in_bank}
use Rattle.clk_base.specs.Valid.{IsValid, Rule, keeps, counts, ranges, bank, apart, acyclic, levels, bounded, has_ranges}
use Rattle.clk_base.proofs.Valid.{fields-within}
use Rattle.clk_tree.specs.Readable.{CanRead}

-- a kind whose parameters are in their ranges and whose fields lie in the first words can be read
read_kind : (words size parents : ℕ) (kind : Kind) → has_ranges kind parents ≡ true
    → ((f : Field) → slice_get (fields_of kind) 0 ≡ Some f → (f.word < words) × (f.shift + f.width ≤ 32)) → words ≤ size → CanRead size kind
read_kind words size parents (FixedRate rate) ranged lies fits = tt
read_kind words size parents (Factor mult div) ranged lies fits = ltb-true 0 div (and_parts _ _ ranged).1
read_kind words size parents (Gate word bit set_to_disable) ranged lies fits = tt
read_kind words size parents (Mux word shift width read_only) ranged lies fits = tt
read_kind words size parents (Divider word shift width one_based power_of_two) ranged lies fits =
    let is = lies (record { word = word; shift = shift; width = width }) refl in
    let inside : word < words = is.0 in
    (omega arith, is.1)
read_kind words size parents (Pll word shift width power_word power_bit least most m) ranged lies fits =
    let is = lies (record { word = word; shift = shift; width = width }) refl in
    let inside : word < words = is.0 in
    (omega arith, is.1, ltb-true 0 m (and_parts _ _ (and_parts _ _ (and_parts _ _ (and_parts _ _ ranged).0).0).0).1)

-- each clock of a valid description can be read from a bank that has its words
pub can_read : (words : ℕ) (defs : Description) (c size : ℕ) → IsValid words defs → c < length defs → words ≤ size → CanRead size (kind_of defs c)
can_read words defs c size valid place fits =
    read_kind words size (length (parents_of defs c)) (kind_of defs c) (valid.rules ranges c place) (λ f at. fields-within words defs valid c 0 f place at) fits

-- ---- a bank with more words

-- fields that lie in a bank lie in one that has more words
in_bank : (words size : ℕ) (fields : List Field) → words ≤ size → list_all (is_in_bank words) fields ≡ true → list_all (is_in_bank size) fields ≡ true
in_bank words size [] fits lie = refl
in_bank words size (f ∷ fields) fits lie =
    let parts = and_parts _ _ lie in
    let here = and_parts _ _ parts.0 in
    let inside : f.word < words = ltb-true f.word words here.0 in
    and_from _ _ (and_from _ _ (lt-ltb f.word size (omega arith)) here.1) (in_bank words size fields fits parts.1)

-- a valid description is valid for a bank that has more words
pub valid_in : (words size : ℕ) (defs : Description) → IsValid words defs → words ≤ size → IsValid size defs
valid_in words size defs valid fits = record { parents = valid.parents; names = valid.names; rules = kept } where
  kept : (rule : Rule) → EachClock defs (keeps rule size defs)
  kept counts = valid.rules counts
  kept ranges = valid.rules ranges
  kept bank = λ c place. in_bank words size (fields_of (kind_of defs c)) fits (valid.rules bank c place)
  kept apart = valid.rules apart
  kept acyclic = valid.rules acyclic
  kept levels = valid.rules levels
  kept bounded = valid.rules bounded
