-- Laws on clocks that a plan moves: in the outcome their planned parents feed them.
use Rattle.std.proofs.Common.{◌≡◌, ◌≢◌, ℕ, suc, ◌+◌, ◌<◌, Bool, true, false, not, cond, List, [], ◌∷◌, Option, Some, None, refl, sym, ap, subst, ◌∙◌, inl, inr, arith, length}
use Rattle.std.specs.Prelude.{◌==◌, IfSome, option_and_then, option_map, slice_get}
use Rattle.std.specs.List.{AllByRecursion, position_or_len}
use Rattle.std.specs.Option.{option_map_or}
use Rattle.std.proofs.lemmas.Bool.{cases_lt}
use Rattle.std.proofs.lemmas.List.{get_or_past}
use Rattle.clk_base.specs.declared.clock.ClockDef.{ClockDef}
use Rattle.clk_base.specs.Description.{Description, nobody, kind_of, parents_of}
use Rattle.clk_base.specs.Fields.{Field, field_of}
use Rattle.clk_base.specs.Valid.{IsValid}
use Rattle.clk_base.proofs.Valid.{field-field, fields-within}
use Rattle.reg_bank.specs.Registers.{Registers, field, put}
use Rattle.reg_bank.proofs.FieldLaws.{field-put_same}
use Rattle.clk_model.specs.declared.row.ClockRow.{ClockRow}
use Rattle.clk_model.specs.Fed.{feeds}
use Rattle.clk_model.specs.Lists.{is_in, same_place, none_twice}
use Rattle.clk_model.specs.Kinds.{mux_field}
use Rattle.clk_model.specs.State.{ChainStep, link_in}
use Rattle.clk_model.specs.Tree.{selected}
use Rattle.clk_model.specs.Round.{Wiring, parent_rate_in}
use Rattle.clk_model.specs.Chain.{linked, moves, place_of, select, setting, set_one, outcome}
use Rattle.clk_model.specs.Laws.Plans.{clocks_in, HasParent, LieApart, DiffersIn, MovedAreFed}
use Rattle.clk_model.proofs.Members.{same_from_test, test_other, not_either}
use Rattle.clk_model.proofs.StateLaws.{row_of-set_same}
use Rattle.clk_model.proofs.ApartLaws.{fields_apart, fielded_lt, mux_is_field}
use Rattle.clk_model.proofs.OutcomeLaws.{FitsKind, SetsOne, sets_one, differs_in}
use Rattle.clk_model.proofs.SettingLaws.{in_rest, settings_fit}
use Rattle.clk_model.proofs.SupplyLaws.{feeds_same}
use Rattle.clk_model.specs.Wired.{IsWired}
use Rattle.clk_model.proofs.OnceLaws.{once_head}

-- ---- places

place_found : (p x : ℕ) (xs : List ℕ) (t : Bool) → (x == p) ≡ t → (t ≡ false → slice_get xs (position_or_len (λ q. q == p) xs) ≡ Some p)
    → slice_get (x ∷ xs) (cond (not t) (1 + position_or_len (λ q. q == p) xs) 0) ≡ Some p
place_found p x xs true e rest = ap (λ (n : ℕ). Some n) (same_from_test x p e)
place_found p x xs false e rest = ap (λ (n : ℕ). slice_get (x ∷ xs) n) (one_more (position_or_len (λ q. q == p) xs)) ∙ rest refl where
  one_more : (n : ℕ) → 1 + n ≡ suc n
  one_more n = omega arith

-- what stands at the place of a number in a list is that number
pub place_holds : (p : ℕ) (xs : List ℕ) → is_in p xs ≡ true → slice_get xs (position_or_len (λ q. q == p) xs) ≡ Some p
place_holds p [] m = absurd cc
place_holds p (x ∷ xs) m = place_found p x xs (x == p) refl (λ differs. place_holds p xs (in_rest p x xs m differs))

-- ---- one move

written : (defs : Description) (regs : Registers) (clocks : List ClockRow) (c p : ℕ) (o : Option Field) → mux_field (kind_of defs c) ≡ o → link_in clocks c ≡ Some p
    → ((f : Field) → o ≡ Some f → field regs f.word f.shift f.width ≡ place_of defs c p) → is_in p (parents_of defs c) ≡ true → feeds defs regs clocks c ≡ Some p
written defs regs clocks c p o at link reads m =
    ap (λ (q : Option ℕ). option_and_then (λ x. option_map_or (λ f. selected defs regs c) (mux_field (kind_of defs c)) (Some x)) q) link
    ∙ ap (λ (u : Option Field). option_map_or (λ f. option_map_or (λ g. slice_get (parents_of defs c) (field regs g.word g.shift g.width)) u (slice_get (parents_of defs c) 0)) u (Some p)) at
    ∙ by_field o reads where
      by_field : (u : Option Field) → ((f : Field) → u ≡ Some f → field regs f.word f.shift f.width ≡ place_of defs c p)
          → option_map_or (λ f. option_map_or (λ g. slice_get (parents_of defs c) (field regs g.word g.shift g.width)) u (slice_get (parents_of defs c) 0)) u (Some p) ≡ Some p
      by_field None each = refl
      by_field (Some f) each = ap (λ (n : ℕ). slice_get (parents_of defs c) n) (each f refl) ∙ place_holds p (parents_of defs c) m

-- a clock that a setting moves is fed by its planned parent
moved_fed : (k : ChainStep) (u : Wiring) → IsValid (length u.regs) u.defs → FitsKind (kind_of u.defs k.clock) (parents_of u.defs k.clock) → HasParent u k → k.clock < length u.clocks
    → moves u.clocks k ≡ true → feeds u.defs (set_one k u).regs (set_one k u).clocks k.clock ≡ k.parent
moved_fed k u valid fits has within away = by_parent (moves u.clocks k) away k.parent refl where
  by_parent : (t : Bool) → t ≡ true → (o : Option ℕ) → k.parent ≡ o
      → feeds u.defs (cond t (option_map_or (λ p. select u.defs k.clock p u.regs) o u.regs) (setting (kind_of u.defs k.clock) (parent_rate_in u k.clock) k.rate u.regs))
      (cond t (option_map_or (linked u.clocks k.clock) o u.clocks) u.clocks) k.clock ≡ o
  by_parent false no_ o e = absurd cc
  by_parent true yes_ None e =
      let none = has.none e in
      let stays : moves u.clocks k ≡ false = ap (λ (q : Option ℕ). not (same_place q (link_in u.clocks k.clock))) e ∙ ap (λ (q : Option ℕ). not (same_place None q)) none in
      absurd cc
  by_parent true yes_ (Some p) e =
      written u.defs (select u.defs k.clock p u.regs) (linked u.clocks k.clock p) k.clock p (mux_field (kind_of u.defs k.clock)) refl
      (ap (λ (r : ClockRow). option_map (λ q. q.0) r.link) (row_of-set_same u.clocks k.clock _ within))
      (λ f at.
      let inside = fields-within (length u.regs) u.defs valid k.clock 0 f
      (fielded_lt u.defs k.clock 0 f (field-field (kind_of u.defs k.clock) f (mux_is_field (kind_of u.defs k.clock) f at)))
      (field-field (kind_of u.defs k.clock) f (mux_is_field (kind_of u.defs k.clock) f at)) in
      ap (λ (o : Option Field). field (option_map_or (λ g. put u.regs g.word g.shift g.width (place_of u.defs k.clock p)) o u.regs) f.word f.shift f.width) at
      ∙ field-put_same u.regs f.word f.shift f.width (place_of u.defs k.clock p) inside.0 (fits.place f p at (has.possible p e)))
      (has.possible p e)

-- ---- the whole chain

apart_field : (words : ℕ) (defs : Description) (c d : ℕ) (f : Field) (o : Option Field) → IsValid words defs → c ≢ d → mux_field (kind_of defs c) ≡ Some f → field_of (kind_of defs d) ≡ o → IfSome o (LieApart f)
apart_field words defs c d f None valid other at e = tt
apart_field words defs c d f (Some g) valid other at e =
    fields_apart words defs valid c 0 f d 0 g (field-field (kind_of defs c) f (mux_is_field (kind_of defs c) f at)) (field-field (kind_of defs d) g e) (λ same. absurd (other same))

-- a setting of another clock leaves what feeds a clock
other_fed : (words : ℕ) (k : ChainStep) (u v : Wiring) (c : ℕ) → IsValid words u.defs → SetsOne k u v → c ≢ k.clock → feeds u.defs v.regs v.clocks c ≡ feeds u.defs u.regs u.clocks c
other_fed words k u v c valid one other =
    feeds_same u.defs u.regs v.regs v.clocks c (λ f at. one.fields f (apart_field words u.defs c k.clock f (field_of (kind_of u.defs k.clock)) valid other at refl))
    ∙ ap (λ (r : ClockRow). option_and_then (λ p. option_map_or (λ f. selected u.defs u.regs c) (mux_field (kind_of u.defs c)) (Some p)) (option_map (λ q. q.0) r.link)) (one.others c other)

others_fed : (words : ℕ) (k : ChainStep) (ks : List ChainStep) (w u v : Wiring) → IsValid words w.defs → u.defs ≡ w.defs → SetsOne k u v → is_in k.clock (clocks_in ks) ≡ false
    → AllByRecursion (λ l. moves w.clocks l ≡ true → feeds w.defs u.regs u.clocks l.clock ≡ l.parent) ks
    → AllByRecursion (λ l. moves w.clocks l ≡ true → feeds w.defs v.regs v.clocks l.clock ≡ l.parent) ks
others_fed words k [] w u v valid same one out fed = tt
others_fed words k (l ∷ ks) w u v valid same one out fed =
    let parts = not_either (l.clock == k.clock) (is_in k.clock (clocks_in ks)) out in
    let stays = other_fed words k u v l.clock (subst (λ (d : Description). IsValid words d) (sym same) valid) one (λ e. test_other l.clock k.clock parts.0 e) in (
      (λ away. subst (λ (d : Description). feeds d v.regs v.clocks l.clock ≡ feeds d u.regs u.clocks l.clock) same stays ∙ fed.0 away),
      others_fed words k ks w u v valid same one parts.1 fed.1,
    )

parented_lt : (words : ℕ) (w : Wiring) (k : ChainStep) → IsWired words w → HasParent w k → moves w.clocks k ≡ true → k.clock < length w.clocks
parented_lt words w k wired has away = by_parent k.parent refl where
  by_parent : (o : Option ℕ) → k.parent ≡ o → k.clock < length w.clocks
  by_parent None e =
      let none = has.none e in
      let stays : moves w.clocks k ≡ false = ap (λ (q : Option ℕ). not (same_place q (link_in w.clocks k.clock))) e ∙ ap (λ (q : Option ℕ). not (same_place None q)) none in
      absurd cc
  by_parent (Some p) e = elim (cases_lt k.clock (length w.defs)) [
    | inl inside ↦ let same = wired.rows in omega arith
    | inr outside ↦
        let m = has.possible p e in
        let none : is_in p (parents_of w.defs k.clock) ≡ false = ap (λ (d : ClockDef). is_in p d.parents) (get_or_past w.defs k.clock nobody outside) in
        absurd cc
  ]

chain_fed : (w : Wiring) (ks : List ChainStep) → IsWired (length w.regs) w → AllByRecursion (HasParent w) ks → none_twice (clocks_in ks) ≡ true
    → AllByRecursion (λ k. moves w.clocks k ≡ true → feeds w.defs (outcome ks w).regs (outcome ks w).clocks k.clock ≡ k.parent) ks
unfolding outcome
chain_fed w [] wired has once = tt
chain_fed w (k ∷ ks) wired has once =
    let u : Wiring = outcome ks w in
    let fits = settings_fit (length w.regs) w.defs wired.valid in
    let split = once_head k.clock (clocks_in ks) once in
    let rest : DiffersIn ks w u = differs_in ks w fits has.1 split.1 in
    let row = rest.others k.clock split.0 in
    let there : HasParent u k = record {
      possible = λ p e. ap (λ (d : Description). is_in p (parents_of d k.clock)) rest.defs ∙ has.0.possible p e;
      none = λ e. ap (λ (r : ClockRow). option_map (λ p. p.0) r.link) row ∙ has.0.none e;
    } in
    let fit : FitsKind (kind_of u.defs k.clock) (parents_of u.defs k.clock) =
    subst (λ (d : Description). FitsKind (kind_of d k.clock) (parents_of d k.clock)) (sym rest.defs) (fits k.clock) in
    let valid : IsValid (length u.regs) u.defs =
    subst (λ (n : ℕ). IsValid n u.defs) (sym rest.words) (subst (λ (d : Description). IsValid (length w.regs) d) (sym rest.defs) wired.valid) in (
      (λ away.
          let within : k.clock < length u.clocks = let below = parented_lt (length w.regs) w k wired has.0 away in let size = rest.size in omega arith in
          subst (λ (d : Description). feeds d (set_one k u).regs (set_one k u).clocks k.clock ≡ k.parent) rest.defs
          (moved_fed k u valid fit there within (ap (λ (r : ClockRow). not (same_place k.parent (option_map (λ p. p.0) r.link))) row ∙ away))),
      others_fed (length w.regs) k ks w u (set_one k u) wired.valid rest.defs (sets_one k u fit there) split.0 (chain_fed w ks wired has.1 split.1),
    )

-- each clock that a chain moves is fed by its planned parent
pub moved_are_fed : MovedAreFed
moved_are_fed w c ks wired leads = chain_fed w ks wired leads.parents leads.once
