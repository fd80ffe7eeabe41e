-- Laws on outcomes: what a plan changes, and what it leaves.
use Rattle.std.proofs.Common.{◌≡◌, ◌≢◌, ℕ, zero, suc, ◌^◌, ◌<◌, Bool, true, false, not, cond, List, [], ◌∷◌, Option, Some, None, refl, sym, ap, subst, ◌∙◌, inl, inr, arith, length}
use Rattle.std.specs.Prelude.{◌==◌, IfSome, option_map, slice_set}
use Rattle.std.specs.List.{AllByRecursion, position_or_len}
use Rattle.std.specs.Option.{option_map_or}
use Rattle.clk_base.specs.declared.clock.ClockId.{ClockId}
use Rattle.clk_base.specs.declared.clock.Kind.{Kind}
use Rattle.clk_base.specs.declared.clock.Kind.TheVariants.{FixedRate, Factor, Gate, Mux, Divider, Pll}
use Rattle.clk_base.specs.Description.{Description, kind_of, parents_of}
use Rattle.clk_base.specs.Fields.{Field, field_of}
use Rattle.reg_bank.specs.Registers.{Registers, field, put}
use Rattle.reg_bank.proofs.FieldLaws.{length-put, field-put_other_word, field-put_apart}
use Rattle.clk_model.specs.declared.row.ClockRow.{ClockRow}
use Rattle.clk_model.specs.Lists.{is_in, same_place, none_twice}
use Rattle.clk_model.specs.Kinds.{mux_field}
use Rattle.clk_model.specs.State.{ChainStep, row_of, link_in}
use Rattle.clk_model.specs.Round.{Wiring, parent_rate_in}
use Rattle.clk_model.specs.Chain.{clock_id, linked, moves, place_of, select, setting, set_one, outcome}
use Rattle.clk_model.specs.Laws.Plans.{clocks_in, HasParent, LieApart, DiffersIn}
use Rattle.clk_model.proofs.Members.{same_from_test, test_other, not_either}
use Rattle.clk_model.proofs.StateLaws.{row_of-set_same, row_of-set_other}
use Rattle.clk_model.proofs.OnceLaws.{once_head}

-- ---- one field

-- to put in a field leaves a field that lies apart
pub field-put_outside : (regs : Registers) (f g : Field) (value : ℕ) → LieApart f g → value < 2 ^ g.width
    → field (put regs g.word g.shift g.width value) f.word f.shift f.width ≡ field regs f.word f.shift f.width
field-put_outside regs f g value (inl other) fits = field-put_other_word regs g.word g.shift g.width value f.word f.shift f.width other
field-put_outside regs f g value (inr sides) fits = field-put_apart regs g.word g.shift g.width value f.word f.shift f.width fits sides

-- what a setting puts in the field of a kind fits it
pub record FitsKind (kind : Kind) (parents : List ℕ) : Type 0 where
  pub place : (f : Field) (p : ℕ) → mux_field kind ≡ Some f → is_in p parents ≡ true → position_or_len (λ q. q == p) parents < 2 ^ f.width
  pub put_ : (parent planned : ℕ) (regs : Registers) (f : Field) → IfSome (field_of kind) (LieApart f)
      → field (setting kind parent planned regs) f.word f.shift f.width ≡ field regs f.word f.shift f.width

pub length-setting : (kind : Kind) (parent planned : ℕ) (regs : Registers) → length (setting kind parent planned regs) ≡ length regs
length-setting (FixedRate rate) parent planned regs = refl
length-setting (Factor mult div) parent planned regs = refl
length-setting (Gate word bit set_to_disable) parent planned regs = refl
length-setting (Mux word shift width read_only) parent planned regs = refl
length-setting (Divider word shift width one_based power_of_two) parent planned regs = length-put regs word shift width _
length-setting (Pll word shift width power_word power_bit least most m) parent planned regs = length-put regs word shift width _

pub length-selecting : (o : Option Field) (place : ℕ) (regs : Registers) → length (option_map_or (λ f. put regs f.word f.shift f.width place) o regs) ≡ length regs
length-selecting None place regs = refl
length-selecting (Some f) place regs = length-put regs f.word f.shift f.width place

field-selecting : (o : Option Field) (place : ℕ) (regs : Registers) (f : Field) → IfSome o (LieApart f) → IfSome o (λ g. place < 2 ^ g.width)
    → field (option_map_or (λ g. put regs g.word g.shift g.width place) o regs) f.word f.shift f.width ≡ field regs f.word f.shift f.width
field-selecting None place regs f apart fits = refl
field-selecting (Some g) place regs f apart fits = field-put_outside regs f g place apart fits

-- ---- one step

place_fits : (o : Option Field) (place : ℕ) → ((f : Field) → o ≡ Some f → place < 2 ^ f.width) → IfSome o (λ g. place < 2 ^ g.width)
place_fits None place each = tt
place_fits (Some f) place each = each f refl

apart_of_mux : (kind : Kind) (f : Field) → IfSome (field_of kind) (LieApart f) → IfSome (mux_field kind) (LieApart f)
apart_of_mux (Mux word shift width read_only) f apart = apart
apart_of_mux (FixedRate rate) f apart = tt
apart_of_mux (Factor mult div) f apart = tt
apart_of_mux (Gate word bit set_to_disable) f apart = tt
apart_of_mux (Divider word shift width one_based power_of_two) f apart = tt
apart_of_mux (Pll word shift width power_word power_bit least most m) f apart = tt

-- what one setting leaves
pub record SetsOne (k : ChainStep) (w v : Wiring) : Type 0 where
  pub defs : v.defs ≡ w.defs
  pub words : length v.regs ≡ length w.regs
  pub size : length v.clocks ≡ length w.clocks
  pub others : (c : ℕ) → c ≢ k.clock → row_of v.clocks c ≡ row_of w.clocks c
  pub link : k.clock < length w.clocks → row_of v.clocks k.clock ≡ record (row_of w.clocks k.clock) { link = option_map clock_id k.parent }
  pub fields : (f : Field) → IfSome (field_of (kind_of w.defs k.clock)) (LieApart f) → field v.regs f.word f.shift f.width ≡ field w.regs f.word f.shift f.width

pub length-slice_set : (clocks : List ClockRow) (c : ℕ) (row : ClockRow) → length (slice_set clocks c row) ≡ length clocks
length-slice_set [] c row = refl
length-slice_set (r ∷ clocks) zero row = refl
length-slice_set (r ∷ clocks) (suc c) row = let rest = length-slice_set clocks c row in omega arith

pub same_from_place : (o q : Option ℕ) → same_place o q ≡ true → o ≡ q
same_from_place None None e = refl
same_from_place None (Some y) e = absurd cc
same_from_place (Some x) None e = absurd cc
same_from_place (Some x) (Some y) e = ap (λ (n : ℕ). Some n) (same_from_test x y e)

-- a row with the link that it has
row_link : (row : ClockRow) (o : Option ℕ) → o ≡ option_map (λ p. p.0) row.link → row ≡ record row { link = option_map clock_id o }
row_link row o e = ap (λ (l : Option _). let r : ClockRow = record row { link = l } in r) (back row.link ∙ ap (option_map clock_id) (sym e)) where
  back : (l : Option ClockId) → l ≡ option_map clock_id (option_map (λ p. p.0) l)
  back None = refl
  back (Some p) = refl

pub not_false : (t : Bool) → not t ≡ false → t ≡ true
not_false true e = refl
not_false false e = absurd cc

-- a setting leaves that
pub sets_one : (k : ChainStep) (w : Wiring) → FitsKind (kind_of w.defs k.clock) (parents_of w.defs k.clock) → HasParent w k → SetsOne k w (set_one k w)
sets_one k w fits has = by_move (moves w.clocks k) refl k.parent refl where
  by_move : (t : Bool) → moves w.clocks k ≡ t → (o : Option ℕ) → k.parent ≡ o → SetsOne k w (record w {
    regs = cond t (option_map_or (λ p. select w.defs k.clock p w.regs) o w.regs) (setting (kind_of w.defs k.clock) (parent_rate_in w k.clock) k.rate w.regs);
    clocks = cond t (option_map_or (linked w.clocks k.clock) o w.clocks) w.clocks;
  })
  by_move false stays o e = record {
    defs = refl;
    words = length-setting (kind_of w.defs k.clock) (parent_rate_in w k.clock) k.rate w.regs;
    size = refl;
    others = λ c other. refl;
    link = λ within. row_link (row_of w.clocks k.clock) k.parent (same_from_place k.parent (link_in w.clocks k.clock) (not_false (same_place k.parent (link_in w.clocks k.clock)) stays));
    fields = λ f apart. fits.put_ (parent_rate_in w k.clock) k.rate w.regs f apart;
  }
  by_move true away None e =
      let none = has.none e in
      let stays : moves w.clocks k ≡ false = ap (λ (q : Option ℕ). not (same_place q (link_in w.clocks k.clock))) e ∙ ap (λ (q : Option ℕ). not (same_place None q)) none in
      absurd cc
  by_move true away (Some p) e =
      let place = place_fits (mux_field (kind_of w.defs k.clock)) (place_of w.defs k.clock p) (λ f at. fits.place f p at (has.possible p e)) in
      record {
        defs = refl;
        words = length-selecting (mux_field (kind_of w.defs k.clock)) (place_of w.defs k.clock p) w.regs;
        size = length-slice_set w.clocks k.clock _;
        others = λ c other. row_of-set_other w.clocks k.clock _ c (λ same. other (sym same));
        link = λ within. row_of-set_same w.clocks k.clock _ within ∙ ap (λ (q : Option ℕ). let r : ClockRow = record (row_of w.clocks k.clock) { link = option_map clock_id q } in r) (sym e);
        fields = λ f apart. field-selecting (mux_field (kind_of w.defs k.clock)) (place_of w.defs k.clock p) w.regs f (apart_of_mux (kind_of w.defs k.clock) f apart) place;
      }

-- ---- the whole chain

not_first : (c x : ℕ) (xs : List ℕ) → is_in c (x ∷ xs) ≡ false → (c ≢ x) × (is_in c xs ≡ false)
not_first c x xs out =
    let parts = not_either (x == c) (is_in c xs) out in
    ((λ same. test_other x c parts.0 (sym same)), parts.1)

others_of : (c : ℕ) (ks : List ChainStep) → is_in c (clocks_in ks) ≡ false → AllByRecursion (λ k. k.clock ≢ c) ks
others_of c [] out = tt
others_of c (k ∷ ks) out = let parts = not_first c k.clock (clocks_in ks) out in ((λ same. parts.0 (sym same)), others_of c ks parts.1)

links_stay : (k : ChainStep) (ks : List ChainStep) (w u v : Wiring) → SetsOne k u v → length u.clocks ≡ length w.clocks → AllByRecursion (λ l. l.clock ≢ k.clock) ks
    → AllByRecursion (λ l. l.clock < length w.clocks → row_of u.clocks l.clock ≡ record (row_of w.clocks l.clock) { link = option_map clock_id l.parent }) ks
    → AllByRecursion (λ l. l.clock < length w.clocks → row_of v.clocks l.clock ≡ record (row_of w.clocks l.clock) { link = option_map clock_id l.parent }) ks
links_stay k [] w u v one size others links = tt
links_stay k (l ∷ ks) w u v one size others links =
    ((λ within. one.others l.clock others.0 ∙ links.0 within), links_stay k ks w u v one size others.1 links.1)

-- each kind's settings fit
abbrev pub SettingsFit : Description → Type 0
SettingsFit defs = (c : ℕ) → FitsKind (kind_of defs c) (parents_of defs c)

-- the outcome differs in the clocks of the chain alone
pub differs_in : (ks : List ChainStep) (w : Wiring) → SettingsFit w.defs → AllByRecursion (HasParent w) ks → none_twice (clocks_in ks) ≡ true → DiffersIn ks w (outcome ks w)
unfolding outcome
differs_in [] w fits has once = record { defs = refl; words = refl; size = refl; others = λ c out. refl; links = tt; fields = λ f outside. refl }
differs_in (k ∷ ks) w fits has once =
    let u : Wiring = outcome ks w in
    let split = once_head k.clock (clocks_in ks) once in
    let rest : DiffersIn ks w u = differs_in ks w fits has.1 split.1 in
    let row = rest.others k.clock split.0 in
    let there : HasParent u k = record {
      possible = λ p e. ap (λ (d : Description). is_in p (parents_of d k.clock)) rest.defs ∙ has.0.possible p e;
      none = λ e. ap (λ (r : ClockRow). option_map (λ p. p.0) r.link) row ∙ has.0.none e;
    } in
    let one : SetsOne k u (set_one k u) =
    sets_one k u (subst (λ (d : Description). FitsKind (kind_of d k.clock) (parents_of d k.clock)) (sym rest.defs) (fits k.clock)) there in
    record {
      defs = one.defs ∙ rest.defs;
      words = one.words ∙ rest.words;
      size = one.size ∙ rest.size;
      others = λ c out. let parts = not_first c k.clock (clocks_in ks) out in one.others c parts.0 ∙ rest.others c parts.1;
      links = (
        (λ within. one.link (let same : length u.clocks ≡ length w.clocks = rest.size in omega arith)
            ∙ ap (λ (r : ClockRow). let q : ClockRow = record r { link = option_map clock_id k.parent } in q) row),
        links_stay k ks w u (set_one k u) one rest.size (others_of k.clock ks split.0) rest.links,
      );
      fields = λ f outside.
          one.fields f (subst (λ (d : Description). IfSome (field_of (kind_of d k.clock)) (LieApart f)) (sym rest.defs) outside.0) ∙ rest.fields f outside.1;
    }
