-- Laws on the rows of a tree.
use Rattle.std.proofs.Common.{◌≡◌, ℕ, zero, suc, ◌<◌, ◌≤◌, ◌||◌, Bool, true, false, List, [], Option, Some, None, refl, sym, ap, ◌∙◌, ◌⊎◌, inl, inr, arith, length, nat_eq}
use Rattle.std.specs.Prelude.{slice_set, IfSome, replicate}
use Rattle.std.specs.Option.{option_map}
use Rattle.std.proofs.lemmas.List.{length-set}
use Rattle.clk_base.specs.declared.clock.ClockId.{ClockId}
use Rattle.clk_base.specs.Description.{Description, parents_of}
use Rattle.clk_model.specs.declared.row.ClockRow.{ClockRow}
use Rattle.clk_model.specs.Lists.{is_in, to_front}
use Rattle.clk_model.specs.State.{row_of, registered, link_in, unregistered_row, requested}
use Rattle.clk_model.proofs.Members.{same_from_test, test_other}
use Rattle.clk_model.proofs.StateLaws.{row_of-set_same, row_of-set_other, registered_lt}
use Rattle.clk_model.specs.Wired.{LinesEnd}
use Rattle.clk_tree.specs.TreeState.{IsTree, attached}
use Rattle.clk_model.proofs.OnceLaws.{is_in-to_front, once-to_front, few_once}
use Rattle.std.proofs.Math.Bool.{or-true}

-- ---- a tree at its making

-- no clock is registered at first
pub row_of-blank : (n c : ℕ) → row_of (replicate n unregistered_row) c ≡ unregistered_row
row_of-blank zero c = refl
row_of-blank (suc n) zero = refl
row_of-blank (suc n) (suc c) = row_of-blank n c

length-blank : (n : ℕ) → length (replicate n unregistered_row) ≡ n
length-blank zero = refl
length-blank (suc n) = ap (λ (m : ℕ). suc m) (length-blank n)

-- without a registered clock it is a tree
pub tree_made : (defs : Description) (rates : List ℕ) → LinesEnd defs → length rates ≡ length defs
    → IsTree defs (replicate (length defs) unregistered_row) [] rates
tree_made defs rates lines rated = record {
  rows = length-blank (length defs);
  rated = rated;
  lines = lines;
  linked = λ c p e. none c p e;
  links = λ c p e. none c p e;
  possible = λ c p e. none c p e;
  order_lists = record { once = refl; listed = λ c. sym (ap (λ (r : ClockRow). r.registered) (row_of-blank (length defs) c)) };
} where
  unlinked : {P : Type 0} (p : ℕ) (o : Option ℕ) → o ≡ None → o ≡ Some p → P
  unlinked p o gone e = absurd cc

  none : {P : Type 0} (c p : ℕ) → link_in (replicate (length defs) unregistered_row) c ≡ Some p → P
  none c p e = unlinked p _ (ap (λ (r : ClockRow). option_map (λ q. q.0) r.link) (row_of-blank (length defs) c)) e

-- ---- a row that is written

-- a row of a registered clock registers it and no other
pub registered-set : (clocks : List ClockRow) (c : ℕ) (row : ClockRow) (k : ℕ) → c < length clocks → row.registered ≡ true
    → registered (slice_set clocks c row) k ≡ (nat_eq c k || registered clocks k)
registered-set clocks c row k within there =
    elim (nat_eq c k) as (λ t. nat_eq c k ≡ t → registered (slice_set clocks c row) k ≡ (t || registered clocks k)) [
      | true ↦ λ same.
          ap (λ (n : ℕ). registered (slice_set clocks c row) n) (sym (same_from_test c k same))
          ∙ ap (λ (r : ClockRow). r.registered) (row_of-set_same clocks c row within) ∙ there
      | false ↦ λ other. ap (λ (r : ClockRow). r.registered) (row_of-set_other clocks c row k (λ same. test_other c k other same))
    ] refl

-- who was registered still is
pub registered-more : (clocks : List ClockRow) (c : ℕ) (row : ClockRow) (k : ℕ) → c < length clocks → row.registered ≡ true → registered clocks k ≡ true
    → registered (slice_set clocks c row) k ≡ true
registered-more clocks c row k within there was =
    registered-set clocks c row k within there ∙ ap (λ (b : Bool). nat_eq c k || b) was ∙ or-true (nat_eq c k)

-- a link is that of the row, or was there
pub link-set : (clocks : List ClockRow) (c : ℕ) (row : ClockRow) (k p : ℕ) → c < length clocks → link_in (slice_set clocks c row) k ≡ Some p
    → ((c ≡ k) × (option_map (λ q. q.0) row.link ≡ Some p)) ⊎ (link_in clocks k ≡ Some p)
link-set clocks c row k p within e =
    elim (nat_eq c k) as (λ t. nat_eq c k ≡ t → ((c ≡ k) × (option_map (λ q. q.0) row.link ≡ Some p)) ⊎ (link_in clocks k ≡ Some p)) [
      | true ↦ λ same. inl (
        same_from_test c k same,
        sym (ap (λ (r : ClockRow). option_map (λ q. q.0) r.link) (row_of-set_same clocks c row within))
            ∙ ap (λ (n : ℕ). link_in (slice_set clocks c row) n) (same_from_test c k same) ∙ e,
      )
      | false ↦ λ other. inr (sym (ap (λ (r : ClockRow). option_map (λ q. q.0) r.link) (row_of-set_other clocks c row k (λ same. test_other c k other same))) ∙ e)
    ] refl

-- what holds of a link, if there is one, holds of this link
link_has : (test : ℕ → Bool) (link : Option ClockId) (p : ℕ) → IfSome link (λ q. test q.0 ≡ true) → option_map (λ q. q.0) link ≡ Some p → test p ≡ true
link_has test None p h e = absurd cc
link_has test (Some q) p h e = ap test (sym (the_same q.0 p e)) ∙ h where
  the_same : (a b : ℕ) → Some a ≡ Some b → a ≡ b
  the_same a b e = cc

-- ---- attaching

-- a tree with a clock attached is a tree
pub tree_attached : (defs : Description) (clocks : List ClockRow) (order rates : List ℕ) (c : ℕ) (parent : Option ClockId)
    → IsTree defs clocks order rates → c < length defs
    → IfSome parent (λ q. registered clocks q.0 ≡ true) → IfSome parent (λ q. is_in q.0 (parents_of defs c) ≡ true)
    → IsTree defs (attached clocks c parent) (to_front c order) rates
tree_attached defs clocks order rates c parent tree place there can =
    let row : ClockRow = record (row_of clocks c) { registered = true; link = parent } in
    let len = tree.rows in
    let within : c < length clocks = omega arith in
    record {
      rows = length-set clocks c row ∙ tree.rows;
      rated = tree.rated;
      lines = tree.lines;
      linked = λ k p e. elim (link-set clocks c row k p within e) [
        | inl own ↦ ap (λ (n : ℕ). registered (slice_set clocks c row) n) (sym own.0) ∙ ap (λ (r : ClockRow). r.registered) (row_of-set_same clocks c row within)
        | inr was ↦ registered-more clocks c row k within refl (tree.linked k p was)
      ];
      links = λ k p e. registered-more clocks c row p within refl (elim (link-set clocks c row k p within e) [
        | inl own ↦ link_has (registered clocks) parent p there own.1
        | inr was ↦ tree.links k p was
      ]);
      possible = λ k p e. elim (link-set clocks c row k p within e) [
        | inl own ↦ ap (λ (n : ℕ). is_in p (parents_of defs n)) (sym own.0) ∙ link_has (λ q. is_in q (parents_of defs c)) parent p can own.1
        | inr was ↦ tree.possible k p was
      ];
      order_lists = record {
        once = once-to_front c order tree.order_lists.once;
        listed = λ k. is_in-to_front k c order ∙ ap (λ (b : Bool). nat_eq c k || b) (tree.order_lists.listed k) ∙ sym (registered-set clocks c row k within refl);
      };
    }

-- the order of a tree has at most as many clocks as the description
pub order-few : (defs : Description) (clocks : List ClockRow) (order rates : List ℕ) → IsTree defs clocks order rates → length order ≤ length defs
order-few defs clocks order rates tree =
    few_once order (length defs) tree.order_lists.once
    (λ q m. let below : q < length clocks = registered_lt clocks q (sym (tree.order_lists.listed q) ∙ m) in let len = tree.rows in omega arith)

-- ---- last requests

-- a row with another last request is registered and linked as before
pub registered-requested : (clocks : List ClockRow) (c rate k : ℕ) → c < length clocks → registered (requested clocks c rate) k ≡ registered clocks k
registered-requested clocks c rate k within =
    let row : ClockRow = record (row_of clocks c) { last_request = rate } in
    elim (nat_eq c k) as (λ t. nat_eq c k ≡ t → registered (slice_set clocks c row) k ≡ registered clocks k) [
      | true ↦ λ same.
          ap (λ (n : ℕ). registered (slice_set clocks c row) n) (sym (same_from_test c k same))
          ∙ ap (λ (r : ClockRow). r.registered) (row_of-set_same clocks c row within)
          ∙ ap (λ (n : ℕ). registered clocks n) (same_from_test c k same)
      | false ↦ λ other. ap (λ (r : ClockRow). r.registered) (row_of-set_other clocks c row k (λ same. test_other c k other same))
    ] refl

pub link-requested : (clocks : List ClockRow) (c rate k : ℕ) → c < length clocks → link_in (requested clocks c rate) k ≡ link_in clocks k
link-requested clocks c rate k within =
    let row : ClockRow = record (row_of clocks c) { last_request = rate } in
    elim (nat_eq c k) as (λ t. nat_eq c k ≡ t → link_in (slice_set clocks c row) k ≡ link_in clocks k) [
      | true ↦ λ same.
          ap (λ (n : ℕ). link_in (slice_set clocks c row) n) (sym (same_from_test c k same))
          ∙ ap (λ (r : ClockRow). option_map (λ p. p.0) r.link) (row_of-set_same clocks c row within)
          ∙ ap (λ (n : ℕ). link_in clocks n) (same_from_test c k same)
      | false ↦ λ other. ap (λ (r : ClockRow). option_map (λ p. p.0) r.link) (row_of-set_other clocks c row k (λ same. test_other c k other same))
    ] refl

-- a tree with another last request is a tree
pub tree_requested : (defs : Description) (clocks : List ClockRow) (order rates : List ℕ) (c rate : ℕ) → IsTree defs clocks order rates → c < length defs
    → IsTree defs (requested clocks c rate) order rates
tree_requested defs clocks order rates c rate tree place =
    let len = tree.rows in
    let within : c < length clocks = omega arith in
    record {
      rows = length-set clocks c _ ∙ tree.rows;
      rated = tree.rated;
      lines = tree.lines;
      linked = λ k p e. registered-requested clocks c rate k within ∙ tree.linked k p (sym (link-requested clocks c rate k within) ∙ e);
      links = λ k p e. registered-requested clocks c rate p within ∙ tree.links k p (sym (link-requested clocks c rate k within) ∙ e);
      possible = λ k p e. tree.possible k p (sym (link-requested clocks c rate k within) ∙ e);
      order_lists = record { once = tree.order_lists.once; listed = λ k. tree.order_lists.listed k ∙ sym (registered-requested clocks c rate k within) };
    }
