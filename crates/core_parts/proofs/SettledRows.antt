-- Settling clock by clock, in whichever order.
use Rattle.std.proofs.Common.{◌≡◌, ℕ, zero, suc, ◌+◌, ◌<◌, ◌≤◌, ◌⊎◌, inl, inr, true, List, [], ◌∷◌, ◌++◌, Option, Some, None, refl, sym, ap, subst, ◌∙◌, length, set, append-nil, arith}
use Rattle.std.specs.Prelude.{slice_get, slice_index, take}
use Rattle.std.specs.List.{flat_map}
use Rattle.std.specs.Option.{option_map}
use Rattle.std.proofs.Math.Path.{fun_ext}
use Rattle.std.specs.Prelude.{filter}
use Rattle.clk_model.specs.Lists.{is_at, is_in}
use Rattle.clk_model.proofs.StateLaws.{row_of-set_other}
use Rattle.std.proofs.lemmas.Grind.{flat_map-append}
use Rattle.clk_base.specs.declared.clock.ClockId.{ClockId}
use Rattle.clk_model.specs.declared.row.ClockRow.{ClockRow}
use Rattle.clk_model.specs.State.{row_of, registered, link_in, requested}
use Rattle.clk_model.specs.Tree.{children}
use Rattle.clk_model.specs.Walk.{below_within}
use Rattle.clk_model.proofs.HoldSteps.{link_set_same}
use Rattle.clk_model.proofs.SceneStepLaws.{registered_set}
use Rattle.clk_model.proofs.WholePathLaws.{same_or_not}
use Rattle.clk_tree.specs.TreeState.{TreeState, IsTree}
use Rattle.clk_tree.proofs.Rows.{order-few}
use Rattle.clk_model.proofs.PllLaws.{at_place}
use Rattle.core_parts.proofs.Shapes.{registered_lies}
use Rattle.clk_model.proofs.OnceLaws.{length-filter-le, is_in-filter}
use Rattle.std.proofs.lemmas.List.{take_all}
use Rattle.core_parts.specs.Settling.{settled_rows}

-- ---- links and who is registered stay

pub links_settled : (rates : ℕ → ℕ) (clocks : List ClockRow) (cs : List ℕ) (d : ℕ) → link_in (settled_rows rates clocks cs) d ≡ link_in clocks d
links_settled rates clocks [] d = refl
links_settled rates clocks (c ∷ cs) d =
    link_set_same (settled_rows rates clocks cs) c (record (row_of (settled_rows rates clocks cs) c) { last_request = rates c }) d refl ∙ links_settled rates clocks cs d

pub there_settled : (rates : ℕ → ℕ) (clocks : List ClockRow) (cs : List ℕ) (d : ℕ) → registered (settled_rows rates clocks cs) d ≡ registered clocks d
there_settled rates clocks [] d = refl
there_settled rates clocks (c ∷ cs) d =
    registered_set (settled_rows rates clocks cs) c (record (row_of (settled_rows rates clocks cs) c) { last_request = rates c }) d refl ∙ there_settled rates clocks cs d

-- ---- in whichever order

set_twice : (xs : List ClockRow) (a b : ℕ) (x y : ClockRow) → (a ≡ b → ⊥) → set (set xs a x) b y ≡ set (set xs b y) a x
set_twice [] a b x y other = refl
set_twice (z ∷ zs) zero zero x y other = absurd (other refl)
set_twice (z ∷ zs) zero (suc b) x y other = refl
set_twice (z ∷ zs) (suc a) zero x y other = refl
set_twice (z ∷ zs) (suc a) (suc b) x y other = ap (λ (ys : List ClockRow). z ∷ ys) (set_twice zs a b x y (λ same. other (ap suc same)))

requested_twice : (rates : ℕ → ℕ) (clocks : List ClockRow) (a b : ℕ) → requested (requested clocks a (rates a)) b (rates b) ≡ requested (requested clocks b (rates b)) a (rates a)
requested_twice rates clocks a b = by (same_or_not a b) where
  by : (a ≡ b) ⊎ (a ≡ b → ⊥) → requested (requested clocks a (rates a)) b (rates b) ≡ requested (requested clocks b (rates b)) a (rates a)
  by (inl same) = subst (λ (k : ℕ). requested (requested clocks a (rates a)) k (rates k) ≡ requested (requested clocks k (rates k)) a (rates a)) same refl
  by (inr other) =
      let one : row_of (requested clocks a (rates a)) b ≡ row_of clocks b = row_of-set_other clocks a _ b other in
      let two : row_of (requested clocks b (rates b)) a ≡ row_of clocks a = row_of-set_other clocks b _ a (λ same. other (sym same)) in
      ap (λ (r : ClockRow). set (requested clocks a (rates a)) b (record r { last_request = rates b })) one
      ∙ set_twice clocks a b (record (row_of clocks a) { last_request = rates a }) (record (row_of clocks b) { last_request = rates b }) other
      ∙ sym (ap (λ (r : ClockRow). set (requested clocks b (rates b)) a (record r { last_request = rates a })) two)

pub settled_behind : (rates : ℕ → ℕ) (clocks : List ClockRow) (c : ℕ) (cs : List ℕ) → settled_rows rates (requested clocks c (rates c)) cs ≡ requested (settled_rows rates clocks cs) c (rates c)
settled_behind rates clocks c [] = refl
settled_behind rates clocks c (d ∷ ds) =
    ap (λ (rs : List ClockRow). requested rs d (rates d)) (settled_behind rates clocks c ds) ∙ requested_twice rates (settled_rows rates clocks ds) c d

settled_swap : (rates : ℕ → ℕ) (clocks : List ClockRow) (xs ys : List ℕ) → settled_rows rates (settled_rows rates clocks ys) xs ≡ settled_rows rates (settled_rows rates clocks xs) ys
settled_swap rates clocks xs [] = refl
settled_swap rates clocks xs (y ∷ ys) =
    settled_behind rates (settled_rows rates clocks ys) y xs ∙ ap (λ (rs : List ClockRow). requested rs y (rates y)) (settled_swap rates clocks xs ys)

settled_append : (rates : ℕ → ℕ) (clocks : List ClockRow) (xs ys : List ℕ) → settled_rows rates clocks (xs ++ ys) ≡ settled_rows rates (settled_rows rates clocks ys) xs
settled_append rates clocks [] ys = refl
settled_append rates clocks (x ∷ xs) ys = ap (λ (rs : List ClockRow). requested rs x (rates x)) (settled_append rates clocks xs ys)

-- these, and then those
pub settled_both : (rates : ℕ → ℕ) (clocks : List ClockRow) (xs ys : List ℕ) → settled_rows rates (settled_rows rates clocks xs) ys ≡ settled_rows rates clocks (xs ++ ys)
settled_both rates clocks xs ys = sym (settled_swap rates clocks xs ys) ∙ sym (settled_append rates clocks xs ys)

-- ---- children

pub children_same : (order : List ℕ) (old new : List ClockRow) → ((d : ℕ) → link_in new d ≡ link_in old d) → children order new ≡ children order old
children_same order old new same = ap kids (fun_ext same) where
  kids : (ℕ → Option ℕ) → ℕ → List ℕ
  kids up p = filter (λ c. is_at p (up c)) order

-- the children up to a place are settled
pub record Settling (old now : TreeState) (levels clock : ℕ) (next : Option ClockId) (step : ℕ) : Type 0 where
  pub clocks : now.clocks ≡ settled_rows (slice_index old.rates) (requested old.clocks clock (slice_index old.rates clock)) (flat_map (below_within (children old.order old.clocks) levels) (take step (children old.order old.clocks clock)))
  pub order : now.order ≡ old.order
  pub rates : now.rates ≡ old.rates
  pub defs : now.defs ≡ old.defs
  pub checked : now.words ≡ old.words
  pub stands : IsTree now.defs now.clocks now.order now.rates
  pub next_ : option_map (λ c. c.0) next ≡ slice_get (children old.order old.clocks clock) step

-- the links are those before
settling_links : (old now : TreeState) (levels clock : ℕ) (next : Option ClockId) (step : ℕ) → Settling old now levels clock next step → (d : ℕ) → link_in now.clocks d ≡ link_in old.clocks d
settling_links old now levels clock next step is d =
    ap (λ (rs : List ClockRow). link_in rs d) is.clocks
    ∙ links_settled (slice_index old.rates) (requested old.clocks clock (slice_index old.rates clock)) (flat_map (below_within (children old.order old.clocks) levels) (take step (children old.order old.clocks clock))) d
    ∙ links_settled (slice_index old.rates) old.clocks (clock ∷ []) d

pub settling_begins : (old now : TreeState) (levels clock : ℕ) (next : Option ClockId) → now.clocks ≡ requested old.clocks clock (slice_index old.rates clock) → now.order ≡ old.order → now.rates ≡ old.rates → now.defs ≡ old.defs → now.words ≡ old.words
    → IsTree now.defs now.clocks now.order now.rates → option_map (λ c. c.0) next ≡ slice_get (children now.order now.clocks clock) 0 → Settling old now levels clock next 0
settling_begins old now levels clock next clocks order rates defs checked stands first = record {
  clocks = clocks;
  order = order;
  rates = rates;
  defs = defs;
  checked = checked;
  stands = stands;
  next_ =
      first ∙ ap (λ (ks : ℕ → List ℕ). slice_get (ks clock) 0)
      (ap (λ (xs : List ℕ). children xs now.clocks) order ∙ children_same old.order old.clocks now.clocks (λ d. ap (λ (rs : List ClockRow). link_in rs d) clocks ∙ links_settled (slice_index old.rates) old.clocks (clock ∷ []) d));
}

take_at : (xs : List ℕ) (n x : ℕ) → slice_get xs n ≡ Some x → take (suc n) xs ≡ take n xs ++ x ∷ []
take_at [] n x e = absurd cc
take_at (y ∷ ys) zero x e = let same : y ≡ x = cc in ap (λ (z : ℕ). z ∷ []) same
take_at (y ∷ ys) (suc n) x e = ap (λ (zs : List ℕ). y ∷ zs) (take_at ys n x e)

pub settling_goes : (old mid new : TreeState) (levels clock : ℕ) (child : ClockId) (next' : Option ClockId) (step : ℕ) → Settling old mid levels clock (Some child) step
    → new.clocks ≡ settled_rows (slice_index mid.rates) mid.clocks (below_within (children mid.order mid.clocks) levels child.0) → new.order ≡ mid.order → new.rates ≡ mid.rates → new.defs ≡ mid.defs → new.words ≡ mid.words
    → IsTree new.defs new.clocks new.order new.rates → ((p k : ℕ) → slice_get (children new.order new.clocks p) k ≡ Some child.0 → option_map (λ d. d.0) next' ≡ slice_get (children new.order new.clocks p) (k + 1))
    → Settling old new levels clock next' (suc step)
settling_goes old mid new levels clock child next' step is clocks order rates defs checked stands follows = record {
  clocks =
      clocks ∙ ap (λ (xs : List ℕ). settled_rows (slice_index xs) mid.clocks (below_within (children mid.order mid.clocks) levels child.0)) is.rates
      ∙ ap (λ (ks : ℕ → List ℕ). settled_rows f mid.clocks (below_within ks levels child.0)) kids_mid
      ∙ ap (λ (rs : List ClockRow). settled_rows f rs (below_within kids levels child.0)) is.clocks
      ∙ settled_both f (requested old.clocks clock (f clock)) (flat_map (below_within kids levels) (take step (kids clock))) (below_within kids levels child.0)
      ∙ ap (settled_rows f (requested old.clocks clock (f clock))) (sym more);
  order = order ∙ is.order;
  rates = rates ∙ is.rates;
  defs = defs ∙ is.defs;
  checked = checked ∙ is.checked;
  stands = stands;
  next_ =
      follows clock step (ap (λ (ks : ℕ → List ℕ). slice_get (ks clock) step) kids_new ∙ sym is.next_)
      ∙ ap (λ (ks : ℕ → List ℕ). slice_get (ks clock) (step + 1)) kids_new ∙ ap (slice_get (kids clock)) (let one : step + 1 ≡ suc step = omega arith in one);
} where
  f : ℕ → ℕ
  f = slice_index old.rates

  kids : ℕ → List ℕ
  kids = children old.order old.clocks

  kids_mid : children mid.order mid.clocks ≡ kids
  kids_mid = ap (λ (xs : List ℕ). children xs mid.clocks) is.order ∙ children_same old.order old.clocks mid.clocks (settling_links old mid levels clock (Some child) step is)

  links_new : (d : ℕ) → link_in new.clocks d ≡ link_in old.clocks d
  links_new d =
      ap (λ (rs : List ClockRow). link_in rs d) clocks ∙ links_settled (slice_index mid.rates) mid.clocks (below_within (children mid.order mid.clocks) levels child.0) d
      ∙ settling_links old mid levels clock (Some child) step is d

  kids_new : children new.order new.clocks ≡ kids
  kids_new = ap (λ (xs : List ℕ). children xs new.clocks) (order ∙ is.order) ∙ children_same old.order old.clocks new.clocks links_new

  more : flat_map (below_within kids levels) (take (suc step) (kids clock)) ≡ flat_map (below_within kids levels) (take step (kids clock)) ++ below_within kids levels child.0
  more =
      ap (flat_map (below_within kids levels)) (take_at (kids clock) step child.0 (sym is.next_))
      ∙ flat_map-append (below_within kids levels) (take step (kids clock)) (child.0 ∷ [])
      ∙ ap (λ (xs : List ℕ). flat_map (below_within kids levels) (take step (kids clock)) ++ xs) (append-nil (below_within kids levels child.0))

-- where all children are settled the clock and all below it are
pub settling_done : (old now : TreeState) (deep levels clock : ℕ) (next : Option ClockId) (step : ℕ) → deep ≡ suc levels → Settling old now levels clock next step → length (children old.order old.clocks clock) ≤ step
    → now.clocks ≡ settled_rows (slice_index old.rates) old.clocks (below_within (children old.order old.clocks) deep clock)
settling_done old now deep levels clock next step is_deep is past =
    is.clocks
    ∙ ap (λ (xs : List ℕ). settled_rows f (requested old.clocks clock (f clock)) (flat_map (below_within kids levels) xs)) (take_all step (kids clock) past)
    ∙ settled_behind f old.clocks clock (flat_map (below_within kids levels) (kids clock))
    ∙ ap (λ (n : ℕ). settled_rows f old.clocks (below_within kids n clock)) (sym is_deep) where
      f : ℕ → ℕ
      f = slice_index old.rates

      kids : ℕ → List ℕ
      kids = children old.order old.clocks

-- no child is left
pub none_next : (xs : List ℕ) (n : ℕ) (next : Option ClockId) → option_map (λ c. c.0) next ≡ slice_get xs n → next ≡ None → length xs ≤ n
none_next xs n next at none = by xs n (sym at ∙ ap (option_map (λ c. c.0)) none) where
  by : (ys : List ℕ) (k : ℕ) → slice_get ys k ≡ None → length ys ≤ k
  by [] k e = omega arith
  by (y ∷ ys) zero e = absurd cc
  by (y ∷ ys) (suc k) e = let less = by ys k e in omega arith

-- a clock has no more children than there are clocks
pub few_children : (t : TreeState) (n clock : ℕ) → IsTree t.defs t.clocks t.order t.rates → length t.defs ≡ n → length (children t.order t.clocks clock) ≤ n
few_children t n clock stands many =
    let few = order-few t.defs t.clocks t.order t.rates stands in
    let kids = length-filter-le (λ c. is_at clock (link_in t.clocks c)) t.order in
    omega arith

-- the next child is a clock of the tree
pub settling_inside : (old now : TreeState) (levels clock : ℕ) (child : ClockId) (step : ℕ) → Settling old now levels clock (Some child) step → child.0 < length now.defs
settling_inside old now levels clock child step is =
    let kids : children now.order now.clocks ≡ children old.order old.clocks =
    ap (λ (xs : List ℕ). children xs now.clocks) is.order ∙ children_same old.order old.clocks now.clocks (settling_links old now levels clock (Some child) step is) in
    let at : slice_get (children now.order now.clocks clock) step ≡ Some child.0 = ap (λ (ks : ℕ → List ℕ). slice_get (ks clock) step) kids ∙ sym is.next_ in
    let among : is_in child.0 now.order ≡ true = is_in-filter (λ c. is_at clock (link_in now.clocks c)) child.0 now.order (at_place (children now.order now.clocks clock) step child.0 at) in
    registered_lies now.defs now.clocks now.order now.rates child.0 is.stands (sym (is.stands.order_lists.listed child.0) ∙ among)
