-- What a registration lets adopt: who is prepared behind it, that someone is adopted where someone can be, and that the first words of a bank tell all.
use Rattle.std.proofs.Common.{◌≡◌, ℕ, zero, suc, ◌&&◌, ◌||◌, ◌⊎◌, inl, inr, not, Bool, true, false, cond, List, [], ◌∷◌, Option, Some, None, refl, sym, ap, subst, ◌∙◌, length, take, nat_eq}
use Rattle.std.proofs.Math.Path.{fun_ext}
use Rattle.std.specs.Prelude.{All, IfSome, filter, find, slice_set}
use Rattle.std.specs.List.{list_all, list_any}
use Rattle.std.specs.Option.{option_map, option_map_or}
use Rattle.std.proofs.lemmas.List.Elements.{All-head, All-tail}
use Rattle.clk_base.specs.declared.clock.ClockId.{ClockId}
use Rattle.clk_base.specs.Description.{Description, parents_of}
use Rattle.clk_base.specs.Flags.{is_critical}
use Rattle.clk_base.specs.Levels.{depth, ends_within}
use Rattle.clk_base.specs.Places.{places}
use Rattle.clk_base.specs.Valid.{IsValid}
use Rattle.clk_base.proofs.Lines.{ends_within-parent, ends_within-more}
use Rattle.reg_bank.specs.Registers.{Registers}
use Rattle.clk_model.specs.declared.row.ClockRow.{ClockRow}
use Rattle.clk_model.specs.Begin.{registered_row, registered_rows, register}
use Rattle.clk_model.specs.Chain.{clock_id}
use Rattle.clk_model.specs.Holders.{prepared}
use Rattle.clk_model.specs.Lists.{is_in, to_front, without_one}
use Rattle.clk_model.specs.Rate.{rate}
use Rattle.clk_model.specs.Script.{adoptable, adoption_order, is_next}
use Rattle.clk_model.specs.State.{State, registered, link_in}
use Rattle.clk_model.specs.Tree.{path, path_to_be, path_within, link_given, orphans}
use Rattle.clk_model.specs.Wired.{LinesEnd, LinksArePossible}
use Rattle.clk_model.proofs.ArriveLaws.{prepared_told, to_be_told}
use Rattle.clk_model.proofs.Members.{any_in, is_in_head, is_in_cases, or_left, or_right, same_from_test}
use Rattle.clk_model.proofs.OnceLaws.{filter_passes}
use Rattle.clk_model.proofs.PathLaws.{path_all}
use Rattle.clk_model.proofs.PlanGoLaws.{free_scene}
use Rattle.clk_model.proofs.PllLaws.{link_given_possible}
use Rattle.clk_model.proofs.ProbeGoLaws.{Resting, can_register, registered_prepares, registered_scene}
use Rattle.clk_model.proofs.RegisterGoLaws.{register_keeps}
use Rattle.clk_model.proofs.Scenes.{Scene, scene, holding, prepared_in, to_be}
use Rattle.clk_model.proofs.WalkLaws.{either_way}
use Rattle.clk_model.proofs.LinkBegins.{register_defs}
use Rattle.clk_model.proofs.AdoptGoLaws.{left_was}
use Rattle.clk_machine.specs.Adopting.{adopted}
use Rattle.clk_machine.specs.Parts.{Parts, IsWhole}
use Rattle.clk_machine.specs.Sound.{IsLike}
use Rattle.clk_machine.specs.Stands.{Stands}
use Rattle.core_parts.proofs.RegisteredTree.{link_given-take, rate-take}
use Rattle.clk_machine.proofs.Unmoved.{resting_like}

-- ---- who is prepared

-- behind a registration who was prepared is, and the path that a critical clock was to have
pub prepared_behind : (words : ℕ) (s : State) (c x : ℕ) → IsLike words s → s.change ≡ None → registered s.clocks c ≡ false
    → prepared (register s c) x ≡ (prepared s x || (is_critical s.defs c && is_in x (path_to_be s.defs s.regs s.clocks c)))
prepared_behind words s c x is quiet free =
    prepared_told None None s (register s c) (scene None (register s c)) x (register_defs s c) refl
    ∙ either_way (prepared_in s.defs (scene None (register s c)) x) (prepared s x || (is_critical s.defs c && is_in x (path_to_be s.defs s.regs s.clocks c))) grows stays where
      rest : Resting s
      rest = resting_like words s is quiet

      told : prepared s x ≡ prepared_in s.defs (scene None s) x
      told = prepared_told None None s s (scene None s) x refl refl

      both : (a b : Bool) → a ≡ true → b ≡ true → (a && b) ≡ true
      both true b one two = two
      both false b one two = absurd cc

      parts : (a b : Bool) → (a && b) ≡ true → (a ≡ true) × (b ≡ true)
      parts true b e = (refl, e)
      parts false b e = absurd cc

      cases : (a b : Bool) → (a || b) ≡ true → (a ≡ true) ⊎ (b ≡ true)
      cases true b e = inl refl
      cases false b e = inr e

      grows : prepared_in s.defs (scene None (register s c)) x ≡ true → (prepared s x || (is_critical s.defs c && is_in x (path_to_be s.defs s.regs s.clocks c))) ≡ true
      grows prep = elim (registered_prepares s (clock_id c) x rest free prep) [
        | inl was ↦ or_left (prepared s x) _ was
        | inr new ↦ or_right (prepared s x) _ (both _ _ new.0 new.1)
      ]

      came : (prepared_in s.defs (holding (scene None s) [] [] None) x ≡ true) ⊎ ((is_critical s.defs c ≡ true) × (is_in x (to_be (scene None s) c) ≡ true)) → prepared_in s.defs (scene None (register s c)) x ≡ true
      came was =
          subst (λ (a : Scene). prepared_in s.defs a x ≡ true) (registered_scene s (clock_id c) rest)
          (register_keeps s.defs (scene None s) (clock_id c) x (can_register s c rest free) was)

      stays : (prepared s x || (is_critical s.defs c && is_in x (path_to_be s.defs s.regs s.clocks c))) ≡ true → prepared_in s.defs (scene None (register s c)) x ≡ true
      stays is_so = elim (cases (prepared s x) (is_critical s.defs c && is_in x (path_to_be s.defs s.regs s.clocks c)) is_so) [
        | inl was ↦ came (inl (subst (λ (a : Scene). prepared_in s.defs a x ≡ true) (free_scene s rest.prepares rest.enables) (sym told ∙ was)))
        | inr new ↦
            let two = parts (is_critical s.defs c) (is_in x (path_to_be s.defs s.regs s.clocks c)) new in
            came (inr (two.0, ap (is_in x) (sym (to_be_told None s (scene None s) c refl)) ∙ two.1))
      ]

-- ---- someone is adopted where someone can be

-- lines from the clocks of a path end as soon
ends_along : (parents : ℕ → List ℕ) (up : ℕ → Option ℕ) (n levels c a : ℕ) → ((b p : ℕ) → up b ≡ Some p → is_in p (parents b) ≡ true) → ends_within parents n c ≡ true → is_in a (path_within up levels c) ≡ true
    → ends_within parents n a ≡ true
ends_along parents up n levels c a possible ends m = path_all (λ b. ends_within parents n b ≡ true) up levels c a (λ b p here at. closed n b p here at) ends m where
  closed : (k b p : ℕ) → ends_within parents k b ≡ true → up b ≡ Some p → ends_within parents k p ≡ true
  closed zero b p here at = absurd cc
  closed (suc k) b p here at = ends_within-more parents k p (ends_within-parent parents k b p here (possible b p at))

-- where a search finds nothing, no clock of the list passes
find_fails : (test : ℕ → Bool) (xs : List ℕ) (x : ℕ) → find test xs ≡ None → is_in x xs ≡ true → test x ≡ false
find_fails test [] x none m = absurd cc
find_fails test (y ∷ ys) x none m = by (test y) refl none (is_in_cases x y ys m) (λ n k. find_fails test ys x n k) where
  by : (t : Bool) → test y ≡ t → cond t (Some y) (find test ys) ≡ None → (y ≡ x) ⊎ (is_in x ys ≡ true) → (find test ys ≡ None → is_in x ys ≡ true → test x ≡ false) → test x ≡ false
  by true e none' has more = absurd cc
  by false e none' (inl same) more = ap test (sym same) ∙ e
  by false e none' (inr later) more = more none' later

-- each clock of a list has a parent to be given
abbrev EachGiven : State → List ℕ → Type 0
EachGiven r left = (a : ℕ) → is_in a left ≡ true → (p : ℕ) × (link_given r.defs r.regs r.clocks a ≡ Some p)

-- so among those that wait one is next: above the new parent of each other stands one that has fewer above it
next_found : (r : State) (left : List ℕ) (n a : ℕ) → LinksArePossible r.defs r.clocks → EachGiven r left → ends_within (parents_of r.defs) n a ≡ true → is_in a left ≡ true → find (is_next r left) left ≡ None → ⊥
next_found r left zero a possible given ends m none = absurd cc
next_found r left (suc n) a possible given ends m none =
    let p = given a m in
    let fails : is_next r left a ≡ false = find_fails (is_next r left) left a none m in
    let above : list_any (λ b. is_in b (path r.clocks p.0)) (without_one a left) ≡ true =
    not_off _ (sym (ap (λ (o : Option ℕ). option_map_or (λ q. not (list_any (λ b. is_in b (path r.clocks q)) (without_one a left))) o false) p.1) ∙ fails) in
    let other = any_in (λ b. is_in b (path r.clocks p.0)) (without_one a left) above in
    let line : ends_within (parents_of r.defs) n p.0 ≡ true = ends_within-parent (parents_of r.defs) n a p.0 ends (link_given_possible r.defs r.regs r.clocks a p.0 p.1) in
    next_found r left n other.0 possible given (ends_along (parents_of r.defs) (link_in r.clocks) n depth p.0 other.0 possible line other.2) (left_was a other.0 left other.1) none where
      not_off : (b : Bool) → not b ≡ false → b ≡ true
      not_off true e = refl
      not_off false e = absurd cc

some_given : (o : Option ℕ) → option_map_or (λ p. true) o false ≡ true → (p : ℕ) × (o ≡ Some p)
some_given None e = absurd cc
some_given (Some p) e = (p, refl)

-- an order without a clock is that of no orphans
pub none_adopted : (r : State) → LinesEnd r.defs → LinksArePossible r.defs r.clocks → adopted r ≡ [] → adoptable r ≡ []
none_adopted r lines possible none = by (adoptable r) refl none where
  given : (left : List ℕ) → adoptable r ≡ left → EachGiven r left
  given left is a m =
      some_given (link_given r.defs r.regs r.clocks a)
      (filter_passes (λ b. option_map_or (λ p. true) (link_given r.defs r.regs r.clocks b) false) a (orphans r.defs r.order r.clocks) (ap (is_in a) is ∙ m))

  found : (a : ℕ) (left : List ℕ) (o : Option ℕ) → adoptable r ≡ a ∷ left → find (is_next r (a ∷ left)) (a ∷ left) ≡ o → option_map_or (λ b. b ∷ adoption_order (length left) r (without_one b (a ∷ left))) o [] ≡ [] → ⊥
  found a left None is at e = next_found r (a ∷ left) depth a possible (given (a ∷ left) is) (lines a) (is_in_head a left) at
  found a left (Some b) is at e = cc

  by : (left : List ℕ) → adoptable r ≡ left → adoption_order (length left) r left ≡ [] → left ≡ []
  by [] is e = refl
  by (a ∷ left) is e = absurd (found a left (find (is_next r (a ∷ left)) (a ∷ left)) is refl e)

-- ---- over the first words of a bank

-- the rows with a clock registered are the same over the first words
pub registered_rows-take : (n : ℕ) (defs : Description) (regs : Registers) (clocks : List ClockRow) (c : ℕ) → IsValid n defs → registered_rows defs (take n regs) clocks c ≡ registered_rows defs regs clocks c
registered_rows-take n defs regs clocks c valid =
    ap (λ (l : Option ℕ). slice_set clocks c (record (row l) { last_request = rate defs (take n regs) (slice_set clocks c (row l)) c })) (link_given-take n defs regs clocks c valid)
    ∙ ap (λ (r : ℕ). slice_set clocks c (record (registered_row defs regs clocks c) { last_request = r })) (rate-take n defs regs (slice_set clocks c (registered_row defs regs clocks c)) c valid) where
      row : Option ℕ → ClockRow
      row l = record { registered = true; link = option_map clock_id l; last_request = 0 }

-- a state over all the words of its bank
abbrev pub over_all : State → Registers → State
over_all s all = record s { regs = all }

-- a registration over them is one over the first
registered_over : (n : ℕ) (s : State) (c : ℕ) (all : Registers) → IsValid n s.defs → s.regs ≡ take n all → register (over_all s all) c ≡ over_all (register s c) all
unfolding register
registered_over n s c all valid first =
    ap (λ (rows : List ClockRow). let t : State = record s { regs = all; clocks = rows; order = to_front c s.order } in t)
    (sym (ap (λ (regs : Registers). registered_rows s.defs regs s.clocks c) first ∙ registered_rows-take n s.defs all s.clocks c valid))

-- the order of adoptions reads the registers by the parents to be given alone
same_order : (r : State) (all : Registers) → ((a : ℕ) → link_given r.defs all r.clocks a ≡ link_given r.defs r.regs r.clocks a) → (k : ℕ) (left : List ℕ) → adoption_order k (over_all r all) left ≡ adoption_order k r left
same_order r all each zero left = refl
same_order r all each (suc k) left =
    ap (λ (test : ℕ → Bool). option_map_or (λ a. a ∷ adoption_order k (over_all r all) (without_one a left)) (find test left) []) (fun_ext next_same)
    ∙ by (find (is_next r left) left) (λ a. same_order r all each k (without_one a left)) where
      next_same : (a : ℕ) → is_next (over_all r all) left a ≡ is_next r left a
      next_same a = ap (λ (o : Option ℕ). option_map_or (λ p. not (list_any (λ b. is_in b (path r.clocks p)) (without_one a left))) o false) (each a)

      by : (o : Option ℕ) → ((a : ℕ) → adoption_order k (over_all r all) (without_one a left) ≡ adoption_order k r (without_one a left))
          → option_map_or (λ a. a ∷ adoption_order k (over_all r all) (without_one a left)) o [] ≡ option_map_or (λ a. a ∷ adoption_order k r (without_one a left)) o []
      by None rest = refl
      by (Some a) rest = ap (λ (xs : List ℕ). a ∷ xs) (rest a)

same_adopted : (r : State) (all : Registers) → ((a : ℕ) → link_given r.defs all r.clocks a ≡ link_given r.defs r.regs r.clocks a) → adopted (over_all r all) ≡ adopted r
same_adopted r all each =
    ap (λ (xs : List ℕ). adoption_order (length xs) (over_all r all) xs)
    (ap (λ (test : ℕ → Bool). filter test (orphans r.defs r.order r.clocks)) (fun_ext (λ a. ap (λ (o : Option ℕ). option_map_or (λ p. true) o false) (each a))))
    ∙ same_order r all each (length (adoptable r)) (adoptable r)

pub register_regs : (s : State) (c : ℕ) → (register s c).regs ≡ s.regs
unfolding register
register_regs s c = refl

-- so the orphans that are adopted over all words are those over the first
pub adopted_first : (n : ℕ) (s : State) (c : ℕ) (all : Registers) → IsValid n s.defs → s.regs ≡ take n all → adopted (register (over_all s all) c) ≡ adopted (register s c)
adopted_first n s c all valid first =
    ap adopted (registered_over n s c all valid first)
    ∙ same_adopted (register s c) all (λ a.
    sym (ap (λ (regs : Registers). link_given (register s c).defs regs (register s c).clocks a) (register_regs s c ∙ first)
    ∙ link_given-take n (register s c).defs all (register s c).clocks a (subst (IsValid n) (sym (register_defs s c)) valid)))

-- and the parent that an orphan gets
pub beside_first : (n : ℕ) (told : Option (List ℕ)) (defs : Description) (clocks : List ClockRow) (c a : ℕ) (parent : Option ClockId) → IsValid n defs
    → ((regs : Registers) → told ≡ Some regs → option_map (λ p. p.0) parent ≡ link_given defs regs (registered_rows defs regs clocks c) a)
    → IfSome (option_map (take n) told) (λ regs. option_map (λ p. p.0) parent ≡ link_given defs regs (registered_rows defs regs clocks c) a)
beside_first n None defs clocks c a parent valid link = tt
beside_first n (Some regs) defs clocks c a parent valid link =
    link regs refl ∙ ap (λ (rows : List ClockRow). link_given defs regs rows a) (sym (registered_rows-take n defs regs clocks c valid))
    ∙ sym (link_given-take n defs regs (registered_rows defs (take n regs) clocks c) a valid)

-- the words of a bank of which the first are told
pub all_words : (n : ℕ) (told : Option Registers) (regs : Registers) → option_map (take n) told ≡ Some regs → (all : Registers) × (told ≡ Some all) × (regs ≡ take n all)
all_words n None regs e = absurd cc
all_words n (Some all) regs e = (all, refl, inside e) where
  inside : {x y : Registers} → Some x ≡ Some y → y ≡ x
  inside h = cc

-- what holds of each clock of a list passes as a test
pub all_listed : (test : ℕ → Bool) (xs : List ClockId) → All (λ c. test c.0 ≡ true) xs → list_all test (places xs) ≡ true
all_listed test [] all = refl
all_listed test (x ∷ xs) all =
    ap (λ (t : Bool). t && list_all test (places xs)) (All-head (λ (c : ClockId). test c.0 ≡ true) x xs all) ∙ all_listed test xs (All-tail (λ (c : ClockId). test c.0 ≡ true) x xs all)

-- ---- what the parts stand for

-- the description of a state that they stand for is valid for their words
pub valid_in : (m : Parts) (s : State) → IsWhole m → Stands m s → IsValid m.window.size s.defs
valid_in m s whole stands = subst (λ (n : ℕ). IsValid n s.defs) (sym whole.tied.words) (subst (IsValid m.desc.words) (sym stands.defs) whole.tied.valid)

-- a registration in the state, by the parts
pub rows_beside : (m : Parts) (s : State) (c : ℕ) → Stands m s → (register s c).clocks ≡ registered_rows m.desc.defs s.regs m.tree.clocks c
unfolding register
rows_beside m s c stands =
    ap (λ (ds : Description). registered_rows ds s.regs s.clocks c) stands.defs ∙ ap (λ (rows : List ClockRow). registered_rows m.desc.defs s.regs rows c) stands.clocks

-- the parent that a clock is given behind a registration
pub given_beside : (m : Parts) (s : State) (c a : ℕ) (parent : Option ClockId) → Stands m s
    → IfSome m.window.words (λ regs. option_map (λ p. p.0) parent ≡ link_given m.desc.defs regs (registered_rows m.desc.defs regs m.tree.clocks c) a)
    → option_map (λ p. p.0) parent ≡ link_given (register s c).defs (register s c).regs (register s c).clocks a
given_beside m s c a parent stands is =
    subst (λ (o : Option (List ℕ)). IfSome o (λ regs. option_map (λ p. p.0) parent ≡ link_given m.desc.defs regs (registered_rows m.desc.defs regs m.tree.clocks c) a)) stands.regs is
    ∙ ap (λ (rows : List ClockRow). link_given m.desc.defs s.regs rows a) (sym (rows_beside m s c stands))
    ∙ ap (λ (regs : Registers). link_given m.desc.defs regs (register s c).clocks a) (sym (register_regs s c))
    ∙ ap (λ (ds : Description). link_given ds (register s c).regs (register s c).clocks a) (sym (register_defs s c ∙ stands.defs))

-- the path that a clock that isn't registered is to get leads over a clock that is where that of its parent does
pub above_to_be : (m : Parts) (s : State) (c a : ℕ) (parent : Option ClockId) → Stands m s → registered m.tree.clocks c ≡ false → registered m.tree.clocks a ≡ true
    → IfSome m.window.words (λ regs. option_map (λ p. p.0) parent ≡ link_given m.desc.defs regs m.tree.clocks c)
    → option_map_or (λ p. is_in a (path m.tree.clocks p.0)) parent false ≡ is_in a (path_to_be s.defs s.regs s.clocks c)
above_to_be m s c a parent stands free there is =
    by_parent parent
    ∙ ap (λ (o : Option ℕ). is_in a (option_map_or (path m.tree.clocks) o [])) told
    ∙ sym (ap (λ (t : Bool). t || is_in a (option_map_or (path m.tree.clocks) (link_given s.defs s.regs s.clocks c) [])) other)
    ∙ ap (λ (rows : List ClockRow). is_in a (c ∷ option_map_or (path rows) (link_given s.defs s.regs s.clocks c) [])) (sym stands.clocks)
    ∙ sym (ap (λ (t : Bool). is_in a (cond t (path s.clocks c) (c ∷ option_map_or (path s.clocks) (link_given s.defs s.regs s.clocks c) []))) (ap (λ (rows : List ClockRow). registered rows c) stands.clocks ∙ free)) where
      told : option_map (λ p. p.0) parent ≡ link_given s.defs s.regs s.clocks c
      told =
          subst (λ (o : Option (List ℕ)). IfSome o (λ regs. option_map (λ p. p.0) parent ≡ link_given m.desc.defs regs m.tree.clocks c)) stands.regs is
          ∙ ap (λ (rows : List ClockRow). link_given m.desc.defs s.regs rows c) (sym stands.clocks) ∙ ap (λ (ds : Description). link_given ds s.regs s.clocks c) (sym stands.defs)

      by_parent : (o : Option ClockId) → option_map_or (λ p. is_in a (path m.tree.clocks p.0)) o false ≡ is_in a (option_map_or (path m.tree.clocks) (option_map (λ p. p.0) o) [])
      by_parent None = refl
      by_parent (Some p) = refl

      differs : (t : Bool) → nat_eq c a ≡ t → t ≡ false
      differs false e = refl
      differs true e = let no : false ≡ true = sym free ∙ ap (registered m.tree.clocks) (same_from_test c a e) ∙ there in absurd cc

      other : nat_eq c a ≡ false
      other = differs (nat_eq c a) refl
