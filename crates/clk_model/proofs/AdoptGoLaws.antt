-- Laws on the scripts of registrations: the adoptions go well, one after the other.
use Rattle.std.proofs.Common.{◌≡◌, ℕ, zero, suc, nat_eq, Bool, true, false, not, List, [], ◌∷◌, ◌++◌, Option, Some, None, refl, sym, ap, subst, ◌∙◌, inl, inr}
use Rattle.std.specs.Prelude.{find, flat_map, if◌then◌else◌}
use Rattle.std.specs.List.{list_any}
use Rattle.std.specs.Option.{option_map_or}
use Rattle.std.proofs.lemmas.List.{append_assoc}
use Rattle.clk_base.specs.declared.call.Micro.{Micro}
use Rattle.clk_base.specs.declared.call.Micro.TheVariants as micro
use Rattle.clk_base.specs.declared.call.Sleeping.TheVariants as call
use Rattle.clk_base.specs.declared.clock.ClockId.{ClockId}
use Rattle.clk_base.specs.Description.{parents_of}
use Rattle.clk_model.specs.Lists.{is_in, without_one, none_twice}
use Rattle.clk_model.specs.State.{State, link_in}
use Rattle.clk_model.specs.Tree.{path, link_given}
use Rattle.clk_model.specs.Holders.{prepared}
use Rattle.clk_model.specs.Chain.{clock_id}
use Rattle.clk_model.specs.Script.{is_next, adoption, adoption_order}
use Rattle.clk_model.specs.Step.{is_end, is_register, from_first, cut_short}
use Rattle.clk_model.specs.Wired.{LinesEnd}
use Rattle.clk_model.proofs.Members.{is_in_head, is_in_tail, is_in_cases, test_same, same_from_test, none_in}
use Rattle.clk_model.proofs.OnceLaws.{once_cons, once_head}
use Rattle.clk_model.proofs.NoneLaws.{none_append, none_flat_map}
use Rattle.clk_model.proofs.OutcomeLaws.{SettingsFit}
use Rattle.clk_model.proofs.WalkLaws.{turned_off}
use Rattle.clk_model.proofs.BelowLaws.{Rises, IsUp}
use Rattle.clk_model.proofs.AboveLaws.{put_at, put_other, Above, above_here, above_path, above_before}
use Rattle.clk_model.proofs.Scenes.{Scene, holding, IsSound, GoesWell, ends}
use Rattle.clk_model.proofs.SoundLaws.{WillMove, linked_in, may_link, sound_adopted}
use Rattle.clk_model.proofs.BlockLaws.{CanMove, adoption_behind, prepared_adoption, bare_adoption}
use Rattle.clk_model.proofs.WalkGoLaws.{WillBe, still_be}

-- ---- adoptions that are still to come

-- the parent that an orphan of a state is adopted by
abbrev pub adopts : State → ℕ → ℕ → Type 0
adopts s a p = link_given s.defs s.regs s.clocks a ≡ Some p

-- none that stands behind another in the list is above it or its new parent
abbrev pub AllNext : State → (ℕ → Option ℕ) → List ℕ → Type 0
AllNext s up [] = Unit {0}
AllNext s up (a ∷ as_) = ((d p : ℕ) → is_in d as_ ≡ true → adopts s a p → (Above up a d → ⊥) × (Above up p d → ⊥)) × AllNext s up as_

-- the adoptions of these orphans can be made over a scene
pub record ToAdopt (s : State) (a : Scene) (cs : List ℕ) : Type 0 where
  pub sound : IsSound s.defs (holding a [] [] None)
  pub once : none_twice cs ≡ true
  pub next : AllNext s a.up cs
  pub be : (c p : ℕ) → is_in c cs ≡ true → adopts s c p → WillBe s.defs a c p (prepared s c) × (a.up c ≡ None) × (a.sel c ≡ Some p)

adopt_rest : (s : State) (a : Scene) (c : ℕ) (cs : List ℕ) → ToAdopt s a (c ∷ cs) → ToAdopt s a cs
adopt_rest s a c cs to = record {
  sound = to.sound;
  once = (once_head c cs to.once).1;
  next = to.next.1;
  be = λ d p m. to.be d p (is_in_tail d c cs m);
}

-- a new link leaves the order of those behind it
next_still : (s : State) (a : Scene) (c p : ℕ) (cs : List ℕ) → LinesEnd s.defs → IsUp (parents_of s.defs) a.up → WillMove s.defs a c p → ((d : ℕ) → is_in d cs ≡ true → Above a.up p d → ⊥)
    → AllNext s a.up cs → AllNext s (put_at c (Some p) a.up) cs
next_still s a c p [] lines is will off next = tt
next_still s a c p (b ∷ cs) lines is will off next = (
  (λ d q m at.
      let old = next.0 d q m at in (
        (λ high. elim (above_before s.defs a.up c p b d (may_link s.defs a c p lines is will) high) [ inl there ↦ old.0 there | inr both ↦ off d (is_in_tail d b cs m) both.1 ]),
        (λ high. elim (above_before s.defs a.up c p q d (may_link s.defs a c p lines is will) high) [ inl there ↦ old.1 there | inr both ↦ off d (is_in_tail d b cs m) both.1 ]),
      )),
  next_still s a c p cs lines is will (λ d m. off d (is_in_tail d b cs m)) next.1,
)

adopt_moved : (s : State) (a : Scene) (c p : ℕ) (cs : List ℕ) → LinesEnd s.defs → adopts s c p → ToAdopt s a (c ∷ cs) → ToAdopt s (linked_in a c p) cs
adopt_moved s a c p cs lines at to =
    let own = to.be c p (is_in_head c cs) at in
    let is = to.sound.tree.possible in
    record {
      sound = sound_adopted s.defs a c p [] [] lines to.sound (own.0).will own.2 (λ h m. absurd cc);
      once = (once_head c cs to.once).1;
      next = next_still s a c p cs lines is (own.0).will (λ d m. (to.next.0 d p m at).1) to.next.1;
      be = λ d q m at'.
          let off = to.next.0 d p m at in
          let later = to.be d q (is_in_tail d c cs m) at' in (
            still_be s.defs a c p d q (prepared s d) lines is (own.0).will off.0 off.1 later.0,
            put_other c d (Some p) a.up (λ same. off.0 (subst (λ (x : ℕ). Above a.up c x) same (above_here a.up c))) ∙ later.1,
            later.2,
          );
    }

-- ---- the script

-- the steps that adopt an orphan
abbrev pub adoption_block : Bool → ℕ → ℕ → List Micro
adoption_block prep c p = if prep then micro.Raise (clock_id p) ∷ adoption_behind c p [] else micro.Relink (clock_id c) (clock_id p) ∷ micro.Settle (clock_id c) ∷ []

adoption_none : (test : Micro → Bool) (s : State) (c : ℕ) → ((prep : Bool) (p : ℕ) → list_any test (adoption_block prep c p) ≡ false) → list_any test (adoption s c) ≡ false
adoption_none test s c each = by_link (link_given s.defs s.regs s.clocks c) where
  by_link : (o : Option ℕ) → list_any test (option_map_or (λ p. adoption_block (prepared s c) c p) o []) ≡ false
  by_link None = refl
  by_link (Some p) = each (prepared s c) p

no_end_block : (c : ℕ) (prep : Bool) (p : ℕ) → list_any is_end (adoption_block prep c p) ≡ false
no_end_block c true p = refl
no_end_block c false p = refl

no_register_block : (c : ℕ) (prep : Bool) (p : ℕ) → list_any is_register (adoption_block prep c p) ≡ false
no_register_block c true p = refl
no_register_block c false p = refl

pub adoptions_no_end : (s : State) (cs : List ℕ) → list_any is_end (flat_map (adoption s) cs) ≡ false
adoptions_no_end s cs = none_flat_map is_end (adoption s) cs (λ c. adoption_none is_end s c (no_end_block c))

adoptions_no_register : (s : State) (cs : List ℕ) → list_any is_register (flat_map (adoption s) cs ++ micro.End ∷ []) ≡ false
adoptions_no_register s cs = none_append is_register (flat_map (adoption s) cs) (micro.End ∷ []) (none_flat_map is_register (adoption s) cs (λ c. adoption_none is_register s c (no_register_block c))) refl

-- a timeout drops the rest of its adoption
adoption_cut : (x : ClockId) (c p : ℕ) (ms : List Micro) → list_any is_register ms ≡ false → cut_short (call.Probe x) (adoption_behind c p ms) ≡ ms
adoption_cut x c p ms none = ap (λ (t : Bool). if t then from_first is_end ms else ms) none

-- the adoptions of a list go well, one after the other
pub adopted_goes : (s : State) (x : ClockId) (cs : List ℕ) (timed : Bool) (a : Scene) → LinesEnd s.defs → SettingsFit s.defs → ToAdopt s a cs
    → GoesWell s.defs (call.Probe x) timed [] (holding a [] [] None) (flat_map (adoption s) cs ++ micro.End ∷ [])
adopted_goes s x [] timed a lines fits to = ends to.sound (record { prepares = refl; enables = refl; late = refl }) tt (λ h e. absurd cc)
adopted_goes s x (c ∷ cs) timed a lines fits to =
    subst (λ (ms : List Micro). GoesWell s.defs (call.Probe x) timed [] (holding a [] [] None) ms) (sym (append_assoc (adoption s c) (flat_map (adoption s) cs) (micro.End ∷ [])))
    (by_link (link_given s.defs s.regs s.clocks c) refl (λ timed' b to'. adopted_goes s x cs timed' b lines fits to')) where
      rest : List Micro
      rest = flat_map (adoption s) cs ++ micro.End ∷ []

      adopted : (p : ℕ) → adopts s c p → (prep : Bool) → prepared s c ≡ prep → ((timed' : Bool) (b : Scene) → ToAdopt s b cs → GoesWell s.defs (call.Probe x) timed' [] (holding b [] [] None) rest)
          → GoesWell s.defs (call.Probe x) timed [] (holding a [] [] None) (adoption_block prep c p ++ rest)
      adopted p at true prep goes =
          let own = to.be c p (is_in_head c cs) at in
          let can : CanMove s.defs a c p = record { ends = lines; fits = λ f m. (fits c).place f p m ((own.0).will).possible; sound = to.sound; will = (own.0).will } in
          prepared_adoption s.defs (call.Probe x) timed a c p rest can own.1 own.2 ((own.0).kept ∙ prep)
          (subst (λ (ms : List Micro). GoesWell s.defs (call.Probe x) true [] (holding a [] [] None) ms) (sym (adoption_cut x c p rest (adoptions_no_register s cs))) (goes true a (adopt_rest s a c cs to)))
          (goes timed (linked_in a c p) (adopt_moved s a c p cs lines at to))
      adopted p at false idle goes =
          let own = to.be c p (is_in_head c cs) at in
          let can : CanMove s.defs a c p = record { ends = lines; fits = λ f m. (fits c).place f p m ((own.0).will).possible; sound = to.sound; will = (own.0).will } in
          bare_adoption s.defs (call.Probe x) timed a c p rest can own.2 ((own.0).kept ∙ idle) (goes timed (linked_in a c p) (adopt_moved s a c p cs lines at to))

      by_link : (o : Option ℕ) → link_given s.defs s.regs s.clocks c ≡ o → ((timed' : Bool) (b : Scene) → ToAdopt s b cs → GoesWell s.defs (call.Probe x) timed' [] (holding b [] [] None) rest)
          → GoesWell s.defs (call.Probe x) timed [] (holding a [] [] None) (option_map_or (λ p. adoption_block (prepared s c) c p) o [] ++ rest)
      by_link None none goes = goes timed a (adopt_rest s a c cs to)
      by_link (Some p) at goes = adopted p at (prepared s c) refl goes

-- ---- the order of adoptions

found_in : (test : ℕ → Bool) (xs : List ℕ) (x : ℕ) → find test xs ≡ Some x → (is_in x xs ≡ true) × (test x ≡ true)
found_in test [] x e = absurd cc
found_in test (y ∷ ys) x e = by_test (test y) refl e (λ f. found_in test ys x f) where
  by_test : (t : Bool) → test y ≡ t → (if t then Some y else find test ys) ≡ Some x → (find test ys ≡ Some x → (is_in x ys ≡ true) × (test x ≡ true)) → (is_in x (y ∷ ys) ≡ true) × (test x ≡ true)
  by_test true passes f rest = let same : y ≡ x = cc in (ap (λ (z : ℕ). is_in x (z ∷ ys)) same ∙ is_in_head x ys, ap test (sym same) ∙ passes)
  by_test false fails f rest = let later = rest f in (is_in_tail x y ys later.0, later.1)

-- what is left without one number was there, and is another where none stands twice
pub left_was : (x d : ℕ) (xs : List ℕ) → is_in d (without_one x xs) ≡ true → is_in d xs ≡ true
left_was x d [] m = m
left_was x d (y ∷ ys) m = by_test (nat_eq y x) m (λ n. left_was x d ys n) where
  by_test : (t : Bool) → is_in d (if t then ys else y ∷ without_one x ys) ≡ true → (is_in d (without_one x ys) ≡ true → is_in d ys ≡ true) → is_in d (y ∷ ys) ≡ true
  by_test true n rest = is_in_tail d y ys n
  by_test false n rest = elim (is_in_cases d y (without_one x ys) n) [
    | inl same ↦ ap (λ (z : ℕ). is_in d (z ∷ ys)) same ∙ is_in_head d ys
    | inr later ↦ is_in_tail d y ys (rest later)
  ]

pub left_once : (x : ℕ) (xs : List ℕ) → none_twice xs ≡ true → none_twice (without_one x xs) ≡ true
left_once x [] once = refl
left_once x (y ∷ ys) once = by_test (nat_eq y x) (left_once x ys (once_head y ys once).1) where
  by_test : (t : Bool) → none_twice (without_one x ys) ≡ true → none_twice (if t then ys else y ∷ without_one x ys) ≡ true
  by_test true rest = (once_head y ys once).1
  by_test false rest = once_cons y (without_one x ys) (λ m. let no : false ≡ true = sym (once_head y ys once).0 ∙ left_was x y ys m in cc) rest

left_other : (x d : ℕ) (xs : List ℕ) → none_twice xs ≡ true → is_in d (without_one x xs) ≡ true → x ≡ d → ⊥
left_other x d [] once m same = let no : false ≡ true = m in cc
left_other x d (y ∷ ys) once m same = by_test (nat_eq y x) refl m (λ n. left_other x d ys (once_head y ys once).1 n same) where
  by_test : (t : Bool) → nat_eq y x ≡ t → is_in d (if t then ys else y ∷ without_one x ys) ≡ true → (is_in d (without_one x ys) ≡ true → ⊥) → ⊥
  by_test true e n rest = let here : y ≡ d = same_from_test y x e ∙ same in let no : false ≡ true = sym (once_head y ys once).0 ∙ ap (λ (z : ℕ). is_in z ys) here ∙ n in cc
  by_test false e n rest = elim (is_in_cases d y (without_one x ys) n) [
    | inl here ↦ let no : false ≡ true = sym e ∙ ap (λ (z : ℕ). nat_eq z x) (here ∙ sym same) ∙ test_same x in cc
    | inr later ↦ rest later
  ]

-- what the order of adoptions lists is among what is left
pub ordered_in : (n : ℕ) (s : State) (left : List ℕ) (d : ℕ) → is_in d (adoption_order n s left) ≡ true → is_in d left ≡ true
ordered_in zero s left d m = absurd cc
ordered_in (suc n) s left d m = by_found (find (is_next s left) left) refl m (λ a k. ordered_in n s (without_one a left) d k) where
  by_found : (o : Option ℕ) → find (is_next s left) left ≡ o → is_in d (option_map_or (λ a. a ∷ adoption_order n s (without_one a left)) o []) ≡ true
      → ((a : ℕ) → is_in d (adoption_order n s (without_one a left)) ≡ true → is_in d (without_one a left) ≡ true) → is_in d left ≡ true
  by_found None at k rest = absurd cc
  by_found (Some a) at k rest = elim (is_in_cases d a (adoption_order n s (without_one a left)) k) [
    | inl same ↦ subst (λ (x : ℕ). is_in x left ≡ true) same (found_in (is_next s left) left a at).0
    | inr later ↦ left_was a d left (rest a later)
  ]

pub ordered_once : (n : ℕ) (s : State) (left : List ℕ) → none_twice left ≡ true → none_twice (adoption_order n s left) ≡ true
ordered_once zero s left once = refl
ordered_once (suc n) s left once = by_found (find (is_next s left) left) (λ a. ordered_once n s (without_one a left) (left_once a left once)) where
  by_found : (o : Option ℕ) → ((a : ℕ) → none_twice (adoption_order n s (without_one a left)) ≡ true) → none_twice (option_map_or (λ a. a ∷ adoption_order n s (without_one a left)) o []) ≡ true
  by_found None rest = refl
  by_found (Some a) rest =
      once_cons a (adoption_order n s (without_one a left)) (λ m. left_other a a left once (ordered_in n s (without_one a left) a m) refl) (rest a)

-- an orphan that comes next has no other of those left above its new parent
next_apart : (s : State) (left : List ℕ) (a d p : ℕ) → LinesEnd s.defs → IsUp (parents_of s.defs) (link_in s.clocks) → is_next s left a ≡ true → is_in d (without_one a left) ≡ true → adopts s a p
    → Above (link_in s.clocks) p d → ⊥
next_apart s left a d p lines is next m at high =
    let none : list_any (λ b. is_in b (path s.clocks p)) (without_one a left) ≡ false =
    turned_off _ (sym (ap (λ (o : Option ℕ). option_map_or (λ q. not (list_any (λ b. is_in b (path s.clocks q)) (without_one a left))) o false) at) ∙ next) in
    let out : is_in d (path s.clocks p) ≡ false = none_in (λ b. is_in b (path s.clocks p)) (without_one a left) none d m in
    let no : false ≡ true = sym out ∙ above_path s.defs (link_in s.clocks) p d lines is high in
    cc

only_itself : (up : ℕ → Option ℕ) (a d : ℕ) → up a ≡ None → Above up a d → a ≡ d
only_itself up a d none high = by_way high.0 high.1 where
  by_way : (n : ℕ) → Rises up n a d → a ≡ d
  by_way zero way = way
  by_way (suc n) way = let no : None ≡ Some way.0 = sym none ∙ way.1 in absurd cc

pub ordered_next : (n : ℕ) (s : State) (left : List ℕ) → LinesEnd s.defs → IsUp (parents_of s.defs) (link_in s.clocks) → none_twice left ≡ true → ((a : ℕ) → is_in a left ≡ true → link_in s.clocks a ≡ None)
    → AllNext s (link_in s.clocks) (adoption_order n s left)
ordered_next zero s left lines is once unlinked = tt
ordered_next (suc n) s left lines is once unlinked =
    by_found (find (is_next s left) left) refl (λ a. ordered_next n s (without_one a left) lines is (left_once a left once) (λ b m. unlinked b (left_was a b left m))) where
      by_found : (o : Option ℕ) → find (is_next s left) left ≡ o → ((a : ℕ) → AllNext s (link_in s.clocks) (adoption_order n s (without_one a left)))
          → AllNext s (link_in s.clocks) (option_map_or (λ a. a ∷ adoption_order n s (without_one a left)) o [])
      by_found None at rest = tt
      by_found (Some a) at rest =
          let found = found_in (is_next s left) left a at in (
            (λ d p m adopted. (
              (λ high. left_other a d left once (ordered_in n s (without_one a left) d m) (only_itself (link_in s.clocks) a d (unlinked a found.0) high)),
              next_apart s left a d p lines is found.1 (ordered_in n s (without_one a left) d m) adopted,
            )),
            rest a,
          )
