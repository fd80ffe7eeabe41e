-- Laws on registrations: a registration leaves a sound scene, and prepares nothing but the path of a critical clock.
use Rattle.std.proofs.Common.{◌≡◌, ℕ, zero, suc, ◌<◌, ◌≤◌, Bool, true, false, not, ◌&&◌, ◌||◌, cond, List, [], ◌∷◌, Option, Some, None, refl, sym, ap, subst, ◌∙◌, ◌⊎◌, inl, inr, arith, length, nat_lt}
use Rattle.std.proofs.lemmas.Bool.{and_from, cases_lt}
use Rattle.std.proofs.lemmas.Bool.Decides.{nat_tests}
use Rattle.std.proofs.lemmas.List.{get_or_past}
use Rattle.std.specs.Prelude.{filter, if◌then◌else◌, option_and_then}
use Rattle.std.specs.Option.{option_map_or}
use Rattle.clk_base.specs.declared.call.Micro.TheVariants as micro
use Rattle.clk_base.specs.declared.clock.ClockDef.{ClockDef}
use Rattle.clk_base.specs.declared.clock.ClockId.{ClockId}
use Rattle.clk_base.specs.Description.{Description, nobody, kind_of, parents_of}
use Rattle.clk_base.specs.Fields.{Field}
use Rattle.clk_base.specs.Flags.{has_flag, is_critical}
use Rattle.clk_base.specs.Levels.{depth}
use Rattle.clk_model.specs.Lists.{is_in, count_from, without}
use Rattle.clk_model.specs.Kinds.{mux_field}
use Rattle.clk_model.specs.Tree.{path_within}
use Rattle.clk_model.specs.Wired.{LinesEnd}
use Rattle.clk_model.proofs.Members.{is_in_head, is_in_tail, is_in_cases, is_in-count_from, or_left, or_right, both_left, both_right}
use Rattle.clk_model.proofs.OnceLaws.{in_append, is_in-append, is_in-filter, filter_passes, filter_keeps}
use Rattle.clk_model.proofs.BelowLaws.{Rises, IsUp}
use Rattle.clk_model.proofs.WholePathLaws.{same_or_not}
use Rattle.clk_model.proofs.AboveLaws.{put_at, put_same, put_other, Above, above_link, above_path, path_above, Holder}
use Rattle.clk_model.proofs.Scenes.{Scene, holding, keepers, prepared_in, fed_by, given_in, to_be, IsTree, IsSound, after}
use Rattle.clk_model.proofs.SoundLaws.{prepare_cases, keeper_prepares, kept_alone}

-- what a registration is made in: a sound scene without holds, in which the clock isn't registered, selected parents are possible ones,
-- and the clocks of prepared handles are registered
pub record CanRegister (defs : Description) (a : Scene) (c : ℕ) : Type 0 where
  pub lines : LinesEnd defs
  pub sound : IsSound defs (holding a [] [] None)
  pub free : a.there c ≡ false
  pub possible : (p : ℕ) → a.sel c ≡ Some p → is_in p (parents_of defs c) ≡ true
  pub used : (h : ℕ) → is_in h a.prepares ≡ true → a.there h ≡ true

-- the scene with the clock registered
abbrev pub registered_in : Scene → ℕ → Scene
registered_in a c = record a { up = put_at c (given_in a c) a.up; there = put_at c true a.there }

-- what a registration gives is selected and registered
pub given_is : (a : Scene) (c p : ℕ) → given_in a c ≡ Some p → (a.sel c ≡ Some p) × (a.there p ≡ true)
given_is a c p e = by_sel (a.sel c) refl e where
  one : (t : Bool) (q : ℕ) → a.there q ≡ t → (if t then Some q else None) ≡ Some p → (Some q ≡ Some p) × (a.there p ≡ true)
  one true q is f = let same : q ≡ p = cc in (f, ap a.there (sym same) ∙ is)
  one false q is f = absurd cc

  by_sel : (o : Option ℕ) → a.sel c ≡ o → option_and_then (λ q. if a.there q then Some q else None) o ≡ Some p → (a.sel c ≡ Some p) × (a.there p ≡ true)
  by_sel None is f = absurd cc
  by_sel (Some q) is f = let found = one (a.there q) q refl f in (is ∙ found.0, found.1)

-- a registered clock isn't the new one
other_clock : (a : Scene) (c d : ℕ) → a.there c ≡ false → a.there d ≡ true → c ≡ d → ⊥
other_clock a c d free there same = let no : false ≡ true = sym free ∙ ap a.there same ∙ there in cc

-- what is above a registered clock is so as before
rises_before : (defs : Description) (a : Scene) (c n d x : ℕ) → CanRegister defs a c → a.there d ≡ true → Rises (put_at c (given_in a c) a.up) n d x → Rises a.up n d x
rises_before defs a c zero d x can there way = way
rises_before defs a c (suc n) d x can there way =
    let at : a.up d ≡ Some way.0 = sym (put_other c d (given_in a c) a.up (other_clock a c d can.free there)) ∙ way.1 in
    (way.0, at, rises_before defs a c n way.0 x can (can.sound.tree.linked d way.0 at).1 way.2)

rises_still : (defs : Description) (a : Scene) (c n d x : ℕ) → CanRegister defs a c → a.there d ≡ true → Rises a.up n d x → Rises (put_at c (given_in a c) a.up) n d x
rises_still defs a c zero d x can there way = way
rises_still defs a c (suc n) d x can there way =
    (way.0, put_other c d (given_in a c) a.up (other_clock a c d can.free there) ∙ way.1, rises_still defs a c n way.0 x can (can.sound.tree.linked d way.0 way.1).1 way.2)

possible_registered : (defs : Description) (a : Scene) (c : ℕ) → CanRegister defs a c → IsUp (parents_of defs) (put_at c (given_in a c) a.up)
possible_registered defs a c can d p at = by_clock (same_or_not c d) where
  by_clock : (c ≡ d) ⊎ (c ≡ d → ⊥) → is_in p (parents_of defs d) ≡ true
  by_clock (inl same) =
      let given = given_is a c p (sym (put_same c d (given_in a c) a.up same) ∙ at) in
      ap (λ (x : ℕ). is_in p (parents_of defs x)) (sym same) ∙ can.possible p given.0
  by_clock (inr other) = can.sound.tree.possible d p (sym (put_other c d (given_in a c) a.up other) ∙ at)

there_still : (a : Scene) (c d : ℕ) → a.there d ≡ true → put_at c true a.there d ≡ true
there_still a c d there =
    elim (same_or_not c d) [
      | inl same ↦ put_same c d true a.there same
      | inr other ↦ put_other c d true a.there other ∙ there
    ]

tree_registered : (defs : Description) (a : Scene) (c : ℕ) (order : List ℕ) → CanRegister defs a c → ((d : ℕ) → is_in d order ≡ true → (c ≡ d) ⊎ (is_in d a.order ≡ true))
    → IsTree defs (put_at c (given_in a c) a.up) (put_at c true a.there) a.clock_at order
tree_registered defs a c order can list = record {
  possible = possible_registered defs a c can;
  linked = λ d p at. link d p at (same_or_not c d);
  rooted = λ n d at.
      let old = can.sound.tree.rooted n d at in
      (there_still a c d old.0, (old.1.0, (old.1.1.0, rises_still defs a c old.1.1.0 d old.1.0 can old.0 old.1.1.1), old.1.2));
  listed = λ d m. listed d (list d m);
} where
  link : (d p : ℕ) → put_at c (given_in a c) a.up d ≡ Some p → (c ≡ d) ⊎ (c ≡ d → ⊥) → (put_at c true a.there d ≡ true) × (put_at c true a.there p ≡ true)
  link d p at (inl same) =
      let given = given_is a c p (sym (put_same c d (given_in a c) a.up same) ∙ at) in
      (put_same c d true a.there same, there_still a c p given.1)
  link d p at (inr other) =
      let old = can.sound.tree.linked d p (sym (put_other c d (given_in a c) a.up other) ∙ at) in
      (there_still a c d old.0, there_still a c p old.1)

  listed : (d : ℕ) → (c ≡ d) ⊎ (is_in d a.order ≡ true) → (put_at c true a.there d ≡ true) ⊎ (length defs ≤ d)
  listed d (inl same) = inl (put_same c d true a.there same)
  listed d (inr m) = elim (can.sound.tree.listed d m) [
    | inl there ↦ inl (there_still a c d there)
    | inr beyond ↦ inr beyond
  ]

fed_registered : (defs : Description) (a : Scene) (c : ℕ) → CanRegister defs a c → (d p : ℕ) → put_at c (given_in a c) a.up d ≡ Some p → (fed_by defs a d p ≡ Some p) ⊎ (None ≡ Some d)
fed_registered defs a c can d p at = by_clock (same_or_not c d) where
  by_mux : (q : ℕ) (o : Option Field) → option_map_or (λ f. Some q) o (Some q) ≡ Some q
  by_mux q None = refl
  by_mux q (Some f) = refl

  by_clock : (c ≡ d) ⊎ (c ≡ d → ⊥) → (fed_by defs a d p ≡ Some p) ⊎ (None ≡ Some d)
  by_clock (inl same) =
      let given = given_is a c p (sym (put_same c d (given_in a c) a.up same) ∙ at) in
      inl (subst (λ (x : ℕ). fed_by defs a x p ≡ Some p) same
      (ap (λ (o : Option ℕ). option_map_or (λ f. o) (mux_field (kind_of defs c)) (Some p)) given.0 ∙ by_mux p (mux_field (kind_of defs c))))
  by_clock (inr other) = can.sound.fed d p (sym (put_other c d (given_in a c) a.up other) ∙ at)

-- the list with a number in front has no other new one
in_to_front : (c d : ℕ) (xs : List ℕ) → is_in d (c ∷ without (c ∷ []) xs) ≡ true → (c ≡ d) ⊎ (is_in d xs ≡ true)
in_to_front c d xs m =
    elim (is_in_cases d c (without (c ∷ []) xs) m) [
      | inl same ↦ inl same
      | inr rest ↦ inr (is_in-filter (λ x. not (is_in x (c ∷ []))) d xs rest)
    ]

-- a number beyond the description that is listed changes nothing else
listed_beyond : (defs : Description) (a : Scene) (c : ℕ) → length defs ≤ c → IsSound defs (holding a [] [] None) → (d : ℕ) → (c ≡ d) ⊎ (is_in d a.order ≡ true) → (a.there d ≡ true) ⊎ (length defs ≤ d)
listed_beyond defs a c beyond sound d (inl same) = inr (subst (λ (x : ℕ). length defs ≤ x) same beyond)
listed_beyond defs a c beyond sound d (inr m) = sound.tree.listed d m

-- a registration leaves a sound scene
pub register_sound : (defs : Description) (a : Scene) (c : ClockId) → CanRegister defs a c.0 → IsSound defs (after defs (holding a [] [] None) (micro.Register c))
register_sound defs a c can = by_size (nat_lt c.0 (length defs)) refl where
  by_size : (t : Bool) → nat_lt c.0 (length defs) ≡ t
      → IsSound defs (record (holding a [] [] None) {
        up = cond t (put_at c.0 (given_in a c.0) a.up) a.up;
        there = cond t (put_at c.0 true a.there) a.there;
        order = c.0 ∷ without (c.0 ∷ []) a.order;
      })
  by_size true inside = record {
    tree = tree_registered defs a c.0 (c.0 ∷ without (c.0 ∷ []) a.order) can (λ d m. in_to_front c.0 d a.order m);
    fed = fed_registered defs a c.0 can;
    late_held = λ d p e. absurd cc;
    holds = λ h m. absurd cc;
  }
  by_size false beyond = record {
    tree = record {
      possible = can.sound.tree.possible;
      linked = can.sound.tree.linked;
      rooted = can.sound.tree.rooted;
      listed = λ d m. listed_beyond defs a c.0 (grind (arith, nat_tests)) can.sound d (in_to_front c.0 d a.order m);
    };
    fed = can.sound.fed;
    late_held = λ d p e. absurd cc;
    holds = λ h m. absurd cc;
  }

-- ---- what it prepares

-- the path that the clock was to have
above_new : (defs : Description) (a : Scene) (c n x : ℕ) → CanRegister defs a c → Rises (put_at c (given_in a c) a.up) n c x → is_in x (to_be a c) ≡ true
above_new defs a c n x can way =
    ap (λ (t : Bool). is_in x (if t then path_within a.up depth c else c ∷ option_map_or (path_within a.up depth) (given_in a c) [])) can.free ∙ by_way n way where
      by_way : (k : ℕ) → Rises (put_at c (given_in a c) a.up) k c x → is_in x (c ∷ option_map_or (path_within a.up depth) (given_in a c) []) ≡ true
      by_way zero same = ap (λ (z : ℕ). is_in x (z ∷ option_map_or (path_within a.up depth) (given_in a c) [])) same ∙ is_in_head x _
      by_way (suc k) up =
          let given : given_in a c ≡ Some up.0 = sym (put_same c c (given_in a c) a.up refl) ∙ up.1 in
          let there = (given_is a c up.0 given).1 in
          is_in_tail x c (option_map_or (path_within a.up depth) (given_in a c) [])
          (ap (λ (o : Option ℕ). is_in x (option_map_or (path_within a.up depth) o [])) given
          ∙ above_path defs a.up up.0 x can.lines can.sound.tree.possible (k, rises_before defs a c k up.0 x can there up.2))

-- a keeper behind a registration was one, or is the new clock, which is critical
keeper_before : (defs : Description) (a : Scene) (c h : ℕ) → CanRegister defs a c → is_in h (keepers defs (registered_in a c)) ≡ true
    → ((is_in h (keepers defs a) ≡ true) × (a.there h ≡ true)) ⊎ ((c ≡ h) × (is_critical defs c ≡ true))
keeper_before defs a c h can m = by_list (in_append h a.prepares (filter (λ d. is_critical defs d && put_at c true a.there d) (count_from 0 (length defs))) m) where
  by_critical : is_in h (count_from 0 (length defs)) ≡ true → is_critical defs h ≡ true → put_at c true a.there h ≡ true → (c ≡ h) ⊎ (c ≡ h → ⊥)
      → ((is_in h (keepers defs a) ≡ true) × (a.there h ≡ true)) ⊎ ((c ≡ h) × (is_critical defs c ≡ true))
  by_critical inside critical there (inl same) = inr (same, ap (is_critical defs) same ∙ critical)
  by_critical inside critical there (inr other) =
      let was : a.there h ≡ true = sym (put_other c h true a.there other) ∙ there in
      inl (
        is_in-append h a.prepares (filter (λ d. is_critical defs d && a.there d) (count_from 0 (length defs)))
            ∙ or_second (is_in h a.prepares) _
            (filter_keeps (λ d. is_critical defs d && a.there d) h (count_from 0 (length defs)) (both (is_critical defs h) (a.there h) critical was) inside),
        was,
      ) where
        or_second : (x y : Bool) → y ≡ true → (x || y) ≡ true
        or_second true y e = refl
        or_second false y e = e

        both : (x y : Bool) → x ≡ true → y ≡ true → (x && y) ≡ true
        both x y e f = rw (e, f) refl

  by_list : (is_in h a.prepares ≡ true) ⊎ (is_in h (filter (λ d. is_critical defs d && put_at c true a.there d) (count_from 0 (length defs))) ≡ true)
      → ((is_in h (keepers defs a) ≡ true) × (a.there h ≡ true)) ⊎ ((c ≡ h) × (is_critical defs c ≡ true))
  by_list (inl prepares) =
      inl (is_in-append h a.prepares (filter (λ d. is_critical defs d && a.there d) (count_from 0 (length defs))) ∙ or_first (is_in h a.prepares) _ prepares, can.used h prepares) where
        or_first : (x y : Bool) → x ≡ true → (x || y) ≡ true
        or_first true y e = refl
        or_first false y e = absurd cc
  by_list (inr critical) =
      let passes = filter_passes (λ d. is_critical defs d && put_at c true a.there d) h (count_from 0 (length defs)) critical in
      by_critical (is_in-filter (λ d. is_critical defs d && put_at c true a.there d) h (count_from 0 (length defs)) critical)
      (both_left (is_critical defs h) (put_at c true a.there h) passes) (both_right (is_critical defs h) (put_at c true a.there h) passes) (same_or_not c h)

-- what a registration prepares was prepared, or is on the path that a critical clock was to have
pub register_prepares : (defs : Description) (a : Scene) (c : ClockId) (x : ℕ) → CanRegister defs a c.0 → prepared_in defs (after defs (holding a [] [] None) (micro.Register c)) x ≡ true
    → (prepared_in defs (holding a [] [] None) x ≡ true) ⊎ ((is_critical defs c.0 ≡ true) × (is_in x (to_be a c.0) ≡ true))
register_prepares defs a c x can prep = by_size (nat_lt c.0 (length defs)) refl prep where
  by_holder : Holder (put_at c.0 (given_in a c.0) a.up) (keepers defs (registered_in a c.0)) x ⊎ Holder (put_at c.0 (given_in a c.0) a.up) [] x
      → (prepared_in defs (holding a [] [] None) x ≡ true) ⊎ ((is_critical defs c.0 ≡ true) × (is_in x (to_be a c.0) ≡ true))
  by_holder (inr none) = let no : false ≡ true = none.1 in absurd cc
  by_holder (inl holder) = elim (keeper_before defs a c.0 holder.0 can holder.1) [
    | inl was ↦
        inl (keeper_prepares defs a [] [] None x can.lines can.sound.tree.possible
        (holder.0, was.0, (holder.2.0, rises_before defs a c.0 holder.2.0 holder.0 x can was.1 holder.2.1)))
    | inr new ↦ inr (new.1, above_new defs a c.0 holder.2.0 x can (subst (λ (h : ℕ). Rises (put_at c.0 (given_in a c.0) a.up) holder.2.0 h x) (sym new.0) holder.2.1))
  ]

  by_size : (t : Bool) → nat_lt c.0 (length defs) ≡ t
      → prepared_in defs (record (holding a [] [] None) {
        up = cond t (put_at c.0 (given_in a c.0) a.up) a.up;
        there = cond t (put_at c.0 true a.there) a.there;
        order = c.0 ∷ without (c.0 ∷ []) a.order;
      }) x ≡ true
      → (prepared_in defs (holding a [] [] None) x ≡ true) ⊎ ((is_critical defs c.0 ≡ true) × (is_in x (to_be a c.0) ≡ true))
  by_size true inside p = by_holder (prepare_cases defs (registered_in a c.0) [] [] None x p)
  by_size false beyond p = inl p

-- ---- what it keeps prepared

-- a critical clock is a clock of the description
pub critical_lt : (defs : Description) (c : ℕ) → is_critical defs c ≡ true → c < length defs
critical_lt defs c critical =
    elim (cases_lt c (length defs)) [
      | inl inside ↦ inside
      | inr outside ↦
          let none : is_critical defs c ≡ false = ap (λ (d : ClockDef). has_flag d.flags 32) (get_or_past defs c nobody outside) in
          let no : true ≡ false = sym critical ∙ none in
          absurd cc
    ]

-- a keeper is one behind a registration, and registered
keeper_still : (defs : Description) (a : Scene) (c h : ℕ) → CanRegister defs a c → is_in h (keepers defs a) ≡ true → (is_in h (keepers defs (registered_in a c)) ≡ true) × (a.there h ≡ true)
keeper_still defs a c h can m = by_list (in_append h a.prepares (filter (λ d. is_critical defs d && a.there d) (count_from 0 (length defs))) m) where
  by_list : (is_in h a.prepares ≡ true) ⊎ (is_in h (filter (λ d. is_critical defs d && a.there d) (count_from 0 (length defs))) ≡ true)
      → (is_in h (keepers defs (registered_in a c)) ≡ true) × (a.there h ≡ true)
  by_list (inl prepares) = (
    is_in-append h a.prepares (filter (λ d. is_critical defs d && put_at c true a.there d) (count_from 0 (length defs))) ∙ or_left (is_in h a.prepares) _ prepares,
    can.used h prepares,
  )
  by_list (inr critical) =
      let passes = filter_passes (λ d. is_critical defs d && a.there d) h (count_from 0 (length defs)) critical in
      let there = both_right (is_critical defs h) (a.there h) passes in (
        is_in-append h a.prepares (filter (λ d. is_critical defs d && put_at c true a.there d) (count_from 0 (length defs)))
            ∙ or_right (is_in h a.prepares) _
            (filter_keeps (λ d. is_critical defs d && put_at c true a.there d) h (count_from 0 (length defs))
            (and_from (is_critical defs h) (put_at c true a.there h) (both_left (is_critical defs h) (a.there h) passes) (there_still a c h there))
            (is_in-filter (λ d. is_critical defs d && a.there d) h (count_from 0 (length defs)) critical)),
        there,
      )

-- the new clock keeps the path that it was to have, where it is critical
new_keeps : (defs : Description) (a : Scene) (c x : ℕ) → CanRegister defs a c → is_critical defs c ≡ true → is_in x (to_be a c) ≡ true → Holder (put_at c (given_in a c) a.up) (keepers defs (registered_in a c)) x
new_keeps defs a c x can critical m = (c, kept, above_) where
  inside : c < length defs
  inside = critical_lt defs c critical

  kept : is_in c (keepers defs (registered_in a c)) ≡ true
  kept =
      is_in-append c a.prepares (filter (λ d. is_critical defs d && put_at c true a.there d) (count_from 0 (length defs)))
      ∙ or_right (is_in c a.prepares) _
      (filter_keeps (λ d. is_critical defs d && put_at c true a.there d) c (count_from 0 (length defs))
      (and_from (is_critical defs c) (put_at c true a.there c) critical (put_same c c true a.there refl)) (is_in-count_from c 0 (length defs) (omega arith) (omega (arith, inside))))

  by_given : (o : Option ℕ) → given_in a c ≡ o → is_in x (option_map_or (path_within a.up depth) o []) ≡ true → Above (put_at c (given_in a c) a.up) c x
  by_given None at n = absurd cc
  by_given (Some p) at n =
      let high = path_above a.up p x n in
      above_link (put_at c (given_in a c) a.up) c p x (put_same c c (given_in a c) a.up refl ∙ at) (high.0, rises_still defs a c high.0 p x can (given_is a c p at).1 high.1)

  above_ : Above (put_at c (given_in a c) a.up) c x
  above_ =
      elim (is_in_cases x c (option_map_or (path_within a.up depth) (given_in a c) [])
      (sym (ap (λ (t : Bool). is_in x (if t then path_within a.up depth c else c ∷ option_map_or (path_within a.up depth) (given_in a c) [])) can.free) ∙ m)) [
        | inl same ↦ (zero, same)
        | inr later ↦ by_given (given_in a c) refl later
      ]

-- what was prepared, and the path that a critical clock was to have, are prepared behind its registration
pub register_keeps : (defs : Description) (a : Scene) (c : ClockId) (x : ℕ) → CanRegister defs a c.0
    → (prepared_in defs (holding a [] [] None) x ≡ true) ⊎ ((is_critical defs c.0 ≡ true) × (is_in x (to_be a c.0) ≡ true))
    → prepared_in defs (after defs (holding a [] [] None) (micro.Register c)) x ≡ true
register_keeps defs a c x can was = by_size (nat_lt c.0 (length defs)) refl was where
  is : IsUp (parents_of defs) (put_at c.0 (given_in a c.0) a.up)
  is = possible_registered defs a c.0 can

  by_size : (t : Bool) → nat_lt c.0 (length defs) ≡ t
      → (prepared_in defs (holding a [] [] None) x ≡ true) ⊎ ((is_critical defs c.0 ≡ true) × (is_in x (to_be a c.0) ≡ true))
      → prepared_in defs (record (holding a [] [] None) {
        up = cond t (put_at c.0 (given_in a c.0) a.up) a.up;
        there = cond t (put_at c.0 true a.there) a.there;
        order = c.0 ∷ without (c.0 ∷ []) a.order;
      }) x ≡ true
  by_size true inside (inl prep) =
      let keeper = kept_alone defs a [] None x prep in
      let still_ = keeper_still defs a c.0 keeper.0 can keeper.1 in
      keeper_prepares defs (registered_in a c.0) [] [] None x can.lines is (keeper.0, still_.0, (keeper.2.0, rises_still defs a c.0 keeper.2.0 keeper.0 x can still_.1 keeper.2.1))
  by_size true inside (inr new) = keeper_prepares defs (registered_in a c.0) [] [] None x can.lines is (new_keeps defs a c.0 x can new.0 new.1)
  by_size false beyond (inl prep) = prep
  by_size false beyond (inr new) = absurd (let inside = critical_lt defs c.0 new.0 in grind (arith, nat_tests))
