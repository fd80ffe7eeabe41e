-- Counts where a clock is attached that wasn't registered: nobody holds it, so no other clock is held through it; and a critical one is
-- held from then on.
use Rattle.std.proofs.Common.{◌≡◌, ℕ, suc, zero, ◌+◌, ◌<◌, ◌&&◌, ◌||◌, Bool, true, false, cond, List, [], ◌∷◌, Option, Some, None, refl, sym, ap, ◌∙◌, arith, length, set, nat_lt, nat_eq}
use Rattle.std.proofs.Math.Path.{fun_ext}
use Rattle.std.proofs.lemmas.Bool.{and_from}
use Rattle.std.proofs.lemmas.Bool.Decides.{nat_tests}
use Rattle.std.proofs.lemmas.List.{length-set, get_or-set_other}
use Rattle.std.specs.Prelude.{sum_by, filter, slice_index, slice_index_or, count_by}
use Rattle.std.specs.List.{list_any}
use Rattle.std.specs.Option.{option_map}
use Rattle.clk_base.specs.declared.clock.ClockId.{ClockId}
use Rattle.clk_base.specs.Description.{Description}
use Rattle.clk_base.specs.Flags.{is_critical, sets_rate_gate}
use Rattle.clk_base.specs.Levels.{depth}
use Rattle.clk_model.specs.declared.row.HandleRow.{HandleRow}
use Rattle.clk_model.specs.Lists.{is_in, count_from, present}
use Rattle.clk_model.specs.State.{State, registered, link_in, handle_at}
use Rattle.clk_model.specs.Tree.{path_within}
use Rattle.clk_model.proofs.Members.{same_from_test, any_in, any_from_in, both_left, both_right}
use Rattle.clk_model.proofs.PathLaws.{path_agree, path_all}
use Rattle.counts_core.specs.Sums.{up_in}
use Rattle.counts_core.specs.Counted.{CountState, HasLinks, is_held, is_active}
use Rattle.counts_core.specs.Standing.{StandsFor, own_enables}
use Rattle.clk_machine.specs.Parts.{Parts, bare, IsWhole}
use Rattle.core_parts.proofs.HeldCounts.{listed_tells}
use Rattle.clk_machine.proofs.Following.{links_are}
use Rattle.core_parts.proofs.Holdings.{sum_on}

-- ---- nobody holds a clock that isn't registered

-- the sum over the handles of a clock that has none
none_on : (count : HandleRow → ℕ) (handles : List (Option HandleRow)) (d : ℕ) → ((n : ℕ) (h : HandleRow) → handle_at handles n ≡ Some h → nat_eq h.clock.0 d ≡ false)
    → sum_on count handles d ≡ 0
none_on count [] d off = refl
none_on count (None ∷ handles) d off = none_on count handles d (λ n h at. off (suc n) h at)
none_on count (Some h ∷ handles) d off =
    ap (λ (t : Bool). sum_by count (cond t (h ∷ filter (λ r. nat_eq r.clock.0 d) (present handles)) (filter (λ r. nat_eq r.clock.0 d) (present handles)))) (off zero h refl)
    ∙ none_on count handles d (λ n g at. off (suc n) g at)

-- one for yes
abbrev pub one_for : Bool → ℕ
one_for t = cond t 1 0

-- a clock that an enable holds is registered
holder_registered : (m : Parts) (h : ℕ) → IsWhole m → 0 < slice_index m.counts.enables h → registered m.tree.clocks h ≡ true
holder_registered m h whole held = by (registered m.tree.clocks h) refl where
  off : registered m.tree.clocks h ≡ false → (n : ℕ) (r : HandleRow) → handle_at m.table.handles n ≡ Some r → nat_eq r.clock.0 h ≡ false
  off free n r at = by_test (nat_eq r.clock.0 h) refl where
    by_test : (t : Bool) → nat_eq r.clock.0 h ≡ t → t ≡ false
    by_test false e = refl
    by_test true e =
        let no : true ≡ false = sym (whole.handled n r at) ∙ ap (registered m.tree.clocks) (same_from_test r.clock.0 h e) ∙ free in
        absurd cc

  no_part : (a b : Bool) → b ≡ false → one_for (a && b) ≡ 0
  no_part true b e = ap one_for e
  no_part false b e = refl

  by : (t : Bool) → registered m.tree.clocks h ≡ t → t ≡ true
  by true there = refl
  by false free =
      let own : slice_index m.counts.enables h ≡ own_enables (bare m) h = whole.counted.stands.enables h in
      let none = none_on (λ r. r.enables) m.table.handles h (off free) in
      let plain = no_part (is_critical m.desc.defs h) (registered m.tree.clocks h) free in
      let told = (listed_tells m.enable_holds).each h in
      let held_ = whole.enables_held.inside h free in
      absurd (omega arith)

-- ---- a link more

-- the link of a clock that is on the path of no holder holds no other clock
held_beside : (links : List (Option ClockId)) (own : ℕ → ℕ) (a : ℕ) (link : Option ClockId) (d : ℕ)
    → ((h : ℕ) → 0 < own h → is_in a (path_within (up_in links) depth h) ≡ false) → is_held (set links a link) own d ≡ is_held links own d
held_beside links own a link d off =
    ap (λ (n : ℕ). list_any (λ h. nat_lt 0 (own h) && is_in d (path_within (up_in (set links a link)) depth h)) (count_from 0 n)) (length-set links a link)
    ∙ ap (λ (p : ℕ → Bool). list_any p (count_from 0 (length links))) (fun_ext (λ h. by_own h (nat_lt 0 (own h)) refl)) where
      beside : (h : ℕ) → 0 < own h → path_within (up_in (set links a link)) depth h ≡ path_within (up_in links) depth h
      beside h some =
          path_agree (up_in links) (up_in (set links a link)) depth h
          (λ x m. ap (λ (o : Option ClockId). option_map (λ p. p.0) o)
          (get_or-set_other links a x link None (λ same. let no : true ≡ false = sym m ∙ ap (λ (y : ℕ). is_in y (path_within (up_in links) depth h)) same ∙ off h some in cc)))

      by_own : (h : ℕ) (t : Bool) → nat_lt 0 (own h) ≡ t
          → (nat_lt 0 (own h) && is_in d (path_within (up_in (set links a link)) depth h)) ≡ (nat_lt 0 (own h) && is_in d (path_within (up_in links) depth h))
      by_own h false none =
          ap (λ (t : Bool). t && is_in d (path_within (up_in (set links a link)) depth h)) none
          ∙ sym (ap (λ (t : Bool). t && is_in d (path_within (up_in links) depth h)) none)
      by_own h true some = ap (λ (xs : List ℕ). nat_lt 0 (own h) && is_in d xs) (beside h (grind (arith, nat_tests)))

-- who is active stays active, and nobody else becomes so, where a clock that wasn't registered gets a link
pub active_beside : (m : Parts) (c : ℕ) (link : Option ClockId) (d : ℕ) → IsWhole m → registered m.tree.clocks c ≡ false
    → is_held (set m.counts.links c link) (slice_index m.counts.enables) d ≡ is_active m.counts d
active_beside m c link d whole free =
    held_beside m.counts.links (slice_index m.counts.enables) c link d (λ h some. off h some (is_in c (path_within (up_in m.counts.links) depth h)) refl) where
      off : (h : ℕ) → 0 < slice_index m.counts.enables h → (t : Bool) → is_in c (path_within (up_in m.counts.links) depth h) ≡ t → t ≡ false
      off h some false e = refl
      off h some true e =
          let inside : is_in c (path_within (link_in m.tree.clocks) depth h) ≡ true =
          ap (λ (up : ℕ → Option ℕ). is_in c (path_within up depth h)) (links_are m whole) ∙ e in
          let there : registered m.tree.clocks c ≡ true =
          path_all (λ b. registered m.tree.clocks b ≡ true) (link_in m.tree.clocks) depth h c (λ b p _ at. whole.tied.stands.links b p at) (holder_registered m h whole some) inside in
          let no : true ≡ false = sym there ∙ free in
          absurd cc

-- holders more hold what was held
pub held_more : (links : List (Option ClockId)) (own more : ℕ → ℕ) (d : ℕ) → ((h : ℕ) → nat_lt 0 (own h) ≡ true → nat_lt 0 (more h) ≡ true) → is_held links own d ≡ true
    → is_held links more d ≡ true
held_more links own more d grows held =
    let found = any_in (λ h. nat_lt 0 (own h) && is_in d (path_within (up_in links) depth h)) (count_from 0 (length links)) held in
    any_from_in (λ h. nat_lt 0 (more h) && is_in d (path_within (up_in links) depth h)) (count_from 0 (length links)) found.0 found.1
    (and_from (nat_lt 0 (more found.0)) _ (grows found.0 (both_left (nat_lt 0 (own found.0)) _ found.2)) (both_right (nat_lt 0 (own found.0)) _ found.2))

-- ---- the holders of a clock that is attached

-- one enable and one prepare holder more for a critical clock, and none for another
abbrev pub critical_more : Description → ℕ → ℕ → ℕ
critical_more defs c d = one_for (is_critical defs c && nat_eq c d)

-- whether a clock is critical and registered, behind a registration
critical_behind : (defs : Description) (c d : ℕ) (before after : Bool) → (nat_eq c d ≡ true → before ≡ false) → after ≡ (before || nat_eq c d)
    → one_for (is_critical defs d && after) ≡ one_for (is_critical defs d && before) + critical_more defs c d
critical_behind defs c d before after free more = by (nat_eq c d) refl where
  here : (a : Bool) → one_for (a && (false || true)) ≡ one_for (a && false) + one_for (a && true)
  here true = refl
  here false = refl

  or_none : (a : Bool) → (a || false) ≡ a
  or_none true = refl
  or_none false = refl

  none : (a : Bool) (n : ℕ) → n ≡ n + one_for (a && false)
  none true n = omega arith
  none false n = omega arith

  by : (t : Bool) → nat_eq c d ≡ t → one_for (is_critical defs d && after) ≡ one_for (is_critical defs d && before) + critical_more defs c d
  by true e =
      let now : after ≡ (false || true) = more ∙ ap (λ (b : Bool). b || nat_eq c d) (free e) ∙ ap (λ (t : Bool). false || t) e in
      ap (λ (b : Bool). one_for (is_critical defs d && b)) now
      ∙ here (is_critical defs d)
      ∙ ap (λ (b : Bool). one_for (is_critical defs d && b) + one_for (is_critical defs d && true)) (sym (free e))
      ∙ ap (λ (k : ℕ). one_for (is_critical defs d && before) + one_for (is_critical defs k && true)) (sym (same_from_test c d e))
      ∙ ap (λ (t : Bool). one_for (is_critical defs d && before) + one_for (is_critical defs c && t)) (sym e)
  by false e =
      ap (λ (b : Bool). one_for (is_critical defs d && b)) (more ∙ ap (λ (t : Bool). before || t) e ∙ or_none before)
      ∙ none (is_critical defs c) (one_for (is_critical defs d && before))
      ∙ ap (λ (t : Bool). one_for (is_critical defs d && before) + one_for (is_critical defs c && t)) (sym e)

-- a clock of a state was registered, and nothing else changed that counts see
pub record IsAttached (s t : State) (c : ℕ) : Type 0 where
  pub free : registered s.clocks c ≡ false
  pub rows : (d : ℕ) → registered t.clocks d ≡ (registered s.clocks d || nat_eq c d)
  pub defs : t.defs ≡ s.defs
  pub handles : t.handles ≡ s.handles
  pub prepare_holds : t.prepare_holds ≡ s.prepare_holds
  pub enable_holds : t.enable_holds ≡ s.enable_holds

-- counts that got its link, and its holders if it is critical, stand for the state behind it
pub stands_attached : (k k' : CountState) (s t : State) (c : ℕ) → StandsFor k s → IsAttached s t c → HasLinks t.clocks k'.links → k'.gated ≡ k.gated → length k'.links ≡ length k.links
    → ((d : ℕ) → slice_index k'.enables d ≡ slice_index k.enables d + critical_more s.defs c d)
    → ((d : ℕ) → slice_index k'.prepares d ≡ slice_index k.prepares d + critical_more s.defs c d)
    → k'.exclusives ≡ k.exclusives → StandsFor k' t
stands_attached k k' s t c stands is links gated long enables prepares exclusives = record {
  size = long ∙ stands.size ∙ ap (λ (ds : Description). length ds) (sym is.defs);
  gated = λ d. ap (λ (gs : List Bool). slice_index_or gs d false) gated ∙ stands.gated d ∙ ap (λ (ds : Description). sets_rate_gate ds d) (sym is.defs);
  links = links;
  enables = λ d. enables d ∙ ap (λ (n : ℕ). n + critical_more s.defs c d) (stands.enables d) ∙ own_more (λ h. h.enables) s.enable_holds t.enable_holds (sym is.enable_holds) d;
  prepares = λ d. prepares d ∙ ap (λ (n : ℕ). n + critical_more s.defs c d) (stands.prepares d) ∙ own_more (λ h. h.prepares) s.prepare_holds t.prepare_holds (sym is.prepare_holds) d;
  exclusives = λ d.
      ap (λ (xs : List ℕ). slice_index xs d) exclusives ∙ stands.exclusives d
      ∙ ap (λ (hs : List (Option HandleRow)). sum_on (λ h. h.exclusives) hs d) (sym is.handles);
} where
  here : (d : ℕ) → nat_eq c d ≡ true → registered s.clocks d ≡ false
  here d e = ap (registered s.clocks) (sym (same_from_test c d e)) ∙ is.free

  own_more : (count : HandleRow → ℕ) (holds holds' : List ℕ) → holds ≡ holds' → (d : ℕ)
      → sum_on count s.handles d + one_for (is_critical s.defs d && registered s.clocks d) + count_by (λ h. nat_eq h d) holds + critical_more s.defs c d
      ≡ sum_on count t.handles d + one_for (is_critical t.defs d && registered t.clocks d) + count_by (λ h. nat_eq h d) holds'
  own_more count holds holds' same d =
      let critical : one_for (is_critical t.defs d && registered t.clocks d) ≡ one_for (is_critical s.defs d && registered s.clocks d) + critical_more s.defs c d =
      ap (λ (ds : Description). one_for (is_critical ds d && registered t.clocks d)) is.defs
      ∙ critical_behind s.defs c d (registered s.clocks d) (registered t.clocks d) (here d) (is.rows d) in
      let sums = ap (λ (hs : List (Option HandleRow)). sum_on count hs d) is.handles in
      let held = ap (λ (hs : List ℕ). count_by (λ h. nat_eq h d) hs) same in
      omega arith
