-- A critical clock that is registered: it is prepared and enabled from then on, and the gates of its path follow.
use Rattle.std.proofs.Common.{◌≡◌, ℕ, ◌+◌, ◌<◌, ◌&&◌, ◌||◌, Bool, true, false, cond, not, List, Option, Some, refl, sym, ap, subst, ◌∙◌, arith, length, set, get_or, nat_eq, nat_lt}
use Rattle.std.proofs.lemmas.List.{length-set}
use Rattle.std.proofs.Math.Path.{fun_ext}
use Rattle.std.proofs.lemmas.Bool.Decides.{nat_tests}
use Rattle.std.specs.Prelude.{is_some, slice_index}
use Rattle.std.specs.Option.{option_map}
use Rattle.clk_base.specs.declared.clock.ClockId.{ClockId}
use Rattle.clk_base.specs.Description.{Description}
use Rattle.clk_base.specs.Flags.{is_critical}
use Rattle.clk_model.specs.declared.row.ClockRow.{ClockRow}
use Rattle.clk_model.specs.Lists.{is_in, count_from}
use Rattle.clk_model.specs.State.{State, registered, link_in}
use Rattle.clk_model.specs.Tree.{path_within}
use Rattle.clk_model.specs.Holders.{active}
use Rattle.clk_model.specs.Gates.{gates_moved, settled}
use Rattle.clk_model.specs.Begin.{register}
use Rattle.clk_model.proofs.Members.{test_same}
use Rattle.clk_tree.specs.TreeState.{TreeState}
use Rattle.counts_core.specs.Sums.{up_in}
use Rattle.counts_core.specs.Counted.{CountState, AreCounts, HasLinks, is_active}
use Rattle.counts_core.specs.Standing.{StandsFor}
use Rattle.counts_core.proofs.Standing.{tells_holds}
use Rattle.counts_core.proofs.Walking.{count-more}
use Rattle.core_parts.specs.Window.{Shown}
use Rattle.clk_machine.specs.Parts.{Parts, bare, IsWhole}
use Rattle.clk_machine.specs.Stands.{Stands, Becomes}
use Rattle.clk_machine.proofs.Attached.{critical_more, held_more, IsAttached, stands_attached}
use Rattle.clk_machine.proofs.Following.{opens_all, told_mapped, regs_told, regs_lie, lists_alike}
use Rattle.core_parts.proofs.Moving.{path_within_desc, tied-moved}
use Rattle.clk_machine.proofs.Registering.{Registered, with_registered, tied_registered, whole_attached, bare_attached, rows_stand, register_rest, state_attached, registered_stands, active_linked}
use Rattle.clk_machine.proofs.Writing.{counts_stand}
use Rattle.clk_machine.proofs.Adopting.{register_regs}

-- a clock more was counted once among the prepare holders and once among the enable holders
pub record IsHeld (counts' held : CountState) (c : ℕ) : Type 0 where
  pub is : held ≡ record counts' {
    prepares = set counts'.prepares c (get_or counts'.prepares c 0 + 1);
    enables = set counts'.enables c (get_or counts'.enables c 0 + 1);
  }
  pub keeps : AreCounts held

-- counted by a hold and then an enable
pub held_twice : (counts' mid held : CountState) (c : ℕ) → mid ≡ record counts' { prepares = set counts'.prepares c (get_or counts'.prepares c 0 + 1) }
    → held ≡ record mid { enables = set mid.enables c (get_or mid.enables c 0 + 1) } → AreCounts held → IsHeld counts' held c
held_twice counts' mid held c one two keeps = record {
  is = two ∙ ap (λ (k : CountState). let x : CountState = record k { enables = set k.enables c (get_or k.enables c 0 + 1) } in x) one;
  keeps = keeps;
}

-- the first clocks of its path that became active since the link was set
pub held_begun : (counts' mid held : CountState) (c levels : ℕ) → mid ≡ record counts' { prepares = set counts'.prepares c (get_or counts'.prepares c 0 + 1) }
    → ((d : ℕ) → is_in d (path_within (up_in mid.links) levels c) ≡ (is_active held d && not (is_active mid d)))
    → (d : ℕ) → is_in d (path_within (up_in counts'.links) levels c) ≡ (is_active held d && not (is_active counts' d))
held_begun counts' mid held c levels one began d =
    ap (λ (k : CountState). is_in d (path_within (up_in k.links) levels c)) (sym one) ∙ began d ∙ ap (λ (k : CountState). is_active held d && not (is_active k d)) one

module _ (old : Parts) (c : ℕ) (tree' : TreeState) (counts' held : CountState) (window' : Shown) (levels : ℕ)
    (whole : IsWhole old) (now : Registered old c tree' counts') (holds : IsHeld counts' held c) (critical : is_critical old.desc.defs c ≡ true) where
  -- one more of each for the clock
  one_more : (defs : Description) (before xs ys : List ℕ) → is_critical defs c ≡ true → c < length xs → xs ≡ before → ys ≡ set xs c (get_or xs c 0 + 1)
      → (d : ℕ) → slice_index ys d ≡ slice_index before d + critical_more defs c d
  one_more defs before xs ys is within same more d =
      let raised = ap (λ (zs : List ℕ). slice_index zs d) more ∙ count-more xs c d within in
      let was = ap (λ (zs : List ℕ). slice_index zs d) same in
      let one : critical_more defs c d ≡ cond (nat_eq c d) 1 0 = ap (λ (t : Bool). cond (t && nat_eq c d) 1 0) is in
      omega arith

  place : (xs : List ℕ) → length xs ≡ length counts'.links → c < length xs
  place xs many =
      let long : length counts'.links ≡ length old.desc.defs = ap (λ (k : CountState). length k.links) now.counts ∙ length-set old.counts.links c now.link ∙ whole.counted.stands.size in
      let inside = now.place in
      omega arith

  pub held_stands : (s t : State) → is_critical s.defs c ≡ true → StandsFor old.counts s → IsAttached s t c → t.clocks ≡ tree'.clocks → StandsFor held t
  held_stands s t is stands attached rows =
      stands_attached old.counts held s t c stands attached
      (subst (λ (rs : List ClockRow). HasLinks rs held.links) (sym rows) (subst (λ (ls : List (Option ClockId)). HasLinks tree'.clocks ls) (sym (ap (λ (k : CountState). k.links) holds.is)) now.links))
      (ap (λ (k : CountState). k.gated) holds.is ∙ ap (λ (k : CountState). k.gated) now.counts)
      (ap (λ (k : CountState). length k.links) holds.is ∙ ap (λ (k : CountState). length k.links) now.counts ∙ length-set old.counts.links c now.link)
      (one_more s.defs old.counts.enables counts'.enables held.enables is (place counts'.enables now.keeps.enables) (ap (λ (k : CountState). k.enables) now.counts) (ap (λ (k : CountState). k.enables) holds.is))
      (one_more s.defs old.counts.prepares counts'.prepares held.prepares is (place counts'.prepares now.keeps.prepares) (ap (λ (k : CountState). k.prepares) now.counts) (ap (λ (k : CountState). k.prepares) holds.is))
      (ap (λ (k : CountState). k.exclusives) holds.is ∙ ap (λ (k : CountState). k.exclusives) now.counts)

  -- the clocks whose gates open
  abbrev pub cs : List ℕ
  cs = path_within (link_in tree'.clocks) levels c

  there : registered tree'.clocks c ≡ true
  there = now.rows c ∙ ap (λ (t : Bool). registered old.tree.clocks c || t) (test_same c) ∙ or_true (registered old.tree.clocks c) where
    or_true : (a : Bool) → (a || true) ≡ true
    or_true true = refl
    or_true false = refl

  pub in_desc : (d : ℕ) → is_in d cs ≡ true → d < length old.desc.defs
  in_desc d m = path_within_desc old.desc old.window tree' levels c (tied_registered old c tree' counts' whole now) there d m

  -- the parts stay whole
  pub whole_critical : old.flight.going ≡ false → old.spent < old.credits → window'.size ≡ old.window.size → window'.words ≡ option_map (gates_moved old.desc.defs (λ _. false) (λ _. true) cs) old.window.words
      → IsWhole (with_registered old window' tree' held)
  whole_critical quiet left size words =
      whole_attached old c window' tree' counts' held whole quiet now left
      (tied-moved old.desc old.window window' tree' (λ _. false) (λ _. true) cs (tied_registered old c tree' counts' whole now) in_desc size words) holds.keeps
      (held_stands (bare old) (bare (with_registered old window' tree' held)) critical whole.counted.stands (bare_attached old c window' tree' counts' held now) refl)

  linked_cs : path_within (up_in counts'.links) levels c ≡ cs
  linked_cs = ap (λ (up : ℕ → Option ℕ). path_within up levels c) (fun_ext (λ d. sym (now.links d)))

  -- whoever was active is so with one holder more
  grows : (d : ℕ) → is_active counts' d ≡ true → is_active held d ≡ true
  grows d was =
      ap (λ (k : CountState). is_active k d) holds.is
      ∙ held_more counts'.links (slice_index counts'.enables) (slice_index (set counts'.enables c (get_or counts'.enables c 0 + 1))) d more was where
        more : (h : ℕ) → nat_lt 0 (slice_index counts'.enables h) ≡ true → nat_lt 0 (slice_index (set counts'.enables c (get_or counts'.enables c 0 + 1)) h) ≡ true
        more h some = let raised = count-more counts'.enables c h (place counts'.enables now.keeps.enables) in grind (arith, nat_tests)

  -- the gates of its path open in the state
  pub critical_regs : (s : State) → Stands old s → ((d : ℕ) → is_in d (path_within (up_in counts'.links) levels c) ≡ (is_active held d && not (is_active counts' d)))
      → gates_moved (register s c).defs (active s) (active (register s c)) (count_from 0 (length (register s c).defs)) (register s c).regs ≡ gates_moved s.defs (λ _. false) (λ _. true) cs s.regs
  critical_regs s stands began =
      let r : State = register s c in
      let is : is_critical s.defs c ≡ true = ap (λ (ds : Description). is_critical ds c) stands.defs ∙ critical in
      let after = held_stands s r is (counts_stand old s whole stands) (state_attached old c tree' counts' s now stands) (rows_stand old c tree' counts' s now stands) in
      let new : (d : ℕ) → is_active held d ≡ active r d = (λ d. (tells_holds held r holds.keeps after d).active) in
      let was : (d : ℕ) → is_active counts' d ≡ active s d = (λ d. active_linked old c tree' counts' s d whole now stands) in
      let opened : gates_moved s.defs (active s) (active r) (count_from 0 (length s.defs)) s.regs ≡ gates_moved s.defs (λ _. false) (λ _. true) cs s.regs =
      opens_all s.defs (active s) (active r) cs s.regs (regs_told old s whole stands).0 (regs_lie old s whole stands)
      (λ d m. subst (λ (ds : Description). d < length ds) (sym stands.defs) (in_desc d m))
      (λ d. ap (is_in d) (sym linked_cs) ∙ began d ∙ lists_alike _ _ _ _ (new d) (was d))
      (λ d on. sym (new d) ∙ grows d (was d ∙ on)) in
      ap (λ (ds : Description). gates_moved ds (active s) (active r) (count_from 0 (length ds)) r.regs) (register_rest s c).0
      ∙ ap (gates_moved s.defs (active s) (active r) (count_from 0 (length s.defs))) (register_regs s c) ∙ opened

  -- and in the words
  pub critical_words : (s : State) → Stands old s → window'.words ≡ option_map (gates_moved old.desc.defs (λ _. false) (λ _. true) cs) old.window.words
      → window'.words ≡ Some (gates_moved s.defs (λ _. false) (λ _. true) cs s.regs)
  critical_words s stands words =
      words ∙ ap (option_map (gates_moved old.desc.defs (λ _. false) (λ _. true) cs)) stands.regs
      ∙ ap (λ (ds : Description). Some (gates_moved ds (λ _. false) (λ _. true) cs s.regs)) (sym stands.defs)

  -- that is what is done to the state
  pub becomes_critical : window'.size ≡ old.window.size → window'.behind ≡ old.window.behind → window'.locks ≡ old.window.locks
      → ((d : ℕ) → is_in d (path_within (up_in counts'.links) levels c) ≡ (is_active held d && not (is_active counts' d)))
      → window'.words ≡ option_map (gates_moved old.desc.defs (λ _. false) (λ _. true) cs) old.window.words
      → Becomes old (λ k. nat_eq c k) (λ s. register s c) (with_registered old window' tree' held)
  unfolding settled
  becomes_critical size behind locks began words = record {
    remains = record { desc = refl; told = ap (λ (o : Option (List ℕ)). is_some o) words ∙ told_mapped _ old.window.words; size = size; behind = behind; credits = refl; ignore_unused = refl };
    spent = refl;
    flight = refl;
    locks = locks;
    left = refl;
    steps = refl;
    rows = now.rows;
    stands = λ s stands sound.
        subst (λ (ws : List ℕ). Stands (with_registered old window' tree' held) (record (register s c) { regs = ws; spent = s.spent + 1 })) (sym (critical_regs s stands began))
        (registered_stands old c window' tree' counts' held s (gates_moved s.defs (λ _. false) (λ _. true) cs s.regs) now stands (critical_words s stands words));
  }
