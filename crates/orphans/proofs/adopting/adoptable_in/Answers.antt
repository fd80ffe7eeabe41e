-- Turn by turn, the first that is free.
use Rattle.std.proofs.Common.{◌≡◌, ◌∙◌, ◌<◌, ◌++◌, Bool, true, false, List, [], ◌∷◌, Some, None, Option, ℕ, suc, sym, ap, subst, arith, length, map, take, drop}
use Rattle.std.specs.Prelude.{find, filter, slice_get, slice_set, All}
use Rattle.std.specs.Option.{option_map}
use Rattle.std.proofs.lemmas.List.{append-nil, map-append, length-map, take-map, drop-map}
use Rattle.std.proofs.lemmas.List.Elements.{All-append, All-take, All-drop, All-get_or, All-nil, All-push}
use Rattle.std.proofs.lemmas.Option.{slice_get-map, slice_get-get_or}
use Rattle.clk_base.specs.declared.clock.ClockId.{ClockId}
use Rattle.clk_base.specs.Description.{Description}
use Rattle.clk_model.specs.declared.row.ClockRow.{ClockRow}
use Rattle.clk_model.specs.Lists.{is_in, none_twice}
use Rattle.clk_model.specs.State.{State, registered}
use Rattle.clk_model.specs.Tree.{orphans, is_orphan}
use Rattle.clk_model.specs.Script.{adoptable, adoption_order}
use Rattle.clk_model.specs.Begin.{register, registered_rows}
use Rattle.clk_model.specs.Wired.{LinesEnd, ListsRegistered}
use Rattle.clk_model.proofs.OnceLaws.{once_filter, is_in-filter}
use Rattle.clk_tree.proofs.GroupLaws.{order_below}
use Rattle.orphans.specs.Beside.{AreMarked, adopted_order, has_parent, is_free, waits_beside}
use Rattle.orphans.proofs.AdoptionLaws.{taken_at, unmarked, one_turn, no_turn, waiting_are}
use Rattle.orphans.proofs.adopting.adoptable_in.Goals as goal
use Rattle.clk_model.proofs.PllLaws.{at_place}

-- the clocks as numbers
abbrev places : List ClockId → List ℕ
places cs = map (λ c. c.0) cs

-- the same of a state with this description, these rows and this order
all_waiting : (s : State) (c : ℕ) (defs : Description) (clocks : List ClockRow) (order left : List ℕ) → s.defs ≡ defs → s.clocks ≡ clocks → s.order ≡ order
    → LinesEnd defs → c < length clocks → registered clocks c ≡ false → ListsRegistered order clocks
    → left ≡ filter (has_parent defs s.regs (registered_rows defs s.regs clocks c)) (orphans defs order clocks) → left ≡ adoptable (register s c)
all_waiting s c defs clocks order left same_defs same_clocks same_order lines within free lists is =
    is
    ∙ ap (λ (ds : Description). filter (has_parent ds s.regs (registered_rows ds s.regs clocks c)) (orphans ds order clocks)) (sym same_defs)
    ∙ ap (λ (rows : List ClockRow). filter (has_parent s.defs s.regs (registered_rows s.defs s.regs rows c)) (orphans s.defs order rows)) (sym same_clocks)
    ∙ ap (λ (xs : List ℕ). filter (has_parent s.defs s.regs (registered_rows s.defs s.regs s.clocks c)) (orphans s.defs xs s.clocks)) (sym same_order)
    ∙ waiting_are s c (subst (λ (ds : Description). LinesEnd ds) (sym same_defs) lines) (subst (λ (rows : List ClockRow). c < length rows) (sym same_clocks) within)
    (ap (λ (rows : List ClockRow). registered rows c) same_clocks ∙ free)
    (subst (λ (rows : List ClockRow). ListsRegistered s.order rows) (sym same_clocks) (subst (λ (xs : List ℕ). ListsRegistered xs clocks) (sym same_order) lists))

-- the first that is free, said of a state
free_in : (s : State) (c : ℕ) (defs : Description) (clocks : List ClockRow) (marks marks' : List Bool) (left left' : List ℕ) (o : Option ℕ) → s.defs ≡ defs → s.clocks ≡ clocks → marks' ≡ marks → left' ≡ left
    → find (is_free defs s.regs (registered_rows defs s.regs clocks c) marks') left' ≡ o → find (is_free s.defs s.regs (registered_rows s.defs s.regs s.clocks c) marks) left ≡ o
free_in s c defs clocks marks marks' left left' o same_defs same_clocks same_marks same_left found =
    ap (λ (ds : Description). find (is_free ds s.regs (registered_rows ds s.regs s.clocks c) marks) left) same_defs
    ∙ ap (λ (rows : List ClockRow). find (is_free defs s.regs (registered_rows defs s.regs rows c) marks) left) same_clocks
    ∙ ap (λ (ms : List Bool). find (is_free defs s.regs (registered_rows defs s.regs clocks c) ms) left) (sym same_marks)
    ∙ ap (λ (xs : List ℕ). find (is_free defs s.regs (registered_rows defs s.regs clocks c) marks') xs) (sym same_left)
    ∙ found

-- what all turns come to
whole_order : (s : State) (c : ℕ) (left : List ClockId) → places left ≡ adoptable (register s c)
    → adoption_order (length left) (register s c) (places left) ≡ adopted_order s c
whole_order s c left is =
    ap (λ (n : ℕ). adoption_order n (register s c) (places left)) (sym (length-map left (λ (d : ClockId). d.0)))
    ∙ ap (λ (xs : List ℕ). adoption_order (length xs) (register s c) xs) is

pub loop-turn-init : goal.loop-turn-init
loop-turn-init g c = record {
  few = omega arith;
  inside = c.in_ok-left.ensures.inside;
  there = c.in_ok-left.ensures.there;
  ordered = subst (λ (ds : List ClockId). All (λ d. registered c.args.tree.now.clocks d.0 ≡ true) ds) (sym c.new-order.ensures.items) (All-nil (λ (d : ClockId). registered c.args.tree.now.clocks d.0 ≡ true));
  marked = λ regs told.
      let t = c.args.tree.now in
      let test : ℕ → Bool = waits_beside t regs c.args.new.0 in
      let stands = c.in_ok-left.ensures.stands in
      let list = c.in_ok-left.ensures.list regs told in
      record {
        size = c.in_ok-marks.ensures.size ∙ c.len.ensures.len;
        once = subst (λ (xs : List ℕ). none_twice xs ≡ true) (sym list)
            (once_filter test (orphans t.defs t.order t.clocks) (once_filter (is_orphan t.defs t.clocks) t.order stands.order_lists.once));
        inside = λ x m.
            order_below t.defs t.clocks t.order t.rates stands x
            (is_in-filter (is_orphan t.defs t.clocks) x t.order (is_in-filter test x (orphans t.defs t.order t.clocks) (ap (is_in x) (sym list) ∙ m)));
        marked = λ x. c.in_ok-marks.ensures.marked x ∙ ap (λ (ds : List ClockId). is_in x (places ds)) c.deref.ensures.value;
      };
  adopted = λ s defs clocks order told.
      ap (λ (ds : List ClockId). places ds ++ adoption_order (length c.in_ok-left.left.items) (register s c.args.new.0) (places c.in_ok-left.left.items)) c.new-order.ensures.items;
}

pub returns-in-None-clause-order : goal.returns-in-None-clause-order
returns-in-None-clause-order g c = λ s defs clocks order told.
    let t = c.args.tree.now in
    let stands = c.in_ok-left.ensures.stands in
    no_turn s c.args.new.0 (length c.args.tree.now.defs) (length c.loop-turn.left.items) c.loop-turn.marks.items (places c.loop-turn.left.items) (places c.loop-turn.order.items)
    (adoption_order (length c.in_ok-left.left.items) (register s c.args.new.0) (places c.in_ok-left.left.items))
    (c.loop-turn.invariant.marked s.regs told)
    (free_in s c.args.new.0 t.defs t.clocks c.loop-turn.marks.items c.deref-in-loop-turn.result.now (places c.loop-turn.left.items) (places c.deref-in-loop-turn-2.result.now) None
    defs clocks c.deref-in-loop-turn.ensures.value (ap (λ (ds : List ClockId). places ds) c.deref-in-loop-turn-2.ensures.value) (c.in-None.ensures.first s.regs told))
    (c.loop-turn.invariant.adopted s defs clocks order told)
    ∙ whole_order s c.args.new.0 c.in_ok-left.left.items
    (all_waiting s c.args.new.0 t.defs t.clocks t.order (places c.in_ok-left.left.items) defs clocks order stands.lines
    (let rows = stands.rows in let place = c.requires.place in omega arith) c.requires.free stands.order_lists (c.in_ok-left.ensures.list s.regs told))

pub returns-clause-order : goal.returns-clause-order
returns-clause-order g c = λ s defs clocks order told.
    let t = c.args.tree.now in
    let stands = c.in_ok-left.ensures.stands in
    let none : length c.loop-turn.left.items ≡ 0 = let few = c.loop-turn.invariant.few in let over = c.loop-turn-test.false in let len = c.len-turn-end.ensures in let ok = c.in_ok-left.left.ok in omega arith in
    sym (append-nil (places c.loop-turn.order.items))
    ∙ ap (λ (n : ℕ). places c.loop-turn.order.items ++ adoption_order n (register s c.args.new.0) (places c.loop-turn.left.items)) (sym none)
    ∙ c.loop-turn.invariant.adopted s defs clocks order told
    ∙ whole_order s c.args.new.0 c.in_ok-left.left.items
    (all_waiting s c.args.new.0 t.defs t.clocks t.order (places c.in_ok-left.left.items) defs clocks order stands.lines
    (let rows = stands.rows in let place = c.requires.place in omega arith) c.requires.free stands.order_lists (c.in_ok-left.ensures.list s.regs told))

pub loop-turn-preserved : goal.loop-turn-preserved
loop-turn-preserved g c =
    let left = c.loop-turn.left.items in
    let k = c.in-Some.place in
    let a = c.remove-clock.result in
    let lt : k < length left = let is = c.in-Some.ensures.inside in let len = ap (λ (ds : List ClockId). length ds) c.deref-in-loop-turn-2.ensures.value in omega arith in
    let at : slice_get (places left) k ≡ Some a.0 =
    slice_get-map (λ (d : ClockId). d.0) left k ∙ ap (option_map (λ (d : ClockId). d.0)) (slice_get-get_or left k a lt ∙ ap (λ (d : ClockId). Some d) (sym c.remove-clock.ensures.value)) in
    let items : places c.remove-clock.new.self.items ≡ take k (places left) ++ drop (suc k) (places left) =
    ap (λ (ds : List ClockId). places ds) c.remove-clock.ensures.items ∙ map-append (λ (d : ClockId). d.0) (take k left) (drop (suc k) left)
    ∙ ap (λ (xs : List ℕ). xs ++ places (drop (suc k) left)) (sym (take-map (λ (d : ClockId). d.0) k left))
    ∙ ap (λ (xs : List ℕ). take k (places left) ++ xs) (sym (drop-map (λ (d : ClockId). d.0) (suc k) left)) in
    record {
      few = let few = c.loop-turn.invariant.few in let less = c.remove-clock.ensures.len in let ok = c.remove-clock.new.self.ok in let was = c.loop-turn.left.ok in omega arith;
      inside =
          let test : ClockId → Type 0 = λ d. d.0 < length c.args.tree.now.defs in
          subst (λ (ds : List ClockId). All test ds) (sym c.remove-clock.ensures.items)
          (All-append test (take k left) (drop (suc k) left) (All-take test k left c.loop-turn.invariant.inside) (All-drop test (suc k) left c.loop-turn.invariant.inside));
      there =
          let test : ClockId → Type 0 = λ d. registered c.args.tree.now.clocks d.0 ≡ true in
          subst (λ (ds : List ClockId). All test ds) (sym c.remove-clock.ensures.items)
          (All-append test (take k left) (drop (suc k) left) (All-take test k left c.loop-turn.invariant.there) (All-drop test (suc k) left c.loop-turn.invariant.there));
      ordered =
          let test : ClockId → Type 0 = λ d. registered c.args.tree.now.clocks d.0 ≡ true in
          subst (λ (ds : List ClockId). All test ds) (sym c.in_ok-push-in-Some.ensures.items)
          (All-push test c.loop-turn.order.items a c.loop-turn.invariant.ordered
          (subst test (sym c.remove-clock.ensures.value) (All-get_or test left k a lt c.loop-turn.invariant.there)));
      marked = λ regs told.
          let are = c.loop-turn.invariant.marked regs told in
          subst (λ (xs : List ℕ). AreMarked (length c.args.tree.now.defs) (slice_set c.loop-turn.marks.items a.0 false) xs) (taken_at (places left) k a.0 at are.once ∙ sym items)
          (unmarked (length c.args.tree.now.defs) c.loop-turn.marks.items (places left) a.0 (are.inside a.0 (at_place (places left) k a.0 at)) are);
      adopted = λ s defs clocks order told.
          let are = c.loop-turn.invariant.marked s.regs told in
          let t = register s c.args.new.0 in
          let m = length c.remove-clock.new.self.items in
          let one : length left ≡ suc m = let less = c.remove-clock.ensures.len in let ok = c.remove-clock.new.self.ok in let was = c.loop-turn.left.ok in omega arith in
          let whole : List ℕ = adoption_order (length c.in_ok-left.left.items) t (places c.in_ok-left.left.items) in
          ap (λ (ds : List ClockId). places ds ++ adoption_order m t (places c.remove-clock.new.self.items)) c.in_ok-push-in-Some.ensures.items
          ∙ ap (λ (xs : List ℕ). xs ++ adoption_order m t (places c.remove-clock.new.self.items)) (map-append (λ (d : ClockId). d.0) c.loop-turn.order.items (a ∷ []))
          ∙ ap (λ (xs : List ℕ). (places c.loop-turn.order.items ++ a.0 ∷ []) ++ adoption_order m t xs) (items ∙ sym (taken_at (places left) k a.0 at are.once))
          ∙ one_turn s c.args.new.0 (length c.args.tree.now.defs) m a.0 c.loop-turn.marks.items (places left) (places c.loop-turn.order.items) whole are
          (free_in s c.args.new.0 c.args.tree.now.defs c.args.tree.now.clocks c.loop-turn.marks.items c.deref-in-loop-turn.result.now (places left) (places c.deref-in-loop-turn-2.result.now) (Some a.0)
          defs clocks c.deref-in-loop-turn.ensures.value (ap (λ (ds : List ClockId). places ds) c.deref-in-loop-turn-2.ensures.value)
          (c.in-Some.ensures.first s.regs told ∙ ap (λ (xs : List ℕ). slice_get xs k) (ap (λ (ds : List ClockId). places ds) c.deref-in-loop-turn-2.ensures.value) ∙ at))
          (ap (λ (n : ℕ). places c.loop-turn.order.items ++ adoption_order n t (places left)) (sym one) ∙ c.loop-turn.invariant.adopted s defs clocks order told);
    }
