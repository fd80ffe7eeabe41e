-- Laws on the outcome of a walk: the moves and visits of a walk, from the top down, make of a tree the outcome of the chain.
use Rattle.std.proofs.Common.{◌≡◌, ℕ, zero, Bool, true, false, not, ◌&&◌, ◌||◌, cond, List, [], ◌∷◌, ◌++◌, Option, Some, None, refl, sym, ap, subst, ◌∙◌, ◌⊎◌, inl, inr, nat_eq, true≢false, append-nil, ◌<◌, ◌≤◌, arith, length}
use Rattle.std.specs.Prelude.{filter, find, flat_map, if◌then◌else◌, option_map, is_some}
use Rattle.std.specs.List.{AllByRecursion}
use Rattle.std.proofs.lemmas.Bool.{cases_lt}
use Rattle.std.specs.Option.{option_map_or}
use Rattle.clk_base.specs.declared.call.Micro.{Micro}
use Rattle.clk_base.specs.declared.call.Micro.TheVariants as micro
use Rattle.clk_base.specs.declared.clock.Kind.{Kind}
use Rattle.clk_base.specs.declared.clock.Kind.TheVariants.{FixedRate, Factor, Gate, Mux, Divider, Pll}
use Rattle.clk_base.specs.Description.{Description, kind_of, parents_of}
use Rattle.clk_base.specs.Levels.{depth}
use Rattle.clk_base.proofs.Valid.{lines_end}
use Rattle.reg_bank.specs.Registers.{Registers}
use Rattle.clk_model.specs.declared.row.ClockRow.{ClockRow}
use Rattle.clk_model.specs.Lists.{is_in, same_place, none_twice}
use Rattle.clk_model.specs.Kinds.{mux_field}
use Rattle.clk_model.specs.State.{ChainStep, row_of, link_in}
use Rattle.clk_model.specs.Round.{Wiring, parent_rate_in}
use Rattle.clk_model.specs.Chain.{clock_id, linked, moves, place_of, select, setting, set_one, outcome}
use Rattle.clk_model.specs.Script.{unfeed, fed_step, runs_for, visit_of, move, move_of}
use Rattle.clk_base.specs.Flags.{runs_parent}
use Rattle.clk_model.specs.Walk.{top_of, kids_after, walk}
use Rattle.clk_model.specs.Wired.{IsWired, IsOrder}
use Rattle.clk_model.specs.Laws.Plans.{clocks_in, LeadsUp, HasParent, LeadsFrom}
use Rattle.clk_model.proofs.ActedLaws.{planned_in, act, acted, acted_append}
use Rattle.clk_model.proofs.AboveLaws.{Above, above_link}
use Rattle.clk_model.proofs.BelowLaws.{rises_path, few_steps}
use Rattle.clk_model.proofs.Members.{is_in_head, is_in_tail, is_in_cases, not_either, test_same, same_from_test}
use Rattle.clk_model.proofs.OnceLaws.{in_append, is_in-append, once_head, once_cons}
use Rattle.clk_model.proofs.OutcomeLaws.{SettingsFit, differs_in}
use Rattle.clk_model.proofs.PlannedGoLaws.{all_both, moves_here, filter_off}
use Rattle.clk_model.proofs.SettingLaws.{settings_fit}
use Rattle.clk_model.proofs.WalkLaws.{linked_lt, Planned_, parented_lt, links_after, kids_are, walks_list}
use Rattle.clk_model.proofs.WalkOrderLaws.{Descends, below_descends, head_below, tail_leads}

-- ---- one clock

-- what a walk makes of a tree at one clock: the setting of its step of the chain, if it has one, where it moves by the links that it had
abbrev pub set_planned : List ClockRow → ChainStep → Wiring → Wiring
set_planned before k w = record w {
  regs = if moves before k then option_map_or (λ p. select w.defs k.clock p w.regs) k.parent w.regs
      else setting (kind_of w.defs k.clock) (parent_rate_in w k.clock) k.rate w.regs;
  clocks = if moves before k then option_map_or (linked w.clocks k.clock) k.parent w.clocks else w.clocks;
}

abbrev pub set_at : List ClockRow → List ChainStep → ℕ → Wiring → Wiring
set_at before ks c w = option_map_or (λ k. set_planned before k w) (find (λ k. nat_eq k.clock c) ks) w

-- and at the clocks of a list, one after the other
abbrev pub set_along : List ClockRow → List ChainStep → List ℕ → Wiring → Wiring
set_along before ks [] w = w
set_along before ks (c ∷ cs) w = set_along before ks cs (set_at before ks c w)

-- the steps of a walk at one clock
abbrev pub walked : Description → List ClockRow → (ℕ → Bool) → List ChainStep → ℕ → List Micro
walked defs before prep ks c = move_of defs before prep ks c ++ visit_of defs before ks c

-- and without what keeps a clock running for them
abbrev bare : Description → List ClockRow → (ℕ → Bool) → List ChainStep → ℕ → List Micro
bare defs before prep ks c = move_of defs before prep ks c ++ micro.Visit (clock_id c) ∷ []

bare_acts : (all ks : List ChainStep) (defs : Description) (before : List ClockRow) (prep : ℕ → Bool) (c : ℕ) (w : Wiring) → acted all (walked defs before prep ks c) w ≡ acted all (bare defs before prep ks c) w
bare_acts all ks defs before prep c w =
    acted_append all (move_of defs before prep ks c) (visit_of defs before ks c) w
    ∙ fed (runs_for defs before ks c) (acted all (move_of defs before prep ks c) w)
    ∙ sym (acted_append all (move_of defs before prep ks c) (micro.Visit (clock_id c) ∷ []) w) where
      fed : (o : Option ℕ) (v : Wiring) → acted all (fed_step o (micro.Visit (clock_id c))) v ≡ act all (micro.Visit (clock_id c)) v
      fed None v = refl
      fed (Some x) v = refl

-- a step that moves a clock leads somewhere, and the clock is a mux
pub record MovesMux (defs : Description) (before : List ClockRow) (k : ChainStep) : Type 0 where
  pub mux : moves before k ≡ true → is_some (mux_field (kind_of defs k.clock)) ≡ true
  pub leads : moves before k ≡ true → k.parent ≡ None → ⊥

mux_setting : (kind : Kind) (parent planned : ℕ) (regs : Registers) → is_some (mux_field kind) ≡ true → setting kind parent planned regs ≡ regs
mux_setting (Mux word shift width read_only) parent planned regs is = refl
mux_setting (FixedRate rate) parent planned regs is = refl
mux_setting (Factor mult div) parent planned regs is = refl
mux_setting (Gate word bit set_to_disable) parent planned regs is = refl
mux_setting (Divider word shift width one_based power_of_two) parent planned regs is = absurd cc
mux_setting (Pll word shift width power_word power_bit least most m) parent planned regs is = absurd cc

-- a move links the clock and writes its field, whichever other steps it has
move_acts : (all : List ChainStep) (defs : Description) (before : List ClockRow) (prep : ℕ → Bool) (c p : ℕ) (w : Wiring) → w.defs ≡ defs
    → acted all (move defs before prep c p) w ≡ record w { clocks = linked w.clocks c p; regs = select w.defs c p w.regs }
move_acts all defs before prep c p w same =
    either (prep c) _ _ done (lets (link_in before c) _ ∙ written) (either (runs_parent defs c) _ _ done (more (link_in before c) _ ∙ written) written) where
      done : Wiring
      done = record w { clocks = linked w.clocks c p; regs = select w.defs c p w.regs }

      written : act all (micro.WriteMux (clock_id c) (place_of defs c p)) (act all (micro.Relink (clock_id c) (clock_id p)) w) ≡ record w { clocks = linked w.clocks c p; regs = select w.defs c p w.regs }
      written = ap (λ (ds : Description). act all (micro.WriteMux (clock_id c) (place_of ds c p)) (act all (micro.Relink (clock_id c) (clock_id p)) w)) (sym same)

      lets : (l : Option ℕ) (v : Wiring) → acted all (option_map_or unfeed l []) v ≡ v
      lets None v = refl
      lets (Some o) v = refl

      more : (l : Option ℕ) (v : Wiring) → acted all (option_map_or unfeed l [] ++ unfeed c) v ≡ v
      more None v = refl
      more (Some o) v = refl

      either : (t : Bool) (xs ys : List Micro) (v : Wiring) → acted all xs w ≡ v → acted all ys w ≡ v → acted all (cond t xs ys) w ≡ v
      either true xs ys v e f = e
      either false xs ys v e f = f

find_hit : (c : ℕ) (k : ChainStep) (ks : List ChainStep) → nat_eq k.clock c ≡ true → find (λ l. nat_eq l.clock c) (k ∷ ks) ≡ Some k
find_hit c k ks e = ap (λ (t : Bool). cond t (Some k) (find (λ l. nat_eq l.clock c) ks)) e

find_past : (c : ℕ) (k : ChainStep) (ks : List ChainStep) → nat_eq k.clock c ≡ false → find (λ l. nat_eq l.clock c) (k ∷ ks) ≡ find (λ l. nat_eq l.clock c) ks
find_past c k ks e = ap (λ (t : Bool). cond t (Some k) (find (λ l. nat_eq l.clock c) ks)) e

-- the moves of these steps of a chain, at one clock
abbrev moved_by : Description → List ClockRow → (ℕ → Bool) → ℕ → List ChainStep → List Micro
moved_by defs before prep c ks = flat_map (λ k. option_map_or (move defs before prep c) k.parent []) ks

-- the clock of a step of the chain
here_acts : (all : List ChainStep) (defs : Description) (before : List ClockRow) (prep : ℕ → Bool) (k : ChainStep) (w : Wiring) → w.defs ≡ defs → MovesMux defs before k → planned_in all k.clock ≡ Some k.rate
    → acted all (moved_by defs before prep k.clock (cond (moves before k) (k ∷ []) []) ++ micro.Visit (clock_id k.clock) ∷ []) w ≡ set_planned before k w
here_acts all defs before prep k w same is planned = by (moves before k) refl k.parent refl where
  visited : (v : Wiring) → Wiring
  visited v = record v { regs = option_map_or (λ rated. setting (kind_of v.defs k.clock) (parent_rate_in v k.clock) rated v.regs) (Some k.rate) v.regs }

  by : (t : Bool) → moves before k ≡ t → (o : Option ℕ) → k.parent ≡ o
      → acted all (moved_by defs before prep k.clock (cond t (k ∷ []) []) ++ micro.Visit (clock_id k.clock) ∷ []) w
      ≡ record w {
        regs = if t then option_map_or (λ p. select w.defs k.clock p w.regs) o w.regs else setting (kind_of w.defs k.clock) (parent_rate_in w k.clock) k.rate w.regs;
        clocks = if t then option_map_or (linked w.clocks k.clock) o w.clocks else w.clocks;
      }
  by false stays o at = ap (λ (r : Option ℕ). let v : Wiring = record w { regs = option_map_or (λ rated. setting (kind_of w.defs k.clock) (parent_rate_in w k.clock) rated w.regs) r w.regs } in v) planned
  by true away None at = absurd (is.leads away at)
  by true away (Some p) at =
      let moved : Wiring = record w { clocks = linked w.clocks k.clock p; regs = select w.defs k.clock p w.regs } in
      let own : moved_by defs before prep k.clock (k ∷ []) ≡ move defs before prep k.clock p =
      append-nil (option_map_or (move defs before prep k.clock) k.parent []) ∙ ap (λ (o : Option ℕ). option_map_or (move defs before prep k.clock) o []) at in
      ap (λ (ms : List Micro). acted all (ms ++ micro.Visit (clock_id k.clock) ∷ []) w) own
      ∙ acted_append all (move defs before prep k.clock p) (micro.Visit (clock_id k.clock) ∷ []) w
      ∙ ap (λ (v : Wiring). act all (micro.Visit (clock_id k.clock)) v) (move_acts all defs before prep k.clock p w same)
      ∙ ap (λ (r : Option ℕ). let v : Wiring = record moved { regs = option_map_or (λ rated. setting (kind_of w.defs k.clock) (parent_rate_in moved k.clock) rated moved.regs) r moved.regs } in v) planned
      ∙ ap (λ (regs : Registers). let v : Wiring = record moved { regs = regs } in v)
      (mux_setting (kind_of w.defs k.clock) (parent_rate_in moved k.clock) k.rate moved.regs (ap (λ (ds : Description). is_some (mux_field (kind_of ds k.clock))) same ∙ is.mux away))

-- the steps at a clock make of a tree what its step of the chain does
one_acts : (all ks : List ChainStep) (defs : Description) (before : List ClockRow) (prep : ℕ → Bool) (c : ℕ) (w : Wiring) → w.defs ≡ defs → none_twice (clocks_in ks) ≡ true → AllByRecursion (MovesMux defs before) ks
    → planned_in all c ≡ planned_in ks c → acted all (bare defs before prep ks c) w ≡ set_at before ks c w
one_acts all [] defs before prep c w same once is planned =
    ap (λ (r : Option ℕ). let v : Wiring = record w { regs = option_map_or (λ rated. setting (kind_of w.defs c) (parent_rate_in w c) rated w.regs) r w.regs } in v) planned
one_acts all (k ∷ ks) defs before prep c w same once is planned =
    by (nat_eq k.clock c) refl (λ e. one_acts all ks defs before prep c w same (once_head k.clock (clocks_in ks) once).1 is.1 (planned ∙ ap (λ (o : Option ChainStep). option_map (λ l. l.rate) o) (find_past c k ks e))) where
      by : (t : Bool) → nat_eq k.clock c ≡ t → (nat_eq k.clock c ≡ false → acted all (bare defs before prep ks c) w ≡ set_at before ks c w) → acted all (bare defs before prep (k ∷ ks) c) w ≡ set_at before (k ∷ ks) c w
      by false e rest =
          ap (λ (t : Bool). acted all (moved_by defs before prep c (cond (t && moves before k) (k ∷ filter (moves_here before c) ks) (filter (moves_here before c) ks)) ++ micro.Visit (clock_id c) ∷ []) w) e
          ∙ rest e
          ∙ ap (λ (o : Option ChainStep). option_map_or (λ l. set_planned before l w) o w) (sym (find_past c k ks e))
      by true e rest =
          let here : k.clock ≡ c = same_from_test k.clock c e in
          let out : is_in c (clocks_in ks) ≡ false = ap (λ (x : ℕ). is_in x (clocks_in ks)) (sym here) ∙ (once_head k.clock (clocks_in ks) once).0 in
          let rated : planned_in all c ≡ Some k.rate = planned ∙ ap (λ (o : Option ChainStep). option_map (λ l. l.rate) o) (find_hit c k ks e) in
          ap (λ (t : Bool). acted all (moved_by defs before prep c (cond (t && moves before k) (k ∷ filter (moves_here before c) ks) (filter (moves_here before c) ks)) ++ micro.Visit (clock_id c) ∷ []) w) e
          ∙ ap (λ (ls : List ChainStep). acted all (moved_by defs before prep c (cond (moves before k) (k ∷ ls) ls) ++ micro.Visit (clock_id c) ∷ []) w) (filter_off before c ks out)
          ∙ subst (λ (x : ℕ). planned_in all x ≡ Some k.rate → acted all (moved_by defs before prep x (cond (moves before k) (k ∷ []) []) ++ micro.Visit (clock_id x) ∷ []) w ≡ set_planned before k w) here
          (here_acts all defs before prep k w same is.0) rated
          ∙ ap (λ (o : Option ChainStep). option_map_or (λ l. set_planned before l w) o w) (sym (find_hit c k ks e))

set_at_defs : (before : List ClockRow) (ks : List ChainStep) (c : ℕ) (w : Wiring) → (set_at before ks c w).defs ≡ w.defs
set_at_defs before ks c w = by (find (λ k. nat_eq k.clock c) ks) where
  by : (o : Option ChainStep) → (option_map_or (λ k. set_planned before k w) o w).defs ≡ w.defs
  by None = refl
  by (Some k) = refl

-- so do the steps of a walk
pub walk_acts : (ks : List ChainStep) (defs : Description) (before : List ClockRow) (prep : ℕ → Bool) (cs : List ℕ) (w : Wiring) → w.defs ≡ defs → none_twice (clocks_in ks) ≡ true
    → AllByRecursion (MovesMux defs before) ks → acted ks (flat_map (walked defs before prep ks) cs) w ≡ set_along before ks cs w
walk_acts ks defs before prep [] w same once is = refl
walk_acts ks defs before prep (c ∷ cs) w same once is =
    acted_append ks (walked defs before prep ks c) (flat_map (walked defs before prep ks) cs) w
    ∙ ap (λ (v : Wiring). acted ks (flat_map (walked defs before prep ks) cs) v) (bare_acts ks ks defs before prep c w ∙ one_acts ks ks defs before prep c w same once is refl)
    ∙ walk_acts ks defs before prep cs (set_at before ks c w) (set_at_defs before ks c w ∙ same) once is

-- ---- a list of clocks

along_append : (before : List ClockRow) (ks : List ChainStep) (xs ys : List ℕ) (w : Wiring) → set_along before ks (xs ++ ys) w ≡ set_along before ks ys (set_along before ks xs w)
along_append before ks [] ys w = refl
along_append before ks (x ∷ xs) ys w = along_append before ks xs ys (set_at before ks x w)

find_none : (c : ℕ) (ks : List ChainStep) → is_in c (clocks_in ks) ≡ false → find (λ k. nat_eq k.clock c) ks ≡ None
find_none c [] out = refl
find_none c (k ∷ ks) out =
    let parts = not_either (nat_eq k.clock c) (is_in c (clocks_in ks)) out in
    find_past c k ks parts.0 ∙ find_none c ks parts.1

-- clocks that aren't of the chain
along_off : (before : List ClockRow) (ks : List ChainStep) (cs : List ℕ) (w : Wiring) → ((c : ℕ) → is_in c cs ≡ true → is_in c (clocks_in ks) ≡ false) → set_along before ks cs w ≡ w
along_off before ks [] w off = refl
along_off before ks (c ∷ cs) w off =
    ap (λ (o : Option ChainStep). set_along before ks cs (option_map_or (λ k. set_planned before k w) o w)) (find_none c ks (off c (is_in_head c cs)))
    ∙ along_off before ks cs w (λ d m. off d (is_in_tail d c cs m))

turned_test : (a b : ℕ) → nat_eq b a ≡ false → nat_eq a b ≡ false
turned_test a b e = by (nat_eq a b) refl where
  by : (t : Bool) → nat_eq a b ≡ t → t ≡ false
  by false f = refl
  by true f = absurd (true≢false (sym (test_same b) ∙ ap (λ (z : ℕ). nat_eq b z) (sym (same_from_test a b f)) ∙ e))

-- a step whose clock isn't in the list
along_less : (before : List ClockRow) (k : ChainStep) (ks : List ChainStep) (cs : List ℕ) (w : Wiring) → is_in k.clock cs ≡ false → set_along before (k ∷ ks) cs w ≡ set_along before ks cs w
along_less before k ks [] w out = refl
along_less before k ks (c ∷ cs) w out =
    let parts = not_either (nat_eq c k.clock) (is_in k.clock cs) out in
    ap (λ (o : Option ChainStep). set_along before (k ∷ ks) cs (option_map_or (λ l. set_planned before l w) o w)) (find_past c k ks (turned_test k.clock c parts.0))
    ∙ along_less before k ks cs (set_at before ks c w) parts.1

split_at : (c : ℕ) (cs : List ℕ) → is_in c cs ≡ true → (front : List ℕ) × (back : List ℕ) × (cs ≡ front ++ c ∷ back)
split_at c [] m = absurd cc
split_at c (d ∷ cs) m = by (is_in_cases c d cs m) (split_at c cs) where
  by : (d ≡ c) ⊎ (is_in c cs ≡ true) → (is_in c cs ≡ true → (front : List ℕ) × (back : List ℕ) × (cs ≡ front ++ c ∷ back)) → (front : List ℕ) × (back : List ℕ) × (d ∷ cs ≡ front ++ c ∷ back)
  by (inl same) rest = ([], cs, ap (λ (x : ℕ). x ∷ cs) same)
  by (inr later) rest = let at = rest later in (d ∷ at.0, at.1, ap (λ (xs : List ℕ). d ∷ xs) at.2)

descends_front : (up : ℕ → Option ℕ) (xs ys : List ℕ) → Descends up (xs ++ ys) → Descends up xs
descends_front up [] ys d = tt
descends_front up (x ∷ xs) ys d = ((λ e m high. d.0 e (in_front e xs ys m) high), descends_front up xs ys d.1) where
  in_front : (e : ℕ) (first second : List ℕ) → is_in e first ≡ true → is_in e (first ++ second) ≡ true
  in_front e first second m = is_in-append e first second ∙ ap (λ (b : Bool). b || is_in e second) m

descends_at : (up : ℕ → Option ℕ) (xs : List ℕ) (c : ℕ) (ys : List ℕ) → Descends up (xs ++ c ∷ ys) → (e : ℕ) → is_in e ys ≡ true → Above up c e → ⊥
descends_at up [] c ys d e m high = d.0 e m high
descends_at up (x ∷ xs) c ys d e m high = descends_at up xs c ys d.1 e m high

once_front : (xs ys : List ℕ) → none_twice (xs ++ ys) ≡ true → none_twice xs ≡ true
once_front [] ys once = refl
once_front (x ∷ xs) ys once =
    let head = once_head x (xs ++ ys) once in
    once_cons x xs (λ m. true≢false (sym (is_in-append x xs ys ∙ ap (λ (b : Bool). b || is_in x ys) m) ∙ head.0)) (once_front xs ys head.1)

-- a number stands in front of where it stands in a list with none twice, or behind it, and not in both
once_split : (xs : List ℕ) (c : ℕ) (ys : List ℕ) → none_twice (xs ++ c ∷ ys) ≡ true → (is_in c xs ≡ false) × (is_in c ys ≡ false)
once_split [] c ys once = (refl, (once_head c ys once).0)
once_split (x ∷ xs) c ys once =
    let head = once_head x (xs ++ c ∷ ys) once in
    let rest = once_split xs c ys head.1 in
    let apart = not_either (is_in x xs) (is_in x (c ∷ ys)) (sym (is_in-append x xs (c ∷ ys)) ∙ head.0) in
    let other = (not_either (nat_eq c x) (is_in x ys) apart.1).0 in
    (both (nat_eq x c) (turned_test x c other) rest.0, rest.1) where
      both : (t : Bool) → t ≡ false → is_in c xs ≡ false → (t || is_in c xs) ≡ false
      both true e f = absurd (true≢false e)
      both false e f = f

-- ---- the outcome

-- what a walk is walked over: a chain that leads upwards, and a list that has each clock of it, none twice, and none behind one that is
-- below it
pub record Walks (up : ℕ → Option ℕ) (w : Wiring) (ks : List ChainStep) (cs : List ℕ) : Type 0 where
  pub fits : SettingsFit w.defs
  pub parents : AllByRecursion (HasParent w) ks
  pub once : none_twice (clocks_in ks) ≡ true
  pub leads : LeadsUp ks
  pub links : AllByRecursion (λ l. up l.clock ≡ l.parent) ks
  pub listed : (c : ℕ) → is_in c (clocks_in ks) ≡ true → is_in c cs ≡ true
  pub few : none_twice cs ≡ true
  pub descends : Descends up cs

moves_same : (k : ChainStep) (u w : Wiring) → row_of u.clocks k.clock ≡ row_of w.clocks k.clock → set_planned w.clocks k u ≡ set_one k u
moves_same k u w row =
    ap (λ (t : Bool). let v : Wiring = record u {
      regs = if t then option_map_or (λ p. select u.defs k.clock p u.regs) k.parent u.regs else setting (kind_of u.defs k.clock) (parent_rate_in u k.clock) k.rate u.regs;
      clocks = if t then option_map_or (linked u.clocks k.clock) k.parent u.clocks else u.clocks;
    } in v) (ap (λ (r : ClockRow). not (same_place k.parent (option_map (λ p. p.0) r.link))) (sym row))

-- behind a clock that a chain begins with stands none of it
off_behind : (up : ℕ → Option ℕ) (k : ChainStep) (ks : List ChainStep) (front back : List ℕ) → LeadsUp (k ∷ ks) → AllByRecursion (λ l. up l.clock ≡ l.parent) (k ∷ ks) → Descends up (front ++ k.clock ∷ back)
    → (c : ℕ) → is_in c back ≡ true → is_in c (clocks_in (k ∷ ks)) ≡ false
off_behind up k ks front back leads links descends c m = by (is_in c (clocks_in (k ∷ ks))) refl where
  by : (t : Bool) → is_in c (clocks_in (k ∷ ks)) ≡ t → t ≡ false
  by false e = refl
  by true e = absurd (descends_at up front k.clock back descends c m (head_below up k ks c leads links e))

-- a walk makes of a tree the outcome of its chain
pub along_is : (up : ℕ → Option ℕ) (w : Wiring) (ks : List ChainStep) (cs : List ℕ) → Walks up w ks cs → set_along w.clocks ks cs w ≡ outcome ks w
unfolding outcome
along_is up w [] cs walks = along_off w.clocks [] cs w (λ c m. refl)
along_is up w (k ∷ ks) cs walks =
    split (split_at k.clock cs (walks.listed k.clock (is_in_head k.clock (clocks_in ks)))) (λ front walks'. along_is up w ks front walks') where
      u : Wiring
      u = outcome ks w

      own : (is_in k.clock (clocks_in ks) ≡ false) × (none_twice (clocks_in ks) ≡ true)
      own = once_head k.clock (clocks_in ks) walks.once

      split : (front : List ℕ) × (back : List ℕ) × (cs ≡ front ++ k.clock ∷ back) → ((front : List ℕ) → Walks up w ks front → set_along w.clocks ks front w ≡ outcome ks w)
          → set_along w.clocks (k ∷ ks) cs w ≡ set_one k (outcome ks w)
      split at rest = ap (λ (xs : List ℕ). set_along w.clocks (k ∷ ks) xs w) at.2 ∙ by at.0 at.1 at.2 where
        by : (front back : List ℕ) → cs ≡ front ++ k.clock ∷ back → set_along w.clocks (k ∷ ks) (front ++ k.clock ∷ back) w ≡ set_one k (outcome ks w)
        by front back is =
            let descends : Descends up (front ++ k.clock ∷ back) = subst (Descends up) is walks.descends in
            let few : none_twice (front ++ k.clock ∷ back) ≡ true = ap none_twice (sym is) ∙ walks.few in
            let apart = once_split front k.clock back few in
            let off = off_behind up k ks front back walks.leads walks.links descends in
            let row = (differs_in ks w walks.fits walks.parents.1 own.1).others k.clock own.0 in
            along_append w.clocks (k ∷ ks) front (k.clock ∷ back) w
            ∙ ap (λ (v : Wiring). set_along w.clocks (k ∷ ks) (k.clock ∷ back) v)
            (along_less w.clocks k ks front w apart.0 ∙ rest front (record {
              fits = walks.fits;
              parents = walks.parents.1;
              once = own.1;
              leads = tail_leads k ks walks.leads;
              links = walks.links.1;
              listed = λ c m. in_front c m (in_append c front (k.clock ∷ back) (ap (is_in c) (sym is) ∙ walks.listed c (is_in_tail c k.clock (clocks_in ks) m))) off;
              few = once_front front (k.clock ∷ back) few;
              descends = descends_front up front (k.clock ∷ back) descends;
            }))
            ∙ ap (λ (o : Option ChainStep). set_along w.clocks (k ∷ ks) back (option_map_or (λ l. set_planned w.clocks l u) o u)) (find_hit k.clock k ks (test_same k.clock))
            ∙ along_off w.clocks (k ∷ ks) back (set_planned w.clocks k u) off
            ∙ moves_same k u w row where
              in_front : (c : ℕ) → is_in c (clocks_in ks) ≡ true → (is_in c front ≡ true) ⊎ (is_in c (k.clock ∷ back) ≡ true)
                  → ((d : ℕ) → is_in d back ≡ true → is_in d (clocks_in (k ∷ ks)) ≡ false) → is_in c front ≡ true
              in_front c m (inl here) off = here
              in_front c m (inr there) off = by_place (is_in_cases c k.clock back there) where
                by_place : (k.clock ≡ c) ⊎ (is_in c back ≡ true) → is_in c front ≡ true
                by_place (inl same) = absurd (true≢false (sym m ∙ ap (λ (x : ℕ). is_in x (clocks_in ks)) (sym same) ∙ own.0))
                by_place (inr behind) = absurd (true≢false (sym (is_in_tail c k.clock (clocks_in ks) m) ∙ off c behind))

-- ---- the walk of a plan

-- each clock of a chain is below its top
to_top : (up : ℕ → Option ℕ) (ks : List ChainStep) (c : ℕ) → LeadsUp ks → AllByRecursion (λ l. up l.clock ≡ l.parent) ks → is_in c (clocks_in ks) ≡ true → Above up c (top_of ks)
to_top up [] c leads links m = absurd cc
to_top up (k ∷ []) c leads links m = by (is_in_cases c k.clock [] m) where
  by : (k.clock ≡ c) ⊎ (is_in c [] ≡ true) → Above up c k.clock
  by (inl same) = (zero, sym same)
  by (inr none) = absurd (true≢false (sym none))
to_top up (k ∷ l ∷ ks) c leads links m = by (is_in_cases c k.clock (clocks_in (l ∷ ks)) m) (λ d n. to_top up (l ∷ ks) d leads.1 links.1 n) where
  by : (k.clock ≡ c) ⊎ (is_in c (clocks_in (l ∷ ks)) ≡ true) → ((d : ℕ) → is_in d (clocks_in (l ∷ ks)) ≡ true → Above up d (top_of (l ∷ ks))) → Above up c (top_of (l ∷ ks))
  by (inl same) rest = subst (λ (x : ℕ). Above up x (top_of (l ∷ ks))) same (above_link up k.clock l.clock (top_of (l ∷ ks)) (links.0 ∙ leads.0) (rest l.clock (is_in_head l.clock (clocks_in ks))))
  by (inr later) rest = rest c later

-- the links of the chain after the plan
chain_links : (words : ℕ) (order : List ℕ) (w : Wiring) (ks : List ChainStep) → Planned_ words order w ks (outcome ks w) → AllByRecursion (λ l. link_in (outcome ks w).clocks l.clock ≡ l.parent) ks
chain_links words order w ks plan =
    all_both (λ l. l.clock < length w.clocks → row_of v.clocks l.clock ≡ record (row_of w.clocks l.clock) { link = option_map clock_id l.parent }) (HasParent w) (λ l. link_in v.clocks l.clock ≡ l.parent) ks
    (λ l row has. by l row has (cases_lt l.clock (length w.clocks)) l.parent refl) plan.differs.links plan.parents where
      v : Wiring
      v = outcome ks w

      back : (o : Option ℕ) → option_map (λ p. p.0) (option_map clock_id o) ≡ o
      back None = refl
      back (Some p) = refl

      no_link : (c : ℕ) → length w.clocks ≤ c → (o : Option ℕ) → link_in (outcome ks w).clocks c ≡ o → o ≡ None
      no_link c past None e = refl
      no_link c past (Some q) e = let inside = linked_lt (outcome ks w).clocks c q e in let size = plan.differs.size in absurd (omega arith)

      by : (l : ChainStep) → (l.clock < length w.clocks → row_of (outcome ks w).clocks l.clock ≡ record (row_of w.clocks l.clock) { link = option_map clock_id l.parent }) → HasParent w l
          → (l.clock < length w.clocks) ⊎ (length w.clocks ≤ l.clock) → (o : Option ℕ) → l.parent ≡ o → link_in (outcome ks w).clocks l.clock ≡ l.parent
      by l row has (inl within) o at = ap (λ (r : ClockRow). option_map (λ p. p.0) r.link) (row within) ∙ back l.parent
      by l row has (inr past) None at = no_link l.clock past (link_in (outcome ks w).clocks l.clock) refl ∙ sym at
      by l row has (inr past) (Some p) at = let inside = parented_lt words w l.clock p plan.wired (has.possible p at) in absurd (omega arith)

-- the walk of a plan is walked so
pub plan_walks : (words : ℕ) (order : List ℕ) (w : Wiring) (c : ℕ) (ks : List ChainStep) → IsWired words w → IsOrder order w.clocks → LeadsFrom w c ks
    → Walks (link_in (outcome ks w).clocks) w ks (walk order w ks)
unfolding walk
plan_walks words order w c ks wired ordered leads =
    let fits = settings_fit words w.defs wired.valid in
    let plan : Planned_ words order w ks (outcome ks w) = record { wired = wired; ordered = ordered; parents = leads.parents; once = leads.once; differs = differs_in ks w fits leads.parents leads.once } in
    let up : ℕ → Option ℕ = link_in (outcome ks w).clocks in
    let links = chain_links words order w ks plan in
    let is = links_after words order w ks (outcome ks w) plan in
    let ends = lines_end words w.defs wired.valid in
    let list = (walks_list words order w c ks wired ordered leads).0 in
    record {
      fits = fits;
      parents = leads.parents;
      once = leads.once;
      leads = leads.leads;
      links = links;
      listed = λ d m.
          let high = to_top up ks d leads.leads links m in
          list.listed d ∙ rises_path up depth high.0 d (top_of ks) high.1 (few_steps (parents_of w.defs) up depth high.0 d (top_of ks) is (ends d) high.1);
      few = list.once;
      descends = below_descends (parents_of w.defs) (kids_after order w.clocks ks) up depth depth (top_of ks) is ends (kids_are words order w ks (outcome ks w) plan);
    }
