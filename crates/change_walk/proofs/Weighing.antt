-- Laws on what scripts weigh: it is what the definitions say, and fits in 64 bits.
use Rattle.std.proofs.Common.{◌≡◌, ℕ, ◌+◌, ◌*◌, ◌≤◌, Bool, true, false, ◌&&◌, cond, List, [], ◌∷◌, ◌++◌, map, Option, Some, None, refl, sym, ap, subst, ◌∙◌, arith, length, nat_eq}
use Rattle.std.specs.Prelude.{◌==◌, filter, flat_map, slice_index, slice_index_or, sum_by}
use Rattle.std.specs.List.{list_any}
use Rattle.std.specs.Option.{option_map_or}
use Rattle.std.proofs.Math.Nat.{suc-mul}
use Rattle.std.proofs.lemmas.List.{length-map}
use Rattle.std.proofs.lemmas.List.Sums.{sum_by-append, sum_by-cons}
use Rattle.clk_base.specs.declared.call.Micro.{Micro}
use Rattle.clk_base.specs.declared.call.Micro.TheVariants as micro
use Rattle.clk_base.specs.declared.call.Notice.TheVariants as notice
use Rattle.clk_base.specs.Description.{Description}
use Rattle.clk_base.specs.Flags.{runs_parent}
use Rattle.clk_base.specs.Levels.{depth}
use Rattle.clk_base.proofs.Valid.{length-valid}
use Rattle.kind_math.specs.Choices.{greatest_of}
use Rattle.clk_model.specs.declared.row.ClockRow.{ClockRow}
use Rattle.clk_model.specs.Begin.{most_notifiers}
use Rattle.clk_model.specs.Chain.{clock_id, moves, place_of}
use Rattle.clk_model.specs.Laws.Plans.{clocks_in}
use Rattle.clk_model.specs.Lists.{is_in, none_twice, count_from}
use Rattle.clk_model.specs.Notices.{Rates, notifiers_of, vetoes, until_veto, pre_list, abort_list, is_veto}
use Rattle.clk_model.specs.Round.{wiring}
use Rattle.clk_model.specs.Script.{fed_step, is_raise, move, move_of, notices_of, plls, plls_within, runs_for, unfeed, visit_of, weight}
use Rattle.clk_model.specs.State.{State, ChainStep, NotifierRow, link_in}
use Rattle.clk_model.specs.Walk.{changing, walk}
use Rattle.clk_model.proofs.Members.{not_either, same_from_test}
use Rattle.clk_model.proofs.OnceLaws.{few_once, once_head}
use Rattle.clk_model.proofs.WalkLaws.{walks_list}
use Rattle.clk_tree.specs.declared.plan.Plan.{Plan}
use Rattle.clk_tree.specs.TreeState.{TreeState}
use Rattle.clk_tree.proofs.PllTables.{few_plls, fold_max_most}
use Rattle.notifiers.specs.declared.notifier.Notifier.{Notifier}
use Rattle.notifiers.specs.Chains.{Tells, row_on}
use Rattle.change_walk.specs.Given.{all_changed, changed_in, settles}
use Rattle.change_walk.specs.Steps.{brought_by, told_by, weighed_with}
use Rattle.change_walk.specs.Tellings.{notifiers_at}
use Rattle.change_walk.specs.Weights.{step_weight}
use Rattle.change_walk.proofs.Whole.{Fits, changing_there, ordered, rates_of_change, steps_at, steps_over, walk_there, wired}

-- no clock has more notifiers than it may have
abbrev pub HasFewNotifiers : State → Type 0
HasFewNotifiers s = (c : ℕ) → length (notifiers_of s.notifiers c) ≤ most_notifiers

-- ---- the same weights

count_same : (s : State) (lists : List (List Notifier)) → Tells lists s.notifiers → (c : ℕ) → length (slice_index_or lists c []) ≡ length (notifiers_of s.notifiers c)
count_same s lists told c = sym (length-map (slice_index_or lists c []) (row_on c)) ∙ ap length (told c)

step_same : (s : State) (k : ℕ) (lists : List (List Notifier)) → k ≡ plls s.defs → Tells lists s.notifiers → (m : Micro) → step_weight k lists m ≡ weight s m
step_same s k lists most told (micro.Raise x) = ap (λ (n : ℕ). 34 * n + 1) most
step_same s k lists most told (micro.Lower x) = ap (λ (n : ℕ). n + 1) most
step_same s k lists most told (micro.Visit c) = ap (λ (n : ℕ). 1 + n) (count_same s lists told c.0)
step_same s k lists most told (micro.Notify kind c id old new) = refl
step_same s k lists most told (micro.Poll y) = refl
step_same s k lists most told (micro.Fall y) = refl
step_same s k lists most told (micro.HoldPrepare x) = refl
step_same s k lists most told (micro.HoldEnable x) = refl
step_same s k lists most told (micro.Relink c p) = refl
step_same s k lists most told (micro.WriteMux c place) = refl
step_same s k lists most told (micro.DropEnable x) = refl
step_same s k lists most told (micro.DropPrepare x) = refl
step_same s k lists most told (micro.Register c) = refl
step_same s k lists most told (micro.Settle c) = refl
step_same s k lists most told (micro.Close c) = refl
step_same s k lists most told (micro.Unpower c) = refl
step_same s k lists most told micro.End = refl

sum_same : {X : Type 0} (f g : X → ℕ) (xs : List X) → ((x : X) → f x ≡ g x) → sum_by f xs ≡ sum_by g xs
sum_same f g [] same = refl
sum_same f g (x ∷ xs) same = sum_by-cons f x xs ∙ ap (λ n. n + sum_by f xs) (same x) ∙ ap (λ n. g x + n) (sum_same f g xs same) ∙ sym (sum_by-cons g x xs)

pub steps_weigh : (s : State) (k : ℕ) (lists : List (List Notifier)) (ms : List Micro) → k ≡ plls s.defs → Tells lists s.notifiers → sum_by (step_weight k lists) ms ≡ sum_by (weight s) ms
steps_weigh s k lists ms most told = sum_same (step_weight k lists) (weight s) ms (step_same s k lists most told)

pub notices_count : (s : State) (ks : List ChainStep) (lists : List (List Notifier)) → Tells lists s.notifiers → (cs : List ℕ)
    → sum_by (λ x. length (notifiers_at lists x)) (map (changed_in s ks) cs) ≡ notices_of s cs
notices_count s ks lists told [] = refl
notices_count s ks lists told (c ∷ cs) =
    sum_by-cons (λ x. length (notifiers_at lists x)) (changed_in s ks c) (map (changed_in s ks) cs)
    ∙ ap (λ n. n + sum_by (λ x. length (notifiers_at lists x)) (map (changed_in s ks) cs)) (count_same s lists told c)
    ∙ ap (λ n. length (notifiers_of s.notifiers c) + n) (notices_count s ks lists told cs)
    ∙ sym (sum_by-cons (λ d. length (notifiers_of s.notifiers d)) c cs)

-- ---- how much it may be

-- no line of possible parents has more PLLs than clocks
pub plls_few : (defs : Description) → plls defs ≤ 64
unfolding plls greatest_of depth
plls_few defs = fold_max_most 64 0 (plls_within defs 64) (count_from 0 (length defs)) (omega arith) (few_plls defs 64)

-- what is made of each of some clocks weighs no more than that of so many times one of them
sum_each : (w : Micro → ℕ) (f : ℕ → List Micro) (most : ℕ) (cs : List ℕ) → ((c : ℕ) → sum_by w (f c) ≤ most) → sum_by w (flat_map f cs) ≤ length cs * most
sum_each w f most [] each = omega arith
sum_each w f most (c ∷ cs) each =
    let both : sum_by w (f c ++ flat_map f cs) ≡ sum_by w (f c) + sum_by w (flat_map f cs) = sum_by-append w (f c) (flat_map f cs) in
    let more : length (c ∷ cs) * most ≡ length cs * most + most = suc-mul (length cs) most in
    let here = each c in
    let rest = sum_each w f most cs each in
    omega arith

before_weighs : (s : State) (rates : Rates) (c : ℕ) (ns : List NotifierRow) → sum_by (weight s) (until_veto rates c ns) ≤ length ns
before_weighs s rates c [] = omega arith
before_weighs s rates c (n ∷ ns) =
    let new : ℕ = slice_index rates.outcome c in
    let rest = before_weighs s rates c ns in
    one (vetoes n.policy new) rest where
      one : (t : Bool) → sum_by (weight s) (until_veto rates c ns) ≤ length ns
          → sum_by (weight s) (micro.Notify (notice.Pre t) (clock_id c) n.id (slice_index rates.before c) (slice_index rates.outcome c) ∷ cond t [] (until_veto rates c ns)) ≤ length (n ∷ ns)
      one true rest = omega arith
      one false rest =
          let cons = sum_by-cons (weight s) (micro.Notify (notice.Pre false) (clock_id c) n.id (slice_index rates.before c) (slice_index rates.outcome c)) (until_veto rates c ns) in
          omega arith

off_weighs : (s : State) (rates : Rates) (c : ℕ) (ns : List NotifierRow)
    → sum_by (weight s) (map (λ n. micro.Notify notice.Abort (clock_id c) n.id (slice_index rates.before c) (slice_index rates.outcome c)) ns) ≤ length ns
off_weighs s rates c [] = omega arith
off_weighs s rates c (n ∷ ns) =
    let rest = off_weighs s rates c ns in
    let cons = sum_by-cons (weight s) (micro.Notify notice.Abort (clock_id c) n.id (slice_index rates.before c) (slice_index rates.outcome c))
    (map (λ (m : NotifierRow). micro.Notify notice.Abort (clock_id c) m.id (slice_index rates.before c) (slice_index rates.outcome c)) ns) in
    omega arith

-- a move weighs little: most that of a clock that isn't prepared while it and its parents run, which raises twice
move_weighs : (s : State) (held : ℕ → Bool) (c : ℕ) (parent : Option ℕ) → plls s.defs ≤ 64 → sum_by (weight s) (option_map_or (move s.defs s.clocks held c) parent []) ≤ 5000
move_weighs s held c None few = omega arith
move_weighs s held c (Some p) few = either (held c) _ _ (of_held (link_in s.clocks c)) (either (runs_parent s.defs c) _ _ (of_fed (link_in s.clocks c)) (omega arith)) where
  either : (t : Bool) (xs ys : List Micro) → sum_by (weight s) xs ≤ 5000 → sum_by (weight s) ys ≤ 5000 → sum_by (weight s) (cond t xs ys) ≤ 5000
  either true xs ys a b = a
  either false xs ys a b = b

  of_held : (o : Option ℕ)
      → sum_by (weight s)
      (micro.Raise (clock_id p) ∷ micro.HoldPrepare (clock_id p) ∷ micro.HoldEnable (clock_id p) ∷ micro.HoldEnable (clock_id c)
      ∷ micro.Relink (clock_id c) (clock_id p) ∷ micro.WriteMux (clock_id c) (place_of s.defs c p) ∷ micro.DropEnable (clock_id c)
      ∷ option_map_or unfeed o []) ≤ 5000
  of_held None = omega arith
  of_held (Some q) = omega arith

  of_fed : (o : Option ℕ)
      → sum_by (weight s)
      (micro.Raise (clock_id c) ∷ micro.Raise (clock_id p) ∷ micro.HoldPrepare (clock_id c) ∷ micro.HoldEnable (clock_id c)
      ∷ micro.HoldPrepare (clock_id p) ∷ micro.HoldEnable (clock_id p)
      ∷ micro.Relink (clock_id c) (clock_id p) ∷ micro.WriteMux (clock_id c) (place_of s.defs c p)
      ∷ option_map_or unfeed o [] ++ unfeed c) ≤ 5000
  of_fed None = omega arith
  of_fed (Some q) = omega arith

-- and so does a visit, within what runs for it
visit_weighs : (s : State) (ks : List ChainStep) (c : ℕ) → plls s.defs ≤ 64 → length (notifiers_of s.notifiers c) ≤ most_notifiers → sum_by (weight s) (visit_of s.defs s.clocks ks c) ≤ 3000
visit_weighs s ks c few told = one (runs_for s.defs s.clocks ks c) where
  one : (o : Option ℕ) → sum_by (weight s) (fed_step o (micro.Visit (clock_id c))) ≤ 3000
  one None = omega arith
  one (Some x) = omega arith

none_move : (clocks : List ClockRow) (c : ℕ) (ks : List ChainStep) → is_in c (clocks_in ks) ≡ false → filter (λ k. (k.clock == c) && moves clocks k) ks ≡ []
none_move clocks c [] out = refl
none_move clocks c (k ∷ ks) out =
    let parts = not_either (nat_eq k.clock c) (is_in c (clocks_in ks)) out in
    ap (λ (t : Bool). cond (t && moves clocks k) (k ∷ filter (λ l. (l.clock == c) && moves clocks l) ks) (filter (λ l. (l.clock == c) && moves clocks l) ks)) parts.0 ∙ none_move clocks c ks parts.1

-- a clock moves once at most
moves_weigh : (s : State) (held : ℕ → Bool) (c : ℕ) (ks : List ChainStep) → plls s.defs ≤ 64 → none_twice (clocks_in ks) ≡ true → sum_by (weight s) (move_of s.defs s.clocks held ks c) ≤ 5000
moves_weigh s held c [] few once = omega arith
moves_weigh s held c (k ∷ ks) few once =
    let head = once_head k.clock (clocks_in ks) once in
    let moved : ChainStep → List Micro = λ l. option_map_or (move s.defs s.clocks held c) l.parent [] in
    let rest = moves_weigh s held c ks few head.1 in
    elim (nat_eq k.clock c) as (λ t. nat_eq k.clock c ≡ t → sum_by (weight s) (flat_map moved (cond (t && moves s.clocks k) (k ∷ filter (λ l. (l.clock == c) && moves s.clocks l) ks) (filter (λ l. (l.clock == c) && moves s.clocks l) ks))) ≤ 5000) [
      | false ↦ λ other. rest
      | true ↦ λ same.
          let is : k.clock ≡ c = same_from_test k.clock c same in
          let none = none_move s.clocks c ks (ap (λ (n : ℕ). is_in n (clocks_in ks)) (sym is) ∙ head.0) in
          subst (λ (ls : List ChainStep). sum_by (weight s) (flat_map moved (cond (moves s.clocks k) (k ∷ ls) ls)) ≤ 5000) (sym none) (here (moves s.clocks k))
    ] refl where
      here : (t : Bool) → sum_by (weight s) (flat_map (λ (l : ChainStep). option_map_or (move s.defs s.clocks held c) l.parent []) (cond t (k ∷ []) [])) ≤ 5000
      here false = omega arith
      here true =
          let one = move_weighs s held c k.parent few in
          let all = sum_by-append (weight s) (option_map_or (move s.defs s.clocks held c) k.parent []) [] in
          omega arith

-- so a clock of the walk weighs 8,192 at most
clock_weighs : (s : State) (held : ℕ → Bool) (plan : Plan) (c : ℕ) → HasFewNotifiers s → none_twice (clocks_in plan.chain) ≡ true → sum_by (weight s) (steps_at s.defs s.clocks held plan c) ≤ 8192
clock_weighs s held plan c few once =
    let both = sum_by-append (weight s) (move_of s.defs s.clocks held plan.chain c) (visit_of s.defs s.clocks plan.chain c) in
    let moved = moves_weigh s held c plan.chain (plls_few s.defs) once in
    let visited = visit_weighs s plan.chain c (plls_few s.defs) (few c) in
    omega arith

end_weighs : (s : State) (set_parent : Bool) (ks : List ChainStep) → sum_by (weight s) (settles set_parent ks) ≤ 1
end_weighs s true [] = omega arith
end_weighs s true (k ∷ ks) = omega arith
end_weighs s false ks = omega arith

notices_few : (s : State) (cs : List ℕ) → HasFewNotifiers s → notices_of s cs ≤ 4096 * length cs
notices_few s [] few = omega arith
notices_few s (c ∷ cs) few =
    let cons = sum_by-cons (λ (d : ℕ). length (notifiers_of s.notifiers d)) c cs in
    let here = few c in
    let rest = notices_few s cs few in
    omega arith

-- ---- the whole

-- the parts of a script, weighed together
three_parts : (w : Micro → ℕ) (t : Bool) (told off on_ end : List Micro) (n : ℕ) → sum_by w told ≤ n * 4096 → sum_by w off ≤ n * 4096 → sum_by w on_ ≤ 33554432 → sum_by w end ≤ 1 → n ≤ 4096 → w micro.End ≡ 1
    → sum_by w (told ++ cond t off (on_ ++ end) ++ micro.End ∷ []) ≤ 50331650
three_parts w t told off on_ end n a b c d few one =
    let all = sum_by-append w (told ++ cond t off (on_ ++ end)) (micro.End ∷ []) in
    let rest = sum_by-append w told (cond t off (on_ ++ end)) in
    let last = sum_by-cons w micro.End [] in
    let mid = middle t in
    omega arith where
      middle : (u : Bool) → sum_by w (cond u off (on_ ++ end)) ≤ 33554433
      middle true = omega arith
      middle false = let both = sum_by-append w on_ end in omega arith

pub changing_few : (words : ℕ) (s : State) (t : TreeState) (lists : List (List Notifier)) (plan : Plan) → Fits words s t lists plan
    → (length (walk s.order (wiring s) plan.chain) ≤ 4096) × (length (changing s.order (wiring s) plan.chain) ≤ 4096)
changing_few words s t lists plan fits =
    let laws = walks_list words s.order (wiring s) fits.planned.clock plan.chain (wired words s t lists plan fits) (ordered words s t lists plan fits) fits.planned.leads in
    let most = length-valid words t.defs fits.valid in
    let walked = few_once (walk s.order (wiring s) plan.chain) (length t.defs) laws.0.once (walk_there words s t lists plan fits) in
    let changed = few_once (changing s.order (wiring s) plan.chain) (length t.defs) laws.1.once (changing_there words s t lists plan fits) in
    (omega arith, omega arith)

steps_few : (words : ℕ) (s : State) (t : TreeState) (lists : List (List Notifier)) (plan : Plan) → Fits words s t lists plan → HasFewNotifiers s → (held : ℕ → Bool)
    → sum_by (weight s) (steps_over s held plan) ≤ 50331650
steps_few words s t lists plan fits few held =
    let rates : Rates = rates_of_change s plan in
    let cs : List ℕ = changing s.order (wiring s) plan.chain in
    let counts = changing_few words s t lists plan fits in
    let walk_count = counts.0 in
    let walked = sum_each (weight s) (steps_at s.defs s.clocks held plan) 8192 (walk s.order (wiring s) plan.chain) (λ c. clock_weighs s held plan c few fits.planned.leads.once) in
    three_parts (weight s) (list_any is_veto (pre_list rates s.notifiers cs)) (pre_list rates s.notifiers cs) (abort_list rates s.notifiers cs)
    (flat_map (steps_at s.defs s.clocks held plan) (walk s.order (wiring s) plan.chain)) (settles plan.set_parent plan.chain) (length cs)
    (sum_each (weight s) (λ c. until_veto rates c (notifiers_of s.notifiers c)) 4096 cs (λ c. let here = before_weighs s rates c (notifiers_of s.notifiers c) in let most = few c in omega arith))
    (sum_each (weight s) (λ c. map (λ n. micro.Notify notice.Abort (clock_id c) n.id (slice_index rates.before c) (slice_index rates.outcome c)) (notifiers_of s.notifiers c)) 4096 cs
    (λ c. let here = off_weighs s rates c (notifiers_of s.notifiers c) in let most = few c in omega arith))
    (omega arith)
    (end_weighs s plan.set_parent plan.chain)
    counts.1 refl

extra_few : (words : ℕ) (s : State) (t : TreeState) (lists : List (List Notifier)) (plan : Plan) → Fits words s t lists plan → HasFewNotifiers s
    → notices_of s (changing s.order (wiring s) plan.chain) ≤ 16777216
extra_few words s t lists plan fits few =
    let counts = changing_few words s t lists plan fits in
    let most = counts.1 in
    let told = notices_few s (changing s.order (wiring s) plan.chain) few in
    omega arith

-- ---- whatever tells which clocks are prepared

-- so nothing that a timeout may bring is cut
pub brought_whole : (words : ℕ) (s : State) (t : TreeState) (lists : List (List Notifier)) (plan : Plan) → Fits words s t lists plan → HasFewNotifiers s → (steps : List Micro)
    → brought_by lists plan (all_changed s plan.chain) steps ≤ 16777216
brought_whole words s t lists plan fits few steps = one (plan.set_parent && list_any is_raise steps) where
  one : (t' : Bool) → cond t' (told_by lists (all_changed s plan.chain)) 0 ≤ 16777216
  one true =
      let most = extra_few words s t lists plan fits few in
      let same = notices_count s plan.chain lists fits.told.notifiers (changing s.order (wiring s) plan.chain) in
      omega arith
  one false = omega arith

-- and nothing that the steps weigh
pub weighed_whole : (words : ℕ) (s : State) (t : TreeState) (lists : List (List Notifier)) (plan : Plan) → Fits words s t lists plan → HasFewNotifiers s → (held : ℕ → Bool)
    → (extra : ℕ) → extra ≤ 16777216 → weighed_with t lists (steps_over s held plan) extra ≤ 67108866
weighed_whole words s t lists plan fits few held extra small =
    let steps = steps_few words s t lists plan fits few held in
    let same = steps_weigh s (plls t.defs) lists (steps_over s held plan) (ap plls (sym fits.told.defs)) fits.told.notifiers in
    omega arith
