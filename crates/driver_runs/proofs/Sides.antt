-- Drivers side by side: one of them makes an event, and the others stand where they stood.
use Rattle.std.proofs.Common.{◌≡◌, ℕ, zero, suc, ◌+◌, ◌-◌, ◌<◌, ◌≤◌, ◌||◌, Bool, true, false, cond, nat_eq, nat_lt, List, [], ◌∷◌, ◌++◌, Option, Some, None, refl, sym, ap, subst, ◌∙◌, arith, length, map, slice_get, sum_by}
use Rattle.std.specs.Prelude.{◌≢◌, slice_set, find, if◌then◌else◌}
use Rattle.std.specs.Option.{option_map, option_map_or}
use Rattle.std.proofs.lemmas.Bool.Decides.{nat_tests}
use Rattle.std.proofs.lemmas.List.{append-nil}
use Rattle.std.proofs.lemmas.List.Sums.{sum_by-cons}
use Rattle.clk_base.specs.declared.command.Answer.{Answer}
use Rattle.clk_base.specs.declared.command.Command.{Command}
use Rattle.clk_base.specs.declared.event.Entry.{Entry}
use Rattle.clk_base.specs.declared.event.Turn.{Turn}
use Rattle.clk_model.specs.Follows.{Variables, no_handles, FollowsFrom}
use Rattle.clk_model.specs.Journal.{own}
use Rattle.clk_model.specs.Lists.{is_at, count_from}
use Rattle.clk_model.specs.Ordered.{Progress, at_start, unskipped, is_atomic, can_take, can_move, driver_can_move, next_driver, progress_after, drivers_after}
use Rattle.clk_model.proofs.CallLaws.{own-append}
use Rattle.clk_model.proofs.Members.{test_same}
use Rattle.drv_scripts.specs.declared.bundle.Script.{Script}
use Rattle.driver_runs.specs.Standing.{left_of, IsNew}
use Rattle.driver_runs.specs.Events.{HasCome, Stands, IsProgress, owed}
use Rattle.driver_runs.specs.Moves.{can_move_at, AreNew, AllStand, AreDone, owed_by}
use Rattle.driver_runs.specs.Courses.{IsNextAt}
use Rattle.driver_runs.specs.declared.standing.Standing.{Standing}
use Rattle.driver_runs.proofs.Passing.{unskipped_again, unskipped_short}

-- ---- an entry of another driver

own_other : (journal : List Entry) (e : Entry) (k : ℕ) → nat_eq e.driver k ≡ false → own (journal ++ e ∷ []) k ≡ own journal k
own_other journal e k other =
    own-append journal (e ∷ []) k ∙ ap (λ (b : Bool). own journal k ++ cond b (e ∷ []) []) other ∙ append-nil (own journal k)

own_this : (journal : List Entry) (e : Entry) (k : ℕ) → nat_eq e.driver k ≡ true → own (journal ++ e ∷ []) k ≡ own journal k ++ e ∷ []
own_this journal e k this = own-append journal (e ∷ []) k ∙ ap (λ (b : Bool). own journal k ++ cond b (e ∷ []) []) this

not_same : (m k : ℕ) → m ≢ k → nat_eq m k ≡ false
not_same m k other = pick (nat_eq m k) refl where
  pick : (b : Bool) → nat_eq m k ≡ b → nat_eq m k ≡ false
  pick true h = absurd (other (grind (arith, nat_tests)))
  pick false h = h

is_same : (m k : ℕ) → m ≡ k → nat_eq m k ≡ true
is_same m k same = grind (arith, nat_tests)

below_not : (k d : ℕ) → d < k → k ≢ d
below_not k d less same = omega (arith, less, same)

above_not : (k d : ℕ) → d < k → d ≢ k
above_not k d less same = omega (arith, less, same)

-- drivers with higher numbers stand where they stood
keep_stand : (going going' : Option ℕ) (d n : ℕ) (drivers : List Script) (xs : List Standing) (ps : List Progress) (journal : List Entry) (e : Entry) → e.driver ≡ d → d < n
    → ((k : ℕ) → k ≢ d → is_at k going' ≡ is_at k going) → AllStand going n drivers xs ps journal → AllStand going' n drivers xs ps (journal ++ e ∷ [])
keep_stand going going' d n [] [] [] journal e this less others stand = tt
keep_stand going going' d n [] [] (p ∷ ps) journal e this less others stand = absurd stand
keep_stand going going' d n [] (x ∷ xs) ps journal e this less others stand = absurd stand
keep_stand going going' d n (s ∷ drivers) [] ps journal e this less others stand = absurd stand
keep_stand going going' d n (s ∷ drivers) (x ∷ xs) [] journal e this less others stand = absurd stand
keep_stand going going' d n (s ∷ drivers) (x ∷ xs) (p ∷ ps) journal e this less others stand = (
  subst (λ (b : Bool). Stands n s.commands x b (own (journal ++ e ∷ []) n)) (sym (others n (below_not n d less)))
      (subst (λ (es : List Entry). Stands n s.commands x (is_at n going) es)
      (sym (own_other journal e n (ap (λ (m : ℕ). nat_eq m n) this ∙ not_same d n (above_not n d less)))) stand.0),
  stand.1,
  keep_stand going going' d (n + 1) drivers xs ps journal e this (omega arith) others stand.2,
)

-- what holds of them after one made an event
pub record StandOn (going' : Option ℕ) (n i : ℕ) (drivers : List Script) (xs : List Standing) (x' : Standing) (ps : List Progress) (t : Turn) (journal : List Entry) : Type 0 where
  pub progress : Progress
  pub there : slice_get ps i ≡ Some progress
  pub stand : AllStand going' n drivers (slice_set xs i x') (slice_set ps i (progress_after progress t)) journal

pub set_stand : (going going' : Option ℕ) (d n i : ℕ) (drivers : List Script) (xs : List Standing) (ps : List Progress) (journal : List Entry) (e : Entry) (s : Script) (x x' : Standing) → d ≡ n + i
    → slice_get drivers i ≡ Some s → slice_get xs i ≡ Some x → e.driver ≡ d → ((k : ℕ) → k ≢ d → is_at k going' ≡ is_at k going)
    → ((mine : List Entry) → Stands d s.commands x (is_at d going) mine → Stands d s.commands x' (is_at d going') (mine ++ e ∷ []))
    → ((p : Progress) → IsProgress s.commands x p → IsProgress s.commands x' (progress_after p e.turn))
    → AllStand going n drivers xs ps journal → StandOn going' n i drivers xs x' ps e.turn (journal ++ e ∷ [])
set_stand going going' d n i [] xs ps journal e s x x' at is_s is_x this others stands progress stand = absurd cc
set_stand going going' d n i (t ∷ drivers) [] ps journal e s x x' at is_s is_x this others stands progress stand = absurd cc
set_stand going going' d n i (t ∷ drivers) (y ∷ xs) [] journal e s x x' at is_s is_x this others stands progress stand = absurd stand
set_stand going going' d n zero (t ∷ drivers) (y ∷ xs) (p ∷ ps) journal e s x x' at is_s is_x this others stands progress stand =
    let number : n ≡ d = omega (arith, at) in
    let same_s : t ≡ s = cc in
    let same_x : y ≡ x = cc in
    let was : Stands d s.commands x (is_at d going) (own journal d) =
    subst (λ (k : ℕ). Stands k s.commands x (is_at k going) (own journal k)) number
    (subst (λ (z : Standing). Stands n s.commands z (is_at n going) (own journal n)) same_x
    (subst (λ (r : Script). Stands n r.commands y (is_at n going) (own journal n)) same_s stand.0)) in
    let now : Stands d s.commands x' (is_at d going') (own (journal ++ e ∷ []) d) =
    subst (λ (es : List Entry). Stands d s.commands x' (is_at d going') es) (sym (own_this journal e d (is_same e.driver d this))) (stands (own journal d) was) in
    let told : IsProgress s.commands x p =
    subst (λ (z : Standing). IsProgress s.commands z p) same_x (subst (λ (r : Script). IsProgress r.commands y p) same_s stand.1) in
    record {
      progress = p;
      there = refl;
      stand = (
        subst (λ (r : Script). Stands n r.commands x' (is_at n going') (own (journal ++ e ∷ []) n)) (sym same_s)
            (subst (λ (k : ℕ). Stands k s.commands x' (is_at k going') (own (journal ++ e ∷ []) k)) (sym number) now),
        subst (λ (r : Script). IsProgress r.commands x' (progress_after p e.turn)) (sym same_s) (progress p told),
        keep_stand going going' d (n + 1) drivers xs ps journal e this (omega (arith, number)) others stand.2,
      );
    }
set_stand going going' d n (suc i) (t ∷ drivers) (y ∷ xs) (p ∷ ps) journal e s x x' at is_s is_x this others stands progress stand =
    let later = set_stand going going' d (n + 1) i drivers xs ps journal e s x x' (omega (arith, at)) is_s is_x this others stands progress stand.2 in
    let high : n < d = omega (arith, at) in
    record {
      progress = later.progress;
      there = later.there;
      stand = (
        subst (λ (b : Bool). Stands n t.commands y b (own (journal ++ e ∷ []) n)) (sym (others n (above_not d n high)))
            (subst (λ (es : List Entry). Stands n t.commands y (is_at n going) es)
            (sym (own_other journal e n (ap (λ (m : ℕ). nat_eq m n) this ∙ not_same d n (below_not d n high)))) stand.0),
        stand.1,
        later.stand,
      );
    }

-- what is known of the driver at a place
pub record StandsThere (going : Option ℕ) (d i : ℕ) (s : Script) (x : Standing) (ps : List Progress) (journal : List Entry) : Type 0 where
  pub progress : Progress
  pub there : slice_get ps i ≡ Some progress
  pub stands : Stands d s.commands x (is_at d going) (own journal d)
  pub told : IsProgress s.commands x progress

pub stands_there : (going : Option ℕ) (d n i : ℕ) (drivers : List Script) (xs : List Standing) (ps : List Progress) (journal : List Entry) (s : Script) (x : Standing) → d ≡ n + i
    → slice_get drivers i ≡ Some s → slice_get xs i ≡ Some x → AllStand going n drivers xs ps journal → StandsThere going d i s x ps journal
stands_there going d n i [] xs ps journal s x at is_s is_x stand = absurd cc
stands_there going d n i (t ∷ drivers) [] ps journal s x at is_s is_x stand = absurd cc
stands_there going d n i (t ∷ drivers) (y ∷ xs) [] journal s x at is_s is_x stand = absurd stand
stands_there going d n zero (t ∷ drivers) (y ∷ xs) (p ∷ ps) journal s x at is_s is_x stand =
    let number : n ≡ d = omega (arith, at) in
    let same_s : t ≡ s = cc in
    let same_x : y ≡ x = cc in
    record {
      progress = p;
      there = refl;
      stands =
          subst (λ (k : ℕ). Stands k s.commands x (is_at k going) (own journal k)) number
          (subst (λ (z : Standing). Stands n s.commands z (is_at n going) (own journal n)) same_x
          (subst (λ (r : Script). Stands n r.commands y (is_at n going) (own journal n)) same_s stand.0));
      told = subst (λ (z : Standing). IsProgress s.commands z p) same_x (subst (λ (r : Script). IsProgress r.commands y p) same_s stand.1);
    }
stands_there going d n (suc i) (t ∷ drivers) (y ∷ xs) (p ∷ ps) journal s x at is_s is_x stand =
    let later = stands_there going d (n + 1) i drivers xs ps journal s x (omega (arith, at)) is_s is_x stand.2 in
    record { progress = later.progress; there = later.there; stands = later.stands; told = later.told }

pub stand_many : (going : Option ℕ) (n : ℕ) (drivers : List Script) (xs : List Standing) (ps : List Progress) (journal : List Entry) → AllStand going n drivers xs ps journal
    → (length xs ≡ length drivers) × (length ps ≡ length drivers)
stand_many going n [] [] [] journal stand = (refl, refl)
stand_many going n [] [] (p ∷ ps) journal stand = absurd stand
stand_many going n [] (x ∷ xs) ps journal stand = absurd stand
stand_many going n (s ∷ drivers) [] ps journal stand = absurd stand
stand_many going n (s ∷ drivers) (x ∷ xs) [] journal stand = absurd stand
stand_many going n (s ∷ drivers) (x ∷ xs) (p ∷ ps) journal stand =
    let later = stand_many going (n + 1) drivers xs ps journal stand.2 in
    (ap suc later.0, ap suc later.1)

-- ---- credits

keep_owed : (going going' : Option ℕ) (d n : ℕ) (drivers : List Script) (xs : List Standing) → d < n → ((k : ℕ) → k ≢ d → is_at k going' ≡ is_at k going)
    → owed_by going' n drivers xs ≡ owed_by going n drivers xs
keep_owed going going' d n [] xs less others = refl
keep_owed going going' d n (s ∷ drivers) [] less others = refl
keep_owed going going' d n (s ∷ drivers) (x ∷ xs) less others =
    let later : owed_by going' (n + 1) drivers xs ≡ owed_by going (n + 1) drivers xs = keep_owed going going' d (n + 1) drivers xs (omega arith) others in
    ap (λ (b : Bool). owed s.commands x b + owed_by going' (n + 1) drivers xs) (others n (below_not n d less)) ∙ ap (λ (m : ℕ). owed s.commands x (is_at n going) + m) later

pub set_owed : (going going' : Option ℕ) (d n i paid : ℕ) (drivers : List Script) (xs : List Standing) (s : Script) (x x' : Standing) → d ≡ n + i → slice_get drivers i ≡ Some s → slice_get xs i ≡ Some x
    → ((k : ℕ) → k ≢ d → is_at k going' ≡ is_at k going) → owed s.commands x' (is_at d going') + paid ≤ owed s.commands x (is_at d going)
    → owed_by going' n drivers (slice_set xs i x') + paid ≤ owed_by going n drivers xs
set_owed going going' d n i paid [] xs s x x' at is_s is_x others less = absurd cc
set_owed going going' d n i paid (t ∷ drivers) [] s x x' at is_s is_x others less = absurd cc
set_owed going going' d n zero paid (t ∷ drivers) (y ∷ xs) s x x' at is_s is_x others less =
    let number : d ≡ n = omega (arith, at) in
    let same_s : s ≡ t = cc in
    let same_x : x ≡ y = cc in
    let rest = keep_owed going going' d (n + 1) drivers xs (omega (arith, number)) others in
    let here : owed t.commands x' (is_at n going') + paid ≤ owed t.commands y (is_at n going) =
    subst (λ (k : ℕ). owed t.commands x' (is_at k going') + paid ≤ owed t.commands y (is_at k going)) number
    (subst (λ (z : Standing). owed t.commands x' (is_at d going') + paid ≤ owed t.commands z (is_at d going)) same_x
    (subst (λ (r : Script). owed r.commands x' (is_at d going') + paid ≤ owed r.commands x (is_at d going)) same_s less)) in
    sums (owed t.commands x' (is_at n going')) (owed t.commands y (is_at n going)) (owed_by going' (n + 1) drivers xs) (owed_by going (n + 1) drivers xs) paid here rest where
      sums : (a b m m' p : ℕ) → a + p ≤ b → m ≡ m' → a + m + p ≤ b + m'
      sums a b m m' p less same = omega (arith, less, same)
set_owed going going' d n (suc i) paid (t ∷ drivers) (y ∷ xs) s x x' at is_s is_x others less =
    let later = set_owed going going' d (n + 1) i paid drivers xs s x x' (omega (arith, at)) is_s is_x others less in
    let same : owed t.commands y (is_at n going') ≡ owed t.commands y (is_at n going) =
    ap (λ (b : Bool). owed t.commands y b) (others n (above_not d n (omega (arith, at)))) in
    sums (owed t.commands y (is_at n going')) (owed t.commands y (is_at n going)) (owed_by going' (n + 1) drivers (slice_set xs i x')) (owed_by going (n + 1) drivers xs) paid same later where
      sums : (a b m m' p : ℕ) → a ≡ b → m + p ≤ m' → a + m + p ≤ b + m'
      sums a b m m' p same less = omega (arith, less, same)

pub owed_there : (going : Option ℕ) (d n i : ℕ) (drivers : List Script) (xs : List Standing) (s : Script) (x : Standing) → d ≡ n + i → slice_get drivers i ≡ Some s → slice_get xs i ≡ Some x
    → owed s.commands x (is_at d going) ≤ owed_by going n drivers xs
owed_there going d n i [] xs s x at is_s is_x = absurd cc
owed_there going d n i (t ∷ drivers) [] s x at is_s is_x = absurd cc
owed_there going d n zero (t ∷ drivers) (y ∷ xs) s x at is_s is_x =
    let number : n ≡ d = omega (arith, at) in
    let same_s : t ≡ s = cc in
    let same_x : y ≡ x = cc in
    let same : owed t.commands y (is_at n going) ≡ owed s.commands x (is_at d going) =
    ap (λ (r : Script). owed r.commands y (is_at n going)) same_s ∙ ap (λ (z : Standing). owed s.commands z (is_at n going)) same_x
    ∙ ap (λ (k : ℕ). owed s.commands x (is_at k going)) number in
    sums (owed t.commands y (is_at n going)) (owed s.commands x (is_at d going)) (owed_by going (n + 1) drivers xs) same where
      sums : (a b m : ℕ) → a ≡ b → b ≤ a + m
      sums a b m same = omega (arith, same)
owed_there going d n (suc i) (t ∷ drivers) (y ∷ xs) s x at is_s is_x =
    sums (owed t.commands y (is_at n going)) (owed s.commands x (is_at d going)) (owed_by going (n + 1) drivers xs) (owed_there going d (n + 1) i drivers xs s x (omega (arith, at)) is_s is_x) where
      sums : (a b m : ℕ) → b ≤ m → b ≤ a + m
      sums a b m less = omega (arith, less)

-- ---- who makes the next event

moves_in : (going : Option ℕ) (d n i : ℕ) (drivers : List Script) (xs : List Standing) (ps : List Progress) (journal : List Entry) → AllStand going n drivers xs ps journal
    → option_map_or (can_move going d) (slice_get ps i) false
    ≡ option_map_or (λ s. option_map_or (λ x. is_at d going || can_take going (left_of s.commands x)) (slice_get xs i) false) (slice_get drivers i) false
moves_in going d n i [] [] [] journal stand = refl
moves_in going d n i [] [] (p ∷ ps) journal stand = absurd stand
moves_in going d n i [] (x ∷ xs) ps journal stand = absurd stand
moves_in going d n i (s ∷ drivers) [] ps journal stand = absurd stand
moves_in going d n i (s ∷ drivers) (x ∷ xs) [] journal stand = absurd stand
moves_in going d n zero (s ∷ drivers) (x ∷ xs) (p ∷ ps) journal stand = ap (λ (cs : List Command). is_at d going || can_take going cs) stand.1.left
moves_in going d n (suc i) (s ∷ drivers) (x ∷ xs) (p ∷ ps) journal stand = moves_in going d (n + 1) i drivers xs ps journal stand.2

-- whether a driver can make an event is what the definition says of its progress
pub moves_same : (going : Option ℕ) (d : ℕ) (drivers : List Script) (xs : List Standing) (boot : Progress) (ps : List Progress) (journal : List Entry) → 0 < d
    → AllStand going 1 drivers xs ps journal → driver_can_move (boot ∷ ps) going d ≡ can_move_at going drivers xs d
moves_same going zero drivers xs boot ps journal some stand = absurd (omega arith)
moves_same going (suc i) drivers xs boot ps journal some stand =
    let place : i ≡ suc i - 1 = omega arith in
    moves_in going (suc i) 1 i drivers xs ps journal stand
    ∙ ap (λ (k : ℕ). option_map_or (λ s. option_map_or (λ x. is_at (suc i) going || can_take going (left_of s.commands x)) (slice_get xs k) false) (slice_get drivers k) false) place

lower : (n d : ℕ) → n ≤ d → n ≢ d → n < d
lower n d least apart = pick (nat_lt n d) refl where
  pick : (b : Bool) → nat_lt n d ≡ b → n < d
  pick true h = grind (arith, nat_tests)
  pick false h =
      let most : d ≤ n = grind (arith, nat_tests) in
      absurd (apart (omega (arith, least, most)))

finds : (m : ℕ → Bool) (count n d : ℕ) → n ≤ d → d < n + count → m d ≡ true → ((k : ℕ) → n ≤ k → k < d → m k ≡ false) → find m (count_from n count) ≡ Some d
finds m zero n d least most is none = absurd (omega (arith, least, most))
finds m (suc count) n d least most is none = pick (nat_eq n d) refl (λ less high. finds m count (suc n) d less high is (λ k low under. none k (omega (arith, low)) under)) where
  pick : (b : Bool) → nat_eq n d ≡ b → (suc n ≤ d → d < suc n + count → find m (count_from (suc n) count) ≡ Some d) → find m (count_from n (suc count)) ≡ Some d
  pick true h later =
      let same : n ≡ d = grind (arith, nat_tests) in
      ap (λ (b : Bool). cond b (Some n) (find m (count_from (suc n) count))) (ap m same ∙ is) ∙ ap (λ (k : ℕ). Some k) same
  pick false h later =
      let apart : n ≢ d = λ same. let no : nat_eq n d ≡ true = ap (λ (k : ℕ). nat_eq k d) same ∙ test_same d in cc in
      let less : n < d = lower n d least apart in
      ap (λ (b : Bool). cond b (Some n) (find m (count_from (suc n) count))) (none n (omega arith) less) ∙ later (omega (arith, less)) (omega (arith, most))

-- behind the order it is the lowest numbered one that can
pub next_found : (going : Option ℕ) (d : ℕ) (drivers : List Script) (xs : List Standing) (boot : Progress) (ps : List Progress) (journal : List Entry) → IsNextAt going drivers xs d
    → AllStand going 1 drivers xs ps journal → next_driver (boot ∷ ps) going [] ≡ Some (d, [])
next_found going d drivers xs boot ps journal next stand =
    let many = (stand_many going 1 drivers xs ps journal stand).1 in
    let within = next.within in
    let some = next.some in
    let count : suc (length ps) - 1 ≡ length ps = omega arith in
    ap (λ (n : ℕ). option_map (λ (k : ℕ). (k, [])) (find (driver_can_move (boot ∷ ps) going) (count_from 1 n))) count
    ∙ ap (option_map (λ (k : ℕ). (k, [])))
    (finds (driver_can_move (boot ∷ ps) going) (length ps) 1 d (omega (arith, some)) (omega (arith, many, within))
    (moves_same going d drivers xs boot ps journal some stand ∙ next.moves)
    (λ k low high. moves_same going k drivers xs boot ps journal (omega (arith, low)) stand ∙ next.lower k (omega (arith, low)) high))

-- the first of the order, if it can
pub next_listed : (going : Option ℕ) (d : ℕ) (order : List ℕ) (drivers : List Script) (xs : List Standing) (boot : Progress) (ps : List Progress) (journal : List Entry) → 0 < d
    → can_move_at going drivers xs d ≡ true → AllStand going 1 drivers xs ps journal → next_driver (boot ∷ ps) going (d ∷ order) ≡ Some (d, order)
next_listed going d order drivers xs boot ps journal some moves stand =
    ap (λ (b : Bool). if b then Some (d, order) else next_driver (boot ∷ ps) going order) (moves_same going d drivers xs boot ps journal some stand ∙ moves)

-- else it is passed over
pub next_passed : (going : Option ℕ) (d : ℕ) (order : List ℕ) (drivers : List Script) (xs : List Standing) (boot : Progress) (ps : List Progress) (journal : List Entry) → 0 < d
    → can_move_at going drivers xs d ≡ false → AllStand going 1 drivers xs ps journal → next_driver (boot ∷ ps) going (d ∷ order) ≡ next_driver (boot ∷ ps) going order
next_passed going d order drivers xs boot ps journal some moves stand =
    ap (λ (b : Bool). if b then Some (d, order) else next_driver (boot ∷ ps) going order) (moves_same going d drivers xs boot ps journal some stand ∙ moves)

-- the drivers behind an entry of one of them
pub drivers_behind : (boot p : Progress) (ps : List Progress) (e : Entry) (d i : ℕ) → d ≡ suc i → e.driver ≡ d → slice_get ps i ≡ Some p
    → drivers_after (boot ∷ ps) e ≡ boot ∷ slice_set ps i (progress_after p e.turn)
drivers_behind boot p ps e d i at this there =
    ap (λ (n : ℕ). option_map_or (λ q. slice_set (boot ∷ ps) n (progress_after q e.turn)) (slice_get (boot ∷ ps) n) (boot ∷ ps)) (this ∙ at)
    ∙ ap (λ (o : Option Progress). option_map_or (λ q. slice_set (boot ∷ ps) (suc i) (progress_after q e.turn)) o (boot ∷ ps)) there

-- ---- drivers that begin, and that are done

new_come : (d : ℕ) (commands : List Command) (x : Standing) → IsNew commands x → HasCome d commands x []
new_come d commands x new = record {
  own = refl;
  passed = ap (unskipped x.held.items) new.left ∙ unskipped_again x.held.items commands ∙ sym new.left;
  follows = λ ls as_ f.
      let found = new.follows ls as_ f in
      subst (λ (own_ : List Answer). FollowsFrom (no_handles commands) commands ls own_) (sym found.1) found.2;
}

pub new_stand : (n : ℕ) (drivers : List Script) (xs : List Standing) → AreNew drivers xs → AllStand None n drivers xs (map at_start (map (λ s. s.commands) drivers)) []
new_stand n [] [] new = tt
new_stand n [] (x ∷ xs) new = absurd new
new_stand n (s ∷ drivers) [] new = absurd new
new_stand n (s ∷ drivers) (x ∷ xs) new = (
  new_come n s.commands x new.0,
  record {
    held = sym new.0.held;
    left = ap (λ (h : Variables). unskipped h s.commands) (sym new.0.held) ∙ sym new.0.left;
  },
  new_stand (n + 1) drivers xs new.1,
)

pub new_more : (drivers : List Script) (xs : List Standing) (s : Script) (x : Standing) → AreNew drivers xs → IsNew s.commands x → AreNew (drivers ++ s ∷ []) (xs ++ x ∷ [])
new_more [] [] s x new this = (this, tt)
new_more [] (y ∷ xs) s x new this = absurd new
new_more (t ∷ drivers) [] s x new this = absurd new
new_more (t ∷ drivers) (y ∷ xs) s x new this = (new.0, new_more drivers xs s x new.1 this)

-- no more credits are needed than there are commands
pub new_owed : (n : ℕ) (drivers : List Script) (xs : List Standing) → AreNew drivers xs → owed_by None n drivers xs ≤ sum_by (λ s. length s.commands) drivers
new_owed n [] xs new = omega arith
new_owed n (s ∷ drivers) [] new = absurd new
new_owed n (s ∷ drivers) (x ∷ xs) new =
    let later = new_owed (n + 1) drivers xs new.1 in
    let short = unskipped_short x.held.items s.commands in
    let left = ap (λ (cs : List Command). length cs) new.0.left in
    let sum = sum_by-cons (λ (t : Script). length t.commands) s drivers in
    omega (arith, later, short, left, sum)

-- where no driver can make an event and no call is in flight, each has answered all its commands
none_left : (cs : List Command) → can_take None cs ≡ false → cs ≡ []
none_left [] h = refl
none_left (c ∷ cs) h = absurd (always (is_atomic c.act) h) where
  always : (b : Bool) → (b || true) ≡ false → ⊥
  always true h = cc
  always false h = cc

pub done_all : (drivers : List Script) (xs : List Standing) → length xs ≡ length drivers
    → ((i : ℕ) → i < length drivers
    → option_map_or (λ s. option_map_or (λ x. can_take None (left_of s.commands x)) (slice_get xs i) false) (slice_get drivers i) false ≡ false)
    → AreDone drivers xs
done_all [] [] many none = tt
done_all [] (x ∷ xs) many none = absurd (omega (arith, many))
done_all (s ∷ drivers) [] many none = absurd (omega (arith, many))
done_all (s ∷ drivers) (x ∷ xs) many none = (
  none_left (left_of s.commands x) (none 0 (omega arith)),
  done_all drivers xs (omega (arith, many)) (λ i less. none (suc i) (omega (arith, less))),
)
