-- A course of events: one more, and its end.
use Rattle.std.proofs.Common.{◌≡◌, ℕ, zero, suc, ◌+◌, ◌-◌, ◌<◌, ◌≤◌, ◌&&◌, ◌||◌, Bool, true, false, cond, nat_eq, nat_lt, nat_le, List, [], ◌∷◌, ◌++◌, Option, Some, None, refl, sym, ap, subst, ◌∙◌, arith, length, map, append_assoc, slice_get}
use Rattle.std.specs.Prelude.{◌≢◌, slice_set, is_some, if◌then◌else◌}
use Rattle.std.specs.List.{AllByRecursion}
use Rattle.std.specs.Option.{option_map_or}
use Rattle.std.proofs.lemmas.Bool.{and_from}
use Rattle.std.proofs.lemmas.Bool.Decides.{nat_tests}
use Rattle.std.proofs.lemmas.List.{append-nil}
use Rattle.std.proofs.lemmas.List.Sums.{sum_by-append}
use Rattle.std.proofs.lemmas.Option.{slice_get_past}
use Rattle.clk_base.specs.declared.command.Command.{Command}
use Rattle.clk_base.specs.declared.event.Entry.{Entry}
use Rattle.clk_model.specs.Journal.{own, cost, is_paid}
use Rattle.clk_model.specs.Lists.{is_at}
use Rattle.clk_model.specs.Ordered.{Progress, at_start, unskipped, is_atomic, can_take, next_driver, going_after, progress_after, drivers_after, NextOrdered, OrderedFrom}
use Rattle.clk_model.specs.State.{State}
use Rattle.clk_model.specs.Tier.{is_step}
use Rattle.clk_model.proofs.Members.{test_same}
use Rattle.clk_model.proofs.WalkLaws.{is_at_same}
use Rattle.clk_machine.specs.Run.{Run}
use Rattle.drv_scripts.specs.Placed.{IsScript}
use Rattle.drv_scripts.specs.declared.bundle.Script.{Script}
use Rattle.driver_runs.specs.Standing.{left_of}
use Rattle.driver_runs.specs.Events.{Stands, owed}
use Rattle.driver_runs.specs.Moves.{can_move_at, AllStand, AreDone, owed_by, MayMoveAt, MovesAt}
use Rattle.driver_runs.specs.Courses.{ArePlaced, BeginsCourse, Course, IsUnderWay, IsNextAt, effort, HasEnded}
use Rattle.driver_runs.specs.declared.standing.Standing.{Standing}
use Rattle.driver_runs.proofs.Going.{list_all-append}
use Rattle.driver_runs.proofs.Entered.{cost_one}
use Rattle.driver_runs.proofs.Sides.{set_stand, stands_there, stand_many, set_owed, owed_there, new_stand, next_listed, next_passed, next_found, drivers_behind, done_all}

-- ---- no event yet

pub course_begins : (run : Run) (drivers : List Script) (order : List ℕ) (xs : List Standing) → BeginsCourse run drivers xs → Course run drivers order xs None order run
course_begins run drivers order xs begins = record {
  entries = [];
  start = refl;
  told = refl;
  behind = refl;
  journal = sym (append-nil run.journal);
  legal = λ told was. was;
  among = refl;
  flies = begins.quiet;
  whose = λ k is. absurd cc;
  progress = map at_start (map (λ s. s.commands) drivers);
  stand = new_stand 1 drivers xs begins.new;
  ordered = λ boot rest f. f;
  credits = begins.credits;
}

-- ---- an event more

-- who makes the next event, whatever is known of boot
abbrev NextIs : Option ℕ → List Progress → List ℕ → ℕ → List ℕ → Type 0
NextIs going ps left d left' = (boot : Progress) → next_driver (boot ∷ ps) going left ≡ Some (d, left')

pub course_moves : (first old new : Run) (drivers : List Script) (order left left' : List ℕ) (xs xs' : List Standing) (going going' : Option ℕ) (d : ℕ)
    → (course : Course first drivers order xs going left old) → 0 < d → d ≤ length drivers → MovesAt old drivers xs going d new xs' going'
    → NextIs going course.progress left d left' → Course first drivers order xs' going' left' new
course_moves first old new drivers order left left' xs xs' going going' d course some within moves next =
    let event = moves.event in
    let e = event.entry in
    let i = d - 1 in
    let place : d ≡ 1 + i = omega (arith, some) in
    let succ : d ≡ suc i = omega (arith, some) in
    let on = set_stand going going' d 1 i drivers xs course.progress course.entries e moves.script moves.before moves.after place moves.script_is moves.before_is event.driver event.others
    event.stands event.progress course.stand in
    let ps = slice_set course.progress i (progress_after on.progress e.turn) in
    let paid = set_owed going going' d 1 i (cost (e ∷ [])) drivers xs moves.script moves.before moves.after place moves.script_is moves.before_is event.others event.paid in
    let spent : cost new.journal ≡ cost old.journal + cost (e ∷ []) =
    ap cost event.journal ∙ sum_by-append (λ (f : Entry). cond (is_paid f.event) 1 0) old.journal (e ∷ []) in
    let was = course.credits in
    let all = ap (λ (s : State). s.credits) event.start in
    let owed_ : owed_by going' 1 drivers xs' ≡ owed_by going' 1 drivers (slice_set xs i moves.after) = ap (owed_by going' 1 drivers) moves.others in
    record {
      entries = course.entries ++ e ∷ [];
      start = event.start ∙ course.start;
      told = event.told ∙ course.told;
      behind = event.behind ∙ course.behind;
      journal = event.journal ∙ ap (λ (j : List Entry). j ++ e ∷ []) course.journal ∙ append_assoc first.journal course.entries (e ∷ []);
      legal = λ told was_legal. event.legal (course.told ∙ told);
      among = list_all-append (λ f. nat_lt 0 f.driver && nat_lt f.driver (length drivers + 1)) course.entries (e ∷ []) course.among
          (and_from (nat_lt 0 e.driver && nat_lt e.driver (length drivers + 1)) true (among_this e d (length drivers) event.driver some within) refl);
      flies = event.flies;
      whose = λ k is. by_number k is (nat_eq k d) refl;
      progress = ps;
      stand = subst (λ (ys : List Standing). AllStand going' 1 drivers ys ps (course.entries ++ e ∷ [])) (sym moves.others) on.stand;
      ordered = λ boot rest f.
          let behind : OrderedFrom (drivers_after (boot ∷ course.progress) e) (going_after going e) left' rest =
          subst (λ (qs : List Progress). OrderedFrom qs (going_after going e) left' rest) (sym (drivers_behind boot on.progress course.progress e d i succ event.driver on.there))
          (subst (λ (o : Option ℕ). OrderedFrom (boot ∷ ps) o left' rest) event.after f) in
          let this : is_at e.driver going ≡ is_step e.event = ap (λ (n : ℕ). is_at n going) event.driver ∙ event.kind in
          let here : OrderedFrom (boot ∷ course.progress) going left (e ∷ rest) =
          subst (λ (o : Option (ℕ × List ℕ)). NextOrdered (λ later. OrderedFrom (drivers_after (boot ∷ course.progress) e) (going_after going e) later rest) going o e) (sym (next boot))
          (event.driver, this, behind) in
          subst (λ (es : List Entry). OrderedFrom (boot ∷ map at_start (map (λ s. s.commands) drivers)) None order es) (sym (append_assoc course.entries (e ∷ []) rest)) (course.ordered boot (e ∷ rest) here);
      credits = omega (arith, paid, spent, was, all, owed_);
    } where
      among_this : (e : Entry) (d n : ℕ) → e.driver ≡ d → 0 < d → d ≤ n → (nat_lt 0 e.driver && nat_lt e.driver (n + 1)) ≡ true
      among_this e d n this some within =
          let low : nat_lt 0 e.driver ≡ true = grind (arith, nat_tests) in
          let high : nat_lt e.driver (n + 1) ≡ true = grind (arith, nat_tests) in
          and_from (nat_lt 0 e.driver) (nat_lt e.driver (n + 1)) low high

      by_number : (k : ℕ) → is_at k going' ≡ true → (b : Bool) → nat_eq k d ≡ b → (0 < k) × (k ≤ length drivers)
      by_number k is true h =
          let same : k ≡ d = grind (arith, nat_tests) in
          (omega (arith, same, some), omega (arith, same, within))
      by_number k is false h = course.whose k (sym (moves.event.others k (not_same k h)) ∙ is) where
        not_same : (k : ℕ) → nat_eq k d ≡ false → k ≢ d
        not_same k h same = let no : nat_eq k d ≡ true = ap (λ (n : ℕ). nat_eq n d) same ∙ test_same d in cc

-- the driver that the order names
pub course_listed : (first old new : Run) (drivers : List Script) (order left : List ℕ) (xs xs' : List Standing) (going going' : Option ℕ) (d : ℕ)
    → Course first drivers order xs going (d ∷ left) old → 0 < d → d ≤ length drivers → can_move_at going drivers xs d ≡ true → MovesAt old drivers xs going d new xs' going'
    → Course first drivers order xs' going' left new
course_listed first old new drivers order left xs xs' going going' d course some within can moves =
    course_moves first old new drivers order (d ∷ left) left xs xs' going going' d course some within moves
    (λ boot. next_listed going d left drivers xs boot course.progress course.entries some can course.stand)

-- a driver that the order names and that can make no event is passed over
pub course_passes : (first run : Run) (drivers : List Script) (order left : List ℕ) (xs : List Standing) (going : Option ℕ) (d : ℕ) → Course first drivers order xs going (d ∷ left) run → 0 < d
    → can_move_at going drivers xs d ≡ false → Course first drivers order xs going left run
course_passes first run drivers order left xs going d course some can = record {
  entries = course.entries;
  start = course.start;
  told = course.told;
  behind = course.behind;
  journal = course.journal;
  legal = course.legal;
  among = course.among;
  flies = course.flies;
  whose = course.whose;
  progress = course.progress;
  stand = course.stand;
  ordered = λ boot rest f.
      course.ordered boot rest (widen boot rest (next_passed going d left drivers xs boot course.progress course.entries some can course.stand) f);
  credits = course.credits;
} where
  widen : (boot : Progress) (rest : List Entry) → next_driver (boot ∷ course.progress) going (d ∷ left) ≡ next_driver (boot ∷ course.progress) going left
      → OrderedFrom (boot ∷ course.progress) going left rest → OrderedFrom (boot ∷ course.progress) going (d ∷ left) rest
  widen boot [] same f = tt
  widen boot (e ∷ es) same f =
      subst (λ (o : Option (ℕ × List ℕ)). NextOrdered (λ later. OrderedFrom (drivers_after (boot ∷ course.progress) e) (going_after going e) later es) going o e) (sym same) f

-- behind the order the lowest numbered one that can
pub course_found : (first old new : Run) (drivers : List Script) (order : List ℕ) (xs xs' : List Standing) (going going' : Option ℕ) (d : ℕ)
    → Course first drivers order xs going [] old → IsNextAt going drivers xs d → MovesAt old drivers xs going d new xs' going'
    → Course first drivers order xs' going' [] new
course_found first old new drivers order xs xs' going going' d course next moves =
    course_moves first old new drivers order [] [] xs xs' going going' d course next.some next.within moves
    (λ boot. next_found going d drivers xs boot course.progress course.entries next course.stand)

-- ---- how much is left to do

sums : (a b s s' : Bool) (o o' c : ℕ) → o' + c ≤ o → c ≡ (if a then 0 else 1) → (a ≡ true → s ≡ true) → (a ≡ true → b ≡ false → s' ≡ false)
    → o' + o' + (if s' then 1 else 0) + (if b then 0 else 1) ≤ o + o + (if s then 1 else 0)
sums true b false s' o o' c less costs some none = let no = some refl in absurd cc
sums true true true true o o' c less costs some none = omega (arith, less, costs)
sums true true true false o o' c less costs some none = omega (arith, less, costs)
sums true false true true o o' c less costs some none = let no = none refl refl in absurd cc
sums true false true false o o' c less costs some none = omega (arith, less, costs)
sums false true true true o o' c less costs some none = omega (arith, less, costs)
sums false true true false o o' c less costs some none = omega (arith, less, costs)
sums false true false true o o' c less costs some none = omega (arith, less, costs)
sums false true false false o o' c less costs some none = omega (arith, less, costs)
sums false false true true o o' c less costs some none = omega (arith, less, costs)
sums false false true false o o' c less costs some none = omega (arith, less, costs)
sums false false false true o o' c less costs some none = omega (arith, less, costs)
sums false false false false o o' c less costs some none = omega (arith, less, costs)

some_at : (d : ℕ) (going : Option ℕ) → is_at d going ≡ true → is_some going ≡ true
some_at d None is = absurd cc
some_at d (Some k) is = refl

same_number : (d k : ℕ) → nat_eq k d ≡ true → k ≡ d
same_number d k is = grind (arith, nat_tests)

-- less is left to do behind an event, where the driver's call isn't in flight then
pub effort_less : (old new : Run) (drivers : List Script) (xs xs' : List Standing) (going going' : Option ℕ) (d : ℕ) → 0 < d → MovesAt old drivers xs going d new xs' going'
    → effort drivers xs' going' + (if is_at d going' then 0 else 1) ≤ effort drivers xs going
effort_less old new drivers xs xs' going going' d some moves =
    let event = moves.event in
    let e = event.entry in
    let place : d ≡ 1 + (d - 1) = omega (arith, some) in
    let paid = set_owed going going' d 1 (d - 1) (cost (e ∷ [])) drivers xs moves.script moves.before moves.after place moves.script_is moves.before_is event.others event.paid in
    let owed_ : owed_by going' 1 drivers xs' ≡ owed_by going' 1 drivers (slice_set xs (d - 1) moves.after) = ap (owed_by going' 1 drivers) moves.others in
    let less : owed_by going' 1 drivers xs' + cost (e ∷ []) ≤ owed_by going 1 drivers xs = omega (arith, paid, owed_) in
    sums (is_at d going) (is_at d going') (is_some going) (is_some going') (owed_by going 1 drivers xs) (owed_by going' 1 drivers xs') (cost (e ∷ [])) less
    (cost_one e (is_at d going) (sym event.kind)) (some_at d going) (λ was now. none_at going' was now (event.others)) where
      none_at : (o : Option ℕ) → is_at d going ≡ true → is_at d o ≡ false → ((k : ℕ) → k ≢ d → is_at k o ≡ is_at k going) → is_some o ≡ false
      none_at None was now others = refl
      none_at (Some k) was now others =
          let here : is_at k going ≡ true = sym (others k apart) ∙ test_same k in
          let own_ : is_at k (Some d) ≡ true = ap (is_at k) (sym (is_at_same d going was)) ∙ here in
          absurd (apart (sym (same_number k d own_))) where
            apart : k ≢ d
            apart same = let no : nat_eq k d ≡ true = ap (λ (n : ℕ). nat_eq n d) same ∙ test_same d in cc

pub effort_on : (old new : Run) (drivers : List Script) (zs xs xs' : List Standing) (start going going' : Option ℕ) (d : ℕ) → 0 < d → is_at d going ≡ true → MovesAt old drivers xs going d new xs' going'
    → effort drivers xs going + (if is_at d going then 0 else 1) ≤ effort drivers zs start → effort drivers xs' going' + (if is_at d going' then 0 else 1) ≤ effort drivers zs start
effort_on old new drivers zs xs xs' start going going' d some flies moves was =
    let less = effort_less old new drivers xs xs' going going' d some moves in
    let same : effort drivers xs going + (if is_at d going then 0 else 1) ≡ effort drivers xs going + 0 = ap (λ (b : Bool). effort drivers xs going + (if b then 0 else 1)) flies in
    trans_ (effort drivers xs' going' + (if is_at d going' then 0 else 1)) (effort drivers xs going) (effort drivers xs going + (if is_at d going then 0 else 1)) (effort drivers zs start) less same was where
      trans_ : (a b c e : ℕ) → a ≤ b → c ≡ b + 0 → c ≤ e → a ≤ e
      trans_ a b c e less same was = omega (arith, less, same, was)

-- ---- the lowest numbered one

taken_by : (d : ℕ) (cs : List Command) → can_take None cs ≡ false → can_take (Some d) cs ≡ false
taken_by d [] h = refl
taken_by d (c ∷ cs) h = absurd (always (is_atomic c.act) h) where
  always : (b : Bool) → (b || true) ≡ false → ⊥
  always true h = cc
  always false h = cc

waits_at : (d k : ℕ) (drivers : List Script) (xs : List Standing) → nat_eq d k ≡ false → can_move_at None drivers xs k ≡ false → can_move_at (Some d) drivers xs k ≡ false
waits_at d k drivers xs other h = by (slice_get drivers (k - 1)) (slice_get xs (k - 1)) h where
  by : (o : Option Script) (q : Option Standing) → option_map_or (λ s. option_map_or (λ x. is_at k None || can_take None (left_of s.commands x)) q false) o false ≡ false
      → option_map_or (λ s. option_map_or (λ x. is_at k (Some d) || can_take (Some d) (left_of s.commands x)) q false) o false ≡ false
  by None q h = refl
  by (Some s) None h = refl
  by (Some s) (Some x) h = ap (λ (b : Bool). b || can_take (Some d) (left_of s.commands x)) other ∙ taken_by d (left_of s.commands x) h

set_same : {X : Type 0} (xs : List X) (i : ℕ) (x : X) → slice_get xs i ≡ Some x → slice_set xs i x ≡ xs
set_same [] i x is = absurd cc
set_same (y ∷ xs) zero x is = let same : x ≡ y = cc in ap (λ (z : _). z ∷ xs) same
set_same (y ∷ xs) (suc i) x is = ap (λ (zs : List _). y ∷ zs) (set_same xs i x is)

other_at : (d k : ℕ) → k < d → nat_eq d k ≡ false
other_at d k less = grind (arith, nat_tests)

-- while its call goes on it stays the lowest numbered one
pub next_on : (old new : Run) (drivers : List Script) (xs xs' : List Standing) (going going' : Option ℕ) (d : ℕ) → IsNextAt going drivers xs d → MovesAt old drivers xs going d new xs' going'
    → is_at d going' ≡ true → IsNextAt going' drivers xs' d
next_on old new drivers xs xs' going going' d next moves flies =
    let event = moves.event in
    let same : xs' ≡ xs = moves.others ∙ ap (slice_set xs (d - 1)) (event.same flies) ∙ set_same xs (d - 1) moves.before moves.before_is in
    let now = is_at_same d going' flies in
    subst (λ (ys : List Standing). IsNextAt going' drivers ys d) (sym same) (subst (λ (o : Option ℕ). IsNextAt o drivers xs d) (sym now) record {
      some = next.some;
      within = next.within;
      moves =
          ap (λ (o : Option Script). option_map_or (λ s. option_map_or (λ x. nat_eq d d || can_take (Some d) (left_of s.commands x)) (slice_get xs (d - 1)) false) o false) moves.script_is
          ∙ ap (λ (o : Option Standing). option_map_or (λ x. nat_eq d d || can_take (Some d) (left_of moves.script.commands x)) o false) moves.before_is
          ∙ ap (λ (b : Bool). b || can_take (Some d) (left_of moves.script.commands moves.before)) (test_same d);
      lower = λ k some less. by (is_at d going) refl k some less;
    }) where
      by : (b : Bool) → is_at d going ≡ b → (k : ℕ) → 0 < k → k < d → can_move_at (Some d) drivers xs k ≡ false
      by true was k some less = ap (λ (o : Option ℕ). can_move_at o drivers xs k) (sym (is_at_same d going was)) ∙ next.lower k some less
      by false was k some less =
          waits_at d k drivers xs (other_at d k less)
          (ap (λ (o : Option ℕ). can_move_at o drivers xs k) (sym (moves.event.waits flies was)) ∙ next.lower k some less)

-- ---- what an event needs

at_place : {X : Type 0} (P : X → Type 0) (xs : List X) (i : ℕ) (x : X) → AllByRecursion P xs → slice_get xs i ≡ Some x → P x
at_place P [] i x all is = absurd cc
at_place P (y ∷ xs) zero x all is = let same : y ≡ x = cc in subst P same all.0
at_place P (y ∷ xs) (suc i) x all is = at_place P xs i x all.1 is

some_there : {X : Type 0} (xs : List X) (i : ℕ) → i < length xs → (x : X) × (slice_get xs i ≡ Some x)
some_there [] i less = absurd (omega arith)
some_there (x ∷ xs) zero less = (x, refl)
some_there (x ∷ xs) (suc i) less = some_there xs i (omega (arith, less))

pub may_move : (first run : Run) (drivers : List Script) (order left : List ℕ) (xs : List Standing) (going : Option ℕ) (d : ℕ) → ArePlaced run.start.defs drivers
    → Course first drivers order xs going left run → 0 < d → can_move_at going drivers xs d ≡ true → MayMoveAt run drivers xs going d
may_move first run drivers order left xs going d placed course some can s x is_s is_x =
    let place : d ≡ 1 + (d - 1) = omega (arith, some) in
    let there = stands_there going d 1 (d - 1) drivers xs course.progress course.entries s x place is_s is_x course.stand in
    let may : (is_at d going || can_take going (left_of s.commands x)) ≡ true =
    sym (ap (λ (o : Option Script). option_map_or (λ t. option_map_or (λ y. is_at d going || can_take going (left_of t.commands y)) (slice_get xs (d - 1)) false) o false) is_s
    ∙ ap (λ (o : Option Standing). option_map_or (λ y. is_at d going || can_take going (left_of s.commands y)) o false) is_x) ∙ can in
    let owes = owed_there going d 1 (d - 1) drivers xs s x place is_s is_x in
    record {
      flies = course.flies;
      next = some_left (is_at d going) (left_of s.commands x) refl refl may there.stands;
      passed = passed (is_at d going) there.stands;
      credit = λ away.
          let one = one_left (left_of s.commands x) (some_left (is_at d going) (left_of s.commands x) refl refl may there.stands) in
          let own_ : owed s.commands x (is_at d going) ≡ length (left_of s.commands x) - 0 = ap (λ (b : Bool). owed s.commands x b) away in
          let paid = course.credits in
          omega (arith, one, own_, owes, paid);
      places = (at_place (IsScript (length run.start.defs)) drivers (d - 1) s placed is_s).placed;
      can = may;
    } where
      passed : (b : Bool) → Stands d s.commands x b (own course.entries d) → unskipped x.held.items (left_of s.commands x) ≡ left_of s.commands x
      passed true stands = stands.come.passed
      passed false stands = stands.passed

      some_left : (b : Bool) (cs : List Command) → is_at d going ≡ b → left_of s.commands x ≡ cs → (b || can_take going cs) ≡ true → Stands d s.commands x b (own course.entries d)
          → left_of s.commands x ≢ []
      some_left true cs is these can stands none = let no = sym stands.next ∙ none in cc
      some_left false [] is these can stands none = cc
      some_left false (c ∷ cs) is these can stands none = let no = sym these ∙ none in cc

      one_left : (cs : List Command) → cs ≢ [] → 1 ≤ length cs
      one_left [] some = absurd (some refl)
      one_left (c ∷ cs) some = omega arith

-- a driver that can make an event is one of them
pub moves_within : (going : Option ℕ) (drivers : List Script) (xs : List Standing) (d : ℕ) → 0 < d → can_move_at going drivers xs d ≡ true → d ≤ length drivers
moves_within going drivers xs d some can = pick (nat_le d (length drivers)) refl where
  pick : (b : Bool) → nat_le d (length drivers) ≡ b → d ≤ length drivers
  pick true h = grind (arith, nat_tests)
  pick false h =
      let past : length drivers ≤ d - 1 = grind (arith, nat_tests) in
      let none = ap (λ (o : Option Script). option_map_or (λ s. option_map_or (λ x. is_at d going || can_take going (left_of s.commands x)) (slice_get xs (d - 1)) false) o false)
      (slice_get_past drivers (d - 1) past) in
      absurd cc

pub course_many : (first run : Run) (drivers : List Script) (order left : List ℕ) (xs : List Standing) (going : Option ℕ) → Course first drivers order xs going left run
    → length xs ≡ length drivers
course_many first run drivers order left xs going course = (stand_many going 1 drivers xs course.progress course.entries course.stand).0

-- ---- the end

-- where no driver can make an event, no call is in flight
pub none_flies : (first run : Run) (drivers : List Script) (order left : List ℕ) (xs : List Standing) (going : Option ℕ) → Course first drivers order xs going left run
    → ((k : ℕ) → 0 < k → k ≤ length drivers → can_move_at going drivers xs k ≡ false) → going ≡ None
none_flies first run drivers order left xs None course none = refl
none_flies first run drivers order left xs (Some k) course none =
    let within = course.whose k (test_same k) in
    let low = within.0 in
    let high = within.1 in
    let many = (stand_many (Some k) 1 drivers xs course.progress course.entries course.stand).0 in
    let s = some_there drivers (k - 1) (omega (arith, low, high)) in
    let x = some_there xs (k - 1) (omega (arith, low, high, many)) in
    let can : can_move_at (Some k) drivers xs k ≡ true =
    ap (λ (o : Option Script). option_map_or (λ t. option_map_or (λ y. nat_eq k k || can_take (Some k) (left_of t.commands y)) (slice_get xs (k - 1)) false) o false) s.1
    ∙ ap (λ (o : Option Standing). option_map_or (λ y. nat_eq k k || can_take (Some k) (left_of s.0.commands y)) o false) x.1
    ∙ ap (λ (b : Bool). b || can_take (Some k) (left_of s.0.commands x.0)) (test_same k) in
    let no = none k low high in
    absurd cc

-- and each has answered all its commands
pub all_done : (first run : Run) (drivers : List Script) (order left : List ℕ) (xs : List Standing) → Course first drivers order xs None left run
    → ((k : ℕ) → 0 < k → k ≤ length drivers → can_move_at None drivers xs k ≡ false) → AreDone drivers xs
all_done first run drivers order left xs course none =
    done_all drivers xs (stand_many None 1 drivers xs course.progress course.entries course.stand).0 (λ i less.
    let back : suc i - 1 ≡ i = omega arith in
    sym (ap (λ (k : ℕ). option_map_or (λ s. option_map_or (λ x. can_take None (left_of s.commands x)) (slice_get xs k) false) (slice_get drivers k) false) back)
    ∙ none (suc i) (omega arith) (omega (arith, less)))

-- a course of events has ended
pub has_ended : (drivers : List Script) (xs xs' : List Standing) (going going' : Option ℕ) (old new : Run) → IsUnderWay drivers xs going old
    → ((first : Run) (order : List ℕ) → Course first drivers order xs going [] old → Course first drivers order xs' going' [] new)
    → ((k : ℕ) → 0 < k → k ≤ length drivers → can_move_at going' drivers xs' k ≡ false) → HasEnded drivers xs going old xs' new
has_ended drivers xs xs' going going' old new way keeps none =
    let course = keeps way.0 way.1 way.2 in
    let still = none_flies way.0 new drivers way.1 [] xs' going' course none in
    record {
      keeps = λ first order before. subst (λ (o : Option ℕ). Course first drivers order xs' o [] new) still (keeps first order before);
      done =
          all_done way.0 new drivers way.1 [] xs' (subst (λ (o : Option ℕ). Course way.0 drivers way.1 xs' o [] new) still course)
          (λ k some less. ap (λ (o : Option ℕ). can_move_at o drivers xs' k) (sym still) ∙ none k some less);
    }
