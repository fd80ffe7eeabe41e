-- Laws on each step of a change in flight: it leaves the change safe, and its end leaves a state at rest.
use Rattle.std.proofs.Common.{◌≡◌, ℕ, ◌⊎◌, Bool, true, false, not, ◌&&◌, ◌||◌, cond, map, List, [], ◌∷◌, ◌++◌, Option, Some, refl, sym, ap, subst, ◌∙◌, inl, inr, length}
use Rattle.std.specs.Prelude.{IfSome, slice_index, if◌then◌else◌, ◌==◌}
use Rattle.std.specs.List.{list_all, list_any}
use Rattle.std.proofs.Math.Path.{fun_ext}
use Rattle.std.proofs.lemmas.Bool.{and_from}
use Rattle.std.proofs.lemmas.List.Folds.{list_any-append}
use Rattle.clk_base.specs.Levels.{depth}
use Rattle.clk_base.specs.Valid.{IsValid}
use Rattle.clk_model.specs.Gates.{settled}
use Rattle.clk_model.specs.Kinds.{is_pll}
use Rattle.clk_model.specs.Script.{unprepared_plls}
use Rattle.clk_model.specs.Tree.{path_within}
use Rattle.clk_model.proofs.OnceLaws.{is_in-filter, filter_passes, filter_keeps}
use Rattle.clk_model.proofs.WalkLaws.{turned_off}
use Rattle.clk_model.proofs.SupplyLaws.{if_one}
use Rattle.clk_model.proofs.PowerLaws.{settled_power}
use Rattle.std.specs.Option.{option_map_or}
use Rattle.clk_base.specs.declared.call.Micro.{Micro}
use Rattle.clk_base.specs.declared.call.Micro.TheVariants as micro
use Rattle.clk_base.specs.declared.call.Notice.TheVariants as notice
use Rattle.clk_base.specs.declared.call.Sleeping.{Sleeping}
use Rattle.clk_base.specs.declared.clock.ClockId.{ClockId}
use Rattle.clk_base.specs.declared.event.Turn.TheVariants as turn
use Rattle.clk_base.specs.Description.{Description, kind_of}
use Rattle.clk_base.specs.Fields.{power_of}
use Rattle.reg_bank.specs.Registers.{Registers}
use Rattle.clk_model.specs.Lists.{is_in, without}
use Rattle.clk_model.specs.Kinds.{is_powered}
use Rattle.clk_model.specs.State.{State, Change}
use Rattle.clk_model.specs.Tree.{path, path_to_be, link_given}
use Rattle.clk_model.specs.Holders.{prepared}
use Rattle.clk_model.specs.Rate.{rate}
use Rattle.clk_model.specs.Round.{wiring}
use Rattle.clk_model.specs.Chain.{clock_id}
use Rattle.clk_model.specs.Notices.{notifiers_of, post_list}
use Rattle.clk_model.specs.Begin.{register}
use Rattle.clk_model.specs.Step.{todo, rest_of, left_behind, taken, cut_short, to_raise, raise, poll, is_yes, fall, set_in_chain, stepped}
use Rattle.clk_model.specs.Machine.{comes_next}
use Rattle.clk_model.specs.Wired.{IsWired}
use Rattle.clk_model.proofs.Members.{is_in_head, is_in_tail}
use Rattle.clk_model.proofs.MicroLaws.{comes_first}
use Rattle.clk_model.proofs.FlightLaws.{IsStep}
use Rattle.clk_model.proofs.Members.{both_left, both_right, not_either}
use Rattle.clk_model.proofs.Scenes.{Scene, scene, IsSound, IsFree, EndsPrepare, after, is_plain, Serves, Grows, Stays, EndsRaise, uncovers, IsCovered, keepers, prepared_in, to_be, GoesWell, raises, makes, ends, IsSafe, is_over, RaisedWell, AllRaised, RaisingFront, asks, asks_first, comes_again, is_calm, Stands, calm, covered, raising, InCall}
use Rattle.clk_model.proofs.SceneStepLaws.{step_lands}
use Rattle.clk_model.proofs.ArriveLaws.{Powers, Arrives, prepared_told, to_be_told, some_one, covered_powered}
use Rattle.clk_model.proofs.StandLaws.{Goes, IsEvent, stands_calm, arrive_at, change_after, fall_goes, told_goes, lower_goes, lowered_change}
use Rattle.clk_model.proofs.RaiseLaws.{calm_map, calm_append, raise_goes, stands_covered, all_raised, to_go_on, poll_goes}

-- ---- scripts that go well, from their first step

-- what it means of a script's first step that it goes well
pub data FirstGoes (defs : Description) (what : Sleeping) (timed : Bool) (cover : List ℕ) (a : Scene) (m : Micro) (ms : List Micro) : Type 0 where
  first_raises : (x : ClockId) → m ≡ micro.Raise x → GoesWell defs what timed (cover ++ x.0 ∷ []) a ms → GoesWell defs what true [] a (cut_short what ms)
      → FirstGoes defs what timed cover a m ms
  first_makes : is_plain m ≡ true → Serves defs cover a m → Grows defs cover a (after defs a m) → Stays defs cover a m ms → GoesWell defs what timed (uncovers m cover) (after defs a m) ms
      → FirstGoes defs what timed cover a m ms
  first_ends : m ≡ micro.End → IsFree a → EndsRaise what timed cover → EndsPrepare what timed cover a → FirstGoes defs what timed cover a m ms

head_same : (m n : Micro) (ms ns : List Micro) → m ∷ ms ≡ n ∷ ns → m ≡ n
head_same m n ms ns e = cc

tail_same : (m n : Micro) (ms ns : List Micro) → m ∷ ms ≡ n ∷ ns → ms ≡ ns
tail_same m n ms ns e = cc

pub first_goes : (defs : Description) (what : Sleeping) (m : Micro) (ms : List Micro) {timed : Bool} {cover : List ℕ} {a : Scene} {ns : List Micro} → GoesWell defs what timed cover a ns → ns ≡ m ∷ ms
    → FirstGoes defs what timed cover a m ms
first_goes defs what m ms {timed = timed} {cover = cover} {a = a} (raises {ms = ns} x sound goes cut) e =
    let tail : ns ≡ ms = tail_same (micro.Raise x) m ns ms e in
    first_raises x (sym (head_same (micro.Raise x) m ns ms e))
    (subst (λ (us : List Micro). GoesWell defs what timed (cover ++ x.0 ∷ []) a us) tail goes) (subst (λ (us : List Micro). GoesWell defs what true [] a (cut_short what us)) tail cut)
first_goes defs what m ms {timed = timed} {cover = cover} {a = a} (makes {ms = ns} n plain sound serves grows stays goes) e =
    let tail : ns ≡ ms = tail_same n m ns ms e in
    let head : n ≡ m = head_same n m ns ms e in
    subst (λ (x : Micro). FirstGoes defs what timed cover a x ms) head
    (first_makes plain serves grows (subst (λ (us : List Micro). Stays defs cover a n us) tail stays) (subst (λ (us : List Micro). GoesWell defs what timed (uncovers n cover) (after defs a n) us) tail goes))
first_goes defs what m ms (ends sound free alone prep) e = first_ends (sym (head_same micro.End m [] ms e)) free alone prep

-- the scene of a script that goes well is sound
pub goes_sound : (defs : Description) (what : Sleeping) {timed : Bool} {cover : List ℕ} {a : Scene} {ms : List Micro} → GoesWell defs what timed cover a ms → IsSound defs a
goes_sound defs what (raises x sound goes cut) = sound
goes_sound defs what (makes m plain sound serves grows stays goes) = sound
goes_sound defs what (ends sound free alone prep) = sound

-- ---- the change behind a plain step

-- the change behind a plain step: nothing is raised, and calm steps stand in front
record CalmBehind (k : Change) (o : Option Change) : Type 0 where
  change : Change
  at : o ≡ Some change
  call : change.call ≡ k.call
  timed : change.timed_out ≡ k.timed_out
  left : change.left ≡ k.left
  none : change.raised ≡ []
  still : list_all is_calm change.front ≡ true

stays_calm : (k j : Change) → j.call ≡ k.call → j.timed_out ≡ k.timed_out → j.left ≡ k.left → j.raised ≡ [] → list_all is_calm j.front ≡ true → CalmBehind k (Some j)
stays_calm k j call timed left none still = record { change = j; at = refl; call = call; timed = timed; left = left; none = none; still = still }

without_all : (xs ys : List ℕ) → ((y : ℕ) → is_in y ys ≡ true → is_in y xs ≡ true) → without xs ys ≡ []
without_all xs [] each = refl
without_all xs (y ∷ ys) each =
    ap (λ (t : Bool). cond {A = List ℕ} (not t) (y ∷ without xs ys) (without xs ys)) (each y (is_in_head y ys)) ∙ without_all xs ys (λ z m. each z (is_in_tail z y ys m))

posts_calm : (s : State) (k : Change) (c : ℕ) (b : Bool) → list_all is_calm (if b then [] else post_list (record { before = k.before; outcome = k.outcome }) s.notifiers c) ≡ true
posts_calm s k c true = refl
posts_calm s k c false =
    calm_map (λ n. micro.Notify notice.Post (clock_id c) n.id (slice_index k.before c) (slice_index k.outcome c)) (notifiers_of s.notifiers c) (λ n. refl)

calm_here : (k : Change) → k.front ≡ [] → list_all is_calm k.front ≡ true
calm_here k empty = ap (list_all is_calm) empty

-- with nothing raised before
calm_behind : (s : State) (k : Change) (answer : Option Bool) (m : Micro) → is_plain m ≡ true → k.front ≡ [] → k.raised ≡ [] → CalmBehind k (stepped s k answer m).0.change
unfolding stepped register
calm_behind s k answer (micro.Raise x) plain empty none = absurd cc
calm_behind s k answer (micro.Poll y) plain empty none = absurd cc
calm_behind s k answer (micro.Fall y) plain empty none = absurd cc
calm_behind s k answer micro.End plain empty none = absurd cc
calm_behind s k answer (micro.HoldPrepare x) plain empty none =
    stays_calm k (record k { raised = without (path s.clocks x.0) k.raised }) refl refl refl (ap (without (path s.clocks x.0)) none) (calm_here k empty)
calm_behind s k answer (micro.Register c) plain empty none =
    stays_calm k (record k { raised = without (path_to_be s.defs s.regs s.clocks c.0) k.raised }) refl refl refl (ap (without (path_to_be s.defs s.regs s.clocks c.0)) none) (calm_here k empty)
calm_behind s k answer (micro.Lower x) plain empty none =
    let j = lowered_change s k x.0 (calm_here k empty) in
    record { change = j.0; at = j.1; call = j.2; timed = j.3; left = j.4; none = j.5 ∙ none; still = j.6 }
calm_behind s k answer (micro.Visit c) plain empty none =
    let same : Bool = rate s.defs (set_in_chain s k c.0) s.clocks c.0 == slice_index k.before c.0 in
    stays_calm k (record k { front = (if same then [] else post_list (record { before = k.before; outcome = k.outcome }) s.notifiers c.0) ++ k.front }) refl refl refl none
    (calm_append (if same then [] else post_list (record { before = k.before; outcome = k.outcome }) s.notifiers c.0) k.front (posts_calm s k c.0 same) (calm_here k empty))
calm_behind s k answer m plain empty none = stays_calm k k refl refl refl none (calm_here k empty)

-- what is covered if nothing is
pub uncovers_none : (m : Micro) → uncovers m [] ≡ []
uncovers_none (micro.HoldPrepare y) = refl
uncovers_none (micro.HoldEnable y) = refl
uncovers_none m = refl

-- a plain step of the script leaves its change standing between its raises
plain_goes : (s t : State) (k : Change) (answer : Option Bool) (m : Micro) (cover : List ℕ) (late : Option ℕ) → IsSafe late s → is_plain m ≡ true → Serves s.defs cover (scene late s) m
    → GoesWell s.defs k.call k.timed_out [] (after s.defs (scene late s) m) k.left → Powers s (after s.defs (scene late s) m) (stepped s k answer m).0.regs
    → CalmBehind k (stepped s k answer m).0.change → IsEvent s (stepped s k answer m).0 t → Goes t
plain_goes s t k answer m cover late safe plain serves goes powers behind event =
    let b : Scene = after s.defs (scene late s) m in
    let j : Change = behind.change in
    let arrives = arrive_at late b.late s (stepped s k answer m).0 t b safe (step_lands s k answer m cover late safe.wired plain serves) (goes_sound s.defs k.call goes) powers event in
    stands_calm s t j b.late b j.front arrives (change_after s (stepped s k answer m).0 t j event behind.at)
    (ap (λ (zs : List ℕ). map (λ z. micro.Fall (clock_id z)) zs ++ j.front) (sym behind.none)) behind.still
    (λ y n. let no : false ≡ true = sym (ap (is_in y) behind.none) ∙ n in absurd cc)
    (subst (λ (ms : List Micro). GoesWell s.defs j.call j.timed_out [] b ms) (sym behind.left)
    (subst (λ (t' : Bool). GoesWell s.defs j.call t' [] b k.left) (sym behind.timed)
    (subst (λ (w : Sleeping). GoesWell s.defs w k.timed_out [] b k.left) (sym behind.call) goes)))

-- ---- which step comes next

-- with something in front, its first step comes next, and the script stays
pub front_step : (k : Change) (m n : Micro) (ns : List Micro) → k.front ≡ n ∷ ns → comes_next m (todo k) ≡ true → (m ≡ n) × ((taken k).front ≡ ns) × ((taken k).left ≡ k.left)
front_step k m n ns front first =
    let at = comes_first m (todo k) first in
    let both : m ∷ at.0 ≡ n ∷ (ns ++ k.left) = sym at.1 ∙ ap (λ (ms : List Micro). ms ++ k.left) front in
    (head_same m n at.0 (ns ++ k.left) both, ap rest_of front, ap (λ (ms : List Micro). left_behind ms k.left) front)

-- with nothing in front, that of the script does
pub script_step : (k : Change) (m : Micro) → k.front ≡ [] → comes_next m (todo k) ≡ true → (k.left ≡ m ∷ (taken k).left) × ((taken k).front ≡ [])
script_step k m empty first =
    let at = comes_first m (todo k) first in
    let left : k.left ≡ m ∷ at.0 = sym (ap (λ (ms : List Micro). ms ++ k.left) empty) ∙ at.1 in
    let rest : (taken k).left ≡ at.0 = ap (λ (ms : List Micro). left_behind ms k.left) empty ∙ ap rest_of left in
    (left ∙ ap (λ (ms : List Micro). m ∷ ms) (sym rest), ap rest_of empty)

-- ---- each step

abbrev GoesOn : State → Change → Option Bool → State → Micro → Type 0
GoesOn s k answer t m = IsEvent s (stepped s k answer m).0 t

calm_first : (s t : State) (k : Change) (answer : Option Bool) (m : Micro) (late : Option ℕ) → IsSafe late s → is_calm m ≡ true → k.raised ≡ [] → list_all is_calm k.front ≡ true
    → GoesWell s.defs k.call k.timed_out [] (scene late s) k.left → GoesOn s k answer t m → Goes t
unfolding stepped
calm_first s t k answer (micro.Notify kind c id old new) late safe own none still goes event = told_goes s t k late safe none still goes event
calm_first s t k answer (micro.Lower x) late safe own none still goes event = lower_goes s t k late x.0 safe none still goes event
calm_first s t k answer (micro.Raise x) late safe own none still goes event = absurd cc
calm_first s t k answer (micro.Poll x) late safe own none still goes event = absurd cc
calm_first s t k answer (micro.Fall x) late safe own none still goes event = absurd cc
calm_first s t k answer (micro.HoldPrepare x) late safe own none still goes event = absurd cc
calm_first s t k answer (micro.HoldEnable x) late safe own none still goes event = absurd cc
calm_first s t k answer (micro.Relink c p) late safe own none still goes event = absurd cc
calm_first s t k answer (micro.WriteMux c place) late safe own none still goes event = absurd cc
calm_first s t k answer (micro.DropEnable x) late safe own none still goes event = absurd cc
calm_first s t k answer (micro.DropPrepare x) late safe own none still goes event = absurd cc
calm_first s t k answer (micro.Visit x) late safe own none still goes event = absurd cc
calm_first s t k answer (micro.Register x) late safe own none still goes event = absurd cc
calm_first s t k answer (micro.Settle x) late safe own none still goes event = absurd cc
calm_first s t k answer (micro.Close x) late safe own none still goes event = absurd cc
calm_first s t k answer (micro.Unpower x) late safe own none still goes event = absurd cc
calm_first s t k answer micro.End late safe own none still goes event = absurd cc

fall_first : (s t : State) (k : Change) (answer : Option Bool) (y : ℕ) → GoesOn s k answer t (micro.Fall (clock_id y)) → IsEvent s (fall s k y) t
unfolding stepped
fall_first s t k answer y event = event

raise_first : (s t : State) (k : Change) (answer : Option Bool) (x : ClockId) → GoesOn s k answer t (micro.Raise x) → IsEvent s (raise s k x.0) t
unfolding stepped
raise_first s t k answer x event = event

poll_first : (s t : State) (k : Change) (answer : Option Bool) (y : ClockId) → GoesOn s k answer t (micro.Poll y) → IsEvent s (poll s k y.0 (is_yes answer)) t
unfolding stepped
poll_first s t k answer y event = event

end_stops : (s : State) (k : Change) (answer : Option Bool) → (stepped s k answer micro.End).1 ≡ turn.Going → ⊥
unfolding stepped
end_stops s k answer going = cc

-- with nothing raised, paths are raised well
none_raised : (s : State) (k : Change) (xs : List ℕ) → k.raised ≡ [] → RaisedWell s k xs
none_raised s k xs none = record { within = λ y m. absurd (out y m); powered = λ y m. absurd (out y m); unprepared = λ y m. absurd (out y m) } where
  out : (y : ℕ) → is_in y k.raised ≡ true → ⊥
  out y m = let no : false ≡ true = sym (ap (is_in y) none) ∙ m in cc

-- a step of the script of a change between its raises
calm_script : (s t : State) (k : Change) (answer : Option Bool) (m : Micro) (late : Option ℕ) → IsSafe late s → k.raised ≡ [] → k.front ≡ [] → (stepped s k answer m).1 ≡ turn.Going
    → FirstGoes s.defs k.call k.timed_out [] (scene late s) m k.left → GoesOn s k answer t m → Goes t
calm_script s t k answer m late safe none empty going (first_raises x is goes cut) event =
    raise_goes s t k late [] x.0 safe (none_raised s k (x.0 ∷ []) none) (λ z m. absurd cc) empty goes cut (raise_first s t k answer x (subst (λ (n : Micro). GoesOn s k answer t n) is event))
calm_script s t k answer m late safe none empty going (first_makes plain serves grows stays goes) event =
    plain_goes s t k answer m [] late safe plain serves (subst (λ (cover : List ℕ). GoesWell s.defs k.call k.timed_out cover (after s.defs (scene late s) m) k.left) (uncovers_none m) goes) (λ c prep. elim (grows c prep) [ inl was ↦ inl was | inr never ↦ absurd never ]) (calm_behind s k answer m plain empty none) event
calm_script s t k answer m late safe none empty going (first_ends is free alone prep) event = absurd (end_stops s k answer (subst (λ (n : Micro). (stepped s k answer n).1 ≡ turn.Going) is going))

-- ---- steps after raises

-- a hold prepares its path
hold_more : (defs : Description) (a : Scene) (y : ClockId) (w : ℕ) → prepared_in defs (after defs a (micro.HoldPrepare y)) w ≡ (is_in w (path_within a.up depth y.0) || prepared_in defs a w)
hold_more defs a y w =
    list_any-append test (keepers defs a) (y.0 ∷ a.prepare_holds)
    ∙ swapped (list_any test (keepers defs a)) (test y.0) (list_any test a.prepare_holds)
    ∙ ap (λ (t : Bool). test y.0 || t) (sym (list_any-append test (keepers defs a) a.prepare_holds)) where
      test : ℕ → Bool
      test h = is_in w (path_within a.up depth h)

      swapped : (p q r : Bool) → (p || (q || r)) ≡ (q || (p || r))
      swapped true true r = refl
      swapped true false r = refl
      swapped false q r = refl

-- a covered clock is on one of the paths
covered_at : (cover : List ℕ) (a : Scene) (c : ℕ) → IsCovered cover a c → (z : ℕ) × (is_in z cover ≡ true) × (is_in c (to_be a z) ≡ true)
covered_at [] a c never = absurd never
covered_at (x ∷ []) a c m = (x, is_in_head x [], m)
covered_at (x ∷ y ∷ ys) a c (inl m) = (x, is_in_head x (y ∷ ys), m)
covered_at (x ∷ y ∷ ys) a c (inr later) = let at = covered_at (y ∷ ys) a c later in (at.0, is_in_tail at.0 x (y ∷ ys) at.1, at.2)

pub empty_by : (xs : List ℕ) → ((w : ℕ) → is_in w xs ≡ true → ⊥) → xs ≡ []
empty_by [] out = refl
empty_by (x ∷ xs) out = absurd (out x (is_in_head x xs))

-- what a step after raises leaves: what it prepares, and which of the raised PLLs are raised still
pub record HoldsOn (s : State) (k j : Change) (late : Option ℕ) (b : Scene) (xs ys : List ℕ) : Type 0 where
  pub paths : (z : ℕ) → to_be b z ≡ to_be (scene late s) z
  pub grows : (w : ℕ) → prepared_in s.defs b w ≡ false → prepared s w ≡ false
  pub raised_less : (w : ℕ) → is_in w j.raised ≡ true → (is_in w k.raised ≡ true) × (is_over s ys w ≡ true) × (prepared_in s.defs b w ≡ false)
  pub raised_still : (w : ℕ) → prepared_in s.defs b w ≡ false → is_in w k.raised ≡ true → is_in w j.raised ≡ true
  pub fewer : (z : ℕ) → is_in z ys ≡ true → is_in z xs ≡ true

pll_there : (s : State) (k : Change) (z w : ℕ) → is_in w (to_raise s k z) ≡ true
    → (is_in w (path_to_be s.defs s.regs s.clocks z) ≡ true) × (is_pll (kind_of s.defs w) ≡ true) × (prepared s w ≡ false) × (is_in w k.raised ≡ false)
pll_there s k z w m =
    let us : List ℕ = unprepared_plls s (path_to_be s.defs s.regs s.clocks z) in
    let inner : is_in w us ≡ true = is_in-filter (λ y. not (is_in y k.raised)) w us m in
    let test = filter_passes (λ c. is_pll (kind_of s.defs c) && not (prepared s c)) w (path_to_be s.defs s.regs s.clocks z) inner in (
      is_in-filter (λ c. is_pll (kind_of s.defs c) && not (prepared s c)) w (path_to_be s.defs s.regs s.clocks z) inner,
      both_left (is_pll (kind_of s.defs w)) (not (prepared s w)) test,
      turned_off (prepared s w) (both_right (is_pll (kind_of s.defs w)) (not (prepared s w)) test),
      turned_off (is_in w k.raised) (filter_passes (λ y. not (is_in y k.raised)) w us m),
    )

there_pll : (s : State) (k : Change) (z w : ℕ) → is_in w (path_to_be s.defs s.regs s.clocks z) ≡ true → is_pll (kind_of s.defs w) ≡ true → prepared s w ≡ false → is_in w k.raised ≡ false
    → is_in w (to_raise s k z) ≡ true
there_pll s k z w m pll idle out =
    filter_keeps (λ y. not (is_in y k.raised)) w (unprepared_plls s (path_to_be s.defs s.regs s.clocks z)) (ap not out)
    (filter_keeps (λ c. is_pll (kind_of s.defs c) && not (prepared s c)) w (path_to_be s.defs s.regs s.clocks z) (and_from (is_pll (kind_of s.defs w)) (not (prepared s w)) pll (ap not idle)) m)

all_still : (s t : State) (k j : Change) (late late' : Option ℕ) (b : Scene) (xs ys : List ℕ) → HoldsOn s k j late b xs ys → t.defs ≡ s.defs → scene late' t ≡ b → AllRaised s k xs → AllRaised t j ys
all_still s t k j late late' b xs ys on_ defs is all z m = empty_by (to_raise t j z) (λ w n. out w (pll_there t j z w n)) where
  path_same : path_to_be t.defs t.regs t.clocks z ≡ path_to_be s.defs s.regs s.clocks z
  path_same = to_be_told late' t b z is ∙ on_.paths z ∙ sym (to_be_told late s (scene late s) z refl)

  out : (w : ℕ) → (is_in w (path_to_be t.defs t.regs t.clocks z) ≡ true) × (is_pll (kind_of t.defs w) ≡ true) × (prepared t w ≡ false) × (is_in w j.raised ≡ false) → ⊥
  out w at =
      let idle : prepared_in s.defs b w ≡ false = sym (prepared_told late' late' s t b w defs is) ∙ at.2 in
      let not_raised : is_in w k.raised ≡ false = by_raised (is_in w k.raised) refl idle in
      let there = there_pll s k z w (sym (ap (is_in w) path_same) ∙ at.0) (sym (ap (λ (d : Description). is_pll (kind_of d w)) defs) ∙ at.1) (on_.grows w idle) not_raised in
      let no : false ≡ true = sym (ap (is_in w) (all z (on_.fewer z m))) ∙ there in cc where
        by_raised : (u : Bool) → is_in w k.raised ≡ u → prepared_in s.defs b w ≡ false → u ≡ false
        by_raised false e f = refl
        by_raised true e f = let no : false ≡ true = sym at.3 ∙ on_.raised_still w f e in absurd cc

well_still : (s u t : State) (k j : Change) (late late' : Option ℕ) (b : Scene) (xs ys : List ℕ) → HoldsOn s k j late b xs ys → RaisedWell s k xs → Arrives s late' t b → IsEvent s u t → u.defs ≡ s.defs → u.regs ≡ s.regs → IsValid (length s.regs) s.defs
    → RaisedWell t j ys
unfolding settled
well_still s u t k j late late' b xs ys on_ well arrives event defs regs valid = record {
  within = λ y m.
      ap (λ (on_path : ℕ → List ℕ). list_any (λ x. is_in y (on_path x)) ys) (fun_ext (λ z. to_be_told late' t b z arrives.scene_is ∙ on_.paths z ∙ sym (to_be_told late s (scene late s) z refl)))
      ∙ (on_.raised_less y m).1;
  powered = λ y m.
      subst (λ (d : Description). IfSome (power_of (kind_of d y)) (λ power. is_powered t.regs power ≡ true)) (sym arrives.defs)
      (if_one (λ power. is_powered t.regs power ≡ true) (power_of (kind_of s.defs y))
      (λ power at.
      ap (λ (rs : Registers). is_powered rs power) (sym (ap (λ (v : State). v.regs) event.state))
      ∙ settled_power s u (length s.regs) y power (subst (λ (d : Description). IsValid (length s.regs) d) (sym defs) valid) (ap (λ (d : Description). power_of (kind_of d y)) defs ∙ at)
      ∙ ap (λ (rs : Registers). is_powered rs power) regs
      ∙ some_one (λ p. is_powered s.regs p ≡ true) (power_of (kind_of s.defs y)) power (well.powered y (on_.raised_less y m).0) at));
  unprepared = λ y m. prepared_told late' late' s t b y arrives.defs arrives.scene_is ∙ (on_.raised_less y m).2;
}

-- what each of these steps leaves
pub record CoveredBehind (s : State) (k : Change) (answer : Option Bool) (m : Micro) (late : Option ℕ) (xs : List ℕ) : Type 0 where
  pub change : Change
  pub at : (stepped s k answer m).0.change ≡ Some change
  pub call : change.call ≡ k.call
  pub timed : change.timed_out ≡ k.timed_out
  pub left : change.left ≡ k.left
  pub empty : change.front ≡ []
  pub holds : ((change.raised ≡ []) × (uncovers m xs ≡ [])) ⊎ HoldsOn s k change late (after s.defs (scene late s) m) xs (uncovers m xs)
  pub defs : (stepped s k answer m).0.defs ≡ s.defs
  pub regs : (stepped s k answer m).0.regs ≡ s.regs

without_in : (w : ℕ) (xs ys : List ℕ) → is_in w (without xs ys) ≡ true → (is_in w ys ≡ true) × (is_in w xs ≡ false)
without_in w xs ys m = (is_in-filter (λ x. not (is_in x xs)) w ys m, turned_off (is_in w xs) (filter_passes (λ x. not (is_in x xs)) w ys m))

in_without : (w : ℕ) (xs ys : List ℕ) → is_in w ys ≡ true → is_in w xs ≡ false → is_in w (without xs ys) ≡ true
in_without w xs ys m out = filter_keeps (λ x. not (is_in x xs)) w ys (ap not out) m

pub covered_behind : (s : State) (k : Change) (answer : Option Bool) (m : Micro) (late : Option ℕ) (x : ℕ) (xs : List ℕ) → Serves s.defs (x ∷ xs) (scene late s) m → k.front ≡ [] → RaisedWell s k (x ∷ xs) → is_plain m ≡ true
    → CoveredBehind s k answer m late (x ∷ xs)
unfolding stepped register
covered_behind s k answer (micro.HoldPrepare y) late x xs serves empty well plain = record {
  change = record k { raised = without (path s.clocks y.0) k.raised };
  at = refl;
  call = refl;
  timed = refl;
  left = refl;
  empty = empty;
  defs = refl;
  regs = refl;
  holds = inr (record {
    paths = λ z. refl;
    grows = λ w idle. (not_either (is_in w (path s.clocks y.0)) (prepared s w) (sym (hold_more s.defs (scene late s) y w) ∙ idle)).1;
    raised_less = λ w m.
        let both = without_in w (path s.clocks y.0) k.raised m in
        let off : is_in w (path_to_be s.defs s.regs s.clocks x) ≡ false = path_of w ∙ both.1 in (
          both.0,
          second (is_in w (path_to_be s.defs s.regs s.clocks x)) (is_over s xs w) off (well.within w both.0),
          hold_more s.defs (scene late s) y w ∙ neither_ (is_in w (path s.clocks y.0)) (prepared s w) both.1 (well.unprepared w both.0),
        );
    raised_still = λ w idle m. in_without w (path s.clocks y.0) k.raised m (not_either (is_in w (path s.clocks y.0)) (prepared s w) (sym (hold_more s.defs (scene late s) y w) ∙ idle)).0;
    fewer = λ z m. is_in_tail z x xs m;
  });
} where
  path_of : (w : ℕ) → is_in w (path_to_be s.defs s.regs s.clocks x) ≡ is_in w (path s.clocks y.0)
  path_of w =
      ap (λ (t : Bool). is_in w (if t then path s.clocks x else x ∷ option_map_or (path s.clocks) (link_given s.defs s.regs s.clocks x) [])) serves.1
      ∙ ap (λ (v : ℕ). is_in w (path s.clocks v)) (sym serves.0)

  second : (p q : Bool) → p ≡ false → (p || q) ≡ true → q ≡ true
  second true q e f = absurd cc
  second false q e f = f

  neither_ : (p q : Bool) → p ≡ false → q ≡ false → (p || q) ≡ false
  neither_ true q e f = absurd cc
  neither_ false q e f = f
covered_behind s k answer (micro.HoldEnable y) late x xs serves empty well plain = record {
  change = k;
  at = refl;
  call = refl;
  timed = refl;
  left = refl;
  empty = empty;
  defs = refl;
  regs = refl;
  holds = inr (record {
    paths = λ z. refl;
    grows = λ w idle. idle;
    raised_less = λ w m. (m, well.within w m, well.unprepared w m);
    raised_still = λ w idle m. m;
    fewer = λ z m. m;
  });
}
covered_behind s k answer (micro.Register y) late x xs serves empty well plain = record {
  change = record k { raised = without (path_to_be s.defs s.regs s.clocks y.0) k.raised };
  at = refl;
  call = refl;
  timed = refl;
  left = refl;
  empty = empty;
  defs = refl;
  regs = refl;
  holds = inl (empty_by (without (path_to_be s.defs s.regs s.clocks y.0) k.raised) none, refl);
} where
  first_only : (w : ℕ) → is_over s (x ∷ xs) w ≡ true → is_in w (path_to_be s.defs s.regs s.clocks y.0) ≡ true
  first_only w m =
      alone_ (is_in w (path_to_be s.defs s.regs s.clocks y.0))
      (ap (λ (v : ℕ). is_over s (v ∷ []) w) serves.0 ∙ ap (λ (zs : List ℕ). is_over s (x ∷ zs) w) (sym serves.1) ∙ m) where
        alone_ : (p : Bool) → (p || false) ≡ true → p ≡ true
        alone_ true e = refl
        alone_ false e = e

  none : (w : ℕ) → is_in w (without (path_to_be s.defs s.regs s.clocks y.0) k.raised) ≡ true → ⊥
  none w m =
      let both = without_in w (path_to_be s.defs s.regs s.clocks y.0) k.raised m in
      let no : false ≡ true = sym both.1 ∙ first_only w (well.within w both.0) in cc
covered_behind s k answer (micro.Notify kind c id old new) late x xs serves empty well plain = absurd serves
covered_behind s k answer (micro.Raise c) late x xs serves empty well plain = absurd serves
covered_behind s k answer (micro.Poll c) late x xs serves empty well plain = absurd serves
covered_behind s k answer (micro.Fall c) late x xs serves empty well plain = absurd serves
covered_behind s k answer (micro.Relink c p) late x xs serves empty well plain = absurd serves
covered_behind s k answer (micro.WriteMux c place) late x xs serves empty well plain = absurd serves
covered_behind s k answer (micro.DropEnable c) late x xs serves empty well plain = absurd serves
covered_behind s k answer (micro.DropPrepare c) late x xs serves empty well plain = absurd serves
covered_behind s k answer (micro.Lower c) late x xs serves empty well plain = absurd serves
covered_behind s k answer (micro.Visit c) late x xs serves empty well plain = absurd serves
covered_behind s k answer (micro.Settle c) late x xs serves empty well plain = absurd serves
covered_behind s k answer (micro.Close c) late x xs serves empty well plain = absurd serves
covered_behind s k answer (micro.Unpower c) late x xs serves empty well plain = absurd serves
covered_behind s k answer micro.End late x xs serves empty well plain = absurd serves

over_more : (s : State) (done : List ℕ) (x w : ℕ) → is_over s done w ≡ true → is_over s (done ++ x ∷ []) w ≡ true
over_more s done x w m = list_any-append (λ z. is_in w (path_to_be s.defs s.regs s.clocks z)) done (x ∷ []) ∙ ap (λ (t : Bool). t || list_any (λ z. is_in w (path_to_be s.defs s.regs s.clocks z)) (x ∷ [])) m

-- a step of the script after raises
covered_script : (s t : State) (k : Change) (answer : Option Bool) (m : Micro) (late : Option ℕ) (x : ℕ) (xs : List ℕ) → IsSafe late s → RaisedWell s k (x ∷ xs) → AllRaised s k (x ∷ xs) → k.front ≡ []
    → (stepped s k answer m).1 ≡ turn.Going → FirstGoes s.defs k.call k.timed_out (x ∷ xs) (scene late s) m k.left → GoesOn s k answer t m → Goes t
covered_script s t k answer m late x xs safe well all empty going (first_raises y is goes cut) event =
    raise_goes s t k late (x ∷ xs) y.0 safe (record { within = λ w n. over_more s (x ∷ xs) y.0 w (well.within w n); powered = well.powered; unprepared = well.unprepared }) all empty goes cut
    (raise_first s t k answer y (subst (λ (n : Micro). GoesOn s k answer t n) is event))
covered_script s t k answer m late x xs safe well all empty going (first_makes plain serves grows stays goes) event =
    let b : Scene = after s.defs (scene late s) m in
    let behind = covered_behind s k answer m late x xs serves empty well plain in
    let j : Change = behind.change in
    let arrives = arrive_at late b.late s (stepped s k answer m).0 t b safe (step_lands s k answer m (x ∷ xs) late safe.wired plain serves) (goes_sound s.defs k.call goes)
    (λ c prep. elim (grows c prep) [
      | inl was ↦ inl was
      | inr over ↦
          let at = covered_at (x ∷ xs) (scene late s) c over in
          inr (subst (λ (regs : Registers). IfSome (power_of (kind_of s.defs c)) (λ power. is_powered regs power ≡ true)) (sym behind.regs)
          (covered_powered s k (x ∷ xs) at.0 c safe.powers well (all at.0 at.1) (ap (is_in c) (to_be_told late s (scene late s) at.0 refl) ∙ at.2)))
    ]) event in
    stands_covered s t j b.late b (uncovers m (x ∷ xs)) arrives (change_after s (stepped s k answer m).0 t j event behind.at) behind.empty
    (elim behind.holds [
      | inl none ↦ subst (λ (ys : List ℕ). RaisedWell t j ys) (sym none.1) (none_raised t j [] none.0)
      | inr on_ ↦ well_still s (stepped s k answer m).0 t k j late b.late b (x ∷ xs) (uncovers m (x ∷ xs)) on_ well arrives event behind.defs behind.regs safe.wired.valid
    ])
    (elim behind.holds [
      | inl none ↦ λ z n. let no : false ≡ true = sym (ap (is_in z) none.1) ∙ n in absurd cc
      | inr on_ ↦ all_still s t k j late b.late b (x ∷ xs) (uncovers m (x ∷ xs)) on_ arrives.defs arrives.scene_is all
    ])
    (subst (λ (ms : List Micro). GoesWell s.defs j.call j.timed_out (uncovers m (x ∷ xs)) b ms) (sym behind.left)
    (subst (λ (t' : Bool). GoesWell s.defs j.call t' (uncovers m (x ∷ xs)) b k.left) (sym behind.timed)
    (subst (λ (w : Sleeping). GoesWell s.defs w k.timed_out (uncovers m (x ∷ xs)) b k.left) (sym behind.call) goes)))
covered_script s t k answer m late x xs safe well all empty going (first_ends is free alone prep) event = absurd (end_stops s k answer (subst (λ (n : Micro). (stepped s k answer n).1 ≡ turn.Going) is going))

-- if nothing is covered nothing is raised
pub raised_none : (s : State) (k : Change) → RaisedWell s k [] → k.raised ≡ []
raised_none s k well = empty_by k.raised (λ w m. let no : false ≡ true = well.within w m in cc)

-- each step of a change that isn't the end leaves it safe
pub step_goes : (s t : State) (d : ℕ) (m : Micro) (answer : Option Bool) (k : Change) → IsStep s t d m answer turn.Going k → InCall s k → IsWired (length t.regs) (wiring t) → Goes t
step_goes s t d m answer k step in_call wired = by_stand in_call.stands where
  late : Option ℕ
  late = in_call.late

  safe : IsSafe late s
  safe = in_call.safe

  event : GoesOn s (taken k) answer t m
  event = record { state = step.state; wired = wired }

  left_same : (what : Sleeping) (timed : Bool) (cover : List ℕ) (ms ns : List Micro) → ns ≡ ms → GoesWell s.defs what timed cover (scene late s) ms → GoesWell s.defs what timed cover (scene late s) ns
  left_same what timed cover ms ns same goes = subst (λ (us : List Micro). GoesWell s.defs what timed cover (scene late s) us) (sym same) goes

  by_calm : (ys : List ℕ) (rest : List Micro) → k.raised ≡ ys → k.front ≡ map (λ y. micro.Fall (clock_id y)) ys ++ rest → list_all is_calm rest ≡ true
      → ((y : ℕ) → is_in y ys ≡ true → prepared s y ≡ false) → GoesWell s.defs k.call k.timed_out [] (scene late s) k.left → Goes t
  by_calm (y ∷ ys) rest list front still idle goes =
      let here = front_step k m (micro.Fall (clock_id y)) (map (λ z. micro.Fall (clock_id z)) ys ++ rest) front step.first in
      fall_goes s t (taken k) k late y ys rest safe list here.1 still idle (left_same k.call k.timed_out [] k.left (taken k).left here.2 goes)
      (fall_first s t (taken k) answer y (subst (λ (n : Micro). GoesOn s (taken k) answer t n) here.0 event))
  by_calm [] (r ∷ rest) list front still idle goes =
      let here = front_step k m r rest front step.first in
      calm_first s t (taken k) answer m late safe (ap is_calm here.0 ∙ both_left (is_calm r) (list_all is_calm rest) still) list (ap (list_all is_calm) here.1 ∙ both_right (is_calm r) (list_all is_calm rest) still)
      (left_same k.call k.timed_out [] k.left (taken k).left here.2 goes) event
  by_calm [] [] list front still idle goes =
      let here = script_step k m front step.first in
      calm_script s t (taken k) answer m late safe list here.1 step.answered (first_goes s.defs k.call m (taken k).left goes here.0) event

  taken_well : (xs : List ℕ) → RaisedWell s k xs → RaisedWell s (taken k) xs
  taken_well xs well = record { within = well.within; powered = well.powered; unprepared = well.unprepared }

  by_cover : (xs : List ℕ) → k.front ≡ [] → RaisedWell s k xs → AllRaised s k xs → GoesWell s.defs k.call k.timed_out xs (scene late s) k.left → Goes t
  by_cover [] empty well all goes = by_calm [] [] (raised_none s k well) empty refl (λ y m. absurd cc) goes
  by_cover (x ∷ xs) empty well all goes =
      let here = script_step k m empty step.first in
      covered_script s t (taken k) answer m late x xs safe (taken_well (x ∷ xs) well) all here.1 step.answered (first_goes s.defs k.call m (taken k).left goes here.0) event

  by_front : (done : List ℕ) (x : ℕ) → RaisedWell s k (done ++ x ∷ []) → AllRaised s k done → GoesWell s.defs k.call k.timed_out (done ++ x ∷ []) (scene late s) k.left
      → GoesWell s.defs k.call true [] (scene late s) (cut_short k.call k.left) → RaisingFront s k x → Goes t
  by_front done x well all goes cut (asks y front none) =
      let here = front_step k m (micro.Poll y) [] front step.first in
      poll_goes s t (taken k) late done x y.0 (is_yes answer) safe (taken_well (done ++ x ∷ []) well) all (all_raised here.1 none)
      (left_same k.call k.timed_out (done ++ x ∷ []) k.left (taken k).left here.2 goes) (left_same k.call true [] (cut_short k.call k.left) (cut_short k.call (taken k).left) (ap (cut_short k.call) here.2) cut)
      (poll_first s t (taken k) answer y (subst (λ (n : Micro). GoesOn s (taken k) answer t n) here.0 event))
  by_front done x well all goes cut (asks_first y front) =
      let here = front_step k m (micro.Poll y) (micro.Raise (clock_id x) ∷ []) front step.first in
      poll_goes s t (taken k) late done x y.0 (is_yes answer) safe (taken_well (done ++ x ∷ []) well) all (to_go_on here.1)
      (left_same k.call k.timed_out (done ++ x ∷ []) k.left (taken k).left here.2 goes) (left_same k.call true [] (cut_short k.call k.left) (cut_short k.call (taken k).left) (ap (cut_short k.call) here.2) cut)
      (poll_first s t (taken k) answer y (subst (λ (n : Micro). GoesOn s (taken k) answer t n) here.0 event))
  by_front done x well all goes cut (comes_again front) =
      let here = front_step k m (micro.Raise (clock_id x)) [] front step.first in
      raise_goes s t (taken k) late done x safe (taken_well (done ++ x ∷ []) well) all here.1
      (left_same k.call k.timed_out (done ++ x ∷ []) k.left (taken k).left here.2 goes) (left_same k.call true [] (cut_short k.call k.left) (cut_short k.call (taken k).left) (ap (cut_short k.call) here.2) cut)
      (raise_first s t (taken k) answer (clock_id x) (subst (λ (n : Micro). GoesOn s (taken k) answer t n) here.0 event))

  by_stand : Stands s k late → Goes t
  by_stand (calm rest front still idle goes) = by_calm k.raised rest refl front still idle goes
  by_stand (covered xs empty well all goes) = by_cover xs empty well all goes
  by_stand (raising done x well all front goes cut) = by_front done x well all goes cut front
