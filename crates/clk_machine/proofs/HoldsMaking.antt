-- What a hold, and the end of one, makes of the parts of a core.
use Rattle.std.proofs.Common.{◌≡◌, ℕ, ◌+◌, ◌-◌, ◌<◌, ◌&&◌, ◌⊎◌, Bool, true, false, cond, List, [], ◌∷◌, ◌++◌, Option, Some, None, refl, sym, ap, subst, ◌∙◌, inl, inr, arith, length, set, nat_eq}
use Rattle.std.proofs.lemmas.List.{get_or-set_same, get_or-set_other}
use Rattle.std.specs.Prelude.{slice_index}
use Rattle.clk_base.specs.declared.call.Micro.{Micro}
use Rattle.clk_base.specs.declared.call.Micro.TheVariants as micro
use Rattle.clk_base.specs.declared.clock.ClockId.{ClockId}
use Rattle.clk_base.specs.declared.event.Event.TheVariants as event
use Rattle.clk_base.specs.declared.event.Turn.{Turn}
use Rattle.clk_base.specs.declared.event.Turn.TheVariants as turn
use Rattle.clk_model.specs.Holders.{active, clocks_of, critical_clocks, enable_holders, is_enabled}
use Rattle.clk_model.specs.Lists.{is_in, without_one}
use Rattle.clk_model.specs.State.{State, registered}
use Rattle.clk_model.specs.Step.{taken, drop_enable}
use Rattle.clk_model.specs.Tree.{path}
use Rattle.clk_model.proofs.Members.{any_in, any_from_in, or_left, or_right, both_right, same_from_test, test_other}
use Rattle.clk_model.proofs.OnceLaws.{is_in-append, in_append}
use Rattle.clk_flight.specs.Flights.{FlightState, own_step}
use Rattle.counts_core.specs.Counted.{CountState}
use Rattle.counts_core.specs.Standing.{StandsFor}
use Rattle.core_parts.specs.Holds.{TellsHolds}
use Rattle.core_parts.specs.InFlight.{holds_clocks, may_make}
use Rattle.clk_machine.specs.Parts.{Parts, IsWhole}
use Rattle.clk_machine.specs.Stands.{Enters}
use Rattle.core_parts.proofs.HeldCounts.{times_in, times_more, held_on}
use Rattle.core_parts.proofs.Holdings.{StandsFor-moved}
use Rattle.clk_machine.proofs.LinkSteps.{Stepped, goes_taken}
use Rattle.core_parts.proofs.Moving.{clock_within}
use Rattle.clk_machine.proofs.Relinking.{relinks, Relinked, with_relinked, made_now, falls_of, relinked_enters}
use Rattle.clk_machine.proofs.Stepping.{unprepares_one, disables_one}
use Rattle.clk_model.proofs.StateLaws.{settled-still}

-- ---- one more, and one less

-- what is put to two lists in one place is put to their difference
pub both_more : (xs ys : List ℕ) (x c : ℕ) → x < length xs → x < length ys → slice_index (set xs x (slice_index xs x + 1)) c + slice_index ys c ≡ slice_index xs c + slice_index (set ys x (slice_index ys x + 1)) c
both_more xs ys x c one two = by (nat_eq x c) refl where
  by : (t : Bool) → nat_eq x c ≡ t → slice_index (set xs x (slice_index xs x + 1)) c + slice_index ys c ≡ slice_index xs c + slice_index (set ys x (slice_index ys x + 1)) c
  by true e =
      subst (λ (d : ℕ). slice_index (set xs x (slice_index xs x + 1)) d + slice_index ys d ≡ slice_index xs d + slice_index (set ys x (slice_index ys x + 1)) d) (same_from_test x c e)
      (let a = get_or-set_same xs x (slice_index xs x + 1) 0 one in let b = get_or-set_same ys x (slice_index ys x + 1) 0 two in omega arith)
  by false e =
      let a = get_or-set_other xs x c (slice_index xs x + 1) 0 (λ same. test_other x c e (sym same)) in
      let b = get_or-set_other ys x c (slice_index ys x + 1) 0 (λ same. test_other x c e (sym same)) in
      omega arith

pub both_less : (xs ys : List ℕ) (x c : ℕ) → x < length xs → x < length ys → 0 < slice_index xs x → 0 < slice_index ys x
    → slice_index (set xs x (slice_index xs x - 1)) c + slice_index ys c ≡ slice_index xs c + slice_index (set ys x (slice_index ys x - 1)) c
both_less xs ys x c one two some some' = by (nat_eq x c) refl where
  by : (t : Bool) → nat_eq x c ≡ t → slice_index (set xs x (slice_index xs x - 1)) c + slice_index ys c ≡ slice_index xs c + slice_index (set ys x (slice_index ys x - 1)) c
  by true e =
      subst (λ (d : ℕ). slice_index (set xs x (slice_index xs x - 1)) d + slice_index ys d ≡ slice_index xs d + slice_index (set ys x (slice_index ys x - 1)) d) (same_from_test x c e)
      (let a = get_or-set_same xs x (slice_index xs x - 1) 0 one in let b = get_or-set_same ys x (slice_index ys x - 1) 0 two in omega arith)
  by false e =
      let a = get_or-set_other xs x c (slice_index xs x - 1) 0 (λ same. test_other x c e (sym same)) in
      let b = get_or-set_other ys x c (slice_index ys x - 1) 0 (λ same. test_other x c e (sym same)) in
      omega arith

-- counts with one more tell a hold more
pub tells_more : (counts holds : List ℕ) (x : ℕ) → TellsHolds counts holds → x < length counts → TellsHolds (set counts x (slice_index counts x + 1)) (x ∷ holds)
tells_more counts holds x tells place = record { each = λ c. times_more c x holds ∙ by c (nat_eq x c) refl } where
  by : (c : ℕ) (t : Bool) → nat_eq x c ≡ t → cond t 1 0 + times_in c holds ≡ slice_index (set counts x (slice_index counts x + 1)) c
  by c true e =
      let here = get_or-set_same counts x (slice_index counts x + 1) 0 place in
      let at = ap (slice_index (set counts x (slice_index counts x + 1))) (same_from_test x c e) in
      let was = tells.each c in
      let same = ap (slice_index counts) (same_from_test x c e) in
      omega arith
  by c false e =
      let there = get_or-set_other counts x c (slice_index counts x + 1) 0 (λ same. test_other x c e (sym same)) in
      let was = tells.each c in
      omega arith

-- without one of the holds on a clock
times_without : (x c : ℕ) (holds : List ℕ) → 0 < times_in x holds → times_in c (without_one x holds) + cond (nat_eq x c) 1 0 ≡ times_in c holds
times_without x c [] some = absurd (omega arith)
times_without x c (y ∷ ys) some = by (nat_eq y x) refl (λ more. times_without x c ys more) where
  by : (t : Bool) → nat_eq y x ≡ t → (0 < times_in x ys → times_in c (without_one x ys) + cond (nat_eq x c) 1 0 ≡ times_in c ys)
      → times_in c (cond t ys (y ∷ without_one x ys)) + cond (nat_eq x c) 1 0 ≡ times_in c (y ∷ ys)
  by true e rest =
      let all = times_more c y ys in
      let same : ◌≡◌ {A = ℕ} (cond (nat_eq y c) 1 0) (cond (nat_eq x c) 1 0) = ap (λ (z : ℕ). cond {A = ℕ} (nat_eq z c) 1 0) (same_from_test y x e) in
      omega arith
  by false e rest =
      let all = times_more c y ys in
      let left = times_more c y (without_one x ys) in
      let mine = times_more x y ys in
      let none : ◌≡◌ {A = ℕ} (cond (nat_eq y x) 1 0) 0 = ap (λ (b : Bool). cond b 1 0) e in
      let more : 0 < times_in x ys = omega arith in
      let step = rest more in
      omega arith

pub tells_less : (counts holds : List ℕ) (x : ℕ) → TellsHolds counts holds → x < length counts → 0 < slice_index counts x → TellsHolds (set counts x (slice_index counts x - 1)) (without_one x holds)
tells_less counts holds x tells place some = record { each = λ c. by c (nat_eq x c) refl } where
  held : 0 < times_in x holds
  held = let was = tells.each x in omega arith

  by : (c : ℕ) (t : Bool) → nat_eq x c ≡ t → times_in c (without_one x holds) ≡ slice_index (set counts x (slice_index counts x - 1)) c
  by c true e =
      let here = get_or-set_same counts x (slice_index counts x - 1) 0 place in
      let at = ap (slice_index (set counts x (slice_index counts x - 1))) (same_from_test x c e) in
      let was = tells.each c in
      let same = ap (slice_index counts) (same_from_test x c e) in
      let less = times_without x c holds held in
      let one : ◌≡◌ {A = ℕ} (cond (nat_eq x c) 1 0) 1 = ap (λ (b : Bool). cond b 1 0) e in
      omega arith
  by c false e =
      let there = get_or-set_other counts x c (slice_index counts x - 1) 0 (λ same. test_other x c e (sym same)) in
      let was = tells.each c in
      let less = times_without x c holds held in
      let one : ◌≡◌ {A = ℕ} (cond (nat_eq x c) 1 0) 0 = ap (λ (b : Bool). cond b 1 0) e in
      omega arith

-- where there is none nothing goes
without_none : (x : ℕ) (holds : List ℕ) → times_in x holds ≡ 0 → without_one x holds ≡ holds
without_none x [] none = refl
without_none x (y ∷ ys) none = by (nat_eq y x) refl (λ rest. without_none x ys rest) where
  by : (t : Bool) → nat_eq y x ≡ t → (times_in x ys ≡ 0 → without_one x ys ≡ ys) → cond t ys (y ∷ without_one x ys) ≡ y ∷ ys
  by true e rest =
      let all = times_more x y ys in
      let one : ◌≡◌ {A = ℕ} (cond (nat_eq y x) 1 0) 1 = ap (λ (b : Bool). cond b 1 0) e in
      absurd (omega arith)
  by false e rest =
      let all = times_more x y ys in
      ap (λ (zs : List ℕ). y ∷ zs) (rest (omega arith))

-- ---- who is active

-- more holds keep who was active
pub active_grows : (s : State) (es : List ℕ) (d : ℕ) → ((h : ℕ) → is_in h s.enable_holds ≡ true → is_in h es ≡ true) → active s d ≡ true → active (record s { enable_holds = es }) d ≡ true
active_grows s es d more act =
    let found = any_in (λ h. is_in d (path s.clocks h)) (enable_holders s) act in
    any_from_in (λ h. is_in d (path s.clocks h)) (clocks_of is_enabled s.handles ++ critical_clocks s ++ es) found.0 (by found.0 (in_append found.0 (clocks_of is_enabled s.handles ++ critical_clocks s) s.enable_holds found.1)) found.2 where
      by : (h : ℕ) → (is_in h (clocks_of is_enabled s.handles ++ critical_clocks s) ≡ true) ⊎ (is_in h s.enable_holds ≡ true) → is_in h (clocks_of is_enabled s.handles ++ critical_clocks s ++ es) ≡ true
      by h (inl keeps) = is_in-append h (clocks_of is_enabled s.handles ++ critical_clocks s) es ∙ or_left (is_in h (clocks_of is_enabled s.handles ++ critical_clocks s)) (is_in h es) keeps
      by h (inr held) = is_in-append h (clocks_of is_enabled s.handles ++ critical_clocks s) es ∙ or_right (is_in h (clocks_of is_enabled s.handles ++ critical_clocks s)) (is_in h es) (more h held)

-- ---- the parts

-- such a step is of a registered clock
pub held_there : (old : Parts) (m : Micro) (x : ℕ) → IsWhole old → old.flight.going ≡ true → relinks m ≡ true → own_step old.flight ≡ Some m
    → may_make old.flight.call (registered old.tree.clocks) m ≡ (holds_clocks old.flight.call && registered old.tree.clocks x) → registered old.tree.clocks x ≡ true
held_there old m x whole going is own may = both_right (holds_clocks old.flight.call) (registered old.tree.clocks x) (sym may ∙ made_now old m whole going is own)

-- counts that changed with what is held stand for what is held then
pub stands_held : (old : Parts) (k' : CountState) (prepares' enables' : List ℕ) (s t : State) → StandsFor old.counts s → k'.gated ≡ old.counts.gated → k'.links ≡ old.counts.links → k'.exclusives ≡ old.counts.exclusives
    → t.defs ≡ s.defs → t.clocks ≡ s.clocks → t.handles ≡ s.handles
    → ((c : ℕ) → slice_index k'.enables c + slice_index old.enable_holds c ≡ slice_index old.counts.enables c + slice_index enables' c)
    → ((c : ℕ) → slice_index k'.prepares c + slice_index old.prepare_holds c ≡ slice_index old.counts.prepares c + slice_index prepares' c)
    → TellsHolds old.enable_holds s.enable_holds → TellsHolds enables' t.enable_holds → TellsHolds old.prepare_holds s.prepare_holds → TellsHolds prepares' t.prepare_holds → StandsFor k' t
stands_held old k' prepares' enables' s t stands made links exclusives defs clocks handles enables prepares was_e is_e was_p is_p =
    StandsFor-moved old.counts k' s t stands made links exclusives defs clocks handles
    (λ c. let both = enables c in let was = was_e.each c in let is = is_e.each c in omega arith) (λ c. let both = prepares c in let was = was_p.each c in let is = is_p.each c in omega arith)

-- the places of a registered clock
pub record HasPlaces (old : Parts) (x : ℕ) : Type 0 where
  pub desc : x < length old.desc.defs
  pub enables : x < length old.counts.enables
  pub prepares : x < length old.counts.prepares
  pub enable_holds : x < length old.enable_holds
  pub prepare_holds : x < length old.prepare_holds

pub places : (old : Parts) (x : ℕ) → IsWhole old → registered old.tree.clocks x ≡ true → HasPlaces old x
places old x whole there =
    let within : x < length old.desc.defs = clock_within old.desc old.window old.tree x whole.tied there in
    let same : length old.counts.links ≡ length old.desc.defs = whole.counted.stands.size in
    let one = whole.counted.keeps.enables in
    let two = whole.counted.keeps.prepares in
    let three = whole.enables_held.size in
    let four = whole.prepares_held.size in
    record { desc = within; enables = omega arith; prepares = omega arith; enable_holds = omega arith; prepare_holds = omega arith }

-- ---- a clock that isn't held stays so

module _ (old : Parts) (m : Micro) (flight' : FlightState) (now : Stepped old m flight') where
  pub idle_of : Relinked old m old.window old.tree old.counts old.prepare_holds old.enable_holds flight'
  idle_of = record {
    whole = now.whole;
    going = now.going;
    is = now.is;
    own = now.own;
    first = now.first;
    size = refl;
    told = refl;
    behind = refl;
    locks = refl;
    tied = now.whole.tied;
    there = λ c. refl;
    linked = λ c has. has;
    keeps = now.whole.counted.keeps;
    prepares = held_on (registered old.tree.clocks) (length old.desc.defs) old.steps old.prepare_holds now.whole.prepares_held;
    enables = held_on (registered old.tree.clocks) (length old.desc.defs) old.steps old.enable_holds now.whole.enables_held;
    stands = now.whole.counted.stands;
    raised = old.flight.raised;
    raised_there = (now.whole.flown now.going).way.raised;
    flight = now.flight;
    less = falls_of old m flight' now.whole now.going now.is now.own now.less;
  }

pub idle_drop : (old : Parts) (x : ClockId) (flight' : FlightState) → Stepped old (micro.DropEnable x) flight' → slice_index old.enable_holds x.0 ≡ 0
    → Enters old old.flight.driver (event.Step (micro.DropEnable x) None) turn.Going (with_relinked old old.window old.tree old.counts old.prepare_holds old.enable_holds flight')
idle_drop old x flight' now none = relinked_enters old (micro.DropEnable x) old.window old.tree old.counts old.prepare_holds old.enable_holds flight' (idle_of old (micro.DropEnable x) flight' now) (λ s k stands sound next is.
    let same : without_one x.0 s.enable_holds ≡ s.enable_holds = without_none x.0 s.enable_holds (stands.enable_holds.each x.0 ∙ none) in
    record {
      regs = s.regs;
      clocks = s.clocks;
      order = s.order;
      prepare_holds = s.prepare_holds;
      enable_holds = without_one x.0 s.enable_holds;
      change = taken k;
      next_ = disables_one s old.flight.driver k x next
          ∙ ap (λ (z : State). let r : Option (State × Turn) = Some (record z { steps = s.steps + 1 }, turn.Going) in r)
          (settled-still s (drop_enable s (taken k) x.0) (λ d. sym (ap (λ (es : List ℕ). active (record s { enable_holds = es }) d) same)));
      words = stands.regs;
      rows = stands.clocks;
      order_ = stands.order;
      prepares = stands.prepare_holds;
      enables = subst (λ (es : List ℕ). TellsHolds old.enable_holds es) (sym same) stands.enable_holds;
      flies = now.change s.notifiers k (micro.DropEnable x) is next.first refl;
      along = goes_taken old.course k;
    })

pub idle_free : (old : Parts) (x : ClockId) (flight' : FlightState) → Stepped old (micro.DropPrepare x) flight' → slice_index old.prepare_holds x.0 ≡ 0
    → Enters old old.flight.driver (event.Step (micro.DropPrepare x) None) turn.Going (with_relinked old old.window old.tree old.counts old.prepare_holds old.enable_holds flight')
idle_free old x flight' now none = relinked_enters old (micro.DropPrepare x) old.window old.tree old.counts old.prepare_holds old.enable_holds flight' (idle_of old (micro.DropPrepare x) flight' now) (λ s k stands sound next is.
    let same : without_one x.0 s.prepare_holds ≡ s.prepare_holds = without_none x.0 s.prepare_holds (stands.prepare_holds.each x.0 ∙ none) in
    record {
      regs = s.regs;
      clocks = s.clocks;
      order = s.order;
      prepare_holds = without_one x.0 s.prepare_holds;
      enable_holds = s.enable_holds;
      change = taken k;
      next_ = unprepares_one s old.flight.driver k x next;
      words = stands.regs;
      rows = stands.clocks;
      order_ = stands.order;
      prepares = subst (λ (es : List ℕ). TellsHolds old.prepare_holds es) (sym same) stands.prepare_holds;
      enables = stands.enable_holds;
      flies = now.change s.notifiers k (micro.DropPrepare x) is next.first refl;
      along = goes_taken old.course k;
    })
