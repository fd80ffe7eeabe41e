-- Each call that goes on begins as a flight takes it.
use Rattle.std.proofs.Common.{◌≡◌, ℕ, suc, ◌+◌, ◌≤◌, ◌&&◌, ◌||◌, Bool, true, false, List, [], ◌∷◌, ◌++◌, Some, None, refl, sym, ap, ◌∙◌, subst, arith, length, map, take}
use Rattle.std.specs.Prelude.{slice_index, flat_map, if◌then◌else◌}
use Rattle.std.specs.List.{list_any, list_all}
use Rattle.std.proofs.lemmas.List.{append_assoc, length-append, length-map}
use Rattle.std.proofs.lemmas.List.Folds.{list_any-append, list_all-append}
use Rattle.clk_base.specs.declared.call.Sleeping.{Sleeping}
use Rattle.clk_base.specs.declared.call.Sleeping.TheVariants as call
use Rattle.clk_base.specs.declared.call.Micro.{Micro}
use Rattle.clk_base.specs.declared.call.Micro.TheVariants as micro
use Rattle.clk_base.specs.declared.call.Notice.TheVariants as notice
use Rattle.clk_base.specs.declared.event.Turn.{Turn}
use Rattle.clk_base.specs.declared.event.Turn.TheVariants as turn
use Rattle.clk_model.specs.Gates.{settled}
use Rattle.clk_model.specs.State.{State, NotifierRow, Change, ChainStep}
use Rattle.clk_model.specs.Chain.{clock_id, outcome}
use Rattle.clk_model.specs.Notices.{Rates, vetoes, notifiers_of, until_veto, pre_list, is_veto, abort_list}
use Rattle.clk_model.specs.Holders.{prepared}
use Rattle.clk_model.specs.Round.{wiring, rate_in}
use Rattle.clk_model.specs.Walk.{walk, changing, rates_in}
use Rattle.clk_model.specs.Script.{planned, visit_of, move_of, is_raise, notices_of}
use Rattle.clk_model.specs.Begin.{begun, reparenting}
use Rattle.clk_model.specs.Step.{sets_parent}
use Rattle.clk_model.specs.Laws.Paced.{may_time_out, is_notice}
use Rattle.clk_model.proofs.Members.{both_left, both_right, not_either}
use Rattle.clk_model.proofs.BeginsLaws.{changes_rate, Starts, raising_handle, lowering_handle, planning, reparents, probing, sweeping, Begins, answers, gives, takes, adjusts, prepares, unprepares, notes, registers, goes_on, begins_so}
use Rattle.clk_model.proofs.FlightLaws.{begin_is}
use Rattle.clk_model.proofs.FreshLaws.{fresh_reparenting, length-aborts}
use Rattle.clk_model.proofs.WeightLaws.{abort_notices}
use Rattle.clk_flight.specs.declared.start.Start.{Start}
use Rattle.clk_flight.specs.Fronts.{called_off}
use Rattle.clk_flight.specs.Flights.{aborts_over}
use Rattle.clk_flight.specs.Begun.{StartsAs}
use Rattle.clk_flight.specs.Laws.{IsPlanned, CallsStart}
use Rattle.clk_flight.proofs.ChangeLaws.{none_of}

-- ---- notices without a veto, as notices that the change is called off

until_called_off : (rates : Rates) (c : ℕ) (ns : List NotifierRow) → list_any is_veto (until_veto rates c ns) ≡ false
    → map called_off (until_veto rates c ns) ≡ map (λ n. micro.Notify notice.Abort (clock_id c) n.id (slice_index rates.before c) (slice_index rates.outcome c)) ns
until_called_off rates c [] none = refl
until_called_off rates c (n ∷ ns) none = one (vetoes n.policy (slice_index rates.outcome c)) none (until_called_off rates c ns) where
  one : (t : Bool) → (t || list_any is_veto (if t then [] else until_veto rates c ns)) ≡ false
      → (list_any is_veto (until_veto rates c ns) ≡ false → map called_off (until_veto rates c ns) ≡ map (λ m. micro.Notify notice.Abort (clock_id c) m.id (slice_index rates.before c) (slice_index rates.outcome c)) ns)
      → map called_off (micro.Notify (notice.Pre t) (clock_id c) n.id (slice_index rates.before c) (slice_index rates.outcome c) ∷ (if t then [] else until_veto rates c ns))
      ≡ micro.Notify notice.Abort (clock_id c) n.id (slice_index rates.before c) (slice_index rates.outcome c) ∷ map (λ m. micro.Notify notice.Abort (clock_id c) m.id (slice_index rates.before c) (slice_index rates.outcome c)) ns
  one true e rest = absurd cc
  one false e rest = ap (λ ms. micro.Notify notice.Abort (clock_id c) n.id (slice_index rates.before c) (slice_index rates.outcome c) ∷ ms) (rest e)

map-append : (f : Micro → Micro) (xs ys : List Micro) → map f (xs ++ ys) ≡ map f xs ++ map f ys
map-append f [] ys = refl
map-append f (x ∷ xs) ys = ap (λ zs. f x ∷ zs) (map-append f xs ys)

pre_called_off : (rates : Rates) (ns : List NotifierRow) (cs : List ℕ) → list_any is_veto (pre_list rates ns cs) ≡ false
    → map called_off (pre_list rates ns cs) ≡ abort_list rates ns cs
pre_called_off rates ns [] none = refl
pre_called_off rates ns (c ∷ cs) none =
    let here : List Micro = until_veto rates c (notifiers_of ns c) in
    let parts = not_either (list_any is_veto here) (list_any is_veto (pre_list rates ns cs)) (sym (list_any-append is_veto here (pre_list rates ns cs)) ∙ none) in
    map-append called_off here (pre_list rates ns cs)
    ∙ ap (λ ms. ms ++ map called_off (pre_list rates ns cs)) (until_called_off rates c (notifiers_of ns c) parts.0)
    ∙ ap (λ ms. map (λ n. micro.Notify notice.Abort (clock_id c) n.id (slice_index rates.before c) (slice_index rates.outcome c)) (notifiers_of ns c) ++ ms) (pre_called_off rates ns cs parts.1)

-- ---- no raise among notices

notice_raises_not : (m : Micro) → is_notice m ≡ true → is_raise m ≡ false
notice_raises_not (micro.Raise x) e = absurd cc
notice_raises_not (micro.Notify kind c id old new) e = refl
notice_raises_not (micro.Poll x) e = refl
notice_raises_not (micro.Fall x) e = refl
notice_raises_not (micro.HoldPrepare x) e = refl
notice_raises_not (micro.HoldEnable x) e = refl
notice_raises_not (micro.Relink c p) e = refl
notice_raises_not (micro.WriteMux c p) e = refl
notice_raises_not (micro.DropEnable x) e = refl
notice_raises_not (micro.DropPrepare x) e = refl
notice_raises_not (micro.Lower x) e = refl
notice_raises_not (micro.Visit c) e = refl
notice_raises_not (micro.Register c) e = refl
notice_raises_not (micro.Settle c) e = refl
notice_raises_not (micro.Close c) e = refl
notice_raises_not (micro.Unpower c) e = refl
notice_raises_not micro.End e = refl

notices_raise_not : (ms : List Micro) → list_all is_notice ms ≡ true → list_any is_raise ms ≡ false
notices_raise_not [] all = refl
notices_raise_not (m ∷ ms) all =
    ap (λ (t : Bool). t || list_any is_raise ms) (notice_raises_not m (both_left (is_notice m) (list_all is_notice ms) all))
    ∙ notices_raise_not ms (both_right (is_notice m) (list_all is_notice ms) all)

until_notices : (rates : Rates) (c : ℕ) (ns : List NotifierRow) → list_all is_notice (until_veto rates c ns) ≡ true
until_notices rates c [] = refl
until_notices rates c (n ∷ ns) = one (vetoes n.policy (slice_index rates.outcome c)) (until_notices rates c ns) where
  one : (t : Bool) → list_all is_notice (until_veto rates c ns) ≡ true → list_all is_notice (if t then [] else until_veto rates c ns) ≡ true
  one true rest = refl
  one false rest = rest

pre_notices_all : (rates : Rates) (ns : List NotifierRow) (cs : List ℕ) → list_all is_notice (pre_list rates ns cs) ≡ true
pre_notices_all rates ns [] = refl
pre_notices_all rates ns (c ∷ cs) =
    list_all-append is_notice (until_veto rates c (notifiers_of ns c)) (pre_list rates ns cs)
    ∙ ap (λ (t : Bool). t && list_all is_notice (pre_list rates ns cs)) (until_notices rates c (notifiers_of ns c)) ∙ pre_notices_all rates ns cs

-- ---- a change of parent

take_front : (xs ys : List Micro) → take (length xs) (xs ++ ys) ≡ xs
take_front [] ys = none_of ys
take_front (x ∷ xs) ys = ap (λ zs. x ∷ zs) (take_front xs ys)

-- what a script has at its head, and what a timeout of it calls off
pub record IsAhead (notifiers : List NotifierRow) (k : Change) : Type 0 where
  pub fits : k.extra ≤ length k.left
  pub calls_off : list_all is_notice (map called_off (take k.extra k.left)) ≡ true
  pub aborts : list_any may_time_out k.left ≡ true → aborts_over notifiers k ≡ map called_off (take k.extra k.left)

-- the notices, what stands behind them where nothing vetoes, or else the notices that the change is called off, and the end
script_ahead : (s : State) (rates : Rates) (clocks : List ℕ) (tail : List Micro) (left : List Micro) (extra : ℕ)
    → left ≡ pre_list rates s.notifiers clocks ++ (if list_any is_veto (pre_list rates s.notifiers clocks) then abort_list rates s.notifiers clocks else tail) ++ micro.End ∷ []
    → list_any is_raise left ≡ true → extra ≡ notices_of s clocks
    → (extra ≤ length left) × (map called_off (take extra left) ≡ abort_list rates s.notifiers clocks)
script_ahead s rates clocks tail left extra is raises many = one (list_any is_veto pre) refl where
  pre : List Micro
  pre = pre_list rates s.notifiers clocks

  one : (t : Bool) → list_any is_veto (pre_list rates s.notifiers clocks) ≡ t → (extra ≤ length left) × (map called_off (take extra left) ≡ abort_list rates s.notifiers clocks)
  one true veto =
      let whole : left ≡ pre_list rates s.notifiers clocks ++ abort_list rates s.notifiers clocks ++ micro.End ∷ [] =
      is ∙ ap (λ (t : Bool). pre_list rates s.notifiers clocks ++ (if t then abort_list rates s.notifiers clocks else tail) ++ micro.End ∷ []) veto in
      let none : list_any is_raise (pre_list rates s.notifiers clocks ++ abort_list rates s.notifiers clocks ++ micro.End ∷ []) ≡ false =
      list_any-append is_raise (pre_list rates s.notifiers clocks ++ abort_list rates s.notifiers clocks) (micro.End ∷ [])
      ∙ ap (λ (t : Bool). t || false) (list_any-append is_raise (pre_list rates s.notifiers clocks) (abort_list rates s.notifiers clocks)
      ∙ ap (λ (t : Bool). t || list_any is_raise (abort_list rates s.notifiers clocks)) (notices_raise_not (pre_list rates s.notifiers clocks) (pre_notices_all rates s.notifiers clocks))
      ∙ notices_raise_not (abort_list rates s.notifiers clocks) (abort_notices rates s.notifiers clocks)) in
      let no : false ≡ true = sym none ∙ sym (ap (list_any is_raise) whole) ∙ raises in
      absurd cc
  one false veto =
      let whole : left ≡ pre_list rates s.notifiers clocks ++ tail ++ micro.End ∷ [] =
      is ∙ ap (λ (t : Bool). pre_list rates s.notifiers clocks ++ (if t then abort_list rates s.notifiers clocks else tail) ++ micro.End ∷ []) veto in
      let called = pre_called_off rates s.notifiers clocks veto in
      let long : length (pre_list rates s.notifiers clocks) ≡ extra =
      sym (length-map (pre_list rates s.notifiers clocks) called_off) ∙ ap (λ (ms : List Micro). length ms) called ∙ length-aborts rates s clocks ∙ sym many in
      let regroup = append_assoc (pre_list rates s.notifiers clocks) tail (micro.End ∷ []) in
      let whole_ : left ≡ pre_list rates s.notifiers clocks ++ (tail ++ micro.End ∷ []) = whole ∙ regroup in
      let sum : length left ≡ length (pre_list rates s.notifiers clocks) + length (tail ++ micro.End ∷ []) = ap (λ (ms : List Micro). length ms) whole_ ∙ length-append (pre_list rates s.notifiers clocks) (tail ++ micro.End ∷ []) in (
        omega arith,
        ap (λ (ms : List Micro). map called_off (take extra ms)) whole_
            ∙ ap (λ (n : ℕ). map called_off (take n (pre_list rates s.notifiers clocks ++ (tail ++ micro.End ∷ [])))) (sym long)
            ∙ ap (map called_off) (take_front (pre_list rates s.notifiers clocks) (tail ++ micro.End ∷ [])) ∙ called,
      )

nothing : (ms : List Micro) → length ms ≤ 0 → ms ≡ []
nothing [] le = refl
nothing (m ∷ ms) le = absurd (let h : suc (length ms) ≤ 0 = le in omega arith)

-- the planned step of a change of parent, its rates, its clocks, and what stands behind its notices
abbrev parent_steps : State → ℕ → ℕ → List ChainStep
parent_steps s c p =
    record { clock = c; rate = rate_in (outcome (record { clock = c; rate = 0; parent = Some p } ∷ []) (wiring s)) c; parent = Some p } ∷ []

abbrev parent_rates : State → ℕ → ℕ → Rates
parent_rates s c p = record { before = rates_in (wiring s); outcome = rates_in (outcome (parent_steps s c p) (wiring s)) }

abbrev parent_clocks : State → ℕ → ℕ → List ℕ
parent_clocks s c p = changing s.order (wiring s) (parent_steps s c p)

abbrev parent_tail : State → ℕ → ℕ → List Micro
parent_tail s c p =
    flat_map (λ a. move_of s.defs s.clocks (prepared s) (parent_steps s c p) a ++ visit_of s.defs s.clocks (parent_steps s c p) a) (walk s.order (wiring s) (parent_steps s c p)) ++ micro.Settle (clock_id c) ∷ []

parent_script : (s : State) (d : ℕ) (what : Sleeping) (c p : ℕ)
    → (reparenting s d what c p).left
    ≡ pre_list (parent_rates s c p) s.notifiers (parent_clocks s c p)
    ++ (if list_any is_veto (pre_list (parent_rates s c p) s.notifiers (parent_clocks s c p)) then abort_list (parent_rates s c p) s.notifiers (parent_clocks s c p) else parent_tail s c p)
    ++ micro.End ∷ []
unfolding planned
parent_script s d what c p = refl

parent_extra : (s : State) (d : ℕ) (what : Sleeping) (c p : ℕ)
    → (reparenting s d what c p).extra ≡ (if list_any is_raise (reparenting s d what c p).left then notices_of s (parent_clocks s c p) else 0)
unfolding planned
parent_extra s d what c p = refl

parent_aborts : (s : State) (d : ℕ) (what : Sleeping) (c p : ℕ)
    → aborts_over s.notifiers (reparenting s d what c p) ≡ (if sets_parent what then abort_list (parent_rates s c p) s.notifiers (parent_clocks s c p) else [])
unfolding planned
parent_aborts s d what c p = refl

parent_ahead : (s : State) (d : ℕ) (what : Sleeping) (c p : ℕ) → sets_parent what ≡ true → IsAhead s.notifiers (reparenting s d what c p)
parent_ahead s d what c p sets = one (list_any is_raise (reparenting s d what c p).left) refl where
  are : aborts_over s.notifiers (reparenting s d what c p) ≡ abort_list (parent_rates s c p) s.notifiers (parent_clocks s c p)
  are = parent_aborts s d what c p ∙ ap (λ (t : Bool). if t then abort_list (parent_rates s c p) s.notifiers (parent_clocks s c p) else []) sets

  one : (t : Bool) → list_any is_raise (reparenting s d what c p).left ≡ t → IsAhead s.notifiers (reparenting s d what c p)
  one true e =
      let many : (reparenting s d what c p).extra ≡ notices_of s (parent_clocks s c p) = parent_extra s d what c p ∙ ap (λ (t : Bool). if t then notices_of s (parent_clocks s c p) else 0) e in
      let ahead = script_ahead s (parent_rates s c p) (parent_clocks s c p) (parent_tail s c p) (reparenting s d what c p).left (reparenting s d what c p).extra (parent_script s d what c p) e many in
      record {
        fits = ahead.0;
        calls_off = ap (list_all is_notice) ahead.1 ∙ abort_notices (parent_rates s c p) s.notifiers (parent_clocks s c p);
        aborts = λ may. are ∙ sym ahead.1;
      }
  one false e =
      let many : (reparenting s d what c p).extra ≡ 0 = parent_extra s d what c p ∙ ap (λ (t : Bool). if t then notices_of s (parent_clocks s c p) else 0) e in
      let none : map called_off (take (reparenting s d what c p).extra (reparenting s d what c p).left) ≡ [] =
      ap (λ (n : ℕ). map called_off (take n (reparenting s d what c p).left)) many ∙ ap (map called_off) (none_of (reparenting s d what c p).left) in
      record {
        fits = omega arith;
        calls_off = ap (list_all is_notice) none;
        aborts = λ may.
            nothing (aborts_over s.notifiers (reparenting s d what c p)) (let few = (fresh_reparenting s d what c p sets).aborts may in let f : length (aborts_over s.notifiers (reparenting s d what c p)) ≤ (reparenting s d what c p).extra = few in omega arith)
            ∙ sym none;
      }

-- ---- each call

no_parent_set : (what : Sleeping) → changes_rate what ≡ true → sets_parent what ≡ false
no_parent_set (call.SetRate h x) e = refl
no_parent_set (call.SetRateExclusive h x) e = refl
no_parent_set (call.SetRange h least most) e = refl
no_parent_set (call.SetParent h p) e = absurd cc
no_parent_set _ e = refl

-- a change that no timeout calls off
plain_ahead : (notifiers : List NotifierRow) (k : Change) → k.extra ≡ 0 → sets_parent k.call ≡ false → IsAhead notifiers k
plain_ahead notifiers k none other =
    let nil : map called_off (take k.extra k.left) ≡ [] = ap (λ (n : ℕ). map called_off (take n k.left)) none ∙ ap (map called_off) (none_of k.left) in
    record {
      fits = omega arith;
      calls_off = ap (list_all is_notice) nil;
      aborts = λ may. ap (λ (t : Bool). if t then abort_list (record { before = k.before; outcome = k.outcome }) notifiers k.changing else []) other ∙ sym nil;
    }

-- a change at its beginning
pub record IsFirst (k : Change) : Type 0 where
  pub front : k.front ≡ []
  pub polls : k.polls ≡ 0
  pub again : k.again ≡ 0
  pub raised : k.raised ≡ []
  pub timed_out : k.timed_out ≡ false
  pub missed : k.missed ≡ None

starts_ahead : (s n : State) (d : ℕ) (what : Sleeping) (k : Change) → Starts s d what n k → IsAhead n.notifiers k × IsFirst k
starts_ahead s n d what k (raising_handle h row is at) = (plain_ahead s.notifiers _ refl (ap sets_parent is), record { front = refl; polls = refl; again = refl; raised = refl; timed_out = refl; missed = refl })
starts_ahead s n d what k (lowering_handle h row is at gives_up) = (plain_ahead s.notifiers _ refl (ap sets_parent is), record { front = refl; polls = refl; again = refl; raised = refl; timed_out = refl; missed = refl })
starts_ahead s n d what k (planning m number row over x ks range planned_ at is rates) =
    (plain_ahead m.notifiers _ refl (no_parent_set what rates), record { front = refl; polls = refl; again = refl; raised = refl; timed_out = refl; missed = refl })
starts_ahead s n d what k (reparents number row p sets at away mux m root) =
    (parent_ahead s d what row.clock.0 p sets, record { front = refl; polls = refl; again = refl; raised = refl; timed_out = refl; missed = refl })
starts_ahead s n d what k (probing c is free) = (plain_ahead s.notifiers _ refl (ap sets_parent is), record { front = refl; polls = refl; again = refl; raised = refl; timed_out = refl; missed = refl })
starts_ahead s n d what k (sweeping is) = (plain_ahead s.notifiers _ refl (ap sets_parent is), record { front = refl; polls = refl; again = refl; raised = refl; timed_out = refl; missed = refl })

starts_as : (notifiers : List NotifierRow) (start : Start) (k : Change) → IsAhead notifiers k → IsFirst k → IsPlanned start k → StartsAs notifiers start k
starts_as notifiers start k ahead first is = record {
  driver = is.driver;
  call = is.call;
  front = first.front;
  left = is.left;
  polls = first.polls;
  again = first.again;
  raised = first.raised;
  range = is.range;
  extra = is.extra;
  fits = subst (λ (n : ℕ). n ≤ length start.script.items) is.extra (subst (λ (ms : List Micro). k.extra ≤ length ms) is.left ahead.fits);
  calls_off = sym (ap (λ (ms : List Micro). list_all is_notice (map called_off ms)) taken_) ∙ ahead.calls_off;
  vetoed = is.vetoed;
  timed_out = first.timed_out;
  missed = first.missed;
  aborts = λ may. ahead.aborts may ∙ ap (map called_off) taken_;
} where
  taken_ : take k.extra k.left ≡ take start.extra start.script.items
  taken_ = ap (λ (n : ℕ). take n k.left) is.extra ∙ ap (take start.extra) is.left

one_change : {X : Type 0} (x y : X) → Some x ≡ Some y → x ≡ y
one_change x y e = cc

pub calls_start : CallsStart
unfolding settled
calls_start q s d what now start step at is = by_case (begun q d what) (begins_so q d what) begins_.2 begins_.1 where
  begins_ : (q.change ≡ None) × (record (settled q (begun q d what).0) { spent = q.spent + 1 } ≡ s) × ((begun q d what).1 ≡ turn.Going)
  begins_ = begin_is q s d what turn.Going step

  goes_ : (n : State) (k : Change) → Starts q d what n k → record (settled q (record n { change = Some k })) { spent = q.spent + 1 } ≡ s → StartsAs s.notifiers start now
  goes_ n k starts_ state =
      let same : k ≡ now = one_change k now (ap (λ (v : State). v.change) state ∙ at) in
      let rows : n.notifiers ≡ s.notifiers = ap (λ (v : State). v.notifiers) state in
      let known = starts_ahead q n d what k starts_ in
      starts_as s.notifiers start now
      (subst (λ (ns : List NotifierRow). IsAhead ns now) rows (subst (λ (x : Change). IsAhead n.notifiers x) same known.0))
      (subst (λ (x : Change). IsFirst x) same known.1) is

  by_case : (y : State × Turn) → Begins q d what y → y.1 ≡ turn.Going → record (settled q y.0) { spent = q.spent + 1 } ≡ s → StartsAs s.notifiers start now
  by_case y (goes_on n k starts_) going state = goes_ n k starts_ state
  by_case y (answers r) going state = absurd cc
  by_case y (gives c root) going state = absurd cc
  by_case y (takes number row at idle) going state = absurd cc
  by_case y (adjusts number old new r adjusted) going state = absurd cc
  by_case y (prepares number row at calm_) going state = absurd cc
  by_case y (unprepares number row at gives_up) going state = absurd cc
  by_case y (notes notifiers r) going state = absurd cc
  by_case y (registers c free calm_) going state = absurd cc
