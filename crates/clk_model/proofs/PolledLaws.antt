-- Laws on polls: a call is late exactly where all polls of a PLL since one raise have answered no.
use Rattle.std.proofs.Common.{◌≡◌, ◌↔◌, ℕ, ◌+◌, ◌-◌, ◌<◌, ◌&&◌, ◌||◌, Bool, true, false, not, cond, List, [], ◌∷◌, ◌++◌, Option, Some, refl, sym, ap, subst, ◌∙◌, ◌⊎◌, inl, inr, arith, nat_eq, nat_le, map, count_by, length}
use Rattle.std.specs.Prelude.{slice_get, slice_index, reverse}
use Rattle.std.specs.List.{list_any}
use Rattle.std.proofs.lemmas.Bool.Decides.{nat_tests}
use Rattle.std.proofs.lemmas.List.Sums.{sum_by-cons}
use Rattle.clk_base.specs.declared.call.Micro.{Micro}
use Rattle.clk_base.specs.declared.call.Micro.TheVariants as micro
use Rattle.clk_base.specs.declared.call.Notice.TheVariants as notice
use Rattle.clk_base.specs.declared.clock.ClockId.{ClockId}
use Rattle.clk_base.specs.declared.event.Event.{Event}
use Rattle.clk_base.specs.declared.event.Event.TheVariants as event
use Rattle.clk_base.specs.declared.event.Turn.TheVariants as turn
use Rattle.clk_model.specs.State.{State, Change}
use Rattle.clk_model.specs.Chain.{clock_id}
use Rattle.clk_model.specs.Notices.{Rates, notifiers_of, abort_list}
use Rattle.clk_model.specs.Step.{missed_by, todo, rest_of, taken, sets_parent, cut_short, aborts_of, on, timed_out, to_raise, most_polls, raise_one, poll, is_yes, stepped}
use Rattle.clk_model.specs.Machine.{comes_next, is_poll}
use Rattle.clk_model.specs.Laws.EndCauses.{noes_after, is_last_no}
use Rattle.clk_model.specs.Laws.Flight.{is_no_abort, is_no_post, IsFront, nothing, polling, polling_first, raise_again, lower_again, falling, telling}
use Rattle.clk_model.proofs.Cases.{by_option}
use Rattle.clk_model.proofs.FlightLaws.{next_is, first_none}
use Rattle.clk_model.proofs.Members.{test_same, same_from_test}
use Rattle.clk_model.proofs.NoneLaws.{none_front, none_rest, none_append, none_map, none_flat_map, none_if}
use Rattle.clk_model.proofs.StepLaws.{raises, IsAfter, step_after}
use Rattle.clk_model.proofs.RaisedStepLaws.{taken_none}

-- the PLL that is polled next has as many polls left as it hasn't answered no
abbrev pub Counts : Change → List ℕ → Type 0
Counts k noes = (y : ClockId) (rest : List Micro) → k.front ≡ micro.Poll y ∷ rest → count_by (λ w. nat_eq w y.0) noes + k.polls ≡ most_polls

-- what a step makes of the flag and of the counts
pub record Tells (k : Change) (noes : List ℕ) (e : Event) (o : Option Change) : Type 0 where
  pub after : Change
  pub is : o ≡ Some after
  pub flag : (after.timed_out ≡ true) ↔ ((k.timed_out ≡ true) ⊎ ((y : ℕ) × (is_last_no y noes e ≡ true)))
  pub counts : Counts after (noes_after noes e)

-- the flag stays where an event is no last poll
stays : (late : Bool) (noes : List ℕ) (e : Event) → ((y : ℕ) → is_last_no y noes e ≡ false) → (late ≡ true) ↔ ((late ≡ true) ⊎ ((y : ℕ) × (is_last_no y noes e ≡ true)))
stays late noes e none = (λ is. inl is, λ either. by either) where
  by : (late ≡ true) ⊎ ((y : ℕ) × (is_last_no y noes e ≡ true)) → late ≡ true
  by (inl is) = is
  by (inr last) = let no : false ≡ true = sym (none last.0) ∙ last.1 in absurd cc

-- ---- polls

yes_is_no_last : (noes : List ℕ) (y z : ClockId) (answer : Option Bool) → is_yes answer ≡ true → is_last_no z.0 noes (event.Step (micro.Poll y) answer) ≡ false
yes_is_no_last noes y z answer yes_ = by (nat_eq y.0 z.0) (is_yes answer) yes_ where
  by : (t u : Bool) → u ≡ true → (t && not u && nat_le most_polls (count_by (λ w. nat_eq w z.0) noes + 1)) ≡ false
  by t false e = absurd cc
  by true true e = refl
  by false true e = refl

-- a poll that has more to come isn't the last one
more_is_no_last : (noes : List ℕ) (y : ClockId) (answer : Option Bool) (polls : ℕ) → count_by (λ w. nat_eq w y.0) noes + polls ≡ most_polls → nat_le polls 1 ≡ false
    → (z : ℕ) → is_last_no z noes (event.Step (micro.Poll y) answer) ≡ false
more_is_no_last noes y answer polls sum more z = by (nat_eq y.0 z) refl where
  short : nat_le most_polls (count_by (λ w. nat_eq w y.0) noes + 1) ≡ false
  short = grind (arith, nat_tests)

  off : (u : Bool) → (u && nat_le most_polls (count_by (λ w. nat_eq w y.0) noes + 1)) ≡ false
  off true = short
  off false = refl

  by : (t : Bool) → nat_eq y.0 z ≡ t → (t && not (is_yes answer) && nat_le most_polls (count_by (λ w. nat_eq w z) noes + 1)) ≡ false
  by false e = refl
  by true e = subst (λ (x : ℕ). (true && not (is_yes answer) && nat_le most_polls (count_by (λ w. nat_eq w x) noes + 1)) ≡ false) (same_from_test y.0 z e) (off (not (is_yes answer)))

-- the last one is
last_is : (noes : List ℕ) (y : ClockId) (answer : Option Bool) (polls : ℕ) → count_by (λ w. nat_eq w y.0) noes + polls ≡ most_polls → nat_le polls 1 ≡ true → is_yes answer ≡ false
    → is_last_no y.0 noes (event.Step (micro.Poll y) answer) ≡ true
last_is noes y answer polls sum few denied =
    let long : nat_le most_polls (count_by (λ w. nat_eq w y.0) noes + 1) ≡ true = grind (arith, nat_tests) in
    three (nat_eq y.0 y.0) (is_yes answer) (nat_le most_polls (count_by (λ w. nat_eq w y.0) noes + 1)) (test_same y.0) denied long where
      three : (a b c : Bool) → a ≡ true → b ≡ false → c ≡ true → (a && not b && c) ≡ true
      three true false true p q r = refl
      three false b c p q r = absurd cc
      three true true c p q r = absurd cc
      three true false false p q r = absurd cc

not_one_less : (n : ℕ) → nat_le n 1 ≡ false → 1 + (n - 1) ≡ n
not_one_less n e = grind (arith, nat_tests)

-- ---- what stands in front

pub none_where : (p q : Micro → Bool) (ms : List Micro) → ((m : Micro) → p m ≡ false → q m ≡ false) → list_any p ms ≡ false → list_any q ms ≡ false
none_where p q [] each none = refl
none_where p q (m ∷ ms) each none = both (q m) (each m (none_front p m ms none)) (none_where p q ms each (none_rest p m ms none)) where
  both : (t : Bool) → t ≡ false → list_any q ms ≡ false → (t || list_any q ms) ≡ false
  both true e rest = absurd cc
  both false e rest = rest

pub abort_calm : (m : Micro) → is_no_abort m ≡ false → raises m ≡ false
abort_calm (micro.Notify kind c id old new) e = refl
abort_calm (micro.Raise x) e = absurd cc
abort_calm (micro.Poll x) e = absurd cc
abort_calm _ e = refl

pub post_calm : (m : Micro) → is_no_post m ≡ false → raises m ≡ false
post_calm (micro.Notify kind c id old new) e = refl
post_calm (micro.Raise x) e = absurd cc
post_calm (micro.Poll x) e = absurd cc
post_calm _ e = refl

calm_polls : (m : Micro) → raises m ≡ false → is_poll m ≡ false
calm_polls (micro.Poll x) e = absurd cc
calm_polls _ e = refl

falls_calm : (raised : List ℕ) (aborts : List Micro) → list_any raises aborts ≡ false → list_any raises (map (λ z. micro.Fall (clock_id z)) raised ++ aborts) ≡ false
falls_calm raised aborts none = none_append raises (map (λ z. micro.Fall (clock_id z)) raised) aborts (none_map raises (λ z. micro.Fall (clock_id z)) raised (λ z. refl)) none

aborts_calm : (s : State) (k : Change) → list_any raises (aborts_of s k) ≡ false
aborts_calm s k =
    none_if raises (sets_parent k.call) (abort_list rates s.notifiers k.changing) []
    (none_flat_map raises _ k.changing (λ c. none_map raises (λ n. micro.Notify notice.Abort (clock_id c) n.id (slice_index rates.before c) (slice_index rates.outcome c)) (notifiers_of s.notifiers c) (λ n. refl))) refl where
      rates : Rates
      rates = record { before = k.before; outcome = k.outcome }

-- where no poll stands in front there is nothing to count
pub no_polls : (k : Change) (noes : List ℕ) → list_any is_poll k.front ≡ false → Counts k noes
no_polls k noes none y rest at = let no : true ≡ false = sym (ap (λ (ms : List Micro). list_any is_poll ms) at) ∙ none in absurd cc

-- ---- steps

one_more : (y : ℕ) (noes : List ℕ) → count_by (λ w. nat_eq w y) (y ∷ noes) ≡ 1 + count_by (λ w. nat_eq w y) noes
one_more y noes = sum_by-cons (λ w. cond (nat_eq w y) 1 0) y noes ∙ ap (λ (b : Bool). cond b 1 0 + count_by (λ w. nat_eq w y) noes) (test_same y)

polled : (s : State) (k : Change) (noes : List ℕ) (y : ClockId) (answer : Option Bool) → list_any is_poll k.front ≡ false → 0 < k.polls → count_by (λ w. nat_eq w y.0) noes + k.polls ≡ most_polls
    → Tells k noes (event.Step (micro.Poll y) answer) (stepped s k answer (micro.Poll y)).0.change
unfolding stepped
polled s k noes y answer none some sum = by (is_yes answer) refl (nat_le k.polls 1) refl where
  asked : Event
  asked = event.Step (micro.Poll y) answer

  by : (b : Bool) → is_yes answer ≡ b → (few : Bool) → nat_le k.polls 1 ≡ few → Tells k noes (event.Step (micro.Poll y) answer) (poll s k y.0 b).change
  by true e few f = record {
    after = record k { polls = 0 };
    is = refl;
    flag = stays k.timed_out noes (event.Step (micro.Poll y) answer) (λ z. yes_is_no_last noes y (clock_id z) answer e);
    counts = no_polls (record k { polls = 0 }) (noes_after noes (event.Step (micro.Poll y) answer)) none;
  }
  by false e true f =
      let late : Change = record k {
        polls = 0;
        timed_out = true;
        again = 0;
        extra = 0;
        front = map (λ z. micro.Fall (clock_id z)) k.raised ++ aborts_of s (record k { polls = 0 });
        left = cut_short k.call k.left;
        missed = missed_by k.call k.left;
      } in
      record {
        after = late;
        is = ap (λ (b : Bool). (cond b (timed_out s (record k { polls = 0 })) (on s (record k { polls = k.polls - 1; front = micro.Poll (clock_id y.0) ∷ k.front }))).change) f;
        flag = (λ _. inr (y.0, last_is noes y answer k.polls sum f e), λ _. refl);
        counts = no_polls late (noes_after noes (event.Step (micro.Poll y) answer))
            (none_where raises is_poll (map (λ z. micro.Fall (clock_id z)) k.raised ++ aborts_of s (record k { polls = 0 })) calm_polls (falls_calm k.raised (aborts_of s (record k { polls = 0 })) (aborts_calm s (record k { polls = 0 }))));
      }
  by false e false f =
      let more : Change = record k { polls = k.polls - 1; front = micro.Poll (clock_id y.0) ∷ k.front } in
      record {
        after = more;
        is = ap (λ (b : Bool). (cond b (timed_out s (record k { polls = 0 })) (on s (record k { polls = k.polls - 1; front = micro.Poll (clock_id y.0) ∷ k.front }))).change) f;
        flag = stays k.timed_out noes (event.Step (micro.Poll y) answer) (more_is_no_last noes y answer k.polls sum f);
        counts = λ z rest at.
            let is : y.0 ≡ z.0 = ap (λ (ms : List Micro). polled_in y.0 ms) at in
            let less = not_one_less k.polls f in
            let count = one_more y.0 noes in
            subst (λ (x : ℕ). count_by (λ w. nat_eq w x) (cond (is_yes answer) noes (y.0 ∷ noes)) + (k.polls - 1) ≡ most_polls) is
            (subst (λ (b : Bool). count_by (λ w. nat_eq w y.0) (cond b noes (y.0 ∷ noes)) + (k.polls - 1) ≡ most_polls) (sym e) (omega arith));
      } where
        polled_in : ℕ → List Micro → ℕ
        polled_in d (micro.Poll z ∷ ms) = z.0
        polled_in d ms = d

raised_next : (s : State) (k : Change) (noes : List ℕ) (x : ClockId) (answer : Option Bool) → list_any is_poll k.front ≡ false
    → Tells k noes (event.Step (micro.Raise x) answer) (stepped s k answer (micro.Raise x)).0.change
unfolding stepped
raised_next s k noes x answer none =
    by_option (λ u. Tells k noes (event.Step (micro.Raise x) answer) u.change) (slice_get (reverse (to_raise s k x.0)) 0) (raise_one s k x.0) (on s (record k { again = 0 }))
    (record { after = record k { again = 0 }; is = refl; flag = stays k.timed_out noes (event.Step (micro.Raise x) answer) (λ y. refl); counts = no_polls (record k { again = 0 }) [] none })
    (λ y. record {
      after = record k {
        raised = y ∷ k.raised;
        polls = most_polls;
        again = cond (nat_le 2 (length (to_raise s k x.0))) (k.again + 1) 0;
        front = micro.Poll (clock_id y) ∷ (cond (nat_le 2 (length (to_raise s k x.0))) (micro.Raise (clock_id x.0) ∷ []) []) ++ k.front;
      };
      is = refl;
      flag = stays k.timed_out noes (event.Step (micro.Raise x) answer) (λ z. refl);
      counts = λ z rest at. refl;
    })

calm_noes : (noes : List ℕ) (m : Micro) (answer : Option Bool) → raises m ≡ false → (noes_after noes (event.Step m answer) ≡ noes) × ((y : ℕ) → is_last_no y noes (event.Step m answer) ≡ false)
calm_noes noes (micro.Raise x) answer e = absurd cc
calm_noes noes (micro.Poll x) answer e = absurd cc
calm_noes noes _ answer e = (refl, λ y. refl)

-- a step that neither raises nor polls, where neither stands in front of what is behind it
calm_step : (s : State) (k : Change) (noes : List ℕ) (m : Micro) (answer : Option Bool) → raises m ≡ false → list_any raises k.front ≡ false → (stepped s k answer m).1 ≡ turn.Going
    → Tells k noes (event.Step m answer) (stepped s k answer m).0.change
calm_step s k noes m answer gentle none going =
    let after = step_after s k answer m going in
    let is : IsAfter m k after.0 = after.2 in
    let noes_stay = calm_noes noes m answer gentle in
    record {
      after = after.0;
      is = after.1;
      flag = subst (λ (b : Bool). (b ≡ true) ↔ ((k.timed_out ≡ true) ⊎ ((y : ℕ) × (is_last_no y noes (event.Step m answer) ≡ true)))) (sym (same_flag after.0 is.left))
          (stays k.timed_out noes (event.Step m answer) noes_stay.1);
      counts = no_polls after.0 (noes_after noes (event.Step m answer)) (none_where raises is_poll after.0.front calm_polls (is.calm gentle none));
    } where
      same_flag : (k' : Change) → ((k'.left ≡ k.left) × (k'.timed_out ≡ k.timed_out) × (k'.missed ≡ k.missed)) ⊎ ((raises m ≡ true) × (k'.left ≡ cut_short k.call k.left) × (k'.timed_out ≡ true)) → k'.timed_out ≡ k.timed_out
      same_flag k' (inl same) = same.1
      same_flag k' (inr late) = let no : true ≡ false = sym late.0 ∙ gentle in absurd cc

-- a step that isn't a poll
other_step : (s : State) (k : Change) (noes : List ℕ) (m : Micro) (answer : Option Bool) → is_poll m ≡ false → list_any raises k.front ≡ false → (stepped s k answer m).1 ≡ turn.Going
    → Tells k noes (event.Step m answer) (stepped s k answer m).0.change
other_step s k noes (micro.Poll y) answer isnt none going = absurd cc
other_step s k noes (micro.Raise x) answer isnt none going = raised_next s k noes x answer (none_where raises is_poll k.front calm_polls none)
other_step s k noes (micro.Notify kind c id old new) answer isnt none going = calm_step s k noes (micro.Notify kind c id old new) answer refl none going
other_step s k noes (micro.Fall y) answer isnt none going = calm_step s k noes (micro.Fall y) answer refl none going
other_step s k noes (micro.HoldPrepare y) answer isnt none going = calm_step s k noes (micro.HoldPrepare y) answer refl none going
other_step s k noes (micro.HoldEnable y) answer isnt none going = calm_step s k noes (micro.HoldEnable y) answer refl none going
other_step s k noes (micro.Relink c p) answer isnt none going = calm_step s k noes (micro.Relink c p) answer refl none going
other_step s k noes (micro.WriteMux c place) answer isnt none going = calm_step s k noes (micro.WriteMux c place) answer refl none going
other_step s k noes (micro.DropEnable y) answer isnt none going = calm_step s k noes (micro.DropEnable y) answer refl none going
other_step s k noes (micro.DropPrepare y) answer isnt none going = calm_step s k noes (micro.DropPrepare y) answer refl none going
other_step s k noes (micro.Lower y) answer isnt none going = calm_step s k noes (micro.Lower y) answer refl none going
other_step s k noes (micro.Visit y) answer isnt none going = calm_step s k noes (micro.Visit y) answer refl none going
other_step s k noes (micro.Register y) answer isnt none going = calm_step s k noes (micro.Register y) answer refl none going
other_step s k noes (micro.Settle y) answer isnt none going = calm_step s k noes (micro.Settle y) answer refl none going
other_step s k noes (micro.Close y) answer isnt none going = calm_step s k noes (micro.Close y) answer refl none going
other_step s k noes (micro.Unpower y) answer isnt none going = calm_step s k noes (micro.Unpower y) answer refl none going
other_step s k noes micro.End answer isnt none going = calm_step s k noes micro.End answer refl none going

-- ---- each step

-- what comes next, where this stands in front
first_in : (k : Change) (m : Micro) (front : List Micro) → comes_next m (todo k) ≡ true → k.front ≡ front → comes_next m (front ++ k.left) ≡ true
first_in k m front first is = ap (λ (ms : List Micro). comes_next m (ms ++ k.left)) (sym is) ∙ first

poll_step : (s : State) (k : Change) (noes : List ℕ) (m : Micro) (answer : Option Bool) (y : ClockId) (rest : List Micro) → Counts k noes → comes_next m (todo k) ≡ true → 0 < k.polls
    → k.front ≡ micro.Poll y ∷ rest → list_any is_poll rest ≡ false → Tells k noes (event.Step m answer) (stepped s (taken k) answer m).0.change
poll_step s k noes m answer y rest counts first some is none =
    subst (λ (n : Micro). Tells k noes (event.Step n answer) (stepped s (taken k) answer n).0.change) (next_is m (micro.Poll y) (rest ++ k.left) (first_in k m (micro.Poll y ∷ rest) first is))
    (told (polled s (taken k) noes y answer (ap (λ (ms : List Micro). list_any is_poll (rest_of ms)) is ∙ none) some (counts y rest is))) where
      told : {e : Event} {o : Option Change} → Tells (taken k) noes e o → Tells k noes e o
      told tells = record { after = tells.after; is = tells.is; flag = tells.flag; counts = tells.counts }

quiet_step : (s : State) (k : Change) (noes : List ℕ) (m : Micro) (answer : Option Bool) → list_any is_poll k.left ≡ false → comes_next m (todo k) ≡ true → (stepped s (taken k) answer m).1 ≡ turn.Going
    → list_any is_poll k.front ≡ false → list_any raises (rest_of k.front) ≡ false → Tells k noes (event.Step m answer) (stepped s (taken k) answer m).0.change
quiet_step s k noes m answer left first going none calm =
    told (other_step s (taken k) noes m answer (first_none is_poll m (todo k) first (none_append is_poll k.front k.left none left)) calm going) where
      told : {e : Event} {o : Option Change} → Tells (taken k) noes e o → Tells k noes e o
      told tells = record { after = tells.after; is = tells.is; flag = tells.flag; counts = tells.counts }

-- what each step makes of the flag and of the counts
pub step_tells : (s : State) (k : Change) (noes : List ℕ) (m : Micro) (answer : Option Bool) → IsFront k → list_any is_poll k.left ≡ false → Counts k noes → comes_next m (todo k) ≡ true
    → (stepped s (taken k) answer m).1 ≡ turn.Going → Tells k noes (event.Step m answer) (stepped s (taken k) answer m).0.change
step_tells s k noes m answer (nothing is) left counts first going =
    quiet_step s k noes m answer left first going (ap (λ (ms : List Micro). list_any is_poll ms) is) (ap (λ (ms : List Micro). list_any raises (rest_of ms)) is)
step_tells s k noes m answer (polling y some is) left counts first going = poll_step s k noes m answer y [] counts first some is refl
step_tells s k noes m answer (polling_first y x some is) left counts first going = poll_step s k noes m answer y (micro.Raise x ∷ []) counts first some is refl
step_tells s k noes m answer (raise_again x is) left counts first going =
    quiet_step s k noes m answer left first going (ap (λ (ms : List Micro). list_any is_poll ms) is) (ap (λ (ms : List Micro). list_any raises (rest_of ms)) is)
step_tells s k noes m answer (lower_again x is) left counts first going =
    quiet_step s k noes m answer left first going (ap (λ (ms : List Micro). list_any is_poll ms) is) (ap (λ (ms : List Micro). list_any raises (rest_of ms)) is)
step_tells s k noes m answer (falling aborts late only is) left counts first going =
    let calm = ap (λ (ms : List Micro). list_any raises ms) is ∙ falls_calm k.raised aborts (none_where is_no_abort raises aborts abort_calm only) in
    quiet_step s k noes m answer left first going (none_where raises is_poll k.front calm_polls calm) (taken_none k.front calm)
step_tells s k noes m answer (telling only) left counts first going =
    let calm = none_where is_no_post raises k.front post_calm only in
    quiet_step s k noes m answer left first going (none_where raises is_poll k.front calm_polls calm) (taken_none k.front calm)
