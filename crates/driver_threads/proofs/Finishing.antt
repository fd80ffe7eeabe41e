-- From drivers that have worked side by side to the journal that they leave.
use Rattle.std.proofs.Common.{◌≡◌, ℕ, suc, ◌+◌, ◌<◌, ◌≤◌, ◌&&◌, not, Bool, true, false, cond, List, [], ◌∷◌, ◌++◌, Option, Some, All, refl, sym, ap, subst, ◌∙◌, arith, length, map, nat_eq, nat_lt}
use Rattle.std.specs.Prelude.{Contains}
use Rattle.std.specs.List.{list_all}
use Rattle.std.proofs.lemmas.Bool.{and_from}
use Rattle.std.proofs.lemmas.Bool.Decides.{nat_tests}
use Rattle.std.proofs.lemmas.List.{append-nil, length-append}
use Rattle.std.proofs.lemmas.List.Elements.{All-nil, All-cons, All-head, All-tail}
use Rattle.atomic_table.specs.Seated.{TableId}
use Rattle.clk_base.specs.declared.command.Answer.{Answer}
use Rattle.clk_base.specs.declared.command.Command.{Command}
use Rattle.clk_base.specs.declared.event.Entry.{Entry}
use Rattle.clk_model.specs.Journal.{Answered, own, calls_of, one_after_the_other}
use Rattle.clk_model.specs.Follows.{Variables, no_handles, Follows, FollowsFrom}
use Rattle.clk_model.specs.Ordered.{after_boot}
use Rattle.clk_model.proofs.CallLaws.{own-append}
use Rattle.clk_model.proofs.Members.{both_left, both_right}
use Rattle.tier_lock.specs.Entries.{IsPrefix, AreBelow}
use Rattle.clk_framework.specs.Calls.{DriverView, IsReady}
use Rattle.driver_runs.specs.Drivers.{FollowAll, are_among, boot_first}
use Rattle.driver_runs.proofs.Following.{calls_alone}
use Rattle.driver_threads.specs.Going.{GoesThrough}
use Rattle.driver_threads.specs.Workers.{HaveWorked, newcomer, newcomers}
use Rattle.driver_threads.proofs.Going.{same_ready}

-- ---- what one driver has gone through

-- its calls follow its commands
goes_follows : (old new : DriverView) (held held' : Variables) (commands : List Command) (answers : List Answer) (goes : GoesThrough old held commands answers held' new)
    → FollowsFrom held commands (calls_of goes.entries) answers
goes_follows old new held held' commands answers goes =
    subst (λ (cs : List Command). FollowsFrom held cs (calls_of goes.entries) answers) (append-nil commands)
    (subst (λ (ls : List Answered). FollowsFrom held (commands ++ []) ls answers) (append-nil (calls_of goes.entries))
    (subst (λ (as_ : List Answer). FollowsFrom held (commands ++ []) (calls_of goes.entries ++ []) as_) (append-nil answers) (goes.follows [] [] [] tt)))

-- a driver that had no entry, and whose entries stand in a journal as its own: it has its calls once there, in their order, one after the other
pub record HasItsCalls (commands : List Command) (answers : List Answer) (journal : List Entry) (d : ℕ) : Type 0 where
  pub follow : Follows commands (calls_of (own journal d)) answers
  pub alone : one_after_the_other false (own journal d) ≡ true

pub its_calls : (old new : DriverView) (held' : Variables) (commands : List Command) (answers : List Answer) (journal : List Entry) (d : ℕ) → old.mine ≡ [] → old.number ≡ d
    → GoesThrough old (no_handles commands) commands answers held' new → own journal d ≡ new.mine → HasItsCalls commands answers journal d
its_calls old new held' commands answers journal d none number goes mine =
    let entries : own journal d ≡ goes.entries = mine ∙ ap (λ (v : DriverView). v.mine) goes.driver ∙ ap (λ (es : List Entry). es ++ goes.entries) none in
    record {
      follow = subst (λ (es : List Entry). Follows commands (calls_of es) answers) (sym entries) (goes_follows old new (no_handles commands) held' commands answers goes);
      alone = subst (λ (es : List Entry). one_after_the_other false es ≡ true) (sym entries) (calls_alone old.number false goes.entries goes.own);
    }

-- ---- the drivers side by side

-- each has its calls in the journal
pub all_follow : (first : DriverView) (n : ℕ) (scripts : List (List Command)) (news : List DriverView) (answers : List (List Answer)) (journal : List Entry)
    → HaveWorked (newcomers first n scripts) scripts news (map Some answers) → All (λ d. own journal d.number ≡ d.mine) news → FollowAll n scripts answers journal
all_follow first n [] [] [] journal worked mine = tt
all_follow first n [] [] (a ∷ answers) journal worked mine = absurd worked
all_follow first n [] (d ∷ news) [] journal worked mine = absurd worked
all_follow first n [] (d ∷ news) (a ∷ answers) journal worked mine = absurd worked
all_follow first n (c ∷ scripts) [] [] journal worked mine = absurd worked
all_follow first n (c ∷ scripts) [] (a ∷ answers) journal worked mine = absurd worked
all_follow first n (c ∷ scripts) (d ∷ news) [] journal worked mine = absurd worked
all_follow first n (c ∷ scripts) (d ∷ news) (a ∷ answers) journal worked mine =
    let number : d.number ≡ n = ap (λ (v : DriverView). v.number) worked.0.same in
    let its = its_calls (newcomer first n c) d worked.0.went.0 c a journal n refl refl worked.0.went.1
    (subst (λ (k : ℕ). own journal k ≡ d.mine) number (All-head (λ v. own journal v.number ≡ v.mine) d news mine)) in (
      its.follow,
      its.alone,
      all_follow first (n + 1) scripts news answers journal worked.1 (All-tail (λ v. own journal v.number ≡ v.mine) d news mine),
    )

-- each is between two calls
pub all_ready : (table : TableId) (first : DriverView) (n : ℕ) (scripts : List (List Command)) (news : List DriverView) (answers : List (Option (List Answer))) → first.table ≡ table
    → HaveWorked (newcomers first n scripts) scripts news answers → All (λ d. IsReady table d) news
all_ready table first n [] [] [] same worked = All-nil (λ d. IsReady table d)
all_ready table first n [] [] (a ∷ answers) same worked = absurd worked
all_ready table first n [] (d ∷ news) [] same worked = absurd worked
all_ready table first n [] (d ∷ news) (a ∷ answers) same worked = absurd worked
all_ready table first n (c ∷ scripts) [] [] same worked = absurd worked
all_ready table first n (c ∷ scripts) [] (a ∷ answers) same worked = absurd worked
all_ready table first n (c ∷ scripts) (d ∷ news) [] same worked = absurd worked
all_ready table first n (c ∷ scripts) (d ∷ news) (a ∷ answers) same worked =
    All-cons (λ v. IsReady table v) d news (same_ready table (newcomer first n c) d worked.0.same record { table_is = same; turn = refl; baton = refl })
    (all_ready table first (n + 1) scripts news answers same worked.1)

-- they are as many as the scripts, and numbered from this one on
pub numbered : (first : DriverView) (n : ℕ) (scripts : List (List Command)) (news : List DriverView) (answers : List (Option (List Answer)))
    → HaveWorked (newcomers first n scripts) scripts news answers → (k : ℕ) → n ≤ k → k < n + length scripts → (d : DriverView) × Contains news d × (d.number ≡ k)
numbered first n [] [] [] worked k low high = absurd (omega (arith, low, high))
numbered first n [] [] (a ∷ answers) worked k low high = absurd worked
numbered first n [] (d ∷ news) [] worked k low high = absurd worked
numbered first n [] (d ∷ news) (a ∷ answers) worked k low high = absurd worked
numbered first n (c ∷ scripts) [] [] worked k low high = absurd worked
numbered first n (c ∷ scripts) [] (a ∷ answers) worked k low high = absurd worked
numbered first n (c ∷ scripts) (d ∷ news) [] worked k low high = absurd worked
numbered first n (c ∷ scripts) (d ∷ news) (a ∷ answers) worked k low high =
    by (nat_eq n k) refl (λ other. numbered first (n + 1) scripts news answers worked.1 k (above (nat_eq n k) refl other) (omega (arith, high))) where
      above : (b : Bool) → nat_eq n k ≡ b → b ≡ false → n + 1 ≤ k
      above true same differs = absurd cc
      above false other differs = grind (arith, nat_tests)

      by : (b : Bool) → nat_eq n k ≡ b → (nat_eq n k ≡ false → (v : DriverView) × Contains news v × (v.number ≡ k)) → (v : DriverView) × Contains (d ∷ news) v × (v.number ≡ k)
      by true same rest =
          let is : n ≡ k = grind (arith, nat_tests) in
          (d, (0, omega arith, refl), ap (λ (v : DriverView). v.number) worked.0.same ∙ is)
      by false other rest =
          let more = rest other in
          (more.0, (suc more.1.0, (let less = more.1.1 in omega (arith, less)), more.1.2), more.2)

-- ---- who makes entries

pub below_among : (count : ℕ) (journal : List Entry) → AreBelow (λ e. e.driver) count journal → are_among count journal ≡ true
below_among count [] below = refl
below_among count (e ∷ es) below =
    and_from (nat_lt e.driver count) (are_among count es) (test e.driver (All-head (λ f. f.driver < count) e es below)) (below_among count es (All-tail (λ f. f.driver < count) e es below)) where
      test : (n : ℕ) → n < count → nat_lt n count ≡ true
      test n less = grind (arith, nat_tests)

-- ---- boot comes first

-- the entries of driver 0 in a list are its own again
own_own : (es : List Entry) → own (own es 0) 0 ≡ own es 0
own_own [] = refl
own_own (e ∷ es) = by (nat_eq e.driver 0) refl (own_own es) where
  by : (b : Bool) → nat_eq e.driver 0 ≡ b → own (own es 0) 0 ≡ own es 0 → own (cond b (e ∷ own es 0) (own es 0)) 0 ≡ cond b (e ∷ own es 0) (own es 0)
  by true is rest = ap (λ (b : Bool). cond b (e ∷ own (own es 0) 0) (own (own es 0) 0)) is ∙ ap (λ (xs : List Entry). e ∷ xs) rest
  by false is rest = rest

-- a list to which nothing is added
none_added : {X : Type 0} (xs ys : List X) → xs ++ ys ≡ xs → ys ≡ []
none_added xs [] same = refl
none_added xs (y ∷ ys) same = let few = ap length same in absurd (omega (arith, few, length-append xs (y ∷ ys)))

-- a list that is all driver 0's own
all_zero : (es : List Entry) → own es 0 ≡ es → list_all (λ e. nat_eq e.driver 0) es ≡ true
all_zero [] same = refl
all_zero (e ∷ es) same = by (nat_eq e.driver 0) refl (λ rest. all_zero es rest) where
  tails : {xs ys : List Entry} {x y : Entry} → x ∷ xs ≡ y ∷ ys → xs ≡ ys
  tails h = cc

  by : (b : Bool) → nat_eq e.driver 0 ≡ b → (own es 0 ≡ es → list_all (λ f. nat_eq f.driver 0) es ≡ true) → (nat_eq e.driver 0 && list_all (λ f. nat_eq f.driver 0) es) ≡ true
  by true is rest = and_from (nat_eq e.driver 0) (list_all (λ f. nat_eq f.driver 0) es) is (rest (tails (sym (ap (λ (b : Bool). cond b (e ∷ own es 0) (own es 0)) is) ∙ same)))
  by false is rest =
      let fewer : own es 0 ≡ e ∷ es = sym (ap (λ (b : Bool). cond b (e ∷ own es 0) (own es 0)) is) ∙ same in
      let count = ap length fewer in
      let most = own_length es in
      absurd (omega (arith, count, most)) where
        own_length : (xs : List Entry) → length (own xs 0) ≤ length xs
        own_length [] = omega arith
        own_length (x ∷ xs) = pick (nat_eq x.driver 0) (own_length xs) where
          pick : (b : Bool) → length (own xs 0) ≤ length xs → length (cond b (x ∷ own xs 0) (own xs 0)) ≤ suc (length xs)
          pick true less = omega (arith, less)
          pick false less = omega (arith, less)

-- and one that has none of it
none_zero : (es : List Entry) → own es 0 ≡ [] → list_all (λ e. not (nat_eq e.driver 0)) es ≡ true
none_zero [] none = refl
none_zero (e ∷ es) none = by (nat_eq e.driver 0) refl (λ rest. none_zero es rest) where
  by : (b : Bool) → nat_eq e.driver 0 ≡ b → (own es 0 ≡ [] → list_all (λ f. not (nat_eq f.driver 0)) es ≡ true)
      → (not (nat_eq e.driver 0) && list_all (λ f. not (nat_eq f.driver 0)) es) ≡ true
  by true is rest = let no : e ∷ own es 0 ≡ [] = sym (ap (λ (b : Bool). cond b (e ∷ own es 0) (own es 0)) is) ∙ none in absurd cc
  by false is rest =
      and_from (not (nat_eq e.driver 0)) (list_all (λ f. not (nat_eq f.driver 0)) es) (ap not is) (rest (sym (ap (λ (b : Bool). cond b (e ∷ own es 0) (own es 0)) is) ∙ none))

-- behind boot's entries stands none of boot
behind_boot : (es rest : List Entry) → list_all (λ e. nat_eq e.driver 0) es ≡ true → after_boot (es ++ rest) ≡ after_boot rest
behind_boot [] rest all = refl
behind_boot (e ∷ es) rest all =
    ap (λ (b : Bool). cond b (after_boot (es ++ rest)) (e ∷ (es ++ rest))) (both_left (nat_eq e.driver 0) (list_all (λ f. nat_eq f.driver 0) es) all)
    ∙ behind_boot es rest (both_right (nat_eq e.driver 0) (list_all (λ f. nat_eq f.driver 0) es) all)

stays_behind : (es : List Entry) → list_all (λ e. not (nat_eq e.driver 0)) es ≡ true → list_all (λ e. not (nat_eq e.driver 0)) (after_boot es) ≡ true
stays_behind [] all = refl
stays_behind (e ∷ es) all = by (nat_eq e.driver 0) refl where
  by : (b : Bool) → nat_eq e.driver 0 ≡ b → list_all (λ f. not (nat_eq f.driver 0)) (cond b (after_boot es) (e ∷ es)) ≡ true
  by true is =
      let no : not true ≡ true = sym (ap not is) ∙ both_left (not (nat_eq e.driver 0)) (list_all (λ f. not (nat_eq f.driver 0)) es) all in
      absurd cc
  by false is = all

-- where driver 0's entries are what stands in front, boot's entries stand before all others
pub boot_before : (seen journal : List Entry) → IsPrefix seen journal → own journal 0 ≡ seen → boot_first journal ≡ true
boot_before seen journal front mine =
    let again : own seen 0 ≡ seen = sym (ap (λ (es : List Entry). own es 0) mine) ∙ own_own journal ∙ mine in
    let none : own front.rest 0 ≡ [] =
    none_added seen (own front.rest 0)
    (sym (ap (λ (es : List Entry). es ++ own front.rest 0) again) ∙ sym (own-append seen front.rest 0) ∙ sym (ap (λ (es : List Entry). own es 0) front.whole) ∙ mine) in
    ap (λ (es : List Entry). list_all (λ e. not (nat_eq e.driver 0)) (after_boot es)) front.whole
    ∙ ap (λ (es : List Entry). list_all (λ e. not (nat_eq e.driver 0)) es) (behind_boot seen front.rest (all_zero seen again))
    ∙ stays_behind front.rest (none_zero front.rest none)
