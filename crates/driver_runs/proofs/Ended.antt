-- What a course of events comes to: a core that has run boot and the drivers.
use Rattle.std.proofs.Common.{◌≡◌, ℕ, suc, ◌+◌, ◌<◌, ◌&&◌, not, Bool, true, false, cond, nat_eq, nat_lt, List, [], ◌∷◌, ◌++◌, None, refl, sym, ap, subst, ◌∙◌, arith, length, map}
use Rattle.std.specs.List.{list_all}
use Rattle.std.proofs.lemmas.Bool.{and_from}
use Rattle.std.proofs.lemmas.Bool.Decides.{nat_tests}
use Rattle.std.proofs.lemmas.List.{append-nil, length-map}
use Rattle.clk_base.specs.declared.command.Answer.{Answer}
use Rattle.clk_base.specs.declared.command.Command.{Command}
use Rattle.clk_base.specs.declared.event.Entry.{Entry}
use Rattle.clk_model.specs.Follows.{Variables, Follows, no_handles, FollowsFrom}
use Rattle.clk_model.specs.Journal.{Answered, own, calls_of, is_going, one_after_the_other, Legal}
use Rattle.clk_model.specs.Ordered.{Progress, at_start, OrderedFrom, after_boot}
use Rattle.clk_model.proofs.CallLaws.{own-append}
use Rattle.clk_model.proofs.Members.{both_left, both_right}
use Rattle.clk_machine.specs.Run.{Run}
use Rattle.drv_scripts.specs.declared.bundle.Script.{Script}
use Rattle.driver_runs.specs.Scripts.{are_calls, GoesThrough}
use Rattle.driver_runs.specs.Moves.{AllStand, AreDone}
use Rattle.driver_runs.specs.Courses.{are_drivers, Course}
use Rattle.driver_runs.specs.Drivers.{FollowAll, are_among}
use Rattle.driver_runs.specs.Turns.{scripts_with, HasRun}
use Rattle.driver_runs.specs.declared.standing.Standing.{Standing}
use Rattle.driver_runs.proofs.Going.{list_all-append}
use Rattle.driver_runs.proofs.Following.{own_all, own_before, among_more, among_own, calls_alone, goes_follows}
use Rattle.driver_runs.proofs.WholeCalls.{next_of}

-- the entries of drivers aren't boot's
own_zero : (n : ℕ) (es : List Entry) → are_drivers n es ≡ true → own es 0 ≡ []
own_zero n [] h = refl
own_zero n (e ∷ es) h =
    let these = both_left (nat_lt 0 e.driver && nat_lt e.driver (n + 1)) (are_drivers n es) h in
    let some = both_left (nat_lt 0 e.driver) (nat_lt e.driver (n + 1)) these in
    let other : nat_eq e.driver 0 ≡ false = grind (arith, nat_tests) in
    ap (λ (b : Bool). cond b (e ∷ own es 0) (own es 0)) other ∙ own_zero n es (both_right (nat_lt 0 e.driver && nat_lt e.driver (n + 1)) (are_drivers n es) h)

drivers_among : (n : ℕ) (es : List Entry) → are_drivers n es ≡ true → are_among (suc n) es ≡ true
drivers_among n [] h = refl
drivers_among n (e ∷ es) h =
    let these = both_left (nat_lt 0 e.driver && nat_lt e.driver (n + 1)) (are_drivers n es) h in
    let high = both_right (nat_lt 0 e.driver) (nat_lt e.driver (n + 1)) these in
    let most : nat_lt e.driver (suc n) ≡ true = grind (arith, nat_tests) in
    and_from (nat_lt e.driver (suc n)) (are_among (suc n) es) most (drivers_among n es (both_right (nat_lt 0 e.driver && nat_lt e.driver (n + 1)) (are_drivers n es) h))

no_boot : (n : ℕ) (es : List Entry) → are_drivers n es ≡ true → list_all (λ e. not (nat_eq e.driver 0)) es ≡ true
no_boot n [] h = refl
no_boot n (e ∷ es) h =
    let these = both_left (nat_lt 0 e.driver && nat_lt e.driver (n + 1)) (are_drivers n es) h in
    let some = both_left (nat_lt 0 e.driver) (nat_lt e.driver (n + 1)) these in
    let other : nat_eq e.driver 0 ≡ false = grind (arith, nat_tests) in
    and_from (not (nat_eq e.driver 0)) (list_all (λ e. not (nat_eq e.driver 0)) es) (ap not other)
    (no_boot n es (both_right (nat_lt 0 e.driver && nat_lt e.driver (n + 1)) (are_drivers n es) h))

-- boot's entries are passed over
boot_passed : (going : Bool) (es rest : List Entry) → are_calls 0 going es ≡ true → after_boot (es ++ rest) ≡ after_boot rest
boot_passed going [] rest h = refl
boot_passed going (e ∷ es) rest h =
    let is = next_of 0 going e es h in
    ap (λ (b : Bool). cond b (after_boot (es ++ rest)) (e ∷ (es ++ rest))) is.test ∙ boot_passed (is_going e.turn) es rest is.behind

-- and where boot has none, no entry is
none_passed : (journal : List Entry) → own journal 0 ≡ [] → after_boot journal ≡ journal
none_passed [] h = refl
none_passed (e ∷ es) h = pick (nat_eq e.driver 0) refl where
  pick : (b : Bool) → nat_eq e.driver 0 ≡ b → after_boot (e ∷ es) ≡ e ∷ es
  pick true is = let its : e ∷ own es 0 ≡ [] = sym (ap (λ (b : Bool). cond b (e ∷ own es 0) (own es 0)) is) ∙ h in absurd cc
  pick false is = ap (λ (b : Bool). cond b (after_boot es) (e ∷ es)) is

-- drivers that are done have their calls once, in their order, also behind entries of boot
follow_done : (n : ℕ) (drivers : List Script) (xs : List Standing) (ps : List Progress) (booted entries : List Entry) → are_among 1 booted ≡ true → 0 < n
    → AllStand None n drivers xs ps entries → AreDone drivers xs
    → FollowAll n (map (λ s. s.commands) drivers) (map (λ x. x.answers.items) xs) (booted ++ entries)
follow_done n [] [] ps booted entries boots some stand done = tt
follow_done n [] (x ∷ xs) ps booted entries boots some stand done = absurd done
follow_done n (s ∷ drivers) [] ps booted entries boots some stand done = absurd done
follow_done n (s ∷ drivers) (x ∷ xs) [] booted entries boots some stand done = absurd stand
follow_done n (s ∷ drivers) (x ∷ xs) (p ∷ ps) booted entries boots some stand done =
    let come = stand.0 in
    let none : own booted n ≡ [] = own_before n booted (among_more 1 n booted (omega (arith, some)) boots) in
    let mine : own (booted ++ entries) n ≡ own entries n = own-append booted entries n ∙ ap (λ (es : List Entry). es ++ own entries n) none in
    let follows = come.follows [] [] (subst (λ (cs : List Command). FollowsFrom x.held.items cs [] []) (sym done.0) tt) in
    let whole : Follows s.commands (calls_of (own entries n)) x.answers.items =
    subst (λ (ls : List Answered). FollowsFrom (no_handles s.commands) s.commands ls x.answers.items) (append-nil (calls_of (own entries n)))
    (subst (λ (as_ : List Answer). FollowsFrom (no_handles s.commands) s.commands (calls_of (own entries n) ++ []) as_) (append-nil x.answers.items) follows) in (
      subst (λ (es : List Entry). Follows s.commands (calls_of es) x.answers.items) (sym mine) whole,
      subst (λ (es : List Entry). one_after_the_other false es ≡ true) (sym mine) (calls_alone n false (own entries n) come.own),
      follow_done (n + 1) drivers xs ps booted entries boots (omega arith) stand.2 done.1,
    )

-- boot and the drivers have run, where boot did and then a course of events came to its end
pub has_run : (old first new : Run) (boot : List Command) (held : Variables) (own_ : List Answer) (drivers : List Script) (order : List ℕ) (xs : List Standing) → old.journal ≡ []
    → GoesThrough old 0 (no_handles boot) boot own_ held first → Course first drivers order xs None [] new → AreDone drivers xs
    → HasRun boot drivers order (own_ ∷ map (λ x. x.answers.items) xs) old new
has_run old first new boot held own_ drivers order xs begins boots course done =
    let booted = boots.entries in
    let entries = course.entries in
    let all : new.journal ≡ booted ++ entries = course.journal ∙ ap (λ (j : List Entry). j ++ entries) (boots.journal ∙ ap (λ (j : List Entry). j ++ booted) begins) in
    let first_among = among_own 0 false booted boots.own in
    let none = own_zero (length drivers) entries course.among in
    let mine : own (booted ++ entries) 0 ≡ booted =
    own-append booted entries 0 ∙ ap (λ (es : List Entry). own booted 0 ++ es) none ∙ append-nil (own booted 0) ∙ own_all 0 false booted boots.own in
    let behind : after_boot (booted ++ entries) ≡ entries = boot_passed false booted entries boots.own ∙ none_passed entries none in
    let count : suc (length drivers) ≡ suc (length (map (λ (s : Script). s.commands) drivers)) = ap suc (sym (length-map drivers (λ (s : Script). s.commands))) in
    record {
      start = course.start ∙ boots.start;
      told = course.told ∙ boots.told;
      behind = course.behind ∙ boots.behind;
      legal = λ told.
          course.legal (boots.told ∙ told) (boots.legal told (subst (Legal old.start) (sym begins) tt));
      follow = subst (FollowAll 0 (scripts_with boot drivers) (own_ ∷ map (λ x. x.answers.items) xs)) (sym all) (
        subst (λ (es : List Entry). Follows boot (calls_of es) own_) (sym mine)
            (goes_follows old first 0 (no_handles boot) held boot own_ boots),
        subst (λ (es : List Entry). one_after_the_other false es ≡ true) (sym mine) (calls_alone 0 false booted boots.own),
        follow_done 1 drivers xs course.progress booted entries first_among (omega arith) course.stand done,
      );
      among =
          ap (are_among (length (scripts_with boot drivers))) all
          ∙ list_all-append (λ e. nat_lt e.driver (length (scripts_with boot drivers))) booted entries (among_more 1 (length (scripts_with boot drivers)) booted (omega arith) first_among)
          (subst (λ (n : ℕ). are_among n entries ≡ true) count (drivers_among (length drivers) entries course.among));
      first =
          ap (λ (j : List Entry). list_all (λ e. not (nat_eq e.driver 0)) (after_boot j)) all ∙ ap (list_all (λ e. not (nat_eq e.driver 0))) behind
          ∙ no_boot (length drivers) entries course.among;
      ordered =
          subst (OrderedFrom (map at_start (scripts_with boot drivers)) None order) (sym (ap after_boot all ∙ behind))
          (subst (OrderedFrom (at_start boot ∷ map at_start (map (λ s. s.commands) drivers)) None order) (append-nil entries) (course.ordered (at_start boot) [] tt));
      quiet = course.flies;
    }
