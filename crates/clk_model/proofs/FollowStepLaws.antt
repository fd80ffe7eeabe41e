-- Laws on steps and outcomes: each step of a script that leads to its outcome leaves the rest leading there, and tells only what it ought to.
use Rattle.std.proofs.Common.{◌≡◌, ℕ, ◌-◌, ◌<◌, ◌^◌, ◌||◌, Bool, true, false, not, cond, map, List, [], ◌∷◌, ◌++◌, Option, Some, None, refl, sym, ap, subst, ◌∙◌, ◌⊎◌, inl, inr, arith, length, nat_eq, nat_lt}
use Rattle.std.proofs.lemmas.Bool.Decides.{nat_tests}
use Rattle.std.specs.Prelude.{filter, nat_le, reverse, slice_get, slice_index}
use Rattle.std.specs.List.{list_any}
use Rattle.std.specs.Option.{option_map_or}
use Rattle.clk_base.specs.declared.call.Micro.{Micro}
use Rattle.clk_base.specs.declared.call.Micro.TheVariants as micro
use Rattle.clk_base.specs.declared.call.Notice.TheVariants as notice
use Rattle.clk_base.specs.Description.{kind_of}
use Rattle.clk_base.specs.Fields.{Field}
use Rattle.clk_base.specs.Levels.{depth}
use Rattle.clk_base.specs.Valid.{IsValid}
use Rattle.reg_bank.specs.Registers.{Registers, field, put}
use Rattle.clk_model.specs.declared.row.ClockRow.{ClockRow}
use Rattle.clk_model.specs.Kinds.{mux_field}
use Rattle.clk_model.specs.State.{State, Change, NotifierRow, link_in}
use Rattle.clk_model.specs.Tree.{children}
use Rattle.clk_model.specs.Walk.{below_within}
use Rattle.clk_model.specs.Chain.{clock_id}
use Rattle.clk_model.specs.Notices.{Rates, notifiers_of, post_list}
use Rattle.clk_model.specs.Begin.{register}
use Rattle.clk_model.specs.Step.{on, powered, timed_out, to_raise, raise_one, poll, is_yes, to_lower, lower_one, is_end, stepped}
use Rattle.clk_model.specs.Laws.Paths.{ScalesAlike}
use Rattle.clk_model.specs.Laws.ChangesTold.{is_post_of}
use Rattle.clk_model.proofs.Members.{test_same}
use Rattle.clk_model.proofs.Cases.{by_option, by_test}
use Rattle.clk_model.proofs.WholePathLaws.{same_or_not}
use Rattle.clk_model.proofs.HoldSteps.{settled_links}
use Rattle.clk_model.proofs.KeepLaws.{mux_written}
use Rattle.clk_model.proofs.FieldLaws.{FieldStays, mux_no_scale, powered_stays, closed_stays, written_stays}
use Rattle.clk_model.proofs.GateRateLaws.{scales_is_field}
use Rattle.clk_model.proofs.FollowLaws.{stirs}

-- ---- steps that don't stir

-- a state has the links of another, and its clocks divide and multiply by the same
pub record Alike_ (s u : State) : Type 0 where
  pub defs : u.defs ≡ s.defs
  pub link : (a : ℕ) → link_in u.clocks a ≡ link_in s.clocks a
  pub scale : (a : ℕ) → ScalesAlike s.defs s.regs u.regs a

pub alike_same : (s u : State) → u.defs ≡ s.defs → u.clocks ≡ s.clocks → u.regs ≡ s.regs → Alike_ s u
alike_same s u defs clocks regs = record {
  defs = defs;
  link = λ a. ap (λ (rs : List ClockRow). link_in rs a) clocks;
  scale = λ a f at. ap (λ (r : Registers). field r f.word f.shift f.width) regs;
}

alike_regs : (s : State) (regs : Registers) (change : Option Change) → ((a : ℕ) → FieldStays s.defs s.regs regs a) → Alike_ s (record s { regs = regs; change = change })
alike_regs s regs change stays_ = record { defs = refl; link = λ a. refl; scale = λ a f at. stays_ a f (scales_is_field (kind_of s.defs a) f at) }

alike_bit : (s : State) (z : ℕ) (up : Bool) (k : Change) → IsValid (length s.regs) s.defs → Alike_ s (on (powered s z up) k)
alike_bit s z up k valid = alike_regs s (powered s z up).regs (Some k) (λ a. powered_stays s (length s.regs) z up a valid)

alike_muxed : (s : State) (k : Change) (d place : ℕ) → IsValid (length s.regs) s.defs → stirs s.defs (micro.WriteMux (clock_id d) place) ≡ false → Alike_ s (record s { regs = mux_written s d place; change = Some k })
alike_muxed s k d place valid calm = record { defs = refl; link = λ a. refl; scale = λ a. by_clock a (same_or_not a d) } where
  fits : (f : Field) → mux_field (kind_of s.defs d) ≡ Some f → place < 2 ^ f.width
  fits f at =
      let small : not (nat_lt place (2 ^ f.width)) ≡ false = sym (ap (λ (o : Option Field). option_map_or (λ g. not (nat_lt place (2 ^ g.width))) o false) at) ∙ calm in
      below (nat_lt place (2 ^ f.width)) refl small where
        below : (t : Bool) → nat_lt place (2 ^ f.width) ≡ t → not t ≡ false → place < 2 ^ f.width
        below true e fine = grind (arith, nat_tests)
        below false e fine = absurd cc

  by_clock : (a : ℕ) → (a ≡ d) ⊎ (a ≡ d → ⊥) → ScalesAlike s.defs s.regs (mux_written s d place) a
  by_clock a (inr other) = λ f at. written_stays s (length s.regs) d place a valid fits other f (scales_is_field (kind_of s.defs a) f at)
  by_clock a (inl same) = by_mux (mux_field (kind_of s.defs d)) refl where
    by_mux : (o : Option Field) → mux_field (kind_of s.defs d) ≡ o → ScalesAlike s.defs s.regs (mux_written s d place) a
    by_mux None own = λ f at. ap (λ (p : Option Field). field (option_map_or (λ g. put s.regs g.word g.shift g.width place) p s.regs) f.word f.shift f.width) own
    by_mux (Some g) own = λ f at. absurd (mux_no_scale (kind_of s.defs a) g f (ap (λ (x : ℕ). mux_field (kind_of s.defs x)) same ∙ own) at)

pub idle_alike : (s : State) (k : Change) (answer : Option Bool) (m : Micro) → IsValid (length s.regs) s.defs → stirs s.defs m ≡ false → is_end m ≡ false → Alike_ s (stepped s k answer m).0
unfolding stepped
idle_alike s k answer (micro.Notify kind c id old new) valid calm going = alike_same s (on s k) refl refl refl
idle_alike s k answer (micro.Raise x) valid calm going =
    by_option (Alike_ s) (slice_get (reverse (to_raise s k x.0)) 0) (raise_one s k x.0) (on s (record k { again = 0 })) (alike_same s (on s (record k { again = 0 })) refl refl refl) (λ y. alike_bit s y true _ valid)
idle_alike s k answer (micro.Lower x) valid calm going =
    by_option (Alike_ s) (slice_get (to_lower s x.0) 0) (lower_one s k x.0) (on s (record k { again = 0 })) (alike_same s (on s (record k { again = 0 })) refl refl refl) (λ y. alike_bit s y false _ valid)
idle_alike s k answer (micro.Poll y) valid calm going = by_yes (is_yes answer) where
  by_yes : (b : Bool) → Alike_ s (poll s k y.0 b)
  by_yes true = alike_same s (on s (record k { polls = 0 })) refl refl refl
  by_yes false =
      by_test (Alike_ s) (nat_le k.polls 1) (timed_out s (record k { polls = 0 })) (on s (record k { polls = k.polls - 1; front = micro.Poll (clock_id y.0) ∷ k.front }))
      (alike_same s (timed_out s (record k { polls = 0 })) refl refl refl) (alike_same s (on s (record k { polls = k.polls - 1; front = micro.Poll (clock_id y.0) ∷ k.front })) refl refl refl)
idle_alike s k answer (micro.Fall y) valid calm going = alike_bit s y.0 false _ valid
idle_alike s k answer (micro.HoldPrepare x) valid calm going = alike_same s _ refl refl refl
idle_alike s k answer (micro.HoldEnable x) valid calm going = alike_same s _ refl refl refl
idle_alike s k answer (micro.Relink c p) valid calm going = absurd cc
idle_alike s k answer (micro.WriteMux c place) valid calm going = alike_muxed s k c.0 place valid calm
idle_alike s k answer (micro.DropEnable x) valid calm going = alike_same s _ refl refl refl
idle_alike s k answer (micro.DropPrepare x) valid calm going = alike_same s _ refl refl refl
idle_alike s k answer (micro.Visit c) valid calm going = absurd cc
idle_alike s k answer (micro.Register c) valid calm going = absurd cc
idle_alike s k answer (micro.Settle c) valid calm going = record { defs = refl; link = settled_links s (below_within (children s.order s.clocks) depth c.0); scale = λ a f at. refl }
idle_alike s k answer (micro.Close c) valid calm going = alike_regs s _ (Some k) (λ a. closed_stays s (length s.regs) c.0 a valid)
idle_alike s k answer (micro.Unpower c) valid calm going = alike_bit s c.0 false k valid
idle_alike s k answer micro.End valid calm going = absurd cc

-- ---- what a step leaves of the numbers of its change

-- the change has the rates of another, and the state its notifiers
pub record SameNumbers (s : State) (k : Change) (u : State) (j : Change) : Type 0 where
  pub before : j.before ≡ k.before
  pub outcome : j.outcome ≡ k.outcome
  pub notifiers : u.notifiers ≡ s.notifiers

abbrev NumbersIn : State → Change → State → Option Change → Type 0
NumbersIn s k u None = ⊥
NumbersIn s k u (Some j) = SameNumbers s k u j

numbers : (s : State) (k : Change) (u : State) (j : Change) → j.before ≡ k.before → j.outcome ≡ k.outcome → u.notifiers ≡ s.notifiers → SameNumbers s k u j
numbers s k u j before outcome notifiers = record { before = before; outcome = outcome; notifiers = notifiers }

numbers_in : (s : State) (k : Change) (answer : Option Bool) (m : Micro) → is_end m ≡ false → NumbersIn s k (stepped s k answer m).0 (stepped s k answer m).0.change
unfolding stepped register
numbers_in s k answer (micro.Raise x) going =
    by_option (λ u. NumbersIn s k u u.change) (slice_get (reverse (to_raise s k x.0)) 0) (raise_one s k x.0) (on s (record k { again = 0 })) (numbers s k _ _ refl refl refl) (λ y. numbers s k _ _ refl refl refl)
numbers_in s k answer (micro.Lower x) going =
    by_option (λ u. NumbersIn s k u u.change) (slice_get (to_lower s x.0) 0) (lower_one s k x.0) (on s (record k { again = 0 })) (numbers s k _ _ refl refl refl) (λ y. numbers s k _ _ refl refl refl)
numbers_in s k answer (micro.Poll y) going = by_yes (is_yes answer) where
  by_yes : (b : Bool) → NumbersIn s k (poll s k y.0 b) (poll s k y.0 b).change
  by_yes true = numbers s k _ _ refl refl refl
  by_yes false =
      by_test (λ u. NumbersIn s k u u.change) (nat_le k.polls 1) (timed_out s (record k { polls = 0 })) (on s (record k { polls = k.polls - 1; front = micro.Poll (clock_id y.0) ∷ k.front }))
      (numbers s k _ _ refl refl refl) (numbers s k _ _ refl refl refl)
numbers_in s k answer micro.End going = absurd cc
numbers_in s k answer m going = numbers s k _ _ refl refl refl

pub numbers_after : (s : State) (k : Change) (answer : Option Bool) (m : Micro) (j : Change) → is_end m ≡ false → (stepped s k answer m).0.change ≡ Some j → SameNumbers s k (stepped s k answer m).0 j
numbers_after s k answer m j going at = subst (λ (o : Option Change). NumbersIn s k (stepped s k answer m).0 o) at (numbers_in s k answer m going)

-- ---- what it puts in front

-- the notices that a clock's rate has changed, among steps
abbrev pub posts : ℕ → List Micro → List Micro
posts c ms = filter (is_post_of c) ms

pub posts_append : (c : ℕ) (xs ys : List Micro) → posts c (xs ++ ys) ≡ posts c xs ++ posts c ys
posts_append c [] ys = refl
posts_append c (x ∷ xs) ys = one (is_post_of c x) (posts_append c xs ys) where
  one : (t : Bool) → posts c (xs ++ ys) ≡ posts c xs ++ posts c ys → cond t (x ∷ posts c (xs ++ ys)) (posts c (xs ++ ys)) ≡ cond t (x ∷ posts c xs) (posts c xs) ++ posts c ys
  one true rest = ap (λ (ms : List Micro). x ∷ ms) rest
  one false rest = rest

pub posts_none : (c : ℕ) (ms : List Micro) → list_any (is_post_of c) ms ≡ false → posts c ms ≡ []
posts_none c [] none = refl
posts_none c (m ∷ ms) none = one (is_post_of c m) none (λ e. posts_none c ms e) where
  one : (t : Bool) → (t || list_any (is_post_of c) ms) ≡ false → (list_any (is_post_of c) ms ≡ false → posts c ms ≡ []) → cond t (m ∷ posts c ms) (posts c ms) ≡ []
  one true e rest = absurd cc
  one false e rest = rest e

-- the notices of a clock's change, and those of another's
pub posts_own : (rates : Rates) (ns : List NotifierRow) (c : ℕ) → posts c (post_list rates ns c) ≡ post_list rates ns c
posts_own rates ns c = all (notifiers_of ns c) where
  told : NotifierRow → Micro
  told n = micro.Notify notice.Post (clock_id c) n.id (slice_index rates.before c) (slice_index rates.outcome c)

  all : (ms : List NotifierRow) → filter (is_post_of c) (map (λ n. micro.Notify notice.Post (clock_id c) n.id (slice_index rates.before c) (slice_index rates.outcome c)) ms)
      ≡ map (λ n. micro.Notify notice.Post (clock_id c) n.id (slice_index rates.before c) (slice_index rates.outcome c)) ms
  all [] = refl
  all (n ∷ ms) =
      ap (λ (t : Bool). cond t (told n ∷ filter (is_post_of c) (map told ms)) (filter (is_post_of c) (map told ms))) (test_same c) ∙ ap (λ (xs : List Micro). told n ∷ xs) (all ms)

pub posts_other : (rates : Rates) (ns : List NotifierRow) (c d : ℕ) → nat_eq d c ≡ false → posts c (post_list rates ns d) ≡ []
posts_other rates ns c d other = none (notifiers_of ns d) where
  told : NotifierRow → Micro
  told n = micro.Notify notice.Post (clock_id d) n.id (slice_index rates.before d) (slice_index rates.outcome d)

  none : (ms : List NotifierRow) → filter (is_post_of c) (map (λ n. micro.Notify notice.Post (clock_id d) n.id (slice_index rates.before d) (slice_index rates.outcome d)) ms) ≡ []
  none [] = refl
  none (n ∷ ms) = ap (λ (t : Bool). cond t (told n ∷ filter (is_post_of c) (map told ms)) (filter (is_post_of c) (map told ms))) other ∙ none ms

-- a step that isn't a visit puts no such notice in front, unless a poll times out there
abbrev pub is_visit_of_any : Micro → Bool
is_visit_of_any (micro.Visit c) = true
is_visit_of_any _ = false

abbrev FrontIn : ℕ → Change → Option Change → Type 0
FrontIn c k None = ⊥
FrontIn c k (Some j) = (j.timed_out ≡ true) ⊎ (posts c j.front ≡ posts c k.front)

front_in : (c : ℕ) (s : State) (k : Change) (answer : Option Bool) (m : Micro) → is_end m ≡ false → is_visit_of_any m ≡ false → FrontIn c k (stepped s k answer m).0.change
unfolding stepped
front_in c s k answer (micro.Raise x) going other =
    by_option (λ u. FrontIn c k u.change) (slice_get (reverse (to_raise s k x.0)) 0) (raise_one s k x.0) (on s (record k { again = 0 })) (inr refl) (λ y. inr (one (nat_le 2 (length (to_raise s k x.0))))) where
      one : (b : Bool) → posts c (cond b (micro.Raise (clock_id x.0) ∷ []) [] ++ k.front) ≡ posts c k.front
      one true = refl
      one false = refl
front_in c s k answer (micro.Lower x) going other =
    by_option (λ u. FrontIn c k u.change) (slice_get (to_lower s x.0) 0) (lower_one s k x.0) (on s (record k { again = 0 })) (inr refl) (λ y. inr (one (nat_le 2 (length (to_lower s x.0))))) where
      one : (b : Bool) → posts c (cond b (micro.Lower (clock_id x.0) ∷ []) [] ++ k.front) ≡ posts c k.front
      one true = refl
      one false = refl
front_in c s k answer (micro.Poll y) going other = by_yes (is_yes answer) where
  by_yes : (b : Bool) → FrontIn c k (poll s k y.0 b).change
  by_yes true = inr refl
  by_yes false =
      by_test (λ u. FrontIn c k u.change) (nat_le k.polls 1) (timed_out s (record k { polls = 0 })) (on s (record k { polls = k.polls - 1; front = micro.Poll (clock_id y.0) ∷ k.front })) (inl refl) (inr refl)
front_in c s k answer (micro.Visit d) going other = absurd cc
front_in c s k answer micro.End going other = absurd cc
front_in c s k answer m going other = inr refl

pub front_told : (c : ℕ) (s : State) (k : Change) (answer : Option Bool) (m : Micro) (j : Change) → is_end m ≡ false → is_visit_of_any m ≡ false → (stepped s k answer m).0.change ≡ Some j
    → (j.timed_out ≡ true) ⊎ (posts c j.front ≡ posts c k.front)
front_told c s k answer m j going other at = subst (λ (o : Option Change). FrontIn c k o) at (front_in c s k answer m going other)
