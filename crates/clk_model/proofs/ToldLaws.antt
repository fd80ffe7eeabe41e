-- Laws on changes that go well and their notices: each visit of a clock whose rate the plan changes tells it, and nothing else does.
use Rattle.std.proofs.Common.{◌≡◌, ℕ, zero, suc, ◌+◌, ◌<◌, Bool, true, false, not, map, List, [], ◌∷◌, ◌++◌, Option, Some, refl, sym, ap, subst, ◌∙◌, ◌⊎◌, inl, inr, arith, length, nat_eq, None}
use Rattle.std.proofs.lemmas.Bool.{cases_lt}
use Rattle.std.proofs.lemmas.List.{get_or_past, append-nil}
use Rattle.std.proofs.lemmas.Option.{same_Some}
use Rattle.std.specs.Prelude.{◌==◌, slice_index, if◌then◌else◌}
use Rattle.std.specs.List.{list_any}
use Rattle.clk_base.specs.declared.call.Micro.{Micro}
use Rattle.clk_base.specs.declared.call.Micro.TheVariants as micro
use Rattle.clk_base.specs.declared.clock.ClockDef.{ClockDef}
use Rattle.clk_base.specs.declared.clock.ClockId.{ClockId}
use Rattle.clk_base.specs.Description.{Description, nobody, kind_of, parents_of}
use Rattle.clk_base.specs.Valid.{IsValid}
use Rattle.clk_base.proofs.Valid.{lines_end}
use Rattle.reg_bank.specs.Registers.{Registers}
use Rattle.clk_model.specs.Lists.{is_in, count_from}
use Rattle.clk_model.specs.State.{State, Change, ChainStep, link_in}
use Rattle.clk_model.specs.Rate.{rate, rate_over}
use Rattle.clk_model.specs.Gates.{settled}
use Rattle.clk_model.specs.Round.{Wiring, wiring, rate_in}
use Rattle.clk_model.specs.Walk.{differs, rates_in}
use Rattle.clk_model.specs.Notices.{post_list}
use Rattle.clk_model.specs.Step.{relink, set_in_chain, stepped}
use Rattle.clk_model.specs.Laws.Paths.{scales_by}
use Rattle.clk_model.specs.Laws.Flight.{plan_rates}
use Rattle.clk_model.specs.Laws.ChangesTold.{is_post_of}
use Rattle.clk_model.proofs.Members.{same_from_test, test_same}
use Rattle.clk_model.proofs.RateLaws.{rates_are_over_links}
use Rattle.clk_model.proofs.SceneStepLaws.{parent_lt}
use Rattle.clk_model.proofs.AboveLaws.{put_at, put_same, put_other}
use Rattle.clk_model.proofs.WholePathLaws.{same_or_not, linked_same, linked_other}
use Rattle.clk_model.proofs.WalkLaws.{links_after}
use Rattle.clk_model.proofs.FieldLaws.{settled_stays}
use Rattle.clk_model.proofs.GateRateLaws.{scales_is_field}
use Rattle.clk_model.proofs.PlanGoLaws.{PlanOver, plan_of}
use Rattle.clk_model.proofs.FollowLaws.{outcome_of, Agrees, AgreesAll, NoScale, IsVisit, AboveDone, stirs, Follows, stops, idles, links, visits}
use Rattle.clk_model.proofs.FollowStepLaws.{Alike_, posts, posts_append, posts_own, posts_other}

-- ---- a script that is followed, from its first step

-- what it means of a script's first step that the script is followed
pub data FirstFollows (n : State) (ks : List ChainStep) (done : ℕ → Bool) (m : Micro) (ms : List Micro) : Type 0 where
  first_idles : stirs n.defs m ≡ false → Follows n ks done ms → FirstFollows n ks done m ms
  first_links : (c p : ClockId) → m ≡ micro.Relink c p → link_in (outcome_of n ks).clocks c.0 ≡ Some p.0 → NoScale n c.0 → is_in p.0 (parents_of n.defs c.0) ≡ true → Follows n ks (put_at c.0 true done) ms
      → FirstFollows n ks done m ms
  first_visits : (c : ClockId) → m ≡ micro.Visit c → AboveDone n ks done c.0 → IsVisit n ks done c.0 → Follows n ks (put_at c.0 true done) ms → FirstFollows n ks done m ms

pub first_follows : (n : State) (ks : List ChainStep) (m : Micro) (ms : List Micro) {done : ℕ → Bool} {ns : List Micro} → Follows n ks done ns → ns ≡ m ∷ ms → FirstFollows n ks done m ms
first_follows n ks m ms stops e = absurd cc
first_follows n ks m ms {done = done} (idles {ms = ns} x calm rest) e =
    let tail : ns ≡ ms = cc in
    let head : x ≡ m = cc in
    first_idles (ap (stirs n.defs) (sym head) ∙ calm) (subst (λ (us : List Micro). Follows n ks done us) tail rest)
first_follows n ks m ms {done = done} (links {ms = ns} c p link none parent rest) e =
    let tail : ns ≡ ms = cc in
    let head : micro.Relink c p ≡ m = cc in
    first_links c p (sym head) link none parent (subst (λ (us : List Micro). Follows n ks (put_at c.0 true done) us) tail rest)
first_follows n ks m ms {done = done} (visits {ms = ns} c above visit_ rest) e =
    let tail : ns ≡ ms = cc in
    let head : micro.Visit c ≡ m = cc in
    first_visits c (sym head) above visit_ (subst (λ (us : List Micro). Follows n ks (put_at c.0 true done) us) tail rest)

-- ---- what clocks agree with behind a step

pub agrees_alike : (n : State) (ks : List ChainStep) (s u : State) (b : Bool) (a : ℕ) → s.defs ≡ n.defs → Alike_ s u → Agrees n ks s b a → Agrees n ks u b a
agrees_alike n ks s u true a defs alike was =
    (alike.link a ∙ was.0, (λ f at. alike.scale a f (ap (λ (ds : Description). scales_by (kind_of ds a)) defs ∙ at) ∙ was.1 f at))
agrees_alike n ks s u false a defs alike was =
    (alike.link a ∙ was.0, (λ f at. alike.scale a f (ap (λ (ds : Description). scales_by (kind_of ds a)) defs ∙ at) ∙ was.1 f at))

pub settled_alike : (s u : State) (spent steps : ℕ) → IsValid (length u.regs) u.defs → Alike_ u (record (settled s u) { spent = spent; steps = steps })
unfolding settled
settled_alike s u spent steps valid = record { defs = refl; link = λ a. refl; scale = λ a f at. settled_stays s u a valid f (scales_is_field (kind_of u.defs a) f at) }

-- a new link of the outcome
pub agrees_linked : (n : State) (ks : List ChainStep) (done : ℕ → Bool) (s : State) (k : Change) (c p : ℕ) → length s.clocks ≡ length s.defs → AgreesAll n ks done s → link_in (outcome_of n ks).clocks c ≡ Some p → NoScale n c
    → is_in p (parents_of n.defs c) ≡ true → (a : ℕ) → Agrees n ks (relink s k c p) (put_at c true done a) a
agrees_linked n ks done s k c p rows agrees link none parent a = by_clock (same_or_not c a) where
  within : c < length s.clocks
  within = let lt = parent_lt n.defs c p parent in let same = ap (λ (ds : Description). length ds) agrees.defs in omega arith

  own : Agrees n ks (relink s k c p) true c
  own = (linked_same s.clocks c p within ∙ sym link, (λ f at. absurd (none f at)))

  still : (b : Bool) → (c ≡ a → ⊥) → Agrees n ks s b a → Agrees n ks (relink s k c p) b a
  still true other was = (linked_other s.clocks c p a other ∙ was.0, was.1)
  still false other was = (linked_other s.clocks c p a other ∙ was.0, was.1)

  by_clock : (c ≡ a) ⊎ (c ≡ a → ⊥) → Agrees n ks (relink s k c p) (put_at c true done a) a
  by_clock (inl same) = subst (λ (b : Bool). Agrees n ks (relink s k c p) b a) (sym (put_same c a true done same)) (subst (λ (x : ℕ). Agrees n ks (relink s k c p) true x) same own)
  by_clock (inr other) = subst (λ (b : Bool). Agrees n ks (relink s k c p) b a) (sym (put_other c a true done other)) (still (done a) other (agrees.each a))

-- ---- what is still to be told

-- the notices that a clock is to hear
abbrev pub expected : State → List ChainStep → ℕ → List Micro
expected n ks c = post_list (plan_rates n ks) n.notifiers c

-- whether a step visits this clock
abbrev pub visits_of : ℕ → Micro → Bool
visits_of c (micro.Visit d) = d.0 == c
visits_of c _ = false

-- what the steps to come of a script are to tell
abbrev pub to_come : State → List ChainStep → ℕ → List Micro → List Micro
to_come n ks c left = if list_any (visits_of c) left then expected n ks c else []

-- whether a script visits the clock at most once
abbrev pub visits_once : ℕ → List Micro → Bool
visits_once c [] = true
visits_once c (m ∷ ms) = if visits_of c m then not (list_any (visits_of c) ms) else visits_once c ms

-- a change on its way: its script leads to the outcome, and what was told, stands in front and is to come is what the clock is to hear
pub record OnTime (n : State) (ks : List ChainStep) (c : ℕ) (s : State) (k : Change) (made : List Micro) : Type 0 where
  pub done : ℕ → Bool
  pub agrees : AgreesAll n ks done s
  pub follows : Follows n ks done k.left
  pub total : posts c made ++ (posts c k.front ++ to_come n ks c k.left) ≡ expected n ks c
  pub once : visits_once c k.left ≡ true
  pub quiet_ : list_any (is_post_of c) k.left ≡ false
  pub planned_ : k.missed ≡ None

pub data Telling (n : State) (ks : List ChainStep) (c : ℕ) (s : State) (k : Change) (made : List Micro) : Type 0 where
  late : k.timed_out ≡ true → Telling n ks c s k made
  called_off : k.vetoed ≡ true → Telling n ks c s k made
  on_time : k.timed_out ≡ false → OnTime n ks c s k made → Telling n ks c s k made

-- ---- a visited clock whose rate changes

rate_before : (f : ℕ → ℕ) (i size c : ℕ) → c < size → slice_index (map f (count_from i size)) c ≡ f (i + c)
rate_before f i zero c lt = absurd (omega arith)
rate_before f i (suc size) zero lt = ap f (let e : i ≡ i + 0 = omega arith in e)
rate_before f i (suc size) (suc c) lt = rate_before f (suc i) size c (omega arith) ∙ ap f (let e : suc i + c ≡ i + suc c = omega arith in e)

-- no plan changes a rate beyond the description
differs_lt : (n : State) (base : ℕ) (ks : List ChainStep) (c : ℕ) → PlanOver n base ks → differs (wiring n) ks c ≡ true → c < length n.defs
differs_lt n base ks c over differs_ = elim (cases_lt c (length n.defs)) [
  | inl inside ↦ inside
  | inr outside ↦
      let out : Wiring = outcome_of n ks in
      let plan = plan_of n base ks over in
      let lines = lines_end (length n.regs) n.defs over.fit.wired.valid in
      let fixed : (regs : Registers) (x : ℕ) → rate_over (kind_of n.defs c) regs x ≡ 0 = (λ regs x. ap (λ (d : ClockDef). rate_over d.kind regs x) (get_or_past n.defs c nobody outside)) in
      let there : rate_in out c ≡ 0 =
      ap (λ (ds : Description). rate ds out.regs out.clocks c) plan.differs.defs
      ∙ rates_are_over_links n.defs out.regs out.clocks lines (links_after (length n.regs) n.order (wiring n) ks out plan) c ∙ fixed out.regs _ in
      let here : rate_in (wiring n) c ≡ 0 = rates_are_over_links n.defs n.regs n.clocks lines over.fit.wired.links c ∙ fixed n.regs _ in
      let no : true ≡ false = sym differs_ ∙ ap (λ (x : ℕ). not (x == rate_in (wiring n) c)) (there ∙ sym here) ∙ ap not (test_same (rate_in (wiring n) c)) in
      absurd cc
]

-- the front behind a visit
visit_front : (s : State) (k : Change) (answer : Option Bool) (d : ClockId) (j : Change) → (stepped s k answer (micro.Visit d)).0.change ≡ Some j
    → j.front ≡ (if rate s.defs (set_in_chain s k d.0) s.clocks d.0 == slice_index k.before d.0 then [] else post_list (record { before = k.before; outcome = k.outcome }) s.notifiers d.0) ++ k.front
unfolding stepped
visit_front s k answer d j at =
    ap (λ (i : Change). i.front) (sym (same_Some _ j at))

-- the visit of this clock tells what it is to hear, and that of another tells it nothing
pub visit_tells : (n : State) (base : ℕ) (ks : List ChainStep) (c : ℕ) (s : State) (k : Change) (answer : Option Bool) (d : ClockId) (j : Change) → PlanOver n base ks → differs (wiring n) ks c ≡ true
    → k.before ≡ rates_in (wiring n) → k.outcome ≡ rates_in (outcome_of n ks) → s.notifiers ≡ n.notifiers → k.front ≡ [] → rate s.defs (set_in_chain s k d.0) s.clocks d.0 ≡ rate_in (outcome_of n ks) d.0
    → (stepped s k answer (micro.Visit d)).0.change ≡ Some j → posts c j.front ≡ (if d.0 == c then expected n ks c else [])
visit_tells n base ks c s k answer d j over differs_ before out_ notifiers empty rate_is at =
    ap (posts c) (visit_front s k answer d j at) ∙ posts_append c told k.front ∙ ap (λ (ms : List Micro). posts c told ++ posts c ms) empty ∙ append-nil (posts c told) ∙ by_clock (d.0 == c) refl where
      told : List Micro
      told = if rate s.defs (set_in_chain s k d.0) s.clocks d.0 == slice_index k.before d.0 then [] else post_list (record { before = k.before; outcome = k.outcome }) s.notifiers d.0

      whole : (x : ℕ) → post_list (record { before = k.before; outcome = k.outcome }) s.notifiers x ≡ expected n ks x
      whole x =
          ap (λ (bs : List ℕ). post_list (record { before = bs; outcome = k.outcome }) s.notifiers x) before
          ∙ ap (λ (os : List ℕ). post_list (record { before = rates_in (wiring n); outcome = os }) s.notifiers x) out_
          ∙ ap (λ ns. post_list (plan_rates n ks) ns x) notifiers

      none_told : (b : Bool) → nat_eq d.0 c ≡ false → posts c (if b then [] else post_list (record { before = k.before; outcome = k.outcome }) s.notifiers d.0) ≡ []
      none_told true other = refl
      none_told false other = posts_other (record { before = k.before; outcome = k.outcome }) s.notifiers c d.0 other

      -- the clock has another rate now
      changed : d.0 ≡ c → (rate s.defs (set_in_chain s k d.0) s.clocks d.0 == slice_index k.before d.0) ≡ false
      changed same =
          ap (λ (x : ℕ). x == slice_index k.before d.0) rate_is ∙ ap (λ (x : ℕ). rate_in (outcome_of n ks) x == slice_index k.before x) same
          ∙ ap (λ (bs : List ℕ). rate_in (outcome_of n ks) c == slice_index bs c) before
          ∙ ap (λ (x : ℕ). rate_in (outcome_of n ks) c == x) (rate_before (rate_in (wiring n)) 0 (length n.defs) c (differs_lt n base ks c over differs_) ∙ ap (rate_in (wiring n)) (let e : 0 + c ≡ c = omega arith in e))
          ∙ unlike (rate_in (outcome_of n ks) c == rate_in (wiring n) c) differs_ where
            unlike : (t : Bool) → not t ≡ true → t ≡ false
            unlike false e = refl
            unlike true e = absurd cc

      by_clock : (t : Bool) → (d.0 == c) ≡ t → posts c told ≡ (if t then expected n ks c else [])
      by_clock false e = none_told (rate s.defs (set_in_chain s k d.0) s.clocks d.0 == slice_index k.before d.0) e
      by_clock true e =
          let same = same_from_test d.0 c e in
          ap (λ (t : Bool). posts c (if t then [] else post_list (record { before = k.before; outcome = k.outcome }) s.notifiers d.0)) (changed same)
          ∙ ap (posts c) (whole d.0 ∙ ap (expected n ks) same) ∙ posts_own (plan_rates n ks) n.notifiers c
