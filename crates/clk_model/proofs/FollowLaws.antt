-- Laws on the way to an outcome: a planned script leads, visit by visit, to the links of its outcome and to what its clocks divide and
-- multiply by there; so at each visit the clock has the rate that it has in the outcome.
use Rattle.std.proofs.Common.{◌≡◌, ℕ, ◌^◌, Bool, true, false, not, List, [], ◌∷◌, ◌++◌, Option, Some, None, refl, sym, ap, subst, ◌∙◌, ◌⊎◌, inl, inr, length, nat_lt}
use Rattle.std.specs.Prelude.{◌==◌, if◌then◌else◌, find, option_map}
use Rattle.std.specs.List.{list_any}
use Rattle.std.specs.Option.{option_map_or}
use Rattle.clk_base.specs.declared.call.Micro.{Micro}
use Rattle.clk_base.specs.declared.call.Micro.TheVariants as micro
use Rattle.clk_base.specs.declared.clock.ClockId.{ClockId}
use Rattle.clk_base.specs.Description.{Description, kind_of, parents_of}
use Rattle.clk_base.specs.Fields.{Field}
use Rattle.clk_base.specs.Levels.{depth}
use Rattle.clk_base.specs.Valid.{IsValid}
use Rattle.clk_base.proofs.Valid.{lines_end}
use Rattle.reg_bank.specs.Registers.{Registers, field}
use Rattle.clk_model.specs.Lists.{is_in, is_at}
use Rattle.clk_model.specs.Kinds.{mux_field}
use Rattle.clk_model.specs.State.{State, Change, ChainStep, link_in}
use Rattle.clk_model.specs.Rate.{rate}
use Rattle.clk_model.specs.Round.{Wiring, wiring, rate_in, parent_rate_in}
use Rattle.clk_model.specs.Chain.{setting, outcome}
use Rattle.clk_model.specs.Step.{set_in_chain}
use Rattle.clk_model.specs.Laws.Paths.{scales_by, ScalesAlike}
use Rattle.clk_model.proofs.NoneLaws.{none_front, none_rest}
use Rattle.clk_model.proofs.BelowLaws.{IsUp, rises_on, no_round}
use Rattle.clk_model.proofs.AboveLaws.{put_at, put_same, put_other, Above, above_link, path_above}
use Rattle.clk_model.proofs.WholePathLaws.{same_or_not}
use Rattle.clk_model.proofs.WalkLaws.{links_after}
use Rattle.clk_model.proofs.PlanGoLaws.{PlanOver, plan_of}
use Rattle.clk_model.proofs.FieldLaws.{set_stays}
use Rattle.clk_model.proofs.GateRateLaws.{scales_is_field}
use Rattle.clk_model.proofs.OutcomeRateLaws.{rates_alike}

-- ---- where the clocks are on the way

-- the outcome of a plan over a state
abbrev pub outcome_of : State → List ChainStep → Wiring
outcome_of n ks = outcome ks (wiring n)

-- a clock has the link of the outcome, or the link that it had, and divides or multiplies so too
abbrev pub Agrees : State → List ChainStep → State → Bool → ℕ → Type 0
Agrees n ks s true a = (link_in s.clocks a ≡ link_in (outcome_of n ks).clocks a) × ScalesAlike n.defs (outcome_of n ks).regs s.regs a
Agrees n ks s false a = (link_in s.clocks a ≡ link_in n.clocks a) × ScalesAlike n.defs n.regs s.regs a

-- so do all clocks, each as it is said to be done or not
pub record AgreesAll (n : State) (ks : List ChainStep) (done : ℕ → Bool) (s : State) : Type 0 where
  pub defs : s.defs ≡ n.defs
  pub size : length s.regs ≡ length n.regs
  pub each : (a : ℕ) → Agrees n ks s (done a) a

-- a clock divides and multiplies by nothing
abbrev pub NoScale : State → ℕ → Type 0
NoScale n c = (f : Field) → scales_by (kind_of n.defs c) ≡ Some f → ⊥

-- what a visit of a clock that stays writes is what the outcome has
abbrev pub SetsTo : State → List ChainStep → ℕ → Option ℕ → Type 0
SetsTo n ks c None = ScalesAlike n.defs n.regs (outcome_of n ks).regs c
SetsTo n ks c (Some planned_) = (regs : Registers) → length regs ≡ length n.regs → (f : Field) → scales_by (kind_of n.defs c) ≡ Some f
    → field (setting (kind_of n.defs c) (parent_rate_in (outcome_of n ks) c) planned_ regs) f.word f.shift f.width ≡ field (outcome_of n ks).regs f.word f.shift f.width

-- the rate that a chain plans for a clock
abbrev pub planned_in : List ChainStep → ℕ → Option ℕ
planned_in ks c = option_map (λ k. k.rate) (find (λ k. k.clock == c) ks)

-- a clock is visited: it was moved, or stays and gets its setting
pub data IsVisit (n : State) (ks : List ChainStep) (done : ℕ → Bool) (c : ℕ) : Type 0 where
  moved : done c ≡ true → NoScale n c → IsVisit n ks done c
  stays : done c ≡ false → link_in (outcome_of n ks).clocks c ≡ link_in n.clocks c → SetsTo n ks c (planned_in ks c) → IsVisit n ks done c

-- all above it in the outcome are done
abbrev pub AboveDone : State → List ChainStep → (ℕ → Bool) → ℕ → Type 0
AboveDone n ks done c = (a : ℕ) → Above (link_in (outcome_of n ks).clocks) c a → (c ≡ a → ⊥) → done a ≡ true

-- whether a step may change links or what a clock divides and multiplies by
abbrev pub stirs : Description → Micro → Bool
stirs defs (micro.Relink c p) = true
stirs defs (micro.Visit c) = true
stirs defs (micro.Register c) = true
stirs defs (micro.WriteMux c place) = option_map_or (λ f. not (nat_lt place (2 ^ f.width))) (mux_field (kind_of defs c.0)) false
stirs defs _ = false

-- what is left of a script leads to the outcome: each new link is that of the outcome, and each visit has all above it done
pub data Follows (n : State) (ks : List ChainStep) : (ℕ → Bool) → List Micro → Type 0 where
  stops : {done : ℕ → Bool} → Follows n ks done []
  idles : {done : ℕ → Bool} {ms : List Micro} (m : Micro) → stirs n.defs m ≡ false → Follows n ks done ms → Follows n ks done (m ∷ ms)
  links : {done : ℕ → Bool} {ms : List Micro} (c p : ClockId) → link_in (outcome_of n ks).clocks c.0 ≡ Some p.0 → NoScale n c.0 → is_in p.0 (parents_of n.defs c.0) ≡ true
      → Follows n ks (put_at c.0 true done) ms → Follows n ks done (micro.Relink c p ∷ ms)
  visits : {done : ℕ → Bool} {ms : List Micro} (c : ClockId) → AboveDone n ks done c.0 → IsVisit n ks done c.0 → Follows n ks (put_at c.0 true done) ms → Follows n ks done (micro.Visit c ∷ ms)

pub follows_idle : (n : State) (ks : List ChainStep) (done : ℕ → Bool) (xs ms : List Micro) → list_any (stirs n.defs) xs ≡ false → Follows n ks done ms → Follows n ks done (xs ++ ms)
follows_idle n ks done [] ms none follows = follows
follows_idle n ks done (x ∷ xs) ms none follows = idles x (none_front (stirs n.defs) x xs none) (follows_idle n ks done xs ms (none_rest (stirs n.defs) x xs none) follows)

-- ---- a visit

-- what holds of each clock above one in the outcome
done_above : (n : State) (ks : List ChainStep) (done : ℕ → Bool) (s : State) (c a : ℕ) → AgreesAll n ks done s → AboveDone n ks done c → Above (link_in (outcome_of n ks).clocks) c a → (c ≡ a → ⊥)
    → (link_in s.clocks a ≡ link_in (outcome_of n ks).clocks a) × ScalesAlike n.defs (outcome_of n ks).regs s.regs a
done_above n ks done s c a agrees above high other = subst (λ (b : Bool). Agrees n ks s b a) (above a high other) (agrees.each a)

-- the parent of a visited clock has its rate of the outcome
parent_done : (n : State) (ks : List ChainStep) (done : ℕ → Bool) (s : State) (c base : ℕ) → PlanOver n base ks → AgreesAll n ks done s → AboveDone n ks done c
    → link_in s.clocks c ≡ link_in (outcome_of n ks).clocks c → parent_rate_in (wiring s) c ≡ parent_rate_in (outcome_of n ks) c
parent_done n ks done s c base over agrees above link = ap (λ (o : Option ℕ). option_map_or (rate_in (wiring s)) o 0) link ∙ by_link (link_in out.clocks c) refl where
  out : Wiring
  out = outcome_of n ks

  is : IsUp (parents_of n.defs) (link_in out.clocks)
  is = links_after (length n.regs) n.order (wiring n) ks out (plan_of n base ks over)

  out_defs : out.defs ≡ n.defs
  out_defs = (plan_of n base ks over).differs.defs

  by_link : (o : Option ℕ) → link_in out.clocks c ≡ o → option_map_or (rate_in (wiring s)) o 0 ≡ option_map_or (rate_in out) o 0
  by_link None e = refl
  by_link (Some p) e =
      ap (λ (ds : Description). rate ds s.regs s.clocks p) agrees.defs
      ∙ rates_alike n.defs out.regs s.regs out.clocks s.clocks p
      (λ a m.
      let high = path_above (link_in out.clocks) p a m in
      done_above n ks done s c a agrees above (above_link (link_in out.clocks) c p a e high)
      (λ same.
      let low = subst (λ (x : ℕ). Above (link_in out.clocks) p x) (sym same) high in
      no_round (parents_of n.defs) (link_in out.clocks) depth low.0 p is (lines_end (length n.regs) n.defs over.fit.wired.valid p) (rises_on (link_in out.clocks) low.0 p c p low.1 e)))
      ∙ ap (λ (ds : Description). rate ds out.regs out.clocks p) (sym out_defs)

-- a visit leaves its clock done, with its rate of the outcome
pub record IsVisited (n : State) (ks : List ChainStep) (done : ℕ → Bool) (s : State) (c : ℕ) (regs : Registers) : Type 0 where
  pub each : (a : ℕ) → Agrees n ks (record s { regs = regs }) (put_at c true done a) a
  pub rate_is : rate s.defs regs s.clocks c ≡ rate_in (outcome_of n ks) c

pub visit_done : (n : State) (ks : List ChainStep) (done : ℕ → Bool) (s : State) (k : Change) (c base : ℕ) → PlanOver n base ks → k.chain ≡ ks → k.missed ≡ None → IsValid (length s.regs) s.defs → AgreesAll n ks done s
    → AboveDone n ks done c → IsVisit n ks done c → IsVisited n ks done s c (set_in_chain s k c)
visit_done n ks done s k c base over chain missed valid agrees above visit_ = record { each = each; rate_is = rate_is } where
  out : Wiring
  out = outcome_of n ks

  regs : Registers
  regs = set_in_chain s k c

  -- its link is that of the outcome
  link_of : IsVisit n ks done c → link_in s.clocks c ≡ link_in out.clocks c
  link_of (moved is none) = (subst (λ (b : Bool). Agrees n ks s b c) is (agrees.each c)).0
  link_of (stays is still sets) = (subst (λ (b : Bool). Agrees n ks s b c) is (agrees.each c)).0 ∙ sym still

  link : link_in s.clocks c ≡ link_in out.clocks c
  link = link_of visit_

  -- what it writes
  by_plan : (o : Option ℕ) → ScalesAlike n.defs n.regs s.regs c → SetsTo n ks c o → (f : Field) → scales_by (kind_of n.defs c) ≡ Some f
      → field (option_map_or (λ planned_. setting (kind_of s.defs c) (parent_rate_in (wiring s) c) planned_ s.regs) o s.regs) f.word f.shift f.width ≡ field out.regs f.word f.shift f.width
  by_plan None was sets f at = was f at ∙ sym (sets f at)
  by_plan (Some r) was sets f at =
      ap (λ (ds : Description). field (setting (kind_of ds c) (parent_rate_in (wiring s) c) r s.regs) f.word f.shift f.width) agrees.defs
      ∙ ap (λ (x : ℕ). field (setting (kind_of n.defs c) x r s.regs) f.word f.shift f.width) (parent_done n ks done s c base over agrees above link)
      ∙ sets s.regs agrees.size f at

  own : IsVisit n ks done c → ScalesAlike n.defs out.regs regs c
  own (moved is none) f at = absurd (none f at)
  own (stays is still sets) f at =
      ap (λ (o : Option ℕ). field (option_map_or (λ planned_. setting (kind_of s.defs c) (parent_rate_in (wiring s) c) planned_ s.regs) (if is_at c o then None else planned_in k.chain c) s.regs) f.word f.shift f.width) missed
      ∙ ap (λ (js : List ChainStep). field (option_map_or (λ planned_. setting (kind_of s.defs c) (parent_rate_in (wiring s) c) planned_ s.regs) (planned_in js c) s.regs) f.word f.shift f.width) chain
      ∙ by_plan (planned_in ks c) (subst (λ (b : Bool). Agrees n ks s b c) is (agrees.each c)).1 sets f at

  -- other clocks divide and multiply by what they did
  rest : (a : ℕ) → (c ≡ a → ⊥) → ScalesAlike n.defs s.regs regs a
  rest a other f at =
      let there : scales_by (kind_of s.defs a) ≡ Some f = ap (λ (ds : Description). scales_by (kind_of ds a)) agrees.defs ∙ at in
      set_stays s k (length s.regs) c a valid (λ same. other (sym same)) f (scales_is_field (kind_of s.defs a) f there)

  still_agrees : (a : ℕ) → (c ≡ a → ⊥) → (b : Bool) → Agrees n ks s b a → Agrees n ks (record s { regs = regs }) b a
  still_agrees a other true was = (was.0, (λ f at. rest a other f at ∙ was.1 f at))
  still_agrees a other false was = (was.0, (λ f at. rest a other f at ∙ was.1 f at))

  each : (a : ℕ) → Agrees n ks (record s { regs = regs }) (put_at c true done a) a
  each a = by_clock (same_or_not c a) where
    here : Agrees n ks (record s { regs = regs }) true c
    here = (link, own visit_)

    by_clock : (c ≡ a) ⊎ (c ≡ a → ⊥) → Agrees n ks (record s { regs = regs }) (put_at c true done a) a
    by_clock (inl same) = subst (λ (b : Bool). Agrees n ks (record s { regs = regs }) b a) (sym (put_same c a true done same)) (subst (λ (x : ℕ). Agrees n ks (record s { regs = regs }) true x) same here)
    by_clock (inr other) = subst (λ (b : Bool). Agrees n ks (record s { regs = regs }) b a) (sym (put_other c a true done other)) (still_agrees a other (done a) (agrees.each a))

  rate_is : rate s.defs regs s.clocks c ≡ rate_in out c
  rate_is =
      ap (λ (ds : Description). rate ds regs s.clocks c) agrees.defs
      ∙ rates_alike n.defs out.regs regs out.clocks s.clocks c (λ a m. by_clock a (path_above (link_in out.clocks) c a m) (same_or_not c a))
      ∙ ap (λ (ds : Description). rate ds out.regs out.clocks c) (sym (plan_of n base ks over).differs.defs) where
        by_clock : (a : ℕ) → Above (link_in out.clocks) c a → (c ≡ a) ⊎ (c ≡ a → ⊥) → (link_in s.clocks a ≡ link_in out.clocks a) × ScalesAlike n.defs out.regs regs a
        by_clock a high (inl same) = subst (λ (x : ℕ). (link_in s.clocks x ≡ link_in out.clocks x) × ScalesAlike n.defs out.regs regs x) same (link, own visit_)
        by_clock a high (inr other) =
            let was = done_above n ks done s c a agrees above high other in
            (was.0, (λ f at. rest a other f at ∙ was.1 f at))
