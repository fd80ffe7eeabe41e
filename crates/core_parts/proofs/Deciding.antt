-- What a request for a rate comes to is what was decided, in each state that planning was given.
use Rattle.std.proofs.Common.{◌≡◌, ◌≢◌, ℕ, ◌+◌, ◌-◌, ◌<◌, ◌≤◌, ◌&&◌, ◌⊎◌, inl, inr, Bool, true, false, not, cond, List, [], Option, Some, None, refl, sym, ap, subst, ◌∙◌, arith, nat_lt, nat_eq}
use Rattle.std.specs.Prelude.{IfSome, sum_by}
use Rattle.std.specs.Option.{option_map_or}
use Rattle.std.specs.List.{list_any}
use Rattle.std.proofs.lemmas.Bool.Decides.{nat_tests}
use Rattle.clk_base.specs.Checked.{Checked}
use Rattle.clk_base.specs.Description.{Description}
use Rattle.clk_base.specs.Levels.{depth}
use Rattle.clk_base.specs.declared.call.Sleeping.{Sleeping}
use Rattle.clk_base.specs.declared.event.Errno.TheVariants as errno
use Rattle.clk_base.specs.declared.event.Turn.{Turn}
use Rattle.clk_model.specs.declared.row.ClockRow.{ClockRow}
use Rattle.clk_model.specs.declared.row.HandleRow.{HandleRow}
use Rattle.clk_model.specs.Begin.{pick, done, refused, starts, change_along, request}
use Rattle.clk_base.specs.declared.event.Reply.TheVariants as reply
use Rattle.clk_model.specs.Chain.{chain}
use Rattle.clk_model.specs.Counts.{protect_count}
use Rattle.clk_model.specs.Holders.{guarded, prepared}
use Rattle.clk_model.specs.Laws.Lifting.{LiftedSees}
use Rattle.clk_model.specs.Lists.{is_at, is_in}
use Rattle.clk_model.specs.Rate.{rate}
use Rattle.clk_model.specs.Round.{Wiring, View, wiring, round_rate}
use Rattle.clk_model.specs.Script.{weight, planned, is_raise, notices_of}
use Rattle.clk_model.specs.State.{State, ChainStep, link_in}
use Rattle.clk_model.specs.Tree.{path_within}
use Rattle.clk_model.specs.Views.{view, free_view, lift}
use Rattle.clk_model.specs.Wired.{IsOrder, LinesEnd, LinksArePossible}
use Rattle.clk_model.proofs.EventLaws.{pick-true, pick-false}
use Rattle.clk_model.proofs.Members.{is_in_head}
use Rattle.clk_model.proofs.PathLaws.{some_levels, above, path_cons}
use Rattle.clk_tree.specs.declared.plan.Plan.{Plan}
use Rattle.clk_tree.specs.Plans.{ClockRate}
use Rattle.clk_tree.specs.TreeState.{TreeState}
use Rattle.counts_core.specs.Counted.{CountState, AreCounts, is_guarded, is_prepared, protect_sum}
use Rattle.counts_core.proofs.Standing.{tells_counts, tells_holds}
use Rattle.notifiers.specs.declared.notifier.Notifier.{Notifier}
use Rattle.rate_planner.specs.Kept.{wired}
use Rattle.rate_planner.specs.Walks.{walked_rates}
use Rattle.change_walk.specs.Given as given
use Rattle.change_walk.specs.Given.{Script, IsTold, OfPlan}
use Rattle.change_walk.proofs.Leading.{request_fits}
use Rattle.core_parts.specs.Decisions as decided
use Rattle.core_parts.specs.Decisions.{Decision}
use Rattle.core_parts.specs.Planned.{AreItsNotifiers, GoesAlong, IsAnswer, IsGiven, IsOver, IsPlanOf, IsScriptOf, SeesFree}
use Rattle.core_parts.specs.Free.{freed, free_seen, is_sole, sole_parent}
use Rattle.core_parts.specs.Tied.{AreTied, AreKept}
use Rattle.core_parts.specs.Seen.{seen}
use Rattle.core_parts.specs.Window.{Shown}
use Rattle.core_parts.proofs.FreeView.{free_stands, free_unguarded}

-- ---- numbers

pub less_is : (a b : ℕ) → a < b → nat_lt a b ≡ true
less_is a b lt = grind (arith, nat_tests)

pub not_less : (a b : ℕ) → a ≤ b → nat_lt b a ≡ false
not_less a b le = grind (arith, nat_tests)

-- ---- a plan and its script

-- a plan with its script is that of a change along its chain
pub plan_is : (s : State) (plan : Plan) (script : Script) (d : ℕ) (what : Sleeping) (range : Option (ℕ × ℕ)) → plan.set_parent ≡ false → plan.rates ≡ walked_rates s.order (wiring s) plan.chain
    → IsScriptOf s plan script → IsPlanOf s (change_along s d what plan.chain [] range) plan script
plan_is s plan script d what range set_parent rates made = record {
  chain = refl;
  rates = rates;
  steps = ap (λ (b : Bool). (planned s plan.chain (given.settles b plan.chain)).steps) (sym set_parent) ∙ sym made.steps;
  vetoed = ap (λ (b : Bool). (planned s plan.chain (given.settles b plan.chain)).vetoed) (sym set_parent) ∙ sym made.vetoed;
  extra = ap (λ (b : Bool). extra_by b) (sym set_parent) ∙ sym made.extra;
  weight = made.weight ∙ ap (λ (b : Bool). sum_by (weight s) (planned s plan.chain (given.settles b plan.chain)).steps + extra_by b) set_parent;
} where
  extra_by : Bool → ℕ
  extra_by b = cond (b && list_any is_raise (planned s plan.chain (given.settles b plan.chain)).steps) (notices_of s (planned s plan.chain (given.settles b plan.chain)).changing) 0

-- ---- what is told of a state

module _ {desc : Checked} {window : Shown} {tree : TreeState} {s : State} (on : IsOver desc window tree s) (tied : AreTied desc window tree) where
  -- what is said of the told words is so of the state's registers
  pub told_here : (P : Wiring → Type 0) → IfSome window.words (λ regs. P (wired desc.defs regs tree)) → P (wiring s)
  told_here P says =
      subst (λ (ds : Description). P (record { defs = ds; regs = s.regs; clocks = s.clocks })) (sym on.defs)
      (subst (λ (rows : List ClockRow). P (record { defs = desc.defs; regs = s.regs; clocks = rows })) (sym on.clocks)
      (subst (λ (o : Option (List ℕ)). IfSome o (λ regs. P (wired desc.defs regs tree))) on.regs says))

  pub listed : IsOrder s.order s.clocks
  listed =
      subst (λ (rows : List ClockRow). IsOrder s.order rows) (sym on.clocks)
      (subst (λ (xs : List ℕ). IsOrder xs tree.clocks) (sym on.order) (record {
        once = tied.stands.order_lists.once;
        linked = λ c p at. tied.stands.order_lists.listed c ∙ tied.stands.linked c p at;
      }))

  pub rates_told : (ks : List ChainStep) (rates : List ClockRate) → IfSome window.words (λ regs. rates ≡ walked_rates tree.order (wired desc.defs regs tree) ks) → rates ≡ walked_rates s.order (wiring s) ks
  rates_told ks rates says =
      told_here (λ w. rates ≡ walked_rates tree.order w ks) says ∙ ap (λ (xs : List ℕ). walked_rates xs (wiring s) ks) (sym on.order)

  -- what a script is told of the state
  pub script_told : (chains : List (List Notifier)) (held : ℕ → Bool) → AreItsNotifiers chains s → ((c : ℕ) → held c ≡ prepared s c) → IsTold s tree held chains
  script_told chains held its same = record {
    is = record {
      defs = on.defs ∙ sym tied.defs;
      clocks = on.clocks;
      order = on.order;
      kept = λ c there.
          (subst (λ (o : Option (List ℕ)). AreKept desc.defs o tree.clocks tree.rates) on.regs tied.kept) c there
          ∙ sym (ap (λ (ds : Description). rate ds s.regs s.clocks c) on.defs ∙ ap (λ (rows : List ClockRow). rate desc.defs s.regs rows c) on.clocks);
      notifiers = its;
    };
    prepared = λ c within. same c;
  }

  -- whether a clock would give the rate that it has
  abbrev keeps_in : View → ℕ → ℕ → Bool
  keeps_in v c x = is_at (rate s.defs s.regs s.clocks c) (round_rate (wiring s) v c x)

  keeps_told : (v u : View) (c x : ℕ) (t : Bool) → v ≡ u → IfSome window.words (λ regs. t ≡ is_at (rate desc.defs regs tree.clocks c) (round_rate (wired desc.defs regs tree) v c x)) → t ≡ keeps_in u c x
  keeps_told v u c x t same says =
      told_here (λ w. t ≡ is_at (rate w.defs w.regs w.clocks c) (round_rate w v c x)) says ∙ ap (λ (y : View). keeps_in y c x) same

  -- what is rounded over the told words is the state's rounding
  pub round_told : (v u : View) (c x : ℕ) (found : Option ℕ) → v ≡ u → IfSome window.words (λ regs. found ≡ round_rate (wired desc.defs regs tree) v c x) → found ≡ round_rate (wiring s) u c x
  round_told v u c x found same says = told_here (λ w. found ≡ round_rate w v c x) says ∙ ap (λ (y : View). round_rate (wiring s) y c x) same

  -- ---- a clock that isn't guarded as planning sees it

  module _ (v : View) (lifted : State) (c x : ℕ) (free : SeesFree v c s lifted) where
    freely : v ≡ free_view lifted c
    freely = free.view_ ∙ sym free.free

    abbrev KeepsRate : Bool → Type 0
    KeepsRate t = IfSome window.words (λ regs. t ≡ is_at (rate desc.defs regs tree.clocks c) (round_rate (wired desc.defs regs tree) v c x))

    pub answers_at_once : KeepsRate true → IsAnswer s lifted c x decided.AtOnce
    answers_at_once says = record {
      begins = λ old fine d what range. pick-true (keeps_in (free_view lifted c) c x) _ _ (sym (keeps_told v (free_view lifted c) c x true freely says));
      along = tt;
      planned = λ d what range. tt;
      room = tt;
    }

    -- the plan of the state
    chain_told : (found : Option (List ChainStep)) → IfSome window.words (λ regs. found ≡ chain (wired desc.defs regs tree) v c x) → chain (wiring s) (view lifted) c x ≡ found
    chain_told found says = sym (told_here (λ w. found ≡ chain w v c x) says ∙ ap (λ (u : View). chain (wiring s) u c x) free.view_)

    -- behind the rate that it has it is the plan that decides
    by_chain : (old fine : State) (d : ℕ) (what : Sleeping) (range : Option (ℕ × ℕ)) (found : Option (List ChainStep)) → KeepsRate false → chain (wiring s) (view lifted) c x ≡ found
        → request old s fine lifted d what c x range ≡ option_map_or (λ ks. starts old s (change_along s d what ks [] range)) found (refused old errno.EINVAL)
    by_chain old fine d what range found says at =
        pick-false (keeps_in (free_view lifted c) c x) _ _ (sym (keeps_told v (free_view lifted c) c x false freely says))
        ∙ pick-false (guarded lifted c) _ _ free.unguarded
        ∙ ap (λ (o : Option (List ChainStep)). option_map_or (λ ks. starts old s (change_along s d what ks [] range)) o (refused old errno.EINVAL)) at

    pub answers_no_plan : KeepsRate false → IfSome window.words (λ regs. None ≡ chain (wired desc.defs regs tree) v c x) → IsAnswer s lifted c x (decided.Refused errno.EINVAL)
    answers_no_plan says none = record {
      begins = λ old fine d what range. by_chain old fine d what range None says (chain_told None none);
      along = tt;
      planned = λ d what range. tt;
      room = λ e. absurd cc;
    }

    pub answers_planned : (chains : List (List Notifier)) (plan : Plan) (script : Script) → AreItsNotifiers chains s → KeepsRate false
        → IfSome window.words (λ regs. Some plan.chain ≡ chain (wired desc.defs regs tree) v c x)
        → IfSome window.words (λ regs. plan.rates ≡ walked_rates tree.order (wired desc.defs regs tree) plan.chain) → plan.set_parent ≡ false
        → OfPlan tree v.prepared chains plan (λ t. IsScriptOf t plan script) → IsAnswer s lifted c x (decided.Change plan script)
    answers_planned chains plan script its says chain_ rates set_parent scripts = record {
      begins = λ old fine d what range. by_chain old fine d what range (Some plan.chain) says at;
      along = at;
      planned = λ d what range. (plan_is s plan script d what range set_parent walked_ made, set_parent);
      room = tt;
    } where
      at : chain (wiring s) (view lifted) c x ≡ Some plan.chain
      at = chain_told (Some plan.chain) chain_

      walked_ : plan.rates ≡ walked_rates s.order (wiring s) plan.chain
      walked_ = rates_told plan.chain plan.rates rates

      plans : given.IsPlanFor s plan
      plans = request_fits s (view lifted) c x plan
          (subst (λ (ds : Description). LinesEnd ds) (tied.defs ∙ sym on.defs) tied.stands.lines)
          (subst (λ (ds : Description). LinksArePossible ds s.clocks) (tied.defs ∙ sym on.defs)
          (subst (λ (rows : List ClockRow). LinksArePossible tree.defs rows) (sym on.clocks) tied.stands.possible)) at walked_

      made : IsScriptOf s plan script
      made = scripts s (script_told chains v.prepared its free.prepared_) plans

-- ---- handles and counts of a state

-- a clock is among those of its path that are free where it is
among_free : (up : ℕ → Option ℕ) (c : ℕ) (t : Bool) → (t && not (is_in c (cond t (path_within up depth c) []))) ≡ false
among_free up c false = refl
among_free up c true = ap not (subst (λ (cs : List ℕ). is_in c cs ≡ true) (sym (path_cons up depth c some_levels)) (is_in_head c (above up (depth - 1) (up c))))

module _ {desc : Checked} {window : Shown} {tree : TreeState} {handles : List (Option HandleRow)} {counts : CountState} {s : State}
    (given_ : IsGiven desc window tree handles counts s) (tied : AreTied desc window tree) (keeps : AreCounts counts) where
  sees_free : (c : ℕ) → free_seen handles counts (freed tree.clocks counts c) ≡ free_view s c
  sees_free c =
      ap (λ (rows : List ClockRow). free_seen handles counts (freed rows counts c)) (sym given_.over.clocks)
      ∙ free_stands counts s keeps given_.counted (listed given_.over tied) handles s.clocks c refl given_.sees

  pub guarded_told : (c : ℕ) → is_guarded counts c ≡ guarded s c
  guarded_told c = (tells_holds counts s keeps given_.counted c).guarded

  pub prepared_told : (c : ℕ) → is_prepared counts c ≡ prepared s c
  prepared_told c = (tells_holds counts s keeps given_.counted c).prepared

  protects_told : (c : ℕ) → protect_sum counts c ≡ protect_count s c
  protects_told c = (tells_counts counts s keeps given_.counted (listed given_.over tied) c).protects

  -- a guarded clock is asked for its rate where it is free
  pub answers_kept : (c x : ℕ) → IfSome window.words (λ regs. true ≡ is_at (rate desc.defs regs tree.clocks c) (round_rate (wired desc.defs regs tree) (free_seen handles counts (freed tree.clocks counts c)) c x))
      → IsAnswer s s c x decided.AtOnce
  answers_kept c x says = record {
    begins = λ old fine d what range.
        pick-true (keeps_in given_.over tied (free_view s c) c x) _ _ (sym (keeps_told given_.over tied (free_seen handles counts (freed tree.clocks counts c)) (free_view s c) c x true (sees_free c) says));
    along = tt;
    planned = λ d what range. tt;
    room = tt;
  }

  pub answers_busy : (c x : ℕ) → IfSome window.words (λ regs. false ≡ is_at (rate desc.defs regs tree.clocks c) (round_rate (wired desc.defs regs tree) (free_seen handles counts (freed tree.clocks counts c)) c x))
      → is_guarded counts c ≡ true → IsAnswer s s c x (decided.Refused errno.EBUSY)
  answers_busy c x says held = record {
    begins = λ old fine d what range.
        pick-false (keeps_in given_.over tied (free_view s c) c x) _ _ (sym (keeps_told given_.over tied (free_seen handles counts (freed tree.clocks counts c)) (free_view s c) c x false (sees_free c) says))
        ∙ pick-true (guarded s c) _ _ (sym (guarded_told c) ∙ held);
    along = tt;
    planned = λ d what range. tt;
    room = λ e. absurd cc;
  }

  -- a clock that nothing guards is free
  pub sees_itself : (c : ℕ) → is_guarded counts c ≡ false → SeesFree (seen handles counts) c s s
  sees_itself c none = record {
    view_ = given_.sees;
    free = sym (sees_free c) ∙ free_unguarded handles counts tree.clocks c none ∙ given_.sees;
    unguarded = sym (guarded_told c) ∙ none;
    prepared_ = prepared_told;
  }

  -- so is one that an exclusive alone protects, if that is lifted
  pub sees_lifted : (number : ℕ) (row : HandleRow) (cs : List ℕ) → LiftedSees s number row → is_sole row counts ≡ true → cs ≡ freed tree.clocks counts row.clock.0
      → SeesFree (free_seen handles counts cs) row.clock.0 s (lift s number)
  sees_lifted number row cs lifts sole is = record {
    view_ = frees;
    free = lifts.free ∙ sym lifted_;
    unguarded = ap (λ (v : View). v.guarded row.clock.0) (sym frees) ∙ ap (λ (cs_ : List ℕ). is_guarded counts row.clock.0 && not (is_in row.clock.0 cs_)) is
        ∙ among_free (sole_parent (link_in tree.clocks) (protect_sum counts)) row.clock.0 (is_guarded counts row.clock.0);
    prepared_ = prepared_told;
  } where
    some : 0 < row.exclusives
    some = grind (arith, nat_tests)

    alone : protect_sum counts row.clock.0 ≡ 1
    alone = grind (arith, nat_tests)

    lifted_ : view (lift s number) ≡ free_view s row.clock.0
    lifted_ = lifts.frees some (sym (protects_told row.clock.0) ∙ alone)

    frees : free_seen handles counts cs ≡ view (lift s number)
    frees = ap (free_seen handles counts) is ∙ sees_free row.clock.0 ∙ sym lifted_

  -- else planning sees what it saw before
  pub sees_same : (number : ℕ) (row : HandleRow) → LiftedSees s number row → is_sole row counts ≡ false → view (lift s number) ≡ view s
  sees_same number row lifts other = lifts.keeps (by (nat_lt 0 row.exclusives) refl (nat_eq (protect_sum counts row.clock.0) 1) refl other) where
    by : (a : Bool) → nat_lt 0 row.exclusives ≡ a → (b : Bool) → nat_eq (protect_sum counts row.clock.0) 1 ≡ b → (a && b) ≡ false
        → (row.exclusives ≡ 0) ⊎ (protect_count s row.clock.0 ≢ 1)
    by false is b is' e = inl (grind (arith, nat_tests))
    by true is true is' e = absurd cc
    by true is false is' e = inr (λ one. let same = protects_told row.clock.0 in let sole : protect_sum counts row.clock.0 ≡ 1 = protects_told row.clock.0 ∙ one in absurd (grind (arith, nat_tests)))

  -- so the clock is guarded if it isn't an exclusive of the handle alone that protects it
  pub guarded_lifted : (number : ℕ) (row : HandleRow) → LiftedSees s number row → (is_guarded counts row.clock.0 && not (is_sole row counts)) ≡ guarded (lift s number) row.clock.0
  guarded_lifted number row lifts = by (is_sole row counts) refl where
    never : (t : Bool) → (t && false) ≡ false
    never true = refl
    never false = refl

    always : (t : Bool) → (t && true) ≡ t
    always true = refl
    always false = refl

    by : (t : Bool) → is_sole row counts ≡ t → (is_guarded counts row.clock.0 && not t) ≡ guarded (lift s number) row.clock.0
    by true is = never (is_guarded counts row.clock.0) ∙ sym (sees_lifted number row (freed tree.clocks counts row.clock.0) lifts is refl).unguarded
    by false is =
        always (is_guarded counts row.clock.0) ∙ guarded_told row.clock.0 ∙ ap (λ (v : View). v.guarded row.clock.0) (sym (sees_same number row lifts is))

-- an answer over what planning sees is one if it sees the same
pub answer_lifted : (s lifted : State) (c x : ℕ) (decision : Decision) → IsAnswer s s c x decision → view lifted ≡ view s → free_view lifted c ≡ free_view s c → IsAnswer s lifted c x decision
answer_lifted s lifted c x decision answer same free = record {
  begins = λ old fine d what range.
      ap (λ (v : View). by_views old fine d what range v (view lifted)) free ∙ ap (λ (v : View). by_views old fine d what range (free_view s c) v) same ∙ answer.begins old fine d what range;
  along = subst (λ (v : View). decided_along v) (sym same) answer.along;
  planned = answer.planned;
  room = answer.room;
} where
  by_views : State → State → ℕ → Sleeping → Option (ℕ × ℕ) → View → View → State × Turn
  by_views old fine d what range free_ seen_ =
      pick (is_at (rate s.defs s.regs s.clocks c) (round_rate (wiring s) free_ c x))
      (λ t. done fine reply.Fine)
      (λ t. pick (seen_.guarded c)
      (λ t. refused old errno.EBUSY)
      (λ t. option_map_or (λ ks. starts old s (change_along s d what ks [] range)) (chain (wiring s) seen_ c x) (refused old errno.EINVAL)))

  decided_along : View → Type 0
  decided_along v = GoesAlong (chain (wiring s) v c x) decision
