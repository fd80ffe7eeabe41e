-- A mux that selects, and last requests that settle: each takes the parts of a core on.
use Rattle.std.proofs.Common.{◌≡◌, ℕ, ◌<◌, ◌-◌, ◌^◌, ◌⊎◌, inl, inr, true, false, List, [], ◌∷◌, Option, Some, None, refl, sym, ap, subst, ◌∙◌, length, nat_lt, arith}
use Rattle.std.specs.Prelude.{is_some, slice_index, IfSome}
use Rattle.std.specs.Option.{option_map, option_map_or}
use Rattle.std.proofs.lemmas.Bool.Decides.{nat_tests}
use Rattle.clk_base.specs.declared.call.Micro.TheVariants as micro
use Rattle.clk_base.specs.declared.clock.ClockId.{ClockId}
use Rattle.clk_base.specs.declared.event.Event.TheVariants as event
use Rattle.clk_base.specs.declared.event.Turn.TheVariants as turn
use Rattle.clk_base.specs.Description.{Description, kind_of, parents_of}
use Rattle.clk_base.specs.Fields.{Field, field_of}
use Rattle.clk_base.specs.Levels.{depth}
use Rattle.reg_bank.specs.Registers.{Registers, put}
use Rattle.clk_model.specs.declared.row.ClockRow.{ClockRow}
use Rattle.clk_model.specs.Kinds.{mux_field}
use Rattle.clk_model.specs.Lists.{is_in}
use Rattle.clk_model.specs.Rate.{rate}
use Rattle.clk_model.specs.State.{State, registered, link_in, requested}
use Rattle.clk_model.specs.Step.{taken, settle_all}
use Rattle.clk_model.specs.Tree.{children, path}
use Rattle.clk_model.specs.Walk.{below_within}
use Rattle.clk_model.proofs.ApartLaws.{mux_is_field}
use Rattle.clk_model.proofs.KeepLaws.{mux_written}
use Rattle.clk_model.proofs.Members.{both_left, both_right, is_in_cases, is_in_head, is_in_tail}
use Rattle.clk_model.proofs.PathLaws.{above, path_cons, some_levels}
use Rattle.clk_model.proofs.RateLaws.{rate-links}
use Rattle.clk_flight.specs.Flights.{FlightState, own_step}
use Rattle.clk_tree.specs.TreeState.{TreeState, IsTree}
use Rattle.clk_tree.proofs.Freshness.{below_by_path}
use Rattle.rate_planner.specs.Settings.{put_field}
use Rattle.core_parts.specs.InFlight.{links_clocks}
use Rattle.core_parts.specs.Tied.{AreKept}
use Rattle.clk_machine.specs.Parts.{Parts, bare, IsWhole}
use Rattle.core_parts.specs.Settling.{settled_rows}
use Rattle.clk_machine.specs.Stands.{Enters}
use Rattle.core_parts.specs.Window.{Shown, AreTold}
use Rattle.core_parts.proofs.HeldCounts.{held_on}
use Rattle.core_parts.proofs.Holdings.{StandsFor-like, StandsFor-same}
use Rattle.clk_machine.proofs.Relinked.{place_fits}
use Rattle.clk_machine.proofs.Relinking.{Relinked, with_relinked, can_now, made_now, falls_of, relinked_enters}
use Rattle.core_parts.proofs.SettledRows.{links_settled, there_settled}
use Rattle.clk_machine.proofs.Stepping.{writes_one, settles_one}
use Rattle.clk_machine.proofs.Unmoved.{settled_still}
use Rattle.clk_machine.proofs.LinkSteps.{Stepped, some_of, goes_taken}

-- ---- a mux that selects

pub record MaySelect (old : Parts) (c : ClockId) (place : ℕ) : Type 0 where
  pub mux : is_some (mux_field (kind_of old.desc.defs c.0)) ≡ true
  pub linked_ : is_some (link_in old.tree.clocks c.0) ≡ true
  pub there : registered old.tree.clocks c.0 ≡ true
  pub within : nat_lt place (length (parents_of old.desc.defs c.0)) ≡ true
  pub few : place < length (parents_of old.desc.defs c.0)

pub may_select : (old : Parts) (c : ClockId) (place : ℕ) → IsWhole old → old.flight.going ≡ true → own_step old.flight ≡ Some (micro.WriteMux c place) → MaySelect old c place
may_select old c place whole going own =
    let can = can_now old (micro.WriteMux c place) whole going refl own in
    let two = both_left _ _ can in
    let link = some_of (link_in old.tree.clocks c.0) (both_right _ _ two) in
    let test : nat_lt place (length (parents_of old.desc.defs c.0)) ≡ true = both_right _ _ can in
    record { mux = both_left _ _ two; linked_ = both_right _ _ two; there = whole.tied.stands.linked c.0 link.0 link.1; within = test; few = grind (arith, nat_tests) }

-- its place fits its field
pub select_fits : (old : Parts) (c : ClockId) (place : ℕ) → IsWhole old → MaySelect old c place → IfSome (field_of (kind_of old.desc.defs c.0)) (λ f. place < 2 ^ f.width)
select_fits old c place whole may = by (mux_field (kind_of old.desc.defs c.0)) refl where
  by : (o : Option Field) → mux_field (kind_of old.desc.defs c.0) ≡ o → IfSome (field_of (kind_of old.desc.defs c.0)) (λ f. place < 2 ^ f.width)
  by None is = let no : false ≡ true = sym (ap (λ (o : Option Field). is_some o) is) ∙ may.mux in absurd cc
  by (Some f) is =
      subst (λ (o : Option Field). IfSome o (λ f. place < 2 ^ f.width)) (sym (mux_is_field (kind_of old.desc.defs c.0) f is))
      (place_fits old.desc.words old.desc.defs c.0 place whole.tied.valid may.few f is)

-- what the selection makes of words and tree
pub record Selects (old : Parts) (c : ClockId) (place : ℕ) (window' : Shown) (tree' : TreeState) : Type 0 where
  pub size : window'.size ≡ old.window.size
  pub words : window'.words ≡ option_map (put_field (kind_of old.desc.defs c.0) (Some place)) old.window.words
  pub behind : window'.behind ≡ old.window.behind
  pub locks : window'.locks ≡ old.window.locks
  pub told : AreTold window'.size window'.words
  pub kept : AreKept old.desc.defs window'.words tree'.clocks tree'.rates
  pub rows : tree'.clocks ≡ old.tree.clocks
  pub order : tree'.order ≡ old.tree.order
  pub defs : tree'.defs ≡ old.tree.defs
  pub stands : IsTree tree'.defs tree'.clocks tree'.order tree'.rates

told_map : (f : Registers → Registers) (o : Option (List ℕ)) → is_some (option_map f o) ≡ is_some o
told_map f None = refl
told_map f (Some ws) = refl

put_mux : (defs : Description) (c place : ℕ) (regs : Registers) → is_some (mux_field (kind_of defs c)) ≡ true
    → put_field (kind_of defs c) (Some place) regs ≡ option_map_or (λ f. put regs f.word f.shift f.width place) (mux_field (kind_of defs c)) regs
put_mux defs c place regs mux = by (mux_field (kind_of defs c)) refl where
  by : (o : Option Field) → mux_field (kind_of defs c) ≡ o → put_field (kind_of defs c) (Some place) regs ≡ option_map_or (λ f. put regs f.word f.shift f.width place) (mux_field (kind_of defs c)) regs
  by None is = let no : false ≡ true = sym (ap (λ (o : Option Field). is_some o) is) ∙ mux in absurd cc
  by (Some f) is =
      ap (λ (o : Option Field). option_map_or (λ f. put regs f.word f.shift f.width place) o regs) (mux_is_field (kind_of defs c) f is ∙ sym is)

pub selected_of : (old : Parts) (c : ClockId) (place : ℕ) (window' : Shown) (tree' : TreeState) (flight' : FlightState) → Stepped old (micro.WriteMux c place) flight' → Selects old c place window' tree'
    → Relinked old (micro.WriteMux c place) window' tree' old.counts old.prepare_holds old.enable_holds flight'
selected_of old c place window' tree' flight' now to = record {
  whole = now.whole;
  going = now.going;
  is = refl;
  own = now.own;
  first = now.first;
  size = to.size;
  told = ap (λ (o : Option (List ℕ)). is_some o) to.words ∙ told_map (put_field (kind_of old.desc.defs c.0) (Some place)) old.window.words;
  behind = to.behind;
  locks = to.locks;
  tied = record {
    valid = now.whole.tied.valid;
    words = to.size ∙ now.whole.tied.words;
    told = to.told;
    defs = to.defs ∙ now.whole.tied.defs;
    stands = to.stands;
    kept = to.kept;
  };
  there = λ d. ap (λ (rs : List ClockRow). registered rs d) to.rows;
  linked = λ d has. ap (λ (rs : List ClockRow). is_some (link_in rs d)) to.rows ∙ has;
  keeps = now.whole.counted.keeps;
  prepares = held_on (registered old.tree.clocks) (length old.desc.defs) old.steps old.prepare_holds now.whole.prepares_held;
  enables = held_on (registered old.tree.clocks) (length old.desc.defs) old.steps old.enable_holds now.whole.enables_held;
  stands = StandsFor-same old.counts (bare old) (bare (record old { tree = tree' })) now.whole.counted.stands refl to.rows refl refl refl;
  raised = old.flight.raised;
  raised_there = (now.whole.flown now.going).way.raised;
  flight = now.flight;
  less = falls_of old (micro.WriteMux c place) flight' now.whole now.going refl now.own now.less;
}

pub select_enters : (old : Parts) (c : ClockId) (place : ℕ) (window' : Shown) (tree' : TreeState) (flight' : FlightState) → Stepped old (micro.WriteMux c place) flight' → Selects old c place window' tree'
    → Enters old old.flight.driver (event.Step (micro.WriteMux c place) None) turn.Going (with_relinked old window' tree' old.counts old.prepare_holds old.enable_holds flight')
select_enters old c place window' tree' flight' now to =
    relinked_enters old (micro.WriteMux c place) window' tree' old.counts old.prepare_holds old.enable_holds flight' (selected_of old c place window' tree' flight' now to) (λ s k stands sound next is.
    let may = may_select old c place now.whole now.going now.own in
    let same : put_field (kind_of old.desc.defs c.0) (Some place) s.regs ≡ mux_written s c.0 place =
    put_mux old.desc.defs c.0 place s.regs may.mux ∙ ap (λ (ds : Description). option_map_or (λ f. put s.regs f.word f.shift f.width place) (mux_field (kind_of ds c.0)) s.regs) (sym stands.defs) in
    record {
      regs = mux_written s c.0 place;
      clocks = s.clocks;
      order = s.order;
      prepare_holds = s.prepare_holds;
      enable_holds = s.enable_holds;
      change = taken k;
      next_ = writes_one s old.flight.driver k c place next;
      words = to.words ∙ ap (option_map (put_field (kind_of old.desc.defs c.0) (Some place))) stands.regs ∙ ap (λ (ws : Registers). Some ws) same;
      rows = stands.clocks ∙ sym to.rows;
      order_ = stands.order ∙ sym to.order;
      prepares = stands.prepare_holds;
      enables = stands.enable_holds;
      flies = now.change s.notifiers k (micro.WriteMux c place) is next.first refl;
      along = goes_taken old.course k;
    })

-- ---- last requests

-- what the settling makes of the tree
pub record Settles (old : Parts) (c : ClockId) (tree' : TreeState) : Type 0 where
  pub clocks : tree'.clocks ≡ settled_rows (slice_index old.tree.rates) old.tree.clocks (below_within (children old.tree.order old.tree.clocks) depth c.0)
  pub order : tree'.order ≡ old.tree.order
  pub rates : tree'.rates ≡ old.tree.rates
  pub defs : tree'.defs ≡ old.tree.defs
  pub stands : IsTree tree'.defs tree'.clocks tree'.order tree'.rates

pub may_settle : (old : Parts) (c : ClockId) → IsWhole old → old.flight.going ≡ true → own_step old.flight ≡ Some (micro.Settle c) → registered old.tree.clocks c.0 ≡ true
may_settle old c whole going own = both_right (links_clocks old.flight.call) (registered old.tree.clocks c.0) (made_now old (micro.Settle c) whole going refl own)

settled_agree : (f g : ℕ → ℕ) (clocks : List ClockRow) (xs : List ℕ) → ((d : ℕ) → is_in d xs ≡ true → f d ≡ g d) → settled_rows f clocks xs ≡ settled_rows g clocks xs
settled_agree f g clocks [] same = refl
settled_agree f g clocks (x ∷ xs) same =
    ap (λ (r : ℕ). requested (settled_rows f clocks xs) x r) (same x (is_in_head x xs))
    ∙ ap (λ (rs : List ClockRow). requested rs x (g x)) (settled_agree f g clocks xs (λ d m. same d (is_in_tail d x xs m)))

settle_all_is : (s : State) (xs : List ℕ) → settled_rows (rate s.defs s.regs s.clocks) s.clocks xs ≡ settle_all s xs
settle_all_is s [] = refl
settle_all_is s (x ∷ xs) = ap (λ (rs : List ClockRow). requested rs x (rate s.defs s.regs s.clocks x)) (settle_all_is s xs)

never_true : false ≡ true → ⊥
never_true e = absurd cc

-- all below a registered clock are registered
below_there : (old : Parts) (c d : ℕ) → IsWhole old → registered old.tree.clocks c ≡ true → is_in d (below_within (children old.tree.order old.tree.clocks) depth c) ≡ true → registered old.tree.clocks d ≡ true
below_there old c d whole there m = by (link_in old.tree.clocks d) refl where
  on : is_in c (path old.tree.clocks d) ≡ true
  on = sym (below_by_path old.tree.defs old.tree.clocks old.tree.order old.tree.rates c d whole.tied.stands) ∙ m

  by : (o : Option ℕ) → link_in old.tree.clocks d ≡ o → registered old.tree.clocks d ≡ true
  by (Some p) at = whole.tied.stands.linked d p at
  by None at = alone (is_in_cases c d (above (link_in old.tree.clocks) (depth - 1) None)
      (sym (ap (λ (xs : List ℕ). is_in c xs) (path_cons (link_in old.tree.clocks) depth d some_levels ∙ ap (λ (o : Option ℕ). d ∷ above (link_in old.tree.clocks) (depth - 1) o) at)) ∙ on)) where
        alone : (d ≡ c) ⊎ (is_in c (above (link_in old.tree.clocks) (depth - 1) None) ≡ true) → registered old.tree.clocks d ≡ true
        alone (inl same) = ap (registered old.tree.clocks) same ∙ there
        alone (inr off) = absurd (never_true off)

pub settled_of : (old : Parts) (c : ClockId) (tree' : TreeState) (flight' : FlightState) → Stepped old (micro.Settle c) flight' → Settles old c tree'
    → Relinked old (micro.Settle c) old.window tree' old.counts old.prepare_holds old.enable_holds flight'
settled_of old c tree' flight' now to = record {
  whole = whole;
  going = now.going;
  is = refl;
  own = now.own;
  first = now.first;
  size = refl;
  told = refl;
  behind = refl;
  locks = refl;
  tied = record {
    valid = whole.tied.valid;
    words = whole.tied.words;
    told = whole.tied.told;
    defs = to.defs ∙ whole.tied.defs;
    stands = to.stands;
    kept = kept old.window.words whole.tied.kept;
  };
  there = there;
  linked = λ d has. ap (λ (o : Option ℕ). is_some o) (links d) ∙ has;
  keeps = whole.counted.keeps;
  prepares = held_on (registered old.tree.clocks) (length old.desc.defs) old.steps old.prepare_holds whole.prepares_held;
  enables = held_on (registered old.tree.clocks) (length old.desc.defs) old.steps old.enable_holds whole.enables_held;
  stands = StandsFor-like old.counts (bare old) (bare (record old { tree = tree' })) whole.counted.stands refl links there refl refl refl;
  raised = old.flight.raised;
  raised_there = (whole.flown now.going).way.raised;
  flight = now.flight;
  less = falls_of old (micro.Settle c) flight' whole now.going refl now.own now.less;
} where
  whole : IsWhole old
  whole = now.whole

  xs : List ℕ
  xs = below_within (children old.tree.order old.tree.clocks) depth c.0

  there : (d : ℕ) → registered tree'.clocks d ≡ registered old.tree.clocks d
  there d = ap (λ (rs : List ClockRow). registered rs d) to.clocks ∙ there_settled (slice_index old.tree.rates) old.tree.clocks xs d

  links : (d : ℕ) → link_in tree'.clocks d ≡ link_in old.tree.clocks d
  links d = ap (λ (rs : List ClockRow). link_in rs d) to.clocks ∙ links_settled (slice_index old.tree.rates) old.tree.clocks xs d

  kept : (words : Option (List ℕ)) → AreKept old.desc.defs words old.tree.clocks old.tree.rates → AreKept old.desc.defs words tree'.clocks tree'.rates
  kept None was = tt
  kept (Some regs) was = λ k here.
      ap (λ (rs : List ℕ). slice_index rs k) to.rates ∙ was k (sym (there k) ∙ here)
      ∙ sym (rate-links old.desc.defs regs old.tree.clocks tree'.clocks k links)

pub settle_enters : (old : Parts) (c : ClockId) (tree' : TreeState) (flight' : FlightState) → Stepped old (micro.Settle c) flight' → Settles old c tree'
    → Enters old old.flight.driver (event.Step (micro.Settle c) None) turn.Going (with_relinked old old.window tree' old.counts old.prepare_holds old.enable_holds flight')
settle_enters old c tree' flight' now to =
    relinked_enters old (micro.Settle c) old.window tree' old.counts old.prepare_holds old.enable_holds flight' (settled_of old c tree' flight' now to) (λ s k stands sound next is.
    let there = may_settle old c now.whole now.going now.own in
    let kept : AreKept old.desc.defs (Some s.regs) old.tree.clocks old.tree.rates = subst (λ (o : Option (List ℕ)). AreKept old.desc.defs o old.tree.clocks old.tree.rates) stands.regs now.whole.tied.kept in
    let xs : List ℕ = below_within (children s.order s.clocks) depth c.0 in
    let ys : List ℕ = below_within (children old.tree.order old.tree.clocks) depth c.0 in
    let same : ys ≡ xs =
    ap (λ (zs : List ℕ). below_within (children zs old.tree.clocks) depth c.0) (sym stands.order) ∙ ap (λ (rs : List ClockRow). below_within (children s.order rs) depth c.0) (sym stands.clocks) in
    let rows : tree'.clocks ≡ settle_all s xs =
    to.clocks
    ∙ settled_agree (slice_index old.tree.rates) (rate s.defs s.regs s.clocks) old.tree.clocks ys (λ d m.
    kept d (below_there old c.0 d now.whole there m) ∙ ap (λ (ds : Description). rate ds s.regs old.tree.clocks d) (sym stands.defs) ∙ ap (λ (rs : List ClockRow). rate s.defs s.regs rs d) (sym stands.clocks))
    ∙ ap (λ (rs : List ClockRow). settled_rows (rate s.defs s.regs s.clocks) rs ys) (sym stands.clocks)
    ∙ ap (settled_rows (rate s.defs s.regs s.clocks) s.clocks) same
    ∙ settle_all_is s xs in
    record {
      regs = s.regs;
      clocks = settle_all s xs;
      order = s.order;
      prepare_holds = s.prepare_holds;
      enable_holds = s.enable_holds;
      change = taken k;
      next_ = settles_one s old.flight.driver k c next (λ x. settled_still s k c.0 x);
      words = stands.regs;
      rows = sym rows;
      order_ = stands.order ∙ sym to.order;
      prepares = stands.prepare_holds;
      enables = stands.enable_holds;
      flies = now.change s.notifiers k (micro.Settle c) is next.first refl;
      along = goes_taken old.course k;
    })
