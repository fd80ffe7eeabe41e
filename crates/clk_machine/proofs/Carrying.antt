-- What is decided in a state is decided in each state with the same part of the prepare tier.
use Rattle.std.proofs.Common.{◌≡◌, ℕ, ◌&&◌, ◌||◌, ◌⊎◌, inl, inr, Bool, true, false, List, [], ◌∷◌, Option, Some, None, refl, sym, ap, subst, ◌∙◌, map, set, length}
use Rattle.std.specs.Prelude.{is_some, nat_le, if◌then◌else◌}
use Rattle.std.specs.List.{AllByRecursion, list_any}
use Rattle.std.specs.Option.{option_map, option_map_or}
use Rattle.clk_base.specs.Description.{Description, kind_of, parents_of}
use Rattle.clk_base.specs.Flags.{sets_parent_gate}
use Rattle.clk_base.specs.declared.call.Micro.TheVariants as micro
use Rattle.clk_base.specs.declared.call.Sleeping.{Sleeping}
use Rattle.clk_base.specs.declared.call.Sleeping.TheVariants as call
use Rattle.clk_base.specs.declared.clock.ClockId.{ClockId}
use Rattle.clk_base.specs.declared.event.Errno.TheVariants as errno
use Rattle.clk_base.specs.declared.event.Reply.{Reply}
use Rattle.clk_base.specs.declared.event.Reply.TheVariants as reply
use Rattle.clk_base.specs.declared.event.Turn.{Turn}
use Rattle.clk_base.specs.declared.event.Turn.TheVariants as turn
use Rattle.clk_base.specs.declared.handle.Handle.{Handle}
use Rattle.clk_base.specs.Valid.{IsValid}
use Rattle.clk_base.proofs.Valid.{lines_end}
use Rattle.reg_bank.specs.Registers.{Registers}
use Rattle.clk_model.specs.declared.row.ClockRow.{ClockRow}
use Rattle.clk_model.specs.declared.row.HandleRow.{HandleRow}
use Rattle.clk_model.specs.Begin.{pick, refused, starts, most_credits, weight_of, change_along, own_handle, request, request_between, range_set, misses, held_once_more, reparenting, parent_set, begun}
use Rattle.clk_model.specs.Chain.{clock_id, chain, outcome}
use Rattle.clk_model.specs.Holders.{guarded, prepared}
use Rattle.clk_model.specs.Journal.{slotless}
use Rattle.clk_model.specs.Kinds.{mux_field, is_read_only}
use Rattle.clk_model.specs.Laws.CallCauses.{with_limits}
use Rattle.clk_model.specs.Laws.PlansRead.{asks, plans}
use Rattle.clk_model.specs.Laws.PrepBegins.{ComesAlike, answered, sets_out, is_decided}
use Rattle.clk_model.specs.Lists.{is_in, is_at}
use Rattle.clk_model.specs.Prep.{without_enables, prep}
use Rattle.clk_model.specs.Rate.{rate}
use Rattle.clk_model.specs.Round.{Wiring, View, wiring, rate_in, round_rate}
use Rattle.clk_model.specs.Script.{is_raise, notices_of}
use Rattle.clk_model.specs.State.{State, Change, ChainStep, handle_at, link_in}
use Rattle.clk_model.specs.Tree.{rooted}
use Rattle.clk_model.specs.Views.{view, free_view, lift, lifted_row}
use Rattle.clk_model.specs.Walk.{walk}
use Rattle.clk_model.specs.Wired.{IsWired, LinksArePossible}
use Rattle.clk_model.proofs.AlikeLaws.{rest_of, is_beside}
use Rattle.clk_model.proofs.BareHandleLaws.{bare, set_bare, lift_bare, SameOwn, neither, both_have, own_same}
use Rattle.clk_model.proofs.EventLaws.{pick-true, pick-false, with-some}
use Rattle.clk_model.proofs.Members.{both_left, both_right}
use Rattle.clk_model.proofs.PlanBeginLaws.{clock_same}
use Rattle.clk_model.proofs.PlanLaws.{chains_lead}
use Rattle.clk_model.proofs.PlannedSameLaws.{Rest, beside, SameHere, view_same, along_same}
use Rattle.clk_model.proofs.PlansReadLaws.{answers_read_prep, plans_come, same_here}
use Rattle.clk_model.proofs.SameRateLaws.{tree_over}
use Rattle.clk_model.proofs.SameSettingLaws.{IsPossible, SameFields, tree_rates, outcome_same, possible_in, chain_same}
use Rattle.change_walk.specs.Given.{Script}
use Rattle.clk_tree.specs.declared.plan.Plan.{Plan}
use Rattle.clk_tree.specs.Plans.{ClockRate, AreThere}
use Rattle.rate_planner.specs.Walks.{at_rate, parent_chain, walked_rates}
use Rattle.clk_machine.specs.Copied.{DecidesFor, GoesOnBy}
use Rattle.clk_machine.specs.Deciding.{chain_of, change_by, handle_of, made_in}
use Rattle.clk_machine.specs.declared.decision.Decision.{Decision}
use Rattle.clk_machine.specs.declared.decision.Decision.TheVariants as decision

-- ---- turns

-- a call goes on, or there is no room for it
abbrev pub GoesOrFull : Turn → Type 0
GoesOrFull t = (t ≡ turn.Going) ⊎ (t ≡ turn.Done (reply.Refused errno.ENOSPC))

pub starts_turn : (o n : State) (k : Change) → GoesOrFull (starts o n k).1
unfolding pick
starts_turn o n k = by _ where
  by : (b : Bool) → GoesOrFull (pick b (λ t. refused o errno.ENOSPC) (λ t. (record n { change = Some k }, turn.Going))).1
  by true = inr refl
  by false = inl refl

-- an answer is no going on
pub no_answer : (r : Reply) → turn.Going ≡ slotless (turn.Done r) → ⊥
no_answer reply.Fine e = cc
no_answer reply.Warn e = cc
no_answer reply.Yes e = cc
no_answer reply.No e = cc
no_answer (reply.Handle h) e = cc
no_answer (reply.Rate x) e = cc
no_answer (reply.Clock x) e = cc
no_answer (reply.Refused x) e = cc

-- an answer that refuses for want of room is that
full_answer : (r : Reply) → turn.Done (reply.Refused errno.ENOSPC) ≡ slotless (turn.Done r) → r ≡ reply.Refused errno.ENOSPC
full_answer reply.Fine e = absurd cc
full_answer reply.Warn e = absurd cc
full_answer reply.Yes e = absurd cc
full_answer reply.No e = absurd cc
full_answer (reply.Handle h) e = absurd cc
full_answer (reply.Rate x) e = absurd cc
full_answer (reply.Clock x) e = absurd cc
full_answer (reply.Refused x) e = cc

-- an answer that is Ok is that
pub fine_answer : (r : Reply) → turn.Done reply.Fine ≡ slotless (turn.Done r) → r ≡ reply.Fine
fine_answer reply.Fine e = refl
fine_answer reply.Warn e = absurd cc
fine_answer reply.Yes e = absurd cc
fine_answer reply.No e = absurd cc
fine_answer (reply.Handle h) e = absurd cc
fine_answer (reply.Rate x) e = absurd cc
fine_answer (reply.Clock x) e = absurd cc
fine_answer (reply.Refused x) e = absurd cc

-- calls that come alike: what the first is answered the second is, but for want of room
answers_alike : (s t : State) (x y : State × Turn) (r : Reply) → ComesAlike s t x y → (r ≡ reply.Refused errno.ENOSPC → ⊥) → x.1 ≡ slotless (turn.Done r) → y.1 ≡ slotless (turn.Done r)
answers_alike s t x y r (answered q one two after) other is = two ∙ sym one ∙ is
answers_alike s t x y r (sets_out n n' k one two own own' after) other is = elim (starts_turn s n k) [
  | inl going ↦ absurd (no_answer r (sym going ∙ sym (ap (λ (z : State × Turn). z.1) one) ∙ is))
  | inr full ↦ absurd (other (full_answer r (sym full ∙ sym (ap (λ (z : State × Turn). z.1) one) ∙ is)))
]

-- and if the first goes on or is full, so is the second
goes_alike : (s t : State) (x y : State × Turn) → ComesAlike s t x y → GoesOrFull x.1 → GoesOrFull y.1
goes_alike s t x y (answered q one two after) (inl going) = absurd (by (sym one ∙ going)) where
  by : turn.Done q ≡ turn.Going → ⊥
  by e = cc
goes_alike s t x y (answered q one two after) (inr full) = inr (two ∙ sym one ∙ full)
goes_alike s t x y (sets_out n n' k one two own own' after) goes = subst (λ (z : State × Turn). GoesOrFull z.1) (sym two) (starts_turn t n' k)

-- ---- how a call begins that goes on, or is full

not_goes : (x : State × Turn) (r : Reply) → x.1 ≡ turn.Done r → (r ≡ reply.Refused errno.ENOSPC → ⊥) → GoesOrFull x.1 → ⊥
not_goes x r is other (inl going) = by (sym is ∙ going) where
  by : turn.Done r ≡ turn.Going → ⊥
  by e = cc
not_goes x r is other (inr full) = other (by (sym is ∙ full)) where
  by : turn.Done r ≡ turn.Done (reply.Refused errno.ENOSPC) → r ≡ reply.Refused errno.ENOSPC
  by e = cc

-- a choice that goes on takes its second side, if the first is an answer
second_goes : (b : Bool) (f g : Unit {0} → State × Turn) (r : Reply) → (f tt).1 ≡ turn.Done r → (r ≡ reply.Refused errno.ENOSPC → ⊥) → GoesOrFull (pick b f g).1 → (b ≡ false) × (pick b f g ≡ g tt)
unfolding pick
second_goes true f g r is other goes = absurd (not_goes (f tt) r is other goes)
second_goes false f g r is other goes = (refl, refl)

-- and its first, if the second is one
first_goes : (b : Bool) (f g : Unit {0} → State × Turn) (r : Reply) → (g tt).1 ≡ turn.Done r → (r ≡ reply.Refused errno.ENOSPC → ⊥) → GoesOrFull (pick b f g).1 → (b ≡ true) × (pick b f g ≡ f tt)
unfolding pick
first_goes true f g r is other goes = (refl, refl)
first_goes false f g r is other goes = absurd (not_goes (g tt) r is other goes)

-- a request goes on with its chain
request_goes : (o n f l : State) (d : ℕ) (what : Sleeping) (c x : ℕ) (range : Option (ℕ × ℕ)) (ks : List ChainStep) → chain (wiring n) (view l) c x ≡ Some ks → GoesOrFull (request o n f l d what c x range).1
    → request o n f l d what c x range ≡ starts o n (change_along n d what ks [] range)
request_goes o n f l d what c x range ks at goes =
    let one = second_goes (is_at (rate n.defs n.regs n.clocks c) (round_rate (wiring n) (free_view l c) c x)) _ _ reply.Fine refl (λ e. absurd cc) goes in
    let two = second_goes (guarded l c) _ _ (reply.Refused errno.EBUSY) refl (λ e. absurd cc) (subst (λ (z : State × Turn). GoesOrFull z.1) one.1 goes) in
    one.1 ∙ two.1 ∙ ap (λ (a : Option (List ChainStep)). option_map_or (λ js. starts o n (change_along n d what js [] range)) a (refused o errno.EINVAL)) at

-- a change of parent goes on with its own, to a possible parent
pub parent_goes : (s l : State) (d : ℕ) (what : Sleeping) (c p : ℕ) → GoesOrFull (parent_set s l d what c p).1
    → (parent_set s l d what c p ≡ starts s s (reparenting s d what c p)) × (is_in p (parents_of s.defs c) ≡ true)
parent_goes s l d what c p goes =
    let one = second_goes (is_at p (link_in s.clocks c)) _ _ reply.Fine refl (λ e. absurd cc) goes in
    let goes1 = subst (λ (z : State × Turn). GoesOrFull z.1) one.1 goes in
    let two = second_goes (is_read_only (kind_of s.defs c) && nat_le 2 (length (parents_of s.defs c))) _ _ (reply.Refused errno.EPERM) refl (λ e. absurd cc) goes1 in
    let goes2 = subst (λ (z : State × Turn). GoesOrFull z.1) two.1 goes1 in
    let three = second_goes ((sets_parent_gate s.defs c && prepared s c) || guarded l c) _ _ (reply.Refused errno.EBUSY) refl (λ e. absurd cc) goes2 in
    let goes3 = subst (λ (z : State × Turn). GoesOrFull z.1) three.1 goes2 in
    let four = first_goes (is_some (mux_field (kind_of s.defs c)) && is_in p (parents_of s.defs c) && rooted s.defs s.clocks p) _ _ (reply.Refused errno.EINVAL) refl (λ e. absurd cc) goes3 in (
      one.1 ∙ two.1 ∙ three.1 ∙ four.1,
      both_right (is_some (mux_field (kind_of s.defs c))) (is_in p (parents_of s.defs c)) (both_left (is_some (mux_field (kind_of s.defs c)) && is_in p (parents_of s.defs c)) (rooted s.defs s.clocks p) four.0),
    )

-- ---- how each call begins on a handle

row_inside : {a b : HandleRow} → Some a ≡ Some b → a ≡ b
row_inside e = cc

pub inside : {a b : List ChainStep} → Some a ≡ Some b → a ≡ b
inside e = cc

pub rate_begins : (s : State) (d : ℕ) (h : Handle) (x : ℕ) (row : HandleRow) → own_handle s d h.number ≡ Some row → begun s d (call.SetRate h x) ≡ request s s s (lift s h.number) d (call.SetRate h x) row.clock.0 x None
unfolding begun
rate_begins s d h x row own = with-some s d h.number (λ row. request s s s (lift s h.number) d (call.SetRate h x) row.clock.0 x None) row own

pub exclusive_begins : (s : State) (d : ℕ) (h : Handle) (x : ℕ) (row : HandleRow) → own_handle s d h.number ≡ Some row
    → begun s d (call.SetRateExclusive h x) ≡ request s s (held_once_more s h.number row) s d (call.SetRateExclusive h x) row.clock.0 x None
unfolding begun
exclusive_begins s d h x row own = with-some s d h.number (λ row. request s s (held_once_more s h.number row) s d (call.SetRateExclusive h x) row.clock.0 x None) row own

pub range_begins : (s : State) (d : ℕ) (h : Handle) (least most : ℕ) (row : HandleRow) → own_handle s d h.number ≡ Some row
    → begun s d (call.SetRange h least most) ≡ range_set s d (call.SetRange h least most) h.number row least most
unfolding begun
range_begins s d h least most row own = with-some s d h.number (λ row. range_set s d (call.SetRange h least most) h.number row least most) row own

pub parent_begins : (s : State) (d : ℕ) (h : Handle) (p : ClockId) (row : HandleRow) → own_handle s d h.number ≡ Some row
    → begun s d (call.SetParent h p) ≡ parent_set s (lift s h.number) d (call.SetParent h p) row.clock.0 p.0
unfolding begun
parent_begins s d h p row own = with-some s d h.number (λ row. parent_set s (lift s h.number) d (call.SetParent h p) row.clock.0 p.0) row own

-- ---- plans

-- the rates of a walk are the same over the same fields
walked_same : (words : ℕ) (order : List ℕ) (defs : Description) (clocks : List ClockRow) (old new : Registers) (ks : List ChainStep) → IsValid words defs → AllByRecursion (IsPossible defs) ks → SameFields defs old new
    → walked_rates order (tree_over defs clocks new) ks ≡ walked_rates order (tree_over defs clocks old) ks
unfolding walk
walked_same words order defs clocks old new ks valid possible same =
    ap (λ (out : ℕ → ℕ). map (at_rate out) (walk order (tree_over defs clocks old) ks))
    (tree_rates (outcome ks (tree_over defs clocks new)) (outcome ks (tree_over defs clocks old))
    (outcome_same words ks (tree_over defs clocks new) (tree_over defs clocks old) valid possible (record { defs = refl; clocks = refl; regs = same })))

abbrev alone : ℕ → ℕ → ℕ → List ChainStep
alone c p rated = record { clock = c; rate = rated; parent = Some p } ∷ []

alone_possible : (defs : Description) (c p rated : ℕ) → is_in p (parents_of defs c) ≡ true → AllByRecursion (IsPossible defs) (alone c p rated)
alone_possible defs c p rated m = ((λ q e. let is : p ≡ q = cc in subst (λ (z : ℕ). is_in z (parents_of defs c) ≡ true) is m), tt)

module _ (s : State) (new : Registers) (after : List (Option HandleRow)) (y : Rest) (here : SameHere s s.regs new s.handles after) (links : LinksArePossible s.defs s.clocks) where
  abbrev t : State
  t = beside s new after y

  abbrev w : Wiring
  w = tree_over s.defs s.clocks s.regs

  abbrev v : Wiring
  v = tree_over s.defs s.clocks new

  -- a chain is the same if handles are the same without enables
  chains_same : (lifted lifted' : List (Option HandleRow)) (c x : ℕ) → bare lifted' ≡ bare lifted
      → chain v (view (beside s new lifted' y)) c x ≡ chain w (view (beside s s.regs lifted (rest_of s))) c x
  chains_same lifted lifted' c x lifts =
      ap (λ (u : View). chain v u c x) (view_same s s.regs new lifted lifted' (rest_of s) y lifts)
      ∙ chain_same (length s.regs) s.defs s.clocks s.regs new (view (beside s s.regs lifted (rest_of s))) c x here.valid links here.regs

  chain_possible : (u : View) (c x : ℕ) (ks : List ChainStep) → chain w u c x ≡ Some ks → AllByRecursion (IsPossible s.defs) ks
  chain_possible u c x ks at = possible_in w ks (chains_lead w u c x ks (lines_end (length s.regs) s.defs here.valid) links at).leads.parents

  abbrev lifted_in : List (Option HandleRow) → ℕ → List (Option HandleRow)
  lifted_in handles n = set handles n (option_map lifted_row (handle_at handles n))

  abbrev limited : List (Option HandleRow) → ℕ → HandleRow → ℕ → ℕ → List (Option HandleRow)
  limited handles n row least most = set handles n (Some (record row { min = least; max = most }))

  limits_bare : (n : ℕ) (row row' : HandleRow) (least most : ℕ) → without_enables row' ≡ without_enables row → bare (limited after n row' least most) ≡ bare (limited s.handles n row least most)
  limits_bare n row row' least most alike =
      set_bare s.handles after n (Some (record row { min = least; max = most })) (Some (record row' { min = least; max = most })) here.handles
      (ap (λ (a : HandleRow). let b : HandleRow = record a { min = least; max = most } in Some b) alike)

  -- a change of parent gives the same rate
  parent_rate : (c p : ℕ) → is_in p (parents_of s.defs c) ≡ true → rate_in (outcome (alone c p 0) v) c ≡ rate_in (outcome (alone c p 0) w) c
  parent_rate c p m = ap (λ (rates : ℕ → ℕ). rates c)
      (tree_rates (outcome (alone c p 0) v) (outcome (alone c p 0) w)
      (outcome_same (length s.regs) (alone c p 0) v w here.valid (alone_possible s.defs c p 0 m) (record { defs = refl; clocks = refl; regs = here.regs })))

  reparents_same : (d : ℕ) (what : Sleeping) (c p : ℕ) → is_in p (parents_of s.defs c) ≡ true → reparenting t d what c p ≡ reparenting s d what c p
  reparents_same d what c p m =
      ap (λ (rated : ℕ). with_extra (change_along t d what (alone c p rated) (micro.Settle (clock_id c) ∷ []) None)) (parent_rate c p m)
      ∙ ap with_extra (along_same s s.regs new s.handles after (rest_of s) y d what (alone c p (rate_in (outcome (alone c p 0) w) c)) (micro.Settle (clock_id c) ∷ []) None here
      (alone_possible s.defs c p (rate_in (outcome (alone c p 0) w) c) m)) where
        with_extra : Change → Change
        with_extra k = record k { extra = if list_any is_raise k.left then notices_of s k.changing else 0 }

  -- ---- calls

  -- what goes on in the second state as in the first
  carries : (d : ℕ) (what : Sleeping) (plan : Plan) (script : Script) (goes : GoesOnBy s d what plan script) (row' : HandleRow) → own_handle t d (handle_of what) ≡ Some row'
      → begun t d what ≡ starts t (made_in t what row') (change_by t d what row' plan) → chain_of t what row' ≡ Some plan.chain → change_by t d what row' plan ≡ change_by s d what goes.row plan
      → walked_rates (made_in t what row').order (wiring (made_in t what row')) plan.chain ≡ walked_rates (made_in s what goes.row).order (wiring (made_in s what goes.row)) plan.chain
      → GoesOnBy t d what plan script
  carries d what plan script goes row' own' begins' along' changes rates' = record {
    row = row';
    own = own';
    begins = begins';
    along = along';
    there = goes.there;
    chain = ap (λ (k : Change). k.chain) changes ∙ goes.chain;
    rates = goes.rates ∙ sym rates';
    steps = ap (λ (k : Change). k.left) changes ∙ goes.steps;
    vetoed = ap (λ (k : Change). k.vetoed) changes ∙ goes.vetoed;
    extra = ap (λ (k : Change). k.extra) changes ∙ goes.extra;
    set_parent = goes.set_parent;
  }

  rates_carried : (ks : List ChainStep) → AllByRecursion (IsPossible s.defs) ks → walked_rates s.order v ks ≡ walked_rates s.order w ks
  rates_carried ks possible = walked_same (length s.regs) s.order s.defs s.clocks s.regs new ks here.valid possible here.regs

  rate_carried : (d : ℕ) (h : Handle) (x : ℕ) (plan : Plan) (script : Script) (goes : GoesOnBy s d (call.SetRate h x) plan script) (row' : HandleRow) → own_handle t d h.number ≡ Some row'
      → without_enables row' ≡ without_enables goes.row → GoesOrFull (begun t d (call.SetRate h x)).1 → GoesOnBy t d (call.SetRate h x) plan script
  rate_carried d h x plan script goes row' own' alike turn_ =
      let what : Sleeping = call.SetRate h x in
      let is = rate_begins t d h x row' own' in
      let possible = chain_possible (view (lift s h.number)) goes.row.clock.0 x plan.chain goes.along in
      let along' : chain v (view (lift t h.number)) row'.clock.0 x ≡ Some plan.chain =
      ap (λ (c : ℕ). chain v (view (lift t h.number)) c x) (clock_same goes.row row' alike)
      ∙ chains_same (lifted_in s.handles h.number) (lifted_in after h.number) goes.row.clock.0 x (lift_bare s.handles after h.number here.handles) ∙ goes.along in
      carries d what plan script goes row' own'
      (is ∙ request_goes t t t (lift t h.number) d what row'.clock.0 x None plan.chain along' (subst (λ (z : State × Turn). GoesOrFull z.1) is turn_))
      along' (along_same s s.regs new s.handles after (rest_of s) y d what plan.chain [] None here possible) (rates_carried plan.chain possible)

  exclusive_carried : (d : ℕ) (h : Handle) (x : ℕ) (plan : Plan) (script : Script) (goes : GoesOnBy s d (call.SetRateExclusive h x) plan script) (row' : HandleRow) → own_handle t d h.number ≡ Some row'
      → without_enables row' ≡ without_enables goes.row → GoesOrFull (begun t d (call.SetRateExclusive h x)).1 → GoesOnBy t d (call.SetRateExclusive h x) plan script
  exclusive_carried d h x plan script goes row' own' alike turn_ =
      let what : Sleeping = call.SetRateExclusive h x in
      let is = exclusive_begins t d h x row' own' in
      let possible = chain_possible (view s) goes.row.clock.0 x plan.chain goes.along in
      let along' : chain v (view t) row'.clock.0 x ≡ Some plan.chain =
      ap (λ (c : ℕ). chain v (view t) c x) (clock_same goes.row row' alike) ∙ chains_same s.handles after goes.row.clock.0 x here.handles ∙ goes.along in
      carries d what plan script goes row' own'
      (is ∙ request_goes t t (held_once_more t h.number row') t d what row'.clock.0 x None plan.chain along' (subst (λ (z : State × Turn). GoesOrFull z.1) is turn_))
      along' (along_same s s.regs new s.handles after (rest_of s) y d what plan.chain [] None here possible) (rates_carried plan.chain possible)

  range_carried : (d : ℕ) (h : Handle) (least most : ℕ) (plan : Plan) (script : Script) (goes : GoesOnBy s d (call.SetRange h least most) plan script) (row' : HandleRow) → own_handle t d h.number ≡ Some row'
      → without_enables row' ≡ without_enables goes.row → GoesOrFull (begun t d (call.SetRange h least most)).1 → GoesOnBy t d (call.SetRange h least most) plan script
  range_carried d h least most plan script goes row' own' alike turn_ =
      let what : Sleeping = call.SetRange h least most in
      let n = h.number in
      let hs : List (Option HandleRow) = limited s.handles n goes.row least most in
      let hs' : List (Option HandleRow) = limited after n row' least most in
      let limits = limits_bare n goes.row row' least most alike in
      let u : State = with_limits t n row' least most in
      let is = range_begins t d h least most row' own' in
      let fits = second_goes (misses t n row' least most) _ _ (reply.Refused errno.EINVAL) refl (λ e. absurd cc) (subst (λ (z : State × Turn). GoesOrFull z.1) is turn_) in
      let possible = chain_possible (view (lift (with_limits s n goes.row least most) n)) goes.row.clock.0 (request_between s.clocks goes.row.clock.0 least most) plan.chain goes.along in
      let along' : chain v (view (lift u n)) row'.clock.0 (request_between s.clocks row'.clock.0 least most) ≡ Some plan.chain =
      ap (λ (c : ℕ). chain v (view (lift u n)) c (request_between s.clocks c least most)) (clock_same goes.row row' alike)
      ∙ chains_same (lifted_in hs n) (lifted_in hs' n) goes.row.clock.0 (request_between s.clocks goes.row.clock.0 least most) (lift_bare hs hs' n limits) ∙ goes.along in
      carries d what plan script goes row' own'
      (is ∙ fits.1 ∙ request_goes t u u (lift u n) d what row'.clock.0 (request_between s.clocks row'.clock.0 least most) (Some (row'.min, row'.max)) plan.chain along'
      (subst (λ (z : State × Turn). GoesOrFull z.1) (is ∙ fits.1) turn_))
      along'
      (ap (λ (a : HandleRow). change_along u d what plan.chain [] (Some (a.min, a.max))) alike
      ∙ along_same s s.regs new hs hs' (rest_of s) y d what plan.chain [] (Some (goes.row.min, goes.row.max)) (record { valid = here.valid; regs = here.regs; handles = limits }) possible)
      (rates_carried plan.chain possible)

  parent_carried : (d : ℕ) (h : Handle) (p : ClockId) (plan : Plan) (script : Script) (goes : GoesOnBy s d (call.SetParent h p) plan script) (row' : HandleRow) → own_handle t d h.number ≡ Some row'
      → without_enables row' ≡ without_enables goes.row → GoesOrFull (begun t d (call.SetParent h p)).1 → GoesOnBy t d (call.SetParent h p) plan script
  parent_carried d h p plan script goes row' own' alike turn_ =
      let what : Sleeping = call.SetParent h p in
      let c = goes.row.clock.0 in
      let same = clock_same goes.row row' alike in
      let is = parent_begins t d h p row' own' in
      let goes_ = parent_goes t (lift t h.number) d what row'.clock.0 p.0 (subst (λ (z : State × Turn). GoesOrFull z.1) is turn_) in
      let m : is_in p.0 (parents_of s.defs c) ≡ true = subst (λ (a : ℕ). is_in p.0 (parents_of s.defs a) ≡ true) same goes_.1 in
      let possible : AllByRecursion (IsPossible s.defs) plan.chain = subst (λ (o : List ChainStep). AllByRecursion (IsPossible s.defs) o) (inside goes.along) (alone_possible s.defs c p.0 (rate_in (outcome (alone c p.0 0) w) c) m) in
      carries d what plan script goes row' own' (is ∙ goes_.0)
      (ap (λ (a : ℕ). Some (parent_chain v a p.0)) same ∙ ap (λ (rated : ℕ). Some (alone c p.0 rated)) (parent_rate c p.0 m) ∙ goes.along)
      (ap (λ (a : ℕ). reparenting t d what a p.0) same ∙ reparents_same d what c p.0 m) (rates_carried plan.chain possible)

  carried_by : (d : ℕ) (what : Sleeping) (plan : Plan) (script : Script) → plans what ≡ true → (goes : GoesOnBy s d what plan script) (row' : HandleRow) → own_handle t d (handle_of what) ≡ Some row'
      → without_enables row' ≡ without_enables goes.row → GoesOrFull (begun t d what).1 → GoesOnBy t d what plan script
  carried_by d (call.SetRate h x) plan script is goes row' own' alike turn_ = rate_carried d h x plan script goes row' own' alike turn_
  carried_by d (call.SetRateExclusive h x) plan script is goes row' own' alike turn_ = exclusive_carried d h x plan script goes row' own' alike turn_
  carried_by d (call.SetRange h least most) plan script is goes row' own' alike turn_ = range_carried d h least most plan script goes row' own' alike turn_
  carried_by d (call.SetParent h p) plan script is goes row' own' alike turn_ = parent_carried d h p plan script goes row' own' alike turn_
  carried_by d _ plan script is goes row' own' alike turn_ = absurd cc

  -- what a call goes on with in the first state it goes on with in the second
  carried : (d : ℕ) (what : Sleeping) (plan : Plan) (script : Script) → plans what ≡ true → GoesOnBy s d what plan script → GoesOrFull (begun t d what).1 → GoesOnBy t d what plan script
  carried d what plan script is goes turn_ = by _ _ (own_same s t d (handle_of what) here.handles) goes.own refl where
    by : (o o' : Option HandleRow) → SameOwn o o' → o ≡ Some goes.row → own_handle t d (handle_of what) ≡ o' → GoesOnBy t d what plan script
    by _ _ neither at own' = absurd cc
    by _ _ (both_have row row' alike) at own' = carried_by d what plan script is goes row' own' (alike ∙ ap without_enables (row_inside at)) turn_

-- ---- decisions

-- a call that goes on so plans
pub goes_plans : (s : State) (d : ℕ) (what : Sleeping) (plan : Plan) (script : Script) → GoesOnBy s d what plan script → plans what ≡ true
goes_plans s d (call.SetRate h x) plan script goes = refl
goes_plans s d (call.SetRateExclusive h x) plan script goes = refl
goes_plans s d (call.SetRange h least most) plan script goes = refl
goes_plans s d (call.SetParent h p) plan script goes = refl
goes_plans s d _ plan script goes = absurd (no_chain goes.along) where
  no_chain : {ks : List ChainStep} → None ≡ Some ks → ⊥
  no_chain e = cc

-- an answer is the same
replies_alike : (s t : State) (d : ℕ) (what : Sleeping) (r : Reply) → IsWired (length s.regs) (wiring s) → prep t ≡ prep s → is_decided what ≡ true → (r ≡ reply.Refused errno.ENOSPC → ⊥)
    → (begun s d what).1 ≡ slotless (turn.Done r) → (begun t d what).1 ≡ slotless (turn.Done r)
replies_alike s t d what r wired same dec other is = by (asks what) (plans what) refl refl dec where
  by : (a b : Bool) → asks what ≡ a → plans what ≡ b → (a || b) ≡ true → (begun t d what).1 ≡ slotless (turn.Done r)
  by true b asks_ plans_ e = answers_read_prep s t d what wired same asks_ ∙ is
  by false true asks_ plans_ e = answers_alike s t (begun s d what) (begun t d what) r (plans_come s t d what wired same plans_) other is
  by false false asks_ plans_ e = absurd cc

-- a decision is the same
pub decided_alike : (s t : State) (d : ℕ) (what : Sleeping) (made : Decision) → IsWired (length s.regs) (wiring s) → prep t ≡ prep s → DecidesFor s d what made → DecidesFor t d what made
decided_alike s t d what (decision.Reply r) wired same (dec, other, is) = (dec, other, replies_alike s t d what r wired same dec other is)
decided_alike s t d what (decision.Script plan script) wired same goes =
    let is = goes_plans s d what plan script goes in
    let turn_ : GoesOrFull (begun t d what).1 =
    goes_alike s t (begun s d what) (begun t d what) (plans_come s t d what wired same is) (subst (λ (z : State × Turn). GoesOrFull z.1) (sym goes.begins) (starts_turn s (made_in s what goes.row) (change_by s d what goes.row plan))) in
    subst (λ (u : State). GoesOnBy u d what plan script) (sym (is_beside s t same))
    (carried s t.regs t.handles (rest_of t) (same_here s t wired.valid same) wired.links d what plan script is goes (subst (λ (u : State). GoesOrFull (begun u d what).1) (is_beside s t same) turn_))
decided_alike s t d what decision.Inside wired same none = none
