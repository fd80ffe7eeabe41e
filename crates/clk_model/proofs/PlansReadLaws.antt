-- Laws on what planning reads: calls that ask and calls that plan come to the same in states with the same part of the prepare tier.
use Rattle.std.proofs.Common.{◌≡◌, ℕ, ◌+◌, Bool, true, false, List, Option, Some, None, refl, sym, ap, subst, ◌∙◌, inl, inr, length, nat_lt, set}
use mathlib.Core.Path.{fun_ext}
use Rattle.std.specs.Prelude.{sum_by, option_map}
use Rattle.std.specs.Option.{option_map_or}
use Rattle.clk_base.specs.declared.call.Micro.{Micro}
use Rattle.clk_base.specs.declared.call.Micro.TheVariants as micro
use Rattle.clk_base.specs.declared.call.Sleeping.{Sleeping}
use Rattle.clk_base.specs.declared.call.Sleeping.TheVariants as call
use Rattle.clk_base.specs.declared.event.Errno.TheVariants as errno
use Rattle.clk_base.specs.declared.event.Reply.TheVariants as reply
use Rattle.clk_base.specs.declared.event.Turn.{Turn}
use Rattle.clk_base.specs.declared.event.Turn.TheVariants as turn
use Rattle.clk_base.specs.Valid.{IsValid}
use Rattle.reg_bank.specs.Registers.{Registers}
use Rattle.clk_model.specs.declared.row.HandleRow.{HandleRow}
use Rattle.clk_model.specs.State.{State, Change, link_in, handle_at}
use Rattle.clk_model.specs.Rate.{rate}
use Rattle.clk_model.specs.Round.{View, Rounded, wiring, round_rate}
use Rattle.clk_model.specs.Chain.{clock_id}
use Rattle.clk_model.specs.Notices.{notifiers_of}
use Rattle.clk_model.specs.Views.{view, lift, lifted_row}
use Rattle.clk_model.specs.Script.{weight}
use Rattle.clk_model.specs.Begin.{done, refused, pick, most_credits, weight_of, starts, begun}
use Rattle.clk_model.specs.Journal.{replay, opening}
use Rattle.clk_model.specs.Prep.{without_enables, change_prep, prep}
use Rattle.clk_model.specs.Wired.{IsWired}
use Rattle.clk_model.specs.Laws.PlansRead.{asks, plans, ComesToSame, comes_alike, first_lacks_room, second_lacks_room, AnswersReadPrep, PlansReadPrep, PlanningReadsPrep}
use Rattle.clk_model.specs.Laws.PrepBegins.{ComesAlike, answered, sets_out}
use Rattle.clk_model.proofs.AlikeLaws.{fields_of_masks, rest_of, is_beside, looks_alike, same_changes}
use Rattle.clk_model.proofs.PlanBeginLaws.{planned_call}
use Rattle.clk_model.proofs.InFlightLaws.{InFlight, begun_or}
use Rattle.clk_model.proofs.VetoLaws.{not_done}
use Rattle.clk_model.proofs.BareHandleLaws.{lift_bare, SameOwn, neither, both_have, own_same}
use Rattle.clk_model.proofs.LinkLaws.{runs_are_wired}
use Rattle.clk_model.proofs.PlannedSameLaws.{Rest, beside, SameHere, view_same}
use Rattle.clk_model.proofs.SameRateLaws.{tree_over, round_same}
use Rattle.clk_model.proofs.SameSettingLaws.{rates_same}

-- ---- room

weight_same : (s t : State) → t.defs ≡ s.defs → t.notifiers ≡ s.notifiers → (m : Micro) → weight t m ≡ weight s m
weight_same s t defs notifiers (micro.Raise x) = ap (λ ds. weight (record s { defs = ds }) (micro.Raise x)) defs
weight_same s t defs notifiers (micro.Lower x) = ap (λ ds. weight (record s { defs = ds }) (micro.Lower x)) defs
weight_same s t defs notifiers (micro.Visit c) = ap (λ ns. 1 + length (notifiers_of ns c.0)) notifiers
weight_same s t defs notifiers _ = refl

weighs_same : (s t : State) (k : Change) → t.defs ≡ s.defs → t.notifiers ≡ s.notifiers → weight_of t k ≡ weight_of s k
weighs_same s t k defs notifiers = ap (λ (w : Micro → ℕ). sum_by w k.left + k.extra) (fun_ext (weight_same s t defs notifiers))

-- so is what a change weighs where the prepare tier's part is the same, and so are the credits
pub weighs_alike : (s t : State) (k : Change) → prep t ≡ prep s → weight_of t k ≡ weight_of s k
unfolding prep
weighs_alike s t k same = weighs_same s t k (ap (λ (u : State). u.defs) same) (ap (λ (u : State). u.notifiers) same)

pub prep_credits : (s t : State) → prep t ≡ prep s → t.credits ≡ s.credits
unfolding prep
prep_credits s t same = ap (λ (u : State). u.credits) same

-- and where no call is in flight in one, none is in the other
pub still_quiet : (s t : State) → s.change ≡ None → prep t ≡ prep s → t.change ≡ None
still_quiet s t none same = no_change t.change (same_changes s t same ∙ ap (λ (k : Option Change). option_map change_prep k) none) where
  no_change : (k : Option Change) → option_map change_prep k ≡ None → k ≡ None
  no_change None e = refl
  no_change (Some k) e = absurd cc

-- ---- pieces of answers

-- two states that differ in the number of steps at most leave different room
rooms : (q r o o' n n' : State) (k : Change) → o'.change ≡ o.change → n'.credits ≡ n.credits → n.steps ≡ q.steps → n'.steps ≡ r.steps → weight_of n' k ≡ weight_of n k
    → ComesToSame q r (starts o n k) (starts o' n' k)
unfolding pick
rooms q r o o' n n' k left credits own own' weighs = by_tests (nat_lt most_credits (n.credits + n.steps + weight_of n k)) (nat_lt most_credits (n'.credits + n'.steps + weight_of n' k)) refl refl where
  alike : r.steps ≡ q.steps → nat_lt most_credits (n'.credits + n'.steps + weight_of n' k) ≡ nat_lt most_credits (n.credits + n.steps + weight_of n k)
  alike steps =
      ap (λ (x : ℕ). nat_lt most_credits (x + n'.steps + weight_of n' k)) credits
      ∙ ap (λ (x : ℕ). nat_lt most_credits (n.credits + x + weight_of n' k)) (own' ∙ steps ∙ sym own)
      ∙ ap (λ (x : ℕ). nat_lt most_credits (n.credits + n.steps + x)) weighs

  by_tests : (b b' : Bool) → nat_lt most_credits (n.credits + n.steps + weight_of n k) ≡ b → nat_lt most_credits (n'.credits + n'.steps + weight_of n' k) ≡ b'
      → ComesToSame q r (pick b (λ t. refused o errno.ENOSPC) (λ t. (record n { change = Some k }, turn.Going))) (pick b' (λ t. refused o' errno.ENOSPC) (λ t. (record n' { change = Some k }, turn.Going)))
  by_tests true true e e' = comes_alike refl left
  by_tests false false e e' = comes_alike refl refl
  by_tests true false e e' = first_lacks_room (λ steps. let no : true ≡ false = sym e ∙ sym (alike steps) ∙ e' in cc) refl refl
  by_tests false true e e' = second_lacks_room (λ steps. let no : true ≡ false = sym e' ∙ alike steps ∙ e in cc) refl refl

-- what comes to the same leaves the same change, where none was in flight
comes_to_same : (s t : State) (d : ℕ) (what : Sleeping) → s.change ≡ None → prep t ≡ prep s → ComesAlike s t (begun s d what) (begun t d what) → ComesToSame s t (begun s d what) (begun t d what)
comes_to_same s t d what quiet same (answered r one other after) = comes_alike (other ∙ sym one) (left t other ∙ quiet_both ∙ sym (left s one)) where
  left : (u : State) → (begun u d what).1 ≡ turn.Done r → (begun u d what).0.change ≡ u.change
  left u is = elim (begun_or u d what).is [
    | inl going ↦ absurd (not_done r (sym is ∙ going))
    | inr same ↦ ap (λ (f : InFlight). f.0) same
  ]

  quiet_both : t.change ≡ s.change
  quiet_both = still_quiet s t quiet same ∙ sym quiet
comes_to_same s t d what quiet same (sets_out n n' k one other own own' after) =
    subst (λ (y : State × Turn). ComesToSame s t (begun s d what) y) (sym other)
    (subst (λ (x : State × Turn). ComesToSame s t x (starts t n' k)) (sym one)
    (rooms s t s t n n' k (still_quiet s t quiet same ∙ sym quiet) (prep_credits n n' after) own own' (weighs_alike n n' k after)))

-- ---- calls

-- what holds of two refusals, and of the answers for each two rows that are the same without enables, holds of two calls on a handle
on_rows : (P : State × Turn → State × Turn → Type 0) (o o' : Option HandleRow) (f f' : HandleRow → State × Turn) (z z' : State × Turn) → SameOwn o o' → P z z'
    → ((row row' : HandleRow) → without_enables row' ≡ without_enables row → P (f row) (f' row')) → P (option_map_or f o z) (option_map_or f' o' z')
on_rows P _ _ f f' z z' neither none some = none
on_rows P _ _ f f' z z' (both_have row row' alike) none some = some row row' alike

clock_same : (row row' : HandleRow) → without_enables row' ≡ without_enables row → row'.clock.0 ≡ row.clock.0
clock_same row row' alike = ap (λ (h : HandleRow). h.clock.0) alike

-- two answers have the same turn
abbrev SameTurn : State × Turn → State × Turn → Type 0
SameTurn x y = y.1 ≡ x.1

asked : (q : State) (new : Registers) (after : List (Option HandleRow)) (y : Rest) (d : ℕ) (what : Sleeping) → SameHere q q.regs new q.handles after → asks what ≡ true
    → SameTurn (begun q d what) (begun (beside q new after y) d what)
unfolding begun
asked q new after y d (call.GetRate h) here is =
    on_rows SameTurn _ _ _ _ _ _ (own_same q (beside q new after y) d h.number here.handles) refl
    (λ row row' alike.
    ap (λ (rates : ℕ → ℕ). turn.Done (reply.Rate (rates row'.clock.0))) (rates_same q.defs q.clocks q.regs new here.regs)
    ∙ ap (λ (c : ℕ). turn.Done (reply.Rate (rate q.defs q.regs q.clocks c))) (clock_same row row' alike))
asked q new after y d (call.RoundRate h x) here is =
    on_rows SameTurn _ _ _ _ _ _ (own_same q (beside q new after y) d h.number here.handles) refl
    (λ row row' alike. by_rate (round_rate (wiring q) (view (lift q h.number)) row.clock.0 x) (round_rate (wiring (beside q new after y)) (view (lift (beside q new after y) h.number)) row'.clock.0 x)
    (ap (λ (c : ℕ). round_rate (wiring (beside q new after y)) (view (lift (beside q new after y) h.number)) c x) (clock_same row row' alike)
    ∙ ap (λ (u : View). round_rate (tree_over q.defs q.clocks new) u row.clock.0 x)
    (view_same q q.regs new (set q.handles h.number (option_map lifted_row (handle_at q.handles h.number))) (set after h.number (option_map lifted_row (handle_at after h.number))) (rest_of q) y
    (lift_bare q.handles after h.number here.handles))
    ∙ ap (λ (o : Option Rounded). option_map (λ r. r.rate) o) (round_same q.defs q.clocks q.regs new (view (lift q h.number)) row.clock.0 x (rates_same q.defs q.clocks q.regs new here.regs)))) where
      by_rate : (o o' : Option ℕ) → o' ≡ o → SameTurn (option_map_or (λ r. done q (reply.Rate r)) o (refused q errno.EINVAL))
          (option_map_or (λ r. done (beside q new after y) (reply.Rate r)) o' (refused (beside q new after y) errno.EINVAL))
      by_rate None None e = refl
      by_rate None (Some r) e = absurd cc
      by_rate (Some r) None e = absurd cc
      by_rate (Some r) (Some r') e = let same : r' ≡ r = cc in ap (λ (x : ℕ). turn.Done (reply.Rate x)) same
asked q new after y d (call.GetParent h) here is =
    on_rows SameTurn _ _ _ _ _ _ (own_same q (beside q new after y) d h.number here.handles) refl
    (λ row row' alike. ap (λ (c : ℕ). turn.Done (reply.Clock (option_map clock_id (link_in q.clocks c)))) (clock_same row row' alike))
asked q new after y d what here is = absurd cc

-- ---- states with the same part

pub same_here : (s t : State) → IsValid (length s.regs) s.defs → prep t ≡ prep s → SameHere s s.regs t.regs s.handles t.handles
same_here s t valid same =
    let look = looks_alike (length s.regs) s t valid same in
    record { valid = valid; regs = fields_of_masks (length s.regs) s.defs s.regs t.regs valid look.masks; handles = look.handles }

pub answers_read_prep : AnswersReadPrep
answers_read_prep s t d what wired same is =
    subst (λ (u : State). SameTurn (begun s d what) (begun u d what)) (sym (is_beside s t same)) (asked s t.regs t.handles (rest_of t) d what (same_here s t wired.valid same) is)

-- a call that plans comes to the same
pub plans_come : (s t : State) (d : ℕ) (what : Sleeping) → IsWired (length s.regs) (wiring s) → prep t ≡ prep s → plans what ≡ true → ComesAlike s t (begun s d what) (begun t d what)
plans_come s t d what wired same is =
    subst (λ (u : State). ComesAlike s u (begun s d what) (begun u d what)) (sym (is_beside s t same))
    (planned_call s t.regs t.handles (rest_of t) d (same_here s t wired.valid same) wired.links (subst (λ (u : State). prep u ≡ prep s) (is_beside s t same) same) what is)

pub plans_read_prep : PlansReadPrep
plans_read_prep s t d what wired same is quiet = comes_to_same s t d what quiet same (plans_come s t d what wired same is)

-- the states behind journals are wired
pub planning_reads_prep : PlanningReadsPrep
planning_reads_prep defs regs ignore_unused credits one other d what valid same =
    let known = runs_are_wired defs regs ignore_unused credits one valid in
    let wired = subst (λ (n : ℕ). IsWired n (wiring (replay (opening defs regs ignore_unused credits) one))) (sym known.size) known.wired in
    record {
      answers = λ is. answers_read_prep (replay (opening defs regs ignore_unused credits) one) (replay (opening defs regs ignore_unused credits) other) d what wired same is;
      plans = λ is quiet. plans_read_prep (replay (opening defs regs ignore_unused credits) one) (replay (opening defs regs ignore_unused credits) other) d what wired same is quiet;
    }
