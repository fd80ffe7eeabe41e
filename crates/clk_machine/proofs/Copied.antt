-- What is decided over a copy of the prepare tier is decided over that part of each state that the copy is of.
use Rattle.std.proofs.Common.{◌≡◌, ℕ, ◌<◌, ◌||◌, Bool, true, false, List, Option, Some, None, refl, sym, ap, subst, ◌∙◌, length}
use Rattle.std.specs.Prelude.{IfSome}
use Rattle.clk_base.specs.Description.{Description, parents_of}
use Rattle.clk_base.specs.Valid.{IsValid}
use Rattle.clk_base.specs.declared.call.Sleeping.{Sleeping}
use Rattle.clk_base.specs.declared.call.Sleeping.TheVariants as call
use Rattle.clk_base.specs.declared.event.Errno.{Errno}
use Rattle.clk_base.specs.declared.event.Errno.TheVariants as errno
use Rattle.clk_base.specs.declared.event.Reply.{Reply}
use Rattle.clk_base.specs.declared.event.Reply.TheVariants as reply
use Rattle.clk_base.specs.declared.event.Turn.{Turn}
use Rattle.clk_base.specs.declared.event.Turn.TheVariants as turn
use Rattle.clk_model.specs.declared.row.ClockRow.{ClockRow}
use Rattle.clk_model.specs.Begin.{begun}
use Rattle.clk_model.specs.Journal.{slotless}
use Rattle.clk_model.specs.Laws.PlansRead.{asks, plans}
use Rattle.clk_model.specs.Laws.PrepBegins.{is_decided}
use Rattle.clk_model.specs.Laws.Twins.{IsTwin}
use Rattle.clk_model.specs.Lists.{is_in, count_from}
use Rattle.clk_model.specs.Prep.{masked, prep}
use Rattle.clk_model.specs.Round.{wiring}
use Rattle.clk_model.specs.State.{State, registered, link_in}
use Rattle.clk_model.specs.Wired.{IsWired, LinksArePossible}
use Rattle.clk_model.proofs.CopyLaws.{prep_twice}
use Rattle.clk_model.proofs.PlansReadLaws.{still_quiet}
use Rattle.clk_model.proofs.PrepLaws.{length-gates_cleared}
use Rattle.clk_model.proofs.ShadowLaws.{twin_unswept}
use Rattle.clk_model.proofs.SweptLaws.{none_sweeps}
use Rattle.clk_tree.specs.Plans.{ClockRate, AreThere}
use Rattle.core_parts.specs.Decisions as decided
use Rattle.core_parts.specs.Window.{AreTold}
use Rattle.clk_machine.specs.Asking.{IsToldSo}
use Rattle.clk_machine.specs.Copied.{Copy, IsCopyOf, DecidesFor, AreDecided, IsDecided, told_of}
use Rattle.clk_machine.specs.Deciding.{ArePlannedOver, Decided, Decides, handle_of}
use Rattle.clk_machine.specs.Parts.{Parts, IsWhole}
use Rattle.clk_machine.specs.Sound.{IsNarrow, IsSound, takes_memory}
use Rattle.clk_machine.specs.Run.{Logged, IsRun, state_of}
use Rattle.clk_machine.specs.Stands.{Stands, is_told}
use Rattle.clk_machine.proofs.Soundness.{wired_reached}
use Rattle.clk_machine.specs.declared.decision.Decision.{Decision}
use Rattle.clk_machine.specs.declared.decision.Decision.TheVariants as decision
use Rattle.clk_machine.proofs.Carrying.{decided_alike}
use Rattle.clk_machine.proofs.Flying.{quiet_stands}
use Rattle.clk_machine.proofs.Likeness.{twin_like, twin_quiet}

-- ---- what a decision says of a state

refusal_inside : {e f : Errno} → reply.Refused e ≡ reply.Refused f → e ≡ f
refusal_inside is = cc

pub planned_decided : (what : Sleeping) → plans what ≡ true → is_decided what ≡ true
planned_decided what is = by (asks what) (plans what) is where
  by : (a b : Bool) → b ≡ true → (a || b) ≡ true
  by true b e = refl
  by false b e = e

pub asked_decided : (what : Sleeping) → asks what ≡ true → is_decided what ≡ true
asked_decided what is = ap (λ (a : Bool). a || plans what) is

pub undecided : (what : Sleeping) → asks what ≡ false → plans what ≡ false → is_decided what ≡ false
undecided what none none' = ap (λ (a : Bool). a || plans what) none ∙ none'

-- what was decided of a call that plans
pub decides_told : (m : Parts) (s : State) (d : ℕ) (what : Sleeping) (made : decided.Decision) → plans what ≡ true → Stands m s → ArePlannedOver m what made → Decides s d (handle_of what) what made
    → DecidesFor s d what (told_of made)
decides_told m s d what (decided.Refused e) is stands there (other, begins) =
    (planned_decided what is, (λ full. other (refusal_inside full)), ap (λ (z : State × Turn). z.1) begins)
decides_told m s d what decided.AtOnce is stands there ends = (planned_decided what is, (λ full. absurd cc), ap (λ (z : State × Turn). z.1) ends.begins)
decides_told m s d what (decided.Change plan script) is stands there goes = record {
  row = goes.row;
  own = goes.own;
  begins = goes.begins;
  along = goes.along;
  there = subst (λ (rows : List ClockRow). AreThere rows plan.rates) (sym stands.clocks) there.there;
  chain = goes.planned.chain;
  rates = goes.planned.rates;
  steps = goes.planned.steps;
  vetoed = goes.planned.vetoed;
  extra = goes.planned.extra;
  set_parent = goes.set_parent;
}

-- and of one that asks
pub asked_told : (m : Parts) (d : ℕ) (what : Sleeping) (r : Reply) → asks what ≡ true → (r ≡ reply.Refused errno.ENOSPC → ⊥) → IsToldSo m d what r → AreDecided m d what (decision.Reply r)
asked_told m d what r is other told = λ s stands sound. (asked_decided what is, other, told s stands sound)

-- ---- the states of a copy

-- a state that parts stand for is kept narrow
pub narrow_parts : (m : Parts) (s : State) → IsWhole m → Stands m s → IsNarrow m.window.size s
narrow_parts m s whole stands = record {
  valid = subst (λ (n : ℕ). IsValid n s.defs) (sym whole.tied.words) (subst (λ (ds : Description). IsValid m.desc.words ds) (sym stands.defs) whole.tied.valid);
  rows = ap (λ (rs : List ClockRow). length rs) stands.clocks ∙ whole.tied.stands.rows ∙ ap (λ (ds : Description). length ds) (whole.tied.defs ∙ sym stands.defs);
  attached = λ c m_. ap (λ (rs : List ClockRow). registered rs c) stands.clocks ∙ sym (whole.tied.stands.order_lists.listed c) ∙ ap (λ (xs : List ℕ). is_in c xs) (sym stands.order) ∙ m_;
  unlinked = λ c none. by c (link_in s.clocks c) refl none;
  possible = λ c p at.
      ap (λ (ds : Description). is_in p (parents_of ds c)) (stands.defs ∙ sym whole.tied.defs)
      ∙ whole.tied.stands.possible c p (ap (λ (rs : List ClockRow). link_in rs c) (sym stands.clocks) ∙ at);
} where
  by : (c : ℕ) (o : Option ℕ) → link_in s.clocks c ≡ o → registered s.clocks c ≡ false → o ≡ None
  by c None at none = refl
  by c (Some p) at none =
      let there : registered m.tree.clocks c ≡ true = whole.tied.stands.linked c p (ap (λ (rs : List ClockRow). link_in rs c) (sym stands.clocks) ∙ at) in
      let no : true ≡ false = sym there ∙ ap (λ (rs : List ClockRow). registered rs c) (sym stands.clocks) ∙ none in
      absurd cc

-- and its tree is wired
pub wired_parts : (m : Parts) (s : State) → IsWhole m → Stands m s → IsWired (length s.regs) (wiring s)
wired_parts m s whole stands =
    let narrow = narrow_parts m s whole stands in
    let long : length s.regs ≡ m.window.size = (subst (λ (o : Option (List ℕ)). AreTold m.window.size o) stands.regs whole.tied.told).1 in
    record { valid = subst (λ (n : ℕ). IsValid n s.defs) (sym long) narrow.valid; rows = narrow.rows; links = narrow.possible }

-- so is that of the prepare tier's part of it
wired_prep : (s : State) → IsWired (length s.regs) (wiring s) → IsWired (length (prep s).regs) (wiring (prep s))
unfolding prep masked
wired_prep s wired = record {
  valid = subst (λ (n : ℕ). IsValid n s.defs) (sym (length-gates_cleared s.defs (count_from 0 (length s.defs)) s.regs)) wired.valid;
  rows = wired.rows;
  links = wired.links;
}

-- while no call is in flight in a copy, its parts stand for a twin
copy_twin : (copy : Copy) (s : State) (is : IsCopyOf copy s) → copy.parts.flight.going ≡ false → IsTwin is.copies.twin s
copy_twin copy s is quiet = twin_unswept s is.copies.twin is.copies.is (none_sweeps is.copies.twin (quiet_stands copy.parts is.copies.twin is.copies.stands quiet))

-- that is sound
pub copy_sound : (copy : Copy) (s : State) (is : IsCopyOf copy s) → IsWhole copy.parts → copy.parts.flight.going ≡ false → IsSound copy.parts.window.size is.copies.twin
copy_sound copy s is whole quiet =
    let t : State = is.copies.twin in
    let none : t.change ≡ None = quiet_stands copy.parts t is.copies.stands quiet in
    let twin = copy_twin copy s is quiet in
    record {
      like = twin_like copy.parts.window.size s t is.reached twin (none ∙ sym (still_quiet t s none (sym twin.same)));
      narrow = narrow_parts copy.parts t whole is.copies.stands;
    }

-- ---- decisions

-- what the parts of a copy decide is decided over the prepare tier's part of each state that it is of
pub decided_over : (copy : Copy) (d : ℕ) (what : Sleeping) (made : Decision) → IsWhole copy.parts → copy.parts.flight.going ≡ false → AreDecided copy.parts d what made
    → (s : State) → IsCopyOf copy s → IsDecided s d what made
decided_over copy d what made whole quiet each s is =
    let t : State = is.copies.twin in
    decided_alike t (prep s) d what made (wired_parts copy.parts t whole is.copies.stands) (prep_twice s ∙ sym (copy_twin copy s is quiet).same) (each t is.copies.stands (copy_sound copy s is whole quiet))

-- what isn't decided is decided inside
pub inside_over : (d : ℕ) (what : Sleeping) → asks what ≡ false → plans what ≡ false → (s : State) → IsDecided s d what decision.Inside
inside_over d what none none' s = undecided what none none'

-- a decision over the prepare tier's part of a state is one for the state
pub decided_here : (s : State) (d : ℕ) (what : Sleeping) (made : Decision) → IsWired (length s.regs) (wiring s) → IsDecided s d what made → DecidesFor s d what made
decided_here s d what made wired is = decided_alike (prep s) s d what made (wired_prep s wired) (sym (prep_twice s)) is

-- the tree of a run is wired
pub wired_run : (m : Parts) (words : List ℕ) (log : Logged) → IsRun m words log → is_told m ≡ true → IsWired (length (state_of m words log).regs) (wiring (state_of m words log))
wired_run m words log run told =
    let known = wired_reached (length words) (state_of m words log) (run.reached told) in
    subst (λ (n : ℕ). IsWired n (wiring (state_of m words log))) (sym known.size) known.wired

-- ---- calls

-- a call that plans takes memory
pub plans_take : (what : Sleeping) → plans what ≡ true → takes_memory what ≡ true
plans_take (call.SetRate h x) e = refl
plans_take (call.SetRateExclusive h x) e = refl
plans_take (call.SetRange h least most) e = refl
plans_take (call.SetParent h p) e = refl
plans_take _ e = absurd cc
