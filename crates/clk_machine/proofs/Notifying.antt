-- The parts of a core where the notifiers of a clock change.
use Rattle.std.proofs.Common.{◌≡◌, ℕ, ◌+◌, ◌<◌, ◌&&◌, Bool, false, cond, not, List, [], ◌∷◌, refl, sym, ap, subst, ◌∙◌, arith, length, nat_eq}
use Rattle.std.specs.List.{list_any}
use Rattle.std.proofs.Math.Bool.{or-false}
use Rattle.clk_model.specs.State.{State, NotifierRow}
use Rattle.clk_model.specs.Notices.{notifiers_of}
use Rattle.clk_model.specs.Begin.{has_notifier}
use Rattle.clk_model.specs.State.{registered}
use Rattle.clk_model.proofs.Members.{not_either}
use Rattle.clk_model.proofs.NotifierLaws.{any-notifiers_of}
use Rattle.clk_model.proofs.StateLaws.{settled-still}
use Rattle.notifiers.specs.declared.notifier.Notifier.{Notifier}
use Rattle.notifiers.specs.Chains.{chain_of, Tells, has_id, without_notifier}
use Rattle.clk_machine.specs.Holding.{unnotified}
use Rattle.core_parts.specs.Listed.{rows_from, AreListed}
use Rattle.clk_machine.specs.Parts.{Parts, bare, IsWhole}
use Rattle.clk_machine.specs.Stands.{Stands, Becomes, nothing}
use Rattle.clk_machine.proofs.Flying.{none_left, never_flown, flies_quiet}
use Rattle.core_parts.proofs.Holdings.{StandsFor-same}
use Rattle.clk_machine.proofs.Registering.{paid_more}

-- the parts with these chains, and a credit spent
abbrev pub with_chains : Parts → List (List Notifier) → Parts
with_chains old chains' = record old { chains = chains'; spent = old.spent + 1 }

-- they stay whole
pub whole_notified : (old : Parts) (chains' : List (List Notifier)) → IsWhole old → old.flight.going ≡ false → old.spent < old.credits → length chains' ≡ length old.chains → AreListed chains' → IsWhole (with_chains old chains')
whole_notified old chains' whole quiet left same listed = record {
  tied = whole.tied;
  paid = paid_more old.table.handles old.credits old.spent whole.paid left;
  counted = record {
    keeps = whole.counted.keeps;
    stands = StandsFor-same old.counts (bare old) (bare (with_chains old chains')) whole.counted.stands refl refl refl refl refl;
  };
  clocks = whole.clocks;
  handled = whole.handled;
  notified = same ∙ whole.notified;
  listed = listed;
  flown = λ going. never_flown old.flight quiet going;
  room =
      let room = whole.room in
      let some = none_left (rows_from 0 old.chains) old.flight quiet in
      let none = none_left (rows_from 0 chains') old.flight quiet in
      omega arith;
  prepares_held = whole.prepares_held;
  enables_held = whole.enables_held;
}

-- that is what is done to the state
pub becomes_notified : (old : Parts) (chains' : List (List Notifier)) (f : List NotifierRow → List NotifierRow) → old.flight.going ≡ false → ((ns : List NotifierRow) → Tells old.chains ns → Tells chains' (f ns))
    → Becomes old nothing (λ s. record s { notifiers = f s.notifiers }) (with_chains old chains')
becomes_notified old chains' f quiet tells = record {
  remains = record { desc = refl; told = refl; size = refl; behind = refl; credits = refl; ignore_unused = refl };
  spent = refl;
  flight = refl;
  locks = refl;
  left = none_left (rows_from 0 chains') old.flight quiet ∙ sym (none_left (rows_from 0 old.chains) old.flight quiet);
  steps = refl;
  rows = λ c. sym (or-false (registered old.tree.clocks c));
  stands = λ s stands sound.
      subst (λ (t : State). Stands (with_chains old chains') (record t { spent = s.spent + 1 }))
      (sym (settled-still s (record s { notifiers = f s.notifiers }) (λ c. refl))) (record {
        defs = stands.defs;
        regs = stands.regs;
        clocks = stands.clocks;
        order = stands.order;
        handles = stands.handles;
        notifiers = tells s.notifiers stands.notifiers;
        prepare_holds = stands.prepare_holds;
        enable_holds = stands.enable_holds;
        change = flies_quiet s.notifiers (f s.notifiers) old.flight s.change stands.change quiet;
        along = stands.along;
        credits = stands.credits;
        spent = ap (λ (k : ℕ). k + 1) stands.spent;
        steps = stands.steps;
        ignore_unused = stands.ignore_unused;
      });
}

-- ---- what the chains tell of the state

pub has_stands : (m : Parts) (s : State) (c id : ℕ) → Stands m s → has_notifier s c id ≡ has_id id (chain_of m.chains c)
has_stands m s c id stands =
    sym (any-notifiers_of (λ n. nat_eq n.id id) s.notifiers c) ∙ ap (λ (ns : List NotifierRow). has_id id ns) (sym (stands.notifiers c))

pub many_stand : (m : Parts) (s : State) (c : ℕ) → Stands m s → length (notifiers_of s.notifiers c) ≡ length (chain_of m.chains c)
many_stand m s c stands = ap (λ (ns : List NotifierRow). length ns) (sym (stands.notifiers c))

-- a list that has no notifier of this clock and id is the same without it
kept : (c id : ℕ) (ns : List NotifierRow) → list_any (λ n. nat_eq n.clock c && nat_eq n.id id) ns ≡ false → without_notifier c id ns ≡ ns
kept c id [] none = refl
kept c id (n ∷ ns) none =
    let apart = not_either (nat_eq n.clock c && nat_eq n.id id) (list_any (λ m. nat_eq m.clock c && nat_eq m.id id) ns) none in
    ap (λ (t : Bool). cond (not t) (n ∷ without_notifier c id ns) (without_notifier c id ns)) apart.0
    ∙ ap (λ (ms : List NotifierRow). n ∷ ms) (kept c id ns apart.1)

pub unnotified_same : (s : State) (c id : ℕ) → has_notifier s c id ≡ false → unnotified c id s ≡ s
unnotified_same s c id none = ap (λ (ns : List NotifierRow). let t : State = record s { notifiers = ns } in t) (kept c id s.notifiers none)
