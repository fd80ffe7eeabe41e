-- Laws on beginnings as events: over the same part of the prepare tier a call begins alike, room and a handle's enables aside.
use Rattle.std.proofs.Common.{◌≡◌, ℕ, ◌+◌, ◌<◌, ◌||◌, Bool, true, false, cond, List, Option, Some, None, refl, sym, ap, subst, ◌∙◌, ◌⊎◌, inr, arith, length, nat_lt}
use Rattle.std.specs.Prelude.{if◌then◌else◌, option_map}
use Rattle.std.specs.Option.{option_map_or}
use Rattle.std.proofs.lemmas.Bool.Decides.{nat_tests}
use Rattle.clk_base.specs.declared.call.Micro.{Micro}
use Rattle.clk_base.specs.declared.call.Sleeping.{Sleeping}
use Rattle.clk_base.specs.declared.call.Sleeping.TheVariants as call
use Rattle.clk_base.specs.declared.event.Errno.TheVariants as errno
use Rattle.clk_base.specs.declared.event.Event.TheVariants as event
use Rattle.clk_base.specs.declared.event.Reply.{Reply}
use Rattle.clk_base.specs.declared.event.Reply.TheVariants as reply
use Rattle.clk_base.specs.declared.event.Turn.{Turn}
use Rattle.clk_base.specs.declared.event.Turn.TheVariants as turn
use Rattle.clk_model.specs.declared.row.HandleRow.{HandleRow}
use Rattle.clk_model.specs.State.{State, Change, is_quiet, link_in}
use Rattle.clk_model.specs.Rate.{rate}
use Rattle.clk_model.specs.Round.{wiring, round_rate}
use Rattle.clk_model.specs.Chain.{clock_id}
use Rattle.clk_model.specs.Gates.{settled}
use Rattle.clk_model.specs.Views.{view, lift}
use Rattle.clk_model.specs.Script.{sweep_script}
use Rattle.clk_model.specs.Begin.{done, refused, pick, most_credits, weight_of, starts, change_of, own_handle, begun}
use Rattle.clk_model.specs.Machine.{paid, next}
use Rattle.clk_model.specs.Prep.{is_sweep, change_prep, prep}
use Rattle.clk_model.specs.Wired.{IsWired}
use Rattle.clk_model.specs.Laws.PlansRead.{asks, plans}
use Rattle.clk_model.specs.Laws.PrepBegins.{ComesAlike, answered, sets_out, finds_enable, BeginsReadPrep, DecisionsReadPrep, IsKeptBack, BareBeginsReadPrep, BeginsAlike, alike, first_lacks_room, second_lacks_room, EventsReadPrep, SweepComes, switched_off, lacks_room, goes_on, SweepsBeginByPrep}
use Rattle.clk_model.proofs.FlightLaws.{begin_is}
use Rattle.clk_model.proofs.PrepLaws.{prep-settled, prep-spent}
use Rattle.clk_model.proofs.CopyLaws.{prep_twice}
use Rattle.clk_model.proofs.AlikeLaws.{rest_of, is_beside, looks_alike, prep_change}
use Rattle.clk_model.proofs.PlansReadLaws.{answers_read_prep, plans_come, weighs_alike, prep_credits, still_quiet}
use Rattle.clk_model.proofs.PrepBeginLaws.{change_same, begin_same, bare_begin}

-- ---- calls

-- a call that asks is answered, and leaves the state
asks_stay : (s : State) (d : ℕ) (what : Sleeping) → asks what ≡ true → (r : Reply) × (begun s d what ≡ done s r)
unfolding begun
asks_stay s d (call.GetRate h) is = by (own_handle s d h.number) where
  by : (o : Option HandleRow) → (r : Reply) × (option_map_or (λ row. done s (reply.Rate (rate s.defs s.regs s.clocks row.clock.0))) o (refused s errno.ENOENT) ≡ done s r)
  by None = (reply.Refused errno.ENOENT, refl)
  by (Some row) = (reply.Rate (rate s.defs s.regs s.clocks row.clock.0), refl)
asks_stay s d (call.RoundRate h x) is = by (own_handle s d h.number) where
  given_by : (o : Option ℕ) → (r : Reply) × (option_map_or (λ r. done s (reply.Rate r)) o (refused s errno.EINVAL) ≡ done s r)
  given_by None = (reply.Refused errno.EINVAL, refl)
  given_by (Some r) = (reply.Rate r, refl)

  by : (o : Option HandleRow) → (r : Reply) × (option_map_or (λ row. option_map_or (λ r. done s (reply.Rate r)) (round_rate (wiring s) (view (lift s h.number)) row.clock.0 x) (refused s errno.EINVAL)) o (refused s errno.ENOENT) ≡ done s r)
  by None = (reply.Refused errno.ENOENT, refl)
  by (Some row) = given_by (round_rate (wiring s) (view (lift s h.number)) row.clock.0 x)
asks_stay s d (call.GetParent h) is = by (own_handle s d h.number) where
  by : (o : Option HandleRow) → (r : Reply) × (option_map_or (λ row. done s (reply.Clock (option_map clock_id (link_in s.clocks row.clock.0)))) o (refused s errno.ENOENT) ≡ done s r)
  by None = (reply.Refused errno.ENOENT, refl)
  by (Some row) = (reply.Clock (option_map clock_id (link_in s.clocks row.clock.0)), refl)
asks_stay s d _ is = absurd cc

asked_comes : (s t : State) (d : ℕ) (what : Sleeping) → IsWired (length s.regs) (wiring s) → prep t ≡ prep s → asks what ≡ true → ComesAlike s t (begun s d what) (begun t d what)
asked_comes s t d what wired same is =
    let one = asks_stay s d what is in
    let other = asks_stay t d what is in
    let turns : (begun s d what).1 ≡ turn.Done one.0 = ap (λ (y : State × Turn). y.1) one.1 in
    answered one.0 turns (answers_read_prep s t d what wired same is ∙ turns) (ap (λ (y : State × Turn). prep y.0) other.1 ∙ same ∙ sym (ap (λ (y : State × Turn). prep y.0) one.1))

pub begins_read_prep : BeginsReadPrep
begins_read_prep s t d what wired same other enables = by (asks what) (plans what) refl refl where
  by : (a b : Bool) → asks what ≡ a → plans what ≡ b → ComesAlike s t (begun s d what) (begun t d what)
  by true b is none = asked_comes s t d what wired same is
  by false true none is = plans_come s t d what wired same is
  by false false none none' =
      subst (λ (u : State). ComesAlike s u (begun s d what) (begun u d what)) (sym (is_beside s t same))
      (begin_same (length s.regs) s t.regs t.handles (rest_of t) (looks_alike (length s.regs) s t wired.valid same) (subst (λ (u : State). prep u ≡ prep s) (is_beside s t same) same) d what
      (ap (λ (e : Bool). e || plans what || is_sweep what) none ∙ ap (λ (e : Bool). e || is_sweep what) none' ∙ other) enables)

-- over the part itself
pub decisions_read_prep : DecisionsReadPrep
decisions_read_prep s d what wired is = by (asks what) refl is where
  by : (b : Bool) → asks what ≡ b → (b || plans what) ≡ true → ComesAlike s (prep s) (begun s d what) (begun (prep s) d what)
  by true asks_ either = asked_comes s (prep s) d what wired (prep_twice s) asks_
  by false none plans_ = plans_come s (prep s) d what wired (prep_twice s) plans_

pub bare_begins_read_prep : BareBeginsReadPrep
bare_begins_read_prep s t d what wired same other none = by (finds_enable s what) refl where
  by : (b : Bool) → finds_enable s what ≡ b → IsKeptBack s (begun s d what) ⊎ ComesAlike s t (begun s d what) (begun t d what)
  by false is = inr (begins_read_prep s t d what wired same other (none ∙ sym is))
  by true is =
      subst (λ (u : State). IsKeptBack s (begun s d what) ⊎ ComesAlike s u (begun s d what) (begun u d what)) (sym (is_beside s t same))
      (bare_begin (length s.regs) s t.regs t.handles (rest_of t) (looks_alike (length s.regs) s t wired.valid same) (subst (λ (u : State). prep u ≡ prep s) (is_beside s t same) same) d what is none)

-- ---- room

-- of two states with the same part, the one in which more steps were made has less room
rooms_alike : (s t n n' : State) (k : Change) → prep t ≡ prep s → n.steps ≡ s.steps → n'.steps ≡ t.steps → prep n' ≡ prep n → BeginsAlike s t (starts s n k) (starts t n' k)
unfolding pick
rooms_alike s t n n' k same own own' after = by_tests (nat_lt most_credits (n.credits + n.steps + weight_of n k)) (nat_lt most_credits (n'.credits + n'.steps + weight_of n' k)) refl refl where
  less : (c w w' a b most : ℕ) → w' ≡ w → nat_lt most (c + a + w) ≡ true → nat_lt most (c + b + w') ≡ false → b < a
  less c w w' a b most weighs full room = grind (arith, nat_tests)

  weighs : weight_of n' k ≡ weight_of n k
  weighs = weighs_alike n n' k after

  credits : n'.credits ≡ n.credits
  credits = prep_credits n n' after

  by_tests : (b b' : Bool) → nat_lt most_credits (n.credits + n.steps + weight_of n k) ≡ b → nat_lt most_credits (n'.credits + n'.steps + weight_of n' k) ≡ b'
      → BeginsAlike s t (pick b (λ v. refused s errno.ENOSPC) (λ v. (record n { change = Some k }, turn.Going))) (pick b' (λ v. refused t errno.ENOSPC) (λ v. (record n' { change = Some k }, turn.Going)))
  by_tests true true e e' = alike refl same
  by_tests false false e e' = alike refl (prep_change n n' k k after refl)
  by_tests true false e e' =
      let fewer : n'.steps < n.steps = less n.credits (weight_of n k) (weight_of n' k) n.steps n'.steps most_credits weighs e (ap (λ (c : ℕ). nat_lt most_credits (c + n'.steps + weight_of n' k)) (sym credits) ∙ e') in
      first_lacks_room (omega arith) refl refl refl
  by_tests false true e e' =
      let more : n.steps < n'.steps = less n.credits (weight_of n' k) (weight_of n k) n'.steps n.steps most_credits (sym weighs) (ap (λ (c : ℕ). nat_lt most_credits (c + n'.steps + weight_of n' k)) (sym credits) ∙ e') e in
      second_lacks_room (omega arith) refl refl refl

pub room_alike : (s t : State) (x y : State × Turn) → prep t ≡ prep s → ComesAlike s t x y → BeginsAlike s t x y
room_alike s t x y same (answered r one other after) = alike (other ∙ sym one) after
room_alike s t x y same (sets_out n n' k one other own own' after) =
    subst (λ (z : State × Turn). BeginsAlike s t x z) (sym other) (subst (λ (z : State × Turn). BeginsAlike s t z (starts t n' k)) (sym one) (rooms_alike s t n n' k same own own' after))

-- ---- events

-- what a beginning has made, after the gates have followed and its credit is spent
paid_alike : (s t u v : State) (a b : Turn) (x y : State × Turn) → BeginsAlike s t x y → prep u ≡ prep x.0 → x.1 ≡ a → prep v ≡ prep y.0 → y.1 ≡ b → BeginsAlike s t (u, a) (v, b)
paid_alike s t u v a b x y (alike turns after) one is other is' = alike (sym is' ∙ turns ∙ is) (other ∙ after ∙ sym one)
paid_alike s t u v a b x y (first_lacks_room fewer full left going) one is other is' = first_lacks_room fewer (sym is ∙ full) (one ∙ left) (sym is' ∙ going)
paid_alike s t u v a b x y (second_lacks_room more going full left) one is other is' = second_lacks_room more (sym is ∙ going) (sym is' ∙ full) (other ∙ left)

pub prep_paid : (s : State) (x : State × Turn) → (let u : State = record (settled s x.0) { spent = s.spent + 1 } in prep u) ≡ prep x.0
prep_paid s x = prep-spent (settled s x.0) (s.spent + 1) ∙ prep-settled s x.0

-- a call begins where no call is in flight and a credit is left
pub begins_paid : (t : State) (d : ℕ) (what : Sleeping) → t.change ≡ None → t.spent < t.credits
    → next t d (event.Begin what) ≡ Some (record (settled t (begun t d what).0) { spent = t.spent + 1 }, (begun t d what).1)
unfolding next
begins_paid t d what quiet left =
    ap (λ (o : Option Change). if is_quiet o then paid t (begun t d what) else None) quiet
    ∙ ap (λ (b : Bool). cond b (Some (record (settled t (begun t d what).0) { spent = t.spent + 1 }, (begun t d what).1)) None) (let some : nat_lt t.spent t.credits ≡ true = grind (arith, nat_tests) in some)

pub events_read_prep : EventsReadPrep
unfolding settled
events_read_prep s t u d what x wired same other enables left step =
    let is = begin_is s u d what x step in
    record {
      after = record (settled t (begun t d what).0) { spent = t.spent + 1 };
      turn_ = (begun t d what).1;
      begins = begins_paid t d what (still_quiet s t is.0 same) left;
      alike = paid_alike s t u (record (settled t (begun t d what).0) { spent = t.spent + 1 }) x (begun t d what).1 (begun s d what) (begun t d what)
          (room_alike s t (begun s d what) (begun t d what) same (begins_read_prep s t d what wired same other enables))
          (ap prep (sym is.1) ∙ prep_paid s (begun s d what)) is.2 (prep_paid t (begun t d what)) refl;
    }

-- ---- the sweep

-- with any script the sweep goes on alike
sweep_change : (s t : State) (d : ℕ) (ms ns : List Micro) → IsWired (length s.regs) (wiring s) → prep t ≡ prep s → change_prep (change_of t d call.Sweep ms) ≡ change_prep (change_of s d call.Sweep ns)
sweep_change s t d ms ns wired same =
    ap (λ (u : State). change_prep (change_of u d call.Sweep ms)) (is_beside s t same)
    ∙ ap change_prep (change_same (length s.regs) s t.regs t.handles (rest_of t) (looks_alike (length s.regs) s t wired.valid same) d call.Sweep ms)

prep_ignores : (s t : State) → prep t ≡ prep s → t.ignore_unused ≡ s.ignore_unused
unfolding prep
prep_ignores s t same = ap (λ (u : State). u.ignore_unused) same

pub sweeps_begin_by_prep : SweepsBeginByPrep
unfolding begun pick
sweeps_begin_by_prep s t d wired same = by s.ignore_unused refl where
  script : Change
  script = change_of s d call.Sweep (sweep_script s)

  starting : (full : Bool) → SweepComes s t d (pick full (λ v. refused s errno.ENOSPC) (λ v. (record s { change = Some script }, turn.Going)))
  starting true = lacks_room refl
  starting false = goes_on refl (λ ms. prep_change s t script (change_of t d call.Sweep ms) same (sweep_change s t d ms (sweep_script s) wired same))

  by : (a : Bool) → s.ignore_unused ≡ a → SweepComes s t d (pick a (λ v. done s reply.Fine) (λ v. starts s s script))
  by true is = switched_off refl (ap (λ (b : Bool). pick b (λ v. done t reply.Fine) (λ v. starts t t (change_of t d call.Sweep (sweep_script t)))) (prep_ignores s t same ∙ is))
  by false is = starting (nat_lt most_credits (s.credits + s.steps + weight_of s script))
