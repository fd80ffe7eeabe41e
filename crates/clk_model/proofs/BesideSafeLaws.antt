-- Laws on the enable tier beside a call in flight: it leaves the call safe, and its change where it stands.
use Rattle.std.proofs.Common.{◌≡◌, ℕ, ◌+◌, ◌-◌, ◌<◌, ◌&&◌, Bool, true, not, List, [], ◌∷◌, ◌++◌, Option, Some, None, refl, sym, ap, subst, ◌∙◌, arith, length, nat_eq}
use Rattle.std.proofs.Math.Path.{fun_ext}
use Rattle.std.proofs.lemmas.Bool.Decides.{nat_tests}
use Rattle.std.specs.Prelude.{IfSome, filter}
use Rattle.clk_base.specs.declared.event.Event.{Event}
use Rattle.clk_base.specs.declared.event.Event.TheVariants as event
use Rattle.clk_base.specs.declared.event.Turn.{Turn}
use Rattle.clk_base.specs.Description.{Description, kind_of}
use Rattle.clk_base.specs.Fields.{PowerBit, power_of}
use Rattle.reg_bank.specs.Registers.{Registers}
use Rattle.clk_model.specs.declared.row.HandleRow.{HandleRow}
use Rattle.clk_model.specs.Lists.{is_in}
use Rattle.clk_model.specs.Kinds.{is_pll, is_powered}
use Rattle.clk_model.specs.State.{State, Change, handle_at}
use Rattle.clk_model.specs.Tree.{path_to_be}
use Rattle.clk_model.specs.Holders.{prepared}
use Rattle.clk_model.specs.Gates.{settled}
use Rattle.clk_model.specs.Round.{wiring}
use Rattle.clk_model.specs.Script.{unprepared_plls}
use Rattle.clk_model.specs.Wired.{IsWired}
use Rattle.clk_model.specs.Begin.{put_handle, with_handle}
use Rattle.clk_model.specs.Step.{to_raise, cut_short}
use Rattle.clk_model.specs.Machine.{enabled, disabled, running, next}
use Rattle.clk_model.specs.Tier.{is_enable_tier}
use Rattle.clk_model.proofs.EventLaws.{own_is_live}
use Rattle.clk_model.proofs.TierLaws.{pick_either, with_handle_either, paid_is}
use Rattle.clk_model.proofs.PowerLaws.{settled_power}
use Rattle.clk_model.proofs.Scenes.{scene, IsSafe, IsAtRest, RaisedWell, RaisingFront, asks, asks_first, comes_again, Stands, calm, covered, raising}
use Rattle.clk_model.proofs.ArriveLaws.{fit_of, wired_before, settled_safe, settled_scene, safe_recounted, prepared_told, to_be_told, some_one}
use Rattle.clk_model.proofs.SupplyLaws.{if_one}
use Rattle.clk_model.proofs.StandLaws.{Goes, goes_told, over_told}
use Rattle.clk_model.proofs.RestLaws.{Alike, alike_self, alike_counted, fit_alike, gates_alike}

-- ---- what an event of the enable tier leaves

-- an answer leaves a state like this one, with its change and its holds
pub record LeavesAlike (s : State) (y : State × Turn) : Type 0 where
  pub alike : Alike s y.0
  pub change : y.0.change ≡ s.change
  pub prepares : y.0.prepare_holds ≡ s.prepare_holds
  pub enables : y.0.enable_holds ≡ s.enable_holds

alike_answer : (s : State) (x : Turn) → LeavesAlike s (s, x)
alike_answer s x = record { alike = alike_self s; change = refl; prepares = refl; enables = refl }

-- a handle with more or fewer enables, where it has a prepare if it has one
alike_enables : (s : State) (n : ℕ) (h : HandleRow) (m : ℕ) (x : Turn) → handle_at s.handles n ≡ Some h → ((0 < h.enables → 0 < h.prepares) → 0 < m → 0 < h.prepares)
    → LeavesAlike s (put_handle s n (Some (record h { enables = m })), x)
alike_enables s n h m x at own = record {
  alike = alike_counted s n h (record h { enables = m }) at refl refl own;
  change = refl;
  prepares = refl;
  enables = refl;
}

enable_alike : (s : State) (d n : ℕ) → LeavesAlike s (with_handle s d n (enabled s n))
enable_alike s d n =
    with_handle_either (LeavesAlike s) s d n (enabled s n) (alike_answer s _)
    (λ h own. pick_either (LeavesAlike s) (nat_eq h.prepares 0) _ _ (λ e. alike_answer s _)
    (λ e. alike_enables s n h (h.enables + 1) _ (own_is_live s d n h own) (λ old on. grind (arith, nat_tests))))

disable_alike : (s : State) (d n : ℕ) → LeavesAlike s (with_handle s d n (disabled s n))
disable_alike s d n =
    with_handle_either (LeavesAlike s) s d n (disabled s n) (alike_answer s _)
    (λ h own. pick_either (LeavesAlike s) (nat_eq h.enables 0) _ _ (λ e. alike_answer s _)
    (λ e. alike_enables s n h (h.enables - 1) _ (own_is_live s d n h own) (λ old on. old (omega arith))))

running_alike : (s : State) (d n : ℕ) → LeavesAlike s (with_handle s d n (running s))
running_alike s d n = with_handle_either (LeavesAlike s) s d n (running s) (alike_answer s _) (λ h own. alike_answer s _)

-- the state that an event of the enable tier settles
pub record TierEvent (s t : State) : Type 0 where
  pub left : State × Turn
  pub leaves : LeavesAlike s left
  pub state : record (settled s left.0) { spent = s.spent + 1 } ≡ t

pub tier_event : (s t : State) (d : ℕ) (e : Event) (x : Turn) → is_enable_tier e ≡ true → next s d e ≡ Some (t, x) → TierEvent s t
unfolding next
tier_event s t d (event.Enable n) x tier step = record { left = with_handle s d n (enabled s n); leaves = enable_alike s d n; state = (paid_is s t (with_handle s d n (enabled s n)) x step).0 }
tier_event s t d (event.Disable n) x tier step = record { left = with_handle s d n (disabled s n); leaves = disable_alike s d n; state = (paid_is s t (with_handle s d n (disabled s n)) x step).0 }
tier_event s t d (event.Running n) x tier step = record { left = with_handle s d n (running s); leaves = running_alike s d n; state = (paid_is s t (with_handle s d n (running s)) x step).0 }
tier_event s t d (event.Begin what) x tier step = absurd cc
tier_event s t d (event.Step m answer) x tier step = absurd cc

-- ---- a state beside

-- a state beside another: the same description, scene and power bits, and safe
record IsBeside (late : Option ℕ) (s t : State) : Type 0 where
  defs : t.defs ≡ s.defs
  scene_is : scene late t ≡ scene late s
  powers : (y : ℕ) (power : PowerBit) → power_of (kind_of s.defs y) ≡ Some power → is_powered s.regs power ≡ true → is_powered t.regs power ≡ true
  safe : IsSafe late t
  change : t.change ≡ s.change
  prepares : t.prepare_holds ≡ s.prepare_holds
  enables : t.enable_holds ≡ s.enable_holds

is_beside : (late : Option ℕ) (s t : State) → IsSafe late s → TierEvent s t → IsWired (length t.regs) (wiring t) → IsBeside late s t
unfolding settled
is_beside late s t safe tier wired =
    let u : State = (tier.left).0 in
    let alike = tier.leaves.alike in
    let wired_u = wired_before s u (subst (λ (v : State). IsWired (length v.regs) (wiring v)) (sym tier.state) wired) in
    let fit_u = fit_alike late s u (fit_of late s safe) alike wired_u in
    let safe_u = safe_recounted late (settled s u) u.change (s.spent + 1) (settled s u).steps (settled_safe late s u fit_u (gates_alike s u safe.gates alike.defs alike.regs)) in
    record {
      defs = sym (ap (λ (v : State). v.defs) tier.state) ∙ alike.defs;
      scene_is = sym (ap (λ (v : State). scene late v) tier.state) ∙ settled_scene late s u wired_u.valid ∙ alike.scene_is late;
      powers = λ y power at is.
          ap (λ (regs : Registers). is_powered regs power) (sym (ap (λ (v : State). v.regs) tier.state))
          ∙ settled_power s u (length u.regs) y power wired_u.valid (ap (λ (d : Description). power_of (kind_of d y)) alike.defs ∙ at)
          ∙ ap (λ (regs : Registers). is_powered regs power) alike.regs ∙ is;
      safe = subst (λ (v : State). IsSafe late v) tier.state safe_u;
      change = sym (ap (λ (v : State). v.change) tier.state) ∙ tier.leaves.change;
      prepares = sym (ap (λ (v : State). v.prepare_holds) tier.state) ∙ tier.leaves.prepares;
      enables = sym (ap (λ (v : State). v.enable_holds) tier.state) ∙ tier.leaves.enables;
    }

-- what is left to be raised is so too
to_raise_told : (late : Option ℕ) (s t : State) (k : Change) (x : ℕ) → IsBeside late s t → to_raise t k x ≡ to_raise s k x
to_raise_told late s t k x beside_ =
    ap (λ (cs : List ℕ). filter (λ y. not (is_in y k.raised)) (unprepared_plls t cs)) (to_be_told late t (scene late s) x beside_.scene_is ∙ sym (to_be_told late s (scene late s) x refl))
    ∙ ap (λ (test : ℕ → Bool). filter (λ y. not (is_in y k.raised)) (filter test (path_to_be s.defs s.regs s.clocks x)))
    (fun_ext (λ c. ap (λ (d : Description). is_pll (kind_of d c) && not (prepared t c)) beside_.defs
    ∙ ap (λ (b : Bool). is_pll (kind_of s.defs c) && not b) (prepared_told late late s t (scene late s) c beside_.defs beside_.scene_is)))

well_beside : (late : Option ℕ) (s t : State) (k : Change) (xs : List ℕ) → IsBeside late s t → RaisedWell s k xs → RaisedWell t k xs
well_beside late s t k xs beside_ well = record {
  within = λ y m. over_told s t late xs y beside_.scene_is ∙ well.within y m;
  powered = λ y m.
      subst (λ (d : Description). IfSome (power_of (kind_of d y)) (λ power. is_powered t.regs power ≡ true)) (sym beside_.defs)
      (if_one (λ power. is_powered t.regs power ≡ true) (power_of (kind_of s.defs y))
      (λ power at. beside_.powers y power at (some_one (λ p. is_powered s.regs p ≡ true) (power_of (kind_of s.defs y)) power (well.powered y m) at)));
  unprepared = λ y m. prepared_told late late s t (scene late s) y beside_.defs beside_.scene_is ∙ well.unprepared y m;
}

stands_beside : (late : Option ℕ) (s t : State) (k : Change) → IsBeside late s t → Stands s k late → Stands t k late
stands_beside late s t k beside_ (calm rest front still idle goes) =
    calm rest front still (λ y m. prepared_told late late s t (scene late s) y beside_.defs beside_.scene_is ∙ idle y m)
    (goes_told s t k.call k.timed_out [] late (scene late s) k.left beside_.defs beside_.scene_is goes)
stands_beside late s t k beside_ (covered xs empty well all goes) =
    covered xs empty (well_beside late s t k xs beside_ well) (λ x m. to_raise_told late s t k x beside_ ∙ all x m)
    (goes_told s t k.call k.timed_out xs late (scene late s) k.left beside_.defs beside_.scene_is goes)
stands_beside late s t k beside_ (raising done x well all front goes cut) =
    raising done x (well_beside late s t k (done ++ x ∷ []) beside_ well) (λ z m. to_raise_told late s t k z beside_ ∙ all z m)
    (by_front front)
    (goes_told s t k.call k.timed_out (done ++ x ∷ []) late (scene late s) k.left beside_.defs beside_.scene_is goes)
    (goes_told s t k.call true [] late (scene late s) (cut_short k.call k.left) beside_.defs beside_.scene_is cut) where
      by_front : RaisingFront s k x → RaisingFront t k x
      by_front (asks y is none) = asks y is (to_raise_told late s t k x beside_ ∙ none)
      by_front (asks_first y is) = asks_first y is
      by_front (comes_again is) = comes_again is

-- an event of the enable tier leaves a call in flight safe
pub beside_goes : (s t : State) (d : ℕ) (e : Event) (x : Turn) → is_enable_tier e ≡ true → next s d e ≡ Some (t, x) → IsWired (length t.regs) (wiring t) → Goes s → Goes t
beside_goes s t d e x tier step wired goes =
    let beside_ = is_beside goes.in_call.late s t goes.in_call.safe (tier_event s t d e x tier step) wired in
    record {
      change = goes.change;
      at = beside_.change ∙ goes.at;
      in_call = record { late = goes.in_call.late; safe = beside_.safe; stands = stands_beside goes.in_call.late s t goes.change beside_ goes.in_call.stands };
    }

-- and a state at rest
pub beside_rests : (s t : State) (d : ℕ) (e : Event) (x : Turn) → is_enable_tier e ≡ true → next s d e ≡ Some (t, x) → IsWired (length t.regs) (wiring t) → s.change ≡ None → IsAtRest s
    → (t.change ≡ None) × IsAtRest t
beside_rests s t d e x tier step wired quiet rest =
    let beside_ = is_beside None s t rest.safe (tier_event s t d e x tier step) wired in
    (beside_.change ∙ quiet, record { safe = beside_.safe; prepares = beside_.prepares ∙ rest.prepares; enables = beside_.enables ∙ rest.enables })
