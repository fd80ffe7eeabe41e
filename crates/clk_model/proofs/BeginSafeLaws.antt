-- Laws on beginnings of calls: from a state at rest they leave one at rest, or a call in flight that is safe.
use Rattle.std.proofs.Common.{◌≡◌, ℕ, ◌+◌, ◌-◌, ◌<◌, ◌&&◌, Bool, true, false, not, map, List, [], ◌∷◌, ◌++◌, Some, None, refl, sym, ap, subst, ◌∙◌, inl, inr, arith, nat_eq, nat_lt}
use Rattle.std.proofs.lemmas.Bool.{and_from}
use Rattle.std.proofs.lemmas.Bool.Decides.{nat_tests}
use Rattle.std.specs.Prelude.{IfSome, slice_get, is_none, option_map}
use Rattle.clk_base.specs.declared.call.Micro.TheVariants as micro
use Rattle.clk_base.specs.declared.call.Sleeping.{Sleeping}
use Rattle.clk_base.specs.declared.call.Sleeping.TheVariants as call
use Rattle.clk_base.specs.declared.handle.Handle.{Handle}
use Rattle.clk_base.specs.Description.{kind_of}
use Rattle.clk_base.specs.Fields.{PowerBit, power_of}
use Rattle.clk_model.specs.declared.row.HandleRow.{HandleRow}
use Rattle.clk_model.specs.Lists.{is_in}
use Rattle.clk_model.specs.Kinds.{is_pll, is_powered}
use Rattle.clk_model.specs.State.{State, Change, handle_at}
use Rattle.clk_model.specs.Holders.{prepared}
use Rattle.clk_model.specs.Gates.{settled}
use Rattle.clk_model.specs.Chain.{clock_id}
use Rattle.clk_model.specs.Script.{unprepared_plls}
use Rattle.clk_model.specs.Begin.{put_handle, keeps_prepare}
use Rattle.clk_model.specs.Step.{sets_parent, cut_short}
use Rattle.clk_model.specs.Laws.LinksKept.{KeepsLinks}
use Rattle.clk_model.proofs.Members.{not_either}
use Rattle.clk_model.proofs.OnceLaws.{filter_keeps}
use Rattle.clk_model.proofs.Scenes.{Scene, scene, EndsPrepare, GoesWell, raises, ends, PowersOn, IsSafe, calm, IsAtRest}
use Rattle.clk_model.proofs.ArriveLaws.{IsFit, fit_of, settled_safe, settled_scene, safe_recounted, some_one, power_is_pll}
use Rattle.clk_model.proofs.SupplyLaws.{if_one}
use Rattle.clk_model.proofs.StandLaws.{Goes, goes_told}
use Rattle.clk_model.proofs.RestLaws.{alike_put, fit_alike, fit_counted, prepared_less, gates_alike}
use Rattle.clk_model.proofs.PlanRootLaws.{IsRooted}
use Rattle.clk_model.proofs.WalkGoLaws.{CutsAt, at_visit, at_end}
use Rattle.clk_model.proofs.ProbeGoLaws.{Resting}
use Rattle.clk_model.proofs.BeginsLaws.{changes_rate, IsPlannedOver, over_itself, over_range}

-- ---- PLLs of a path

pub first_none : (xs : List ℕ) → is_none (slice_get xs 0) ≡ true → xs ≡ []
first_none [] e = refl
first_none (x ∷ xs) e = absurd cc

-- where no PLL of a path is unprepared, they are powered
pub path_powered : (s : State) (cs : List ℕ) (c : ℕ) → PowersOn s → is_none (slice_get (unprepared_plls s cs) 0) ≡ true → is_in c cs ≡ true
    → IfSome (power_of (kind_of s.defs c)) (λ power. is_powered s.regs power ≡ true)
path_powered s cs c powers none m =
    if_one (λ power. is_powered s.regs power ≡ true) (power_of (kind_of s.defs c))
    (λ power at. some_one (λ p. is_powered s.regs p ≡ true) (power_of (kind_of s.defs c)) power (by_prepared (prepared s c) refl power at) at) where
      by_prepared : (t : Bool) → prepared s c ≡ t → (power : PowerBit) → power_of (kind_of s.defs c) ≡ Some power → IfSome (power_of (kind_of s.defs c)) (λ p. is_powered s.regs p ≡ true)
      by_prepared true prep power at = powers c prep
      by_prepared false idle power at =
          let there = filter_keeps (λ y. is_pll (kind_of s.defs y) && not (prepared s y)) c cs (and_from (is_pll (kind_of s.defs c)) (not (prepared s c)) (power_is_pll (kind_of s.defs c) power at) (ap not idle)) m in
          let no : false ≡ true = sym (ap (is_in c) (first_none (unprepared_plls s cs) none)) ∙ there in
          absurd cc

-- ---- a call that is answered at once

-- a state at rest, whose links are kept
pub resting : (s : State) → IsAtRest s → KeepsLinks s → Resting s
resting s rest keeps = record { fit = fit_of None s rest.safe; prepares = rest.prepares; enables = rest.enables; keeps = keeps }

-- what an answer leaves is at rest, where it is fit and has no holds
pub rests : (q u t : State) → IsAtRest q → IsFit None u → u.defs ≡ q.defs → u.regs ≡ q.regs → u.change ≡ None → u.prepare_holds ≡ [] → u.enable_holds ≡ []
    → record (settled q u) { spent = q.spent + 1 } ≡ t → (t.change ≡ None) × IsAtRest t
unfolding settled
rests q u t rest fit defs regs quiet prepares_ enables_ state =
    let safe = safe_recounted None (settled q u) u.change (q.spent + 1) (settled q u).steps (settled_safe None q u fit (gates_alike q u rest.safe.gates defs regs)) in (
      sym (ap (λ (v : State). v.change) state) ∙ quiet,
      record {
        safe = subst (λ (v : State). IsSafe None v) state safe;
        prepares = sym (ap (λ (v : State). v.prepare_holds) state) ∙ prepares_;
        enables = sym (ap (λ (v : State). v.enable_holds) state) ∙ enables_;
      },
    )

-- ---- a call that goes on

-- its change stands between its raises, where its script goes well
pub begins_going : (q n t : State) (k : Change) → IsAtRest q → IsFit None n → n.defs ≡ q.defs → n.regs ≡ q.regs → k.front ≡ [] → k.raised ≡ []
    → GoesWell n.defs k.call k.timed_out [] (scene None n) k.left → record (settled q (record n { change = Some k })) { spent = q.spent + 1 } ≡ t → Goes t
unfolding settled
begins_going q n t k rest fit defs regs empty none goes state =
    let u : State = record n { change = Some k } in
    let fit_u : IsFit None u = record { wired = fit.wired; sound = fit.sound; enables = fit.enables; powers = fit.powers } in
    let safe = safe_recounted None (settled q u) (Some k) (q.spent + 1) (settled q u).steps (settled_safe None q u fit_u (gates_alike q u rest.safe.gates defs regs)) in
    record {
      change = k;
      at = sym (ap (λ (v : State). v.change) state);
      in_call = record {
        late = None;
        safe = subst (λ (v : State). IsSafe None v) state safe;
        stands = calm [] (empty ∙ sym (ap (λ (zs : List ℕ). map (λ y. micro.Fall (clock_id y)) zs ++ []) none)) refl
            (λ y m. let no : false ≡ true = sym (ap (is_in y) none) ∙ m in absurd cc)
            (goes_told n t k.call k.timed_out [] None (scene None n) k.left (sym (ap (λ (v : State). v.defs) state)) (sym (ap (λ (v : State). scene None v) state) ∙ settled_scene None q u fit.wired.valid) goes);
      };
    }

-- ---- the scripts of calls that go on

pub rate_cuts : (what : Sleeping) → changes_rate what ≡ true → CutsAt what
rate_cuts (call.SetRate h x) is = at_visit (λ ms. refl)
rate_cuts (call.SetRateExclusive h x) is = at_visit (λ ms. refl)
rate_cuts (call.SetRange h least most) is = at_visit (λ ms. refl)
rate_cuts (call.Get found) is = absurd cc
rate_cuts (call.Put h) is = absurd cc
rate_cuts (call.Prepare h) is = absurd cc
rate_cuts (call.Unprepare h) is = absurd cc
rate_cuts (call.GetRate h) is = absurd cc
rate_cuts (call.RoundRate h x) is = absurd cc
rate_cuts (call.SetParent h p) is = absurd cc
rate_cuts (call.GetParent h) is = absurd cc
rate_cuts (call.ExclusiveGet h) is = absurd cc
rate_cuts (call.ExclusivePut h) is = absurd cc
rate_cuts (call.NotifierAdd h id priority policy) is = absurd cc
rate_cuts (call.NotifierRemove h id) is = absurd cc
rate_cuts (call.Probe c) is = absurd cc
rate_cuts call.Sweep is = absurd cc

pub parent_cuts : (what : Sleeping) → sets_parent what ≡ true → CutsAt what
parent_cuts (call.SetParent h p) is = at_end (λ ms. refl)
parent_cuts (call.SetRate h x) is = absurd cc
parent_cuts (call.SetRateExclusive h x) is = absurd cc
parent_cuts (call.SetRange h least most) is = absurd cc
parent_cuts (call.Get found) is = absurd cc
parent_cuts (call.Put h) is = absurd cc
parent_cuts (call.Prepare h) is = absurd cc
parent_cuts (call.Unprepare h) is = absurd cc
parent_cuts (call.GetRate h) is = absurd cc
parent_cuts (call.RoundRate h x) is = absurd cc
parent_cuts (call.GetParent h) is = absurd cc
parent_cuts (call.ExclusiveGet h) is = absurd cc
parent_cuts (call.ExclusivePut h) is = absurd cc
parent_cuts (call.NotifierAdd h id priority policy) is = absurd cc
parent_cuts (call.NotifierRemove h id) is = absurd cc
parent_cuts (call.Probe c) is = absurd cc
parent_cuts call.Sweep is = absurd cc

pub no_prepare : (test : Sleeping → Bool) (what : Sleeping) → test what ≡ true → ((h : Handle) → test (call.Prepare h) ≡ false) → (timed : Bool) (cover : List ℕ) (a : Scene) → EndsPrepare what timed cover a
no_prepare test what is off timed cover a h e = let no : false ≡ true = sym (off h) ∙ ap test (sym e) ∙ is in absurd cc

-- the clock of a handle is rooted
pub handle_rooted : (s : State) (number : ℕ) (row : HandleRow) → IsFit None s → handle_at s.handles number ≡ Some row → IsRooted s.defs s.clocks row.clock.0
handle_rooted s number row fit at = let is = fit.sound.tree.rooted number row.clock.0 (ap (option_map (λ r. r.clock.0)) at) in record { there = is.0; root = is.1 }

-- a prepare
pub raise_goes : (q : State) (what : Sleeping) (h : Handle) (row : HandleRow) → Resting q → what ≡ call.Prepare h → handle_at q.handles h.number ≡ Some row
    → GoesWell q.defs what false [] (scene None q) (micro.Raise row.clock ∷ micro.End ∷ [])
raise_goes q what h row rest is at =
    raises row.clock rest.fit.sound (ends rest.fit.sound (record { prepares = rest.prepares; enables = rest.enables; late = refl }) (refl, (h, is)) prepared_)
    (subst (λ (w : Sleeping). GoesWell q.defs what true [] (scene None q) (cut_short w (micro.End ∷ []))) (sym is)
    (ends rest.fit.sound (record { prepares = rest.prepares; enables = rest.enables; late = refl }) tt (λ g e. inl refl))) where
      prepared_ : EndsPrepare what false (row.clock.0 ∷ []) (scene None q)
      prepared_ g e =
          let both : call.Prepare h ≡ call.Prepare g = sym is ∙ e in
          let same : h ≡ g = cc in
          inr (row.clock.0, refl, (handle_rooted q h.number row rest.fit at).there, ap (λ (x : Handle). option_map (λ r. r.clock.0) (handle_at q.handles x.number)) (sym same) ∙ ap (option_map (λ r. r.clock.0)) at)

-- a handle with one prepare less
pub fit_less : (q : State) (number : ℕ) (row : HandleRow) → Resting q → handle_at q.handles number ≡ Some row → keeps_prepare row ≡ false
    → IsFit None (put_handle q number (Some (record row { prepares = row.prepares - 1 })))
fit_less q number row rest at gives_up =
    let new : HandleRow = record row { prepares = row.prepares - 1 } in
    let parts = not_either (nat_eq row.prepares 0) (nat_eq row.prepares 1 && nat_lt 0 row.enables) gives_up in
    fit_counted q number row new rest.fit rest.enables at refl (λ on. more row.prepares row.enables parts.0 parts.1 on)
    (λ c prep. rest.fit.powers c (prepared_less q number row new c at refl (some row.prepares parts.0) prep)) where
      some : (n : ℕ) → nat_eq n 0 ≡ false → 0 < n
      some n e = grind (arith, nat_tests)

      more : (n m : ℕ) → nat_eq n 0 ≡ false → (nat_eq n 1 && nat_lt 0 m) ≡ false → 0 < m → 0 < n - 1
      more n m e f on = by_one (nat_eq n 1) refl f where
        by_one : (t : Bool) → nat_eq n 1 ≡ t → (t && nat_lt 0 m) ≡ false → 0 < n - 1
        by_one true is g = grind (arith, nat_tests)
        by_one false other g = grind (arith, nat_tests)

-- a state over which a change of rates is planned
pub planned_over : (q n : State) → Resting q → IsPlannedOver q n → Resting n × (n.defs ≡ q.defs) × (n.regs ≡ q.regs)
planned_over q n rest over_itself = (rest, refl, refl)
planned_over q n rest (over_range number old new adjusted) = (
  record {
    fit = fit_alike None q (put_handle q number (Some new)) rest.fit (alike_put q number old new adjusted.at adjusted.clock adjusted.prepares adjusted.enables) rest.fit.wired;
    prepares = rest.prepares;
    enables = rest.enables;
    keeps = record { ends = rest.keeps.ends; links = rest.keeps.links; order = rest.keeps.order; will = rest.keeps.will };
  },
  refl,
  refl,
)
