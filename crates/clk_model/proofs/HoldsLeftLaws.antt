-- Laws on what calls hold: calls that are no registrations leave no hold behind, and so do runs of them.
use Rattle.std.proofs.Common.{◌≡◌, ℕ, ◌&&◌, Bool, true, false, List, [], ◌∷◌, Option, Some, None, refl, sym, ap, subst, ◌∙◌, nat_eq, nat_lt, ◌+◌, inl}
use Rattle.std.specs.Prelude.{is_some}
use Rattle.std.specs.List.{AllByRecursion, list_any}
use Rattle.std.specs.Option.{option_map_or}
use Rattle.clk_base.specs.Description.{kind_of, parents_of}
use Rattle.clk_base.specs.Levels.{depth}
use Rattle.clk_base.specs.declared.call.Micro.{Micro}
use Rattle.clk_base.specs.declared.call.Sleeping.{Sleeping}
use Rattle.clk_base.specs.declared.call.Sleeping.TheVariants as call
use Rattle.clk_base.specs.declared.event.Errno.TheVariants as errno
use Rattle.clk_base.specs.declared.event.Event.TheVariants as event
use Rattle.clk_base.specs.declared.event.Turn.{Turn}
use Rattle.clk_base.specs.declared.event.Turn.TheVariants as turn
use Rattle.clk_base.proofs.Valid.{lines_end}
use Rattle.clk_model.specs.declared.row.HandleRow.{HandleRow}
use Rattle.clk_model.specs.Lists.{is_in, none_twice}
use Rattle.clk_model.specs.Walk.{walk}
use Rattle.clk_base.specs.declared.call.Micro.TheVariants as micro
use Rattle.clk_model.specs.Script.{planned}
use Rattle.clk_model.specs.Kinds.{mux_field}
use Rattle.clk_model.specs.State.{State, Change, ChainStep}
use Rattle.clk_model.specs.Tree.{rooted}
use Rattle.clk_model.specs.Round.{Wiring, wiring}
use Rattle.clk_model.specs.Chain.{chain}
use Rattle.clk_model.specs.Views.{lift, view}
use Rattle.clk_model.specs.Machine.{next}
use Rattle.clk_model.specs.Begin.{change_along, starts, refused, most_credits, weight_of, pick, request, request_between, put_handle, held_once_more, own_handle, with_handle, reparenting, parent_set, begun}
use Rattle.clk_model.specs.Laws.Flight.{script}
use Rattle.clk_model.specs.Laws.Plans.{HasParent, LeadsFrom}
use Rattle.clk_model.specs.Script.{sweep_script}
use Rattle.clk_model.specs.Gates.{settled}
use Rattle.clk_model.specs.Laws.LinksKept.{KeepsLinks}
use Rattle.clk_model.proofs.Members.{both_left, both_right, same_from_test}
use Rattle.clk_model.proofs.BeginLaws.{plans, HasScript, raised_alone, lowered_alone, by_rate, by_parent, by_registration, by_sweep, IsBegun, begun_going}
use Rattle.clk_model.proofs.FlightLaws.{begin_is}
use Rattle.clk_model.proofs.PlanLaws.{chains_lead, not_above_parent}
use Rattle.clk_model.proofs.WalkLaws.{walks_list}
use Rattle.clk_model.proofs.HoldSteps.{relinks}
use Rattle.clk_model.proofs.LinkBegins.{keeps_register}
use Rattle.clk_model.proofs.AdoptOnceLaws.{probe_once}
use Rattle.clk_model.proofs.BalancedScripts.{relinks_once}
use Rattle.clk_model.proofs.BalanceLaws.{none_below_itself, once_none, IsPlain, planned_once, sweep_relinks_none}
use Rattle.clk_model.specs.Wired.{IsWired, IsOrder}

-- ---- plans

parents_apart : (words : ℕ) (w : Wiring) (ks : List ChainStep) → IsWired words w → AllByRecursion (HasParent w) ks → none_below_itself ks
parents_apart words w [] wired has = tt
parents_apart words w (k ∷ ks) wired has = ((λ p up. apart p up (nat_eq k.clock p) refl), parents_apart words w ks wired has.1) where
  apart : (p : ℕ) → k.parent ≡ Some p → (t : Bool) → nat_eq k.clock p ≡ t → t ≡ false
  apart p up false e = refl
  apart p up true e =
      absurd (not_above_parent (parents_of w.defs) depth k.clock p (lines_end words w.defs wired.valid k.clock) (has.0.possible p up) (inl (same_from_test k.clock p e)))

-- a chain that leads upwards is plain
plain_of : (words : ℕ) (q : State) (c : ℕ) (ks : List ChainStep) → IsWired words (wiring q) → IsOrder q.order q.clocks → LeadsFrom (wiring q) c ks → IsPlain q ks
plain_of words q c ks wired ordered leads = record {
  parents = parents_apart words (wiring q) ks wired leads.parents;
  clocks = leads.once;
  walked = (walks_list words q.order (wiring q) c ks wired ordered leads).0.once;
}

-- ---- beginnings

-- where a call goes on, its chain leads upwards
record Leads (w : Wiring) (r : State × Turn) : Type 0 where
  chain : (k : Change) → r.0.change ≡ Some k → (c : ℕ) × LeadsFrom w c k.chain

leads_none : (w : Wiring) (r : State × Turn) → r.0.change ≡ None → Leads w r
leads_none w r none = record { chain = λ k at. let no : None ≡ Some k = sym none ∙ at in absurd cc }

leads_pick : (w : Wiring) (b : Bool) (f g : Unit {0} → State × Turn) → (b ≡ true → Leads w (f tt)) → Leads w (g tt) → Leads w (pick b f g)
unfolding pick
leads_pick w true f g x y = x refl
leads_pick w false f g x y = y

leads_handle : (w : Wiring) (s : State) (d n : ℕ) (f : HandleRow → State × Turn) → s.change ≡ None → ((h : HandleRow) → Leads w (f h)) → Leads w (with_handle s d n f)
leads_handle w s d n f none each = one (own_handle s d n) where
  one : (o : Option HandleRow) → Leads w (option_map_or f o (refused s errno.ENOENT))
  one None = leads_none w (refused s errno.ENOENT) none
  one (Some h) = each h

leads_starts : (w : Wiring) (old new : State) (k : Change) (c : ℕ) → old.change ≡ None → LeadsFrom w c k.chain → Leads w (starts old new k)
leads_starts w old new k c none leads =
    leads_pick w (nat_lt most_credits (new.credits + new.steps + weight_of new k)) (λ t. refused old errno.ENOSPC) (λ t. (record new { change = Some k }, turn.Going))
    (λ e. leads_none w (refused old errno.ENOSPC) none)
    (record { chain = λ l at. let same : k ≡ l = cc in (c, subst (λ (j : Change). LeadsFrom w c j.chain) same leads) })

leads_request : (words : ℕ) (old new fine lifted : State) (d : ℕ) (what : Sleeping) (c x : ℕ) (range : Option (ℕ × ℕ)) → IsWired words (wiring new)
    → old.change ≡ None → fine.change ≡ None → Leads (wiring new) (request old new fine lifted d what c x range)
leads_request words old new fine lifted d what c x range wired none fine_none =
    leads_pick (wiring new) _ _ _ (λ e. leads_none (wiring new) _ fine_none)
    (leads_pick (wiring new) _ _ _ (λ e. leads_none (wiring new) _ none) (one (chain (wiring new) (view lifted) c x) refl)) where
      one : (o : Option (List ChainStep)) → chain (wiring new) (view lifted) c x ≡ o
          → Leads (wiring new) (option_map_or (λ ks. starts old new (change_along new d what ks [] range)) o (refused old errno.EINVAL))
      one None e = leads_none (wiring new) _ none
      one (Some ks) e =
          leads_starts (wiring new) old new (change_along new d what ks [] range) c none
          (chains_lead (wiring new) (view lifted) c x ks (λ c'. lines_end words new.defs wired.valid c') wired.links e).leads

leads_parent : (s lifted : State) (d : ℕ) (what : Sleeping) (c p : ℕ) → s.change ≡ None → Leads (wiring s) (parent_set s lifted d what c p)
leads_parent s lifted d what c p none =
    leads_pick (wiring s) _ _ _ (λ e. leads_none (wiring s) _ none)
    (leads_pick (wiring s) _ _ _ (λ e. leads_none (wiring s) _ none)
    (leads_pick (wiring s) _ _ _ (λ e. leads_none (wiring s) _ none)
    (leads_pick (wiring s) (is_some (mux_field (kind_of s.defs c)) && is_in p (parents_of s.defs c) && rooted s.defs s.clocks p) _ _
    (λ e. leads_starts (wiring s) s s (reparenting s d what c p) c none
    (record { first = refl; leads = tt; parents = (record { possible = λ q at. moved q at e; none = λ at. absurd cc }, tt); once = refl }))
    (leads_none (wiring s) _ none)))) where
      moved : (q : ℕ) → Some p ≡ Some q → (is_some (mux_field (kind_of s.defs c)) && is_in p (parents_of s.defs c) && rooted s.defs s.clocks p) ≡ true
          → is_in q (parents_of s.defs c) ≡ true
      moved q at e =
          let same : p ≡ q = cc in
          ap (λ (x : ℕ). is_in x (parents_of s.defs c)) (sym same)
          ∙ both_right (is_some (mux_field (kind_of s.defs c))) (is_in p (parents_of s.defs c))
          (both_left (is_some (mux_field (kind_of s.defs c)) && is_in p (parents_of s.defs c)) (rooted s.defs s.clocks p) e)

-- a call with a plan
call_leads : (words : ℕ) (q : State) (d : ℕ) (what : Sleeping) → IsWired words (wiring q) → q.change ≡ None → plans what ≡ true → Leads (wiring q) (begun q d what)
unfolding begun
call_leads words q d (call.SetRate h x) wired none is =
    leads_handle (wiring q) q d h.number _ none (λ row. leads_request words q q q (lift q h.number) d (call.SetRate h x) row.clock.0 x None wired none none)
call_leads words q d (call.SetRateExclusive h x) wired none is =
    leads_handle (wiring q) q d h.number _ none (λ row. leads_request words q q (held_once_more q h.number row) q d (call.SetRateExclusive h x) row.clock.0 x None wired none none)
call_leads words q d (call.SetRange h least most) wired none is =
    leads_handle (wiring q) q d h.number _ none (λ row.
    let new : State = put_handle q h.number (Some (record row { min = least; max = most })) in
    leads_pick (wiring q) _ _ _ (λ e. leads_none (wiring q) _ none)
    (leads_request words q new new (lift new h.number) d (call.SetRange h least most) row.clock.0 (request_between q.clocks row.clock.0 least most) (Some (row.min, row.max)) wired none none))
call_leads words q d (call.SetParent h p) wired none is =
    leads_handle (wiring q) q d h.number _ none (λ row. leads_parent q (lift q h.number) d (call.SetParent h p) row.clock.0 p.0 none)
call_leads words q d (call.Get found) wired none is = absurd cc
call_leads words q d (call.Put h) wired none is = absurd cc
call_leads words q d (call.Prepare h) wired none is = absurd cc
call_leads words q d (call.Unprepare h) wired none is = absurd cc
call_leads words q d (call.GetRate h) wired none is = absurd cc
call_leads words q d (call.RoundRate h x) wired none is = absurd cc
call_leads words q d (call.GetParent h) wired none is = absurd cc
call_leads words q d (call.ExclusiveGet h) wired none is = absurd cc
call_leads words q d (call.ExclusivePut h) wired none is = absurd cc
call_leads words q d (call.NotifierAdd h id priority policy) wired none is = absurd cc
call_leads words q d (call.NotifierRemove h id) wired none is = absurd cc
call_leads words q d (call.Probe c) wired none is = absurd cc
call_leads words q d call.Sweep wired none is = absurd cc

-- ---- the laws

-- no script relinks a clock twice
pub script_once : (words : ℕ) (q s : State) (d : ℕ) (what : Sleeping) → IsWired words (wiring q) → KeepsLinks q → next q d (event.Begin what) ≡ Some (s, turn.Going) → relinks_once (script q d what)
script_once words q s d what wired keeps step =
    subst (λ (ms : List Micro). relinks_once ms) (sym (ap (λ (o : Option Change). option_map_or (λ j. j.left) o []) changed)) (by_script going.3.has) where
      start : (q.change ≡ None) × (record (settled q (begun q d what).0) { spent = q.spent + 1 } ≡ s) × ((begun q d what).1 ≡ turn.Going)
      start = begin_is q s d what turn.Going step

      going : (n : State) × (k : Change) × ((begun q d what).0 ≡ record n { change = Some k }) × IsBegun q d what n k
      going = (begun_going q d what).from start.2

      n : State
      n = going.0

      k : Change
      k = going.1

      changed : (begun q d what).0.change ≡ Some k
      changed = ap (λ (u : State). u.change) going.2

      by_plan : plans k.call ≡ true → (settles : List Micro) → n.order ≡ q.order → wiring n ≡ wiring q → ((c : ℕ) → list_any (relinks c) settles ≡ false) → relinks_once (planned n k.chain settles).steps
      by_plan is settles order tree calm =
          let e = ap plans (sym going.3.call) ∙ is in
          let leads = (call_leads words q d what wired start.0 e).chain k changed in
          let plain = plain_of words q leads.0 k.chain wired keeps.order leads.1 in
          planned_once n k.chain settles plain.clocks
          (subst (λ (w : Wiring). none_twice (walk n.order w k.chain) ≡ true) (sym tree) (subst (λ (cs : List ℕ). none_twice (walk cs (wiring q) k.chain) ≡ true) (sym order) plain.walked)) calm

      by_script : HasScript q n k → relinks_once k.left
      by_script (raised_alone x is) = subst (λ (ms : List Micro). relinks_once ms) (sym is) ((λ c e. absurd cc), ((λ c e. absurd cc), tt))
      by_script (lowered_alone x is) = subst (λ (ms : List Micro). relinks_once ms) (sym is) ((λ c e. absurd cc), ((λ c e. absurd cc), tt))
      by_script (by_rate is steps order tree) = subst (λ (ms : List Micro). relinks_once ms) (sym steps) (by_plan is [] order tree (λ c. refl))
      by_script (by_parent is c steps order tree) = subst (λ (ms : List Micro). relinks_once ms) (sym steps) (by_plan is (micro.Settle c ∷ []) order tree (λ d. refl))
      by_script (by_registration c probe is) = subst (λ (ms : List Micro). relinks_once ms) (sym is) (probe_once words q c wired (keeps_register q c.0 keeps).order)
      by_script (by_sweep is) = subst (λ (ms : List Micro). relinks_once ms) (sym is) (once_none (sweep_script q) (sweep_relinks_none q))
