-- Laws on beginnings: each call leaves links that lead to possible parents, and begins with steps that link possible parents.
use Rattle.std.proofs.Common.{◌≡◌, ℕ, ◌+◌, ◌-◌, Bool, true, false, ◌&&◌, List, [], ◌∷◌, ◌++◌, Option, Some, None, refl, sym, ap, ◌∙◌, nat_lt}
use Rattle.std.specs.Prelude.{ℤ, is_some}
use Rattle.std.specs.List.{list_all}
use Rattle.std.specs.Option.{option_map, option_map_or}
use Rattle.clk_base.specs.declared.call.Micro.{Micro}
use Rattle.clk_base.specs.declared.call.Micro.TheVariants as micro
use Rattle.clk_base.specs.declared.call.Sleeping.{Sleeping}
use Rattle.clk_base.specs.declared.call.Sleeping.TheVariants as call
use Rattle.clk_base.specs.declared.event.Errno.TheVariants as errno
use Rattle.clk_base.specs.declared.event.Reply.TheVariants as reply
use Rattle.clk_base.specs.declared.event.Turn.{Turn}
use Rattle.clk_base.specs.declared.event.Turn.TheVariants as turn
use Rattle.clk_base.specs.declared.handle.Policy.{Policy}
use Rattle.clk_base.specs.Description.{kind_of, parents_of}
use Rattle.clk_model.specs.declared.row.HandleRow.{HandleRow}
use Rattle.clk_model.specs.Lists.{is_in}
use Rattle.clk_model.specs.Kinds.{mux_field}
use Rattle.clk_model.specs.State.{State, Change, ChainStep}
use Rattle.clk_model.specs.Tree.{rooted}
use Rattle.clk_model.specs.Round.{wiring, round_rate}
use Rattle.clk_model.specs.Chain.{clock_id, chain}
use Rattle.clk_model.specs.Script.{probe_script, sweep_script}
use Rattle.clk_model.specs.Views.{view, lift}
use Rattle.clk_model.specs.Begin.{put_handle, request_between, done, refused, pick, most_credits, weight_of, starts, change_of, change_along, own_handle, with_handle, got, put_back, prepare, unprepare, rounded, request, range_set, parent_set, reparenting, exclusive_put, held_once_more, notifier_added, notifier_removed, register, registered_rows, probed, swept, begun}
use Rattle.clk_model.specs.Machine.{enabled, disabled, running}
use Rattle.clk_model.specs.Laws.LinksKept.{links_possible, KeepsLinks}
use Rattle.clk_model.proofs.Members.{both_left, both_right}
use Rattle.clk_model.proofs.PlanLaws.{chains_lead}
use Rattle.clk_model.proofs.WholePathLaws.{given_others, registers_stay_possible}
use Rattle.clk_model.proofs.SiblingLaws.{order_front}
use Rattle.clk_model.proofs.LinkScripts.{AllLink, link_planned, link_probe, link_sweep}
use Rattle.clk_model.specs.Wired.{LinksArePossible, IsOrder}

-- what a call comes to keeps links
pub record Comes (r : State × Turn) : Type 0 where
  pub keeps : KeepsLinks r.0

pub comes_pick : (b : Bool) (f g : Unit {0} → State × Turn) → (b ≡ true → Comes (f tt)) → Comes (g tt) → Comes (pick b f g)
unfolding pick
comes_pick true f g x y = x refl
comes_pick false f g x y = y

-- a state with the change that begins in it
begun_with : (s : State) (k : Change) → KeepsLinks s → k.front ≡ [] → AllLink s.defs k.left → KeepsLinks (record s { change = Some k })
begun_with s k keeps front all = record {
  ends = keeps.ends;
  links = keeps.links;
  order = keeps.order;
  will = ap (λ (ms : List Micro). list_all (links_possible s.defs) (ms ++ k.left)) front ∙ all;
}

pub comes_starts : (old new : State) (k : Change) → KeepsLinks old → KeepsLinks new → k.front ≡ [] → AllLink new.defs k.left → Comes (starts old new k)
comes_starts old new k keeps keeps' front all =
    comes_pick (nat_lt most_credits (new.credits + new.steps + weight_of new k)) (λ t. refused old errno.ENOSPC) (λ t. (record new { change = Some k }, turn.Going))
    (λ e. record { keeps = keeps }) (record { keeps = begun_with new k keeps' front all })

pub comes_handle : (s : State) (d n : ℕ) (f : HandleRow → State × Turn) → KeepsLinks s → ((h : HandleRow) → Comes (f h)) → Comes (with_handle s d n f)
comes_handle s d n f keeps each = one (own_handle s d n) where
  one : (o : Option HandleRow) → Comes (option_map_or f o (refused s errno.ENOENT))
  one None = record { keeps = keeps }
  one (Some h) = each h

-- a handle more or less is no link
pub keeps_handle : (s : State) (n : ℕ) (h : Option HandleRow) → KeepsLinks s → KeepsLinks (put_handle s n h)
keeps_handle s n h keeps = record { ends = keeps.ends; links = keeps.links; order = keeps.order; will = keeps.will }

register_order : (s : State) (c : ℕ) → IsOrder s.order s.clocks → IsOrder (register s c).order (register s c).clocks
unfolding register
register_order s c is = order_front s.order s.clocks (registered_rows s.defs s.regs s.clocks c) c is (given_others s c)

-- a registration links a possible parent, and puts its clock into the order
pub register_tied : (s : State) (c : ℕ) → LinksArePossible s.defs s.clocks → IsOrder s.order s.clocks
    → LinksArePossible s.defs (register s c).clocks × IsOrder (register s c).order (register s c).clocks
register_tied s c links is = (registers_stay_possible s c links, register_order s c is)

register_keeps : (s : State) (c : ℕ) → LinksArePossible s.defs (register s c).clocks → IsOrder (register s c).order (register s c).clocks → KeepsLinks s → KeepsLinks (register s c)
unfolding register
register_keeps s c links is keeps = record { ends = keeps.ends; links = links; order = is; will = keeps.will }

pub keeps_register : (s : State) (c : ℕ) → KeepsLinks s → KeepsLinks (register s c)
keeps_register s c keeps = let tied = register_tied s c keeps.links keeps.order in register_keeps s c tied.0 tied.1 keeps

-- ---- calls

comes_got : (s : State) (d : ℕ) (found : Option ℕ) → KeepsLinks s → Comes (got s d found)
comes_got s d None keeps = record { keeps = keeps }
comes_got s d (Some c) keeps =
    comes_pick _ _ _ (λ e. record { keeps = record { ends = keeps.ends; links = keeps.links; order = keeps.order; will = keeps.will } }) (record { keeps = keeps })

comes_put : (s : State) (n : ℕ) (h : HandleRow) → KeepsLinks s → Comes (put_back s n h)
comes_put s n h keeps = comes_pick _ _ _ (λ e. record { keeps = keeps }) (record { keeps = keeps_handle s n None keeps })

comes_prepare : (s : State) (d : ℕ) (what : Sleeping) (n : ℕ) (h : HandleRow) → KeepsLinks s → Comes (prepare s d what n h)
comes_prepare s d what n h keeps =
    comes_pick _ _ _ (λ e. record { keeps = keeps_handle s n _ keeps })
    (comes_starts s s (change_of s d what (micro.Raise h.clock ∷ micro.End ∷ [])) keeps keeps refl refl)

comes_unprepare : (s : State) (d : ℕ) (what : Sleeping) (n : ℕ) (h : HandleRow) → KeepsLinks s → Comes (unprepare s d what n h)
comes_unprepare s d what n h keeps =
    comes_pick _ _ _ (λ e. record { keeps = keeps })
    (comes_pick _ _ _ (λ e. record { keeps = keeps_handle s n _ keeps })
    (comes_starts s (put_handle s n (Some (record h { prepares = h.prepares - 1 }))) (change_of s d what (micro.Lower h.clock ∷ micro.End ∷ [])) keeps (keeps_handle s n _ keeps) refl refl))

comes_rounded : (s : State) (n : ℕ) (h : HandleRow) (x : ℕ) → KeepsLinks s → Comes (rounded s n h x)
comes_rounded s n h x keeps = one (round_rate (wiring s) (view (lift s n)) h.clock.0 x) where
  one : (o : Option ℕ) → Comes (option_map_or (λ r. done s (reply.Rate r)) o (refused s errno.EINVAL))
  one None = record { keeps = keeps }
  one (Some r) = record { keeps = keeps }

comes_request : (old new fine lifted : State) (d : ℕ) (what : Sleeping) (c x : ℕ) (range : Option (ℕ × ℕ)) → KeepsLinks old → KeepsLinks new → KeepsLinks fine
    → Comes (request old new fine lifted d what c x range)
comes_request old new fine lifted d what c x range keeps keeps' well =
    comes_pick _ _ _ (λ e. record { keeps = well }) (comes_pick _ _ _ (λ e. record { keeps = keeps }) (one (chain (wiring new) (view lifted) c x) refl)) where
      one : (o : Option (List ChainStep)) → chain (wiring new) (view lifted) c x ≡ o
          → Comes (option_map_or (λ ks. starts old new (change_along new d what ks [] range)) o (refused old errno.EINVAL))
      one None e = record { keeps = keeps }
      one (Some ks) e =
          comes_starts old new (change_along new d what ks [] range) keeps keeps' refl
          (link_planned new ks [] (chains_lead (wiring new) (view lifted) c x ks keeps'.ends keeps'.links e).leads.parents refl)

comes_range : (s : State) (d : ℕ) (what : Sleeping) (n : ℕ) (h : HandleRow) (least most : ℕ) → KeepsLinks s → Comes (range_set s d what n h least most)
comes_range s d what n h least most keeps =
    let new : State = put_handle s n (Some (record h { min = least; max = most })) in
    let keeps' : KeepsLinks new = keeps_handle s n (Some (record h { min = least; max = most })) keeps in
    comes_pick _ _ _ (λ e. record { keeps = keeps })
    (comes_request s new new (lift new n) d what h.clock.0 (request_between s.clocks h.clock.0 least most) (Some (h.min, h.max)) keeps keeps' keeps')

comes_parent : (s lifted : State) (d : ℕ) (what : Sleeping) (c p : ℕ) → KeepsLinks s → Comes (parent_set s lifted d what c p)
comes_parent s lifted d what c p keeps =
    comes_pick _ _ _ (λ e. record { keeps = keeps })
    (comes_pick _ _ _ (λ e. record { keeps = keeps })
    (comes_pick _ _ _ (λ e. record { keeps = keeps })
    (comes_pick (is_some (mux_field (kind_of s.defs c)) && is_in p (parents_of s.defs c) && rooted s.defs s.clocks p) _ _ (λ e. comes_starts s s (reparenting s d what c p) keeps keeps refl
    (link_planned s _ (micro.Settle (clock_id c) ∷ [])
    (record { possible = λ q at. moved q at e; none = λ at. absurd cc }, tt) refl)) (record { keeps = keeps })))) where
      moved : (q : ℕ) → Some p ≡ Some q → (is_some (mux_field (kind_of s.defs c)) && is_in p (parents_of s.defs c) && rooted s.defs s.clocks p) ≡ true
          → is_in q (parents_of s.defs c) ≡ true
      moved q at e =
          let same : p ≡ q = cc in
          ap (λ (x : ℕ). is_in x (parents_of s.defs c)) (sym same)
          ∙ both_right (is_some (mux_field (kind_of s.defs c))) (is_in p (parents_of s.defs c))
          (both_left (is_some (mux_field (kind_of s.defs c)) && is_in p (parents_of s.defs c)) (rooted s.defs s.clocks p) e)

comes_exclusive : (s : State) (n : ℕ) (h : HandleRow) → KeepsLinks s → Comes (exclusive_put s n h)
comes_exclusive s n h keeps = comes_pick _ _ _ (λ e. record { keeps = keeps }) (record { keeps = keeps_handle s n _ keeps })

comes_added : (s : State) (c id : ℕ) (priority : ℤ) (policy : Policy) → KeepsLinks s → Comes (notifier_added s c id priority policy)
comes_added s c id priority policy keeps =
    comes_pick _ _ _ (λ e. record { keeps = keeps })
    (comes_pick _ _ _ (λ e. record { keeps = keeps }) (record { keeps = record { ends = keeps.ends; links = keeps.links; order = keeps.order; will = keeps.will } }))

comes_removed : (s : State) (c id : ℕ) → KeepsLinks s → Comes (notifier_removed s c id)
comes_removed s c id keeps =
    comes_pick _ _ _ (λ e. record { keeps = record { ends = keeps.ends; links = keeps.links; order = keeps.order; will = keeps.will } }) (record { keeps = keeps })

pub register_defs : (s : State) (c : ℕ) → (register s c).defs ≡ s.defs
unfolding register
register_defs s c = refl

comes_probed : (s : State) (d : ℕ) (what : Sleeping) (c : ℕ) → KeepsLinks s → Comes (probed s d what c)
comes_probed s d what c keeps =
    comes_pick _ _ _ (λ e. record { keeps = keeps })
    (comes_pick _ _ _ (λ e. record { keeps = keeps_register s c keeps })
    (comes_starts s s (change_of s d what (probe_script (register s c) c)) keeps keeps refl
    (ap (λ (defs : _). list_all (links_possible defs) (probe_script (register s c) c)) (sym (register_defs s c)) ∙ link_probe (register s c) c)))

comes_swept : (s : State) (d : ℕ) (what : Sleeping) → KeepsLinks s → Comes (swept s d what)
comes_swept s d what keeps =
    comes_pick _ _ _ (λ e. record { keeps = keeps }) (comes_starts s s (change_of s d what (sweep_script s)) keeps keeps refl (link_sweep s))

-- each call
pub comes_call : (s : State) (d : ℕ) (what : Sleeping) → KeepsLinks s → Comes (begun s d what)
unfolding begun
comes_call s d (call.Get found) keeps = comes_got s d (option_map (λ c. c.0) found) keeps
comes_call s d (call.Put h) keeps = comes_handle s d h.number (put_back s h.number) keeps (λ row. comes_put s h.number row keeps)
comes_call s d (call.Prepare h) keeps = comes_handle s d h.number (prepare s d (call.Prepare h) h.number) keeps (λ row. comes_prepare s d (call.Prepare h) h.number row keeps)
comes_call s d (call.Unprepare h) keeps = comes_handle s d h.number (unprepare s d (call.Unprepare h) h.number) keeps (λ row. comes_unprepare s d (call.Unprepare h) h.number row keeps)
comes_call s d (call.GetRate h) keeps = comes_handle s d h.number _ keeps (λ row. record { keeps = keeps })
comes_call s d (call.RoundRate h x) keeps = comes_handle s d h.number (λ row. rounded s h.number row x) keeps (λ row. comes_rounded s h.number row x keeps)
comes_call s d (call.SetRate h x) keeps =
    comes_handle s d h.number (λ row. request s s s (lift s h.number) d (call.SetRate h x) row.clock.0 x None) keeps
    (λ row. comes_request s s s (lift s h.number) d (call.SetRate h x) row.clock.0 x None keeps keeps keeps)
comes_call s d (call.SetRateExclusive h x) keeps =
    comes_handle s d h.number (λ row. request s s (held_once_more s h.number row) s d (call.SetRateExclusive h x) row.clock.0 x None) keeps
    (λ row. comes_request s s (held_once_more s h.number row) s d (call.SetRateExclusive h x) row.clock.0 x None keeps keeps (keeps_handle s h.number _ keeps))
comes_call s d (call.SetRange h least most) keeps =
    comes_handle s d h.number (λ row. range_set s d (call.SetRange h least most) h.number row least most) keeps
    (λ row. comes_range s d (call.SetRange h least most) h.number row least most keeps)
comes_call s d (call.SetParent h p) keeps =
    comes_handle s d h.number (λ row. parent_set s (lift s h.number) d (call.SetParent h p) row.clock.0 p.0) keeps
    (λ row. comes_parent s (lift s h.number) d (call.SetParent h p) row.clock.0 p.0 keeps)
comes_call s d (call.GetParent h) keeps = comes_handle s d h.number _ keeps (λ row. record { keeps = keeps })
comes_call s d (call.ExclusiveGet h) keeps = comes_handle s d h.number _ keeps (λ row. record { keeps = keeps_handle s h.number _ keeps })
comes_call s d (call.ExclusivePut h) keeps = comes_handle s d h.number (exclusive_put s h.number) keeps (λ row. comes_exclusive s h.number row keeps)
comes_call s d (call.NotifierAdd h id priority policy) keeps =
    comes_handle s d h.number (λ row. notifier_added s row.clock.0 id priority policy) keeps (λ row. comes_added s row.clock.0 id priority policy keeps)
comes_call s d (call.NotifierRemove h id) keeps = comes_handle s d h.number (λ row. notifier_removed s row.clock.0 id) keeps (λ row. comes_removed s row.clock.0 id keeps)
comes_call s d (call.Probe c) keeps = comes_probed s d (call.Probe c) c.0 keeps
comes_call s d call.Sweep keeps = comes_swept s d call.Sweep keeps

-- ---- the enable tier

comes_enabled : (s : State) (n : ℕ) (h : HandleRow) → KeepsLinks s → Comes (enabled s n h)
comes_enabled s n h keeps = comes_pick _ _ _ (λ e. record { keeps = keeps }) (record { keeps = keeps_handle s n _ keeps })

comes_disabled : (s : State) (n : ℕ) (h : HandleRow) → KeepsLinks s → Comes (disabled s n h)
comes_disabled s n h keeps = comes_pick _ _ _ (λ e. record { keeps = keeps }) (record { keeps = keeps_handle s n _ keeps })

pub comes_enable : (s : State) (d n : ℕ) → KeepsLinks s → Comes (with_handle s d n (enabled s n))
comes_enable s d n keeps = comes_handle s d n (enabled s n) keeps (λ h. comes_enabled s n h keeps)

pub comes_disable : (s : State) (d n : ℕ) → KeepsLinks s → Comes (with_handle s d n (disabled s n))
comes_disable s d n keeps = comes_handle s d n (disabled s n) keeps (λ h. comes_disabled s n h keeps)

pub comes_running : (s : State) (d n : ℕ) → KeepsLinks s → Comes (with_handle s d n (running s))
comes_running s d n keeps = comes_handle s d n (running s) keeps (λ h. record { keeps = keeps })
