-- How each call begins: what goes on names clocks of the description, and so does what is answered.
use Rattle.std.proofs.Common.{◌≡◌, ℕ, ◌-◌, ◌<◌, true, List, [], ◌∷◌, Option, Some, None, refl, sym, subst}
use Rattle.std.specs.Option.{option_map}
use Rattle.clk_base.specs.declared.call.Micro.{Micro}
use Rattle.clk_base.specs.declared.call.Micro.TheVariants as micro
use Rattle.clk_base.specs.declared.call.Sleeping.{Sleeping}
use Rattle.clk_base.specs.declared.call.Sleeping.TheVariants as call
use Rattle.clk_base.specs.declared.event.Errno.TheVariants as errno
use Rattle.clk_base.specs.declared.event.Reply.TheVariants as reply
use Rattle.clk_base.specs.declared.event.Turn.{Turn}
use Rattle.clk_base.specs.declared.event.Turn.TheVariants as turn
use Rattle.clk_base.specs.Description.{parents_of}
use Rattle.clk_model.specs.declared.row.HandleRow.{HandleRow}
use Rattle.clk_model.specs.Lists.{is_in}
use Rattle.clk_model.specs.State.{State, Change, ChainStep, link_in, handle_at}
use Rattle.clk_model.specs.Round.{wiring, rate_in, round_rate}
use Rattle.clk_model.specs.Chain.{clock_id, chain, outcome}
use Rattle.clk_model.specs.Script.{planned, probe_script, sweep_script}
use Rattle.clk_model.specs.Views.{view, lift}
use Rattle.clk_model.specs.Begin.{done, refused, starts, change_of, change_along, put_handle, with_handle, got, request, held_once_more, request_between, reparenting, register, begun}
use Rattle.clk_model.specs.Laws.LinksKept.{KeepsLinks}
use Rattle.clk_model.proofs.Cases.{by_found, by_plan}
use Rattle.clk_model.proofs.TierLaws.{pick_either, with_handle_either}
use Rattle.clk_model.proofs.PlanLaws.{chains_lead}
use Rattle.clk_model.proofs.LinkBegins.{keeps_register, register_defs}
use Rattle.clk_model.proofs.BeginsLaws.{IsPlannedOver, over_itself, over_range, Starts, raising_handle, lowering_handle, planning, reparents, probing, sweeping, Begins, answers, gives, takes, adjusts, prepares, unprepares, notes, registers, goes_on}
use Rattle.clk_journal.specs.Sized.{clocks_in_call, clocks_in_turn}
use Rattle.clk_journal.proofs.PlacedClocks.{ArePlaced, AreNamed, StepsName, none_placed}
use Rattle.clk_journal.proofs.PlacedScripts.{IsTree, IsPlacedChain, chain_placed, changing_placed, planned_names, probe_names, sweep_names}
use Rattle.clk_journal.proofs.PlacedSteps.{IsPlacedChange, IsPlacedFlight, front_placed}

-- what a call comes to: its order lists clocks of the description, and its answer names such
abbrev pub IsPlacedAnswer : ℕ → State × Turn → Type 0
IsPlacedAnswer n x = ArePlaced n x.0.order × AreNamed n (clocks_in_turn x.1)

-- ---- what is answered

module _ (n : ℕ) (s : State) (tree : IsTree n s) where
  starts_placed : (new : State) (k : Change) → new.order ≡ s.order → IsPlacedAnswer n (starts s new k)
  starts_placed new k same = pick_either (IsPlacedAnswer n) _ _ _ (λ e. (tree.order, tt)) (λ e. (subst (ArePlaced n) (sym same) tree.order, tt))

  request_placed : (new fine lifted : State) (d : ℕ) (what : Sleeping) (c x : ℕ) (range : Option (ℕ × ℕ)) → new.order ≡ s.order → fine.order ≡ s.order
      → IsPlacedAnswer n (request s new fine lifted d what c x range)
  request_placed new fine lifted d what c x range same well =
      pick_either (IsPlacedAnswer n) _ _ _ (λ e. (subst (ArePlaced n) (sym well) tree.order, tt))
      (λ e. pick_either (IsPlacedAnswer n) _ _ _ (λ e. (tree.order, tt))
      (λ e. by_plan (IsPlacedAnswer n) (chain (wiring new) (view lifted) c x) (λ ks. starts s new (change_along new d what ks [] range)) (refused s errno.EINVAL)
      (tree.order, tt) (λ ks. starts_placed new (change_along new d what ks [] range) same)))

  on_handle : (d number : ℕ) (f : HandleRow → State × Turn) → ((row : HandleRow) → IsPlacedAnswer n (f row)) → IsPlacedAnswer n (with_handle s d number f)
  on_handle d number f each = with_handle_either (IsPlacedAnswer n) s d number f (tree.order, tt) (λ row own. each row)

  got_placed : (d : ℕ) (found : Option ℕ) → IsPlacedAnswer n (got s d found)
  got_placed d None = (tree.order, tt)
  got_placed d (Some c) = pick_either (IsPlacedAnswer n) _ _ _ (λ e. (tree.order, tt)) (λ e. (tree.order, tt))

  parent_named : (c : ℕ) → AreNamed n (clocks_in_turn (turn.Done (reply.Clock (option_map clock_id (link_in s.clocks c)))))
  parent_named c = by (link_in s.clocks c) refl where
    by : (o : Option ℕ) → link_in s.clocks c ≡ o → AreNamed n (clocks_in_turn (turn.Done (reply.Clock (option_map clock_id o))))
    by None at = tt
    by (Some p) at = (tree.links c p at, tt)

  registered_placed : (c : ℕ) → c < n → ArePlaced n (register s c).order
  unfolding register
  registered_placed c low = front_placed n c s.order low tree.order

  pub call_placed : (d : ℕ) (what : Sleeping) → AreNamed n (clocks_in_call what) → IsPlacedAnswer n (begun s d what)
  unfolding begun
  call_placed d (call.Get found) named = got_placed d _
  call_placed d (call.Put h) named = on_handle d h.number _ (λ row. pick_either (IsPlacedAnswer n) _ _ _ (λ e. (tree.order, tt)) (λ e. (tree.order, tt)))
  call_placed d (call.Prepare h) named = on_handle d h.number _ (λ row. pick_either (IsPlacedAnswer n) _ _ _ (λ e. (tree.order, tt))
      (λ e. starts_placed s (change_of s d (call.Prepare h) (micro.Raise row.clock ∷ micro.End ∷ [])) refl))
  call_placed d (call.Unprepare h) named = on_handle d h.number _ (λ row.
      let less : State = put_handle s h.number (Some (record row { prepares = row.prepares - 1 })) in
      pick_either (IsPlacedAnswer n) _ _ _ (λ e. (tree.order, tt))
      (λ e. pick_either (IsPlacedAnswer n) _ _ _ (λ e. (tree.order, tt)) (λ e. starts_placed less (change_of less d (call.Unprepare h) (micro.Lower row.clock ∷ micro.End ∷ [])) refl)))
  call_placed d (call.GetRate h) named = on_handle d h.number _ (λ row. (tree.order, tt))
  call_placed d (call.RoundRate h x) named = on_handle d h.number _ (λ row.
      by_found (IsPlacedAnswer n) (round_rate (wiring s) (view (lift s h.number)) row.clock.0 x) (λ r. done s (reply.Rate r)) (refused s errno.EINVAL) (tree.order, tt) (λ r. (tree.order, tt)))
  call_placed d (call.SetRate h x) named = on_handle d h.number _ (λ row. request_placed s s (lift s h.number) d (call.SetRate h x) row.clock.0 x None refl refl)
  call_placed d (call.SetRateExclusive h x) named = on_handle d h.number _ (λ row. request_placed s (held_once_more s h.number row) s d (call.SetRateExclusive h x) row.clock.0 x None refl refl)
  call_placed d (call.SetRange h least most) named = on_handle d h.number _ (λ row.
      let new : State = put_handle s h.number (Some (record row { min = least; max = most })) in
      pick_either (IsPlacedAnswer n) _ _ _ (λ e. (tree.order, tt))
      (λ e. request_placed new new (lift new h.number) d (call.SetRange h least most) row.clock.0 (request_between s.clocks row.clock.0 least most) (Some (row.min, row.max)) refl refl))
  call_placed d (call.SetParent h p) named = on_handle d h.number _ (λ row.
      pick_either (IsPlacedAnswer n) _ _ _ (λ e. (tree.order, tt))
      (λ e. pick_either (IsPlacedAnswer n) _ _ _ (λ e. (tree.order, tt))
      (λ e. pick_either (IsPlacedAnswer n) _ _ _ (λ e. (tree.order, tt))
      (λ e. pick_either (IsPlacedAnswer n) _ _ _ (λ e. starts_placed s (reparenting s d (call.SetParent h p) row.clock.0 p.0) refl) (λ e. (tree.order, tt))))))
  call_placed d (call.GetParent h) named = on_handle d h.number _ (λ row. (tree.order, parent_named row.clock.0))
  call_placed d (call.ExclusiveGet h) named = on_handle d h.number _ (λ row. (tree.order, tt))
  call_placed d (call.ExclusivePut h) named = on_handle d h.number _ (λ row. pick_either (IsPlacedAnswer n) _ _ _ (λ e. (tree.order, tt)) (λ e. (tree.order, tt)))
  call_placed d (call.NotifierAdd h id priority policy) named = on_handle d h.number _ (λ row.
      pick_either (IsPlacedAnswer n) _ _ _ (λ e. (tree.order, tt)) (λ e. pick_either (IsPlacedAnswer n) _ _ _ (λ e. (tree.order, tt)) (λ e. (tree.order, tt))))
  call_placed d (call.NotifierRemove h id) named = on_handle d h.number _ (λ row. pick_either (IsPlacedAnswer n) _ _ _ (λ e. (tree.order, tt)) (λ e. (tree.order, tt)))
  call_placed d (call.Probe c) named =
      pick_either (IsPlacedAnswer n) _ _ _ (λ e. (tree.order, tt))
      (λ e. pick_either (IsPlacedAnswer n) _ _ _ (λ e. (registered_placed c.0 named.0, tt))
      (λ e. starts_placed s (change_of s d (call.Probe c) (probe_script (register s c.0) c.0)) refl))
  call_placed d call.Sweep named = pick_either (IsPlacedAnswer n) _ _ _ (λ e. (tree.order, tt)) (λ e. starts_placed s (change_of s d call.Sweep (sweep_script s)) refl)

-- ---- what goes on

-- a change whose script is this
fresh_placed : (n : ℕ) (s : State) (d : ℕ) (what : Sleeping) (ms : List Micro) → StepsName n ms → IsPlacedChange n (change_of s d what ms)
fresh_placed n s d what ms named = record { front = tt; left = named; raised = none_placed n; changing = none_placed n }

planned_changing : (n : ℕ) (s : State) (ks : List ChainStep) (settles : List Micro) → IsTree n s → IsPlacedChain n ks → ArePlaced n (planned s ks settles).changing
unfolding planned
planned_changing n s ks settles tree chain = changing_placed n s tree ks chain

along_placed : (n : ℕ) (s : State) (d : ℕ) (what : Sleeping) (ks : List ChainStep) (settles : List Micro) (range : Option (ℕ × ℕ)) → IsTree n s → IsPlacedChain n ks → StepsName n settles
    → IsPlacedChange n (change_along s d what ks settles range)
along_placed n s d what ks settles range tree chain ending =
    record { front = tt; left = planned_names n s tree ks settles chain ending; raised = none_placed n; changing = planned_changing n s ks settles tree chain }

-- the tree after a registration
register_tree : (n : ℕ) (s : State) (c : ℕ) → KeepsLinks s → IsTree n s → c < n → IsTree n (register s c)
register_tree n s c keeps tree low = record {
  links = λ d p at. parents d p ((keeps_register s c keeps).links d p at);
  parents = parents;
  order = registered_placed n s tree c low;
} where
  parents : (d p : ℕ) → is_in p (parents_of (register s c).defs d) ≡ true → p < n
  parents d p m = tree.parents d p (subst (λ (defs : _). is_in p (parents_of defs d) ≡ true) (register_defs s c) m)

-- a state over which a change is planned has the same tree
record IsOver (n : ℕ) (s m : State) : Type 0 where
  tree : IsTree n m
  keeps : KeepsLinks m

over_placed : (n : ℕ) (s m : State) → KeepsLinks s → IsTree n s → IsPlannedOver s m → IsOver n s m
over_placed n s m keeps tree over_itself = record { tree = tree; keeps = keeps }
over_placed n s m keeps tree (over_range number old new adjusted) = record {
  tree = record { links = tree.links; parents = tree.parents; order = tree.order };
  keeps = record { ends = keeps.ends; links = keeps.links; order = keeps.order; will = keeps.will };
}

module _ (n : ℕ) (s : State) (d : ℕ) (what : Sleeping) (keeps : KeepsLinks s) (tree : IsTree n s) (handled : (i : ℕ) (h : HandleRow) → handle_at s.handles i ≡ Some h → h.clock.0 < n) where
  change_placed : (m : State) (k : Change) → AreNamed n (clocks_in_call what) → Starts s d what m k → IsPlacedChange n k
  change_placed m k named (raising_handle h row is at) = fresh_placed n s d what (micro.Raise row.clock ∷ micro.End ∷ []) ((handled h.number row at, tt), (tt, tt))
  change_placed m k named (lowering_handle h row is at gives_up) = fresh_placed n s d what (micro.Lower row.clock ∷ micro.End ∷ []) ((handled h.number row at, tt), (tt, tt))
  change_placed m k named (planning _ number row over x ks range over_ at is rates) =
      let h = over_placed n s m keeps tree over_ in
      let leads = (chains_lead (wiring m) over row.clock.0 x ks h.keeps.ends h.keeps.links is).leads in
      along_placed n m d what ks [] range h.tree (chain_placed n (wiring m) row.clock.0 ks h.tree.parents (handled number row at) leads) tt
  change_placed m k named (reparents number row p sets at away mux possible root) =
      let c : ℕ = row.clock.0 in
      let low : c < n = handled number row at in
      let high : p < n = tree.parents c p possible in
      let rate : ℕ = rate_in (outcome (record { clock = c; rate = 0; parent = Some p } ∷ []) (wiring s)) c in
      let ks : List ChainStep = record { clock = c; rate = rate; parent = Some p } ∷ [] in
      let along = along_placed n s d what ks (micro.Settle (clock_id c) ∷ []) None tree
      (record { steps = ((low, λ q e. let same : p ≡ q = cc in subst (λ (x : ℕ). x < n) same high), tt); top = low }) ((low, tt), tt) in
      record { front = along.front; left = along.left; raised = along.raised; changing = along.changing }
  change_placed m k named (probing c is free) =
      let low : c.0 < n = (subst (λ (w : Sleeping). AreNamed n (clocks_in_call w)) is named).0 in
      fresh_placed n s d what (probe_script (register s c.0) c.0) (probe_names n (register s c.0) (register_tree n s c.0 keeps tree low) c.0 low)
  change_placed m k named (sweeping is) = fresh_placed n s d what (sweep_script s) (sweep_names n s tree)

  -- a call that is answered leaves no change in flight
  none_left : s.change ≡ None → IsPlacedFlight n s.change
  none_left quiet = subst (IsPlacedFlight n) (sym quiet) tt

  registers_none : (c : ℕ) → s.change ≡ None → IsPlacedFlight n (register s c).change
  unfolding register
  registers_none c quiet = none_left quiet

  pub flight_placed : (x : State × Turn) → s.change ≡ None → AreNamed n (clocks_in_call what) → Begins s d what x → IsPlacedFlight n x.0.change
  flight_placed x quiet named (answers r) = none_left quiet
  flight_placed x quiet named (gives c root) = none_left quiet
  flight_placed x quiet named (takes number row at idle) = none_left quiet
  flight_placed x quiet named (adjusts number old new r adjusted) = none_left quiet
  flight_placed x quiet named (prepares number row at calm) = none_left quiet
  flight_placed x quiet named (unprepares number row at gives_up) = none_left quiet
  flight_placed x quiet named (notes notifiers r) = none_left quiet
  flight_placed x quiet named (registers c free calm) = registers_none c quiet
  flight_placed x quiet named (goes_on m k starts_) = change_placed m k named starts_
