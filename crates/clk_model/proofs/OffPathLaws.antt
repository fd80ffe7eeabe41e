-- Laws on beginnings and the path of a handle with an exclusive hold: a call that goes on and doesn't set the hold aside plans no change
-- of a clock on it.
use Rattle.std.proofs.Common.{◌≡◌, ℕ, zero, suc, ◌-◌, Bool, true, false, cond, map, set, List, [], ◌∷◌, Option, Some, None, refl, sym, ap, subst, ◌∙◌, length, nat_eq}
use Rattle.std.specs.Prelude.{filter, option_map}
use Rattle.std.specs.Option.{option_map_or}
use Rattle.std.proofs.lemmas.Option.{same_Some}
use Rattle.clk_base.specs.declared.call.Micro.TheVariants as micro
use Rattle.clk_base.specs.declared.call.Sleeping.{Sleeping}
use Rattle.clk_base.specs.declared.call.Sleeping.TheVariants as call
use Rattle.clk_base.specs.declared.event.Errno.TheVariants as errno
use Rattle.clk_base.specs.declared.event.Event.TheVariants as event
use Rattle.clk_base.specs.declared.event.Reply.{Reply}
use Rattle.clk_base.specs.declared.event.Reply.TheVariants as reply
use Rattle.clk_base.specs.declared.event.Turn.{Turn}
use Rattle.clk_base.specs.declared.event.Turn.TheVariants as turn
use Rattle.clk_base.specs.declared.handle.Handle.{Handle}
use Rattle.clk_base.specs.Valid.{IsValid}
use Rattle.clk_model.specs.declared.row.HandleRow.{HandleRow}
use Rattle.clk_model.specs.Lists.{is_in, present}
use Rattle.clk_model.specs.State.{State, Change, ChainStep, handle_at}
use Rattle.clk_model.specs.Tree.{path}
use Rattle.clk_model.specs.Holders.{clocks_of, is_exclusive, protect_holders, guarded}
use Rattle.clk_model.specs.Round.{wiring, round_rate}
use Rattle.clk_model.specs.Chain.{chain}
use Rattle.clk_model.specs.Views.{view, lift}
use Rattle.clk_model.specs.Script.{probe_script, sweep_script}
use Rattle.clk_model.specs.Begin.{done, refused, starts, change_of, change_along, put_handle, put_back, prepared_once_more, prepare, unprepare, got, given, rounded, request, held_once_more, range_set, request_between, reparenting, parent_set, exclusive_put, register, with_handle, begun}
use Rattle.clk_model.specs.Laws.Exclusive.{lifts}
use Rattle.clk_model.specs.Wired.{LinesEnd, LinksArePossible}
use Rattle.clk_model.proofs.Members.{is_in_head, is_in_tail, any_from_in, or_left, not_either, test_other}
use Rattle.clk_model.proofs.OnceLaws.{is_in-append}
use Rattle.clk_model.proofs.EventLaws.{own_is_live}
use Rattle.clk_model.proofs.TierLaws.{pick_either, with_handle_either}
use Rattle.clk_model.proofs.PlannedGoLaws.{all_both}
use Rattle.clk_model.proofs.GuardLaws.{guards_links, chain_unguarded}
use Rattle.clk_model.proofs.KeptPathLaws.{IsOff}

-- ---- handles

-- another place has the handle that it had
pub handle_at-set_other : (handles : List (Option HandleRow)) (n m : ℕ) (o : Option HandleRow) → (n ≡ m → ⊥) → handle_at (set handles n o) m ≡ handle_at handles m
handle_at-set_other [] n m o other = refl
handle_at-set_other (h ∷ handles) zero zero o other = absurd (other refl)
handle_at-set_other (h ∷ handles) zero (suc m) o other = refl
handle_at-set_other (h ∷ handles) (suc n) zero o other = refl
handle_at-set_other (h ∷ handles) (suc n) (suc m) o other = handle_at-set_other handles n m o (λ same. other (ap suc same))

-- the clock of a live handle that passes is one of those
pub clocks_of-in : (test : HandleRow → Bool) (handles : List (Option HandleRow)) (n : ℕ) (row : HandleRow) → handle_at handles n ≡ Some row → test row ≡ true → is_in row.clock.0 (clocks_of test handles) ≡ true
clocks_of-in test [] n row at passes = absurd cc
clocks_of-in test (None ∷ handles) zero row at passes = absurd cc
clocks_of-in test (None ∷ handles) (suc n) row at passes = clocks_of-in test handles n row at passes
clocks_of-in test (Some h ∷ handles) zero row at passes =
    let same : h ≡ row = cc in
    one (test h) (ap test same ∙ passes) (ap (λ (r : HandleRow). r.clock.0) same) where
      one : (t : Bool) → t ≡ true → h.clock.0 ≡ row.clock.0
          → is_in row.clock.0 (map (λ r. r.clock.0) (cond t (h ∷ filter test (present handles)) (filter test (present handles)))) ≡ true
      one true e same = ap (λ (x : ℕ). is_in x (h.clock.0 ∷ clocks_of test handles)) (sym same) ∙ is_in_head h.clock.0 (clocks_of test handles)
      one false e same = absurd cc
clocks_of-in test (Some h ∷ handles) (suc n) row at passes = one (test h) (clocks_of-in test handles n row at passes) where
  one : (t : Bool) → is_in row.clock.0 (clocks_of test handles) ≡ true → is_in row.clock.0 (map (λ r. r.clock.0) (cond t (h ∷ filter test (present handles)) (filter test (present handles)))) ≡ true
  one true rest = is_in_tail row.clock.0 h.clock.0 (clocks_of test handles) rest
  one false rest = rest

-- ---- guarded paths

-- a live handle with an exclusive hold
pub record HasHold (s : State) (number : ℕ) (row : HandleRow) : Type 0 where
  pub at : handle_at s.handles number ≡ Some row
  pub holds : is_exclusive row ≡ true

-- its path is guarded
guarded_path : (s : State) (number : ℕ) (row : HandleRow) (a : ℕ) → HasHold s number row → is_in a (path s.clocks row.clock.0) ≡ true → guarded s a ≡ true
guarded_path s number row a has m =
    any_from_in (λ h. is_in a (path s.clocks h)) (protect_holders s) row.clock.0
    (is_in-append row.clock.0 (clocks_of is_exclusive s.handles) _
    ∙ or_left (is_in row.clock.0 (clocks_of is_exclusive s.handles)) _ (clocks_of-in is_exclusive s.handles number row has.at has.holds)) m

unguarded_off : (s : State) (number : ℕ) (row : HandleRow) (a : ℕ) → HasHold s number row → guarded s a ≡ false → is_in a (path s.clocks row.clock.0) ≡ false
unguarded_off s number row a has free = by_test (is_in a (path s.clocks row.clock.0)) refl where
  by_test : (t : Bool) → is_in a (path s.clocks row.clock.0) ≡ t → t ≡ false
  by_test false e = refl
  by_test true e = let no : false ≡ true = sym free ∙ guarded_path s number row a has e in absurd cc

-- a description that is valid, and links that lead to possible parents
pub record CanPlan (s : State) : Type 0 where
  pub valid : IsValid (length s.regs) s.defs
  pub ends : LinesEnd s.defs
  pub links : LinksArePossible s.defs s.clocks

-- a chain that is planned over a state, from a clock that isn't guarded, is off the path
planned_off_path : (s : State) (c x : ℕ) (ks : List ChainStep) (number : ℕ) (row : HandleRow) → CanPlan s → HasHold s number row → guarded s c ≡ false → chain (wiring s) (view s) c x ≡ Some ks
    → IsOff (path s.clocks row.clock.0) ks
planned_off_path s c x ks number row can has free planned_ =
    let all = chain_unguarded (length s.regs) (wiring s) (view s) c x ks can.valid can.ends can.links (guards_links s can.ends can.links) free planned_ in
    all_both (λ k. guarded s k.clock ≡ false) (λ k. guarded s k.clock ≡ false) (λ k. is_in k.clock (path s.clocks row.clock.0) ≡ false) ks
    (λ k e f. unguarded_off s number row k.clock has e) all all

-- ---- beginnings

-- where the answer is that the call goes on, its chain is off a path
pub record GoesOff (kept : List ℕ) (y : State × Turn) : Type 0 where
  pub off : y.1 ≡ turn.Going → (k : Change) → y.0.change ≡ Some k → IsOff kept k.chain

off_answered : (kept : List ℕ) (s : State) (r : Reply) → GoesOff kept (s, turn.Done r)
off_answered kept s r = record { off = λ going. absurd cc }

off_started : (kept : List ℕ) (old new : State) (k : Change) → IsOff kept k.chain → GoesOff kept (starts old new k)
off_started kept old new k off =
    pick_either (GoesOff kept) _ _ _ (λ e. off_answered kept old (reply.Refused errno.ENOSPC))
    (λ e. record { off = λ going j at. subst (λ (i : Change). IsOff kept i.chain) (same_Some k j at) off })

off_planned : (kept : List ℕ) (o : Option (List ChainStep)) (f : List ChainStep → State × Turn) (s : State) → ((ks : List ChainStep) → o ≡ Some ks → GoesOff kept (f ks))
    → GoesOff kept (option_map_or f o (refused s errno.EINVAL))
off_planned kept None f s each = off_answered kept s (reply.Refused errno.EINVAL)
off_planned kept (Some ks) f s each = each ks refl

off_rated : (kept : List ℕ) (o : Option ℕ) (s : State) → GoesOff kept (option_map_or (λ r. done s (reply.Rate r)) o (refused s errno.EINVAL))
off_rated kept None s = off_answered kept s (reply.Refused errno.EINVAL)
off_rated kept (Some r) s = off_answered kept s (reply.Rate r)

-- a request that is planned over a state with the hold
off_requested : (kept : List ℕ) (old new fine lifted : State) (d : ℕ) (what : Sleeping) (c x : ℕ) (range : Option (ℕ × ℕ))
    → (guarded lifted c ≡ false → (ks : List ChainStep) → chain (wiring new) (view lifted) c x ≡ Some ks → IsOff kept ks) → GoesOff kept (request old new fine lifted d what c x range)
off_requested kept old new fine lifted d what c x range planned_ =
    pick_either (GoesOff kept) _ _ _ (λ e. off_answered kept fine reply.Fine)
    (λ e. pick_either (GoesOff kept) _ _ _ (λ f. off_answered kept old (reply.Refused errno.EBUSY))
    (λ f. off_planned kept (chain (wiring new) (view lifted) c x) (λ ks. starts old new (change_along new d what ks [] range)) old
    (λ ks at. off_started kept old new (change_along new d what ks [] range) (planned_ f ks at))))

off_ranged : (kept : List ℕ) (s : State) (d number : ℕ) (row : HandleRow) (h : Handle) (least most : ℕ) (own : HandleRow) → CanPlan s → HasHold s number row → nat_eq h.number number ≡ false
    → kept ≡ path s.clocks row.clock.0 → GoesOff kept (range_set s d (call.SetRange h least most) h.number own least most)
off_ranged kept s d number row h least most own can has other is =
    let new : State = put_handle s h.number (Some (record own { min = least; max = most })) in
    pick_either (GoesOff kept) _ _ _ (λ e. off_answered kept s (reply.Refused errno.EINVAL))
    (λ e. off_requested kept s new new (lift new h.number) d (call.SetRange h least most) own.clock.0 (request_between s.clocks own.clock.0 least most) (Some (own.min, own.max))
    (λ free ks at. subst (λ (xs : List ℕ). IsOff xs ks) (sym is)
    (planned_off_path (lift new h.number) own.clock.0 (request_between s.clocks own.clock.0 least most) ks number row (record { valid = can.valid; ends = can.ends; links = can.links })
    (record { at = handle_at-set_other new.handles h.number number _ (test_other h.number number other) ∙ handle_at-set_other s.handles h.number number _ (test_other h.number number other) ∙ has.at; holds = has.holds }) free at)))

off_reparented : (kept : List ℕ) (s : State) (d number : ℕ) (row : HandleRow) (h : Handle) (what : Sleeping) (c p : ℕ) → HasHold s number row → nat_eq h.number number ≡ false → kept ≡ path s.clocks row.clock.0
    → GoesOff kept (parent_set s (lift s h.number) d what c p)
off_reparented kept s d number row h what c p has other is =
    pick_either (GoesOff kept) _ _ _ (λ e. off_answered kept s reply.Fine)
    (λ e. pick_either (GoesOff kept) _ _ _ (λ f. off_answered kept s (reply.Refused errno.EPERM))
    (λ f. pick_either (GoesOff kept) _ _ _ (λ g. off_answered kept s (reply.Refused errno.EBUSY))
    (λ g. pick_either (GoesOff kept) _ _ _
    (λ i. off_started kept s s (reparenting s d what c p) (
      ap (is_in c) is
          ∙ unguarded_off (lift s h.number) number row c (record { at = handle_at-set_other s.handles h.number number _ (test_other h.number number other) ∙ has.at; holds = has.holds })
          (not_either _ (guarded (lift s h.number) c) g).1,
      tt,
    ))
    (λ i. off_answered kept s (reply.Refused errno.EINVAL)))))

off_handled : (kept : List ℕ) (s : State) (d number : ℕ) (f : HandleRow → State × Turn) → ((row : HandleRow) → handle_at s.handles number ≡ Some row → GoesOff kept (f row)) → GoesOff kept (with_handle s d number f)
off_handled kept s d number f each =
    with_handle_either (GoesOff kept) s d number f (off_answered kept s (reply.Refused errno.ENOENT)) (λ row own. each row (own_is_live s d number row own))

off_got : (kept : List ℕ) (s : State) (d : ℕ) (found : Option ℕ) → GoesOff kept (got s d found)
off_got kept s d None = off_answered kept s (reply.Refused errno.ENOENT)
off_got kept s d (Some c) = pick_either (GoesOff kept) _ _ _ (λ e. off_answered kept (given s d c).0 _) (λ e. off_answered kept s (reply.Refused errno.EPROBE_DEFER))

-- a call that goes on and doesn't set the hold of a handle aside plans off the handle's path
pub begun_off : (s : State) (d number : ℕ) (row : HandleRow) (what : Sleeping) → CanPlan s → HasHold s number row → lifts number (event.Begin what) ≡ false
    → GoesOff (path s.clocks row.clock.0) (begun s d what)
unfolding begun
begun_off s d number row (call.Get found) can has other = off_got (path s.clocks row.clock.0) s d (option_map (λ c. c.0) found)
begun_off s d number row (call.Put h) can has other =
    off_handled (path s.clocks row.clock.0) s d h.number (put_back s h.number) (λ own at. pick_either (GoesOff (path s.clocks row.clock.0)) _ _ _ (λ e. off_answered (path s.clocks row.clock.0) s (reply.Refused errno.EBUSY)) (λ e. off_answered (path s.clocks row.clock.0) (put_handle s h.number None) reply.Fine))
begun_off s d number row (call.Prepare h) can has other =
    off_handled (path s.clocks row.clock.0) s d h.number (prepare s d (call.Prepare h) h.number)
    (λ own at. pick_either (GoesOff (path s.clocks row.clock.0)) _ _ _ (λ e. off_answered (path s.clocks row.clock.0) (prepared_once_more s h.number own) reply.Fine)
    (λ e. off_started (path s.clocks row.clock.0) s s (change_of s d (call.Prepare h) (micro.Raise own.clock ∷ micro.End ∷ [])) tt))
begun_off s d number row (call.Unprepare h) can has other =
    off_handled (path s.clocks row.clock.0) s d h.number (unprepare s d (call.Unprepare h) h.number)
    (λ own at.
    let less : State = put_handle s h.number (Some (record own { prepares = own.prepares - 1 })) in
    pick_either (GoesOff (path s.clocks row.clock.0)) _ _ _ (λ e. off_answered (path s.clocks row.clock.0) s reply.Warn)
    (λ e. pick_either (GoesOff (path s.clocks row.clock.0)) _ _ _ (λ f. off_answered (path s.clocks row.clock.0) less reply.Fine)
    (λ f. off_started (path s.clocks row.clock.0) s less (change_of s d (call.Unprepare h) (micro.Lower own.clock ∷ micro.End ∷ [])) tt)))
begun_off s d number row (call.GetRate h) can has other = off_handled (path s.clocks row.clock.0) s d h.number _ (λ own at. off_answered (path s.clocks row.clock.0) s _)
begun_off s d number row (call.RoundRate h x) can has other =
    off_handled (path s.clocks row.clock.0) s d h.number (λ own. rounded s h.number own x) (λ own at. off_rated (path s.clocks row.clock.0) (round_rate (wiring s) (view (lift s h.number)) own.clock.0 x) s)
begun_off s d number row (call.SetRate h x) can has other =
    off_handled (path s.clocks row.clock.0) s d h.number (λ own. request s s s (lift s h.number) d (call.SetRate h x) own.clock.0 x None)
    (λ own at. off_requested (path s.clocks row.clock.0) s s s (lift s h.number) d (call.SetRate h x) own.clock.0 x None
    (λ free ks is. planned_off_path (lift s h.number) own.clock.0 x ks number row (record { valid = can.valid; ends = can.ends; links = can.links })
    (record { at = handle_at-set_other s.handles h.number number _ (test_other h.number number other) ∙ has.at; holds = has.holds }) free is))
begun_off s d number row (call.SetRateExclusive h x) can has other =
    off_handled (path s.clocks row.clock.0) s d h.number (λ own. request s s (held_once_more s h.number own) s d (call.SetRateExclusive h x) own.clock.0 x None)
    (λ own at. off_requested (path s.clocks row.clock.0) s s (held_once_more s h.number own) s d (call.SetRateExclusive h x) own.clock.0 x None (λ free ks is. planned_off_path s own.clock.0 x ks number row can has free is))
begun_off s d number row (call.SetRange h least most) can has other =
    off_handled (path s.clocks row.clock.0) s d h.number (λ own. range_set s d (call.SetRange h least most) h.number own least most) (λ own at. off_ranged (path s.clocks row.clock.0) s d number row h least most own can has other refl)
begun_off s d number row (call.SetParent h p) can has other =
    off_handled (path s.clocks row.clock.0) s d h.number (λ own. parent_set s (lift s h.number) d (call.SetParent h p) own.clock.0 p.0) (λ own at. off_reparented (path s.clocks row.clock.0) s d number row h (call.SetParent h p) own.clock.0 p.0 has other refl)
begun_off s d number row (call.GetParent h) can has other = off_handled (path s.clocks row.clock.0) s d h.number _ (λ own at. off_answered (path s.clocks row.clock.0) s _)
begun_off s d number row (call.ExclusiveGet h) can has other =
    off_handled (path s.clocks row.clock.0) s d h.number (λ own. done (held_once_more s h.number own) reply.Fine) (λ own at. off_answered (path s.clocks row.clock.0) (held_once_more s h.number own) reply.Fine)
begun_off s d number row (call.ExclusivePut h) can has other =
    off_handled (path s.clocks row.clock.0) s d h.number (exclusive_put s h.number) (λ own at. pick_either (GoesOff (path s.clocks row.clock.0)) _ _ _ (λ e. off_answered (path s.clocks row.clock.0) s reply.Warn) (λ e. off_answered (path s.clocks row.clock.0) _ reply.Fine))
begun_off s d number row (call.NotifierAdd h id priority policy) can has other =
    off_handled (path s.clocks row.clock.0) s d h.number _ (λ own at. pick_either (GoesOff (path s.clocks row.clock.0)) _ _ _ (λ e. off_answered (path s.clocks row.clock.0) s (reply.Refused errno.EEXIST))
    (λ e. pick_either (GoesOff (path s.clocks row.clock.0)) _ _ _ (λ f. off_answered (path s.clocks row.clock.0) s (reply.Refused errno.ENOSPC)) (λ f. off_answered (path s.clocks row.clock.0) _ reply.Fine)))
begun_off s d number row (call.NotifierRemove h id) can has other =
    off_handled (path s.clocks row.clock.0) s d h.number _ (λ own at. pick_either (GoesOff (path s.clocks row.clock.0)) _ _ _ (λ e. off_answered (path s.clocks row.clock.0) _ reply.Fine) (λ e. off_answered (path s.clocks row.clock.0) s (reply.Refused errno.ENOENT)))
begun_off s d number row (call.Probe c) can has other =
    pick_either (GoesOff (path s.clocks row.clock.0)) _ _ _ (λ e. off_answered (path s.clocks row.clock.0) s (reply.Refused errno.EEXIST))
    (λ e. pick_either (GoesOff (path s.clocks row.clock.0)) _ _ _ (λ f. off_answered (path s.clocks row.clock.0) (register s c.0) reply.Fine) (λ f. off_started (path s.clocks row.clock.0) s s (change_of s d (call.Probe c) (probe_script (register s c.0) c.0)) tt))
begun_off s d number row call.Sweep can has other =
    pick_either (GoesOff (path s.clocks row.clock.0)) _ _ _ (λ e. off_answered (path s.clocks row.clock.0) s reply.Fine) (λ e. off_started (path s.clocks row.clock.0) s s (change_of s d call.Sweep (sweep_script s)) tt)
