-- Laws on how calls begin: what a beginning makes of the prepare tier's part of a state depends on that part alone.
use Rattle.std.proofs.Common.{◌≡◌, ℕ, zero, suc, ◌+◌, ◌-◌, Bool, true, false, not, ◌&&◌, ◌||◌, List, [], ◌∷◌, ◌++◌, Option, Some, None, refl, sym, ap, subst, ◌∙◌, ◌⊎◌, inl, inr, length, nat_lt, nat_eq, map, set}
use mathlib.Core.Path.{fun_ext}
use Rattle.std.specs.Prelude.{ℤ, filter, find, flat_map, option_map, is_none, slice_get, if◌then◌else◌}
use Rattle.std.specs.List.{list_any}
use Rattle.std.specs.Option.{option_map_or}
use Rattle.clk_base.specs.declared.call.Micro.{Micro}
use Rattle.clk_base.specs.declared.call.Micro.TheVariants as micro
use Rattle.clk_base.specs.declared.call.Sleeping.{Sleeping}
use Rattle.clk_base.specs.declared.call.Sleeping.TheVariants as call
use Rattle.clk_base.specs.declared.event.Errno.TheVariants as errno
use Rattle.clk_base.specs.declared.event.Reply.{Reply}
use Rattle.clk_base.specs.declared.event.Reply.TheVariants as reply
use Rattle.clk_base.specs.declared.event.Turn.TheVariants as turn
use Rattle.clk_base.specs.declared.event.Turn.{Turn}
use Rattle.clk_base.specs.declared.handle.Policy.{Policy}
use Rattle.clk_base.specs.Description.{kind_of}
use Rattle.clk_base.specs.Flags.{is_critical}
use Rattle.reg_bank.specs.Registers.{Registers}
use Rattle.clk_model.specs.declared.row.ClockRow.{ClockRow}
use Rattle.clk_model.specs.declared.row.HandleRow.{HandleRow}
use Rattle.clk_model.specs.Lists.{is_in, count_from, to_front, without_one}
use Rattle.clk_model.specs.Kinds.{is_pll}
use Rattle.clk_model.specs.State.{State, Change, handle_at}
use Rattle.clk_model.specs.Tree.{path, path_to_be, link_given, orphans}
use Rattle.clk_model.specs.Holders.{is_enabled, prepared}
use Rattle.clk_model.specs.Round.{most_rate}
use Rattle.clk_model.specs.Chain.{clock_id}
use Rattle.clk_model.specs.Script.{unprepared_plls, runs, adoptable, is_next, adoption_order, adoption, probe_script}
use Rattle.clk_model.specs.Begin.{done, refused, pick, starts, change_of, put_handle, own_handle, with_handle, got, put_back, prepared_once_more, prepare, keeps_prepare, unprepare, exclusive_put, notifier_added, notifier_removed, registered_rows, register, probed, begun}
use Rattle.clk_model.specs.Prep.{without_enables, is_sweep, prep}
use Rattle.clk_model.specs.Laws.PlansRead.{asks, plans}
use Rattle.clk_model.specs.Laws.PrepBegins.{ComesAlike, answered, sets_out, finds_enable, IsKeptBack}
use Rattle.clk_model.proofs.BareHandleLaws.{bare, set_bare, SameOwn, neither, both_have, own_same}
use Rattle.clk_model.proofs.EventLaws.{own_is_live}
use Rattle.clk_model.proofs.PlannedSameLaws.{Rest, beside}
use Rattle.clk_model.proofs.AlikeLaws.{LooksAlike, prep_handles, prep_put, prep_notifiers, prep_rows}
use Rattle.clk_model.proofs.PlanBeginLaws.{picks, refused_both, on_rows, clock_same}
use Rattle.clk_model.proofs.PrepStepLaws.{prepared_same, link_same, path_same, lower_same, now_same, rows_same}

-- ---- handles

bare-append : (a b : List (Option HandleRow)) → bare (a ++ b) ≡ bare a ++ bare b
bare-append [] b = refl
bare-append (h ∷ a) b = ap (λ (hs : List (Option HandleRow)). option_map without_enables h ∷ hs) (bare-append a b)

bare-length : (a : List (Option HandleRow)) → length (bare a) ≡ length a
bare-length [] = refl
bare-length (h ∷ a) = ap (λ (n : ℕ). suc n) (bare-length a)

-- ---- what is read of two states that look alike

module _ (words : ℕ) (s : State) (new : Registers) (after : List (Option HandleRow)) (x : Rest) (look : LooksAlike words s new after) where
  abbrev t : State
  t = beside s new after x

  -- a call that goes on with these steps is the same
  pub change_same : (d : ℕ) (what : Sleeping) (ms : List Micro) → change_of t d what ms ≡ change_of s d what ms
  change_same d what ms =
      ap (λ (rates : ℕ → ℕ). let k : Change = record (change_of s d what ms) { before = map rates (count_from 0 (length s.defs)); outcome = map rates (count_from 0 (length s.defs)) } in k)
      (now_same words s new after x look)

  -- the PLLs of a path that nothing keeps prepared
  unprepared_same : (cs : List ℕ) → unprepared_plls t cs ≡ unprepared_plls s cs
  unprepared_same cs = ap (λ (p : ℕ → Bool). filter (λ a. is_pll (kind_of s.defs a) && not (p a)) cs) (prepared_same words s new after x look)

  links_same : link_given s.defs new s.clocks ≡ link_given s.defs s.regs s.clocks
  links_same = fun_ext (link_same words s new after x look)

  -- the orphans whose parent is there
  adoptable_same : adoptable t ≡ adoptable s
  adoptable_same = ap (λ (link : ℕ → Option ℕ). filter (λ a. option_map_or (λ p. true) (link a) false) (orphans s.defs s.order s.clocks)) links_same

  next_same : (left : List ℕ) → is_next t left ≡ is_next s left
  next_same left = ap {B = ℕ → Bool} (λ (link : ℕ → Option ℕ). λ a. option_map_or (λ p. not (list_any (λ b. is_in b (path s.clocks p)) (without_one a left))) (link a) false) links_same

  order_same : (n : ℕ) (left : List ℕ) → adoption_order n t left ≡ adoption_order n s left
  order_same zero left = refl
  order_same (suc n) left =
      ap (λ (test : ℕ → Bool). option_map_or (λ a. a ∷ adoption_order n t (without_one a left)) (find test left) []) (next_same left)
      ∙ ap (λ (rest : List ℕ → List ℕ). option_map_or (λ a. a ∷ rest (without_one a left)) (find (is_next s left) left) []) (fun_ext (order_same n))

  abbrev adopting : (ℕ → Option ℕ) → (ℕ → Bool) → ℕ → List Micro
  adopting link holds a =
      option_map_or (λ p.
      if holds a
      then micro.Raise (clock_id p) ∷ micro.HoldPrepare (clock_id p) ∷ micro.HoldEnable (clock_id p) ∷ micro.HoldEnable (clock_id a)
      ∷ micro.Relink (clock_id a) (clock_id p) ∷ micro.DropEnable (clock_id a) ∷ micro.Settle (clock_id a) ∷ []
      else micro.Relink (clock_id a) (clock_id p) ∷ micro.Settle (clock_id a) ∷ [])
      (link a) []

  adoption_same : adoption t ≡ adoption s
  adoption_same =
      ap (λ (link : ℕ → Option ℕ). adopting link (prepared t)) links_same
      ∙ ap (λ (p : ℕ → Bool). adopting (link_given s.defs s.regs s.clocks) p) (prepared_same words s new after x look)

  -- and so the script of a registration
  script_same : (c : ℕ) → probe_script t c ≡ probe_script s c
  unfolding probe_script
  script_same c =
      ap (λ (cs : List ℕ). scripted (adoption t) (adoption_order (length cs) t cs)) adoptable_same
      ∙ ap (λ (cs : List ℕ). scripted (adoption t) cs) (order_same (length (adoptable s)) (adoptable s))
      ∙ ap (λ (f : ℕ → List Micro). scripted f (adoption_order (length (adoptable s)) s (adoptable s))) adoption_same where
        scripted : (ℕ → List Micro) → List ℕ → List Micro
        scripted f cs = (if is_critical s.defs c then micro.Raise (clock_id c) ∷ [] else []) ++ micro.Register (clock_id c) ∷ [] ++ flat_map f cs ++ micro.End ∷ []

-- ---- how each call begins in two states that look alike and have the same part

module _ (words : ℕ) (s : State) (new : Registers) (after : List (Option HandleRow)) (x : Rest) (look : LooksAlike words s new after) (same : prep (beside s new after x) ≡ prep s) (d : ℕ) where
  abbrev u : State
  u = beside s new after x

  -- an answer after which the driver's handle is another
  answered_put : (n : ℕ) (r : Reply) (o o' : Option HandleRow) → option_map without_enables o' ≡ option_map without_enables o → ComesAlike s u (done (put_handle s n o) r) (done (put_handle u n o') r)
  answered_put n r o o' one = answered r refl refl (prep_put s u n o o' same look.handles one)

  stays : (r : Reply) → ComesAlike s u (done s r) (done u r)
  stays r = answered r refl refl same

  got_same : (found : Option ℕ) → ComesAlike s u (got s d found) (got u d found)
  got_same None = refused_both s u errno.ENOENT same
  got_same (Some c) = picks s u _ _ _ _ _ _ refl
      (λ e. answered (reply.Handle (record { number = length s.handles; slot = 0; driver = d })) refl
      (ap (λ (n : ℕ). turn.Done (reply.Handle (record { number = n; slot = 0; driver = d }))) (sym (bare-length after) ∙ ap (λ (hs : List (Option HandleRow)). length hs) look.handles ∙ bare-length s.handles))
      (prep_handles s u (s.handles ++ fresh c) (after ++ fresh c) same
      (bare-append after (fresh c) ∙ ap (λ (hs : List (Option HandleRow)). hs ++ fresh c) look.handles ∙ sym (bare-append s.handles (fresh c)))))
      (λ e. refused_both s u errno.EPROBE_DEFER same) where
        fresh : ℕ → List (Option HandleRow)
        fresh c = Some (record { driver = d; clock = clock_id c; prepares = 0; enables = 0; exclusives = 0; min = 0; max = most_rate }) ∷ []

  -- a call on a handle that has an enable in both states or in neither
  on_own : (n : ℕ) (f f' : HandleRow → State × Turn) → option_map_or is_enabled (handle_at after n) false ≡ option_map_or is_enabled (handle_at s.handles n) false
      → ((row row' : HandleRow) → without_enables row' ≡ without_enables row → is_enabled row' ≡ is_enabled row → ComesAlike s u (f row) (f' row')) → ComesAlike s u (with_handle s d n f) (with_handle u d n f')
  on_own n f f' enables each = by _ _ refl refl (own_same s u d n look.handles) where
    by : (o o' : Option HandleRow) → own_handle s d n ≡ o → own_handle u d n ≡ o' → SameOwn o o' → ComesAlike s u (option_map_or f o (refused s errno.ENOENT)) (option_map_or f' o' (refused u errno.ENOENT))
    by _ _ own own' neither = refused_both s u errno.ENOENT same
    by _ _ own own' (both_have row row' alike) =
        each row row' alike
        (sym (ap (λ (o : Option HandleRow). option_map_or is_enabled o false) (own_is_live u d n row' own')) ∙ enables ∙ ap (λ (o : Option HandleRow). option_map_or is_enabled o false) (own_is_live s d n row own))

  put_same : (n : ℕ) (row row' : HandleRow) → without_enables row' ≡ without_enables row → is_enabled row' ≡ is_enabled row → ComesAlike s u (put_back s n row) (put_back u n row')
  put_same n row row' alike enables =
      picks s u _ _ _ _ _ _
      (ap (λ (h : HandleRow). nat_lt 0 h.prepares || is_enabled row' || nat_lt 0 h.exclusives) alike ∙ ap (λ (b : Bool). nat_lt 0 row.prepares || b || nat_lt 0 row.exclusives) enables)
      (λ e. refused_both s u errno.EBUSY same) (λ e. answered_put n reply.Fine None None refl)

  prepare_same : (what : Sleeping) (n : ℕ) (row row' : HandleRow) → without_enables row' ≡ without_enables row → ComesAlike s u (prepare s d what n row) (prepare u d what n row')
  prepare_same what n row row' alike =
      subst (λ c. ComesAlike s u (prepare s d what n row) (pick (is_none (slice_get (unprepared_plls u (path s.clocks c.0)) 0)) (λ v. done (prepared_once_more u n row') reply.Fine)
      (λ v. starts u u (change_of u d what (micro.Raise c ∷ micro.End ∷ []))))) (sym (ap (λ (h : HandleRow). h.clock) alike))
      (picks s u _ _ _ _ _ _ (ap (λ (ps : List ℕ). is_none (slice_get ps 0)) (unprepared_same words s new after x look (path s.clocks row.clock.0)))
      (λ e. answered_put n reply.Fine (Some (record row { prepares = row.prepares + 1 })) (Some (record row' { prepares = row'.prepares + 1 }))
      (ap (λ (h : HandleRow). let g : HandleRow = record h { prepares = h.prepares + 1 } in Some g) alike))
      (λ e. sets_out s u (change_of s d what (micro.Raise row.clock ∷ micro.End ∷ [])) refl
      (ap (λ (k : Change). starts u u k) (change_same words s new after x look d what (micro.Raise row.clock ∷ micro.End ∷ []))) refl refl same))

  keeps_same : (row row' : HandleRow) → without_enables row' ≡ without_enables row → is_enabled row' ≡ is_enabled row → keeps_prepare row' ≡ keeps_prepare row
  keeps_same row row' alike enables =
      ap (λ (h : HandleRow). nat_eq h.prepares 0 || (nat_eq h.prepares 1 && is_enabled row')) alike ∙ ap (λ (b : Bool). nat_eq row.prepares 0 || (nat_eq row.prepares 1 && b)) enables

  unprepare_same : (what : Sleeping) (n : ℕ) (row row' : HandleRow) → without_enables row' ≡ without_enables row → keeps_prepare row' ≡ keeps_prepare row → ComesAlike s u (unprepare s d what n row) (unprepare u d what n row')
  unprepare_same what n row row' alike keeps =
      subst (λ c. ComesAlike s u (unprepare s d what n row) (pick (keeps_prepare row') (λ v. done u reply.Warn)
      (λ v. pick (is_none (slice_get (filter (runs s.defs new) (unprepared_plls less' (path s.clocks c.0))) 0)) (λ v. done less' reply.Fine)
      (λ v. starts u less' (change_of u d what (micro.Lower c ∷ micro.End ∷ [])))))) (sym (ap (λ (h : HandleRow). h.clock) alike))
      (picks s u _ _ _ _ _ _ keeps (λ e. stays reply.Warn)
      (λ e. picks s u _ _ _ _ _ _ (ap (λ (ps : List ℕ). is_none (slice_get ps 0)) (lower_same words less new (set after n (Some (fewer row'))) x still row.clock.0))
      (λ f. answered_put n reply.Fine (Some (fewer row)) (Some (fewer row')) one)
      (λ f. sets_out less less' (change_of s d what (micro.Lower row.clock ∷ micro.End ∷ [])) refl
      (ap (λ (k : Change). starts u less' k) (change_same words s new after x look d what (micro.Lower row.clock ∷ micro.End ∷ []))) refl refl (prep_put s u n (Some (fewer row)) (Some (fewer row')) same look.handles one)))) where
        fewer : HandleRow → HandleRow
        fewer h = record h { prepares = h.prepares - 1 }

        one : option_map without_enables (Some (fewer row')) ≡ option_map without_enables (Some (fewer row))
        one = ap (λ (h : HandleRow). let g : HandleRow = record h { prepares = h.prepares - 1 } in Some g) alike

        less : State
        less = put_handle s n (Some (fewer row))

        less' : State
        less' = put_handle u n (Some (fewer row'))

        still : LooksAlike words less new (set after n (Some (fewer row')))
        still = record { valid = look.valid; masks = look.masks; handles = set_bare s.handles after n (Some (fewer row)) (Some (fewer row')) look.handles one }

  exclusive_put_same : (n : ℕ) (row row' : HandleRow) → without_enables row' ≡ without_enables row → ComesAlike s u (exclusive_put s n row) (exclusive_put u n row')
  exclusive_put_same n row row' alike =
      picks s u _ _ _ _ _ _ (ap (λ (h : HandleRow). nat_eq h.exclusives 0) alike) (λ e. stays reply.Warn)
      (λ e. answered_put n reply.Fine (Some (record row { exclusives = row.exclusives - 1 })) (Some (record row' { exclusives = row'.exclusives - 1 }))
      (ap (λ (h : HandleRow). let g : HandleRow = record h { exclusives = h.exclusives - 1 } in Some g) alike))

  added_same : (c id : ℕ) (priority : ℤ) (policy : Policy) → ComesAlike s u (notifier_added s c id priority policy) (notifier_added u c id priority policy)
  added_same c id priority policy =
      picks s u _ _ _ _ _ _ refl (λ e. refused_both s u errno.EEXIST same)
      (λ e. picks s u _ _ _ _ _ _ refl (λ e. refused_both s u errno.ENOSPC same)
      (λ e. answered reply.Fine refl refl (prep_notifiers s u (s.notifiers ++ record { clock = c; id = id; priority = priority; policy = policy } ∷ []) same)))

  removed_same : (c id : ℕ) → ComesAlike s u (notifier_removed s c id) (notifier_removed u c id)
  removed_same c id =
      picks s u _ _ _ _ _ _ refl (λ e. answered reply.Fine refl refl (prep_notifiers s u (filter (λ n. not ((nat_eq n.clock c) && (nat_eq n.id id))) s.notifiers) same))
      (λ e. refused_both s u errno.ENOENT same)

  -- a registration leaves two states that look alike
  register_beside : (c : ℕ) → register u c ≡ beside (register s c) new after x
  unfolding register
  register_beside c = ap (λ (rows : List ClockRow). let v : State = record u { clocks = rows; order = to_front c s.order } in v) (rows_same words s new after x look c)

  looks_registered : (c : ℕ) → LooksAlike words (register s c) new after
  unfolding register
  looks_registered c = record { valid = look.valid; masks = look.masks; handles = look.handles }

  prep_registered : (c : ℕ) → prep (register u c) ≡ prep (register s c)
  unfolding register
  prep_registered c =
      ap (λ (rows : List ClockRow). let v : State = record u { clocks = rows; order = to_front c s.order } in prep v) (rows_same words s new after x look c)
      ∙ prep_rows s u (registered_rows s.defs s.regs s.clocks c) (to_front c s.order) same

  probed_same : (what : Sleeping) (c : ℕ) → ComesAlike s u (probed s d what c) (probed u d what c)
  probed_same what c =
      picks s u _ _ _ _ _ _ refl (λ e. refused_both s u errno.EEXIST same)
      (λ e. picks s u _ _ _ _ _ _ test (λ f. answered reply.Fine refl refl (prep_registered c))
      (λ f. sets_out s u (change_of s d what (probe_script (register s c) c)) refl
      (ap (λ (ms : List Micro). starts u u (change_of u d what ms)) script ∙ ap (λ (k : Change). starts u u k) (change_same words s new after x look d what (probe_script (register s c) c))) refl refl same)) where
        ready : List ℕ → List ℕ → Bool
        ready adopted above = is_none (slice_get adopted 0) && (not (is_critical s.defs c) || is_none (slice_get above 0))

        above_same : unprepared_plls u (path_to_be s.defs new s.clocks c) ≡ unprepared_plls s (path_to_be s.defs s.regs s.clocks c)
        above_same = ap (λ (cs : List ℕ). unprepared_plls u cs) (path_same words s new after x look c) ∙ unprepared_same words s new after x look (path_to_be s.defs s.regs s.clocks c)

        adopts : adoptable (register u c) ≡ adoptable (register s c)
        adopts = ap adoptable (register_beside c) ∙ adoptable_same words (register s c) new after x (looks_registered c)

        test : ready (adoptable (register u c)) (unprepared_plls u (path_to_be s.defs new s.clocks c)) ≡ ready (adoptable (register s c)) (unprepared_plls s (path_to_be s.defs s.regs s.clocks c))
        test = ap (λ (cs : List ℕ). ready cs (unprepared_plls u (path_to_be s.defs new s.clocks c))) adopts ∙ ap (λ (cs : List ℕ). ready (adoptable (register s c)) cs) above_same

        script : probe_script (register u c) c ≡ probe_script (register s c) c
        script = ap (λ (v : State). probe_script v c) (register_beside c) ∙ script_same words (register s c) new after x (looks_registered c) c

  -- each call but those that ask or plan, and the sweep
  pub begin_same : (what : Sleeping) → (asks what || plans what || is_sweep what) ≡ false → finds_enable u what ≡ finds_enable s what → ComesAlike s u (begun s d what) (begun u d what)
  unfolding begun
  begin_same (call.Get found) other enables = got_same (option_map (λ c. c.0) found)
  begin_same (call.Put h) other enables = on_own h.number _ _ enables (put_same h.number)
  begin_same (call.Prepare h) other enables = on_rows s u d h.number _ _ same look.handles (prepare_same (call.Prepare h) h.number)
  begin_same (call.Unprepare h) other enables = on_own h.number _ _ enables
      (λ row row' alike on. unprepare_same (call.Unprepare h) h.number row row' alike (keeps_same row row' alike on))
  begin_same (call.ExclusiveGet h) other enables = on_rows s u d h.number _ _ same look.handles
      (λ row row' alike. answered_put h.number reply.Fine (Some (record row { exclusives = row.exclusives + 1 })) (Some (record row' { exclusives = row'.exclusives + 1 }))
      (ap (λ (a : HandleRow). let b : HandleRow = record a { exclusives = a.exclusives + 1 } in Some b) alike))
  begin_same (call.ExclusivePut h) other enables = on_rows s u d h.number _ _ same look.handles (exclusive_put_same h.number)
  begin_same (call.NotifierAdd h id priority policy) other enables = on_rows s u d h.number _ _ same look.handles
      (λ row row' alike. subst (λ (c : ℕ). ComesAlike s u (notifier_added s row.clock.0 id priority policy) (notifier_added u c id priority policy)) (sym (clock_same row row' alike))
      (added_same row.clock.0 id priority policy))
  begin_same (call.NotifierRemove h id) other enables = on_rows s u d h.number _ _ same look.handles
      (λ row row' alike. subst (λ (c : ℕ). ComesAlike s u (notifier_removed s row.clock.0 id) (notifier_removed u c id)) (sym (clock_same row row' alike)) (removed_same row.clock.0 id))
  begin_same (call.Probe c) other enables = probed_same (call.Probe c) c.0
  begin_same _ other enables = absurd cc

  -- ---- a handle that has no enable in the second state

  -- what gives back is kept from it in the first state, or comes to the same
  abbrev KeptOrSame : State × Turn → State × Turn → Type 0
  KeptOrSame y z = IsKeptBack s y ⊎ ComesAlike s u y z

  on_bare : (n : ℕ) (f f' : HandleRow → State × Turn) → option_map_or is_enabled (handle_at after n) false ≡ false
      → ((row row' : HandleRow) → without_enables row' ≡ without_enables row → is_enabled row' ≡ false → KeptOrSame (f row) (f' row')) → KeptOrSame (with_handle s d n f) (with_handle u d n f')
  on_bare n f f' none each = by _ _ refl (own_same s u d n look.handles) where
    by : (o o' : Option HandleRow) → own_handle u d n ≡ o' → SameOwn o o' → KeptOrSame (option_map_or f o (refused s errno.ENOENT)) (option_map_or f' o' (refused u errno.ENOENT))
    by _ _ own' neither = inr (refused_both s u errno.ENOENT same)
    by _ _ own' (both_have row row' alike) = each row row' alike (sym (ap (λ (o : Option HandleRow). option_map_or is_enabled o false) (own_is_live u d n row' own')) ∙ none)

  bare_put : (n : ℕ) (row row' : HandleRow) → without_enables row' ≡ without_enables row → is_enabled row' ≡ false → KeptOrSame (put_back s n row) (put_back u n row')
  unfolding pick
  bare_put n row row' alike off = by (is_enabled row) refl where
    holds : (a c : Bool) → (a || true || c) ≡ true
    holds true c = refl
    holds false c = refl

    by : (b : Bool) → is_enabled row ≡ b → KeptOrSame (put_back s n row) (put_back u n row')
    by false is = inr (put_same n row row' alike (off ∙ sym is))
    by true is = inl (inl (ap (λ (e : Bool). pick e (λ v. refused s errno.EBUSY) (λ v. done (put_handle s n None) reply.Fine))
        (ap (λ (e : Bool). nat_lt 0 row.prepares || e || nat_lt 0 row.exclusives) is ∙ holds (nat_lt 0 row.prepares) (nat_lt 0 row.exclusives))))

  bare_unprepare : (what : Sleeping) (n : ℕ) (row row' : HandleRow) → without_enables row' ≡ without_enables row → is_enabled row' ≡ false → KeptOrSame (unprepare s d what n row) (unprepare u d what n row')
  unfolding pick
  bare_unprepare what n row row' alike off = by (keeps_prepare row) refl where
    less : State
    less = put_handle s n (Some (record row { prepares = row.prepares - 1 }))

    neither_keeps : (a b e : Bool) → (a || (b && e)) ≡ false → (a || (b && false)) ≡ false
    neither_keeps true b e is = absurd cc
    neither_keeps false true e is = refl
    neither_keeps false false e is = refl

    by : (b : Bool) → keeps_prepare row ≡ b → KeptOrSame (unprepare s d what n row) (unprepare u d what n row')
    by true is = inl (inr (ap (λ (e : Bool). pick e (λ v. done s reply.Warn)
        (λ v. pick (is_none (slice_get (filter (runs s.defs s.regs) (unprepared_plls less (path s.clocks row.clock.0))) 0)) (λ v. done less reply.Fine)
        (λ v. starts s less (change_of s d what (micro.Lower row.clock ∷ micro.End ∷ []))))) is))
    by false is = inr (unprepare_same what n row row' alike
        (ap (λ (h : HandleRow). nat_eq h.prepares 0 || (nat_eq h.prepares 1 && is_enabled row')) alike
        ∙ ap (λ (e : Bool). nat_eq row.prepares 0 || (nat_eq row.prepares 1 && e)) off
        ∙ neither_keeps (nat_eq row.prepares 0) (nat_eq row.prepares 1) (is_enabled row) is ∙ sym is))

  pub bare_begin : (what : Sleeping) → finds_enable s what ≡ true → finds_enable u what ≡ false → KeptOrSame (begun s d what) (begun u d what)
  unfolding begun
  bare_begin (call.Put h) found none = on_bare h.number _ _ none (bare_put h.number)
  bare_begin (call.Unprepare h) found none = on_bare h.number _ _ none (bare_unprepare (call.Unprepare h) h.number)
  bare_begin _ found none = absurd cc
