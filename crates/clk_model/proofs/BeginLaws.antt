-- Laws on calls that go on: what each begins with.
use Rattle.std.proofs.Common.{◌≡◌, ℕ, zero, suc, ◌-◌, ◌||◌, Bool, true, false, cond, List, [], ◌∷◌, ◌++◌, Option, Some, None, refl, sym, ap, ◌∙◌, length, map, set}
use Rattle.std.specs.Prelude.{filter, flat_map, option_map, slice_set, if◌then◌else◌}
use Rattle.std.specs.List.{list_any}
use Rattle.std.specs.Option.{option_map_or}
use Rattle.std.proofs.lemmas.List.Folds.{list_any-append}
use Rattle.clk_base.specs.declared.clock.ClockId.{ClockId}
use Rattle.clk_base.specs.declared.call.Sleeping.{Sleeping}
use Rattle.clk_base.specs.declared.call.Sleeping.TheVariants as call
use Rattle.clk_base.specs.declared.call.Micro.{Micro}
use Rattle.clk_base.specs.declared.call.Micro.TheVariants as micro
use Rattle.clk_base.specs.declared.event.Errno.{Errno}
use Rattle.clk_base.specs.declared.event.Errno.TheVariants as errno
use Rattle.clk_base.specs.declared.event.Reply.{Reply}
use Rattle.clk_base.specs.declared.event.Reply.TheVariants as reply
use Rattle.clk_base.specs.declared.event.Turn.{Turn}
use Rattle.clk_base.specs.declared.event.Turn.TheVariants as turn
use Rattle.clk_base.specs.declared.handle.Handle.{Handle}
use Rattle.clk_base.specs.Flags.{is_critical, runs_parent}
use Rattle.clk_model.specs.declared.row.HandleRow.{HandleRow}
use Rattle.clk_model.specs.State.{State, Change, ChainStep, handle_at, link_in}
use Rattle.clk_model.specs.Holders.{prepared}
use Rattle.clk_model.specs.Tree.{link_given}
use Rattle.clk_model.specs.Round.{wiring, round_rate}
use Rattle.clk_model.specs.Chain.{clock_id, chain}
use Rattle.clk_model.specs.Walk.{walk}
use Rattle.clk_model.specs.Notices.{is_veto}
use Rattle.clk_model.specs.Views.{view, lift}
use Rattle.clk_model.specs.Script.{unfeed, runs_for, visit_of, close_of, move, move_of, planned, adoption, adoption_order, adoptable, probe_script, sweep_order, sweep_script}
use Rattle.clk_model.specs.Begin.{done, refused, starts, change_of, change_along, put_handle, with_handle, got, put_back, prepared_once_more, prepare, unprepare, rounded, request, held_once_more, range_set, request_between, parent_set, reparenting, exclusive_put, register, begun}
use Rattle.clk_model.specs.Step.{range_back, with_range}
use Rattle.clk_model.specs.Prep.{without_enables, prep}
use Rattle.clk_model.specs.Laws.Flight.{pre_notices, abort_notices}
use Rattle.clk_model.proofs.EventLaws.{own_is_live}
use Rattle.clk_model.proofs.TierLaws.{pick_either, with_handle_either}
use Rattle.clk_model.proofs.NoneLaws.{none_append, none_map, none_flat_map, none_if}
use Rattle.clk_model.proofs.FeedLaws.{NoFeeding, none_fed}
use Rattle.clk_model.proofs.StepLaws.{raises}
use Rattle.clk_model.proofs.Cases.{by_plan, by_found}

-- where the answer is that the call goes on, this holds of the state that it leaves and of the change in flight
pub record IfGoing (P : State → Change → Type 0) (y : State × Turn) : Type 0 where
  pub from : y.1 ≡ turn.Going → (n : State) × (k : Change) × (y.0 ≡ record n { change = Some k }) × P n k

answered : (P : State → Change → Type 0) (s : State) (r : Reply) → IfGoing P (done s r)
answered P s r = record { from = λ going. absurd cc }

turned_down : (P : State → Change → Type 0) (s : State) (e : Errno) → IfGoing P (refused s e)
turned_down P s e = record { from = λ going. absurd cc }

started : (P : State → Change → Type 0) (old new : State) (k : Change) → P new k → IfGoing P (starts old new k)
started P old new k h =
    pick_either (IfGoing P) _ _ _ (λ e. turned_down P old errno.ENOSPC) (λ e. record { from = λ going. (new, k, refl, h) })

-- the state without what the call has changed of its handle's range, and without a change
abbrev pub undone : State → Change → State
undone p k = record p { handles = range_back k.call k.range p.handles; change = None }

-- a change that is called off: its script is its notices and the end, and its beginning has changed nothing of the prepare tier's
-- part but a range that is put back
pub record IsOff (q n : State) (k : Change) : Type 0 where
  pub notices : k.left ≡ (pre_notices q k.chain ++ abort_notices q k.chain) ++ micro.End ∷ []
  pub undone_is : undone (prep n) k ≡ record (prep q) { change = None }

-- the calls that may raise a PLL
abbrev pub may_raise : Sleeping → Bool
may_raise (call.Prepare h) = true
may_raise (call.SetRate h x) = true
may_raise (call.SetRateExclusive h x) = true
may_raise (call.SetRange h least most) = true
may_raise (call.SetParent h p) = true
may_raise (call.Probe c) = true
may_raise call.Sweep = true
may_raise _ = false

-- the clocks and the holds of a state are another's
abbrev pub SameClocks : State → State → Type 0
SameClocks q n = (n.clocks ≡ q.clocks) × (n.prepare_holds ≡ q.prepare_holds) × (n.enable_holds ≡ q.enable_holds)

-- the calls that plan a change of rates or of a parent
abbrev pub plans : Sleeping → Bool
plans (call.SetRate h x) = true
plans (call.SetRateExclusive h x) = true
plans (call.SetRange h least most) = true
plans (call.SetParent h p) = true
plans _ = false

-- which script a call has
pub data HasScript (q n : State) (k : Change) : Type 0 where
  raised_alone : (x : ClockId) → k.left ≡ micro.Raise x ∷ micro.End ∷ [] → HasScript q n k
  lowered_alone : (x : ClockId) → k.left ≡ micro.Lower x ∷ micro.End ∷ [] → HasScript q n k
  by_rate : plans k.call ≡ true → k.left ≡ (planned n k.chain []).steps → n.order ≡ q.order → wiring n ≡ wiring q → HasScript q n k
  by_parent : plans k.call ≡ true → (c : ClockId) → k.left ≡ (planned n k.chain (micro.Settle c ∷ [])).steps → n.order ≡ q.order → wiring n ≡ wiring q → HasScript q n k
  by_registration : (c : ClockId) → k.call ≡ call.Probe c → k.left ≡ probe_script (register q c.0) c.0 → HasScript q n k
  by_sweep : k.left ≡ sweep_script q → HasScript q n k

-- what a call that goes on begins with
pub record IsBegun (q : State) (d : ℕ) (what : Sleeping) (n : State) (k : Change) : Type 0 where
  pub driver : k.driver ≡ d
  pub call : k.call ≡ what
  pub front : k.front ≡ []
  pub on_time : k.timed_out ≡ false
  pub planned : k.missed ≡ None
  pub calm : may_raise what ≡ false → list_any raises k.left ≡ false
  pub vetoed : k.vetoed ≡ list_any is_veto k.left
  pub off : k.vetoed ≡ true → IsOff q n k
  pub same : SameClocks q n
  pub has : HasScript q n k

-- a change without a plan, whose steps have no veto
plain : (q n : State) (d : ℕ) (what : Sleeping) (left : List Micro) → list_any is_veto left ≡ false → (may_raise what ≡ false → list_any raises left ≡ false)
    → SameClocks q n → HasScript q n (change_of n d what left) → IsBegun q d what n (change_of n d what left)
plain q n d what left none calm same has = record {
  driver = refl;
  call = refl;
  front = refl;
  on_time = refl;
  planned = refl;
  calm = calm;
  vetoed = sym none;
  off = λ e. absurd cc;
  same = same;
  has = has;
}

-- ---- planned changes

some_append : (xs ys : List Micro) → list_any is_veto xs ≡ true → list_any is_veto (xs ++ ys) ≡ true
some_append xs ys e = list_any-append is_veto xs ys ∙ ap (λ (t : Bool). t || list_any is_veto ys) e

pub feeding_is_no_veto : NoFeeding is_veto
feeding_is_no_veto (micro.Notify kind c id old new) e = absurd cc
feeding_is_no_veto m e = refl

move_has_no_veto : (s : State) (ks : List ChainStep) (c : ℕ) → list_any is_veto (move_of s.defs s.clocks (prepared s) ks c) ≡ false
move_has_no_veto s ks c = none_flat_map is_veto _ (filter _ ks) (λ k. one k.parent) where
  dropped : (o : Option ℕ) → list_any is_veto (option_map_or (λ o. micro.DropEnable (clock_id o) ∷ micro.DropPrepare (clock_id o) ∷ micro.Lower (clock_id o) ∷ []) o []) ≡ false
  dropped None = refl
  dropped (Some o) = refl

  by_prepared : (b : Bool) (xs ys : List Micro) → list_any is_veto xs ≡ false → list_any is_veto ys ≡ false → list_any is_veto (cond b xs ys) ≡ false
  by_prepared b xs ys e f = none_if is_veto b xs ys e f

  one : (o : Option ℕ) → list_any is_veto (option_map_or (move s.defs s.clocks (prepared s) c) o []) ≡ false
  one None = refl
  one (Some p) = by_prepared (prepared s c) _ _ (dropped (link_in s.clocks c)) (by_prepared (runs_parent s.defs c) _ _ (none_append is_veto (option_map_or unfeed (link_in s.clocks c) []) (unfeed c) (dropped (link_in s.clocks c)) refl) refl)

-- what a plan does at a clock of its walk, and at all of them
abbrev pub walked_at : State → List ChainStep → ℕ → List Micro
walked_at s ks c = move_of s.defs s.clocks (prepared s) ks c ++ visit_of s.defs s.clocks ks c

abbrev pub walked : State → List ChainStep → List Micro
walked s ks = flat_map (walked_at s ks) (walk s.order (wiring s) ks)

-- a plan is vetoed where a step of its script is a veto
pub planned-vetoed : (s : State) (ks : List ChainStep) (settles : List Micro) → list_any is_veto settles ≡ false
    → (planned s ks settles).vetoed ≡ list_any is_veto (planned s ks settles).steps
unfolding planned
planned-vetoed s ks settles calm =
    whole (pre_notices s ks) (abort_notices s ks)
    (walked s ks ++ settles)
    (none_append is_veto (walked s ks) settles
    (none_flat_map is_veto (walked_at s ks) (walk s.order (wiring s) ks) (λ c. none_append is_veto (move_of s.defs s.clocks (prepared s) ks c) (visit_of s.defs s.clocks ks c) (move_has_no_veto s ks c)
    (none_fed is_veto (runs_for s.defs s.clocks ks c) (micro.Visit (clock_id c)) feeding_is_no_veto refl)))
    calm)
  where
    either : (b : Bool) (notices aborts rest : List Micro) → list_any is_veto notices ≡ b → list_any is_veto rest ≡ false → b ≡ list_any is_veto ((notices ++ cond b aborts rest) ++ micro.End ∷ [])
    either true notices aborts rest e none = sym (some_append (notices ++ aborts) (micro.End ∷ []) (some_append notices aborts e))
    either false notices aborts rest e none = sym (none_append is_veto (notices ++ rest) (micro.End ∷ []) (none_append is_veto notices rest e none) refl)

    whole : (notices aborts rest : List Micro) → list_any is_veto rest ≡ false
        → list_any is_veto notices ≡ list_any is_veto ((notices ++ cond (list_any is_veto notices) aborts rest) ++ micro.End ∷ [])
    whole notices aborts rest none = either (list_any is_veto notices) notices aborts rest refl none

-- a vetoed plan has the notices and the end for its script
pub planned-called_off : (s : State) (ks : List ChainStep) (settles : List Micro) → (planned s ks settles).vetoed ≡ true
    → (planned s ks settles).steps ≡ (pre_notices s ks ++ abort_notices s ks) ++ micro.End ∷ []
unfolding planned
planned-called_off s ks settles e =
    ap (λ (b : Bool). (pre_notices s ks ++ cond b (abort_notices s ks) (walked s ks ++ settles)) ++ micro.End ∷ []) e

along : (q n : State) (d : ℕ) (what : Sleeping) (ks : List ChainStep) (settles : List Micro) (range : Option (ℕ × ℕ)) (extra : ℕ) → may_raise what ≡ true
    → list_any is_veto settles ≡ false
    → pre_notices n ks ≡ pre_notices q ks → abort_notices n ks ≡ abort_notices q ks
    → undone (prep n) (change_along n d what ks settles range) ≡ record (prep q) { change = None } → SameClocks q n
    → HasScript q n (record (change_along n d what ks settles range) { extra = extra })
    → IsBegun q d what n (record (change_along n d what ks settles range) { extra = extra })
along q n d what ks settles range extra raising calm pre abort undone_is same has = record {
  driver = refl;
  call = refl;
  front = refl;
  on_time = refl;
  planned = refl;
  calm = λ e. let no : true ≡ false = sym raising ∙ e in absurd cc;
  vetoed = planned-vetoed n ks settles calm;
  off = λ e. record {
    notices = planned-called_off n ks settles e ∙ ap (λ (ms : List Micro). (ms ++ abort_notices n ks) ++ micro.End ∷ []) pre ∙ ap (λ (ms : List Micro). (pre_notices q ks ++ ms) ++ micro.End ∷ []) abort;
    undone_is = undone_is;
  };
  same = same;
  has = has;
}

requested_begins : (P : State → Change → Type 0) (old new fine lifted : State) (d : ℕ) (what : Sleeping) (c x : ℕ) (range : Option (ℕ × ℕ))
    → ((ks : List ChainStep) → P new (change_along new d what ks [] range)) → IfGoing P (request old new fine lifted d what c x range)
requested_begins P old new fine lifted d what c x range each =
    pick_either (IfGoing P) _ _ _ (λ e. answered P fine reply.Fine)
    (λ e. pick_either (IfGoing P) _ _ _ (λ e. turned_down P old errno.EBUSY)
    (λ e. by_plan (IfGoing P) (chain (wiring new) (view lifted) c x) (λ ks. starts old new (change_along new d what ks [] range)) (refused old errno.EINVAL)
    (turned_down P old errno.EINVAL) (λ ks. started P old new (change_along new d what ks [] range) (each ks))))

-- a range that is put back is the range before
range_put_back : (handles : List (Option HandleRow)) (n : ℕ) (h new : HandleRow) → handle_at handles n ≡ Some h → with_range (h.min, h.max) (without_enables new) ≡ without_enables h
    → slice_set (map (option_map without_enables) (set handles n (Some new))) n
    (option_map (with_range (h.min, h.max)) (handle_at (map (option_map without_enables) (set handles n (Some new))) n)) ≡ map (option_map without_enables) handles
range_put_back [] n h new at same = refl
range_put_back (o ∷ handles) zero h new at same =
    ap (λ (r : HandleRow). Some r ∷ map (option_map without_enables) handles) same
    ∙ ap (λ (g : Option HandleRow). option_map without_enables g ∷ map (option_map without_enables) handles) (sym at)
range_put_back (o ∷ handles) (suc n) h new at same =
    ap (λ (hs : List (Option HandleRow)). option_map without_enables o ∷ hs) (range_put_back handles n h new at same)

range_begins : (q : State) (d : ℕ) (h : Handle) (least most : ℕ) (row : HandleRow) → handle_at q.handles h.number ≡ Some row
    → IfGoing (IsBegun q d (call.SetRange h least most)) (range_set q d (call.SetRange h least most) h.number row least most)
unfolding prep
range_begins q d h least most row at =
    let new : State = put_handle q h.number (Some (record row { min = least; max = most })) in
    pick_either (IfGoing (IsBegun q d (call.SetRange h least most))) _ _ _ (λ e. turned_down (IsBegun q d (call.SetRange h least most)) q errno.EINVAL)
    (λ e. requested_begins (IsBegun q d (call.SetRange h least most)) q new new (lift new h.number) d (call.SetRange h least most) row.clock.0 (request_between q.clocks row.clock.0 least most) (Some (row.min, row.max))
    (λ ks. along q new d (call.SetRange h least most) ks [] (Some (row.min, row.max)) 0 refl refl refl refl
    (ap (λ (hs : List (Option HandleRow)). let p : State = record (prep q) { handles = hs; change = None } in p)
    (range_put_back q.handles h.number row (record row { min = least; max = most }) at refl)) (refl, refl, refl) (by_rate refl refl refl refl)))

parent_begins : (P : State → Change → Type 0) (s lifted : State) (d : ℕ) (what : Sleeping) (c p : ℕ) → P s (reparenting s d what c p) → IfGoing P (parent_set s lifted d what c p)
parent_begins P s lifted d what c p h =
    pick_either (IfGoing P) _ _ _ (λ e. answered P s reply.Fine)
    (λ e. pick_either (IfGoing P) _ _ _ (λ e. turned_down P s errno.EPERM)
    (λ e. pick_either (IfGoing P) _ _ _ (λ e. turned_down P s errno.EBUSY)
    (λ e. pick_either (IfGoing P) _ _ _ (λ e. started P s s (reparenting s d what c p) h) (λ e. turned_down P s errno.EINVAL))))

-- ---- other calls

got_begins : (P : State → Change → Type 0) (s : State) (d : ℕ) (found : Option ℕ) → IfGoing P (got s d found)
got_begins P s d None = turned_down P s errno.ENOENT
got_begins P s d (Some c) = pick_either (IfGoing P) _ _ _ (λ e. record { from = λ going. absurd cc }) (λ e. turned_down P s errno.EPROBE_DEFER)

unprepare_begins : (P : State → Change → Type 0) (s : State) (d : ℕ) (what : Sleeping) (number : ℕ) (h : HandleRow)
    → ((less : State) → SameClocks s less → P less (change_of less d what (micro.Lower h.clock ∷ micro.End ∷ []))) → IfGoing P (unprepare s d what number h)
unprepare_begins P s d what number h each =
    pick_either (IfGoing P) _ _ _ (λ e. answered P s reply.Warn)
    (λ e. pick_either (IfGoing P) _ _ _ (λ e. answered P (put_handle s number (Some (record h { prepares = h.prepares - 1 }))) reply.Fine)
    (λ e. started P s (put_handle s number (Some (record h { prepares = h.prepares - 1 }))) _ (each (put_handle s number (Some (record h { prepares = h.prepares - 1 }))) (refl, refl, refl))))

-- an adoption has no veto
adoption_has_no_veto : (s : State) (a : ℕ) → list_any is_veto (adoption s a) ≡ false
adoption_has_no_veto s a = one (link_given s.defs s.regs s.clocks a) where
  one : (o : Option ℕ) → list_any is_veto (option_map_or (λ p.
      cond (prepared s a) (micro.Raise (clock_id p) ∷ micro.HoldPrepare (clock_id p) ∷ micro.HoldEnable (clock_id p) ∷ micro.HoldEnable (clock_id a)
      ∷ micro.Relink (clock_id a) (clock_id p) ∷ micro.DropEnable (clock_id a) ∷ micro.Settle (clock_id a) ∷ [])
      (micro.Relink (clock_id a) (clock_id p) ∷ micro.Settle (clock_id a) ∷ [])) o []) ≡ false
  one None = refl
  one (Some p) = none_if is_veto (prepared s a) _ _ refl refl

probe_has_no_veto : (s : State) (c : ℕ) → list_any is_veto (probe_script s c) ≡ false
unfolding probe_script
probe_has_no_veto s c =
    let first : List Micro = cond (is_critical s.defs c) (micro.Raise (clock_id c) ∷ []) [] in
    let adoptions : List Micro = flat_map (adoption s) (adoption_order (length (adoptable s)) s (adoptable s)) in
    none_append is_veto ((first ++ micro.Register (clock_id c) ∷ []) ++ adoptions) (micro.End ∷ [])
    (none_append is_veto (first ++ micro.Register (clock_id c) ∷ []) adoptions
    (none_append is_veto first (micro.Register (clock_id c) ∷ []) (none_if is_veto (is_critical s.defs c) (micro.Raise (clock_id c) ∷ []) [] refl refl) refl)
    (none_flat_map is_veto (adoption s) (adoption_order (length (adoptable s)) s (adoptable s)) (adoption_has_no_veto s))) refl

-- a sweep closes gates, runs their parents meanwhile and takes power, and nothing else
pub sweep_has_no : (p : Micro → Bool) (s : State) → NoFeeding p → ((c : ℕ) → p (micro.Close (clock_id c)) ≡ false) → ((c : ℕ) → p (micro.Unpower (clock_id c)) ≡ false) → p micro.End ≡ false
    → list_any p (sweep_script s) ≡ false
unfolding sweep_script
sweep_has_no p s feeding close unpower end_ =
    whole (filter _ (sweep_order s)) (filter _ (sweep_order s)) where
      whole : (xs ys : List ℕ) → list_any p ((flat_map (close_of s.defs s.clocks) xs ++ map (λ c. micro.Unpower (clock_id c)) ys) ++ micro.End ∷ []) ≡ false
      whole xs ys =
          none_append p (flat_map (close_of s.defs s.clocks) xs ++ map (λ c. micro.Unpower (clock_id c)) ys) (micro.End ∷ [])
          (none_append p (flat_map (close_of s.defs s.clocks) xs) (map (λ c. micro.Unpower (clock_id c)) ys)
          (none_flat_map p (close_of s.defs s.clocks) xs (λ c. none_fed p (if runs_parent s.defs c then link_in s.clocks c else None) (micro.Close (clock_id c)) feeding (close c))) (none_map p (λ c. micro.Unpower (clock_id c)) ys unpower))
          (ap (λ (t : Bool). t || false) end_)

-- ---- each call

on_handle : (P : State → Change → Type 0) (s : State) (d : ℕ) (h : Handle) (f : HandleRow → State × Turn)
    → ((row : HandleRow) → handle_at s.handles h.number ≡ Some row → IfGoing P (f row)) → IfGoing P (with_handle s d h.number f)
on_handle P s d h f each =
    with_handle_either (IfGoing P) s d h.number f (turned_down P s errno.ENOENT) (λ row own. each row (own_is_live s d h.number row own))

-- what a call that goes on begins with
pub begun_going : (q : State) (d : ℕ) (what : Sleeping) → IfGoing (IsBegun q d what) (begun q d what)
unfolding begun
begun_going q d (call.Get found) = got_begins (IsBegun q d (call.Get found)) q d _
begun_going q d (call.Put h) = on_handle (IsBegun q d (call.Put h)) q d h (put_back q h.number) (λ row at.
    pick_either (IfGoing (IsBegun q d (call.Put h))) _ _ _ (λ e. turned_down (IsBegun q d (call.Put h)) q errno.EBUSY) (λ e. answered (IsBegun q d (call.Put h)) (put_handle q h.number None) reply.Fine))
begun_going q d (call.Prepare h) = on_handle (IsBegun q d (call.Prepare h)) q d h (prepare q d (call.Prepare h) h.number) (λ row at.
    pick_either (IfGoing (IsBegun q d (call.Prepare h))) _ _ _ (λ e. answered (IsBegun q d (call.Prepare h)) (prepared_once_more q h.number row) reply.Fine)
    (λ e. started (IsBegun q d (call.Prepare h)) q q (change_of q d (call.Prepare h) (micro.Raise row.clock ∷ micro.End ∷ []))
    (plain q q d (call.Prepare h) (micro.Raise row.clock ∷ micro.End ∷ []) refl (λ e. absurd cc) (refl, refl, refl) (raised_alone row.clock refl))))
begun_going q d (call.Unprepare h) = on_handle (IsBegun q d (call.Unprepare h)) q d h (unprepare q d (call.Unprepare h) h.number) (λ row at.
    unprepare_begins (IsBegun q d (call.Unprepare h)) q d (call.Unprepare h) h.number row (λ less same. plain q less d (call.Unprepare h) (micro.Lower row.clock ∷ micro.End ∷ []) refl (λ e. refl) same (lowered_alone row.clock refl)))
begun_going q d (call.GetRate h) = on_handle (IsBegun q d (call.GetRate h)) q d h _ (λ row at. answered (IsBegun q d (call.GetRate h)) q _)
begun_going q d (call.RoundRate h x) = on_handle (IsBegun q d (call.RoundRate h x)) q d h (λ row. rounded q h.number row x) (λ row at.
    by_found (IfGoing (IsBegun q d (call.RoundRate h x))) (round_rate (wiring q) (view (lift q h.number)) row.clock.0 x) (λ r. done q (reply.Rate r)) (refused q errno.EINVAL)
    (turned_down (IsBegun q d (call.RoundRate h x)) q errno.EINVAL) (λ r. answered (IsBegun q d (call.RoundRate h x)) q (reply.Rate r)))
begun_going q d (call.SetRate h x) = on_handle (IsBegun q d (call.SetRate h x)) q d h _ (λ row at.
    requested_begins (IsBegun q d (call.SetRate h x)) q q q (lift q h.number) d (call.SetRate h x) row.clock.0 x None
    (λ ks. along q q d (call.SetRate h x) ks [] None 0 refl refl refl refl refl (refl, refl, refl) (by_rate refl refl refl refl)))
begun_going q d (call.SetRateExclusive h x) = on_handle (IsBegun q d (call.SetRateExclusive h x)) q d h _ (λ row at.
    requested_begins (IsBegun q d (call.SetRateExclusive h x)) q q (held_once_more q h.number row) q d (call.SetRateExclusive h x) row.clock.0 x None
    (λ ks. along q q d (call.SetRateExclusive h x) ks [] None 0 refl refl refl refl refl (refl, refl, refl) (by_rate refl refl refl refl)))
begun_going q d (call.SetRange h least most) = on_handle (IsBegun q d (call.SetRange h least most)) q d h _ (λ row at. range_begins q d h least most row at)
begun_going q d (call.SetParent h p) = on_handle (IsBegun q d (call.SetParent h p)) q d h _ (λ row at.
    parent_begins (IsBegun q d (call.SetParent h p)) q (lift q h.number) d (call.SetParent h p) row.clock.0 p.0
    (along q q d (call.SetParent h p) _ (micro.Settle (clock_id row.clock.0) ∷ []) None _ refl refl refl refl refl (refl, refl, refl) (by_parent refl (clock_id row.clock.0) refl refl refl)))
begun_going q d (call.GetParent h) = on_handle (IsBegun q d (call.GetParent h)) q d h _ (λ row at. answered (IsBegun q d (call.GetParent h)) q _)
begun_going q d (call.ExclusiveGet h) = on_handle (IsBegun q d (call.ExclusiveGet h)) q d h _ (λ row at. answered (IsBegun q d (call.ExclusiveGet h)) (held_once_more q h.number row) reply.Fine)
begun_going q d (call.ExclusivePut h) = on_handle (IsBegun q d (call.ExclusivePut h)) q d h (exclusive_put q h.number) (λ row at.
    pick_either (IfGoing (IsBegun q d (call.ExclusivePut h))) _ _ _ (λ e. answered (IsBegun q d (call.ExclusivePut h)) q reply.Warn) (λ e. answered (IsBegun q d (call.ExclusivePut h)) _ reply.Fine))
begun_going q d (call.NotifierAdd h id priority policy) = on_handle (IsBegun q d (call.NotifierAdd h id priority policy)) q d h _ (λ row at.
    pick_either (IfGoing (IsBegun q d (call.NotifierAdd h id priority policy))) _ _ _ (λ e. turned_down (IsBegun q d (call.NotifierAdd h id priority policy)) q errno.EEXIST)
    (λ e. pick_either (IfGoing (IsBegun q d (call.NotifierAdd h id priority policy))) _ _ _ (λ e. turned_down (IsBegun q d (call.NotifierAdd h id priority policy)) q errno.ENOSPC)
    (λ e. answered (IsBegun q d (call.NotifierAdd h id priority policy)) _ reply.Fine)))
begun_going q d (call.NotifierRemove h id) = on_handle (IsBegun q d (call.NotifierRemove h id)) q d h _ (λ row at.
    pick_either (IfGoing (IsBegun q d (call.NotifierRemove h id))) _ _ _ (λ e. answered (IsBegun q d (call.NotifierRemove h id)) _ reply.Fine)
    (λ e. turned_down (IsBegun q d (call.NotifierRemove h id)) q errno.ENOENT))
begun_going q d (call.Probe c) =
    pick_either (IfGoing (IsBegun q d (call.Probe c))) _ _ _ (λ e. turned_down (IsBegun q d (call.Probe c)) q errno.EEXIST)
    (λ e. pick_either (IfGoing (IsBegun q d (call.Probe c))) _ _ _ (λ e. answered (IsBegun q d (call.Probe c)) (register q c.0) reply.Fine)
    (λ e. started (IsBegun q d (call.Probe c)) q q (change_of q d (call.Probe c) (probe_script (register q c.0) c.0))
    (plain q q d (call.Probe c) (probe_script (register q c.0) c.0) (probe_has_no_veto (register q c.0) c.0) (λ e. absurd cc) (refl, refl, refl) (by_registration c refl refl))))
begun_going q d call.Sweep =
    pick_either (IfGoing (IsBegun q d call.Sweep)) _ _ _ (λ e. answered (IsBegun q d call.Sweep) q reply.Fine)
    (λ e. started (IsBegun q d call.Sweep) q q (change_of q d call.Sweep (sweep_script q))
    (plain q q d call.Sweep (sweep_script q) (sweep_has_no is_veto q feeding_is_no_veto (λ c. refl) (λ c. refl) refl) (λ e. absurd cc) (refl, refl, refl) (by_sweep refl)))
