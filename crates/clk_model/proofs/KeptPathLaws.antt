-- Laws on steps and one clock: a step that doesn't disturb its path leaves its path, its rate and the handles on it.
use Rattle.std.proofs.Common.{◌≡◌, ℕ, zero, suc, ◌+◌, ◌-◌, ◌<◌, ◌^◌, ◌||◌, Bool, true, false, not, cond, set, List, [], ◌∷◌, Option, Some, None, refl, sym, ap, ◌∙◌, ◌⊎◌, inl, inr, arith, length, nat_lt}
use Rattle.std.proofs.Math.Path.{fun_ext}
use Rattle.std.proofs.lemmas.Bool.Decides.{nat_tests}
use Rattle.std.specs.Prelude.{◌==◌, if◌then◌else◌, find, nat_le, reverse, slice_get, option_map}
use Rattle.std.specs.List.{AllByRecursion}
use Rattle.std.specs.Option.{option_map_or}
use Rattle.clk_base.specs.declared.call.Micro.{Micro}
use Rattle.clk_base.specs.declared.call.Micro.TheVariants as micro
use Rattle.clk_base.specs.declared.call.Sleeping.{Sleeping}
use Rattle.clk_base.specs.declared.call.Sleeping.TheVariants as call
use Rattle.clk_base.specs.Description.{Description, kind_of}
use Rattle.clk_base.specs.Fields.{Field}
use Rattle.clk_base.specs.Levels.{depth}
use Rattle.clk_base.specs.Valid.{IsValid}
use Rattle.reg_bank.specs.Registers.{Registers, field, put}
use Rattle.clk_model.specs.declared.row.ClockRow.{ClockRow}
use Rattle.clk_model.specs.declared.row.HandleRow.{HandleRow}
use Rattle.clk_model.specs.Lists.{is_in, is_at}
use Rattle.clk_model.specs.Kinds.{mux_field}
use Rattle.clk_model.specs.State.{State, Change, ChainStep, row_of, link_in, handle_at, requested}
use Rattle.clk_model.specs.Tree.{path_within, path, children}
use Rattle.clk_model.specs.Rate.{rate}
use Rattle.clk_model.specs.Gates.{settled}
use Rattle.clk_model.specs.Walk.{below_within}
use Rattle.clk_model.specs.Chain.{clock_id, setting}
use Rattle.clk_model.specs.Round.{wiring, parent_rate_in}
use Rattle.clk_model.specs.Begin.{prepared_once_more, held_once_more, request_between, register}
use Rattle.clk_model.specs.Step.{on, powered, timed_out, to_raise, raise_one, raise, poll, is_yes, to_lower, lower_one, lower, relink, set_in_chain, settle_all, ended_well, with_range, range_back, unranged, stepped}
use Rattle.clk_model.specs.Laws.Paths.{scales_by}
use Rattle.clk_model.proofs.Members.{same_from_test}
use Rattle.clk_model.proofs.Cases.{by_option, by_test}
use Rattle.clk_model.proofs.WholePathLaws.{relinks_leave_paths, other_member, same_or_not}
use Rattle.clk_model.proofs.RateLaws.{rate-links, relinks_leave_rates, registers_leave_others, writes_leave_rates}
use Rattle.clk_model.proofs.HoldSteps.{link_set_same, settled_links}
use Rattle.clk_model.proofs.KeepLaws.{mux_written}
use Rattle.clk_model.proofs.RestLaws.{clock_of_handle, clock_at-set}
use Rattle.clk_model.proofs.EndSafeLaws.{by_live}
use Rattle.clk_model.proofs.FieldLaws.{FieldStays, mux_no_scale, powered_stays, closed_stays, settled_stays, written_stays, set_stays}
use Rattle.clk_model.proofs.GateRateLaws.{scales_is_field}

-- whether a step might change the links or the fields of clocks on this path: it relinks or registers one, or writes a place that
-- doesn't fit its field
abbrev pub disturbs : Description → List ℕ → Micro → Bool
disturbs defs kept (micro.Relink c p) = is_in c.0 kept
disturbs defs kept (micro.Register c) = is_in c.0 kept
disturbs defs kept (micro.WriteMux c place) = option_map_or (λ f. not (nat_lt place (2 ^ f.width))) (mux_field (kind_of defs c.0)) false
disturbs defs kept _ = false

-- no clock of a chain is on this path
abbrev pub IsOff : List ℕ → List ChainStep → Type 0
IsOff kept ks = AllByRecursion (λ k. is_in k.clock kept ≡ false) ks

-- ---- what is left of a clock

-- another state has the clock's path, its rate, and each handle on it or none in its place
pub record LeavesClock (c : ℕ) (s y : State) : Type 0 where
  pub defs : y.defs ≡ s.defs
  pub path_is : path y.clocks c ≡ path s.clocks c
  pub rate_is : rate y.defs y.regs y.clocks c ≡ rate s.defs s.regs s.clocks c
  pub handles : (number : ℕ) → clock_of_handle s.handles number ≡ Some c → (clock_of_handle y.handles number ≡ Some c) ⊎ (handle_at y.handles number ≡ None)

-- each handle on a clock stays on it, or there is none in its place
abbrev pub HandlesStay : ℕ → List (Option HandleRow) → List (Option HandleRow) → Type 0
HandlesStay c old new = (number : ℕ) → clock_of_handle old number ≡ Some c → (clock_of_handle new number ≡ Some c) ⊎ (handle_at new number ≡ None)

handles_same : (c : ℕ) (old new : List (Option HandleRow)) → new ≡ old → HandlesStay c old new
handles_same c old new same number at = inl (ap (λ (hs : List (Option HandleRow)). clock_of_handle hs number) same ∙ at)

-- where all links are the same
pub leaves_links : (c : ℕ) (s y : State) → y.defs ≡ s.defs → y.regs ≡ s.regs → ((d : ℕ) → link_in y.clocks d ≡ link_in s.clocks d) → HandlesStay c s.handles y.handles → LeavesClock c s y
leaves_links c s y defs regs links handles = record {
  defs = defs;
  path_is = ap (λ (up : ℕ → Option ℕ). path_within up depth c) (fun_ext links);
  rate_is =
      ap (λ (ds : Description). rate ds y.regs y.clocks c) defs ∙ ap (λ (rs : Registers). rate s.defs rs y.clocks c) regs
      ∙ rate-links s.defs s.regs s.clocks y.clocks c links;
  handles = handles;
}

pub leaves_same : (c : ℕ) (s y : State) → y.defs ≡ s.defs → y.regs ≡ s.regs → y.clocks ≡ s.clocks → HandlesStay c s.handles y.handles → LeavesClock c s y
leaves_same c s y defs regs clocks handles = leaves_links c s y defs regs (λ d. ap (λ (rs : List ClockRow). link_in rs d) clocks) handles

leaves_all : (c : ℕ) (s y : State) → y.defs ≡ s.defs → y.regs ≡ s.regs → y.clocks ≡ s.clocks → y.handles ≡ s.handles → LeavesClock c s y
leaves_all c s y defs regs clocks handles = leaves_same c s y defs regs clocks (handles_same c s.handles y.handles handles)

-- the field of a clock reads the same, or it divides and multiplies by nothing
abbrev ScaleStays : State → Registers → ℕ → Type 0
ScaleStays s regs a = FieldStays s.defs s.regs regs a ⊎ ((f : Field) → scales_by (kind_of s.defs a) ≡ Some f → ⊥)

-- where what the clocks on the path divide and multiply by is the same
leaves_written : (c : ℕ) (s : State) (regs : Registers) (change : Option Change) → ((a : ℕ) → is_in a (path s.clocks c) ≡ true → ScaleStays s regs a)
    → LeavesClock c s (record s { regs = regs; change = change })
leaves_written c s regs change stays = record {
  defs = refl;
  path_is = refl;
  rate_is = writes_leave_rates s.defs s.regs regs s.clocks c (λ a m f at. one a f at (stays a m));
  handles = λ number at. inl at;
} where
  one : (a : ℕ) (f : Field) → scales_by (kind_of s.defs a) ≡ Some f → ScaleStays s regs a → field regs f.word f.shift f.width ≡ field s.regs f.word f.shift f.width
  one a f at (inl same) = same f (scales_is_field (kind_of s.defs a) f at)
  one a f at (inr none) = absurd (none f at)

-- ---- PLLs

leaves_powered : (c : ℕ) (s : State) (y : ℕ) (up : Bool) (k : Change) → IsValid (length s.regs) s.defs → LeavesClock c s (on (powered s y up) k)
leaves_powered c s y up k valid = leaves_written c s (powered s y up).regs (Some k) (λ a m. inl (powered_stays s (length s.regs) y up a valid))

leaves_raised : (c : ℕ) (s : State) (k : Change) (x : ℕ) → IsValid (length s.regs) s.defs → LeavesClock c s (raise s k x)
leaves_raised c s k x valid =
    by_option (LeavesClock c s) (slice_get (reverse (to_raise s k x)) 0) (raise_one s k x) (on s (record k { again = 0 })) (leaves_all c s (on s (record k { again = 0 })) refl refl refl refl)
    (λ y. leaves_powered c s y true _ valid)

leaves_lowered : (c : ℕ) (s : State) (k : Change) (x : ℕ) → IsValid (length s.regs) s.defs → LeavesClock c s (lower s k x)
leaves_lowered c s k x valid =
    by_option (LeavesClock c s) (slice_get (to_lower s x) 0) (lower_one s k x) (on s (record k { again = 0 })) (leaves_all c s (on s (record k { again = 0 })) refl refl refl refl)
    (λ y. leaves_powered c s y false _ valid)

leaves_polled : (c : ℕ) (s : State) (k : Change) (y : ℕ) (b : Bool) → LeavesClock c s (poll s k y b)
leaves_polled c s k y true = leaves_all c s (on s (record k { polls = 0 })) refl refl refl refl
leaves_polled c s k y false =
    by_test (LeavesClock c s) (nat_le k.polls 1) (timed_out s (record k { polls = 0 })) (on s (record k { polls = k.polls - 1; front = micro.Poll (clock_id y) ∷ k.front }))
    (leaves_all c s (timed_out s (record k { polls = 0 })) refl refl refl refl) (leaves_all c s _ refl refl refl refl)

-- ---- settings

-- a clock that the chain hasn't has no planned rate, or is off the path
planned_off : (kept : List ℕ) (c : ℕ) (ks : List ChainStep) → IsOff kept ks → (find (λ k. k.clock == c) ks ≡ None) ⊎ (is_in c kept ≡ false)
planned_off kept c [] off = inl refl
planned_off kept c (k ∷ ks) off = one (k.clock == c) refl (planned_off kept c ks off.1) where
  one : (t : Bool) → (k.clock == c) ≡ t → (find (λ l. l.clock == c) ks ≡ None) ⊎ (is_in c kept ≡ false)
      → (cond t (Some k) (find (λ l. l.clock == c) ks) ≡ None) ⊎ (is_in c kept ≡ false)
  one true e rest = inr (ap (λ (x : ℕ). is_in x kept) (sym (same_from_test k.clock c e)) ∙ off.0)
  one false e rest = rest

leaves_visited : (c : ℕ) (s : State) (k l : Change) (d : ℕ) → IsValid (length s.regs) s.defs → IsOff (path s.clocks c) k.chain
    → LeavesClock c s (record s { regs = set_in_chain s k d; change = Some l })
leaves_visited c s k l d valid off = leaves_written c s (set_in_chain s k d) (Some l) (λ a m. inl (by_plan a m (planned_off (path s.clocks c) d k.chain off))) where
  by_plan : (a : ℕ) → is_in a (path s.clocks c) ≡ true → (find (λ step. step.clock == d) k.chain ≡ None) ⊎ (is_in d (path s.clocks c) ≡ false) → FieldStays s.defs s.regs (set_in_chain s k d) a
  by_plan a m (inl none) =
      λ f at. unset (is_at d k.missed) f where
        unset : (t : Bool) (f : Field) → field (option_map_or (λ planned. setting (kind_of s.defs d) (parent_rate_in (wiring s) d) planned s.regs)
            (if t then None else option_map (λ step. step.rate) (find (λ step. step.clock == d) k.chain)) s.regs) f.word f.shift f.width ≡ field s.regs f.word f.shift f.width
        unset true f = refl
        unset false f = ap (λ (o : Option ChainStep). field (option_map_or (λ planned. setting (kind_of s.defs d) (parent_rate_in (wiring s) d) planned s.regs) (option_map (λ step. step.rate) o) s.regs) f.word f.shift f.width) none
  by_plan a m (inr out) = set_stays s k (length s.regs) d a valid (λ same. other_member d a (path s.clocks c) out m (sym same))

leaves_muxed : (c : ℕ) (s : State) (k : Change) (d place : ℕ) → IsValid (length s.regs) s.defs → disturbs s.defs (path s.clocks c) (micro.WriteMux (clock_id d) place) ≡ false
    → LeavesClock c s (record s { regs = mux_written s d place; change = Some k })
leaves_muxed c s k d place valid calm = leaves_written c s (mux_written s d place) (Some k) (λ a m. by_clock a (same_or_not a d)) where
  fits : (f : Field) → mux_field (kind_of s.defs d) ≡ Some f → place < 2 ^ f.width
  fits f at =
      let small : not (nat_lt place (2 ^ f.width)) ≡ false = sym (ap (λ (o : Option Field). option_map_or (λ g. not (nat_lt place (2 ^ g.width))) o false) at) ∙ calm in
      below (nat_lt place (2 ^ f.width)) refl small where
        below : (t : Bool) → nat_lt place (2 ^ f.width) ≡ t → not t ≡ false → place < 2 ^ f.width
        below true e fine = grind (arith, nat_tests)
        below false e fine = absurd cc

  by_clock : (a : ℕ) → (a ≡ d) ⊎ (a ≡ d → ⊥) → ScaleStays s (mux_written s d place) a
  by_clock a (inr other) = inl (written_stays s (length s.regs) d place a valid fits other)
  by_clock a (inl same) = by_mux (mux_field (kind_of s.defs d)) refl where
    by_mux : (o : Option Field) → mux_field (kind_of s.defs d) ≡ o → ScaleStays s (mux_written s d place) a
    by_mux None own = inl (λ f at. ap (λ (p : Option Field). field (option_map_or (λ g. put s.regs g.word g.shift g.width place) p s.regs) f.word f.shift f.width) own)
    by_mux (Some g) own = inr (λ f at. mux_no_scale (kind_of s.defs a) g f (ap (λ (x : ℕ). mux_field (kind_of s.defs x)) same ∙ own) at)

-- ---- links and registrations

leaves_linked : (c : ℕ) (s : State) (k : Change) (d p : ℕ) → is_in d (path s.clocks c) ≡ false → LeavesClock c s (relink s k d p)
leaves_linked c s k d p out = record {
  defs = refl;
  path_is = relinks_leave_paths s.clocks d p c out;
  rate_is = relinks_leave_rates s.defs s.regs s.clocks d p c out;
  handles = λ number at. inl at;
}

pub leaves_registered : (c : ℕ) (s : State) (d : ℕ) → is_in d (path s.clocks c) ≡ false → LeavesClock c s (register s d)
unfolding register
leaves_registered c s d out =
    let left = registers_leave_others s d c out in
    record { defs = refl; path_is = left.0; rate_is = left.1; handles = λ number at. inl at }

-- ---- the end

-- a last request
leaves_requested : (c : ℕ) (s : State) (d x : ℕ) → LeavesClock c s (record s { clocks = requested s.clocks d x; change = None })
leaves_requested c s d x =
    leaves_links c s (record s { clocks = requested s.clocks d x; change = None }) refl refl (λ e. link_set_same s.clocks d (record (row_of s.clocks d) { last_request = x }) e refl) (λ number at. inl at)

-- a handle that stays on its clock
clock_mapped : (f : HandleRow → HandleRow) (handles : List (Option HandleRow)) (n m : ℕ) → ((h : HandleRow) → (f h).clock ≡ h.clock)
    → clock_of_handle (set handles n (option_map f (handle_at handles n))) m ≡ clock_of_handle handles m
clock_mapped f [] n m same = refl
clock_mapped f (None ∷ handles) zero zero same = refl
clock_mapped f (Some h ∷ handles) zero zero same = ap (λ (k : _). Some k.0) (same h)
clock_mapped f (h ∷ handles) zero (suc m) same = refl
clock_mapped f (h ∷ handles) (suc n) zero same = refl
clock_mapped f (h ∷ handles) (suc n) (suc m) same = clock_mapped f handles n m same

-- a range that is put back
ranged_stay : (what : Sleeping) (range : Option (ℕ × ℕ)) (handles : List (Option HandleRow)) (number : ℕ) → clock_of_handle (range_back what range handles) number ≡ clock_of_handle handles number
ranged_stay (call.SetRange h least most) (Some range) handles number = clock_mapped (with_range range) handles h.number number (λ row. refl)
ranged_stay (call.SetRange h least most) None handles number = refl
ranged_stay (call.Get found) range handles number = refl
ranged_stay (call.Put h) range handles number = refl
ranged_stay (call.Prepare h) range handles number = refl
ranged_stay (call.Unprepare h) range handles number = refl
ranged_stay (call.GetRate h) range handles number = refl
ranged_stay (call.RoundRate h x) range handles number = refl
ranged_stay (call.SetRate h x) range handles number = refl
ranged_stay (call.SetRateExclusive h x) range handles number = refl
ranged_stay (call.SetParent h p) range handles number = refl
ranged_stay (call.GetParent h) range handles number = refl
ranged_stay (call.ExclusiveGet h) range handles number = refl
ranged_stay (call.ExclusivePut h) range handles number = refl
ranged_stay (call.NotifierAdd h id priority policy) range handles number = refl
ranged_stay (call.NotifierRemove h id) range handles number = refl
ranged_stay (call.Probe c) range handles number = refl
ranged_stay call.Sweep range handles number = refl

-- the same of a state without its change
abbrev LeavesBehind : ℕ → State → State → Type 0
LeavesBehind c s u = LeavesClock c s (record u { change = None })

leaves_well : (c : ℕ) (s : State) (d : ℕ) (what : Sleeping) → LeavesBehind c s (ended_well s d what)
leaves_well c s d (call.Prepare h) =
    by_live (LeavesBehind c s) (handle_at s.handles h.number) (prepared_once_more s h.number) s (λ none. leaves_all c s (record s { change = None }) refl refl refl refl)
    (λ row at. leaves_same c s (record (prepared_once_more s h.number row) { change = None }) refl refl refl
    (λ number is. inl (clock_at-set s.handles h.number number row (record row { prepares = row.prepares + 1 }) at refl ∙ is)))
leaves_well c s d (call.SetRate h x) =
    by_live (LeavesBehind c s) (handle_at s.handles h.number) (λ row. record s { clocks = requested s.clocks row.clock.0 x }) s
    (λ none. leaves_all c s (record s { change = None }) refl refl refl refl) (λ row at. leaves_requested c s row.clock.0 x)
leaves_well c s d (call.SetRateExclusive h x) =
    by_live (LeavesBehind c s) (handle_at s.handles h.number) (λ row. record (held_once_more s h.number row) { clocks = requested s.clocks row.clock.0 x }) s
    (λ none. leaves_all c s (record s { change = None }) refl refl refl refl)
    (λ row at. leaves_links c s (record (held_once_more s h.number row) { clocks = requested s.clocks row.clock.0 x; change = None }) refl refl
    (λ e. link_set_same s.clocks row.clock.0 (record (row_of s.clocks row.clock.0) { last_request = x }) e refl)
    (λ number is. inl (clock_at-set s.handles h.number number row (record row { exclusives = row.exclusives + 1 }) at refl ∙ is)))
leaves_well c s d (call.SetRange h least most) =
    by_live (LeavesBehind c s) (handle_at s.handles h.number) (λ row. record s { clocks = requested s.clocks row.clock.0 (request_between s.clocks row.clock.0 least most) }) s
    (λ none. leaves_all c s (record s { change = None }) refl refl refl refl) (λ row at. leaves_requested c s row.clock.0 (request_between s.clocks row.clock.0 least most))
leaves_well c s d what = leaves_all c s (record s { change = None }) refl refl refl refl

leaves_end : (c : ℕ) (s : State) (k : Change) → LeavesBehind c s (cond (k.vetoed || k.timed_out) (unranged s k) (ended_well s k.driver k.call))
leaves_end c s k =
    by_test (LeavesBehind c s) (k.vetoed || k.timed_out) (unranged s k) (ended_well s k.driver k.call)
    (leaves_same c s (record (unranged s k) { change = None }) refl refl refl (λ number is. inl (ranged_stay k.call k.range s.handles number ∙ is)))
    (leaves_well c s k.driver k.call)

-- ---- each step

-- a step that doesn't disturb the path of a clock leaves the clock, where the chain isn't on it
pub step_leaves_clock : (c : ℕ) (s : State) (k : Change) (answer : Option Bool) (m : Micro) → IsValid (length s.regs) s.defs → disturbs s.defs (path s.clocks c) m ≡ false
    → IsOff (path s.clocks c) k.chain → LeavesClock c s (stepped s k answer m).0
unfolding stepped
step_leaves_clock c s k answer (micro.Notify kind d id old new) valid calm off = leaves_all c s (on s k) refl refl refl refl
step_leaves_clock c s k answer (micro.Raise x) valid calm off = leaves_raised c s k x.0 valid
step_leaves_clock c s k answer (micro.Poll y) valid calm off = leaves_polled c s k y.0 (is_yes answer)
step_leaves_clock c s k answer (micro.Fall y) valid calm off = leaves_powered c s y.0 false _ valid
step_leaves_clock c s k answer (micro.HoldPrepare x) valid calm off = leaves_all c s _ refl refl refl refl
step_leaves_clock c s k answer (micro.HoldEnable x) valid calm off = leaves_all c s _ refl refl refl refl
step_leaves_clock c s k answer (micro.Relink d p) valid calm off = leaves_linked c s k d.0 p.0 calm
step_leaves_clock c s k answer (micro.WriteMux d place) valid calm off = leaves_muxed c s k d.0 place valid calm
step_leaves_clock c s k answer (micro.DropEnable x) valid calm off = leaves_all c s _ refl refl refl refl
step_leaves_clock c s k answer (micro.DropPrepare x) valid calm off = leaves_all c s _ refl refl refl refl
step_leaves_clock c s k answer (micro.Lower x) valid calm off = leaves_lowered c s k x.0 valid
step_leaves_clock c s k answer (micro.Visit d) valid calm off = leaves_visited c s k _ d.0 valid off
step_leaves_clock c s k answer (micro.Register d) valid calm off =
    let left = leaves_registered c s d.0 calm in
    record { defs = left.defs; path_is = left.path_is; rate_is = left.rate_is; handles = left.handles }
step_leaves_clock c s k answer (micro.Settle d) valid calm off =
    leaves_links c s (on (record s { clocks = settle_all s (below_within (children s.order s.clocks) depth d.0) }) k) refl refl
    (settled_links s (below_within (children s.order s.clocks) depth d.0)) (λ number at. inl at)
step_leaves_clock c s k answer (micro.Close d) valid calm off = leaves_written c s _ (Some k) (λ a m. inl (closed_stays s (length s.regs) d.0 a valid))
step_leaves_clock c s k answer (micro.Unpower d) valid calm off = leaves_powered c s d.0 false k valid
step_leaves_clock c s k answer micro.End valid calm off = leaves_end c s k

-- ---- gates that follow

-- gates that follow, and the counters, leave it
pub leaves_settled : (c : ℕ) (s q u : State) (spent steps : ℕ) → IsValid (length u.regs) u.defs → LeavesClock c s u → LeavesClock c s (record (settled q u) { spent = spent; steps = steps })
unfolding settled
leaves_settled c s q u spent steps valid left = record {
  defs = left.defs;
  path_is = left.path_is;
  rate_is = writes_leave_rates u.defs u.regs (settled q u).regs u.clocks c (λ a m f at. settled_stays q u a valid f (scales_is_field (kind_of u.defs a) f at)) ∙ left.rate_is;
  handles = left.handles;
}
