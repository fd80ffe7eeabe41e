-- Laws on the steps of a call: what each makes of the prepare tier's part of a state depends on that part and the step alone.
use Rattle.std.proofs.Common.{◌≡◌, ℕ, ◌+◌, ◌-◌, ◌^◌, Bool, true, false, not, cond, ◌&&◌, List, [], ◌∷◌, ◌++◌, Option, Some, None, refl, sym, ap, subst, ◌∙◌, arith, length, nat_le, nat_eq, get_or}
use mathlib.Core.Path.{fun_ext}
use Rattle.std.specs.Prelude.{if◌then◌else◌, filter, option_map, option_and_then, slice_get, slice_set, nat_lt, reverse}
use Rattle.std.specs.Option.{option_map_or}
use Rattle.std.proofs.lemmas.Bool.{and_parts, leb-true, ltb-true}
use Rattle.clk_base.specs.declared.call.Micro.TheVariants as micro
use Rattle.clk_base.specs.declared.clock.Kind.{Kind}
use Rattle.clk_base.specs.declared.clock.Kind.TheVariants.{FixedRate, Factor, Gate, Mux, Divider, Pll}
use Rattle.clk_base.specs.Description.{kind_of, parents_of}
use Rattle.clk_base.specs.Fields.{Field, PowerBit, gate_of, power_of}
use Rattle.clk_base.specs.Valid.{has_ranges}
use Rattle.kind_math.specs.Dividers.{div_setting}
use Rattle.kind_math.specs.Plls.{pll_multiplier}
use Rattle.reg_bank.specs.Registers.{Registers, field, put, put_bit}
use Rattle.clk_model.specs.declared.row.ClockRow.{ClockRow}
use Rattle.clk_model.specs.declared.row.HandleRow.{HandleRow}
use Rattle.clk_model.specs.Lists.{is_in, without}
use Rattle.clk_model.specs.Kinds.{mux_field, is_pll, with_gate}
use Rattle.clk_model.specs.State.{State, Change, link_in, row_of}
use Rattle.clk_model.specs.Tree.{path, path_to_be, link_given, if_registered, selected, children}
use Rattle.clk_model.specs.Walk.{below_within}
use Rattle.clk_base.specs.Levels.{depth}
use Rattle.clk_model.specs.Rate.{rate, style_of}
use Rattle.clk_model.specs.Holders.{is_held, active, prepared}
use Rattle.clk_model.specs.Round.{wiring, parent_rate_in}
use Rattle.clk_model.specs.Chain.{clock_id, setting}
use Rattle.clk_model.specs.Notices.{post_list}
use Rattle.clk_model.specs.Script.{runs}
use Rattle.clk_model.specs.Begin.{register, registered_row, registered_rows}
use Rattle.clk_model.specs.Step.{on, powered, to_raise, most_polls, raise, poll, timed_out, to_lower, lower, write_mux, planned_rate, set_in_chain, visit, register_in, settle_all, settle, close}
use Rattle.clk_model.specs.Prep.{masked, change_prep}
use Rattle.clk_model.proofs.ApartLaws.{mux_is_field, ranges_hold}
use Rattle.clk_model.proofs.AlikeLaws.{Alike, LooksAlike, fields_of_masks, runs_same, masked_closed}
use Rattle.clk_model.proofs.MaskedPutLaws.{masked_put, masked_bit}
use Rattle.clk_model.proofs.PlannedSameLaws.{Rest, beside, preparers_same}
use Rattle.clk_model.proofs.SameSettingLaws.{SameFields, rates_same}
use Rattle.clk_model.proofs.SettingLaws.{div_setting-fits, divider_wide, pll_multiplier-le}

-- a gate that a step closes is no part of it
pub shut : (s : State) (c : ℕ) → masked s.defs (if active s c then s.regs else option_map_or (λ gate. with_gate s.regs gate false) (gate_of (kind_of s.defs c)) s.regs) ≡ masked s.defs s.regs
shut s c = by (active s c) where
  by : (b : Bool) → masked s.defs (if b then s.regs else option_map_or (λ gate. with_gate s.regs gate false) (gate_of (kind_of s.defs c)) s.regs) ≡ masked s.defs s.regs
  by true = refl
  by false = masked_closed s.defs s.regs c

-- ---- the steps over two states that look alike

module _ (words : ℕ) (s : State) (new : Registers) (after : List (Option HandleRow)) (x : Rest) (look : LooksAlike words s new after) where
  abbrev t : State
  t = beside s new after x

  regs : SameFields s.defs s.regs new
  regs = fields_of_masks words s.defs s.regs new look.valid look.masks

  pub prepared_same : prepared t ≡ prepared s
  prepared_same = fun_ext (λ c. ap (λ (hs : List ℕ). is_held s.clocks hs c) (preparers_same s s.regs new s.handles after x x look.handles))

  pub selected_same : (c : ℕ) → selected s.defs new c ≡ selected s.defs s.regs c
  selected_same c = by (mux_field (kind_of s.defs c)) refl where
    by : (o : Option Field) → mux_field (kind_of s.defs c) ≡ o
        → option_map_or (λ f. slice_get (parents_of s.defs c) (field new f.word f.shift f.width)) o (slice_get (parents_of s.defs c) 0)
        ≡ option_map_or (λ f. slice_get (parents_of s.defs c) (field s.regs f.word f.shift f.width)) o (slice_get (parents_of s.defs c) 0)
    by None at = refl
    by (Some f) at = ap (λ (n : ℕ). slice_get (parents_of s.defs c) n) (regs.fields c f (mux_is_field (kind_of s.defs c) f at))

  pub link_same : (c : ℕ) → link_given s.defs new s.clocks c ≡ link_given s.defs s.regs s.clocks c
  unfolding link_given
  link_same c = ap (λ (o : Option ℕ). option_and_then (if_registered s.clocks) o) (selected_same c)

  pub path_same : (c : ℕ) → path_to_be s.defs new s.clocks c ≡ path_to_be s.defs s.regs s.clocks c
  path_same c = ap (λ (o : Option ℕ). if (row_of s.clocks c).registered then path s.clocks c else c ∷ option_map_or (path s.clocks) o []) (link_same c)

  raise_same : (k : Change) (c : ℕ) → to_raise t k c ≡ to_raise s k c
  raise_same k c =
      ap (λ (ps : List ℕ). filter (λ y. not (is_in y k.raised)) (filter (λ a. is_pll (kind_of s.defs a) && not (prepared t a)) ps)) (path_same c)
      ∙ ap (λ (p : ℕ → Bool). filter (λ y. not (is_in y k.raised)) (filter (λ a. is_pll (kind_of s.defs a) && not (p a)) (path_to_be s.defs s.regs s.clocks c))) prepared_same

  pub lower_same : (c : ℕ) → to_lower t c ≡ to_lower s c
  lower_same c =
      ap (λ (test : ℕ → Bool). filter test (filter (λ a. is_pll (kind_of s.defs a) && not (prepared t a)) (path s.clocks c))) (fun_ext (λ y. runs_same words s.defs s.regs new y look.valid look.masks))
      ∙ ap (λ (p : ℕ → Bool). filter (runs s.defs s.regs) (filter (λ a. is_pll (kind_of s.defs a) && not (p a)) (path s.clocks c))) prepared_same

  pub on_alike : (k : Change) → Alike (on t k) (on s k)
  on_alike k = record {
    defs = refl;
    regs = look.masks;
    clocks = refl;
    order = refl;
    handles = look.handles;
    notifiers = refl;
    prepare_holds = refl;
    change = refl;
    credits = refl;
    ignore_unused = refl;
  }

  pub power_masks : (y : ℕ) (up : Bool) → masked s.defs (powered t y up).regs ≡ masked s.defs (powered s y up).regs
  power_masks y up = by (power_of (kind_of s.defs y)) where
    by : (o : Option PowerBit) → masked s.defs (option_map_or (λ p. put_bit new p.word p.bit up) o new) ≡ masked s.defs (option_map_or (λ p. put_bit s.regs p.word p.bit up) o s.regs)
    by None = look.masks
    by (Some p) = masked_bit s.defs new s.regs p.word p.bit up look.masks

  pub power_alike : (y : ℕ) (up : Bool) (k : Change) → Alike (on (powered t y up) k) (on (powered s y up) k)
  power_alike y up k = record {
    defs = refl;
    regs = power_masks y up;
    clocks = refl;
    order = refl;
    handles = look.handles;
    notifiers = refl;
    prepare_holds = refl;
    change = refl;
    credits = refl;
    ignore_unused = refl;
  }

  abbrev raised_at : State → Change → ℕ → List ℕ → ℕ → State
  raised_at u k c ys y = on (powered u y true) (record k {
    raised = y ∷ k.raised;
    polls = most_polls;
    again = if nat_le 2 (length ys) then k.again + 1 else 0;
    front = micro.Poll (clock_id y) ∷ (if nat_le 2 (length ys) then micro.Raise (clock_id c) ∷ [] else []) ++ k.front;
  })

  abbrev raised_over : State → Change → ℕ → List ℕ → State
  raised_over u k c ys = option_map_or (raised_at u k c ys) (slice_get (reverse ys) 0) (on u (record k { again = 0 }))

  pub raise_alike : (k : Change) (c : ℕ) → Alike (raise t k c) (raise s k c)
  raise_alike k c = subst (λ (ys : List ℕ). Alike (raised_over t k c ys) (raised_over s k c (to_raise s k c))) (sym (raise_same k c)) (by (to_raise s k c) (slice_get (reverse (to_raise s k c)) 0)) where
    by : (ys : List ℕ) (o : Option ℕ) → Alike (option_map_or (raised_at t k c ys) o (on t (record k { again = 0 }))) (option_map_or (raised_at s k c ys) o (on s (record k { again = 0 })))
    by ys None = on_alike _
    by ys (Some y) = power_alike y true _

  pub poll_alike : (k : Change) (y : ℕ) (b : Bool) → Alike (poll t k y b) (poll s k y b)
  poll_alike k y true = on_alike _
  poll_alike k y false = by (nat_le k.polls 1) where
    by : (b : Bool) → Alike (cond b (timed_out t (record k { polls = 0 })) (on t (record k { polls = k.polls - 1; front = micro.Poll (clock_id y) ∷ k.front })))
        (cond b (timed_out s (record k { polls = 0 })) (on s (record k { polls = k.polls - 1; front = micro.Poll (clock_id y) ∷ k.front })))
    by true = on_alike _
    by false = on_alike _

  abbrev lowered_at : State → Change → ℕ → List ℕ → ℕ → State
  lowered_at u k c ys y = on (powered u y false) (record k {
    again = if nat_le 2 (length ys) then k.again + 1 else 0;
    front = (if nat_le 2 (length ys) then micro.Lower (clock_id c) ∷ [] else []) ++ k.front;
  })

  abbrev lowered_over : State → Change → ℕ → List ℕ → State
  lowered_over u k c ys = option_map_or (lowered_at u k c ys) (slice_get ys 0) (on u (record k { again = 0 }))

  pub lower_alike : (k : Change) (c : ℕ) → Alike (lower t k c) (lower s k c)
  lower_alike k c = subst (λ (ys : List ℕ). Alike (lowered_over t k c ys) (lowered_over s k c (to_lower s c))) (sym (lower_same c)) (by (to_lower s c) (slice_get (to_lower s c) 0)) where
    by : (ys : List ℕ) (o : Option ℕ) → Alike (option_map_or (lowered_at t k c ys) o (on t (record k { again = 0 }))) (option_map_or (lowered_at s k c ys) o (on s (record k { again = 0 })))
    by ys None = on_alike _
    by ys (Some y) = power_alike y false _

  mux_masks : (c place : ℕ) → option_map_or (λ f. nat_lt place (2 ^ f.width)) (mux_field (kind_of s.defs c)) true ≡ true → (k : Change) → masked s.defs (write_mux t k c place).regs ≡ masked s.defs (write_mux s k c place).regs
  mux_masks c place fits k = by (mux_field (kind_of s.defs c)) fits where
    by : (o : Option Field) → option_map_or (λ f. nat_lt place (2 ^ f.width)) o true ≡ true
        → masked s.defs (option_map_or (λ f. put new f.word f.shift f.width place) o new) ≡ masked s.defs (option_map_or (λ f. put s.regs f.word f.shift f.width place) o s.regs)
    by None fit = look.masks
    by (Some f) fit = masked_put s.defs new s.regs f.word f.shift f.width place (ltb-true place (2 ^ f.width) fit) look.masks

  setting_masks : (c parent planned : ℕ) → masked s.defs (setting (kind_of s.defs c) parent planned new) ≡ masked s.defs (setting (kind_of s.defs c) parent planned s.regs)
  setting_masks c parent planned = by (kind_of s.defs c) refl where
    by : (kind : Kind) → kind_of s.defs c ≡ kind → masked s.defs (setting kind parent planned new) ≡ masked s.defs (setting kind parent planned s.regs)
    by (FixedRate r) is = look.masks
    by (Factor mult div) is = look.masks
    by (Gate word bit set_to_disable) is = look.masks
    by (Mux word shift width read_only) is = look.masks
    by (Divider word shift width one_based power_of_two) is =
        let ranges : has_ranges (Divider word shift width one_based power_of_two) (length (parents_of s.defs c)) ≡ true =
        ap (λ (q : Kind). has_ranges q (length (parents_of s.defs c))) (sym is) ∙ ranges_hold words s.defs look.valid c in
        masked_put s.defs new s.regs word shift width (div_setting parent planned width (style_of one_based power_of_two))
        (div_setting-fits (style_of one_based power_of_two) parent planned width (divider_wide one_based power_of_two width ranges)) look.masks
    by (Pll word shift width power_word power_bit least most m) is =
        let ranges : has_ranges (Pll word shift width power_word power_bit least most m) (length (parents_of s.defs c)) ≡ true =
        ap (λ (q : Kind). has_ranges q (length (parents_of s.defs c))) (sym is) ∙ ranges_hold words s.defs look.valid c in
        let parts = and_parts _ _ ranges in
        let order = leb-true least most (and_parts _ _ parts.0).1 in
        let below = ltb-true most (2 ^ width) parts.1 in
        let le = pll_multiplier-le parent planned least most m order in
        masked_put s.defs new s.regs word shift width (pll_multiplier parent planned least most m) (omega arith) look.masks

  pub now_same : rate s.defs new s.clocks ≡ rate s.defs s.regs s.clocks
  now_same = rates_same s.defs s.clocks s.regs new regs

  chain_masks : (k : Change) (c : ℕ) → masked s.defs (set_in_chain t k c) ≡ masked s.defs (set_in_chain s k c)
  chain_masks k c = by (planned_rate k c) where
    by : (o : Option ℕ) → masked s.defs (option_map_or (λ planned. setting (kind_of s.defs c) (parent_rate_in (wiring t) c) planned new) o new)
        ≡ masked s.defs (option_map_or (λ planned. setting (kind_of s.defs c) (parent_rate_in (wiring s) c) planned s.regs) o s.regs)
    by None = look.masks
    by (Some planned) =
        setting_masks c (parent_rate_in (wiring t) c) planned
        ∙ ap (λ (rates : ℕ → ℕ). masked s.defs (setting (kind_of s.defs c) (option_map_or rates (link_in s.clocks c) 0) planned s.regs)) now_same

  pub visit_alike : (k : Change) (c : ℕ) → Alike (visit t k c) (visit s k c)
  visit_alike k c = record {
    defs = refl;
    regs = chain_masks k c;
    clocks = refl;
    order = refl;
    handles = look.handles;
    notifiers = refl;
    prepare_holds = refl;
    change =
        ap (λ (rates : ℕ → ℕ). let l : Change = record k {
          front = (if nat_eq (rates c) (get_or k.before c 0) then [] else post_list (record { before = k.before; outcome = k.outcome }) s.notifiers c) ++ k.front;
        } in Some (change_prep l)) (rates_same s.defs s.clocks (set_in_chain s k c) (set_in_chain t k c) (fields_of_masks words s.defs (set_in_chain s k c) (set_in_chain t k c) look.valid (chain_masks k c)));
    credits = refl;
    ignore_unused = refl;
  }

  pub rows_same : (c : ℕ) → registered_rows s.defs new s.clocks c ≡ registered_rows s.defs s.regs s.clocks c
  rows_same c =
      ap (λ (o : Option ℕ). let row : ClockRow = record { registered = true; link = option_map clock_id o; last_request = 0 } in
      slice_set s.clocks c (record row { last_request = rate s.defs new (slice_set s.clocks c row) c })) (link_same c)
      ∙ ap (λ (n : ℕ). slice_set s.clocks c (record (registered_row s.defs s.regs s.clocks c) { last_request = n }))
      (ap (λ (rates : ℕ → ℕ). rates c) (rates_same s.defs (slice_set s.clocks c (registered_row s.defs s.regs s.clocks c)) s.regs new regs))

  pub register_alike : (k : Change) (c : ℕ) → Alike (register_in t k c) (register_in s k c)
  unfolding register
  register_alike k c = record {
    defs = refl;
    regs = look.masks;
    clocks = rows_same c;
    order = refl;
    handles = look.handles;
    notifiers = refl;
    prepare_holds = refl;
    change = ap (λ (ps : List ℕ). let l : Change = record k { raised = without ps k.raised } in Some (change_prep l)) (path_same c);
    credits = refl;
    ignore_unused = refl;
  }

  settled_same : (cs : List ℕ) → settle_all t cs ≡ settle_all s cs
  settled_same [] = refl
  settled_same (c ∷ cs) =
      ap (λ (rows : List ClockRow). slice_set rows c (record (row_of rows c) { last_request = rate s.defs new s.clocks c })) (settled_same cs)
      ∙ ap (λ (rates : ℕ → ℕ). slice_set (settle_all s cs) c (record (row_of (settle_all s cs) c) { last_request = rates c })) now_same

  pub settle_alike : (k : Change) (c : ℕ) → Alike (settle t k c) (settle s k c)
  settle_alike k c = record {
    defs = refl;
    regs = look.masks;
    clocks = settled_same (below_within (children s.order s.clocks) depth c);
    order = refl;
    handles = look.handles;
    notifiers = refl;
    prepare_holds = refl;
    change = refl;
    credits = refl;
    ignore_unused = refl;
  }

  pub close_alike : (k : Change) (c : ℕ) → Alike (close t k c) (close s k c)
  close_alike k c = record {
    defs = refl;
    regs = shut t c ∙ look.masks ∙ sym (shut s c);
    clocks = refl;
    order = refl;
    handles = look.handles;
    notifiers = refl;
    prepare_holds = refl;
    change = refl;
    credits = refl;
    ignore_unused = refl;
  }

  pub write_alike : (k : Change) (c place : ℕ) → option_map_or (λ f. nat_lt place (2 ^ f.width)) (mux_field (kind_of s.defs c)) true ≡ true → Alike (write_mux t k c place) (write_mux s k c place)
  write_alike k c place fits = record {
    defs = refl;
    regs = mux_masks c place fits k;
    clocks = refl;
    order = refl;
    handles = look.handles;
    notifiers = refl;
    prepare_holds = refl;
    change = refl;
    credits = refl;
    ignore_unused = refl;
  }

  -- a state that differs from these in links, order and holds alone
  pub with_links : (cs : List ClockRow) (order_ holds old new_ : List ℕ) (k : Change)
      → Alike (on (record t { clocks = cs; order = order_; prepare_holds = holds; enable_holds = new_ }) k) (on (record s { clocks = cs; order = order_; prepare_holds = holds; enable_holds = old }) k)
  with_links cs order_ holds old new_ k = record {
    defs = refl;
    regs = look.masks;
    clocks = refl;
    order = refl;
    handles = look.handles;
    notifiers = refl;
    prepare_holds = refl;
    change = refl;
    credits = refl;
    ignore_unused = refl;
  }
