-- Laws on supplied states: they are fed, and the gates' rule and the enable tier keep them so.
use Rattle.std.proofs.Common.{◌≡◌, ℕ, ◌+◌, ◌-◌, ◌<◌, ◌||◌, Bool, true, false, cond, List, [], ◌∷◌, ◌++◌, Option, Some, None, refl, sym, ap, subst, ◌∙◌, inl, inr, arith, length, nat_lt}
use Rattle.std.specs.Prelude.{IfSome, IsSome, slice_get, option_and_then}
use Rattle.std.specs.Option.{option_map_or}
use Rattle.std.proofs.lemmas.Bool.{cases_lt}
use Rattle.std.proofs.lemmas.Bool.Decides.{nat_tests}
use Rattle.std.proofs.lemmas.List.Folds.{list_any-append}
use Rattle.clk_base.specs.declared.event.Event.{Event}
use Rattle.clk_base.specs.declared.event.Event.TheVariants as event
use Rattle.clk_base.specs.declared.event.Turn.{Turn}
use Rattle.clk_base.specs.Description.{Description, kind_of, parents_of}
use Rattle.clk_base.specs.Fields.{Field, GateBit, PowerBit, bit_field, gate_of, power_of, field_of}
use Rattle.clk_base.specs.Valid.{IsValid}
use Rattle.clk_base.proofs.Valid.{lines_end, gate-field, power-field, field-field, gate-within, gates-once}
use Rattle.reg_bank.specs.Registers.{Registers, field, put_bit}
use Rattle.reg_bank.proofs.BitLaws.{field-put_bit_apart, field-put_bit_other_word}
use Rattle.clk_model.specs.declared.row.ClockRow.{ClockRow}
use Rattle.clk_model.specs.declared.row.HandleRow.{HandleRow}
use Rattle.clk_model.specs.Lists.{is_in, count_from}
use Rattle.clk_model.specs.Kinds.{mux_field, is_open, is_powered}
use Rattle.clk_model.specs.State.{State, link_in, handle_at}
use Rattle.clk_model.specs.Tree.{path, selected}
use Rattle.clk_model.specs.Holders.{clocks_of, is_enabled, is_prepared, critical_clocks, enable_holders, is_held, active, prepared}
use Rattle.clk_model.specs.Fed.{feeds, IsFed}
use Rattle.clk_model.specs.Gates.{follow, gates_moved, settled}
use Rattle.clk_model.specs.Begin.{put_handle, own_handle}
use Rattle.clk_model.specs.Machine.{paid, next}
use Rattle.clk_model.specs.Laws.Plans.{LieApart}
use Rattle.clk_model.specs.Laws.Supplied.{GatesOpen, IsFeeder, IsReady, Supplies, IsSupplied, SuppliedIsFed, SettledIsSupplied, EnableTierKeepsFed}
use Rattle.clk_model.specs.Tier.{is_enable_tier}
use Rattle.clk_model.proofs.Members.{or_cases, or_left, or_right, is_in_head, is_in_tail, is_in-count_from, count_from-below}
use Rattle.clk_model.proofs.HolderLaws.{is_under, held_by, held_by-set_same, held_by-set_more, active_parts}
use Rattle.clk_model.proofs.GateLaws.{GatesLie, length-gates_moved}
use Rattle.clk_model.proofs.StateLaws.{active-put_more, active-put_less}
use Rattle.clk_model.proofs.FedLaws.{is_held-parent, moved_open}
use Rattle.clk_model.proofs.EventLaws.{own_is_live, enable-unknown, enable-unprepared, enable-fine, disable-unknown, disable-warned, disable-fine, running-unknown, running-told}
use Rattle.clk_model.proofs.ApartLaws.{fields_apart, fielded_lt, mux_is_field, gate_or_field}
use Rattle.clk_model.proofs.SettingLaws.{bit_same}

-- ---- fed

held_active : (s : State) (c : ℕ) → is_held s.clocks s.enable_holds c ≡ true → active s c ≡ true
held_active s c held =
    active_parts s c ∙ or_right (held_by s.clocks is_enabled s.handles c || is_held s.clocks (critical_clocks s) c) (is_held s.clocks s.enable_holds c) held

pub if_one : {X : Type 0} (P : X → Type 0) (o : Option X) → ((x : X) → o ≡ Some x → P x) → IfSome o P
if_one P None each = tt
if_one P (Some x) each = each x refl

fed_by : (s : State) (p : ℕ) (o : Option ℕ) → active s p ≡ true → IsFeeder s p o → IfSome o (λ q. active s q ≡ true) × IsSome o
fed_by s p None act from = absurd from
fed_by s p (Some q) act (inl same) = (ap (active s) same ∙ act, refl)
fed_by s p (Some q) act (inr held) = (held_active s q held, refl)

no_feed : (defs : Description) (regs : Registers) (clocks : List ClockRow) (c : ℕ) → link_in clocks c ≡ None → feeds defs regs clocks c ≡ None
no_feed defs regs clocks c e = ap (λ (o : Option ℕ). option_and_then (λ p. option_map_or (λ f. selected defs regs c) (mux_field (kind_of defs c)) (Some p)) o) e

-- a supplied state is fed
pub supplied_is_fed : SuppliedIsFed
supplied_is_fed s is c act = by_link (link_in s.clocks c) refl where
  ready : IsReady s c
  ready = is.supplies.ready c (is.supplies.prepared_ c act)

  by_link : (o : Option ℕ) → link_in s.clocks c ≡ o → IsFed s.defs s.regs s.clocks (active s) c
  by_link None e = record {
    open_ = is.gates c act;
    powered = ready.powered;
    link = subst (λ (o : Option ℕ). IfSome o (λ p. active s p ≡ true)) (sym e) tt;
    feeding = subst (λ (o : Option ℕ). IfSome o (λ p. active s p ≡ true)) (sym (no_feed s.defs s.regs s.clocks c e)) tt;
    has_feeding = λ some. let no : false ≡ true = subst (λ (o : Option ℕ). IsSome o) e some in absurd cc;
  }
  by_link (Some p) e =
      let up = is_held-parent (parents_of s.defs) s.clocks (enable_holders s) c p is.supplies.links (lines_end (length s.regs) s.defs is.supplies.valid) act e in
      let fed = fed_by s p (feeds s.defs s.regs s.clocks c) up (ready.feeding p e) in
      record {
        open_ = is.gates c act;
        powered = ready.powered;
        link = subst (λ (o : Option ℕ). IfSome o (λ q. active s q ≡ true)) (sym e) up;
        feeding = fed.0;
        has_feeding = λ some. fed.1;
      }

-- ---- gates that move leave the other fields

-- a field lies apart from the gates of these clocks
abbrev pub LiesOffGates : Description → List ℕ → Field → Type 0
LiesOffGates defs cs f = (c : ℕ) (gate : GateBit) → is_in c cs ≡ true → gate_of (kind_of defs c) ≡ Some gate → LieApart f (bit_field gate.word gate.bit)

pub field-put_off : (regs : Registers) (f : Field) (gate : GateBit) (value : Bool) → LieApart f (bit_field gate.word gate.bit)
    → field (put_bit regs gate.word gate.bit value) f.word f.shift f.width ≡ field regs f.word f.shift f.width
field-put_off regs f gate value (inl other) = field-put_bit_other_word regs gate.word gate.bit value f.word f.shift f.width other
field-put_off regs f gate value (inr (inl below)) = field-put_bit_apart regs gate.word gate.bit value f.word f.shift f.width (inl below)
field-put_off regs f gate value (inr (inr above)) = field-put_bit_apart regs gate.word gate.bit value f.word f.shift f.width (inr (omega arith))

field-follow : (regs : Registers) (f : Field) (before after : Bool) (gate : GateBit) → LieApart f (bit_field gate.word gate.bit)
    → field (follow regs before after gate) f.word f.shift f.width ≡ field regs f.word f.shift f.width
field-follow regs f false true gate apart = field-put_off regs f gate _ apart
field-follow regs f true false gate apart = field-put_off regs f gate _ apart
field-follow regs f false false gate apart = refl
field-follow regs f true true gate apart = refl

field-gate_moved : (o : Option GateBit) (regs : Registers) (f : Field) (before after : Bool) → ((gate : GateBit) → o ≡ Some gate → LieApart f (bit_field gate.word gate.bit))
    → field (option_map_or (follow regs before after) o regs) f.word f.shift f.width ≡ field regs f.word f.shift f.width
field-gate_moved None regs f before after apart = refl
field-gate_moved (Some gate) regs f before after apart = field-follow regs f before after gate (apart gate refl)

-- gates that move leave a field that lies apart from them
pub field-gates_moved : (defs : Description) (before after : ℕ → Bool) (cs : List ℕ) (regs : Registers) (f : Field) → LiesOffGates defs cs f
    → field (gates_moved defs before after cs regs) f.word f.shift f.width ≡ field regs f.word f.shift f.width
field-gates_moved defs before after [] regs f off = refl
field-gates_moved defs before after (c ∷ cs) regs f off =
    field-gate_moved (gate_of (kind_of defs c)) (gates_moved defs before after cs regs) f (before c) (after c) (λ gate e. off c gate (is_in_head c cs) e)
    ∙ field-gates_moved defs before after cs regs f (λ d gate m e. off d gate (is_in_tail d c cs m) e)

-- so the fields of muxes and the power bits stay, where the description is valid
pub mux_off_gates : (words : ℕ) (defs : Description) (cs : List ℕ) (c : ℕ) (f : Field) → IsValid words defs → mux_field (kind_of defs c) ≡ Some f → LiesOffGates defs cs f
mux_off_gates words defs cs c f valid at d gate m e =
    let own = mux_is_field (kind_of defs c) f at in
    fields_apart words defs valid c 0 f d 0 (bit_field gate.word gate.bit) (field-field (kind_of defs c) f own) (gate-field (kind_of defs d) gate e)
    (λ same. absurd (gate_or_field (kind_of defs d) gate f e (ap (λ (x : ℕ). field_of (kind_of defs x)) (sym same) ∙ own)))

pub power_off_gates : (words : ℕ) (defs : Description) (cs : List ℕ) (c : ℕ) (power : PowerBit) → IsValid words defs → power_of (kind_of defs c) ≡ Some power
    → LiesOffGates defs cs (bit_field power.word power.bit)
power_off_gates words defs cs c power valid at d gate m e =
    fields_apart words defs valid c 1 (bit_field power.word power.bit) d 0 (bit_field gate.word gate.bit)
    (power-field (kind_of defs c) power at) (gate-field (kind_of defs d) gate e) (λ same equal. omega arith)

-- ---- what feeds, over other registers

pub selected_same : (defs : Description) (regs regs' : Registers) (c : ℕ) → ((f : Field) → mux_field (kind_of defs c) ≡ Some f → field regs' f.word f.shift f.width ≡ field regs f.word f.shift f.width)
    → selected defs regs' c ≡ selected defs regs c
selected_same defs regs regs' c same = by_field (mux_field (kind_of defs c)) same where
  by_field : (o : Option Field) → ((f : Field) → o ≡ Some f → field regs' f.word f.shift f.width ≡ field regs f.word f.shift f.width)
      → option_map_or (λ f. slice_get (parents_of defs c) (field regs' f.word f.shift f.width)) o (slice_get (parents_of defs c) 0)
      ≡ option_map_or (λ f. slice_get (parents_of defs c) (field regs f.word f.shift f.width)) o (slice_get (parents_of defs c) 0)
  by_field None each = refl
  by_field (Some f) each = ap (λ (n : ℕ). slice_get (parents_of defs c) n) (each f refl)

pub feeds_same : (defs : Description) (regs regs' : Registers) (clocks : List ClockRow) (c : ℕ)
    → ((f : Field) → mux_field (kind_of defs c) ≡ Some f → field regs' f.word f.shift f.width ≡ field regs f.word f.shift f.width)
    → feeds defs regs' clocks c ≡ feeds defs regs clocks c
feeds_same defs regs regs' clocks c same =
    ap (λ (o : Option ℕ). option_and_then (λ p. option_map_or (λ f. o) (mux_field (kind_of defs c)) (Some p)) (link_in clocks c)) (selected_same defs regs regs' c same)

-- ---- settled states

listed_lt : (c n : ℕ) → is_in c (count_from 0 n) ≡ true → c < n
listed_lt c n m = let below : c < 0 + n = count_from-below c 0 n m in omega arith

-- the gates of a valid description lie apart
pub gates_lie : (defs : Description) (words : ℕ) → IsValid words defs → GatesLie defs (count_from 0 (length defs)) words
gates_lie defs words valid = record {
  within = λ c gate m at. gate-within words defs valid c gate (listed_lt c (length defs) m) at;
  apart = λ c d gate other m n at at' word bit. gates-once words defs valid d c other gate (listed_lt d (length defs) n) (listed_lt c (length defs) m) at' at word bit;
}

-- the gates' rule keeps a state supplied
pub settled_is_supplied : SettledIsSupplied
unfolding settled
settled_is_supplied old new supplies gates =
    let all : List ℕ = count_from 0 (length new.defs) in
    let regs : Registers = gates_moved new.defs (active old) (active new) all new.regs in
    let size : length regs ≡ length new.regs = length-gates_moved new.defs (active old) (active new) all new.regs in
    record {
      supplies = record {
        valid = subst (λ (n : ℕ). IsValid n new.defs) (sym size) supplies.valid;
        links = supplies.links;
        prepared_ = supplies.prepared_;
        ready = λ c prep.
            let is = supplies.ready c prep in
            record {
              powered = if_one (λ power. is_powered regs power ≡ true) (power_of (kind_of new.defs c))
                  (λ power at.
                  bit_same regs new.regs power.word power.bit
                  (field-gates_moved new.defs (active old) (active new) all new.regs (bit_field power.word power.bit) (power_off_gates (length new.regs) new.defs all c power supplies.valid at))
                  ∙ some_one (λ power. is_powered new.regs power ≡ true) (power_of (kind_of new.defs c)) power is.powered at);
              feeding = λ p e.
                  subst (λ (o : Option ℕ). IsFeeder new p o)
                  (sym (feeds_same new.defs new.regs regs new.clocks c
                  (λ f at. field-gates_moved new.defs (active old) (active new) all new.regs f (mux_off_gates (length new.regs) new.defs all c f supplies.valid at))))
                  (is.feeding p e);
            };
      };
      gates = λ c act. if_one (λ gate. is_open regs gate ≡ true) (gate_of (kind_of new.defs c))
          (λ gate at.
          let inside : c < length new.defs = fielded_lt new.defs c 0 (bit_field gate.word gate.bit) (gate-field (kind_of new.defs c) gate at) in
          moved_open new.defs (active old) (active new) all new.regs c gate (gates_lie new.defs (length new.regs) supplies.valid)
          (λ was. some_one (λ gate. is_open new.regs gate ≡ true) (gate_of (kind_of new.defs c)) gate (gates c was) at)
          (is_in-count_from c 0 (length new.defs) (omega arith) (omega arith)) act at);
    } where
      some_one : {X : Type 0} (P : X → Type 0) (o : Option X) (x : X) → IfSome o P → o ≡ Some x → P x
      some_one P o x each e = subst (λ u. IfSome u P) e each

-- ---- the enable tier

pub prepared_parts : (s : State) (c : ℕ)
    → prepared s c ≡ ((held_by s.clocks is_prepared s.handles c || is_held s.clocks (critical_clocks s) c) || is_held s.clocks s.prepare_holds c)
prepared_parts s c =
    list_any-append (λ h. is_in c (path s.clocks h)) (clocks_of is_prepared s.handles ++ critical_clocks s) s.prepare_holds
    ∙ ap (λ (t : Bool). t || is_held s.clocks s.prepare_holds c) (list_any-append (λ h. is_in c (path s.clocks h)) (clocks_of is_prepared s.handles) (critical_clocks s))

-- a handle with as many prepares keeps prepared what was
pub prepared-put_same : (s : State) (n : ℕ) (old new : HandleRow) (c : ℕ) → handle_at s.handles n ≡ Some old → new.clock ≡ old.clock → new.prepares ≡ old.prepares
    → prepared (put_handle s n (Some new)) c ≡ prepared s c
prepared-put_same s n old new c at clock same =
    prepared_parts (put_handle s n (Some new)) c
    ∙ ap (λ (t : Bool). (t || is_held s.clocks (critical_clocks s) c) || is_held s.clocks s.prepare_holds c)
    (held_by-set_same s.clocks is_prepared s.handles n old new c at clock (ap (λ (k : ℕ). nat_lt 0 k) same))
    ∙ sym (prepared_parts s c)

-- what is under a prepared handle is prepared
under_prepared : (s : State) (n : ℕ) (h : HandleRow) (c : ℕ) → handle_at s.handles n ≡ Some h → 0 < h.prepares → is_under s.clocks h c ≡ true → prepared s c ≡ true
under_prepared s n h c at some under =
    let prep : is_prepared h ≡ true = grind (arith, nat_tests) in
    let held : held_by s.clocks is_prepared s.handles c ≡ true =
    sym (held_by-set_same s.clocks is_prepared s.handles n h h c at refl refl)
    ∙ held_by-set_more s.clocks is_prepared s.handles n h h c at refl prep
    ∙ or_right (held_by s.clocks is_prepared s.handles c) (is_under s.clocks h c) under in
    prepared_parts s c
    ∙ or_left (held_by s.clocks is_prepared s.handles c || is_held s.clocks (critical_clocks s) c) (is_held s.clocks s.prepare_holds c)
    (or_left (held_by s.clocks is_prepared s.handles c) (is_held s.clocks (critical_clocks s) c) held)

supplies_put : (s : State) (n : ℕ) (old new : HandleRow) → Supplies s → handle_at s.handles n ≡ Some old → new.clock ≡ old.clock → new.prepares ≡ old.prepares
    → ((c : ℕ) → active (put_handle s n (Some new)) c ≡ true → prepared s c ≡ true) → Supplies (put_handle s n (Some new))
supplies_put s n old new supplies at clock same more = record {
  valid = supplies.valid;
  links = supplies.links;
  prepared_ = λ c act. prepared-put_same s n old new c at clock same ∙ more c act;
  ready = λ c prep.
      let is = supplies.ready c (sym (prepared-put_same s n old new c at clock same) ∙ prep) in
      record { powered = is.powered; feeding = is.feeding };
}

supplies_enabled : (s : State) (n : ℕ) (h : HandleRow) → Supplies s → handle_at s.handles n ≡ Some h → 0 < h.prepares
    → Supplies (put_handle s n (Some (record h { enables = h.enables + 1 })))
supplies_enabled s n h supplies at some =
    let new : HandleRow = record h { enables = h.enables + 1 } in
    let on_ : is_enabled new ≡ true = grind (arith, nat_tests) in
    supplies_put s n h new supplies at refl refl
    (λ c act.
    elim (or_cases (active s c) (is_under s.clocks h c) (sym (active-put_more s n h new c at refl on_) ∙ act)) [
      | inl was ↦ supplies.prepared_ c was
      | inr under ↦ under_prepared s n h c at some under
    ])

supplies_disabled : (s : State) (n : ℕ) (h : HandleRow) → Supplies s → handle_at s.handles n ≡ Some h → 0 < h.enables
    → Supplies (put_handle s n (Some (record h { enables = h.enables - 1 })))
supplies_disabled s n h supplies at some =
    let new : HandleRow = record h { enables = h.enables - 1 } in
    let on_ : is_enabled h ≡ true = grind (arith, nat_tests) in
    supplies_put s n h new supplies at refl refl
    (λ c act. supplies.prepared_ c (active-put_less s n h new c at refl on_ ∙ or_left (active (put_handle s n (Some new)) c) (is_under s.clocks h c) act))

-- what a paid event leaves
pub paid_is : (s y t : State) (r x : Turn) → paid s (y, r) ≡ Some (t, x) → t ≡ record (settled s y) { spent = s.spent + 1 }
paid_is s y t r x e = by_credit (nat_lt s.spent s.credits) e where
  by_credit : (b : Bool) → cond {A = Option (State × Turn)} b (Some (record (settled s y) { spent = s.spent + 1 }, r)) None ≡ Some (t, x) → t ≡ record (settled s y) { spent = s.spent + 1 }
  by_credit false f = absurd cc
  by_credit true f = ap (λ (o : Option (State × Turn)). option_map_or (λ (z : State × Turn). z.0) o t) (sym f)

-- a credit more or less is nothing to a supplied state
supplied_spent : (s : State) (k : ℕ) → IsSupplied s → IsSupplied (record s { spent = k })
supplied_spent s k is = record {
  supplies = record {
    valid = is.supplies.valid;
    links = is.supplies.links;
    prepared_ = is.supplies.prepared_;
    ready = λ c prep. let r = is.supplies.ready c prep in record { powered = r.powered; feeding = r.feeding };
  };
  gates = is.gates;
}

supplied_paid : (s y t : State) (r x : Turn) → IsSupplied s → Supplies y → GatesOpen s y → paid s (y, r) ≡ Some (t, x) → IsSupplied t
supplied_paid s y t r x is supplies gates e =
    subst (λ (u : State). IsSupplied u) (sym (paid_is s y t r x e)) (supplied_spent (settled s y) (s.spent + 1) (settled_is_supplied s y supplies gates))

enable_keeps : (s t : State) (d n : ℕ) (x : Turn) → IsSupplied s → next s d (event.Enable n) ≡ Some (t, x) → IsSupplied t
enable_keeps s t d n x is e = by_handle (own_handle s d n) refl where
  by_handle : (o : Option HandleRow) → own_handle s d n ≡ o → IsSupplied t
  by_handle None none = supplied_paid s s t _ x is is.supplies is.gates (sym (enable-unknown s d n none) ∙ e)
  by_handle (Some h) own = elim (cases_lt 0 h.prepares) [
    | inl some ↦
        supplied_paid s (put_handle s n (Some (record h { enables = h.enables + 1 }))) t _ x is
        (supplies_enabled s n h is.supplies (own_is_live s d n h own) some) is.gates (sym (enable-fine s d n h own some) ∙ e)
    | inr idle ↦ supplied_paid s s t _ x is is.supplies is.gates (sym (enable-unprepared s d n h own (omega arith)) ∙ e)
  ]

disable_keeps : (s t : State) (d n : ℕ) (x : Turn) → IsSupplied s → next s d (event.Disable n) ≡ Some (t, x) → IsSupplied t
disable_keeps s t d n x is e = by_handle (own_handle s d n) refl where
  by_handle : (o : Option HandleRow) → own_handle s d n ≡ o → IsSupplied t
  by_handle None none = supplied_paid s s t _ x is is.supplies is.gates (sym (disable-unknown s d n none) ∙ e)
  by_handle (Some h) own = elim (cases_lt 0 h.enables) [
    | inl some ↦
        supplied_paid s (put_handle s n (Some (record h { enables = h.enables - 1 }))) t _ x is
        (supplies_disabled s n h is.supplies (own_is_live s d n h own) some) is.gates (sym (disable-fine s d n h own some) ∙ e)
    | inr idle ↦ supplied_paid s s t _ x is is.supplies is.gates (sym (disable-warned s d n h own (omega arith)) ∙ e)
  ]

running_keeps : (s t : State) (d n : ℕ) (x : Turn) → IsSupplied s → next s d (event.Running n) ≡ Some (t, x) → IsSupplied t
running_keeps s t d n x is e = by_handle (own_handle s d n) refl where
  by_handle : (o : Option HandleRow) → own_handle s d n ≡ o → IsSupplied t
  by_handle None none = supplied_paid s s t _ x is is.supplies is.gates (sym (running-unknown s d n none) ∙ e)
  by_handle (Some h) own = supplied_paid s s t _ x is is.supplies is.gates (sym (running-told s d n h own) ∙ e)

-- the enable tier keeps a state supplied
tier_keeps : (s t : State) (d : ℕ) (e : Event) (x : Turn) → IsSupplied s → is_enable_tier e ≡ true → next s d e ≡ Some (t, x) → IsSupplied t
tier_keeps s t d (event.Enable n) x is tier f = enable_keeps s t d n x is f
tier_keeps s t d (event.Disable n) x is tier f = disable_keeps s t d n x is f
tier_keeps s t d (event.Running n) x is tier f = running_keeps s t d n x is f
tier_keeps s t d (event.Begin what) x is tier f = absurd cc
tier_keeps s t d (event.Step m answer) x is tier f = absurd cc

pub enable_tier_keeps_fed : EnableTierKeepsFed
enable_tier_keeps_fed s t d e x is tier f = let kept = tier_keeps s t d e x is tier f in (kept, supplied_is_fed t kept)
