-- Laws on the enable tier beside a change: it leaves the change, what is still to be raised or lowered, and the weight.
use Rattle.std.proofs.Common.{◌≡◌, ℕ, ◌+◌, ◌-◌, Bool, true, not, ◌&&◌, List, Option, Some, None, refl, sym, ap, subst, ◌∙◌, inl, inr, arith, length, set}
use Rattle.std.specs.Prelude.{filter}
use Rattle.std.proofs.lemmas.Bool.{cases_lt}
use Rattle.clk_base.specs.declared.event.Event.{Event}
use Rattle.clk_base.specs.declared.event.Event.TheVariants as event
use Rattle.clk_base.specs.declared.event.Turn.{Turn}
use Rattle.clk_base.specs.Description.{kind_of}
use Rattle.clk_base.specs.Valid.{IsValid}
use Rattle.clk_model.specs.declared.row.HandleRow.{HandleRow}
use Rattle.clk_model.specs.Lists.{is_in}
use Rattle.clk_model.specs.Kinds.{is_pll}
use Rattle.clk_model.specs.State.{State, Change}
use Rattle.clk_model.specs.Tree.{path, path_to_be}
use Rattle.clk_model.specs.Holders.{prepared}
use Rattle.clk_model.specs.Gates.{settled}
use Rattle.clk_model.specs.Script.{runs, unprepared_plls}
use Rattle.clk_model.specs.Begin.{own_handle}
use Rattle.clk_model.specs.Step.{to_raise, to_lower}
use Rattle.clk_model.specs.Machine.{next}
use Rattle.clk_model.specs.Laws.Weight.{weight_left}
use Rattle.clk_model.specs.Tier.{is_enable_tier}
use Rattle.clk_model.specs.Laws.Paced.{left_of, Front, tells, polls, polls_to_raise, raises, lowers, IsPaced, EnableTierKeepsPaced}
use Rattle.clk_model.proofs.EventLaws.{own_is_live, enable-unknown, enable-unprepared, enable-fine, disable-unknown, disable-warned, disable-fine, running-unknown, running-told}
use Rattle.clk_model.proofs.SupplyLaws.{paid_is, prepared-put_same}
use Rattle.clk_model.proofs.PowerLaws.{filter-agree, settled_raise, settled_lower}

-- an event of the enable tier changes handles, and keeps prepared what was
record Beside (s t : State) : Type 0 where
  handles : List (Option HandleRow)
  state : t ≡ record (settled s (record s { handles = handles })) { spent = s.spent + 1 }
  same : (c : ℕ) → prepared (record s { handles = handles }) c ≡ prepared s c

beside_none : (s t : State) → t ≡ record (settled s s) { spent = s.spent + 1 } → Beside s t
beside_none s t e = record { handles = s.handles; state = e; same = λ c. refl }

enable_beside : (s t : State) (d n : ℕ) (x : Turn) → next s d (event.Enable n) ≡ Some (t, x) → Beside s t
enable_beside s t d n x e = by_handle (own_handle s d n) refl where
  by_handle : (o : Option HandleRow) → own_handle s d n ≡ o → Beside s t
  by_handle None none = beside_none s t (paid_is s s t _ x (sym (enable-unknown s d n none) ∙ e))
  by_handle (Some h) own = elim (cases_lt 0 h.prepares) [
    | inl some ↦ record {
      handles = set s.handles n (Some (record h { enables = h.enables + 1 }));
      state = paid_is s _ t _ x (sym (enable-fine s d n h own some) ∙ e);
      same = λ c. prepared-put_same s n h (record h { enables = h.enables + 1 }) c (own_is_live s d n h own) refl refl;
    }
    | inr idle ↦ beside_none s t (paid_is s s t _ x (sym (enable-unprepared s d n h own (omega arith)) ∙ e))
  ]

disable_beside : (s t : State) (d n : ℕ) (x : Turn) → next s d (event.Disable n) ≡ Some (t, x) → Beside s t
disable_beside s t d n x e = by_handle (own_handle s d n) refl where
  by_handle : (o : Option HandleRow) → own_handle s d n ≡ o → Beside s t
  by_handle None none = beside_none s t (paid_is s s t _ x (sym (disable-unknown s d n none) ∙ e))
  by_handle (Some h) own = elim (cases_lt 0 h.enables) [
    | inl some ↦ record {
      handles = set s.handles n (Some (record h { enables = h.enables - 1 }));
      state = paid_is s _ t _ x (sym (disable-fine s d n h own some) ∙ e);
      same = λ c. prepared-put_same s n h (record h { enables = h.enables - 1 }) c (own_is_live s d n h own) refl refl;
    }
    | inr idle ↦ beside_none s t (paid_is s s t _ x (sym (disable-warned s d n h own (omega arith)) ∙ e))
  ]

running_beside : (s t : State) (d n : ℕ) (x : Turn) → next s d (event.Running n) ≡ Some (t, x) → Beside s t
running_beside s t d n x e = by_handle (own_handle s d n) refl where
  by_handle : (o : Option HandleRow) → own_handle s d n ≡ o → Beside s t
  by_handle None none = beside_none s t (paid_is s s t _ x (sym (running-unknown s d n none) ∙ e))
  by_handle (Some h) own = beside_none s t (paid_is s s t _ x (sym (running-told s d n h own) ∙ e))

tier_beside : (s t : State) (d : ℕ) (e : Event) (x : Turn) → is_enable_tier e ≡ true → next s d e ≡ Some (t, x) → Beside s t
tier_beside s t d (event.Enable n) x tier f = enable_beside s t d n x f
tier_beside s t d (event.Disable n) x tier f = disable_beside s t d n x f
tier_beside s t d (event.Running n) x tier f = running_beside s t d n x f
tier_beside s t d (event.Begin what) x tier f = absurd cc
tier_beside s t d (event.Step m answer) x tier f = absurd cc

-- ---- what is still to be done

unprepared_same : (s : State) (handles : List (Option HandleRow)) (cs : List ℕ) → ((c : ℕ) → prepared (record s { handles = handles }) c ≡ prepared s c)
    → unprepared_plls (record s { handles = handles }) cs ≡ unprepared_plls s cs
unprepared_same s handles cs same =
    filter-agree (λ c. is_pll (kind_of s.defs c) && not (prepared (record s { handles = handles }) c)) (λ c. is_pll (kind_of s.defs c) && not (prepared s c)) cs
    (λ c. ap (λ (t : Bool). is_pll (kind_of s.defs c) && not t) (same c))

raise_beside : (s : State) (handles : List (Option HandleRow)) (n : ℕ) (k : Change) (x : ℕ) → IsValid (length s.regs) s.defs → ((c : ℕ) → prepared (record s { handles = handles }) c ≡ prepared s c)
    → to_raise (record (settled s (record s { handles = handles })) { spent = n }) k x ≡ to_raise s k x
raise_beside s handles n k x valid same =
    settled_raise s (record s { handles = handles }) (length s.regs) n k x valid
    ∙ ap (λ (cs : List ℕ). filter (λ y. not (is_in y k.raised)) cs) (unprepared_same s handles (path_to_be s.defs s.regs s.clocks x) same)

lower_beside : (s : State) (handles : List (Option HandleRow)) (n x : ℕ) → IsValid (length s.regs) s.defs → ((c : ℕ) → prepared (record s { handles = handles }) c ≡ prepared s c)
    → to_lower (record (settled s (record s { handles = handles })) { spent = n }) x ≡ to_lower s x
lower_beside s handles n x valid same =
    settled_lower s (record s { handles = handles }) (length s.regs) n x valid
    ∙ ap (λ (cs : List ℕ). filter (runs s.defs s.regs) cs) (unprepared_same s handles (path s.clocks x) same)

paced_beside : (s : State) (handles : List (Option HandleRow)) (n : ℕ) (k : Change) → IsValid (length s.regs) s.defs → ((c : ℕ) → prepared (record s { handles = handles }) c ≡ prepared s c)
    → IsPaced s k → IsPaced (record (settled s (record s { handles = handles })) { spent = n }) k
unfolding settled
paced_beside s handles n k valid same paced = record { front = by_front paced.front; script = paced.script; last = paced.last; aborts = paced.aborts } where
  raise_same : (x : ℕ) → length (to_raise (record (settled s (record s { handles = handles })) { spent = n }) k x) ≡ length (to_raise s k x)
  raise_same x = ap (λ (ys : List ℕ). length ys) (raise_beside s handles n k x valid same)

  lower_same : (x : ℕ) → length (to_lower (record (settled s (record s { handles = handles })) { spent = n }) x) ≡ length (to_lower s x)
  lower_same x = ap (λ (ys : List ℕ). length ys) (lower_beside s handles n x valid same)

  by_front : Front s k → Front (record (settled s (record s { handles = handles })) { spent = n }) k
  by_front (tells winds first) = tells winds first
  by_front (polls y e some first) = polls y e some first
  by_front (polls_to_raise y x e some few) = polls_to_raise y x e some (let long = raise_same x.0 in omega arith)
  by_front (raises x e few) = raises x e (let long = raise_same x.0 in omega arith)
  by_front (lowers x e few) = lowers x e (let long = lower_same x.0 in omega arith)

left_beside : (s : State) (handles : List (Option HandleRow)) (n : ℕ) → left_of (record (settled s (record s { handles = handles })) { spent = n }) ≡ left_of s
unfolding settled weight_left
left_beside s handles n = refl

change_beside : (s : State) (handles : List (Option HandleRow)) (n : ℕ) → (record (settled s (record s { handles = handles })) { spent = n }).change ≡ s.change
unfolding settled
change_beside s handles n = refl

-- the enable tier leaves a change paced, and its weight
pub enable_tier_keeps_paced : EnableTierKeepsPaced
enable_tier_keeps_paced s t k d e x valid at paced tier f =
    let is = tier_beside s t d e x tier f in
    let n : ℕ = s.spent + 1 in (
      ap (λ (u : State). u.change) is.state ∙ change_beside s is.handles n ∙ at,
      subst (λ (u : State). IsPaced u k) (sym is.state) (paced_beside s is.handles n k valid is.same paced),
      ap left_of is.state ∙ left_beside s is.handles n,
    )
