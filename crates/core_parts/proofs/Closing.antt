-- Closing the gates of a path, a clock before its parents.
use Rattle.std.proofs.Common.{◌≡◌, ℕ, ◌-◌, ◌<◌, Bool, true, false, cond, List, [], ◌∷◌, ◌++◌, Option, Some, None, refl, sym, ap, ◌∙◌}
use Rattle.std.specs.Prelude.{reverse}
use Rattle.std.specs.Option.{option_map, option_map_or}
use mathlib.Core.List.{reverse-cons}
use Rattle.clk_base.specs.declared.clock.ClockId.{ClockId}
use Rattle.clk_base.specs.declared.clock.Kind.{Kind}
use Rattle.clk_base.specs.Description.{Description, kind_of}
use Rattle.clk_base.specs.Fields.{GateBit, gate_of}
use Rattle.clk_model.specs.Tree.{path_within}
use Rattle.clk_model.specs.Gates.{follow, gates_moved}
use Rattle.clk_model.specs.Holders.{active}
use Rattle.clk_model.specs.Kinds.{with_gate}
use Rattle.clk_model.specs.State.{State}
use Rattle.clk_model.proofs.PathLaws.{above, path_cons}
use Rattle.clk_model.proofs.GateLaws.{gates_moved-append}

-- the words after the gates of these clocks have closed but where the clocks are still active, where they are told
abbrev pub closed : Description → (ℕ → Bool) → List ℕ → Option (List ℕ) → Option (List ℕ)
closed defs after cs told = option_map (gates_moved defs (λ _. true) after cs) told

closed-append : (defs : Description) (after : ℕ → Bool) (xs ys : List ℕ) (told : Option (List ℕ)) → closed defs after (xs ++ ys) told ≡ closed defs after xs (closed defs after ys told)
closed-append defs after xs ys None = refl
closed-append defs after xs ys (Some regs) = ap (λ (r : List ℕ). Some r) (gates_moved-append defs (λ _. true) after xs ys regs)

-- the gate of a clock that nothing keeps active closes
pub closed_own : (defs : Description) (after : ℕ → Bool) (c : ℕ) (kind : Kind) (old mid : Option (List ℕ)) → kind ≡ kind_of defs c → after c ≡ false
    → mid ≡ option_map (λ regs. option_map_or (follow regs true false) (gate_of kind) regs) old
    → mid ≡ closed defs after (c ∷ []) old
closed_own defs after c kind old mid is idle then =
    then
    ∙ ap (λ (k : Kind). option_map (λ regs. option_map_or (follow regs true false) (gate_of k) regs) old) is
    ∙ ap (λ (b : Bool). option_map (λ regs. option_map_or (follow regs true b) (gate_of (kind_of defs c)) regs) old) (sym idle)
    ∙ join old where
      join : (old : Option (List ℕ)) → option_map (λ regs. option_map_or (follow regs true (after c)) (gate_of (kind_of defs c)) regs) old ≡ closed defs after (c ∷ []) old
      join None = refl
      join (Some regs) = refl

-- then those of the clocks above it
closed_path : (defs : Description) (after : ℕ → Bool) (up : ℕ → Option ℕ) (levels c : ℕ) (old mid new : Option (List ℕ)) → 0 < levels
    → mid ≡ closed defs after (c ∷ []) old → new ≡ closed defs after (reverse (above up (levels - 1) (up c))) mid
    → new ≡ closed defs after (reverse (path_within up levels c)) old
closed_path defs after up levels c old mid new some first then =
    let rest : List ℕ = above up (levels - 1) (up c) in
    then ∙ ap (closed defs after (reverse rest)) first
    ∙ sym (closed-append defs after (reverse rest) (c ∷ []) old)
    ∙ ap (λ (cs : List ℕ). closed defs after cs old) (sym (reverse-cons c rest))
    ∙ ap (λ (cs : List ℕ). closed defs after (reverse cs) old) (sym (path_cons up levels c some))

pub closed_above : (defs : Description) (after : ℕ → Bool) (up : ℕ → Option ℕ) (levels c : ℕ) (link : Option ClockId) (parent : ClockId) (old mid new : Option (List ℕ)) → 0 < levels
    → option_map (λ p. p.0) link ≡ up c → link ≡ Some parent → mid ≡ closed defs after (c ∷ []) old
    → new ≡ closed defs after (reverse (path_within up (levels - 1) parent.0)) mid
    → new ≡ closed defs after (reverse (path_within up levels c)) old
closed_above defs after up levels c link parent old mid new some is at first then =
    closed_path defs after up levels c old mid new some first
    (then ∙ ap (λ (o : Option ℕ). closed defs after (reverse (above up (levels - 1) o)) mid) (sym (ap (option_map (λ p. p.0)) at) ∙ is))

pub closed_root : (defs : Description) (after : ℕ → Bool) (up : ℕ → Option ℕ) (levels c : ℕ) (link : Option ClockId) (old mid : Option (List ℕ)) → 0 < levels
    → option_map (λ p. p.0) link ≡ up c → link ≡ None → mid ≡ closed defs after (c ∷ []) old
    → mid ≡ closed defs after (reverse (path_within up levels c)) old
closed_root defs after up levels c link old mid some is at first =
    closed_path defs after up levels c old mid mid some first
    (same mid ∙ ap (λ (o : Option ℕ). closed defs after (reverse (above up (levels - 1) o)) mid) (sym (ap (option_map (λ p. p.0)) at) ∙ is)) where
      same : (old : Option (List ℕ)) → old ≡ closed defs after [] old
      same None = refl
      same (Some regs) = refl

-- ---- one gate

-- what it leaves of a state's registers
pub closed_regs : (s : State) (c : ℕ) (t : Bool) → t ≡ active s c → option_map_or (follow s.regs true t) (gate_of (kind_of s.defs c)) s.regs
    ≡ cond (active s c) s.regs (option_map_or (λ gate. with_gate s.regs gate false) (gate_of (kind_of s.defs c)) s.regs)
closed_regs s c true is = stay (gate_of (kind_of s.defs c)) ∙ ap (λ (b : Bool). cond b s.regs (option_map_or (λ gate. with_gate s.regs gate false) (gate_of (kind_of s.defs c)) s.regs)) is where
  stay : (o : Option GateBit) → option_map_or (follow s.regs true true) o s.regs ≡ s.regs
  stay None = refl
  stay (Some gate) = refl
closed_regs s c false is = ap (λ (b : Bool). cond b s.regs (option_map_or (λ gate. with_gate s.regs gate false) (gate_of (kind_of s.defs c)) s.regs)) is
