-- Laws on the prepare tier's part of a state: gates that move, and enables that change, are no part of it.
use Rattle.std.proofs.Common.{◌≡◌, ℕ, zero, suc, ◌+◌, ◌^◌, ◌<◌, ◌&&◌, ◌||◌, Bool, true, false, cond, List, [], ◌∷◌, Option, Some, None, refl, sym, ap, subst, ◌∙◌, ◌⊎◌, inl, inr, arith, nat_eq, get_or, length, map, set}
use Rattle.std.specs.Prelude.{option_map}
use Rattle.std.specs.Option.{option_map_or}
use Rattle.std.specs.List.{list_any}
use Rattle.std.specs.Int.{bit_at}
use Rattle.std.proofs.Math.Pow.{pow-lt}
use Rattle.std.proofs.Math.Nat.{lt-suc_self}
use Rattle.std.proofs.lemmas.Bool.{cases_lt}
use Rattle.std.proofs.lemmas.Bool.Decides.{nat_tests}
use Rattle.std.proofs.lemmas.Grind.{same_number_lists}
use Rattle.std.proofs.lemmas.Nat.Bits.{same_from_bits_below, bit_at-lt}
use Rattle.clk_base.specs.Description.{Description, kind_of}
use Rattle.clk_base.specs.Fields.{GateBit, gate_of}
use Rattle.reg_bank.specs.Registers.{Registers, bits_of, field, is_set, put_bit}
use Rattle.reg_bank.proofs.BitLaws.{length-put_bit, is_set-put_bit_same, is_set-put_bit_other, is_set_past, same_tested}
use Rattle.clk_model.specs.declared.row.HandleRow.{HandleRow}
use Rattle.clk_model.specs.Lists.{is_in, count_from}
use Rattle.clk_model.specs.State.{State, handle_at}
use Rattle.clk_model.specs.Holders.{active}
use Rattle.clk_model.specs.Gates.{gates_moved, settled}
use Rattle.clk_model.specs.Begin.{put_handle}
use Rattle.clk_model.specs.Prep.{gates_cleared, masked, without_enables, prep}
use Rattle.clk_model.proofs.Members.{none_in}
use Rattle.clk_model.proofs.GateLaws.{at_or_apart, test_at, length-gates_moved, is_set-gates_moved_other}

-- ---- words by their bits

below_power : (n : ℕ) → n < 2 ^ n
below_power zero = omega arith
below_power (suc n) =
    let below = below_power n in
    let more : 2 ^ n < 2 ^ suc n = pow-lt (lt-suc_self n) in omega arith

-- numbers with the same bits are the same
same_number : (a b : ℕ) → ((i : ℕ) → bit_at a i ≡ bit_at b i) → a ≡ b
same_number a b same =
    let all = below_power (a + b) in
    same_from_bits_below (a + b) a b (omega arith) (omega arith) (λ i below. same i)

-- words with the same bits are the same, also where a word has more than 32 bits
same_by_bits : (xs ys : Registers) → length xs ≡ length ys → ((word bit : ℕ) → is_set xs word bit ≡ is_set ys word bit) → xs ≡ ys
unfolding is_set field bits_of
same_by_bits xs ys long same =
    same_number_lists xs ys long
    (λ word within. same_number (get_or xs word 0) (get_or ys word 0)
    (λ bit. same_tested (bit_at (get_or xs word 0) bit) (bit_at (get_or ys word 0) bit) (bit_at-lt (get_or xs word 0) bit) (bit_at-lt (get_or ys word 0) bit) (same word bit)))

-- ---- cleared gates

-- whether the clock has its gate at this bit
abbrev pub is_gate_at : Description → ℕ → ℕ → ℕ → Bool
is_gate_at defs word bit c = option_map_or (λ gate. nat_eq gate.word word && nat_eq gate.bit bit) (gate_of (kind_of defs c)) false

cleared_here : (regs : Registers) (gate : GateBit) (word bit : ℕ) → gate.word ≡ word → gate.bit ≡ bit → is_set (put_bit regs gate.word gate.bit false) word bit ≡ false
cleared_here regs gate word bit w b =
    subst (λ (k : ℕ). is_set (put_bit regs gate.word gate.bit false) k bit ≡ false) w
    (subst (λ (k : ℕ). is_set (put_bit regs gate.word gate.bit false) gate.word k ≡ false) b
    (elim (cases_lt gate.word (length regs)) [
      | inl within ↦ is_set-put_bit_same regs gate.word gate.bit false within
      | inr past ↦ is_set_past (put_bit regs gate.word gate.bit false) gate.word gate.bit (rw (length-put_bit regs gate.word gate.bit false) past)
    ]))

not_at : (gate : GateBit) (word bit : ℕ) → ((word ≡ gate.word → ⊥) ⊎ (bit ≡ gate.bit → ⊥)) → (nat_eq gate.word word && nat_eq gate.bit bit) ≡ false
not_at gate word bit apart =
    elim (nat_eq gate.word word) as (λ t. nat_eq gate.word word ≡ t → (t && nat_eq gate.bit bit) ≡ false) [
      | false ↦ λ e. refl
      | true ↦ λ e. elim (nat_eq gate.bit bit) as (λ t. nat_eq gate.bit bit ≡ t → t ≡ false) [
        | false ↦ λ f. refl
        | true ↦ λ f. let word_same : gate.word ≡ word = grind (arith, nat_tests) in
            let bit_same : gate.bit ≡ bit = grind (arith, nat_tests) in
            elim apart [ inl other ↦ absurd (other (sym word_same)) | inr other ↦ absurd (other (sym bit_same)) ]
      ] refl
    ] refl

one_cleared : (o : Option GateBit) (regs : Registers) (word bit : ℕ)
    → is_set (option_map_or (λ gate. put_bit regs gate.word gate.bit false) o regs) word bit
    ≡ cond (option_map_or (λ gate. nat_eq gate.word word && nat_eq gate.bit bit) o false) false (is_set regs word bit)
one_cleared None regs word bit = refl
one_cleared (Some gate) regs word bit =
    elim (at_or_apart gate word bit) [
      | inl at ↦ cleared_here regs gate word bit at.0 at.1 ∙ ap (λ (t : Bool). cond t false (is_set regs word bit)) (sym (test_at gate word bit at.0 at.1))
      | inr apart ↦ is_set-put_bit_other regs gate.word gate.bit false word bit apart ∙ ap (λ (t : Bool). cond t false (is_set regs word bit)) (sym (not_at gate word bit apart))
    ]

cleared_twice : (a b x : Bool) → cond a false (cond b false x) ≡ cond (a || b) false x
cleared_twice true b x = refl
cleared_twice false b x = refl

-- after clearing, a bit with a gate of one of these clocks is 0, and another is as it was
pub is_set-gates_cleared : (defs : Description) (cs : List ℕ) (regs : Registers) (word bit : ℕ)
    → is_set (gates_cleared defs cs regs) word bit ≡ cond (list_any (is_gate_at defs word bit) cs) false (is_set regs word bit)
is_set-gates_cleared defs [] regs word bit = refl
is_set-gates_cleared defs (c ∷ cs) regs word bit =
    one_cleared (gate_of (kind_of defs c)) (gates_cleared defs cs regs) word bit
    ∙ ap (λ (t : Bool). cond (is_gate_at defs word bit c) false t) (is_set-gates_cleared defs cs regs word bit)
    ∙ cleared_twice (is_gate_at defs word bit c) (list_any (is_gate_at defs word bit) cs) (is_set regs word bit)

length-cleared : (o : Option GateBit) (regs : Registers) → length (option_map_or (λ gate. put_bit regs gate.word gate.bit false) o regs) ≡ length regs
length-cleared None regs = refl
length-cleared (Some gate) regs = length-put_bit regs gate.word gate.bit false

-- clearing leaves the number of words
pub length-gates_cleared : (defs : Description) (cs : List ℕ) (regs : Registers) → length (gates_cleared defs cs regs) ≡ length regs
length-gates_cleared defs [] regs = refl
length-gates_cleared defs (c ∷ cs) regs = length-cleared (gate_of (kind_of defs c)) (gates_cleared defs cs regs) ∙ length-gates_cleared defs cs regs

cond_same : (t x y : Bool) → (t ≡ false → x ≡ y) → cond t false x ≡ cond t false y
cond_same true x y same = refl
cond_same false x y same = same refl

-- registers that differ in gate bits alone are the same without them
pub masked_same : (defs : Description) (xs ys : Registers) → length xs ≡ length ys
    → ((word bit : ℕ) → list_any (is_gate_at defs word bit) (count_from 0 (length defs)) ≡ false → is_set xs word bit ≡ is_set ys word bit)
    → masked defs xs ≡ masked defs ys
unfolding masked
masked_same defs xs ys long same =
    let cs : List ℕ = count_from 0 (length defs) in
    same_by_bits (gates_cleared defs cs xs) (gates_cleared defs cs ys)
    (length-gates_cleared defs cs xs ∙ long ∙ sym (length-gates_cleared defs cs ys))
    (λ word bit.
    is_set-gates_cleared defs cs xs word bit
    ∙ cond_same (list_any (is_gate_at defs word bit) cs) (is_set xs word bit) (is_set ys word bit) (same word bit)
    ∙ sym (is_set-gates_cleared defs cs ys word bit))

-- gates that have moved are no part of the masked registers
pub masked-gates_moved : (defs : Description) (before after : ℕ → Bool) (regs : Registers)
    → masked defs (gates_moved defs before after (count_from 0 (length defs)) regs) ≡ masked defs regs
masked-gates_moved defs before after regs =
    let cs : List ℕ = count_from 0 (length defs) in
    masked_same defs (gates_moved defs before after cs regs) regs (length-gates_moved defs before after cs regs)
    (λ word bit none. is_set-gates_moved_other defs before after cs regs word bit
    (λ c gate m e w b. absurd (no_gate word bit none c gate m e w b)))
  where
    no_gate : (word bit : ℕ) → list_any (is_gate_at defs word bit) (count_from 0 (length defs)) ≡ false
        → (c : ℕ) (gate : GateBit) → is_in c (count_from 0 (length defs)) ≡ true → gate_of (kind_of defs c) ≡ Some gate → gate.word ≡ word → gate.bit ≡ bit → ⊥
    no_gate word bit none c gate m e w b =
        let off : is_gate_at defs word bit c ≡ false = none_in (is_gate_at defs word bit) (count_from 0 (length defs)) none c m in
        let on : is_gate_at defs word bit c ≡ true =
        ap (λ (o : Option GateBit). option_map_or (λ g. nat_eq g.word word && nat_eq g.bit bit) o false) e ∙ test_at gate word bit w b in
        let no : true ≡ false = sym on ∙ off in cc

-- ---- states

-- only what the registers are without gate bits matters
pub prep-regs : (s : State) (regs : Registers) → masked s.defs regs ≡ masked s.defs s.regs → prep (record s { regs = regs }) ≡ prep s
unfolding prep
prep-regs s regs same = ap (λ (r : Registers). let p : State = record (prep s) { regs = r } in p) same

-- gates that follow their clocks leave the prepare tier's part
pub prep-settled : (old new : State) → prep (settled old new) ≡ prep new
unfolding settled
prep-settled old new =
    prep-regs new (gates_moved new.defs (active old) (active new) (count_from 0 (length new.defs)) new.regs)
    (masked-gates_moved new.defs (active old) (active new) new.regs)

-- so do credits that are spent and steps that are counted
pub prep-spent : (s : State) (spent : ℕ) → prep (record s { spent = spent }) ≡ prep s
unfolding prep
prep-spent s spent = refl

pub prep-steps : (s : State) (steps : ℕ) → prep (record s { steps = steps }) ≡ prep s
unfolding prep
prep-steps s steps = refl

handles_same : (handles : List (Option HandleRow)) (n : ℕ) (old new : HandleRow) → handle_at handles n ≡ Some old → without_enables new ≡ without_enables old
    → map (option_map without_enables) (set handles n (Some new)) ≡ map (option_map without_enables) handles
handles_same [] n old new at same = refl
handles_same (h ∷ handles) zero old new at same =
    ap (λ (r : HandleRow). Some r ∷ map (option_map without_enables) handles) same
    ∙ ap (λ (o : Option HandleRow). option_map without_enables o ∷ map (option_map without_enables) handles) (sym at)
handles_same (h ∷ handles) (suc n) old new at same =
    ap (λ (hs : List (Option HandleRow)). option_map without_enables h ∷ hs) (handles_same handles n old new at same)

-- a handle that differs in its enables alone leaves it too
pub prep-put_handle : (s : State) (n : ℕ) (old new : HandleRow) → handle_at s.handles n ≡ Some old → without_enables new ≡ without_enables old
    → prep (put_handle s n (Some new)) ≡ prep s
unfolding prep
prep-put_handle s n old new at same =
    ap (λ (hs : List (Option HandleRow)). let p : State = record (prep s) { handles = hs } in p) (handles_same s.handles n old new at same)
