-- The prepare tier's part of a state is its own such part; so a call can plan over it.
use Rattle.std.proofs.Common.{◌≡◌, Bool, true, false, cond, List, [], ◌∷◌, Option, Some, None, refl, ap, ◌∙◌, length}
use Rattle.std.specs.Prelude.{map, option_map}
use Rattle.clk_base.specs.declared.call.Micro.{Micro}
use Rattle.clk_base.specs.Description.{Description}
use Rattle.reg_bank.specs.Registers.{Registers, is_set}
use Rattle.clk_model.specs.declared.row.HandleRow.{HandleRow}
use Rattle.clk_model.specs.Lists.{count_from}
use Rattle.clk_model.specs.State.{State, Change}
use Rattle.clk_model.specs.Prep.{gates_cleared, masked, without_enables, is_sweep, change_prep, prep}
use Rattle.clk_model.specs.Laws.PlansRead.{CopiesServe}
use Rattle.clk_model.proofs.PlansReadLaws.{answers_read_prep, plans_read_prep}
use Rattle.clk_model.proofs.PrepLaws.{is_set-gates_cleared, length-gates_cleared, masked_same}

masked_twice : (defs : Description) (regs : Registers) → masked defs (masked defs regs) ≡ masked defs regs
unfolding masked
masked_twice defs regs =
    masked_same defs (gates_cleared defs (count_from 0 (length defs)) regs) regs (length-gates_cleared defs (count_from 0 (length defs)) regs)
    (λ word bit none. is_set-gates_cleared defs (count_from 0 (length defs)) regs word bit ∙ ap (λ (t : Bool). cond t false (is_set regs word bit)) none)

bare_twice : (handles : List (Option HandleRow)) → map (option_map without_enables) (map (option_map without_enables) handles) ≡ map (option_map without_enables) handles
bare_twice [] = refl
bare_twice (None ∷ handles) = ap (λ (hs : List (Option HandleRow)). None ∷ hs) (bare_twice handles)
bare_twice (Some h ∷ handles) = ap (λ (hs : List (Option HandleRow)). Some (without_enables h) ∷ hs) (bare_twice handles)

chosen_twice : {X : Type 0} (t : Bool) (x y : X) → cond t x (cond t x y) ≡ cond t x y
chosen_twice true x y = refl
chosen_twice false x y = refl

change_twice : (o : Option Change) → option_map change_prep (option_map change_prep o) ≡ option_map change_prep o
change_twice None = refl
change_twice (Some k) =
    let none : List Micro = [] in
    ap (λ (ms : List Micro). let j : Change = record (change_prep (change_prep k)) { front = ms } in Some j) (chosen_twice (is_sweep k.call) none k.front)
    ∙ ap (λ (ms : List Micro). let j : Change = record (change_prep (change_prep k)) { front = (change_prep k).front; left = ms } in Some j) (chosen_twice (is_sweep k.call) none k.left)
    ∙ ap (λ (b : Bool). let j : Change = record (change_prep k) { timed_out = b } in Some j) (chosen_twice (is_sweep k.call) false k.timed_out)

-- the part of the part is the part
pub prep_twice : (s : State) → prep (prep s) ≡ prep s
unfolding prep
prep_twice s =
    ap (λ (regs : Registers). let u : State = record (prep (prep s)) { regs = regs } in u) (masked_twice s.defs s.regs)
    ∙ ap (λ (hs : List (Option HandleRow)). let u : State = record (prep (prep s)) { regs = (prep s).regs; handles = hs } in u) (bare_twice s.handles)
    ∙ ap (λ (o : Option Change). let u : State = record (prep s) { change = o } in u) (change_twice s.change)

-- so a call can plan over it
pub copies_serve : CopiesServe
copies_serve s d what wired = record {
  answers = λ is. answers_read_prep s (prep s) d what wired (prep_twice s) is;
  plans = λ is quiet. plans_read_prep s (prep s) d what wired (prep_twice s) is quiet;
}
