-- Laws on steps: a step is known by its list of numbers.
use Rattle.std.proofs.Common.{◌≡◌, ℕ, true, false, cond, List, [], ◌∷◌, refl, sym, ap, ◌∙◌, nat_eq}
use Rattle.std.specs.Prelude.{slice_index}
use Rattle.clk_base.specs.declared.clock.ClockId.{ClockId}
use Rattle.clk_base.specs.declared.call.Micro.{Micro}
use Rattle.clk_base.specs.declared.call.Micro.TheVariants as micro
use Rattle.clk_base.specs.declared.call.Notice.{Notice}
use Rattle.clk_base.specs.declared.call.Notice.TheVariants as notice
use Rattle.clk_model.specs.Chain.{clock_id}
use Rattle.clk_model.specs.Machine.{same_list, micro_code, comes_next}
use Rattle.clk_model.proofs.Members.{same_from_test, both_left, both_right}

-- the notice that has these numbers
abbrev noticed : ℕ → ℕ → Notice
noticed kind veto = cond (nat_eq kind 0) (notice.Pre (nat_eq veto 1)) (cond (nat_eq kind 1) notice.Abort notice.Post)

-- the step that has these numbers
abbrev decoded : List ℕ → Micro
decoded xs =
    let tag = slice_index xs 0 in
    let c : ClockId = clock_id (slice_index xs 1) in
    cond (nat_eq tag 0) (micro.Notify (noticed (slice_index xs 5) (slice_index xs 6)) c (slice_index xs 2) (slice_index xs 3) (slice_index xs 4))
    (cond (nat_eq tag 1) (micro.Raise c)
    (cond (nat_eq tag 2) (micro.Poll c)
    (cond (nat_eq tag 3) (micro.Fall c)
    (cond (nat_eq tag 4) (micro.HoldPrepare c)
    (cond (nat_eq tag 5) (micro.HoldEnable c)
    (cond (nat_eq tag 6) (micro.Relink c (clock_id (slice_index xs 2)))
    (cond (nat_eq tag 7) (micro.WriteMux c (slice_index xs 2))
    (cond (nat_eq tag 8) (micro.DropEnable c)
    (cond (nat_eq tag 9) (micro.DropPrepare c)
    (cond (nat_eq tag 10) (micro.Lower c)
    (cond (nat_eq tag 11) (micro.Visit c)
    (cond (nat_eq tag 12) (micro.Register c)
    (cond (nat_eq tag 13) (micro.Settle c)
    (cond (nat_eq tag 14) (micro.Close c)
    (cond (nat_eq tag 15) (micro.Unpower c)
    micro.End)))))))))))))))

decoded_code : (m : Micro) → decoded (micro_code m) ≡ m
decoded_code (micro.Notify (notice.Pre true) c id old new) = refl
decoded_code (micro.Notify (notice.Pre false) c id old new) = refl
decoded_code (micro.Notify notice.Abort c id old new) = refl
decoded_code (micro.Notify notice.Post c id old new) = refl
decoded_code (micro.Raise x) = refl
decoded_code (micro.Poll x) = refl
decoded_code (micro.Fall x) = refl
decoded_code (micro.HoldPrepare x) = refl
decoded_code (micro.HoldEnable x) = refl
decoded_code (micro.Relink c p) = refl
decoded_code (micro.WriteMux c place) = refl
decoded_code (micro.DropEnable x) = refl
decoded_code (micro.DropPrepare x) = refl
decoded_code (micro.Lower x) = refl
decoded_code (micro.Visit x) = refl
decoded_code (micro.Register x) = refl
decoded_code (micro.Settle x) = refl
decoded_code (micro.Close x) = refl
decoded_code (micro.Unpower x) = refl
decoded_code micro.End = refl

same_lists : (xs ys : List ℕ) → same_list xs ys ≡ true → xs ≡ ys
same_lists [] [] e = refl
same_lists [] (y ∷ ys) e = absurd cc
same_lists (x ∷ xs) [] e = absurd cc
same_lists (x ∷ xs) (y ∷ ys) e =
    ap (λ (z : ℕ). z ∷ xs) (same_from_test x y (both_left (nat_eq x y) (same_list xs ys) e))
    ∙ ap (λ (zs : List ℕ). y ∷ zs) (same_lists xs ys (both_right (nat_eq x y) (same_list xs ys) e))

-- steps with the same numbers are the same
pub same_micro : (m n : Micro) → same_list (micro_code m) (micro_code n) ≡ true → m ≡ n
same_micro m n e = sym (decoded_code m) ∙ ap decoded (same_lists (micro_code m) (micro_code n) e) ∙ decoded_code n

-- a step that comes next is the first
pub comes_first : (m : Micro) (ns : List Micro) → comes_next m ns ≡ true → (rest : List Micro) × (ns ≡ m ∷ rest)
comes_first m [] e = absurd cc
comes_first m (n ∷ ns) e = (ns, ap (λ (x : Micro). x ∷ ns) (sym (same_micro m n e)))
