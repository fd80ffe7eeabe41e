-- One result has one value or one error.
use Rattle.std.proofs.Common.{◌≡◌, Result, Ok, Err}

pub ok_same : {A E : Type 0} (a b : A) (r : Result A E) → r ≡ Ok a → r ≡ Ok b → a ≡ b
ok_same a b r e f = cc

pub err_same : {A E : Type 0} (a b : E) (r : Result A E) → r ≡ Err a → r ≡ Err b → a ≡ b
err_same a b r e f = cc

pub ok_err : {A E : Type 0} (a : A) (b : E) (r : Result A E) → r ≡ Ok a → r ≡ Err b → ⊥
ok_err a b r e f = cc
