-- What holds in each case holds of the chosen one: of an option, of a test, of a call on a handle and of a planned chain.
use Rattle.std.proofs.Common.{ℕ, Bool, true, false, cond, List, Option, Some, None}
use Rattle.std.specs.Option.{option_map_or}
use Rattle.clk_base.specs.declared.event.Turn.{Turn}
use Rattle.clk_model.specs.declared.row.HandleRow.{HandleRow}
use Rattle.clk_model.specs.State.{State, ChainStep}

-- ---- states

pub by_option : (P : State → Type 0) (o : Option ℕ) (f : ℕ → State) (u : State) → P u → ((y : ℕ) → P (f y)) → P (option_map_or f o u)
by_option P None f u none some = none
by_option P (Some y) f u none some = some y

pub by_handle : (P : State → Type 0) (o : Option HandleRow) (f : HandleRow → State) (u : State) → P u → ((h : HandleRow) → P (f h)) → P (option_map_or f o u)
by_handle P None f u none some = none
by_handle P (Some h) f u none some = some h

pub by_test : (P : State → Type 0) (b : Bool) (u v : State) → P u → P v → P (cond b u v)
by_test P true u v yes_ no_ = yes_
by_test P false u v yes_ no_ = no_

-- ---- states with an answer

pub by_found : (P : State × Turn → Type 0) (o : Option ℕ) (f : ℕ → State × Turn) (x : State × Turn) → P x → ((y : ℕ) → P (f y)) → P (option_map_or f o x)
by_found P None f x none some = none
by_found P (Some y) f x none some = some y

pub by_plan : (P : State × Turn → Type 0) (o : Option (List ChainStep)) (f : List ChainStep → State × Turn) (x : State × Turn)
    → P x → ((ks : List ChainStep) → P (f ks)) → P (option_map_or f o x)
by_plan P None f x none some = none
by_plan P (Some ks) f x none some = some ks
