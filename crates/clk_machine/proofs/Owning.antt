-- A driver's own live handle, as a table tells it.
use Rattle.std.proofs.Common.{◌≡◌, ℕ, Bool, true, false, cond, List, Option, Some, None, refl, sym, ap, ◌∙◌, nat_eq}
use Rattle.std.specs.Prelude.{IsSome, is_some}
use Rattle.std.specs.Option.{option_map_or}
use Rattle.clk_model.specs.declared.row.HandleRow.{HandleRow}
use Rattle.clk_model.specs.State.{handle_at}
use Rattle.rate_requests.specs.Handles.{has_handle}
use Rattle.clk_machine.specs.Parts.{own_in}

-- a driver's own handle is live
pub live_there : (handles : List (Option HandleRow)) (d n : ℕ) → has_handle handles d n ≡ true → IsSome (handle_at handles n)
live_there handles d n has = by (handle_at handles n) has where
  by : (o : Option HandleRow) → option_map_or (λ h. nat_eq h.driver d) o false ≡ true → IsSome o
  by None e = absurd cc
  by (Some h) e = refl

-- its row is the one that lies there
pub own_found : (handles : List (Option HandleRow)) (d n : ℕ) (row : HandleRow) → has_handle handles d n ≡ true → handle_at handles n ≡ Some row → own_in handles d n ≡ Some row
own_found handles d n row has live =
    ap (λ (o : Option HandleRow). option_map_or (λ h. cond (nat_eq h.driver d) (Some h) None) o None) live
    ∙ ap (λ (t : Bool). cond t (Some row) None) (sym (ap (λ (o : Option HandleRow). option_map_or (λ h. nat_eq h.driver d) o false) live) ∙ has)

-- without such a handle there is none
pub own_lacking : (handles : List (Option HandleRow)) (d n : ℕ) → has_handle handles d n ≡ false → own_in handles d n ≡ None
own_lacking handles d n lacks = by (handle_at handles n) lacks where
  by : (o : Option HandleRow) → option_map_or (λ h. nat_eq h.driver d) o false ≡ false → option_map_or (λ h. cond (nat_eq h.driver d) (Some h) None) o None ≡ None
  by None e = refl
  by (Some h) e = ap (λ (t : Bool). cond t (Some h) None) e

-- a handle that is known to be a driver's own is live, and its row is the one that lies there
pub own_live : (handles : List (Option HandleRow)) (d n : ℕ) → is_some (own_in handles d n) ≡ true → IsSome (handle_at handles n)
own_live handles d n some = by (handle_at handles n) some where
  by : (o : Option HandleRow) → is_some (option_map_or (λ h. cond (nat_eq h.driver d) (Some h) None) o None) ≡ true → IsSome o
  by None e = absurd cc
  by (Some h) e = refl

pub own_known : (handles : List (Option HandleRow)) (d n : ℕ) (row : HandleRow) → is_some (own_in handles d n) ≡ true → handle_at handles n ≡ Some row → own_in handles d n ≡ Some row
own_known handles d n row some live =
    let here : own_in handles d n ≡ cond (nat_eq row.driver d) (Some row) None = ap (λ (o : Option HandleRow). option_map_or (λ h. cond (nat_eq h.driver d) (Some h) None) o None) live in
    here ∙ by (nat_eq row.driver d) (sym (ap (λ (o : Option HandleRow). is_some o) here) ∙ some) where
      by : (t : Bool) → is_some (cond {A = Option HandleRow} t (Some row) None) ≡ true → cond {A = Option HandleRow} t (Some row) None ≡ Some row
      by true e = refl
      by false e = absurd cc
