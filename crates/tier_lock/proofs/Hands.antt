-- What the fields of a pass and of a baton say, at the steps that their calls make.
use Rattle.std.proofs.Common.{◌≡◌, ℕ, ◌+◌, ◌-◌, ◌^◌, ◌%◌, ◌<◌, ◌≤◌, true, List, [], ◌∷◌, ◌++◌, length, Option, Some, sym, ap, ◌∙◌, subst, arith, length-append}
use mathlib.Core.Option.{none}
use Rattle.atomic_table.specs.Table.{Me, rest, Allows, step}
use Rattle.atomic_table.specs.Seated.{TableId}
use Rattle.tier_lock.specs.declared.view.View.{View}
use Rattle.tier_lock.specs.Entries.{Reading, Adds}
use Rattle.tier_lock.specs.Known.{KnownPass}
use Rattle.tier_lock.specs.Turns.{Holds}
use Rattle.tier_lock.specs.Steps.{Gives, GivesBack}
use Rattle.tier_lock.specs.Sits.{known_pass, Sits}
use Rattle.tier_lock.proofs.Turning.{gives_entry, returns_it}

-- where one slot is in hand, it is the one that was taken last
pub one_in_hand : {A : Type 0} (c : List (ℕ × A)) (x : A) → c ≡ (0, x) ∷ [] → c ≡ (0, x) ∷ rest c
one_in_hand c x e = e ∙ ap (λ l. (0, x) ∷ rest l) (sym e)

module _ {T E F : Type 0} (k : Reading T E F) where
  -- what is asked of a pass that ends its turn with an entry
  pub record Asked (value : T) (p : KnownPass E F) : Type 0 where
    pub turn : p.turn ≡ true
    pub fixed_is : p.fixed ≡ Some (k.fixed value)
    pub few : length (k.entries value) < 2 ^ 63
    pub one_more : (e : E) × Adds p.seen (k.entries value) e
    pub driver : (e : E) → Adds p.seen (k.entries value) e → k.by e ≡ p.number
    pub cost : (e : E) → Adds p.seen (k.entries value) e → k.cost e ≤ p.room
    pub tier : (e : E) → Adds p.seen (k.entries value) e → k.prep e ≡ true → p.baton ≡ true

  -- the same of a turn that ends without one
  pub record AskedBack (value : T) (p : KnownPass E F) : Type 0 where
    pub turn : p.turn ≡ true
    pub fixed_is : p.fixed ≡ Some (k.fixed value)
    pub same : k.entries value ≡ p.seen

  -- the pass in its turn, with the value back in the slot that it has in hand
  pub record Refilled (table : TableId) (p : KnownPass E F) (before after : Me (Option T) (View E F)) (value : T) (size number room made : ℕ) : Type 0 where
    pub view_is : known_pass table before.0 ≡ p
    pub sits : Sits {T = T} k.by number room made before
    pub view : after.0 ≡ before.0
    pub hand : after.1 ≡ (0, Some value) ∷ []
    pub one : size ≡ 1

  -- a log that memory has with an entry more has room for it in the word
  one_fits : (seen entries : List E) (e : E) → entries ≡ seen ++ e ∷ [] → length entries < 2 ^ 63 → length seen + 1 < 2 ^ 63
  one_fits seen entries e more few =
      let longer = ap length more ∙ length-append seen (e ∷ []) in
      omega arith

  pub may_give : (fixed : F) (size id number room made : ℕ) (table : TableId) (p : KnownPass E F) (before after : Me (Option T) (View E F)) (value : T)
      → Refilled table p before after value size number room made → Asked value p
      → Allows (Holds k fixed) size id after 0 (λ n. (n + 1) % 2 ^ 64) (Gives k (step size 0 1 0 none) after)
  may_give fixed size id number room made table p before after value r asked =
      let a : Asked value (known_pass table before.0) = subst (λ q. Asked value q) (sym r.view_is) asked in
      let e = a.one_more in
      subst (λ (v : View E F). Allows (Holds k fixed) size id (v, after.1) 0 (λ n. (n + 1) % 2 ^ 64) (Gives k (step size 0 1 0 none) (v, after.1))) (sym r.view)
      (gives_entry k fixed size id before.0 after.1 value e.0 r.one r.hand r.sits.live a.turn r.sits.alone (one_fits (known_pass table before.0).seen (k.entries value) e.0 e.1 a.few) e.1 a.fixed_is record { by_pass = a.driver e.0 e.1; cost_fits = a.cost e.0 e.1; tier = a.tier e.0 e.1 })

  pub may_give_back : (fixed : F) (size id number room made : ℕ) (table : TableId) (p : KnownPass E F) (before after : Me (Option T) (View E F)) (value : T)
      → Refilled table p before after value size number room made → AskedBack value p
      → Allows (Holds k fixed) size id after 0 (λ n. (n + (2 ^ 64 - 1)) % 2 ^ 64) (GivesBack k (step size 0 1 0 none) after)
  may_give_back fixed size id number room made table p before after value r asked =
      let a : AskedBack value (known_pass table before.0) = subst (λ q. AskedBack value q) (sym r.view_is) asked in
      subst (λ (v : View E F). Allows (Holds k fixed) size id (v, after.1) 0 (λ n. (n + (2 ^ 64 - 1)) % 2 ^ 64) (GivesBack k (step size 0 1 0 none) (v, after.1))) (sym r.view)
      (returns_it k fixed size id before.0 after.1 value r.one r.hand r.sits.live a.turn a.same a.fixed_is)
