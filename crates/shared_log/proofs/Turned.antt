-- A turn of the lock with one entry more.
use Rattle.std.proofs.Common.{◌≡◌, ℕ, ◌-◌, ◌<◌, Bool, true, false, cond, List, [], ◌∷◌, ◌++◌, Some, All, nat_eq, sym, ap, subst, ◌∙◌, arith}
use Rattle.std.proofs.lemmas.Bool.Decides.{nat_tests}
use Rattle.std.proofs.lemmas.List.Elements.{All-head, All-tail}
use Rattle.tier_lock.specs.Entries.{own, IsPrefix, Adds, AreBelow}
use Rattle.tier_lock.specs.Known.{KnownPass, added}
use Rattle.shared_log.specs.Entering.{Enters}

-- entries of number 0 alone are its own
alone_front : {E : Type 0} → (by : E → ℕ) → (es : List E) (e : E) → All (λ f. by f < 1) es → by e ≡ 0 → own by 0 (es ++ e ∷ []) ≡ es ++ e ∷ []
alone_front by [] e all zero = ap (λ (n : ℕ). cond (nat_eq n 0) (e ∷ []) []) zero
alone_front {E = E} by (f ∷ es) e all zero =
    ap (λ (b : Bool). cond b (f ∷ own by 0 (es ++ e ∷ [])) (own by 0 (es ++ e ∷ []))) (is_zero (by f) (All-head (λ g. by g < 1) f es all))
    ∙ ap (λ (xs : List E). f ∷ xs) (alone_front by es e (All-tail (λ g. by g < 1) f es all) zero) where
      is_zero : (n : ℕ) → n < 1 → nat_eq n 0 ≡ true
      is_zero n less = grind (arith, nat_tests)

module _ {E F : Type 0} (legal : F → List E → Type 0) (by cost : E → ℕ) where
  -- a turn of a pass, in which the core made this entry
  pub record Turned (old mid new : KnownPass E F) (front back : List E) (start : F) (e : E) : Type 0 where
    pub idle : old.turn ≡ false
    pub took : mid ≡ record old { turn = true; seen = front }
    pub continues : IsPrefix old.seen front
    pub knows : old.fixed ≡ Some start
    pub entry : back ≡ front ++ e ∷ []
    pub is_legal : legal start back
    pub driver : by e ≡ old.number
    pub one : cost e ≡ 1
    pub gave : (x : E) → Adds mid.seen back x → new ≡ added cost x mid
    pub own_ : own by new.number new.seen ≡ new.mine
    pub numbers : old.number ≡ 0 → AreBelow by old.made front

  module _ (old mid new : KnownPass E F) (front back : List E) (start : F) (e : E) (t : Turned old mid new front back start e) where
    adds : Adds mid.seen back e
    adds = t.entry ∙ ap (λ (es : List E). es ++ e ∷ []) (sym (ap (λ (p : KnownPass E F). p.seen) t.took))

    turned_pass : new ≡ record old { seen = front ++ e ∷ []; mine = old.mine ++ e ∷ []; room = old.room - 1 }
    turned_pass =
        t.gave e adds ∙ ap (λ (p : KnownPass E F). added cost e p) t.took
        ∙ ap (λ (b : Bool). let p : KnownPass E F = record old { turn = b; seen = front ++ e ∷ []; mine = old.mine ++ e ∷ []; room = old.room - cost e } in p) (sym t.idle)
        ∙ ap (λ (n : ℕ). let p : KnownPass E F = record old { seen = front ++ e ∷ []; mine = old.mine ++ e ∷ []; room = old.room - n } in p) t.one

    seen : new.seen ≡ front ++ e ∷ []
    seen = ap (λ (p : KnownPass E F). p.seen) turned_pass

    pub enters : Enters legal by old e new
    enters = record {
      pass = turned_pass ∙ ap (λ (es : List E). let p : KnownPass E F = record old { seen = es; mine = old.mine ++ e ∷ []; room = old.room - 1 } in p) (sym seen);
      before = front;
      continues = t.continues;
      seen = seen;
      run = record {
        start = start;
        knows = ap (λ (p : KnownPass E F). p.fixed) turned_pass ∙ t.knows;
        is_legal = subst (λ (es : List E). legal start es) (t.entry ∙ sym seen) t.is_legal;
        own_ = t.own_;
        alone = λ zero one.
            let number : old.number ≡ 0 = sym (ap (λ (p : KnownPass E F). p.number) turned_pass) ∙ zero in
            let made : old.made ≡ 1 = sym (ap (λ (p : KnownPass E F). p.made) turned_pass) ∙ one in
            seen
            ∙ sym (alone_front by front e (subst (λ (n : ℕ). AreBelow by n front) made (t.numbers number)) (t.driver ∙ number))
            ∙ ap (λ (es : List E). own by 0 es) (sym seen) ∙ ap (λ (n : ℕ). own by n new.seen) (sym zero) ∙ t.own_;
      };
    }
