-- A call that was read has the words that it was read from.
use Rattle.std.proofs.Common.{◌≡◌, ℕ, ◌-◌, ◌<◌, ◌^◌, Bool, true, false, cond, List, [], ◌∷◌, Option, Some, None, refl, sym, ap, ◌∙◌, codes, arith}
use Rattle.std.specs.Prelude.{◌&&◌}
use Rattle.std.specs.Option.{option_map}
use Rattle.std.specs.Str.{bytes_eq}
use Rattle.std.proofs.lemmas.Slice.Eq.{bytes_eq-Decides}
use Rattle.clk_base.specs.declared.call.Sleeping.{Sleeping}
use Rattle.clk_base.specs.declared.call.Sleeping.TheVariants as call
use Rattle.clk_base.specs.declared.clock.ClockId.{ClockId}
use Rattle.clk_base.specs.declared.handle.Handle.{Handle}
use Rattle.clk_base.specs.Description.{Description, clock_named}
use Rattle.clk_base.proofs.Names.{clock_named-Some}
use Rattle.clk_model.specs.Text.{Word, policy_words, call_words}
use Rattle.clk_journal.specs.Told.{told_found, told_call, IsCall, IsPolicy}
use Rattle.clk_journal.specs.ReadNumbers.{small, large, handle, priority}
use Rattle.clk_journal.specs.ReadCalls.{handle_call, named_get, get_call, short_call, rated_call, middle_call, plain_policy, bound_policy, read_policy, range_call, notify_call, long_call, read_call}
use Rattle.clk_model.proofs.Members.{both_left, both_right}
use Rattle.clk_journal.proofs.Gives.{Gives, gives_some, gives_none, at_word, at_word_some, behind, mapped, two, onto}
use Rattle.clk_base.specs.declared.handle.Policy.{Policy}
use Rattle.clk_journal.proofs.Priorities.{priority_forth}
use Rattle.clk_journal.proofs.Numerals.{IsNumberOf, number_forth, IsHandleOf, handle_forth}

-- the call has these words, can be told, and is as it is told
pub record IsCallOf (defs : Description) (absent : Bool) (d : ℕ) (ws : List Word) (what : Sleeping) : Type 0 where
  pub words : call_words defs what ≡ ws
  pub can : IsCall defs what
  pub told : told_call defs absent d what ≡ what

-- the policy has these words
record IsPolicyOf (ws : List Word) (p : Policy) : Type 0 where
  words : policy_words p ≡ ws
  can : IsPolicy p

module _ (defs : Description) (absent : Bool) (d : ℕ) where
  handled : (verb w : Word) (h : Handle) → IsHandleOf d w h → Gives (IsCallOf defs absent d (verb ∷ w ∷ [])) (handle_call verb h)
  unfolding handle_call
  handled verb w h is =
      let P = IsCallOf defs absent d (verb ∷ w ∷ []) in
      at_word_some P verb (codes "put") _ _ (λ e. record { words = two (sym e) is.word; can = is.low; told = ap (λ k. call.Put k) is.told })
      (at_word_some P verb (codes "prepare") _ _ (λ e. record { words = two (sym e) is.word; can = is.low; told = ap (λ k. call.Prepare k) is.told })
      (at_word_some P verb (codes "unprepare") _ _ (λ e. record { words = two (sym e) is.word; can = is.low; told = ap (λ k. call.Unprepare k) is.told })
      (at_word_some P verb (codes "rate") _ _ (λ e. record { words = two (sym e) is.word; can = is.low; told = ap (λ k. call.GetRate k) is.told })
      (at_word_some P verb (codes "parent") _ _ (λ e. record { words = two (sym e) is.word; can = is.low; told = ap (λ k. call.GetParent k) is.told })
      (at_word_some P verb (codes "lock") _ _ (λ e. record { words = two (sym e) is.word; can = is.low; told = ap (λ k. call.ExclusiveGet k) is.told })
      (at_word_some P verb (codes "unlock") _ _ (λ e. record { words = two (sym e) is.word; can = is.low; told = ap (λ k. call.ExclusivePut k) is.told })
      (gives_none P)))))))

  rated : (verb w x : Word) (h : Handle) (n : ℕ) → IsHandleOf d w h → IsNumberOf (2 ^ 64 - 1) x n → Gives (IsCallOf defs absent d (verb ∷ w ∷ x ∷ [])) (rated_call verb h n)
  unfolding rated_call
  rated verb w x h n is low =
      let P = IsCallOf defs absent d (verb ∷ w ∷ x ∷ []) in
      let few : n < 2 ^ 64 = omega (arith, low.low) in
      at_word_some P verb (codes "round") _ _ (λ e. record { words = onto (sym e) (two is.word low.word); can = (is.low, few); told = ap (λ k. call.RoundRate k n) is.told })
      (at_word_some P verb (codes "set") _ _ (λ e. record { words = onto (sym e) (two is.word low.word); can = (is.low, few); told = ap (λ k. call.SetRate k n) is.told })
      (at_word_some P verb (codes "setx") _ _ (λ e. record { words = onto (sym e) (two is.word low.word); can = (is.low, few); told = ap (λ k. call.SetRateExclusive k n) is.told })
      (gives_none P)))

  middle : (verb w x : Word) (h : Handle) → IsHandleOf d w h → Gives (IsCallOf defs absent d (verb ∷ w ∷ x ∷ [])) (middle_call defs verb h x)
  unfolding middle_call
  middle verb w x h is =
      let P = IsCallOf defs absent d (verb ∷ w ∷ x ∷ []) in
      at_word P verb (codes "reparent") _ _ (λ e. mapped P (λ c. call.SetParent h c) (clock_named defs x) (λ c f.
      let there = clock_named-Some defs x c f in
      record { words = onto (sym e) (two is.word there.1); can = (is.low, there.0); told = ap (λ k. call.SetParent k c) is.told }))
      (at_word P verb (codes "unnotify") _ _ (λ e. mapped P (λ n. call.NotifierRemove h n) (small x) (λ n f.
      let low = number_forth (2 ^ 32 - 1) x n f in
      record { words = onto (sym e) (two is.word low.word); can = (is.low, omega (arith, low.low)); told = ap (λ k. call.NotifierRemove k n) is.told }))
      (behind P (rated_call verb h) (large x) (λ n f. rated verb w x h n is (number_forth (2 ^ 64 - 1) x n f))))

  named : (w : Word) (o : Option ClockId) → clock_named defs w ≡ o → (absent && bytes_eq w (codes "-")) ≡ false → Gives (IsCallOf defs absent d (codes "get" ∷ w ∷ [])) (named_get w o)
  unfolding named_get
  named w None e plain =
      let P = IsCallOf defs absent d (codes "get" ∷ w ∷ []) in
      at_word_some P w (codes "-") _ _ (λ f. record { words = two refl (sym f); can = tt; told = ap (λ o. call.Get o) (none_told absent (ap (clock_named defs) (sym f) ∙ e)) }) (gives_none P) where
        none_told : (b : Bool) → clock_named defs (codes "-") ≡ None → told_found defs b None ≡ None
        none_told true f = refl
        none_told false f = f
  named w (Some c) e plain =
      let P = IsCallOf defs absent d (codes "get" ∷ w ∷ []) in
      let there = clock_named-Some defs w c e in
      gives_some P (call.Get (Some c)) (record {
        words = two refl there.1;
        can = there.0;
        told = ap (λ (b : Bool). call.Get (cond b None (Some c))) (ap (λ v. absent && bytes_eq v (codes "-")) there.1 ∙ plain);
      })

  getting : (w : Word) → Gives (IsCallOf defs absent d (codes "get" ∷ w ∷ [])) (get_call defs absent w)
  unfolding get_call
  getting w =
      let P = IsCallOf defs absent d (codes "get" ∷ w ∷ []) in
      elim (absent && bytes_eq w (codes "-")) as (λ b. (absent && bytes_eq w (codes "-")) ≡ b → Gives P (cond b (Some (call.Get None)) (named_get w (clock_named defs w)))) [
        | true ↦ λ e. gives_some P (call.Get None) (record {
          words = two refl (sym ((bytes_eq-Decides w (codes "-")).0 (both_right absent (bytes_eq w (codes "-")) e)));
          can = tt;
          told = ap (λ (b : Bool). call.Get (cond b None (clock_named defs (codes "-")))) (both_left absent (bytes_eq w (codes "-")) e);
        })
        | false ↦ λ e. named w (clock_named defs w) refl e
      ] refl

  short : (verb w : Word) → Gives (IsCallOf defs absent d (verb ∷ w ∷ [])) (short_call defs absent d verb w)
  unfolding short_call
  short verb w =
      let P = IsCallOf defs absent d (verb ∷ w ∷ []) in
      at_word P verb (codes "get") _ _ (λ e. rw e (getting w))
      (at_word P verb (codes "probe") _ _ (λ e. mapped P (λ c. call.Probe c) (clock_named defs w) (λ c f.
      let there = clock_named-Some defs w c f in
      record { words = two (sym e) there.1; can = there.0; told = refl }))
      (behind P (handle_call verb) (handle d w) (λ h f. handled verb w h (handle_forth d w h f))))

  -- a policy with its words
  plain : (w : Word) → Gives (IsPolicyOf (w ∷ [])) (plain_policy w)
  unfolding plain_policy
  plain w =
      let P = IsPolicyOf (w ∷ []) in
      at_word_some P w (codes "accept") _ _ (λ e. record { words = onto (sym e) refl; can = tt })
      (at_word_some P w (codes "veto") _ _ (λ e. record { words = onto (sym e) refl; can = tt })
      (gives_none P))

  bound : (w x : Word) (r : ℕ) → IsNumberOf (2 ^ 64 - 1) x r → Gives (IsPolicyOf (w ∷ x ∷ [])) (bound_policy w r)
  unfolding bound_policy
  bound w x r low =
      let P = IsPolicyOf (w ∷ x ∷ []) in
      let few : r < 2 ^ 64 = omega (arith, low.low) in
      at_word_some P w (codes "above") _ _ (λ e. record { words = two (sym e) low.word; can = few })
      (at_word_some P w (codes "below") _ _ (λ e. record { words = two (sym e) low.word; can = few })
      (gives_none P))

  policies : (ws : List Word) → Gives (IsPolicyOf ws) (read_policy ws)
  unfolding read_policy
  policies [] = gives_none (IsPolicyOf [])
  policies (w ∷ []) = plain w
  policies (w ∷ x ∷ []) = behind (IsPolicyOf (w ∷ x ∷ [])) (bound_policy w) (large x) (λ r e. bound w x r (number_forth (2 ^ 64 - 1) x r e))
  policies (w ∷ x ∷ y ∷ ws) = gives_none (IsPolicyOf (w ∷ x ∷ y ∷ ws))

  noted : (verb w x y : Word) (ws : List Word) (h : Handle) → verb ≡ codes "notify" → IsHandleOf d w h → Gives (IsCallOf defs absent d (verb ∷ w ∷ x ∷ y ∷ ws)) (notify_call h x y (read_policy ws))
  unfolding notify_call
  noted verb w x y ws h first is = by (read_policy ws) refl where
    P : Sleeping → Type 0
    P = IsCallOf defs absent d (verb ∷ w ∷ x ∷ y ∷ ws)

    by : (o : Option Policy) → read_policy ws ≡ o → Gives P (notify_call h x y o)
    by None e = gives_none P
    by (Some p) e =
        let has = (policies ws).holds p e in
        behind P (λ i. option_map (λ z. call.NotifierAdd h i z p) (priority y)) (small x) (λ i f.
        mapped P (λ z. call.NotifierAdd h i z p) (priority y) (λ z g.
        let one = number_forth (2 ^ 32 - 1) x i f in
        let rank = priority_forth y z g in
        record { words = onto (sym first) (onto is.word (onto one.word (onto rank.word has.words))); can = (is.low, omega (arith, one.low), rank.low, has.can); told = ap (λ k. call.NotifierAdd k i z p) is.told }))

  ranged : (verb w x y : Word) (h : Handle) → verb ≡ codes "range" → IsHandleOf d w h → Gives (IsCallOf defs absent d (verb ∷ w ∷ x ∷ y ∷ [])) (range_call h x y)
  unfolding range_call
  ranged verb w x y h first is =
      let P = IsCallOf defs absent d (verb ∷ w ∷ x ∷ y ∷ []) in
      behind P (λ a. option_map (λ b. call.SetRange h a b) (large y)) (large x) (λ a f.
      mapped P (λ b. call.SetRange h a b) (large y) (λ b g.
      let one = number_forth (2 ^ 64 - 1) x a f in
      let more = number_forth (2 ^ 64 - 1) y b g in
      record { words = onto (sym first) (onto is.word (two one.word more.word)); can = (is.low, omega (arith, one.low), omega (arith, more.low)); told = ap (λ k. call.SetRange k a b) is.told }))

  long : (verb w x y : Word) (ws : List Word) (h : Handle) → IsHandleOf d w h → Gives (IsCallOf defs absent d (verb ∷ w ∷ x ∷ y ∷ ws)) (long_call verb h x y ws)
  unfolding long_call
  long verb w x y [] h is = at_word (IsCallOf defs absent d (verb ∷ w ∷ x ∷ y ∷ [])) verb (codes "range") _ _ (λ e. ranged verb w x y h e is) (gives_none (IsCallOf defs absent d (verb ∷ w ∷ x ∷ y ∷ [])))
  long verb w x y (p ∷ ps) h is =
      at_word (IsCallOf defs absent d (verb ∷ w ∷ x ∷ y ∷ p ∷ ps)) verb (codes "notify") _ _ (λ e. noted verb w x y (p ∷ ps) h e is) (gives_none (IsCallOf defs absent d (verb ∷ w ∷ x ∷ y ∷ p ∷ ps)))

  pub call_forth : (ws : List Word) → Gives (IsCallOf defs absent d ws) (read_call defs absent d ws)
  unfolding read_call
  call_forth [] = gives_none (IsCallOf defs absent d [])
  call_forth (verb ∷ []) =
      let P = IsCallOf defs absent d (verb ∷ []) in
      at_word_some P verb (codes "sweep") _ _ (λ e. record { words = ap (λ w. w ∷ []) (sym e); can = tt; told = refl }) (gives_none P)
  call_forth (verb ∷ w ∷ []) = short verb w
  call_forth (verb ∷ w ∷ x ∷ []) = behind (IsCallOf defs absent d (verb ∷ w ∷ x ∷ [])) (λ h. middle_call defs verb h x) (handle d w) (λ h e. middle verb w x h (handle_forth d w h e))
  call_forth (verb ∷ w ∷ x ∷ y ∷ ws) =
      behind (IsCallOf defs absent d (verb ∷ w ∷ x ∷ y ∷ ws)) (λ h. long_call verb h x y ws) (handle d w) (λ h e. long verb w x y ws h (handle_forth d w h e))
