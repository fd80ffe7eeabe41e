-- The words of a call are read back.
use Rattle.std.proofs.Common.{◌≡◌, ℕ, ℤ, ◌<◌, ◌^◌, Bool, true, false, cond, Option, Some, None, refl, sym, ap, ◌∙◌, codes}
use Rattle.std.specs.Prelude.{◌&&◌}
use Rattle.std.specs.Fmt.{decimal, signed_decimal}
use Rattle.std.specs.Option.{option_map, option_and_then}
use Rattle.std.specs.Str.{bytes_eq}
use Rattle.clk_base.specs.declared.call.Sleeping.{Sleeping}
use Rattle.clk_base.specs.declared.call.Sleeping.TheVariants as call
use Rattle.clk_base.specs.declared.clock.ClockId.{ClockId}
use Rattle.clk_base.specs.declared.handle.Handle.{Handle}
use Rattle.clk_base.specs.Description.{Description, name_of, clock_named, HasDistinctNames}
use Rattle.clk_model.specs.Text.{Word, clock_word, policy_words, call_words}
use Rattle.clk_journal.specs.Told.{told_handle, told_found, told_call, IsCall, IsPolicy, IsThere}
use Rattle.clk_journal.specs.ReadNumbers.{small, large, handle, priority}
use Rattle.clk_journal.specs.ReadCalls.{handle_call, named_get, get_call, short_call, rated_call, middle_call, plain_policy, bound_policy, read_policy, range_call, notify_call, long_call, read_call}
use Rattle.clk_journal.proofs.Numerals.{handle_back, small_back, large_back}
use Rattle.clk_journal.proofs.Priorities.{priority_back}
use Rattle.clk_base.specs.declared.handle.Policy.{Policy}
use Rattle.clk_base.specs.declared.handle.Policy.TheVariants as policy
use Rattle.clk_journal.proofs.Named.{found}

module _ (defs : Description) (apart : HasDistinctNames defs) where
  -- a get of none, whatever clock has the name `-`
  none_back : (absent : Bool) (o : Option ClockId) → clock_named defs (codes "-") ≡ o → get_call defs absent (codes "-") ≡ Some (call.Get (told_found defs absent None))
  unfolding get_call named_get
  none_back true o e = refl
  none_back false None e = ap (named_get (codes "-")) e ∙ ap (λ (x : Option ClockId). Some (call.Get x)) (sym e)
  none_back false (Some c) e = ap (named_get (codes "-")) e ∙ ap (λ (x : Option ClockId). Some (call.Get x)) (sym e)

  get_back : (absent : Bool) (o : Option ClockId) → IsThere defs o → get_call defs absent (clock_word defs o) ≡ Some (call.Get (told_found defs absent o))
  unfolding get_call named_get
  get_back absent None is = none_back absent (clock_named defs (codes "-")) refl
  get_back absent (Some c) is =
      ap (λ (o : Option ClockId). cond (absent && bytes_eq (name_of defs c.0) (codes "-")) (Some (call.Get None)) (named_get (name_of defs c.0) o)) (found defs apart c is)
      ∙ either (absent && bytes_eq (name_of defs c.0) (codes "-")) where
        either : (b : Bool) → cond b (Some (call.Get None)) (Some (call.Get (Some c))) ≡ Some (call.Get (cond b None (Some c)))
        either true = refl
        either false = refl

  handled : (verb : Word) (d : ℕ) (h : Handle) → h.number < 2 ^ 32 → option_and_then (handle_call verb) (handle d (decimal h.number)) ≡ handle_call verb (told_handle d h)
  handled verb d h low = ap (option_and_then (handle_call verb)) (handle_back d h low)

  rated : (verb : Word) (d : ℕ) (h : Handle) (x : ℕ) → h.number < 2 ^ 32 → x < 2 ^ 64
      → option_and_then (λ k. option_and_then (rated_call verb k) (large (decimal x))) (handle d (decimal h.number)) ≡ rated_call verb (told_handle d h) x
  rated verb d h x low few = ap (option_and_then (λ k. option_and_then (rated_call verb k) (large (decimal x)))) (handle_back d h low) ∙ ap (option_and_then (rated_call verb (told_handle d h))) (large_back x few)

  policy_back : (p : Policy) → IsPolicy p → read_policy (policy_words p) ≡ Some p
  unfolding read_policy plain_policy bound_policy
  policy_back policy.Accept is = refl
  policy_back (policy.VetoAbove r) is = ap (option_and_then (bound_policy (codes "above"))) (large_back r is)
  policy_back (policy.VetoBelow r) is = ap (option_and_then (bound_policy (codes "below"))) (large_back r is)
  policy_back policy.VetoAll is = refl

  -- a policy has a word
  long_policy : (k : Handle) (id z : Word) (p : Policy) → long_call (codes "notify") k id z (policy_words p) ≡ notify_call k id z (read_policy (policy_words p))
  unfolding long_call
  long_policy k id z policy.Accept = refl
  long_policy k id z (policy.VetoAbove r) = refl
  long_policy k id z (policy.VetoBelow r) = refl
  long_policy k id z policy.VetoAll = refl

  noted : (d : ℕ) (h : Handle) (id : ℕ) (z : ℤ) (p : Policy) → IsCall defs (call.NotifierAdd h id z p)
      → option_and_then (λ k. long_call (codes "notify") k (decimal id) (signed_decimal z) (policy_words p)) (handle d (decimal h.number)) ≡ Some (call.NotifierAdd (told_handle d h) id z p)
  unfolding notify_call
  noted d h id z p is =
      ap (option_and_then (λ k. long_call (codes "notify") k (decimal id) (signed_decimal z) (policy_words p))) (handle_back d h is.0)
      ∙ long_policy (told_handle d h) (decimal id) (signed_decimal z) p
      ∙ ap (notify_call (told_handle d h) (decimal id) (signed_decimal z)) (policy_back p is.3)
      ∙ ap (option_and_then (λ i. option_map (λ y. call.NotifierAdd (told_handle d h) i y p) (priority (signed_decimal z)))) (small_back id is.1)
      ∙ ap (option_map (λ y. call.NotifierAdd (told_handle d h) id y p)) (priority_back z is.2)

  pub call_back : (absent : Bool) (d : ℕ) (what : Sleeping) → IsCall defs what → read_call defs absent d (call_words defs what) ≡ Some (told_call defs absent d what)
  unfolding read_call short_call middle_call handle_call rated_call range_call long_call
  call_back absent d (call.Get o) is = get_back absent o is
  call_back absent d (call.Put h) is = handled (codes "put") d h is
  call_back absent d (call.Prepare h) is = handled (codes "prepare") d h is
  call_back absent d (call.Unprepare h) is = handled (codes "unprepare") d h is
  call_back absent d (call.GetRate h) is = handled (codes "rate") d h is
  call_back absent d (call.RoundRate h x) is = rated (codes "round") d h x is.0 is.1
  call_back absent d (call.SetRate h x) is = rated (codes "set") d h x is.0 is.1
  call_back absent d (call.SetRateExclusive h x) is = rated (codes "setx") d h x is.0 is.1
  call_back absent d (call.SetRange h least most) is =
      ap (option_and_then (λ k. range_call k (decimal least) (decimal most))) (handle_back d h is.0)
      ∙ ap (option_and_then (λ a. option_map (λ b. call.SetRange (told_handle d h) a b) (large (decimal most)))) (large_back least is.1) ∙ ap (option_map (λ b. call.SetRange (told_handle d h) least b)) (large_back most is.2)
  call_back absent d (call.SetParent h p) is =
      ap (option_and_then (λ k. option_map (λ c. call.SetParent k c) (clock_named defs (name_of defs p.0)))) (handle_back d h is.0) ∙ ap (option_map (λ c. call.SetParent (told_handle d h) c)) (found defs apart p is.1)
  call_back absent d (call.GetParent h) is = handled (codes "parent") d h is
  call_back absent d (call.ExclusiveGet h) is = handled (codes "lock") d h is
  call_back absent d (call.ExclusivePut h) is = handled (codes "unlock") d h is
  call_back absent d (call.NotifierAdd h id z p) is = noted d h id z p is
  call_back absent d (call.NotifierRemove h id) is =
      ap (option_and_then (λ k. option_map (λ n. call.NotifierRemove k n) (small (decimal id)))) (handle_back d h is.0) ∙ ap (option_map (λ n. call.NotifierRemove (told_handle d h) n)) (small_back id is.1)
  call_back absent d (call.Probe c) is = ap (option_map (λ (x : ClockId). call.Probe x)) (found defs apart c is)
  call_back absent d call.Sweep is = refl
