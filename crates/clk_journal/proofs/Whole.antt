-- The words of a line are whole.
use Rattle.std.proofs.Common.{◌≡◌, ℕ, ℤ, pos, negsuc, suc, ◌+◌, ◌<◌, ◌≤◌, ◌%◌, ◌^◌, Bool, true, false, List, [], ◌∷◌, ◌++◌, Option, Some, None, refl, length, arith, codes}
use Rattle.std.specs.Prelude.{◌==◌, not, slice_index_or}
use Rattle.std.specs.Fmt.{decimal, signed_decimal}
use Rattle.std.specs.List.{list_all}
use Rattle.std.specs.Int.Signed.{mag}
use Rattle.std.proofs.lemmas.Bool.{and_from}
use Rattle.std.proofs.lemmas.Bool.Decides.{nat_tests}
use Rattle.std.proofs.lemmas.List.{length-append}
use Rattle.std.proofs.lemmas.Fmt.{decimal_by_steps}
use Rattle.clk_base.specs.declared.call.Micro.{Micro}
use Rattle.clk_base.specs.declared.call.Micro.TheVariants as micro
use Rattle.clk_base.specs.declared.call.Notice.TheVariants as notice
use Rattle.clk_base.specs.declared.call.Sleeping.{Sleeping}
use Rattle.clk_base.specs.declared.call.Sleeping.TheVariants as call
use Rattle.clk_base.specs.declared.clock.ClockId.{ClockId}
use Rattle.clk_base.specs.declared.event.Entry.{Entry}
use Rattle.clk_base.specs.declared.event.Errno.{Errno}
use Rattle.clk_base.specs.declared.event.Errno.TheVariants as errno
use Rattle.clk_base.specs.declared.event.Event.{Event}
use Rattle.clk_base.specs.declared.event.Event.TheVariants as event
use Rattle.clk_base.specs.declared.event.Reply.{Reply}
use Rattle.clk_base.specs.declared.event.Reply.TheVariants as reply
use Rattle.clk_base.specs.declared.event.Turn.{Turn}
use Rattle.clk_base.specs.declared.event.Turn.TheVariants as turn
use Rattle.clk_base.specs.declared.handle.Policy.{Policy}
use Rattle.clk_base.specs.declared.handle.Policy.TheVariants as policy
use Rattle.clk_base.specs.Description.{Description, name_of}
use Rattle.clk_model.proofs.Members.{both_left, both_right}
use Rattle.clk_model.specs.Text.{Word, errno_name, clock_word, reply_words, policy_words, call_words, lock_words, step_words, event_words, turn_words}
use Rattle.clk_journal.specs.Told.{IsNumber, IsSmall, IsPolicy, IsThere, IsCall, IsStep, IsEvent, IsTurn, CanBeTold, is_inside, is_whole, TellApart}
use Rattle.clk_journal.proofs.Parting.{AreWhole}

-- ---- numbers

inside_both : (xs ys : Word) → list_all is_inside xs ≡ true → list_all is_inside ys ≡ true → list_all is_inside (xs ++ ys) ≡ true
inside_both [] ys p q = q
inside_both (x ∷ xs) ys p q = and_from (is_inside x) _ (both_left _ _ p) (inside_both xs ys (both_right (is_inside x) (list_all is_inside xs) p) q)

digit : (n : ℕ) → list_all is_inside ((48 + n) ∷ []) ≡ true
digit n = and_from (is_inside (48 + n)) true (and_from (not ((48 + n) == 32)) (not ((48 + n) == 10)) (grind (arith, nat_tests)) (grind (arith, nat_tests))) refl

pub decimal_whole : (n : ℕ) → IsNumber n → is_whole (decimal n) ≡ true
decimal_whole n small = decimal_by_steps (λ m ds. is_whole ds ≡ true) (λ m low. digit m) longer n small where
  longer : (m : ℕ) (ds : Word) → 10 ≤ m → is_whole ds ≡ true → is_whole (ds ++ (48 + m % 10) ∷ []) ≡ true
  longer m ds high whole =
      and_from (not (length (ds ++ (48 + m % 10) ∷ []) == 0)) _ (grind (arith, nat_tests, length-append ds ((48 + m % 10) ∷ [])))
      (inside_both ds ((48 + m % 10) ∷ []) (both_right (not (length ds == 0)) (list_all is_inside ds) whole) (digit (m % 10)))

small_whole : (n : ℕ) → IsSmall n → is_whole (decimal n) ≡ true
small_whole n low = decimal_whole n (omega arith)

pub signed_whole : (z : ℤ) → mag z < 2 ^ 63 → is_whole (signed_decimal z) ≡ true
signed_whole (pos n) small = decimal_whole n (omega arith)
signed_whole (negsuc n) small =
    let ds = decimal (suc n) in
    and_from (not (length (45 ∷ ds) == 0)) (list_all is_inside (45 ∷ ds)) (grind (arith, nat_tests)) (both_right (not (length ds == 0)) (list_all is_inside ds) (decimal_whole (suc n) (omega arith)))

-- ---- words one behind another

whole_both : (ws vs : List Word) → AreWhole ws → AreWhole vs → AreWhole (ws ++ vs)
whole_both [] vs p q = q
whole_both (w ∷ ws) vs p q = (p.0, whole_both ws vs p.1 q)

errno_whole : (e : Errno) → is_whole (errno_name e) ≡ true
errno_whole errno.EPERM = refl
errno_whole errno.ENOENT = refl
errno_whole errno.EBUSY = refl
errno_whole errno.EEXIST = refl
errno_whole errno.EINVAL = refl
errno_whole errno.ENOSPC = refl
errno_whole errno.ESHUTDOWN = refl
errno_whole errno.ETIMEDOUT = refl
errno_whole errno.EPROBE_DEFER = refl

policy_whole : (p : Policy) → IsPolicy p → AreWhole (policy_words p)
policy_whole policy.Accept is = (refl, tt)
policy_whole (policy.VetoAbove r) is = (refl, (decimal_whole r is, tt))
policy_whole (policy.VetoBelow r) is = (refl, (decimal_whole r is, tt))
policy_whole policy.VetoAll is = (refl, tt)

module _ (defs : Description) (names : List Word) (apart : TellApart defs names) where
  name_whole : (c : ClockId) → c.0 < length defs → is_whole (name_of defs c.0) ≡ true
  name_whole c low = apart.whole c.0 low

  clock_whole : (c : Option ClockId) → IsThere defs c → is_whole (clock_word defs c) ≡ true
  clock_whole None is = refl
  clock_whole (Some c) is = name_whole c is

  reply_whole : (r : Reply) → IsTurn defs (turn.Done r) → AreWhole (reply_words defs r)
  reply_whole reply.Fine is = (refl, tt)
  reply_whole reply.Warn is = (refl, tt)
  reply_whole reply.Yes is = (refl, tt)
  reply_whole reply.No is = (refl, tt)
  reply_whole (reply.Handle h) is = (refl, (small_whole h.number is, tt))
  reply_whole (reply.Rate r) is = (refl, (decimal_whole r is, tt))
  reply_whole (reply.Clock c) is = (refl, (clock_whole c is, tt))
  reply_whole (reply.Refused e) is = (refl, (errno_whole e, tt))

  turn_whole : (t : Turn) → IsTurn defs t → AreWhole (turn_words defs t)
  turn_whole turn.Going is = (refl, tt)
  turn_whole (turn.Done r) is = reply_whole r is

  call_whole : (what : Sleeping) → IsCall defs what → AreWhole (call_words defs what)
  call_whole (call.Get found) is = (refl, (clock_whole found is, tt))
  call_whole (call.Put h) is = (refl, (small_whole h.number is, tt))
  call_whole (call.Prepare h) is = (refl, (small_whole h.number is, tt))
  call_whole (call.Unprepare h) is = (refl, (small_whole h.number is, tt))
  call_whole (call.GetRate h) is = (refl, (small_whole h.number is, tt))
  call_whole (call.RoundRate h x) is = (refl, (small_whole h.number is.0, (decimal_whole x is.1, tt)))
  call_whole (call.SetRate h x) is = (refl, (small_whole h.number is.0, (decimal_whole x is.1, tt)))
  call_whole (call.SetRateExclusive h x) is = (refl, (small_whole h.number is.0, (decimal_whole x is.1, tt)))
  call_whole (call.SetRange h least most) is = (refl, (small_whole h.number is.0, (decimal_whole least is.1, (decimal_whole most is.2, tt))))
  call_whole (call.SetParent h p) is = (refl, (small_whole h.number is.0, (name_whole p is.1, tt)))
  call_whole (call.GetParent h) is = (refl, (small_whole h.number is, tt))
  call_whole (call.ExclusiveGet h) is = (refl, (small_whole h.number is, tt))
  call_whole (call.ExclusivePut h) is = (refl, (small_whole h.number is, tt))
  call_whole (call.NotifierAdd h id priority policy) is = (refl, (small_whole h.number is.0, (small_whole id is.1, (signed_whole priority (omega (arith, is.2)), policy_whole policy is.3))))
  call_whole (call.NotifierRemove h id) is = (refl, (small_whole h.number is.0, (small_whole id is.1, tt)))
  call_whole (call.Probe c) is = (refl, (name_whole c is, tt))
  call_whole call.Sweep is = (refl, tt)

  lock_whole : (locked : Option Bool) → AreWhole (lock_words locked)
  lock_whole None = tt
  lock_whole (Some true) = (refl, tt)
  lock_whole (Some false) = (refl, tt)

  step_whole : (m : Micro) (locked : Option Bool) → IsStep defs m → AreWhole (step_words defs m locked)
  step_whole (micro.Notify (notice.Pre true) c id old new) locked is = (refl, (name_whole c is.0, (small_whole id is.1, (decimal_whole old is.2, (decimal_whole new is.3, (refl, tt))))))
  step_whole (micro.Notify (notice.Pre false) c id old new) locked is = (refl, (name_whole c is.0, (small_whole id is.1, (decimal_whole old is.2, (decimal_whole new is.3, (refl, tt))))))
  step_whole (micro.Notify notice.Abort c id old new) locked is = (refl, (name_whole c is.0, (small_whole id is.1, (decimal_whole old is.2, (decimal_whole new is.3, tt)))))
  step_whole (micro.Notify notice.Post c id old new) locked is = (refl, (name_whole c is.0, (small_whole id is.1, (decimal_whole old is.2, (decimal_whole new is.3, tt)))))
  step_whole (micro.Raise x) locked is = (refl, (name_whole x is, tt))
  step_whole (micro.Poll y) locked is = (refl, (name_whole y is, lock_whole locked))
  step_whole (micro.Fall y) locked is = (refl, (name_whole y is, tt))
  step_whole (micro.HoldPrepare x) locked is = (refl, (name_whole x is, tt))
  step_whole (micro.HoldEnable x) locked is = (refl, (name_whole x is, tt))
  step_whole (micro.Relink c p) locked is = (refl, (name_whole c is.0, (name_whole p is.1, tt)))
  step_whole (micro.WriteMux c place) locked is = (refl, (name_whole c is.0, (small_whole place is.1, tt)))
  step_whole (micro.DropEnable x) locked is = (refl, (name_whole x is, tt))
  step_whole (micro.DropPrepare x) locked is = (refl, (name_whole x is, tt))
  step_whole (micro.Lower x) locked is = (refl, (name_whole x is, tt))
  step_whole (micro.Visit c) locked is = (refl, (name_whole c is, tt))
  step_whole (micro.Register c) locked is = (refl, (name_whole c is, tt))
  step_whole (micro.Settle c) locked is = (refl, (name_whole c is, tt))
  step_whole (micro.Close c) locked is = (refl, (name_whole c is, tt))
  step_whole (micro.Unpower c) locked is = (refl, (name_whole c is, tt))
  step_whole micro.End locked is = (refl, tt)

  event_whole : (e : Event) → IsEvent defs e → AreWhole (event_words defs e)
  event_whole (event.Enable number) is = (refl, (small_whole number is, tt))
  event_whole (event.Disable number) is = (refl, (small_whole number is, tt))
  event_whole (event.Running number) is = (refl, (small_whole number is, tt))
  event_whole (event.Begin what) is = (refl, call_whole what is)
  event_whole (event.Step m locked) is = (refl, step_whole m locked is.0)

  -- the words of the line of an entry
  pub entry_whole : (number : ℕ) (e : Entry) → IsNumber number → CanBeTold defs names e
      → AreWhole (decimal number ∷ slice_index_or names e.driver [] ∷ event_words defs e.event ++ codes "=" ∷ turn_words defs e.turn)
  entry_whole number e small is = (
    decimal_whole number small,
    (apart.named e.driver is.driver_, whole_both (event_words defs e.event) (codes "=" ∷ turn_words defs e.turn) (event_whole e.event is.event_) (refl, turn_whole e.turn is.turn_)),
  )
