-- The words of a turn are read back, and a turn that was read has the words that it was read from.
use Rattle.std.proofs.Common.{◌≡◌, ℕ, ◌-◌, ◌^◌, false, List, [], ◌∷◌, Option, Some, None, refl, sym, ap, ◌∙◌, codes, arith}
use Rattle.std.specs.Option.{option_map}
use Rattle.clk_base.specs.declared.clock.ClockId.{ClockId}
use Rattle.clk_base.specs.declared.event.Errno.{Errno}
use Rattle.clk_base.specs.declared.event.Errno.TheVariants as errno
use Rattle.clk_base.specs.declared.event.Reply.{Reply}
use Rattle.clk_base.specs.declared.event.Reply.TheVariants as reply
use Rattle.clk_base.specs.declared.event.Turn.{Turn}
use Rattle.clk_base.specs.declared.event.Turn.TheVariants as turn
use Rattle.clk_base.specs.declared.handle.Handle.{Handle}
use Rattle.clk_base.specs.Description.{Description, name_of, clock_named, HasDistinctNames}
use Rattle.clk_base.proofs.Names.{clock_named-Some}
use Rattle.clk_model.specs.Text.{Word, errno_name, clock_word, reply_words, turn_words}
use Rattle.clk_journal.specs.Told.{told_found, told_reply, told_turn, IsTurn, IsThere}
use Rattle.clk_journal.specs.ReadNumbers.{large, handle}
use Rattle.clk_journal.specs.ReadEntries.{read_errno, plain_turn, named_reply, told_reply_of, read_turn}
use Rattle.clk_journal.proofs.Gives.{Gives, gives_some, gives_none, at_word, at_word_some, mapped, two, onto}
use Rattle.clk_journal.proofs.Numerals.{handle_back, large_back, handle_forth, number_forth}
use Rattle.clk_journal.proofs.Named.{found}

errno_back : (e : Errno) → read_errno (errno_name e) ≡ Some e
unfolding read_errno
errno_back errno.EPERM = refl
errno_back errno.ENOENT = refl
errno_back errno.EBUSY = refl
errno_back errno.EEXIST = refl
errno_back errno.EINVAL = refl
errno_back errno.ENOSPC = refl
errno_back errno.ESHUTDOWN = refl
errno_back errno.ETIMEDOUT = refl
errno_back errno.EPROBE_DEFER = refl

module _ (defs : Description) (apart : HasDistinctNames defs) where
  none_back : (o : Option ClockId) → clock_named defs (codes "-") ≡ o → named_reply (codes "-") o ≡ Some (reply.Clock o)
  unfolding named_reply
  none_back None e = refl
  none_back (Some c) e = refl

  clock_back : (o : Option ClockId) → IsThere defs o → named_reply (clock_word defs o) (clock_named defs (clock_word defs o)) ≡ Some (reply.Clock (told_found defs false o))
  unfolding named_reply
  clock_back None is = none_back (clock_named defs (codes "-")) refl
  clock_back (Some c) is = ap (named_reply (name_of defs c.0)) (found defs apart c is)

  pub turn_back : (d : ℕ) (t : Turn) → IsTurn defs t → read_turn defs d (turn_words defs t) ≡ Some (told_turn defs d t)
  unfolding read_turn plain_turn told_reply_of
  turn_back d turn.Going is = refl
  turn_back d (turn.Done reply.Fine) is = refl
  turn_back d (turn.Done reply.Warn) is = refl
  turn_back d (turn.Done reply.Yes) is = refl
  turn_back d (turn.Done reply.No) is = refl
  turn_back d (turn.Done (reply.Handle h)) is = ap (λ (o : Option Handle). option_map (λ r. turn.Done r) (option_map (λ k. reply.Handle k) o)) (handle_back d h is)
  turn_back d (turn.Done (reply.Rate r)) is = ap (λ (o : Option ℕ). option_map (λ x. turn.Done x) (option_map (λ n. reply.Rate n) o)) (large_back r is)
  turn_back d (turn.Done (reply.Clock o)) is = ap (option_map (λ x. turn.Done x)) (clock_back o is)
  turn_back d (turn.Done (reply.Refused e)) is = ap (λ (o : Option Errno). option_map (λ x. turn.Done x) (option_map (λ n. reply.Refused n) o)) (errno_back e)

-- the turn has these words, can be told, and is as it is told
pub record IsTurnOf (defs : Description) (d : ℕ) (ws : List Word) (t : Turn) : Type 0 where
  pub words : turn_words defs t ≡ ws
  pub can : IsTurn defs t
  pub told : told_turn defs d t ≡ t

errno_forth : (w : Word) → Gives (λ e. errno_name e ≡ w) (read_errno w)
unfolding read_errno
errno_forth w =
    let P : Errno → Type 0 = λ e. errno_name e ≡ w in
    at_word_some P w (codes "EPERM") _ _ (λ e. sym e)
    (at_word_some P w (codes "ENOENT") _ _ (λ e. sym e)
    (at_word_some P w (codes "EBUSY") _ _ (λ e. sym e)
    (at_word_some P w (codes "EEXIST") _ _ (λ e. sym e)
    (at_word_some P w (codes "EINVAL") _ _ (λ e. sym e)
    (at_word_some P w (codes "ENOSPC") _ _ (λ e. sym e)
    (at_word_some P w (codes "ESHUTDOWN") _ _ (λ e. sym e)
    (at_word_some P w (codes "ETIMEDOUT") _ _ (λ e. sym e)
    (at_word_some P w (codes "EPROBE_DEFER") _ _ (λ e. sym e)
    (gives_none P)))))))))

record IsReplyOf (defs : Description) (d : ℕ) (ws : List Word) (r : Reply) : Type 0 where
  words : reply_words defs r ≡ ws
  can : IsTurn defs (turn.Done r)
  told : told_reply defs d r ≡ r

module _ (defs : Description) (d : ℕ) where
  plain : (w : Word) → Gives (IsTurnOf defs d (w ∷ [])) (plain_turn w)
  unfolding plain_turn
  plain w =
      let P = IsTurnOf defs d (w ∷ []) in
      at_word_some P w (codes "going") _ _ (λ e. record { words = onto (sym e) refl; can = tt; told = refl })
      (at_word_some P w (codes "ok") _ _ (λ e. record { words = onto (sym e) refl; can = tt; told = refl })
      (at_word_some P w (codes "warn") _ _ (λ e. record { words = onto (sym e) refl; can = tt; told = refl })
      (at_word_some P w (codes "yes") _ _ (λ e. record { words = onto (sym e) refl; can = tt; told = refl })
      (at_word_some P w (codes "no") _ _ (λ e. record { words = onto (sym e) refl; can = tt; told = refl })
      (gives_none P)))))

  clocks : (w : Word) (o : Option ClockId) → clock_named defs w ≡ o → Gives (IsReplyOf defs d (codes "clock" ∷ w ∷ [])) (named_reply w o)
  unfolding named_reply
  clocks w None e =
      let P = IsReplyOf defs d (codes "clock" ∷ w ∷ []) in
      at_word_some P w (codes "-") _ _ (λ f. record { words = two refl (sym f); can = tt; told = ap (λ o. reply.Clock o) (ap (clock_named defs) (sym f) ∙ e) }) (gives_none P)
  clocks w (Some c) e =
      let there = clock_named-Some defs w c e in
      gives_some (IsReplyOf defs d (codes "clock" ∷ w ∷ [])) (reply.Clock (Some c)) (record { words = two refl there.1; can = there.0; told = refl })

  replies : (verb w : Word) → Gives (IsReplyOf defs d (verb ∷ w ∷ [])) (told_reply_of defs d verb w)
  unfolding told_reply_of
  replies verb w =
      let P = IsReplyOf defs d (verb ∷ w ∷ []) in
      at_word P verb (codes "handle") _ _ (λ e. mapped P (λ h. reply.Handle h) (handle d w) (λ h f.
      let is = handle_forth d w h f in record { words = two (sym e) is.word; can = is.low; told = ap (λ k. reply.Handle k) is.told }))
      (at_word P verb (codes "rate") _ _ (λ e. mapped P (λ n. reply.Rate n) (large w) (λ n f.
      let low = number_forth (2 ^ 64 - 1) w n f in record { words = two (sym e) low.word; can = omega (arith, low.low); told = refl }))
      (at_word P verb (codes "clock") _ _ (λ e. rw e (clocks w (clock_named defs w) refl))
      (at_word P verb (codes "err") _ _ (λ e. mapped P (λ x. reply.Refused x) (read_errno w) (λ x f. record { words = two (sym e) ((errno_forth w).holds x f); can = tt; told = refl }))
      (gives_none P))))

  pub turn_forth : (ws : List Word) → Gives (IsTurnOf defs d ws) (read_turn defs d ws)
  unfolding read_turn
  turn_forth [] = gives_none (IsTurnOf defs d [])
  turn_forth (w ∷ []) = plain w
  turn_forth (verb ∷ w ∷ []) = mapped (IsTurnOf defs d (verb ∷ w ∷ [])) (λ r. turn.Done r) (told_reply_of defs d verb w) (λ r e.
      let h = (replies verb w).holds r e in record { words = h.words; can = h.can; told = ap (λ x. turn.Done x) h.told })
  turn_forth (verb ∷ w ∷ v ∷ ws) = gives_none (IsTurnOf defs d (verb ∷ w ∷ v ∷ ws))
