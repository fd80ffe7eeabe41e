-- Which call may change a line's bit.
use Rattle.std.proofs.Common.{◌≡◌, ◌≢◌, inl, inr, ℕ, ◌+◌, ◌-◌, ◌<◌, Bool, true, false, not, cond, nat_lt, nat_eq, List, [], ◌∷◌, ◌++◌, Option, Some, None, length, slice_set, refl, sym, ap, subst, ◌∙◌}
use Rattle.std.proofs.lemmas.Bool.{cases_eq}
use Rattle.reg_bank.proofs.BitLaws.{length-put_bit}
use Rattle.std.specs.Option.{option_map_or}
use Rattle.clk_base.specs.declared.event.Reply.TheVariants as reply
use Rattle.clk_base.specs.declared.event.Errno.TheVariants.{EPERM, ENOENT, EBUSY, EINVAL}
use Rattle.reset_core.specs.declared.call.ResetCall.{ResetCall}
use Rattle.reset_core.specs.declared.call.ResetCall.TheVariants as call
use Rattle.reset_core.specs.declared.call.ResetEntry.{ResetEntry}
use Rattle.reset_core.specs.declared.call.ResetLine.{ResetLine}
use Rattle.reset_core.specs.declared.record.HandleRecord.{HandleRecord}
use Rattle.reset_core.specs.Lines.{State, line_at, row_at, is_asserted, is_shared, acquired_on, deasserts_on}
use Rattle.reset_core.specs.Turns.{Legal, Turn, turn, stays, puts, asks, deasserts, asserts, pulses, acquires, releases, own_row, on_handle, replay, with_row, with_line, is_busy, new_row, asserted_if_free, with_deasserts, with_acquired}
use Rattle.reset_core.specs.Standing.{ArePlaced, at_start}
use Rattle.reset_core.specs.Sound.{AreApart, IsSound, Writes, line_call}
use Rattle.reset_core.specs.Logs.{state_of, WritesOwnLines}
use Rattle.reset_core.specs.declared.start.ResetStart.{ResetStart}
use Rattle.reset_core.proofs.Going.{grows, replay_more}
use Rattle.reset_core.proofs.Sounds.{bit_other, sound_replay, sound_start}

owned : (s : State) (d n : ℕ) (r : HandleRecord) → own_row s d n ≡ Some r → row_at s.handles n ≡ Some r
owned s d n r is = at (row_at s.handles n) refl is where
  by_case : (q : HandleRecord) (b : Bool) → row_at s.handles n ≡ Some q → cond b (Some q) None ≡ Some r → row_at s.handles n ≡ Some r
  by_case q true at_ same = at_ ∙ same
  by_case q false at_ same = absurd (let no_ : not_one ≡ Some r = same in cc) where
    not_one : Option HandleRecord
    not_one = None

  at : (x : Option HandleRecord) → row_at s.handles n ≡ x → option_map_or (λ (q : HandleRecord). cond (nat_eq q.driver d) (Some q) None) x None ≡ Some r → row_at s.handles n ≡ Some r
  at None at_ same = absurd cc
  at (Some q) at_ same = by_case q (nat_eq q.driver d) at_ same

module _ (s : State) (sound : IsSound s) (d m : ℕ) (within_ : m < length s.lines) where
  abbrev Q : ResetCall → Turn → Type 0
  Q what t = is_asserted t.state m ≢ is_asserted s m → Writes s (record { driver = d; what = what; reply = t.reply }) m

  still : (what : ResetCall) (t : Turn) → is_asserted t.state m ≡ is_asserted s m → Q what t
  still what t same = λ differs. absurd (differs same)

  choose : (what : ResetCall) (b : Bool) (x y : Turn) → Q what x → Q what y → Q what (cond b x y)
  choose what true x y p q = p
  choose what false x y p q = q

  on_own : (what : ResetCall) (n : ℕ) (act : State → ℕ → HandleRecord → Turn) → ((r : HandleRecord) → own_row s d n ≡ Some r → Q what (act s n r)) → Q what (on_handle s d n act)
  on_own what n act each = at (own_row s d n) refl where
    at : (x : Option HandleRecord) → own_row s d n ≡ x → Q what (option_map_or (act s n) x (stays s (reply.Refused ENOENT)))
    at None is = still what (stays s (reply.Refused ENOENT)) refl
    at (Some r) is = each r is

  -- a call that is fine and writes its own line alone
  lined : (what : ResetCall) (n : ℕ) (r : HandleRecord) (t : Turn) → line_call what ≡ Some n → own_row s d n ≡ Some r → t.reply ≡ reply.Fine → (r.line < length s.lines → r.line ≢ m → is_asserted t.state m ≡ is_asserted s m) → Q what t
  lined what n r t calls own fine other = elim (cases_eq r.line m) [
    | inl same ↦ λ differs. record { number = n; row = r; calls = calls; own = own; line = same; fine = fine }
    | inr away_ ↦ still what t (other (sound.inside n r (owned s d n r own)) away_)
  ]

  other_bit : (l : ℕ) (b : Bool) → l < length s.lines → l ≢ m → is_asserted (with_line s l b) m ≡ is_asserted s m
  other_bit l b place away_ = bit_other s sound.placed sound.apart l b place m within_ away_

  freed : (n : ℕ) (r : HandleRecord) → r.line < length s.lines → r.line ≢ m → (b : Bool)
      → is_asserted (cond b (with_row s n (Some (with_deasserts r (r.deasserts - 1)))) (with_line (with_row s n (Some (with_deasserts r (r.deasserts - 1)))) r.line true)) m ≡ is_asserted s m
  freed n r place away_ true = refl
  freed n r place away_ false = other_bit r.line true place away_

  pub writes : (what : ResetCall) → Q what (turn s d what)
  writes (call.Get None k) = still (call.Get None k) (stays s (reply.Refused ENOENT)) refl
  writes (call.Get (Some l) k) =
      choose (call.Get (Some l) k) (not (nat_lt l (length s.lines))) (stays s (reply.Refused ENOENT)) (cond (is_busy s.handles l k) (stays s (reply.Refused EBUSY)) (record { state = record s { handles = s.handles ++ Some (new_row d l k) ∷ [] }; reply = reply.Handle (record { number = length s.handles; slot = 0; driver = d }) }))
      (λ differs. absurd (differs refl))
      (choose (call.Get (Some l) k) (is_busy s.handles l k) (stays s (reply.Refused EBUSY)) (record { state = record s { handles = s.handles ++ Some (new_row d l k) ∷ [] }; reply = reply.Handle (record { number = length s.handles; slot = 0; driver = d }) }) (λ differs. absurd (differs refl)) (λ differs. absurd (differs refl)))
  writes (call.Put n) = on_own (call.Put n) n puts (λ r own. choose (call.Put n) (nat_lt 0 r.deasserts) (stays s (reply.Refused EBUSY)) (record { state = with_row s n None; reply = reply.Fine }) (λ differs. absurd (differs refl)) (λ differs. absurd (differs refl)))
  writes (call.Asserted n) = on_own (call.Asserted n) n asks (λ r own differs. absurd (differs refl))
  writes (call.Acquire n) = on_own (call.Acquire n) n acquires (λ r own.
      choose (call.Acquire n) (is_shared r) (stays s (reply.Refused EINVAL)) (cond r.acquired (stays s reply.Fine) (cond (nat_lt 0 (acquired_on r.line s.handles)) (stays s (reply.Refused EBUSY)) (record { state = with_row s n (Some (with_acquired r true)); reply = reply.Fine }))) (λ differs. absurd (differs refl))
      (choose (call.Acquire n) r.acquired (stays s reply.Fine) (cond (nat_lt 0 (acquired_on r.line s.handles)) (stays s (reply.Refused EBUSY)) (record { state = with_row s n (Some (with_acquired r true)); reply = reply.Fine })) (λ differs. absurd (differs refl))
      (choose (call.Acquire n) (nat_lt 0 (acquired_on r.line s.handles)) (stays s (reply.Refused EBUSY)) (record { state = with_row s n (Some (with_acquired r true)); reply = reply.Fine }) (λ differs. absurd (differs refl)) (λ differs. absurd (differs refl)))))
  writes (call.Release n) = on_own (call.Release n) n releases (λ r own.
      choose (call.Release n) (is_shared r) (stays s (reply.Refused EINVAL)) (cond r.acquired (record { state = with_row s n (Some (with_acquired r false)); reply = reply.Fine }) (stays s reply.Warn)) (λ differs. absurd (differs refl))
      (choose (call.Release n) r.acquired (record { state = with_row s n (Some (with_acquired r false)); reply = reply.Fine }) (stays s reply.Warn) (λ differs. absurd (differs refl)) (λ differs. absurd (differs refl))))
  writes (call.Deassert n) = on_own (call.Deassert n) n deasserts (λ r own.
      choose (call.Deassert n) (is_shared r) (record { state = with_line (with_row s n (Some (with_deasserts r (r.deasserts + 1)))) r.line false; reply = reply.Fine }) (cond r.acquired (record { state = with_line s r.line false; reply = reply.Fine }) (stays s (reply.Refused EPERM)))
      (lined (call.Deassert n) n r (record { state = with_line (with_row s n (Some (with_deasserts r (r.deasserts + 1)))) r.line false; reply = reply.Fine }) refl own refl (other_bit r.line false))
      (choose (call.Deassert n) r.acquired (record { state = with_line s r.line false; reply = reply.Fine }) (stays s (reply.Refused EPERM)) (lined (call.Deassert n) n r (record { state = with_line s r.line false; reply = reply.Fine }) refl own refl (other_bit r.line false)) (λ differs. absurd (differs refl))))
  writes (call.Assert n) = on_own (call.Assert n) n asserts (λ r own.
      choose (call.Assert n) (is_shared r) (cond (nat_lt 0 r.deasserts) (record { state = asserted_if_free (with_row s n (Some (with_deasserts r (r.deasserts - 1)))) r.line; reply = reply.Fine }) (stays s reply.Warn)) (cond r.acquired (record { state = with_line s r.line true; reply = reply.Fine }) (stays s (reply.Refused EPERM)))
      (choose (call.Assert n) (nat_lt 0 r.deasserts) (record { state = asserted_if_free (with_row s n (Some (with_deasserts r (r.deasserts - 1)))) r.line; reply = reply.Fine }) (stays s reply.Warn)
      (lined (call.Assert n) n r (record { state = asserted_if_free (with_row s n (Some (with_deasserts r (r.deasserts - 1)))) r.line; reply = reply.Fine }) refl own refl (λ place away_. freed n r place away_ (nat_lt 0 (deasserts_on r.line (slice_set s.handles n (Some (with_deasserts r (r.deasserts - 1))))))))
      (λ differs. absurd (differs refl)))
      (choose (call.Assert n) r.acquired (record { state = with_line s r.line true; reply = reply.Fine }) (stays s (reply.Refused EPERM)) (lined (call.Assert n) n r (record { state = with_line s r.line true; reply = reply.Fine }) refl own refl (other_bit r.line true)) (λ differs. absurd (differs refl))))
  writes (call.Pulse n) = on_own (call.Pulse n) n pulses (λ r own.
      choose (call.Pulse n) (is_shared r) (stays s (reply.Refused EINVAL)) (cond r.acquired (record { state = with_line (with_line s r.line true) r.line false; reply = reply.Fine }) (stays s (reply.Refused EPERM))) (λ differs. absurd (differs refl))
      (choose (call.Pulse n) r.acquired (record { state = with_line (with_line s r.line true) r.line false; reply = reply.Fine }) (stays s (reply.Refused EPERM))
      (lined (call.Pulse n) n r (record { state = with_line (with_line s r.line true) r.line false; reply = reply.Fine }) refl own refl (λ place away_.
      bit_other (with_line s r.line true) (subst (λ (k : ℕ). ArePlaced k s.lines) (sym (length-put_bit s.regs (line_at s.lines r.line).word (line_at s.lines r.line).bit true)) sound.placed) sound.apart r.line false place m within_ away_
      ∙ other_bit r.line true place away_))
      (λ differs. absurd (differs refl))))

lines_replay : (s : State) (es : List ResetEntry) → (replay s es).lines ≡ s.lines
lines_replay s [] = refl
lines_replay s (e ∷ es) = lines_replay (turn s e.driver e.what).state es ∙ (grows s e.driver e.what).lines

-- in a legal journal an entry has the reply that its call gives there
reply_at : (s : State) (before : List ResetEntry) (e : ResetEntry) (rest : List ResetEntry) → Legal s (before ++ e ∷ rest) → (turn (replay s before) e.driver e.what).reply ≡ e.reply
reply_at s [] e rest legal = legal.0
reply_at s (f ∷ before) e rest legal = reply_at (turn s f.driver f.what).state before e rest legal.1

pub writes_own : (start : ResetStart) (journal : List ResetEntry) → Legal (state_of start []) journal → ArePlaced start.words start.lines → AreApart start.lines → WritesOwnLines start journal
writes_own start journal legal placed apart = λ before e rest l is within differs.
    let s : State = state_of start before in
    let sound : IsSound s = sound_replay (at_start start.words start.lines) before (sound_start start.words start.lines placed apart) in
    let inside : l < length s.lines = subst (λ (ls : List ResetLine). l < length ls) (sym (lines_replay (at_start start.words start.lines) before)) within in
    let more : state_of start (before ++ e ∷ []) ≡ (turn s e.driver e.what).state = replay_more (at_start start.words start.lines) before e in
    let at : (turn s e.driver e.what).reply ≡ e.reply = reply_at (at_start start.words start.lines) before e rest (subst (λ (es : List ResetEntry). Legal (at_start start.words start.lines) es) is legal) in
    let w : Writes s (record { driver = e.driver; what = e.what; reply = (turn s e.driver e.what).reply }) l = writes s sound e.driver l inside e.what (λ same. differs (ap (λ (t : State). is_asserted t l) more ∙ same)) in
    record { number = w.number; row = w.row; calls = w.calls; own = w.own; line = w.line; fine = sym at ∙ w.fine }
