-- A journal with one entry more, and what a call adds to the handles at most.
use Rattle.std.proofs.Common.{◌≡◌, ℕ, ◌+◌, ◌-◌, ◌^◌, ◌<◌, ◌≤◌, Bool, true, false, cond, nat_lt, nat_eq, not, ◌==◌, if◌then◌else◌, List, [], ◌∷◌, ◌++◌, Option, Some, None, length, replicate, slice_set, refl, sym, ap, subst, ◌∙◌, arith}
use Rattle.std.proofs.lemmas.Bool.Decides.{nat_tests}
use Rattle.std.proofs.lemmas.List.{length-set, length-append, length-replicate}
use Rattle.std.proofs.lemmas.List.Sums.{sum_by-set, sum_by-append, sum_by-cons}
use Rattle.reg_bank.specs.Registers.{Registers, put_bit}
use Rattle.reg_bank.proofs.BitLaws.{length-put_bit}
use Rattle.std.specs.Option.{option_map_or}
use Rattle.clk_base.specs.declared.event.Reply.{Reply}
use Rattle.clk_base.specs.declared.event.Reply.TheVariants as reply
use Rattle.clk_base.specs.declared.event.Errno.TheVariants.{EPERM, ENOENT, EBUSY, EINVAL}
use Rattle.reset_core.specs.declared.call.ResetCall.{ResetCall}
use Rattle.reset_core.specs.declared.call.ResetCall.TheVariants as call
use Rattle.reset_core.specs.declared.call.ResetEntry.{ResetEntry}
use Rattle.reset_core.specs.declared.call.ResetKind.{ResetKind}
use Rattle.reset_core.specs.declared.call.ResetLine.{ResetLine}
use Rattle.reset_core.specs.declared.record.HandleRecord.{HandleRecord}
use Rattle.reset_core.specs.Lines.{State, line_at, row_at, is_shared, on_line, deassert_weight, deasserts_on, acquired_on}
use Rattle.reset_core.specs.Turns.{Turn, turn, replay, Legal, stays, with_row, with_line, is_busy, new_row, puts, deasserts, asserts, asserted_if_free, pulses, asks, acquires, releases, with_deasserts, with_acquired, on_handle}
use Rattle.reset_core.specs.Standing.{Standing, HasRoom, Makes, ArePlaced, at_start, all_asserted}
use Rattle.reset_core.specs.Sound.{AreApart}
use Rattle.reset_core.specs.Logs.{IsRun}
use Rattle.reset_core.proofs.Sums.{has_place}

pub replay_more : (s : State) (es : List ResetEntry) (e : ResetEntry) → replay s (es ++ e ∷ []) ≡ (turn (replay s es) e.driver e.what).state
replay_more s [] e = refl
replay_more s (f ∷ es) e = replay_more (turn s f.driver f.what).state es e

pub legal_more : (s : State) (es : List ResetEntry) (e : ResetEntry) → Legal s es → (turn (replay s es) e.driver e.what).reply ≡ e.reply → Legal s (es ++ e ∷ [])
legal_more s [] e legal is = (is, tt)
legal_more s (f ∷ es) e legal is = (legal.0, legal_more (turn s f.driver f.what).state es e legal.1 is)

-- ---- what holds after each call

within : (a b : ℕ) → not (nat_lt a b) ≡ false → a < b
within a b is = grind (arith, nat_tests)

module _ (P : State → Type 0) where
  either : (b : Bool) (x y : Turn) → (b ≡ true → P x.state) → (b ≡ false → P y.state) → P (cond b x y).state
  either true x y holds fails = holds refl
  either false x y holds fails = fails refl

  -- what holds after a refusal, and after the act on each handle of the number, holds after the call
  pub on_each : (s : State) (d n : ℕ) (act : State → ℕ → HandleRecord → Turn) → P s → ((r : HandleRecord) → row_at s.handles n ≡ Some r → P (act s n r).state) → P (on_handle s d n act).state
  on_each s d n act none each = at (row_at s.handles n) refl where
    owned : (r : HandleRecord) → row_at s.handles n ≡ Some r → (b : Bool) → P (option_map_or (act s n) (cond b (Some r) None) (stays s (reply.Refused ENOENT))).state
    owned r is true = each r is
    owned r is false = none

    at : (x : Option HandleRecord) → row_at s.handles n ≡ x → P (option_map_or (act s n) (option_map_or (λ (r : HandleRecord). if r.driver == d then Some r else None) x None) (stays s (reply.Refused ENOENT))).state
    at None is = none
    at (Some r) is = owned r is (r.driver == d)

  pub record Keeps (s : State) : Type 0 where
    pub same : P s
    pub adds : (d l : ℕ) (k : ResetKind) → l < length s.lines → is_busy s.handles l k ≡ false → P (record s { handles = s.handles ++ Some (new_row d l k) ∷ [] })
    pub drops : (n : ℕ) (r : HandleRecord) → row_at s.handles n ≡ Some r → nat_lt 0 r.deasserts ≡ false → P (with_row s n None)
    pub takes : (n : ℕ) (r : HandleRecord) → row_at s.handles n ≡ Some r → is_shared r ≡ true → P (with_line (with_row s n (Some (with_deasserts r (r.deasserts + 1)))) r.line false)
    pub clears : (n : ℕ) (r : HandleRecord) → row_at s.handles n ≡ Some r → is_shared r ≡ false → r.acquired ≡ true → P (with_line s r.line false)
    pub gives : (n : ℕ) (r : HandleRecord) → row_at s.handles n ≡ Some r → is_shared r ≡ true → nat_lt 0 r.deasserts ≡ true → P (asserted_if_free (with_row s n (Some (with_deasserts r (r.deasserts - 1)))) r.line)
    pub sets : (n : ℕ) (r : HandleRecord) → row_at s.handles n ≡ Some r → is_shared r ≡ false → r.acquired ≡ true → P (with_line s r.line true)
    pub pulses_ : (n : ℕ) (r : HandleRecord) → row_at s.handles n ≡ Some r → is_shared r ≡ false → r.acquired ≡ true → P (with_line (with_line s r.line true) r.line false)
    pub acquires_ : (n : ℕ) (r : HandleRecord) → row_at s.handles n ≡ Some r → is_shared r ≡ false → r.acquired ≡ false → nat_lt 0 (acquired_on r.line s.handles) ≡ false → P (with_row s n (Some (with_acquired r true)))
    pub releases_ : (n : ℕ) (r : HandleRecord) → row_at s.handles n ≡ Some r → is_shared r ≡ false → r.acquired ≡ true → P (with_row s n (Some (with_acquired r false)))

  -- what each change keeps holds after each call
  pub keeps : (s : State) (k : Keeps s) (d : ℕ) (what : ResetCall) → P (turn s d what).state
  keeps s k d (call.Get None kind) = k.same
  keeps s k d (call.Get (Some l) kind) =
      either (not (nat_lt l (length s.lines))) (stays s (reply.Refused ENOENT)) (cond (is_busy s.handles l kind) (stays s (reply.Refused EBUSY)) (record { state = record s { handles = s.handles ++ Some (new_row d l kind) ∷ [] }; reply = reply.Handle (record { number = length s.handles; slot = 0; driver = d }) }))
      (λ past. k.same) (λ there. either (is_busy s.handles l kind) (stays s (reply.Refused EBUSY)) (record { state = record s { handles = s.handles ++ Some (new_row d l kind) ∷ [] }; reply = reply.Handle (record { number = length s.handles; slot = 0; driver = d }) })
      (λ holds. k.same) (λ fails. k.adds d l kind (within l (length s.lines) there) fails))
  keeps s k d (call.Put n) = on_each s d n puts k.same (λ r is.
      either (nat_lt 0 r.deasserts) (stays s (reply.Refused EBUSY)) (record { state = with_row s n None; reply = reply.Fine }) (λ holds. k.same) (λ fails. k.drops n r is fails))
  keeps s k d (call.Deassert n) = on_each s d n deasserts k.same (λ r is.
      either (is_shared r) (record { state = with_line (with_row s n (Some (with_deasserts r (r.deasserts + 1)))) r.line false; reply = reply.Fine }) (cond r.acquired (record { state = with_line s r.line false; reply = reply.Fine }) (stays s (reply.Refused EPERM)))
      (λ shared. k.takes n r is shared) (λ other.
      either r.acquired (record { state = with_line s r.line false; reply = reply.Fine }) (stays s (reply.Refused EPERM)) (λ holds. k.clears n r is other holds) (λ fails. k.same)))
  keeps s k d (call.Assert n) = on_each s d n asserts k.same (λ r is.
      either (is_shared r) (cond (nat_lt 0 r.deasserts) (record { state = asserted_if_free (with_row s n (Some (with_deasserts r (r.deasserts - 1)))) r.line; reply = reply.Fine }) (stays s reply.Warn)) (cond r.acquired (record { state = with_line s r.line true; reply = reply.Fine }) (stays s (reply.Refused EPERM)))
      (λ shared. either (nat_lt 0 r.deasserts) (record { state = asserted_if_free (with_row s n (Some (with_deasserts r (r.deasserts - 1)))) r.line; reply = reply.Fine }) (stays s reply.Warn) (λ holds. k.gives n r is shared holds) (λ fails. k.same))
      (λ other. either r.acquired (record { state = with_line s r.line true; reply = reply.Fine }) (stays s (reply.Refused EPERM)) (λ holds. k.sets n r is other holds) (λ fails. k.same)))
  keeps s k d (call.Pulse n) = on_each s d n pulses k.same (λ r is.
      either (is_shared r) (stays s (reply.Refused EINVAL)) (cond r.acquired (record { state = with_line (with_line s r.line true) r.line false; reply = reply.Fine }) (stays s (reply.Refused EPERM)))
      (λ shared. k.same)
      (λ other. either r.acquired (record { state = with_line (with_line s r.line true) r.line false; reply = reply.Fine }) (stays s (reply.Refused EPERM)) (λ holds. k.pulses_ n r is other holds) (λ fails. k.same)))
  keeps s k d (call.Asserted n) = on_each s d n asks k.same (λ r is. k.same)
  keeps s k d (call.Acquire n) = on_each s d n acquires k.same (λ r is.
      either (is_shared r) (stays s (reply.Refused EINVAL)) (cond r.acquired (stays s reply.Fine) (cond (nat_lt 0 (acquired_on r.line s.handles)) (stays s (reply.Refused EBUSY)) (record { state = with_row s n (Some (with_acquired r true)); reply = reply.Fine })))
      (λ shared. k.same)
      (λ other. either r.acquired (stays s reply.Fine) (cond (nat_lt 0 (acquired_on r.line s.handles)) (stays s (reply.Refused EBUSY)) (record { state = with_row s n (Some (with_acquired r true)); reply = reply.Fine }))
      (λ holds. k.same)
      (λ fails. either (nat_lt 0 (acquired_on r.line s.handles)) (stays s (reply.Refused EBUSY)) (record { state = with_row s n (Some (with_acquired r true)); reply = reply.Fine }) (λ held. k.same) (λ free. k.acquires_ n r is other fails free))))
  keeps s k d (call.Release n) = on_each s d n releases k.same (λ r is.
      either (is_shared r) (stays s (reply.Refused EINVAL)) (cond r.acquired (record { state = with_row s n (Some (with_acquired r false)); reply = reply.Fine }) (stays s reply.Warn))
      (λ shared. k.same)
      (λ other. either r.acquired (record { state = with_row s n (Some (with_acquired r false)); reply = reply.Fine }) (stays s reply.Warn) (λ holds. k.releases_ n r is other holds) (λ fails. k.same)))

-- ---- what a call adds at most

pub record Grows (s t : State) : Type 0 where
  pub lines : t.lines ≡ s.lines
  pub size : length t.regs ≡ length s.regs
  pub handles : length t.handles ≤ length s.handles + 1
  pub sums : (l : ℕ) → deasserts_on l t.handles ≤ deasserts_on l s.handles + 1

grows_line : (s t : State) (l : ℕ) (b : Bool) → Grows s t → Grows s (with_line t l b)
grows_line s t l b g = record {
  lines = g.lines;
  size = length-put_bit t.regs (line_at t.lines l).word (line_at t.lines l).bit b ∙ g.size;
  handles = g.handles;
  sums = g.sums;
}

on_more : (l : ℕ) (r q : HandleRecord) → q.line ≡ r.line → q.deasserts ≤ r.deasserts + 1 → on_line deassert_weight l (Some q) ≤ on_line deassert_weight l (Some r) + 1
on_more l r q same more = subst (λ (k : ℕ). cond (nat_eq k l) q.deasserts 0 ≤ cond (nat_eq r.line l) r.deasserts 0 + 1) (sym same) (by_case (nat_eq r.line l)) where
  by_case : (b : Bool) → cond b q.deasserts 0 ≤ cond b r.deasserts 0 + 1
  by_case true = more
  by_case false = omega arith

grows_row : (s : State) (n : ℕ) (r : HandleRecord) (x : Option HandleRecord) → row_at s.handles n ≡ Some r → ((l : ℕ) → on_line deassert_weight l x ≤ on_line deassert_weight l (Some r) + 1) → Grows s (with_row s n x)
grows_row s n r x is more = record {
  lines = refl;
  size = refl;
  handles = omega (arith, length-set s.handles n x);
  sums = λ l.
      let e = subst (λ (q : Option HandleRecord). deasserts_on l (slice_set s.handles n x) + on_line deassert_weight l q ≡ deasserts_on l s.handles + on_line deassert_weight l x) is (sum_by-set (on_line deassert_weight l) s.handles n x None (has_place s.handles n r is)) in
      omega (arith, e, more l);
}

grows_free : (s t : State) (l : ℕ) → Grows s t → Grows s (asserted_if_free t l)
grows_free s t l g = by_case (nat_lt 0 (deasserts_on l t.handles)) where
  by_case : (b : Bool) → Grows s (cond b t (with_line t l true))
  by_case true = g
  by_case false = grows_line s t l true g

grows_same : (s : State) → Grows s s
grows_same s = record { lines = refl; size = refl; handles = omega arith; sums = λ l. omega arith }

abbrev nothing : Bool → ℕ
nothing b = cond b 0 0

pub grows : (s : State) (d : ℕ) (what : ResetCall) → Grows s (turn s d what).state
grows s d what = keeps (Grows s) s record {
  same = grows_same s;
  adds = λ d l k ok free. record {
    lines = refl;
    size = refl;
    handles = omega (arith, length-append s.handles (Some (new_row d l k) ∷ []));
    sums = λ m. omega (arith, sum_by-append (on_line deassert_weight m) s.handles (Some (new_row d l k) ∷ []), sum_by-cons (on_line deassert_weight m) (Some (new_row d l k)) [], none (nat_eq l m));
  };
  drops = λ n r is fails. grows_row s n r None is (λ l. omega arith);
  takes = λ n r is holds. grows_line s (with_row s n (Some (with_deasserts r (r.deasserts + 1)))) r.line false (grows_row s n r (Some (with_deasserts r (r.deasserts + 1))) is (λ l. on_more l r (with_deasserts r (r.deasserts + 1)) refl (omega arith)));
  clears = λ n r is fails holds. grows_line s s r.line false (grows_same s);
  gives = λ n r is shared holds. grows_free s (with_row s n (Some (with_deasserts r (r.deasserts - 1)))) r.line (grows_row s n r (Some (with_deasserts r (r.deasserts - 1))) is (λ l. on_more l r (with_deasserts r (r.deasserts - 1)) refl (omega arith)));
  sets = λ n r is fails holds. grows_line s s r.line true (grows_same s);
  pulses_ = λ n r is fails holds. grows_line s (with_line s r.line true) r.line false (grows_line s s r.line true (grows_same s));
  acquires_ = λ n r is other fails free. grows_row s n r (Some (with_acquired r true)) is (λ l. on_more l r (with_acquired r true) refl (omega arith));
  releases_ = λ n r is other holds. grows_row s n r (Some (with_acquired r false)) is (λ l. on_more l r (with_acquired r false) refl (omega arith));
} d what where
  none : (b : Bool) → nothing b ≡ 0
  none true = refl
  none false = refl

-- ---- a core's run with one entry more

module _ (words room capacity : ℕ) (c : Standing) (journal : List ResetEntry) (run : IsRun words room c capacity journal) (few : room < 2 ^ 32) (space : length journal < room) where
  pub has_room : HasRoom c
  has_room = record {
    room = omega (arith, run.few, run.handles, space);
    few = omega (arith, run.few, space, few);
    sums = λ l. omega (arith, run.sums l, space, few);
  }

  pub goes_on : (d : ℕ) (what : ResetCall) (r : Reply) (c' : Standing) (capacity' : ℕ) (journal' : List ResetEntry) → Makes (turn c.state d what) c c' r → capacity' ≡ capacity
      → journal' ≡ journal ++ record { driver = d; what = what; reply = r } ∷ [] → (IsRun words room c' capacity' journal' × (c'.state.lines ≡ c.state.lines))
  goes_on d what r c' capacity' journal' makes same more =
      let e : ResetEntry = record { driver = d; what = what; reply = r } in
      let g = grows c.state d what in
      let lines : c'.state.lines ≡ c.state.lines = ap (λ (s : State). s.lines) makes.state ∙ g.lines in
      let first : at_start words c'.state.lines ≡ at_start words c.state.lines = ap (at_start words) lines in
      let longer : length journal' ≡ length journal + 1 = ap length more ∙ length-append journal (e ∷ []) in
      let is : c.state ≡ replay (at_start words c.state.lines) journal = run.stands in (
        record {
          stands = makes.state ∙ ap (λ (s : State). (turn s d what).state) is ∙ sym (replay_more (at_start words c.state.lines) journal e) ∙ ap (replay (at_start words c.state.lines)) (sym more) ∙ ap (λ (s : State). replay s journal') (sym first);
          legal_ = subst (λ (s : State). Legal s journal') (sym first) (subst (λ (es : List ResetEntry). Legal (at_start words c.state.lines) es) (sym more)
              (legal_more (at_start words c.state.lines) journal e run.legal_ (ap (λ (s : State). (turn s d what).reply) (sym is) ∙ sym makes.reply)));
          size = ap (λ (s : State). length s.regs) makes.state ∙ g.size ∙ run.size;
          placed = subst (λ (ls : List ResetLine). ArePlaced words ls) (sym lines) run.placed;
          apart = subst (λ (ls : List ResetLine). AreApart ls) (sym lines) run.apart;
          within = omega (arith, longer, space);
          entries = omega (arith, same, run.entries);
          handles = omega (arith, makes.capacity, run.handles);
          few = omega (arith, longer, ap (λ (s : State). length s.handles) makes.state, g.handles, run.few);
          sums = λ l. omega (arith, longer, ap (λ (s : State). deasserts_on l s.handles) makes.state, g.sums l, run.sums l);
        },
        lines,
      )

pub length-asserted : (words : Registers) (lines : List ResetLine) → length (all_asserted words lines) ≡ length words
length-asserted words [] = refl
length-asserted words (l ∷ lines) = length-asserted (put_bit words l.word l.bit true) lines ∙ length-put_bit words l.word l.bit true

-- a core that begins
pub begins_run : (words room : ℕ) (lines : List ResetLine) (c : Standing) (capacity : ℕ) (journal : List ResetEntry) → ArePlaced words lines → AreApart lines → c.state ≡ at_start words lines → room ≤ c.capacity → room ≤ capacity → journal ≡ []
    → (IsRun words room c capacity journal × (c.state.lines ≡ lines))
begins_run words room lines c capacity journal placed apart is handles entries empty =
    let same : c.state.lines ≡ lines = ap (λ (s : State). s.lines) is in (
      record {
        stands = is ∙ ap (at_start words) (sym same) ∙ ap (replay (at_start words c.state.lines)) (sym empty);
        legal_ = subst (λ (es : List ResetEntry). Legal (at_start words c.state.lines) es) (sym empty) tt;
        placed = subst (λ (ls : List ResetLine). ArePlaced words ls) (sym same) placed;
        apart = subst (λ (ls : List ResetLine). AreApart ls) (sym same) apart;
        size = ap (λ (s : State). length s.regs) is ∙ length-asserted (replicate words 0) lines ∙ length-replicate words 0;
        within = omega (arith, ap length empty);
        entries = entries;
        handles = handles;
        few = omega (arith, ap (λ (s : State). length s.handles) is);
        sums = λ l. omega (arith, ap (λ (s : State). deasserts_on l s.handles) is);
      },
      same,
    )
