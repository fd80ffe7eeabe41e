-- What each event comes to, case by case.
use Rattle.std.proofs.Common.{◌≡◌, ℕ, ◌+◌, ◌-◌, ◌<◌, Bool, true, false, cond, List, [], Option, Some, None, refl, ap, ◌∙◌, arith, nat_eq}
use Rattle.std.specs.Prelude.{slice_get, is_none, if◌then◌else◌, option_map}
use Rattle.std.specs.Option.{option_map_or}
use Rattle.std.proofs.lemmas.Bool.Decides.{nat_tests}
use Rattle.clk_base.specs.declared.clock.ClockId.{ClockId}
use Rattle.clk_base.specs.declared.call.Sleeping.{Sleeping}
use Rattle.clk_base.specs.declared.call.Sleeping.TheVariants as call
use Rattle.clk_base.specs.declared.event.Event.TheVariants as event
use Rattle.clk_base.specs.declared.event.Errno.TheVariants as errno
use Rattle.clk_base.specs.declared.event.Reply.TheVariants as reply
use Rattle.clk_base.specs.declared.event.Turn.{Turn}
use Rattle.clk_base.specs.declared.event.Turn.TheVariants as turn
use Rattle.clk_base.specs.declared.handle.Handle.{Handle}
use Rattle.clk_model.specs.declared.row.HandleRow.{HandleRow}
use Rattle.clk_model.specs.State.{State, Change, is_quiet, registered, link_in, handle_at}
use Rattle.clk_model.specs.Tree.{rooted, path}
use Rattle.clk_model.specs.Holders.{active}
use Rattle.clk_model.specs.Rate.{rate}
use Rattle.clk_model.specs.Chain.{clock_id}
use Rattle.clk_model.specs.Script.{unprepared_plls}
use Rattle.clk_model.specs.Begin.{done, refused, pick, put_handle, own_handle, with_handle, given, put_back, prepare, prepared_once_more, unprepare, begun, holds_something, keeps_prepare}
use Rattle.clk_model.specs.Machine.{enabled, disabled, running, paid, next}

pub pick-true : (b : Bool) (f g : Unit {0} → State × Turn) → b ≡ true → pick b f g ≡ f tt
unfolding pick
pick-true true f g e = refl
pick-true false f g e = absurd cc

pub pick-false : (b : Bool) (f g : Unit {0} → State × Turn) → b ≡ false → pick b f g ≡ g tt
unfolding pick
pick-false false f g e = refl
pick-false true f g e = absurd cc

-- ---- handles

pub with-none : (s : State) (d n : ℕ) (f : HandleRow → State × Turn) → own_handle s d n ≡ None → with_handle s d n f ≡ refused s errno.ENOENT
with-none s d n f none = ap (λ (o : Option HandleRow). option_map_or f o (refused s errno.ENOENT)) none

pub with-some : (s : State) (d n : ℕ) (f : HandleRow → State × Turn) (h : HandleRow) → own_handle s d n ≡ Some h → with_handle s d n f ≡ f h
with-some s d n f h some = ap (λ (o : Option HandleRow). option_map_or f o (refused s errno.ENOENT)) some

-- a driver's own handle is a live one
pub own_is_live : (s : State) (d n : ℕ) (h : HandleRow) → own_handle s d n ≡ Some h → handle_at s.handles n ≡ Some h
own_is_live s d n h own = live (handle_at s.handles n) own where
  same : (g : HandleRow) (b : Bool) → cond b (Some g) None ≡ Some h → Some g ≡ Some h
  same g true e = e
  same g false e = absurd cc

  live : (o : Option HandleRow) → option_map_or (λ g. cond (nat_eq g.driver d) (Some g) None) o None ≡ Some h → o ≡ Some h
  live None e = e
  live (Some g) e = same g (nat_eq g.driver d) e

-- ---- enable

pub enable-unknown : (s : State) (d n : ℕ) → own_handle s d n ≡ None → next s d (event.Enable n) ≡ paid s (refused s errno.ENOENT)
unfolding next
enable-unknown s d n none = ap (paid s) (with-none s d n (enabled s n) none)

pub enable-unprepared : (s : State) (d n : ℕ) (h : HandleRow) → own_handle s d n ≡ Some h → h.prepares ≡ 0 → next s d (event.Enable n) ≡ paid s (refused s errno.ESHUTDOWN)
unfolding next
enable-unprepared s d n h own idle =
    ap (paid s) (with-some s d n (enabled s n) h own
    ∙ pick-true (nat_eq h.prepares 0) (λ t. refused s errno.ESHUTDOWN) (λ t. done (put_handle s n (Some (record h { enables = h.enables + 1 }))) reply.Fine) (grind (arith, nat_tests)))

pub enable-fine : (s : State) (d n : ℕ) (h : HandleRow) → own_handle s d n ≡ Some h → 0 < h.prepares
    → next s d (event.Enable n) ≡ paid s (put_handle s n (Some (record h { enables = h.enables + 1 })), turn.Done reply.Fine)
unfolding next
enable-fine s d n h own some =
    ap (paid s) (with-some s d n (enabled s n) h own
    ∙ pick-false (nat_eq h.prepares 0) (λ t. refused s errno.ESHUTDOWN) (λ t. done (put_handle s n (Some (record h { enables = h.enables + 1 }))) reply.Fine) (grind (arith, nat_tests)))

-- ---- disable

pub disable-unknown : (s : State) (d n : ℕ) → own_handle s d n ≡ None → next s d (event.Disable n) ≡ paid s (refused s errno.ENOENT)
unfolding next
disable-unknown s d n none = ap (paid s) (with-none s d n (disabled s n) none)

pub disable-warned : (s : State) (d n : ℕ) (h : HandleRow) → own_handle s d n ≡ Some h → h.enables ≡ 0 → next s d (event.Disable n) ≡ paid s (s, turn.Done reply.Warn)
unfolding next
disable-warned s d n h own idle =
    ap (paid s) (with-some s d n (disabled s n) h own
    ∙ pick-true (nat_eq h.enables 0) (λ t. done s reply.Warn) (λ t. done (put_handle s n (Some (record h { enables = h.enables - 1 }))) reply.Fine) (grind (arith, nat_tests)))

pub disable-fine : (s : State) (d n : ℕ) (h : HandleRow) → own_handle s d n ≡ Some h → 0 < h.enables
    → next s d (event.Disable n) ≡ paid s (put_handle s n (Some (record h { enables = h.enables - 1 })), turn.Done reply.Fine)
unfolding next
disable-fine s d n h own some =
    ap (paid s) (with-some s d n (disabled s n) h own
    ∙ pick-false (nat_eq h.enables 0) (λ t. done s reply.Warn) (λ t. done (put_handle s n (Some (record h { enables = h.enables - 1 }))) reply.Fine) (grind (arith, nat_tests)))

-- ---- running

pub running-unknown : (s : State) (d n : ℕ) → own_handle s d n ≡ None → next s d (event.Running n) ≡ paid s (refused s errno.ENOENT)
unfolding next
running-unknown s d n none = ap (paid s) (with-none s d n (running s) none)

pub running-told : (s : State) (d n : ℕ) (h : HandleRow) → own_handle s d n ≡ Some h
    → next s d (event.Running n) ≡ paid s (s, turn.Done (if active s h.clock.0 then reply.Yes else reply.No))
unfolding next
running-told s d n h own = ap (paid s) (with-some s d n (running s) h own)

-- ---- calls

-- a call begins where no change is in flight
pub begin_quiet : (s : State) (d : ℕ) (what : Sleeping) → s.change ≡ None → next s d (event.Begin what) ≡ paid s (begun s d what)
unfolding next
begin_quiet s d what quiet = ap (λ (o : Option Change). cond (is_quiet o) (paid s (begun s d what)) None) quiet

pub get-not_found : (s : State) (d : ℕ) → s.change ≡ None → next s d (event.Begin (call.Get None)) ≡ paid s (refused s errno.ENOENT)
unfolding begun
get-not_found s d quiet = begin_quiet s d (call.Get None) quiet

pub get-deferred : (s : State) (d : ℕ) (c : ClockId) → s.change ≡ None → rooted s.defs s.clocks c.0 ≡ false
    → next s d (event.Begin (call.Get (Some c))) ≡ paid s (refused s errno.EPROBE_DEFER)
unfolding begun
get-deferred s d c quiet loose =
    begin_quiet s d (call.Get (Some c)) quiet
    ∙ ap (paid s) (pick-false (rooted s.defs s.clocks c.0) (λ t. given s d c.0) (λ t. refused s errno.EPROBE_DEFER) loose)

pub get-given : (s : State) (d : ℕ) (c : ClockId) → s.change ≡ None → rooted s.defs s.clocks c.0 ≡ true
    → next s d (event.Begin (call.Get (Some c))) ≡ paid s (given s d c.0)
unfolding begun
get-given s d c quiet fast =
    begin_quiet s d (call.Get (Some c)) quiet
    ∙ ap (paid s) (pick-true (rooted s.defs s.clocks c.0) (λ t. given s d c.0) (λ t. refused s errno.EPROBE_DEFER) fast)

pub put-unknown : (s : State) (d : ℕ) (h : Handle) → s.change ≡ None → own_handle s d h.number ≡ None
    → next s d (event.Begin (call.Put h)) ≡ paid s (refused s errno.ENOENT)
unfolding begun
put-unknown s d h quiet none =
    begin_quiet s d (call.Put h) quiet ∙ ap (paid s) (with-none s d h.number (put_back s h.number) none)

pub put-busy : (s : State) (d : ℕ) (h : Handle) (row : HandleRow) → s.change ≡ None → own_handle s d h.number ≡ Some row → holds_something row ≡ true
    → next s d (event.Begin (call.Put h)) ≡ paid s (refused s errno.EBUSY)
unfolding begun
put-busy s d h row quiet own holds =
    begin_quiet s d (call.Put h) quiet
    ∙ ap (paid s) (with-some s d h.number (put_back s h.number) row own ∙ pick-true (holds_something row) _ _ holds)

pub put-fine : (s : State) (d : ℕ) (h : Handle) (row : HandleRow) → s.change ≡ None → own_handle s d h.number ≡ Some row → holds_something row ≡ false
    → next s d (event.Begin (call.Put h)) ≡ paid s (put_handle s h.number None, turn.Done reply.Fine)
unfolding begun
put-fine s d h row quiet own free =
    begin_quiet s d (call.Put h) quiet
    ∙ ap (paid s) (with-some s d h.number (put_back s h.number) row own ∙ pick-false (holds_something row) _ _ free)

pub prepare-unknown : (s : State) (d : ℕ) (h : Handle) → s.change ≡ None → own_handle s d h.number ≡ None
    → next s d (event.Begin (call.Prepare h)) ≡ paid s (refused s errno.ENOENT)
unfolding begun
prepare-unknown s d h quiet none =
    begin_quiet s d (call.Prepare h) quiet ∙ ap (paid s) (with-none s d h.number (prepare s d (call.Prepare h) h.number) none)

-- a prepare is done at once where no PLL above is unprepared
pub prepare-fine : (s : State) (d : ℕ) (h : Handle) (row : HandleRow) → s.change ≡ None → own_handle s d h.number ≡ Some row
    → unprepared_plls s (path s.clocks row.clock.0) ≡ []
    → next s d (event.Begin (call.Prepare h)) ≡ paid s (prepared_once_more s h.number row, turn.Done reply.Fine)
unfolding begun
prepare-fine s d h row quiet own none =
    begin_quiet s d (call.Prepare h) quiet
    ∙ ap (paid s) (with-some s d h.number (prepare s d (call.Prepare h) h.number) row own
    ∙ pick-true (is_none (slice_get (unprepared_plls s (path s.clocks row.clock.0)) 0)) _ _ (ap (λ (cs : List ℕ). is_none (slice_get cs 0)) none))

pub unprepare-unknown : (s : State) (d : ℕ) (h : Handle) → s.change ≡ None → own_handle s d h.number ≡ None
    → next s d (event.Begin (call.Unprepare h)) ≡ paid s (refused s errno.ENOENT)
unfolding begun
unprepare-unknown s d h quiet none =
    begin_quiet s d (call.Unprepare h) quiet ∙ ap (paid s) (with-none s d h.number (unprepare s d (call.Unprepare h) h.number) none)

pub unprepare-warned : (s : State) (d : ℕ) (h : Handle) (row : HandleRow) → s.change ≡ None → own_handle s d h.number ≡ Some row → keeps_prepare row ≡ true
    → next s d (event.Begin (call.Unprepare h)) ≡ paid s (s, turn.Done reply.Warn)
unfolding begun
unprepare-warned s d h row quiet own keeps =
    begin_quiet s d (call.Unprepare h) quiet
    ∙ ap (paid s) (with-some s d h.number (unprepare s d (call.Unprepare h) h.number) row own ∙ pick-true (keeps_prepare row) _ _ keeps)

-- a handle with one prepare less
abbrev pub prepared_once_less : State → ℕ → HandleRow → State
prepared_once_less s number h = put_handle s number (Some (record h { prepares = h.prepares - 1 }))

pub rate-unknown : (s : State) (d : ℕ) (h : Handle) → s.change ≡ None → own_handle s d h.number ≡ None
    → next s d (event.Begin (call.GetRate h)) ≡ paid s (refused s errno.ENOENT)
unfolding begun
rate-unknown s d h quiet none =
    begin_quiet s d (call.GetRate h) quiet ∙ ap (paid s) (with-none s d h.number (λ row. done s (reply.Rate (rate s.defs s.regs s.clocks row.clock.0))) none)

pub rate-told : (s : State) (d : ℕ) (h : Handle) (row : HandleRow) → s.change ≡ None → own_handle s d h.number ≡ Some row
    → next s d (event.Begin (call.GetRate h)) ≡ paid s (s, turn.Done (reply.Rate (rate s.defs s.regs s.clocks row.clock.0)))
unfolding begun
rate-told s d h row quiet own =
    begin_quiet s d (call.GetRate h) quiet ∙ ap (paid s) (with-some s d h.number (λ row. done s (reply.Rate (rate s.defs s.regs s.clocks row.clock.0))) row own)

pub parent-unknown : (s : State) (d : ℕ) (h : Handle) → s.change ≡ None → own_handle s d h.number ≡ None
    → next s d (event.Begin (call.GetParent h)) ≡ paid s (refused s errno.ENOENT)
unfolding begun
parent-unknown s d h quiet none =
    begin_quiet s d (call.GetParent h) quiet
    ∙ ap (paid s) (with-none s d h.number (λ row. done s (reply.Clock (option_map clock_id (link_in s.clocks row.clock.0)))) none)

pub parent-told : (s : State) (d : ℕ) (h : Handle) (row : HandleRow) → s.change ≡ None → own_handle s d h.number ≡ Some row
    → next s d (event.Begin (call.GetParent h)) ≡ paid s (s, turn.Done (reply.Clock (option_map clock_id (link_in s.clocks row.clock.0))))
unfolding begun
parent-told s d h row quiet own =
    begin_quiet s d (call.GetParent h) quiet
    ∙ ap (paid s) (with-some s d h.number (λ row. done s (reply.Clock (option_map clock_id (link_in s.clocks row.clock.0)))) row own)

pub probe-twice : (s : State) (d : ℕ) (c : ClockId) → s.change ≡ None → registered s.clocks c.0 ≡ true
    → next s d (event.Begin (call.Probe c)) ≡ paid s (refused s errno.EEXIST)
unfolding begun
probe-twice s d c quiet there =
    begin_quiet s d (call.Probe c) quiet ∙ ap (paid s) (pick-true (registered s.clocks c.0) _ _ there)
