-- What each call makes of the state, and its reply.
use Rattle.std.specs.Prelude.{◌≡◌, ℕ, ◌+◌, ◌-◌, List, [], ◌∷◌, ◌++◌, Option, Some, None, Bool, true, false, not, ◌==◌, if◌then◌else◌, nat_lt, slice_set, length}
use Rattle.std.specs.Option.{option_map_or}
use Rattle.reg_bank.specs.Registers.{put_bit}
use Rattle.clk_base.specs.declared.event.Reply.{Reply}
use Rattle.clk_base.specs.declared.event.Reply.TheVariants as reply
use Rattle.clk_base.specs.declared.event.Errno.TheVariants.{EPERM, ENOENT, EBUSY, EINVAL}
use Rattle.reset_core.specs.declared.call.ResetCall.{ResetCall}
use Rattle.reset_core.specs.declared.call.ResetCall.TheVariants as call
use Rattle.reset_core.specs.declared.call.ResetEntry.{ResetEntry}
use Rattle.reset_core.specs.declared.call.ResetKind.{ResetKind}
use Rattle.reset_core.specs.declared.call.ResetKind.TheVariants as kind
use Rattle.reset_core.specs.declared.record.HandleRecord.{HandleRecord}
use Rattle.reset_core.specs.Lines.{State, line_at, is_asserted, is_shared, row_at, shared_on, others_on, acquired_on, deasserts_on}

-- the state after a call, and the reply
pub record Turn : Type 0 where
  pub state : State
  pub reply : Reply

-- the call changes nothing
abbrev pub stays : State → Reply → Turn
stays s r = record { state = s; reply = r }

-- the state with another handle of a number
abbrev pub with_row : State → ℕ → Option HandleRecord → State
with_row s n x = record s { handles = slice_set s.handles n x }

-- the state with a line asserted or not
abbrev pub with_line : State → ℕ → Bool → State
with_line s l b = record s { regs = put_bit s.regs (line_at s.lines l).word (line_at s.lines l).bit b }

-- ---- gets

-- whether the handles of a line leave no room for one of this kind
abbrev pub is_busy : List (Option HandleRecord) → ℕ → ResetKind → Bool
is_busy handles l kind.Shared = nat_lt 0 (others_on l handles)
is_busy handles l kind.Released = nat_lt 0 (shared_on l handles)
is_busy handles l kind.Exclusive = nat_lt 0 (shared_on l handles + others_on l handles)

abbrev pub is_exclusive : ResetKind → Bool
is_exclusive kind.Exclusive = true
is_exclusive kind.Released = false
is_exclusive kind.Shared = false

-- a new handle: an exclusive one is acquired at once
abbrev pub new_row : ℕ → ℕ → ResetKind → HandleRecord
new_row d l k = record { driver = d; line = l; kind = k; deasserts = 0; acquired = is_exclusive k }

abbrev pub gets : State → ℕ → Option ℕ → ResetKind → Turn
gets s d None k = stays s (reply.Refused ENOENT)
gets s d (Some l) k =
    if not (nat_lt l (length s.lines)) then stays s (reply.Refused ENOENT)
    else if is_busy s.handles l k then stays s (reply.Refused EBUSY)
    else record {
      state = record s { handles = s.handles ++ Some (new_row d l k) ∷ [] };
      reply = reply.Handle (record { number = length s.handles; slot = 0; driver = d });
    }

-- ---- calls on a handle of this number and row

abbrev pub puts : State → ℕ → HandleRecord → Turn
puts s n r = if nat_lt 0 r.deasserts then stays s (reply.Refused EBUSY) else record { state = with_row s n None; reply = reply.Fine }

abbrev pub with_deasserts : HandleRecord → ℕ → HandleRecord
with_deasserts r k = record r { deasserts = k }

abbrev pub deasserts : State → ℕ → HandleRecord → Turn
deasserts s n r =
    if is_shared r then record { state = with_line (with_row s n (Some (with_deasserts r (r.deasserts + 1)))) r.line false; reply = reply.Fine }
    else if r.acquired then record { state = with_line s r.line false; reply = reply.Fine }
    else stays s (reply.Refused EPERM)

-- the line is asserted if no handle of it has a deassert any more
abbrev pub asserted_if_free : State → ℕ → State
asserted_if_free s l = if nat_lt 0 (deasserts_on l s.handles) then s else with_line s l true

abbrev pub asserts : State → ℕ → HandleRecord → Turn
asserts s n r =
    if is_shared r then
    (if nat_lt 0 r.deasserts then record { state = asserted_if_free (with_row s n (Some (with_deasserts r (r.deasserts - 1)))) r.line; reply = reply.Fine } else stays s reply.Warn)
    else if r.acquired then record { state = with_line s r.line true; reply = reply.Fine }
    else stays s (reply.Refused EPERM)

abbrev pub pulses : State → ℕ → HandleRecord → Turn
pulses s n r =
    if is_shared r then stays s (reply.Refused EINVAL)
    else if r.acquired then record { state = with_line (with_line s r.line true) r.line false; reply = reply.Fine }
    else stays s (reply.Refused EPERM)

abbrev pub asks : State → ℕ → HandleRecord → Turn
asks s n r = stays s (if is_asserted s r.line then reply.Yes else reply.No)

abbrev pub with_acquired : HandleRecord → Bool → HandleRecord
with_acquired r b = record r { acquired = b }

abbrev pub acquires : State → ℕ → HandleRecord → Turn
acquires s n r =
    if is_shared r then stays s (reply.Refused EINVAL)
    else if r.acquired then stays s reply.Fine
    else if nat_lt 0 (acquired_on r.line s.handles) then stays s (reply.Refused EBUSY)
    else record { state = with_row s n (Some (with_acquired r true)); reply = reply.Fine }

abbrev pub releases : State → ℕ → HandleRecord → Turn
releases s n r =
    if is_shared r then stays s (reply.Refused EINVAL)
    else if r.acquired then record { state = with_row s n (Some (with_acquired r false)); reply = reply.Fine }
    else stays s reply.Warn

-- ---- all calls

-- the handle of a number, if it is a live one of the driver
abbrev pub own_row : State → ℕ → ℕ → Option HandleRecord
own_row s d n = option_map_or (λ r. if r.driver == d then Some r else None) (row_at s.handles n) None

-- a call on a handle of the driver; any other number is refused
abbrev pub on_handle : State → ℕ → ℕ → (State → ℕ → HandleRecord → Turn) → Turn
on_handle s d n what = option_map_or (what s n) (own_row s d n) (stays s (reply.Refused ENOENT))

abbrev pub turn : State → ℕ → ResetCall → Turn
turn s d (call.Get line k) = gets s d line k
turn s d (call.Put n) = on_handle s d n puts
turn s d (call.Deassert n) = on_handle s d n deasserts
turn s d (call.Assert n) = on_handle s d n asserts
turn s d (call.Pulse n) = on_handle s d n pulses
turn s d (call.Asserted n) = on_handle s d n asks
turn s d (call.Acquire n) = on_handle s d n acquires
turn s d (call.Release n) = on_handle s d n releases

-- ---- journals

-- the state after a journal
abbrev pub replay : State → List ResetEntry → State
replay s [] = s
replay s (e ∷ es) = replay (turn s e.driver e.what).state es

-- each entry has the reply that its call gives there
abbrev pub Legal : State → List ResetEntry → Type 0
Legal s [] = Unit {0}
Legal s (e ∷ es) = ((turn s e.driver e.what).reply ≡ e.reply) × Legal (turn s e.driver e.what).state es
