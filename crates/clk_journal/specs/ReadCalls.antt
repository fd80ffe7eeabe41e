-- The call that words of a line of a journal tell, if they tell one.
use Rattle.std.specs.Prelude.{ℕ, ◌&&◌, List, [], ◌∷◌, Bool, Option, Some, None, codes, if◌then◌else◌, option_and_then}
use Rattle.std.specs.Option.{option_map}
use Rattle.std.specs.Str.{bytes_eq}
use Rattle.clk_base.specs.declared.call.Sleeping.{Sleeping}
use Rattle.clk_base.specs.declared.call.Sleeping.TheVariants as call
use Rattle.clk_base.specs.declared.clock.ClockId.{ClockId}
use Rattle.clk_base.specs.declared.handle.Handle.{Handle}
use Rattle.clk_base.specs.declared.handle.Policy.{Policy}
use Rattle.clk_base.specs.declared.handle.Policy.TheVariants as policy
use Rattle.clk_base.specs.Description.{Description, clock_named}
use Rattle.clk_model.specs.Text.{Word}
use Rattle.clk_journal.specs.ReadNumbers.{small, large, handle, priority}

-- a call of a handle alone
unfoldable pub handle_call : Word → Handle → Option Sleeping
handle_call verb h =
    if bytes_eq verb (codes "put") then Some (call.Put h)
    else if bytes_eq verb (codes "prepare") then Some (call.Prepare h)
    else if bytes_eq verb (codes "unprepare") then Some (call.Unprepare h)
    else if bytes_eq verb (codes "rate") then Some (call.GetRate h)
    else if bytes_eq verb (codes "parent") then Some (call.GetParent h)
    else if bytes_eq verb (codes "lock") then Some (call.ExclusiveGet h)
    else if bytes_eq verb (codes "unlock") then Some (call.ExclusivePut h)
    else None

-- a get of a name, by the clock that has it
unfoldable pub named_get : Word → Option ClockId → Option Sleeping
named_get w (Some c) = Some (call.Get (Some c))
named_get w None = if bytes_eq w (codes "-") then Some (call.Get None) else None

-- a get of a name; if it answers that there is no such clock, `-` stands for none
unfoldable pub get_call : Description → Bool → Word → Option Sleeping
get_call defs absent w = if absent && bytes_eq w (codes "-") then Some (call.Get None) else named_get w (clock_named defs w)

-- a call of two words
unfoldable pub short_call : Description → Bool → ℕ → Word → Word → Option Sleeping
short_call defs absent d verb w =
    if bytes_eq verb (codes "get") then get_call defs absent w
    else if bytes_eq verb (codes "probe") then option_map (λ c. call.Probe c) (clock_named defs w)
    else option_and_then (handle_call verb) (handle d w)

-- a call with a rate
unfoldable pub rated_call : Word → Handle → ℕ → Option Sleeping
rated_call verb h x =
    if bytes_eq verb (codes "round") then Some (call.RoundRate h x)
    else if bytes_eq verb (codes "set") then Some (call.SetRate h x)
    else if bytes_eq verb (codes "setx") then Some (call.SetRateExclusive h x)
    else None

-- a call of three words
unfoldable pub middle_call : Description → Word → Handle → Word → Option Sleeping
middle_call defs verb h w =
    if bytes_eq verb (codes "reparent") then option_map (λ c. call.SetParent h c) (clock_named defs w)
    else if bytes_eq verb (codes "unnotify") then option_map (λ n. call.NotifierRemove h n) (small w)
    else option_and_then (rated_call verb h) (large w)

-- a policy without a rate, and one with a rate
unfoldable pub plain_policy : Word → Option Policy
plain_policy w =
    if bytes_eq w (codes "accept") then Some policy.Accept
    else if bytes_eq w (codes "veto") then Some policy.VetoAll
    else None

unfoldable pub bound_policy : Word → ℕ → Option Policy
bound_policy w r =
    if bytes_eq w (codes "above") then Some (policy.VetoAbove r)
    else if bytes_eq w (codes "below") then Some (policy.VetoBelow r)
    else None

-- a policy
unfoldable pub read_policy : List Word → Option Policy
read_policy (w ∷ []) = plain_policy w
read_policy (w ∷ r ∷ []) = option_and_then (bound_policy w) (large r)
read_policy _ = None

-- a range of a handle
unfoldable pub range_call : Handle → Word → Word → Option Sleeping
range_call h x y = option_and_then (λ a. option_map (λ b. call.SetRange h a b) (large y)) (large x)

-- a notifier with a policy that was read, or was not
unfoldable pub notify_call : Handle → Word → Word → Option Policy → Option Sleeping
notify_call h id prio None = None
notify_call h id prio (Some p) = option_and_then (λ i. option_map (λ z. call.NotifierAdd h i z p) (priority prio)) (small id)

-- a call of four words or more
unfoldable pub long_call : Word → Handle → Word → Word → List Word → Option Sleeping
long_call verb h x y [] = if bytes_eq verb (codes "range") then range_call h x y else None
long_call verb h x y (p ∷ ps) = if bytes_eq verb (codes "notify") then notify_call h x y (read_policy (p ∷ ps)) else None

-- a call
unfoldable pub read_call : Description → Bool → ℕ → List Word → Option Sleeping
read_call defs absent d (verb ∷ []) = if bytes_eq verb (codes "sweep") then Some call.Sweep else None
read_call defs absent d (verb ∷ w ∷ []) = short_call defs absent d verb w
read_call defs absent d (verb ∷ w ∷ x ∷ []) = option_and_then (λ h. middle_call defs verb h x) (handle d w)
read_call defs absent d (verb ∷ w ∷ x ∷ y ∷ more) = option_and_then (λ h. long_call verb h x y more) (handle d w)
read_call defs absent d [] = None
