-- Counts that stand for a state of the machine: what they tell is what the definitions say of the state.
use Rattle.std.specs.Prelude.{◌≡◌, ℕ, ◌+◌, ◌==◌, length, slice_index, count_by}
use Rattle.clk_base.specs.Flags.{sets_rate_gate}
use Rattle.clk_model.specs.State.{State}
use Rattle.clk_model.specs.Wired.{IsOrder}
use Rattle.clk_model.specs.Holders.{active, prepared, guarded}
use Rattle.clk_model.specs.Counts.{sum_of_handles, critical_part, enable_count, prepare_count, protect_count}
use Rattle.counts_core.specs.Counted.{CountState, AreCounts, HasLinks, is_gated, is_active, is_prepared, is_guarded, enable_sum, prepare_sum, protect_sum}

-- the enable holders of a clock: its handles' enables, one if it is critical and registered, and its enable holds
abbrev pub own_enables : State → ℕ → ℕ
own_enables s c = sum_of_handles (λ h. h.enables) s c + critical_part s c + count_by (λ h. h == c) s.enable_holds

-- its prepare holders: its handles' prepares, one if it is critical and registered, and its prepare holds
abbrev pub own_prepares : State → ℕ → ℕ
own_prepares s c = sum_of_handles (λ h. h.prepares) s c + critical_part s c + count_by (λ h. h == c) s.prepare_holds

-- its exclusive holders: its handles' exclusive holds
abbrev pub own_exclusives : State → ℕ → ℕ
own_exclusives s c = sum_of_handles (λ h. h.exclusives) s c

-- counts stand for a state: they have its clocks, know which protect their rate while they are prepared, and have its links and its holders
pub record StandsFor (k : CountState) (s : State) : Type 0 where
  pub size : length k.links ≡ length s.defs
  pub gated : (c : ℕ) → is_gated k c ≡ sets_rate_gate s.defs c
  pub links : HasLinks s.clocks k.links
  pub enables : (c : ℕ) → slice_index k.enables c ≡ own_enables s c
  pub prepares : (c : ℕ) → slice_index k.prepares c ≡ own_prepares s c
  pub exclusives : (c : ℕ) → slice_index k.exclusives c ≡ own_exclusives s c

-- a clock is active, prepared and guarded in counts exactly if it is so in the state that they stand for
pub record HoldsAsIn (k : CountState) (s : State) (c : ℕ) : Type 0 where
  pub active : is_active k c ≡ active s c
  pub prepared : is_prepared k c ≡ prepared s c
  pub guarded : is_guarded k c ≡ guarded s c

-- so it is in all counts that stand for a state
abbrev pub TellsHolds : Type 0
TellsHolds = (k : CountState) (s : State) → AreCounts k → StandsFor k s → (c : ℕ) → HoldsAsIn k s c

-- its three sums are the counts of the state
pub record CountsAsIn (k : CountState) (s : State) (c : ℕ) : Type 0 where
  pub enables : enable_sum k c ≡ enable_count s c
  pub prepares : prepare_sum k c ≡ prepare_count s c
  pub protects : protect_sum k c ≡ protect_count s c

-- so it is if the order of attaching lists each linked clock once
abbrev pub TellsCounts : Type 0
TellsCounts = (k : CountState) (s : State) → AreCounts k → StandsFor k s → IsOrder s.order s.clocks → (c : ℕ) → CountsAsIn k s c
