-- What contracts see of counts, and the three counts as the definitions have them: over holders and links alone.
use Rattle.std.specs.Prelude.{◌≡◌, ◌≢◌, ℕ, ◌+◌, ◌&&◌, List, Bool, Option, None, false, if◌then◌else◌, nat_lt, count_by, length, slice_index, slice_index_or}
use Rattle.std.specs.List.{list_any}
use Rattle.clk_base.specs.declared.clock.ClockId.{ClockId}
use Rattle.clk_base.specs.Levels.{depth}
use Rattle.clk_model.specs.declared.row.ClockRow.{ClockRow}
use Rattle.clk_model.specs.Lists.{is_in, count_from}
use Rattle.clk_model.specs.State.{link_in}
use Rattle.clk_model.specs.Tree.{path_within}
use Rattle.counts_core.specs.Sums.{up_in, leads, LinksEnd}

-- which clocks protect their rate while they are prepared, the links that the sums are over, and how many holders of each kind
-- each clock has
pub record CountState : Type 0 where
  pub gated : List Bool
  pub links : List (Option ClockId)
  pub enables : List ℕ
  pub prepares : List ℕ
  pub exclusives : List ℕ

-- what all counts keep: a place in each list for each clock, and lines of links that end
pub record AreCounts (s : CountState) : Type 0 where
  pub gated : length s.gated ≡ length s.links
  pub enables : length s.enables ≡ length s.links
  pub prepares : length s.prepares ≡ length s.links
  pub exclusives : length s.exclusives ≡ length s.links
  pub lines : LinksEnd s.links

-- whether a clock protects its rate while it is prepared
abbrev pub is_gated : CountState → ℕ → Bool
is_gated s c = slice_index_or s.gated c false

-- a tree has these links
abbrev pub HasLinks : List ClockRow → List (Option ClockId) → Type 0
HasLinks clocks links = (c : ℕ) → link_in clocks c ≡ up_in links c

-- a tree has these links, but for that of one clock
abbrev pub HasOtherLinks : List ClockRow → List (Option ClockId) → ℕ → Type 0
HasOtherLinks clocks links c = (d : ℕ) → d ≢ c → link_in clocks d ≡ up_in links d

-- whether the clock is on the path of a holder
abbrev pub is_held : List (Option ClockId) → (ℕ → ℕ) → ℕ → Bool
is_held links own c = list_any (λ h. nat_lt 0 (own h) && is_in c (path_within (up_in links) depth h)) (count_from 0 (length links))

-- whether the clock is active: on the path of an enable holder
abbrev pub is_active : CountState → ℕ → Bool
is_active s c = is_held s.links (slice_index s.enables) c

-- whether it is prepared: on the path of a prepare holder
abbrev pub is_prepared : CountState → ℕ → Bool
is_prepared s c = is_held s.links (slice_index s.prepares) c

-- what a clock has of its own, and one for each child that is on the path of a holder
abbrev pub sum_over : List (Option ClockId) → (ℕ → ℕ) → ℕ → ℕ
sum_over links own c = own c + count_by (λ d. leads c (slice_index_or links d None) && is_held links own d) (count_from 0 (length links))

-- its enable holders, and its active children
abbrev pub enable_sum : CountState → ℕ → ℕ
enable_sum s c = sum_over s.links (slice_index s.enables) c

-- its prepare holders, and its prepared children
abbrev pub prepare_sum : CountState → ℕ → ℕ
prepare_sum s c = sum_over s.links (slice_index s.prepares) c

-- its exclusive holders, and its prepare count if being prepared protects it
abbrev pub protect_own : CountState → ℕ → ℕ
protect_own s c = slice_index s.exclusives c + (if is_gated s c then prepare_sum s c else 0)

-- whether it is guarded: on the path of a clock with a protection of its own
abbrev pub is_guarded : CountState → ℕ → Bool
is_guarded s c = is_held s.links (protect_own s) c

-- these, and its guarded children
abbrev pub protect_sum : CountState → ℕ → ℕ
protect_sum s c = sum_over s.links (protect_own s) c
