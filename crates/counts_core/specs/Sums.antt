-- Counts as sums over holders and children.
use Rattle.std.specs.Prelude.{◌≡◌, ℕ, ◌+◌, ◌<◌, ◌==◌, ◌&&◌, List, [], ◌∷◌, Bool, true, false, Option, None, if◌then◌else◌, nat_lt, length, slice_index, slice_index_or}
use Rattle.std.specs.Option.{option_map, option_map_or, option_to_list}
use Rattle.clk_base.specs.declared.clock.ClockId.{ClockId}
use Rattle.clk_base.specs.Levels.{depth, ends_within}
use Rattle.clk_model.specs.Lists.{is_in}
use Rattle.clk_model.specs.Tree.{path_within}

-- the parent that a clock is linked to
abbrev pub up_in : List (Option ClockId) → ℕ → Option ℕ
up_in links c = option_map (λ p. p.0) (slice_index_or links c None)

-- the same as a list
abbrev pub ups_in : List (Option ClockId) → ℕ → List ℕ
ups_in links c = option_to_list (up_in links c)

-- each line of links ends
abbrev pub LinksEnd : List (Option ClockId) → Type 0
LinksEnd links = (c : ℕ) → ends_within (ups_in links) depth c ≡ true

-- whether a link leads to this clock
abbrev pub leads : ℕ → Option ClockId → Bool
leads d link = option_map_or (λ p. p.0 == d) link false

-- one for this clock, nothing for others
abbrev pub one : ℕ → ℕ → ℕ
one c d = if c == d then 1 else 0

-- one for a child that counts
abbrev pub mark : Bool → ℕ → ℕ
mark child count = if child && nat_lt 0 count then 1 else 0

-- how many children of a clock have a count that isn't 0
abbrev pub kids : List (Option ClockId) → List ℕ → ℕ → ℕ
kids [] counts d = 0
kids (link ∷ links) [] d = 0
kids (link ∷ links) (count ∷ counts) d = mark (leads d link) count + kids links counts d

-- each count is what its clock has of its own, and one for each child that counts
pub record AreSums (links : List (Option ClockId)) (own counts : List ℕ) : Type 0 where
  pub owned : length own ≡ length links
  pub counted : length counts ≡ length links
  pub sums : (d : ℕ) → slice_index own d + kids links counts d ≡ slice_index counts d

-- counts that are sums but for a child: if it counts, one for it is counted already of the clock that this link of it leads to
pub record AreOwed (links : List (Option ClockId)) (own counts : List ℕ) (child : ℕ) (link : Option ClockId) : Type 0 where
  pub owned : length own ≡ length links
  pub counted : length counts ≡ length links
  pub sums : (d : ℕ) → slice_index own d + kids links counts d + mark (leads d link) (slice_index counts child) ≡ slice_index counts d

-- between two lists of counts there is one holder of the clock more, whatever the others have
pub record OneMore (links : List (Option ClockId)) (less more : List ℕ) (c : ℕ) : Type 0 where
  pub size : length more ≡ length less
  pub sums : (d : ℕ) → slice_index more d + kids links less d ≡ slice_index less d + kids links more d + one c d

-- the path has so many clocks, and its first so many are those that count in the longer list and not in the shorter; all others count in
-- both or in none
pub record Begins (links : List (Option ClockId)) (less more : List ℕ) (c k : ℕ) : Type 0 where
  pub many : length (path_within (up_in links) k c) ≡ k
  pub off : (d : ℕ) → is_in d (path_within (up_in links) k c) ≡ true → slice_index less d ≡ 0
  pub on : (d : ℕ) → is_in d (path_within (up_in links) k c) ≡ true → 0 < slice_index more d
  pub others : (d : ℕ) → is_in d (path_within (up_in links) k c) ≡ false → nat_lt 0 (slice_index more d) ≡ nat_lt 0 (slice_index less d)

-- what being prepared adds to the protection of a clock
abbrev pub gated_part : List Bool → List ℕ → ℕ → ℕ
gated_part gated prepares d = if slice_index_or gated d false then slice_index prepares d else 0

-- the protections and the prepares of gated clocks have grown by the same
abbrev pub Grows : List Bool → List ℕ → List ℕ → List ℕ → List ℕ → Type 0
Grows gated protects prepares protects' prepares' =
    (d : ℕ) → slice_index protects' d + gated_part gated prepares d ≡ slice_index protects d + gated_part gated prepares' d
