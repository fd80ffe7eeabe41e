-- Lists of entries, and what a kept value tells of itself.
use Rattle.std.specs.Prelude.{◌≡◌, ℕ, Bool, false, List, [], ◌∷◌, ◌++◌, ◌==◌, nat_le, if◌then◌else◌, filter, length, All, ◌<◌}

module _ {E : Type 0} where
  -- the entries of one number, in their order
  abbrev pub own : (E → ℕ) → ℕ → List E → List E
  own by number log = filter (λ e. by e == number) log

  -- after is before with one entry more
  abbrev pub Adds : List E → List E → E → Type 0
  Adds before after e = after ≡ before ++ e ∷ []

  -- of two fronts of one list, the longer
  abbrev pub longer_of : List E → List E → List E
  longer_of a b = if nat_le (length b) (length a) then a else b

  -- each entry's number is below this count
  abbrev pub AreBelow : (E → ℕ) → ℕ → List E → Type 0
  AreBelow by count log = All (λ e. by e < count) log

-- the list begins with this front
pub record IsPrefix {E : Type 0} (front log : List E) : Type 0 where
  pub rest : List E
  pub whole : log ≡ front ++ rest

-- the list begins with this front, and what stands behind it is of the enable tier
pub record AddsEnablesOnly {E : Type 0} (prep : E → Bool) (front log : List E) : Type 0 where
  pub rest : List E
  pub whole : log ≡ front ++ rest
  pub enable : All (λ e. prep e ≡ false) rest

-- What a value of type T tells contracts: its entries, each with its number, tier and cost, and its fixed part with the total that this allows.
pub record Reading (T E F : Type 0) : Type 0 where
  pub entries : T → List E
  pub fixed : T → F
  pub by : E → ℕ
  pub prep : E → Bool
  pub cost : E → ℕ
  pub most : F → ℕ

abbrev pub reading : {T E F : Type 0} → (T → List E) → (T → F) → (E → ℕ) → (E → Bool) → (E → ℕ) → (F → ℕ) → Reading T E F
reading entries fixed by prep cost most = record { entries = entries; fixed = fixed; by = by; prep = prep; cost = cost; most = most }
