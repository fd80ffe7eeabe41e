-- The chain of each clock, and the list of all notifiers that the chains stand for.
use Rattle.std.specs.Prelude.{◌≡◌, ℕ, ◌<◌, ◌≤◌, ◌==◌, ◌&&◌, Bool, true, false, not, List, [], filter, map, length, slice_index_or, AllPairs}
use Rattle.std.specs.List.{list_any}
use Rattle.std.specs.Int.RustNames.{int_lt}
use Rattle.clk_model.specs.Lists.{none_twice}
use Rattle.clk_model.specs.State.{NotifierRow}
use Rattle.clk_model.specs.Notices.{by_priority, notifiers_of}
use Rattle.clk_model.specs.Begin.{most_notifiers}
use Rattle.notifiers.specs.declared.notifier.Notifier.{Notifier}
use Rattle.notifiers.specs.declared.fault.ChainFault.{ChainFault}
use Rattle.notifiers.specs.declared.fault.ChainFault.TheVariants.{Exists, Full, NoMemory}

-- what each chain keeps
pub record IsChain (chain : List Notifier) : Type 0 where
  -- of each two the later one has no higher priority
  pub falling : AllPairs (λ first later. int_lt first.priority later.priority ≡ false) chain
  pub once : none_twice (map (λ n. n.id) chain) ≡ true
  pub few : length chain ≤ most_notifiers

-- the chain of each clock keeps it
abbrev pub AreChains : List (List Notifier) → Type 0
AreChains chains = (c : ℕ) → IsChain (slice_index_or chains c [])

-- a notifier as one of this clock
abbrev pub row_on : ℕ → Notifier → NotifierRow
row_on c n = record { clock = c; id = n.id; priority = n.priority; policy = n.policy }

-- the chain of a clock: its notifiers in the order in which they are told
abbrev pub chain_of : List (List Notifier) → ℕ → List NotifierRow
chain_of chains c = map (row_on c) (slice_index_or chains c [])

-- the chains are those of these notifiers, which stand in the order of adding: each clock's own by falling priority,
-- equals in the order of adding
abbrev pub Tells : List (List Notifier) → List NotifierRow → Type 0
Tells chains notifiers = (c : ℕ) → chain_of chains c ≡ notifiers_of notifiers c

-- a chain is that of a notifier's clock with the notifier in its place: by falling priority, after its equals
abbrev pub IsWith : List (List Notifier) → NotifierRow → List Notifier → Type 0
IsWith chains n chain = map (row_on n.clock) chain ≡ by_priority n (chain_of chains n.clock)

-- whether a chain has a notifier of this id
abbrev pub has_id : ℕ → List NotifierRow → Bool
has_id id chain = list_any (λ n. n.id == id) chain

-- a notifier of this id can be added to the chain
abbrev pub CanAdd : ℕ → List NotifierRow → Type 0
CanAdd id chain = (has_id id chain ≡ false) × (length chain < most_notifiers)

-- why it isn't added: the id is there, or else the chain is full, or else memory ran out
abbrev pub WhyNot : ℕ → List NotifierRow → ChainFault → Type 0
WhyNot id chain Exists = has_id id chain ≡ true
WhyNot id chain Full = (has_id id chain ≡ false) × (most_notifiers ≤ length chain)
WhyNot id chain NoMemory = CanAdd id chain

-- the notifiers without the one of this clock and id
abbrev pub without_notifier : ℕ → ℕ → List NotifierRow → List NotifierRow
without_notifier c id notifiers = filter (λ n. not ((n.clock == c) && (n.id == id))) notifiers
