-- The chains of notifiers, as one list.
use Rattle.std.specs.Prelude.{ℕ, suc, ◌++◌, List, [], ◌∷◌, map}
use Rattle.clk_model.specs.State.{NotifierRow}
use Rattle.notifiers.specs.declared.notifier.Notifier.{Notifier}
use Rattle.notifiers.specs.Chains.{Tells, row_on}

-- the notifiers of these chains, clock by clock, of a clock and those behind it
abbrev pub rows_from : ℕ → List (List Notifier) → List NotifierRow
rows_from c [] = []
rows_from c (chain ∷ chains) = map (row_on c) chain ++ rows_from (suc c) chains

-- the chains are those of some notifiers
pub record AreListed (chains : List (List Notifier)) : Type 0 where
  pub rows : List NotifierRow
  pub tells : Tells chains rows
