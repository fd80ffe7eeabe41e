-- The text of a fault.
use Rattle.std.specs.Prelude.{ℕ, List, codes}
use Rattle.notifiers.specs.declared.fault.ChainFault.{ChainFault}
use Rattle.notifiers.specs.declared.fault.ChainFault.TheVariants.{Exists, Full, NoMemory}

-- what is printed where a notifier can't be added
abbrev pub fault_text : ChainFault → List ℕ
fault_text Exists = codes "the clock has a notifier of this id"
fault_text Full = codes "the clock has 256 notifiers"
fault_text NoMemory = codes "out of memory"
