-- What the reader has done.
use Rattle.std.specs.Prelude.{◌≡◌, Result, Ok, Err}
use Rattle.dts_tree.specs.declared.fault.TreeFault.{TreeFault}
use Rattle.dts_tree.specs.declared.fault.TreeFault.TheVariants as faults
use Rattle.dts_tree.specs.declared.reader.Reader.{Reader}
use Rattle.dts_tree.specs.Grown.{Tables}
use Rattle.dts_tree.specs.State.{State, state_of}

-- the fault is the wanted one; want of memory says nothing
abbrev pub Fails : {X : Type 0} → TreeFault → Result X TreeFault → Type 0
Fails faults.NoMemory wanted = Unit {0}
Fails (faults.Syntax line) wanted = wanted ≡ Err (faults.Syntax line)
Fails (faults.TwiceDefined line) wanted = wanted ≡ Err (faults.TwiceDefined line)
Fails (faults.NoSuchLabel line) wanted = wanted ≡ Err (faults.NoSuchLabel line)
Fails (faults.TooDeep line) wanted = wanted ≡ Err (faults.TooDeep line)

-- the reader has reached the wanted state, or fails as wanted
abbrev pub Does : {X : Type 0} → Reader → Result X TreeFault → Result State TreeFault → Type 0
Does r (Ok done) wanted = wanted ≡ Ok (state_of r)
Does r (Err e) wanted = Fails e wanted

-- the reader has filled its tables as wanted and kept all else, or fails as wanted
abbrev pub Fills : {X : Type 0} → Reader → Reader → Result X TreeFault → Result Tables TreeFault → Type 0
Fills old new (Ok done) wanted = (wanted ≡ Ok (state_of new).tables) × (new.phase ≡ old.phase) × (new.here ≡ old.here) × (new.above.items ≡ old.above.items)
Fills old new (Err e) wanted = Fails e wanted
