use Rattle.dts_tree.specs.Tree.{seen}
use Rattle.dts_tree.proofs.Spelling.{accepted}
use Rattle.dts_tree.proofs.laws.accepted_is_spelled.Goals as goal

pub returns : goal.returns
returns c = λ text tokens tree h. accepted text tokens (seen tree) h
