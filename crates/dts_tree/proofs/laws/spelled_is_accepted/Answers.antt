use Rattle.std.proofs.Common.{IfErr, sym, subst}
use Rattle.dts_tree.specs.Meaning.{IsNotSyntax}
use Rattle.dts_tree.specs.Tree.{seen}
use Rattle.dts_tree.proofs.Refusing.{meaning-refuses}
use Rattle.dts_tree.proofs.Spelling.{complete, spelled-meaning}
use Rattle.dts_tree.proofs.laws.spelled_is_accepted.Goals as goal

pub returns-clause-accepted : goal.returns-clause-accepted
returns-clause-accepted c = λ text tokens tree h. complete text tokens (seen tree) h

pub returns-clause-means : goal.returns-clause-means
returns-clause-means c = spelled-meaning

pub returns-clause-syntax : goal.returns-clause-syntax
returns-clause-syntax c = λ text source fits. subst (λ r. IfErr r IsNotSyntax) (sym (spelled-meaning text source fits)) (meaning-refuses text source)
