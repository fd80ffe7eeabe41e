-- Which trees say what, and why the others are refused.
use Rattle.std.specs.Prelude.{◌≡◌, ◌⊎◌, List, length}
use Rattle.bundle_text.specs.Firsts.{KeepsBelow}
use Rattle.dts_tree.specs.Tree.{SeenNode}
use Rattle.dts_clocks.specs.declared.fault.DtsFault.{DtsFault}
use Rattle.dts_clocks.specs.Faults.{IsFirstOf, UnlessMemory}
use Rattle.dts_clocks.specs.FirstPass.{first_fault}
use Rattle.dts_clocks.specs.Loaded.{SeenLoaded, loaded_of}
use Rattle.dts_clocks.specs.SecondPass.{second_fault}

-- neither look at any node finds a fault, and this is what the tree says
pub record Accepts (nodes : List SeenNode) (loaded : SeenLoaded) : Type 0 where
  pub first : KeepsBelow (first_fault nodes) (length nodes)
  pub second : KeepsBelow (second_fault nodes) (length nodes)
  pub content : loaded ≡ loaded_of nodes

-- the first look at the nodes finds none, and this is the first fault of the second
pub record IsSecond (nodes : List SeenNode) (fault : DtsFault) : Type 0 where
  pub kept : KeepsBelow (first_fault nodes) (length nodes)
  pub found : IsFirstOf (second_fault nodes) (length nodes) fault

-- the tree is refused for this fault: the first one of the first look, or else of the second
abbrev pub Refuses : List SeenNode → DtsFault → Type 0
Refuses nodes fault = IsFirstOf (first_fault nodes) (length nodes) fault ⊎ IsSecond nodes fault

-- a fault is the reason why the tree is refused; want of memory says nothing of it
abbrev pub IsFaultOf : List SeenNode → DtsFault → Type 0
IsFaultOf nodes fault = UnlessMemory fault (Refuses nodes fault)
