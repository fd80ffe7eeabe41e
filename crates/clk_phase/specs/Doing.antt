-- A command that somebody makes.
use Rattle.std.specs.Prelude.{◌≡◌, ℕ, List, All, Option, Some}
use Rattle.clk_base.specs.declared.event.Reply.{Reply}
use Rattle.clk_base.specs.declared.handle.Handle.{Handle}
use Rattle.clk_phase.specs.declared.bulk_call.BulkItem.{BulkItem}
use Rattle.clk_phase.specs.declared.bulk_call.BulkKind.{BulkKind}
use Rattle.clk_phase.specs.declared.bulk_call.BulkStep.{BulkStep}
use Rattle.clk_phase.specs.Bulk.{Made, IsBulk}
use Rattle.clk_phase.specs.Running.{Run, Runs, begun, next_of}
use Rattle.clk_phase.specs.Going.{Goes, FailsIn, IsPlacedStep}

module _ {S : Type 0} (makes : S → BulkStep → Reply → S → Type 0) (old : S) (kind : BulkKind) (items : List BulkItem) where
  -- the calls of the command were made, each once, and it answers so
  pub record Does (fail : Option (ℕ × Reply)) (handles : List Handle) (new : S) : Type 0 where
    pub made : List Made
    pub goes : Goes makes old made new
    pub bulk : IsBulk kind items made fail handles

  -- some of them were made, the first first
  pub record IsUnderWay (r : Run) (now : S) : Type 0 where
    pub made : List Made
    pub goes : Goes makes old made now
    pub runs : Runs (begun kind items) made r

-- memory ran out in one of the command's calls, and those before it were made
pub record Stops {S : Type 0} (makes : S → BulkStep → Reply → S → Type 0) (fails : S → S → Type 0) (old : S) (kind : BulkKind) (items : List BulkItem) (new : S) : Type 0 where
  pub so_far : Run
  pub last : S
  pub under : IsUnderWay makes old kind items so_far last
  pub call_ : BulkStep
  pub next : next_of so_far ≡ Some call_
  pub fails_in : FailsIn fails last call_ new

-- the calls that a command may still make name clocks that there are
pub record ArePlaced (clocks : ℕ) (r : Run) : Type 0 where
  pub left : All (IsPlacedStep clocks) r.left
  pub undo : All (IsPlacedStep clocks) r.undo
