use Rattle.clk_phase.proofs.Undoing.{failed_leave_handles}
use Rattle.clk_phase.proofs.Getting.{failed_gets_leave_none}
use Rattle.clk_phase.proofs.laws.failed_commands_leave_handles.Goals as goal

pub returns-clause-leaves : goal.returns-clause-leaves
returns-clause-leaves c = failed_leave_handles

pub returns-clause-gets : goal.returns-clause-gets
returns-clause-gets c = failed_gets_leave_none
