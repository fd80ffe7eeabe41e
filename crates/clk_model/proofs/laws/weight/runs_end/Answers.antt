use Rattle.clk_model.proofs.RoomLaws.{events_leave_room, runs_have_room, runs_end}
use Rattle.clk_model.proofs.laws.weight.runs_end.Goals as goal

pub returns : goal.returns
returns c = record { events = events_leave_room; room = runs_have_room; entries = runs_end }
