use Rattle.sheets_main.proofs.Rooms.{zeros}
use Rattle.sheets_main.proofs.buffers.room.Goals as goal

pub returns : goal.returns
returns g c = zeros _
