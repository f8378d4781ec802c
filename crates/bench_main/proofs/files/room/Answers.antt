use Rattle.bench_main.proofs.Rooms.{zeros}
use Rattle.bench_main.proofs.files.room.Goals as goal

pub returns : goal.returns
returns g c = zeros _
