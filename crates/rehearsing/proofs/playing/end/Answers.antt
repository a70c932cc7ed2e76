use Rattle.std.proofs.Common.{le-leb}
use Rattle.rehearsing.proofs.InParts.{turned_in}
use Rattle.rehearsing.proofs.playing.end.Goals as goal

pub returns-then-out-ge-END_ROOM : goal.returns-then-out-ge-END_ROOM
returns-then-out-ge-END_ROOM c = turned_in (le-leb _ _ c.if-out-ge-END_ROOM.true) c.end_all.ensures
