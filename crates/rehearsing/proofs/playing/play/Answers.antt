use Rattle.std.proofs.Common.{le-leb}
use Rattle.rehearsing.proofs.InParts.{turned_in}
use Rattle.rehearsing.proofs.playing.play.Goals as goal

pub returns-then-input-out : goal.returns-then-input-out
returns-then-input-out c = turned_in (le-leb _ _ c.if-input-out.true) c.play_all.ensures
