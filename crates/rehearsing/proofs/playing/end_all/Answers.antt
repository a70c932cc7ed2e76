use Rattle.rehearsing.proofs.InParts.{room_for_pages, end_turned}
use Rattle.rehearsing.proofs.playing.end_all.Goals as goal

pub stage_pages-to-requires : goal.stage_pages-to-requires
stage_pages-to-requires c = (room_for_pages c.args.rehearsal c.args.hall.now c.requires c.last_turn-last.ensures).0

pub returns : goal.returns
returns c = end_turned _ _ c.requires c.last_turn-last.ensures c.stage_pages-to.ensures
