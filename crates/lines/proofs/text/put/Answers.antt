use Rattle.lines.proofs.Writing.{text_put}
use Rattle.lines.proofs.text.put.Goals as goal

pub returns : goal.returns
returns c = text_put _ _ _ c.requires c.copy_from_slice.ensures.after
