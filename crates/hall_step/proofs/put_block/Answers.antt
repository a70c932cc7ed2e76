use Rattle.hall_step.proofs.Parts.{put_part}
use Rattle.hall_step.proofs.put_block.Goals as goal

pub returns : goal.returns
returns c = put_part _ _ _ _ c.requires.0 c.requires.1.0 c.requires.1.1 c.copy_from_slice.ensures.after
