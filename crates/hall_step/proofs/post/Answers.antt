use Rattle.hall_step.proofs.Stepping.{posted_is}
use Rattle.hall_step.proofs.post.Goals as goal

pub returns : goal.returns
returns c = posted_is _ _ _ _ _ _ c.requires.hall_len.0 c.requires.hall_len.1 c.requires.room c.requires.stamp_value.0 c.requires.stamp_value.1 (rw c.from.ensures at c.put_block.ensures) c.put.ensures
