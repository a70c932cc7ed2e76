use Rattle.lines.proofs.Writing.{answer_put}
use Rattle.lines.proofs.text.answer.Goals as goal

pub returns : goal.returns
returns c = answer_put _ _ c.requires c.put_field-second.ensures c.put_decimal-end.ensures c.put.ensures
