use Rattle.lines.proofs.Writing.{page_line_put}
use Rattle.lines.proofs.text.page_line.Goals as goal

pub returns : goal.returns
returns c = page_line_put _ _ _ c.requires c.put-second.ensures c.put_field-third.ensures c.put_field-fourth.ensures c.put_mark-end.ensures c.put.ensures
