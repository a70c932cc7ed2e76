use Rattle.std.proofs.Common.{rules, refl}
use Rattle.fields.proofs.Fitted.{page_lawful, five_held_lawful}
use Rattle.blocks.proofs.Answered.{behind}
use Rattle.blocks.proofs.reader.ReaderRowBody.put.Goals as goal

pub returns : goal.returns
returns c =
    behind 40 (page_lawful.long c.args.self.page) (search rules) c.put.ensures refl
    (behind 225 (five_held_lawful.long c.args.self.held) (search rules) c.put_all.ensures refl c.put_all-2.ensures)
