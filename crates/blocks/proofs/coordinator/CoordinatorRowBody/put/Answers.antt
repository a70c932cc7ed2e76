use Rattle.std.proofs.Common.{rules, refl}
use Rattle.words.proofs.Splices.{next}
use Rattle.fields.proofs.Fitted.{vote_lawful}
use Rattle.blocks.proofs.Answered.{behind}
use Rattle.blocks.proofs.coordinator.CoordinatorRowBody.put.Goals as goal

pub returns : goal.returns
returns c =
    next _ _ _ _ _ _ _ (search rules) c.put.ensures refl
    (behind 41 (vote_lawful.long c.args.self.cval) (search rules) c.put-2.ensures refl c.put_all.ensures)
