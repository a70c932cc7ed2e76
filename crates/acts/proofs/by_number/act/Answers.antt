use Rattle.std.proofs.Common.{rules}
use Rattle.acts.proofs.Late.{late_stands}
use Rattle.acts.proofs.by_number.act.Goals as goal

pub returns-then-late-ne0 : goal.returns-then-late-ne0
returns-then-late-ne0 c = late_stands _ _ _ _ _ _ _ (search rules) c.late_or_bad.ensures
