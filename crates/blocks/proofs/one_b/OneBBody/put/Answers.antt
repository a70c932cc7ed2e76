use Rattle.std.proofs.Common.{rules, refl}
use Rattle.words.proofs.Splices.{next}
use Rattle.blocks.proofs.one_b.OneBBody.put.Goals as goal

pub returns : goal.returns
returns c = next _ _ _ _ _ _ _ (search rules) c.put.ensures refl (next _ _ _ _ _ _ _ (search rules) c.put-2.ensures refl c.put-3.ensures)
