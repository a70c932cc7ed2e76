use Rattle.std.proofs.Common.{rules, refl}
use Rattle.words.proofs.Splices.{next}
use Rattle.blocks.proofs.two_b.TwoBBody.put.Goals as goal

pub returns : goal.returns
returns c = next _ _ _ _ _ _ _ (search rules) c.put.ensures refl c.put-2.ensures
