use Rattle.std.proofs.Common.{rules, refl}
use Rattle.words.proofs.Splices.{next}
use Rattle.fields.proofs.basic.RoundField.put.Goals as goal

pub returns : goal.returns
returns c = next _ _ _ _ _ _ _ (search rules) c.put_u16.ensures refl (next _ _ _ _ _ _ _ (search rules) c.put_u8.ensures refl c.put_u8-2.ensures)
