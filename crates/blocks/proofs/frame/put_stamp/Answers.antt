use Rattle.std.proofs.Common.{rules, refl}
use Rattle.words.proofs.Splices.{next}
use Rattle.blocks.proofs.frame.put_stamp.Goals as goal

pub returns : goal.returns
returns c = next _ _ _ _ _ _ _ (search rules) c.put_u16.ensures refl (next _ _ _ _ _ _ _ (search rules) c.put_u8.ensures refl (next _ _ _ _ _ _ _ (search rules) c.put_setup.ensures refl (c.put_u8-2.ensures)))
