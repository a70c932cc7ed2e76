use Rattle.std.proofs.Common.{rules, refl}
use Rattle.words.proofs.Splices.{next}
use Rattle.blocks.proofs.frame.put_setup.Goals as goal

pub returns : goal.returns
returns c = next _ _ _ _ _ _ _ (search rules) c.put_u8.ensures refl (next _ _ _ _ _ _ _ (search rules) c.put_u8-2.ensures refl (next _ _ _ _ _ _ _ (search rules) c.put_u8-3.ensures refl (next _ _ _ _ _ _ _ (search rules) c.put_u8-4.ensures refl (next _ _ _ _ _ _ _ (search rules) c.put_u8-5.ensures refl (c.put_u8-6.ensures)))))
