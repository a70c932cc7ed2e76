use Rattle.blocks.proofs.Framing.{sealed_is}
use Rattle.blocks.proofs.frame.seal.Goals as goal

pub returns : goal.returns
returns c = sealed_is _ (c.requires.0) (c.requires.1) c.put_zeros.ensures c.sums_of-sums.ensures c.put_u32.ensures c.put_u32-2.ensures
