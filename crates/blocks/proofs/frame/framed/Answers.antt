use Rattle.std.proofs.Common.{refl}
use Rattle.blocks.proofs.Framing.{framed_is, other_kind}
use Rattle.blocks.proofs.frame.framed.Goals as goal

pub returns-then-block-kind : goal.returns-then-block-kind
returns-then-block-kind c = other_kind _ _ _ c.if-block-kind.true

pub returns : goal.returns
returns c = framed_is _ _ _ c.if-block-kind.false c.zero_bytes.ensures c.zero_words.ensures refl c.sums_of-sums.ensures c.get_u32.ensures c.get_u32-2.ensures refl refl
