use Rattle.std.proofs.Common.{refl, arith}
use Rattle.words.proofs.Splices.{placed, two_bytes}
use Rattle.words.proofs.numbers.put_u16.Goals as goal

pub returns : goal.returns
returns c = let bytes = two_bytes c.args.x c.ranges.x.fits in placed _ 2 (cc) refl (omega arith) c.requires
