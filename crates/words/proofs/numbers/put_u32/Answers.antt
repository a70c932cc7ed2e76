use Rattle.std.proofs.Common.{refl, arith}
use Rattle.words.proofs.Splices.{placed, four_bytes}
use Rattle.words.proofs.numbers.put_u32.Goals as goal

pub returns : goal.returns
returns c = let bytes = four_bytes c.args.x c.ranges.x.fits in placed _ 4 (cc) refl (omega arith) c.requires
