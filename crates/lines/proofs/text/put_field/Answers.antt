use Rattle.std.proofs.Common.{arith}
use Rattle.lines.proofs.Writing.{put_next, decimal_short}
use Rattle.lines.proofs.text.put_field.Goals as goal

pub returns : goal.returns
returns c = put_next (omega (arith, decimal_short c.args.n)) c.put_decimal-next.ensures c.put.ensures
