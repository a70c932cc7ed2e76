use Rattle.std.proofs.Common.{arith}
use Rattle.lines.proofs.Feeding.{reads_nothing, reads_start, reads_to_lf, reads_to_end, reads_on}
use Rattle.lines.proofs.scan.Scan.feed_on.Goals as goal

pub returns-in_default : goal.returns-in_default
returns-in_default c = reads_nothing _ _ _ (omega (arith, c.in_default.ensures.lookup.0))

pub loop-read-init : goal.loop-read-init
loop-read-init c = reads_start _ _

pub returns-then-byte-eq10 : goal.returns-then-byte-eq10
returns-then-byte-eq10 c = reads_to_lf _ c.loop-read.invariant _ _ c.in-Some.ensures.lookup.0.2 c.loop-read-test.true c.if-byte-eq10.true

pub loop-read-preserved : goal.loop-read-preserved
loop-read-preserved c = reads_on _ c.loop-read.invariant c.loop-read-test.true c.if-byte-eq10.false c.take.ensures

pub returns : goal.returns
returns c = reads_to_end _ c.loop-read.invariant _ _ c.in-Some.ensures.lookup.0.2 c.loop-read-test.false c.loop-read.auto.read-end
