use Rattle.lines.proofs.Feeding.{Reads}
use Rattle.lines.proofs.scan.Scan.feed_on.Given as goal

abbrev pub invariant-loop-read : goal.invariant-loop-read
invariant-loop-read l = Reads l.initial.scan l.rest l.scan l.read
