use Rattle.book.proofs.Judged.{judges_start, judges_more}
use Rattle.book.proofs.judging.judge.Goals as goal

pub loop-place-init : goal.loop-place-init
loop-place-init c = judges_start _

pub loop-place-preserved : goal.loop-place-preserved
loop-place-preserved c = judges_more _ _ c.loop-place.invariant c.is_good.ensures c.in_place.ensures c.is_reader.ensures
