use Rattle.std.proofs.Common.{rules, refl}
use Rattle.book.proofs.Walks.{at_start, page_begins, page_ends, line_entered, walk_left, walk_ends}
use Rattle.book.proofs.walking.walk.Goals as goal

pub walk-init : goal.walk-init
walk-init c = (search rules, (refl, at_start _ _ _ _))

pub loop-rack-init : goal.loop-rack-init
loop-rack-init c = (search rules, (refl, page_begins _ _ _ c.walk-test.true c.walk.invariant.1.1))

pub enter-listed-requires : goal.enter-listed-requires
enter-listed-requires c = let f = c.loop-rack.invariant.1.1.few in search rules

pub loop-rack-preserved : goal.loop-rack-preserved
loop-rack-preserved c = (search rules, (search rules, line_entered _ _ _ _ _ c.loop-rack-test.true c.line_at-line.ensures c.loop-rack.invariant.1.1 c.is_absent.ensures c.if-is_absent.false c.enter-listed.ensures))

pub walk-preserved : goal.walk-preserved
walk-preserved c = (search rules, (search rules, page_ends _ _ _ c.requires.1.1 c.loop-rack.invariant.0 (search rules) c.loop-rack.invariant.1.1))

pub returns-after-walk : goal.returns-after-walk
returns-after-walk c = walk_ends _ _ _ (search rules) (let f = c.walk.invariant.1.1.few in search rules) c.walk.invariant.1.1

pub returns-then-is_absent : goal.returns-then-is_absent
returns-then-is_absent c = walk_left _ _ _ _ _ c.loop-rack-test.true c.line_at-line.ensures c.loop-rack.invariant.1.1 c.is_absent.ensures c.if-is_absent.true (let f = c.loop-rack.invariant.1.1.few in search rules)
