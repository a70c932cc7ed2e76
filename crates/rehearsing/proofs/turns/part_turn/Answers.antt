use Rattle.rehearsing.proofs.LineParts.{parted_line, parted_open}
use Rattle.rehearsing.proofs.turns.part_turn.Goals as goal

pub returns-then-fed-input : goal.returns-then-fed-input
returns-then-fed-input c = parted_line _ _ _ _ c.requires.0 c.feed_on-fed.ensures c.if-fed-input.true c.finish.ensures c.line_turn-played.ensures

pub returns-else-fed-input : goal.returns-else-fed-input
returns-else-fed-input c = parted_open _ _ _ _ c.requires.0 c.feed_on-fed.ensures _ _ c.if-fed-input.false
