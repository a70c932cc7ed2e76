use Rattle.std.proofs.Common.{rules}
use Rattle.below.proofs.Tallies.{count_below}
use Rattle.rounds.specs.Setups.{most_boxes}
use Rattle.readers.specs.Learning.{held_in}
use Rattle.readers.proofs.counting.held_boxes.Goals as goal

pub returns : goal.returns
returns c = count_below most_boxes (held_in c.args.setup c.args.row.now c.args.round) _ c.count.ensures.ran c.filter.ensures.source c.filter.ensures.closure (λ x b q k. search rules)
