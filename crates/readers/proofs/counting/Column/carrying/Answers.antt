use Rattle.std.proofs.Common.{rules}
use Rattle.below.proofs.Tallies.{count_in}
use Rattle.pages.specs.declared.line.Line.{Line}
use Rattle.pages.specs.Lines.{prefix_mark}
use Rattle.pages.proofs.Filled.{length_mapped}
use Rattle.rounds.specs.Setups.{most_boxes}
use Rattle.readers.specs.Counting.{carrying, line_at}
use Rattle.readers.proofs.counting.Column.carrying.Goals as goal

pub returns : goal.returns
unfolding carrying line_at
returns c = count_in {xs = c.args.self.now.lines} most_boxes (λ (l : Line). prefix_mark c.args.line.mark l.mark) _ _ c.count.ensures.ran (cc) c.filter.ensures.closure (search length_mapped) (λ x b q k. search rules)
