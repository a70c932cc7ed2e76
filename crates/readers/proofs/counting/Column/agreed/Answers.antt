use Rattle.std.proofs.Common.{rules, ap, ◌∙◌}
use Rattle.pages.specs.declared.line.Line.{Line}
use Rattle.pages.proofs.Filled.{length_mapped}
use Rattle.rounds.specs.Setups.{most_boxes}
use Rattle.readers.specs.Counting.{enough, agreed_line, line_at}
use Rattle.readers.proofs.AgreedLine.{line_found}
use Rattle.readers.proofs.counting.Column.agreed.Goals as goal

pub returns : goal.returns
unfolding agreed_line line_at
returns c =
    ap (λ (l : Line). l.mark) c.unwrap_or.ensures ∙
    line_found {xs = c.args.self.now.lines} c.find.new.self most_boxes (enough most_boxes c.args.need (line_at c.args.self.now)) _ c.find.result c.find.ensures.ran
    (cc) (search length_mapped) (λ x b q k. search rules)
