use Rattle.std.proofs.Common.{rules}
use Rattle.below.proofs.Runs.{row_made}
use Rattle.pages.specs.Pages.{page, line}
use Rattle.pages.specs.Racks.{most_racks, has}
use Rattle.rounds.specs.Setups.{most_boxes}
use Rattle.readers.specs.Counting.{agreed_line, held_line}
use Rattle.readers.proofs.CountedWays.{column_agreed}
use Rattle.readers.proofs.counting.agreed_page.Goals as goal

pub returns : goal.returns
unfolding page
returns c = λ i. record {
  lines = row_made _ (λ k. line (agreed_line most_boxes c.args.need (held_line c.args.setup c.args.row.now c.args.round (has c.args.blanks) k))) most_racks c.from_fn.ensures.items (λ k y q h. search (rules, column_agreed)) i;
}
