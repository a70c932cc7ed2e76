use Rattle.std.proofs.Common.{rules}
use Rattle.below.proofs.Runs.{row_made}
use Rattle.pages.specs.Pages.{line}
use Rattle.pages.specs.Racks.{has}
use Rattle.rounds.specs.Setups.{most_boxes}
use Rattle.readers.specs.Counting.{held_line}
use Rattle.readers.proofs.counting.Column.of.Goals as goal

pub returns : goal.returns
returns c = row_made _ (λ b. line (held_line c.args.setup c.args.reader.now c.args.round (has c.args.blanks) c.args.rack b)) most_boxes c.from_fn.ensures.items (λ b y q h. search rules)
