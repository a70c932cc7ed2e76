use Rattle.std.proofs.Common.{rules}
use Rattle.below.proofs.Runs.{all_in}
use Rattle.pages.specs.declared.line.Mark.TheVariants.{Absent}
use Rattle.pages.specs.Lines.{is_absent}
use Rattle.pages.specs.Pages.{at, empty_of, line}
use Rattle.pages.proofs.Filled.{length_mapped}
use Rattle.pages.proofs.page.Page.is_empty.Goals as goal

pub returns : goal.returns
unfolding at empty_of
returns c = all_in _ 8 (λ l. is_absent l.mark) (line Absent) c.all.ensures.ran (cc) (search length_mapped) (λ x b q k. search rules)
