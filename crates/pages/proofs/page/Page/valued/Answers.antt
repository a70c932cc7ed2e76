use Rattle.std.proofs.Common.{rules}
use Rattle.below.proofs.Runs.{any_in}
use Rattle.pages.specs.declared.line.Mark.TheVariants.{Absent}
use Rattle.pages.specs.Lines.{is_reading}
use Rattle.pages.specs.Pages.{at, valued_of, line}
use Rattle.pages.proofs.Filled.{length_mapped}
use Rattle.pages.proofs.page.Page.valued.Goals as goal

pub returns : goal.returns
unfolding at valued_of
returns c = any_in _ 8 (λ l. is_reading l.mark) (line Absent) c.any.ensures.ran (cc) (search length_mapped) (λ x b q k. search rules)
