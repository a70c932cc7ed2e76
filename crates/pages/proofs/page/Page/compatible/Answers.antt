use Rattle.std.proofs.Common.{rules}
use Rattle.below.proofs.Runs.{all_zipped}
use Rattle.pages.specs.declared.line.Mark.TheVariants.{Absent}
use Rattle.pages.specs.Lines.{compatible_mark}
use Rattle.pages.specs.Pages.{at, compatible_of, line}
use Rattle.pages.proofs.Filled.{length_mapped}
use Rattle.pages.proofs.page.Page.compatible.Goals as goal

pub returns : goal.returns
unfolding at compatible_of
returns c = all_zipped c.all.new.self 8 (λ l m. compatible_mark l.mark m.mark) (line Absent) (line Absent) c.all.ensures.ran (cc) (cc) (search length_mapped) (search length_mapped) (λ x b q k. search rules)
