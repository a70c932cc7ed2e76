use Rattle.std.proofs.Common.{rules, not, ◌&&◌}
use Rattle.below.proofs.Runs.{all_counted}
use Rattle.pages.specs.declared.line.Mark.TheVariants.{Absent}
use Rattle.pages.specs.Lines.{is_absent}
use Rattle.pages.specs.Racks.{racks_below}
use Rattle.pages.specs.Pages.{at, complete_of, line}
use Rattle.pages.proofs.Filled.{length_mapped}
use Rattle.pages.proofs.page.Page.complete.Goals as goal

pub returns : goal.returns
unfolding at complete_of
returns c = all_counted _ 8 (λ k l. not (racks_below c.args.racks k && is_absent l.mark)) (line Absent) c.all.ensures.ran (cc) (cc) (search length_mapped) (λ x b q k. search rules)
