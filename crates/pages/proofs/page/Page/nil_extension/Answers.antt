use Rattle.std.proofs.Common.{rules, cond}
use Rattle.below.proofs.Runs.{row_made}
use Rattle.pages.specs.declared.line.Mark.TheVariants.{Nil}
use Rattle.pages.specs.Lines.{append_mark}
use Rattle.pages.specs.Racks.{has}
use Rattle.pages.specs.Pages.{at, page, nil_extension, line}
use Rattle.pages.proofs.page.Page.nil_extension.Goals as goal

pub returns : goal.returns
unfolding at page nil_extension
returns c = λ i. record { lines = row_made _ (λ k. line (cond (has c.args.racks k) (append_mark (at c.args.self k) Nil) (at c.args.self k))) 8 c.from_fn.ensures.items (λ k y q h. search rules) i }
