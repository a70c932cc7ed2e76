use Rattle.std.proofs.Common.{rules, cond, eqb}
use Rattle.below.proofs.Runs.{row_made}
use Rattle.pages.specs.Lines.{append_mark}
use Rattle.pages.specs.Pages.{at, page, append_of, line}
use Rattle.pages.proofs.page.Page.append.Goals as goal

pub returns : goal.returns
unfolding at page append_of
returns c = λ i. record { lines = row_made _ (λ k. line (cond (eqb k c.args.rack) (append_mark (at c.args.self k) c.args.line.mark) (at c.args.self k))) 8 c.from_fn.ensures.items (λ k y q h. search rules) i }
