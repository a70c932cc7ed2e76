use Rattle.std.proofs.Common.{rules}
use Rattle.below.proofs.Runs.{row_made}
use Rattle.pages.specs.Lines.{append_mark}
use Rattle.pages.specs.Pages.{at, page, union_of, line}
use Rattle.pages.proofs.page.Page.union.Goals as goal

pub returns : goal.returns
unfolding at page union_of
returns c = λ i. record { lines = row_made _ (λ k. line (append_mark (at c.args.self k) (at c.args.other k))) 8 c.from_fn.ensures.items (λ k y q h. search rules) i }
