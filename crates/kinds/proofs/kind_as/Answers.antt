use Rattle.std.proofs.Common.{rules, ◌≡◌, Err}
use Rattle.below.specs.Refusals.{number}
use Rattle.blocks.specs.Answers.{answer}
use Rattle.blocks.specs.Kinds.{good}
use Rattle.kinds.proofs.Telling.{number_refused}
use Rattle.kinds.proofs.kind_as.Goals as goal

pub returns-in_err-read-clause-named : goal.returns-in_err-read-clause-named
returns-in_err-read-clause-named g c =
    let e : c.from_residual.result ≡ Err c.in_err-read.field-0.0 = search rules in
    let n : number c.in_err-read.field-0.0 ≡ answer c.args.block.now (good g.B.Body.kind c.args.block.now) = c.in_err-read.ensures.refused in
    rw e (number_refused g.B.Body.kind g.B.Body.Fits g.met.B.Body.proper c.args.block.now g.B.Body.kind.number c.in_err-read.field-0.0 n)
