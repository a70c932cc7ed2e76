use Rattle.std.proofs.Common.{◌+◌, ◌≡◌, ◌∙◌, ap}
use Rattle.blocks.specs.Frame.{body_at}
use Rattle.blocks.specs.Numbers.{number}
use Rattle.blocks.proofs.Answered.{put_good}
use Rattle.blocks.proofs.body.put.Goals as goal

pub returns : goal.returns
returns g c =
    let n : c.number.result ≡ g.B.Body.kind.number = c.number.ensures ∙ ap number c.KIND.ensures ∙ g.met.B.Body.kind_is in
    let e : c.END.result ≡ body_at + g.B.Body.kind.body.size = c.END.ensures ∙ g.met.B.Body.end_is in
    put_good g.B.Body.kind g.B.Body.Fits g.met.B.Body.proper _ _ c.requires (rw n at c.put_stamp.ensures) c.put.ensures (rw e at c.seal.ensures)
