use Rattle.std.proofs.Common.{arith, rules, ap, ◌∙◌, ℕ}
use lib.ListN.{replicate}
use Rattle.std.proofs.Math.ListN.{length-replicate}
use Rattle.words.proofs.Splices.{length-part, placed}
use Rattle.words.proofs.zeros.put_zeros.Goals as goal

pub returns : goal.returns
returns c =
    placed _ _ (c.fill.ensures.after (λ y h. search rules) ∙ ap (λ (m : ℕ). replicate m 0) (length-part _ _ _ (omega arith) c.requires)) (length-replicate c.args.n 0) (omega arith) c.requires
