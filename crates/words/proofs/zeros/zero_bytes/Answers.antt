use Rattle.std.proofs.Common.{rules, eqb, ◌∙◌, arith}
use Rattle.below.proofs.Runs.{all_in}
use Rattle.words.proofs.Splices.{length-part}
use Rattle.words.proofs.Zeroes.{zero_part}
use Rattle.words.proofs.zeros.zero_bytes.Goals as goal

pub returns : goal.returns
returns c =
    all_in _ c.args.n (λ b. eqb b 0) 0 c.all.ensures.ran c.iter.ensures.rest (length-part _ _ _ (omega arith) c.requires) (λ x b q k. search rules) ∙
    zero_part _ _ _ (omega arith) c.requires
