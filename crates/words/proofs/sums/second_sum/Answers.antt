use Rattle.std.proofs.Common.{rules, refl}
use Rattle.words.proofs.Summed.{sums_start, first_more, second_more, sums_end}
use Rattle.words.proofs.sums.second_sum.Goals as goal

pub loop-word-init : goal.loop-word-init
loop-word-init c = sums_start 0 _

pub loop-word-preserved : goal.loop-word-preserved
loop-word-preserved c =
    let first = first_more 0 _ _ c.loop-word.invariant.0 refl refl in
    (first, second_more 0 _ _ c.loop-word.invariant.1 first refl)

pub returns : goal.returns
returns c = (sums_end 0 _ _ 42 c.loop-word.invariant.0 c.loop-word.invariant.1 (search rules) (search rules)).1
