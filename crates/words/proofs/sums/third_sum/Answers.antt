use Rattle.std.proofs.Common.{rules, refl}
use Rattle.words.proofs.Summed.{sums_start, first_more, sum_end}
use Rattle.words.proofs.sums.third_sum.Goals as goal

pub loop-k-init : goal.loop-k-init
loop-k-init c = (sums_start 0 _).0

pub loop-k-preserved : goal.loop-k-preserved
loop-k-preserved c = first_more 0 _ _ c.loop-k.invariant c.get_u32-first.ensures refl

pub returns : goal.returns
returns c = sum_end 0 _ _ c.loop-k.invariant (search rules) (search rules)
