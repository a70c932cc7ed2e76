use Rattle.std.proofs.Common.{◌≡◌, ◌+◌, ◌*◌}
use Rattle.words.specs.Bytes.{number4}
use Rattle.words.specs.Sums.{first_sum}
use Rattle.words.proofs.sums.third_sum.Given as goal

abbrev pub invariant-loop-k : goal.invariant-loop-k
invariant-loop-k l = l.first ≡ first_sum 0 l.k (λ j. number4 l.block (l.at + 4 * j))
