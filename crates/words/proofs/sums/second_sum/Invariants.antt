use Rattle.std.proofs.Common.{◌≡◌, get_or}
use Rattle.words.specs.Sums.{first_sum, second_sum}
use Rattle.words.proofs.sums.second_sum.Given as goal

abbrev pub invariant-loop-word : goal.invariant-loop-word
invariant-loop-word l = (l.first ≡ first_sum 0 l.word-index (λ j. get_or l.fn.words j 0)) × (l.second ≡ second_sum 0 l.word-index (λ j. get_or l.fn.words j 0))
