use Rattle.std.proofs.Common.{◌≡◌, length}
use Rattle.below.proofs.Rows.{filled}
use Rattle.words.specs.Sums.{word_of, together}
use Rattle.words.proofs.sums.thirds_together.Given as goal

abbrev pub invariant-loop-k : goal.invariant-loop-k
invariant-loop-k l = (length l.initial.words ≡ 42) × (l.words ≡ filled (together (word_of l.block)) l.k l.initial.words)
