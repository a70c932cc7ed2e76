use Rattle.std.proofs.Common.{◌≡◌, ◌*◌, ◌≤◌, eqb}
use Rattle.words.specs.Bytes.{zero_at}
use Rattle.words.proofs.zeros.zero_words.Given as goal

abbrev pub invariant-loop-k : goal.invariant-loop-k
invariant-loop-k l = (l.total ≤ l.k * 4294967296) × (eqb l.total 0 ≡ zero_at (4 * l.k) l.bytes l.at)
