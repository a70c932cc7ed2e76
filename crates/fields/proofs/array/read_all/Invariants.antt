use Rattle.std.proofs.Common.{◌≤◌, ◌+◌, ◌*◌, ◌≡◌, length}
use Rattle.below.specs.Below.{all}
use Rattle.below.proofs.Rows.{filled}
use Rattle.fields.proofs.array.read_all.Given as goal

abbrev pub invariant-loop-k : goal.invariant-loop-k
invariant-loop-k g l =
    record {
      within : l.k ≤ g.row.N;
      long : length l.initial.value ≡ g.row.N;
      values : l.value ≡ filled (λ j. g.T.Field.codec.get l.bytes (l.at + g.T.Field.codec.size * j)) l.k l.initial.value;
      exact : l.exact ≡ all l.k (λ j. g.T.Field.codec.exact l.bytes (l.at + g.T.Field.codec.size * j));
    }
