use Rattle.std.proofs.Common.{◌≤◌, get_or}
use Rattle.words.specs.Bytes.{Spliced}
use Rattle.fields.specs.Codecs.{run}
use Rattle.fields.proofs.array.put_all.Given as goal

abbrev pub invariant-loop-k : goal.invariant-loop-k
invariant-loop-k g l =
    record {
      within : l.k ≤ g.row.N;
      written : Spliced l.at (run l.k (λ j. g.T.Field.codec.put (get_or l.values j g.T.Slot.past))) l.initial.bytes l.bytes;
    }
