use Rattle.std.proofs.Common.{ℕ, ◌+◌, ◌*◌, ◌≤◌, ◌<◌, ◌≡◌, arith, length, get_or, ap, ◌∙◌}
use Rattle.std.proofs.Math.Nat.{mul-le-mul_left}
use Rattle.std.proofs.lemmas.List.{get_or_default}
use Rattle.words.specs.Bytes.{Spliced}
use Rattle.fields.proofs.Times.{write_start, write_more, write_ends}
use Rattle.fields.proofs.array.put_all.Goals as goal

pub loop-k-init : goal.loop-k-init
loop-k-init g c = record { within = omega arith; written = write_start g.row.N g.T.Slot.past g.T.Field.codec c.args.values _ _ }

pub loop-k-preserved : goal.loop-k-preserved
loop-k-preserved g c =
    let size : c.SIZE.result ≡ g.T.Field.codec.size = c.SIZE.ensures ∙ g.met.T.Field.size_is in
    let fits : c.args.at + g.T.Field.codec.size * c.loop-k.k ≤ length c.args.bytes.now =
    (let up : g.T.Field.codec.size * c.loop-k.k ≤ g.T.Field.codec.size * g.row.N = mul-le-mul_left g.T.Field.codec.size c.loop-k.invariant.within in
    let all : g.T.Field.SIZE * g.row.N ≡ g.T.Field.codec.size * g.row.N = ap (λ (s : ℕ). s * g.row.N) g.met.T.Field.size_is in omega arith) in
    let below : c.loop-k.k < length c.args.values = omega arith in
    let put : Spliced (c.args.at + g.T.Field.codec.size * c.loop-k.k) (g.T.Field.codec.put (get_or c.args.values c.loop-k.k g.T.Slot.past)) c.loop-k.bytes c.put.new.bytes =
    rw (← size, get_or_default c.args.values c.loop-k.k g.T.Slot.past c.index-values-k.result below) c.put.ensures in
    record {
      within = omega arith;
      written = write_more g.row.N g.T.Slot.past g.T.Field.codec c.args.values _ _ _ _ _ g.met.T.Slot.long fits c.loop-k.invariant.written put;
    }

pub returns : goal.returns
returns g c = write_ends g.row.N g.T.Slot.past g.T.Field.codec c.args.values _ _ _ _ c.loop-k.invariant.written c.loop-k.invariant.within c.loop-k-test.false
