use Rattle.std.proofs.Common.{ℕ, ◌+◌, ◌*◌, arith, refl, subst, ◌∙◌}
use Rattle.std.proofs.lemmas.List.{length-replicate}
use Rattle.below.proofs.Rows.{filled_start}
use Rattle.fields.specs.Codecs.{Got}
use Rattle.fields.proofs.Times.{read_more, exact_more, exact_start, read_ends}
use Rattle.fields.proofs.array.read_all.Goals as goal

pub loop-k-init : goal.loop-k-init
loop-k-init g c = record { within = omega arith; long = length-replicate g.row.N _; values = filled_start _ _; exact = exact_start _ }

pub loop-k-preserved : goal.loop-k-preserved
loop-k-preserved g c =
    let got : Got g.T.Field.codec c.args.bytes.now (c.args.at + g.T.Field.codec.size * c.loop-k.k) c.read-read.result.value c.read-read.result.exact =
    subst (λ (s : ℕ). Got g.T.Field.codec c.args.bytes.now (c.args.at + s * c.loop-k.k) c.read-read.result.value c.read-read.result.exact)
    (c.SIZE.ensures ∙ g.met.T.Field.size_is) c.read-read.ensures in
    record {
      within = omega arith;
      long = c.loop-k.invariant.long;
      values = read_more (λ j. g.T.Field.codec.get c.args.bytes.now (c.args.at + g.T.Field.codec.size * j)) c.loop-k.k _ c.loop-k.value c.read-read.result.value
          c.loop-k.invariant.values got.is (omega arith);
      exact = exact_more (λ j. g.T.Field.codec.exact c.args.bytes.now (c.args.at + g.T.Field.codec.size * j)) c.loop-k.k c.loop-k.invariant.exact got.tested refl;
    }

pub returns : goal.returns
returns g c =
    read_ends g.row.N g.T.Slot.past g.T.Field.codec _ _ _ _ _ c.loop-k.invariant.values c.loop-k.invariant.exact c.loop-k.invariant.long
    c.loop-k.invariant.within c.loop-k-test.false
