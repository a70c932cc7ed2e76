use Rattle.std.proofs.Common.{refl}
use Rattle.words.specs.Sums.{word_of}
use Rattle.words.proofs.Summed.{third_at, firsts, together_sum, seconds}
use Rattle.words.proofs.sums.sums_of.Goals as goal

pub returns : goal.returns
returns c =
    let bytes = c.args.block.now in
    let f = firsts (word_of bytes) (third_at bytes 0 0 refl c.third_sum.ensures) (third_at bytes 168 42 refl c.third_sum-2.ensures) (third_at bytes 336 84 refl c.third_sum-3.ensures) refl refl refl in
    (f.1.1, seconds (word_of bytes) f.0 f.1.0 refl refl refl (together_sum bytes c.thirds_together.ensures c.second_sum-inside.ensures) refl)
