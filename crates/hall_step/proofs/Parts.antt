-- A block of the hall as a part of the lent bytes: what it holds, and what the hall holds once it is written.
use Rattle.std.proofs.Common.{ℕ, ◌+◌, ◌*◌, ◌-◌, ◌<◌, arith, mul_comm, length, take, drop, ◌≡◌, ap, ◌∙◌, List, ◌++◌}
use borrow.Rule.Slice.PartMut.{put_mid, Post-is}
use Rattle.words.specs.Bytes.{splice}
use Rattle.blocks.specs.Frame.{block_size}
use Rattle.hall.specs.Halls.{hall_size, blocks_of_hall, block_at}
use Rattle.hall.specs.Steps.{put_block}

-- as wide as a block
width : (at : ℕ) → at + block_size - at ≡ block_size
width at = omega arith

pub part_is : (hall : List ℕ) (place : ℕ) → take (place * block_size + block_size - place * block_size) (drop (place * block_size) hall) ≡ block_at hall place
unfolding block_at
part_is hall place =
    ap (λ (n : ℕ). take n (drop (place * block_size) hall)) (width (place * block_size)) ∙ ap (λ (n : ℕ). take block_size (drop n hall)) (mul_comm place block_size)

module _ (hall block new : List ℕ) (place : ℕ) (long : length hall ≡ hall_size) (within : place < blocks_of_hall) (size : length block ≡ block_size) where
  -- written by a call
  pub put_part : new ≡ block → put_mid (place * block_size) (place * block_size + block_size - place * block_size) hall new ≡ put_block place block hall
  unfolding splice
  put_part e =
      rw (Post-is (place * block_size) (place * block_size + block_size) hall (omega arith), e)
      (ap (λ (n : ℕ). take n hall ++ (block ++ drop (place * block_size + block_size) hall)) (mul_comm place block_size) ∙
      ap (λ (n : ℕ). take (block_size * place) hall ++ (block ++ drop n hall)) ends)
    where
      ends : place * block_size + block_size ≡ block_size * place + length block
      ends = omega (arith, size)
