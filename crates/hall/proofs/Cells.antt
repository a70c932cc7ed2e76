-- Laws of cells: what a hall holds at a place after a block is put at one, and what a run of blocks holds.
use Rattle.std.proofs.Common.{ℕ, zero, suc, ◌+◌, ◌*◌, ◌-◌, ◌≤◌, ◌<◌, arith, ◌≡◌, sym, ap, subst, ◌∙◌, ◌≢◌, ⊎_elim, List, ◌++◌, length, get_or, take, drop, length-drop, length-take-le, take_all, take_at, drop_at, get_or-take, get_or-drop, ext_get_or}
use Rattle.std.proofs.Math.Decide.{dec_lt}
use Rattle.std.proofs.Math.Seq.{take-append-le, drop-append-le}
use Rattle.below.proofs.Tests.{below_suc}
use Rattle.words.specs.Bytes.{splice}
use Rattle.words.proofs.Splices.{length-splice, splice_before, splice_after}
use Rattle.fields.specs.Codecs.{run}
use Rattle.fields.proofs.Times.{length_run}
use Rattle.blocks.specs.Frame.{block_size}
use Rattle.hall.specs.Halls.{hall_size, blocks_of_hall, block_at}
use Rattle.hall.specs.Steps.{put_block}

pub length_block : (hall : List ℕ) (place : ℕ) → length hall ≡ hall_size → place < blocks_of_hall → length (block_at hall place) ≡ block_size
unfolding block_at
length_block hall place long l = length-take-le block_size (drop (block_size * place) hall) (simp length-drop (omega arith))

block_byte : (hall : List ℕ) (place k : ℕ) → k < block_size → get_or (block_at hall place) k 0 ≡ get_or hall (block_size * place + k) 0
unfolding block_at
block_byte hall place k l = get_or-take block_size (drop (block_size * place) hall) k 0 l ∙ get_or-drop (block_size * place) hall k 0

module _ (hall block : List ℕ) (place : ℕ) (long : length hall ≡ hall_size) (within : place < blocks_of_hall) (size : length block ≡ block_size) where
  fits : block_size * place + length block ≤ length hall
  fits = omega arith

  pub put_length : length (put_block place block hall) ≡ hall_size
  put_length = length-splice (block_size * place) block hall fits ∙ long

  pub put_same : block_at (put_block place block hall) place ≡ block
  unfolding block_at splice
  put_same =
      ap (λ (l : List ℕ). take block_size l)
      (drop_at (take (block_size * place) hall) (block ++ drop (block_size * place + length block) hall) (block_size * place)
      (length-take-le (block_size * place) hall (omega arith))) ∙
      take_at block (drop (block_size * place + length block) hall) block_size size

  pub put_other : (other : ℕ) → other < blocks_of_hall → other ≢ place → block_at (put_block place block hall) other ≡ block_at hall other
  put_other other l apart =
      ext_get_or 0 _ _ (length_block (put_block place block hall) other put_length l ∙ sym (length_block hall other long l))
      (λ k b. byte k (subst (λ (n : ℕ). k < n) (length_block (put_block place block hall) other put_length l) b))
    where
      before : (k : ℕ) → k < block_size → other < place → get_or (put_block place block hall) (block_size * other + k) 0 ≡ get_or hall (block_size * other + k) 0
      before k b o = splice_before (block_size * place) block hall (block_size * other + k) 0 (omega arith) (omega arith)

      after : (k : ℕ) → k < block_size → place < other → get_or (put_block place block hall) (block_size * other + k) 0 ≡ get_or hall (block_size * other + k) 0
      after k b o =
          subst (λ (n : ℕ). get_or (put_block place block hall) n 0 ≡ get_or hall n 0) {x = (block_size * place + length block) + j} (omega arith)
          (splice_after (block_size * place) block hall j 0 (omega arith))
        where
          j : ℕ
          j = (block_size * other + k) - (block_size * place + length block)

      byte : (k : ℕ) → k < block_size → get_or (block_at (put_block place block hall) other) k 0 ≡ get_or (block_at hall other) k 0
      byte k b = block_byte (put_block place block hall) other k b ∙ go (dec_lt other place) ∙ sym (block_byte hall other k b)
        where
          go : Dec (other < place) → get_or (put_block place block hall) (block_size * other + k) 0 ≡ get_or hall (block_size * other + k) 0
          go (yes o) = before k b o
          go (no o) = after k b (omega (arith, o, apart))

-- blocks one behind the other
pub run_block : (n : ℕ) (f : ℕ → List ℕ) → ((k : ℕ) → length (f k) ≡ block_size) → (k : ℕ) → k < n → block_at (run n f) k ≡ f k
unfolding run block_at
run_block zero f h k l = absurd (omega arith)
run_block (suc n) f h k l = ⊎_elim here (λ m. there m (run_block n f h k m)) (below_suc l)
  where
    size : length (run n f) ≡ block_size * n
    size = length_run block_size n f h

    here : k ≡ n → take block_size (drop (block_size * k) (run n f ++ f n)) ≡ f k
    here e = rw e (ap (λ (l : List ℕ). take block_size l) (drop_at (run n f) (f n) (block_size * n) size) ∙ take_all block_size (f n) (omega (arith, h n)))

    there : k < n → take block_size (drop (block_size * k) (run n f)) ≡ f k → take block_size (drop (block_size * k) (run n f ++ f n)) ≡ f k
    there m e =
        ap (λ (l : List ℕ). take block_size l) (drop-append-le (block_size * k) (run n f) (f n) (omega (arith, size))) ∙
        take-append-le block_size (drop (block_size * k) (run n f)) (f n) (simp length-drop (omega (arith, size))) ∙ e
