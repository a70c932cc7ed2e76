-- Which kind a block is of.
use Rattle.std.specs.Prelude.{ℕ, eqb, length, ◌≡◌, Bool, false, cond, ◌&&◌, List, Result, Ok, Err}
use Rattle.below.specs.declared.refusals.Refusal.{Refusal}
use Rattle.words.specs.Bytes.{byte}
use Rattle.blocks.specs.Frame.{block_size}
use Rattle.blocks.specs.Kinds.{good}
use Rattle.blocks.specs.Answers.{answer}
use Rattle.blocks.specs.Numbers.{number}
use Rattle.blocks.specs.declared.kind.Kind.{Kind}
use Rattle.blocks.specs.Messages.{propose, one_a, one_b, two_s, two_a, two_b}
use Rattle.blocks.specs.Rows.{head, coordinator, box, rack, reader}

-- a good block of the kind with this number, if there is one
unfoldable pub good_as : ℕ → List ℕ → Bool
good_as n bytes =
    cond (eqb n 1) (good propose bytes)
    (cond (eqb n 2) (good one_a bytes)
    (cond (eqb n 3) (good one_b bytes)
    (cond (eqb n 4) (good two_s bytes)
    (cond (eqb n 5) (good two_a bytes)
    (cond (eqb n 6) (good two_b bytes)
    (cond (eqb n 16) (good head bytes)
    (cond (eqb n 17) (good coordinator bytes)
    (cond (eqb n 18) (good box bytes) (cond (eqb n 19) (good rack bytes) (cond (eqb n 20) (good reader bytes) false))))))))))

-- good for the kind that its third byte names
abbrev pub known : List ℕ → Bool
known bytes = good_as (byte bytes 2) bytes

-- 1, 2 or 0 and the kind's number
pub record Told (bytes : List ℕ) (refusal kind : ℕ) : Type 0 where
  pub refused : refusal ≡ answer bytes (known bytes)
  pub named : kind ≡ cond (eqb (length bytes) block_size && known bytes) (byte bytes 2) 0

-- the number of the kind in an answer, 0 where the block is refused
abbrev pub kind_number : Result Kind Refusal → ℕ
kind_number (Ok k) = number k
kind_number (Err e) = 0
