-- The lent blocks at their places.
use Rattle.std.proofs.Common.{ℕ, ◌+◌, ◌*◌, ◌-◌, ◌≤◌, arith, length, get_or, take, drop, length-drop, get_or-take, length-take-le, eq-eqb, ◌≡◌, refl, sym, ap, ◌∙◌, Bool, true, false, cond, List, Result, Ok, Err}
use Rattle.std.proofs.Math.ListN.{get_or-eq_default}
use Rattle.std.specs.Result.{is_ok}
use Rattle.blocks.specs.Frame.{block_size}
use Rattle.below.specs.declared.refusals.Refusal.{Refusal}
use Rattle.below.specs.Refusals.{number_of}
use Rattle.below.proofs.Refused.{number_some}
use Rattle.blocks.specs.declared.kind.Kind.{Kind}
use Rattle.kinds.specs.Known.{known, Told}
use Rattle.book.specs.Book.{block_at, is_good, racks_of}

pub length_block : (blocks : List ℕ) (place : ℕ) → block_size * (place + 1) ≤ length blocks → length (block_at blocks place) ≡ block_size
unfolding block_at
length_block blocks place h = length-take-le block_size (drop (block_size * place) blocks) (simp length-drop (omega arith))

-- the part that the code takes
pub part_block : (blocks : List ℕ) (place : ℕ) → block_size * (place + 1) ≤ length blocks →
    (take (block_size * place + block_size - block_size * place) (drop (block_size * place) blocks) ≡ block_at blocks place) ×
    (length (take (block_size * place + block_size - block_size * place) (drop (block_size * place) blocks)) ≡ block_size)
unfolding block_at
part_block blocks place h = (same, ap length same ∙ length_block blocks place h)
  where
    same : take (block_size * place + block_size - block_size * place) (drop (block_size * place) blocks) ≡ block_at blocks place
    same = let e : block_size * place + block_size - block_size * place ≡ block_size = omega arith in ap (λ (n : ℕ). take n (drop (block_size * place) blocks)) e

-- a block of the right length is good exactly if its kind is told
pub told_good : (blocks : List ℕ) (place : ℕ) {block : List ℕ} {kind : ℕ} (r : Result Kind Refusal) → block ≡ block_at blocks place → length block ≡ block_size → Told block (number_of r) kind →
    is_ok r ≡ is_good blocks place
unfolding is_good
told_good blocks place {block} r e l t = go r (known block) (t.refused ∙ ap (λ (b : Bool). cond b (cond (known block) 0 2) 1) (eq-eqb (length block) block_size l)) ∙ ap known e
  where
    go : (r : Result Kind Refusal) (b : Bool) → number_of r ≡ cond b 0 2 → is_ok r ≡ b
    go (Ok k) true h = refl
    go (Ok k) false h = cc
    go (Err f) true h = absurd (number_some f h)
    go (Err f) false h = refl

-- P is the first block's fourth byte, also where there is none
pub racks_byte : (blocks : List ℕ) → get_or blocks 3 0 ≡ racks_of blocks
unfolding block_at
racks_byte blocks = sym (get_or-take block_size blocks 3 0 (omega arith))

pub racks_none : (blocks : List ℕ) → length blocks ≤ 3 → 0 ≡ racks_of blocks
racks_none blocks h = sym (get_or-eq_default blocks 0 h) ∙ racks_byte blocks
