-- Laws of `row`: its length, its elements, and the loop that fills an array with them.
use Rattle.std.proofs.Common.{ℕ, zero, suc, ◌+◌, ◌≤◌, ◌<◌, add-one, le_antisymm, arith, ◌≡◌, refl, ap, ◌∙◌, List, [], ◌∷◌, ◌++◌, append-nil, append_assoc, length, get_or, drop, set, drop_of_length-le, drop-cons}
use Rattle.std.proofs.Math.Seq.{set_at}
use Rattle.below.specs.Below.{row}

module _ {A : Type 0} where
  pub length-row : (n : ℕ) (f : ℕ → A) → length (row n f) ≡ n
  unfolding row
  length-row zero f = refl
  length-row (suc n) f = ap suc (length-row n (λ k. f (suc k)))

  pub row_at : (n : ℕ) (f : ℕ → A) (k : ℕ) (d : A) → k < n → get_or (row n f) k d ≡ f k
  unfolding row
  row_at zero f k d l = absurd (omega arith)
  row_at (suc n) f zero d l = refl
  row_at (suc n) f (suc k) d l = row_at n (λ j. f (suc j)) k d (omega arith)

  pub row_past : (n : ℕ) (f : ℕ → A) (k : ℕ) (d : A) → n ≤ k → get_or (row n f) k d ≡ d
  unfolding row
  row_past zero f k d l = refl
  row_past (suc n) f zero d l = absurd (omega arith)
  row_past (suc n) f (suc k) d l = row_past n (λ j. f (suc j)) k d (omega arith)

  pub row_same : (n : ℕ) (f g : ℕ → A) → ((k : ℕ) → k < n → f k ≡ g k) → row n f ≡ row n g
  unfolding row
  row_same zero f g h = refl
  row_same (suc n) f g h = rw (h 0 (omega arith), row_same n (λ k. f (suc k)) (λ k. g (suc k)) (λ k l. h (suc k) (omega arith)))

  -- one element more at the end
  pub row_suc : (n : ℕ) (f : ℕ → A) → row (suc n) f ≡ row n f ++ (f n ∷ [])
  unfolding row
  row_suc zero f = refl
  row_suc (suc n) f = ap (λ (l : List A). f 0 ∷ l) (row_suc n (λ k. f (suc k)))

  -- a list is the row of its own elements
  pub row_of_list : (d : A) (l : List A) → row (length l) (λ k. get_or l k d) ≡ l
  unfolding row
  row_of_list d [] = refl
  row_of_list d (x ∷ l) = ap (λ (t : List A). x ∷ t) (row_of_list d l)

  -- The loop that fills an array: after k turns its first k elements are the row's, and the rest is as it came.
  unfoldable pub filled : (ℕ → A) → ℕ → List A → List A
  filled f k l = row k f ++ drop k l

  pub filled_start : (f : ℕ → A) (l : List A) → l ≡ filled f 0 l
  unfolding filled row
  filled_start f l = refl

  pub filled_more : (f : ℕ → A) (k : ℕ) (l : List A) → k < length l → set (filled f k l) k (f k) ≡ filled f (k + 1) l
  unfolding filled
  filled_more f k l h =
      rw (add-one, row_suc, append_assoc)
      (ap (λ (t : List A). set (row k f ++ t) k (f k)) (drop-cons l k (f k) h) ∙ set_at (row k f) _ (drop (suc k) l) (f k) k (length-row k f))

  pub filled_ends : (f : ℕ → A) (n k : ℕ) (l : List A) → length l ≡ n → k ≤ n → n ≤ k → filled f k l ≡ row n f
  unfolding filled
  filled_ends f n k l e a b =
      ap (λ (t : List A). row k f ++ t) (drop_of_length-le l {i = k} (omega (arith, e))) ∙ append-nil (row k f) ∙ ap (λ (m : ℕ). row m f) (le_antisymm a b)
