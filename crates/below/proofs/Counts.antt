-- Laws of `count`, and that two sets of boxes which together count more than there are share one.
use Rattle.std.proofs.Common.{ℕ, zero, suc, ◌+◌, ◌≤◌, ◌<◌, arith, ◌≡◌, refl, ap, subst, ◌∙◌, Bool, true, false, cond, ⊎_elim}
use Rattle.std.proofs.Math.Decide.{dec_lt}
use Rattle.below.specs.Below.{count}
use Rattle.below.proofs.Tests.{decided, found_up, not_true_false}

pub count_at_most : (n : ℕ) (f : ℕ → Bool) → count n f ≤ n
unfolding count
count_at_most zero f = omega arith
count_at_most (suc n) f = go (f n) (count_at_most n f)
  where
    go : (b : Bool) → count n f ≤ n → count n f + cond b 1 0 ≤ suc n
    go true h = omega arith
    go false h = omega arith

-- a test that more numbers pass
pub count_grows : (n : ℕ) (f g : ℕ → Bool) → ((k : ℕ) → k < n → f k ≡ true → g k ≡ true) → count n f ≤ count n g
unfolding count
count_grows zero f g h = omega arith
count_grows (suc n) f g h = go (f n) (g n) (h n (omega arith)) (count_grows n f g (λ k l. h k (omega arith)))
  where
    go : (a b : Bool) → (a ≡ true → b ≡ true) → count n f ≤ count n g → count n f + cond a 1 0 ≤ count n g + cond b 1 0
    go true b p l = rw (p refl) (omega arith)
    go false true p l = omega arith
    go false false p l = omega arith

pub count_same : (n : ℕ) (f g : ℕ → Bool) → ((k : ℕ) → k < n → f k ≡ g k) → count n f ≡ count n g
unfolding count
count_same zero f g h = refl
count_same (suc n) f g h = rw (count_same n f g (λ k l. h k (omega arith)), h n (omega arith))

pub count_none : (n : ℕ) (f : ℕ → Bool) → ((k : ℕ) → k < n → f k ≡ false) → count n f ≡ 0
unfolding count
count_none zero f h = refl
count_none (suc n) f h = rw (count_none n f (λ k l. h k (omega arith)), h n (omega arith))

-- a count above 0 has a number that passes
pub count_some : (n : ℕ) (f : ℕ → Bool) → 0 < count n f → (k : ℕ) × (k < n) × (f k ≡ true)
unfolding count
count_some zero f h = absurd (omega arith)
count_some (suc n) f h = ⊎_elim (λ e. (n, omega arith, e)) (λ e. found_up (count_some n f (missed e))) (decided (f n))
  where
    missed : f n ≡ false → 0 < count n f
    missed e = let l : 0 < count n f + cond false 1 0 = subst (λ (b : Bool). 0 < count n f + cond b 1 0) e h in omega arith

-- two tests that together pass more often than there are numbers pass at one number both
pub counts_meet : (n : ℕ) (f g : ℕ → Bool) → n < count n f + count n g → (k : ℕ) × (k < n) × ((f k ≡ true) × (g k ≡ true))
unfolding count
counts_meet zero f g h = absurd (omega arith)
counts_meet (suc n) f g h = go (counts_meet n f g) (f n) (g n) refl refl h
  where
    go : (n < count n f + count n g → (k : ℕ) × (k < n) × ((f k ≡ true) × (g k ≡ true))) → (a b : Bool) → f n ≡ a → g n ≡ b →
        suc n < (count n f + cond a 1 0) + (count n g + cond b 1 0) → (k : ℕ) × (k < suc n) × ((f k ≡ true) × (g k ≡ true))
    go ih true true p q l = (n, omega arith, (p, q))
    go ih true false p q l = found_up (ih (omega arith))
    go ih false true p q l = found_up (ih (omega arith))
    go ih false false p q l = found_up (ih (omega arith))

-- counts over slots of which only those below A pass are counts over A
pub count_cut : (n A : ℕ) (f : ℕ → Bool) → A ≤ n → ((k : ℕ) → k < n → f k ≡ true → k < A) → count n f ≡ count A f
unfolding count
count_cut zero A f l h = ap (λ (m : ℕ). count m f) (zero_is A l)
  where
    zero_is : (A : ℕ) → A ≤ 0 → 0 ≡ A
    zero_is A l = omega arith
count_cut (suc n) A f l h = go (λ m. count_cut n A f m (λ k j. h k (omega arith))) (dec_lt n A)
  where
    go : (A ≤ n → count n f ≡ count A f) → Dec (n < A) → count (suc n) f ≡ count A f
    go ih (yes m) = ap (λ (j : ℕ). count j f) (same m)
      where
        same : n < A → suc n ≡ A
        same m = omega arith
    go ih (no d) = rw (not_true_false (f n) (λ e. d (h n (omega arith) e))) (plus_none (count n f) ∙ ih (omega (arith, d)))
      where
        plus_none : (x : ℕ) → x + 0 ≡ x
        plus_none x = omega arith
