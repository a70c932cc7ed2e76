-- Tests on the numbers below n, and rows of n elements.
use Rattle.std.specs.Prelude.{ℕ, zero, suc, ◌+◌, Bool, true, false, cond, ◌&&◌, ◌||◌, List, [], ◌∷◌}

-- every number below n passes
unfoldable pub all : ℕ → (ℕ → Bool) → Bool
all zero f = true
all (suc n) f = all n f && f n

-- some number below n passes
unfoldable pub any : ℕ → (ℕ → Bool) → Bool
any zero f = false
any (suc n) f = any n f || f n

-- how many numbers below n pass
unfoldable pub count : ℕ → (ℕ → Bool) → ℕ
count zero f = 0
count (suc n) f = count n f + cond (f n) 1 0

-- the row f 0, f 1, .. of n elements
unfoldable pub row {ℓ} : {A : Type ℓ} → ℕ → (ℕ → A) → List A
row zero f = []
row (suc n) f = f 0 ∷ row n (λ k. f (suc k))
