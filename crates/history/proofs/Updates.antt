-- What holds of a function changed at one place: of the new value there, and of the old ones.
use Rattle.std.proofs.Common.{ℕ, ◌≤◌, le_refl, eqb, ◌≡◌, refl, Bool, true, false, cond, ◌&&◌, ◌≢◌, eqb-true, eq-eqb}
use Rattle.below.proofs.Tests.{and_left, and_right}
use Rattle.history.specs.Moves.{put, put₂}

module _ {X : Type 0} where
  pub put_cases : (Q : ℕ → X → Type 0) (f : ℕ → X) (i : ℕ) (x : X) → Q i x → (j : ℕ) → Q j (f j) → Q j (put f i x j)
  unfolding put
  put_cases Q f i x new j old = go (eqb j i) refl
    where
      go : (b : Bool) → eqb j i ≡ b → Q j (cond b x (f j))
      go true e = rw (eqb-true j i e) new
      go false e = old

  pub put₂_cases : (Q : ℕ → ℕ → X → Type 0) (f : ℕ → ℕ → X) (i j : ℕ) (x : X) → Q i j x → (k l : ℕ) → Q k l (f k l) →
      Q k l (put₂ f i j x k l)
  unfolding put₂
  put₂_cases Q f i j x new k l old = go (eqb k i && eqb l j) refl
    where
      go : (b : Bool) → (eqb k i && eqb l j) ≡ b → Q k l (cond b x (f k l))
      go true e = rw (eqb-true k i (and_left (eqb k i) (eqb l j) e), eqb-true l j (and_right (eqb k i) (eqb l j) e)) new
      go false e = old

  pub put_same : (f : ℕ → X) (i : ℕ) (x : X) → put f i x i ≡ x
  unfolding put
  put_same f i x = rw (eq-eqb i i refl)

  pub put_other : (f : ℕ → X) (i : ℕ) (x : X) (j : ℕ) → j ≢ i → put f i x j ≡ f j
  put_other f i x j = put_cases (λ k y. k ≢ i → y ≡ f k) f i x (λ n. absurd (n refl)) j (λ n. refl)

  pub put₂_same : (f : ℕ → ℕ → X) (i j : ℕ) (x : X) → put₂ f i j x i j ≡ x
  unfolding put₂
  put₂_same f i j x = rw (eq-eqb i i refl, eq-eqb j j refl)

  pub put₂_other : (f : ℕ → ℕ → X) (i j : ℕ) (x : X) (k l : ℕ) → ¬ ((k ≡ i) × (l ≡ j)) → put₂ f i j x k l ≡ f k l
  put₂_other f i j x k l =
      put₂_cases (λ a b y. ¬ ((a ≡ i) × (b ≡ j)) → y ≡ f a b) f i j x (λ n. absurd (n (refl, refl))) k l (λ n. refl)

-- a number that is raised at one place
pub put_raises : (f : ℕ → ℕ) (i x : ℕ) → f i ≤ x → (j : ℕ) → f j ≤ put f i x j
put_raises f i x l j = put_cases (λ k y. f k ≤ y) f i x l j (le_refl (f j))
