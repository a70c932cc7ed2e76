-- Laws of `all` and `any`, and of the loop that computes `any`.
use Rattle.std.proofs.Common.{ℕ, zero, suc, ◌<◌, arith, ◌≡◌, refl, sym, subst, ◌∙◌, Bool, true, false, cond, ◌&&◌, ◌||◌, true≢false, ◌⊎◌, inl, inr, ⊎_elim}
use Rattle.std.proofs.Math.Bool.{false≢true}
use Rattle.std.proofs.Math.Decide.{ℕ_discrete}
use Rattle.below.specs.Below.{all, any}

-- `&&` and `||` by the values of their parts
pub and_true : {a b : Bool} → a ≡ true → b ≡ true → a && b ≡ true
and_true p q = rw (p, q)

pub and_left : (a b : Bool) → a && b ≡ true → a ≡ true
and_left true b h = refl
and_left false b h = h

pub and_right : (a b : Bool) → a && b ≡ true → b ≡ true
and_right true b h = h
and_right false b h = absurd (false≢true h)

pub and_false_right : {b : Bool} (a : Bool) → b ≡ false → a && b ≡ false
and_false_right true h = h
and_false_right false h = refl

pub and_false_left : {a : Bool} (b : Bool) → a ≡ false → a && b ≡ false
and_false_left b h = rw h

pub or_true_right : {b : Bool} (a : Bool) → b ≡ true → a || b ≡ true
or_true_right true h = refl
or_true_right false h = h

pub or_true_left : {a : Bool} (b : Bool) → a ≡ true → a || b ≡ true
or_true_left b h = rw h

pub or_false : {a b : Bool} → a ≡ false → b ≡ false → a || b ≡ false
or_false p q = rw (p, q)

pub or_cases : (a b : Bool) → a || b ≡ true → (a ≡ true) ⊎ (b ≡ true)
or_cases true b h = inl refl
or_cases false b h = inr h

-- what a branch on a test that stands for `a` picks
pub and_yes : {r a b s : Bool} → r ≡ a → r ≡ true → s ≡ b → s ≡ a && b
and_yes e h d = rw (← e, h) d

pub pick_yes {ℓ} : {A : Type ℓ} {r b : Bool} {x z : A} (y : A) → r ≡ b → r ≡ true → z ≡ x → z ≡ cond b x y
pick_yes y e h d = rw (← e, h) d

pub pick_no {ℓ} : {A : Type ℓ} {r b : Bool} {y z : A} (x : A) → r ≡ b → r ≡ false → z ≡ y → z ≡ cond b x y
pick_no x e h d = rw (← e, h) d

-- a test is true or false
pub decided : (b : Bool) → (b ≡ true) ⊎ (b ≡ false)
decided true = inl refl
decided false = inr refl

-- a test that is not false is true, and the other way round
pub not_false_true : (b : Bool) → (b ≡ false → ⊥) → b ≡ true
not_false_true true h = refl
not_false_true false h = absurd (h refl)

pub not_true_false : (b : Bool) → (b ≡ true → ⊥) → b ≡ false
not_true_false true h = absurd (h refl)
not_true_false false h = refl

-- two tests with the same yes are the same test
pub same_yes : (a b : Bool) → (a ≡ true → b ≡ true) → (b ≡ true → a ≡ true) → a ≡ b
same_yes true b p q = sym (p refl)
same_yes false true p q = q refl
same_yes false false p q = refl

-- a number below suc n is n or below n
pub below_suc : {k n : ℕ} → k < suc n → (k ≡ n) ⊎ (k < n)
below_suc {k} {n} h = go (ℕ_discrete k n)
  where
    go : Dec (k ≡ n) → (k ≡ n) ⊎ (k < n)
    go (yes e) = inl e
    go (no d) = inr (omega (arith, d))

-- all: what each number below n passes
pub all_at : (n : ℕ) (f : ℕ → Bool) → all n f ≡ true → (k : ℕ) → k < n → f k ≡ true
unfolding all
all_at zero f h k l = absurd (omega arith)
all_at (suc n) f h k l = ⊎_elim (λ e. rw e (and_right (all n f) (f n) h)) (λ m. all_at n f (and_left (all n f) (f n) h) k m) (below_suc l)

pub all_true : (n : ℕ) (f : ℕ → Bool) → ((k : ℕ) → k < n → f k ≡ true) → all n f ≡ true
unfolding all
all_true zero f h = refl
all_true (suc n) f h = and_true (all_true n f (λ k l. h k (omega arith))) (h n (omega arith))

-- what is found below n is found below suc n
pub found_up : {n : ℕ} {Q : ℕ → Type 0} → (k : ℕ) × (k < n) × Q k → (k : ℕ) × (k < suc n) × Q k
found_up {n} w = let l : w.0 < n = w.1 in (w.0, omega arith, w.2)

-- any: which number below n passes
pub any_at : (n : ℕ) (f : ℕ → Bool) → any n f ≡ true → (k : ℕ) × (k < n) × (f k ≡ true)
unfolding any
any_at zero f h = absurd (false≢true h)
any_at (suc n) f h = ⊎_elim (λ e. found_up (any_at n f e)) (λ e. (n, omega arith, e)) (or_cases (any n f) (f n) h)

pub any_true : (n : ℕ) (f : ℕ → Bool) (k : ℕ) → k < n → f k ≡ true → any n f ≡ true
unfolding any
any_true zero f k l h = absurd (omega arith)
any_true (suc n) f k l h =
    ⊎_elim (λ e. or_true_right (any n f) (subst (λ (j : ℕ). f j ≡ true) e h)) (λ m. or_true_left (f n) (any_true n f k m h)) (below_suc l)

pub any_false : (n : ℕ) (f : ℕ → Bool) → ((k : ℕ) → k < n → f k ≡ false) → any n f ≡ false
unfolding any
any_false zero f h = refl
any_false (suc n) f h = or_false (any_false n f (λ k l. h k (omega arith))) (h n (omega arith))

pub any_none : (n : ℕ) (f : ℕ → Bool) → any n f ≡ false → (k : ℕ) → k < n → f k ≡ false
any_none n f h k l = not_true_false (f k) (λ e. true≢false (sym (any_true n f k l e) ∙ h))

-- all fails exactly where some number fails
pub all_fails : (n : ℕ) (f : ℕ → Bool) → all n f ≡ false → (k : ℕ) × (k < n) × (f k ≡ false)
unfolding all
all_fails zero f h = absurd (true≢false h)
all_fails (suc n) f h =
    ⊎_elim (λ e. found_up (all_fails n f (not_true_false (all n f) (λ a. true≢false (sym (and_true a e) ∙ h))))) (λ e. (n, omega arith, e))
    (decided (f n))

-- tests that agree below n
pub all_same : (n : ℕ) (f g : ℕ → Bool) → ((k : ℕ) → k < n → f k ≡ g k) → all n f ≡ all n g
unfolding all
all_same zero f g h = refl
all_same (suc n) f g h = rw (all_same n f g (λ k l. h k (omega arith)), h n (omega arith))

pub any_same : (n : ℕ) (f g : ℕ → Bool) → ((k : ℕ) → k < n → f k ≡ g k) → any n f ≡ any n g
unfolding any
any_same zero f g h = refl
any_same (suc n) f g h = rw (any_same n f g (λ k l. h k (omega arith)), h n (omega arith))

-- where nothing was looked at
pub any_start : (f : ℕ → Bool) → any 0 f ≡ false
unfolding any
any_start f = refl
