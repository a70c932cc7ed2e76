-- Laws of sets of racks as bits, and of the loop that builds one from the highest rack down.
use Rattle.std.proofs.Common.{ℕ, zero, suc, ◌+◌, ◌-◌, ◌*◌, ◌/◌, ◌%◌, ◌^◌, ◌≤◌, ◌<◌, arith, div-one, mod-eq_of_lt, add-zero, zero-add, eqb, pow_mono, ◌≡◌, refl, sym, ap, ◌∙◌, Bool, true, false, cond}
use Rattle.std.proofs.Math.Nat.{div-div-eq-div-mul, div-eq_of_lt, pow-succ', sub_self, sub-zero}
use Rattle.pages.specs.Racks.{has, set_of, outside}

-- a bit is 0 or 1, and twice the rest does not touch it
bit_low : (b : Bool) (m : ℕ) → (cond b 1 0 + 2 * m) % 2 ≡ cond b 1 0
bit_low true m = omega arith
bit_low false m = omega arith

bit_rest : (b : Bool) (m : ℕ) → (cond b 1 0 + 2 * m) / 2 ≡ m
bit_rest true m = omega arith
bit_rest false m = omega arith

bit_is : (b : Bool) → eqb (cond b 1 0) 1 ≡ b
bit_is true = refl
bit_is false = refl

-- rack suc k of a set is rack k of half of it
has_half : (s k : ℕ) → has s (suc k) ≡ has (s / 2) k
has_half s k = ap (λ (x : ℕ). eqb (x % 2) 1) (ap (λ (x : ℕ). s / x) (pow-succ' 2 k) ∙ sym (div-div-eq-div-mul s 2 (2 ^ k)))

-- the racks of the built set are those that pass
pub has_set_of : (n : ℕ) (f : ℕ → Bool) (k : ℕ) → k < n → has (set_of n f) k ≡ f k
unfolding set_of
has_set_of zero f k l = absurd (omega arith)
has_set_of (suc n) f zero l =
    ap (λ (x : ℕ). eqb (x % 2) 1) (div-one (set_of (suc n) f)) ∙ ap (λ (x : ℕ). eqb x 1) (bit_low (f 0) (set_of n (λ j. f (suc j)))) ∙ bit_is (f 0)
has_set_of (suc n) f (suc k) l =
    has_half (set_of (suc n) f) k ∙ ap (λ (x : ℕ). has x k) (bit_rest (f 0) (set_of n (λ j. f (suc j)))) ∙ has_set_of n (λ j. f (suc j)) k (omega arith)

pub set_of_below : (n : ℕ) (f : ℕ → Bool) → set_of n f < 2 ^ n
unfolding set_of
set_of_below zero f = omega arith
set_of_below (suc n) f = rw pow-succ' (go (f 0) (set_of_below n (λ k. f (suc k))))
  where
    go : (b : Bool) → set_of n (λ k. f (suc k)) < 2 ^ n → cond b 1 0 + 2 * set_of n (λ k. f (suc k)) < 2 * 2 ^ n
    go true h = omega arith
    go false h = omega arith

pub set_of_same : (n : ℕ) (f g : ℕ → Bool) → ((k : ℕ) → k < n → f k ≡ g k) → set_of n f ≡ set_of n g
unfolding set_of
set_of_same zero f g h = refl
set_of_same (suc n) f g h = rw (h 0 (omega arith), set_of_same n (λ k. f (suc k)) (λ k. g (suc k)) (λ k l. h (suc k) (omega arith)))

-- a byte has no rack from 8 on
pub has_past : (s k : ℕ) → s < 256 → 8 ≤ k → has s k ≡ false
has_past s k a b = ap (λ (x : ℕ). eqb (x % 2) 1) (div-eq_of_lt {n = s} {m = 2 ^ k} (omega (arith, pow_mono {i = 8} {j = k} b)))

-- The loop that builds `set_of n f`, a rack at a time from the highest down: its invariant is `(k ≤ n) × (set ≡ set_from n f k)`.
unfoldable pub set_from : ℕ → (ℕ → Bool) → ℕ → ℕ
set_from n f k = set_of (n - k) (λ j. f (k + j))

pub set_start : (n : ℕ) (f : ℕ → Bool) → 0 ≡ set_from n f n
unfolding set_from set_of
set_start n f = rw sub_self

pub set_more : (n k s : ℕ) (f : ℕ → Bool) → n ≤ 8 → 0 < k → k ≤ n → s ≡ set_from n f k → cond (f (k - 1)) 1 0 + 2 * (s % 128) ≡ set_from n f (k - 1)
unfolding set_from set_of
set_more n k s f a b c h = ap (λ (x : ℕ). cond (f (k - 1)) 1 0 + 2 * x) low ∙ sym up
  where
    low : s % 128 ≡ set_of (n - k) (λ j. f (k + j))
    low =
        mod-eq_of_lt {n = s} {m = 128}
        (omega (arith, h, set_of_below (n - k) (λ j. f (k + j)), pow_mono {i = n - k} {j = 7} (omega arith))) ∙
        h

    up : set_of (n - (k - 1)) (λ j. f (k - 1 + j)) ≡ cond (f (k - 1)) 1 0 + 2 * set_of (n - k) (λ j. f (k + j))
    up =
        ap (λ (m : ℕ). set_of m (λ j. f (k - 1 + j))) one_more ∙
        (rw add-zero
        (ap (λ (x : ℕ). cond (f (k - 1)) 1 0 + 2 * x)
        (set_of_same (n - k) (λ j. f (k - 1 + suc j)) (λ j. f (k + j)) (λ j l. ap f (shift j)))))
      where
        one_more : n - (k - 1) ≡ suc (n - k)
        one_more = omega arith

        shift : (j : ℕ) → k - 1 + suc j ≡ k + j
        shift j = omega arith

pub set_ends : (n k s : ℕ) (f : ℕ → Bool) → s ≡ set_from n f k → k ≤ 0 → s ≡ set_of n f
unfolding set_from
set_ends n k s f h l = h ∙ rw (none, sub-zero) (set_of_same n (λ j. f (0 + j)) f (λ j m. rw zero-add))
  where
    none : k ≡ 0
    none = omega arith

-- one turn of the loop of `outside`
pub outside_more : (cf racks k s : ℕ) (b : Bool) {t : ℕ} → b ≡ outside cf racks (k - 1) → t ≡ cond b 1 0 + 2 * (s % 128) → 0 < k → k ≤ 8 →
    s ≡ set_from 8 (outside cf racks) k → t ≡ set_from 8 (outside cf racks) (k - 1)
outside_more cf racks k s b e d p q h = d ∙ rw e (set_more 8 k s (outside cf racks) (omega arith) p q h)
