-- Laws of runs of zeros.
use Rattle.std.proofs.Common.{get_or, take, drop, get_or-take, get_or-drop, ◌≡◌, ℕ, zero, suc, ◌+◌, ◌-◌, ◌*◌, ◌<◌, ◌≤◌, Bool, true, ◌&&◌, eqb, List, length, sym, ap, ◌∙◌, subst, add-zero, add_assoc, le_antisymm, arith, eq-eqb, eqb-true}
use Rattle.std.proofs.Math.Decide.{dec_lt}
use Rattle.below.proofs.Tests.{all_at, all_same, all_true, same_yes, and_true, and_left, and_right}
use Rattle.below.specs.Below.{all}
use Rattle.words.specs.Bytes.{byte, number4, zero_at}

module _ (bytes : List ℕ) where
  pub zero_at_lem : (n at : ℕ) → zero_at n bytes at ≡ true → (k : ℕ) → k < n → byte bytes (at + k) ≡ 0
  unfolding zero_at
  zero_at_lem n at h k l = eqb-true _ _ (all_at n (λ j. eqb (byte bytes (at + j)) 0) h k l)

  pub zero_true : (n at : ℕ) → ((k : ℕ) → k < n → byte bytes (at + k) ≡ 0) → zero_at n bytes at ≡ true
  unfolding zero_at
  zero_true n at h = all_true n (λ j. eqb (byte bytes (at + j)) 0) (λ k l. eq-eqb _ _ (h k l))

  -- a run as a part of the slice
  pub zero_part : (at n : ℕ) {k : ℕ} → k ≡ n → at + n ≤ length bytes → all n (λ j. eqb (get_or (take k (drop at bytes)) j 0) 0) ≡ zero_at n bytes at
  unfolding zero_at
  zero_part at n {k} e h = all_same n _ _ (λ j l. ap (λ (x : ℕ). eqb x 0) (get_or-take k (drop at bytes) j 0 (omega arith) ∙ get_or-drop at bytes j 0))

  -- a run in two parts
  pub zero_parts : (m n at : ℕ) → zero_at (m + n) bytes at ≡ zero_at m bytes at && zero_at n bytes (at + m)
  zero_parts m n at =
      same_yes (zero_at (m + n) bytes at) (zero_at m bytes at && zero_at n bytes (at + m))
      (λ h. and_true (zero_true m at (λ k l. zero_at_lem (m + n) at h k (omega arith)))
      (zero_true n (at + m) (λ k l. ap (λ (j : ℕ). byte bytes j) (add_assoc at m k) ∙ zero_at_lem (m + n) at h (m + k) (omega arith))))
      (λ h. zero_true (m + n) at (λ k l. one k l h (dec_lt k m)))
    where
      one : (k : ℕ) → k < m + n → zero_at m bytes at && zero_at n bytes (at + m) ≡ true → Dec (k < m) → byte bytes (at + k) ≡ 0
      one k l h (yes b) = zero_at_lem m at (and_left _ _ h) k b
      one k l h (no b) =
          ap (λ (j : ℕ). byte bytes j) (omega (arith, b)) ∙ zero_at_lem n (at + m) (and_right (zero_at m bytes at) _ h) (k - m) (omega (arith, b))

  -- a word is zero exactly if its four bytes are
  pub zero_word : (at : ℕ) → zero_at 4 bytes at ≡ eqb (number4 bytes at) 0
  zero_word at =
      same_yes (zero_at 4 bytes at) (eqb (number4 bytes at) 0)
      (λ h. eq-eqb _ _
      (sum (simp add-zero at (zero_at_lem 4 at h 0 (omega arith))) (zero_at_lem 4 at h 1 (omega arith)) (zero_at_lem 4 at h 2 (omega arith))
      (ap (λ (j : ℕ). byte bytes j) (add_assoc at 2 1) ∙ zero_at_lem 4 at h 3 (omega arith))))
      (λ h. zero_true 4 at (one (eqb-true _ _ h)))
    where
      sum : {a b c d : ℕ} → a ≡ 0 → b ≡ 0 → c ≡ 0 → d ≡ 0 → (a + 256 * b) + 65536 * (c + 256 * d) ≡ 0
      sum p q r s = omega arith

      one : number4 bytes at ≡ 0 → (k : ℕ) → k < 4 → byte bytes (at + k) ≡ 0
      one h zero l = rw add-zero (omega arith)
      one h (suc zero) l = omega arith
      one h (suc (suc zero)) l = omega arith
      one h (suc (suc (suc zero))) l = ap (λ (j : ℕ). byte bytes j) (sym (add_assoc at 2 1)) ∙ omega arith
      one h (suc (suc (suc (suc k)))) l = absurd (omega arith)

  pub zero_start : (at : ℕ) → zero_at 0 bytes at ≡ true
  zero_start at = zero_true 0 at (λ k l. absurd (omega arith))

  -- the loop that sums words: the sum is zero exactly if they are
  pub words_start : (at : ℕ) → eqb 0 0 ≡ zero_at 0 bytes at
  words_start at = sym (zero_start at)

  pub words_turn : (k at total x : ℕ) → eqb total 0 ≡ zero_at (4 * k) bytes at → x ≡ number4 bytes (at + 4 * k) → eqb (total + x) 0 ≡ zero_at (4 * (k + 1)) bytes at
  words_turn k at total x p e =
      sum_zero total x ∙ ap (λ (b : Bool). b && eqb x 0) p ∙ ap (λ (y : ℕ). zero_at (4 * k) bytes at && eqb y 0) e ∙
      ap (λ (b : Bool). zero_at (4 * k) bytes at && b) (sym (zero_word (at + 4 * k))) ∙ sym (zero_parts (4 * k) 4 at) ∙ ap (λ (n : ℕ). zero_at n bytes at) next
    where
      next : 4 * k + 4 ≡ 4 * (k + 1)
      next = omega arith

      sum_zero : (a b : ℕ) → eqb (a + b) 0 ≡ eqb a 0 && eqb b 0
      sum_zero a b =
          same_yes (eqb (a + b) 0) (eqb a 0 && eqb b 0)
          (λ h. let z : a + b ≡ 0 = eqb-true _ _ h in and_true (eq-eqb a 0 (omega arith)) (eq-eqb b 0 (omega arith)))
          (λ h. let y : a ≡ 0 = eqb-true _ _ (and_left (eqb a 0) _ h) in let z : b ≡ 0 = eqb-true _ _ (and_right (eqb a 0) _ h) in eq-eqb (a + b) 0 (omega arith))

  pub words_ends : (n k at total : ℕ) → eqb total 0 ≡ zero_at (4 * k) bytes at → k ≤ n → n ≤ k → eqb total 0 ≡ zero_at (4 * n) bytes at
  words_ends n k at total h a b = subst (λ (m : ℕ). eqb total 0 ≡ zero_at (4 * m) bytes at) (le_antisymm a b) h
