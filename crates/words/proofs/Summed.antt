-- Laws of the check words: one word more, a run of words more, words that agree, words added, and the sums of 126 words by thirds.
use Rattle.std.proofs.Common.{◌≡◌, ℕ, zero, suc, ◌+◌, ◌*◌, ◌/◌, ◌%◌, ◌^◌, ◌<◌, ◌≤◌, List, length, get_or, set, sym, refl, ap, ◌∙◌, subst, add-zero, add-suc, suc-mul, le_antisymm, zero-add, add-one, arith}
use Rattle.std.proofs.Math.Nat.{add-mul-mod_self_right}
use Rattle.below.specs.Below.{row}
use Rattle.below.proofs.Rows.{row_at, filled, filled_more}
use Rattle.words.specs.Bytes.{number4}
use Rattle.words.specs.Sums.{word_of, together, first_sum, second_sum}

-- what was wrapped before an addition need not have been
wrap_left : (a b : ℕ) → (a % 2 ^ 32 + b) % 2 ^ 32 ≡ (a + b) % 2 ^ 32
wrap_left a b = omega arith

wrap_right : (a b : ℕ) → (a + b % 2 ^ 32) % 2 ^ 32 ≡ (a + b) % 2 ^ 32
wrap_right a b = omega arith

wrap : {a b : ℕ} → a ≡ b → a % 2 ^ 32 ≡ b % 2 ^ 32
wrap e = rw e

four_terms : (a b x y : ℕ) → ((a + b) % 2 ^ 32 + (x + y) % 2 ^ 32) % 2 ^ 32 ≡ ((a + x) % 2 ^ 32 + (b + y) % 2 ^ 32) % 2 ^ 32
four_terms a b x y =
    wrap_left (a + b) ((x + y) % 2 ^ 32) ∙ wrap_right (a + b) (x + y) ∙ wrap (omega arith) ∙ sym (wrap_right (a + x) (b + y)) ∙
    sym (wrap_left (a + x) ((b + y) % 2 ^ 32))

module _ (start : ℕ) (word : ℕ → ℕ) where
  pub sums_start : (start ≡ first_sum start 0 word) × (0 ≡ second_sum start 0 word)
  unfolding first_sum second_sum
  sums_start = (refl, refl)

  -- one word more
  pub first_more : {f x r : ℕ} (k : ℕ) → f ≡ first_sum start k word → x ≡ word k → r ≡ (f + x) % 2 ^ 32 → r ≡ first_sum start (k + 1) word
  unfolding first_sum
  first_more k p q e = rw (add-one k, ← p, ← q) e

  pub second_more : {f s r : ℕ} (k : ℕ) → s ≡ second_sum start k word → f ≡ first_sum start (k + 1) word → r ≡ (s + f) % 2 ^ 32 → r ≡ second_sum start (k + 1) word
  unfolding second_sum
  second_more {f} {s} {r} k p q e = rw (add-one k, ← p) (e ∙ ap (λ (x : ℕ). (s + x) % 2 ^ 32) (q ∙ ap (λ (j : ℕ). first_sum start j word) (add-one k)))

  pub sum_end : {f n : ℕ} (k : ℕ) → f ≡ first_sum start k word → k ≤ n → n ≤ k → f ≡ first_sum start n word
  sum_end {f} k p a b = subst (λ (j : ℕ). f ≡ first_sum start j word) (le_antisymm a b) p

  pub sums_end : {f s : ℕ} (k n : ℕ) → f ≡ first_sum start k word → s ≡ second_sum start k word → k ≤ n → n ≤ k → (f ≡ first_sum start n word) × (s ≡ second_sum start n word)
  sums_end {f} {s} k n p q a b = (subst (λ (j : ℕ). f ≡ first_sum start j word) (le_antisymm a b) p, subst (λ (j : ℕ). s ≡ second_sum start j word) (le_antisymm a b) q)

  -- sums are words
  pub first_small : start < 2 ^ 32 → (n : ℕ) → first_sum start n word < 2 ^ 32
  unfolding first_sum
  first_small h zero = h
  first_small h (suc n) = omega arith

  pub second_small : (n : ℕ) → second_sum start n word < 2 ^ 32
  unfolding second_sum
  second_small zero = omega arith
  second_small (suc n) = omega arith

  -- a run of n words more, which were summed by themselves: each of them adds the first sum before them to the second
  pub first_run : (m n : ℕ) → first_sum start m word < 2 ^ 32 → first_sum start (m + n) word ≡ (first_sum start m word + first_sum 0 n (λ k. word (m + k))) % 2 ^ 32
  unfolding first_sum
  first_run m zero h = rw (add-zero m) (omega (arith, h))
  first_run m (suc n) h = rw (add-suc m n) (step _ _ _ _ (first_run m n h))
    where
      step : (a b c x : ℕ) → a ≡ (b + c) % 2 ^ 32 → (a + x) % 2 ^ 32 ≡ (b + (c + x) % 2 ^ 32) % 2 ^ 32
      step a b c x e = rw e (wrap_left (b + c) x ∙ wrap (omega arith) ∙ sym (wrap_right b (c + x)))

  pub second_run : (m n : ℕ) → first_sum start m word < 2 ^ 32 → second_sum start m word < 2 ^ 32 →
      second_sum start (m + n) word ≡ (second_sum start m word + (n * first_sum start m word + second_sum 0 n (λ k. word (m + k)))) % 2 ^ 32
  unfolding second_sum
  second_run m zero f h = rw (add-zero m) (omega (arith, h))
  second_run m (suc n) f h =
      rw (add-suc m n) (step _ _ _ _ _ _ _ _ (suc-mul n (first_sum start m word)) (second_run m n f h) (ap (λ (j : ℕ). first_sum start j word) (sym (add-suc m n)) ∙ first_run m (suc n) f))
    where
      step : (a b c d g p q t : ℕ) → q ≡ p + g → a ≡ (b + (p + c)) % 2 ^ 32 → t ≡ (g + d) % 2 ^ 32 → (a + t) % 2 ^ 32 ≡ (b + (q + (c + d) % 2 ^ 32)) % 2 ^ 32
      step a b c d g p q t e h i =
          rw (h, i, e)
          (wrap_left (b + (p + c)) ((g + d) % 2 ^ 32) ∙ wrap_right (b + (p + c)) (g + d) ∙ wrap (omega arith) ∙ sym (wrap_right (b + (p + g)) (c + d)) ∙
          wrap (omega arith))

module _ (start : ℕ) where
  -- words that agree have the same sums
  pub first_same : (n : ℕ) (v w : ℕ → ℕ) → ((k : ℕ) → k < n → v k ≡ w k) → first_sum start n v ≡ first_sum start n w
  unfolding first_sum
  first_same zero v w h = refl
  first_same (suc n) v w h = rw (first_same n v w (λ k l. h k (omega arith)), h n (omega arith))

  pub second_same : (n : ℕ) (v w : ℕ → ℕ) → ((k : ℕ) → k < n → v k ≡ w k) → second_sum start n v ≡ second_sum start n w
  unfolding second_sum
  second_same zero v w h = refl
  second_same (suc n) v w h = rw (second_same n v w (λ k l. h k (omega arith)), first_same (suc n) v w h)

-- words added word by word have the sums added
module _ (u v : ℕ → ℕ) where
  abbrev added : ℕ → ℕ
  added k = (u k + v k) % 2 ^ 32

  pub first_added : (n : ℕ) → first_sum 0 n added ≡ (first_sum 0 n u + first_sum 0 n v) % 2 ^ 32
  unfolding first_sum
  first_added zero = refl
  first_added (suc n) = go _ _ _ _ _ (first_added n)
    where
      go : (f a b x y : ℕ) → f ≡ (a + b) % 2 ^ 32 → (f + (x + y) % 2 ^ 32) % 2 ^ 32 ≡ ((a + x) % 2 ^ 32 + (b + y) % 2 ^ 32) % 2 ^ 32
      go f a b x y e = rw e (four_terms a b x y)

  pub second_added : (n : ℕ) → second_sum 0 n added ≡ (second_sum 0 n u + second_sum 0 n v) % 2 ^ 32
  unfolding second_sum
  second_added zero = refl
  second_added (suc n) = go _ _ _ _ _ _ (second_added n) (first_added (suc n))
    where
      go : (f g a b x y : ℕ) → f ≡ (a + b) % 2 ^ 32 → g ≡ (x + y) % 2 ^ 32 → (f + g) % 2 ^ 32 ≡ ((a + x) % 2 ^ 32 + (b + y) % 2 ^ 32) % 2 ^ 32
      go f g a b x y e h = rw (e, h) (four_terms a b x y)

-- The sums of 126 words by thirds.
module _ (word : ℕ → ℕ) where
  abbrev third : ℕ → ℕ → ℕ
  third m k = word (m + k)

  -- the first sum before the second third, before the last, and behind it
  pub firsts : {a b c m h f : ℕ} → a ≡ first_sum 0 42 (third 0) → b ≡ first_sum 0 42 (third 42) → c ≡ first_sum 0 42 (third 84) → m ≡ (1 + a) % 2 ^ 32 → h ≡ (m + b) % 2 ^ 32 →
      f ≡ (h + c) % 2 ^ 32 → (m ≡ first_sum 1 42 word) × ((h ≡ first_sum 1 84 word) × (f ≡ first_sum 1 126 word))
  firsts {a} {b} {c} {m} {h} {f} p q r d e g = (m_is, (h_is, f_is))
    where
      next : (n : ℕ) {x y z : ℕ} → x ≡ first_sum 1 n word → y ≡ first_sum 0 42 (third n) → z ≡ (x + y) % 2 ^ 32 → z ≡ first_sum 1 (n + 42) word
      next n i j k = k ∙ sums i j ∙ sym (first_run 1 word n 42 (first_small 1 word (omega arith) n))
        where
          sums : {x y x' y' : ℕ} → x ≡ x' → y ≡ y' → (x + y) % 2 ^ 32 ≡ (x' + y') % 2 ^ 32
          sums s t = rw (s, t)

      m_is : m ≡ first_sum 1 42 word
      m_is = next 0 (sums_start 1 word).0 p d

      h_is : h ≡ first_sum 1 84 word
      h_is = next 42 m_is q e

      f_is : f ≡ first_sum 1 126 word
      f_is = next 84 h_is r g

  -- the second: those first sums, once for each word of their third, and the second sum of the thirds laid together
  pub seconds : {m h t s b i r : ℕ} → m ≡ first_sum 1 42 word → h ≡ first_sum 1 84 word → t ≡ (1 + m) % 2 ^ 32 → s ≡ (t + h) % 2 ^ 32 → b ≡ (s * 42) % 2 ^ 32 →
      i ≡ second_sum 0 42 (together word) → r ≡ (b + i) % 2 ^ 32 → r ≡ second_sum 1 126 word
  seconds {m} {h} {t} {s} {b} {i} p q d e g j k =
      k ∙ parts b_is i_is ∙ wrap_left (42 * (1 + m + h)) ((y0 + y1 + y2) % 2 ^ 32) ∙ wrap_right (42 * (1 + m + h)) (y0 + y1 + y2) ∙ wrap (omega arith) ∙ sym whole
    where
      y0 : ℕ
      y0 = second_sum 0 42 (third 0)

      y1 : ℕ
      y1 = second_sum 0 42 (third 42)

      y2 : ℕ
      y2 = second_sum 0 42 (third 84)

      parts : {x y x' y' : ℕ} → x ≡ x' → y ≡ y' → (x + y) % 2 ^ 32 ≡ (x' + y') % 2 ^ 32
      parts u v = rw (u, v)

      b_is : b ≡ (42 * (1 + m + h)) % 2 ^ 32
      b_is = g ∙ wrap (omega arith) ∙ times s (1 + m + h) (e ∙ ap (λ (x : ℕ). (x + h) % 2 ^ 32) d ∙ wrap_left (1 + m) h)
        where
          times : (x y : ℕ) → x ≡ y % 2 ^ 32 → (42 * x) % 2 ^ 32 ≡ (42 * y) % 2 ^ 32
          times x y z = sym (wrap (omega (arith, z)) ∙ add-mul-mod_self_right (42 * x) (42 * (y / 2 ^ 32)) (2 ^ 32))

      i_is : i ≡ (y0 + y1 + y2) % 2 ^ 32
      i_is =
          j ∙ second_added (λ n. (word n + word (42 + n)) % 2 ^ 32) (third 84) 42 ∙
          ap (λ (x : ℕ). (x + y2) % 2 ^ 32) (second_added word (third 42) 42) ∙ wrap_left (second_sum 0 42 word + y1) y2 ∙
          ap (λ (x : ℕ). (x + y1 + y2) % 2 ^ 32) (second_same 0 42 word (third 0) (λ n l. ap word (sym (zero-add n))))

      run : (n : ℕ) (f : ℕ) → f ≡ first_sum 1 n word → second_sum 1 (n + 42) word ≡ (second_sum 1 n word + (42 * f + second_sum 0 42 (third n))) % 2 ^ 32
      run n f z =
          second_run 1 word n 42 (first_small 1 word (omega arith) n) (second_small 1 word n) ∙
          ap (λ (x : ℕ). (second_sum 1 n word + (42 * x + second_sum 0 42 (third n))) % 2 ^ 32) (sym z)

      whole : second_sum 1 126 word ≡ ((42 * 1 + y0) + (42 * m + y1) + (42 * h + y2)) % 2 ^ 32
      whole =
          run 84 h q ∙ ap (λ (x : ℕ). (x + (42 * h + y2)) % 2 ^ 32) (run 42 m p ∙ ap (λ (x : ℕ). (x + (42 * m + y1)) % 2 ^ 32) (run 0 1 (sums_start 1 word).0 ∙ start)) ∙
          wrap_left ((42 * 1 + y0) % 2 ^ 32 + (42 * m + y1)) (42 * h + y2) ∙ three (42 * 1 + y0) (42 * m + y1) (42 * h + y2)
        where
          start : (second_sum 1 0 word + (42 * 1 + y0)) % 2 ^ 32 ≡ (42 * 1 + y0) % 2 ^ 32
          start = ap (λ (x : ℕ). (x + (42 * 1 + y0)) % 2 ^ 32) (sym (sums_start 1 word).1) ∙ wrap (zero-add (42 * 1 + y0))

          three : (x y z : ℕ) → (x % 2 ^ 32 + y + z) % 2 ^ 32 ≡ (x + y + z) % 2 ^ 32
          three x y z = wrap (omega arith) ∙ wrap_left x (y + z) ∙ wrap (omega arith)

-- The same of bytes, as the code finds them.
module _ (bytes : List ℕ) where
  pub third_at : (at m : ℕ) → at ≡ 4 * m → {a : ℕ} → a ≡ first_sum 0 42 (λ k. number4 bytes (at + 4 * k)) → a ≡ first_sum 0 42 (λ k. word_of bytes (m + k))
  third_at at m e p = p ∙ first_same 0 42 _ _ (λ k l. ap (number4 bytes) (omega (arith, e)))

  pub together_more : (k : ℕ) {words : List ℕ} (old : List ℕ) {l m h t v : ℕ} → words ≡ filled (together (word_of bytes)) k old → k < length old → l ≡ number4 bytes (4 * k) →
      m ≡ number4 bytes (168 + 4 * k) → h ≡ number4 bytes (336 + 4 * k) → t ≡ (l + m) % 2 ^ 32 → v ≡ (t + h) % 2 ^ 32 → set words k v ≡ filled (together (word_of bytes)) (k + 1) old
  together_more k {words} old {l} {m} {h} {t} {v} w b p q r e f = (λ i. set (w i) k (value i)) ∙ filled_more (together (word_of bytes)) k old b
    where
      sums : {x y x' y' : ℕ} → x ≡ x' → y ≡ y' → (x + y) % 2 ^ 32 ≡ (x' + y') % 2 ^ 32
      sums u z = rw (u, z)

      value : v ≡ together (word_of bytes) k
      value = f ∙ sums (e ∙ sums p (q ∙ ap (number4 bytes) (omega arith))) (r ∙ ap (number4 bytes) (omega arith))

  pub together_sum : {words : List ℕ} {i : ℕ} → words ≡ row 42 (together (word_of bytes)) → i ≡ second_sum 0 42 (λ k. get_or words k 0) → i ≡ second_sum 0 42 (together (word_of bytes))
  together_sum {words} w p = p ∙ second_same 0 42 _ _ (λ k l. ap (λ (x : List ℕ). get_or x k 0) w ∙ row_at 42 (together (word_of bytes)) k 0 l)
