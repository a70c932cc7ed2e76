-- The n bytes at a place, as a list of length n whatever the surroundings; and lists that agree part by part.
use Rattle.std.proofs.Common.{ℕ, ◌+◌, ◌-◌, ◌<◌, arith, zero-add, ◌≡◌, refl, sym, ap, subst, ◌∙◌, List, ◌++◌, length, take, drop, length-append, take_at, drop_at, get_or-append-add, ext_get_or}
use Rattle.std.proofs.Math.Decide.{dec_lt}
use Rattle.std.proofs.Math.ListN.{get_or-append}
use Rattle.below.specs.Below.{row}
use Rattle.below.proofs.Rows.{length-row, row_at, row_same, row_of_list}
use Rattle.words.specs.Bytes.{byte}

unfoldable pub cut : ℕ → List ℕ → ℕ → List ℕ
cut n bytes at = row n (λ k. byte bytes (at + k))

pub length_cut : (n : ℕ) (bytes : List ℕ) (at : ℕ) → length (cut n bytes at) ≡ n
unfolding cut
length_cut n bytes at = length-row n (λ k. byte bytes (at + k))

pub cut_at : (n : ℕ) (bytes : List ℕ) (at k : ℕ) → k < n → byte (cut n bytes at) k ≡ byte bytes (at + k)
unfolding cut
cut_at n bytes at k l = row_at n (λ j. byte bytes (at + j)) k 0 l

-- two lists of bytes of one length that agree at each place
pub ext : (n : ℕ) (a b : List ℕ) → length a ≡ n → length b ≡ n → ((k : ℕ) → k < n → byte a k ≡ byte b k) → a ≡ b
ext n a b p q h = ext_get_or 0 a b (p ∙ sym q) (λ k l. h k (subst (λ (m : ℕ). k < m) p l))

-- two cuts, one behind the other
pub cut_parts : (m n : ℕ) (bytes : List ℕ) (at : ℕ) → cut (m + n) bytes at ≡ cut m bytes at ++ cut n bytes (at + m)
cut_parts m n bytes at =
    ext (m + n) _ _ (length_cut (m + n) bytes at) both (λ k l. cut_at (m + n) bytes at k l ∙ one k l (dec_lt k m))
  where
    both : length (cut m bytes at ++ cut n bytes (at + m)) ≡ m + n
    both = simp (length-append, length_cut)

    one : (k : ℕ) → k < m + n → Dec (k < m) → byte bytes (at + k) ≡ byte (cut m bytes at ++ cut n bytes (at + m)) k
    one k l (yes b) =
        sym (get_or-append (cut m bytes at) (cut n bytes (at + m)) 0 k (subst (λ (j : ℕ). k < j) (sym (length_cut m bytes at)) b) ∙ cut_at m bytes at k b)
    one k l (no b) =
        ap (λ (j : ℕ). byte bytes j) (omega (arith, b)) ∙ sym (cut_at n bytes (at + m) (k - m) (omega (arith, b))) ∙
        sym (get_or-append-add (cut m bytes at) (cut n bytes (at + m)) (k - m) 0) ∙
        ap (λ (j : ℕ). byte (cut m bytes at ++ cut n bytes (at + m)) j) (ap (λ (j : ℕ). j + (k - m)) (length_cut m bytes at) ∙ omega (arith, b))

-- a byte of what was cut
pub cut_byte : (n : ℕ) (bytes : List ℕ) (at : ℕ) (l : List ℕ) → cut n bytes at ≡ l → (k : ℕ) → k < n → byte bytes (at + k) ≡ byte l k
cut_byte n bytes at l e k b = sym (cut_at n bytes at k b) ∙ ap (λ (x : List ℕ). byte x k) e

-- lists that agree agree in their parts
pub front_same : (a b c d : List ℕ) → length a ≡ length c → a ++ b ≡ c ++ d → a ≡ c
front_same a b c d h e = sym (take_at a b (length c) h) ∙ ap (λ (l : List ℕ). take (length c) l) e ∙ take_at c d (length c) refl

pub rest_same : (a b c d : List ℕ) → length a ≡ length c → a ++ b ≡ c ++ d → b ≡ d
rest_same a b c d h e = sym (drop_at a b (length c) h) ∙ ap (λ (l : List ℕ). drop (length c) l) e ∙ drop_at c d (length c) refl

-- all of a list
pub cut_all : (bytes : List ℕ) → cut (length bytes) bytes 0 ≡ bytes
unfolding cut
cut_all bytes = row_same (length bytes) _ (λ k. byte bytes k) (λ k l. ap (λ (j : ℕ). byte bytes j) (zero-add k)) ∙ row_of_list 0 bytes

-- what stands in the middle of any surroundings
pub cut_middle : (a b c : List ℕ) → cut (length b) (a ++ (b ++ c)) (length a) ≡ b
unfolding cut
cut_middle a b c =
    row_same (length b) _ (λ k. byte b k) (λ k l. get_or-append-add a (b ++ c) k 0 ∙ get_or-append b c 0 k l) ∙ row_of_list 0 b
