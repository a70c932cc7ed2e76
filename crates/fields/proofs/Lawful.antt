-- What a codec promises, and that joined codecs promise it.
use Rattle.std.proofs.Common.{ℕ, zero, suc, ◌+◌, ◌*◌, ◌/◌, ◌%◌, ◌-◌, ◌<◌, arith, add-zero, ◌≡◌, refl, sym, ap, subst, ◌∙◌, Bool, true, ◌&&◌, List, [], ◌∷◌, ◌++◌, length, length-append, get_or-append-add}
use Rattle.std.proofs.Math.ListN.{get_or-append}
use Rattle.std.proofs.Math.Decide.{dec_lt}
use Rattle.below.specs.Below.{row}
use Rattle.below.proofs.Tests.{and_true, and_left, and_right}
use Rattle.words.specs.Bytes.{byte, Small, bytes2}
use Rattle.fields.specs.Codecs.{Codec, one_byte, two_bytes, four_bytes, both, like, some}
use Rattle.fields.proofs.Cuts.{cut, length_cut, cut_parts, cut_byte, front_same, rest_same}

-- of values that fit: it writes its size, in bytes; what it reads fits; what it wrote is read back, at any place in any
-- surroundings; and its test says whether the bytes at a place are what it writes of what it reads
pub record Lawful {A : Type 0} (c : Codec A) (Fits : A → Type 0) : Type 0 where
  pub long : (v : A) → length (c.put v) ≡ c.size
  pub small : (v : A) → Fits v → Small (c.put v)
  pub fit : (bytes : List ℕ) → Small bytes → (at : ℕ) → Fits (c.get bytes at)
  pub back : (v : A) → Fits v → (bytes : List ℕ) (at : ℕ) → cut c.size bytes at ≡ c.put v → c.get bytes at ≡ v
  pub exact_cut : (bytes : List ℕ) → Small bytes → (at : ℕ) → c.exact bytes at ≡ true → cut c.size bytes at ≡ c.put (c.get bytes at)
  pub cut_exact : (bytes : List ℕ) → Small bytes → (at : ℕ) → cut c.size bytes at ≡ c.put (c.get bytes at) → c.exact bytes at ≡ true

-- the bytes of two lists that are joined
pub small_join : (a b : List ℕ) → Small a → Small b → Small (a ++ b)
small_join a b p q k = go (dec_lt k (length a))
  where
    go : Dec (k < length a) → byte (a ++ b) k < 256
    go (yes l) = subst (λ (x : ℕ). x < 256) (sym (get_or-append a b 0 k l)) (p k)
    go (no l) = subst (λ (x : ℕ). x < 256) (sym (get_or-append-add a b (k - length a) 0) ∙ ap (λ (j : ℕ). byte (a ++ b) j) (omega (arith, l))) (q (k - length a))

pub one_lawful : Lawful one_byte (λ x. x < 256)
unfolding cut row
one_lawful =
    record {
      long = λ v. refl;
      small = λ v h. bytes_of v h;
      fit = λ bytes h at. h at;
      back = λ v h bytes at e. ap (λ (j : ℕ). byte bytes j) (sym (add-zero at)) ∙ cut_byte 1 bytes at (v ∷ []) e 0 (omega arith);
      exact_cut = λ bytes h at e. ap (λ (j : ℕ). byte bytes j ∷ []) (add-zero at);
      cut_exact = λ bytes h at e. refl;
    }
  where
    bytes_of : (v : ℕ) → v < 256 → (k : ℕ) → byte (v ∷ []) k < 256
    bytes_of v h zero = h
    bytes_of v h (suc k) = omega arith

pub two_lawful : Lawful two_bytes (λ x. x < 65536)
unfolding cut row
two_lawful =
    record {
      long = λ v. refl;
      small = λ v h. bytes_of v h;
      fit = λ bytes h at. number (h at) (h (at + 1));
      back = λ v h bytes at e. joined (ap (λ (j : ℕ). byte bytes j) (sym (add-zero at)) ∙ cut_byte 2 bytes at (bytes2 v) e 0 (omega arith)) (cut_byte 2 bytes at (bytes2 v) e 1 (omega arith));
      exact_cut = λ bytes h at e. ap (λ (j : ℕ). byte bytes j ∷ (byte bytes (at + 1) ∷ [])) (add-zero at) ∙ parts (h at);
      cut_exact = λ bytes h at e. refl;
    }
  where
    bytes_of : (v : ℕ) → v < 65536 → (k : ℕ) → byte (bytes2 v) k < 256
    bytes_of v h zero = omega arith
    bytes_of v h (suc zero) = omega arith
    bytes_of v h (suc (suc k)) = omega arith

    number : {a b : ℕ} → a < 256 → b < 256 → a + 256 * b < 65536
    number p q = omega arith

    joined : {a b v : ℕ} → a ≡ v % 256 → b ≡ v / 256 → a + 256 * b ≡ v
    joined p q = omega arith

    low : (a b : ℕ) → a < 256 → a ≡ (a + 256 * b) % 256
    low a b h = omega arith

    high : (a b : ℕ) → a < 256 → b ≡ (a + 256 * b) / 256
    high a b h = omega arith

    parts : {a b : ℕ} → a < 256 → a ∷ (b ∷ []) ≡ bytes2 (a + 256 * b)
    parts {a} {b} h = λ i. low a b h i ∷ (high a b h i ∷ [])

module _ {A B : Type 0} (c : Codec A) (d : Codec B) (P : A → Type 0) (Q : B → Type 0) (p : Lawful c P) (q : Lawful d Q) where
  pub both_lawful : Lawful (both c d) (λ v. P v.0 × Q v.1)
  both_lawful =
      record {
        long = λ v. length-append (c.put v.0) (d.put v.1) ∙ sizes (p.long v.0) (q.long v.1);
        small = λ v h. small_join (c.put v.0) (d.put v.1) (p.small v.0 h.0) (q.small v.1 h.1);
        fit = λ bytes h at. (p.fit bytes h at, q.fit bytes h (at + c.size));
        back = λ v h bytes at e. λ i. (p.back v.0 h.0 bytes at (front v bytes at e) i, q.back v.1 h.1 bytes (at + c.size) (rest v bytes at e) i);
        exact_cut = λ bytes h at e. cut_parts c.size d.size bytes at ∙
            joined (p.exact_cut bytes h at (and_left (c.exact bytes at) _ e)) (q.exact_cut bytes h (at + c.size) (and_right (c.exact bytes at) _ e));
        cut_exact = λ bytes h at e. and_true (p.cut_exact bytes h at (front ((both c d).get bytes at) bytes at e)) (q.cut_exact bytes h (at + c.size) (rest ((both c d).get bytes at) bytes at e));
      }
    where
      sizes : {a b m n : ℕ} → a ≡ m → b ≡ n → a + b ≡ m + n
      sizes e f = rw (e, f)

      joined : {a b x y : List ℕ} → a ≡ x → b ≡ y → a ++ b ≡ x ++ y
      joined e f = rw (e, f)

      front : (v : A × B) (bytes : List ℕ) (at : ℕ) → cut (c.size + d.size) bytes at ≡ c.put v.0 ++ d.put v.1 → cut c.size bytes at ≡ c.put v.0
      front v bytes at e = front_same (cut c.size bytes at) (cut d.size bytes (at + c.size)) (c.put v.0) (d.put v.1) (length_cut c.size bytes at ∙ sym (p.long v.0)) (sym (cut_parts c.size d.size bytes at) ∙ e)

      rest : (v : A × B) (bytes : List ℕ) (at : ℕ) → cut (c.size + d.size) bytes at ≡ c.put v.0 ++ d.put v.1 → cut d.size bytes (at + c.size) ≡ d.put v.1
      rest v bytes at e = rest_same (cut c.size bytes at) (cut d.size bytes (at + c.size)) (c.put v.0) (d.put v.1) (length_cut c.size bytes at ∙ sym (p.long v.0)) (sym (cut_parts c.size d.size bytes at) ∙ e)

-- the same bytes for another type of values, whose fitting values are those of the first
module _ {A B : Type 0} (to : A → B) (from : B → A) (c : Codec B) (P : A → Type 0) (Q : B → Type 0) (q : Lawful c Q)
    (fits : (v : A) → P v → Q (to v)) (fitting : (w : B) → Q w → P (from w)) (there : (v : A) → P v → from (to v) ≡ v) where
  pub like_lawful : ((w : B) → Q w → to (from w) ≡ w) → Lawful (like to from c) P
  like_lawful again =
      record {
        long = λ v. q.long (to v);
        small = λ v h. q.small (to v) (fits v h);
        fit = λ bytes h at. fitting (c.get bytes at) (q.fit bytes h at);
        back = λ v h bytes at e. ap from (q.back (to v) (fits v h) bytes at e) ∙ there v h;
        exact_cut = λ bytes h at e. q.exact_cut bytes h at e ∙ ap c.put (sym (again (c.get bytes at) (q.fit bytes h at)));
        cut_exact = λ bytes h at e. q.cut_exact bytes h at (e ∙ ap c.put (again (c.get bytes at) (q.fit bytes h at)));
      }

  -- for a type with fewer values: the test says which of what is read comes from one
  pub some_lawful : (ok : B → Bool) → ((w : B) → Q w → ok w ≡ true → to (from w) ≡ w) → ((w : B) → to (from w) ≡ w → ok w ≡ true) → Lawful (some to from ok c) P
  some_lawful ok again tested =
      record {
        long = λ v. q.long (to v);
        small = λ v h. q.small (to v) (fits v h);
        fit = λ bytes h at. fitting (c.get bytes at) (q.fit bytes h at);
        back = λ v h bytes at e. ap from (q.back (to v) (fits v h) bytes at e) ∙ there v h;
        exact_cut = λ bytes h at e. q.exact_cut bytes h at (and_left (c.exact bytes at) _ e) ∙
            ap c.put (sym (again (c.get bytes at) (q.fit bytes h at) (and_right (c.exact bytes at) _ e)));
        cut_exact = λ bytes h at e. back_again bytes h at e
            (q.back (to (from (c.get bytes at))) (fits _ (fitting (c.get bytes at) (q.fit bytes h at))) bytes at e);
      }
    where
      back_again : (bytes : List ℕ) → Small bytes → (at : ℕ) → cut c.size bytes at ≡ c.put (to (from (c.get bytes at))) →
          c.get bytes at ≡ to (from (c.get bytes at)) → c.exact bytes at && ok (c.get bytes at) ≡ true
      back_again bytes h at e r = and_true (q.cut_exact bytes h at (e ∙ ap c.put (sym r))) (tested (c.get bytes at) (sym r))

pub four_lawful : Lawful four_bytes (λ x. x < 4294967296)
four_lawful =
    like_lawful (λ x. (x % 65536, x / 65536)) (λ p. p.0 + 65536 * p.1) (both two_bytes two_bytes) (λ x. x < 4294967296) (λ p. (p.0 < 65536) × (p.1 < 65536))
    (both_lawful two_bytes two_bytes (λ x. x < 65536) (λ x. x < 65536) two_lawful two_lawful)
    (λ v h. (omega arith, omega arith)) (λ w h. number h.0 h.1) (λ v h. omega arith) (λ w h i. (low w.0 w.1 h.0 i, high w.0 w.1 h.0 i))
  where
    number : {a b : ℕ} → a < 65536 → b < 65536 → a + 65536 * b < 4294967296
    number p q = omega arith

    low : (a b : ℕ) → a < 65536 → (a + 65536 * b) % 65536 ≡ a
    low a b h = omega arith

    high : (a b : ℕ) → a < 65536 → (a + 65536 * b) / 65536 ≡ b
    high a b h = omega arith
