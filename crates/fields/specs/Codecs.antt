-- Codecs: how a value stands in bytes. A format is a value; joined formats are joined codecs.
use Rattle.std.specs.Prelude.{ℕ, zero, suc, ◌+◌, ◌*◌, get_or, ◌≡◌, Bool, true, ◌&&◌, List, [], ◌∷◌, ◌++◌}
use Rattle.below.specs.Below.{all, row}
use Rattle.words.specs.Bytes.{byte, number2, number4, bytes2, bytes4}

-- its size, what it writes of a value, what it reads at a place, and whether the bytes there are those that it writes of
-- what it reads (that this test says so is a law, proofs/Lawful.antt)
pub record Codec (A : Type 0) : Type 0 where
  pub size : ℕ
  pub put : A → List ℕ
  pub get : List ℕ → ℕ → A
  pub exact : List ℕ → ℕ → Bool

-- numbers of one, two and four bytes
abbrev pub one_byte : Codec ℕ
one_byte = record { size = 1; put = λ x. x ∷ []; get = λ bytes at. byte bytes at; exact = λ bytes at. true }

abbrev pub two_bytes : Codec ℕ
two_bytes = record { size = 2; put = bytes2; get = number2; exact = λ bytes at. true }

abbrev pub four_bytes : Codec ℕ
four_bytes = record { size = 4; put = bytes4; get = number4; exact = λ bytes at. true }

-- one value, then another
abbrev pub both : {A B : Type 0} → Codec A → Codec B → Codec (A × B)
both c d =
    record {
      size = c.size + d.size;
      put = λ v. c.put v.0 ++ d.put v.1;
      get = λ bytes at. (c.get bytes at, d.get bytes (at + c.size));
      exact = λ bytes at. c.exact bytes at && d.exact bytes (at + c.size);
    }

-- the same bytes for another type of values
abbrev pub like : {A B : Type 0} → (A → B) → (B → A) → Codec B → Codec A
like to from c =
    record { size = c.size; put = λ v. c.put (to v); get = λ bytes at. from (c.get bytes at); exact = λ bytes at. c.exact bytes at }

-- the same for a type with fewer values: of what is read only what passes the test is written so
abbrev pub some : {A B : Type 0} → (A → B) → (B → A) → (B → Bool) → Codec B → Codec A
some to from ok c =
    record {
      size = c.size;
      put = λ v. c.put (to v);
      get = λ bytes at. from (c.get bytes at);
      exact = λ bytes at. c.exact bytes at && ok (c.get bytes at);
    }

-- f 0, f 1, .. to n of them, one behind the other
unfoldable pub run : ℕ → (ℕ → List ℕ) → List ℕ
run zero f = []
run (suc n) f = run n f ++ f n

-- n values of one kind; `past` is what a list has past its end
abbrev pub times : {A : Type 0} → ℕ → A → Codec A → Codec (List A)
times n past c =
    record {
      size = c.size * n;
      put = λ l. run n (λ k. c.put (get_or l k past));
      get = λ bytes at. row n (λ k. c.get bytes (at + c.size * k));
      exact = λ bytes at. all n (λ k. c.exact bytes (at + c.size * k));
    }

-- what a function that reads promises: the value there, and whether its bytes are exact
pub record Got {A : Type 0} (c : Codec A) (bytes : List ℕ) (at : ℕ) (value : A) (exact : Bool) : Type 0 where
  pub is : value ≡ c.get bytes at
  pub tested : exact ≡ c.exact bytes at
