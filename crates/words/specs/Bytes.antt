-- Numbers in bytes, runs of zeros, and the one operation that all writing is.
use Rattle.std.specs.Prelude.{◌≡◌, ℕ, ◌+◌, ◌*◌, ◌/◌, ◌%◌, ◌<◌, Bool, List, [], ◌∷◌, ◌++◌, length, take, drop, replicate, nat_eq, slice_index}
use Rattle.below.specs.Below.{all}

-- the byte at a place; 0 past the end, where nothing asks
abbrev pub byte : List ℕ → ℕ → ℕ
byte bytes at = slice_index bytes at

-- every byte is one
abbrev pub Small : List ℕ → Type 0
Small bytes = (k : ℕ) → byte bytes k < 256

-- the little-endian numbers of two and four bytes at a place
abbrev pub number2 : List ℕ → ℕ → ℕ
number2 bytes at = byte bytes at + 256 * byte bytes (at + 1)

abbrev pub number4 : List ℕ → ℕ → ℕ
number4 bytes at = number2 bytes at + 65536 * number2 bytes (at + 2)

-- the bytes of a number
abbrev pub bytes2 : ℕ → List ℕ
bytes2 x = (x % 256) ∷ ((x / 256) ∷ [])

abbrev pub bytes4 : ℕ → List ℕ
bytes4 x = bytes2 (x % 65536) ++ bytes2 (x / 65536)

-- n zeros; and whether the n bytes at a place are
abbrev pub zeros : ℕ → List ℕ
zeros n = replicate n 0

unfoldable pub zero_at : ℕ → List ℕ → ℕ → Bool
zero_at n bytes at = all n (λ k. nat_eq (byte bytes (at + k)) 0)

-- the old bytes with the new ones at a place: what stands before and after them stays
unfoldable pub splice : ℕ → List ℕ → List ℕ → List ℕ
splice at new old = take at old ++ (new ++ drop (at + length new) old)

-- what a function that writes promises of its lent bytes
pub record Spliced (at : ℕ) (new old after : List ℕ) : Type 0 where
  pub is : after ≡ splice at new old
  pub kept : length after ≡ length old
