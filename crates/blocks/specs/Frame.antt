-- What stands around the body of every block (document 01, 'Blocks').
use Rattle.std.specs.Prelude.{ℕ, ◌+◌, ◌-◌, eqb, length, ◌≡◌, Bool, ◌&&◌, List, [], ◌∷◌, ◌++◌}
use Rattle.rounds.specs.declared.setup.Setup.{Setup}
use Rattle.rounds.specs.Setups.{setup_of}
use Rattle.records.specs.declared.stamp.Stamp.{Stamp}
use Rattle.words.specs.Bytes.{byte, number4, bytes4, zeros, zero_at, splice}
use Rattle.words.specs.Sums.{first_sum_of, second_sum_of}
use Rattle.fields.specs.Codecs.{Codec, one_byte, two_bytes, both, like}

-- a block, its words before the check words, and where its body begins
abbrev pub block_size : ℕ
block_size = 512

abbrev pub words_end : ℕ
words_end = 504

abbrev pub body_at : ℕ
body_at = 10

-- a byte that is always the same, and a run of zeros: they hold no value
abbrev pub fixed : ℕ → Codec (Unit {0})
fixed x = record { size = 1; put = λ u. x ∷ []; get = λ bytes at. tt; exact = λ bytes at. eqb (byte bytes at) x }

abbrev pub zero_run : ℕ → Codec (Unit {0})
zero_run n = record { size = n; put = λ u. zeros n; get = λ bytes at. tt; exact = λ bytes at. zero_at n bytes at }

abbrev pub setup_bytes : Setup → List ℕ
setup_bytes s = s.racks ∷ (s.boxes ∷ (s.coordinators ∷ (s.readers ∷ (s.c0 ∷ (s.cf0 ∷ [])))))

-- bytes 0-1 instance, 2 kind, 3 P, 4 A, 5 C, 6 L, 7 c0, 8 cf0, 9 agent
abbrev pub stamp_as : ℕ → Codec Stamp
stamp_as kind =
    like
    (λ s. (s.instance.0, (tt, (s.setup.racks, (s.setup.boxes, (s.setup.coordinators, (s.setup.readers, (s.setup.c0, (s.setup.cf0, s.agent)))))))))
    (λ p. record {
      instance = record { 0 = p.0 };
      setup = setup_of p.1.1.0 p.1.1.1.0 p.1.1.1.1.0 p.1.1.1.1.1.0 p.1.1.1.1.1.1.0 p.1.1.1.1.1.1.1.0;
      agent = p.1.1.1.1.1.1.1.1;
    })
    (both two_bytes (both (fixed kind) (both one_byte (both one_byte (both one_byte (both one_byte (both one_byte (both one_byte one_byte))))))))

-- the kind's number, zeros from the body's end on, and the check words of the words before them
unfoldable pub framed : ℕ → ℕ → List ℕ → Bool
framed kind end bytes =
    (eqb (byte bytes 2) kind && zero_at (words_end - end) bytes end) &&
    (eqb (number4 bytes words_end) (first_sum_of bytes) && eqb (number4 bytes (words_end + 4)) (second_sum_of bytes))

-- the check words behind the words that they are the sums of
abbrev pub checks : List ℕ → List ℕ
checks words = bytes4 (first_sum_of words) ++ bytes4 (second_sum_of words)

-- zeros from the body's end on, then the check words
unfoldable pub sealed : ℕ → List ℕ → List ℕ
sealed end bytes = splice words_end (checks (splice end (zeros (words_end - end)) bytes)) (splice end (zeros (words_end - end)) bytes)

-- what sealing promises of its lent bytes
pub record Sealed (end : ℕ) (old after : List ℕ) : Type 0 where
  pub is : after ≡ sealed end old
  pub kept : length after ≡ length old
