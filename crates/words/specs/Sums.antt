-- The two check words of a block (document 01, 'Blocks').
use Rattle.std.specs.Prelude.{ℕ, zero, suc, ◌+◌, ◌*◌, ◌%◌, ◌^◌, List}
use Rattle.words.specs.Bytes.{number4}

-- first check: start at 1, add every word modulo 2^32. `start` is that 1; a run of words summed by itself starts at 0
unfoldable pub first_sum : ℕ → ℕ → (ℕ → ℕ) → ℕ
first_sum start zero word = start
first_sum start (suc n) word = (first_sum start n word + word n) % 2 ^ 32

-- second: start at 0, after each word add the first sum, modulo 2^32
unfoldable pub second_sum : ℕ → ℕ → (ℕ → ℕ) → ℕ
second_sum start zero word = 0
second_sum start (suc n) word = (second_sum start n word + first_sum start (suc n) word) % 2 ^ 32

-- the words of four bytes, little-endian
abbrev pub word_of : List ℕ → ℕ → ℕ
word_of bytes k = number4 bytes (4 * k)

-- three thirds of 42 words laid together, word by word
abbrev pub together : (ℕ → ℕ) → ℕ → ℕ
together word k = ((word k + word (42 + k)) % 2 ^ 32 + word (84 + k)) % 2 ^ 32

-- both over the 126 words of a block before its check words
abbrev pub words : ℕ
words = 126

abbrev pub first_sum_of : List ℕ → ℕ
first_sum_of bytes = first_sum 1 words (word_of bytes)

abbrev pub second_sum_of : List ℕ → ℕ
second_sum_of bytes = second_sum 1 words (word_of bytes)
