-- What a line of a rehearsal says (document 01, 'Rehearsal'): seven decimals up to 4,294,967,295, one space between fields.
use Rattle.std.specs.Prelude.{ℕ, ◌+◌, ◌*◌, ◌-◌, ◌^◌, leb, ltb, eqb, length, Bool, true, false, cond, ◌&&◌, Option, Some, None, List, [], ◌∷◌, map}

abbrev pub space : ℕ
space = 32

abbrev pub line_feed : ℕ
line_feed = 10

abbrev pub fields_of_line : ℕ
fields_of_line = 7

abbrev pub largest : ℕ
largest = 4294967295

-- every element passes
unfoldable pub every : {A : Type 0} → (A → Bool) → List A → Bool
every test [] = true
every test (x ∷ later) = test x && every test later

-- one byte more in front of the first part
unfoldable pub in_front : ℕ → List (List ℕ) → List (List ℕ)
in_front b [] = (b ∷ []) ∷ []
in_front b (part ∷ later) = (b ∷ part) ∷ later

-- the fields of a line: what stands before, between and after its spaces
unfoldable pub fields_of : List ℕ → List (List ℕ)
fields_of [] = [] ∷ []
fields_of (b ∷ later) = cond (eqb b space) ([] ∷ fields_of later) (in_front b (fields_of later))

-- what stands before the first LF
unfoldable pub before_lf : List ℕ → List ℕ
before_lf [] = []
before_lf (b ∷ later) = cond (eqb b line_feed) [] (b ∷ before_lf later)

-- '0' to '9'
abbrev pub is_digit : ℕ → Bool
is_digit b = leb 48 b && leb b 57

-- what digits say, the highest first
unfoldable pub value_of : List ℕ → ℕ
value_of [] = 0
value_of (b ∷ later) = (b - 48) * 10 ^ length later + value_of later

-- a decimal: one digit or more, as many leading zeros as may be, and a value that fits
abbrev pub is_decimal : List ℕ → Bool
is_decimal field = ltb 0 (length field) && (every is_digit field && leb (value_of field) largest)

abbrev pub is_readable : List (List ℕ) → Bool
is_readable fields = eqb (length fields) fields_of_line && every is_decimal fields

-- the seven numbers, or that it isn't seven decimals
abbrev pub answer_of : Bool → List ℕ → Option (List ℕ)
answer_of true numbers = Some numbers
answer_of false numbers = None

unfoldable pub numbers_of : List ℕ → Option (List ℕ)
numbers_of line = answer_of (is_readable (fields_of line)) (map value_of (fields_of line))
