-- The lines that a rehearsal prints.
use Rattle.std.specs.Prelude.{ℕ, zero, suc, ◌+◌, ◌/◌, ◌%◌, leb, ltb, length, ◌≡◌, cond, List, [], ◌∷◌, ◌++◌}
use Rattle.pages.specs.declared.line.Mark.{Mark}
use Rattle.pages.specs.declared.line.Mark.TheVariants.{Absent, Nil, Reading as reads}
use Rattle.words.specs.Bytes.{splice, Spliced}
use Rattle.lines.specs.Fields.{space, line_feed}

-- a number of at most k digits, the highest first and none of them a leading zero
unfoldable pub decimal_by : ℕ → ℕ → List ℕ
decimal_by zero n = []
decimal_by (suc k) n = cond (ltb n 10) ((48 + n) ∷ []) (decimal_by k (n / 10) ++ ((48 + n % 10) ∷ []))

-- a 32-bit number has at most ten
abbrev pub decimal : ℕ → List ℕ
decimal n = decimal_by 10 n

-- a number and the space behind it
abbrev pub field_text : ℕ → List ℕ
field_text n = decimal n ++ (space ∷ [])

-- the refusal number and the message count
unfoldable pub answer_text : ℕ → ℕ → List ℕ
answer_text refusal count = field_text refusal ++ decimal count ++ (line_feed ∷ [])

-- "?"
abbrev pub unreadable_text : List ℕ
unreadable_text = 63 ∷ (line_feed ∷ [])

-- "-", "nil" or the reading
abbrev pub mark_text : Mark → List ℕ
mark_text Absent = 45 ∷ []
mark_text Nil = 110 ∷ (105 ∷ (108 ∷ []))
mark_text (reads r) = decimal r.0

-- L, reader, rack, then the line
unfoldable pub page_line_text : ℕ → ℕ → Mark → List ℕ
page_line_text reader rack mark = (76 ∷ (space ∷ [])) ++ field_text reader ++ field_text rack ++ mark_text mark ++ (line_feed ∷ [])

-- what a function that writes text promises: the text at its place, and the place behind it
pub record Put (at : ℕ) (text old after : List ℕ) (next : ℕ) : Type 0 where
  pub spliced : Spliced at text old after
  pub ends : next ≡ at + length text

-- the same where as many bytes as the longest such line has are free; else nothing is written
pub record PutIn (room at : ℕ) (text old after : List ℕ) (next : ℕ) : Type 0 where
  pub left : after ≡ cond (leb (at + room) (length old)) (splice at text old) old
  pub ends : next ≡ cond (leb (at + room) (length old)) (at + length text) at
  pub kept : length after ≡ length old

abbrev pub answer_room : ℕ
answer_room = 22

abbrev pub page_line_room : ℕ
page_line_room = 35
