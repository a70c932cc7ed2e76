-- The scan, which takes a line byte by byte. That it finds what the line says is `scan_is_line` (proofs/ScanIsLine.antt).
use Rattle.std.specs.Prelude.{ℕ, ◌+◌, ◌*◌, ◌-◌, leb, ltb, eqb, length, drop, replicate, set, ◌≡◌, Bool, true, false, cond, not, ◌&&◌, Option, List, [], ◌∷◌}
use Rattle.lines.specs.declared.scan.Scan.{Scan}
use Rattle.lines.specs.Fields.{space, before_lf, fields_of_line, largest, is_digit, answer_of}

abbrev pub start : Scan
start = record { numbers = replicate fields_of_line 0; ended = 0; value = 0; digits = false; bad = false }

-- a digit: the value grows, unless it is too large already
abbrev pub with_digit : Scan → ℕ → Scan
with_digit s d =
    record { numbers = s.numbers; ended = s.ended; value = cond (leb s.value largest) (10 * s.value + d) s.value; digits = true; bad = s.bad }

abbrev pub spoiled : Scan → Scan
spoiled s = record { numbers = s.numbers; ended = s.ended; value = s.value; digits = s.digits; bad = true }

-- the open field is a decimal that fits
abbrev pub field_reads : Scan → Bool
field_reads s = s.digits && leb s.value largest

-- a space: it ends a field that reads, and another one follows
unfoldable pub end_field : Scan → Scan
end_field s =
    cond (field_reads s && ltb s.ended 6)
    (record { numbers = set s.numbers s.ended s.value; ended = s.ended + 1; value = 0; digits = false; bad = s.bad }) (spoiled s)

unfoldable pub feed_of : Scan → ℕ → Scan
feed_of s b = cond (eqb b space) (end_field s) (cond (is_digit b) (with_digit s (b - 48)) (spoiled s))

-- the bytes of a line, or of a part of one
unfoldable pub feed_all : Scan → List ℕ → Scan
feed_all s [] = s
feed_all s (b ∷ later) = feed_all (feed_of s b) later

-- what is left of the open line from a place of a piece of input on: the scan after it, and the place of its LF or the end
pub record FedOn (s : Scan) (bytes : List ℕ) (from : ℕ) (scan : Scan) (to : ℕ) : Type 0 where
  pub scanned : scan ≡ feed_all s (before_lf (drop from bytes))
  pub stopped : to ≡ from + length (before_lf (drop from bytes))

unfoldable pub finish_of : Scan → Option (List ℕ)
finish_of s = answer_of (eqb s.ended 6 && field_reads s && not s.bad) (set s.numbers 6 s.value)
