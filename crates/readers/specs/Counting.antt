-- Learn by counting: what the code computes. That it is what document 01 says of majorities stands in proofs/.
use Rattle.std.specs.Prelude.{ℕ, zero, suc, leb, get_or, Bool, cond, not, ◌&&◌}
use Rattle.below.specs.Below.{any, count}
use Rattle.below.specs.Refusals.{granted, no_majority, lines_clash}
use Rattle.pages.specs.declared.line.Mark.{Mark}
use Rattle.pages.specs.declared.line.Mark.TheVariants.{Absent}
use Rattle.pages.specs.declared.page.Page.{Page}
use Rattle.pages.specs.Lines.{is_absent, prefix_mark}
use Rattle.pages.specs.Racks.{racks_below}
use Rattle.pages.specs.Pages.{at, line, page, empty, nil_extension, compatible_of, union_of, trivial_of}
use Rattle.rounds.specs.declared.setup.Setup.{Setup}
use Rattle.rounds.specs.declared.round.Round.{Round}
use Rattle.rounds.specs.Setups.{most_boxes, majority_of}
use Rattle.records.specs.Slots.{held_at}
use Rattle.records.specs.declared.rows.ReaderRow.{ReaderRow}
use Rattle.records.specs.Answers.{Noted}
use Rattle.readers.specs.declared.counting.Column.{Column}
use Rattle.readers.specs.Learning.{held_in, blank_in, with_page}
use Rattle.readers.specs.Notes.{refused}

-- how many of n boxes have this line, of the lines that they have for one rack
unfoldable pub carrying : ℕ → (ℕ → Mark) → Mark → ℕ
carrying n lines m = count n (λ b. prefix_mark m (lines b))

-- a line that is there, and that as many boxes have as are needed
unfoldable pub enough : ℕ → ℕ → (ℕ → Mark) → Mark → Bool
enough n need lines m = not (is_absent m) && leb need (carrying n lines m)

-- the first of n lines that passes, absent if none does
unfoldable pub first_line : ℕ → (Mark → Bool) → (ℕ → Mark) → Mark
first_line zero passes lines = Absent
first_line (suc n) passes lines = cond (any n (λ b. passes (lines b))) (first_line n passes lines) (cond (passes (lines n)) (lines n) Absent)

-- the line that as many of n boxes have as are needed, absent if there is none
unfoldable pub agreed_line : ℕ → ℕ → (ℕ → Mark) → Mark
agreed_line n need lines = first_line n (enough n need lines) lines

-- the page that counts for a box: extended if it is held at exactly that round, else empty
unfoldable pub held_page : Setup → ReaderRow → Round → (ℕ → Bool) → ℕ → Page
held_page s r round blanks box = cond (held_in s r round box) (nil_extension blanks (held_at r box).page) empty

-- the line that they have for a rack, by box
unfoldable pub held_line : Setup → ReaderRow → Round → (ℕ → Bool) → ℕ → ℕ → Mark
held_line s r round blanks rack box = at (held_page s r round blanks box) rack

unfoldable pub line_at : Column → ℕ → Mark
line_at column b = (get_or column.lines b (line Absent)).mark

-- per rack the line that a majority of the held boxes agree on
unfoldable pub agreed_page : Setup → ReaderRow → Round → Page
agreed_page s r round = page (λ k. agreed_line most_boxes (majority_of s.boxes) (λ b. at (held_page s r round (blank_in r round) b) k))

-- joined with the reader's page: 9 if not compatible or if the result is trivial
unfoldable pub learnt_of : ℕ → Page → Page → Noted Page
learnt_of racks own chosen =
    cond (compatible_of own chosen)
    (cond (trivial_of (racks_below racks) (union_of own chosen)) (record { refusal = lines_clash; row = own })
    (record { refusal = granted; row = union_of own chosen }))
    (record { refusal = lines_clash; row = own })

-- what learn answers, by counting
abbrev pub answered : ReaderRow → Noted Page → Noted ReaderRow
answered r l = record { refusal = l.refusal; row = with_page r l.row }

unfoldable pub counted_of : Setup → ReaderRow → Round → Noted ReaderRow
counted_of s r round =
    cond (leb (majority_of s.boxes) (count most_boxes (held_in s r round))) (answered r (learnt_of s.racks r.page (agreed_page s r round)))
    (refused no_majority r)
