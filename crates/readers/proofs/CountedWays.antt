-- The code's counting is the definition's: a column of lines gathered from the pages, and the two ways through `counted`.
use Rattle.std.proofs.Common.{ℕ, ◌≤◌, ◌<◌, le-leb, ◌≡◌, sym, ap, ◌∙◌, Bool, true, false, cond, List, get_or}
use borrow.Author.Tests.{lt-leb}
use Rattle.below.specs.Below.{row, count}
use Rattle.below.specs.Refusals.{no_majority}
use Rattle.below.proofs.Rows.{row_at}
use Rattle.pages.specs.declared.line.Mark.{Mark}
use Rattle.pages.specs.declared.line.Mark.TheVariants.{Absent, Nil}
use Rattle.pages.specs.declared.line.Line.{Line}
use Rattle.pages.specs.declared.page.Page.{Page}
use Rattle.pages.specs.Racks.{most_racks, has, set_of}
use Rattle.pages.specs.Pages.{at, line, page, empty, nil_extension}
use Rattle.pages.specs.Lines.{append_mark}
use Rattle.pages.proofs.Filled.{page_same}
use Rattle.pages.proofs.PageLaws.{at_empty, at_nil}
use Rattle.rounds.specs.declared.setup.Setup.{Setup}
use Rattle.rounds.specs.declared.round.Round.{Round}
use Rattle.rounds.specs.Setups.{most_boxes, majority_of}
use Rattle.records.specs.Slots.{held_at}
use Rattle.records.specs.declared.rows.ReaderRow.{ReaderRow}
use Rattle.records.specs.Answers.{Noted}
use Rattle.readers.specs.declared.counting.Column.{Column}
use Rattle.readers.specs.Notes.{refused}
use Rattle.readers.specs.Learning.{held_in, blank_in}
use Rattle.readers.specs.Counting.{agreed_line, held_page, held_line, line_at, agreed_page, learnt_of, answered, counted_of}
use Rattle.readers.proofs.AgreedLine.{agreed_same}
use Rattle.readers.proofs.Ways.{nil_set}

-- the line agreed on in a column is that of the lines which it was gathered from
pub column_agreed : (column : Column) (need : ℕ) (f : ℕ → Mark) {m : Mark} → column.lines ≡ row most_boxes (λ b. line (f b)) →
    m ≡ agreed_line most_boxes need (line_at column) → m ≡ agreed_line most_boxes need f
unfolding line_at
column_agreed column need f h e =
    e ∙
    agreed_same most_boxes need (line_at column) f
    (λ b l. ap (λ (x : List Line). (get_or x b (line Absent)).mark) h ∙ ap (λ (x : Line). x.mark) (row_at most_boxes (λ j. line (f j)) b (line Absent) l))

-- the line that counts of a box: of its page, Nil-extended, if it is held, else absent
pub line_held : (s : Setup) (r : ReaderRow) (round : Round) (blanks : ℕ → Bool) (rack b : ℕ) → held_in s r round b ≡ true → rack < most_racks →
    held_line s r round blanks rack b ≡ cond (blanks rack) (append_mark (at (held_at r b).page rack) Nil) (at (held_at r b).page rack)
unfolding held_line held_page
line_held s r round blanks rack b t l = rw t (at_nil blanks (held_at r b).page rack l)

pub line_left : (s : Setup) (r : ReaderRow) (round : Round) (blanks : ℕ → Bool) (rack b : ℕ) → held_in s r round b ≡ false → rack < most_racks →
    held_line s r round blanks rack b ≡ Absent
unfolding held_line held_page
line_left s r round blanks rack b t l = rw t (at_empty rack l)

-- the page that the code agrees on is the definition's
agreed_page_is : (s : Setup) (r : ReaderRow) (round : Round) {need blanks : ℕ} → need ≡ majority_of s.boxes → blanks ≡ set_of most_racks (blank_in r round) →
    page (λ k. agreed_line most_boxes need (held_line s r round (has blanks) k)) ≡ agreed_page s r round
unfolding agreed_page held_line held_page
agreed_page_is s r round {need} {blanks} p q =
    page_same _ _
    (λ k l.
    ap (λ (n : ℕ). agreed_line most_boxes n (held_line s r round (has blanks) k)) p ∙
    agreed_same most_boxes (majority_of s.boxes) (held_line s r round (has blanks) k) (λ b. at (held_page s r round (blank_in r round) b) k) (λ b m. same k b))
  where
    same : (k b : ℕ) → held_line s r round (has blanks) k b ≡ at (held_page s r round (blank_in r round) b) k
    same k b =
        ap (λ (x : Page). at (cond (held_in s r round b) x empty) k)
        (ap (λ (x : ℕ). nil_extension (has x) (held_at r b).page) q ∙ nil_set (blank_in r round) (held_at r b).page)

pub counted_enough : (s : Setup) (r : ReaderRow) (round : Round) {need boxes blanks : ℕ} {chosen : Page} {l : Noted Page} → need ≡ majority_of s.boxes →
    boxes ≡ count most_boxes (held_in s r round) → need ≤ boxes → blanks ≡ set_of most_racks (blank_in r round) →
    chosen ≡ page (λ k. agreed_line most_boxes need (held_line s r round (has blanks) k)) → l ≡ learnt_of s.racks r.page chosen → answered r l ≡ counted_of s r round
unfolding counted_of
counted_enough s r round {need} {boxes} p b t q c e =
    ap (answered r) (e ∙ ap (learnt_of s.racks r.page) (c ∙ agreed_page_is s r round p q)) ∙
    sym (rw (le-leb (majority_of s.boxes) (count most_boxes (held_in s r round)) (rw (← p, ← b) t)))

pub counted_few : (s : Setup) (r : ReaderRow) (round : Round) {need boxes : ℕ} → need ≡ majority_of s.boxes → boxes ≡ count most_boxes (held_in s r round) →
    boxes < need → refused no_majority r ≡ counted_of s r round
unfolding counted_of
counted_few s r round p b t = sym (rw (lt-leb (majority_of s.boxes) (count most_boxes (held_in s r round)) (rw (← p, ← b) t)))
