-- The walk's code: the line that it reads, the loop that looks for a number, and one more entry.
use Rattle.std.proofs.Common.{ℕ, ◌+◌, ◌*◌, ◌≤◌, ◌<◌, le_antisymm, add-one, arith, length, take, set, take-suc-set, ◌≡◌, refl, sym, ap, subst, ◌∙◌, Bool, true, false, ◌||◌, List}
use Rattle.below.specs.Below.{any}
use Rattle.below.proofs.Tests.{pick_yes, pick_no}
use Rattle.below.proofs.Rows.{row_at}
use Rattle.pages.specs.declared.line.Reading
use Rattle.pages.specs.declared.line.Mark.TheVariants.{Absent}
use Rattle.pages.specs.declared.line.Line.{Line}
use Rattle.pages.specs.Racks.{most_racks}
use Rattle.pages.specs.Pages.{line, at}
use Rattle.fields.specs.Codecs.{Got}
use Rattle.fields.specs.Layout.{line_as}
use Rattle.blocks.specs.Kinds.{decode}
use Rattle.blocks.specs.Rows.{reader}
use Rattle.book.specs.Lists.{listed, entered, Entered}
use Rattle.book.specs.Book.{block_at, page_at}

-- a line where it stands is that rack's line of the page
pub line_of_page : (blocks : List ℕ) (instance rack : ℕ) {block : List ℕ} {value : Line} {exact : Bool} → rack < most_racks → block ≡ block_at blocks instance →
    Got line_as block (10 + 5 * rack) value exact → value.mark ≡ at (page_at blocks instance) rack
unfolding at
line_of_page blocks instance rack {block} l e g =
    ap (λ (x : Line). x.mark) g.is ∙ sym (ap (λ (x : Line). x.mark) (row_at most_racks (λ k. line_as.get block (10 + 5 * k)) rack (line Absent) l)) ∙
    ap (λ (b : List ℕ). at (decode reader b).1.page rack) e

-- the loop that looks for a number, to the end of the list
pub any_next : (k : ℕ) {found r : Bool} (f : ℕ → Bool) → found ≡ any k f → r ≡ found || f k → r ≡ any (k + 1) f
unfolding any
any_next k f p q = rw (q, p, add-one k)

pub any_whole : {k : ℕ} {found : Bool} (n : ℕ) (f : ℕ → Bool) → found ≡ any k f → k ≤ n → n ≤ k → found ≡ any n f
any_whole {k} {found} n f h a b = subst (λ (m : ℕ). found ≡ any m f) (le_antisymm a b) h

-- one line entered: nothing changed, or one number more at the end
pub kept : (room : List ℕ) (count : ℕ) → Entered (take count room) count count room
kept room count = record { is = refl; more = omega arith }

pub skipped : (room : List ℕ) (count : ℕ) (r : Reading.Reading) {b : Bool} → b ≡ listed r.0 (take count room) → b ≡ true → Entered (entered r (take count room)) count count room
unfolding entered
skipped room count r e h = record { is = pick_yes _ e h refl; more = omega arith }

pub added : (room : List ℕ) (count : ℕ) (r : Reading.Reading) {b : Bool} → count < length room → b ≡ listed r.0 (take count room) → b ≡ false →
    Entered (entered r (take count room)) count (count + 1) (set room count r.0)
unfolding entered
added room count r l e h = record { is = pick_no _ e h (rw add-one (take-suc-set room count r.0 l)); more = omega arith }
