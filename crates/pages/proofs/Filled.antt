-- Laws of `at` and `page`.
use Rattle.std.proofs.Common.{ℕ, ◌≤◌, ◌<◌, ◌≡◌, ap, sym, subst, ◌∙◌, List, map, length}
use Rattle.std.proofs.Math.ListN.{length-map, get_or-eq_default}
use Rattle.below.proofs.Rows.{row_at, row_past, row_same}
use Rattle.pages.specs.declared.line.Mark.{Mark}
use Rattle.pages.specs.declared.line.Mark.TheVariants.{Absent}
use Rattle.pages.specs.declared.line.Line.{Line}
use Rattle.pages.specs.declared.page.Page.{Page}
use Rattle.pages.specs.Racks.{most_racks}
use Rattle.pages.specs.Pages.{at, page, line}

-- the lines of a page that was built, for every rack that a page has, and past them
pub at_page : (f : ℕ → Mark) (k : ℕ) → k < most_racks → at (page f) k ≡ f k
unfolding at page
at_page f k l = ap (λ (x : Line). x.mark) (row_at most_racks (λ rack. line (f rack)) k (line Absent) l)

pub at_past : (f : ℕ → Mark) (k : ℕ) → most_racks ≤ k → at (page f) k ≡ Absent
unfolding at page
at_past f k l = ap (λ (x : Line). x.mark) (row_past most_racks (λ rack. line (f rack)) k (line Absent) l)

-- pages that are built of the same lines
pub page_same : (f g : ℕ → Mark) → ((k : ℕ) → k < most_racks → f k ≡ g k) → page f ≡ page g
unfolding page
page_same f g h =
    ap (λ (l : List Line). page_of_lem l) (row_same most_racks (λ rack. line (f rack)) (λ rack. line (g rack)) (λ k l. ap line (h k l)))
  where
    page_of_lem : List Line → Page
    page_of_lem l = record { lines = l }

-- a page has no line from rack 8 on
pub past_lines : (p : Page) (k : ℕ) → length p.lines ≡ most_racks → most_racks ≤ k → at p k ≡ Absent
unfolding at
past_lines p k e h = ap (λ (x : Line). x.mark) (get_or-eq_default p.lines (line Absent) {n = k} (subst (λ (n : ℕ). n ≤ k) (sym e) h))

-- an array of a struct has its length where it is told of the machine's values
pub length_mapped : {X Y : Type 0} (f : X → Y) (l : List X) (n : ℕ) → length (map f l) ≡ n → length l ≡ n
length_mapped f l n h = sym (length-map l f) ∙ h
