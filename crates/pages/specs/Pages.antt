-- Pages: per rack absent, Nil or a reading (document 01, 'Pages and rounds').
use Rattle.std.specs.Prelude.{ℕ, eqb, get_or, Bool, true, false, cond, not, ◌&&◌, ◌||◌}
use Rattle.below.specs.Below.{all, any, row}
use Rattle.pages.specs.declared.line.Mark.{Mark}
use Rattle.pages.specs.declared.line.Mark.TheVariants.{Absent, Nil}
use Rattle.pages.specs.declared.line.Line.{Line}
use Rattle.pages.specs.declared.page.Page.{Page}
use Rattle.pages.specs.declared.page.Vote.{Vote}
use Rattle.pages.specs.Lines.{is_absent, is_nil, is_reading, mark_in_range, append_mark, prefix_mark, compatible_mark}
use Rattle.pages.specs.Racks.{most_racks}

abbrev pub line : Mark → Line
line m = record { mark = m }

-- the line of a rack, and the page that has these lines
unfoldable pub at : Page → ℕ → Mark
at p rack = (get_or p.lines rack (line Absent)).mark

unfoldable pub page : (ℕ → Mark) → Page
page f = record { lines = row most_racks (λ rack. line (f rack)) }

unfoldable pub empty : Page
empty = page (λ rack. Absent)

-- append changes a line only where it is absent
unfoldable pub append_of : Page → ℕ → Mark → Page
append_of v rack m = page (λ k. cond (eqb k rack) (append_mark (at v k) m) (at v k))

-- v is a prefix of w when each present line of v is equal in w
unfoldable pub prefix_of : Page → Page → Bool
prefix_of v w = all most_racks (λ k. prefix_mark (at v k) (at w k))

-- two pages are compatible when lines present in both are equal
unfoldable pub compatible_of : Page → Page → Bool
compatible_of v w = all most_racks (λ k. compatible_mark (at v k) (at w k))

-- all lines of both
unfoldable pub union_of : Page → Page → Page
union_of v w = page (λ k. append_mark (at v k) (at w k))

-- a vote is none or a page
abbrev pub none : Vote
none = record { some = false; page = empty }

abbrev pub some : Page → Vote
some p = record { some = true; page = p }

-- join: all lines of both, only if compatible
unfoldable pub join_of : Page → Page → Vote
join_of v w = cond (compatible_of v w) (some (union_of v w)) none

-- Nil-extension over a set of racks: append Nil for each
unfoldable pub nil_extension : (ℕ → Bool) → Page → Page
nil_extension set v = page (λ k. cond (set k) (append_mark (at v k) Nil) (at v k))

-- complete: no line absent, of the racks of the set
unfoldable pub complete_of : (ℕ → Bool) → Page → Bool
complete_of set v = all most_racks (λ k. not (set k && is_absent (at v k)))

-- trivial: complete and all Nil
unfoldable pub trivial_of : (ℕ → Bool) → Page → Bool
trivial_of set v = all most_racks (λ k. not (set k) || is_nil (at v k))

-- valued: at least one reading
unfoldable pub valued_of : Page → Bool
valued_of v = any most_racks (λ k. is_reading (at v k))

unfoldable pub empty_of : Page → Bool
empty_of v = all most_racks (λ k. is_absent (at v k))

-- lines outside the set are absent, and readings are in range
unfoldable pub within_of : (ℕ → Bool) → Page → Bool
within_of set v = all most_racks (λ k. (set k || is_absent (at v k)) && mark_in_range (at v k))
