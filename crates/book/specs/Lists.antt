-- The list out of a reader's pages (document 01, 'The book').
use Rattle.std.specs.Prelude.{ℕ, ◌+◌, ◌≤◌, eqb, length, get_or, take, ◌≡◌, Bool, cond, List, [], ◌∷◌, ◌++◌}
use Rattle.below.specs.Below.{any, row}
use Rattle.pages.specs.declared.line.Reading
use Rattle.pages.specs.declared.line.Mark.{Mark}
use Rattle.pages.specs.declared.line.Mark.TheVariants.{Absent, Nil, Reading as reads}
use Rattle.pages.specs.declared.page.Page.{Page}
use Rattle.pages.specs.Pages.{at}

-- already in the list
unfoldable pub listed : ℕ → List ℕ → Bool
listed x list = any (length list) (λ k. eqb (get_or list k 0) x)

-- a reading already in the list is skipped, any other comes to its end
unfoldable pub entered : Reading.Reading → List ℕ → List ℕ
entered r list = cond (listed r.0 list) list (list ++ (r.0 ∷ []))

-- the walk, from the list so far over the lines ahead: Nil is skipped; it stops at the first absent line
unfoldable pub walk : List ℕ → List Mark → List ℕ
walk list [] = list
walk list (Absent ∷ lines) = list
walk list (Nil ∷ lines) = walk list lines
walk list (reads r ∷ lines) = walk (entered r list) lines

-- what one line does to the list
abbrev pub marked : Mark → List ℕ → List ℕ
marked Absent list = list
marked Nil list = list
marked (reads r) list = entered r list

-- go by instance, then rack
unfoldable pub lines_of : ℕ → List Page → List Mark
lines_of racks [] = []
lines_of racks (p ∷ pages) = row racks (at p) ++ lines_of racks pages

abbrev pub list_of : ℕ → List Page → List ℕ
list_of racks pages = walk [] (lines_of racks pages)

-- the first numbers of a room are this list; and so after one line, which adds one at most
pub record Walked (list : List ℕ) (count : ℕ) (room : List ℕ) : Type 0 where
  pub is : take count room ≡ list
  pub fits : count ≤ length room

pub record Entered (list : List ℕ) (before count : ℕ) (room : List ℕ) : Type 0 where
  pub is : take count room ≡ list
  pub more : count ≤ before + 1
