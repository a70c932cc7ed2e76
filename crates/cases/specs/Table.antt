-- The marked cases of document 01, 'Both sides of each edge', a line each. A case is a test on the definitions that contracts cite.
use Rattle.std.specs.Prelude.{ℕ, eqb, Bool, true, cond, ◌&&◌, List, [], ◌∷◌, ◌++◌}
use Rattle.pages.specs.declared.line.Reading.{Reading}
use Rattle.pages.specs.declared.line.Mark.TheVariants.{Absent, Nil, Reading as reads}
use Rattle.pages.specs.Pages.{empty, none, some}
use Rattle.rounds.specs.Setups.{majority_of}
use Rattle.rounds.specs.Rounds.{round_of, order_of, is_below, is_above}
use Rattle.records.specs.Slots.{no_held}
use Rattle.words.specs.Sums.{words, first_sum, second_sum}
use Rattle.cases.specs.Setting.{lines, opens_with, held_of, learns}

-- the check words of a block in which one word is x and the others are zero
abbrev checks : ℕ → ℕ → ℕ → ℕ → Bool
checks place x first second =
    eqb (first_sum 1 words (λ k. cond (eqb k place) x 0)) first && eqb (second_sum 1 words (λ k. cond (eqb k place) x 0)) second

-- all words zero 1 and 126; word 0 = 5 gives 6 and 756; word 125 = 5 gives 6 and 131; word 0 = 4,294,967,295 gives 0 and 0
unfoldable pub check_cases : List Bool
check_cases =
    checks 0 0 1 126 ∷
    checks 0 5 6 756 ∷
    checks 125 5 6 131 ∷
    checks 0 4294967295 0 0 ∷
    []

-- Zero is below (1,0); (1,1) above (1,0); (2,0) above (1,3): with any c0 and any sets of racks
unfoldable pub round_cases : ℕ → ℕ → ℕ → List Bool
round_cases c0 cf0 cf =
    is_below (order_of (round_of 0 c0 cf0) (round_of 1 0 cf)) ∷
    is_above (order_of (round_of 1 1 cf) (round_of 1 0 cf0)) ∷
    is_above (order_of (round_of 2 0 cf) (round_of 1 3 cf0)) ∷
    []

-- votes at one round {0:V} and {1:W} open as {0:V, 1:W}; heard one vote {0:V} and one none: open sends {0:V, 1:Nil}; two none: the
-- empty page
unfoldable pub open_cases : Reading → Reading → List Bool
open_cases v w =
    opens_with (some (lines (reads v) Absent)) (some (lines Absent (reads w))) (lines (reads v) (reads w)) ∷
    opens_with (some (lines (reads v) Absent)) none (lines (reads v) Nil) ∷
    opens_with none none empty ∷
    []

-- held {0:V,1:W}, {0:V}, {1:W}: learn both lines; held {0:V}, {1:W}: learn nothing, granted
unfoldable pub learn_cases : Reading → Reading → List Bool
learn_cases v w =
    learns (held_of (reads v) (reads w)) (held_of (reads v) Absent) (held_of Absent (reads w)) (lines (reads v) (reads w)) ∷
    learns (held_of (reads v) Absent) (held_of Absent (reads w)) no_held empty ∷
    []

-- majority of 1, 2, 3, 4, 5: 1, 2, 2, 3, 3
unfoldable pub majority_cases : List Bool
majority_cases =
    eqb (majority_of 1) 1 ∷
    eqb (majority_of 2) 2 ∷
    eqb (majority_of 3) 2 ∷
    eqb (majority_of 4) 3 ∷
    eqb (majority_of 5) 3 ∷
    []

-- the one table
unfoldable pub table : ℕ → ℕ → ℕ → Reading → Reading → List Bool
table c0 cf0 cf v w = check_cases ++ round_cases c0 cf0 cf ++ open_cases v w ++ learn_cases v w ++ majority_cases

abbrev pub all_hold : List Bool → Bool
all_hold [] = true
all_hold (c ∷ cs) = c && all_hold cs
