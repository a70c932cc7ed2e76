-- The walk, turn by turn: what is left of the lines ahead gives the same list as all of them from the start.
use Rattle.std.proofs.Common.{ℕ, suc, ◌+◌, ◌*◌, ◌≤◌, ◌<◌, add-one, arith, length, take, drop, drop_of_length-le, drop-cons, ◌≡◌, refl, sym, ap, subst, ◌∙◌, Bool, true, false, true≢false, List, [], ◌∷◌, ◌++◌}
use Rattle.std.proofs.Math.Bool.{false≢true}
use Rattle.below.specs.Below.{row}
use Rattle.below.proofs.Rows.{length-row, row_at}
use Rattle.pages.specs.declared.line.Mark.{Mark}
use Rattle.pages.specs.declared.line.Mark.TheVariants.{Absent, Nil, Reading as reads}
use Rattle.pages.specs.declared.page.Page.{Page}
use Rattle.pages.specs.Lines.{is_absent}
use Rattle.pages.specs.Racks.{most_racks}
use Rattle.pages.specs.Pages.{at}
use Rattle.book.specs.Lists.{walk, marked, lines_of, list_of, Walked, Entered}

-- one line: it stops the walk or is entered
pub walk_stops : (m : Mark) (list : List ℕ) (lines : List Mark) → is_absent m ≡ true → walk list (m ∷ lines) ≡ list
unfolding walk
walk_stops Absent list lines h = refl
walk_stops Nil list lines h = absurd (false≢true h)
walk_stops (reads r) list lines h = absurd (false≢true h)

pub walk_goes : (m : Mark) (list : List ℕ) (lines : List Mark) → is_absent m ≡ false → walk list (m ∷ lines) ≡ walk (marked m list) lines
unfolding walk
walk_goes Absent list lines h = absurd (true≢false h)
walk_goes Nil list lines h = refl
walk_goes (reads r) list lines h = refl

-- what is left of a row of n
row_left_lem : {A : Type 0} (n k : ℕ) (f : ℕ → A) → k < n → drop k (row n f) ≡ f k ∷ drop (k + 1) (row n f)
row_left_lem {A} n k f l =
    drop-cons (row n f) k (f k) (subst (λ (m : ℕ). k < m) (sym (length-row n f)) l) ∙
    ap (λ (x : A). x ∷ drop (suc k) (row n f)) (row_at n f k (f k) l) ∙ ap (λ (m : ℕ). f k ∷ drop m (row n f)) (sym (add-one k))

row_over : {A : Type 0} (n k : ℕ) (f : ℕ → A) → n ≤ k → drop k (row n f) ≡ []
row_over n k f l = drop_of_length-le (row n f) {i = k} (subst (λ (m : ℕ). m ≤ k) (sym (length-row n f)) l)

module _ (page_of : ℕ → Page) (count racks : ℕ) where
  -- before the first line of an instance, and before a rack's line of it: as many entries as lines at most, and what is ahead
  pub record Between (instance listed : ℕ) (room : List ℕ) : Type 0 where
    pub few : listed ≤ instance * most_racks
    pub rest : walk (take listed room) (lines_of racks (drop instance (row count page_of))) ≡ list_of racks (row count page_of)

  pub record Within (instance rack listed : ℕ) (room : List ℕ) : Type 0 where
    pub few : listed ≤ instance * most_racks + rack
    pub rest : walk (take listed room) (drop rack (row racks (at (page_of instance))) ++ lines_of racks (drop (instance + 1) (row count page_of))) ≡ list_of racks (row count page_of)

  pub at_start : (room : List ℕ) → Between 0 0 room
  at_start room = record { few = omega arith; rest = refl }

  pub page_begins : {instance listed : ℕ} {room : List ℕ} → instance < count → Between instance listed room → Within instance 0 listed room
  unfolding lines_of
  page_begins {instance} {listed} {room} l b =
      record {
        few = let f = b.few in omega arith;
        rest = ap (λ (ps : List Page). walk (take listed room) (lines_of racks ps)) (sym (row_left_lem count instance page_of l)) ∙ b.rest;
      }

  pub page_ends : {instance rack listed : ℕ} {room : List ℕ} → racks ≤ most_racks → rack ≤ racks → racks ≤ rack → Within instance rack listed room → Between (instance + 1) listed room
  page_ends {instance} {rack} {listed} {room} r a b w =
      record {
        few = let f = w.few in omega arith;
        rest =
            ap (λ (ms : List Mark). walk (take listed room) (ms ++ lines_of racks (drop (instance + 1) (row count page_of)))) (sym (row_over racks rack (at (page_of instance)) b)) ∙ w.rest;
      }

  module _ (instance rack : ℕ) {listed : ℕ} {room : List ℕ} {m : Mark} (l : rack < racks) (e : m ≡ at (page_of instance) rack) (w : Within instance rack listed room) where
    ahead : walk (take listed room) (m ∷ (drop (rack + 1) (row racks (at (page_of instance))) ++ lines_of racks (drop (instance + 1) (row count page_of)))) ≡ list_of racks (row count page_of)
    ahead =
        ap (λ (x : Mark). walk (take listed room) (x ∷ (drop (rack + 1) (row racks (at (page_of instance))) ++ lines_of racks (drop (instance + 1) (row count page_of))))) e ∙
        ap (λ (ms : List Mark). walk (take listed room) (ms ++ lines_of racks (drop (instance + 1) (row count page_of)))) (sym (row_left_lem racks rack (at (page_of instance)) l)) ∙ w.rest

    pub line_entered : {listed' : ℕ} {room' : List ℕ} {r : Bool} → r ≡ is_absent m → r ≡ false → Entered (marked m (take listed room)) listed listed' room' → Within instance (rack + 1) listed' room'
    line_entered {listed'} {room'} q h n =
        record {
          few = let f = w.few in let g = n.more in omega arith;
          rest =
              ap (λ (list : List ℕ). walk list (drop (rack + 1) (row racks (at (page_of instance))) ++ lines_of racks (drop (instance + 1) (row count page_of)))) n.is ∙
              sym (walk_goes m (take listed room) _ (sym q ∙ h)) ∙ ahead;
        }

    -- the way out by the label
    pub walk_left : {r : Bool} → r ≡ is_absent m → r ≡ true → listed ≤ length room → Walked (list_of racks (row count page_of)) listed room
    walk_left q h f = record { is = sym (walk_stops m (take listed room) _ (sym q ∙ h)) ∙ ahead; fits = f }

  -- the way out behind the last instance
  pub walk_ends : {instance listed : ℕ} {room : List ℕ} → count ≤ instance → listed ≤ length room → Between instance listed room → Walked (list_of racks (row count page_of)) listed room
  unfolding lines_of walk
  walk_ends {instance} {listed} {room} l f b =
      record { is = ap (λ (ps : List Page). walk (take listed room) (lines_of racks ps)) (sym (row_over count instance page_of l)) ∙ b.rest; fits = f }
