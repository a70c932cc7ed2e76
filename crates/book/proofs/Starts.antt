-- Of two runs of pages that are compatible instance by instance, as far as both go, one's list is the start of the other's. So no two
-- readers' books contradict each other. No bytes stand here.
use Rattle.std.proofs.Common.{ℕ, zero, suc, ◌≤◌, ◌<◌, arith, ◌≡◌, refl, sym, ap, subst, ◌∙◌, Bool, true, false, cond, ◌⊎◌, inl, inr, ⊎_elim, List, [], ◌∷◌, ◌++◌, append-nil, append_assoc}
use Rattle.below.specs.Below.{row}
use Rattle.below.proofs.Tests.{all_at, decided}
use Rattle.pages.specs.declared.line.Reading
use Rattle.pages.specs.declared.line.Mark.{Mark}
use Rattle.pages.specs.declared.line.Mark.TheVariants.{Absent, Nil, Reading as reads}
use Rattle.pages.specs.declared.page.Page.{Page}
use Rattle.pages.specs.Lines.{is_absent, compatible_mark}
use Rattle.pages.specs.Racks.{most_racks}
use Rattle.pages.specs.Pages.{at, compatible_of}
use Rattle.pages.proofs.Lines.{compatible_present}
use Rattle.book.specs.Lists.{listed, entered, marked, walk, lines_of, list_of}
use Rattle.book.proofs.Walks.{walk_stops, walk_goes}

-- one list is the start of another
abbrev pub Starts : List ℕ → List ℕ → Type 0
Starts a b = (rest : List ℕ) × (b ≡ a ++ rest)

starts_self : (a : List ℕ) → Starts a a
starts_self a = ([], sym (append-nil a))

starts_trans : (a b c : List ℕ) → Starts a b → Starts b c → Starts a c
starts_trans a b c p q = (p.0 ++ q.0, q.1 ∙ ap (λ (l : List ℕ). l ++ q.0) p.1 ∙ append_assoc a p.0 q.0)

-- the walk only adds at the end
entered_starts : (r : Reading.Reading) (list : List ℕ) → Starts list (entered r list)
unfolding entered
entered_starts r list = go (listed r.0 list)
  where
    go : (b : Bool) → Starts list (cond b list (list ++ (r.0 ∷ [])))
    go true = starts_self list
    go false = (r.0 ∷ [], refl)

marked_starts : (m : Mark) (list : List ℕ) → Starts list (marked m list)
marked_starts Absent list = starts_self list
marked_starts Nil list = starts_self list
marked_starts (reads r) list = entered_starts r list

walk_starts : (lines : List Mark) (list : List ℕ) → Starts list (walk list lines)
unfolding walk
walk_starts [] list = starts_self list
walk_starts (m ∷ lines) list =
    ⊎_elim (λ h. subst (Starts list) (sym (walk_stops m list lines h)) (starts_self list))
    (λ h. subst (Starts list) (sym (walk_goes m list lines h)) (starts_trans list (marked m list) (walk (marked m list) lines) (marked_starts m list) (walk_starts lines (marked m list))))
    (decided (is_absent m))

-- lines that are compatible one by one, as far as both go
Agree : List Mark → List Mark → Type 0
Agree [] b = Unit
Agree (x ∷ a) [] = Unit
Agree (x ∷ a) (y ∷ b) = (compatible_mark x y ≡ true) × Agree a b

-- both walks go on together until one stops; then the other has that list as its start
Nested : List ℕ → List ℕ → Type 0
Nested a b = Starts a b ⊎ Starts b a

walks_agree : (a b : List Mark) (list : List ℕ) → Agree a b → Nested (walk list a) (walk list b)
unfolding walk Agree Nested
walks_agree [] b list h = inl (walk_starts b list)
walks_agree (x ∷ a) [] list h = inr (walk_starts (x ∷ a) list)
walks_agree (x ∷ a) (y ∷ b) list h = ⊎_elim left (λ p. ⊎_elim right (both (walks_agree a b (marked x list) h.1) p) (decided (is_absent y))) (decided (is_absent x))
  where
    left : is_absent x ≡ true → Nested (walk list (x ∷ a)) (walk list (y ∷ b))
    left p = inl (subst (λ (l : List ℕ). Starts l (walk list (y ∷ b))) (sym (walk_stops x list a p)) (walk_starts (y ∷ b) list))

    right : is_absent y ≡ true → Nested (walk list (x ∷ a)) (walk list (y ∷ b))
    right q = inr (subst (λ (l : List ℕ). Starts l (walk list (x ∷ a))) (sym (walk_stops y list b q)) (walk_starts (x ∷ a) list))

    both : Nested (walk (marked x list) a) (walk (marked x list) b) → is_absent x ≡ false → is_absent y ≡ false → Nested (walk list (x ∷ a)) (walk list (y ∷ b))
    both t p q = rw (walk_goes x list a p, walk_goes y list b q, ← compatible_present x y h.0 p q) t

agree_none : (a : List Mark) → Agree a []
unfolding Agree
agree_none [] = tt
agree_none (x ∷ a) = tt

agree_rows : (n : ℕ) (f g : ℕ → Mark) (a b : List Mark) → ((k : ℕ) → k < n → compatible_mark (f k) (g k) ≡ true) → Agree a b → Agree (row n f ++ a) (row n g ++ b)
unfolding Agree row
agree_rows zero f g a b h t = t
agree_rows (suc n) f g a b h t = (h 0 (omega arith), agree_rows n (λ k. f (suc k)) (λ k. g (suc k)) a b (λ k l. h (suc k) (omega arith)) t)

module _ (racks : ℕ) (few : racks ≤ most_racks) where
  agree_pages : (n m : ℕ) (f g : ℕ → Page) → ((k : ℕ) → k < n → k < m → compatible_of (f k) (g k) ≡ true) → Agree (lines_of racks (row n f)) (lines_of racks (row m g))
  unfolding Agree lines_of row compatible_of
  agree_pages zero m f g h = tt
  agree_pages (suc n) zero f g h = agree_none (lines_of racks (row (suc n) f))
  agree_pages (suc n) (suc m) f g h =
      agree_rows racks (at (f 0)) (at (g 0)) _ _ (λ k l. all_at most_racks (λ j. compatible_mark (at (f 0) j) (at (g 0) j)) (h 0 (omega arith) (omega arith)) k (omega arith))
      (agree_pages n m (λ k. f (suc k)) (λ k. g (suc k)) (λ k l r. h (suc k) (omega arith) (omega arith)))

  pub one_starts_the_other : (n m : ℕ) (f g : ℕ → Page) → ((k : ℕ) → k < n → k < m → compatible_of (f k) (g k) ≡ true) →
      Starts (list_of racks (row n f)) (list_of racks (row m g)) ⊎ Starts (list_of racks (row m g)) (list_of racks (row n f))
  unfolding Nested
  one_starts_the_other n m f g h = walks_agree (lines_of racks (row n f)) (lines_of racks (row m g)) [] (agree_pages n m f g h)
