-- The join of the votes that take part: it is there exactly if they are compatible, it is above each of them, and each of its lines is
-- a line of one of them.
use Rattle.std.proofs.Common.{ℕ, zero, suc, ◌<◌, arith, ◌≡◌, refl, sym, ap, subst, ◌∙◌, Bool, true, false, cond, ◌&&◌, true≢false, ◌⊎◌, inl, inr, ⊎_elim}
use Rattle.std.proofs.Math.Bool.{false≢true}
use Rattle.below.proofs.Tests.{decided, below_suc, or_true_left, and_true, all_fails, not_true_false}
use Rattle.pages.specs.declared.line.Mark.{Mark}
use Rattle.pages.specs.declared.page.Page.{Page}
use Rattle.pages.specs.declared.page.Vote.{Vote}
use Rattle.pages.specs.Lines.{is_absent, prefix_mark, compatible_mark}
use Rattle.pages.specs.Racks.{most_racks}
use Rattle.pages.specs.Pages.{at, some, none, prefix_of, compatible_of, union_of, join_of, within_of}
use Rattle.pages.proofs.Lines.{append_absent, append_present}
use Rattle.pages.proofs.Algebra as A
use Rattle.pages.proofs.PageLaws.{at_empty, at_union, join_some, join_none, union_left, union_right, prefix_of_trans, prefix_lines, lines_compatible, compatible_lines}
use Rattle.pages.proofs.Kept.{empty_within, union_within}
use Rattle.coordinators.specs.Steps.{join_more, join_votes}

-- one vote more: not taken, taken and joined, or not compatible with those before
pub data Joining (takes : Bool) (p : Page) (v : Vote) : Vote → Type 0 where
  left_out : takes && v.some ≡ false → Joining takes p v v
  taken_in : takes ≡ true → v.some ≡ true → compatible_of v.page p ≡ true → Joining takes p v (some (union_of v.page p))
  clashed : takes ≡ true → v.some ≡ true → compatible_of v.page p ≡ false → Joining takes p v none

joining : (takes : Bool) (p : Page) (v : Vote) → Joining takes p v (join_more takes p v)
joining true p v = go v.some refl
  where
    joins : v.some ≡ true → (b : Bool) → compatible_of v.page p ≡ b → Joining true p v (join_of v.page p)
    joins s true e = subst (λ (w : Vote). Joining true p v w) (sym (join_some v.page p e)) (taken_in refl s e)
    joins s false e = subst (λ (w : Vote). Joining true p v w) (sym (join_none v.page p e)) (clashed refl s e)

    go : (b : Bool) → v.some ≡ b → Joining true p v (cond b (join_of v.page p) v)
    go true s = joins s (compatible_of v.page p) refl
    go false s = left_out s
joining false p v = left_out refl

-- an absent line fits every other
absent_fits : (a b : Mark) → is_absent a ≡ true → compatible_mark a b ≡ true
absent_fits a b h = or_true_left (prefix_mark b a) h

module _ (takes : ℕ → Bool) (pages : ℕ → Page) where
  -- what is found below n, of a page that takes part
  abbrev pub Taking : ℕ → (ℕ → Type 0) → Type 0
  Taking n Q = (b : ℕ) × (b < n) × ((takes b ≡ true) × Q b)

  up : {n : ℕ} {Q : ℕ → Type 0} → Taking n Q → Taking (suc n) Q
  up {n} w = let l : w.0 < n = w.1 in (w.0, omega arith, w.2)

  -- the join is above each page that takes part
  pub joined_above : (n : ℕ) → (join_votes takes pages n).some ≡ true → (b : ℕ) → b < n → takes b ≡ true → prefix_of (pages b) (join_votes takes pages n).page ≡ true
  unfolding join_votes
  joined_above zero h b l t = absurd (omega arith)
  joined_above (suc n) h b l t = go (λ s m. joined_above n s b m t) (joining (takes n) (pages n) (join_votes takes pages n)) h
    where
      go : {w : Vote} → ((join_votes takes pages n).some ≡ true → b < n → prefix_of (pages b) (join_votes takes pages n).page ≡ true) →
          Joining (takes n) (pages n) (join_votes takes pages n) w → w.some ≡ true → prefix_of (pages b) w.page ≡ true
      go ih (left_out e) s = ⊎_elim (λ q. absurd (true≢false (sym (and_true (subst (λ (x : ℕ). takes x ≡ true) q t) s) ∙ e))) (λ m. ih s m) (below_suc l)
      go ih (taken_in u s' e) s =
          ⊎_elim (λ q. subst (λ (x : ℕ). prefix_of (pages x) (union_of (join_votes takes pages n).page (pages n)) ≡ true) (sym q) (union_right _ (pages n) e))
          (λ m. prefix_of_trans (pages b) (join_votes takes pages n).page _ (ih s' m) (union_left _ (pages n))) (below_suc l)
      go ih (clashed u s' e) s = absurd (false≢true s)

  -- each line of the join is absent or that of a page that takes part
  pub joined_line : (n rack : ℕ) → rack < most_racks →
      (is_absent (at (join_votes takes pages n).page rack) ≡ true) ⊎ Taking n (λ b. at (pages b) rack ≡ at (join_votes takes pages n).page rack)
  unfolding join_votes
  joined_line zero rack l = inl (ap is_absent (at_empty rack l))
  joined_line (suc n) rack l = go (joined_line n rack l) (joining (takes n) (pages n) (join_votes takes pages n))
    where
      before : Page
      before = (join_votes takes pages n).page

      Before : Type 0
      Before = (is_absent (at before rack) ≡ true) ⊎ Taking n (λ b. at (pages b) rack ≡ at before rack)

      go : {w : Vote} → Before → Joining (takes n) (pages n) (join_votes takes pages n) w →
          (is_absent (at w.page rack) ≡ true) ⊎ Taking (suc n) (λ b. at (pages b) rack ≡ at w.page rack)
      go ih (left_out e) = ⊎_elim (λ a. inl a) (λ f. inr (up f)) ih
      go ih (clashed u s e) = inl (ap is_absent (at_empty rack l))
      go ih (taken_in u s e) = ⊎_elim new old (decided (is_absent (at before rack)))
        where
          new : is_absent (at before rack) ≡ true →
              (is_absent (at (union_of before (pages n)) rack) ≡ true) ⊎ Taking (suc n) (λ b. at (pages b) rack ≡ at (union_of before (pages n)) rack)
          new a = inr (n, omega arith, (u, sym (at_union before (pages n) rack l ∙ append_absent (at before rack) (at (pages n) rack) a)))

          keeps : is_absent (at before rack) ≡ false → at (union_of before (pages n)) rack ≡ at before rack
          keeps a = at_union before (pages n) rack l ∙ append_present (at before rack) (at (pages n) rack) a

          old : is_absent (at before rack) ≡ false →
              (is_absent (at (union_of before (pages n)) rack) ≡ true) ⊎ Taking (suc n) (λ b. at (pages b) rack ≡ at (union_of before (pages n)) rack)
          old a =
              ⊎_elim (λ c. absurd (true≢false (sym c ∙ a)))
              (λ f. let l : f.0 < n = f.1 in inr (f.0, omega arith, (f.2.0, f.2.1 ∙ sym (keeps a)))) ih

  -- two pages that take part and are not compatible, where there is no join
  abbrev pub Clash : ℕ → Type 0
  Clash n = (a : ℕ) × (b : ℕ) × ((a < n) × (b < n)) × (((takes a ≡ true) × (takes b ≡ true)) × (compatible_of (pages a) (pages b) ≡ false))

  pub joined_fails : (n : ℕ) → (join_votes takes pages n).some ≡ false → Clash n
  unfolding join_votes compatible_of
  joined_fails zero h = absurd (true≢false h)
  joined_fails (suc n) h = go (joined_fails n) (joining (takes n) (pages n) (join_votes takes pages n)) h
    where
      before : Page
      before = (join_votes takes pages n).page

      higher_up : Clash n → Clash (suc n)
      higher_up c =
          let p : c.0 < n = c.2.0 in
          let q : c.1 < n = c.2.1 in (c.0, c.1, (omega arith, omega arith), c.3)

      -- the line at which the new page clashes is a line of an older page
      older : takes n ≡ true → compatible_of before (pages n) ≡ false → Clash (suc n)
      older u e = found (all_fails most_racks (λ k. compatible_mark (at before k) (at (pages n) k)) e)
        where
          found : (k : ℕ) × (k < most_racks) × (compatible_mark (at before k) (at (pages n) k) ≡ false) → Clash (suc n)
          found (k, l, d) = ⊎_elim none_there one_there (joined_line n k l)
            where
              none_there : is_absent (at before k) ≡ true → Clash (suc n)
              none_there a = absurd (true≢false (sym (absent_fits (at before k) (at (pages n) k) a) ∙ d))

              one_there : Taking n (λ b. at (pages b) k ≡ at before k) → Clash (suc n)
              one_there (b, m, (t, q)) = (
                b,
                n,
                (omega arith, omega arith),
                (
                  (t, u),
                  not_true_false _
                      (λ c. true≢false (sym (compatible_lines (pages b) (pages n) c k l) ∙ ap (λ (x : Mark). compatible_mark x (at (pages n) k)) q ∙ d)),
                ),
              )

      go : {w : Vote} → ((join_votes takes pages n).some ≡ false → Clash n) → Joining (takes n) (pages n) (join_votes takes pages n) w → w.some ≡ false → Clash (suc n)
      go ih (left_out e) s = higher_up (ih s)
      go ih (taken_in u s' e) s = absurd (true≢false s)
      go ih (clashed u s' e) s = older u e

  -- all that take part are compatible where there is a join
  pub joined_compatible : (n : ℕ) → (join_votes takes pages n).some ≡ true → (a b : ℕ) → a < n → b < n → takes a ≡ true → takes b ≡ true →
      compatible_of (pages a) (pages b) ≡ true
  joined_compatible n h a b l m t u =
      lines_compatible (pages a) (pages b)
      ((A.compatible_iff_bounded most_racks (at (pages a)) (at (pages b))).1
      (at (join_votes takes pages n).page, prefix_lines (pages a) _ (joined_above n h a l t), prefix_lines (pages b) _ (joined_above n h b m u)))

  -- the join has lines of the hall's racks alone if the pages have
  pub joined_within : (set : ℕ → Bool) (n : ℕ) → ((b : ℕ) → b < n → takes b ≡ true → within_of set (pages b) ≡ true) → within_of set (join_votes takes pages n).page ≡ true
  unfolding join_votes
  joined_within set zero h = empty_within set
  joined_within set (suc n) h = go (joined_within set n (λ b l. h b (omega arith))) (joining (takes n) (pages n) (join_votes takes pages n))
    where
      go : {w : Vote} → within_of set (join_votes takes pages n).page ≡ true → Joining (takes n) (pages n) (join_votes takes pages n) w → within_of set w.page ≡ true
      go ih (left_out e) = ih
      go ih (taken_in u s e) = union_within set _ (pages n) ih (h n (omega arith) u)
      go ih (clashed u s e) = empty_within set
