-- The chosen pages and the page that counting agrees on: each line of it is one that some majority's extended pages have, and every
-- chosen page is a prefix of it. So two chosen pages are always compatible.
use Rattle.std.proofs.Common.{ℕ, ◌≤◌, ◌<◌, le_trans, eqb, eqb-true, ◌≡◌, refl, sym, ap, subst, ◌∙◌, Bool, true, false, cond, ◌&&◌, true≢false, ⊎_elim}
use Rattle.below.proofs.Tests.{and_true, and_left, and_right, decided, not_false_true}
use Rattle.below.proofs.Counts.{count_grows}
use Rattle.pages.specs.declared.line.Mark.{Mark}
use Rattle.pages.specs.declared.line.Mark.TheVariants.{Absent}
use Rattle.pages.specs.declared.page.Page.{Page}
use Rattle.pages.specs.Lines.{is_absent, prefix_mark}
use Rattle.pages.specs.Racks.{most_racks}
use Rattle.pages.specs.Pages.{at, empty, append_of, prefix_of, compatible_of}
use Rattle.pages.proofs.Lines.{absent_is, prefix_present, prefix_same, compatible_of_bound}
use Rattle.pages.proofs.Filled.{at_page}
use Rattle.pages.proofs.PageLaws.{at_empty, at_append, prefix_lines, lines_prefix, lines_compatible, prefix_of_trans}
use Rattle.pages.proofs.Kept.{at_one_line}
use Rattle.rounds.specs.declared.setup.Setup.{Setup}
use Rattle.rounds.specs.declared.round.Round.{Round}
use Rattle.rounds.specs.Setups.{most_boxes, majority_of}
use Rattle.records.specs.declared.rows.ReaderRow.{ReaderRow}
use Rattle.readers.specs.Learning.{held_in, blank_in, extended, HeldMajority, ChosenPage, Above}
use Rattle.readers.specs.Counting.{carrying, agreed_line, held_page, agreed_page}
use Rattle.readers.proofs.HeldAtRound.{held_at_round}
use Rattle.readers.proofs.AgreedLine.{agreed_enough, enough_carrying, agreed_is}

-- an absent line is a prefix of any
absent_prefix : (a b : Mark) → is_absent a ≡ true → prefix_mark a b ≡ true
absent_prefix a b h = ap (λ (x : Mark). prefix_mark x b) (absent_is a h)

-- a page of one line is a prefix of every page that has it
one_line_prefix : (k : ℕ) (m : Mark) (x : Page) → prefix_mark m (at x k) ≡ true → prefix_of (append_of empty k m) x ≡ true
one_line_prefix k m x h = lines_prefix (append_of empty k m) x (λ j l. rw (at_append empty k m j l, at_empty j l) (go j (eqb j k) refl))
  where
    go : (j : ℕ) (b : Bool) → eqb j k ≡ b → prefix_mark (cond b m Absent) (at x j) ≡ true
    go j true e = subst (λ (i : ℕ). prefix_mark m (at x i) ≡ true) (sym (eqb-true j k e)) h
    go j false e = refl

module _ (s : Setup) (r : ReaderRow) (round : Round) where
  -- the line that counts for a box
  abbrev line_of : ℕ → ℕ → Mark
  line_of k b = at (held_page s r round (blank_in r round) b) k

  -- a held box counts with its extended page, another with no line
  held_line : (k b : ℕ) → held_in s r round b ≡ true → line_of k b ≡ at (extended r round b) k
  unfolding held_page extended
  held_line k b h = rw h

  line_held : (k b : ℕ) → k < most_racks → is_absent (line_of k b) ≡ false → held_in s r round b ≡ true
  unfolding held_page
  line_held k b l h = not_false_true (held_in s r round b) (λ e. true≢false (sym (ap is_absent (none e)) ∙ h))
    where
      none : held_in s r round b ≡ false → line_of k b ≡ Absent
      none e = rw e (at_empty k l)

  agreed_at : (k : ℕ) → k < most_racks → at (agreed_page s r round) k ≡ agreed_line most_boxes (majority_of s.boxes) (line_of k)
  unfolding agreed_page
  agreed_at k l = at_page (λ j. agreed_line most_boxes (majority_of s.boxes) (line_of j)) k l

  -- the held boxes whose extended page has this line
  abbrev pub carriers : ℕ → Mark → ℕ → Bool
  carriers k m b = held_in s r round b && prefix_mark m (at (extended r round b) k)

  pub carriers_line : (k : ℕ) (m : Mark) (b : ℕ) → is_absent m ≡ false → carriers k m b ≡ true → at (extended r round b) k ≡ m
  carriers_line k m b p h = prefix_present m (at (extended r round b) k) (and_right (held_in s r round b) _ h) p

  -- a line that is agreed on is one of a majority
  pub agreed_majority : (k : ℕ) → k < most_racks → is_absent (at (agreed_page s r round) k) ≡ false →
      HeldMajority s r round (carriers k (at (agreed_page s r round) k))
  unfolding carrying
  agreed_majority k l p = subst (λ (x : Mark). HeldMajority s r round (carriers k x)) (sym (agreed_at k l)) (of_agreed (sym (ap is_absent (agreed_at k l)) ∙ p))
    where
      m : Mark
      m = agreed_line most_boxes (majority_of s.boxes) (line_of k)

      counts : is_absent m ≡ false → (b : ℕ) → b < most_boxes → prefix_mark m (line_of k b) ≡ true → carriers k m b ≡ true
      counts q b lb h = and_true held (subst (λ (x : Mark). prefix_mark m x ≡ true) (held_line k b held) h)
        where
          held : held_in s r round b ≡ true
          held = line_held k b l (ap is_absent (prefix_present m (line_of k b) h q) ∙ q)

      of_agreed : is_absent m ≡ false → HeldMajority s r round (carriers k m)
      of_agreed q = record { held = λ b lb h. and_left (held_in s r round b) _ h; enough = le_trans most (count_grows most_boxes _ _ (counts q)) }
        where
          most : majority_of s.boxes ≤ carrying most_boxes (line_of k) m
          most = enough_carrying most_boxes (majority_of s.boxes) (line_of k) m (agreed_enough most_boxes (majority_of s.boxes) (line_of k) q)

  -- every chosen page is a prefix of the page that is agreed on
  pub chosen_prefix : (p : Page) → ChosenPage s r round p → prefix_of p (agreed_page s r round) ≡ true
  unfolding carrying
  chosen_prefix p c = lines_prefix p (agreed_page s r round) (λ k l. ⊎_elim (absent_prefix (at p k) _) (λ q. rw (agreed_at k l) (present k l q)) (decided (is_absent (at p k))))
    where
      most : (k : ℕ) → k < most_racks → majority_of s.boxes ≤ carrying most_boxes (line_of k) (at p k)
      most k l =
          le_trans c.majority.enough
          (count_grows most_boxes c.among (λ b. prefix_mark (at p k) (line_of k b))
          (λ b lb a. subst (λ (x : Mark). prefix_mark (at p k) x ≡ true) (sym (held_line k b (c.majority.held b lb a))) (prefix_lines p (extended r round b) (c.prefix b lb a) k l)))

      present : (k : ℕ) → k < most_racks → is_absent (at p k) ≡ false → prefix_mark (at p k) (agreed_line most_boxes (majority_of s.boxes) (line_of k)) ≡ true
      present k l q =
          prefix_same (at p k) _
          (agreed_is most_boxes s.boxes (line_of k) (at p k) (λ b lb h. (held_at_round s r round b (line_held k b l h)).exists) q (most k l))

  pub chosen_compatible : (p q : Page) → ChosenPage s r round p → ChosenPage s r round q → compatible_of p q ≡ true
  chosen_compatible p q a b =
      lines_compatible p q
      (λ k l. compatible_of_bound (at p k) (at q k) (at (agreed_page s r round) k) (prefix_lines p _ (chosen_prefix p a) k l) (prefix_lines q _ (chosen_prefix q b) k l))

  -- a page is above all chosen pages exactly if it is above the page that is agreed on
  pub agreed_above : (w : Page) → Above s r round w → prefix_of (agreed_page s r round) w ≡ true
  agreed_above w a = lines_prefix (agreed_page s r round) w (λ k l. ⊎_elim (absent_prefix (at (agreed_page s r round) k) _) (present k l) (decided (is_absent (at (agreed_page s r round) k))))
    where
      present : (k : ℕ) → k < most_racks → is_absent (at (agreed_page s r round) k) ≡ false → prefix_mark (at (agreed_page s r round) k) (at w k) ≡ true
      present k l q = subst (λ (x : Mark). prefix_mark x (at w k) ≡ true) (at_one_line k m l) (prefix_lines (append_of empty k m) w (a.chosen (append_of empty k m) one) k l)
        where
          m : Mark
          m = at (agreed_page s r round) k

          one : ChosenPage s r round (append_of empty k m)
          one =
              record {
                among = carriers k m;
                majority = agreed_majority k l q;
                prefix = λ b lb h. one_line_prefix k m (extended r round b) (and_right (held_in s r round b) _ h);
              }

  pub above_agreed : (w : Page) → prefix_of r.page w ≡ true → prefix_of (agreed_page s r round) w ≡ true → Above s r round w
  above_agreed w h a = record { own = h; chosen = λ p c. prefix_of_trans p (agreed_page s r round) w (chosen_prefix p c) a }
