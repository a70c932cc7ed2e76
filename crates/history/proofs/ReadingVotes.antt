-- The vote of step 10 is a vote of its free round, and extends the box's earlier ones there.
use Rattle.std.proofs.Common.{ℕ, ◌≤◌, ◌<◌, le_trans, eqb, ltb, ◌≡◌, refl, sym, ap, ◌∙◌, true, ⊎_elim, List, [], ◌∷◌, eqb-true, ltb-true}
use mathlib.Core.List.Memᴰ
use borrow.Author.Tests.{not-true}
use Rattle.below.proofs.Tests.{and_left, and_right}
use Rattle.pages.specs.declared.line.Reading.{Reading}
use Rattle.pages.specs.declared.line.Mark.{Mark}
use Rattle.pages.specs.declared.line.Mark.TheVariants.{Absent, Nil, Reading as reads}
use Rattle.pages.specs.declared.page.Page.{Page}
use Rattle.pages.specs.Lines.{is_absent, is_reading, append_mark}
use Rattle.pages.specs.Racks.{most_racks, has, outside}
use Rattle.pages.specs.Pages.{at, empty, append_of, nil_extension, prefix_of, valued_of}
use Rattle.history.specs.History.{◌∈◌, Present}
use Rattle.history.specs.Sound.{tried, FreeVote, Chain}
use Rattle.history.specs.Moves.{reading_vote}
use Rattle.history.proofs.Lines.{absent_or_present, at_valued, valued_extends, at_empty}
use Rattle.pages.proofs.PageLaws.{prefix_of_trans}
use Rattle.history.proofs.Lines.{append_extends, append_at, append_lines_lem, extension_extends, extension_lines}
use Rattle.history.proofs.VotesAreChains.{newest_extends}

module _ (P cf : ℕ) (said : ℕ → Mark) (k : ℕ) (v : Reading) where
  -- each present line is what its rack said, or Nil outside cf
  Right : Page → Type 0
  Right p = (j : ℕ) → Present (at p j) → (at p j ≡ tried cf said j) × (j < P)

  right_free : (p : Page) → Right p → valued_of p ≡ true → FreeVote P cf said p
  unfolding Right
  right_free p r w = record { lines = λ j h. (r j h).0; valued = w; within = λ j h. (r j h).1 }

  extension_right : (p : Page) → Right p → Right (nil_extension (outside cf P) p)
  unfolding Right
  extension_right p r j h = ⊎_elim (λ e. rw e (r j (sym (ap is_absent e) ∙ h))) blank (extension_lines (outside cf P) p j h)
    where
      q : Page
      q = nil_extension (outside cf P) p

      blank : (outside cf P j ≡ true) × (at p j ≡ Absent) × (at q j ≡ Nil) → (at q j ≡ tried cf said j) × (j < P)
      blank (o, a, d) = (d ∙ rw (not-true (has cf j) (and_right (ltb j P) _ o)), ltb-true j P (and_left (ltb j P) _ o))

  -- rack k of cf said v
  module _ (small : P ≤ most_racks) (rack : k < P) (fast : has cf k ≡ true) (spoke : said k ≡ reads v) where
    append_right : (p : Page) → Right p → Right (append_of p k (reads v))
    unfolding Right
    append_right p r j h = ⊎_elim (λ e. rw e (r j (sym (ap is_absent e) ∙ h))) spoken (append_lines_lem p k (reads v) j h)
      where
        q : Page
        q = append_of p k (reads v)

        spoken : (eqb j k ≡ true) × (at p j ≡ Absent) × (at q j ≡ reads v) → (at q j ≡ tried cf said j) × (j < P)
        spoken (e, a, d) = rw (d, eqb-true j k e) (rw fast (sym spoke), rack)

    -- the first vote, before Nil is appended
    first : Page
    first = append_of empty k (reads v)

    first_right : Right first
    unfolding Right first
    first_right = append_right empty (λ j h. absurd (absent_or_present (at_empty j) h))

    first_valued : valued_of first ≡ true
    unfolding first
    first_valued =
        let l : k < most_racks = le_trans rack small in
        at_valued first k l (ap is_reading (append_at empty k (reads v) l ∙ ap (λ (m : Mark). append_mark m (reads v)) (at_empty k)))

    pub reading_free : (votes : List Page) → ((q : Page) → q ∈ votes → FreeVote P cf said q) →
        FreeVote P cf said (reading_vote cf P k v votes)
    unfolding Right first
    reading_free [] f =
        let valued = valued_extends first _ (extension_extends (outside cf P) first) first_valued in
        right_free _ (extension_right first first_right) valued
    reading_free (n ∷ older) f =
        let w = f n (Memᴰ.head refl) in
        let valued = valued_extends n _ (append_extends n k (reads v)) w.valued in
        right_free _ (append_right n (λ j h. (w.lines j h, w.within j h))) valued

  pub reading_extends : (votes : List Page) → Chain votes → (q : Page) → q ∈ votes → prefix_of q (reading_vote cf P k v votes) ≡ true
  reading_extends [] c q w = absurd (Memᴰ.not-nil w)
  reading_extends (n ∷ older) c q w = prefix_of_trans q n _ (newest_extends n q older c w) (append_extends n k (reads v))
