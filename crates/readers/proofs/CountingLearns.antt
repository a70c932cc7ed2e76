-- Counting gives exactly what document 01 says of majorities: its answer has the property, and only its answer.
use Rattle.std.proofs.Common.{ℕ, le_trans, leb, leb-true, le-leb, ◌≡◌, refl, sym, ap, subst, ◌∙◌, Bool, true, false, cond, true≢false}
use Rattle.below.specs.Below.{count}
use Rattle.below.specs.Refusals.{granted, no_majority, lines_clash}
use Rattle.below.proofs.Tests.{not_true_false}
use Rattle.below.proofs.Counts.{count_grows}
use Rattle.pages.specs.declared.page.Page.{Page}
use Rattle.pages.specs.Racks.{racks_below}
use Rattle.pages.specs.Pages.{at, compatible_of, union_of, trivial_of}
use Rattle.pages.proofs.Lines.{compatible_of_bound, prefix_antisym}
use Rattle.pages.proofs.Filled.{page_same, at_page}
use Rattle.pages.proofs.PageLaws.{prefix_lines, lines_compatible, union_left, union_right, union_least}
use Rattle.rounds.specs.declared.setup.Setup.{Setup}
use Rattle.rounds.specs.declared.round.Round.{Round}
use Rattle.rounds.specs.Setups.{most_boxes, majority_of}
use Rattle.records.specs.declared.rows.ReaderRow.{ReaderRow}
use Rattle.records.specs.Answers.{Noted}
use Rattle.readers.specs.Notes.{refused}
use Rattle.readers.specs.Learning.{held_in, HeldMajority, Above, JoinsChosen, Learns, too_few, not_compatible, all_nil, learnt}
use Rattle.readers.specs.Counting.{agreed_page, learnt_of, answered, counted_of}
use Rattle.readers.proofs.ChosenLines.{agreed_above, above_agreed}

module _ (s : Setup) (r : ReaderRow) (round : Round) where
  -- the number of boxes held decides whether there is a majority
  abbrev held_enough : Bool
  held_enough = leb (majority_of s.boxes) (count most_boxes (held_in s r round))

  held_majority : held_enough ≡ true → HeldMajority s r round (held_in s r round)
  held_majority h = record { held = λ b l e. e; enough = leb-true _ _ h }

  majority_held : (among : ℕ → Bool) → HeldMajority s r round among → held_enough ≡ true
  majority_held among m = le-leb _ _ (le_trans m.enough (count_grows most_boxes among (held_in s r round) m.held))

  -- the reader's page with the lines agreed on
  abbrev joined : Page
  joined = union_of r.page (agreed_page s r round)

  above_compatible : (w : Page) → Above s r round w → compatible_of r.page (agreed_page s r round) ≡ true
  above_compatible w a =
      lines_compatible r.page (agreed_page s r round)
      (λ k l. compatible_of_bound (at r.page k) (at (agreed_page s r round) k) (at w k) (prefix_lines r.page w a.own k l) (prefix_lines (agreed_page s r round) w (agreed_above s r round w a) k l))

  joined_above : compatible_of r.page (agreed_page s r round) ≡ true → Above s r round joined
  joined_above h = above_agreed s r round joined (union_left r.page (agreed_page s r round)) (union_right r.page (agreed_page s r round) h)

  joined_joins : compatible_of r.page (agreed_page s r round) ≡ true → JoinsChosen s r round joined
  unfolding union_of
  joined_joins h =
      record {
        above = joined_above h;
        least = λ x a. union_least r.page (agreed_page s r round) x a.own (agreed_above s r round x a);
        whole = page_same _ _ (λ k l. at_page _ k l);
      }

  -- the join is one page
  joins_same : (v w : Page) → JoinsChosen s r round v → JoinsChosen s r round w → v ≡ w
  joins_same v w a b =
      sym a.whole ∙
      page_same (at v) (at w)
      (λ k l. prefix_antisym (at v k) (at w k) (prefix_lines v w (a.least w b.above) k l) (prefix_lines w v (b.least v a.above) k l)) ∙
      b.whole

  pub joins_is : (w : Page) → JoinsChosen s r round w → w ≡ joined
  joins_is w j = joins_same w joined j (joined_joins (above_compatible w j.above))

  -- counting has the property
  pub counted_learns : Learns s r round (counted_of s r round)
  unfolding counted_of learnt_of
  counted_learns = go held_enough (compatible_of r.page (agreed_page s r round)) (trivial_of (racks_below s.racks) joined) refl refl refl
    where
      go : (a b c : Bool) → held_enough ≡ a → compatible_of r.page (agreed_page s r round) ≡ b → trivial_of (racks_below s.racks) joined ≡ c →
          Learns s r round
          (cond a
          (answered r
          (cond b (cond c (record { refusal = lines_clash; row = r.page }) (record { refusal = granted; row = joined }))
          (record { refusal = lines_clash; row = r.page })))
          (refused no_majority r))
      go false b c p q t = too_few (λ among m. true≢false (sym (majority_held among m) ∙ p))
      go true false c p q t = not_compatible (held_in s r round) (held_majority p) (λ w a. true≢false (sym (above_compatible w a) ∙ q))
      go true true true p q t = all_nil (held_in s r round) (held_majority p) joined (joined_joins q) t
      go true true false p q t = learnt (held_in s r round) (held_majority p) joined (joined_joins q) t

  -- and nothing else has
  pub learns_counted : (a : Noted ReaderRow) → Learns s r round a → a ≡ counted_of s r round
  unfolding counted_of learnt_of
  learns_counted _ (too_few none) = sym (rw (not_true_false held_enough (λ e. none (held_in s r round) (held_majority e))))
  learns_counted _ (not_compatible among m none) =
      sym (rw (majority_held among m, not_true_false (compatible_of r.page (agreed_page s r round)) (λ e. none joined (joined_above e))))
  learns_counted _ (all_nil among m w j t) = sym (rw (majority_held among m, above_compatible w j.above, triv))
    where
      triv : trivial_of (racks_below s.racks) joined ≡ true
      triv = subst (λ (x : Page). trivial_of (racks_below s.racks) x ≡ true) (joins_is w j) t
  learns_counted _ (learnt among m w j t) =
      ap (λ (x : Page). answered r (record { refusal = granted; row = x })) same ∙ sym (rw (majority_held among m, above_compatible w j.above, triv))
    where
      same : w ≡ joined
      same = joins_is w j

      triv : trivial_of (racks_below s.racks) joined ≡ false
      triv = subst (λ (x : Page). trivial_of (racks_below s.racks) x ≡ false) same t

  -- the property has one answer
  pub learns_unique : (a b : Noted ReaderRow) → Learns s r round a → Learns s r round b → a ≡ b
  learns_unique a b p q = learns_counted a p ∙ sym (learns_counted b q)

  pub learns_of : {a : Noted ReaderRow} → a ≡ counted_of s r round → Learns s r round a
  learns_of e = subst (Learns s r round) (sym e) counted_learns
