-- The page that opens a round, line by line: with no vote it is the empty page; else the present line of a vote of the highest vrnd,
-- Nil where all of them are absent; and 9 is given exactly if two of them are not compatible.
use Rattle.std.proofs.Common.{ℕ, ◌≤◌, ◌<◌, lt-ltb, le-ltb, ◌≡◌, refl, sym, ap, subst, ◌∙◌, Bool, true, false, cond, true≢false, ⊎_elim, ◌↔◌}
use Rattle.below.proofs.Tests.{decided, not_false_true}
use Rattle.pages.specs.declared.line.Mark.{Mark}
use Rattle.pages.specs.declared.line.Mark.TheVariants.{Absent, Nil}
use Rattle.pages.specs.declared.page.Page.{Page}
use Rattle.pages.specs.Lines.{is_absent, append_mark, prefix_mark}
use Rattle.pages.specs.Racks.{most_racks, racks_below}
use Rattle.pages.specs.Pages.{at, empty, nil_extension, prefix_of, compatible_of}
use Rattle.pages.proofs.Lines.{absent_is, append_absent, append_present, prefix_antisym}
use Rattle.pages.proofs.PageLaws.{at_nil, prefix_lines}
use Rattle.rounds.specs.declared.setup.Setup.{Setup}
use Rattle.rounds.specs.Setups.{most_boxes}
use Rattle.records.specs.declared.rows.CoordinatorRow.{CoordinatorRow}
use Rattle.records.specs.Slots.{heard_at}
use Rattle.coordinators.specs.Steps.{any_vote, highest, joined_votes, open_page}
use Rattle.coordinators.proofs.JoinedVotes.{joined_above, joined_line, joined_fails, joined_compatible, Clash}

-- a heard vote of the highest vrnd, and its page
abbrev pub votes_highest : CoordinatorRow → ℕ → Bool
votes_highest r box = highest r (heard_at r box)

abbrev pub voted_page : CoordinatorRow → ℕ → Page
voted_page r box = (heard_at r box).vote.page

-- with no vote among all heard, the empty page
pub open_no_vote : (s : Setup) (r : CoordinatorRow) → any_vote r ≡ false → open_page s r ≡ empty
unfolding open_page
open_no_vote s r h = rw h

pub open_some_vote : (s : Setup) (r : CoordinatorRow) → any_vote r ≡ true → open_page s r ≡ nil_extension (racks_below s.racks) (joined_votes r).page
unfolding open_page
open_some_vote s r h = rw h

-- the join is above each vote of the highest vrnd
pub joined_above_votes : (r : CoordinatorRow) → (joined_votes r).some ≡ true → (b : ℕ) → b < most_boxes → votes_highest r b ≡ true →
    prefix_of (voted_page r b) (joined_votes r).page ≡ true
unfolding joined_votes
joined_above_votes r h b l t = joined_above (votes_highest r) (voted_page r) most_boxes h b l t

-- below an absent line there is only an absent one
below_absent : (a b : Mark) → prefix_mark a b ≡ true → is_absent b ≡ true → is_absent a ≡ true
below_absent a b h e = ap is_absent (prefix_antisym a Absent (subst (λ (x : Mark). prefix_mark a x ≡ true) (absent_is b e) h) refl)

-- the line of a rack of the hall: that of a vote of the highest vrnd, or Nil where all of them are absent there
pub data OpenLine (s : Setup) (r : CoordinatorRow) (rack : ℕ) : Type 0 where
  of_vote : (b : ℕ) → b < most_boxes → votes_highest r b ≡ true → is_absent (at (voted_page r b) rack) ≡ false →
      at (open_page s r) rack ≡ at (voted_page r b) rack → OpenLine s r rack
  all_absent : ((b : ℕ) → b < most_boxes → votes_highest r b ≡ true → is_absent (at (voted_page r b) rack) ≡ true) → at (open_page s r) rack ≡ Nil →
      OpenLine s r rack

pub open_line : (s : Setup) (r : CoordinatorRow) (rack : ℕ) → any_vote r ≡ true → (joined_votes r).some ≡ true → rack < s.racks → rack < most_racks → OpenLine s r rack
unfolding joined_votes
open_line s r rack v j p l = ⊎_elim absent present (decided (is_absent (at (joined_votes r).page rack)))
  where
    line_is : at (open_page s r) rack ≡ append_mark (at (joined_votes r).page rack) Nil
    line_is =
        ap (λ (x : Page). at x rack) (open_some_vote s r v) ∙ at_nil (racks_below s.racks) (joined_votes r).page rack l ∙
        ap (λ (b : Bool). cond b (append_mark (at (joined_votes r).page rack) Nil) (at (joined_votes r).page rack)) (lt-ltb rack s.racks p)

    absent : is_absent (at (joined_votes r).page rack) ≡ true → OpenLine s r rack
    absent a =
        all_absent
        (λ b m t. below_absent (at (voted_page r b) rack) (at (joined_votes r).page rack) (prefix_lines (voted_page r b) (joined_votes r).page (joined_above_votes r j b m t) rack l) a)
        (line_is ∙ append_absent (at (joined_votes r).page rack) Nil a)

    present : is_absent (at (joined_votes r).page rack) ≡ false → OpenLine s r rack
    present a =
        ⊎_elim (λ c. absurd (true≢false (sym c ∙ a)))
        (λ f.
        of_vote f.0 f.1 f.2.0 (ap is_absent f.2.1 ∙ a)
        (line_is ∙ append_present (at (joined_votes r).page rack) Nil a ∙ sym f.2.1))
        (joined_line (votes_highest r) (voted_page r) most_boxes rack l)

-- lines of racks that the hall has not are absent if they are so in the votes
pub open_past : (s : Setup) (r : CoordinatorRow) (rack : ℕ) → any_vote r ≡ true → s.racks ≤ rack → rack < most_racks →
    ((b : ℕ) → b < most_boxes → votes_highest r b ≡ true → is_absent (at (voted_page r b) rack) ≡ true) → is_absent (at (open_page s r) rack) ≡ true
unfolding joined_votes
open_past s r rack v p l h = ap is_absent line_is ∙ ⊎_elim (λ a. a) (λ f. ap is_absent (sym f.2.1) ∙ h f.0 f.1 f.2.0) (joined_line (votes_highest r) (voted_page r) most_boxes rack l)
  where
    line_is : at (open_page s r) rack ≡ at (joined_votes r).page rack
    line_is =
        ap (λ (x : Page). at x rack) (open_some_vote s r v) ∙ at_nil (racks_below s.racks) (joined_votes r).page rack l ∙
        ap (λ (b : Bool). cond b (append_mark (at (joined_votes r).page rack) Nil) (at (joined_votes r).page rack)) (le-ltb rack s.racks p)

-- 9 exactly if two votes of the highest vrnd are not compatible
pub open_joins : (r : CoordinatorRow) → ((joined_votes r).some ≡ true) ↔
    ((a b : ℕ) → a < most_boxes → b < most_boxes → votes_highest r a ≡ true → votes_highest r b ≡ true → compatible_of (voted_page r a) (voted_page r b) ≡ true)
unfolding joined_votes
open_joins r = (
  λ h a b l m t u. joined_compatible (votes_highest r) (voted_page r) most_boxes h a b l m t u,
  λ h. not_false_true _ (λ e. never h (joined_fails (votes_highest r) (voted_page r) most_boxes e)),
)
  where
    never : ((a b : ℕ) → a < most_boxes → b < most_boxes → votes_highest r a ≡ true → votes_highest r b ≡ true → compatible_of (voted_page r a) (voted_page r b) ≡ true) →
        Clash (votes_highest r) (voted_page r) most_boxes → ⊥
    never h c = true≢false (sym (h c.0 c.1 c.2.0 c.2.1 c.3.0.0 c.3.0.1) ∙ c.3.1)
