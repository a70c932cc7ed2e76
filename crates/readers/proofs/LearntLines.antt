-- What a granted learn says: the page is the join, and each of its lines is the reader's old one or one that a majority's extended pages
-- have. A refused learn gives the row back.
use Rattle.std.proofs.Common.{ℕ, ◌≤◌, ◌<◌, ◌≡◌, refl, sym, ap, subst, ◌∙◌, Bool, true, false, ◌⊎◌, inl, inr, ⊎_elim, arith}
use Rattle.below.specs.Below.{count}
use Rattle.below.specs.Refusals.{granted}
use Rattle.below.proofs.Tests.{decided}
use Rattle.pages.specs.declared.line.Mark.{Mark}
use Rattle.pages.specs.declared.page.Page.{Page}
use Rattle.pages.specs.Lines.{is_absent, append_mark}
use Rattle.pages.specs.Racks.{most_racks, racks_below}
use Rattle.pages.specs.Pages.{at, trivial_of}
use Rattle.pages.proofs.Lines.{append_present, append_absent}
use Rattle.pages.proofs.PageLaws.{at_union}
use Rattle.rounds.specs.declared.setup.Setup.{Setup}
use Rattle.rounds.specs.declared.round.Round.{Round}
use Rattle.rounds.specs.Setups.{most_boxes, majority_of}
use Rattle.records.specs.declared.rows.ReaderRow.{ReaderRow}
use Rattle.records.specs.Answers.{Noted}
use Rattle.readers.specs.Learning.{extended, HeldMajority, JoinsChosen, with_page, Learns, too_few, not_compatible, all_nil, learnt}
use Rattle.readers.specs.Counting.{agreed_page}
use Rattle.readers.proofs.HeldAtRound.{held_at_round}
use Rattle.below.proofs.Counts.{count_cut}
use Rattle.readers.proofs.ChosenLines.{carriers, carriers_line, agreed_majority}
use Rattle.readers.proofs.CountingLearns.{joins_is}

-- a majority, all held at exactly that round, whose extended pages have this line
pub record MajorityLine (s : Setup) (r : ReaderRow) (round : Round) (k : ℕ) (m : Mark) : Type 0 where
  pub among : ℕ → Bool
  pub majority : HeldMajority s r round among
  pub line : (box : ℕ) → box < most_boxes → among box ≡ true → at (extended r round box) k ≡ m

module _ (s : Setup) (r : ReaderRow) (round : Round) where
  -- a line of the join is the reader's own, or one of a majority
  pub learnt_lines : (w : Page) → JoinsChosen s r round w → (k : ℕ) → k < most_racks → is_absent (at w k) ≡ false →
      (at r.page k ≡ at w k) ⊎ MajorityLine s r round k (at w k)
  learnt_lines w j k l p = subst (λ (x : Mark). (at r.page k ≡ x) ⊎ MajorityLine s r round k x) (sym here) (⊎_elim absent present (decided (is_absent own)))
    where
      own : Mark
      own = at r.page k

      agreed : Mark
      agreed = at (agreed_page s r round) k

      here : at w k ≡ append_mark own agreed
      here = ap (λ (x : Page). at x k) (joins_is s r round w j) ∙ at_union r.page (agreed_page s r round) k l

      present : is_absent own ≡ false → (own ≡ append_mark own agreed) ⊎ MajorityLine s r round k (append_mark own agreed)
      present q = inl (sym (append_present own agreed q))

      absent : is_absent own ≡ true → (own ≡ append_mark own agreed) ⊎ MajorityLine s r round k (append_mark own agreed)
      absent q = inr (subst (MajorityLine s r round k) (sym (append_absent own agreed q)) majority_line)
        where
          there : is_absent agreed ≡ false
          there = sym (ap is_absent (here ∙ append_absent own agreed q)) ∙ p

          majority_line : MajorityLine s r round k agreed
          majority_line =
              record { among = carriers s r round k agreed; majority = agreed_majority s r round k l there; line = λ b lb h. carriers_line s r round k agreed b there h }

  -- such a majority, counted over the boxes of the hall
  pub majority_of_boxes : (among : ℕ → Bool) → HeldMajority s r round among → s.boxes ≤ most_boxes → majority_of s.boxes ≤ count s.boxes among
  majority_of_boxes among m l =
      subst (λ (x : ℕ). majority_of s.boxes ≤ x) (count_cut most_boxes s.boxes among l (λ b lb h. (held_at_round s r round b (m.held b lb h)).exists)) m.enough

  -- 13 learn, granted
  pub record LearnGranted (a : Noted ReaderRow) : Type 0 where
    pub w : Page
    pub joins : JoinsChosen s r round w
    pub not_trivial : trivial_of (racks_below s.racks) w ≡ false
    pub row_is : a.row ≡ with_page r w

  pub learn_granted : (a : Noted ReaderRow) → Learns s r round a → a.refusal ≡ granted → LearnGranted a
  learn_granted _ (too_few none) h = absurd (omega arith)
  learn_granted _ (not_compatible among m none) h = absurd (omega arith)
  learn_granted _ (all_nil among m w j t) h = absurd (omega arith)
  learn_granted _ (learnt among m w j t) h = record { w = w; joins = j; not_trivial = t; row_is = refl }

  -- so each line of the page after a granted learn is the reader's old one, or one of a majority
  pub granted_lines : (a : Noted ReaderRow) → Learns s r round a → a.refusal ≡ granted → (k : ℕ) → k < most_racks → is_absent (at a.row.page k) ≡ false →
      (at r.page k ≡ at a.row.page k) ⊎ MajorityLine s r round k (at a.row.page k)
  granted_lines a learns h k l p =
      subst (λ (w : Page). (at r.page k ≡ at w k) ⊎ MajorityLine s r round k (at w k)) (sym page_is)
      (learnt_lines facts.w facts.joins k l (subst (λ (w : Page). is_absent (at w k) ≡ false) page_is p))
    where
      facts : LearnGranted a
      facts = learn_granted a learns h

      page_is : a.row.page ≡ facts.w
      page_is = ap (λ (x : ReaderRow). x.page) facts.row_is

  pub learn_refused : (a : Noted ReaderRow) → Learns s r round a → (a.refusal ≡ granted → ⊥) → a.row ≡ r
  learn_refused _ (too_few none) h = refl
  learn_refused _ (not_compatible among m none) h = refl
  learn_refused _ (all_nil among m w j t) h = refl
  learn_refused _ (learnt among m w j t) h = absurd (h refl)
