-- The rules are kept: a good row and a good message give, where the step is granted, a good row.
use Rattle.std.proofs.Common.{ℕ, ◌<◌, arith, ltb, lt-ltb, ltb-true, ◌≡◌, refl, sym, ap, subst, ◌∙◌, Bool, true, false, cond, not, ◌&&◌, true≢false, ⊎_elim}
use borrow.Author.Tests.{not-true}
use Rattle.below.specs.Refusals.{granted}
use Rattle.below.proofs.Tests.{and_true, and_left, and_right, and_false_left, and_false_right, decided, not_true_false, all_at, all_true}
use Rattle.pages.specs.declared.line.Mark.{Mark}
use Rattle.pages.specs.declared.page.Page.{Page}
use Rattle.pages.specs.Lines.{is_absent, mark_in_range}
use Rattle.pages.specs.Racks.{most_racks, has, racks_below}
use Rattle.pages.specs.Pages.{at, valued_of, trivial_of}
use Rattle.pages.proofs.Lines.{absent_is}
use Rattle.pages.proofs.PageLaws.{nil_same, within_absent, within_range, lines_within}
use Rattle.pages.proofs.Kept.{nil_within}
use Rattle.rounds.specs.declared.setup.Setup.{Setup}
use Rattle.rounds.specs.declared.round.Round.{Round}
use Rattle.rounds.specs.Setups.{most_boxes}
use Rattle.rounds.specs.Rounds.{round_in_range, same_round}
use Rattle.below.proofs.Counts.{count_some}
use Rattle.records.specs.declared.messages.TwoA.{TwoA}
use Rattle.records.specs.declared.messages.TwoB.{TwoB}
use Rattle.records.specs.declared.rows.ReaderRow.{ReaderRow}
use Rattle.records.specs.Slots.{no_round, held_at, blank_at}
use Rattle.records.specs.Rules.{page_rules, nothing_held, held_rules, blank_rules, all_held, all_blanks, two_a_rules, two_b_rules, reader_rules}
use Rattle.records.specs.Answers.{Noted}
use Rattle.readers.specs.Notes.{note_vote_row, note_vote_of, note_blank_row, note_blank_of}
use Rattle.readers.specs.Learning.{held_in, blank_in, extended, with_page, Learns}
use Rattle.readers.proofs.GrantedNotes.{note_vote_granted, note_vote_held, note_blank_granted, note_blank_held}
use Rattle.readers.proofs.HeldAtRound.{held_at_round, blank_at_round}
use Rattle.readers.proofs.LearntLines.{MajorityLine, learnt_lines, LearnGranted, learn_granted}

-- the parts of a reader's row
pub record ReaderParts (s : Setup) (r : ReaderRow) : Type 0 where
  pub page_within : page_rules s r.page ≡ true
  pub not_trivial : trivial_of (racks_below s.racks) r.page ≡ false
  pub held_rules_lem : (b : ℕ) → b < most_boxes → held_rules s b (held_at r b) ≡ true
  pub blank_rules_lem : (k : ℕ) → k < most_racks → blank_rules s k (blank_at r k) ≡ true

pub reader_parts : (s : Setup) (agent : ℕ) (r : ReaderRow) → reader_rules s agent r ≡ true → ReaderParts s r
unfolding reader_rules all_held all_blanks
reader_parts s agent r h =
    record {
      page_within = and_left _ (not (trivial_of (racks_below s.racks) r.page)) page_good;
      not_trivial = not-true _ (and_right (page_rules s r.page) _ page_good);
      held_rules_lem = all_at most_boxes (λ b. held_rules s b (held_at r b)) (and_right of_page (all_held s r) (and_left _ (all_blanks s r) h));
      blank_rules_lem = all_at most_racks (λ k. blank_rules s k (blank_at r k)) (and_right (of_page && all_held s r) (all_blanks s r) h);
    }
  where
    of_page : Bool
    of_page = page_rules s r.page && not (trivial_of (racks_below s.racks) r.page)

    page_good : of_page ≡ true
    page_good = and_left of_page (all_held s r) (and_left _ (all_blanks s r) h)

parts_reader : (s : Setup) (agent : ℕ) (r : ReaderRow) → ReaderParts s r → reader_rules s agent r ≡ true
unfolding reader_rules all_held all_blanks
parts_reader s agent r p =
    and_true
    (and_true (and_true p.page_within (ap not p.not_trivial)) (all_true most_boxes (λ b. held_rules s b (held_at r b)) p.held_rules_lem))
    (all_true most_racks (λ k. blank_rules s k (blank_at r k)) p.blank_rules_lem)

-- 11 note vote, of a box of the hall
pub note_vote_keeps : (s : Setup) (agent : ℕ) (r : ReaderRow) (box : ℕ) (m : TwoB) → box < s.boxes → reader_rules s agent r ≡ true → two_b_rules s box m ≡ true →
    (note_vote_of r box m).refusal ≡ granted → reader_rules s agent (note_vote_of r box m).row ≡ true
unfolding two_b_rules held_rules note_vote_row blank_at
note_vote_keeps s agent r box m l rules good h =
    ap (reader_rules s agent) (note_vote_granted r box m h).row_is ∙
    parts_reader s agent (note_vote_row r box m)
    (record {
      page_within = old.page_within;
      not_trivial = old.not_trivial;
      held_rules_lem = λ b lb. ⊎_elim (λ e. ap (held_rules s b) e ∙ old.held_rules_lem b lb) (λ e. ap (held_rules s b) e.1 ∙ put b e.0) (note_vote_held r box m b);
      blank_rules_lem = old.blank_rules_lem;
    })
  where
    old : ReaderParts s r
    old = reader_parts s agent r rules

    put : (b : ℕ) → b ≡ box → held_rules s b (record { filled = true; round = m.round; page = m.page }) ≡ true
    put b e =
        and_true
        (and_true
        (and_true (lt-ltb b s.boxes (omega (arith, e))) (and_left _ (page_rules s m.page) (and_left _ (valued_of m.page) good)))
        (and_right (round_in_range s m.round) _ (and_left _ (valued_of m.page) good)))
        (and_right (round_in_range s m.round && page_rules s m.page) _ good)

-- 12 note blank, of a rack of the hall
pub note_blank_keeps : (s : Setup) (agent : ℕ) (r : ReaderRow) (rack : ℕ) (m : TwoA) → rack < s.racks → reader_rules s agent r ≡ true →
    two_a_rules s rack m ≡ true → (note_blank_of r rack m).refusal ≡ granted → reader_rules s agent (note_blank_of r rack m).row ≡ true
unfolding two_a_rules blank_rules note_blank_row held_at
note_blank_keeps s agent r rack m l rules good h =
    ap (reader_rules s agent) (note_blank_granted r rack m h).row_is ∙
    parts_reader s agent (note_blank_row r rack m)
    (record {
      page_within = old.page_within;
      not_trivial = old.not_trivial;
      held_rules_lem = old.held_rules_lem;
      blank_rules_lem = λ k lk. ⊎_elim (λ e. ap (blank_rules s k) e ∙ old.blank_rules_lem k lk) (λ e. ap (blank_rules s k) e.1 ∙ put k e.0) (note_blank_held r rack m k);
    })
  where
    old : ReaderParts s r
    old = reader_parts s agent r rules

    put : (k : ℕ) → k ≡ rack → blank_rules s k (record { filled = true; round = m.round }) ≡ true
    put k e =
        and_true (lt-ltb k s.racks (omega (arith, e)))
        (and_left _ (mark_in_range m.line.mark) (and_left _ (has m.round.cf rack) (and_left _ (not (is_absent m.line.mark)) good)))

-- the extended page of a held box has lines of the hall's racks alone
extended_within : (s : Setup) (r : ReaderRow) (round : Round) (b : ℕ) → ReaderParts s r → b < most_boxes → held_in s r round b ≡ true →
    page_rules s (extended r round b) ≡ true
unfolding extended held_rules blank_rules
extended_within s r round b p lb h =
    ap (page_rules s) (nil_same (blank_in r round) over (held_at r b).page (λ k l. sym (there k (lt-ltb k most_racks l)))) ∙
    nil_within (racks_below s.racks) over (held_at r b).page page_good outside
  where
    over : ℕ → Bool
    over k = blank_in r round k && ltb k most_racks

    there : (k : ℕ) → ltb k most_racks ≡ true → blank_in r round k && ltb k most_racks ≡ blank_in r round k
    there k e = rw e (and_yes (blank_in r round k))
      where
        and_yes : (x : Bool) → x && true ≡ x
        and_yes true = refl
        and_yes false = refl

    page_good : page_rules s (held_at r b).page ≡ true
    page_good =
        and_right (ltb b s.boxes && round_in_range s (held_at r b).round) _
        (and_left _ (valued_of (held_at r b).page)
        (subst (λ (x : Bool). cond x (ltb b s.boxes && round_in_range s (held_at r b).round && page_rules s (held_at r b).page && valued_of (held_at r b).page) (nothing_held (held_at r b)) ≡ true)
        (held_at_round s r round b h).filled (p.held_rules_lem b lb)))

    outside : (k : ℕ) → racks_below s.racks k ≡ false → over k ≡ false
    outside k o = ⊎_elim (λ e. and_false_left (ltb k most_racks) (not_blank (ltb-true k most_racks e))) (λ e. and_false_right (blank_in r round k) e) (decided (ltb k most_racks))
      where
        not_blank : k < most_racks → blank_in r round k ≡ false
        not_blank l =
            not_true_false (blank_in r round k)
            (λ e.
            true≢false
            (sym
            (and_left (ltb k s.racks) _
            (subst (λ (x : Bool). cond x (ltb k s.racks && round_in_range s (blank_at r k).round) (same_round (blank_at r k).round no_round) ≡ true)
            (blank_at_round r round k e).filled (p.blank_rules_lem k l))) ∙
            o))

-- a line as a good page has it: none of a rack that the hall has not, and a reading in range
abbrev GoodLine : Setup → ℕ → Mark → Type 0
GoodLine s k m = (racks_below s.racks k ≡ false → is_absent m ≡ true) × (mark_in_range m ≡ true)

good_line : (s : Setup) (p : Page) → page_rules s p ≡ true → (k : ℕ) → k < most_racks → GoodLine s k (at p k)
good_line s p h k l = (within_absent (racks_below s.racks) p h k l, within_range (racks_below s.racks) p h k l)

-- 13 learn
pub learn_keeps : (s : Setup) (agent : ℕ) (r : ReaderRow) (round : Round) (a : Noted ReaderRow) → reader_rules s agent r ≡ true → Learns s r round a →
    a.refusal ≡ granted → reader_rules s agent a.row ≡ true
unfolding held_at blank_at
learn_keeps s agent r round a rules learns h =
    ap (reader_rules s agent) facts.row_is ∙
    parts_reader s agent (with_page r facts.w)
    (record {
      page_within = lines_within (racks_below s.racks) facts.w (λ k l. (line k l).0) (λ k l. (line k l).1);
      not_trivial = facts.not_trivial;
      held_rules_lem = old.held_rules_lem;
      blank_rules_lem = old.blank_rules_lem;
    })
  where
    old : ReaderParts s r
    old = reader_parts s agent r rules

    facts : LearnGranted s r round a
    facts = learn_granted s r round a learns h

    of_majority : (k : ℕ) (m : Mark) → k < most_racks → MajorityLine s r round k m → GoodLine s k m
    of_majority k m l c = subst (GoodLine s k) (c.line b.0 b.1 b.2) (good_line s (extended r round b.0) (extended_within s r round b.0 old b.1 (c.majority.held b.0 b.1 b.2)) k l)
      where
        b : (j : ℕ) × (j < most_boxes) × (c.among j ≡ true)
        b = count_some most_boxes c.among (omega (arith, c.majority.enough))

    line : (k : ℕ) → k < most_racks → GoodLine s k (at facts.w k)
    line k l = ⊎_elim absent present (decided (is_absent (at facts.w k)))
      where
        absent : is_absent (at facts.w k) ≡ true → GoodLine s k (at facts.w k)
        absent e = (λ o. e, ap mark_in_range (absent_is (at facts.w k) e))

        present : is_absent (at facts.w k) ≡ false → GoodLine s k (at facts.w k)
        present e =
            ⊎_elim (λ own. subst (GoodLine s k) own (good_line s r.page old.page_within k l)) (of_majority k (at facts.w k) l)
            (learnt_lines s r round facts.w facts.joins k l e)
