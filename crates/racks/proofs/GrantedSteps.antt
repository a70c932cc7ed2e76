-- What a granted step of a rack says: the tests that held, the row and the message. A refused step gives the row back.
use Rattle.std.proofs.Common.{ℕ, arith, ◌≡◌, refl, sym, ap, ◌∙◌, Bool, true, cond, ◌&&◌}
use Rattle.below.specs.Refusals.{unless, granted, wrong_message, wrong_round, already_done}
use Rattle.below.proofs.Granted.{unless_held, unless_later, answer_granted, answer_refused, answer_number}
use Rattle.below.proofs.Tests.{and_left, and_right}
use Rattle.pages.specs.declared.line.Reading as Reading
use Rattle.pages.specs.declared.line.Mark.TheVariants.{Absent, Nil, Reading as reads}
use Rattle.pages.specs.Lines.{is_absent, is_reading}
use Rattle.pages.specs.Racks.{has}
use Rattle.pages.specs.Pages.{at, empty_of}
use Rattle.pages.proofs.Lines.{absent_is, reading_is}
use Rattle.rounds.specs.Rounds.{order_of, is_equal}
use Rattle.rounds.proofs.Ordered.{Lower, above_is, equal_is}
use Rattle.records.specs.declared.messages.Propose.{Propose}
use Rattle.records.specs.declared.messages.TwoS.{TwoS}
use Rattle.records.specs.declared.messages.TwoA.{TwoA}
use Rattle.records.specs.declared.rows.RackRow.{RackRow}
use Rattle.records.specs.Answers.{Answer, Noted}
use Rattle.racks.specs.Steps.{no_two_a, spoken, said, saying, prepare_refusal, prepare_row, prepare_of, fast_refusal, fast_of, blank_refusal, blank_of}

-- 6 prepare: the number answered is that of the first condition that fails
pub prepare_number : (agent : ℕ) (row : RackRow) (m : TwoS) → (prepare_of agent row m).refusal ≡ prepare_refusal row m
unfolding prepare_of
prepare_number agent row m = answer_number (λ (a : Noted RackRow). a.refusal) (prepare_refusal row m) _ _ refl refl

pub record PrepareGranted (agent : ℕ) (row : RackRow) (m : TwoS) : Type 0 where
  pub above : Lower row.prnd m.round
  pub prnd_is : (prepare_of agent row m).row.prnd ≡ m.round
  pub pval_is : (prepare_of agent row m).row.pval.mark ≡ cond (empty_of m.page) Absent (at m.page agent)

pub prepare_granted : (agent : ℕ) (row : RackRow) (m : TwoS) → (prepare_of agent row m).refusal ≡ granted → PrepareGranted agent row m
unfolding prepare_of prepare_refusal prepare_row
prepare_granted agent row m h =
    record {
      above = above_is m.round row.prnd (unless_held _ wrong_round granted (omega arith) number);
      prnd_is = ap (λ (a : Noted RackRow). a.row.prnd) answer;
      pval_is = ap (λ (a : Noted RackRow). a.row.pval.mark) answer;
    }
  where
    number : prepare_refusal row m ≡ granted
    number = sym (prepare_number agent row m) ∙ h

    answer : prepare_of agent row m ≡ record { refusal = granted; row = prepare_row agent m }
    answer = answer_granted (prepare_refusal row m) _ _ number

pub prepare_refused : (agent : ℕ) (row : RackRow) (m : TwoS) → (prepare_refusal row m ≡ granted → ⊥) →
    prepare_of agent row m ≡ record { refusal = prepare_refusal row m; row = row }
unfolding prepare_of
prepare_refused agent row m h = answer_refused (prepare_refusal row m) _ _ h

-- a rack that speaks was not refused, and one that was refused says nothing
spoken_number : (number : ℕ) (row after : RackRow) (sent : TwoA) → (spoken number row after sent).refusal ≡ number
spoken_number number row after sent = answer_number (λ (a : Answer RackRow TwoA). a.refusal) number _ _ refl refl

spoken_granted : (number : ℕ) (row after : RackRow) (sent : TwoA) → number ≡ granted →
    spoken number row after sent ≡ record { refusal = granted; row = after; sent = sent }
spoken_granted number row after sent h = answer_granted number _ _ h

spoken_refused : (number : ℕ) (row after : RackRow) (sent : TwoA) → (number ≡ granted → ⊥) →
    spoken number row after sent ≡ record { refusal = number; row = row; sent = no_two_a }
spoken_refused number row after sent h = answer_refused number _ _ h

-- 7 fast
pub fast_number : (agent : ℕ) (row : RackRow) (m : Propose) → (fast_of agent row m).refusal ≡ fast_refusal agent row
unfolding fast_of
fast_number agent row m = spoken_number (fast_refusal agent row) row _ _

pub record FastGranted (agent : ℕ) (row : RackRow) (m : Propose) : Type 0 where
  pub in_cf : has row.prnd.cf agent ≡ true
  pub silent : row.pval.mark ≡ Absent
  pub row_is : (fast_of agent row m).row ≡ said row (reads m.reading)
  pub sent_is : (fast_of agent row m).sent ≡ saying row (reads m.reading)

pub fast_granted : (agent : ℕ) (row : RackRow) (m : Propose) → (fast_of agent row m).refusal ≡ granted → FastGranted agent row m
unfolding fast_of fast_refusal
fast_granted agent row m h =
    record {
      in_cf = unless_held (has row.prnd.cf agent) wrong_round later (omega arith) number;
      silent =
          absent_is row.pval.mark
          (unless_held _ already_done granted (omega arith) (unless_later (has row.prnd.cf agent) wrong_round later (omega arith) number));
      row_is = ap (λ (a : Answer RackRow TwoA). a.row) answer;
      sent_is = ap (λ (a : Answer RackRow TwoA). a.sent) answer;
    }
  where
    later : ℕ
    later = unless (is_absent row.pval.mark) already_done granted

    number : fast_refusal agent row ≡ granted
    number = sym (fast_number agent row m) ∙ h

    answer : fast_of agent row m ≡ record { refusal = granted; row = said row (reads m.reading); sent = saying row (reads m.reading) }
    answer = spoken_granted (fast_refusal agent row) row _ _ number

pub fast_refused : (agent : ℕ) (row : RackRow) (m : Propose) → (fast_refusal agent row ≡ granted → ⊥) →
    fast_of agent row m ≡ record { refusal = fast_refusal agent row; row = row; sent = no_two_a }
unfolding fast_of
fast_refused agent row m h = spoken_refused (fast_refusal agent row) row _ _ h

-- 8 blank
pub blank_number : (agent : ℕ) (row : RackRow) (m : TwoA) → (blank_of agent row m).refusal ≡ blank_refusal agent row m
unfolding blank_of
blank_number agent row m = spoken_number (blank_refusal agent row m) row _ _

pub record BlankGranted (agent : ℕ) (row : RackRow) (m : TwoA) : Type 0 where
  pub reading : (r : Reading.Reading) × (m.line.mark ≡ reads r)
  pub same : m.round ≡ row.prnd
  pub in_cf : has row.prnd.cf agent ≡ true
  pub silent : row.pval.mark ≡ Absent
  pub row_is : (blank_of agent row m).row ≡ said row Nil
  pub sent_is : (blank_of agent row m).sent ≡ saying row Nil

pub blank_granted : (agent : ℕ) (row : RackRow) (m : TwoA) → (blank_of agent row m).refusal ≡ granted → BlankGranted agent row m
unfolding blank_of blank_refusal
blank_granted agent row m h =
    record {
      reading = reading_is m.line.mark (unless_held (is_reading m.line.mark) wrong_message rest (omega arith) number);
      same = equal_is m.round row.prnd (and_left _ (has row.prnd.cf agent) fits);
      in_cf = and_right (is_equal (order_of m.round row.prnd)) _ fits;
      silent = absent_is row.pval.mark (unless_held _ already_done granted (omega arith) (unless_later fitting wrong_round later (omega arith) number'));
      row_is = ap (λ (a : Answer RackRow TwoA). a.row) answer;
      sent_is = ap (λ (a : Answer RackRow TwoA). a.sent) answer;
    }
  where
    later : ℕ
    later = unless (is_absent row.pval.mark) already_done granted

    fitting : Bool
    fitting = is_equal (order_of m.round row.prnd) && has row.prnd.cf agent

    rest : ℕ
    rest = unless fitting wrong_round later

    number : blank_refusal agent row m ≡ granted
    number = sym (blank_number agent row m) ∙ h

    number' : rest ≡ granted
    number' = unless_later (is_reading m.line.mark) wrong_message rest (omega arith) number

    fits : fitting ≡ true
    fits = unless_held fitting wrong_round later (omega arith) number'

    answer : blank_of agent row m ≡ record { refusal = granted; row = said row Nil; sent = saying row Nil }
    answer = spoken_granted (blank_refusal agent row m) row _ _ number

pub blank_refused : (agent : ℕ) (row : RackRow) (m : TwoA) → (blank_refusal agent row m ≡ granted → ⊥) →
    blank_of agent row m ≡ record { refusal = blank_refusal agent row m; row = row; sent = no_two_a }
unfolding blank_of
blank_refused agent row m h = spoken_refused (blank_refusal agent row m) row _ _ h
