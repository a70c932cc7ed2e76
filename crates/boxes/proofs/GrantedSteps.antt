-- What a granted step of a box says: the tests that held, the row and the message. A refused step gives the row back.
use Rattle.std.proofs.Common.{ℕ, arith, ◌≡◌, refl, sym, ap, subst, ◌∙◌, true, false, not, ◌&&◌, ◌||◌, ◌⊎◌, ⊎_elim}
use borrow.Author.Tests.{not-true}
use Rattle.below.specs.Refusals.{unless, granted, wrong_message, wrong_round, already_done}
use Rattle.below.proofs.Granted.{unless_held, unless_later, answer_granted, answer_refused, answer_number}
use Rattle.below.proofs.Tests.{and_left, and_right, or_true_left, or_true_right}
use Rattle.pages.specs.declared.line.Reading as Reading
use Rattle.pages.specs.declared.line.Mark.TheVariants.{Reading as reads}
use Rattle.pages.specs.declared.page.Page.{Page}
use Rattle.pages.specs.Lines.{is_reading}
use Rattle.pages.specs.Racks.{outside}
use Rattle.pages.specs.Pages.{empty, empty_of, append_of, nil_extension}
use Rattle.pages.proofs.Lines.{reading_is}
use Rattle.rounds.specs.declared.round.Round.{Round}
use Rattle.rounds.specs.declared.setup.Setup.{Setup}
use Rattle.rounds.specs.declared.order.Order.{Order}
use Rattle.rounds.specs.Rounds.{order_of, is_below, is_equal, is_clash, is_up_to}
use Rattle.rounds.proofs.Ordered.{Lower, above_is, up_to_is, lower_below, equal_order}
use Rattle.records.specs.declared.messages.OneA.{OneA}
use Rattle.records.specs.declared.messages.OneB.{OneB}
use Rattle.records.specs.declared.messages.TwoS.{TwoS}
use Rattle.records.specs.declared.messages.TwoA.{TwoA}
use Rattle.records.specs.declared.messages.TwoB.{TwoB}
use Rattle.records.specs.declared.rows.BoxRow.{BoxRow}
use Rattle.records.specs.Answers.{Answer}
use Rattle.boxes.specs.Steps.{no_one_b, no_two_b, join_refusal, join_row, join_sent, join_of, may_vote, voted, telling, taken, take_page_refusal, take_page_of, take_reading_refusal, take_reading_page, take_reading_of}

-- 3 join: the number answered is that of the first condition that fails
pub join_number : (row : BoxRow) (m : OneA) → (join_of row m).refusal ≡ join_refusal row m
unfolding join_of
join_number row m = answer_number (λ (a : Answer BoxRow OneB). a.refusal) (join_refusal row m) _ _ refl refl

pub record JoinGranted (row : BoxRow) (m : OneA) : Type 0 where
  pub above : Lower row.rnd m.round
  pub row_is : (join_of row m).row ≡ record { rnd = m.round; vrnd = row.vrnd; vval = row.vval }
  pub sent_is : (join_of row m).sent ≡ record { round = m.round; vrnd = row.vrnd; vote = row.vval }

pub join_granted : (row : BoxRow) (m : OneA) → (join_of row m).refusal ≡ granted → JoinGranted row m
unfolding join_of join_refusal join_row join_sent
join_granted row m h =
    record {
      above = above_is m.round row.rnd (unless_held _ wrong_round granted (omega arith) number);
      row_is = ap (λ (a : Answer BoxRow OneB). a.row) answer;
      sent_is = ap (λ (a : Answer BoxRow OneB). a.sent) answer;
    }
  where
    number : join_refusal row m ≡ granted
    number = sym (join_number row m) ∙ h

    answer : join_of row m ≡ record { refusal = granted; row = join_row row m; sent = join_sent row m }
    answer = answer_granted (join_refusal row m) _ _ number

pub join_refused : (row : BoxRow) (m : OneA) → (join_refusal row m ≡ granted → ⊥) →
    join_of row m ≡ record { refusal = join_refusal row m; row = row; sent = no_one_b }
unfolding join_of
join_refused row m h = answer_refused (join_refusal row m) _ _ h

-- a box that votes was not refused, and one that was refused tells nothing
taken_number : (number : ℕ) (row : BoxRow) (round : Round) (page : Page) → (taken number row round page).refusal ≡ number
taken_number number row round page = answer_number (λ (a : Answer BoxRow TwoB). a.refusal) number _ _ refl refl

taken_granted : (number : ℕ) (row : BoxRow) (round : Round) (page : Page) → number ≡ granted →
    taken number row round page ≡ record { refusal = granted; row = voted round page; sent = telling round page }
taken_granted number row round page h = answer_granted number _ _ h

taken_refused : (number : ℕ) (row : BoxRow) (round : Round) (page : Page) → (number ≡ granted → ⊥) →
    taken number row round page ≡ record { refusal = number; row = row; sent = no_two_b }
taken_refused number row round page h = answer_refused number _ _ h

-- the round is one that the box may vote in
pub may_up_to : (row : BoxRow) (round : Round) → may_vote row round ≡ true → Lower row.rnd round ⊎ (row.rnd ≡ round)
may_up_to row round h = up_to_is row.rnd round (and_left _ (not (is_clash (order_of row.vrnd round))) h)

pub may_no_clash : (row : BoxRow) (round : Round) → may_vote row round ≡ true → is_clash (order_of row.vrnd round) ≡ false
may_no_clash row round h = not-true _ (and_right (is_up_to (order_of row.rnd round)) _ h)

-- 9 take page
pub take_page_number : (row : BoxRow) (m : TwoS) → (take_page_of row m).refusal ≡ take_page_refusal row m
unfolding take_page_of
take_page_number row m = taken_number (take_page_refusal row m) row m.round m.page

pub record TakePageGranted (row : BoxRow) (m : TwoS) : Type 0 where
  pub some_line : empty_of m.page ≡ false
  pub may : may_vote row m.round ≡ true
  pub no_vote_yet : row.vrnd ≡ m.round → row.vval.some ≡ false
  pub row_is : (take_page_of row m).row ≡ voted m.round m.page
  pub sent_is : (take_page_of row m).sent ≡ telling m.round m.page

pub take_page_granted : (row : BoxRow) (m : TwoS) → (take_page_of row m).refusal ≡ granted → TakePageGranted row m
unfolding take_page_of take_page_refusal
take_page_granted row m h =
    record {
      some_line = not-true (empty_of m.page) (unless_held _ wrong_message rest (omega arith) number);
      may = unless_held _ wrong_round later (omega arith) number';
      no_vote_yet =
          λ e.
          subst (λ (o : Order). is_equal o && row.vval.some ≡ false) (ap (order_of row.vrnd) (sym e) ∙ equal_order row.vrnd)
          (not-true _ (unless_held _ already_done granted (omega arith) (unless_later (may_vote row m.round) wrong_round later (omega arith) number')));
      row_is = ap (λ (a : Answer BoxRow TwoB). a.row) answer;
      sent_is = ap (λ (a : Answer BoxRow TwoB). a.sent) answer;
    }
  where
    later : ℕ
    later = unless (not (is_equal (order_of row.vrnd m.round) && row.vval.some)) already_done granted

    rest : ℕ
    rest = unless (may_vote row m.round) wrong_round later

    number : take_page_refusal row m ≡ granted
    number = sym (take_page_number row m) ∙ h

    number' : rest ≡ granted
    number' = unless_later (not (empty_of m.page)) wrong_message rest (omega arith) number

    answer : take_page_of row m ≡ record { refusal = granted; row = voted m.round m.page; sent = telling m.round m.page }
    answer = taken_granted (take_page_refusal row m) row m.round m.page number

pub take_page_refused : (row : BoxRow) (m : TwoS) → (take_page_refusal row m ≡ granted → ⊥) →
    take_page_of row m ≡ record { refusal = take_page_refusal row m; row = row; sent = no_two_b }
unfolding take_page_of
take_page_refused row m h = taken_refused (take_page_refusal row m) row m.round m.page h

-- 10 take reading
pub take_reading_number : (s : Setup) (row : BoxRow) (rack : ℕ) (m : TwoA) → (take_reading_of s row rack m).refusal ≡ take_reading_refusal row m
unfolding take_reading_of
take_reading_number s row rack m = taken_number (take_reading_refusal row m) row m.round (take_reading_page s row rack m)

pub record TakeReadingGranted (s : Setup) (row : BoxRow) (rack : ℕ) (m : TwoA) : Type 0 where
  pub reading : (r : Reading.Reading) × (m.line.mark ≡ reads r)
  pub may : may_vote row m.round ≡ true
  pub row_is : (take_reading_of s row rack m).row ≡ voted m.round (take_reading_page s row rack m)
  pub sent_is : (take_reading_of s row rack m).sent ≡ telling m.round (take_reading_page s row rack m)

pub take_reading_granted : (s : Setup) (row : BoxRow) (rack : ℕ) (m : TwoA) → (take_reading_of s row rack m).refusal ≡ granted → TakeReadingGranted s row rack m
unfolding take_reading_of take_reading_refusal
take_reading_granted s row rack m h =
    record {
      reading = reading_is m.line.mark (unless_held (is_reading m.line.mark) wrong_message later (omega arith) number);
      may = unless_held _ wrong_round granted (omega arith) (unless_later (is_reading m.line.mark) wrong_message later (omega arith) number);
      row_is = ap (λ (a : Answer BoxRow TwoB). a.row) answer;
      sent_is = ap (λ (a : Answer BoxRow TwoB). a.sent) answer;
    }
  where
    later : ℕ
    later = unless (may_vote row m.round) wrong_round granted

    page : Page
    page = take_reading_page s row rack m

    number : take_reading_refusal row m ≡ granted
    number = sym (take_reading_number s row rack m) ∙ h

    answer : take_reading_of s row rack m ≡ record { refusal = granted; row = voted m.round page; sent = telling m.round page }
    answer = taken_granted (take_reading_refusal row m) row m.round page number

pub take_reading_refused : (s : Setup) (row : BoxRow) (rack : ℕ) (m : TwoA) → (take_reading_refusal row m ≡ granted → ⊥) →
    take_reading_of s row rack m ≡ record { refusal = take_reading_refusal row m; row = row; sent = no_two_b }
unfolding take_reading_of
take_reading_refused s row rack m h = taken_refused (take_reading_refusal row m) row m.round (take_reading_page s row rack m) h

-- the page of that vote: the first of its round, or one line more
pub first_reading : (s : Setup) (row : BoxRow) (rack : ℕ) (m : TwoA) → Lower row.vrnd m.round ⊎ (row.vval.some ≡ false) →
    take_reading_page s row rack m ≡ nil_extension (outside m.round.cf s.racks) (append_of empty rack m.line.mark)
unfolding take_reading_page
first_reading s row rack m h = rw (first h)
  where
    first : Lower row.vrnd m.round ⊎ (row.vval.some ≡ false) → is_below (order_of row.vrnd m.round) || not row.vval.some ≡ true
    first = ⊎_elim (λ l. or_true_left _ (ap is_below (lower_below row.vrnd m.round l))) (λ e. or_true_right (is_below (order_of row.vrnd m.round)) (ap not e))

pub next_reading : (s : Setup) (row : BoxRow) (rack : ℕ) (m : TwoA) → row.vrnd ≡ m.round → row.vval.some ≡ true →
    take_reading_page s row rack m ≡ append_of row.vval.page rack m.line.mark
unfolding take_reading_page
next_reading s row rack m e v = rw (← e, equal_order row.vrnd, v)
