-- What a granted step of a coordinator says: the tests that held, the row and the message. A refused step gives the row back.
use Rattle.std.proofs.Common.{ℕ, ◌≤◌, arith, leb, eqb, eqb-true, leb-true, ◌≡◌, refl, sym, ap, ◌∙◌, Bool, true, false, not, ◌&&◌}
use borrow.Author.Tests.{not-true}
use Rattle.below.specs.Refusals.{unless, granted, wrong_round, already_done, no_majority, lines_clash}
use Rattle.below.proofs.Granted.{unless_held, unless_later, answer_granted, answer_refused, answer_number}
use Rattle.below.proofs.Tests.{and_left, and_right}
use Rattle.pages.specs.Pages.{some}
use Rattle.rounds.specs.declared.setup.Setup.{Setup}
use Rattle.rounds.specs.Setups.{majority_of}
use Rattle.rounds.specs.Rounds.{round_of, order_of, is_equal}
use Rattle.rounds.proofs.Ordered.{Lower, above_is, equal_is}
use Rattle.records.specs.declared.messages.OneA.{OneA}
use Rattle.records.specs.declared.messages.OneB.{OneB}
use Rattle.records.specs.declared.messages.TwoS.{TwoS}
use Rattle.records.specs.declared.rows.CoordinatorRow.{CoordinatorRow}
use Rattle.records.specs.Slots.{heard_at}
use Rattle.records.specs.Answers.{Answer, Noted}
use Rattle.coordinators.specs.Steps.{no_one_a, no_two_s, start_refusal, start_row, start_of, hear_refusal, hear_row, hear_of, any_clash, heard_count, joined_votes, open_page, open_refusal, open_row, open_of}

-- 2 start: the number answered is that of the first condition that fails
pub start_number : (agent : ℕ) (r : CoordinatorRow) (n cf : ℕ) → (start_of agent r n cf).refusal ≡ start_refusal r (round_of n agent cf)
unfolding start_of
start_number agent r n cf = answer_number (λ (a : Answer CoordinatorRow OneA). a.refusal) (start_refusal r (round_of n agent cf)) _ _ refl refl

pub record StartGranted (agent : ℕ) (r : CoordinatorRow) (n cf : ℕ) : Type 0 where
  pub above : Lower r.crnd (round_of n agent cf)
  pub row_is : (start_of agent r n cf).row ≡ start_row (round_of n agent cf)
  pub sent_is : (start_of agent r n cf).sent ≡ record { round = round_of n agent cf }

pub start_granted : (agent : ℕ) (r : CoordinatorRow) (n cf : ℕ) → (start_of agent r n cf).refusal ≡ granted → StartGranted agent r n cf
unfolding start_of start_refusal
start_granted agent r n cf h =
    record {
      above = above_is (round_of n agent cf) r.crnd (unless_held _ wrong_round granted (omega arith) number);
      row_is = ap (λ (a : Answer CoordinatorRow OneA). a.row) answer;
      sent_is = ap (λ (a : Answer CoordinatorRow OneA). a.sent) answer;
    }
  where
    number : start_refusal r (round_of n agent cf) ≡ granted
    number = sym (start_number agent r n cf) ∙ h

    answer : start_of agent r n cf ≡ record { refusal = granted; row = start_row (round_of n agent cf); sent = record { round = round_of n agent cf } }
    answer = answer_granted (start_refusal r (round_of n agent cf)) _ _ number

pub start_refused : (agent : ℕ) (r : CoordinatorRow) (n cf : ℕ) → (start_refusal r (round_of n agent cf) ≡ granted → ⊥) →
    start_of agent r n cf ≡ record { refusal = start_refusal r (round_of n agent cf); row = r; sent = no_one_a }
unfolding start_of
start_refused agent r n cf h = answer_refused (start_refusal r (round_of n agent cf)) _ _ h

-- 4 hear
pub hear_number : (r : CoordinatorRow) (box : ℕ) (m : OneB) → (hear_of r box m).refusal ≡ hear_refusal r box m
unfolding hear_of
hear_number r box m = answer_number (λ (a : Noted CoordinatorRow). a.refusal) (hear_refusal r box m) _ _ refl refl

pub record HearGranted (r : CoordinatorRow) (box : ℕ) (m : OneB) : Type 0 where
  pub same : m.round ≡ r.crnd
  pub not_opened : r.cval.some ≡ false
  pub not_heard : (heard_at r box).filled ≡ false
  pub row_is : (hear_of r box m).row ≡ hear_row r box m

pub hear_granted : (r : CoordinatorRow) (box : ℕ) (m : OneB) → (hear_of r box m).refusal ≡ granted → HearGranted r box m
unfolding hear_of hear_refusal
hear_granted r box m h =
    record {
      same = equal_is m.round r.crnd (unless_held (is_equal (order_of m.round r.crnd)) wrong_round later (omega arith) number);
      not_opened = not-true r.cval.some (and_left _ (not (heard_at r box).filled) new);
      not_heard = not-true (heard_at r box).filled (and_right (not r.cval.some) _ new);
      row_is = ap (λ (a : Noted CoordinatorRow). a.row) answer;
    }
  where
    later : ℕ
    later = unless (not r.cval.some && not (heard_at r box).filled) already_done granted

    number : hear_refusal r box m ≡ granted
    number = sym (hear_number r box m) ∙ h

    new : not r.cval.some && not (heard_at r box).filled ≡ true
    new = unless_held _ already_done granted (omega arith) (unless_later (is_equal (order_of m.round r.crnd)) wrong_round later (omega arith) number)

    answer : hear_of r box m ≡ record { refusal = granted; row = hear_row r box m }
    answer = answer_granted (hear_refusal r box m) _ _ number

pub hear_refused : (r : CoordinatorRow) (box : ℕ) (m : OneB) → (hear_refusal r box m ≡ granted → ⊥) →
    hear_of r box m ≡ record { refusal = hear_refusal r box m; row = r }
unfolding hear_of
hear_refused r box m h = answer_refused (hear_refusal r box m) _ _ h

-- 5 open
pub open_number : (s : Setup) (agent : ℕ) (r : CoordinatorRow) → (open_of s agent r).refusal ≡ open_refusal s agent r
unfolding open_of
open_number s agent r = answer_number (λ (a : Answer CoordinatorRow TwoS). a.refusal) (open_refusal s agent r) _ _ refl refl

pub record OpenGranted (s : Setup) (agent : ℕ) (r : CoordinatorRow) : Type 0 where
  pub own : r.crnd.c ≡ agent
  pub no_clash : any_clash r ≡ false
  pub not_opened : r.cval.some ≡ false
  pub majority : majority_of s.boxes ≤ heard_count r
  pub joined : (joined_votes r).some ≡ true
  pub row_is : (open_of s agent r).row ≡ record { crnd = r.crnd; cval = some (open_page s r); heard = r.heard }
  pub sent_is : (open_of s agent r).sent ≡ record { round = r.crnd; page = open_page s r }

pub open_granted : (s : Setup) (agent : ℕ) (r : CoordinatorRow) → (open_of s agent r).refusal ≡ granted → OpenGranted s agent r
unfolding open_of open_refusal open_row
open_granted s agent r h =
    record {
      own = eqb-true r.crnd.c agent (and_left _ (not (any_clash r)) fits);
      no_clash = not-true (any_clash r) (and_right (eqb r.crnd.c agent) _ fits);
      not_opened = not-true r.cval.some (unless_held (not r.cval.some) already_done enough (omega arith) after_round);
      majority = leb-true _ _ (unless_held most no_majority lines (omega arith) after_done);
      joined = unless_held (joined_votes r).some lines_clash granted (omega arith) (unless_later most no_majority lines (omega arith) after_done);
      row_is = ap (λ (a : Answer CoordinatorRow TwoS). a.row) answer;
      sent_is = ap (λ (a : Answer CoordinatorRow TwoS). a.sent) answer;
    }
  where
    fitting : Bool
    fitting = eqb r.crnd.c agent && not (any_clash r)

    most : Bool
    most = leb (majority_of s.boxes) (heard_count r)

    lines : ℕ
    lines = unless (joined_votes r).some lines_clash granted

    enough : ℕ
    enough = unless most no_majority lines

    done : ℕ
    done = unless (not r.cval.some) already_done enough

    number : open_refusal s agent r ≡ granted
    number = sym (open_number s agent r) ∙ h

    fits : fitting ≡ true
    fits = unless_held fitting wrong_round done (omega arith) number

    after_round : done ≡ granted
    after_round = unless_later fitting wrong_round done (omega arith) number

    after_done : enough ≡ granted
    after_done = unless_later (not r.cval.some) already_done enough (omega arith) after_round

    answer : open_of s agent r ≡ record { refusal = granted; row = open_row r (open_page s r); sent = record { round = r.crnd; page = open_page s r } }
    answer = answer_granted (open_refusal s agent r) _ _ number

pub open_refused : (s : Setup) (agent : ℕ) (r : CoordinatorRow) → (open_refusal s agent r ≡ granted → ⊥) →
    open_of s agent r ≡ record { refusal = open_refusal s agent r; row = r; sent = no_two_s }
unfolding open_of
open_refused s agent r h = answer_refused (open_refusal s agent r) _ _ h
