-- What a step makes of a row's block and a message's block: one definition, by which the hall's step and the C step both go.
-- Refusal 5 where the row or the message is of another kind than the step names; then what the step's own definition says.
use Rattle.std.specs.Prelude.{ℕ, eqb, Bool, true, false, cond, ◌&&◌, List, []}
use Rattle.below.specs.Refusals.{granted, wrong_message}
use Rattle.rounds.specs.declared.round.Round.{Round}
use Rattle.rounds.specs.Rounds.{round_of}
use Rattle.records.specs.declared.stamp.Stamp.{Stamp}
use Rattle.words.specs.Bytes.{byte}
use Rattle.blocks.specs.Kinds.{Kind, encode, decode}
use Rattle.blocks.specs.Messages.{propose, one_a, one_b, two_s, two_a, two_b}
use Rattle.blocks.specs.Rows.{coordinator, box, rack, reader}
use Rattle.racks.specs.Steps.{offer_of, prepare_of, fast_of, blank_of}
use Rattle.boxes.specs.Steps.{join_of, take_page_of, take_reading_of}
use Rattle.coordinators.specs.Steps.{start_of, hear_of, open_of}
use Rattle.readers.specs.Notes.{note_vote_of, note_blank_of}
use Rattle.readers.specs.Counting.{counted_of}
use Rattle.acts.specs.declared.step.Step.{Step}

-- the refusal, the row's block after, whether a message is sent, and its block
pub record Act : Type 0 where
  pub refusal : ℕ
  pub row : List ℕ
  pub sends : Bool
  pub sent : List ℕ

abbrev pub refused : ℕ → Act
refused number = record { refusal = number; row = []; sends = false; sent = [] }

-- a step that sends, and one that doesn't: blocks of the new row and of the message, of the row's own stamp
abbrev pub sending : {R M : Type 0} → Kind R → Kind M → Stamp → ℕ → R → M → Act
sending r m stamp number row sent = record { refusal = number; row = encode r stamp row; sends = true; sent = encode m stamp sent }

abbrev pub silent : {R : Type 0} → Kind R → Stamp → ℕ → R → Act
silent r stamp number row = record { refusal = number; row = encode r stamp row; sends = false; sent = [] }

-- a block's kind, its body read as of a kind, and its agent, of a message the sender
abbrev pub is_a : {A : Type 0} → Kind A → List ℕ → Bool
is_a k block = eqb (byte block 2) k.number

abbrev pub body_of : {A : Type 0} → Kind A → List ℕ → A
body_of k block = (decode k block).1

abbrev pub agent_of : List ℕ → ℕ
agent_of block = byte block 9

-- a step on a row, or on a row and a message, of the kinds that it names
abbrev pub on_row : {R : Type 0} → Kind R → List ℕ → (R → Act) → Act
on_row r row act = cond (is_a r row) (act (body_of r row)) (refused wrong_message)

abbrev pub on_both : {R M : Type 0} → Kind R → Kind M → List ℕ → List ℕ → (R → M → Act) → Act
on_both r m row message act = cond (is_a r row && is_a m message) (act (body_of r row) (body_of m message)) (refused wrong_message)

-- The thirteen, by code. `stamp` is the row's own: its agent does the step and sends.
-- 1 offer
unfoldable pub offer_act : ℕ → Stamp → List ℕ → Act
offer_act reading stamp row =
    cond (is_a rack row) (record { refusal = granted; row = row; sends = true; sent = encode propose stamp (offer_of (record { 0 = reading })) })
    (refused wrong_message)

-- 2 start
unfoldable pub start_act : ℕ → ℕ → Stamp → List ℕ → Act
start_act n cf stamp row =
    on_row coordinator row (λ r. let a = start_of stamp.agent r n cf in sending coordinator one_a stamp a.refusal a.row a.sent)

-- 3 join
unfoldable pub join_act : Stamp → List ℕ → List ℕ → Act
join_act stamp row message =
    on_both box one_a row message (λ r m. let a = join_of r m in sending box one_b stamp a.refusal a.row a.sent)

-- 4 hear
unfoldable pub hear_act : Stamp → List ℕ → List ℕ → Act
hear_act stamp row message =
    on_both coordinator one_b row message (λ r m. let a = hear_of r (agent_of message) m in silent coordinator stamp a.refusal a.row)

-- 5 open
unfoldable pub open_act : Stamp → List ℕ → Act
open_act stamp row =
    on_row coordinator row (λ r. let a = open_of stamp.setup stamp.agent r in sending coordinator two_s stamp a.refusal a.row a.sent)

-- 6 prepare
unfoldable pub prepare_act : Stamp → List ℕ → List ℕ → Act
prepare_act stamp row message =
    on_both rack two_s row message (λ r m. let a = prepare_of stamp.agent r m in silent rack stamp a.refusal a.row)

-- 7 fast
unfoldable pub fast_act : Stamp → List ℕ → List ℕ → Act
fast_act stamp row message =
    on_both rack propose row message (λ r m. let a = fast_of stamp.agent r m in sending rack two_a stamp a.refusal a.row a.sent)

-- 8 blank
unfoldable pub blank_act : Stamp → List ℕ → List ℕ → Act
blank_act stamp row message =
    on_both rack two_a row message (λ r m. let a = blank_of stamp.agent r m in sending rack two_a stamp a.refusal a.row a.sent)

-- 9 take page
unfoldable pub take_page_act : Stamp → List ℕ → List ℕ → Act
take_page_act stamp row message =
    on_both box two_s row message (λ r m. let a = take_page_of r m in sending box two_b stamp a.refusal a.row a.sent)

-- 10 take reading
unfoldable pub take_reading_act : Stamp → List ℕ → List ℕ → Act
take_reading_act stamp row message =
    on_both box two_a row message
    (λ r m. let a = take_reading_of stamp.setup r (agent_of message) m in sending box two_b stamp a.refusal a.row a.sent)

-- 11 note vote
unfoldable pub note_vote_act : Stamp → List ℕ → List ℕ → Act
note_vote_act stamp row message =
    on_both reader two_b row message (λ r m. let a = note_vote_of r (agent_of message) m in silent reader stamp a.refusal a.row)

-- 12 note blank
unfoldable pub note_blank_act : Stamp → List ℕ → List ℕ → Act
note_blank_act stamp row message =
    on_both reader two_a row message (λ r m. let a = note_blank_of r (agent_of message) m in silent reader stamp a.refusal a.row)

-- 13 learn: the property over majorities (readers/specs/Learning.antt) has one answer, which counting gives
unfoldable pub learn_act : Round → Stamp → List ℕ → Act
learn_act round stamp row =
    on_row reader row (λ r. let a = counted_of stamp.setup r round in silent reader stamp a.refusal a.row)

unfoldable pub act_of : Stamp → Step → List ℕ → List ℕ → Act
act_of stamp x row message =
    cond (eqb x.code 1) (offer_act x.reading stamp row)
    (cond (eqb x.code 2) (start_act x.n x.cf stamp row)
    (cond (eqb x.code 3) (join_act stamp row message)
    (cond (eqb x.code 4) (hear_act stamp row message)
    (cond (eqb x.code 5) (open_act stamp row)
    (cond (eqb x.code 6) (prepare_act stamp row message)
    (cond (eqb x.code 7) (fast_act stamp row message)
    (cond (eqb x.code 8) (blank_act stamp row message)
    (cond (eqb x.code 9) (take_page_act stamp row message)
    (cond (eqb x.code 10) (take_reading_act stamp row message)
    (cond (eqb x.code 11) (note_vote_act stamp row message)
    (cond (eqb x.code 12) (note_blank_act stamp row message) (learn_act (round_of x.n x.c x.cf) stamp row))))))))))))
