-- Each arm is the act of its code: what the code of its shape promises, at the step's own definition.
use Rattle.std.proofs.Common.{true, rules, refl, sym}
use Rattle.below.specs.Refusals.{granted, number_of}
use Rattle.blocks.specs.Kinds.{encode}
use Rattle.blocks.specs.Messages.{propose, one_a, one_b, two_s, two_a, two_b}
use Rattle.blocks.specs.Rows.{coordinator, box, rack, reader}
use Rattle.blocks.specs.RowPropers.{RackFits, rack_proper}
use Rattle.racks.specs.Steps.{no_two_a, offer_of, prepare_of, fast_of, blank_of}
use Rattle.boxes.specs.Steps.{no_one_b, no_two_b, join_of, take_page_of, take_reading_of}
use Rattle.coordinators.specs.Steps.{no_one_a, no_two_s, start_of, hear_of, open_of}
use Rattle.readers.specs.Notes.{note_vote_of, note_blank_of}
use Rattle.readers.specs.Counting.{counted_of}
use Rattle.readers.proofs.CountingLearns.{learns_counted}
use Rattle.acts.specs.Acts.{agent_of, sending, offer_act, start_act, join_act, hear_act, open_act, prepare_act, fast_act, blank_act, take_page_act, take_reading_act, note_vote_act, note_blank_act, learn_act}
use Rattle.acts.specs.Named.{stamp_of}
use Rattle.acts.proofs.Familiar.{propose_familiar, one_a_familiar, one_b_familiar, two_s_familiar, two_a_familiar, two_b_familiar, coordinator_familiar, box_familiar, rack_familiar, reader_familiar}
use Rattle.acts.proofs.Ways.{row_again}
use Rattle.acts.proofs.Answered.{row_sent, row_kept, both_sent, both_kept}
use Rattle.acts.proofs.Coded.{as_offer, as_start, as_join, as_hear, as_open, as_prepare, as_fast, as_blank, as_take_page, as_take_reading, as_note_vote, as_note_blank, as_learn}
use Rattle.acts.proofs.acts.perform.Goals as goal

pub returns-in-Offer : goal.returns-in-Offer
unfolding offer_act
returns-in-Offer c =
    as_offer c.args.hall (number_of c.args.late) c.args.numbers c.args.row.now c.args.message.now c.in-Offer.is
    (row_sent rack rack_familiar c.args.hall (number_of c.args.late) c.args.row.now propose
    (λ r. record { refusal = granted; row = c.args.row.now; sends = true; sent = encode propose (stamp_of c.args.row.now) (offer_of c.args.numbers.reading) })
    (λ r. record { refusal = granted; row = r; sent = offer_of c.args.numbers.reading }) (record { reading = record { 0 = 0 } }) (λ y p. search rules) refl refl
    (λ z. sym (row_again rack rack_familiar (λ r. record { refusal = granted; row = c.args.row.now; sends = true; sent = encode propose (stamp_of c.args.row.now) (offer_of c.args.numbers.reading) }) c.args.hall (number_of c.args.late) c.args.row.now RackFits rack_proper z)) refl c.row_sends.ensures.refused c.row_sends.ensures.reached)

pub returns-in-Start : goal.returns-in-Start
unfolding start_act
returns-in-Start c =
    as_start c.args.hall (number_of c.args.late) c.args.numbers c.args.row.now c.args.message.now c.in-Start.is
    (row_sent coordinator coordinator_familiar c.args.hall (number_of c.args.late) c.args.row.now one_a (λ r. let a = start_of (stamp_of c.args.row.now).agent r c.args.numbers.round.n.0 c.args.numbers.round.cf in sending coordinator one_a (stamp_of c.args.row.now) a.refusal a.row a.sent)
    (λ r. start_of (stamp_of c.args.row.now).agent r c.args.numbers.round.n.0 c.args.numbers.round.cf) no_one_a (λ y p. search rules) refl refl (λ z. refl) refl c.row_sends-in-Start.ensures.refused c.row_sends-in-Start.ensures.reached)

pub returns-in-Join : goal.returns-in-Join
unfolding join_act
returns-in-Join c =
    as_join c.args.hall (number_of c.args.late) c.args.numbers c.args.row.now c.args.message.now c.in-Join.is
    (both_sent box one_a box_familiar one_a_familiar c.args.hall (number_of c.args.late) c.args.row.now c.args.message.now one_b (λ r m. join_of r m) no_one_b (λ y p. search rules) c.both_send.ensures.refused c.both_send.ensures.reached)

pub returns-in-Hear : goal.returns-in-Hear
unfolding hear_act
returns-in-Hear c =
    as_hear c.args.hall (number_of c.args.late) c.args.numbers c.args.row.now c.args.message.now c.in-Hear.is
    (both_kept coordinator one_b coordinator_familiar one_b_familiar c.args.hall (number_of c.args.late) c.args.row.now c.args.message.now (λ r m. hear_of r (agent_of c.args.message.now) m) (λ y p. search rules) c.both_keep.ensures.refused c.both_keep.ensures.reached)

pub returns-in-Open : goal.returns-in-Open
unfolding open_act
returns-in-Open c =
    as_open c.args.hall (number_of c.args.late) c.args.numbers c.args.row.now c.args.message.now c.in-Open.is
    (row_sent coordinator coordinator_familiar c.args.hall (number_of c.args.late) c.args.row.now two_s (λ r. let a = open_of (stamp_of c.args.row.now).setup (stamp_of c.args.row.now).agent r in sending coordinator two_s (stamp_of c.args.row.now) a.refusal a.row a.sent)
    (λ r. open_of (stamp_of c.args.row.now).setup (stamp_of c.args.row.now).agent r) no_two_s (λ y p. search rules) refl refl (λ z. refl) refl c.row_sends-in-Open.ensures.refused c.row_sends-in-Open.ensures.reached)

pub returns-in-Prepare : goal.returns-in-Prepare
unfolding prepare_act
returns-in-Prepare c =
    as_prepare c.args.hall (number_of c.args.late) c.args.numbers c.args.row.now c.args.message.now c.in-Prepare.is
    (both_kept rack two_s rack_familiar two_s_familiar c.args.hall (number_of c.args.late) c.args.row.now c.args.message.now (λ r m. prepare_of (stamp_of c.args.row.now).agent r m) (λ y p. search rules) c.both_keep-in-Prepare.ensures.refused c.both_keep-in-Prepare.ensures.reached)

pub returns-in-Fast : goal.returns-in-Fast
unfolding fast_act
returns-in-Fast c =
    as_fast c.args.hall (number_of c.args.late) c.args.numbers c.args.row.now c.args.message.now c.in-Fast.is
    (both_sent rack propose rack_familiar propose_familiar c.args.hall (number_of c.args.late) c.args.row.now c.args.message.now two_a (λ r m. fast_of (stamp_of c.args.row.now).agent r m) no_two_a (λ y p. search rules) c.both_send-in-Fast.ensures.refused c.both_send-in-Fast.ensures.reached)

pub returns-in-Blank : goal.returns-in-Blank
unfolding blank_act
returns-in-Blank c =
    as_blank c.args.hall (number_of c.args.late) c.args.numbers c.args.row.now c.args.message.now c.in-Blank.is
    (both_sent rack two_a rack_familiar two_a_familiar c.args.hall (number_of c.args.late) c.args.row.now c.args.message.now two_a (λ r m. blank_of (stamp_of c.args.row.now).agent r m) no_two_a (λ y p. search rules) c.both_send-in-Blank.ensures.refused c.both_send-in-Blank.ensures.reached)

pub returns-in-TakePage : goal.returns-in-TakePage
unfolding take_page_act
returns-in-TakePage c =
    as_take_page c.args.hall (number_of c.args.late) c.args.numbers c.args.row.now c.args.message.now c.in-TakePage.is
    (both_sent box two_s box_familiar two_s_familiar c.args.hall (number_of c.args.late) c.args.row.now c.args.message.now two_b (λ r m. take_page_of r m) no_two_b (λ y p. search rules) c.both_send-in-TakePage.ensures.refused c.both_send-in-TakePage.ensures.reached)

pub returns-in-TakeReading : goal.returns-in-TakeReading
unfolding take_reading_act
returns-in-TakeReading c =
    as_take_reading c.args.hall (number_of c.args.late) c.args.numbers c.args.row.now c.args.message.now c.in-TakeReading.is
    (both_sent box two_a box_familiar two_a_familiar c.args.hall (number_of c.args.late) c.args.row.now c.args.message.now two_b (λ r m. take_reading_of (stamp_of c.args.row.now).setup r (agent_of c.args.message.now) m) no_two_b (λ y p. search rules) c.both_send-in-TakeReading.ensures.refused c.both_send-in-TakeReading.ensures.reached)

pub returns-in-NoteVote : goal.returns-in-NoteVote
unfolding note_vote_act
returns-in-NoteVote c =
    as_note_vote c.args.hall (number_of c.args.late) c.args.numbers c.args.row.now c.args.message.now c.in-NoteVote.is
    (both_kept reader two_b reader_familiar two_b_familiar c.args.hall (number_of c.args.late) c.args.row.now c.args.message.now (λ r m. note_vote_of r (agent_of c.args.message.now) m) (λ y p. search rules) c.both_keep-in-NoteVote.ensures.refused c.both_keep-in-NoteVote.ensures.reached)

pub returns-in-NoteBlank : goal.returns-in-NoteBlank
unfolding note_blank_act
returns-in-NoteBlank c =
    as_note_blank c.args.hall (number_of c.args.late) c.args.numbers c.args.row.now c.args.message.now c.in-NoteBlank.is
    (both_kept reader two_a reader_familiar two_a_familiar c.args.hall (number_of c.args.late) c.args.row.now c.args.message.now (λ r m. note_blank_of r (agent_of c.args.message.now) m) (λ y p. search rules) c.both_keep-in-NoteBlank.ensures.refused c.both_keep-in-NoteBlank.ensures.reached)

pub returns-in-Learn : goal.returns-in-Learn
unfolding learn_act
returns-in-Learn c =
    as_learn c.args.hall (number_of c.args.late) c.args.numbers c.args.row.now c.args.message.now c.in-Learn.is
    (row_kept reader reader_familiar c.args.hall (number_of c.args.late) c.args.row.now (λ r. counted_of (stamp_of c.args.row.now).setup r c.args.numbers.round) (λ y p. learns_counted _ _ _ _ (search rules)) c.row_keeps.ensures.refused c.row_keeps.ensures.reached)
