-- Whatever a granted act writes is a block.
use Rattle.std.proofs.Common.{ℕ, arith, eqb, length, ◌≡◌, Bool, true, false, cond, ◌&&◌, List}
use Rattle.std.proofs.Math.Bool.{false≢true}
use Rattle.below.specs.Refusals.{granted, wrong_message}
use Rattle.rounds.specs.declared.round.Round.{Round}
use Rattle.records.specs.declared.stamp.Stamp.{Stamp}
use Rattle.blocks.specs.Frame.{block_size}
use Rattle.blocks.specs.Kinds.{Kind}
use Rattle.blocks.specs.Proper.{Proper}
use Rattle.blocks.proofs.Judged.{encode-length}
use Rattle.blocks.specs.Messages.{propose, one_a, one_b, two_s, two_a, two_b}
use Rattle.blocks.specs.MessagePropers.{ProposeFits, propose_proper, OneAFits, one_a_proper, OneBFits, one_b_proper, TwoSFits, two_s_proper, TwoAFits, two_a_proper, TwoBFits, two_b_proper}
use Rattle.blocks.specs.Rows.{coordinator, box, rack, reader}
use Rattle.blocks.specs.RowPropers.{CoordinatorFits, coordinator_proper, BoxFits, box_proper, RackFits, rack_proper, ReaderFits, reader_proper}
use Rattle.acts.specs.declared.step.Step.{Step}
use Rattle.acts.specs.Acts.{Act, refused, sending, silent, is_a, act_of, offer_act, start_act, join_act, hear_act, open_act, prepare_act, fast_act, blank_act, take_page_act, take_reading_act, note_vote_act, note_blank_act, learn_act}

abbrev pub Sized : Act → Type 0
Sized a = a.refusal ≡ granted → (length a.row ≡ block_size) × (a.sends ≡ true → length a.sent ≡ block_size)

either_sized : (b : Bool) (a c : Act) → Sized a → Sized c → Sized (cond b a c)
either_sized true a c p q = p
either_sized false a c p q = q

five : Sized (refused wrong_message)
five e = absurd (omega (arith, e))

module _ {R : Type 0} (k : Kind R) (P : R → Type 0) (proper : Proper k P) where
  sends_sized : {M : Type 0} (m : Kind M) (Q : M → Type 0) → Proper m Q → (b : Bool) (stamp : Stamp) (n : ℕ) (r : R) (s : M) → Sized (cond b (sending k m stamp n r s) (refused wrong_message))
  sends_sized m Q sent b stamp n r s = either_sized b _ _ (λ e. (encode-length k P proper stamp r, λ _. encode-length m Q sent stamp s)) five

  silent_sized : (b : Bool) (stamp : Stamp) (n : ℕ) (r : R) → Sized (cond b (silent k stamp n r) (refused wrong_message))
  silent_sized b stamp n r = either_sized b _ _ (λ e. (encode-length k P proper stamp r, λ f. absurd (false≢true f))) five

module _ (h : Stamp) (row message : List ℕ) where
  offer_sized : (reading : ℕ) → length row ≡ block_size → Sized (offer_act reading h row)
  unfolding offer_act
  offer_sized reading l = either_sized (is_a rack row) _ _ (λ e. (l, λ _. encode-length propose ProposeFits propose_proper h _)) five

  start_sized : (n cf : ℕ) → Sized (start_act n cf h row)
  unfolding start_act
  start_sized n cf = sends_sized coordinator CoordinatorFits coordinator_proper one_a OneAFits one_a_proper (is_a coordinator row) h _ _ _

  join_sized : Sized (join_act h row message)
  unfolding join_act
  join_sized = sends_sized box BoxFits box_proper one_b OneBFits one_b_proper (is_a box row && is_a one_a message) h _ _ _

  hear_sized : Sized (hear_act h row message)
  unfolding hear_act
  hear_sized = silent_sized coordinator CoordinatorFits coordinator_proper (is_a coordinator row && is_a one_b message) h _ _

  open_sized : Sized (open_act h row)
  unfolding open_act
  open_sized = sends_sized coordinator CoordinatorFits coordinator_proper two_s TwoSFits two_s_proper (is_a coordinator row) h _ _ _

  prepare_sized : Sized (prepare_act h row message)
  unfolding prepare_act
  prepare_sized = silent_sized rack RackFits rack_proper (is_a rack row && is_a two_s message) h _ _

  fast_sized : Sized (fast_act h row message)
  unfolding fast_act
  fast_sized = sends_sized rack RackFits rack_proper two_a TwoAFits two_a_proper (is_a rack row && is_a propose message) h _ _ _

  blank_sized : Sized (blank_act h row message)
  unfolding blank_act
  blank_sized = sends_sized rack RackFits rack_proper two_a TwoAFits two_a_proper (is_a rack row && is_a two_a message) h _ _ _

  take_page_sized : Sized (take_page_act h row message)
  unfolding take_page_act
  take_page_sized = sends_sized box BoxFits box_proper two_b TwoBFits two_b_proper (is_a box row && is_a two_s message) h _ _ _

  take_reading_sized : Sized (take_reading_act h row message)
  unfolding take_reading_act
  take_reading_sized = sends_sized box BoxFits box_proper two_b TwoBFits two_b_proper (is_a box row && is_a two_a message) h _ _ _

  note_vote_sized : Sized (note_vote_act h row message)
  unfolding note_vote_act
  note_vote_sized = silent_sized reader ReaderFits reader_proper (is_a reader row && is_a two_b message) h _ _

  note_blank_sized : Sized (note_blank_act h row message)
  unfolding note_blank_act
  note_blank_sized = silent_sized reader ReaderFits reader_proper (is_a reader row && is_a two_a message) h _ _

  learn_sized : (round : Round) → Sized (learn_act round h row)
  unfolding learn_act
  learn_sized round = silent_sized reader ReaderFits reader_proper (is_a reader row) h _ _

  pub act_sized : (x : Step) → length row ≡ block_size → Sized (act_of h x row message)
  unfolding act_of
  act_sized x l =
      either_sized (eqb x.code 1) _ _ (offer_sized x.reading l)
      (either_sized (eqb x.code 2) _ _ (start_sized x.n x.cf)
      (either_sized (eqb x.code 3) _ _ join_sized
      (either_sized (eqb x.code 4) _ _ hear_sized
      (either_sized (eqb x.code 5) _ _ open_sized
      (either_sized (eqb x.code 6) _ _ prepare_sized
      (either_sized (eqb x.code 7) _ _ fast_sized
      (either_sized (eqb x.code 8) _ _ blank_sized
      (either_sized (eqb x.code 9) _ _ take_page_sized
      (either_sized (eqb x.code 10) _ _ take_reading_sized
      (either_sized (eqb x.code 11) _ _ note_vote_sized (either_sized (eqb x.code 12) _ _ note_blank_sized (learn_sized _))))))))))))
