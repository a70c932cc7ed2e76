-- A row keeps its shape, and what is sent has it: 5 slots for boxes, pages of 8 lines.
use Rattle.std.proofs.Common.{ℕ, ◌<◌, eqb, length, length-set, ◌≡◌, ap, ◌∙◌, Bool, true, false, cond, ⊎_elim}
use Rattle.below.specs.Refusals.{granted}
use Rattle.below.proofs.Rows.{length-row, row_at}
use Rattle.pages.specs.Racks.{racks_below}
use Rattle.pages.specs.Pages.{empty, nil_extension}
use Rattle.pages.proofs.Kept.{Whole, empty_whole, nil_whole}
use Rattle.rounds.specs.declared.setup.Setup.{Setup}
use Rattle.rounds.specs.Setups.{most_boxes}
use Rattle.rounds.specs.Rounds.{round_of}
use Rattle.records.specs.declared.slots.Heard.{Heard}
use Rattle.records.specs.declared.messages.OneA.{OneA}
use Rattle.records.specs.declared.messages.OneB.{OneB}
use Rattle.records.specs.declared.messages.TwoS.{TwoS}
use Rattle.records.specs.declared.rows.CoordinatorRow.{CoordinatorRow}
use Rattle.records.specs.Slots.{no_heard, heard_at}
use Rattle.records.specs.Answers.{Answer, Noted}
use Rattle.coordinators.specs.Steps.{no_one_a, no_two_s, start_refusal, start_row, start_of, hear_refusal, hear_row, hear_of, any_vote, joined_votes, open_page, open_refusal, open_row, open_of}
use Rattle.coordinators.proofs.Slots.{slot_set}

pub record CoordinatorShape (r : CoordinatorRow) : Type 0 where
  pub opened : Whole r.cval.page
  pub slots : length r.heard ≡ most_boxes
  pub votes : (box : ℕ) → box < most_boxes → Whole (heard_at r box).vote.page

pub start_shape : (agent : ℕ) (r : CoordinatorRow) (n cf : ℕ) → CoordinatorShape r → CoordinatorShape (start_of agent r n cf).row
unfolding start_of start_row heard_at
start_shape agent r n cf h = go (eqb (start_refusal r (round_of n agent cf)) granted)
  where
    answer : Bool → Answer CoordinatorRow OneA
    answer b =
        cond b (record { refusal = granted; row = start_row (round_of n agent cf); sent = record { round = round_of n agent cf } })
        (record { refusal = start_refusal r (round_of n agent cf); row = r; sent = no_one_a })

    go : (b : Bool) → CoordinatorShape (answer b).row
    go true =
        record {
          opened = empty_whole;
          slots = length-row most_boxes (λ box. no_heard);
          votes = λ box l. ap (λ (x : Heard). length x.vote.page.lines) (row_at most_boxes (λ b. no_heard) box _ l) ∙ empty_whole;
        }
    go false = h

pub hear_shape : (r : CoordinatorRow) (box : ℕ) (m : OneB) → CoordinatorShape r → Whole m.vote.page → CoordinatorShape (hear_of r box m).row
unfolding hear_of hear_row heard_at
hear_shape r box m h p = go (eqb (hear_refusal r box m) granted)
  where
    answer : Bool → Noted CoordinatorRow
    answer b = cond b (record { refusal = granted; row = hear_row r box m }) (record { refusal = hear_refusal r box m; row = r })

    new : Heard
    new = record { filled = true; vrnd = m.vrnd; vote = m.vote }

    go : (b : Bool) → CoordinatorShape (answer b).row
    go true =
        record {
          opened = h.opened;
          slots = length-set r.heard box new ∙ h.slots;
          votes =
              λ k l.
              ⊎_elim (λ e. ap (λ (x : Heard). length x.vote.page.lines) e ∙ h.votes k l)
              (λ e. ap (λ (x : Heard). length x.vote.page.lines) e.1 ∙ p) (slot_set r.heard box new _ k);
        }
    go false = h

open_page_shape : (s : Setup) (r : CoordinatorRow) → Whole (open_page s r)
unfolding open_page
open_page_shape s r = go (any_vote r)
  where
    go : (b : Bool) → Whole (cond b (nil_extension (racks_below s.racks) (joined_votes r).page) empty)
    go true = nil_whole (racks_below s.racks) (joined_votes r).page
    go false = empty_whole

pub open_shape : (s : Setup) (agent : ℕ) (r : CoordinatorRow) → CoordinatorShape r →
    CoordinatorShape (open_of s agent r).row × Whole (open_of s agent r).sent.page
unfolding open_of open_row heard_at
open_shape s agent r h = go (eqb (open_refusal s agent r) granted)
  where
    answer : Bool → Answer CoordinatorRow TwoS
    answer b =
        cond b (record { refusal = granted; row = open_row r (open_page s r); sent = record { round = r.crnd; page = open_page s r } })
        (record { refusal = open_refusal s agent r; row = r; sent = no_two_s })

    go : (b : Bool) → CoordinatorShape (answer b).row × Whole (answer b).sent.page
    go true = (record { opened = open_page_shape s r; slots = h.slots; votes = h.votes }, open_page_shape s r)
    go false = (h, empty_whole)
