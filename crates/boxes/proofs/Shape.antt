-- A row keeps its shape, and what is sent has it: pages of 8 lines.
use Rattle.std.proofs.Common.{ℕ, eqb, Bool, true, false, cond, not, ◌||◌}
use Rattle.below.specs.Refusals.{granted}
use Rattle.pages.specs.declared.page.Page.{Page}
use Rattle.pages.specs.Racks.{outside}
use Rattle.pages.specs.Pages.{empty, append_of, nil_extension}
use Rattle.pages.proofs.Kept.{Whole, empty_whole, append_whole, nil_whole}
use Rattle.rounds.specs.declared.setup.Setup.{Setup}
use Rattle.rounds.specs.declared.round.Round.{Round}
use Rattle.rounds.specs.Rounds.{order_of, is_below}
use Rattle.records.specs.declared.messages.OneA.{OneA}
use Rattle.records.specs.declared.messages.OneB.{OneB}
use Rattle.records.specs.declared.messages.TwoS.{TwoS}
use Rattle.records.specs.declared.messages.TwoA.{TwoA}
use Rattle.records.specs.declared.messages.TwoB.{TwoB}
use Rattle.records.specs.declared.rows.BoxRow.{BoxRow}
use Rattle.records.specs.Answers.{Answer}
use Rattle.boxes.specs.Steps.{no_one_b, no_two_b, join_refusal, join_row, join_sent, join_of, voted, telling, taken, take_page_refusal, take_page_of, take_reading_refusal, take_reading_page, take_reading_of}

abbrev pub BoxShape : BoxRow → Type 0
BoxShape row = Whole row.vval.page

pub join_shape : (row : BoxRow) (m : OneA) → BoxShape row → BoxShape (join_of row m).row × Whole (join_of row m).sent.vote.page
unfolding join_of join_row join_sent
join_shape row m h = go (eqb (join_refusal row m) granted)
  where
    answer : Bool → Answer BoxRow OneB
    answer b =
        cond b (record { refusal = granted; row = join_row row m; sent = join_sent row m }) (record { refusal = join_refusal row m; row = row; sent = no_one_b })

    go : (b : Bool) → BoxShape (answer b).row × Whole (answer b).sent.vote.page
    go true = (h, h)
    go false = (h, empty_whole)

taken_shape : (number : ℕ) (row : BoxRow) (round : Round) (page : Page) → BoxShape row → Whole page →
    BoxShape (taken number row round page).row × Whole (taken number row round page).sent.page
taken_shape number row round page h p = go (eqb number granted)
  where
    answer : Bool → Answer BoxRow TwoB
    answer b = cond b (record { refusal = granted; row = voted round page; sent = telling round page }) (record { refusal = number; row = row; sent = no_two_b })

    go : (b : Bool) → BoxShape (answer b).row × Whole (answer b).sent.page
    go true = (p, p)
    go false = (h, empty_whole)

pub take_page_shape : (row : BoxRow) (m : TwoS) → BoxShape row → Whole m.page → BoxShape (take_page_of row m).row × Whole (take_page_of row m).sent.page
unfolding take_page_of
take_page_shape row m h p = taken_shape (take_page_refusal row m) row m.round m.page h p

pub take_reading_shape : (s : Setup) (row : BoxRow) (rack : ℕ) (m : TwoA) → BoxShape row →
    BoxShape (take_reading_of s row rack m).row × Whole (take_reading_of s row rack m).sent.page
unfolding take_reading_of take_reading_page
take_reading_shape s row rack m h =
    taken_shape (take_reading_refusal row m) row m.round (take_reading_page s row rack m) h
    (built (is_below (order_of row.vrnd m.round) || not row.vval.some))
  where
    built : (b : Bool) →
        Whole (cond b (nil_extension (outside m.round.cf s.racks) (append_of empty rack m.line.mark)) (append_of row.vval.page rack m.line.mark))
    built true = nil_whole (outside m.round.cf s.racks) (append_of empty rack m.line.mark)
    built false = append_whole row.vval.page rack m.line.mark
