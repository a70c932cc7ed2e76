-- A row keeps its shape: a page of 8 lines, 5 slots for boxes, 8 for racks.
use Rattle.std.proofs.Common.{ℕ, eqb, length, length-set, ◌≡◌, sym, ap, ◌∙◌, Bool, true, false, cond}
use Rattle.below.specs.Refusals.{granted}
use Rattle.below.proofs.Rows.{length-row}
use Rattle.pages.specs.declared.page.Page.{Page}
use Rattle.pages.specs.Racks.{most_racks}
use Rattle.pages.specs.Pages.{page}
use Rattle.rounds.specs.declared.setup.Setup.{Setup}
use Rattle.rounds.specs.declared.round.Round.{Round}
use Rattle.rounds.specs.Setups.{most_boxes}
use Rattle.records.specs.declared.messages.TwoA.{TwoA}
use Rattle.records.specs.declared.messages.TwoB.{TwoB}
use Rattle.records.specs.declared.rows.ReaderRow.{ReaderRow}
use Rattle.records.specs.Slots.{held_at, blank_at}
use Rattle.records.specs.Answers.{Noted}
use Rattle.readers.specs.Notes.{noted, note_vote_refusal, note_vote_row, note_vote_of, note_blank_refusal, note_blank_row, note_blank_of}
use Rattle.readers.specs.Learning.{Learns, too_few, not_compatible, all_nil, learnt}

pub record ReaderShape (r : ReaderRow) : Type 0 where
  pub lines : length r.page.lines ≡ most_racks
  pub held : length r.held ≡ most_boxes
  pub blanks : length r.blanks ≡ most_racks

-- granted or refused, the row is one of two
noted_shape : (number : ℕ) (r after : ReaderRow) → ReaderShape r → ReaderShape after → ReaderShape (noted number r after).row
noted_shape number r after h k = go (eqb number granted)
  where
    go : (b : Bool) → ReaderShape (cond {A = Noted ReaderRow} b (record { refusal = granted; row = after }) (record { refusal = number; row = r })).row
    go true = k
    go false = h

pub note_vote_shape : (r : ReaderRow) (box : ℕ) (m : TwoB) → ReaderShape r → ReaderShape (note_vote_of r box m).row
unfolding note_vote_of note_vote_row
note_vote_shape r box m h =
    noted_shape (note_vote_refusal (held_at r box) m) r (note_vote_row r box m) h
    (record { lines = h.lines; held = length-set r.held box _ ∙ h.held; blanks = h.blanks })

pub note_blank_shape : (r : ReaderRow) (rack : ℕ) (m : TwoA) → ReaderShape r → ReaderShape (note_blank_of r rack m).row
unfolding note_blank_of note_blank_row
note_blank_shape r rack m h =
    noted_shape (note_blank_refusal (blank_at r rack) m) r (note_blank_row r rack m) h
    (record { lines = h.lines; held = h.held; blanks = length-set r.blanks rack _ ∙ h.blanks })

-- the page that is joined has all its lines
pub learn_shape : (s : Setup) (r : ReaderRow) (round : Round) (a : Noted ReaderRow) → Learns s r round a → ReaderShape r → ReaderShape a.row
unfolding page
learn_shape s r round _ (too_few none) h = h
learn_shape s r round _ (not_compatible among m none) h = h
learn_shape s r round _ (all_nil among m w j t) h = h
learn_shape s r round _ (learnt among m w j t) h =
    record { lines = sym (ap (λ (p : Page). length p.lines) j.whole) ∙ length-row most_racks _; held = h.held; blanks = h.blanks }
