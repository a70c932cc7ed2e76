-- The steps of a rack: 1 offer, 6 prepare, 7 fast, 8 blank. `agent` is the rack.
use Rattle.std.specs.Prelude.{ℕ, eqb, cond, ◌&&◌}
use Rattle.below.specs.Refusals.{unless, granted, wrong_message, wrong_round, already_done}
use Rattle.pages.specs.declared.line.Reading as Reading
use Rattle.pages.specs.declared.line.Mark.{Mark}
use Rattle.pages.specs.declared.line.Mark.TheVariants.{Absent, Nil, Reading as reads}
use Rattle.pages.specs.Lines.{is_absent, is_reading}
use Rattle.pages.specs.Racks.{has}
use Rattle.pages.specs.Pages.{line, at, empty_of}
use Rattle.rounds.specs.Rounds.{order_of, is_above, is_equal}
use Rattle.records.specs.Slots.{no_round}
use Rattle.records.specs.declared.messages.Propose.{Propose}
use Rattle.records.specs.declared.messages.TwoS.{TwoS}
use Rattle.records.specs.declared.messages.TwoA.{TwoA}
use Rattle.records.specs.declared.rows.RackRow.{RackRow}
use Rattle.records.specs.Answers.{Answer, Noted}

-- a refused step leaves the row as it was and sends nothing
abbrev pub no_two_a : TwoA
no_two_a = record { round = no_round; line = line Absent }

abbrev pub spoken : ℕ → RackRow → RackRow → TwoA → Answer RackRow TwoA
spoken number row after sent =
    cond (eqb number granted) (record { refusal = granted; row = after; sent = sent }) (record { refusal = number; row = row; sent = no_two_a })

-- 1 offer: reads the rack's row, changes none; sends PROPOSE
abbrev pub offer_of : Reading.Reading → Propose
offer_of reading = record { reading = reading }

-- 6 prepare (2S): round above prnd, else 6. Sets prnd; pval is none for the empty page, else this rack's line
unfoldable pub prepare_refusal : RackRow → TwoS → ℕ
prepare_refusal row m = unless (is_above (order_of m.round row.prnd)) wrong_round granted

unfoldable pub prepare_row : ℕ → TwoS → RackRow
prepare_row agent m = record { prnd = m.round; pval = line (cond (empty_of m.page) Absent (at m.page agent)) }

unfoldable pub prepare_of : ℕ → RackRow → TwoS → Noted RackRow
prepare_of agent row m =
    cond (eqb (prepare_refusal row m) granted) (record { refusal = granted; row = prepare_row agent m }) (record { refusal = prepare_refusal row m; row = row })

-- a rack speaks: pval is set to the line, which 2A carries in prnd
abbrev pub said : RackRow → Mark → RackRow
said row m = record { prnd = row.prnd; pval = line m }

abbrev pub saying : RackRow → Mark → TwoA
saying row m = record { round = row.prnd; line = line m }

-- 7 fast (PROPOSE of any rack): rack in prnd's cf, else 6; pval none, else 7. Sets pval to the reading; sends 2A
unfoldable pub fast_refusal : ℕ → RackRow → ℕ
fast_refusal agent row = unless (has row.prnd.cf agent) wrong_round (unless (is_absent row.pval.mark) already_done granted)

unfoldable pub fast_of : ℕ → RackRow → Propose → Answer RackRow TwoA
fast_of agent row m = spoken (fast_refusal agent row) row (said row (reads m.reading)) (saying row (reads m.reading))

-- 8 blank (2A with a reading): round equals prnd and rack in cf, else 6; pval none, else 7. Sets pval to Nil; sends 2A with Nil
unfoldable pub blank_refusal : ℕ → RackRow → TwoA → ℕ
blank_refusal agent row m =
    unless (is_reading m.line.mark) wrong_message
    (unless (is_equal (order_of m.round row.prnd) && has row.prnd.cf agent) wrong_round
    (unless (is_absent row.pval.mark) already_done granted))

unfoldable pub blank_of : ℕ → RackRow → TwoA → Answer RackRow TwoA
blank_of agent row m = spoken (blank_refusal agent row m) row (said row Nil) (saying row Nil)
