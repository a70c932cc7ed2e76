-- The steps of a box: 3 join, 9 take page, 10 take reading.
use Rattle.std.specs.Prelude.{ℕ, eqb, Bool, cond, not, ◌&&◌, ◌||◌}
use Rattle.below.specs.Refusals.{unless, granted, wrong_message, wrong_round, already_done}
use Rattle.pages.specs.declared.page.Page.{Page}
use Rattle.pages.specs.Lines.{is_reading}
use Rattle.pages.specs.Racks.{outside}
use Rattle.pages.specs.Pages.{empty, empty_of, append_of, nil_extension, none, some}
use Rattle.rounds.specs.declared.setup.Setup.{Setup}
use Rattle.rounds.specs.declared.round.Round.{Round}
use Rattle.rounds.specs.Rounds.{order_of, is_above, is_below, is_equal, is_clash, is_up_to}
use Rattle.records.specs.Slots.{no_round}
use Rattle.records.specs.declared.messages.OneA.{OneA}
use Rattle.records.specs.declared.messages.OneB.{OneB}
use Rattle.records.specs.declared.messages.TwoS.{TwoS}
use Rattle.records.specs.declared.messages.TwoA.{TwoA}
use Rattle.records.specs.declared.messages.TwoB.{TwoB}
use Rattle.records.specs.declared.rows.BoxRow.{BoxRow}
use Rattle.records.specs.Answers.{Answer}

-- a refused step leaves the row as it was and sends nothing
abbrev pub no_one_b : OneB
no_one_b = record { round = no_round; vrnd = no_round; vote = none }

abbrev pub no_two_b : TwoB
no_two_b = record { round = no_round; page = empty }

-- 3 join (1A): round above rnd, else 6. Sets rnd; sends 1B with vrnd and vval
unfoldable pub join_refusal : BoxRow → OneA → ℕ
join_refusal row m = unless (is_above (order_of m.round row.rnd)) wrong_round granted

unfoldable pub join_row : BoxRow → OneA → BoxRow
join_row row m = record { rnd = m.round; vrnd = row.vrnd; vval = row.vval }

unfoldable pub join_sent : BoxRow → OneA → OneB
join_sent row m = record { round = m.round; vrnd = row.vrnd; vote = row.vval }

unfoldable pub join_of : BoxRow → OneA → Answer BoxRow OneB
join_of row m =
    cond (eqb (join_refusal row m) granted) (record { refusal = granted; row = join_row row m; sent = join_sent row m })
    (record { refusal = join_refusal row m; row = row; sent = no_one_b })

-- the message's round is one that the box may vote in: rnd not above it, and no clash with rnd or vrnd
abbrev pub may_vote : BoxRow → Round → Bool
may_vote row round = is_up_to (order_of row.rnd round) && not (is_clash (order_of row.vrnd round))

-- a vote: rnd and vrnd are the round, vval the page, and 2B tells it
abbrev pub voted : Round → Page → BoxRow
voted round page = record { rnd = round; vrnd = round; vval = some page }

abbrev pub telling : Round → Page → TwoB
telling round page = record { round = round; page = page }

abbrev pub taken : ℕ → BoxRow → Round → Page → Answer BoxRow TwoB
taken number row round page =
    cond (eqb number granted) (record { refusal = granted; row = voted round page; sent = telling round page })
    (record { refusal = number; row = row; sent = no_two_b })

-- 9 take page (2S not empty): rnd not above the round, else 6; if vrnd equals it and vval is not none, 7. Sets rnd, vrnd, vval; sends 2B
unfoldable pub take_page_refusal : BoxRow → TwoS → ℕ
take_page_refusal row m =
    unless (not (empty_of m.page)) wrong_message
    (unless (may_vote row m.round) wrong_round
    (unless (not (is_equal (order_of row.vrnd m.round) && row.vval.some)) already_done granted))

unfoldable pub take_page_of : BoxRow → TwoS → Answer BoxRow TwoB
take_page_of row m = taken (take_page_refusal row m) row m.round m.page

-- 10 take reading (2A with a reading, of `rack`): rnd not above, else 6. If vrnd is lower or vval none, vval is that one line
-- Nil-extended over racks outside cf; else append. Sets rnd, vrnd; sends 2B, also when nothing changed
unfoldable pub take_reading_refusal : BoxRow → TwoA → ℕ
take_reading_refusal row m =
    unless (is_reading m.line.mark) wrong_message
    (unless (may_vote row m.round) wrong_round granted)

unfoldable pub take_reading_page : Setup → BoxRow → ℕ → TwoA → Page
take_reading_page s row rack m =
    cond (is_below (order_of row.vrnd m.round) || not row.vval.some)
    (nil_extension (outside m.round.cf s.racks) (append_of empty rack m.line.mark))
    (append_of row.vval.page rack m.line.mark)

unfoldable pub take_reading_of : Setup → BoxRow → ℕ → TwoA → Answer BoxRow TwoB
take_reading_of s row rack m = taken (take_reading_refusal row m) row m.round (take_reading_page s row rack m)
