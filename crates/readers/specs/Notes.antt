-- Two steps of a reader: 11 note vote, 12 note blank.
use Rattle.std.specs.Prelude.{ℕ, eqb, set, true, cond, not}
use Rattle.below.specs.Refusals.{unless, granted, wrong_message, wrong_round, already_done, lines_clash}
use Rattle.pages.specs.declared.page.Page.{Page}
use Rattle.pages.specs.Lines.{is_nil}
use Rattle.pages.specs.Pages.{prefix_of}
use Rattle.rounds.specs.declared.order.Order.{Order}
use Rattle.rounds.specs.declared.order.Order.TheVariants.{Below, Equal, Above, Clash}
use Rattle.rounds.specs.Rounds.{order_of}
use Rattle.records.specs.Slots.{held_at, blank_at}
use Rattle.records.specs.declared.messages.TwoA.{TwoA}
use Rattle.records.specs.declared.messages.TwoB.{TwoB}
use Rattle.records.specs.declared.slots.Held.{Held}
use Rattle.records.specs.declared.slots.Blank.{Blank}
use Rattle.records.specs.declared.rows.ReaderRow.{ReaderRow}
use Rattle.records.specs.Answers.{Noted}

-- a refused step leaves the row as it was
abbrev pub refused : ℕ → ReaderRow → Noted ReaderRow
refused number row = record { refusal = number; row = row }

abbrev pub noted : ℕ → ReaderRow → ReaderRow → Noted ReaderRow
noted number row after = cond (eqb number granted) (record { refusal = granted; row = after }) (refused number row)

-- by the order of the held round to the message's: a lower one is replaced, a higher one or a clash is 6
abbrev pub by_order : Order → ℕ → ℕ
by_order Below same = granted
by_order Equal same = same
by_order Above same = wrong_round
by_order Clash same = wrong_round

-- in the same round a strict extension replaces, a prefix or equal is 7, other is 9
abbrev pub same_round_refusal : Page → Page → ℕ
same_round_refusal held page = unless (not (prefix_of page held)) already_done (unless (prefix_of held page) lines_clash granted)

-- 11 note vote (2B of `box`): per box one is held. Held none, or of a lower round: replace. Higher held: 6. Same round: a strict
-- extension replaces, a prefix or equal is 7, other is 9
unfoldable pub note_vote_refusal : Held → TwoB → ℕ
note_vote_refusal held m = cond held.filled (by_order (order_of held.round m.round) (same_round_refusal held.page m.page)) granted

unfoldable pub note_vote_row : ReaderRow → ℕ → TwoB → ReaderRow
note_vote_row r box m =
    record { page = r.page; held = set r.held box (record { filled = true; round = m.round; page = m.page }); blanks = r.blanks }

unfoldable pub note_vote_of : ReaderRow → ℕ → TwoB → Noted ReaderRow
note_vote_of r box m = noted (note_vote_refusal (held_at r box) m) r (note_vote_row r box m)

-- 12 note blank (2A with Nil, of `rack`): per rack one round is held; the first is kept, higher replaces, equal 7, lower 6
unfoldable pub note_blank_refusal : Blank → TwoA → ℕ
note_blank_refusal held m =
    unless (is_nil m.line.mark) wrong_message
    (cond held.filled (by_order (order_of held.round m.round) already_done) granted)

unfoldable pub note_blank_row : ReaderRow → ℕ → TwoA → ReaderRow
note_blank_row r rack m = record { page = r.page; held = r.held; blanks = set r.blanks rack (record { filled = true; round = m.round }) }

unfoldable pub note_blank_of : ReaderRow → ℕ → TwoA → Noted ReaderRow
note_blank_of r rack m = noted (note_blank_refusal (blank_at r rack) m) r (note_blank_row r rack m)
