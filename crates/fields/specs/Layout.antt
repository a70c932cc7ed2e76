-- The fields of document 01, 'Blocks'. C-14's wider readings are another `reading` here and nothing else.
use Rattle.std.specs.Prelude.{ℕ, eqb, leb, Bool, true, false, cond, ◌&&◌, List, []}
use Rattle.pages.specs.declared.line.Reading
use Rattle.pages.specs.declared.line.Mark.{Mark}
use Rattle.pages.specs.declared.line.Mark.TheVariants.{Absent, Nil, Reading as reads}
use Rattle.pages.specs.declared.line.Line.{Line}
use Rattle.pages.specs.declared.page.Page.{Page}
use Rattle.pages.specs.declared.page.Vote.{Vote}
use Rattle.pages.specs.Racks.{most_racks}
use Rattle.pages.specs.Pages.{line}
use Rattle.rounds.specs.declared.round.Round.{Round}
use Rattle.rounds.specs.Rounds.{round_of}
use Rattle.rounds.specs.Setups.{most_boxes}
use Rattle.records.specs.declared.slots.Heard.{Heard}
use Rattle.records.specs.declared.slots.Held.{Held}
use Rattle.records.specs.declared.slots.Blank.{Blank}
use Rattle.records.specs.Slots.{no_round, no_blank}
use Rattle.fields.specs.Codecs.{Codec, one_byte, two_bytes, four_bytes, both, like, some, times}

-- flag 0 or 1
abbrev pub flag : Codec Bool
flag = some (λ b. cond b 1 0) (λ x. eqb x 1) (λ x. leb x 1) one_byte

-- round: n in two bytes, c, cf
abbrev pub round : Codec Round
round = like (λ r. (r.n.0, (r.c, r.cf))) (λ p. round_of p.0 p.1.0 p.1.1) (both two_bytes (both one_byte one_byte))

-- a reading in four bytes; none is a zero there
abbrev pub reading : Codec Reading.Reading
reading = like (λ r. r.0) (λ x. record { 0 = x }) four_bytes

abbrev pub no_reading : Reading.Reading
no_reading = record { 0 = 0 }

abbrev pub is_no_reading : Reading.Reading → Bool
is_no_reading r = eqb r.0 0

-- line: state 0 absent, 1 Nil, 2 reading, then the reading, zero unless 2
abbrev pub state_of : Mark → ℕ
state_of Absent = 0
state_of Nil = 1
state_of (reads r) = 2

abbrev pub payload_of : Mark → Reading.Reading
payload_of Absent = no_reading
payload_of Nil = no_reading
payload_of (reads r) = r

abbrev pub line_of : ℕ → Reading.Reading → Line
line_of state r = cond (eqb state 2) (line (reads r)) (cond (eqb state 1) (line Nil) (line Absent))

abbrev pub line_exact : ℕ → Reading.Reading → Bool
line_exact state r = cond (eqb state 2) true (leb state 1 && is_no_reading r)

abbrev pub line_as : Codec Line
line_as = some (λ l. (state_of l.mark, payload_of l.mark)) (λ p. line_of p.0 p.1) (λ p. line_exact p.0 p.1) (both one_byte reading)

-- page: 8 lines
abbrev pub page : Codec Page
page = like (λ p. p.lines) (λ l. record { lines = l }) (times most_racks (line Absent) line_as)

-- optional page: flag, then the page
abbrev pub vote : Codec Vote
vote = like (λ v. (v.some, v.page)) (λ p. record { some = p.0; page = p.1 }) (both flag page)

-- slots: flag, then what was heard or is held
abbrev pub heard : Codec Heard
heard =
    like (λ h. (h.filled, (h.vrnd, h.vote))) (λ p. record { filled = p.0; vrnd = p.1.0; vote = p.1.1 }) (both flag (both round vote))

abbrev pub held : Codec Held
held =
    like (λ h. (h.filled, (h.round, h.page))) (λ p. record { filled = p.0; round = p.1.0; page = p.1.1 }) (both flag (both round page))

abbrev pub blank : Codec Blank
blank = like (λ b. (b.filled, b.round)) (λ p. record { filled = p.0; round = p.1 }) (both flag round)

-- what a row has past its last slot, where nothing asks
abbrev pub past_heard : Heard
past_heard = record { filled = false; vrnd = no_round; vote = record { some = false; page = record { lines = [] } } }

abbrev pub past_held : Held
past_held = record { filled = false; round = no_round; page = record { lines = [] } }

abbrev pub five_heard : Codec (List Heard)
five_heard = times most_boxes past_heard heard

abbrev pub five_held : Codec (List Held)
five_held = times most_boxes past_held held

abbrev pub eight_blanks : Codec (List Blank)
eight_blanks = times most_racks no_blank blank
