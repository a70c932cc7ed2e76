-- The slots of a row, by box or rack, and the empty ones.
use Rattle.std.specs.Prelude.{ℕ, get_or, false, []}
use Rattle.pages.specs.Pages.{empty, none}
use Rattle.rounds.specs.declared.round.Round.{Round}
use Rattle.rounds.specs.Rounds.{round_of}
use Rattle.records.specs.declared.slots.Heard.{Heard}
use Rattle.records.specs.declared.slots.Held.{Held}
use Rattle.records.specs.declared.slots.Blank.{Blank}
use Rattle.records.specs.declared.rows.CoordinatorRow.{CoordinatorRow}
use Rattle.records.specs.declared.rows.ReaderRow.{ReaderRow}

-- no round at all, as an empty slot stores it
abbrev pub no_round : Round
no_round = round_of 0 0 0

abbrev pub no_heard : Heard
no_heard = record { filled = false; vrnd = no_round; vote = none }

abbrev pub no_held : Held
no_held = record { filled = false; round = no_round; page = empty }

abbrev pub no_blank : Blank
no_blank = record { filled = false; round = no_round }

-- what was heard or is held of a box, and in which round a rack is held blank. (Past the last slot, where nothing asks, a
-- list has an empty slot whose page has no lines.)
unfoldable pub heard_at : CoordinatorRow → ℕ → Heard
heard_at r box = get_or r.heard box (record { filled = false; vrnd = no_round; vote = record { some = false; page = record { lines = [] } } })

unfoldable pub held_at : ReaderRow → ℕ → Held
held_at r box = get_or r.held box (record { filled = false; round = no_round; page = record { lines = [] } })

unfoldable pub blank_at : ReaderRow → ℕ → Blank
blank_at r rack = get_or r.blanks rack no_blank
