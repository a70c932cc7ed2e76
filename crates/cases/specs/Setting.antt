-- What the marked cases of open and learn are played in: P = 2, A = 3, both racks in cf, no blanks held.
use Rattle.std.specs.Prelude.{eqb, Bool, true, cond, ◌&&◌, [], ◌∷◌}
use Rattle.below.specs.Below.{row}
use Rattle.below.specs.Refusals.{granted}
use Rattle.pages.specs.declared.line.Mark.{Mark}
use Rattle.pages.specs.declared.line.Mark.TheVariants.{Absent}
use Rattle.pages.specs.declared.page.Page.{Page}
use Rattle.pages.specs.declared.page.Vote.{Vote}
use Rattle.pages.specs.Racks.{most_racks}
use Rattle.pages.specs.Pages.{page, empty, none, prefix_of}
use Rattle.rounds.specs.declared.setup.Setup.{Setup}
use Rattle.rounds.specs.Setups.{setup_of}
use Rattle.rounds.specs.Rounds.{round_of, zero_of}
use Rattle.records.specs.declared.slots.Heard.{Heard}
use Rattle.records.specs.declared.slots.Held.{Held}
use Rattle.records.specs.declared.rows.CoordinatorRow.{CoordinatorRow}
use Rattle.records.specs.Slots.{no_heard, no_held, no_blank}
use Rattle.coordinators.specs.Steps.{open_of}
use Rattle.readers.specs.Counting.{counted_of}

abbrev two_racks : Setup
two_racks = setup_of 2 3 1 1 0 3

-- the page with these lines of racks 0 and 1
abbrev pub lines : Mark → Mark → Page
lines a b = page (λ k. cond (eqb k 0) a (cond (eqb k 1) b Absent))

-- two pages have the same lines
abbrev same_page : Page → Page → Bool
same_page p q = prefix_of p q && prefix_of q p

-- coordinator 0 has heard two boxes in its round (1, 0), each with its last vote, of round Zero
abbrev heard_of : Vote → Heard
heard_of vote = record { filled = true; vrnd = zero_of two_racks; vote = vote }

abbrev heard_two : Vote → Vote → CoordinatorRow
heard_two a b = record { crnd = round_of 1 0 3; cval = none; heard = heard_of a ∷ heard_of b ∷ no_heard ∷ no_heard ∷ no_heard ∷ [] }

-- open is granted and sends this very page
abbrev pub opens_with : Vote → Vote → Page → Bool
opens_with a b p = eqb (open_of two_racks 0 (heard_two a b)).refusal granted && same_page p (open_of two_racks 0 (heard_two a b)).sent.page

-- what a reader holds of a box at round Zero
abbrev pub held_of : Mark → Mark → Held
held_of a b = record { filled = true; round = zero_of two_racks; page = lines a b }

-- a reader with the empty page that holds this of the three boxes learns, granted, exactly this page
abbrev pub learns : Held → Held → Held → Page → Bool
learns first second third p =
    let a =
    counted_of two_racks
    (record { page = empty; held = first ∷ second ∷ third ∷ no_held ∷ no_held ∷ []; blanks = row most_racks (λ rack. no_blank) })
    (zero_of two_racks) in
    eqb a.refusal granted && same_page p a.row.page
