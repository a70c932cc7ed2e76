-- The rules of document 01, 'Blocks', one a line, gathered per kind.
use Rattle.std.specs.Prelude.{ℕ, leb, ltb, eqb, Bool, cond, not, ◌&&◌, ◌||◌}
use Rattle.below.specs.Below.{all}
use Rattle.pages.specs.declared.page.Page.{Page}
use Rattle.pages.specs.declared.page.Vote.{Vote}
use Rattle.pages.specs.Lines.{reading_in_range, mark_in_range, is_absent}
use Rattle.pages.specs.Racks.{has, racks_below}
use Rattle.pages.specs.Pages.{complete_of, trivial_of, valued_of, empty_of, within_of}
use Rattle.rounds.specs.declared.round.Round.{Round}
use Rattle.rounds.specs.declared.setup.Setup.{Setup}
use Rattle.rounds.specs.Setups.{setup_in_range, most_boxes, most_racks}
use Rattle.rounds.specs.Rounds.{round_in_range, same_round, zero_of, order_of, is_below, is_above}
use Rattle.records.specs.declared.stamp.Stamp.{Stamp}
use Rattle.records.specs.declared.messages.Propose.{Propose}
use Rattle.records.specs.declared.messages.OneA.{OneA}
use Rattle.records.specs.declared.messages.OneB.{OneB}
use Rattle.records.specs.declared.messages.TwoS.{TwoS}
use Rattle.records.specs.declared.messages.TwoA.{TwoA}
use Rattle.records.specs.declared.messages.TwoB.{TwoB}
use Rattle.records.specs.declared.slots.Heard.{Heard}
use Rattle.records.specs.declared.slots.Held.{Held}
use Rattle.records.specs.declared.slots.Blank.{Blank}
use Rattle.records.specs.declared.rows.Head.{Head}
use Rattle.records.specs.declared.rows.CoordinatorRow.{CoordinatorRow}
use Rattle.records.specs.declared.rows.BoxRow.{BoxRow}
use Rattle.records.specs.declared.rows.RackRow.{RackRow}
use Rattle.records.specs.declared.rows.ReaderRow.{ReaderRow}
use Rattle.records.specs.Slots.{no_round, heard_at, held_at, blank_at}

-- setup and instance in range, and the agent is one of as many as there are of its sort
unfoldable pub stamp_rules : Stamp → ℕ → Bool
stamp_rules stamp agents =
    setup_in_range stamp.setup &&
    leb stamp.instance.0 65535 &&
    ltb stamp.agent agents

-- a page's lines are those of the hall's racks, its readings in range
abbrev pub page_rules : Setup → Page → Bool
page_rules s p = within_of (racks_below s.racks) p

-- a vote is valued; none holds no page
unfoldable pub vote_rules : Setup → Vote → Bool
vote_rules s v =
    page_rules s v.page &&
    cond v.some (valued_of v.page) (empty_of v.page)

-- a page that opens a round is empty, or complete and valued
unfoldable pub open_rules : Setup → Page → Bool
open_rules s p =
    page_rules s p &&
    (empty_of p || complete_of (racks_below s.racks) p && valued_of p)

-- what a round was opened with, if it was
unfoldable pub opened_rules : Setup → Vote → Bool
opened_rules s v = cond v.some (open_rules s v.page) (empty_of v.page)

-- a last vote: its round is in range, and Zero where there is none
unfoldable pub last_rules : Setup → Round → Vote → Bool
last_rules s vrnd v =
    round_in_range s vrnd &&
    vote_rules s v &&
    (v.some || same_round vrnd (zero_of s))

-- a round of a coordinator's own: n of 1 or more and c the agent
unfoldable pub own_rules : Setup → ℕ → Round → Bool
own_rules s agent r =
    round_in_range s r &&
    ltb 0 r.n.0 &&
    eqb r.c agent

-- what stands in an empty slot: nothing
unfoldable pub nothing_heard : Heard → Bool
nothing_heard h = same_round h.vrnd no_round && not h.vote.some && empty_of h.vote.page

unfoldable pub nothing_held : Held → Bool
nothing_held h = same_round h.round no_round && empty_of h.page

-- a slot of a box: only of one that exists, only in a round that was started, and below it
unfoldable pub filled_heard : Setup → Round → ℕ → Heard → Bool
filled_heard s crnd box h =
    ltb box s.boxes &&
    not (same_round crnd (zero_of s)) &&
    last_rules s h.vrnd h.vote &&
    is_below (order_of h.vrnd crnd)

unfoldable pub heard_rules : Setup → Round → ℕ → Heard → Bool
heard_rules s crnd box h = cond h.filled (filled_heard s crnd box h) (nothing_heard h)

unfoldable pub all_heard : Setup → CoordinatorRow → Bool
all_heard s r = all most_boxes (λ box. heard_rules s r.crnd box (heard_at r box))

-- a held page is valued
unfoldable pub held_rules : Setup → ℕ → Held → Bool
held_rules s box h =
    cond h.filled
    (ltb box s.boxes &&
    round_in_range s h.round &&
    page_rules s h.page &&
    valued_of h.page)
    (nothing_held h)

unfoldable pub blank_rules : Setup → ℕ → Blank → Bool
blank_rules s rack b =
    cond b.filled
    (ltb rack s.racks &&
    round_in_range s b.round)
    (same_round b.round no_round)

unfoldable pub all_held : Setup → ReaderRow → Bool
all_held s r = all most_boxes (λ box. held_rules s box (held_at r box))

unfoldable pub all_blanks : Setup → ReaderRow → Bool
all_blanks s r = all most_racks (λ rack. blank_rules s rack (blank_at r rack))

-- 1 PROPOSE
unfoldable pub propose_rules : Setup → ℕ → Propose → Bool
propose_rules s agent m = reading_in_range m.reading

-- 2 1A
unfoldable pub one_a_rules : Setup → ℕ → OneA → Bool
one_a_rules s agent m = own_rules s agent m.round

-- 3 1B
unfoldable pub one_b_rules : Setup → ℕ → OneB → Bool
one_b_rules s agent m =
    round_in_range s m.round &&
    last_rules s m.vrnd m.vote &&
    is_below (order_of m.vrnd m.round)

-- 4 2S
unfoldable pub two_s_rules : Setup → ℕ → TwoS → Bool
two_s_rules s agent m =
    own_rules s agent m.round &&
    open_rules s m.page

-- 5 2A
unfoldable pub two_a_rules : Setup → ℕ → TwoA → Bool
two_a_rules s agent m =
    round_in_range s m.round &&
    mark_in_range m.line.mark &&
    has m.round.cf agent &&
    not (is_absent m.line.mark)

-- 6 2B
unfoldable pub two_b_rules : Setup → ℕ → TwoB → Bool
two_b_rules s agent m =
    round_in_range s m.round &&
    page_rules s m.page &&
    valued_of m.page

-- 16 head
unfoldable pub head_rules : Setup → ℕ → Head → Bool
head_rules s agent r = leb r.count 96

-- 17 coordinator
unfoldable pub coordinator_rules : Setup → ℕ → CoordinatorRow → Bool
coordinator_rules s agent r =
    round_in_range s r.crnd &&
    (same_round r.crnd (zero_of s) || eqb r.crnd.c agent) &&
    opened_rules s r.cval &&
    all_heard s r

-- 18 box
unfoldable pub box_rules : Setup → ℕ → BoxRow → Bool
box_rules s agent r =
    round_in_range s r.rnd &&
    last_rules s r.vrnd r.vval &&
    not (is_above (order_of r.vrnd r.rnd))

-- 19 rack
unfoldable pub rack_rules : Setup → ℕ → RackRow → Bool
rack_rules s agent r =
    round_in_range s r.prnd &&
    mark_in_range r.pval.mark

-- 20 reader
unfoldable pub reader_rules : Setup → ℕ → ReaderRow → Bool
reader_rules s agent r =
    page_rules s r.page &&
    not (trivial_of (racks_below s.racks) r.page) &&
    all_held s r &&
    all_blanks s r
