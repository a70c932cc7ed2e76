-- The steps of a coordinator: 2 start, 4 hear, 5 open. `agent` is the coordinator.
use Rattle.std.specs.Prelude.{ℕ, zero, suc, eqb, leb, set, Bool, true, cond, not, ◌&&◌}
use Rattle.below.specs.Below.{any, count, row}
use Rattle.below.specs.Refusals.{unless, granted, wrong_round, already_done, no_majority, lines_clash}
use Rattle.pages.specs.declared.page.Page.{Page}
use Rattle.pages.specs.declared.page.Vote.{Vote}
use Rattle.pages.specs.Racks.{racks_below}
use Rattle.pages.specs.Pages.{empty, none, some, join_of, nil_extension}
use Rattle.rounds.specs.declared.setup.Setup.{Setup}
use Rattle.rounds.specs.declared.round.Round.{Round}
use Rattle.rounds.specs.Setups.{most_boxes, majority_of}
use Rattle.rounds.specs.Rounds.{round_of, order_of, is_above, is_equal, is_clash}
use Rattle.records.specs.Slots.{no_round, no_heard, heard_at}
use Rattle.records.specs.declared.slots.Heard.{Heard}
use Rattle.records.specs.declared.messages.OneA.{OneA}
use Rattle.records.specs.declared.messages.OneB.{OneB}
use Rattle.records.specs.declared.messages.TwoS.{TwoS}
use Rattle.records.specs.declared.rows.CoordinatorRow.{CoordinatorRow}
use Rattle.records.specs.Answers.{Answer, Noted}

-- a refused step leaves the row as it was and sends nothing
abbrev pub no_one_a : OneA
no_one_a = record { round = no_round }

abbrev pub no_two_s : TwoS
no_two_s = record { round = no_round; page = empty }

-- 2 start (n, cf; c is the agent): round above crnd, else 6. Sets crnd, cval none, heard empty; sends 1A
unfoldable pub start_refusal : CoordinatorRow → Round → ℕ
start_refusal r round = unless (is_above (order_of round r.crnd)) wrong_round granted

unfoldable pub start_row : Round → CoordinatorRow
start_row round = record { crnd = round; cval = none; heard = row most_boxes (λ box. no_heard) }

unfoldable pub start_of : ℕ → CoordinatorRow → ℕ → ℕ → Answer CoordinatorRow OneA
start_of agent r n cf =
    cond (eqb (start_refusal r (round_of n agent cf)) granted)
    (record { refusal = granted; row = start_row (round_of n agent cf); sent = record { round = round_of n agent cf } })
    (record { refusal = start_refusal r (round_of n agent cf); row = r; sent = no_one_a })

-- 4 hear (1B of `box`): round equals crnd, else 6; cval none and this box not heard, else 7. Keeps it
unfoldable pub hear_refusal : CoordinatorRow → ℕ → OneB → ℕ
hear_refusal r box m =
    unless (is_equal (order_of m.round r.crnd)) wrong_round
    (unless (not r.cval.some && not (heard_at r box).filled) already_done granted)

unfoldable pub hear_row : CoordinatorRow → ℕ → OneB → CoordinatorRow
hear_row r box m =
    record { crnd = r.crnd; cval = r.cval; heard = set r.heard box (record { filled = true; vrnd = m.vrnd; vote = m.vote }) }

unfoldable pub hear_of : CoordinatorRow → ℕ → OneB → Noted CoordinatorRow
hear_of r box m =
    cond (eqb (hear_refusal r box m) granted) (record { refusal = granted; row = hear_row r box m }) (record { refusal = hear_refusal r box m; row = r })

-- 5 open: crnd's c is the agent, else 6 (and 6 where the vrnds of any two heard votes clash); cval none, else 7; majority heard,
-- else 8. With no vote among all heard, cval is the empty page. Otherwise take the votes of the highest vrnd that has any, join
-- them (9 if not compatible), Nil-extend over all racks. Sends 2S with cval
abbrev pub is_vote : Heard → Bool
is_vote h = h.filled && h.vote.some

unfoldable pub any_vote : CoordinatorRow → Bool
any_vote r = any most_boxes (λ box. is_vote (heard_at r box))

-- two votes whose vrnds clash, and one with a higher vrnd than another's
abbrev pub clashing : Heard → Heard → Bool
clashing a b = is_vote a && is_vote b && is_clash (order_of a.vrnd b.vrnd)

abbrev pub higher : Heard → Heard → Bool
higher a b = is_vote a && is_above (order_of a.vrnd b.vrnd)

unfoldable pub any_clash : CoordinatorRow → Bool
any_clash r = any most_boxes (λ a. any most_boxes (λ b. clashing (heard_at r a) (heard_at r b)))

-- a vote of the highest vrnd that has any: no heard vote has a higher one
unfoldable pub highest : CoordinatorRow → Heard → Bool
highest r h = is_vote h && not (any most_boxes (λ box. higher (heard_at r box) h))

unfoldable pub heard_count : CoordinatorRow → ℕ
heard_count r = count most_boxes (λ box. (heard_at r box).filled)

-- one vote more joined to those before, none once they were not compatible
abbrev pub join_more : Bool → Page → Vote → Vote
join_more takes p v = cond (takes && v.some) (join_of v.page p) v

-- the votes that take part, of the boxes below n, joined
unfoldable pub join_votes : (ℕ → Bool) → (ℕ → Page) → ℕ → Vote
join_votes takes pages zero = some empty
join_votes takes pages (suc n) = join_more (takes n) (pages n) (join_votes takes pages n)

unfoldable pub joined_votes : CoordinatorRow → Vote
joined_votes r = join_votes (λ box. highest r (heard_at r box)) (λ box. (heard_at r box).vote.page) most_boxes

unfoldable pub open_page : Setup → CoordinatorRow → Page
open_page s r = cond (any_vote r) (nil_extension (racks_below s.racks) (joined_votes r).page) empty

unfoldable pub open_refusal : Setup → ℕ → CoordinatorRow → ℕ
open_refusal s agent r =
    unless (eqb r.crnd.c agent && not (any_clash r)) wrong_round
    (unless (not r.cval.some) already_done
    (unless (leb (majority_of s.boxes) (heard_count r)) no_majority
    (unless (joined_votes r).some lines_clash granted)))

unfoldable pub open_row : CoordinatorRow → Page → CoordinatorRow
open_row r page = record { crnd = r.crnd; cval = some page; heard = r.heard }

unfoldable pub open_of : Setup → ℕ → CoordinatorRow → Answer CoordinatorRow TwoS
open_of s agent r =
    cond (eqb (open_refusal s agent r) granted)
    (record { refusal = granted; row = open_row r (open_page s r); sent = record { round = r.crnd; page = open_page s r } })
    (record { refusal = open_refusal s agent r; row = r; sent = no_two_s })
