-- The rules are kept: a good row and a good message give, where the step is granted, a good row and a good message sent.
use Rattle.std.proofs.Common.{ℕ, ◌<◌, arith, ltb, eqb, lt-ltb, eq-eqb, ◌≡◌, refl, sym, ap, subst, ◌∙◌, Bool, true, false, cond, not, ◌&&◌, ◌||◌, true≢false, ◌⊎◌, inl, inr, ⊎_elim}
use Rattle.std.proofs.Math.Decide.{dec_lt}
use borrow.Author.Tests.{not-true}
use Rattle.below.specs.Refusals.{granted}
use Rattle.below.proofs.Tests.{and_true, and_left, and_right, or_true_right, not_true_false, all_at, all_true}
use Rattle.below.proofs.Counts.{count_some}
use Rattle.below.proofs.Rows.{row_at}
use Rattle.pages.specs.Lines.{is_absent}
use Rattle.pages.specs.Racks.{most_racks, racks_below}
use Rattle.pages.specs.Pages.{at, some, nil_extension, complete_of, valued_of, within_of}
use Rattle.pages.proofs.Algebra as A
use Rattle.pages.proofs.PageLaws.{at_nil, lines_complete}
use Rattle.pages.proofs.Kept.{empty_empty, empty_within, nil_within, nil_prefix, prefix_valued}
use Rattle.rounds.specs.declared.round.Round.{Round}
use Rattle.rounds.specs.declared.setup.Setup.{Setup}
use Rattle.rounds.specs.Setups.{most_boxes}
use Rattle.rounds.specs.Rounds.{round_of, zero_of, same_round, round_in_range, order_of, is_below}
use Rattle.rounds.proofs.Ordered.{Lower, same_round_lem, lower_irrefl, lower_trans, below_is, range_zero, zero_lowest}
use Rattle.records.specs.declared.messages.OneB.{OneB}
use Rattle.records.specs.declared.slots.Heard.{Heard}
use Rattle.records.specs.declared.rows.CoordinatorRow.{CoordinatorRow}
use Rattle.records.specs.Slots.{no_heard, heard_at}
use Rattle.records.specs.Rules.{last_rules, open_rules, opened_rules, nothing_heard, filled_heard, heard_rules, all_heard, coordinator_rules, one_a_rules, one_b_rules, two_s_rules}
use Rattle.records.proofs.RuleParts.{own_rules_lem, open_rules_lem, empty_open_rules, vote_within, vote_valued, last_range, last_vote}
use Rattle.coordinators.specs.Steps.{is_vote, start_row, start_of, hear_row, hear_of, any_vote, highest, heard_count, joined_votes, open_page, open_of}
use Rattle.coordinators.proofs.Slots.{slot_set}
use Rattle.coordinators.proofs.GrantedSteps.{StartGranted, start_granted, HearGranted, hear_granted, OpenGranted, open_granted}
use Rattle.coordinators.proofs.HighestVote.{highest_vote, highest_exists}
use Rattle.coordinators.proofs.JoinedVotes.{joined_within}
use Rattle.coordinators.proofs.OpenPage.{votes_highest, voted_page, open_no_vote, open_some_vote, joined_above_votes}

-- the parts of a coordinator's row
row_range : (s : Setup) (agent : ℕ) (r : CoordinatorRow) → coordinator_rules s agent r ≡ true → round_in_range s r.crnd ≡ true
unfolding coordinator_rules
row_range s agent r h = and_left _ _ (and_left _ (opened_rules s r.cval) (and_left _ (all_heard s r) h))

row_own : (s : Setup) (agent : ℕ) (r : CoordinatorRow) → coordinator_rules s agent r ≡ true → same_round r.crnd (zero_of s) || eqb r.crnd.c agent ≡ true
unfolding coordinator_rules
row_own s agent r h = and_right (round_in_range s r.crnd) _ (and_left _ (opened_rules s r.cval) (and_left _ (all_heard s r) h))

row_slot : (s : Setup) (agent : ℕ) (r : CoordinatorRow) → coordinator_rules s agent r ≡ true → (box : ℕ) → box < most_boxes →
    heard_rules s r.crnd box (heard_at r box) ≡ true
unfolding coordinator_rules all_heard
row_slot s agent r h =
    all_at most_boxes (λ box. heard_rules s r.crnd box (heard_at r box))
    (and_right (round_in_range s r.crnd && (same_round r.crnd (zero_of s) || eqb r.crnd.c agent) && opened_rules s r.cval) _ h)

row_opened : (s : Setup) (agent : ℕ) (r : CoordinatorRow) → coordinator_rules s agent r ≡ true → opened_rules s r.cval ≡ true
unfolding coordinator_rules
row_opened s agent r h =
    and_right (round_in_range s r.crnd && (same_round r.crnd (zero_of s) || eqb r.crnd.c agent)) _ (and_left _ (all_heard s r) h)

row_good : (s : Setup) (agent : ℕ) (r : CoordinatorRow) → round_in_range s r.crnd ≡ true → same_round r.crnd (zero_of s) || eqb r.crnd.c agent ≡ true →
    opened_rules s r.cval ≡ true → ((box : ℕ) → box < most_boxes → heard_rules s r.crnd box (heard_at r box) ≡ true) → coordinator_rules s agent r ≡ true
unfolding coordinator_rules all_heard
row_good s agent r a b c d = and_true (and_true (and_true a b) c) (all_true most_boxes (λ box. heard_rules s r.crnd box (heard_at r box)) d)

-- the parts of a filled slot
slot_filled : (s : Setup) (crnd : Round) (box : ℕ) (h : Heard) → heard_rules s crnd box h ≡ true → h.filled ≡ true → filled_heard s crnd box h ≡ true
unfolding heard_rules
slot_filled s crnd box h e f = subst (λ (b : Bool). cond b (filled_heard s crnd box h) (nothing_heard h) ≡ true) f e

slot_started : (s : Setup) (crnd : Round) (box : ℕ) (h : Heard) → filled_heard s crnd box h ≡ true → same_round crnd (zero_of s) ≡ false
unfolding filled_heard
slot_started s crnd box h e =
    not-true (same_round crnd (zero_of s))
    (and_right (ltb box s.boxes) _ (and_left _ (last_rules s h.vrnd h.vote) (and_left _ (is_below (order_of h.vrnd crnd)) e)))

slot_last : (s : Setup) (crnd : Round) (box : ℕ) (h : Heard) → filled_heard s crnd box h ≡ true → last_rules s h.vrnd h.vote ≡ true
unfolding filled_heard
slot_last s crnd box h e =
    and_right (ltb box s.boxes && not (same_round crnd (zero_of s))) _ (and_left _ (is_below (order_of h.vrnd crnd)) e)

-- 2 start, of a round in range with n of 1 or more: what the hall looks at before (11)
pub start_keeps : (s : Setup) (agent : ℕ) (r : CoordinatorRow) (n cf : ℕ) → round_in_range s (round_of n agent cf) ≡ true → 0 < n →
    (start_of agent r n cf).refusal ≡ granted →
    (coordinator_rules s agent (start_of agent r n cf).row ≡ true) × (one_a_rules s agent (start_of agent r n cf).sent ≡ true)
unfolding start_row one_a_rules opened_rules heard_rules nothing_heard heard_at
start_keeps s agent r n cf range some_n h = (
  ap (coordinator_rules s agent) facts.row_is ∙
      row_good s agent (start_row (round_of n agent cf)) range (or_true_right (same_round (round_of n agent cf) (zero_of s)) (eq-eqb agent agent refl)) empty_empty
      (λ box l. ap (heard_rules s (round_of n agent cf) box) (row_at most_boxes (λ b. no_heard) box _ l) ∙ empty_empty),
  ap (one_a_rules s agent) facts.sent_is ∙ own_rules_lem s agent (round_of n agent cf) range some_n refl,
)
  where
    facts : StartGranted agent r n cf
    facts = start_granted agent r n cf h

-- a round that a good last vote is below was started: Zero is the lowest
above_zero : (s : Setup) (vrnd round : Round) → round_in_range s vrnd ≡ true → Lower vrnd round → same_round round (zero_of s) ≡ false
above_zero s vrnd round range l = not_true_false _ (λ e. never (same_round_lem round (zero_of s) e) (zero_lowest s vrnd range))
  where
    never : round ≡ zero_of s → (vrnd ≡ zero_of s) ⊎ Lower (zero_of s) vrnd → ⊥
    never q (inl z) = lower_irrefl round (subst (λ (x : Round). Lower x round) (z ∙ sym q) l)
    never q (inr z) = lower_irrefl vrnd (lower_trans vrnd round vrnd l (subst (λ (x : Round). Lower x vrnd) (sym q) z))

-- 4 hear, of a box of the hall
pub hear_keeps : (s : Setup) (agent : ℕ) (r : CoordinatorRow) (box : ℕ) (m : OneB) → box < s.boxes → coordinator_rules s agent r ≡ true → one_b_rules s box m ≡ true →
    (hear_of r box m).refusal ≡ granted → coordinator_rules s agent (hear_of r box m).row ≡ true
unfolding one_b_rules hear_row heard_at filled_heard heard_rules
hear_keeps s agent r box m l rules good h =
    ap (coordinator_rules s agent) facts.row_is ∙
    row_good s agent (hear_row r box m) (row_range s agent r rules) (row_own s agent r rules) (row_opened s agent r rules)
    (λ k n.
    ⊎_elim (λ e. ap (heard_rules s r.crnd k) e ∙ row_slot s agent r rules k n)
    (λ e. ap (heard_rules s r.crnd k) e.1 ∙ subst (λ (x : ℕ). filled_heard s r.crnd x new ≡ true) (sym e.0) new_good)
    (slot_set r.heard box new _ k))
  where
    facts : HearGranted r box m
    facts = hear_granted r box m h

    new : Heard
    new = record { filled = true; vrnd = m.vrnd; vote = m.vote }

    last : last_rules s m.vrnd m.vote ≡ true
    last = and_right (round_in_range s m.round) _ (and_left _ (is_below (order_of m.vrnd m.round)) good)

    below : is_below (order_of m.vrnd r.crnd) ≡ true
    below =
        subst (λ (x : Round). is_below (order_of m.vrnd x) ≡ true) facts.same
        (and_right (round_in_range s m.round && last_rules s m.vrnd m.vote) _ good)

    new_good : filled_heard s r.crnd box new ≡ true
    new_good =
        and_true
        (and_true
        (and_true (lt-ltb box s.boxes l)
        (ap not (above_zero s m.vrnd r.crnd (last_range s m.vrnd m.vote last) (below_is m.vrnd r.crnd below))))
        last)
        below

-- a vote of the highest vrnd in a good row is a good vote
vote_last : (s : Setup) (agent : ℕ) (r : CoordinatorRow) → coordinator_rules s agent r ≡ true → (box : ℕ) → box < most_boxes → is_vote (heard_at r box) ≡ true →
    last_rules s (heard_at r box).vrnd (heard_at r box).vote ≡ true
vote_last s agent r rules box l v =
    slot_last s r.crnd box (heard_at r box)
    (slot_filled s r.crnd box (heard_at r box) (row_slot s agent r rules box l) (and_left (heard_at r box).filled _ v))

-- the page that opens a round: empty, or complete and valued
pub open_page_good : (s : Setup) (agent : ℕ) (r : CoordinatorRow) → coordinator_rules s agent r ≡ true → (joined_votes r).some ≡ true → open_rules s (open_page s r) ≡ true
unfolding joined_votes
open_page_good s agent r rules joined = go (any_vote r) refl
  where
    within : within_of (racks_below s.racks) (joined_votes r).page ≡ true
    within =
        joined_within (votes_highest r) (voted_page r) (racks_below s.racks) most_boxes
        (λ b l t.
        vote_within s (heard_at r b).vote
        (last_vote s (heard_at r b).vrnd (heard_at r b).vote (vote_last s agent r rules b l (highest_vote r (heard_at r b) t))))

    valued : (b : ℕ) × (b < most_boxes) × (highest r (heard_at r b) ≡ true) → valued_of (joined_votes r).page ≡ true
    valued (b, l, t) =
        prefix_valued (voted_page r b) (joined_votes r).page (joined_above_votes r joined b l t)
        (vote_valued s (heard_at r b).vote
        (last_vote s (heard_at r b).vrnd (heard_at r b).vote (vote_last s agent r rules b l (highest_vote r (heard_at r b) t)))
        (and_right (heard_at r b).filled _ (highest_vote r (heard_at r b) t)))

    complete : complete_of (racks_below s.racks) (nil_extension (racks_below s.racks) (joined_votes r).page) ≡ true
    complete =
        lines_complete (racks_below s.racks) (nil_extension (racks_below s.racks) (joined_votes r).page)
        (λ k l i.
        ap is_absent (at_nil (racks_below s.racks) (joined_votes r).page k l) ∙ A.nil_complete most_racks (racks_below s.racks) (at (joined_votes r).page) k l i)

    go : (b : Bool) → any_vote r ≡ b → open_rules s (open_page s r) ≡ true
    go true e =
        ap (open_rules s) (open_some_vote s r e) ∙
        open_rules_lem s (nil_extension (racks_below s.racks) (joined_votes r).page)
        (nil_within (racks_below s.racks) (racks_below s.racks) (joined_votes r).page within (λ k o. o)) complete
        (prefix_valued (joined_votes r).page _ (nil_prefix (racks_below s.racks) (joined_votes r).page) (valued (highest_exists r e)))
    go false e = ap (open_rules s) (open_no_vote s r e) ∙ empty_open_rules s _ (empty_within (racks_below s.racks)) empty_empty

-- 5 open: a majority heard says that the round was started, so that its n is 1 or more
pub open_keeps : (s : Setup) (agent : ℕ) (r : CoordinatorRow) → coordinator_rules s agent r ≡ true → (open_of s agent r).refusal ≡ granted →
    (coordinator_rules s agent (open_of s agent r).row ≡ true) × (two_s_rules s agent (open_of s agent r).sent ≡ true)
unfolding opened_rules heard_at heard_count two_s_rules
open_keeps s agent r rules h = (
  ap (coordinator_rules s agent) facts.row_is ∙
      row_good s agent (record { crnd = r.crnd; cval = some (open_page s r); heard = r.heard }) (row_range s agent r rules) (row_own s agent r rules) page_good
      (row_slot s agent r rules),
  ap (two_s_rules s agent) facts.sent_is ∙ and_true (own_rules_lem s agent r.crnd (row_range s agent r rules) some_n facts.own) page_good,
)
  where
    facts : OpenGranted s agent r
    facts = open_granted s agent r h

    page_good : open_rules s (open_page s r) ≡ true
    page_good = open_page_good s agent r rules facts.joined

    started : (b : ℕ) × (b < most_boxes) × ((heard_at r b).filled ≡ true) → same_round r.crnd (zero_of s) ≡ false
    started (b, l, f) = slot_started s r.crnd b (heard_at r b) (slot_filled s r.crnd b (heard_at r b) (row_slot s agent r rules b l) f)

    not_zero : same_round r.crnd (zero_of s) ≡ false
    not_zero = started (count_some most_boxes (λ box. (heard_at r box).filled) (omega (arith, facts.majority)))

    some_n : 0 < r.crnd.n.0
    some_n = go (dec_lt 0 r.crnd.n.0)
      where
        same : r.crnd ≡ zero_of s → same_round r.crnd (zero_of s) ≡ true
        same e = and_true (eq-eqb _ _ (ap (λ (x : Round). x.n.0) e)) (and_true (eq-eqb _ _ (ap (λ (x : Round). x.c) e)) (eq-eqb _ _ (ap (λ (x : Round). x.cf) e)))

        go : Dec (0 < r.crnd.n.0) → 0 < r.crnd.n.0
        go (yes l) = l
        go (no d) = absurd (true≢false (sym (same (range_zero s r.crnd (row_range s agent r rules) (omega (arith, d)))) ∙ not_zero))
