-- The rules are kept: a good row and a good message give, where the step is granted, a good row and a good message sent.
use Rattle.std.proofs.Common.{ℕ, ◌<◌, arith, lt-ltb, ◌≡◌, refl, sym, ap, subst, ◌∙◌, Bool, true, false, cond, not, ◌&&◌, ◌||◌, true≢false, inl, inr, ⊎_elim}
use borrow.Author.Tests.{not-true, not-false}
use Rattle.below.specs.Refusals.{granted}
use Rattle.below.proofs.Tests.{and_true, and_left, and_right, and_false_left, not_true_false, or_true_right}
use Rattle.pages.specs.declared.page.Page.{Page}
use Rattle.pages.specs.Lines.{is_reading, is_absent, mark_in_range}
use Rattle.pages.specs.Racks.{racks_below, outside, has}
use Rattle.pages.specs.Pages.{empty, append_of, nil_extension, valued_of}
use Rattle.pages.proofs.Kept.{empty_within, append_within, nil_within, prefix_valued, append_prefix, nil_prefix, one_reading_valued}
use Rattle.rounds.specs.declared.round.Round.{Round}
use Rattle.rounds.specs.declared.setup.Setup.{Setup}
use Rattle.rounds.specs.declared.order.Order.{Order}
use Rattle.rounds.specs.declared.order.Order.TheVariants.{Below, Equal, Above, Clash}
use Rattle.rounds.specs.Setups.{setup_in_range}
use Rattle.rounds.specs.Rounds.{round_in_range, order_of, is_below, is_above}
use Rattle.rounds.proofs.Ordered.{Lower, Compared, compared, lower_trans, lower_below, equal_order}
use Rattle.records.specs.declared.messages.OneA.{OneA}
use Rattle.records.specs.declared.messages.TwoS.{TwoS}
use Rattle.records.specs.declared.messages.TwoA.{TwoA}
use Rattle.records.specs.declared.rows.BoxRow.{BoxRow}
use Rattle.records.specs.Rules.{page_rules, last_rules, own_rules, open_rules, box_rules, one_a_rules, one_b_rules, two_s_rules, two_a_rules, two_b_rules}
use Rattle.records.proofs.RuleParts.{setup_racks, own_range, open_within, open_valued, vote_within, vote_valued, last_vote, last_some_rules}
use Rattle.boxes.specs.Steps.{join_of, voted, telling, take_page_of, take_reading_page, take_reading_of}
use Rattle.boxes.proofs.GrantedSteps.{JoinGranted, join_granted, TakePageGranted, take_page_granted, TakeReadingGranted, take_reading_granted}

-- the parts of a box's row
box_last : (s : Setup) (agent : ℕ) (row : BoxRow) → box_rules s agent row ≡ true → last_rules s row.vrnd row.vval ≡ true
unfolding box_rules
box_last s agent row h = and_right (round_in_range s row.rnd) _ (and_left _ (not (is_above (order_of row.vrnd row.rnd))) h)

box_order : (s : Setup) (agent : ℕ) (row : BoxRow) → box_rules s agent row ≡ true → is_above (order_of row.vrnd row.rnd) ≡ false
unfolding box_rules
box_order s agent row h = not-true _ (and_right (round_in_range s row.rnd && last_rules s row.vrnd row.vval) _ h)

-- a round not above another is below all that are above that
below_all_above : (a b c : Round) → is_above (order_of a b) ≡ false → Lower b c → Lower a c
below_all_above a b c h l = go (order_of a b) h (compared a b)
  where
    go : (o : Order) → is_above o ≡ false → Compared a b o → Lower a c
    go Below h e = lower_trans a b c e l
    go Equal h e = subst (λ (x : Round). Lower x c) (sym e) l
    go Above h e = absurd (true≢false h)
    go Clash h e = ⊎_elim (λ p. inl (omega (arith, p, e.0))) (λ p. inr (e.0 ∙ p.0, omega (arith, p.1, e.1))) l

-- 3 join
pub join_keeps : (s : Setup) (agent sender : ℕ) (row : BoxRow) (m : OneA) → box_rules s agent row ≡ true → one_a_rules s sender m ≡ true →
    (join_of row m).refusal ≡ granted → (box_rules s agent (join_of row m).row ≡ true) × (one_b_rules s agent (join_of row m).sent ≡ true)
unfolding one_a_rules box_rules one_b_rules
join_keeps s agent sender row m rules good h =
    (ap (box_rules s agent) facts.row_is ∙ row_good, ap (one_b_rules s agent) facts.sent_is ∙ sent_good)
  where
    facts : JoinGranted row m
    facts = join_granted row m h

    range : round_in_range s m.round ≡ true
    range = own_range s sender m.round good

    below : order_of row.vrnd m.round ≡ Below
    below = lower_below row.vrnd m.round (below_all_above row.vrnd row.rnd m.round (box_order s agent row rules) facts.above)

    row_good : box_rules s agent (record { rnd = m.round; vrnd = row.vrnd; vval = row.vval }) ≡ true
    row_good = and_true (and_true range (box_last s agent row rules)) (ap (λ (o : Order). not (is_above o)) below)

    sent_good : one_b_rules s agent (record { round = m.round; vrnd = row.vrnd; vote = row.vval }) ≡ true
    sent_good = and_true (and_true range (box_last s agent row rules)) (ap is_below below)

-- a vote in a round in range for a valued page of the hall's racks
voted_good : (s : Setup) (agent : ℕ) (round : Round) (page : Page) → round_in_range s round ≡ true → page_rules s page ≡ true → valued_of page ≡ true →
    box_rules s agent (voted round page) ≡ true
unfolding box_rules
voted_good s agent round page r w v = and_true (and_true r (last_some_rules s round page r w v)) (ap (λ (o : Order). not (is_above o)) (equal_order round))

telling_good : (s : Setup) (agent : ℕ) (round : Round) (page : Page) → round_in_range s round ≡ true → page_rules s page ≡ true → valued_of page ≡ true →
    two_b_rules s agent (telling round page) ≡ true
unfolding two_b_rules
telling_good s agent round page r w v = and_true (and_true r w) v

-- 9 take page
pub take_page_keeps : (s : Setup) (agent sender : ℕ) (row : BoxRow) (m : TwoS) → two_s_rules s sender m ≡ true → (take_page_of row m).refusal ≡ granted →
    (box_rules s agent (take_page_of row m).row ≡ true) × (two_b_rules s agent (take_page_of row m).sent ≡ true)
unfolding two_s_rules
take_page_keeps s agent sender row m good h = (
  ap (box_rules s agent) facts.row_is ∙ voted_good s agent m.round m.page range within valued,
  ap (two_b_rules s agent) facts.sent_is ∙ telling_good s agent m.round m.page range within valued,
)
  where
    facts : TakePageGranted row m
    facts = take_page_granted row m h

    page_good : open_rules s m.page ≡ true
    page_good = and_right (own_rules s sender m.round) _ good

    range : round_in_range s m.round ≡ true
    range = own_range s sender m.round (and_left _ (open_rules s m.page) good)

    within : page_rules s m.page ≡ true
    within = open_within s m.page page_good

    valued : valued_of m.page ≡ true
    valued = open_valued s m.page page_good facts.some_line

-- 10 take reading, of a rack of the hall
pub take_reading_keeps : (s : Setup) (agent : ℕ) (row : BoxRow) (rack : ℕ) (m : TwoA) → setup_in_range s ≡ true → rack < s.racks → box_rules s agent row ≡ true →
    two_a_rules s rack m ≡ true → (take_reading_of s row rack m).refusal ≡ granted →
    (box_rules s agent (take_reading_of s row rack m).row ≡ true) × (two_b_rules s agent (take_reading_of s row rack m).sent ≡ true)
unfolding two_a_rules take_reading_page
take_reading_keeps s agent row rack m hall l rules good h = (
  ap (box_rules s agent) facts.row_is ∙ voted_good s agent m.round (take_reading_page s row rack m) range within valued,
  ap (two_b_rules s agent) facts.sent_is ∙ telling_good s agent m.round (take_reading_page s row rack m) range within valued,
)
  where
    facts : TakeReadingGranted s row rack m
    facts = take_reading_granted s row rack m h

    range : round_in_range s m.round ≡ true
    range = and_left _ (mark_in_range m.line.mark) (and_left _ (has m.round.cf rack) (and_left _ (not (is_absent m.line.mark)) good))

    line_good : mark_in_range m.line.mark ≡ true
    line_good = and_right (round_in_range s m.round) _ (and_left _ (has m.round.cf rack) (and_left _ (not (is_absent m.line.mark)) good))

    a_reading : is_reading m.line.mark ≡ true
    a_reading = ap is_reading facts.reading.1

    first : Bool
    first = is_below (order_of row.vrnd m.round) || not row.vval.some

    first_page : Page
    first_page = nil_extension (outside m.round.cf s.racks) (append_of empty rack m.line.mark)

    next_page : Page
    next_page = append_of row.vval.page rack m.line.mark

    one_line : page_rules s (append_of empty rack m.line.mark) ≡ true
    one_line = append_within (racks_below s.racks) empty rack m.line.mark (empty_within (racks_below s.racks)) (lt-ltb rack s.racks l) line_good

    last : last_rules s row.vrnd row.vval ≡ true
    last = box_last s agent row rules

    within_of : (b : Bool) → page_rules s (cond b first_page next_page) ≡ true
    within_of true =
        nil_within (racks_below s.racks) (outside m.round.cf s.racks) (append_of empty rack m.line.mark) one_line
        (λ k o. and_false_left (not (has m.round.cf k)) o)
    within_of false =
        append_within (racks_below s.racks) row.vval.page rack m.line.mark
        (vote_within s row.vval (last_vote s row.vrnd row.vval last)) (lt-ltb rack s.racks l) line_good

    valued_of_lem : (b : Bool) → first ≡ b → valued_of (cond b first_page next_page) ≡ true
    valued_of_lem true e =
        prefix_valued (append_of empty rack m.line.mark) first_page (nil_prefix (outside m.round.cf s.racks) (append_of empty rack m.line.mark))
        (one_reading_valued rack m.line.mark (omega (arith, setup_racks s hall)) a_reading)
    valued_of_lem false e =
        prefix_valued row.vval.page next_page (append_prefix row.vval.page rack m.line.mark)
        (vote_valued s row.vval (last_vote s row.vrnd row.vval last) has_vote)
      where
        has_vote : row.vval.some ≡ true
        has_vote = not-false row.vval.some (not_true_false _ (λ t. true≢false (sym (or_true_right (is_below (order_of row.vrnd m.round)) t) ∙ e)))

    within : page_rules s (take_reading_page s row rack m) ≡ true
    within = within_of first

    valued : valued_of (take_reading_page s row rack m) ≡ true
    valued = valued_of_lem first refl
