-- The rules are kept: a good row and a good message give, where the step is granted, a good row and a good message sent.
use Rattle.std.proofs.Common.{ℕ, ◌<◌, arith, ◌≡◌, refl, ap, ◌∙◌, Bool, true, false, cond, not}
use Rattle.below.specs.Refusals.{granted}
use Rattle.below.proofs.Tests.{and_true, and_left, and_right}
use Rattle.pages.specs.declared.line.Reading as Reading
use Rattle.pages.specs.declared.line.Mark.{Mark}
use Rattle.pages.specs.declared.line.Mark.TheVariants.{Absent, Nil, Reading as reads}
use Rattle.pages.specs.Lines.{reading_in_range, mark_in_range, is_absent}
use Rattle.pages.specs.Racks.{racks_below, has}
use Rattle.pages.specs.Pages.{at, empty_of}
use Rattle.pages.proofs.PageLaws.{within_range}
use Rattle.rounds.specs.declared.setup.Setup.{Setup}
use Rattle.rounds.specs.Setups.{setup_in_range}
use Rattle.rounds.specs.Rounds.{round_in_range}
use Rattle.records.specs.declared.messages.Propose.{Propose}
use Rattle.records.specs.declared.messages.TwoS.{TwoS}
use Rattle.records.specs.declared.messages.TwoA.{TwoA}
use Rattle.records.specs.declared.rows.RackRow.{RackRow}
use Rattle.records.specs.Rules.{rack_rules, propose_rules, two_s_rules, two_a_rules, own_rules, open_rules}
use Rattle.records.proofs.RuleParts.{setup_racks, own_range, open_within}
use Rattle.racks.specs.Steps.{offer_of, prepare_of, fast_of, blank_of, said, saying}
use Rattle.racks.proofs.GrantedSteps.{PrepareGranted, prepare_granted, FastGranted, fast_granted, BlankGranted, blank_granted}

-- 1 offer: of a reading in range
pub offer_keeps : (s : Setup) (agent : ℕ) (reading : Reading.Reading) → reading_in_range reading ≡ true → propose_rules s agent (offer_of reading) ≡ true
unfolding propose_rules
offer_keeps s agent reading h = h

-- a rack's row is good if its round and its line are in range
row_good : (s : Setup) (agent : ℕ) (row : RackRow) → round_in_range s row.prnd ≡ true → mark_in_range row.pval.mark ≡ true → rack_rules s agent row ≡ true
unfolding rack_rules
row_good s agent row p q = and_true p q

row_round : (s : Setup) (agent : ℕ) (row : RackRow) → rack_rules s agent row ≡ true → round_in_range s row.prnd ≡ true
unfolding rack_rules
row_round s agent row h = and_left _ _ h

-- 6 prepare
pub prepare_keeps : (s : Setup) (agent sender : ℕ) (row : RackRow) (m : TwoS) → setup_in_range s ≡ true → agent < s.racks →
    two_s_rules s sender m ≡ true → (prepare_of agent row m).refusal ≡ granted → rack_rules s agent (prepare_of agent row m).row ≡ true
unfolding two_s_rules
prepare_keeps s agent sender row m good l rules h =
    row_good s agent (prepare_of agent row m).row
    (ap (round_in_range s) facts.prnd_is ∙ own_range s sender m.round (and_left _ (open_rules s m.page) rules))
    (ap mark_in_range facts.pval_is ∙ line_in_range (empty_of m.page))
  where
    facts : PrepareGranted agent row m
    facts = prepare_granted agent row m h

    line_in_range : (b : Bool) → mark_in_range (cond b Absent (at m.page agent)) ≡ true
    line_in_range true = refl
    line_in_range false =
        within_range (racks_below s.racks) m.page (open_within s m.page (and_right (own_rules s sender m.round) _ rules)) agent
        (omega (arith, setup_racks s good))

-- a rack of cf that speaks a present line in range
said_keeps : (s : Setup) (agent : ℕ) (row : RackRow) (line : Mark) → rack_rules s agent row ≡ true → mark_in_range line ≡ true → rack_rules s agent (said row line) ≡ true
said_keeps s agent row line rules r = row_good s agent (said row line) (row_round s agent row rules) r

saying_keeps : (s : Setup) (agent : ℕ) (row : RackRow) (line : Mark) → rack_rules s agent row ≡ true → mark_in_range line ≡ true → has row.prnd.cf agent ≡ true →
    is_absent line ≡ false → two_a_rules s agent (saying row line) ≡ true
unfolding two_a_rules
saying_keeps s agent row line rules r c p = and_true (and_true (and_true (row_round s agent row rules) r) c) (ap not p)

-- 7 fast
pub fast_keeps : (s : Setup) (agent sender : ℕ) (row : RackRow) (m : Propose) → rack_rules s agent row ≡ true → propose_rules s sender m ≡ true →
    (fast_of agent row m).refusal ≡ granted → (rack_rules s agent (fast_of agent row m).row ≡ true) × (two_a_rules s agent (fast_of agent row m).sent ≡ true)
unfolding propose_rules
fast_keeps s agent sender row m rules good h = (
  ap (rack_rules s agent) facts.row_is ∙ said_keeps s agent row (reads m.reading) rules good,
  ap (two_a_rules s agent) facts.sent_is ∙ saying_keeps s agent row (reads m.reading) rules good facts.in_cf refl,
)
  where
    facts : FastGranted agent row m
    facts = fast_granted agent row m h

-- 8 blank
pub blank_keeps : (s : Setup) (agent : ℕ) (row : RackRow) (m : TwoA) → rack_rules s agent row ≡ true → (blank_of agent row m).refusal ≡ granted →
    (rack_rules s agent (blank_of agent row m).row ≡ true) × (two_a_rules s agent (blank_of agent row m).sent ≡ true)
blank_keeps s agent row m rules h = (
  ap (rack_rules s agent) facts.row_is ∙ said_keeps s agent row Nil rules refl,
  ap (two_a_rules s agent) facts.sent_is ∙ saying_keeps s agent row Nil rules refl facts.in_cf refl,
)
  where
    facts : BlankGranted agent row m
    facts = blank_granted agent row m h
