-- Both round trips, size, bytes and soundness, for each message.
use Rattle.std.proofs.Common.{ℕ, ◌≤◌, arith, leb, length, ◌≡◌, true, ◌&&◌, leb-true}
use Rattle.below.proofs.Tests.{and_left, and_right}
use Rattle.pages.specs.declared.page.Page.{Page}
use Rattle.pages.specs.Lines.{mark_in_range}
use Rattle.pages.specs.Racks.{most_racks, has, racks_below}
use Rattle.rounds.specs.declared.setup.Setup.{Setup}
use Rattle.rounds.specs.Rounds.{round_in_range}
use Rattle.records.specs.declared.messages.Propose.{Propose}
use Rattle.records.specs.declared.messages.OneA.{OneA}
use Rattle.records.specs.declared.messages.OneB.{OneB}
use Rattle.records.specs.declared.messages.TwoS.{TwoS}
use Rattle.records.specs.declared.messages.TwoA.{TwoA}
use Rattle.records.specs.declared.messages.TwoB.{TwoB}
use Rattle.records.specs.Rules.{page_rules, last_rules, own_rules, propose_rules, one_a_rules, one_b_rules, two_s_rules, two_a_rules, two_b_rules}
use Rattle.fields.proofs.Fitted.{Any}
use Rattle.blocks.proofs.Ranges.{SetupFits, round_fits, line_fits, page_fits, own_fits, open_fits, last_fits}
use Rattle.blocks.proofs.Kept.{Kept, kept_of}
use Rattle.blocks.specs.Messages.{propose, one_a, one_b, two_s, two_a, two_b}
use Rattle.blocks.specs.MessagePropers.{ProposeFits, propose_proper, OneAFits, one_a_proper, OneBFits, one_b_proper, TwoSFits, two_s_proper, TwoAFits, two_a_proper, TwoBFits, two_b_proper}

-- a page has the eight lines of its type
abbrev pub Lined : Page → Type 0
Lined p = length p.lines ≡ most_racks

few_racks : (s : Setup) → SetupFits s → s.racks ≤ 256
few_racks s f = let l : s.racks ≤ 8 = f.racks in omega arith

few_boxes : (s : Setup) → SetupFits s → s.boxes ≤ 256
few_boxes s f = let l : s.boxes ≤ 5 = f.boxes in omega arith

few_coordinators : (s : Setup) → SetupFits s → s.coordinators ≤ 256
few_coordinators s f = let l : s.coordinators ≤ 4 = f.coordinators in omega arith

propose_fits : (s : Setup) (agent : ℕ) (m : Propose) → propose_rules s agent m ≡ true → ProposeFits m
unfolding propose_rules
propose_fits s agent m h = let l : m.reading.0 ≤ 4294967295 = leb-true _ _ (and_right (leb 65536 m.reading.0) _ h) in omega arith

pub propose_kept : Kept propose Any
propose_kept = kept_of propose ProposeFits Any propose_proper (λ s f. few_racks s.setup f) (λ s m f l h. propose_fits s.setup s.agent m h)

one_a_fits : (s : Setup) (agent : ℕ) (m : OneA) → SetupFits s → one_a_rules s agent m ≡ true → OneAFits m
unfolding one_a_rules
one_a_fits s agent m f h = own_fits s f agent m.round h

pub one_a_kept : Kept one_a Any
one_a_kept = kept_of one_a OneAFits Any one_a_proper (λ s f. few_coordinators s.setup f) (λ s m f l h. one_a_fits s.setup s.agent m f h)

one_b_fits : (s : Setup) (agent : ℕ) (m : OneB) → SetupFits s → Lined m.vote.page → one_b_rules s agent m ≡ true → OneBFits m
unfolding one_b_rules
one_b_fits s agent m f l h =
    (round_fits s m.round f (and_left (round_in_range s m.round) _ both), last_fits s f m.vrnd m.vote l (and_right (round_in_range s m.round) _ both))
  where
    both : round_in_range s m.round && last_rules s m.vrnd m.vote ≡ true
    both = and_left (round_in_range s m.round && last_rules s m.vrnd m.vote) _ h

pub one_b_kept : Kept one_b (λ m. Lined m.vote.page)
one_b_kept = kept_of one_b OneBFits (λ m. Lined m.vote.page) one_b_proper (λ s f. few_boxes s.setup f) (λ s m f l h. one_b_fits s.setup s.agent m f l h)

two_s_fits : (s : Setup) (agent : ℕ) (m : TwoS) → SetupFits s → Lined m.page → two_s_rules s agent m ≡ true → TwoSFits m
unfolding two_s_rules
two_s_fits s agent m f l h = (own_fits s f agent m.round (and_left (own_rules s agent m.round) _ h), open_fits s f m.page l (and_right (own_rules s agent m.round) _ h))

pub two_s_kept : Kept two_s (λ m. Lined m.page)
two_s_kept = kept_of two_s TwoSFits (λ m. Lined m.page) two_s_proper (λ s f. few_coordinators s.setup f) (λ s m f l h. two_s_fits s.setup s.agent m f l h)

two_a_fits : (s : Setup) (agent : ℕ) (m : TwoA) → SetupFits s → two_a_rules s agent m ≡ true → TwoAFits m
unfolding two_a_rules
two_a_fits s agent m f h = (round_fits s m.round f (and_left (round_in_range s m.round) _ both), line_fits m.line (and_right (round_in_range s m.round) _ both))
  where
    both : round_in_range s m.round && mark_in_range m.line.mark ≡ true
    both =
        and_left (round_in_range s m.round && mark_in_range m.line.mark) _
        (and_left (round_in_range s m.round && mark_in_range m.line.mark && has m.round.cf agent) _ h)

pub two_a_kept : Kept two_a Any
two_a_kept = kept_of two_a TwoAFits Any two_a_proper (λ s f. few_racks s.setup f) (λ s m f l h. two_a_fits s.setup s.agent m f h)

two_b_fits : (s : Setup) (agent : ℕ) (m : TwoB) → SetupFits s → Lined m.page → two_b_rules s agent m ≡ true → TwoBFits m
unfolding two_b_rules
two_b_fits s agent m f l h =
    (round_fits s m.round f (and_left (round_in_range s m.round) _ both), page_fits (racks_below s.racks) m.page l (and_right (round_in_range s m.round) _ both))
  where
    both : round_in_range s m.round && page_rules s m.page ≡ true
    both = and_left (round_in_range s m.round && page_rules s m.page) _ h

pub two_b_kept : Kept two_b (λ m. Lined m.page)
two_b_kept = kept_of two_b TwoBFits (λ m. Lined m.page) two_b_proper (λ s f. few_boxes s.setup f) (λ s m f l h. two_b_fits s.setup s.agent m f l h)
