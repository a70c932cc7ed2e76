-- The six kinds are proper: which records fit, and that their codecs are lawful.
use Rattle.std.proofs.Common.{arith, refl}
use Rattle.records.specs.declared.messages.Propose.{Propose}
use Rattle.records.specs.declared.messages.OneA.{OneA}
use Rattle.records.specs.declared.messages.OneB.{OneB}
use Rattle.records.specs.declared.messages.TwoS.{TwoS}
use Rattle.records.specs.declared.messages.TwoA.{TwoA}
use Rattle.records.specs.declared.messages.TwoB.{TwoB}
use Rattle.fields.specs.Codecs.{both}
use Rattle.fields.specs.Layout.{reading, round, line_as, page, vote}
use Rattle.fields.proofs.Lawful.{both_lawful, like_lawful}
use Rattle.fields.proofs.Fitted.{ReadingFits, RoundFits, LineFits, PageFits, VoteFits, reading_lawful, round_lawful, line_lawful, page_lawful, vote_lawful}
use Rattle.blocks.specs.Proper.{Proper}
use Rattle.blocks.specs.Messages.{propose, one_a, one_b, two_s, two_a, two_b}

abbrev pub ProposeFits : Propose → Type 0
ProposeFits m = ReadingFits m.reading

pub propose_proper : Proper propose ProposeFits
propose_proper =
    record {
      number_small = omega arith;
      room = omega arith;
      lawful = like_lawful _ _ reading ProposeFits ReadingFits reading_lawful (λ v h. h) (λ w h. h) (λ v h. refl) (λ w h. refl);
    }

abbrev pub OneAFits : OneA → Type 0
OneAFits m = RoundFits m.round

pub one_a_proper : Proper one_a OneAFits
one_a_proper =
    record {
      number_small = omega arith;
      room = omega arith;
      lawful = like_lawful _ _ round OneAFits RoundFits round_lawful (λ v h. h) (λ w h. h) (λ v h. refl) (λ w h. refl);
    }

abbrev pub OneBFits : OneB → Type 0
OneBFits m = RoundFits m.round × (RoundFits m.vrnd × VoteFits m.vote)

pub one_b_proper : Proper one_b OneBFits
one_b_proper =
    record {
      number_small = omega arith;
      room = omega arith;
      lawful = like_lawful (λ m. (m.round, (m.vrnd, m.vote))) (λ p. record { round = p.0; vrnd = p.1.0; vote = p.1.1 }) (both round (both round vote)) OneBFits _
          (both_lawful round (both round vote) RoundFits _ round_lawful (both_lawful round vote RoundFits VoteFits round_lawful vote_lawful))
          (λ v h. h) (λ w h. h) (λ v h. refl) (λ w h. refl);
    }

abbrev pub TwoSFits : TwoS → Type 0
TwoSFits m = RoundFits m.round × PageFits m.page

pub two_s_proper : Proper two_s TwoSFits
two_s_proper =
    record {
      number_small = omega arith;
      room = omega arith;
      lawful = like_lawful _ _ (both round page) TwoSFits _ (both_lawful round page RoundFits PageFits round_lawful page_lawful) (λ v h. h) (λ w h. h) (λ v h. refl) (λ w h. refl);
    }

abbrev pub TwoAFits : TwoA → Type 0
TwoAFits m = RoundFits m.round × LineFits m.line

pub two_a_proper : Proper two_a TwoAFits
two_a_proper =
    record {
      number_small = omega arith;
      room = omega arith;
      lawful = like_lawful (λ m. (m.round, m.line)) (λ p. record { round = p.0; line = p.1 }) (both round line_as) TwoAFits _ (both_lawful round line_as RoundFits LineFits round_lawful line_lawful) (λ v h. h) (λ w h. h) (λ v h. refl) (λ w h. refl);
    }

abbrev pub TwoBFits : TwoB → Type 0
TwoBFits m = RoundFits m.round × PageFits m.page

pub two_b_proper : Proper two_b TwoBFits
two_b_proper =
    record {
      number_small = omega arith;
      room = omega arith;
      lawful = like_lawful _ _ (both round page) TwoBFits _ (both_lawful round page RoundFits PageFits round_lawful page_lawful) (λ v h. h) (λ w h. h) (λ v h. refl) (λ w h. refl);
    }
