-- The five kinds are proper: which records fit, and that their codecs are lawful.
use Rattle.std.proofs.Common.{◌<◌, arith, refl}
use Rattle.pages.specs.Racks.{most_racks}
use Rattle.rounds.specs.Setups.{most_boxes}
use Rattle.records.specs.declared.rows.Head.{Head}
use Rattle.records.specs.declared.rows.CoordinatorRow.{CoordinatorRow}
use Rattle.records.specs.declared.rows.BoxRow.{BoxRow}
use Rattle.records.specs.declared.rows.RackRow.{RackRow}
use Rattle.records.specs.declared.rows.ReaderRow.{ReaderRow}
use Rattle.records.specs.Slots.{no_blank}
use Rattle.fields.specs.Codecs.{two_bytes, both}
use Rattle.fields.specs.Layout.{round, line_as, page, vote, five_heard, five_held, eight_blanks, past_heard, past_held}
use Rattle.fields.proofs.Lawful.{two_lawful, both_lawful, like_lawful}
use Rattle.fields.proofs.Times.{Listed}
use Rattle.fields.proofs.Fitted.{RoundFits, LineFits, PageFits, VoteFits, HeardFits, HeldFits, BlankFits, round_lawful, line_lawful, page_lawful, vote_lawful, five_heard_lawful, five_held_lawful, eight_blanks_lawful}
use Rattle.blocks.specs.Proper.{Proper}
use Rattle.blocks.specs.Rows.{head, coordinator, box, rack, reader}

abbrev pub HeadFits : Head → Type 0
HeadFits r = r.count < 65536

pub head_proper : Proper head HeadFits
head_proper =
    record {
      number_small = omega arith;
      room = omega arith;
      lawful = like_lawful (λ r. r.count) (λ x. record { count = x }) two_bytes HeadFits (λ x. x < 65536) two_lawful (λ v h. h) (λ w h. h) (λ v h. refl) (λ w h. refl);
    }

abbrev pub CoordinatorFits : CoordinatorRow → Type 0
CoordinatorFits r = RoundFits r.crnd × (VoteFits r.cval × Listed most_boxes past_heard HeardFits r.heard)

pub coordinator_proper : Proper coordinator CoordinatorFits
coordinator_proper =
    record {
      number_small = omega arith;
      room = omega arith;
      lawful = like_lawful (λ r. (r.crnd, (r.cval, r.heard))) (λ p. record { crnd = p.0; cval = p.1.0; heard = p.1.1 }) (both round (both vote five_heard)) CoordinatorFits _
          (both_lawful round (both vote five_heard) RoundFits _ round_lawful
          (both_lawful vote five_heard VoteFits (Listed most_boxes past_heard HeardFits) vote_lawful five_heard_lawful)) (λ v h. h) (λ w h. h) (λ v h. refl) (λ w h. refl);
    }

abbrev pub BoxFits : BoxRow → Type 0
BoxFits r = RoundFits r.rnd × (RoundFits r.vrnd × VoteFits r.vval)

pub box_proper : Proper box BoxFits
box_proper =
    record {
      number_small = omega arith;
      room = omega arith;
      lawful = like_lawful (λ r. (r.rnd, (r.vrnd, r.vval))) (λ p. record { rnd = p.0; vrnd = p.1.0; vval = p.1.1 }) (both round (both round vote)) BoxFits _
          (both_lawful round (both round vote) RoundFits _ round_lawful (both_lawful round vote RoundFits VoteFits round_lawful vote_lawful))
          (λ v h. h) (λ w h. h) (λ v h. refl) (λ w h. refl);
    }

abbrev pub RackFits : RackRow → Type 0
RackFits r = RoundFits r.prnd × LineFits r.pval

pub rack_proper : Proper rack RackFits
rack_proper =
    record {
      number_small = omega arith;
      room = omega arith;
      lawful = like_lawful (λ r. (r.prnd, r.pval)) (λ p. record { prnd = p.0; pval = p.1 }) (both round line_as) RackFits _
          (both_lawful round line_as RoundFits LineFits round_lawful line_lawful) (λ v h. h) (λ w h. h) (λ v h. refl) (λ w h. refl);
    }

abbrev pub ReaderFits : ReaderRow → Type 0
ReaderFits r = PageFits r.page × (Listed most_boxes past_held HeldFits r.held × Listed most_racks no_blank BlankFits r.blanks)

pub reader_proper : Proper reader ReaderFits
reader_proper =
    record {
      number_small = omega arith;
      room = omega arith;
      lawful = like_lawful (λ r. (r.page, (r.held, r.blanks))) (λ p. record { page = p.0; held = p.1.0; blanks = p.1.1 }) (both page (both five_held eight_blanks)) ReaderFits _
          (both_lawful page (both five_held eight_blanks) PageFits _ page_lawful
          (both_lawful five_held eight_blanks (Listed most_boxes past_held HeldFits) (Listed most_racks no_blank BlankFits) five_held_lawful eight_blanks_lawful))
          (λ v h. h) (λ w h. h) (λ v h. refl) (λ w h. refl);
    }
