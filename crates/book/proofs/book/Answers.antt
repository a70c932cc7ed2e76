use Rattle.std.proofs.Common.{arith, sym}
use Rattle.book.proofs.Judged.{readable}
use Rattle.book.proofs.Booking.{blocks_refused, row_too_short, booked}
use Rattle.book.proofs.book.Goals as goal

pub returns-in_err-refusal_of : goal.returns-in_err-refusal_of
returns-in_err-refusal_of c = blocks_refused _ _ _ _ c.in_err-refusal_of.ensures c.from_residual.ensures.1

pub walk-count-requires : goal.walk-count-requires
walk-count-requires c =
    let r = readable _ (sym c.in_ok-refusal_of.ensures) in
    (omega arith, (omega (arith, r.few), omega (arith, r.racks, c.racks_of-racks.ensures)))

pub returns-in_err-unless : goal.returns-in_err-unless
returns-in_err-unless c = row_too_short _ _ c.in_ok-refusal_of.ensures c.racks_of-racks.ensures c.walk-count.ensures _ _ c.in_err-unless.ensures c.from_residual-in_err-unless.ensures.1

pub returns : goal.returns
returns c = booked _ _ c.in_ok-refusal_of.ensures c.racks_of-racks.ensures c.walk-count.ensures c.in_ok-unless.ensures c.copy_from_slice.ensures.after
