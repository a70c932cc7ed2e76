use Rattle.std.proofs.Common.{rules, arith}
use Rattle.rehearsing.proofs.PageLines.{run_start, run_more, run_ends, reader_room, reader_page}
use Rattle.rehearsing.proofs.pages_out.put_pages.Goals as goal

pub loop-reader-init : goal.loop-reader-init
loop-reader-init c = (search rules, run_start _ _ _)

pub put_page-to-requires : goal.put_page-to-requires
put_page-to-requires c = (reader_room _ _ c.requires.hall_len.1.1 c.requires.pages_room_in_bounds (omega arith) c.loop-reader.invariant.1).0

pub loop-reader-preserved : goal.loop-reader-preserved
loop-reader-preserved c =
    let room = reader_room _ _ c.requires.hall_len.1.1 c.requires.pages_room_in_bounds (omega arith) c.loop-reader.invariant.1 in
    (search rules, run_more _ room.1 c.loop-reader.invariant.1 (reader_page _ _ _ c.page_of-page.ensures c.put_page-to.ensures))

pub shape_of-out : goal.shape_of-out
shape_of-out c = c.loop-reader.invariant.1.spliced.kept

pub returns : goal.returns
returns c = run_ends _ _ c.loop-reader.invariant.0 c.loop-reader-test.false c.loop-reader.invariant.1
