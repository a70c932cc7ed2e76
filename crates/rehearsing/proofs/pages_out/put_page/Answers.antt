use Rattle.std.proofs.Common.{rules}
use Rattle.rehearsing.proofs.PageLines.{run_start, run_more, run_ends, rack_room, rack_line}
use Rattle.rehearsing.proofs.pages_out.put_page.Goals as goal

pub loop-rack-init : goal.loop-rack-init
loop-rack-init c = (search rules, run_start _ _ _)

pub loop-rack-preserved : goal.loop-rack-preserved
loop-rack-preserved c =
    let room = rack_room _ _ _ c.requires c.loop-rack-test.true c.loop-rack.invariant.1 in
    (search rules, run_more _ room.1 c.loop-rack.invariant.1 (rack_line _ _ _ c.at.ensures room.0 c.put_page_line-to.ensures))

pub shape_of-out : goal.shape_of-out
shape_of-out c = c.loop-rack.invariant.1.spliced.kept

pub returns : goal.returns
returns c = run_ends _ _ c.loop-rack.invariant.0 c.loop-rack-test.false c.loop-rack.invariant.1
