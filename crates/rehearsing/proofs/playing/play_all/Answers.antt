use Rattle.std.proofs.Common.{rules, arith, refl, ◌∙◌}
use Rattle.rehearsing.proofs.InParts.{play_start, room_for_more, play_more, play_ends}
use Rattle.rehearsing.proofs.playing.play_all.Goals as goal

pub loop-part-init : goal.loop-part-init
loop-part-init c = (search rules, (refl, play_start _ _ c.args.input.now _))

pub part_turn-part-requires : goal.part_turn-part-requires
part_turn-part-requires c = (c.loop-part-test.true, (room_for_more _ _ _ _ c.loop-part-test.true c.requires c.loop-part.invariant.1.1).0)

pub loop-part-smaller : goal.loop-part-smaller
loop-part-smaller c = omega (arith, c.part_turn-part.ensures.further, c.loop-part-test.true)

pub loop-part-preserved : goal.loop-part-preserved
loop-part-preserved c =
    (c.part_turn-part.ensures.inside, (c.part_turn-part.auto.hall ∙ c.loop-part.invariant.1.0, play_more _ _ _ _ c.loop-part-test.true c.requires c.loop-part.invariant.1.1 c.part_turn-part.ensures))

pub shape_of-out : goal.shape_of-out
shape_of-out c = c.loop-part.invariant.1.1.printed.spliced.kept

pub returns : goal.returns
returns c = play_ends _ _ _ _ c.loop-part-test.false c.loop-part.invariant.1.1
