-- An arm's facts are on the code alone, and left to omega.
use Rattle.std.proofs.Common.{arith}
use Rattle.step_numbers.proofs.StepNumbers.{rows_at_lem, rack_one, rack_span, coordinator_two, coordinator_span, box_three, box_span, reader_none, reader_span}
use Rattle.step_numbers.proofs.rows_of.Goals as goal

pub returns-in_default : goal.returns-in_default
returns-in_default c = rows_at_lem c.args.setup c.args.code 0 (omega arith) (reader_none c.args.setup)

pub returns-in_default-2 : goal.returns-in_default-2
returns-in_default-2 c = reader_span c.args.setup c.args.code (omega arith)

pub returns-in-3 : goal.returns-in-3
returns-in-3 c = rows_at_lem c.args.setup c.args.code 3 (omega arith) (box_three c.args.setup)

pub returns-in-3-2 : goal.returns-in-3-2
returns-in-3-2 c = box_span c.args.setup c.args.code (omega arith) (omega arith)

pub returns-in-2 : goal.returns-in-2
returns-in-2 c = rows_at_lem c.args.setup c.args.code 2 (omega arith) (coordinator_two c.args.setup)

pub returns-in-2-2 : goal.returns-in-2-2
returns-in-2-2 c = coordinator_span c.args.setup c.args.code (omega arith) (omega arith) (omega arith) (omega arith) (omega arith)

pub returns-in-1 : goal.returns-in-1
returns-in-1 c = rows_at_lem c.args.setup c.args.code 1 (omega arith) (rack_one c.args.setup)

pub returns-in-1-2 : goal.returns-in-1-2
returns-in-1-2 c = rack_span c.args.setup c.args.code (omega arith) (omega arith)
