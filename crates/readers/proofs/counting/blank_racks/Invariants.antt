use Rattle.std.proofs.Common.{◌≡◌}
use Rattle.pages.specs.Racks.{most_racks}
use Rattle.pages.proofs.Sets.{set_from}
use Rattle.readers.specs.Learning.{blank_in}
use Rattle.readers.proofs.counting.blank_racks.Given as goal

abbrev pub invariant-loop-rack : goal.invariant-loop-rack
invariant-loop-rack l = l.set ≡ set_from most_racks (blank_in l.row l.round) l.rack
