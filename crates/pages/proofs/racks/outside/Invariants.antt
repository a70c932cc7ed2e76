use Rattle.std.proofs.Common.{◌≡◌}
use Rattle.pages.specs.Racks.{outside}
use Rattle.pages.proofs.Sets.{set_from}
use Rattle.pages.proofs.racks.outside.Given as goal

abbrev pub invariant-loop-rack : goal.invariant-loop-rack
invariant-loop-rack l = l.set ≡ set_from 8 (outside l.cf l.racks) l.rack
