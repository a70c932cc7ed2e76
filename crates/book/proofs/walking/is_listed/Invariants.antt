use Rattle.std.proofs.Common.{eqb, get_or, ◌≡◌}
use Rattle.below.specs.Below.{any}
use Rattle.book.proofs.walking.is_listed.Given as goal

abbrev pub invariant-loop-other : goal.invariant-loop-other
invariant-loop-other l = l.found ≡ any l.other-index (λ j. eqb (get_or l.list j 0) l.number)
