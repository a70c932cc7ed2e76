-- The kinds' numbers (document 01's table).
use Rattle.std.specs.Prelude.{ℕ, eqb, cond, Option, None, Some}
use Rattle.blocks.specs.declared.kind.Kind.{Kind}
use Rattle.blocks.specs.declared.kind.Kind.TheVariants.{Propose, OneA, OneB, TwoS, TwoA, TwoB, Head, Coordinator, Box, Rack, Reader}

abbrev pub number : Kind → ℕ
number Propose = 1
number OneA = 2
number OneB = 3
number TwoS = 4
number TwoA = 5
number TwoB = 6
number Head = 16
number Coordinator = 17
number Box = 18
number Rack = 19
number Reader = 20

-- the kind with a number, if there is one
abbrev pub named : ℕ → Option Kind
named n =
    cond (eqb n 1) (Some Propose)
    (cond (eqb n 2) (Some OneA)
    (cond (eqb n 3) (Some OneB)
    (cond (eqb n 4) (Some TwoS)
    (cond (eqb n 5) (Some TwoA)
    (cond (eqb n 6) (Some TwoB)
    (cond (eqb n 16) (Some Head)
    (cond (eqb n 17) (Some Coordinator)
    (cond (eqb n 18) (Some Box)
    (cond (eqb n 19) (Some Rack)
    (cond (eqb n 20) (Some Reader) None))))))))))
