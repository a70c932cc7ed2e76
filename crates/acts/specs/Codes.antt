-- The thirteen steps by document 01's numbers.
use Rattle.std.specs.Prelude.{ℕ, eqb, cond, Option, Some, None}
use Rattle.acts.specs.declared.code.Code.{Code}
use Rattle.acts.specs.declared.code.Code.TheVariants.{Offer, Start, Join, Hear, Open, Prepare, Fast, Blank, TakePage, TakeReading, NoteVote, NoteBlank, Learn}

abbrev pub code_number : Code → ℕ
code_number Offer = 1
code_number Start = 2
code_number Join = 3
code_number Hear = 4
code_number Open = 5
code_number Prepare = 6
code_number Fast = 7
code_number Blank = 8
code_number TakePage = 9
code_number TakeReading = 10
code_number NoteVote = 11
code_number NoteBlank = 12
code_number Learn = 13

-- none where no step has the number
unfoldable pub code_at : ℕ → Option Code
code_at n =
    cond (eqb n 1) (Some Offer)
    (cond (eqb n 2) (Some Start)
    (cond (eqb n 3) (Some Join)
    (cond (eqb n 4) (Some Hear)
    (cond (eqb n 5) (Some Open)
    (cond (eqb n 6) (Some Prepare)
    (cond (eqb n 7) (Some Fast)
    (cond (eqb n 8) (Some Blank)
    (cond (eqb n 9) (Some TakePage)
    (cond (eqb n 10) (Some TakeReading)
    (cond (eqb n 11) (Some NoteVote)
    (cond (eqb n 12) (Some NoteBlank)
    (cond (eqb n 13) (Some Learn) None))))))))))))
