-- The public contract of this crate determines its answer, its count and every number of the lent row.
use Rattle.std.proofs.Common.{◌≡◌, sym, ◌∙◌}
use contract.Lifetimes.{Lfts}
use borrow.Fn.World.{ArgsD, ResD}
use borrow.Fn.Kinds.{sig_of, ended_of}
use denote.Triple.Clauses.{AtExit}
use Rattle.below.proofs.Refused.{answer_one}
use Rattle.book.proofs.book.Kinds as book_kinds
use Rattle.book.proofs.book.Reads as book

pub book_unique : (κs : Lfts 2) (a : ArgsD (sig_of 2 book_kinds.ps book_kinds.r) κs) (x y : ResD (sig_of 2 book_kinds.ps book_kinds.r) κs)
    (s t : AtExit (ended_of 2 book_kinds.ps book_kinds.r) κs) → book.Post κs a x s → book.Post κs a y t → (x ≡ y) × (s.1.0.now ≡ t.1.0.now)
book_unique κs a x y s t p q = (answer_one 0 x y (p.answered ∙ sym q.answered) (p.counted ∙ sym q.counted), p.left ∙ sym q.left)
