use Rattle.book.specs.Book.{Judges}
use Rattle.book.proofs.judging.judge.Given as goal

abbrev pub invariant-loop-place : goal.invariant-loop-place
invariant-loop-place l = Judges l.blocks l.place l.judged.good l.judged.in_place l.judged.readers
