-- Each public contract of this crate determines its answer.
use Rattle.std.proofs.Common.{sym, ◌∙◌}
use Rattle.below.proofs.Unique.{Determines}
use Rattle.records.proofs.Answers.{noted_of_one}
use Rattle.readers.proofs.CountingLearns.{learns_unique}
use Rattle.readers.proofs.notes.note_vote.Kinds as note_vote_kinds
use Rattle.readers.proofs.notes.note_vote.Reads as note_vote_reads
use Rattle.readers.proofs.notes.note_blank.Kinds as note_blank_kinds
use Rattle.readers.proofs.notes.note_blank.Reads as note_blank_reads
use Rattle.readers.proofs.learning.learn.Kinds as learn_kinds
use Rattle.readers.proofs.learning.learn.Reads as learn_reads

pub note_vote_unique : Determines 0 note_vote_kinds.ps note_vote_kinds.r note_vote_reads.Post
note_vote_unique κs a x y s t p q = noted_of_one _ x y (p ∙ sym q)

pub note_blank_unique : Determines 0 note_blank_kinds.ps note_blank_kinds.r note_blank_reads.Post
note_blank_unique κs a x y s t p q = noted_of_one _ x y (p ∙ sym q)

pub learn_unique : Determines 0 learn_kinds.ps learn_kinds.r learn_reads.Post
learn_unique κs a x y s t p q = noted_of_one _ x y (learns_unique _ _ _ _ _ p q)
