-- Each public contract of this crate determines its answer.
use Rattle.std.proofs.Common.{sym, ◌∙◌}
use Rattle.below.proofs.Unique.{Determines}
use Rattle.records.proofs.Answers.{answer_of_one, noted_of_one}
use Rattle.coordinators.proofs.steps.start.Kinds as start_kinds
use Rattle.coordinators.proofs.steps.start.Reads as start_reads
use Rattle.coordinators.proofs.steps.hear.Kinds as hear_kinds
use Rattle.coordinators.proofs.steps.hear.Reads as hear_reads
use Rattle.coordinators.proofs.steps.open.Kinds as open_kinds
use Rattle.coordinators.proofs.steps.open.Reads as open_reads

pub start_unique : Determines 0 start_kinds.ps start_kinds.r start_reads.Post
start_unique κs a x y s t p q = answer_of_one _ _ x y (p ∙ sym q)

pub hear_unique : Determines 0 hear_kinds.ps hear_kinds.r hear_reads.Post
hear_unique κs a x y s t p q = noted_of_one _ x y (p ∙ sym q)

pub open_unique : Determines 0 open_kinds.ps open_kinds.r open_reads.Post
open_unique κs a x y s t p q = answer_of_one _ _ x y (p ∙ sym q)
