-- Each public contract of this crate determines its answer.
use Rattle.std.proofs.Common.{sym, ◌∙◌}
use Rattle.below.proofs.Unique.{Determines}
use Rattle.records.proofs.Answers.{answer_of_one}
use Rattle.boxes.proofs.steps.join.Kinds as join_kinds
use Rattle.boxes.proofs.steps.join.Reads as join_reads
use Rattle.boxes.proofs.steps.take_page.Kinds as take_page_kinds
use Rattle.boxes.proofs.steps.take_page.Reads as take_page_reads
use Rattle.boxes.proofs.steps.take_reading.Kinds as take_reading_kinds
use Rattle.boxes.proofs.steps.take_reading.Reads as take_reading_reads

pub join_unique : Determines 0 join_kinds.ps join_kinds.r join_reads.Post
join_unique κs a x y s t p q = answer_of_one _ _ x y (p ∙ sym q)

pub take_page_unique : Determines 0 take_page_kinds.ps take_page_kinds.r take_page_reads.Post
take_page_unique κs a x y s t p q = answer_of_one _ _ x y (p ∙ sym q)

pub take_reading_unique : Determines 0 take_reading_kinds.ps take_reading_kinds.r take_reading_reads.Post
take_reading_unique κs a x y s t p q = answer_of_one _ _ x y (p ∙ sym q)
