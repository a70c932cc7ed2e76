-- Each public contract of this crate determines its answer.
use Rattle.std.proofs.Common.{sym, ◌∙◌}
use Rattle.below.proofs.Unique.{Determines}
use Rattle.records.proofs.Answers.{answer_of_one, noted_of_one}
use Rattle.racks.proofs.steps.offer.Kinds as offer_kinds
use Rattle.racks.proofs.steps.offer.Reads as offer_reads
use Rattle.racks.proofs.steps.prepare.Kinds as prepare_kinds
use Rattle.racks.proofs.steps.prepare.Reads as prepare_reads
use Rattle.racks.proofs.steps.fast.Kinds as fast_kinds
use Rattle.racks.proofs.steps.fast.Reads as fast_reads
use Rattle.racks.proofs.steps.blank.Kinds as blank_kinds
use Rattle.racks.proofs.steps.blank.Reads as blank_reads

pub offer_unique : Determines 0 offer_kinds.ps offer_kinds.r offer_reads.Post
offer_unique κs a x y s t p q = λ i. record { reading = (p ∙ sym q) i }

pub prepare_unique : Determines 0 prepare_kinds.ps prepare_kinds.r prepare_reads.Post
prepare_unique κs a x y s t p q = noted_of_one _ x y (p ∙ sym q)

pub fast_unique : Determines 0 fast_kinds.ps fast_kinds.r fast_reads.Post
fast_unique κs a x y s t p q = answer_of_one _ _ x y (p ∙ sym q)

pub blank_unique : Determines 0 blank_kinds.ps blank_kinds.r blank_reads.Post
blank_unique κs a x y s t p q = answer_of_one _ _ x y (p ∙ sym q)
