-- Each public contract of this crate determines its answer.
use Rattle.std.proofs.Common.{sym, ◌∙◌}
use Rattle.below.proofs.Unique.{Determines}
use Rattle.below.proofs.refusals.Refusal.number.Kinds as number_kinds
use Rattle.below.proofs.refusals.Refusal.number.Reads as number_reads
use Rattle.below.proofs.refusals.Refusal.unless.Kinds as unless_kinds
use Rattle.below.proofs.refusals.Refusal.unless.Reads as unless_reads
use Rattle.below.proofs.refusals.number_of.Kinds as number_of_kinds
use Rattle.below.proofs.refusals.number_of.Reads as number_of_reads

pub number_unique : Determines 0 number_kinds.ps number_kinds.r number_reads.Post
number_unique κs a x y s t p q = p ∙ sym q

pub unless_unique : Determines 0 unless_kinds.ps unless_kinds.r unless_reads.Post
unless_unique κs a x y s t p q = p ∙ sym q

pub number_of_unique : Determines 0 number_of_kinds.ps number_of_kinds.r number_of_reads.Post
number_of_unique κs a x y s t p q = p ∙ sym q
