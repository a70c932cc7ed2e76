-- Each public contract of this crate determines its answer.
use Rattle.std.proofs.Common.{sym, ◌∙◌}
use Rattle.below.proofs.Unique.{Determines}
use Rattle.step_numbers.proofs.rows_of.Kinds as rows_of_kinds
use Rattle.step_numbers.proofs.rows_of.Reads as rows_of_reads
use Rattle.step_numbers.proofs.is_code.Kinds as is_code_kinds
use Rattle.step_numbers.proofs.is_code.Reads as is_code_reads
use Rattle.step_numbers.proofs.message_place.Kinds as message_place_kinds
use Rattle.step_numbers.proofs.message_place.Reads as message_place_reads
use Rattle.step_numbers.proofs.step_exists.Kinds as step_exists_kinds
use Rattle.step_numbers.proofs.step_exists.Reads as step_exists_reads
use Rattle.step_numbers.proofs.numbers_in_range.Kinds as numbers_in_range_kinds
use Rattle.step_numbers.proofs.numbers_in_range.Reads as numbers_in_range_reads
use Rattle.step_numbers.proofs.narrow.Kinds as narrow_kinds
use Rattle.step_numbers.proofs.narrow.Reads as narrow_reads

pub rows_of_unique : Determines 0 rows_of_kinds.ps rows_of_kinds.r rows_of_reads.Post
rows_of_unique κs a x y s t p q = λ i. record { first = (p.0 ∙ sym q.0) i; agents = (p.1 ∙ sym q.1) i }

pub is_code_unique : Determines 0 is_code_kinds.ps is_code_kinds.r is_code_reads.Post
is_code_unique κs a x y s t p q = p ∙ sym q

pub message_place_unique : Determines 0 message_place_kinds.ps message_place_kinds.r message_place_reads.Post
message_place_unique κs a x y s t p q = p ∙ sym q

pub step_exists_unique : Determines 0 step_exists_kinds.ps step_exists_kinds.r step_exists_reads.Post
step_exists_unique κs a x y s t p q = p ∙ sym q

pub numbers_in_range_unique : Determines 0 numbers_in_range_kinds.ps numbers_in_range_kinds.r numbers_in_range_reads.Post
numbers_in_range_unique κs a x y s t p q = p ∙ sym q

pub narrow_unique : Determines 0 narrow_kinds.ps narrow_kinds.r narrow_reads.Post
narrow_unique κs a x y s t p q = p ∙ sym q
