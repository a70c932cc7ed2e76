-- Each public contract of this crate determines its answer.
use Rattle.std.proofs.Common.{sym, ◌∙◌}
use Rattle.below.proofs.Unique.{Determines}
use Rattle.rounds.proofs.order.Order.is_below.Kinds as order_is_below_kinds
use Rattle.rounds.proofs.order.Order.is_below.Reads as order_is_below
use Rattle.rounds.proofs.order.Order.is_equal.Kinds as order_is_equal_kinds
use Rattle.rounds.proofs.order.Order.is_equal.Reads as order_is_equal
use Rattle.rounds.proofs.order.Order.is_above.Kinds as order_is_above_kinds
use Rattle.rounds.proofs.order.Order.is_above.Reads as order_is_above
use Rattle.rounds.proofs.order.Order.is_clash.Kinds as order_is_clash_kinds
use Rattle.rounds.proofs.order.Order.is_clash.Reads as order_is_clash
use Rattle.rounds.proofs.order.Order.is_up_to.Kinds as order_is_up_to_kinds
use Rattle.rounds.proofs.order.Order.is_up_to.Reads as order_is_up_to
use Rattle.rounds.proofs.round.Round.zero.Kinds as round_zero_kinds
use Rattle.rounds.proofs.round.Round.zero.Reads as round_zero
use Rattle.rounds.proofs.round.Round.numbers_in_range.Kinds as round_numbers_in_range_kinds
use Rattle.rounds.proofs.round.Round.numbers_in_range.Reads as round_numbers_in_range
use Rattle.rounds.proofs.round.Round.in_range.Kinds as round_in_range_kinds
use Rattle.rounds.proofs.round.Round.in_range.Reads as round_in_range
use Rattle.rounds.proofs.round.Round.compare.Kinds as round_compare_kinds
use Rattle.rounds.proofs.round.Round.compare.Reads as round_compare
use Rattle.rounds.proofs.setup.some_racks.Kinds as some_racks_kinds
use Rattle.rounds.proofs.setup.some_racks.Reads as some_racks
use Rattle.rounds.proofs.setup.Setup.numbers_in_range.Kinds as setup_numbers_in_range_kinds
use Rattle.rounds.proofs.setup.Setup.numbers_in_range.Reads as setup_numbers_in_range
use Rattle.rounds.proofs.setup.Setup.in_range.Kinds as setup_in_range_kinds
use Rattle.rounds.proofs.setup.Setup.in_range.Reads as setup_in_range
use Rattle.rounds.proofs.setup.Setup.majority.Kinds as setup_majority_kinds
use Rattle.rounds.proofs.setup.Setup.majority.Reads as setup_majority

pub order_is_below_unique : Determines 0 order_is_below_kinds.ps order_is_below_kinds.r order_is_below.Post
order_is_below_unique κs a x y s t p q = p ∙ sym q

pub order_is_equal_unique : Determines 0 order_is_equal_kinds.ps order_is_equal_kinds.r order_is_equal.Post
order_is_equal_unique κs a x y s t p q = p ∙ sym q

pub order_is_above_unique : Determines 0 order_is_above_kinds.ps order_is_above_kinds.r order_is_above.Post
order_is_above_unique κs a x y s t p q = p ∙ sym q

pub order_is_clash_unique : Determines 0 order_is_clash_kinds.ps order_is_clash_kinds.r order_is_clash.Post
order_is_clash_unique κs a x y s t p q = p ∙ sym q

pub order_is_up_to_unique : Determines 0 order_is_up_to_kinds.ps order_is_up_to_kinds.r order_is_up_to.Post
order_is_up_to_unique κs a x y s t p q = p ∙ sym q

pub round_zero_unique : Determines 0 round_zero_kinds.ps round_zero_kinds.r round_zero.Post
round_zero_unique κs a x y s t p q = p ∙ sym q

pub round_numbers_in_range_unique : Determines 0 round_numbers_in_range_kinds.ps round_numbers_in_range_kinds.r round_numbers_in_range.Post
round_numbers_in_range_unique κs a x y s t p q = p ∙ sym q

pub round_in_range_unique : Determines 0 round_in_range_kinds.ps round_in_range_kinds.r round_in_range.Post
round_in_range_unique κs a x y s t p q = p ∙ sym q

pub round_compare_unique : Determines 0 round_compare_kinds.ps round_compare_kinds.r round_compare.Post
round_compare_unique κs a x y s t p q = p ∙ sym q

pub some_racks_unique : Determines 0 some_racks_kinds.ps some_racks_kinds.r some_racks.Post
some_racks_unique κs a x y s t p q = p ∙ sym q

pub setup_numbers_in_range_unique : Determines 0 setup_numbers_in_range_kinds.ps setup_numbers_in_range_kinds.r setup_numbers_in_range.Post
setup_numbers_in_range_unique κs a x y s t p q = p ∙ sym q

pub setup_in_range_unique : Determines 0 setup_in_range_kinds.ps setup_in_range_kinds.r setup_in_range.Post
setup_in_range_unique κs a x y s t p q = p ∙ sym q

pub setup_majority_unique : Determines 0 setup_majority_kinds.ps setup_majority_kinds.r setup_majority.Post
setup_majority_unique κs a x y s t p q = p ∙ sym q
