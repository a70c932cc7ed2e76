-- Each public contract of this crate determines its answer.
use Rattle.std.proofs.Common.{sym, ◌∙◌}
use Rattle.below.proofs.Unique.{Determines}
use Rattle.pages.proofs.line.Reading.in_range.Kinds as reading_in_range_kinds
use Rattle.pages.proofs.line.Reading.in_range.Reads as reading_in_range
use Rattle.pages.proofs.line.Line.of.Kinds as line_of_kinds
use Rattle.pages.proofs.line.Line.of.Reads as line_of
use Rattle.pages.proofs.line.Line.is_absent.Kinds as line_is_absent_kinds
use Rattle.pages.proofs.line.Line.is_absent.Reads as line_is_absent
use Rattle.pages.proofs.line.Line.is_nil.Kinds as line_is_nil_kinds
use Rattle.pages.proofs.line.Line.is_nil.Reads as line_is_nil
use Rattle.pages.proofs.line.Line.is_reading.Kinds as line_is_reading_kinds
use Rattle.pages.proofs.line.Line.is_reading.Reads as line_is_reading
use Rattle.pages.proofs.line.Line.holds.Kinds as line_holds_kinds
use Rattle.pages.proofs.line.Line.holds.Reads as line_holds
use Rattle.pages.proofs.line.Line.in_range.Kinds as line_in_range_kinds
use Rattle.pages.proofs.line.Line.in_range.Reads as line_in_range
use Rattle.pages.proofs.line.Line.append.Kinds as line_append_kinds
use Rattle.pages.proofs.line.Line.append.Reads as line_append
use Rattle.pages.proofs.line.Line.append_if.Kinds as line_append_if_kinds
use Rattle.pages.proofs.line.Line.append_if.Reads as line_append_if
use Rattle.pages.proofs.line.Line.prefix_of.Kinds as line_prefix_of_kinds
use Rattle.pages.proofs.line.Line.prefix_of.Reads as line_prefix_of
use Rattle.pages.proofs.line.Line.compatible.Kinds as line_compatible_kinds
use Rattle.pages.proofs.line.Line.compatible.Reads as line_compatible
use Rattle.pages.proofs.line.Line.present_if.Kinds as line_present_if_kinds
use Rattle.pages.proofs.line.Line.present_if.Reads as line_present_if
use Rattle.pages.proofs.line.Line.nil_if.Kinds as line_nil_if_kinds
use Rattle.pages.proofs.line.Line.nil_if.Reads as line_nil_if
use Rattle.pages.proofs.line.Line.within_if.Kinds as line_within_if_kinds
use Rattle.pages.proofs.line.Line.within_if.Reads as line_within_if
use Rattle.pages.proofs.page.Page.at.Kinds as page_at_kinds
use Rattle.pages.proofs.page.Page.at.Reads as page_at
use Rattle.pages.proofs.page.Page.append.Kinds as page_append_kinds
use Rattle.pages.proofs.page.Page.append.Reads as page_append
use Rattle.pages.proofs.page.Page.prefix_of.Kinds as page_prefix_of_kinds
use Rattle.pages.proofs.page.Page.prefix_of.Reads as page_prefix_of
use Rattle.pages.proofs.page.Page.compatible.Kinds as page_compatible_kinds
use Rattle.pages.proofs.page.Page.compatible.Reads as page_compatible
use Rattle.pages.proofs.page.Page.union.Kinds as page_union_kinds
use Rattle.pages.proofs.page.Page.union.Reads as page_union
use Rattle.pages.proofs.page.Page.join.Kinds as page_join_kinds
use Rattle.pages.proofs.page.Page.join.Reads as page_join
use Rattle.pages.proofs.page.Page.nil_extension.Kinds as page_nil_extension_kinds
use Rattle.pages.proofs.page.Page.nil_extension.Reads as page_nil_extension
use Rattle.pages.proofs.page.Page.complete.Kinds as page_complete_kinds
use Rattle.pages.proofs.page.Page.complete.Reads as page_complete
use Rattle.pages.proofs.page.Page.trivial.Kinds as page_trivial_kinds
use Rattle.pages.proofs.page.Page.trivial.Reads as page_trivial
use Rattle.pages.proofs.page.Page.valued.Kinds as page_valued_kinds
use Rattle.pages.proofs.page.Page.valued.Reads as page_valued
use Rattle.pages.proofs.page.Page.is_empty.Kinds as page_is_empty_kinds
use Rattle.pages.proofs.page.Page.is_empty.Reads as page_is_empty
use Rattle.pages.proofs.page.Page.within.Kinds as page_within_kinds
use Rattle.pages.proofs.page.Page.within.Reads as page_within
use Rattle.pages.proofs.page.Vote.of.Kinds as vote_of_kinds
use Rattle.pages.proofs.page.Vote.of.Reads as vote_of
use Rattle.pages.proofs.racks.has.Kinds as has_kinds
use Rattle.pages.proofs.racks.has.Reads as has
use Rattle.pages.proofs.racks.below_all.Kinds as below_all_kinds
use Rattle.pages.proofs.racks.below_all.Reads as below_all
use Rattle.pages.proofs.racks.is_outside.Kinds as is_outside_kinds
use Rattle.pages.proofs.racks.is_outside.Reads as is_outside
use Rattle.pages.proofs.racks.outside.Kinds as outside_kinds
use Rattle.pages.proofs.racks.outside.Reads as outside

pub reading_in_range_unique : Determines 0 reading_in_range_kinds.ps reading_in_range_kinds.r reading_in_range.Post
reading_in_range_unique κs a x y s t p q = p ∙ sym q

pub line_of_unique : Determines 0 line_of_kinds.ps line_of_kinds.r line_of.Post
line_of_unique κs a x y s t p q = λ i. record { mark = (p ∙ sym q) i }

pub line_is_absent_unique : Determines 0 line_is_absent_kinds.ps line_is_absent_kinds.r line_is_absent.Post
line_is_absent_unique κs a x y s t p q = p ∙ sym q

pub line_is_nil_unique : Determines 0 line_is_nil_kinds.ps line_is_nil_kinds.r line_is_nil.Post
line_is_nil_unique κs a x y s t p q = p ∙ sym q

pub line_is_reading_unique : Determines 0 line_is_reading_kinds.ps line_is_reading_kinds.r line_is_reading.Post
line_is_reading_unique κs a x y s t p q = p ∙ sym q

pub line_holds_unique : Determines 0 line_holds_kinds.ps line_holds_kinds.r line_holds.Post
line_holds_unique κs a x y s t p q = p ∙ sym q

pub line_in_range_unique : Determines 0 line_in_range_kinds.ps line_in_range_kinds.r line_in_range.Post
line_in_range_unique κs a x y s t p q = p ∙ sym q

pub line_append_unique : Determines 0 line_append_kinds.ps line_append_kinds.r line_append.Post
line_append_unique κs a x y s t p q = λ i. record { mark = (p ∙ sym q) i }

pub line_append_if_unique : Determines 0 line_append_if_kinds.ps line_append_if_kinds.r line_append_if.Post
line_append_if_unique κs a x y s t p q = λ i. record { mark = (p ∙ sym q) i }

pub line_prefix_of_unique : Determines 0 line_prefix_of_kinds.ps line_prefix_of_kinds.r line_prefix_of.Post
line_prefix_of_unique κs a x y s t p q = p ∙ sym q

pub line_compatible_unique : Determines 0 line_compatible_kinds.ps line_compatible_kinds.r line_compatible.Post
line_compatible_unique κs a x y s t p q = p ∙ sym q

pub line_present_if_unique : Determines 0 line_present_if_kinds.ps line_present_if_kinds.r line_present_if.Post
line_present_if_unique κs a x y s t p q = p ∙ sym q

pub line_nil_if_unique : Determines 0 line_nil_if_kinds.ps line_nil_if_kinds.r line_nil_if.Post
line_nil_if_unique κs a x y s t p q = p ∙ sym q

pub line_within_if_unique : Determines 0 line_within_if_kinds.ps line_within_if_kinds.r line_within_if.Post
line_within_if_unique κs a x y s t p q = p ∙ sym q

pub page_at_unique : Determines 1 page_at_kinds.ps page_at_kinds.r page_at.Post
page_at_unique κs a x y s t p q = λ i. record { mark = (p ∙ sym q) i }

pub page_append_unique : Determines 0 page_append_kinds.ps page_append_kinds.r page_append.Post
page_append_unique κs a x y s t p q = p ∙ sym q

pub page_prefix_of_unique : Determines 0 page_prefix_of_kinds.ps page_prefix_of_kinds.r page_prefix_of.Post
page_prefix_of_unique κs a x y s t p q = p ∙ sym q

pub page_compatible_unique : Determines 0 page_compatible_kinds.ps page_compatible_kinds.r page_compatible.Post
page_compatible_unique κs a x y s t p q = p ∙ sym q

pub page_union_unique : Determines 0 page_union_kinds.ps page_union_kinds.r page_union.Post
page_union_unique κs a x y s t p q = p ∙ sym q

pub page_join_unique : Determines 0 page_join_kinds.ps page_join_kinds.r page_join.Post
page_join_unique κs a x y s t p q = p ∙ sym q

pub page_nil_extension_unique : Determines 0 page_nil_extension_kinds.ps page_nil_extension_kinds.r page_nil_extension.Post
page_nil_extension_unique κs a x y s t p q = p ∙ sym q

pub page_complete_unique : Determines 0 page_complete_kinds.ps page_complete_kinds.r page_complete.Post
page_complete_unique κs a x y s t p q = p ∙ sym q

pub page_trivial_unique : Determines 0 page_trivial_kinds.ps page_trivial_kinds.r page_trivial.Post
page_trivial_unique κs a x y s t p q = p ∙ sym q

pub page_valued_unique : Determines 0 page_valued_kinds.ps page_valued_kinds.r page_valued.Post
page_valued_unique κs a x y s t p q = p ∙ sym q

pub page_is_empty_unique : Determines 0 page_is_empty_kinds.ps page_is_empty_kinds.r page_is_empty.Post
page_is_empty_unique κs a x y s t p q = p ∙ sym q

pub page_within_unique : Determines 0 page_within_kinds.ps page_within_kinds.r page_within.Post
page_within_unique κs a x y s t p q = p ∙ sym q

pub vote_of_unique : Determines 0 vote_of_kinds.ps vote_of_kinds.r vote_of.Post
vote_of_unique κs a x y s t p q = p ∙ sym q

pub has_unique : Determines 0 has_kinds.ps has_kinds.r has.Post
has_unique κs a x y s t p q = p ∙ sym q

pub below_all_unique : Determines 0 below_all_kinds.ps below_all_kinds.r below_all.Post
below_all_unique κs a x y s t p q = p ∙ sym q

pub is_outside_unique : Determines 0 is_outside_kinds.ps is_outside_kinds.r is_outside.Post
is_outside_unique κs a x y s t p q = p ∙ sym q

pub outside_unique : Determines 0 outside_kinds.ps outside_kinds.r outside.Post
outside_unique κs a x y s t p q = p ∙ sym q
