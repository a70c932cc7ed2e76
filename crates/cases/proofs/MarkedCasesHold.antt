-- Every marked case holds, over any readings V and W.
use Rattle.std.proofs.Common.{ℕ, ◌≡◌, true}
use Rattle.below.specs.Below.{all, any, count, row}
use Rattle.pages.specs.declared.line.Reading.{Reading}
use Rattle.pages.specs.Pages.{at, page, empty, prefix_of, compatible_of, union_of, join_of, nil_extension, trivial_of}
use Rattle.pages.proofs.Lines.{same_reading_refl}
use Rattle.rounds.specs.Rounds.{order_of}
use Rattle.records.specs.Slots.{heard_at, held_at, blank_at}
use Rattle.words.specs.Sums.{first_sum, second_sum}
use Rattle.coordinators.specs.Steps.{any_vote, any_clash, highest, heard_count, join_votes, joined_votes, open_page, open_refusal, open_row, open_of}
use Rattle.readers.specs.Counting.{carrying, enough, first_line, agreed_line, held_page, agreed_page, learnt_of, counted_of}
use Rattle.cases.specs.Table.{check_cases, round_cases, open_cases, learn_cases, majority_cases, table, all_hold}

pub marked_cases_hold : (c0 cf0 cf : ℕ) (v w : Reading) → all_hold (table c0 cf0 cf v w) ≡ true
unfolding table check_cases round_cases open_cases learn_cases majority_cases first_sum second_sum order_of all any count row at page empty prefix_of compatible_of union_of join_of nil_extension trivial_of heard_at held_at blank_at any_vote any_clash highest heard_count join_votes joined_votes open_page open_refusal open_row open_of carrying enough first_line agreed_line held_page agreed_page learnt_of counted_of
marked_cases_hold c0 cf0 cf v w = simp (same_reading_refl v, same_reading_refl w)
