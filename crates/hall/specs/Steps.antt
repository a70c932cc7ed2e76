-- The hall's step: the order of refusals, and every lent byte afterwards.
use Rattle.std.specs.Prelude.{ℕ, ◌+◌, ◌*◌, leb, ltb, eqb, length, ◌≡◌, Bool, true, cond, not, ◌&&◌, ◌||◌, List}
use Rattle.below.specs.Refusals.{unless, granted, wrong_length, bad_block, no_such_step, post_full, out_of_range}
use Rattle.pages.specs.Lines.{reading_in_range}
use Rattle.rounds.specs.declared.setup.Setup.{Setup}
use Rattle.rounds.specs.Setups.{one_to, some_racks}
use Rattle.rounds.specs.Rounds.{round_of, round_in_range, largest_number}
use Rattle.records.specs.declared.stamp.Stamp.{Stamp}
use Rattle.words.specs.Bytes.{splice}
use Rattle.blocks.specs.Frame.{block_size}
use Rattle.blocks.specs.Kinds.{encode, decode, good}
use Rattle.blocks.specs.Rows.{head}
use Rattle.acts.specs.declared.step.Step.{Step}
use Rattle.acts.specs.Acts.{Act}
use Rattle.acts.specs.Named.{names, own_act, named_refusal}
use Rattle.hall.specs.Halls.{hall_size, coordinators_at, boxes_at, racks_at, readers_at, messages_at, block_at}

-- which sort of agent does a step: where its rows begin, and how many there are
abbrev pub by_rack : ℕ → Bool
by_rack code = eqb code 1 || (leb 6 code && leb code 8)

abbrev pub by_coordinator : ℕ → Bool
by_coordinator code = eqb code 2 || (leb 4 code && leb code 5)

abbrev pub by_box : ℕ → Bool
by_box code = eqb code 3 || (leb 9 code && leb code 10)

unfoldable pub rows_at : ℕ → ℕ
rows_at code = cond (by_rack code) racks_at (cond (by_coordinator code) coordinators_at (cond (by_box code) boxes_at readers_at))

unfoldable pub agents_for : Setup → ℕ → ℕ
agents_for s code = cond (by_rack code) s.racks (cond (by_coordinator code) s.coordinators (cond (by_box code) s.boxes s.readers))

abbrev pub is_code : ℕ → Bool
is_code code = one_to 13 code

-- 4: code not 1 to 13, no such agent, message number not below the count
unfoldable pub step_exists : Setup → ℕ → Step → Bool
step_exists s count x = is_code x.code && ltb x.agent (agents_for s x.code) && (not (names x.code) || ltb x.message count)

-- 11: reading (offer), n and cf (start, whose c is the agent), round (learn) out of range
unfoldable pub numbers_in_range : Setup → Step → Bool
numbers_in_range s x =
    cond (eqb x.code 1) (reading_in_range (record { 0 = x.reading }))
    (cond (eqb x.code 2) (one_to largest_number x.n && some_racks s.racks x.cf)
    (cond (eqb x.code 13) (round_in_range s (round_of x.n x.c x.cf)) true))

-- the blocks that a step names in a hall
abbrev pub head_of : List ℕ → Stamp
head_of hall = (decode head (block_at hall 0)).0

abbrev pub count_of : List ℕ → ℕ
count_of hall = (decode head (block_at hall 0)).1.count

abbrev pub row_place : Step → ℕ
row_place x = rows_at x.code + x.agent

abbrev pub row_of : List ℕ → Step → List ℕ
row_of hall x = block_at hall (row_place x)

abbrev pub message_of : List ℕ → Step → List ℕ
message_of hall x = block_at hall (messages_at + x.message)

unfoldable pub hall_act : List ℕ → Step → Act
hall_act hall x = own_act x (row_of hall x) (message_of hall x)

-- the hall's stamp, with the agent that the step names
abbrev pub hall_for : List ℕ → Step → Stamp
hall_for hall x = record { instance = (head_of hall).instance; setup = (head_of hall).setup; agent = x.agent }

-- 10: post full (96)
abbrev pub most_messages : ℕ
most_messages = 96

abbrev pub fits : Bool → ℕ → Bool
fits sends count = not sends || ltb count most_messages

-- Order in a hall step: 1, head block 2, 4, 11, row 2, message 2, 3, then 5 to 10 by number
unfoldable pub hall_refusal : List ℕ → Step → ℕ
hall_refusal hall x =
    unless (eqb (length hall) hall_size) wrong_length
    (unless (good head (block_at hall 0)) bad_block
    (unless (step_exists (head_of hall).setup (count_of hall) x) no_such_step
    (unless (numbers_in_range (head_of hall).setup x) out_of_range
    (unless (eqb (named_refusal (hall_for hall x) granted x (row_of hall x) (message_of hall x)) granted)
    (named_refusal (hall_for hall x) granted x (row_of hall x) (message_of hall x))
    (unless (fits (hall_act hall x).sends (count_of hall)) post_full granted)))))

-- a granted step changes only its row, at most one new message block and the head
abbrev pub put_block : ℕ → List ℕ → List ℕ → List ℕ
put_block place block hall = splice (block_size * place) block hall

unfoldable pub posted : List ℕ → List ℕ → List ℕ
posted sent hall =
    put_block 0 (encode head (head_of hall) (record { count = count_of hall + 1 })) (put_block (messages_at + count_of hall) sent hall)

unfoldable pub granting : List ℕ → Step → List ℕ
granting hall x = put_block (row_place x) (hall_act hall x).row (cond (hall_act hall x).sends (posted (hall_act hall x).sent hall) hall)

unfoldable pub hall_after : List ℕ → Step → List ℕ
hall_after hall x = cond (eqb (hall_refusal hall x) granted) (granting hall x) hall

-- what the hall's step promises of its answer and of every lent byte
pub record Steps (hall after : List ℕ) (x : Step) (answer : ℕ) : Type 0 where
  pub answered : answer ≡ hall_refusal hall x
  pub left : after ≡ hall_after hall x
