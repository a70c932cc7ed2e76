-- A hall: 118 blocks, 60,416 bytes: head, 4 coordinators, 5 boxes, 8 racks, 4 readers, 96 messages.
use Rattle.std.specs.Prelude.{ℕ, ◌*◌, ◌-◌, leb, ltb, eqb, length, take, drop, ◌≡◌, cond, ◌&&◌, List}
use Rattle.below.specs.Below.{row}
use Rattle.below.specs.Refusals.{unless, granted, wrong_length, out_of_range}
use Rattle.pages.specs.declared.line.Mark.TheVariants.{Absent}
use Rattle.pages.specs.Pages.{line, empty, none, some}
use Rattle.rounds.specs.declared.setup.Setup.{Setup}
use Rattle.rounds.specs.Setups.{setup_in_range, most_boxes, most_racks}
use Rattle.rounds.specs.Rounds.{zero_of}
use Rattle.records.specs.Slots.{no_heard, no_held, no_blank}
use Rattle.records.specs.declared.rows.CoordinatorRow.{CoordinatorRow}
use Rattle.records.specs.declared.rows.BoxRow.{BoxRow}
use Rattle.records.specs.declared.rows.RackRow.{RackRow}
use Rattle.records.specs.declared.rows.ReaderRow.{ReaderRow}
use Rattle.words.specs.Bytes.{zeros}
use Rattle.fields.specs.Codecs.{run}
use Rattle.blocks.specs.Frame.{block_size}
use Rattle.blocks.specs.Kinds.{Kind, encode}
use Rattle.blocks.specs.Rows.{head, coordinator, box, rack, reader}

-- how many blocks, and where each sort begins
abbrev pub blocks_of_hall : ℕ
blocks_of_hall = 118

abbrev pub hall_size : ℕ
hall_size = block_size * blocks_of_hall

abbrev pub coordinators_at : ℕ
coordinators_at = 1

abbrev pub boxes_at : ℕ
boxes_at = 5

abbrev pub racks_at : ℕ
racks_at = 10

abbrev pub readers_at : ℕ
readers_at = 18

abbrev pub messages_at : ℕ
messages_at = 22

-- a block of the hall
unfoldable pub block_at : List ℕ → ℕ → List ℕ
block_at hall place = take block_size (drop (block_size * place) hall)

-- rows at the start. Coordinator: crnd Zero; cval the empty page at c0, none elsewhere; heard: nothing
abbrev pub fresh_coordinator : Setup → ℕ → CoordinatorRow
fresh_coordinator s agent =
    record { crnd = zero_of s; cval = cond (eqb agent s.c0) (some empty) none; heard = row most_boxes (λ k. no_heard) }

-- box: rnd and vrnd Zero, vval none
abbrev pub fresh_box : Setup → BoxRow
fresh_box s = record { rnd = zero_of s; vrnd = zero_of s; vval = none }

-- rack: prnd Zero, pval none
abbrev pub fresh_rack : Setup → RackRow
fresh_rack s = record { prnd = zero_of s; pval = line Absent }

-- reader: empty page, nothing held
abbrev pub fresh_reader : ReaderRow
fresh_reader = record { page = empty; held = row most_boxes (λ k. no_held); blanks = row most_racks (λ k. no_blank) }

-- the block at a place of a fresh hall; unused blocks are zero
abbrev pub row_or_zero : {R : Type 0} → Kind R → ℕ → Setup → ℕ → R → List ℕ
row_or_zero k instance s agent r =
    cond (ltb agent (k.agents s)) (encode k (record { instance = record { 0 = instance }; setup = s; agent = agent }) r) (zeros block_size)

unfoldable pub fresh_block : ℕ → Setup → ℕ → List ℕ
fresh_block instance s place =
    cond (ltb place coordinators_at) (row_or_zero head instance s place (record { count = 0 }))
    (cond (ltb place boxes_at) (row_or_zero coordinator instance s (place - coordinators_at) (fresh_coordinator s (place - coordinators_at)))
    (cond (ltb place racks_at) (row_or_zero box instance s (place - boxes_at) (fresh_box s))
    (cond (ltb place readers_at) (row_or_zero rack instance s (place - racks_at) (fresh_rack s))
    (cond (ltb place messages_at) (row_or_zero reader instance s (place - readers_at) fresh_reader) (zeros block_size)))))

unfoldable pub fresh_hall : ℕ → Setup → List ℕ
fresh_hall instance s = run blocks_of_hall (fresh_block instance s)

-- setup answers 1, then 11, or writes all
unfoldable pub setup_refusal : List ℕ → ℕ → Setup → ℕ
setup_refusal hall instance s =
    unless (eqb (length hall) hall_size) wrong_length (unless (leb instance 65535 && setup_in_range s) out_of_range granted)

unfoldable pub setup_after : List ℕ → ℕ → Setup → List ℕ
setup_after hall instance s = cond (eqb (setup_refusal hall instance s) granted) (fresh_hall instance s) hall

-- what setup promises of its answer and of every lent byte
pub record Sets (hall after : List ℕ) (instance : ℕ) (s : Setup) (answer : ℕ) : Type 0 where
  pub answered : answer ≡ setup_refusal hall instance s
  pub left : after ≡ setup_after hall instance s
