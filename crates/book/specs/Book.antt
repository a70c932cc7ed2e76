-- The book: its refusals in order, its list, its count, and the lent row afterwards (document 01, 'The book').
use Rattle.std.specs.Prelude.{ℕ, ◌*◌, ◌/◌, ◌%◌, eqb, leb, length, take, drop, ◌≡◌, Bool, cond, ◌&&◌, List, ◌++◌}
use Rattle.below.specs.Below.{all, row}
use Rattle.below.specs.Refusals.{unless, granted, wrong_message, wrong_length, bad_block, other_hall}
use Rattle.pages.specs.declared.page.Page.{Page}
use Rattle.rounds.specs.Setups.{same_setup}
use Rattle.records.specs.declared.stamp.Stamp.{Stamp}
use Rattle.words.specs.Bytes.{byte}
use Rattle.blocks.specs.Frame.{block_size, stamp_as}
use Rattle.blocks.specs.Kinds.{decode}
use Rattle.blocks.specs.Rows.{reader}
use Rattle.kinds.specs.Known.{known}
use Rattle.book.specs.Lists.{list_of}

abbrev pub too_short : ℕ
too_short = 10

abbrev pub most_blocks : ℕ
most_blocks = 64

-- the lent blocks: how many, and the one at a place
abbrev pub count_of : List ℕ → ℕ
count_of blocks = length blocks / block_size

unfoldable pub block_at : List ℕ → ℕ → List ℕ
block_at blocks place = take block_size (drop (block_size * place) blocks)

-- what a block says of itself, and the page that it holds, read as a reader's
abbrev pub stamp_at : List ℕ → ℕ → Stamp
stamp_at blocks place = (stamp_as 0).get (block_at blocks place) 0

abbrev pub page_at : List ℕ → ℕ → Page
page_at blocks place = (decode reader (block_at blocks place)).1.page

-- 1: not 0 to 64 whole blocks
abbrev pub is_whole : List ℕ → Bool
is_whole blocks = eqb (length blocks % block_size) 0 && leb (count_of blocks) most_blocks

-- 2: a bad block
unfoldable pub is_good : List ℕ → ℕ → Bool
is_good blocks place = known (block_at blocks place)

-- 3: reader, setup or instance wrong. The first block says reader and setup; instances are 0, 1, 2 and on
unfoldable pub is_in_place : List ℕ → ℕ → Bool
is_in_place blocks place =
    (same_setup (stamp_at blocks 0).setup (stamp_at blocks place).setup && eqb (stamp_at blocks 0).agent (stamp_at blocks place).agent) &&
    eqb (stamp_at blocks place).instance.0 place

-- 5: a good block of another kind
unfoldable pub is_reader : List ℕ → ℕ → Bool
is_reader blocks place = eqb (byte (block_at blocks place) 2) reader.number

-- 2, 3 and 5 over the first so many blocks
pub record Judges (blocks : List ℕ) (count : ℕ) (good placed readers : Bool) : Type 0 where
  pub goods : good ≡ all count (is_good blocks)
  pub places : placed ≡ all count (is_in_place blocks)
  pub kinds : readers ≡ all count (is_reader blocks)

-- the list: of P racks, as the first block says, over the blocks' pages
abbrev pub racks_of : List ℕ → ℕ
racks_of blocks = (stamp_at blocks 0).setup.racks

abbrev pub pages_of : List ℕ → List Page
pages_of blocks = row (count_of blocks) (page_at blocks)

unfoldable pub book_list : List ℕ → List ℕ
book_list blocks = list_of (racks_of blocks) (pages_of blocks)

-- what is looked at in the blocks, each over all of them, before the list
unfoldable pub blocks_refusal : List ℕ → ℕ → ℕ
blocks_refusal blocks later =
    unless (is_whole blocks) wrong_length
    (unless (all (count_of blocks) (is_good blocks)) bad_block
    (unless (all (count_of blocks) (is_in_place blocks)) other_hall
    (unless (all (count_of blocks) (is_reader blocks)) wrong_message later)))

-- 10 exactly if the list is longer than the lent row
unfoldable pub book_refusal : List ℕ → List ℕ → ℕ
book_refusal blocks list = blocks_refusal blocks (unless (leb (length (book_list blocks)) (length list)) too_short granted)

-- it answers the count too, 0 if refused
unfoldable pub book_count : List ℕ → List ℕ → ℕ
book_count blocks list = cond (eqb (book_refusal blocks list) granted) (length (book_list blocks)) 0

-- the list goes to the lent row; those after the count stay, and all where it is refused
unfoldable pub book_after : List ℕ → List ℕ → List ℕ
book_after blocks list =
    cond (eqb (book_refusal blocks list) granted) (book_list blocks ++ drop (length (book_list blocks)) list) list

-- what the book promises of its answer, its count and every lent number
pub record Books (blocks list after : List ℕ) (refusal count : ℕ) : Type 0 where
  pub answered : refusal ≡ book_refusal blocks list
  pub counted : count ≡ book_count blocks list
  pub left : after ≡ book_after blocks list
