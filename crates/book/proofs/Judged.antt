-- The refusals before the list: the loop over all blocks, and what blocks are that are not refused.
use Rattle.std.proofs.Common.{ℕ, ◌+◌, ◌%◌, ◌≤◌, ◌<◌, arith, eqb, leb, length, eqb-true, leb-true, ◌≡◌, refl, subst, Bool, true, false, ◌&&◌, List}
use Rattle.std.proofs.Math.Decide.{ℕ_discrete}
use Rattle.below.specs.Below.{all}
use Rattle.below.specs.Refusals.{unless, granted}
use Rattle.below.proofs.Tests.{and_left, and_right, all_at}
use Rattle.pages.specs.Racks.{most_racks}
use Rattle.records.specs.Rules.{stamp_rules}
use Rattle.words.specs.Bytes.{byte}
use Rattle.fields.proofs.Times.{exact_more, exact_start}
use Rattle.blocks.specs.Frame.{block_size}
use Rattle.blocks.specs.Kinds.{decode, good}
use Rattle.blocks.proofs.Judged.{good_kept}
use Rattle.blocks.proofs.Ranges.{stamp_setup, setup_fits}
use Rattle.blocks.specs.RowPropers.{ReaderFits, reader_proper}
use Rattle.blocks.specs.Rows.{reader}
use Rattle.kinds.specs.Known.{good_as}
use Rattle.book.specs.Book.{most_blocks, count_of, block_at, is_whole, is_good, is_in_place, is_reader, Judges, racks_of, blocks_refusal}
use Rattle.book.proofs.Places.{racks_none}

-- the loop over all blocks
pub judges_start : (blocks : List ℕ) → Judges blocks 0 true true true
judges_start blocks = record { goods = exact_start _; places = exact_start _; kinds = exact_start _ }

pub judges_more : (blocks : List ℕ) (k : ℕ) {g p r x y z : Bool} → Judges blocks k g p r → x ≡ is_good blocks k → y ≡ is_in_place blocks k → z ≡ is_reader blocks k →
    Judges blocks (k + 1) (g && x) (p && y) (r && z)
judges_more blocks k j ex ey ez =
    record {
      goods = exact_more (is_good blocks) k j.goods ex refl;
      places = exact_more (is_in_place blocks) k j.places ey refl;
      kinds = exact_more (is_reader blocks) k j.kinds ez refl;
    }

-- four conditions by their values: where none refuses, all hold, and what comes after them decides
abbrev chain : Bool → Bool → Bool → Bool → ℕ → ℕ
chain a b c d last = unless a 1 (unless b 2 (unless c 3 (unless d 5 last)))

module _ (later : ℕ) where
  chain_held : (a b c d : Bool) → chain a b c d granted ≡ granted → ((a ≡ true) × (b ≡ true) × (c ≡ true) × (d ≡ true)) × (chain a b c d later ≡ later)
  chain_held true true true true h = ((refl, refl, refl, refl), refl)
  chain_held true true true false h = absurd (omega (arith, h))
  chain_held true true false d h = absurd (omega (arith, h))
  chain_held true false c d h = absurd (omega (arith, h))
  chain_held false b c d h = absurd (omega (arith, h))

  chain_refuses : (a b c d : Bool) → (chain a b c d granted ≡ granted → ⊥) → chain a b c d later ≡ chain a b c d granted
  chain_refuses true true true true h = absurd (h refl)
  chain_refuses true true true false h = refl
  chain_refuses true true false d h = refl
  chain_refuses true false c d h = refl
  chain_refuses false b c d h = refl

module _ (blocks : List ℕ) (later : ℕ) where
  -- a condition over all blocks
  abbrev places : (ℕ → Bool) → Bool
  places test = all (count_of blocks) test

  pub held : blocks_refusal blocks granted ≡ granted →
      ((is_whole blocks ≡ true) × (places (is_good blocks) ≡ true) × (places (is_in_place blocks) ≡ true) × (places (is_reader blocks) ≡ true)) × (blocks_refusal blocks later ≡ later)
  unfolding blocks_refusal
  held h = chain_held later (is_whole blocks) (places (is_good blocks)) (places (is_in_place blocks)) (places (is_reader blocks)) h

  pub refuses : (blocks_refusal blocks granted ≡ granted → ⊥) → blocks_refusal blocks later ≡ blocks_refusal blocks granted
  unfolding blocks_refusal
  refuses h = chain_refuses later (is_whole blocks) (places (is_good blocks)) (places (is_in_place blocks)) (places (is_reader blocks)) h

-- what blocks are that are not refused so far: few, and of at most 8 racks, as a good block says (or none, where there is no block)
pub record Readable (blocks : List ℕ) : Type 0 where
  pub few : count_of blocks ≤ most_blocks
  pub racks : racks_of blocks ≤ most_racks

good_racks : (block : List ℕ) → good reader block ≡ true → (decode reader block).0.setup.racks ≤ most_racks
good_racks block g =
    (setup_fits _ (stamp_setup _ _ (and_left (stamp_rules (decode reader block).0 (reader.agents (decode reader block).0.setup)) _ (good_kept reader ReaderFits reader_proper block g)))).racks

reader_good : (blocks : List ℕ) (place : ℕ) → is_good blocks place ≡ true → is_reader blocks place ≡ true → good reader (block_at blocks place) ≡ true
unfolding is_good is_reader good_as
reader_good blocks place g k = subst (λ (n : ℕ). good_as n (block_at blocks place) ≡ true) (eqb-true (byte (block_at blocks place) 2) 20 k) g

pub readable : (blocks : List ℕ) → blocks_refusal blocks granted ≡ granted → Readable blocks
readable blocks h = record { few = leb-true _ _ (and_right (eqb (length blocks % block_size) 0) _ whole); racks = go (ℕ_discrete (count_of blocks) 0) }
  where
    whole : is_whole blocks ≡ true
    whole = (held blocks granted h).0.0

    none : count_of blocks ≡ 0 → length blocks ≤ 3
    none e = let m = eqb-true (length blocks % block_size) 0 (and_left _ (leb (count_of blocks) most_blocks) whole) in omega (arith, e, m)

    go : Dec (count_of blocks ≡ 0) → racks_of blocks ≤ most_racks
    go (yes e) = let z = racks_none blocks (none e) in omega (arith, z)
    go (no d) =
        let l : 0 < count_of blocks = omega (arith, d) in
        good_racks (block_at blocks 0)
        (reader_good blocks 0 (all_at (count_of blocks) (is_good blocks) (held blocks granted h).0.1 0 l)
        (all_at (count_of blocks) (is_reader blocks) (held blocks granted h).0.3 0 l))
