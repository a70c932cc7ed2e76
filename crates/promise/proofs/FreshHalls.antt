-- A fresh hall is good, and its rows are those of document 01 at the start.
use Rattle.std.proofs.Common.{ℕ, ◌+◌, ◌-◌, ◌≤◌, ◌<◌, arith, ltb, length, ◌≡◌, sym, ap, subst, ◌∙◌, Bool, true, false, cond, lt-ltb, le-ltb}
use Rattle.std.proofs.Math.ListN.{length-replicate}
use Rattle.pages.proofs.Kept.{empty_whole}
use Rattle.rounds.specs.declared.setup.Setup.{Setup}
use Rattle.rounds.specs.Setups.{setup_in_range}
use Rattle.words.specs.Bytes.{zeros}
use Rattle.fields.proofs.Times.{length_run}
use Rattle.blocks.specs.Frame.{block_size}
use Rattle.blocks.specs.Kinds.{Kind, encode}
use Rattle.blocks.proofs.Kept.{Kept}
use Rattle.blocks.proofs.Ranges.{SetupFits, setup_fits}
use Rattle.blocks.specs.Rows as Rows
use Rattle.blocks.proofs.RowKinds.{head_kept, coordinator_kept, box_kept, rack_kept, reader_kept}
use Rattle.acts.specs.Acts.{body_of}
use Rattle.hall.specs.Halls.{blocks_of_hall, coordinators_at, boxes_at, racks_at, readers_at, messages_at, block_at, fresh_coordinator, fresh_box, fresh_rack, fresh_reader, row_or_zero, fresh_block, fresh_hall}
use Rattle.safety.proofs.Moved.{Agent, coordinator, box, rack, reader}
use Rattle.safety.proofs.FreshIsKept.{FreshView, FreshCoordinator, FreshBox, FreshRack, FreshReader, fresh_coordinator_lem, fresh_box_lem, fresh_rack_lem, fresh_reader_lem}
use Rattle.hall.proofs.Cells.{run_block}
use Rattle.promise.proofs.GoodBlocks.{stamp_for, Good, encoded_good, encoded_body}
use Rattle.promise.proofs.GoodHalls.{place_of, Exists, GoodRow, GoodHall, view_of}
use Rattle.promise.proofs.FreshRows.{coordinator_rules_lem, box_rules_lem, rack_rules_lem, reader_rules_lem, coordinator_shaped, reader_shaped}

row_size : {R : Type 0} (k : Kind R) (Shaped : R → Type 0) → Kept k Shaped → (instance : ℕ) (s : Setup) (agent : ℕ) (r : R) → length (row_or_zero k instance s agent r) ≡ block_size
row_size k Shaped laws instance s agent r = go (ltb agent (k.agents s))
  where
    go : (b : Bool) → length (cond b (encode k (stamp_for instance s agent) r) (zeros block_size)) ≡ block_size
    go true = laws.long _ _
    go false = length-replicate {A = ℕ} block_size 0

fresh_block_size : (instance : ℕ) (s : Setup) (place : ℕ) → length (fresh_block instance s place) ≡ block_size
unfolding fresh_block
fresh_block_size instance s place = go (ltb place coordinators_at) (ltb place boxes_at) (ltb place racks_at) (ltb place readers_at) (ltb place messages_at)
  where
    go : (a b c d e : Bool) →
        length
        (cond a (row_or_zero Rows.head instance s place (record { count = 0 }))
        (cond b (row_or_zero Rows.coordinator instance s (place - coordinators_at) (fresh_coordinator s (place - coordinators_at)))
        (cond c (row_or_zero Rows.box instance s (place - boxes_at) (fresh_box s))
        (cond d (row_or_zero Rows.rack instance s (place - racks_at) (fresh_rack s))
        (cond e (row_or_zero Rows.reader instance s (place - readers_at) fresh_reader) (zeros block_size)))))) ≡ block_size
    go true b c d e = row_size Rows.head _ head_kept instance s place _
    go false true c d e = row_size Rows.coordinator _ coordinator_kept instance s _ _
    go false false true d e = row_size Rows.box _ box_kept instance s _ _
    go false false false true e = row_size Rows.rack _ rack_kept instance s _ _
    go false false false false true = row_size Rows.reader _ reader_kept instance s _ _
    go false false false false false = length-replicate {A = ℕ} block_size 0

module _ (instance : ℕ) (s : Setup) (range : setup_in_range s ≡ true) (small : instance ≤ 65535) where
  fit : SetupFits s
  fit = setup_fits s range

  at : (place : ℕ) → place < blocks_of_hall → block_at (fresh_hall instance s) place ≡ fresh_block instance s place
  unfolding fresh_hall
  at place l = run_block blocks_of_hall (fresh_block instance s) (fresh_block_size instance s) place l

  exists : {R : Type 0} (k : Kind R) (agent : ℕ) (r : R) → agent < k.agents s → row_or_zero k instance s agent r ≡ encode k (stamp_for instance s agent) r
  exists k agent r l = rw (lt-ltb agent (k.agents s) l)

  head_at : block_at (fresh_hall instance s) 0 ≡ encode Rows.head (stamp_for instance s 0) (record { count = 0 })
  unfolding fresh_block
  head_at = at 0 (omega arith)

  coordinator_at : (c : ℕ) → c < s.coordinators → block_at (fresh_hall instance s) (coordinators_at + c) ≡ encode Rows.coordinator (stamp_for instance s c) (fresh_coordinator s c)
  unfolding fresh_block
  coordinator_at c l =
      at (coordinators_at + c) (omega (arith, fit.coordinators)) ∙
      rw (le-ltb (coordinators_at + c) coordinators_at (omega arith), lt-ltb (coordinators_at + c) boxes_at (omega (arith, fit.coordinators)))
      (ap (λ (n : ℕ). row_or_zero Rows.coordinator instance s n (fresh_coordinator s n)) {x = (coordinators_at + c) - coordinators_at} {y = c} (omega arith)) ∙
      exists Rows.coordinator c (fresh_coordinator s c) l

  box_at : (b : ℕ) → b < s.boxes → block_at (fresh_hall instance s) (boxes_at + b) ≡ encode Rows.box (stamp_for instance s b) (fresh_box s)
  unfolding fresh_block
  box_at b l =
      at (boxes_at + b) (omega (arith, fit.boxes)) ∙
      rw (le-ltb (boxes_at + b) coordinators_at (omega arith), le-ltb (boxes_at + b) boxes_at (omega arith), lt-ltb (boxes_at + b) racks_at (omega (arith, fit.boxes)))
      (ap (λ (n : ℕ). row_or_zero Rows.box instance s n (fresh_box s)) {x = (boxes_at + b) - boxes_at} {y = b} (omega arith)) ∙ exists Rows.box b (fresh_box s) l

  rack_at : (k : ℕ) → k < s.racks → block_at (fresh_hall instance s) (racks_at + k) ≡ encode Rows.rack (stamp_for instance s k) (fresh_rack s)
  unfolding fresh_block
  rack_at k l =
      at (racks_at + k) (omega (arith, fit.racks)) ∙
      rw (le-ltb (racks_at + k) coordinators_at (omega arith), le-ltb (racks_at + k) boxes_at (omega arith), le-ltb (racks_at + k) racks_at (omega arith), lt-ltb (racks_at + k) readers_at (omega (arith, fit.racks)))
      (ap (λ (n : ℕ). row_or_zero Rows.rack instance s n (fresh_rack s)) {x = (racks_at + k) - racks_at} {y = k} (omega arith)) ∙ exists Rows.rack k (fresh_rack s) l

  reader_at : (i : ℕ) → i < s.readers → block_at (fresh_hall instance s) (readers_at + i) ≡ encode Rows.reader (stamp_for instance s i) fresh_reader
  unfolding fresh_block
  reader_at i l =
      at (readers_at + i) (omega (arith, fit.readers)) ∙
      rw (le-ltb (readers_at + i) coordinators_at (omega arith), le-ltb (readers_at + i) boxes_at (omega arith), le-ltb (readers_at + i) racks_at (omega arith), le-ltb (readers_at + i) readers_at (omega arith), lt-ltb (readers_at + i) messages_at (omega (arith, fit.readers)))
      (ap (λ (n : ℕ). row_or_zero Rows.reader instance s n fresh_reader) {x = (readers_at + i) - readers_at} {y = i} (omega arith)) ∙ exists Rows.reader i fresh_reader l

  rows : (who : Agent) → Exists s who → GoodRow instance s who (block_at (fresh_hall instance s) (place_of who))
  rows (coordinator c) l =
      subst (Good Rows.coordinator (stamp_for instance s c)) (sym (coordinator_at c l))
      (encoded_good Rows.coordinator _ coordinator_kept (fresh_coordinator s c) range small l (coordinator_rules_lem s range c) (coordinator_shaped s c))
  rows (box b) l =
      subst (Good Rows.box (stamp_for instance s b)) (sym (box_at b l))
      (encoded_good Rows.box _ box_kept (fresh_box s) range small l (box_rules_lem s range b) empty_whole)
  rows (rack k) l =
      subst (Good Rows.rack (stamp_for instance s k)) (sym (rack_at k l)) (encoded_good Rows.rack _ rack_kept (fresh_rack s) range small l (rack_rules_lem s range k) tt)
  rows (reader i) l =
      subst (Good Rows.reader (stamp_for instance s i)) (sym (reader_at i l))
      (encoded_good Rows.reader _ reader_kept fresh_reader range small l (reader_rules_lem s range i) reader_shaped)

  pub fresh_good : GoodHall instance s 0 (fresh_hall instance s)
  unfolding fresh_hall
  fresh_good =
      record {
        long = length_run block_size blocks_of_hall (fresh_block instance s) (fresh_block_size instance s);
        setup = range;
        small = small;
        few = omega arith;
        head = head_at;
        rows = rows;
        posted = λ j l. absurd (omega arith);
      }

  pub fresh_view : FreshView s (view_of 0 (fresh_hall instance s))
  fresh_view =
      record {
        coordinators =
            λ c l.
            subst (FreshCoordinator s c)
            (sym
            (ap (body_of Rows.coordinator) (coordinator_at c l) ∙
            encoded_body Rows.coordinator _ coordinator_kept (fresh_coordinator s c) range small l (coordinator_rules_lem s range c) (coordinator_shaped s c)))
            (fresh_coordinator_lem s c);
        boxes =
            λ b l.
            subst (FreshBox s)
            (sym (ap (body_of Rows.box) (box_at b l) ∙ encoded_body Rows.box _ box_kept (fresh_box s) range small l (box_rules_lem s range b) empty_whole))
            (fresh_box_lem s);
        racks =
            λ k l.
            subst (FreshRack s)
            (sym (ap (body_of Rows.rack) (rack_at k l) ∙ encoded_body Rows.rack _ rack_kept (fresh_rack s) range small l (rack_rules_lem s range k) tt))
            (fresh_rack_lem s);
        readers =
            λ i l.
            subst FreshReader
            (sym (ap (body_of Rows.reader) (reader_at i l) ∙ encoded_body Rows.reader _ reader_kept fresh_reader range small l (reader_rules_lem s range i) reader_shaped))
            fresh_reader_lem;
        posted = λ m p. absurd (omega (arith, p.1));
      }
