-- The blocks of a fresh hall have their length, and the loop of setup writes one after the other.
use Rattle.std.proofs.Common.{ℕ, ◌+◌, ◌*◌, ◌-◌, ◌≤◌, ◌<◌, le_antisymm, add-one, arith, ltb, length, drop, length-append, length-drop, drop_of_length-le, take_at, drop-drop, ◌≡◌, sym, ap, ◌∙◌, Bool, true, false, cond, List, ◌++◌, append_assoc, append-nil}
use Rattle.std.proofs.Math.ListN.{length-replicate}
use Rattle.std.proofs.Math.Seq.{drop-append-add}
use borrow.Rule.Slice.PartMut.{put_mid, Post-is}
use Rattle.rounds.specs.declared.setup.Setup.{Setup}
use Rattle.words.specs.Bytes.{zeros}
use Rattle.fields.specs.Codecs.{run}
use Rattle.fields.proofs.Times.{length_run}
use Rattle.blocks.specs.Kinds.{Kind, encode}
use Rattle.blocks.specs.Proper.{Proper}
use Rattle.blocks.proofs.Judged.{encode-length}
use Rattle.blocks.specs.RowPropers.{HeadFits, CoordinatorFits, BoxFits, RackFits, ReaderFits, head_proper, coordinator_proper, box_proper, rack_proper, reader_proper}
use Rattle.blocks.specs.Frame.{block_size}
use Rattle.blocks.specs.Rows.{head, coordinator, box, rack, reader}
use Rattle.hall.specs.Halls.{blocks_of_hall, hall_size, row_or_zero, fresh_block, fresh_hall}

-- every block of a fresh hall has its length
either_long : (n : ℕ) (b : Bool) (x y : List ℕ) → length x ≡ n → length y ≡ n → length (cond b x y) ≡ n
either_long n true x y p q = p
either_long n false x y p q = q

row_long : {R : Type 0} (k : Kind R) (P : R → Type 0) → Proper k P → (instance : ℕ) (s : Setup) (agent : ℕ) (r : R) → length (row_or_zero k instance s agent r) ≡ block_size
row_long k P proper instance s agent r =
    either_long block_size (ltb agent (k.agents s)) (encode k _ r) (zeros block_size) (encode-length k P proper _ r) (length-replicate {A = ℕ} block_size 0)

pub fresh_long : (instance : ℕ) (s : Setup) (place : ℕ) → length (fresh_block instance s place) ≡ block_size
unfolding fresh_block
fresh_long instance s place =
    either_long block_size (ltb place 1) _ _ (row_long head HeadFits head_proper instance s place _)
    (either_long block_size (ltb place 5) _ _ (row_long coordinator CoordinatorFits coordinator_proper instance s (place - 1) _)
    (either_long block_size (ltb place 10) _ _ (row_long box BoxFits box_proper instance s (place - 5) _)
    (either_long block_size (ltb place 18) _ _ (row_long rack RackFits rack_proper instance s (place - 10) _)
    (either_long block_size (ltb place 22) _ _ (row_long reader ReaderFits reader_proper instance s (place - 18) _) (length-replicate {A = ℕ} block_size 0)))))

-- one block more: what the loop of setup has after a turn
pub fill_more : (f : ℕ → List ℕ) (n : ℕ) (old hall new : List ℕ) → ((k : ℕ) → length (f k) ≡ block_size) → hall ≡ run n f ++ drop (block_size * n) old → new ≡ f n →
    put_mid (n * block_size) (n * block_size + block_size - n * block_size) hall new ≡ run (n + 1) f ++ drop (block_size * (n + 1)) old
unfolding run
fill_more f n old hall new long h e =
    rw (Post-is (n * block_size) (n * block_size + block_size) hall (omega arith), h, e, take_at (run n f) (drop (block_size * n) old) (n * block_size) before)
    (ap (λ (l : List ℕ). run n f ++ (f n ++ l)) rest ∙ sym (append_assoc (run n f) (f n) (drop (block_size * (n + 1)) old)) ∙ ap (λ (m : ℕ). run m f ++ drop (block_size * (n + 1)) old) (sym (add-one n)))
  where
    before : length (run n f) ≡ n * block_size
    before = length_run block_size n f long ∙ omega arith

    next : block_size * n + block_size ≡ block_size * (n + 1)
    next = omega arith

    rest : drop (n * block_size + block_size) (run n f ++ drop (block_size * n) old) ≡ drop (block_size * (n + 1)) old
    rest =
        ap (λ (m : ℕ). drop m (run n f ++ drop (block_size * n) old)) (ap (λ (m : ℕ). m + block_size) (sym before)) ∙
        drop-append-add (run n f) (drop (block_size * n) old) block_size ∙ drop-drop block_size (block_size * n) old ∙ ap (λ (m : ℕ). drop m old) next

pub fill_long : (f : ℕ → List ℕ) (n : ℕ) (old hall : List ℕ) → ((k : ℕ) → length (f k) ≡ block_size) → length old ≡ hall_size → n ≤ blocks_of_hall → hall ≡ run n f ++ drop (block_size * n) old →
    length hall ≡ hall_size
fill_long f n old hall long l b h = ap length h ∙ simp (length-append, length_run block_size n f long, length-drop) (omega arith)

pub fill_ends : (instance : ℕ) (s : Setup) (n : ℕ) (old hall : List ℕ) → length old ≡ hall_size → n ≤ blocks_of_hall → blocks_of_hall ≤ n →
    hall ≡ run n (fresh_block instance s) ++ drop (block_size * n) old → hall ≡ fresh_hall instance s
unfolding fresh_hall
fill_ends instance s n old hall l a b h =
    h ∙ ap (λ (t : List ℕ). run n (fresh_block instance s) ++ t) (drop_of_length-le old {i = block_size * n} (omega (arith, l))) ∙
    append-nil (run n (fresh_block instance s)) ∙ ap (λ (m : ℕ). run m (fresh_block instance s)) (le_antisymm a b)

-- the invariant of the loop of setup after a turn
pub turned : (instance n : ℕ) (s : Setup) (old hall new : List ℕ) → n < blocks_of_hall → n ≤ blocks_of_hall → length old ≡ hall_size →
    hall ≡ run n (fresh_block instance s) ++ drop (block_size * n) old → new ≡ fresh_block instance s n →
    (n + 1 ≤ blocks_of_hall) × ((length (put_mid (n * block_size) (n * block_size + block_size - n * block_size) hall new) ≡ hall_size) ×
    (put_mid (n * block_size) (n * block_size + block_size - n * block_size) hall new ≡ run (n + 1) (fresh_block instance s) ++ drop (block_size * (n + 1)) old))
turned instance n s old hall new b c l h e =
    let more = fill_more (fresh_block instance s) n old hall new (fresh_long instance s) h e in
    (omega arith, (fill_long (fresh_block instance s) (n + 1) old _ (fresh_long instance s) l (omega arith) more, more))
