-- A granted step, whichever it is: one row is written, at most one message put at the end of the post, and the hall is good again.
use Rattle.std.proofs.Common.{ℕ, ◌+◌, ◌≤◌, ◌<◌, arith, length, ◌≡◌, sym, ap, subst, ◌∙◌, true, ◌⊎◌, inl, inr, ◌≢◌, List, le-leb}
use Rattle.std.proofs.Math.Decide.{ℕ_discrete, dec_lt}
use Rattle.rounds.specs.declared.setup.Setup.{Setup}
use Rattle.records.specs.declared.stamp.Stamp.{Stamp}
use Rattle.records.specs.declared.rows.Head.{Head}
use Rattle.records.specs.Rules.{head_rules}
use Rattle.fields.proofs.Fitted.{Any}
use Rattle.blocks.specs.Frame.{block_size}
use Rattle.blocks.specs.Kinds.{encode}
use Rattle.blocks.proofs.Ranges.{SetupFits, setup_fits}
use Rattle.blocks.specs.Rows as Rows
use Rattle.blocks.proofs.RowKinds.{head_kept}
use Rattle.acts.specs.Acts.{body_of}
use Rattle.hall.specs.Halls.{hall_size, blocks_of_hall, messages_at, block_at}
use Rattle.hall.specs.Steps.{most_messages, head_of, count_of, put_block, posted}
use Rattle.safety.proofs.TrueMessages.{Message}
use Rattle.safety.proofs.Moved.{Agent, coordinator, box, rack, reader, agent-discrete}
use Rattle.safety.proofs.Views.{Changes}
use Rattle.hall.proofs.Cells.{put_length, put_same, put_other}
use Rattle.promise.proofs.GoodBlocks.{stamp_for, Good, OfHall, encoded_good, encoded_body}
use Rattle.promise.proofs.GoodHalls.{place_of, Exists, GoodRow, GoodHall, message_in, view_of}

-- agents have places of their own, between the head and the messages
pub place_in : (s : Setup) → SetupFits s → (who : Agent) → Exists s who → (0 < place_of who) × (place_of who < messages_at)
place_in s f (coordinator c) l = (omega arith, omega (arith, f.coordinators))
place_in s f (box b) l = (omega arith, omega (arith, f.boxes))
place_in s f (rack k) l = (omega arith, omega (arith, f.racks))
place_in s f (reader i) l = (omega arith, omega (arith, f.readers))

place_apart : (s : Setup) → SetupFits s → (a b : Agent) → Exists s a → Exists s b → a ≢ b → place_of b ≢ place_of a
place_apart s f (coordinator c) (coordinator d) l m n e = n (ap coordinator (omega (arith, e)))
place_apart s f (coordinator c) (box d) l m n e = omega (arith, e, f.coordinators)
place_apart s f (coordinator c) (rack d) l m n e = omega (arith, e, f.coordinators)
place_apart s f (coordinator c) (reader d) l m n e = omega (arith, e, f.coordinators)
place_apart s f (box c) (coordinator d) l m n e = omega (arith, e, f.coordinators)
place_apart s f (box c) (box d) l m n e = n (ap box (omega (arith, e)))
place_apart s f (box c) (rack d) l m n e = omega (arith, e, f.boxes)
place_apart s f (box c) (reader d) l m n e = omega (arith, e, f.boxes)
place_apart s f (rack c) (coordinator d) l m n e = omega (arith, e, f.coordinators)
place_apart s f (rack c) (box d) l m n e = omega (arith, e, f.boxes)
place_apart s f (rack c) (rack d) l m n e = n (ap rack (omega (arith, e)))
place_apart s f (rack c) (reader d) l m n e = omega (arith, e, f.racks)
place_apart s f (reader c) (coordinator d) l m n e = omega (arith, e, f.coordinators)
place_apart s f (reader c) (box d) l m n e = omega (arith, e, f.boxes)
place_apart s f (reader c) (rack d) l m n e = omega (arith, e, f.racks)
place_apart s f (reader c) (reader d) l m n e = n (ap reader (omega (arith, e)))

-- what is written: a row, and the messages from `count` up to `count'`, which are at most one
pub record Wrote (instance : ℕ) (s : Setup) (place : ℕ) (row sent : List ℕ) (count count' : ℕ) (hall hall' : List ℕ) : Type 0 where
  pub long : length hall' ≡ hall_size
  pub few : count' ≤ most_messages
  pub head : block_at hall' 0 ≡ encode Rows.head (stamp_for instance s 0) (record { count = count' })
  pub own : block_at hall' place ≡ row
  pub others : (q : ℕ) → 0 < q → q < messages_at → q ≢ place → block_at hall' q ≡ block_at hall q
  pub old : (j : ℕ) → j < count → block_at hall' (messages_at + j) ≡ block_at hall (messages_at + j)
  pub new : (j : ℕ) → count ≤ j → j < count' → block_at hall' (messages_at + j) ≡ sent

module _ {instance : ℕ} {s : Setup} {count : ℕ} {hall : List ℕ} (g : GoodHall instance s count hall) where
  -- the head reads back
  rule : head_rules s 0 (record { count = count }) ≡ true
  unfolding head_rules
  rule = le-leb _ _ g.few

  pub head_good : Good Rows.head (stamp_for instance s 0) (block_at hall 0)
  head_good =
      subst (Good Rows.head (stamp_for instance s 0)) (sym g.head)
      (encoded_good Rows.head Any head_kept (record { count = count }) g.setup g.small (omega arith) rule tt)

  pub head_is : head_of hall ≡ stamp_for instance s 0
  head_is = head_good.stamped

  pub count_is : count_of hall ≡ count
  count_is =
      ap (λ (b : List ℕ). (body_of Rows.head b).count) g.head ∙
      ap (λ (h : Head). h.count) (encoded_body Rows.head Any head_kept (record { count = count }) g.setup g.small (omega arith) rule tt)

  module _ (place : ℕ) (row : List ℕ) (some : 0 < place) (low : place < messages_at) (size : length row ≡ block_size) where
    pub wrote_silent : (sent : List ℕ) → Wrote instance s place row sent count count hall (put_block place row hall)
    wrote_silent sent =
        record {
          long = put_length hall row place g.long (omega arith) size;
          few = g.few;
          head = put_other hall row place g.long (omega arith) size 0 (omega arith) (λ e. omega (arith, e)) ∙ g.head;
          own = put_same hall row place g.long (omega arith) size;
          others = λ q l m n. put_other hall row place g.long (omega arith) size q (omega arith) n;
          old = λ j l. put_other hall row place g.long (omega arith) size (messages_at + j) (omega (arith, g.few)) (λ e. omega (arith, e));
          new = λ j l m. absurd (omega arith);
        }

    module _ (sent : List ℕ) (room : count < most_messages) (sized : length sent ≡ block_size) where
      abbrev first : List ℕ
      first = put_block (messages_at + count) sent hall

      abbrev second : List ℕ
      second = put_block 0 (encode Rows.head (stamp_for instance s 0) (record { count = count + 1 })) first

      posted_is : posted sent hall ≡ second
      unfolding posted
      posted_is =
          ap (λ (n : ℕ). put_block 0 (encode Rows.head (head_of hall) (record { count = n + 1 })) (put_block (messages_at + n) sent hall)) count_is ∙
          ap (λ (x : Stamp). put_block 0 (encode Rows.head x (record { count = count + 1 })) (put_block (messages_at + count) sent hall)) head_is

      head_size : length (encode Rows.head (stamp_for instance s 0) (record { count = count + 1 })) ≡ block_size
      head_size = head_kept.long _ _

      first_long : length first ≡ hall_size
      first_long = put_length hall sent (messages_at + count) g.long (omega arith) sized

      second_long : length second ≡ hall_size
      second_long = put_length first _ 0 first_long (omega arith) head_size

      kept : (q : ℕ) → 0 < q → q < blocks_of_hall → q ≢ messages_at + count → q ≢ place → block_at (put_block place row second) q ≡ block_at hall q
      kept q l m n o =
          put_other second row place second_long (omega arith) size q m o ∙ put_other first _ 0 first_long (omega arith) head_size q m (λ e. omega (arith, e)) ∙
          put_other hall sent (messages_at + count) g.long (omega arith) sized q m n

      wrote_second : Wrote instance s place row sent count (count + 1) hall (put_block place row second)
      wrote_second =
          record {
            long = put_length second row place second_long (omega arith) size;
            few = omega arith;
            head =
                put_other second row place second_long (omega arith) size 0 (omega arith) (λ e. omega (arith, e)) ∙
                put_same first _ 0 first_long (omega arith) head_size;
            own = put_same second row place second_long (omega arith) size;
            others = λ q l m n. kept q l (omega arith) (λ e. omega (arith, e)) n;
            old = λ j l. kept (messages_at + j) (omega arith) (omega (arith, g.few)) (λ e. omega (arith, e)) (λ e. omega (arith, e));
            new =
                λ j l m.
                ap (λ (n : ℕ). block_at (put_block place row second) (messages_at + n)) {x = j} {y = count} (omega arith) ∙
                put_other second row place second_long (omega arith) size (messages_at + count) (omega arith) (λ e. omega (arith, e)) ∙
                put_other first _ 0 first_long (omega arith) head_size (messages_at + count) (omega arith) (λ e. omega (arith, e)) ∙
                put_same hall sent (messages_at + count) g.long (omega arith) sized;
          }

      pub wrote_sending : Wrote instance s place row sent count (count + 1) hall (put_block place row (posted sent hall))
      wrote_sending = subst (λ (h : List ℕ). Wrote instance s place row sent count (count + 1) hall (put_block place row h)) (sym posted_is) wrote_second

  -- the hall after it
  module _ {count' : ℕ} {hall' : List ℕ} (who : Agent) (here : Exists s who) {row sent : List ℕ} (w : Wrote instance s (place_of who) row sent count count' hall hall') where
    fit : SetupFits s
    fit = setup_fits s g.setup

    pub other_rows : (a : Agent) → Exists s a → who ≢ a → block_at hall' (place_of a) ≡ block_at hall (place_of a)
    other_rows a e n = w.others (place_of a) (place_in s fit a e).0 (place_in s fit a e).1 (place_apart s fit who a here e n)

    earlier : (j : ℕ) → j < count' → (j < count) ⊎ (count ≤ j)
    earlier j l = go (dec_lt j count)
      where
        go : Dec (j < count) → (j < count) ⊎ (count ≤ j)
        go (yes m) = inl m
        go (no m) = inr (omega (arith, m))

    pub good_after : GoodRow instance s who row → (count < count' → OfHall instance s sent) → GoodHall instance s count' hall'
    good_after mine message =
        record {
          long = w.long;
          setup = g.setup;
          small = g.small;
          few = w.few;
          head = w.head;
          rows = rows;
          posted = messages;
        }
      where
        rows : (a : Agent) → Exists s a → GoodRow instance s a (block_at hall' (place_of a))
        rows a e = go (agent-discrete ℕ_discrete who a)
          where
            go : Dec (who ≡ a) → GoodRow instance s a (block_at hall' (place_of a))
            go (yes p) = subst (λ (x : Agent). GoodRow instance s x (block_at hall' (place_of x))) p (subst (GoodRow instance s who) (sym w.own) mine)
            go (no n) = subst (GoodRow instance s a) (sym (other_rows a e n)) (g.rows a e)

        messages : (j : ℕ) → j < count' → OfHall instance s (block_at hall' (messages_at + j))
        messages j l = go (earlier j l)
          where
            go : (j < count) ⊎ (count ≤ j) → OfHall instance s (block_at hall' (messages_at + j))
            go (inl m) = subst (OfHall instance s) (sym (w.old j m)) (g.posted j m)
            go (inr m) = subst (OfHall instance s) (sym (w.new j m l)) (message (omega arith))

    -- and what it changed: no other agent's row, and of messages only what was sent came to the post
    pub hall_changes : (New : Message → Type 0) → (count < count' → (m : Message) → message_in sent ≡ m → New m) →
        Changes s who New (view_of count hall) (view_of count' hall')
    hall_changes New came =
        record {
          coordinators = λ c l n. ap (body_of Rows.coordinator) (other_rows (coordinator c) l n);
          boxes = λ b l n. ap (body_of Rows.box) (other_rows (box b) l n);
          racks = λ k l n. ap (body_of Rows.rack) (other_rows (rack k) l n);
          readers = λ i l n. ap (body_of Rows.reader) (other_rows (reader i) l n);
          posted = λ m p. go m p.0 p.1 p.2 (earlier p.0 p.1);
        }
      where
        go : (m : Message) (j : ℕ) → j < count' → message_in (block_at hall' (messages_at + j)) ≡ m → (j < count) ⊎ (count ≤ j) →
            (view_of count hall).posted m ⊎ New m
        go m j l e (inl b) = inl (j, b, ap message_in (sym (w.old j b)) ∙ e)
        go m j l e (inr b) = inr (came (omega arith) m (ap message_in (sym (w.new j b l)) ∙ e))
