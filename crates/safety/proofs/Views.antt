-- A hall as rows and sent messages, and what is kept true of it: whatever holds the rows, blocks or other, is seen through this.
use Rattle.std.proofs.Common.{ℕ, ◌<◌, ◌≡◌, subst, ◌⊎◌, ◌≢◌, ⊎_elim, List}
use Rattle.std.proofs.Math.Decide.{ℕ_discrete}
use Rattle.rounds.specs.declared.setup.Setup.{Setup}
use Rattle.records.specs.declared.rows.CoordinatorRow.{CoordinatorRow}
use Rattle.records.specs.declared.rows.BoxRow.{BoxRow}
use Rattle.records.specs.declared.rows.RackRow.{RackRow}
use Rattle.records.specs.declared.rows.ReaderRow.{ReaderRow}
use Rattle.history.specs.History.{Offer, History}
use Rattle.safety.proofs.TrueMessages.{Message, Says, says_stays}
use Rattle.safety.proofs.TrueRows.{CoordinatorTrue, BoxTrue, RackTrue, ReaderTrue, coordinator_stays, box_stays, rack_stays, reader_stays}
use Rattle.safety.proofs.Moved.{Agent, coordinator, box, rack, reader, agent-discrete, SoundHall, Moved}

-- the rows by number, and which messages can still be handed over
pub record View : Type 1 where
  pub coordinators : ℕ → CoordinatorRow
  pub boxes : ℕ → BoxRow
  pub racks : ℕ → RackRow
  pub readers : ℕ → ReaderRow
  pub posted : Message → Type 0

-- the history is sound, and all rows of the hall's agents and all messages are true of it
pub record Kept (s : Setup) (H : History) (hall : View) : Type 0 where
  pub sound : SoundHall s H
  pub coordinators : (c : ℕ) → c < s.coordinators → CoordinatorTrue H c (hall.coordinators c)
  pub boxes : (b : ℕ) → b < s.boxes → BoxTrue H b (hall.boxes b)
  pub racks : (k : ℕ) → k < s.racks → RackTrue H k (hall.racks k)
  pub readers : (i : ℕ) → i < s.readers → ReaderTrue s H (hall.readers i)
  pub posted : (m : Message) → hall.posted m → Says H m

-- What a step of one agent changes in a hall: no other agent's row, and only new messages come to the post. (Messages may get lost.)
pub record Changes (s : Setup) (who : Agent) (New : Message → Type 0) (hall hall' : View) : Type 0 where
  pub coordinators : (c : ℕ) → c < s.coordinators → who ≢ coordinator c → hall'.coordinators c ≡ hall.coordinators c
  pub boxes : (b : ℕ) → b < s.boxes → who ≢ box b → hall'.boxes b ≡ hall.boxes b
  pub racks : (k : ℕ) → k < s.racks → who ≢ rack k → hall'.racks k ≡ hall.racks k
  pub readers : (i : ℕ) → i < s.readers → who ≢ reader i → hall'.readers i ≡ hall.readers i
  pub posted : (m : Message) → hall'.posted m → hall.posted m ⊎ New m

-- the agent's own row
abbrev pub OwnTrue : Setup → History → View → Agent → Type 0
OwnTrue s H hall (coordinator c) = CoordinatorTrue H c (hall.coordinators c)
OwnTrue s H hall (box b) = BoxTrue H b (hall.boxes b)
OwnTrue s H hall (rack k) = RackTrue H k (hall.racks k)
OwnTrue s H hall (reader i) = ReaderTrue s H (hall.readers i)

-- a step of one agent keeps the whole hall true
pub kept_after : (s : Setup) {H H' : History} {hall hall' : View} {who : Agent} {New : Message → Type 0} {offers : List Offer} →
    ((c : ℕ) → c < s.coordinators → c < 4) → Kept s H hall → Moved s who offers H H' → Changes s who New hall hall' → OwnTrue s H' hall' who →
    ((m : Message) → New m → Says H' m) → Kept s H' hall'
kept_after s {H} {H'} {hall} {hall'} {who} small kept moved changes own new =
    record {
      sound = moved.sound;
      coordinators =
          λ c l.
          or_own (coordinator c)
          (λ n. rw (changes.coordinators c l n) (coordinator_stays moved.grows c _ (moved.opened c (small c l) n) (kept.coordinators c l)));
      boxes =
          λ b l. or_own (box b) (λ n. rw (changes.boxes b l n) (box_stays b _ (moved.ballots b n) (moved.votes b n) (kept.boxes b l)));
      racks = λ k l. or_own (rack k) (λ n. rw (changes.racks k l n) (rack_stays moved.grows k _ (moved.said k n) (kept.racks k l)));
      readers = λ i l. or_own (reader i) (λ n. rw (changes.readers i l n) (reader_stays s moved.grows _ (kept.readers i l)));
      posted = λ m p. ⊎_elim (λ q. says_stays moved.grows m (kept.posted m q)) (new m) (changes.posted m p);
    }
  where
    or_own : (other : Agent) → (who ≢ other → OwnTrue s H' hall' other) → OwnTrue s H' hall' other
    or_own other f = go (agent-discrete ℕ_discrete who other)
      where
        go : Dec (who ≡ other) → OwnTrue s H' hall' other
        go (yes e) = subst (OwnTrue s H' hall') e own
        go (no n) = f n
