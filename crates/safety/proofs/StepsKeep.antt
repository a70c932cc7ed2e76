-- Each granted step of document 01 keeps a hall true, of a history that grew.
use Rattle.std.proofs.Common.{ℕ, ◌<◌, ◌≡◌, sym, subst, true, List, [], ◌∷◌, ◌++◌}
use Rattle.below.specs.Refusals.{granted}
use Rattle.pages.specs.declared.line.Reading.{Reading}
use Rattle.rounds.specs.declared.setup.Setup.{Setup}
use Rattle.rounds.specs.declared.round.Round.{Round}
use Rattle.rounds.specs.Setups.{setup_in_range}
use Rattle.records.specs.declared.messages.Propose.{Propose}
use Rattle.records.specs.declared.messages.OneA.{OneA}
use Rattle.records.specs.declared.messages.OneB.{OneB}
use Rattle.records.specs.declared.messages.TwoS.{TwoS}
use Rattle.records.specs.declared.messages.TwoA.{TwoA}
use Rattle.records.specs.declared.messages.TwoB.{TwoB}
use Rattle.records.specs.Rules.{one_a_rules, two_s_rules, two_a_rules, coordinator_rules, box_rules, rack_rules}
use Rattle.records.specs.declared.rows.ReaderRow.{ReaderRow}
use Rattle.records.specs.Answers.{Noted}
use Rattle.racks.specs.Steps.{offer_of, prepare_of, fast_of, blank_of}
use Rattle.boxes.specs.Steps.{join_of, take_page_of, take_reading_of}
use Rattle.coordinators.specs.Steps.{start_of, hear_of, open_of}
use Rattle.readers.specs.Notes.{note_vote_of, note_blank_of}
use Rattle.readers.specs.Learning.{Learns}
use Rattle.history.specs.History.{Offer, History, Grows}
use Rattle.safety.proofs.TrueMessages.{Message, propose, one_a, one_b, two_s, two_a, two_b, Says}
use Rattle.safety.proofs.TrueRows.{CoordinatorTrue, BoxTrue, RackTrue, ReaderTrue}
use Rattle.safety.proofs.Moved.{Agent, coordinator, box, rack, reader, Stepped}
use Rattle.safety.proofs.InRange.{small_coordinator}
use Rattle.safety.proofs.RackSteps.{offer_moves, prepare_moves, fast_moves, blank_moves}
use Rattle.safety.proofs.BoxSteps.{join_moves, take_page_moves, take_reading_moves}
use Rattle.safety.proofs.CoordinatorSteps.{start_moves, hear_moves, open_moves}
use Rattle.safety.proofs.ReaderSteps.{note_vote_moves, note_blank_moves, learn_moves}
use Rattle.safety.proofs.Views.{View, Kept, Changes, OwnTrue, kept_after}

-- what comes to the post: one message, or none
abbrev pub Only : Message → Message → Type 0
Only sent m = sent ≡ m

abbrev pub Nothing : Message → Type 0
Nothing m = ⊥

-- The granted steps: whose row is read, which posted message is handed over, what the row is after it, what is sent. The index is
-- what was offered by the step.
pub data Grants (s : Setup) (hall hall' : View) : List Offer → Type 0 where
  offer : (k : ℕ) (v : Reading) → k < s.racks → hall'.racks k ≡ hall.racks k → Changes s (rack k) (Only (propose k (offer_of v))) hall hall' →
      Grants s hall hall' (record { rack = k; reading = v } ∷ [])
  start : (c n cf : ℕ) → c < s.coordinators → (start_of c (hall.coordinators c) n cf).refusal ≡ granted →
      hall'.coordinators c ≡ (start_of c (hall.coordinators c) n cf).row →
      Changes s (coordinator c) (Only (one_a c (start_of c (hall.coordinators c) n cf).sent)) hall hall' → Grants s hall hall' []
  join : (b c : ℕ) (m : OneA) → b < s.boxes → hall.posted (one_a c m) → (join_of (hall.boxes b) m).refusal ≡ granted →
      hall'.boxes b ≡ (join_of (hall.boxes b) m).row → Changes s (box b) (Only (one_b b (join_of (hall.boxes b) m).sent)) hall hall' → Grants s hall hall' []
  hear : (c b : ℕ) (m : OneB) → c < s.coordinators → hall.posted (one_b b m) → (hear_of (hall.coordinators c) b m).refusal ≡ granted →
      hall'.coordinators c ≡ (hear_of (hall.coordinators c) b m).row → Changes s (coordinator c) Nothing hall hall' → Grants s hall hall' []
  opening : (c : ℕ) → c < s.coordinators → (open_of s c (hall.coordinators c)).refusal ≡ granted →
      hall'.coordinators c ≡ (open_of s c (hall.coordinators c)).row →
      Changes s (coordinator c) (Only (two_s c (open_of s c (hall.coordinators c)).sent)) hall hall' → Grants s hall hall' []
  prepare : (k c : ℕ) (m : TwoS) → k < s.racks → hall.posted (two_s c m) → (prepare_of k (hall.racks k) m).refusal ≡ granted →
      hall'.racks k ≡ (prepare_of k (hall.racks k) m).row → Changes s (rack k) Nothing hall hall' → Grants s hall hall' []
  fast : (k j : ℕ) (m : Propose) → k < s.racks → hall.posted (propose j m) → (fast_of k (hall.racks k) m).refusal ≡ granted →
      hall'.racks k ≡ (fast_of k (hall.racks k) m).row → Changes s (rack k) (Only (two_a k (fast_of k (hall.racks k) m).sent)) hall hall' → Grants s hall hall' []
  blank : (k j : ℕ) (m : TwoA) → k < s.racks → hall.posted (two_a j m) → (blank_of k (hall.racks k) m).refusal ≡ granted →
      hall'.racks k ≡ (blank_of k (hall.racks k) m).row → Changes s (rack k) (Only (two_a k (blank_of k (hall.racks k) m).sent)) hall hall' → Grants s hall hall' []
  take_page : (b c : ℕ) (m : TwoS) → b < s.boxes → hall.posted (two_s c m) → (take_page_of (hall.boxes b) m).refusal ≡ granted →
      hall'.boxes b ≡ (take_page_of (hall.boxes b) m).row → Changes s (box b) (Only (two_b b (take_page_of (hall.boxes b) m).sent)) hall hall' → Grants s hall hall' []
  take_reading : (b k : ℕ) (m : TwoA) → b < s.boxes → hall.posted (two_a k m) → (take_reading_of s (hall.boxes b) k m).refusal ≡ granted →
      hall'.boxes b ≡ (take_reading_of s (hall.boxes b) k m).row → Changes s (box b) (Only (two_b b (take_reading_of s (hall.boxes b) k m).sent)) hall hall' →
      Grants s hall hall' []
  note_vote : (i b : ℕ) (m : TwoB) → i < s.readers → hall.posted (two_b b m) → (note_vote_of (hall.readers i) b m).refusal ≡ granted →
      hall'.readers i ≡ (note_vote_of (hall.readers i) b m).row → Changes s (reader i) Nothing hall hall' → Grants s hall hall' []
  note_blank : (i k : ℕ) (m : TwoA) → i < s.readers → hall.posted (two_a k m) → (note_blank_of (hall.readers i) k m).refusal ≡ granted →
      hall'.readers i ≡ (note_blank_of (hall.readers i) k m).row → Changes s (reader i) Nothing hall hall' → Grants s hall hall' []
  learn : (i : ℕ) (round : Round) (a : Noted ReaderRow) → i < s.readers → Learns s (hall.readers i) round a → a.refusal ≡ granted → hall'.readers i ≡ a.row →
      Changes s (reader i) Nothing hall hall' → Grants s hall hall' []

-- the rules of messages that the moves rest on
abbrev pub Lawful : Setup → Message → Type 0
Lawful s (propose k m) = Unit {0}
Lawful s (one_a c m) = one_a_rules s c m ≡ true
Lawful s (one_b b m) = Unit {0}
Lawful s (two_s c m) = two_s_rules s c m ≡ true
Lawful s (two_a k m) = (k < s.racks) × (two_a_rules s k m ≡ true)
Lawful s (two_b b m) = Unit {0}

-- rows and messages that keep their rules, as good blocks do
pub record Ruled (s : Setup) (hall : View) : Type 0 where
  pub setup : setup_in_range s ≡ true
  pub coordinators : (c : ℕ) → c < s.coordinators → coordinator_rules s c (hall.coordinators c) ≡ true
  pub boxes : (b : ℕ) → b < s.boxes → box_rules s b (hall.boxes b) ≡ true
  pub racks : (k : ℕ) → k < s.racks → rack_rules s k (hall.racks k) ≡ true
  pub posted : (m : Message) → hall.posted m → Lawful s m

-- a later history, of which the hall after the step is true
pub record Next (s : Setup) (H : History) (hall' : View) (offered : List Offer) : Type 0 where
  pub after : History
  pub grows : Grows H after
  pub kept : Kept s after hall'
  pub offers : after.offers ≡ offered ++ H.offers

only : {sent : Message} (H' : History) → Says H' sent → (m : Message) → Only sent m → Says H' m
only H' t m e = subst (Says H') e t

nothing : (H' : History) → Unit {0} → (m : Message) → Nothing m → Says H' m
nothing H' t m e = absurd e

module _ (s : Setup) {H : History} {hall hall' : View} (rules : Ruled s hall) (kept : Kept s H hall) where
  next : {who : Agent} {Row Sent : History → Type 0} {New : Message → Type 0} (offered : List Offer) →
      Stepped s who (offered ++ H.offers) H Row Sent → Changes s who New hall hall' → ((H' : History) → Row H' → OwnTrue s H' hall' who) →
      ((H' : History) → Sent H' → (m : Message) → New m → Says H' m) → Next s H hall' offered
  next offered t changes own new =
      record {
        after = t.after;
        grows = t.moved.grows;
        kept =
            kept_after s (small_coordinator s rules.setup) kept t.moved changes (own t.after t.row) (new t.after t.sent);
        offers = t.moved.offers_are;
      }

  pub step_keeps : {offered : List Offer} → Grants s hall hall' offered → Next s H hall' offered
  step_keeps (offer k v l e d) =
      next (record { rack = k; reading = v } ∷ []) (offer_moves s kept.sound k _ (kept.racks k l) v) d (λ H'. subst (RackTrue H' k) (sym e)) only
  step_keeps (start c n cf l h e d) =
      next [] (start_moves s kept.sound rules.setup c _ (kept.coordinators c l) (rules.coordinators c l) n cf l h) d
      (λ H'. subst (CoordinatorTrue H' c) (sym e)) only
  step_keeps (join b c m l p h e d) =
      next [] (join_moves s kept.sound rules.setup b _ (kept.boxes b l) (rules.boxes b l) c m (rules.posted _ p) h) d
      (λ H'. subst (BoxTrue H' b) (sym e)) only
  step_keeps (hear c b m l p h e d) =
      next [] (hear_moves s kept.sound rules.setup c _ (kept.coordinators c l) (rules.coordinators c l) b m (kept.posted _ p) h) d
      (λ H'. subst (CoordinatorTrue H' c) (sym e)) nothing
  step_keeps (opening c l h e d) =
      next [] (open_moves s kept.sound rules.setup c _ (kept.coordinators c l) (rules.coordinators c l) h) d
      (λ H'. subst (CoordinatorTrue H' c) (sym e)) only
  step_keeps (prepare k c m l p h e d) =
      next []
      (prepare_moves s kept.sound k _ (kept.racks k l) c m rules.setup l (rules.racks k l) (rules.posted _ p) (kept.posted _ p) h) d
      (λ H'. subst (RackTrue H' k) (sym e)) nothing
  step_keeps (fast k j m l p h e d) =
      next [] (fast_moves s kept.sound k _ (kept.racks k l) j m (kept.posted _ p) h) d (λ H'. subst (RackTrue H' k) (sym e)) only
  step_keeps (blank k j m l p h e d) =
      next [] (blank_moves s kept.sound k _ (kept.racks k l) m h) d (λ H'. subst (RackTrue H' k) (sym e)) only
  step_keeps (take_page b c m l p h e d) =
      next [] (take_page_moves s kept.sound rules.setup b _ (kept.boxes b l) (rules.boxes b l) c m (rules.posted _ p) (kept.posted _ p) h) d
      (λ H'. subst (BoxTrue H' b) (sym e)) only
  step_keeps (take_reading b k m l p h e d) =
      next []
      (take_reading_moves s kept.sound rules.setup b _ (kept.boxes b l) (rules.boxes b l) k m (rules.posted _ p).0 (rules.posted _ p).1
      (kept.posted _ p) h)
      d (λ H'. subst (BoxTrue H' b) (sym e)) only
  step_keeps (note_vote i b m l p h e d) =
      next [] (note_vote_moves s kept.sound i _ (kept.readers i l) b m (kept.posted _ p) h) d (λ H'. subst (ReaderTrue s H') (sym e)) nothing
  step_keeps (note_blank i k m l p h e d) =
      next [] (note_blank_moves s kept.sound i _ (kept.readers i l) k m (kept.posted _ p) h) d (λ H'. subst (ReaderTrue s H') (sym e)) nothing
  step_keeps (learn i round a l y h e d) =
      next [] (learn_moves s kept.sound i _ (kept.readers i l) round a rules.setup y) d
      (λ H'. subst (ReaderTrue s H') (sym e)) nothing
