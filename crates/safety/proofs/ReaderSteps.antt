-- The steps of a reader leave the history as it was, and what the reader keeps is true of it: 11 note vote, 12 note blank, 13 learn.
use Rattle.std.proofs.Common.{ℕ, ◌≤◌, ◌<◌, arith, le_trans, ltb, ◌≡◌, sym, ap, subst, ◌∙◌, true, ◌&&◌, ⊎_elim}
use Rattle.std.proofs.Math.Decide.{dec_lt}
use Rattle.below.specs.Refusals.{granted}
use Rattle.below.proofs.Tests.{and_left, and_right}
use Rattle.pages.specs.declared.line.Mark.{Mark}
use Rattle.pages.specs.declared.line.Mark.TheVariants.{Nil}
use Rattle.pages.specs.declared.page.Page.{Page}
use Rattle.pages.specs.Lines.{is_absent}
use Rattle.pages.specs.Racks.{most_racks, has}
use Rattle.pages.specs.Pages.{at}
use Rattle.pages.proofs.Filled.{at_past}
use Rattle.rounds.specs.declared.setup.Setup.{Setup}
use Rattle.rounds.specs.declared.round.Round.{Round}
use Rattle.rounds.specs.Setups.{setup_in_range, most_boxes}
use Rattle.rounds.proofs.Ordered.{key, same_round_lem}
use Rattle.records.specs.declared.messages.TwoA.{TwoA}
use Rattle.records.specs.declared.messages.TwoB.{TwoB}
use Rattle.records.specs.declared.rows.ReaderRow.{ReaderRow}
use Rattle.records.specs.Slots.{held_at, blank_at}
use Rattle.records.specs.Answers.{Noted}
use Rattle.readers.specs.Notes.{note_vote_row, note_vote_of, note_blank_row, note_blank_of}
use Rattle.readers.specs.Learning.{held_in, blank_in, extended, JoinsChosen, Learns, too_few, not_compatible, all_nil, learnt}
use Rattle.readers.proofs.GrantedNotes.{note_vote_granted, note_blank_granted}
use Rattle.readers.proofs.LearntLines.{MajorityLine, learnt_lines, majority_of_boxes}
use Rattle.history.specs.History.{◌∈◌, History, Present, Chosen}
use Rattle.history.proofs.Lines.{absent_or_present}
use Rattle.history.proofs.HeldIsChosen.{held_chosen}
use Rattle.safety.proofs.TrueMessages.{two_a, two_b, Says}
use Rattle.safety.proofs.TrueRows.{Shown, ReaderTrue}
use Rattle.safety.proofs.Moved.{reader, SoundHall, Stepped, Silent, still}
use Rattle.safety.proofs.Slots.{slot_cases}
use Rattle.safety.proofs.InRange.{setup_boxes}

module _ (s : Setup) {H : History} (r : ReaderRow) (t : ReaderTrue s H r) where
  vote_kept : (b : ℕ) (m : TwoB) → Says H (two_b b m) → ReaderTrue s H (note_vote_row r b m)
  unfolding note_vote_row held_at blank_at
  vote_kept b m x =
      record {
        held = slot_cases (λ j slot. slot.filled ≡ true → slot.page ∈ H.votes j (key slot.round)) r.held b _ _ (λ f. x.cast) t.held;
        blanks = t.blanks;
        shown = t.shown;
      }

  blank_kept : (k : ℕ) (m : TwoA) → Says H (two_a k m) → m.line.mark ≡ Nil → ReaderTrue s H (note_blank_row r k m)
  unfolding note_blank_row held_at blank_at
  blank_kept k m x e =
      record {
        held = t.held;
        blanks = slot_cases (λ j slot. slot.filled ≡ true → H.said j (key slot.round) ≡ Nil) r.blanks k _ _ (λ f. x.said ∙ e) t.blanks;
        shown = t.shown;
      }

  module _ (round : Round) where
    -- what is held at exactly that round
    blank_said : (k : ℕ) → blank_in r round k ≡ true → H.said k (key round) ≡ Nil
    blank_said k h =
        let slot = and_left (has round.cf k && (blank_at r k).filled) _ h in
        let same = same_round_lem (blank_at r k).round round (and_right (has round.cf k && (blank_at r k).filled) _ h) in
        subst (λ (x : Round). H.said k (key x) ≡ Nil) same (t.blanks k (and_right (has round.cf k) _ slot))

    held_cast : (b : ℕ) → held_in s r round b ≡ true → (held_at r b).page ∈ H.votes b (key round)
    held_cast b h =
        let slot = and_left (ltb b s.boxes && (held_at r b).filled) _ h in
        let same = same_round_lem (held_at r b).round round (and_right (ltb b s.boxes && (held_at r b).filled) _ h) in
        subst (λ (x : Round). (held_at r b).page ∈ H.votes b (key x)) same (t.held b (and_right (ltb b s.boxes) _ slot))

    module _ (good : setup_in_range s ≡ true) where
      -- a line that a majority's extended pages have is chosen
      pub majority_chosen : (k : ℕ) (m : Mark) → Present m → MajorityLine s r round k m → Chosen s.boxes H k m
      unfolding extended
      majority_chosen k m h y =
          held_chosen s.boxes H (key round) k m (blank_in r round) y.among (λ b. (held_at r b).page) h (blank_said k)
          (majority_of_boxes s r round y.among y.majority boxes)
          (λ b l e. let low = le_trans l boxes in (held_cast b (y.majority.held b low e), y.line b low e))
        where
          boxes : s.boxes ≤ most_boxes
          boxes = setup_boxes s good

      -- what is learnt is chosen, line by line
      pub learnt_shown : (w : Page) → JoinsChosen s r round w → Shown s H w
      learnt_shown w y k h = go (dec_lt k most_racks)
        where
          old : at r.page k ≡ at w k → Chosen s.boxes H k (at w k)
          old e = subst (Chosen s.boxes H k) e (t.shown k (ap is_absent e ∙ h))

          go : Dec (k < most_racks) → Chosen s.boxes H k (at w k)
          go (yes l) = ⊎_elim old (majority_chosen k (at w k) h) (learnt_lines s r round w y k l h)
          go (no n) = absurd (absent_or_present (ap (λ (p : Page). at p k) (sym y.whole) ∙ at_past (at w) k (omega (arith, n))) h)

      learn_kept : {a : Noted ReaderRow} → Learns s r round a → ReaderTrue s H a.row
      unfolding held_at blank_at
      learn_kept (too_few n) = t
      learn_kept (not_compatible among y n) = t
      learn_kept (all_nil among y w j e) = t
      learn_kept (learnt among y w j e) = record { held = t.held; blanks = t.blanks; shown = learnt_shown w j }

module _ (s : Setup) {H : History} (S : SoundHall s H) (i : ℕ) (r : ReaderRow) (t : ReaderTrue s H r) where
  keeps : (row : ReaderRow) → ReaderTrue s H row → Stepped s (reader i) H.offers H (λ H. ReaderTrue s H row) Silent
  keeps row u = record { after = H; moved = still (reader i) S; row = u; sent = tt }

  -- step 11
  pub note_vote_moves : (b : ℕ) (m : TwoB) → Says H (two_b b m) → (note_vote_of r b m).refusal ≡ granted →
      Stepped s (reader i) H.offers H (λ H. ReaderTrue s H (note_vote_of r b m).row) Silent
  note_vote_moves b m x h = keeps _ (rw (note_vote_granted r b m h).row_is (vote_kept s r t b m x))

  -- step 12
  pub note_blank_moves : (k : ℕ) (m : TwoA) → Says H (two_a k m) → (note_blank_of r k m).refusal ≡ granted →
      Stepped s (reader i) H.offers H (λ H. ReaderTrue s H (note_blank_of r k m).row) Silent
  note_blank_moves k m x h =
      let facts = note_blank_granted r k m h in keeps _ (rw facts.row_is (blank_kept s r t k m x facts.blank))

  -- step 13, granted or refused
  pub learn_moves : (round : Round) (a : Noted ReaderRow) → setup_in_range s ≡ true → Learns s r round a →
      Stepped s (reader i) H.offers H (λ H. ReaderTrue s H a.row) Silent
  learn_moves round a good y = keeps a.row (learn_kept s r t round good y)
