-- The steps of readers on the bytes of a good hall: note vote, note blank, learn.
use Rattle.std.proofs.Common.{ℕ, ◌+◌, ◌<◌, length, ◌≡◌, refl, ap, ◌∙◌, true, inl, inr, ⊎_elim, List}
use Rattle.below.specs.Refusals.{granted}
use Rattle.below.proofs.Rows.{length-row}
use Rattle.pages.specs.Racks.{most_racks}
use Rattle.rounds.specs.declared.setup.Setup.{Setup}
use Rattle.rounds.specs.declared.round.Round.{Round}
use Rattle.rounds.specs.Setups.{most_boxes}
use Rattle.rounds.specs.Rounds.{round_of}
use Rattle.records.specs.declared.slots.Held.{Held}
use Rattle.records.specs.declared.messages.TwoA.{TwoA}
use Rattle.records.specs.declared.messages.TwoB.{TwoB}
use Rattle.records.specs.declared.rows.ReaderRow.{ReaderRow}
use Rattle.records.specs.Slots.{held_at}
use Rattle.fields.specs.Layout.{held, past_held}
use Rattle.blocks.specs.Messages as Sent
use Rattle.blocks.proofs.MessageKinds.{Lined}
use Rattle.blocks.specs.Rows as Rows
use Rattle.blocks.proofs.RowKinds.{reader_kept, ReaderShaped}
use Rattle.readers.specs.Notes.{note_vote_of, note_blank_row, note_blank_of}
use Rattle.readers.specs.Counting.{counted_of}
use Rattle.readers.proofs.GrantedNotes.{note_vote_granted, note_vote_held, note_blank_granted}
use Rattle.readers.proofs.LearntLines.{learn_granted}
use Rattle.readers.proofs.CountingLearns.{counted_learns}
use Rattle.readers.proofs.RulesKept.{note_vote_keeps, note_blank_keeps, learn_keeps}
use Rattle.readers.proofs.Shape.{ReaderShape, note_vote_shape, note_blank_shape, learn_shape}
use Rattle.acts.specs.declared.step.Step.{Step}
use Rattle.acts.specs.Acts.{body_of, agent_of, silent, note_vote_act, note_blank_act, learn_act, act_of}
use Rattle.hall.specs.Halls.{readers_at, messages_at, block_at}
use Rattle.hall.specs.Steps.{rows_at, agents_for, granting}
use Rattle.safety.proofs.TrueMessages.{two_a, two_b}
use Rattle.safety.proofs.Moved.{reader}
use Rattle.safety.proofs.StepsKeep as Grants
use Rattle.safety.proofs.PagesChange.{note_vote_page, note_blank_page}
use Rattle.promise.proofs.GoodBlocks.{stamp_for, good_agent, good_rules}
use Rattle.promise.proofs.GoodHalls.{GoodHall}
use Rattle.hall.proofs.StepFacts.{exists_agent, exists_message}
use Rattle.promise.proofs.HallNumbers.{HallGranted}
use Rattle.promise.proofs.OneStep.{reader_row, two_a_post, two_b_post, silent_done}
use Rattle.promise.proofs.Stepped.{step_of, PageStep, Stepped, by_reader, handed, alone, times_at}

-- every held page has all its lines
abbrev HeldLined : ReaderRow → Type 0
HeldLined r = (b : ℕ) → b < most_boxes → Lined (held_at r b).page

shaped : (r : ReaderRow) → ReaderShape r → HeldLined r → ReaderShaped r
unfolding held_at
shaped r h l = (h.lines, (record { many = h.held; each = l }, h.blanks))

note_vote_lined : (r : ReaderRow) (k : ℕ) (m : TwoB) → HeldLined r → Lined m.page → (note_vote_of r k m).refusal ≡ granted → HeldLined (note_vote_of r k m).row
note_vote_lined r k m h p e b l =
    ap (λ (x : ReaderRow). length (held_at x b).page.lines) (note_vote_granted r k m e).row_is ∙
    ⊎_elim (λ q. ap (λ (x : Held). length x.page.lines) q ∙ h b l) (λ q. ap (λ (x : Held). length x.page.lines) q.1 ∙ p) (note_vote_held r k m b)

note_blank_lined : (r : ReaderRow) (k : ℕ) (m : TwoA) → HeldLined r → (note_blank_of r k m).refusal ≡ granted → HeldLined (note_blank_of r k m).row
unfolding note_blank_row held_at
note_blank_lined r k m h e b l = ap (λ (x : ReaderRow). length (held_at x b).page.lines) (note_blank_granted r k m e).row_is ∙ h b l

learn_lined : (s : Setup) (r : ReaderRow) (round : Round) → HeldLined r → (counted_of s r round).refusal ≡ granted → HeldLined (counted_of s r round).row
unfolding held_at
learn_lined s r round h e b l =
    ap (λ (x : ReaderRow). length (held_at x b).page.lines) (learn_granted s r round _ (counted_learns s r round) e).row_is ∙ h b l

module _ {instance : ℕ} {s : Setup} {count : ℕ} {hall : List ℕ} (g : GoodHall instance s count hall) (a j n c cf v : ℕ) where
  abbrev own : ReaderRow
  own = body_of Rows.reader (block_at hall (readers_at + a))

  abbrev message : List ℕ
  message = block_at hall (messages_at + j)

  own_rules_lem : a < s.readers → (Rows.reader).rules s a own ≡ true
  own_rules_lem l = good_rules Rows.reader _ reader_kept (g.rows (reader a) l)

  own_shape : ReaderShape own
  own_shape = record { lines = length-row most_racks _; held = length-row most_boxes _; blanks = length-row most_racks _ }

  own_held : HeldLined own
  unfolding held_at
  own_held b l =
      ap (λ (h : Held). length h.page.lines) (times_at most_boxes past_held held (block_at hall (readers_at + a)) 50 b l) ∙ length-row most_racks _

  pub note_vote_stepped : HallGranted g (step_of 11 a j n c cf v) → Stepped instance s count hall (step_of 11 a j n c cf v)
  unfolding act_of note_vote_act rows_at agents_for
  note_vote_stepped f =
      let x : Step = step_of 11 a j n c cf v in
      let l : a < s.readers = exists_agent s count x f.exists in
      let k : ℕ = agent_of message in
      let b =
      handed g x f Rows.reader (readers_at + a) Sent.two_b _ two_b two_b_post j (exists_message s count x f.exists refl)
      (λ r m. silent Rows.reader (stamp_for instance s a) (note_vote_of r k m).refusal (note_vote_of r k m).row) refl in
      let m : TwoB = body_of Sent.two_b message in
      let done =
      silent_done g x f Rows.reader _ reader reader_row a l refl (note_vote_of own k m).row
      (note_vote_keeps s a own k m (good_agent Sent.two_b _ two_b_post.laws b.good) (own_rules_lem l) (good_rules Sent.two_b _ two_b_post.laws b.good) b.number)
      (shaped _ (note_vote_shape own k m own_shape) (note_vote_lined own k m own_held (length-row most_racks _) b.number)) b.act_is in
      record {
        good = done.good;
        grants = Grants.note_vote a k m l b.posted b.number done.own done.changes;
        pages =
            by_reader (PageStep s hall (granting hall x) x) a done.changes
            (inl (ap (λ (r : ReaderRow). r.page) done.own ∙ note_vote_page own k m b.number)) (λ i. inl);
      }

  pub note_blank_stepped : HallGranted g (step_of 12 a j n c cf v) → Stepped instance s count hall (step_of 12 a j n c cf v)
  unfolding act_of note_blank_act rows_at agents_for
  note_blank_stepped f =
      let x : Step = step_of 12 a j n c cf v in
      let l : a < s.readers = exists_agent s count x f.exists in
      let k : ℕ = agent_of message in
      let b =
      handed g x f Rows.reader (readers_at + a) Sent.two_a _ two_a two_a_post j (exists_message s count x f.exists refl)
      (λ r m. silent Rows.reader (stamp_for instance s a) (note_blank_of r k m).refusal (note_blank_of r k m).row) refl in
      let m : TwoA = body_of Sent.two_a message in
      let done =
      silent_done g x f Rows.reader _ reader reader_row a l refl (note_blank_of own k m).row
      (note_blank_keeps s a own k m (good_agent Sent.two_a _ two_a_post.laws b.good) (own_rules_lem l) (good_rules Sent.two_a _ two_a_post.laws b.good) b.number)
      (shaped _ (note_blank_shape own k m own_shape) (note_blank_lined own k m own_held b.number)) b.act_is in
      record {
        good = done.good;
        grants = Grants.note_blank a k m l b.posted b.number done.own done.changes;
        pages =
            by_reader (PageStep s hall (granting hall x) x) a done.changes
            (inl (ap (λ (r : ReaderRow). r.page) done.own ∙ note_blank_page own k m b.number)) (λ i. inl);
      }

  pub learn_stepped : HallGranted g (step_of 13 a j n c cf v) → Stepped instance s count hall (step_of 13 a j n c cf v)
  unfolding act_of learn_act rows_at agents_for
  learn_stepped f =
      let x : Step = step_of 13 a j n c cf v in
      let l : a < s.readers = exists_agent s count x f.exists in
      let r : Round = round_of n c cf in
      let b =
      alone g x f Rows.reader (readers_at + a) (λ y. silent Rows.reader (stamp_for instance s a) (counted_of s y r).refusal (counted_of s y r).row) refl in
      let learns = counted_learns s own r in
      let done =
      silent_done g x f Rows.reader _ reader reader_row a l refl (counted_of s own r).row (learn_keeps s a own r _ (own_rules_lem l) learns b.0)
      (shaped _ (learn_shape s own r _ learns own_shape) (learn_lined s own r own_held b.0)) b.1 in
      record {
        good = done.good;
        grants = Grants.learn a r _ l learns b.0 done.own done.changes;
        pages =
            by_reader (PageStep s hall (granting hall x) x) a done.changes
            (inr (record { code_is = refl; agent_is = refl; answer = counted_of s own r; learns = learns; answers = b.0; row_is = done.own })) (λ i. inl);
      }
