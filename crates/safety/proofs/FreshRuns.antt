-- Demand 3 over a run of a freshly set up hall, seen as rows and messages: readers' pages at any two moments agree, their readings
-- were offered, not every rack is blank, and 9 never occurs. (That pages only gain lines holds of every run: `run_gains`.)
use Rattle.std.proofs.Common.{ℕ, ◌<◌, ◌≡◌, subst, ◌∙◌, true, ◌≢◌, List, append-nil}
use Rattle.below.specs.Refusals.{lines_clash}
use Rattle.pages.specs.declared.line.Reading.{Reading}
use Rattle.pages.specs.declared.line.Mark.TheVariants.{Nil, Reading as reads}
use Rattle.pages.specs.Pages.{at}
use Rattle.rounds.specs.declared.setup.Setup.{Setup}
use Rattle.rounds.specs.declared.round.Round.{Round}
use Rattle.rounds.specs.Setups.{setup_in_range}
use Rattle.records.specs.declared.messages.TwoB.{TwoB}
use Rattle.records.specs.Rules.{coordinator_rules}
use Rattle.records.specs.declared.rows.ReaderRow.{ReaderRow}
use Rattle.records.specs.Answers.{Noted}
use Rattle.coordinators.specs.Steps.{open_of}
use Rattle.readers.specs.Notes.{note_vote_of}
use Rattle.readers.specs.Learning.{Learns}
use Rattle.history.specs.History.{Offer, Offered, Present}
use Rattle.safety.proofs.TrueMessages.{two_b}
use Rattle.safety.proofs.Views.{View}
use Rattle.safety.proofs.StepsKeep.{Next}
use Rattle.safety.proofs.FreshIsKept.{FreshView, fresh_of, fresh_kept}
use Rattle.safety.proofs.ReadersShow.{pages_agree, readings_offered, never_all_nil}
use Rattle.safety.proofs.NeverNine.{open_never_nine, note_vote_never_nine, learn_never_nine}
use Rattle.safety.proofs.Runs.{Run, Moment, run_keeps, moment_seen}

module _ (s : Setup) (good : setup_in_range s ≡ true) {start hall : View} {offered : List Offer} (fresh : FreshView s start)
    (run : Run s start hall offered) where
  reached : Next s (fresh_of s) hall offered
  reached = run_keeps s (fresh_kept s good start fresh) run

  -- two readers' pages, at any two moments, never differ on a line that both have
  pub shown_agree : {a b : View} → Moment s start a hall offered run → Moment s start b hall offered run → (i j : ℕ) → i < s.readers →
      j < s.readers → (k : ℕ) → Present (at (a.readers i).page k) → Present (at (b.readers j).page k) →
      at (a.readers i).page k ≡ at (b.readers j).page k
  unfolding reached
  shown_agree v w i j l m k =
      let kept = fresh_kept s good start fresh in
      pages_agree s reached.kept.sound _ _ (moment_seen s kept v i l) (moment_seen s kept w j m) k

  -- every reading on a page was offered
  pub shown_offered : {a : View} → Moment s start a hall offered run → (i : ℕ) → i < s.readers → (k : ℕ) (v : Reading) →
      at (a.readers i).page k ≡ reads v → Offered offered v
  unfolding reached
  shown_offered w i l k v e =
      let seen = moment_seen s (fresh_kept s good start fresh) w i l in
      subst (λ (o : List Offer). Offered o v) (reached.offers ∙ append-nil offered) (readings_offered s reached.kept.sound _ seen k v e)

  -- all pages laid together are never blank for every rack
  pub shown_not_blank : (moment : ℕ → View) (reader : ℕ → ℕ) → ((k : ℕ) → k < s.racks → Moment s start (moment k) hall offered run) →
      ((k : ℕ) → k < s.racks → reader k < s.readers) → ((k : ℕ) → k < s.racks → at ((moment k).readers (reader k)).page k ≡ Nil) → ⊥
  unfolding reached
  shown_not_blank moment reader during exists nil =
      never_all_nil s reached.kept.sound good (λ k. ((moment k).readers (reader k)).page)
      (λ k l. moment_seen s (fresh_kept s good start fresh) (during k l) (reader k) (exists k l)) nil

  -- 9 never occurs: the three steps that know it
  pub open_fits : (c : ℕ) → c < s.coordinators → coordinator_rules s c (hall.coordinators c) ≡ true →
      (open_of s c (hall.coordinators c)).refusal ≢ lines_clash
  open_fits c l = open_never_nine s reached.kept.sound good c (hall.coordinators c) (reached.kept.coordinators c l)

  pub note_vote_fits : (i b : ℕ) (m : TwoB) → i < s.readers → hall.posted (two_b b m) → (note_vote_of (hall.readers i) b m).refusal ≢ lines_clash
  note_vote_fits i b m l p =
      note_vote_never_nine s reached.kept.sound (hall.readers i) (reached.kept.readers i l) b m (reached.kept.posted (two_b b m) p)

  pub learn_fits : (i : ℕ) (round : Round) (a : Noted ReaderRow) → i < s.readers → Learns s (hall.readers i) round a → a.refusal ≢ lines_clash
  learn_fits i round a l = learn_never_nine s reached.kept.sound good (hall.readers i) (reached.kept.readers i l) round
