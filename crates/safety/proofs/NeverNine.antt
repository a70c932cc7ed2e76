-- Refusal 9 never occurs where rows and messages are true of a sound history: open, note vote and learn never meet lines that clash,
-- and learn never comes to a page that is all Nil.
use Rattle.std.proofs.Common.{ℕ, ◌<◌, arith, le_trans, eqb, leb, lt-ltb, ◌≡◌, refl, sym, ap, subst, ◌∙◌, Bool, true, false, cond, not, ◌&&◌, ◌⊎◌, ◌≢◌, ⊎_elim}
use Rattle.below.specs.Refusals.{unless, granted, wrong_round, already_done, no_majority, lines_clash}
use Rattle.below.proofs.Granted.{answer_number}
use Rattle.pages.specs.declared.line.Mark.TheVariants.{Nil}
use Rattle.pages.specs.declared.page.Page.{Page}
use Rattle.pages.specs.Lines.{is_absent}
use Rattle.pages.specs.Racks.{most_racks, racks_below}
use Rattle.pages.specs.Pages.{at, prefix_of, compatible_of, union_of, trivial_of}
use Rattle.pages.proofs.Lines.{nil_is, compatible_of_present}
use Rattle.pages.proofs.PageLaws.{union_left, union_right, lines_compatible, trivial_lines}
use Rattle.rounds.specs.declared.setup.Setup.{Setup}
use Rattle.rounds.specs.declared.round.Round.{Round}
use Rattle.rounds.specs.declared.order.Order.{Order}
use Rattle.rounds.specs.declared.order.Order.TheVariants.{Below, Equal, Above as Higher, Clash}
use Rattle.rounds.specs.Setups.{setup_in_range, majority_of}
use Rattle.rounds.specs.Rounds.{order_of}
use Rattle.rounds.proofs.Ordered.{key, Compared, compared}
use Rattle.records.specs.declared.messages.TwoB.{TwoB}
use Rattle.records.specs.declared.rows.CoordinatorRow.{CoordinatorRow}
use Rattle.records.specs.declared.rows.ReaderRow.{ReaderRow}
use Rattle.records.specs.Slots.{held_at}
use Rattle.records.specs.Rules.{coordinator_rules}
use Rattle.records.specs.declared.messages.TwoS.{TwoS}
use Rattle.records.specs.Answers.{Answer, Noted}
use Rattle.coordinators.specs.Steps.{any_clash, heard_count, joined_votes, open_refusal, open_of}
use Rattle.readers.specs.Notes.{by_order, same_round_refusal, note_vote_refusal, note_vote_of}
use Rattle.readers.specs.Learning.{Above, JoinsChosen, Learns, too_few, not_compatible, all_nil, learnt}
use Rattle.readers.specs.Counting.{agreed_page}
use Rattle.readers.proofs.ChosenLines.{carriers, carriers_line, agreed_majority, above_agreed}
use Rattle.history.specs.History.{◌∈◌, History, Present, Chosen}
use Rattle.history.proofs.VotesAreChains.{votes_chain}
use Rattle.history.proofs.ChosenAgree.{chosen_agree}
use Rattle.history.proofs.NeverAllBlank.{never_all_blank}
use Rattle.safety.proofs.TrueMessages.{two_b, Says}
use Rattle.safety.proofs.TrueRows.{CoordinatorTrue, ReaderTrue}
use Rattle.safety.proofs.Moved.{SoundHall}
use Rattle.safety.proofs.InRange.{setup_some_rack}
use Rattle.safety.proofs.OpenGathers.{votes_join}
use Rattle.safety.proofs.ReaderSteps.{majority_chosen, learnt_shown}

-- a chain of refusals is not 9 if none of its numbers is
not_nine : (b : Bool) (number later : ℕ) → number ≢ lines_clash → later ≢ lines_clash → unless b number later ≢ lines_clash
not_nine true number later p q = q
not_nine false number later p q = p

lines_fit : (b : Bool) → b ≡ true → unless b lines_clash granted ≢ lines_clash
lines_fit b e = rw e (omega arith)

-- step 5
pub open_never_nine : (s : Setup) {H : History} → SoundHall s H → setup_in_range s ≡ true → (c : ℕ) (r : CoordinatorRow) → CoordinatorTrue H c r →
    coordinator_rules s c r ≡ true → (open_of s c r).refusal ≢ lines_clash
unfolding open_of open_refusal
open_never_nine s S good c r t rules h =
    not_nine (eqb r.crnd.c c && not (any_clash r)) wrong_round _ (omega arith)
    (not_nine (not r.cval.some) already_done _ (omega arith)
    (not_nine (leb (majority_of s.boxes) (heard_count r)) no_majority _ (omega arith) (lines_fit (joined_votes r).some (votes_join s S good c r t rules))))
    (sym (answer_number (λ (a : Answer CoordinatorRow TwoS). a.refusal) (open_refusal s c r) _ _ refl refl) ∙ h)

-- step 11: two votes of one box in one round extend one another
pub note_vote_never_nine : (s : Setup) {H : History} → SoundHall s H → (r : ReaderRow) → ReaderTrue s H r → (b : ℕ) (m : TwoB) → Says H (two_b b m) →
    (note_vote_of r b m).refusal ≢ lines_clash
unfolding note_vote_of note_vote_refusal
note_vote_never_nine s {H} S r t b m x h =
    slot (held_at r b).filled refl (sym (answer_number (λ (a : Noted ReaderRow). a.refusal) (note_vote_refusal (held_at r b) m) _ _ refl refl) ∙ h)
  where
    same : (p q : Page) → (prefix_of p q ≡ true) ⊎ (prefix_of q p ≡ true) → same_round_refusal p q ≢ lines_clash
    same p q = ⊎_elim (λ e. rw e (not_nine (not (prefix_of q p)) already_done granted (omega arith) (omega arith))) (λ e. rw e (omega arith))

    order : (o : Order) → (held_at r b).filled ≡ true → Compared (held_at r b).round m.round o →
        by_order o (same_round_refusal (held_at r b).page m.page) ≢ lines_clash
    order Below f d = omega arith
    order Equal f d =
        same _ _ (votes_chain S b (key m.round) _ _ (subst (λ (x : Round). (held_at r b).page ∈ H.votes b (key x)) d (t.held b f)) x.cast)
    order Higher f d = omega arith
    order Clash f d = omega arith

    slot : (f : Bool) → (held_at r b).filled ≡ f →
        cond f (by_order (order_of (held_at r b).round m.round) (same_round_refusal (held_at r b).page m.page)) granted ≢ lines_clash
    slot true f = order (order_of (held_at r b).round m.round) f (compared (held_at r b).round m.round)
    slot false f = omega arith

-- step 13
module _ (s : Setup) {H : History} (S : SoundHall s H) (good : setup_in_range s ≡ true) (r : ReaderRow) (t : ReaderTrue s H r) (round : Round) where
  -- a line that counting agrees on is chosen
  agreed_chosen : (k : ℕ) → k < most_racks → Present (at (agreed_page s r round) k) → Chosen s.boxes H k (at (agreed_page s r round) k)
  agreed_chosen k l h =
      majority_chosen s r t round good k _ h
      (record {
        among = carriers s r round k (at (agreed_page s r round) k);
        majority = agreed_majority s r round k l h;
        line = λ b low e. carriers_line s r round k (at (agreed_page s r round) k) b h e;
      })

  -- so is each line that the reader shows: they agree
  agreed_compatible : compatible_of r.page (agreed_page s r round) ≡ true
  agreed_compatible =
      lines_compatible r.page (agreed_page s r round)
      (λ k l. compatible_of_present _ _ (λ h g. chosen_agree S k _ _ (t.shown k h) (agreed_chosen k l g)))

  agreed_joins : Above s r round (union_of r.page (agreed_page s r round))
  agreed_joins =
      above_agreed s r round (union_of r.page (agreed_page s r round)) (union_left r.page (agreed_page s r round))
      (union_right r.page (agreed_page s r round) agreed_compatible)

  not_trivial : (w : Page) → JoinsChosen s r round w → trivial_of (racks_below s.racks) w ≡ true → ⊥
  not_trivial w j e = never_all_blank S (setup_some_rack s good) blank
    where
      blank : (k : ℕ) → k < s.racks → Chosen s.boxes H k Nil
      blank k l =
          let nil : at w k ≡ Nil = nil_is _ (trivial_lines (racks_below s.racks) w e k (le_trans l S.racks) (lt-ltb k s.racks l)) in
          subst (Chosen s.boxes H k) nil (learnt_shown s r t round good w j k (ap is_absent nil))

  pub learn_never_nine : {a : Noted ReaderRow} → Learns s r round a → a.refusal ≢ lines_clash
  learn_never_nine (too_few n) = omega arith
  learn_never_nine (not_compatible among y n) = absurd (n _ agreed_joins)
  learn_never_nine (all_nil among y w j e) = absurd (not_trivial w j e)
  learn_never_nine (learnt among y w j e) = omega arith
