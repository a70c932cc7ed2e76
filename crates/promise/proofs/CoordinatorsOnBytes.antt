-- The steps of coordinators on the bytes of a good hall: start, hear, open.
use Rattle.std.proofs.Common.{ℕ, ◌+◌, ◌<◌, arith, ltb, leb, length, ◌≡◌, refl, ap, ◌∙◌, true, not, ◌&&◌, inl, List, ltb-true, lt-ltb, ne_eqb}
use Rattle.below.proofs.Tests.{and_true, and_left, and_right, or_true_left}
use Rattle.below.proofs.Rows.{length-row}
use Rattle.pages.specs.Racks.{most_racks}
use Rattle.rounds.specs.declared.setup.Setup.{Setup}
use Rattle.rounds.specs.Setups.{one_to, some_racks, most_boxes}
use Rattle.rounds.specs.Rounds.{round_of, round_in_range, largest_number}
use Rattle.records.specs.declared.slots.Heard.{Heard}
use Rattle.records.specs.declared.messages.OneB.{OneB}
use Rattle.records.specs.declared.rows.CoordinatorRow.{CoordinatorRow}
use Rattle.records.specs.Slots.{heard_at}
use Rattle.fields.specs.Layout.{heard, past_heard}
use Rattle.blocks.specs.Messages as Sent
use Rattle.blocks.specs.Rows as Rows
use Rattle.blocks.proofs.RowKinds.{coordinator_kept, CoordinatorShaped}
use Rattle.coordinators.specs.Steps.{start_of, hear_of, open_of}
use Rattle.coordinators.proofs.RulesKept.{start_keeps, hear_keeps, open_keeps}
use Rattle.coordinators.proofs.Shape.{CoordinatorShape, start_shape, hear_shape, open_shape}
use Rattle.acts.specs.declared.step.Step.{Step}
use Rattle.acts.specs.Acts.{body_of, agent_of, sending, silent, start_act, hear_act, open_act, act_of}
use Rattle.hall.specs.Halls.{coordinators_at, messages_at, block_at}
use Rattle.hall.specs.Steps.{rows_at, agents_for, numbers_in_range}
use Rattle.safety.proofs.TrueMessages.{one_a, one_b, two_s}
use Rattle.safety.proofs.Moved.{coordinator}
use Rattle.safety.proofs.StepsKeep as Grants
use Rattle.safety.proofs.PagesChange.{coordinator_apart}
use Rattle.promise.proofs.GoodBlocks.{stamp_for, good_agent, good_rules}
use Rattle.promise.proofs.GoodHalls.{GoodHall}
use Rattle.hall.proofs.StepFacts.{exists_agent, exists_message}
use Rattle.promise.proofs.HallNumbers.{HallGranted}
use Rattle.promise.proofs.OneStep.{coordinator_row, one_a_post, one_b_post, two_s_post, silent_done, sending_done}
use Rattle.promise.proofs.Stepped.{step_of, Stepped, by_other, handed, alone, times_at}

shaped : (r : CoordinatorRow) → CoordinatorShape r → CoordinatorShaped r
unfolding heard_at
shaped r h = (h.opened, record { many = h.slots; each = h.votes })

-- the round that a start in range begins
started_range : (s : Setup) (a n cf : ℕ) → a < s.coordinators → one_to largest_number n && some_racks s.racks cf ≡ true → (round_in_range s (round_of n a cf) ≡ true) × (0 < n)
unfolding round_in_range
started_range s a n cf l h =
    (and_true (and_right (ltb 0 n) _ number) (and_true (lt-ltb a s.coordinators l) (and_true (and_right (one_to largest_number n) _ h) (or_true_left _ (ap not (ne_eqb n 0 (λ e. omega (arith, e, some))))))), some)
  where
    number : one_to largest_number n ≡ true
    number = and_left (one_to largest_number n) (some_racks s.racks cf) h

    some : 0 < n
    some = ltb-true 0 n (and_left (ltb 0 n) (leb n largest_number) number)

module _ {instance : ℕ} {s : Setup} {count : ℕ} {hall : List ℕ} (g : GoodHall instance s count hall) (a j n c cf v : ℕ) where
  abbrev own : CoordinatorRow
  own = body_of Rows.coordinator (block_at hall (coordinators_at + a))

  abbrev message : List ℕ
  message = block_at hall (messages_at + j)

  own_rules_lem : a < s.coordinators → (Rows.coordinator).rules s a own ≡ true
  own_rules_lem l = good_rules Rows.coordinator _ coordinator_kept (g.rows (coordinator a) l)

  own_shape : CoordinatorShape own
  unfolding heard_at
  own_shape =
      record {
        opened = length-row most_racks _;
        slots = length-row most_boxes _;
        votes =
            λ b l.
            ap (λ (h : Heard). length h.vote.page.lines) (times_at most_boxes past_heard heard (block_at hall (coordinators_at + a)) 55 b l) ∙
            length-row most_racks _;
      }

  pub start_stepped : HallGranted g (step_of 2 a j n c cf v) → Stepped instance s count hall (step_of 2 a j n c cf v)
  unfolding act_of start_act rows_at agents_for numbers_in_range
  start_stepped f =
      let x : Step = step_of 2 a j n c cf v in
      let l : a < s.coordinators = exists_agent s count x f.exists in
      let b =
      alone g x f Rows.coordinator (coordinators_at + a)
      (λ r. sending Rows.coordinator Sent.one_a (stamp_for instance s a) (start_of a r n cf).refusal (start_of a r n cf).row (start_of a r n cf).sent) refl in
      let range = started_range s a n cf l f.range in
      let keeps = start_keeps s a own n cf range.0 range.1 b.0 in
      let done =
      sending_done g x f Rows.coordinator _ coordinator coordinator_row a l refl (start_of a own n cf).row keeps.0
      (shaped _ (start_shape a own n cf own_shape)) Sent.one_a _ one_a one_a_post (start_of a own n cf).sent l keeps.1 tt b.1 in
      record {
        good = done.good;
        grants = Grants.start a n cf l b.0 done.own done.changes;
        pages = λ i e. inl (by_other done.changes i e (coordinator_apart a i));
      }

  pub hear_stepped : HallGranted g (step_of 4 a j n c cf v) → Stepped instance s count hall (step_of 4 a j n c cf v)
  unfolding act_of hear_act rows_at agents_for
  hear_stepped f =
      let x : Step = step_of 4 a j n c cf v in
      let l : a < s.coordinators = exists_agent s count x f.exists in
      let k : ℕ = agent_of message in
      let b =
      handed g x f Rows.coordinator (coordinators_at + a) Sent.one_b _ one_b one_b_post j (exists_message s count x f.exists refl)
      (λ r m. silent Rows.coordinator (stamp_for instance s a) (hear_of r k m).refusal (hear_of r k m).row) refl in
      let m : OneB = body_of Sent.one_b message in
      let done =
      silent_done g x f Rows.coordinator _ coordinator coordinator_row a l refl (hear_of own k m).row
      (hear_keeps s a own k m (good_agent Sent.one_b _ one_b_post.laws b.good) (own_rules_lem l) (good_rules Sent.one_b _ one_b_post.laws b.good) b.number)
      (shaped _ (hear_shape own k m own_shape (length-row most_racks _))) b.act_is in
      record {
        good = done.good;
        grants = Grants.hear a k m l b.posted b.number done.own done.changes;
        pages = λ i e. inl (by_other done.changes i e (coordinator_apart a i));
      }

  pub open_stepped : HallGranted g (step_of 5 a j n c cf v) → Stepped instance s count hall (step_of 5 a j n c cf v)
  unfolding act_of open_act rows_at agents_for
  open_stepped f =
      let x : Step = step_of 5 a j n c cf v in
      let l : a < s.coordinators = exists_agent s count x f.exists in
      let b =
      alone g x f Rows.coordinator (coordinators_at + a)
      (λ r. sending Rows.coordinator Sent.two_s (stamp_for instance s a) (open_of s a r).refusal (open_of s a r).row (open_of s a r).sent) refl in
      let keeps = open_keeps s a own (own_rules_lem l) b.0 in
      let shape = open_shape s a own own_shape in
      let done =
      sending_done g x f Rows.coordinator _ coordinator coordinator_row a l refl (open_of s a own).row keeps.0 (shaped _ shape.0) Sent.two_s _ two_s two_s_post
      (open_of s a own).sent l keeps.1 shape.1 b.1 in
      record {
        good = done.good;
        grants = Grants.opening a l b.0 done.own done.changes;
        pages = λ i e. inl (by_other done.changes i e (coordinator_apart a i));
      }
