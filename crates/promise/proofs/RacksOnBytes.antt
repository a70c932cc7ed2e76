-- The steps of racks on the bytes of a good hall: offer, prepare, fast, blank.
use Rattle.std.proofs.Common.{ℕ, ◌+◌, ◌<◌, ◌≡◌, refl, ap, Bool, true, cond, inl, List, arith}
use Rattle.below.specs.Refusals.{granted, wrong_message}
use Rattle.rounds.specs.declared.setup.Setup.{Setup}
use Rattle.records.specs.declared.messages.Propose.{Propose}
use Rattle.records.specs.declared.messages.TwoS.{TwoS}
use Rattle.records.specs.declared.messages.TwoA.{TwoA}
use Rattle.records.specs.declared.rows.RackRow.{RackRow}
use Rattle.fields.proofs.Fitted.{Any}
use Rattle.blocks.specs.Kinds.{encode}
use Rattle.blocks.proofs.Ranges.{setup_fits}
use Rattle.blocks.specs.Messages as Sent
use Rattle.blocks.specs.Rows as Rows
use Rattle.blocks.proofs.RowKinds.{rack_kept}
use Rattle.racks.specs.Steps.{offer_of, prepare_of, fast_of, blank_of}
use Rattle.racks.proofs.RulesKept.{offer_keeps, prepare_keeps, fast_keeps, blank_keeps}
use Rattle.acts.specs.declared.step.Step.{Step}
use Rattle.acts.specs.Acts.{refused, body_of, agent_of, sending, silent, offer_act, prepare_act, fast_act, blank_act, act_of}
use Rattle.hall.specs.Halls.{racks_at, messages_at, block_at}
use Rattle.hall.specs.Steps.{rows_at, agents_for, numbers_in_range}
use Rattle.safety.proofs.TrueMessages.{propose, two_s, two_a}
use Rattle.safety.proofs.Moved.{rack}
use Rattle.safety.proofs.StepsKeep as Grants
use Rattle.safety.proofs.PagesChange.{rack_apart}
use Rattle.hall.proofs.Cells.{length_block}
use Rattle.promise.proofs.GoodBlocks.{stamp_for, Good, good_is, good_rules}
use Rattle.promise.proofs.GoodHalls.{GoodHall}
use Rattle.hall.proofs.StepFacts.{exists_agent, exists_message}
use Rattle.promise.proofs.HallNumbers.{HallGranted}
use Rattle.promise.proofs.OneStep.{rack_row, propose_post, two_s_post, two_a_post, silent_done, sending_done, posting_done}
use Rattle.promise.proofs.Stepped.{step_of, Stepped, by_other, handed}

module _ {instance : ℕ} {s : Setup} {count : ℕ} {hall : List ℕ} (g : GoodHall instance s count hall) (a j n c cf v : ℕ) where
  abbrev own : RackRow
  own = body_of Rows.rack (block_at hall (racks_at + a))

  abbrev message : List ℕ
  message = block_at hall (messages_at + j)

  own_rules_lem : a < s.racks → (Rows.rack).rules s a own ≡ true
  own_rules_lem l = good_rules Rows.rack Any rack_kept (g.rows (rack a) l)

  pub offer_stepped : HallGranted g (step_of 1 a j n c cf v) → Stepped instance s count hall (step_of 1 a j n c cf v)
  unfolding act_of offer_act rows_at agents_for numbers_in_range
  offer_stepped f =
      let x : Step = step_of 1 a j n c cf v in
      let l : a < s.racks = exists_agent s count x f.exists in
      let good : Good Rows.rack (stamp_for instance s a) (block_at hall (racks_at + a)) = g.rows (rack a) l in
      let done =
      posting_done g x f Rows.rack Any rack rack_row a l refl own (own_rules_lem l) tt Sent.propose Any propose propose_post (offer_of (record { 0 = v })) l
      (offer_keeps s a (record { 0 = v }) f.range) tt (block_at hall (racks_at + a)) good
      (length_block hall (racks_at + a) g.long (omega (arith, (setup_fits s g.setup).racks))) refl
      (ap
      (λ (b : Bool).
      cond b
      (record {
        refusal = granted;
        row = block_at hall (racks_at + a);
        sends = true;
        sent = encode Sent.propose (stamp_for instance s a) (offer_of (record { 0 = v }));
      })
      (refused wrong_message))
      (good_is Rows.rack Any rack_kept good)) in
      record {
        good = done.good;
        grants = Grants.offer a (record { 0 = v }) l done.own done.changes;
        pages = λ i e. inl (by_other done.changes i e (rack_apart a i));
      }

  pub prepare_stepped : HallGranted g (step_of 6 a j n c cf v) → Stepped instance s count hall (step_of 6 a j n c cf v)
  unfolding act_of prepare_act rows_at agents_for
  prepare_stepped f =
      let x : Step = step_of 6 a j n c cf v in
      let l : a < s.racks = exists_agent s count x f.exists in
      let b =
      handed g x f Rows.rack (racks_at + a) Sent.two_s _ two_s two_s_post j (exists_message s count x f.exists refl)
      (λ r m. silent Rows.rack (stamp_for instance s a) (prepare_of a r m).refusal (prepare_of a r m).row) refl in
      let m : TwoS = body_of Sent.two_s message in
      let done =
      silent_done g x f Rows.rack Any rack rack_row a l refl (prepare_of a own m).row
      (prepare_keeps s a (agent_of message) own m g.setup l (good_rules Sent.two_s _ two_s_post.laws b.good) b.number) tt b.act_is in
      record {
        good = done.good;
        grants = Grants.prepare a (agent_of message) m l b.posted b.number done.own done.changes;
        pages = λ i e. inl (by_other done.changes i e (rack_apart a i));
      }

  pub fast_stepped : HallGranted g (step_of 7 a j n c cf v) → Stepped instance s count hall (step_of 7 a j n c cf v)
  unfolding act_of fast_act rows_at agents_for
  fast_stepped f =
      let x : Step = step_of 7 a j n c cf v in
      let l : a < s.racks = exists_agent s count x f.exists in
      let b =
      handed g x f Rows.rack (racks_at + a) Sent.propose _ propose propose_post j (exists_message s count x f.exists refl)
      (λ r m. sending Rows.rack Sent.two_a (stamp_for instance s a) (fast_of a r m).refusal (fast_of a r m).row (fast_of a r m).sent) refl in
      let m : Propose = body_of Sent.propose message in
      let keeps = fast_keeps s a (agent_of message) own m (own_rules_lem l) (good_rules Sent.propose _ propose_post.laws b.good) b.number in
      let done =
      sending_done g x f Rows.rack Any rack rack_row a l refl (fast_of a own m).row keeps.0 tt Sent.two_a Any two_a two_a_post (fast_of a own m).sent l keeps.1 tt
      b.act_is in
      record {
        good = done.good;
        grants = Grants.fast a (agent_of message) m l b.posted b.number done.own done.changes;
        pages = λ i e. inl (by_other done.changes i e (rack_apart a i));
      }

  pub blank_stepped : HallGranted g (step_of 8 a j n c cf v) → Stepped instance s count hall (step_of 8 a j n c cf v)
  unfolding act_of blank_act rows_at agents_for
  blank_stepped f =
      let x : Step = step_of 8 a j n c cf v in
      let l : a < s.racks = exists_agent s count x f.exists in
      let b =
      handed g x f Rows.rack (racks_at + a) Sent.two_a _ two_a two_a_post j (exists_message s count x f.exists refl)
      (λ r m. sending Rows.rack Sent.two_a (stamp_for instance s a) (blank_of a r m).refusal (blank_of a r m).row (blank_of a r m).sent) refl in
      let m : TwoA = body_of Sent.two_a message in
      let keeps = blank_keeps s a own m (own_rules_lem l) b.number in
      let done =
      sending_done g x f Rows.rack Any rack rack_row a l refl (blank_of a own m).row keeps.0 tt Sent.two_a Any two_a two_a_post (blank_of a own m).sent l keeps.1 tt
      b.act_is in
      record {
        good = done.good;
        grants = Grants.blank a (agent_of message) m l b.posted b.number done.own done.changes;
        pages = λ i e. inl (by_other done.changes i e (rack_apart a i));
      }
