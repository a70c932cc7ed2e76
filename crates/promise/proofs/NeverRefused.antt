-- From a fresh hall 1, 2, 3 and 9 never occur.
use Rattle.std.proofs.Common.{ℕ, zero, suc, ◌+◌, ◌≤◌, ◌<◌, arith, eqb, ◌≡◌, refl, sym, subst, true, inr, ◌≢◌, ⊎_elim, List}
use Rattle.below.specs.Refusals.{granted}
use Rattle.below.proofs.Tests.{decided}
use Rattle.rounds.specs.declared.setup.Setup.{Setup}
use Rattle.rounds.specs.Setups.{setup_in_range}
use Rattle.rounds.specs.Rounds.{round_of}
use Rattle.records.specs.Slots.{held_at, blank_at}
use Rattle.blocks.specs.Kinds.{encode}
use Rattle.blocks.specs.Messages as Sent
use Rattle.blocks.specs.Rows as Rows
use Rattle.blocks.proofs.RowKinds.{coordinator_kept}
use Rattle.racks.specs.Steps.{offer_of, prepare_of, fast_of, blank_of}
use Rattle.racks.proofs.GrantedSteps.{prepare_number, fast_number, blank_number}
use Rattle.boxes.specs.Steps.{join_of, take_page_of, take_reading_of}
use Rattle.boxes.proofs.GrantedSteps.{join_number, take_page_number, take_reading_number}
use Rattle.coordinators.specs.Steps.{start_of, hear_of, open_of}
use Rattle.coordinators.proofs.GrantedSteps.{start_number, hear_number, open_number}
use Rattle.readers.specs.Notes.{note_vote_of, note_blank_of}
use Rattle.readers.specs.Counting.{counted_of}
use Rattle.readers.proofs.CountingLearns.{counted_learns}
use Rattle.acts.specs.declared.step.Step.{Step}
use Rattle.acts.specs.Acts.{sending, silent, is_a, body_of, agent_of, act_of, offer_act, start_act, join_act, hear_act, open_act, prepare_act, fast_act, blank_act, take_page_act, take_reading_act, note_vote_act, note_blank_act, learn_act}
use Rattle.hall.specs.Halls.{coordinators_at, boxes_at, racks_at, readers_at, messages_at, block_at, fresh_hall}
use Rattle.hall.specs.Steps.{rows_at, agents_for, step_exists, numbers_in_range, fits, hall_refusal}
use Rattle.safety.proofs.Moved.{coordinator}
use Rattle.safety.proofs.FreshRuns.{open_fits, note_vote_fits, learn_fits}
use Rattle.promise.specs.Runs.{run_hall}
use Rattle.promise.proofs.GoodBlocks.{stamp_for, good_rules}
use Rattle.promise.proofs.GoodHalls.{GoodHall}
use Rattle.hall.proofs.StepFacts.{exists_agent, exists_message, exists_range}
use Rattle.promise.proofs.HallNumbers.{act_in, no_such_step_lem, number_is}
use Rattle.promise.proofs.OneStep.{two_b_post}
use Rattle.promise.proofs.Stepped.{step_of}
use Rattle.promise.proofs.FreshHalls.{fresh_view}
use Rattle.promise.proofs.PagesOnBytes.{whole}
use Rattle.promise.proofs.MildNumbers.{Low, Mild, mild_unless, mild_0, low_vote, mild_blank, low_learn, note_vote_number, note_blank_number, mild_prepare, mild_fast, mild_say_blank, mild_join, mild_take_page, mild_take_reading, mild_start, mild_hear, low_open, mild_right, mild_row, mild_both}

module _ (instance : ℕ) (s : Setup) (range : setup_in_range s ≡ true) (small : instance ≤ 65535) (steps : List Step) where
  abbrev count : ℕ
  count = (whole instance s range small steps).reached.count

  abbrev hall : List ℕ
  hall = run_hall steps (fresh_hall instance s)

  abbrev g : GoodHall instance s count hall
  g = (whole instance s range small steps).reached.good

  -- the act's own number
  by_code : (code a j n c cf v : ℕ) → step_exists s count (step_of code a j n c cf v) ≡ true → Mild (act_in g (step_of code a j n c cf v)).refusal
  unfolding act_of offer_act start_act join_act hear_act open_act prepare_act fast_act blank_act take_page_act take_reading_act note_vote_act note_blank_act learn_act rows_at agents_for
  by_code zero a j n c cf v e = absurd (omega (arith, (exists_range s count _ e).0))
  by_code (suc zero) a j n c cf v e =
      mild_right (is_a Rows.rack (block_at hall (racks_at + a)))
      (record {
        refusal = granted;
        row = block_at hall (racks_at + a);
        sends = true;
        sent = encode Sent.propose (stamp_for instance s a) (offer_of (record { 0 = v }));
      })
      mild_0
  by_code (suc (suc zero)) a j n c cf v e =
      mild_row Rows.coordinator (block_at hall (coordinators_at + a)) (λ r. sending Rows.coordinator Sent.one_a (stamp_for instance s a) (start_of a r n cf).refusal (start_of a r n cf).row (start_of a r n cf).sent)
      (subst Mild (sym (start_number a (body_of Rows.coordinator (block_at hall (coordinators_at + a))) n cf)) (mild_start (body_of Rows.coordinator (block_at hall (coordinators_at + a))) (round_of n a cf)))
  by_code (suc (suc (suc zero))) a j n c cf v e =
      mild_both Rows.box Sent.one_a (block_at hall (boxes_at + a)) (block_at hall (messages_at + j)) (λ r m. sending Rows.box Sent.one_b (stamp_for instance s a) (join_of r m).refusal (join_of r m).row (join_of r m).sent)
      (λ is. subst Mild (sym (join_number (body_of Rows.box (block_at hall (boxes_at + a))) (body_of Sent.one_a (block_at hall (messages_at + j))))) (mild_join (body_of Rows.box (block_at hall (boxes_at + a))) (body_of Sent.one_a (block_at hall (messages_at + j)))))
  by_code (suc (suc (suc (suc zero)))) a j n c cf v e =
      mild_both Rows.coordinator Sent.one_b (block_at hall (coordinators_at + a)) (block_at hall (messages_at + j)) (λ r m. silent Rows.coordinator (stamp_for instance s a) (hear_of r (agent_of (block_at hall (messages_at + j))) m).refusal (hear_of r (agent_of (block_at hall (messages_at + j))) m).row)
      (λ is. subst Mild (sym (hear_number (body_of Rows.coordinator (block_at hall (coordinators_at + a))) (agent_of (block_at hall (messages_at + j))) (body_of Sent.one_b (block_at hall (messages_at + j))))) (mild_hear (body_of Rows.coordinator (block_at hall (coordinators_at + a))) (agent_of (block_at hall (messages_at + j))) (body_of Sent.one_b (block_at hall (messages_at + j)))))
  by_code (suc (suc (suc (suc (suc zero))))) a j n c cf v e =
      mild_row Rows.coordinator (block_at hall (coordinators_at + a)) (λ r. sending Rows.coordinator Sent.two_s (stamp_for instance s a) (open_of s a r).refusal (open_of s a r).row (open_of s a r).sent)
      (record {
        low = subst Low (sym (open_number s a (body_of Rows.coordinator (block_at hall (coordinators_at + a))))) (low_open s a (body_of Rows.coordinator (block_at hall (coordinators_at + a))));
        fits =
            open_fits s range (fresh_view instance s range small) (whole instance s range small steps).reached.run a (agent e)
            (good_rules Rows.coordinator _ coordinator_kept (g.rows (coordinator a) (agent e)));
      })
    where
      agent : step_exists s count (step_of 5 a j n c cf v) ≡ true → a < s.coordinators
      agent = exists_agent s count (step_of 5 a j n c cf v)
  by_code (suc (suc (suc (suc (suc (suc zero)))))) a j n c cf v e =
      mild_both Rows.rack Sent.two_s (block_at hall (racks_at + a)) (block_at hall (messages_at + j)) (λ r m. silent Rows.rack (stamp_for instance s a) (prepare_of a r m).refusal (prepare_of a r m).row)
      (λ is. subst Mild (sym (prepare_number a (body_of Rows.rack (block_at hall (racks_at + a))) (body_of Sent.two_s (block_at hall (messages_at + j))))) (mild_prepare (body_of Rows.rack (block_at hall (racks_at + a))) (body_of Sent.two_s (block_at hall (messages_at + j)))))
  by_code (suc (suc (suc (suc (suc (suc (suc zero))))))) a j n c cf v e =
      mild_both Rows.rack Sent.propose (block_at hall (racks_at + a)) (block_at hall (messages_at + j)) (λ r m. sending Rows.rack Sent.two_a (stamp_for instance s a) (fast_of a r m).refusal (fast_of a r m).row (fast_of a r m).sent)
      (λ is. subst Mild (sym (fast_number a (body_of Rows.rack (block_at hall (racks_at + a))) (body_of Sent.propose (block_at hall (messages_at + j))))) (mild_fast a (body_of Rows.rack (block_at hall (racks_at + a)))))
  by_code (suc (suc (suc (suc (suc (suc (suc (suc zero)))))))) a j n c cf v e =
      mild_both Rows.rack Sent.two_a (block_at hall (racks_at + a)) (block_at hall (messages_at + j)) (λ r m. sending Rows.rack Sent.two_a (stamp_for instance s a) (blank_of a r m).refusal (blank_of a r m).row (blank_of a r m).sent)
      (λ is. subst Mild (sym (blank_number a (body_of Rows.rack (block_at hall (racks_at + a))) (body_of Sent.two_a (block_at hall (messages_at + j))))) (mild_say_blank a (body_of Rows.rack (block_at hall (racks_at + a))) (body_of Sent.two_a (block_at hall (messages_at + j)))))
  by_code (suc (suc (suc (suc (suc (suc (suc (suc (suc zero))))))))) a j n c cf v e =
      mild_both Rows.box Sent.two_s (block_at hall (boxes_at + a)) (block_at hall (messages_at + j)) (λ r m. sending Rows.box Sent.two_b (stamp_for instance s a) (take_page_of r m).refusal (take_page_of r m).row (take_page_of r m).sent)
      (λ is. subst Mild (sym (take_page_number (body_of Rows.box (block_at hall (boxes_at + a))) (body_of Sent.two_s (block_at hall (messages_at + j))))) (mild_take_page (body_of Rows.box (block_at hall (boxes_at + a))) (body_of Sent.two_s (block_at hall (messages_at + j)))))
  by_code (suc (suc (suc (suc (suc (suc (suc (suc (suc (suc zero)))))))))) a j n c cf v e =
      mild_both Rows.box Sent.two_a (block_at hall (boxes_at + a)) (block_at hall (messages_at + j)) (λ r m. sending Rows.box Sent.two_b (stamp_for instance s a) (take_reading_of s r (agent_of (block_at hall (messages_at + j))) m).refusal (take_reading_of s r (agent_of (block_at hall (messages_at + j))) m).row (take_reading_of s r (agent_of (block_at hall (messages_at + j))) m).sent)
      (λ is. subst Mild (sym (take_reading_number s (body_of Rows.box (block_at hall (boxes_at + a))) (agent_of (block_at hall (messages_at + j))) (body_of Sent.two_a (block_at hall (messages_at + j))))) (mild_take_reading (body_of Rows.box (block_at hall (boxes_at + a))) (body_of Sent.two_a (block_at hall (messages_at + j)))))
  by_code (suc (suc (suc (suc (suc (suc (suc (suc (suc (suc (suc zero))))))))))) a j n c cf v e =
      mild_both Rows.reader Sent.two_b (block_at hall (readers_at + a)) (block_at hall (messages_at + j)) (λ r m. silent Rows.reader (stamp_for instance s a) (note_vote_of r (agent_of (block_at hall (messages_at + j))) m).refusal (note_vote_of r (agent_of (block_at hall (messages_at + j))) m).row)
      (λ is.
      record {
        low = subst Low (sym (note_vote_number (body_of Rows.reader (block_at hall (readers_at + a))) (agent_of (block_at hall (messages_at + j))) (body_of Sent.two_b (block_at hall (messages_at + j))))) (low_vote (held_at (body_of Rows.reader (block_at hall (readers_at + a))) (agent_of (block_at hall (messages_at + j)))) (body_of Sent.two_b (block_at hall (messages_at + j))));
        fits =
            note_vote_fits s range (fresh_view instance s range small) (whole instance s range small steps).reached.run a (agent_of (block_at hall (messages_at + j))) (body_of Sent.two_b (block_at hall (messages_at + j)))
            (exists_agent s count (step_of 11 a j n c cf v) e) (j, exists_message s count (step_of 11 a j n c cf v) e refl, two_b_post.reads (block_at hall (messages_at + j)) is);
      })
  by_code (suc (suc (suc (suc (suc (suc (suc (suc (suc (suc (suc (suc zero)))))))))))) a j n c cf v e =
      mild_both Rows.reader Sent.two_a (block_at hall (readers_at + a)) (block_at hall (messages_at + j)) (λ r m. silent Rows.reader (stamp_for instance s a) (note_blank_of r (agent_of (block_at hall (messages_at + j))) m).refusal (note_blank_of r (agent_of (block_at hall (messages_at + j))) m).row)
      (λ is. subst Mild (sym (note_blank_number (body_of Rows.reader (block_at hall (readers_at + a))) (agent_of (block_at hall (messages_at + j))) (body_of Sent.two_a (block_at hall (messages_at + j))))) (mild_blank (blank_at (body_of Rows.reader (block_at hall (readers_at + a))) (agent_of (block_at hall (messages_at + j)))) (body_of Sent.two_a (block_at hall (messages_at + j)))))
  by_code (suc (suc (suc (suc (suc (suc (suc (suc (suc (suc (suc (suc (suc zero))))))))))))) a j n c cf v e =
      mild_row Rows.reader (block_at hall (readers_at + a)) (λ r. silent Rows.reader (stamp_for instance s a) (counted_of s r (round_of n c cf)).refusal (counted_of s r (round_of n c cf)).row)
      (record {
        low = low_learn (counted_learns s (body_of Rows.reader (block_at hall (readers_at + a))) (round_of n c cf));
        fits =
            learn_fits s range (fresh_view instance s range small) (whole instance s range small steps).reached.run a (round_of n c cf) _
            (exists_agent s count (step_of 13 a j n c cf v) e) (counted_learns s (body_of Rows.reader (block_at hall (readers_at + a))) (round_of n c cf));
      })
  by_code (suc (suc (suc (suc (suc (suc (suc (suc (suc (suc (suc (suc (suc (suc code)))))))))))))) a j n c cf v e = absurd (omega (arith, (exists_range s count _ e).1))

  -- the hall's number
  pub number_mild : (x : Step) → Mild (hall_refusal hall x)
  number_mild x = ⊎_elim there (λ e. subst Mild (sym (no_such_step_lem g x e)) (record { low = inr (omega arith); fits = λ q. omega (arith, q) })) (decided (step_exists s count x))
    where
      there : step_exists s count x ≡ true → Mild (hall_refusal hall x)
      there e =
          subst Mild (sym (number_is g x e))
          (mild_unless (numbers_in_range s x) (record { low = inr (omega arith); fits = λ q. omega (arith, q) })
          (mild_unless (eqb (act_in g x).refusal granted) (by_code x.code x.agent x.message x.n x.c x.cf x.reading e)
          (mild_unless (fits (act_in g x).sends count) (record { low = inr (omega arith); fits = λ q. omega (arith, q) }) mild_0)))

  pub never_refused : (x : Step) → (hall_refusal hall x ≢ 1) × ((hall_refusal hall x ≢ 2) × ((hall_refusal hall x ≢ 3) × (hall_refusal hall x ≢ 9)))
  never_refused x = (λ e. low 1 (omega arith) (omega arith) e, (λ e. low 2 (omega arith) (omega arith) e, (λ e. low 3 (omega arith) (omega arith) e, (number_mild x).fits)))
    where
      low : (n : ℕ) → 0 < n → n < 4 → hall_refusal hall x ≡ n → ⊥
      low n p q e = ⊎_elim (λ z. omega (arith, z, e)) (λ z. omega (arith, z, e)) (number_mild x).low
