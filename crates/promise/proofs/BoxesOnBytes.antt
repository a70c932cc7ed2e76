-- The steps of boxes on the bytes of a good hall: join, take page, take reading.
use Rattle.std.proofs.Common.{ℕ, ◌+◌, ◌<◌, ◌≡◌, refl, true, inl, List}
use Rattle.below.proofs.Rows.{length-row}
use Rattle.pages.specs.Racks.{most_racks}
use Rattle.rounds.specs.declared.setup.Setup.{Setup}
use Rattle.records.specs.declared.messages.OneA.{OneA}
use Rattle.records.specs.declared.messages.TwoS.{TwoS}
use Rattle.records.specs.declared.messages.TwoA.{TwoA}
use Rattle.records.specs.declared.rows.BoxRow.{BoxRow}
use Rattle.blocks.specs.Messages as Sent
use Rattle.blocks.proofs.MessageKinds.{Lined}
use Rattle.blocks.specs.Rows as Rows
use Rattle.blocks.proofs.RowKinds.{box_kept}
use Rattle.boxes.specs.Steps.{join_of, take_page_of, take_reading_of}
use Rattle.boxes.proofs.RulesKept.{join_keeps, take_page_keeps, take_reading_keeps}
use Rattle.boxes.proofs.Shape.{join_shape, take_page_shape, take_reading_shape}
use Rattle.acts.specs.declared.step.Step.{Step}
use Rattle.acts.specs.Acts.{body_of, agent_of, sending, join_act, take_page_act, take_reading_act, act_of}
use Rattle.hall.specs.Halls.{boxes_at, messages_at, block_at}
use Rattle.hall.specs.Steps.{rows_at, agents_for}
use Rattle.safety.proofs.TrueMessages.{one_a, one_b, two_s, two_a, two_b}
use Rattle.safety.proofs.Moved.{box}
use Rattle.safety.proofs.StepsKeep as Grants
use Rattle.safety.proofs.PagesChange.{box_apart}
use Rattle.promise.proofs.GoodBlocks.{stamp_for, good_agent, good_rules}
use Rattle.promise.proofs.GoodHalls.{GoodHall}
use Rattle.hall.proofs.StepFacts.{exists_agent, exists_message}
use Rattle.promise.proofs.HallNumbers.{HallGranted}
use Rattle.promise.proofs.OneStep.{box_row, one_a_post, one_b_post, two_s_post, two_a_post, two_b_post, sending_done}
use Rattle.promise.proofs.Stepped.{step_of, Stepped, by_other, handed}

module _ {instance : ℕ} {s : Setup} {count : ℕ} {hall : List ℕ} (g : GoodHall instance s count hall) (a j n c cf v : ℕ) where
  abbrev own : BoxRow
  own = body_of Rows.box (block_at hall (boxes_at + a))

  abbrev message : List ℕ
  message = block_at hall (messages_at + j)

  own_rules_lem : a < s.boxes → (Rows.box).rules s a own ≡ true
  own_rules_lem l = good_rules Rows.box _ box_kept (g.rows (box a) l)

  own_shape : Lined own.vval.page
  own_shape = length-row most_racks _

  pub join_stepped : HallGranted g (step_of 3 a j n c cf v) → Stepped instance s count hall (step_of 3 a j n c cf v)
  unfolding act_of join_act rows_at agents_for
  join_stepped f =
      let x : Step = step_of 3 a j n c cf v in
      let l : a < s.boxes = exists_agent s count x f.exists in
      let b =
      handed g x f Rows.box (boxes_at + a) Sent.one_a _ one_a one_a_post j (exists_message s count x f.exists refl)
      (λ r m. sending Rows.box Sent.one_b (stamp_for instance s a) (join_of r m).refusal (join_of r m).row (join_of r m).sent) refl in
      let m : OneA = body_of Sent.one_a message in
      let keeps = join_keeps s a (agent_of message) own m (own_rules_lem l) (good_rules Sent.one_a _ one_a_post.laws b.good) b.number in
      let shape = join_shape own m own_shape in
      let done =
      sending_done g x f Rows.box _ box box_row a l refl (join_of own m).row keeps.0 shape.0 Sent.one_b _ one_b one_b_post (join_of own m).sent l keeps.1
      shape.1 b.act_is in
      record {
        good = done.good;
        grants = Grants.join a (agent_of message) m l b.posted b.number done.own done.changes;
        pages = λ i e. inl (by_other done.changes i e (box_apart a i));
      }

  pub take_page_stepped : HallGranted g (step_of 9 a j n c cf v) → Stepped instance s count hall (step_of 9 a j n c cf v)
  unfolding act_of take_page_act rows_at agents_for
  take_page_stepped f =
      let x : Step = step_of 9 a j n c cf v in
      let l : a < s.boxes = exists_agent s count x f.exists in
      let b =
      handed g x f Rows.box (boxes_at + a) Sent.two_s _ two_s two_s_post j (exists_message s count x f.exists refl)
      (λ r m. sending Rows.box Sent.two_b (stamp_for instance s a) (take_page_of r m).refusal (take_page_of r m).row (take_page_of r m).sent) refl in
      let m : TwoS = body_of Sent.two_s message in
      let keeps = take_page_keeps s a (agent_of message) own m (good_rules Sent.two_s _ two_s_post.laws b.good) b.number in
      let shape = take_page_shape own m own_shape (length-row most_racks _) in
      let done =
      sending_done g x f Rows.box _ box box_row a l refl (take_page_of own m).row keeps.0 shape.0 Sent.two_b _ two_b two_b_post (take_page_of own m).sent l keeps.1
      shape.1 b.act_is in
      record {
        good = done.good;
        grants = Grants.take_page a (agent_of message) m l b.posted b.number done.own done.changes;
        pages = λ i e. inl (by_other done.changes i e (box_apart a i));
      }

  pub take_reading_stepped : HallGranted g (step_of 10 a j n c cf v) → Stepped instance s count hall (step_of 10 a j n c cf v)
  unfolding act_of take_reading_act rows_at agents_for
  take_reading_stepped f =
      let x : Step = step_of 10 a j n c cf v in
      let l : a < s.boxes = exists_agent s count x f.exists in
      let k : ℕ = agent_of message in
      let b =
      handed g x f Rows.box (boxes_at + a) Sent.two_a _ two_a two_a_post j (exists_message s count x f.exists refl)
      (λ r m. sending Rows.box Sent.two_b (stamp_for instance s a) (take_reading_of s r k m).refusal (take_reading_of s r k m).row (take_reading_of s r k m).sent) refl in
      let m : TwoA = body_of Sent.two_a message in
      let keeps =
      take_reading_keeps s a own k m g.setup (good_agent Sent.two_a _ two_a_post.laws b.good) (own_rules_lem l)
      (good_rules Sent.two_a _ two_a_post.laws b.good) b.number in
      let shape = take_reading_shape s own k m own_shape in
      let done =
      sending_done g x f Rows.box _ box box_row a l refl (take_reading_of s own k m).row keeps.0 shape.0 Sent.two_b _ two_b two_b_post
      (take_reading_of s own k m).sent l keeps.1 shape.1 b.act_is in
      record {
        good = done.good;
        grants = Grants.take_reading a k m l b.posted b.number done.own done.changes;
        pages = λ i e. inl (by_other done.changes i e (box_apart a i));
      }
