-- A granted step on the bytes, once for all thirteen: what its row and its message hold, and what the hall is after it.
use Rattle.std.proofs.Common.{ℕ, ◌+◌, ◌<◌, eqb, length, ◌≡◌, refl, sym, ap, subst, ◌∙◌, Bool, true, false, cond, ◌&&◌, List, [], arith, eqb-true, ltb-true}
use Rattle.below.specs.Refusals.{granted, wrong_message}
use Rattle.below.proofs.Tests.{and_right}
use Rattle.rounds.specs.declared.setup.Setup.{Setup}
use Rattle.records.specs.declared.stamp.Stamp.{Stamp}
use Rattle.words.specs.Bytes.{byte}
use Rattle.fields.proofs.Fitted.{Any}
use Rattle.blocks.specs.Frame.{block_size}
use Rattle.blocks.specs.Kinds as Kinds
use Rattle.blocks.specs.Kinds.{Kind, encode}
use Rattle.blocks.proofs.Kept.{Kept}
use Rattle.blocks.proofs.Ranges.{setup_fits}
use Rattle.blocks.specs.Messages as Sent
use Rattle.blocks.proofs.MessageKinds.{propose_kept, one_a_kept, one_b_kept, two_s_kept, two_a_kept, two_b_kept, Lined}
use Rattle.blocks.specs.Rows as Rows
use Rattle.blocks.proofs.RowKinds.{coordinator_kept, box_kept, rack_kept, reader_kept, CoordinatorShaped, ReaderShaped}
use Rattle.kinds.specs.Known.{good_as}
use Rattle.acts.specs.declared.step.Step.{Step}
use Rattle.acts.specs.Acts.{Act, refused, sending, silent, is_a, body_of, agent_of, on_row, on_both}
use Rattle.hall.specs.Halls.{block_at}
use Rattle.hall.specs.Steps.{most_messages, put_block, posted, row_place, granting, fits}
use Rattle.safety.proofs.TrueMessages.{Message, propose, one_a, one_b, two_s, two_a, two_b}
use Rattle.safety.proofs.Moved.{Agent, coordinator, box, rack, reader}
use Rattle.safety.proofs.Views.{Changes}
use Rattle.safety.proofs.StepsKeep.{Only, Nothing}
use Rattle.promise.proofs.GoodBlocks.{stamp_for, Good, good_is, encoded_good, encoded_body, of_hall}
use Rattle.promise.proofs.GoodHalls.{place_of, Exists, GoodRow, GoodHall, message_as, message_in, view_of}
use Rattle.promise.proofs.Written.{Wrote, place_in, wrote_silent, wrote_sending, good_after, hall_changes}
use Rattle.promise.proofs.HallNumbers.{act_in, act_is, HallGranted}

-- the kinds of rows and of messages, as the steps use them
pub record RowKind {R : Type 0} (k : Kind R) (Shaped : R → Type 0) (who : ℕ → Agent) : Type 0 where
  pub laws : Kept k Shaped
  pub there : (s : Setup) (a : ℕ) → a < k.agents s → Exists s (who a)
  pub mine : (instance : ℕ) (s : Setup) (a : ℕ) (block : List ℕ) → Good k (stamp_for instance s a) block → GoodRow instance s (who a) block

pub record PostKind {O : Type 0} (o : Kind O) (Shaped : O → Type 0) (message : ℕ → O → Message) : Type 0 where
  pub laws : Kept o Shaped
  pub named : (block : List ℕ) → good_as o.number block ≡ Kinds.good o block
  pub reads : (block : List ℕ) → is_a o block ≡ true → message_in block ≡ message (agent_of block) (body_of o block)

pub coordinator_row : RowKind Rows.coordinator CoordinatorShaped coordinator
coordinator_row = record { laws = coordinator_kept; there = λ s a l. l; mine = λ i s a b h. h }

pub box_row : RowKind Rows.box (λ r. Lined r.vval.page) box
box_row = record { laws = box_kept; there = λ s a l. l; mine = λ i s a b h. h }

pub rack_row : RowKind Rows.rack Any rack
rack_row = record { laws = rack_kept; there = λ s a l. l; mine = λ i s a b h. h }

pub reader_row : RowKind Rows.reader ReaderShaped reader
reader_row = record { laws = reader_kept; there = λ s a l. l; mine = λ i s a b h. h }

by_kind : (block : List ℕ) (n : ℕ) → eqb (byte block 2) n ≡ true → message_in block ≡ message_as n block
by_kind block n e = ap (λ (kind : ℕ). message_as kind block) (eqb-true (byte block 2) n e)

pub propose_post : PostKind Sent.propose Any propose
unfolding good_as message_as
propose_post = record { laws = propose_kept; named = λ b. refl; reads = λ b e. by_kind b 1 e }

pub one_a_post : PostKind Sent.one_a Any one_a
unfolding good_as message_as
one_a_post = record { laws = one_a_kept; named = λ b. refl; reads = λ b e. by_kind b 2 e }

pub one_b_post : PostKind Sent.one_b (λ m. Lined m.vote.page) one_b
unfolding good_as message_as
one_b_post = record { laws = one_b_kept; named = λ b. refl; reads = λ b e. by_kind b 3 e }

pub two_s_post : PostKind Sent.two_s (λ m. Lined m.page) two_s
unfolding good_as message_as
two_s_post = record { laws = two_s_kept; named = λ b. refl; reads = λ b e. by_kind b 4 e }

pub two_a_post : PostKind Sent.two_a Any two_a
unfolding good_as message_as
two_a_post = record { laws = two_a_kept; named = λ b. refl; reads = λ b e. by_kind b 5 e }

pub two_b_post : PostKind Sent.two_b (λ m. Lined m.page) two_b
unfolding good_as message_as
two_b_post = record { laws = two_b_kept; named = λ b. refl; reads = λ b e. by_kind b 6 e }

-- where a step is granted, its row and its message are of the kinds that it names
pub on_row_lem : {R : Type 0} (k : Kind R) (row : List ℕ) (act : R → Act) → (on_row k row act).refusal ≡ granted → on_row k row act ≡ act (body_of k row)
on_row_lem k row act h = go (is_a k row) h
  where
    go : (b : Bool) → (cond b (act (body_of k row)) (refused wrong_message)).refusal ≡ granted → cond b (act (body_of k row)) (refused wrong_message) ≡ act (body_of k row)
    go true e = refl
    go false e = absurd (omega (arith, e))

pub on_both_lem : {R M : Type 0} (k : Kind R) (m : Kind M) (row message : List ℕ) (act : R → M → Act) → (on_both k m row message act).refusal ≡ granted →
    (is_a m message ≡ true) × (on_both k m row message act ≡ act (body_of k row) (body_of m message))
on_both_lem k m row message act h = go (is_a k row && is_a m message) refl h
  where
    go : (b : Bool) → is_a k row && is_a m message ≡ b → (cond b (act (body_of k row) (body_of m message)) (refused wrong_message)).refusal ≡ granted →
        (is_a m message ≡ true) × (cond b (act (body_of k row) (body_of m message)) (refused wrong_message) ≡ act (body_of k row) (body_of m message))
    go true e g = (and_right (is_a k row) _ e, refl)
    go false e g = absurd (omega (arith, g))

-- the hall after a step of `who`
pub record Done {R : Type 0} (instance : ℕ) (s : Setup) (k : Kind R) (body : R) (who : Agent) (New : Message → Type 0) (count count' : ℕ) (hall hall' : List ℕ) : Type 0 where
  pub good : GoodHall instance s count' hall'
  pub changes : Changes s who New (view_of count hall) (view_of count' hall')
  pub own : body_of k (block_at hall' (place_of who)) ≡ body

module _ {instance : ℕ} {s : Setup} {count : ℕ} {hall : List ℕ} (g : GoodHall instance s count hall) (x : Step) (f : HallGranted g x) where
  granting_is : granting hall x ≡ put_block (row_place x) (act_in g x).row (cond (act_in g x).sends (posted (act_in g x).sent hall) hall)
  unfolding granting
  granting_is = ap (λ (a : Act). put_block (row_place x) a.row (cond a.sends (posted a.sent hall) hall)) (act_is g x f.exists)

  module _ {R : Type 0} (k : Kind R) (Shaped : R → Type 0) (who : ℕ → Agent) (row : RowKind k Shaped who) (a : ℕ) (l : a < k.agents s) (place : row_place x ≡ place_of (who a)) (body : R)
      (rules : k.rules s a body ≡ true) (shaped : Shaped body) where
    after : Good k (stamp_for instance s a) (encode k (stamp_for instance s a) body)
    after = encoded_good k Shaped row.laws body g.setup g.small l rules shaped

    reads_back : body_of k (encode k (stamp_for instance s a) body) ≡ body
    reads_back = encoded_body k Shaped row.laws body g.setup g.small l rules shaped

    here : Exists s (who a)
    here = row.there s a l

    pub silent_done : {number : ℕ} → act_in g x ≡ silent k (stamp_for instance s a) number body → Done instance s k body (who a) Nothing count count hall (granting hall x)
    silent_done {number} e =
        record {
          good = good_after g (who a) here wrote (row.mine _ _ _ _ after) (λ m. absurd (omega arith));
          changes = hall_changes g (who a) here wrote Nothing (λ m. absurd (omega arith));
          own = ap (body_of k) wrote.own ∙ reads_back;
        }
      where
        hall_is : granting hall x ≡ put_block (place_of (who a)) (encode k (stamp_for instance s a) body) hall
        hall_is =
            granting_is ∙ ap (λ (y : Act). put_block (row_place x) y.row (cond y.sends (posted y.sent hall) hall)) e ∙
            ap (λ (p : ℕ). put_block p (encode k (stamp_for instance s a) body) hall) place

        wrote : Wrote instance s (place_of (who a)) (encode k (stamp_for instance s a) body) [] count count hall (granting hall x)
        wrote =
            subst (Wrote instance s (place_of (who a)) (encode k (stamp_for instance s a) body) [] count count hall) (sym hall_is)
            (wrote_silent g (place_of (who a)) _ (place_in s (setup_fits s g.setup) (who a) here).0 (place_in s (setup_fits s g.setup) (who a) here).1
            (row.laws.long _ _) [])

    module _ {O : Type 0} (o : Kind O) (ShapedO : O → Type 0) (message : ℕ → O → Message) (post : PostKind o ShapedO message) (out : O) (lo : a < o.agents s)
        (rules-o : o.rules s a out ≡ true) (shaped-o : ShapedO out) where
      sent : Good o (stamp_for instance s a) (encode o (stamp_for instance s a) out)
      sent = encoded_good o ShapedO post.laws out g.setup g.small lo rules-o shaped-o

      sent_is : message_in (encode o (stamp_for instance s a) out) ≡ message a out
      sent_is =
          post.reads _ (good_is o ShapedO post.laws sent) ∙
          ap (λ (b : ℕ). message b (body_of o (encode o (stamp_for instance s a) out))) (ap (λ (h : Stamp). h.agent) sent.stamped) ∙
          ap (message a) (encoded_body o ShapedO post.laws out g.setup g.small lo rules-o shaped-o)

      -- a row that is written, or left as it was (offer), and a message
      pub posting_done : (block : List ℕ) → Good k (stamp_for instance s a) block → length block ≡ block_size → body_of k block ≡ body → {number : ℕ} →
          act_in g x ≡ record { refusal = number; row = block; sends = true; sent = encode o (stamp_for instance s a) out } →
          Done instance s k body (who a) (Only (message a out)) count (count + 1) hall (granting hall x)
      posting_done block fine size is {number} e =
          record {
            good = good_after g (who a) here wrote (row.mine _ _ _ _ fine) (λ m. of_hall o ShapedO post.laws (post.named _) sent);
            changes = hall_changes g (who a) here wrote (Only (message a out)) (λ c m h. sym sent_is ∙ h);
            own = ap (body_of k) wrote.own ∙ is;
          }
        where
          hall_is : granting hall x ≡ put_block (place_of (who a)) block (posted (encode o (stamp_for instance s a) out) hall)
          hall_is =
              granting_is ∙ ap (λ (y : Act). put_block (row_place x) y.row (cond y.sends (posted y.sent hall) hall)) e ∙
              ap (λ (p : ℕ). put_block p block (posted (encode o (stamp_for instance s a) out) hall)) place

          room : count < most_messages
          room = ltb-true _ _ (ap (λ (y : Act). fits y.sends count) (sym e) ∙ f.room)

          wrote : Wrote instance s (place_of (who a)) block (encode o (stamp_for instance s a) out) count (count + 1) hall (granting hall x)
          wrote =
              subst (Wrote instance s (place_of (who a)) block (encode o (stamp_for instance s a) out) count (count + 1) hall) (sym hall_is)
              (wrote_sending g (place_of (who a)) block (place_in s (setup_fits s g.setup) (who a) here).0
              (place_in s (setup_fits s g.setup) (who a) here).1 size (encode o (stamp_for instance s a) out) room (post.laws.long _ _))

      pub sending_done : {number : ℕ} → act_in g x ≡ sending k o (stamp_for instance s a) number body out →
          Done instance s k body (who a) (Only (message a out)) count (count + 1) hall (granting hall x)
      sending_done e = posting_done _ after (row.laws.long _ _) reads_back e
