-- The invariant on bytes: every block that a step can name is good and of this hall. And the hall as the rows and messages that
-- its blocks hold.
use Rattle.std.proofs.Common.{ℕ, ◌+◌, ◌≤◌, ◌<◌, eqb, length, ◌≡◌, refl, subst, Bool, true, false, cond, List}
use Rattle.rounds.specs.declared.setup.Setup.{Setup}
use Rattle.rounds.specs.Setups.{setup_in_range}
use Rattle.words.specs.Bytes.{byte}
use Rattle.fields.proofs.Fitted.{Any}
use Rattle.blocks.specs.Kinds.{encode}
use Rattle.blocks.specs.Messages as Sent
use Rattle.blocks.proofs.MessageKinds.{one_a_kept, two_s_kept, two_a_kept}
use Rattle.blocks.specs.Rows as Rows
use Rattle.blocks.proofs.RowKinds.{coordinator_kept, box_kept, rack_kept}
use Rattle.kinds.specs.Known.{good_as}
use Rattle.acts.specs.Acts.{is_a, body_of, agent_of}
use Rattle.hall.specs.Halls.{hall_size, coordinators_at, boxes_at, racks_at, readers_at, messages_at, block_at}
use Rattle.hall.specs.Steps.{most_messages}
use Rattle.safety.proofs.TrueMessages.{Message, propose, one_a, one_b, two_s, two_a, two_b}
use Rattle.safety.proofs.Moved.{Agent, coordinator, box, rack, reader}
use Rattle.safety.proofs.Views.{View}
use Rattle.safety.proofs.StepsKeep.{Lawful, Ruled}
use Rattle.promise.proofs.GoodBlocks.{stamp_for, Good, OfHall, good_rules, good_agent, of_kind}

-- an agent's place, whether there is such an agent, and what its block must be
abbrev pub place_of : Agent → ℕ
place_of (coordinator c) = coordinators_at + c
place_of (box b) = boxes_at + b
place_of (rack k) = racks_at + k
place_of (reader i) = readers_at + i

abbrev pub Exists : Setup → Agent → Type 0
Exists s (coordinator c) = c < s.coordinators
Exists s (box b) = b < s.boxes
Exists s (rack k) = k < s.racks
Exists s (reader i) = i < s.readers

abbrev pub GoodRow : ℕ → Setup → Agent → List ℕ → Type 0
GoodRow instance s (coordinator c) block = Good Rows.coordinator (stamp_for instance s c) block
GoodRow instance s (box b) block = Good Rows.box (stamp_for instance s b) block
GoodRow instance s (rack k) block = Good Rows.rack (stamp_for instance s k) block
GoodRow instance s (reader i) block = Good Rows.reader (stamp_for instance s i) block

pub record GoodHall (instance : ℕ) (s : Setup) (count : ℕ) (hall : List ℕ) : Type 0 where
  pub long : length hall ≡ hall_size
  pub setup : setup_in_range s ≡ true
  pub small : instance ≤ 65535
  pub few : count ≤ most_messages
  pub head : block_at hall 0 ≡ encode Rows.head (stamp_for instance s 0) (record { count = count })
  pub rows : (who : Agent) → Exists s who → GoodRow instance s who (block_at hall (place_of who))
  pub posted : (j : ℕ) → j < count → OfHall instance s (block_at hall (messages_at + j))

-- the message that a block holds, by its kind
unfoldable pub message_as : ℕ → List ℕ → Message
message_as kind block =
    cond (eqb kind 1) (propose (agent_of block) (body_of Sent.propose block))
    (cond (eqb kind 2) (one_a (agent_of block) (body_of Sent.one_a block))
    (cond (eqb kind 3) (one_b (agent_of block) (body_of Sent.one_b block))
    (cond (eqb kind 4) (two_s (agent_of block) (body_of Sent.two_s block))
    (cond (eqb kind 5) (two_a (agent_of block) (body_of Sent.two_a block)) (two_b (agent_of block) (body_of Sent.two_b block))))))

abbrev pub message_in : List ℕ → Message
message_in block = message_as (byte block 2) block

abbrev pub view_of : ℕ → List ℕ → View
view_of count hall =
    record {
      coordinators = λ c. body_of Rows.coordinator (block_at hall (place_of (coordinator c)));
      boxes = λ b. body_of Rows.box (block_at hall (place_of (box b)));
      racks = λ k. body_of Rows.rack (block_at hall (place_of (rack k)));
      readers = λ i. body_of Rows.reader (block_at hall (place_of (reader i)));
      posted = λ m. (j : ℕ) × (j < count) × (message_in (block_at hall (messages_at + j)) ≡ m);
    }

module _ {instance : ℕ} {s : Setup} where
  -- a good message keeps the rules that the moves rest on
  lawful : (block : List ℕ) → OfHall instance s block → Lawful s (message_in block)
  unfolding message_as good_as
  lawful block h = go _ _ _ _ _ refl refl refl refl refl
    where
      a_two_a : is_a Sent.two_a block ≡ true → Good Sent.two_a (stamp_for instance s (agent_of block)) block
      a_two_a e = of_kind Sent.two_a Any two_a_kept refl h e

      go : (b1 b2 b3 b4 b5 : Bool) → eqb (byte block 2) 1 ≡ b1 → eqb (byte block 2) 2 ≡ b2 → eqb (byte block 2) 3 ≡ b3 → eqb (byte block 2) 4 ≡ b4 →
          eqb (byte block 2) 5 ≡ b5 →
          Lawful s
          (cond b1 (propose (agent_of block) (body_of Sent.propose block))
          (cond b2 (one_a (agent_of block) (body_of Sent.one_a block))
          (cond b3 (one_b (agent_of block) (body_of Sent.one_b block))
          (cond b4 (two_s (agent_of block) (body_of Sent.two_s block))
          (cond b5 (two_a (agent_of block) (body_of Sent.two_a block)) (two_b (agent_of block) (body_of Sent.two_b block)))))))
      go true b2 b3 b4 b5 e1 e2 e3 e4 e5 = tt
      go false true b3 b4 b5 e1 e2 e3 e4 e5 = good_rules Sent.one_a Any one_a_kept (of_kind Sent.one_a Any one_a_kept refl h e2)
      go false false true b4 b5 e1 e2 e3 e4 e5 = tt
      go false false false true b5 e1 e2 e3 e4 e5 = good_rules Sent.two_s _ two_s_kept (of_kind Sent.two_s _ two_s_kept refl h e4)
      go false false false false true e1 e2 e3 e4 e5 =
          (good_agent Sent.two_a Any two_a_kept (a_two_a e5), good_rules Sent.two_a Any two_a_kept (a_two_a e5))
      go false false false false false e1 e2 e3 e4 e5 = tt

  -- so the rows and messages of a good hall keep their rules
  pub hall_ruled : {count : ℕ} {hall : List ℕ} → GoodHall instance s count hall → Ruled s (view_of count hall)
  hall_ruled g =
      record {
        setup = g.setup;
        coordinators = λ c l. good_rules Rows.coordinator _ coordinator_kept (g.rows (coordinator c) l);
        boxes = λ b l. good_rules Rows.box _ box_kept (g.rows (box b) l);
        racks = λ k l. good_rules Rows.rack _ rack_kept (g.rows (rack k) l);
        posted = λ m p. subst (Lawful s) p.2 (lawful _ (g.posted p.0 p.1));
      }
