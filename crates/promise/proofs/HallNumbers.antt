-- What a good hall answers: 1, 2 and 3 are out, so the number is 4, 11, the act's own, or 10; and what is known where it is 0.
use Rattle.std.proofs.Common.{ℕ, ◌+◌, ◌<◌, arith, eqb, ◌≡◌, refl, sym, ap, subst, ◌∙◌, Bool, true, false, cond, not, ◌&&◌, ◌||◌, ⊎_elim, List, eq-eqb}
use Rattle.below.specs.Refusals.{unless, granted, wrong_length, bad_block, other_hall, no_such_step, post_full, out_of_range}
use Rattle.below.proofs.Tests.{and_true, or_true_right, or_true_left, decided}
use Rattle.below.proofs.Granted.{unless_held, unless_later}
use Rattle.rounds.specs.declared.setup.Setup.{Setup}
use Rattle.records.specs.declared.stamp.Stamp.{Stamp}
use Rattle.blocks.specs.Kinds.{good}
use Rattle.blocks.specs.Rows as Rows
use Rattle.blocks.proofs.RowKinds.{coordinator_kept, box_kept, rack_kept, reader_kept}
use Rattle.kinds.specs.Known.{good_as}
use Rattle.acts.specs.declared.step.Step.{Step}
use Rattle.acts.specs.Acts.{Act, act_of}
use Rattle.acts.specs.Named.{is_good, stamp_of, same_hall, names, own_act, named_refusal}
use Rattle.hall.specs.Halls.{coordinators_at, boxes_at, racks_at, readers_at, block_at}
use Rattle.hall.specs.Steps.{by_rack, by_coordinator, by_box, rows_at, agents_for, step_exists, numbers_in_range, head_of, count_of, row_place, row_of, message_of, hall_act, fits, hall_refusal}
use Rattle.hall.proofs.StepFacts.{exists_agent, exists_message, own_number}
use Rattle.safety.proofs.Moved.{Agent, coordinator, box, rack, reader}
use Rattle.promise.proofs.GoodBlocks.{stamp_for, OfHall, same_hall_lem, of_hall}
use Rattle.promise.proofs.GoodHalls.{place_of, Exists, GoodRow, GoodHall}
use Rattle.promise.proofs.Written.{head_good, head_is, count_is}

-- the agent that a step names
abbrev who_of : Step → Agent
who_of x =
    cond (by_rack x.code) (rack x.agent) (cond (by_coordinator x.code) (coordinator x.agent) (cond (by_box x.code) (box x.agent) (reader x.agent)))

named_place : (x : Step) → row_place x ≡ place_of (who_of x)
unfolding rows_at
named_place x = go (by_rack x.code) (by_coordinator x.code) (by_box x.code)
  where
    go : (a b c : Bool) → cond a racks_at (cond b coordinators_at (cond c boxes_at readers_at)) + x.agent ≡
        place_of (cond a (rack x.agent) (cond b (coordinator x.agent) (cond c (box x.agent) (reader x.agent))))
    go true b c = refl
    go false true c = refl
    go false false true = refl
    go false false false = refl

named_exists : (s : Setup) (x : Step) → x.agent < agents_for s x.code → Exists s (who_of x)
unfolding agents_for
named_exists s x l = go (by_rack x.code) (by_coordinator x.code) (by_box x.code) l
  where
    go : (a b c : Bool) → x.agent < cond a s.racks (cond b s.coordinators (cond c s.boxes s.readers)) →
        Exists s (cond a (rack x.agent) (cond b (coordinator x.agent) (cond c (box x.agent) (reader x.agent))))
    go true b c m = m
    go false true c m = m
    go false false true m = m
    go false false false m = m

-- a good row of whichever agent
pub record GoodNamed (instance : ℕ) (s : Setup) (agent : ℕ) (block : List ℕ) : Type 0 where
  pub of : OfHall instance s block
  pub stamped : stamp_of block ≡ stamp_for instance s agent

named_good : {instance : ℕ} {s : Setup} (x : Step) (block : List ℕ) → GoodRow instance s (who_of x) block → GoodNamed instance s x.agent block
unfolding good_as
named_good {instance} {s} x block g = go (by_rack x.code) (by_coordinator x.code) (by_box x.code) g
  where
    go : (a b c : Bool) → GoodRow instance s (cond a (rack x.agent) (cond b (coordinator x.agent) (cond c (box x.agent) (reader x.agent)))) block →
        GoodNamed instance s x.agent block
    go true b c h = record { of = of_hall Rows.rack _ rack_kept refl h; stamped = h.stamped }
    go false true c h = record { of = of_hall Rows.coordinator _ coordinator_kept refl h; stamped = h.stamped }
    go false false true h = record { of = of_hall Rows.box _ box_kept refl h; stamped = h.stamped }
    go false false false h = record { of = of_hall Rows.reader _ reader_kept refl h; stamped = h.stamped }

module _ {instance : ℕ} {s : Setup} {count : ℕ} {hall : List ℕ} (g : GoodHall instance s count hall) (x : Step) where
  -- the act, with the stamp that the row has
  abbrev pub act_in : Act
  act_in = act_of (stamp_for instance s x.agent) x (row_of hall x) (message_of hall x)

  -- what the number is after 1 and 2 for the head, and after 4
  rest : Stamp → ℕ → ℕ
  rest h n =
      unless (numbers_in_range h.setup x) out_of_range
      (unless (eqb (named_refusal (record { instance = h.instance; setup = h.setup; agent = x.agent }) granted x (row_of hall x) (message_of hall x)) granted)
      (named_refusal (record { instance = h.instance; setup = h.setup; agent = x.agent }) granted x (row_of hall x) (message_of hall x))
      (unless (fits (hall_act hall x).sends n) post_full granted))

  chain : Stamp → ℕ → ℕ
  chain h n = unless (step_exists h.setup n x) no_such_step (rest h n)

  past_head : hall_refusal hall x ≡ chain (stamp_for instance s 0) count
  unfolding hall_refusal chain rest
  past_head =
      ap (λ (b : Bool). unless b wrong_length (unless (good Rows.head (block_at hall 0)) bad_block (chain (head_of hall) (count_of hall)))) (eq-eqb _ _ g.long) ∙
      ap (λ (b : Bool). unless b bad_block (chain (head_of hall) (count_of hall))) (head_good g).good ∙ ap (λ (h : Stamp). chain h (count_of hall)) (head_is g) ∙
      ap (λ (n : ℕ). chain (stamp_for instance s 0) n) (count_is g)

  pub no_such_step_lem : step_exists s count x ≡ false → hall_refusal hall x ≡ no_such_step
  unfolding chain
  no_such_step_lem e = past_head ∙ rw e

  module _ (exists : step_exists s count x ≡ true) where
    pub named_row : GoodNamed instance s x.agent (row_of hall x)
    named_row =
        subst (λ (p : ℕ). GoodNamed instance s x.agent (block_at hall p)) (sym (named_place x))
        (named_good x _ (g.rows (who_of x) (named_exists s x (exists_agent s count x exists))))

    named_message : names x.code ≡ true → OfHall instance s (message_of hall x)
    named_message n = g.posted x.message (exists_message s count x exists n)

    pub act_is : hall_act hall x ≡ act_in
    unfolding hall_act
    act_is = ap (λ (h : Stamp). act_of h x (row_of hall x) (message_of hall x)) named_row.stamped

    named_is : named_refusal (stamp_for instance s x.agent) granted x (row_of hall x) (message_of hall x) ≡ (hall_act hall x).refusal
    unfolding named_refusal hall_act
    named_is =
        ap (λ (b : Bool). unless b bad_block (unless message_good bad_block (unless row_of_lem other_hall (unless message_of_lem other_hall number)))) named_row.of.good ∙
        ap (λ (b : Bool). unless b bad_block (unless row_of_lem other_hall (unless message_of_lem other_hall number))) (either (λ n. (named_message n).good)) ∙
        ap (λ (b : Bool). unless b other_hall (unless message_of_lem other_hall number))
        (and_true (same_hall_lem (stamp_for instance s x.agent) (stamp_of (row_of hall x)) (ap (λ (h : Stamp). h.instance.0) (sym named_row.stamped)) (ap (λ (h : Stamp). h.setup) (sym named_row.stamped)))
        (eq-eqb _ _ (ap (λ (h : Stamp). h.agent) named_row.stamped))) ∙
        ap (λ (b : Bool). unless b other_hall number)
        (either
        (λ n.
        same_hall_lem (stamp_for instance s x.agent) (stamp_of (message_of hall x)) (ap (λ (h : Stamp). h.instance.0) (sym (named_message n).stamped)) (ap (λ (h : Stamp). h.setup) (sym (named_message n).stamped))))
      where
        number : ℕ
        number = (own_act x (row_of hall x) (message_of hall x)).refusal

        message_good : Bool
        message_good = not (names x.code) || is_good (message_of hall x)

        row_of_lem : Bool
        row_of_lem = same_hall (stamp_for instance s x.agent) (stamp_of (row_of hall x)) && eqb (stamp_of (row_of hall x)).agent x.agent

        message_of_lem : Bool
        message_of_lem = not (names x.code) || same_hall (stamp_for instance s x.agent) (stamp_of (message_of hall x))

        either : {b : Bool} → (names x.code ≡ true → b ≡ true) → not (names x.code) || b ≡ true
        either {b} f = ⊎_elim (λ e. or_true_right (not (names x.code)) (f e)) (λ e. or_true_left b (ap not e)) (decided (names x.code))

    -- the number, given that there is such a step
    pub number_is : hall_refusal hall x ≡
        unless (numbers_in_range s x) out_of_range (unless (eqb act_in.refusal granted) act_in.refusal (unless (fits act_in.sends count) post_full granted))
    unfolding chain rest
    number_is =
        past_head ∙ ap (λ (b : Bool). unless b no_such_step (rest (stamp_for instance s 0) count)) exists ∙
        ap (λ (n : ℕ). unless (numbers_in_range s x) out_of_range (unless (eqb n granted) n (unless (fits (hall_act hall x).sends count) post_full granted))) named_is ∙
        ap (λ (a : Act). unless (numbers_in_range s x) out_of_range (unless (eqb a.refusal granted) a.refusal (unless (fits a.sends count) post_full granted))) act_is

-- where the number is 0
pub record HallGranted {instance : ℕ} {s : Setup} {count : ℕ} {hall : List ℕ} (g : GoodHall instance s count hall) (x : Step) : Type 0 where
  pub exists : step_exists s count x ≡ true
  pub range : numbers_in_range s x ≡ true
  pub act : (act_in g x).refusal ≡ granted
  pub room : fits (act_in g x).sends count ≡ true

pub hall_granted : {instance : ℕ} {s : Setup} {count : ℕ} {hall : List ℕ} (g : GoodHall instance s count hall) (x : Step) → hall_refusal hall x ≡ granted →
    HallGranted g x
hall_granted {s = s} {count = count} g x h = ⊎_elim go (λ e. absurd (omega (arith, sym (no_such_step_lem g x e) ∙ h))) (decided (step_exists s count x))
  where
    go : step_exists s count x ≡ true → HallGranted g x
    go e =
        record {
          exists = e;
          range = unless_held (numbers_in_range s x) out_of_range _ (omega arith) number;
          act = own.0;
          room = unless_held (fits (act_in g x).sends count) post_full granted (omega arith) own.1;
        }
      where
        number : unless (numbers_in_range s x) out_of_range (unless (eqb (act_in g x).refusal granted) (act_in g x).refusal (unless (fits (act_in g x).sends count) post_full granted)) ≡ granted
        number = sym (number_is g x e) ∙ h

        own : ((act_in g x).refusal ≡ granted) × (unless (fits (act_in g x).sends count) post_full granted ≡ granted)
        own = own_number (act_in g x).refusal _ (unless_later (numbers_in_range s x) out_of_range _ (omega arith) number)
