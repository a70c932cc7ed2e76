-- Which rows a code's agents have, and that what a step names lies within the hall.
use Rattle.std.proofs.Common.{ℕ, ◌+◌, ◌≤◌, ◌<◌, arith, eqb, leb, le-leb, ne_eqb, ◌≡◌, refl, sym, subst, Bool, true, false, cond, ◌&&◌, ◌||◌, ◌⊎◌, inl, inr}
use borrow.Author.Tests.{lt-leb}
use Rattle.below.proofs.Tests.{and_true, and_false_right, or_true_right}
use Rattle.rounds.specs.declared.setup.Setup.{Setup}
use Rattle.blocks.proofs.Ranges.{SetupFits}
use Rattle.acts.specs.declared.step.Step.{Step}
use Rattle.acts.specs.Named.{names}
use Rattle.hall.specs.Halls.{coordinators_at, boxes_at, racks_at, readers_at, messages_at, blocks_of_hall}
use Rattle.hall.proofs.StepFacts.{exists_message}
use Rattle.hall.specs.Steps.{by_rack, by_coordinator, by_box, rows_at, agents_for, step_exists, row_place, most_messages}

-- a row's place is before the messages
pub row_within : (s : Setup) (f : SetupFits s) (x : Step) → x.agent < agents_for s x.code → row_place x < messages_at
unfolding rows_at agents_for
row_within s f x l = go (by_rack x.code) (by_coordinator x.code) (by_box x.code) l
  where
    go : (a b c : Bool) → x.agent < cond a s.racks (cond b s.coordinators (cond c s.boxes s.readers)) →
        cond a racks_at (cond b coordinators_at (cond c boxes_at readers_at)) + x.agent < messages_at
    go true b c m = omega (arith, f.racks)
    go false true c m = omega (arith, f.coordinators)
    go false false true m = omega (arith, f.boxes)
    go false false false m = omega (arith, f.readers)

module _ (s : Setup) (count : ℕ) (x : Step) (exists : step_exists s count x ≡ true) where
  pub message_within : count ≤ most_messages → cond (names x.code) (messages_at + x.message) messages_at < blocks_of_hall
  message_within few = go (names x.code) (exists_message s count x exists)
    where
      go : (b : Bool) → (b ≡ true → x.message < count) → cond b (messages_at + x.message) messages_at < blocks_of_hall
      go true m = omega (arith, m refl, few)
      go false m = omega arith

-- which rows, by the ways through the code
abbrev RowsAre : Setup → ℕ → ℕ → ℕ → Type 0
RowsAre s code first agents = (first ≡ rows_at code) × (agents ≡ agents_for s code)

module _ (s : Setup) (code : ℕ) where
  rows_by : (a b c : Bool) → by_rack code ≡ a → by_coordinator code ≡ b → by_box code ≡ c →
      RowsAre s code (cond a racks_at (cond b coordinators_at (cond c boxes_at readers_at))) (cond a s.racks (cond b s.coordinators (cond c s.boxes s.readers)))
  unfolding rows_at agents_for
  rows_by a b c p q r = (rw (p, q, r), rw (p, q, r))

  -- one code, and a span of codes, is passed by a test or not
  not_in : {low high : ℕ} → (code < low) ⊎ (high < code) → leb low code && leb code high ≡ false
  not_in {low} {high} (inl l) = rw (lt-leb low code l)
  not_in {low} {high} (inr l) = and_false_right (leb low code) (lt-leb code high l)

  within : {low high : ℕ} → low ≤ code → code ≤ high → leb low code && leb code high ≡ true
  within {low} {high} l h = and_true (le-leb low code l) (le-leb code high h)

  no_test : {one low high : ℕ} → (code ≡ one → ⊥) → (code < low) ⊎ (high < code) → eqb code one || (leb low code && leb code high) ≡ false
  no_test {one} n o = rw (ne_eqb code one n) (not_in o)

  pub rack_span : 6 ≤ code → code < 9 → RowsAre s code racks_at s.racks
  rack_span l h = rows_by true _ _ (or_true_right (eqb code 1) (within l (omega arith))) refl refl

  pub coordinator_span : (code ≡ 1 → ⊥) → (code ≡ 2 → ⊥) → (code ≡ 3 → ⊥) → 1 ≤ code → code < 6 → RowsAre s code coordinators_at s.coordinators
  coordinator_span n1 n2 n3 l h =
      rows_by false true _ (no_test n1 (inl (omega arith))) (or_true_right (eqb code 2) (within (omega (arith, n1, n2, n3)) (omega arith))) refl

  pub box_span : 9 ≤ code → code < 11 → RowsAre s code boxes_at s.boxes
  box_span l h =
      rows_by false false true (no_test (λ e. omega (arith, e)) (inr (omega arith))) (no_test (λ e. omega (arith, e)) (inr (omega arith)))
      (or_true_right (eqb code 3) (within l (omega arith)))

  pub reader_span : 11 ≤ code → RowsAre s code readers_at s.readers
  reader_span l =
      rows_by false false false (no_test (λ e. omega (arith, e)) (inr (omega arith))) (no_test (λ e. omega (arith, e)) (inr (omega arith)))
      (no_test (λ e. omega (arith, e)) (inr (omega arith)))

pub rows_at_lem : {first agents : ℕ} (s : Setup) (code k : ℕ) → code ≡ k → RowsAre s k first agents → RowsAre s code first agents
rows_at_lem {first} {agents} s code k e h = subst (λ (j : ℕ). RowsAre s j first agents) (sym e) h

-- the rows of a code that is known
pub rack_one : (s : Setup) → RowsAre s 1 racks_at s.racks
unfolding rows_at agents_for
rack_one s = (refl, refl)

pub coordinator_two : (s : Setup) → RowsAre s 2 coordinators_at s.coordinators
unfolding rows_at agents_for
coordinator_two s = (refl, refl)

pub box_three : (s : Setup) → RowsAre s 3 boxes_at s.boxes
unfolding rows_at agents_for
box_three s = (refl, refl)

pub reader_none : (s : Setup) → RowsAre s 0 readers_at s.readers
unfolding rows_at agents_for
reader_none s = (refl, refl)
