-- What it says that a box or a rack is held at exactly a round.
use Rattle.std.proofs.Common.{ℕ, ◌<◌, ltb, ltb-true, ◌≡◌, true, ◌&&◌}
use Rattle.below.proofs.Tests.{and_left, and_right}
use Rattle.pages.specs.Racks.{has}
use Rattle.rounds.specs.declared.setup.Setup.{Setup}
use Rattle.rounds.specs.declared.round.Round.{Round}
use Rattle.rounds.specs.Rounds.{same_round}
use Rattle.rounds.proofs.Ordered.{same_round_lem}
use Rattle.records.specs.Slots.{held_at, blank_at}
use Rattle.records.specs.declared.rows.ReaderRow.{ReaderRow}
use Rattle.readers.specs.Learning.{held_in, blank_in}

pub record HeldAtRound (s : Setup) (r : ReaderRow) (round : Round) (b : ℕ) : Type 0 where
  pub exists : b < s.boxes
  pub filled : (held_at r b).filled ≡ true
  pub same : (held_at r b).round ≡ round

pub held_at_round : (s : Setup) (r : ReaderRow) (round : Round) (b : ℕ) → held_in s r round b ≡ true → HeldAtRound s r round b
held_at_round s r round b h =
    record {
      exists = ltb-true b s.boxes (and_left (ltb b s.boxes) (held_at r b).filled there);
      filled = and_right (ltb b s.boxes) (held_at r b).filled there;
      same = same_round_lem _ round (and_right (ltb b s.boxes && (held_at r b).filled) _ h);
    }
  where
    there : ltb b s.boxes && (held_at r b).filled ≡ true
    there = and_left _ (same_round (held_at r b).round round) h

pub record BlankAtRound (r : ReaderRow) (round : Round) (k : ℕ) : Type 0 where
  pub in_cf : has round.cf k ≡ true
  pub filled : (blank_at r k).filled ≡ true
  pub same : (blank_at r k).round ≡ round

pub blank_at_round : (r : ReaderRow) (round : Round) (k : ℕ) → blank_in r round k ≡ true → BlankAtRound r round k
blank_at_round r round k h =
    record {
      in_cf = and_left (has round.cf k) (blank_at r k).filled there;
      filled = and_right (has round.cf k) (blank_at r k).filled there;
      same = same_round_lem _ round (and_right (has round.cf k && (blank_at r k).filled) _ h);
    }
  where
    there : has round.cf k && (blank_at r k).filled ≡ true
    there = and_left _ (same_round (blank_at r k).round round) h
