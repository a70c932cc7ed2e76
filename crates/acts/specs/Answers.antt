-- What the code of an act promises: the refusal and every lent byte.
use Rattle.std.specs.Prelude.{ℕ, eqb, ◌≡◌, Bool, cond, ◌&&◌, List}
use Rattle.below.specs.Refusals.{granted}
use Rattle.records.specs.declared.stamp.Stamp.{Stamp}
use Rattle.acts.specs.declared.step.Step.{Step}
use Rattle.acts.specs.declared.numbers.Numbers.{Numbers}
use Rattle.acts.specs.Acts.{Act}
use Rattle.acts.specs.Named.{stamp_of, both_refusal, row_refusal}

-- `number` is the refusal; where it is 0 the two buffers hold the row after and the message sent, if one is; else they stay
pub record Acts (number : ℕ) (act : Act) (refusal : ℕ) (sends : Bool) (row sent row_after sent_after : List ℕ) : Type 0 where
  pub numbered : refusal ≡ number
  pub sending : sends ≡ eqb number granted && act.sends
  pub kept : row_after ≡ cond (eqb number granted) act.row row
  pub told : sent_after ≡ cond (eqb number granted && act.sends) act.sent sent

-- of a row's block and a message's, and of a row's block alone
abbrev pub ActsOnBoth : Stamp → ℕ → List ℕ → List ℕ → (Stamp → List ℕ → List ℕ → Act) → ℕ → Bool → List ℕ → List ℕ → List ℕ → List ℕ → Type 0
ActsOnBoth hall late row message act =
    Acts (both_refusal hall late row message (act (stamp_of row) row message).refusal) (act (stamp_of row) row message)

abbrev pub ActsOnRow : Stamp → ℕ → List ℕ → (Stamp → List ℕ → Act) → ℕ → Bool → List ℕ → List ℕ → List ℕ → List ℕ → Type 0
ActsOnRow hall late row act = Acts (row_refusal hall late row (act (stamp_of row) row).refusal) (act (stamp_of row) row)

-- the step of a code and its numbers, of which no act reads agent and message number
abbrev pub step_of : ℕ → Numbers → Step
step_of code x = record { code = code; agent = 0; message = 0; n = x.round.n.0; c = x.round.c; cf = x.round.cf; reading = x.reading.0 }
