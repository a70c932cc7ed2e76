-- What a step does to the history, and what it leaves to the other agents.
use Rattle.std.proofs.Common.{ℕ, ◌+◌, ◌*◌, ◌<◌, ◌≡◌, refl, ◌≢◌, List}
use Rattle.rounds.specs.declared.setup.Setup.{Setup}
use Rattle.history.specs.History.{Offer, History, Grows}
use Rattle.history.specs.Sound.{Sound}
use Rattle.history.proofs.Growth.{grows_refl}

-- whose row a step reads and writes
pub data Agent : Type 0 where
  coordinator : ℕ → Agent
  box : ℕ → Agent
  rack : ℕ → Agent
  reader : ℕ → Agent
  deriving Discrete as agent-discrete

-- the invariant of appendix A of 004, for the hall's racks and boxes
abbrev pub SoundHall : Setup → History → Type 0
SoundHall s H = Sound s.racks s.boxes H

-- The history after a step of agent `who`: it grew and is sound, and a box alone changes its round and votes, a rack alone what it
-- says, a coordinator (c below 4) alone what its rounds are opened with. `offers` are all offers so far.
pub record Moved (s : Setup) (who : Agent) (offers : List Offer) (H H' : History) : Type 0 where
  pub grows : Grows H H'
  pub sound : SoundHall s H'
  pub offers_are : H'.offers ≡ offers
  pub ballots : (b : ℕ) → who ≢ box b → H'.ballot b ≡ H.ballot b
  pub votes : (b : ℕ) → who ≢ box b → (j : ℕ) → H'.votes b j ≡ H.votes b j
  pub said : (k : ℕ) → who ≢ rack k → (j : ℕ) → H'.said k j ≡ H.said k j
  pub opened : (c : ℕ) → c < 4 → who ≢ coordinator c → (n : ℕ) → H'.opened (4 * n + c) ≡ H.opened (4 * n + c)

-- What is shown of each granted step: a history after it, of which its new row and the message that it sends are true.
pub record Stepped (s : Setup) (who : Agent) (offers : List Offer) (H : History) (Row Sent : History → Type 0) : Type 0 where
  pub after : History
  pub moved : Moved s who offers H after
  pub row : Row after
  pub sent : Sent after

-- a step that sends nothing
abbrev pub Silent : History → Type 0
Silent H = Unit {0}

-- a step that leaves the history as it was
pub still : {s : Setup} {H : History} (who : Agent) → SoundHall s H → Moved s who H.offers H H
still {H = H} who S =
    record {
      grows = grows_refl H;
      sound = S;
      offers_are = refl;
      ballots = λ b n. refl;
      votes = λ b n j. refl;
      said = λ k n j. refl;
      opened = λ c l n j. refl;
    }
