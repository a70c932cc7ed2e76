-- What a sent message says that is true of the history, for good: a message may be handed over late, twice or never.
use Rattle.std.proofs.Common.{ℕ, ◌≡◌, refl, true, false}
use Rattle.pages.specs.Pages.{empty_of}
use Rattle.rounds.proofs.Ordered.{key}
use Rattle.records.specs.declared.messages.Propose.{Propose}
use Rattle.records.specs.declared.messages.OneA.{OneA}
use Rattle.records.specs.declared.messages.OneB.{OneB}
use Rattle.records.specs.declared.messages.TwoS.{TwoS}
use Rattle.records.specs.declared.messages.TwoA.{TwoA}
use Rattle.records.specs.declared.messages.TwoB.{TwoB}
use Rattle.history.specs.History.{◌∈◌, free, fixed, History, Grows, Present}
use Rattle.history.specs.Reports.{Told}
use Rattle.history.proofs.FactsStay.{told_stays}

-- a message with its sender
pub data Message : Type 0 where
  propose : ℕ → Propose → Message
  one_a : ℕ → OneA → Message
  one_b : ℕ → OneB → Message
  two_s : ℕ → TwoS → Message
  two_a : ℕ → TwoA → Message
  two_b : ℕ → TwoB → Message

-- PROPOSE of rack k: the reading was offered by it
pub record ProposeTrue (H : History) (k : ℕ) (m : Propose) : Type 0 where
  pub offered : record { rack = k; reading = m.reading } ∈ H.offers

-- 1B of box b: it joined the round, and this is its last vote below
pub record OneBTrue (H : History) (b : ℕ) (m : OneB) : Type 0 where
  pub told : Told H b (key m.round) (key m.vrnd) m.vote

-- 2S: what the round was opened with
pub record TwoSTrue (H : History) (m : TwoS) : Type 0 where
  pub free_opened : empty_of m.page ≡ true → H.opened (key m.round) ≡ free m.round.cf
  pub fixed_opened : empty_of m.page ≡ false → H.opened (key m.round) ≡ fixed m.page

-- 2A of rack k: what it said in a round that was opened with the empty page
pub record TwoATrue (H : History) (k : ℕ) (m : TwoA) : Type 0 where
  pub present : Present m.line.mark
  pub said : H.said k (key m.round) ≡ m.line.mark
  pub opened : H.opened (key m.round) ≡ free m.round.cf

-- 2B of box b: one of its votes
pub record TwoBTrue (H : History) (b : ℕ) (m : TwoB) : Type 0 where
  pub cast : m.page ∈ H.votes b (key m.round)

-- 1A asks and says nothing
abbrev pub Says : History → Message → Type 0
Says H (propose k m) = ProposeTrue H k m
Says H (one_a c m) = Unit {0}
Says H (one_b b m) = OneBTrue H b m
Says H (two_s c m) = TwoSTrue H m
Says H (two_a k m) = TwoATrue H k m
Says H (two_b b m) = TwoBTrue H b m

pub says_stays : {H H' : History} → Grows H H' → (m : Message) → Says H m → Says H' m
says_stays g (propose k m) t = record { offered = g.offers _ t.offered }
says_stays g (one_a c m) t = tt
says_stays g (one_b b m) t = record { told = told_stays g b (key m.round) (key m.vrnd) m.vote t.told }
says_stays g (two_s c m) t =
    record {
      free_opened = λ e. g.opened _ (free m.round.cf) refl (t.free_opened e);
      fixed_opened = λ e. g.opened _ (fixed m.page) refl (t.fixed_opened e);
    }
says_stays g (two_a k m) t =
    record {
      present = t.present;
      said = g.said k _ m.line.mark t.present t.said;
      opened = g.opened _ (free m.round.cf) refl t.opened;
    }
says_stays g (two_b b m) t = record { cast = g.votes b _ m.page t.cast }
