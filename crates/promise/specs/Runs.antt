-- Runs of a hall's steps, as demand 3 speaks of them: moments, pages, what was offered, how many messages were sent.
use Rattle.std.specs.Prelude.{ℕ, ◌+◌, leb, eqb, take, ◌≡◌, Bool, cond, ◌&&◌, ◌||◌, List, [], ◌∷◌, ◌++◌}
use Rattle.below.specs.Refusals.{granted}
use Rattle.pages.specs.declared.line.Reading.{Reading}
use Rattle.pages.specs.declared.page.Page.{Page}
use Rattle.rounds.specs.declared.setup.Setup.{Setup}
use Rattle.rounds.specs.Setups.{one_to}
use Rattle.rounds.specs.Rounds.{round_of}
use Rattle.records.specs.declared.rows.ReaderRow.{ReaderRow}
use Rattle.records.specs.Answers.{Noted}
use Rattle.blocks.specs.Rows.{reader}
use Rattle.readers.specs.Learning.{Learns}
use Rattle.acts.specs.declared.step.Step.{Step}
use Rattle.acts.specs.Acts.{body_of}
use Rattle.hall.specs.Halls.{readers_at, block_at}
use Rattle.hall.specs.Steps.{hall_refusal, hall_after}

-- the hall after steps, one after the other
unfoldable pub run_hall : List Step → List ℕ → List ℕ
run_hall [] hall = hall
run_hall (x ∷ later) hall = run_hall later (hall_after hall x)

-- a moment: after the first t steps
abbrev pub moment_of : List Step → List ℕ → ℕ → List ℕ
moment_of steps hall t = run_hall (take t steps) hall

-- a reader's row and page in a hall
abbrev pub reader_of : List ℕ → ℕ → ReaderRow
reader_of hall i = body_of reader (block_at hall (readers_at + i))

abbrev pub page_of : List ℕ → ℕ → Page
page_of hall i = (reader_of hall i).page

-- a step among these that offered the reading: granted in the hall that the steps before it left
pub record OfferedBy (hall : List ℕ) (steps : List Step) (v : Reading) : Type 0 where
  pub before : List Step
  pub offer : Step
  pub after : List Step
  pub are : steps ≡ before ++ (offer ∷ after)
  pub code_is : offer.code ≡ 1
  pub reading_is : record { 0 = offer.reading } ≡ v
  pub was_granted : hall_refusal (run_hall before hall) offer ≡ granted

-- a learn of this reader, and what the rule for learning (readers/specs/Learning.antt) says of its new row
pub record LearntBy (s : Setup) (hall hall' : List ℕ) (x : Step) (i : ℕ) : Type 0 where
  pub code_is : x.code ≡ 13
  pub agent_is : x.agent ≡ i
  pub answer : Noted ReaderRow
  pub learns : Learns s (reader_of hall i) (round_of x.n x.c x.cf) answer
  pub answers : answer.refusal ≡ granted
  pub row_is : reader_of hall' i ≡ answer.row

-- the steps that send: offer, start, join, open, fast, blank, take page, take reading
abbrev pub sends : ℕ → Bool
sends code = one_to 3 code || (eqb code 5 || (leb 7 code && leb code 10))

-- how many of the steps were granted and send
unfoldable pub sent_by : List Step → List ℕ → ℕ
sent_by [] hall = 0
sent_by (x ∷ later) hall = cond (eqb (hall_refusal hall x) granted && sends x.code) 1 0 + sent_by later (hall_after hall x)
