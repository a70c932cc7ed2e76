-- Demand 3: a loud shift stays loud on record. What is promised of a hall that was set up, over its lent bytes and over every list
-- of steps: seven numbers each, any at all, granted or refused. The message number picks any sent message, so late, twice and
-- never are all in it. A moment is a number t, and stands for the hall after the first t steps.
use Rattle.std.specs.Prelude.{ℕ, ◌≤◌, ◌<◌, take, ◌≡◌, true, false, ◌⊎◌, ◌≢◌, List}
use Rattle.below.specs.Refusals.{granted}
use Rattle.pages.specs.declared.line.Reading as Reading
use Rattle.pages.specs.declared.line.Mark.TheVariants.{Nil, Reading as reads}
use Rattle.pages.specs.Lines.{is_absent}
use Rattle.pages.specs.Pages.{at, prefix_of}
use Rattle.rounds.specs.declared.setup.Setup.{Setup}
use Rattle.acts.specs.declared.step.Step.{Step}
use Rattle.hall.specs.Steps.{count_of, hall_refusal, hall_after}
use Rattle.promise.specs.Runs.{run_hall, moment_of, page_of, OfferedBy, LearntBy, sent_by}

pub record Demand3 (s : Setup) (hall : List ℕ) : Type 0 where
  -- 1. each reader's page only gains lines: the earlier page is a prefix of the later one
  pub pages_gain : (steps : List Step) (t u : ℕ) → t ≤ u → (i : ℕ) → i < s.readers →
      prefix_of (page_of (moment_of steps hall t) i) (page_of (moment_of steps hall u) i) ≡ true
  -- 2. two readers' pages, the same or another, at any two moments, never differ on a line that both have
  pub pages_agree : (steps : List Step) (t u i j : ℕ) → i < s.readers → j < s.readers → (k : ℕ) →
      is_absent (at (page_of (moment_of steps hall t) i) k) ≡ false → is_absent (at (page_of (moment_of steps hall u) j) k) ≡ false →
      at (page_of (moment_of steps hall t) i) k ≡ at (page_of (moment_of steps hall u) j) k
  -- 3. every reading on a page was offered earlier in the sequence, by a granted offer
  pub readings_offered : (steps : List Step) (t i : ℕ) → i < s.readers → (k : ℕ) (v : Reading.Reading) →
      at (page_of (moment_of steps hall t) i) k ≡ reads v → OfferedBy hall (take t steps) v
  -- 4. all pages laid together, of all readers at all moments, are never blank for every rack. (A missing line isn't blank: it is
  -- Absent and not Nil.) Per rack any reader and any moment may be picked.
  pub never_all_blank : (steps : List Step) (moment reader : ℕ → ℕ) → ((k : ℕ) → k < s.racks → reader k < s.readers) →
      ((k : ℕ) → k < s.racks → at (page_of (moment_of steps hall (moment k)) (reader k)) k ≡ Nil) → ⊥
  -- 5. the lines gained are those of the rule for learning: a page stays as it is, or a granted learn of that reader changes it so
  pub pages_learnt : (steps : List Step) (x : Step) (i : ℕ) → i < s.readers →
      (page_of (hall_after (run_hall steps hall) x) i ≡ page_of (run_hall steps hall) i) ⊎
      ((hall_refusal (run_hall steps hall) x ≡ granted) × LearntBy s (run_hall steps hall) (hall_after (run_hall steps hall) x) x i)
  -- 6. 1, 2, 3 and 9 never occur
  pub never_refused : (steps : List Step) (x : Step) →
      (hall_refusal (run_hall steps hall) x ≢ 1) ×
      ((hall_refusal (run_hall steps hall) x ≢ 2) × ((hall_refusal (run_hall steps hall) x ≢ 3) × (hall_refusal (run_hall steps hall) x ≢ 9)))
  -- 7. the message count is the number of granted sending steps so far
  pub messages_counted : (steps : List Step) → count_of (run_hall steps hall) ≡ sent_by steps hall
