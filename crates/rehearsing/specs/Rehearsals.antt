-- What a rehearsal prints (document 01, 'Rehearsal'): of the whole input, line by line. How the input comes in is said nowhere here.
use Rattle.std.specs.Prelude.{ℕ, ◌+◌, eqb, length, get_or, cond, Option, Some, None, List, [], ◌∷◌, ◌++◌}
use Rattle.below.specs.Refusals.{granted}
use Rattle.pages.specs.declared.page.Page.{Page}
use Rattle.pages.specs.Pages.{at}
use Rattle.rounds.specs.declared.setup.Setup.{Setup}
use Rattle.rounds.specs.Setups.{setup_of}
use Rattle.fields.specs.Codecs.{run}
use Rattle.blocks.specs.Rows.{reader}
use Rattle.acts.specs.declared.step.Step.{Step}
use Rattle.acts.specs.Acts.{body_of}
use Rattle.hall.specs.Halls.{hall_size, readers_at, block_at, setup_refusal, setup_after}
use Rattle.hall.specs.Steps.{count_of, hall_refusal, hall_after}
use Rattle.lines.specs.Fields.{line_feed, in_front, numbers_of}
use Rattle.lines.specs.Texts.{answer_text, unreadable_text, page_line_text}

-- LF ends a line, the last may lack it
unfoldable pub lines_of : List ℕ → List (List ℕ)
lines_of [] = []
lines_of (b ∷ later) = cond (eqb b line_feed) ([] ∷ lines_of later) (in_front b (lines_of later))

-- the seven numbers of a setup line: instance P A C L c0 cf0
abbrev pub instance_in : List ℕ → ℕ
instance_in numbers = get_or numbers 0 0

abbrev pub setup_in : List ℕ → Setup
setup_in numbers = setup_of (get_or numbers 1 0) (get_or numbers 2 0) (get_or numbers 3 0) (get_or numbers 4 0) (get_or numbers 5 0) (get_or numbers 6 0)

-- and of a step
abbrev pub step_in : List ℕ → Step
step_in numbers =
    record {
      code = get_or numbers 0 0;
      agent = get_or numbers 1 0;
      message = get_or numbers 2 0;
      n = get_or numbers 3 0;
      c = get_or numbers 4 0;
      cf = get_or numbers 5 0;
      reading = get_or numbers 6 0;
    }

-- the message count; bytes of another length are no hall, and hold none
abbrev pub messages_in : List ℕ → ℕ
messages_in hall = cond (eqb (length hall) hall_size) (count_of hall) 0

-- for each reader and rack: L, reader, rack, then "-", "nil" or the reading
abbrev pub page_of : List ℕ → ℕ → Page
page_of hall i = (body_of reader (block_at hall (readers_at + i))).page

unfoldable pub pages_text : ℕ → ℕ → List ℕ → List ℕ
pages_text readers racks hall =
    cond (eqb (length hall) hall_size) (run readers (λ i. run racks (λ rack. page_line_text i rack (at (page_of hall i) rack)))) []

-- what a line gives: by its seven numbers, or where it is not seven decimals
abbrev pub by_numbers : Option (List ℕ) → (List ℕ → List ℕ) → List ℕ → List ℕ
by_numbers (Some numbers) read unreadable = read numbers
by_numbers None read unreadable = unreadable

-- one step a line, at the end the pages
unfoldable pub steps_text : ℕ → ℕ → List ℕ → List (List ℕ) → List ℕ
steps_text readers racks hall [] = pages_text readers racks hall
steps_text readers racks hall (line ∷ later) =
    by_numbers (numbers_of line)
    (λ numbers. answer_text (hall_refusal hall (step_in numbers)) (messages_in (hall_after hall (step_in numbers))) ++
    steps_text readers racks (hall_after hall (step_in numbers)) later)
    (unreadable_text ++ steps_text readers racks hall later)

-- A setup line, then the steps. A refused setup prints its number and 0, an unreadable one "?"; either ends the run
unfoldable pub lines_text : List ℕ → List (List ℕ) → List ℕ
lines_text hall [] = []
lines_text hall (line ∷ later) =
    by_numbers (numbers_of line)
    (λ numbers. cond (eqb (setup_refusal hall (instance_in numbers) (setup_in numbers)) granted)
    (answer_text granted (messages_in (setup_after hall (instance_in numbers) (setup_in numbers))) ++
    steps_text (setup_in numbers).readers (setup_in numbers).racks (setup_after hall (instance_in numbers) (setup_in numbers)) later)
    (answer_text (setup_refusal hall (instance_in numbers) (setup_in numbers)) 0))
    unreadable_text

-- `hall` is the bytes that the hall is kept in
abbrev pub rehearsal_text : List ℕ → List ℕ → List ℕ
rehearsal_text hall input = lines_text hall (lines_of input)
