-- The rehearsal byte by byte: what is kept between bytes, and what each adds to the output. That over the whole input, in whatever
-- pieces it comes, this is the rehearsal's text is `rehearsal_in_pieces` (proofs/InPieces.antt).
use Rattle.std.specs.Prelude.{ℕ, ◌+◌, ◌*◌, ◌-◌, ◌≤◌, ◌<◌, min, eqb, length, take, drop, ◌≡◌, Bool, true, false, cond, Option, Some, None, List, [], ◌∷◌, ◌++◌}
use Rattle.below.specs.Refusals.{granted}
use Rattle.rounds.specs.Setups.{most_racks, most_readers}
use Rattle.words.specs.Bytes.{splice}
use Rattle.hall.specs.Halls.{setup_refusal, setup_after}
use Rattle.hall.specs.Steps.{hall_refusal, hall_after}
use Rattle.lines.specs.Scans.{start, feed_of, finish_of}
use Rattle.lines.specs.Fields.{line_feed}
use Rattle.lines.specs.Texts.{answer_text, unreadable_text, answer_room, page_line_room, Put}
use Rattle.rehearsing.specs.declared.rehearsal.Stage.{Stage}
use Rattle.rehearsing.specs.declared.rehearsal.Stage.TheVariants.{Setup, Steps, Over}
use Rattle.rehearsing.specs.declared.rehearsal.Rehearsal.{Rehearsal}
use Rattle.rehearsing.specs.Rehearsals.{instance_in, setup_in, step_in, messages_in, pages_text}

-- what bytes leave, and what they print
pub record Turn : Type 0 where
  pub rehearsal : Rehearsal
  pub hall : List ℕ
  pub text : List ℕ

abbrev pub turn : Rehearsal → List ℕ → List ℕ → Turn
turn rehearsal hall text = record { rehearsal = rehearsal; hall = hall; text = text }

-- at the beginning of a line
abbrev pub beginning : Stage → Rehearsal
beginning stage = record { stage = stage; scan = start; begun = false }

-- the setup line
unfoldable pub setup_turn : List ℕ → List ℕ → Turn
setup_turn hall numbers =
    cond (eqb (setup_refusal hall (instance_in numbers) (setup_in numbers)) granted)
    (turn (beginning (Steps (setup_in numbers).readers (setup_in numbers).racks)) (setup_after hall (instance_in numbers) (setup_in numbers))
    (answer_text granted (messages_in (setup_after hall (instance_in numbers) (setup_in numbers)))))
    (turn (beginning Over) (setup_after hall (instance_in numbers) (setup_in numbers)) (answer_text (setup_refusal hall (instance_in numbers) (setup_in numbers)) 0))

-- a step's line
unfoldable pub step_turn : Stage → List ℕ → List ℕ → Turn
step_turn stage hall numbers =
    turn (beginning stage) (hall_after hall (step_in numbers))
    (answer_text (hall_refusal hall (step_in numbers)) (messages_in (hall_after hall (step_in numbers))))

-- a whole line; after a setup that is refused or unreadable nothing is read
abbrev pub line_turn : Stage → List ℕ → Option (List ℕ) → Turn
line_turn Setup hall (Some numbers) = setup_turn hall numbers
line_turn Setup hall None = turn (beginning Over) hall unreadable_text
line_turn (Steps readers racks) hall (Some numbers) = step_turn (Steps readers racks) hall numbers
line_turn (Steps readers racks) hall None = turn (beginning (Steps readers racks)) hall unreadable_text
line_turn Over hall read = turn (beginning Over) hall []

-- one byte
unfoldable pub byte_turn : Rehearsal → List ℕ → ℕ → Turn
byte_turn r hall b =
    cond (eqb b line_feed) (line_turn r.stage hall (finish_of r.scan)) (turn (record { stage = r.stage; scan = feed_of r.scan b; begun = true }) hall [])

-- one after the other
abbrev pub and_then : Turn → Turn → Turn
and_then first second = turn second.rehearsal second.hall (first.text ++ second.text)

-- a piece of input
unfoldable pub play_of : Rehearsal → List ℕ → List ℕ → Turn
play_of r hall [] = turn r hall []
play_of r hall (b ∷ later) = and_then (byte_turn r hall b) (play_of (byte_turn r hall b).rehearsal (byte_turn r hall b).hall later)

abbrev pub is_over : Stage → Bool
is_over Setup = false
is_over (Steps readers racks) = false
is_over Over = true

-- the end of the input: a last line that lacks its LF, then the pages
abbrev pub last_turn : Rehearsal → List ℕ → Turn
last_turn r hall = cond r.begun (line_turn r.stage hall (finish_of r.scan)) (turn r hall [])

abbrev pub stage_pages : Stage → List ℕ → List ℕ
stage_pages Setup hall = []
stage_pages (Steps readers racks) hall = pages_text (min readers most_readers) (min racks most_racks) hall
stage_pages Over hall = []

unfoldable pub end_of : Rehearsal → List ℕ → Turn
end_of r hall = and_then (last_turn r hall) (turn (last_turn r hall).rehearsal (last_turn r hall).hall (stage_pages (last_turn r hall).rehearsal.stage (last_turn r hall).hall))

-- the most bytes that the pages take, and the end
abbrev pub pages_room : ℕ
pages_room = page_line_room * most_racks * most_readers

abbrev pub end_room : ℕ
end_room = answer_room + pages_room

-- what a function that makes a turn promises: the state, the hall, the text at its place and the place behind it
pub record Turned (t : Turn) (at : ℕ) (hall old after : List ℕ) (rehearsal : Rehearsal) (next : ℕ) : Type 0 where
  pub played : rehearsal ≡ t.rehearsal
  pub left : hall ≡ t.hall
  pub printed : Put at t.text old after next

-- the same of a part of a piece of input that begins at a place, and the place behind it
pub record Parted (r : Rehearsal) (hall input : List ℕ) (from at : ℕ) (hall_after old after : List ℕ) (rehearsal : Rehearsal) (next place : ℕ) : Type 0 where
  pub further : from < place
  pub inside : place ≤ length input
  pub turned : Turned (play_of r hall (take (place - from) (drop from input))) at hall_after old after rehearsal next

-- the same at the front of the output where it has room for whatever the turn prints, else nothing is done
pub record TurnedIn (enough : Bool) (r : Rehearsal) (hall : List ℕ) (t : Turn) (hall_after old after : List ℕ) (rehearsal : Rehearsal) (next : ℕ) : Type 0 where
  pub played : rehearsal ≡ cond enough t.rehearsal r
  pub left : hall_after ≡ cond enough t.hall hall
  pub printed : after ≡ cond enough (splice 0 t.text old) old
  pub ends : next ≡ cond enough (length t.text) 0
  -- this follows, and is what lending the printed part asks
  pub within : (next ≤ length after) × (next ≡ length (take next after))
