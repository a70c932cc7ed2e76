-- A rehearsal prints what its input says, in whatever pieces the input comes: `rehearsal_in_pieces`.
use Rattle.std.proofs.Common.{ℕ, ◌≤◌, min, arith, leb, ltb, eqb, length, leb-true, eqb-true, ◌≡◌, refl, sym, ap, ◌∙◌, Bool, true, false, cond, ◌&&◌, Option, Some, None, List, [], ◌∷◌, ◌++◌, append_assoc, append-nil}
use Rattle.std.proofs.Math.Nat.{min-eq_left}
use Rattle.below.specs.Refusals.{granted}
use Rattle.below.proofs.Tests.{and_left, and_right}
use Rattle.below.proofs.Granted.{unless_held, unless_later}
use Rattle.rounds.specs.declared.setup.Setup as Setup
use Rattle.rounds.specs.Setups.{one_to, setup_in_range, most_racks, most_boxes, most_coordinators, most_readers}
use Rattle.hall.specs.Halls.{hall_size, setup_refusal, setup_after}
use Rattle.hall.specs.Steps.{hall_refusal, hall_after}
use Rattle.lines.specs.Fields.{line_feed, in_front, numbers_of}
use Rattle.lines.specs.Scans.{start, feed_of, finish_of, feed_all}
use Rattle.lines.specs.Texts.{answer_text, unreadable_text}
use Rattle.lines.proofs.ScanIsLine.{feed_parts, scan_is_line}
use Rattle.rehearsing.specs.declared.rehearsal.Stage.{Stage}
use Rattle.rehearsing.specs.declared.rehearsal.Stage.TheVariants.{Setup as setup_stage, Steps, Over}
use Rattle.rehearsing.specs.declared.rehearsal.Rehearsal.{Rehearsal}
use Rattle.rehearsing.specs.Rehearsals.{lines_of, instance_in, setup_in, step_in, messages_in, by_numbers, steps_text, lines_text, rehearsal_text}
use Rattle.rehearsing.specs.Turns.{Turn, turn, beginning, setup_turn, step_turn, line_turn, byte_turn, play_of, last_turn, stage_pages, end_of}
use Rattle.rehearsing.proofs.InParts.{play_parts}

-- all that is printed from a state on, where this input follows and then ends
unfoldable pub printed : Rehearsal → List ℕ → List ℕ → List ℕ
printed r hall input = (play_of r hall input).text ++ (end_of (play_of r hall input).rehearsal (play_of r hall input).hall).text

printed_end : (r : Rehearsal) (hall : List ℕ) → printed r hall [] ≡ (last_turn r hall).text ++ stage_pages (last_turn r hall).rehearsal.stage (last_turn r hall).hall
unfolding printed play_of end_of
printed_end r hall = refl

printed_byte : (r : Rehearsal) (hall : List ℕ) (b : ℕ) (input : List ℕ) →
    printed r hall (b ∷ input) ≡ (byte_turn r hall b).text ++ printed (byte_turn r hall b).rehearsal (byte_turn r hall b).hall input
unfolding printed play_of
printed_byte r hall b input = append_assoc (byte_turn r hall b).text _ _

-- a line whose bytes so far are these, and the lines that follow
unfoldable opened : List ℕ → List (List ℕ) → List (List ℕ)
opened [] later = later
opened (x ∷ line) [] = (x ∷ line) ∷ []
opened (x ∷ line) (rest ∷ later) = ((x ∷ line) ++ rest) ∷ later

opened_byte : (line : List ℕ) (b : ℕ) (later : List (List ℕ)) → opened (line ++ (b ∷ [])) later ≡ opened line (in_front b later)
unfolding opened in_front
opened_byte [] b [] = refl
opened_byte [] b (rest ∷ later) = refl
opened_byte (x ∷ line) b [] = refl
opened_byte (x ∷ line) b (rest ∷ later) = ap (λ (l : List ℕ). l ∷ later) (append_assoc (x ∷ line) (b ∷ []) rest)

opened_end : (line : List ℕ) (later : List (List ℕ)) → opened line ([] ∷ later) ≡ line ∷ later
unfolding opened
opened_end [] later = refl
opened_end (x ∷ line) later = ap (λ (l : List ℕ). l ∷ later) (append-nil (x ∷ line))

-- a state in the middle of a line
begun_by : List ℕ → Bool
begun_by [] = false
begun_by (x ∷ line) = true

abbrev reading : Stage → List ℕ → Rehearsal
reading stage line = record { stage = stage; scan = feed_all start line; begun = begun_by line }

feed_byte : (line : List ℕ) (b : ℕ) → feed_all start (line ++ (b ∷ [])) ≡ feed_of (feed_all start line) b
unfolding feed_all
feed_byte line b = feed_parts start line (b ∷ [])

begun_byte : (line : List ℕ) (b : ℕ) → begun_by (line ++ (b ∷ [])) ≡ true
unfolding begun_by
begun_byte [] b = refl
begun_byte (x ∷ line) b = refl

-- a byte that doesn't end the line, and one that does
module _ (stage : Stage) (hall line : List ℕ) (b : ℕ) where
  goes_on : eqb b line_feed ≡ false → byte_turn (reading stage line) hall b ≡ turn (reading stage (line ++ (b ∷ []))) hall []
  unfolding byte_turn
  goes_on n = rw (n, feed_byte line b, begun_byte line b)

  ends : eqb b line_feed ≡ true → byte_turn (reading stage line) hall b ≡ line_turn stage hall (numbers_of line)
  unfolding byte_turn
  ends e = rw e (ap (line_turn stage hall) (scan_is_line line))

printed_goes_on : (stage : Stage) (hall line : List ℕ) (b : ℕ) (input : List ℕ) → eqb b line_feed ≡ false →
    printed (reading stage line) hall (b ∷ input) ≡ printed (reading stage (line ++ (b ∷ []))) hall input
printed_goes_on stage hall line b input n =
    printed_byte (reading stage line) hall b input ∙ ap (λ (t : Turn). t.text ++ printed t.rehearsal t.hall input) (goes_on stage hall line b n)

-- what is printed from the end of a line on
abbrev after_turn : Turn → List ℕ → List ℕ
after_turn t input = t.text ++ printed t.rehearsal t.hall input

printed_line : (stage : Stage) (hall line : List ℕ) (b : ℕ) (input : List ℕ) → eqb b line_feed ≡ true →
    printed (reading stage line) hall (b ∷ input) ≡ after_turn (line_turn stage hall (numbers_of line)) input
printed_line stage hall line b input e =
    printed_byte (reading stage line) hall b input ∙ ap (λ (t : Turn). after_turn t input) (ends stage hall line b e)

-- at the beginning of a line the end prints the pages
printed_pages : (r : Rehearsal) (hall : List ℕ) → r.begun ≡ false → printed r hall [] ≡ stage_pages r.stage hall
printed_pages r hall e = printed_end r hall ∙ ap (λ (b : Bool). (ended b).text ++ stage_pages (ended b).rehearsal.stage (ended b).hall) e
  where
    ended : Bool → Turn
    ended b = cond b (line_turn r.stage hall (finish_of r.scan)) (turn r hall [])

either_begins : (b : Bool) (x y : Turn) → x.rehearsal.begun ≡ false → y.rehearsal.begun ≡ false → (cond b x y).rehearsal.begun ≡ false
either_begins true x y p q = p
either_begins false x y p q = q

line_begins : (stage : Stage) (hall : List ℕ) (read : Option (List ℕ)) → (line_turn stage hall read).rehearsal.begun ≡ false
unfolding setup_turn step_turn
line_begins setup_stage hall (Some n) = either_begins (eqb (setup_refusal hall (instance_in n) (setup_in n)) granted) _ _ refl refl
line_begins setup_stage hall None = refl
line_begins (Steps readers racks) hall (Some n) = refl
line_begins (Steps readers racks) hall None = refl
line_begins Over hall read = refl

-- a last line that lacks its LF is a line all the same
printed_last : (stage : Stage) (hall : List ℕ) (x : ℕ) (line : List ℕ) →
    printed (reading stage (x ∷ line)) hall [] ≡ after_turn (line_turn stage hall (numbers_of (x ∷ line))) []
unfolding begun_by
printed_last stage hall x line =
    printed_end (reading stage (x ∷ line)) hall ∙
    ap (λ (read : Option (List ℕ)). (line_turn stage hall read).text ++ stage_pages (line_turn stage hall read).rehearsal.stage (line_turn stage hall read).hall) (scan_is_line (x ∷ line)) ∙
    ap (λ (text : List ℕ). (line_turn stage hall (numbers_of (x ∷ line))).text ++ text)
    (sym (printed_pages (line_turn stage hall (numbers_of (x ∷ line))).rehearsal (line_turn stage hall (numbers_of (x ∷ line))).hall (line_begins stage hall (numbers_of (x ∷ line)))))

-- at the beginning of a line
at_beginning : (stage : Stage) (hall : List ℕ) → printed (beginning stage) hall [] ≡ stage_pages stage hall
at_beginning stage hall = printed_pages (beginning stage) hall refl

is_beginning : (stage : Stage) → reading stage [] ≡ beginning stage
unfolding feed_all begun_by
is_beginning stage = refl

-- after a setup that is refused or unreadable nothing more is printed
over_ends : (hall line : List ℕ) → printed (reading Over line) hall [] ≡ []
over_ends hall [] = ap (λ (r : Rehearsal). printed r hall []) (is_beginning Over) ∙ at_beginning Over hall
over_ends hall (x ∷ line) = printed_last Over hall x line ∙ at_beginning Over hall

printed_over : (input hall line : List ℕ) → printed (reading Over line) hall input ≡ []
printed_over [] hall line = over_ends hall line
printed_over (b ∷ input) hall line = go (eqb b line_feed) refl (printed_over input hall []) (printed_over input hall (line ++ (b ∷ [])))
  where
    go : (e : Bool) → eqb b line_feed ≡ e → printed (reading Over []) hall input ≡ [] → printed (reading Over (line ++ (b ∷ []))) hall input ≡ [] →
        printed (reading Over line) hall (b ∷ input) ≡ []
    go true e p q = printed_line Over hall line b input e ∙ ap (λ (r : Rehearsal). printed r hall input) (sym (is_beginning Over)) ∙ p
    go false e p q = printed_goes_on Over hall line b input e ∙ q

-- A step's line, whatever prints the rest.
module _ (readers racks : ℕ) where
  line_of_step : (hall line input : List ℕ) (later : List (List ℕ)) →
      ((h : List ℕ) → printed (beginning (Steps readers racks)) h input ≡ steps_text (min readers most_readers) (min racks most_racks) h later) →
      after_turn (line_turn (Steps readers racks) hall (numbers_of line)) input ≡ steps_text (min readers most_readers) (min racks most_racks) hall (line ∷ later)
  unfolding steps_text step_turn
  line_of_step hall line input later rest = go (numbers_of line)
    where
      go : (read : Option (List ℕ)) →
          after_turn (line_turn (Steps readers racks) hall read) input ≡
          by_numbers read
          (λ n. answer_text (hall_refusal hall (step_in n)) (messages_in (hall_after hall (step_in n))) ++
          steps_text (min readers most_readers) (min racks most_racks) (hall_after hall (step_in n)) later)
          (unreadable_text ++ steps_text (min readers most_readers) (min racks most_racks) hall later)
      go (Some n) = ap (λ (text : List ℕ). answer_text (hall_refusal hall (step_in n)) (messages_in (hall_after hall (step_in n))) ++ text) (rest (hall_after hall (step_in n)))
      go None = ap (λ (text : List ℕ). unreadable_text ++ text) (rest hall)

  steps_end : (h : List ℕ) → printed (beginning (Steps readers racks)) h [] ≡ steps_text (min readers most_readers) (min racks most_racks) h []
  unfolding steps_text
  steps_end h = at_beginning (Steps readers racks) h

  steps_printed : (input hall line : List ℕ) →
      printed (reading (Steps readers racks) line) hall input ≡ steps_text (min readers most_readers) (min racks most_racks) hall (opened line (lines_of input))
  unfolding lines_of opened
  steps_printed [] hall [] = ap (λ (r : Rehearsal). printed r hall []) (is_beginning (Steps readers racks)) ∙ steps_end hall
  steps_printed [] hall (x ∷ line) = printed_last (Steps readers racks) hall x line ∙ line_of_step hall (x ∷ line) [] [] steps_end
  steps_printed (b ∷ input) hall line = go (eqb b line_feed) refl (λ h. steps_printed input h []) (steps_printed input hall (line ++ (b ∷ [])))
    where
      go : (e : Bool) → eqb b line_feed ≡ e →
          ((h : List ℕ) → printed (reading (Steps readers racks) []) h input ≡ steps_text (min readers most_readers) (min racks most_racks) h (lines_of input)) →
          printed (reading (Steps readers racks) (line ++ (b ∷ []))) hall input ≡
          steps_text (min readers most_readers) (min racks most_racks) hall (opened (line ++ (b ∷ [])) (lines_of input)) →
          printed (reading (Steps readers racks) line) hall (b ∷ input) ≡
          steps_text (min readers most_readers) (min racks most_racks) hall (opened line (cond e ([] ∷ lines_of input) (in_front b (lines_of input))))
      go true e p q =
          printed_line (Steps readers racks) hall line b input e ∙
          line_of_step hall line input (lines_of input) (λ h. ap (λ (r : Rehearsal). printed r h input) (sym (is_beginning (Steps readers racks))) ∙ p h) ∙
          ap (steps_text (min readers most_readers) (min racks most_racks) hall) (sym (opened_end line (lines_of input)))
      go false e p q =
          printed_goes_on (Steps readers racks) hall line b input e ∙ q ∙
          ap (steps_text (min readers most_readers) (min racks most_racks) hall) (opened_byte line b (lines_of input))

-- a granted setup has at most 4 readers and 8 racks
few : (hall : List ℕ) (instance : ℕ) (s : Setup.Setup) → setup_refusal hall instance s ≡ granted → (s.readers ≤ most_readers) × (s.racks ≤ most_racks)
unfolding setup_refusal setup_in_range
few hall instance s h =
    let later = unless_later (eqb (length hall) hall_size) 1 _ (omega arith) h in
    let range = and_right (leb instance 65535) (setup_in_range s) (unless_held (leb instance 65535 && setup_in_range s) 11 granted (omega arith) later) in
    let rest = and_right (one_to most_racks s.racks) _ range in
    let readers = and_left (one_to most_readers s.readers) _ (and_right (one_to most_coordinators s.coordinators) _ (and_right (one_to most_boxes s.boxes) _ rest)) in
    (leb-true _ _ (and_right (ltb 0 s.readers) _ readers), leb-true _ _ (and_right (ltb 0 s.racks) _ (and_left (one_to most_racks s.racks) _ range)))

-- The setup line, whatever prints the rest.
line_of_setup : (hall line input : List ℕ) (later : List (List ℕ)) →
    ((l p : ℕ) (h : List ℕ) → printed (beginning (Steps l p)) h input ≡ steps_text (min l most_readers) (min p most_racks) h later) →
    ((h : List ℕ) → printed (beginning Over) h input ≡ []) → after_turn (line_turn setup_stage hall (numbers_of line)) input ≡ lines_text hall (line ∷ later)
unfolding lines_text setup_turn
line_of_setup hall line input later steps over = by (numbers_of line)
  where
    all : (n : List ℕ) → eqb (setup_refusal hall (instance_in n) (setup_in n)) granted ≡ true →
        printed (beginning (Steps (setup_in n).readers (setup_in n).racks)) (setup_after hall (instance_in n) (setup_in n)) input ≡
        steps_text (setup_in n).readers (setup_in n).racks (setup_after hall (instance_in n) (setup_in n)) later
    all n e =
        let after = setup_after hall (instance_in n) (setup_in n) in
        let f = few hall (instance_in n) (setup_in n) (eqb-true _ _ e) in
        steps (setup_in n).readers (setup_in n).racks after ∙ ap (λ (k : ℕ). steps_text k (min (setup_in n).racks most_racks) after later) (min-eq_left f.0) ∙
        ap (λ (k : ℕ). steps_text (setup_in n).readers k after later) (min-eq_left f.1)

    go : (n : List ℕ) (g : Bool) → eqb (setup_refusal hall (instance_in n) (setup_in n)) granted ≡ g →
        after_turn
        (cond g
        (turn (beginning (Steps (setup_in n).readers (setup_in n).racks)) (setup_after hall (instance_in n) (setup_in n))
        (answer_text granted (messages_in (setup_after hall (instance_in n) (setup_in n)))))
        (turn (beginning Over) (setup_after hall (instance_in n) (setup_in n)) (answer_text (setup_refusal hall (instance_in n) (setup_in n)) 0))) input ≡
        cond g
        (answer_text granted (messages_in (setup_after hall (instance_in n) (setup_in n))) ++
        steps_text (setup_in n).readers (setup_in n).racks (setup_after hall (instance_in n) (setup_in n)) later)
        (answer_text (setup_refusal hall (instance_in n) (setup_in n)) 0)
    go n true e = ap (λ (text : List ℕ). answer_text granted (messages_in (setup_after hall (instance_in n) (setup_in n))) ++ text) (all n e)
    go n false e =
        ap (λ (text : List ℕ). answer_text (setup_refusal hall (instance_in n) (setup_in n)) 0 ++ text) (over (setup_after hall (instance_in n) (setup_in n))) ∙
        append-nil (answer_text (setup_refusal hall (instance_in n) (setup_in n)) 0)

    by : (read : Option (List ℕ)) → after_turn (line_turn setup_stage hall read) input ≡
        by_numbers read
        (λ n. cond (eqb (setup_refusal hall (instance_in n) (setup_in n)) granted)
        (answer_text granted (messages_in (setup_after hall (instance_in n) (setup_in n))) ++
        steps_text (setup_in n).readers (setup_in n).racks (setup_after hall (instance_in n) (setup_in n)) later)
        (answer_text (setup_refusal hall (instance_in n) (setup_in n)) 0))
        unreadable_text
    by (Some n) = go n (eqb (setup_refusal hall (instance_in n) (setup_in n)) granted) refl
    by None = ap (λ (text : List ℕ). unreadable_text ++ text) (over hall) ∙ append-nil unreadable_text

setup_printed : (input hall line : List ℕ) → printed (reading setup_stage line) hall input ≡ lines_text hall (opened line (lines_of input))
unfolding lines_of opened lines_text
setup_printed [] hall [] = ap (λ (r : Rehearsal). printed r hall []) (is_beginning setup_stage) ∙ at_beginning setup_stage hall
setup_printed [] hall (x ∷ line) =
    printed_last setup_stage hall x line ∙ line_of_setup hall (x ∷ line) [] [] (λ l p h. steps_end l p h) (λ h. at_beginning Over h)
setup_printed (b ∷ input) hall line = go (eqb b line_feed) refl (setup_printed input hall (line ++ (b ∷ [])))
  where
    go : (e : Bool) → eqb b line_feed ≡ e → printed (reading setup_stage (line ++ (b ∷ []))) hall input ≡ lines_text hall (opened (line ++ (b ∷ [])) (lines_of input)) →
        printed (reading setup_stage line) hall (b ∷ input) ≡ lines_text hall (opened line (cond e ([] ∷ lines_of input) (in_front b (lines_of input))))
    go true e q =
        printed_line setup_stage hall line b input e ∙
        line_of_setup hall line input (lines_of input)
        (λ l p h. ap (λ (r : Rehearsal). printed r h input) (sym (is_beginning (Steps l p))) ∙ steps_printed l p input h [])
        (λ h. ap (λ (r : Rehearsal). printed r h input) (sym (is_beginning Over)) ∙ printed_over input h []) ∙
        ap (lines_text hall) (sym (opened_end line (lines_of input)))
    go false e q = printed_goes_on setup_stage hall line b input e ∙ q ∙ ap (lines_text hall) (opened_byte line b (lines_of input))

-- The whole input in one piece.
pub rehearsal_printed : (hall input : List ℕ) → printed (beginning setup_stage) hall input ≡ rehearsal_text hall input
unfolding opened
rehearsal_printed hall input = ap (λ (r : Rehearsal). printed r hall input) (sym (is_beginning setup_stage)) ∙ setup_printed input hall []

-- Pieces one after the other, as the program takes them, and then the end.
unfoldable pub in_pieces : Rehearsal → List ℕ → List (List ℕ) → List ℕ
in_pieces r hall [] = (end_of r hall).text
in_pieces r hall (piece ∷ later) = (play_of r hall piece).text ++ in_pieces (play_of r hall piece).rehearsal (play_of r hall piece).hall later

unfoldable pub joined : List (List ℕ) → List ℕ
joined [] = []
joined (piece ∷ later) = piece ++ joined later

pieces_are_one : (pieces : List (List ℕ)) (r : Rehearsal) (hall : List ℕ) → in_pieces r hall pieces ≡ printed r hall (joined pieces)
unfolding in_pieces joined printed play_of
pieces_are_one [] r hall = refl
pieces_are_one (piece ∷ later) r hall =
    ap (λ (text : List ℕ). (play_of r hall piece).text ++ text) (pieces_are_one later (play_of r hall piece).rehearsal (play_of r hall piece).hall) ∙
    sym (append_assoc (play_of r hall piece).text _ _) ∙
    ap (λ (t : Turn). t.text ++ (end_of t.rehearsal t.hall).text) (sym (play_parts r hall piece (joined later)))

pub rehearsal_in_pieces : (hall : List ℕ) (pieces : List (List ℕ)) → in_pieces (beginning setup_stage) hall pieces ≡ rehearsal_text hall (joined pieces)
rehearsal_in_pieces hall pieces = pieces_are_one pieces (beginning setup_stage) hall ∙ rehearsal_printed hall (joined pieces)
