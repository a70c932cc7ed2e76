-- A run of turns: two in a row are one, a piece of input in two parts is two pieces, and no turn prints more than its room.
use Rattle.std.proofs.Common.{ℕ, ◌+◌, ◌*◌, ◌-◌, ◌≤◌, ◌<◌, arith, eqb, length, take, drop, length-append, length-drop, length-take-le, take_all, take-add, ◌≡◌, refl, sym, ap, subst, ◌∙◌, Bool, true, false, cond, Option, Some, None, List, [], ◌∷◌, ◌++◌, append_assoc, append-nil}
use Rattle.below.specs.Refusals.{granted}
use Rattle.words.specs.Bytes.{splice}
use Rattle.hall.specs.Halls.{setup_refusal}
use Rattle.lines.specs.Scans.{finish_of}
use Rattle.lines.specs.Fields.{line_feed}
use Rattle.lines.specs.Texts.{answer_room, Put}
use Rattle.lines.proofs.Writing.{put_next, answer_short}
use Rattle.rehearsing.specs.declared.rehearsal.Stage.{Stage}
use Rattle.rehearsing.specs.declared.rehearsal.Stage.TheVariants.{Setup, Steps, Over}
use Rattle.rehearsing.specs.declared.rehearsal.Rehearsal.{Rehearsal}
use Rattle.rehearsing.specs.Rehearsals.{instance_in, setup_in}
use Rattle.rehearsing.specs.Turns.{Turn, turn, setup_turn, step_turn, line_turn, byte_turn, and_then, play_of, last_turn, stage_pages, end_of, pages_room, end_room, Turned, Parted, TurnedIn}
use Rattle.rehearsing.proofs.Turning.{put_nothing}

-- two turns in a row
pub then_turned : (t : Turn) (f : Rehearsal → List ℕ → Turn) {at there end : ℕ} {hall hall' old mid after : List ℕ} {r r' : Rehearsal} → there ≤ length old →
    Turned t at hall old mid r there → Turned (f r hall) there hall' mid after r' end → Turned (and_then t (f t.rehearsal t.hall)) at hall' old after r' end
then_turned t f {at} {there} {end} {hall} {hall'} {old} {mid} {after} {r} {r'} l p q =
    record { played = second.played; left = second.left; printed = put_next (omega (arith, p.printed.ends)) p.printed second.printed }
  where
    second : Turned (f t.rehearsal t.hall) there hall' mid after r' end
    second =
        subst (λ (h : List ℕ). Turned (f t.rehearsal h) there hall' mid after r' end) p.left
        (subst (λ (s : Rehearsal). Turned (f s hall) there hall' mid after r' end) p.played q)

-- a piece in two parts
then_assoc : (s t u : Turn) → and_then s (and_then t u) ≡ and_then (and_then s t) u
then_assoc s t u = ap (turn u.rehearsal u.hall) (sym (append_assoc s.text t.text u.text))

pub play_parts : (r : Rehearsal) (hall a b : List ℕ) → play_of r hall (a ++ b) ≡ and_then (play_of r hall a) (play_of (play_of r hall a).rehearsal (play_of r hall a).hall b)
unfolding play_of
play_parts r hall [] b = refl
play_parts r hall (x ∷ a) b =
    ap (and_then (byte_turn r hall x)) (play_parts (byte_turn r hall x).rehearsal (byte_turn r hall x).hall a b) ∙
    then_assoc (byte_turn r hall x) (play_of (byte_turn r hall x).rehearsal (byte_turn r hall x).hall a) _

pub play_one : (r : Rehearsal) (hall : List ℕ) (b : ℕ) → play_of r hall (b ∷ []) ≡ byte_turn r hall b
unfolding play_of
play_one r hall b = ap (turn (byte_turn r hall b).rehearsal (byte_turn r hall b).hall) (append-nil (byte_turn r hall b).text)

-- a line's answer fits its room, and so does a byte's
either_short : {n : ℕ} (b : Bool) (x y : Turn) → length x.text ≤ n → length y.text ≤ n → length (cond b x y).text ≤ n
either_short true x y l m = l
either_short false x y l m = m

pub line_short : (stage : Stage) (hall : List ℕ) (read : Option (List ℕ)) → length (line_turn stage hall read).text ≤ answer_room
unfolding setup_turn step_turn
line_short Setup hall (Some n) = either_short (eqb (setup_refusal hall (instance_in n) (setup_in n)) granted) _ _ (answer_short _ _) (answer_short _ _)
line_short Setup hall None = omega arith
line_short (Steps readers racks) hall (Some n) = answer_short _ _
line_short (Steps readers racks) hall None = omega arith
line_short Over hall read = omega arith

byte_short : (r : Rehearsal) (hall : List ℕ) (b : ℕ) → length (byte_turn r hall b).text ≤ answer_room
unfolding byte_turn
byte_short r hall b = either_short (eqb b line_feed) _ _ (line_short r.stage hall (finish_of r.scan)) (omega arith)

pub play_short : (r : Rehearsal) (hall input : List ℕ) → length (play_of r hall input).text ≤ answer_room * length input
unfolding play_of
play_short r hall [] = omega arith
play_short r hall (b ∷ input) =
    omega (
      arith,
      length-append (byte_turn r hall b).text (play_of (byte_turn r hall b).rehearsal (byte_turn r hall b).hall input).text,
      byte_short r hall b,
      play_short (byte_turn r hall b).rehearsal (byte_turn r hall b).hall input,
    )

-- The loop over a piece: at each place what stands is what the bytes before it give.
module _ (s : Rehearsal) (before input old : List ℕ) where
  pub play_start : Turned (play_of s before (take 0 input)) 0 before old old s 0
  unfolding play_of
  play_start = record { played = refl; left = refl; printed = put_nothing 0 old }

  -- what is printed before a place leaves room for one more line
  pub room_for_more : {k to : ℕ} {hall out : List ℕ} {r : Rehearsal} → k < length input → answer_room * length input ≤ length old →
      Turned (play_of s before (take k input)) 0 hall old out r to → (to + answer_room ≤ length out) × (to ≤ length old)
  room_for_more {k} l m t =
      let n = play_short s before (take k input) in
      let e = length-take-le k input (omega arith) in
      let k' = t.printed.ends in
      (omega (arith, t.printed.spliced.kept), omega arith)

  pub play_more : {k place to next : ℕ} {hall hall' out after : List ℕ} {r r' : Rehearsal} → k < length input → answer_room * length input ≤ length old →
      Turned (play_of s before (take k input)) 0 hall old out r to → Parted r hall input k to hall' out after r' next place →
      Turned (play_of s before (take place input)) 0 hall' old after r' next
  play_more {k} {place} {to} {next} {hall} {hall'} {out} {after} {r} {r'} l m t u =
      subst (λ (x : Turn). Turned x 0 hall' old after r' next) (sym more)
      (then_turned (play_of s before (take k input)) (λ q h. play_of q h (take (place - k) (drop k input))) (room_for_more l m t).1 t u.turned)
    where
      there : place ≡ k + (place - k)
      there = let f = u.further in omega arith

      more : play_of s before (take place input) ≡
          and_then (play_of s before (take k input)) (play_of (play_of s before (take k input)).rehearsal (play_of s before (take k input)).hall (take (place - k) (drop k input)))
      more =
          ap (play_of s before) (ap (λ (n : ℕ). take n input) there ∙ take-add k (place - k) input) ∙
          play_parts s before (take k input) (take (place - k) (drop k input))

  pub play_ends : {k to : ℕ} {hall out : List ℕ} {r : Rehearsal} → length input ≤ k → Turned (play_of s before (take k input)) 0 hall old out r to →
      Turned (play_of s before input) 0 hall old out r to
  play_ends {k} {to} {hall} {out} {r} l t = subst (λ (x : List ℕ). Turned (play_of s before x) 0 hall old out r to) (take_all k input l) t

-- what is put lies within
counted : (n : ℕ) (l : List ℕ) → n ≤ length l → (n ≤ length l) × (n ≡ length (take n l))
counted n l h = (h, sym (length-take-le n l h))

put_within : {next : ℕ} {text old after : List ℕ} → Put 0 text old after next → (next ≤ length after) × (next ≡ length (take next after))
unfolding splice
put_within {next} {text} {old} {after} p =
    let e = sym (ap length p.spliced.is) ∙ p.spliced.kept in
    counted next after (omega (arith, p.ends, p.spliced.kept, simp (length-append, length-drop) at e))

-- at the front of the output, where it has room
module _ {enough : Bool} {s r : Rehearsal} {before hall old after : List ℕ} {t : Turn} {next : ℕ} where
  pub turned_in : enough ≡ true → Turned t 0 hall old after r next → TurnedIn enough s before t hall old after r next
  turned_in e p =
      rw e
      (record {
        played = p.played;
        left = p.left;
        printed = p.printed.spliced.is;
        ends = p.printed.ends ∙ omega arith;
        within = put_within p.printed;
      })

pub turned_none : {enough : Bool} (s : Rehearsal) (before old : List ℕ) (t : Turn) → enough ≡ false → TurnedIn enough s before t before old old s 0
turned_none s before old t e = rw e (record { played = refl; left = refl; printed = refl; ends = refl; within = counted 0 old (omega arith) })

-- the end of the input: a last line, or none
module _ (s : Rehearsal) (before : List ℕ) where
  pub last_line : {at next : ℕ} {hall old after : List ℕ} {r : Rehearsal} {read : Option (List ℕ)} → s.begun ≡ true → read ≡ finish_of s.scan →
      Turned (line_turn s.stage before read) at hall old after r next → Turned (last_turn s before) at hall old after r next
  last_line {at} {next} {hall} {old} {after} {r} e f t = rw e (subst (λ (x : Option (List ℕ)). Turned (line_turn s.stage before x) at hall old after r next) f t)

  pub no_last_line : (old : List ℕ) → s.begun ≡ false → Turned (last_turn s before) 0 before old old s 0
  no_last_line old e = rw e (record { played = refl; left = refl; printed = put_nothing 0 old })

  pub last_short : length (last_turn s before).text ≤ answer_room
  last_short = either_short s.begun _ _ (line_short s.stage before (finish_of s.scan)) (omega arith)

  -- then the pages
  module _ {to : ℕ} {hall old mid : List ℕ} {r : Rehearsal} (l : end_room ≤ length old) (t : Turned (last_turn s before) 0 hall old mid r to) where
    pub room_for_pages : (to + pages_room ≤ length mid) × (to ≤ length old)
    room_for_pages =
        let n = last_short in
        let e = t.printed.ends in
        let k = t.printed.spliced.kept in
        (omega arith, omega arith)

    pub end_turned : {next : ℕ} {after : List ℕ} → Put to (stage_pages r.stage hall) mid after next → Turned (end_of s before) 0 hall old after r next
    unfolding end_of
    end_turned p =
        then_turned (last_turn s before) (λ q h. turn q h (stage_pages q.stage h)) room_for_pages.1 t (record { played = refl; left = refl; printed = p })
