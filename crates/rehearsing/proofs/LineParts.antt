-- A part of a line: bytes before the LF print nothing, and the LF is the line's turn.
use Rattle.std.proofs.Common.{ℕ, suc, ◌+◌, ◌-◌, ◌≤◌, ◌<◌, arith, eqb, length, take, drop, length-drop, take_all, eqb-true, ◌≡◌, refl, sym, ap, subst, ◌∙◌, Bool, true, false, cond, Option, List, [], ◌∷◌, ◌++◌}
use Rattle.lines.specs.declared.scan.Scan.{Scan}
use Rattle.lines.specs.Fields.{line_feed, before_lf}
use Rattle.lines.specs.Scans.{feed_of, feed_all, finish_of, FedOn}
use Rattle.rehearsing.specs.declared.rehearsal.Rehearsal.{Rehearsal}
use Rattle.rehearsing.specs.Turns.{Turn, turn, line_turn, byte_turn, and_then, play_of, Turned, Parted}
use Rattle.rehearsing.proofs.Turning.{put_nothing}
use Rattle.rehearsing.proofs.InParts.{play_parts, play_one}

-- what stands before the LF
before_short : (l : List ℕ) → length (before_lf l) ≤ length l
unfolding before_lf
before_short [] = omega arith
before_short (b ∷ l) = go (eqb b line_feed) (before_short l)
  where
    go : (e : Bool) → length (before_lf l) ≤ length l → length (cond e [] (b ∷ before_lf l)) ≤ suc (length l)
    go true h = omega arith
    go false h = omega arith

lf_follows : (l : List ℕ) → length (before_lf l) < length l → take (suc (length (before_lf l))) l ≡ before_lf l ++ (line_feed ∷ [])
unfolding before_lf
lf_follows [] h = absurd (omega arith)
lf_follows (b ∷ l) h = go (eqb b line_feed) refl (lf_follows l) h
  where
    go : (e : Bool) → eqb b line_feed ≡ e → (length (before_lf l) < length l → take (suc (length (before_lf l))) l ≡ before_lf l ++ (line_feed ∷ [])) →
        length (cond e [] (b ∷ before_lf l)) < suc (length l) →
        take (suc (length (cond e [] (b ∷ before_lf l)))) (b ∷ l) ≡ cond e [] (b ∷ before_lf l) ++ (line_feed ∷ [])
    go true e ih m = ap (λ (x : ℕ). x ∷ []) (eqb-true b line_feed e)
    go false e ih m = ap (λ (t : List ℕ). b ∷ t) (ih (omega arith))

no_lf : (l : List ℕ) → length l ≤ length (before_lf l) → before_lf l ≡ l
unfolding before_lf
no_lf [] h = refl
no_lf (b ∷ l) h = go (eqb b line_feed) (no_lf l) h
  where
    go : (e : Bool) → (length l ≤ length (before_lf l) → before_lf l ≡ l) → suc (length l) ≤ length (cond e [] (b ∷ before_lf l)) → cond e [] (b ∷ before_lf l) ≡ b ∷ l
    go true ih m = absurd (omega arith)
    go false ih m = ap (λ (t : List ℕ). b ∷ t) (ih (omega arith))

-- the state after bytes before the LF
begun_with : Bool → List ℕ → Bool
begun_with b [] = b
begun_with b (x ∷ l) = true

abbrev fed_with : Rehearsal → List ℕ → Rehearsal
fed_with r l = record { stage = r.stage; scan = feed_all r.scan l; begun = begun_with r.begun l }

module _ (hall : List ℕ) where
  quiet : (l : List ℕ) (r : Rehearsal) → play_of r hall (before_lf l) ≡ turn (fed_with r (before_lf l)) hall []
  unfolding play_of byte_turn before_lf feed_all begun_with
  quiet [] r = refl
  quiet (b ∷ l) r = go (eqb b line_feed) refl (λ t. quiet l t)
    where
      on : Rehearsal
      on = record { stage = r.stage; scan = feed_of r.scan b; begun = true }

      stepped : eqb b line_feed ≡ false → byte_turn r hall b ≡ turn on hall []
      stepped e = rw e

      true_with : (t : List ℕ) → begun_with true t ≡ true
      true_with [] = refl
      true_with (x ∷ t) = refl

      go : (e : Bool) → eqb b line_feed ≡ e → ((t : Rehearsal) → play_of t hall (before_lf l) ≡ turn (fed_with t (before_lf l)) hall []) →
          play_of r hall (cond e [] (b ∷ before_lf l)) ≡ turn (fed_with r (cond e [] (b ∷ before_lf l))) hall []
      go true e ih = refl
      go false e ih =
          ap (λ (t : Turn). and_then t (play_of t.rehearsal t.hall (before_lf l))) (stepped e) ∙ ap (and_then (turn on hall [])) (ih on) ∙
          ap (λ (x : Bool). turn (record { stage = r.stage; scan = feed_all (feed_of r.scan b) (before_lf l); begun = x }) hall []) (true_with (before_lf l))

  part_line : (l : List ℕ) (r : Rehearsal) → length (before_lf l) < length l →
      play_of r hall (take (suc (length (before_lf l))) l) ≡ line_turn r.stage hall (finish_of (feed_all r.scan (before_lf l)))
  unfolding byte_turn
  part_line l r h =
      ap (play_of r hall) (lf_follows l h) ∙ play_parts r hall (before_lf l) (line_feed ∷ []) ∙
      ap (λ (t : Turn). and_then t (play_of t.rehearsal t.hall (line_feed ∷ []))) (quiet l r) ∙
      play_one (fed_with r (before_lf l)) hall line_feed

  part_open : (l : List ℕ) (r : Rehearsal) → 0 < length l → length l ≤ length (before_lf l) →
      play_of r hall l ≡ turn (record { stage = r.stage; scan = feed_all r.scan (before_lf l); begun = true }) hall []
  unfolding begun_with
  part_open [] r p h = absurd (omega arith)
  part_open (b ∷ l) r p h =
      ap (play_of r hall) (sym (no_lf (b ∷ l) h)) ∙ quiet (b ∷ l) r ∙
      ap (λ (x : Bool). turn (record { stage = r.stage; scan = feed_all r.scan (before_lf (b ∷ l)); begun = x }) hall [])
      (ap (begun_with r.begun) (no_lf (b ∷ l) h))

-- a part of a piece of input from a place on
module _ (r : Rehearsal) (hall input : List ℕ) (from : ℕ) {scan : Scan} {end : ℕ} (l : from < length input) (fed : FedOn r.scan input from scan end) where
  rest : List ℕ
  rest = drop from input

  pub ends_inside : end ≤ length input
  unfolding rest
  ends_inside = omega (arith, fed.stopped, before_short (drop from input), length-drop from input)

  pub parted_line : {at next : ℕ} {hall' old after : List ℕ} {r' : Rehearsal} {read : Option (List ℕ)} → end < length input → read ≡ finish_of scan →
      Turned (line_turn r.stage hall read) at hall' old after r' next → Parted r hall input from at hall' old after r' next (end + 1)
  unfolding rest
  parted_line {at} {next} {hall'} {old} {after} {r'} {read} h f t =
      record {
        further = omega (arith, fed.stopped);
        inside = omega arith;
        turned = subst (λ (x : Turn). Turned x at hall' old after r' next) (sym is) t;
      }
    where
      length_is : end + 1 - from ≡ suc (length (before_lf rest))
      length_is = omega (arith, fed.stopped)

      is : play_of r hall (take (end + 1 - from) rest) ≡ line_turn r.stage hall read
      is =
          ap (λ (n : ℕ). play_of r hall (take n rest)) length_is ∙ part_line hall rest r (omega (arith, fed.stopped, length-drop from input)) ∙
          ap (λ (x : Option (List ℕ)). line_turn r.stage hall x) (sym (f ∙ ap finish_of fed.scanned))

  pub parted_open : (at : ℕ) (old : List ℕ) → length input ≤ end →
      Parted r hall input from at hall old old (record { stage = r.stage; scan = scan; begun = true }) at end
  unfolding rest
  parted_open at old h =
      record {
        further = omega arith;
        inside = ends_inside;
        turned = subst (λ (x : Turn). Turned x at hall old old (record { stage = r.stage; scan = scan; begun = true }) at) (sym is) nothing;
      }
    where
      nothing : Turned (turn (record { stage = r.stage; scan = scan; begun = true }) hall []) at hall old old (record { stage = r.stage; scan = scan; begun = true }) at
      nothing = record { played = refl; left = refl; printed = put_nothing at old }

      is : play_of r hall (take (end - from) rest) ≡ turn (record { stage = r.stage; scan = scan; begun = true }) hall []
      is =
          ap (play_of r hall) (take_all (end - from) rest (omega (arith, length-drop from input))) ∙
          part_open hall rest r (omega (arith, length-drop from input)) (omega (arith, fed.stopped, length-drop from input)) ∙
          ap (λ (x : Scan). turn (record { stage = r.stage; scan = x; begun = true }) hall []) (sym fed.scanned)
