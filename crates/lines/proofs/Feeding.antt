-- The loop over a part of a line: what is left to read gives the same from every place that it comes to.
use Rattle.std.proofs.Common.{ℕ, ◌+◌, ◌≤◌, ◌<◌, le_antisymm, add-one, arith, length, length-drop, get_or, drop, slice_range, take_all, drop_of_length-le, drop-cons, eq-eqb, ne_eqb, ◌≡◌, refl, sym, ap, subst, ◌∙◌, List, [], ◌∷◌}
use Rattle.lines.specs.declared.scan.Scan.{Scan}
use Rattle.lines.specs.Fields.{line_feed, before_lf}
use Rattle.lines.specs.Scans.{feed_of, feed_all, FedOn}

-- after so many bytes of a part the same is still to come as at its start
pub record Reads (s : Scan) (part : List ℕ) (scan : Scan) (read : ℕ) : Type 0 where
  pub scans : feed_all scan (before_lf (drop read part)) ≡ feed_all s (before_lf part)
  pub stops : read + length (before_lf (drop read part)) ≡ length (before_lf part)

module _ (s : Scan) where
  pub reads_start : (part : List ℕ) → Reads s part s 0
  reads_start part = record { scans = refl; stops = omega arith }

  -- a place behind the end
  pub reads_nothing : (bytes : List ℕ) (from : ℕ) → length bytes ≤ from → FedOn s bytes from s from
  unfolding feed_all before_lf
  reads_nothing bytes from l =
      let e = drop_of_length-le bytes {i = from} l in
      record { scanned = rw e; stopped = rw e (omega arith) }

  module _ {part : List ℕ} {scan : Scan} {read : ℕ} (r : Reads s part scan read) where
    module _ (bytes : List ℕ) (from : ℕ) (is : part ≡ slice_range bytes from (length bytes)) where
      to_end : part ≡ drop from bytes
      to_end = is ∙ take_all _ _ (omega (arith, length-drop from bytes))

      -- nothing is left: an LF, or the end
      none_left : before_lf (drop read part) ≡ [] → FedOn s bytes from scan (from + read)
      unfolding feed_all
      none_left e =
          record {
            scanned = sym (ap (feed_all scan) e) ∙ r.scans ∙ ap (λ (p : List ℕ). feed_all s (before_lf p)) to_end;
            stopped = let n = ap length e in let m = ap (λ (p : List ℕ). length (before_lf p)) to_end in omega (arith, r.stops);
          }

      pub reads_to_lf : read < length part → get_or part read 0 ≡ line_feed → FedOn s bytes from scan (from + read)
      unfolding before_lf
      reads_to_lf l e = none_left (ap before_lf (drop-cons part read 0 l) ∙ rw (eq-eqb (get_or part read 0) line_feed e))

      pub reads_to_end : length part ≤ read → read ≤ length part → FedOn s bytes from scan (from + length part)
      unfolding before_lf
      reads_to_end l m =
          subst (λ (n : ℕ). FedOn s bytes from scan (from + n)) (le_antisymm m l)
          (none_left (ap before_lf (drop_of_length-le part {i = read} l)))

    -- one byte more
    pub reads_on : {scan' : Scan} → read < length part → (get_or part read 0 ≡ line_feed → ⊥) → scan' ≡ feed_of scan (get_or part read 0) → Reads s part scan' (read + 1)
    unfolding feed_all before_lf
    reads_on {scan'} l n e =
        record {
          scans =
              ap (λ (x : Scan). feed_all x (before_lf (drop (read + 1) part))) e ∙ sym (ap (feed_all scan) here) ∙ r.scans;
          stops = let m = ap length here in omega (arith, r.stops);
        }
      where
        here : before_lf (drop read part) ≡ get_or part read 0 ∷ before_lf (drop (read + 1) part)
        here =
            ap before_lf (drop-cons part read 0 l) ∙ rw (ne_eqb (get_or part read 0) line_feed n) (ap (λ (k : ℕ). get_or part read 0 ∷ before_lf (drop k part)) (sym (add-one read)))
