-- What is choosable later was choosable before; what is chosen is choosable.
use Rattle.std.proofs.Common.{ℕ, ◌≤◌, ◌<◌, arith, le_trans, refl, sym, ap, ◌∙◌, true≢false, ◌⊎◌, inl, inr}
use Rattle.std.proofs.Math.Decide.{dec_lt}
use Rattle.below.proofs.Tests.{not_true_false}
use Rattle.pages.specs.declared.line.Mark.{Mark}
use Rattle.pages.specs.Lines.{is_reading}
use Rattle.history.specs.History.{History, Blank, Blankable, Shows, Bears, Choosable, Chosen, Grows}
use Rattle.pages.proofs.Lines.{reading_present}
use Rattle.history.proofs.MajoritiesMeet.{most_map}

pub shows_map : {blank blank' : Type 0} (line m : Mark) → (blank → blank') → Shows blank line m → Shows blank' line m
shows_map line m f (inl e) = inl e
shows_map line m f (inr (n, a, s)) = inr (n, a, f s)

-- a rack that has said Nil has said no reading
pub bears_blankable : {H : History} {r k b : ℕ} {m : Mark} → Bears H Blank r k m b → Bears H Blankable r k m b
bears_blankable {m = m} w = record { vote = w.vote; cast = w.cast; shows = shows_map _ m (ap is_reading) w.shows }

pub chosen_choosable : {A : ℕ} {H : History} {k : ℕ} {m : Mark} (c : Chosen A H k m) → Choosable A H c.round k m
chosen_choosable c = most_map (λ b w. inr (bears_blankable w)) c.most

-- below its round a box's votes are settled, and what a rack has said it can't take back
pub choosable_before : {H H' : History} (A r k : ℕ) (m : Mark) → Grows H H' → Choosable A H' r k m → Choosable A H r k m
choosable_before {H} {H'} A r k m g = most_map before
  where
    silent : Blankable (H'.said k r) → Blankable (H.said k r)
    silent s =
        let now = H.said k r in
        not_true_false _ (λ e. true≢false (sym e ∙ ap is_reading (sym (g.said k r now (reading_present now e) refl)) ∙ s))

    before : (b : ℕ) → (H'.ballot b ≤ r) ⊎ Bears H' Blankable r k m b → (H.ballot b ≤ r) ⊎ Bears H Blankable r k m b
    before b (inl l) = inl (le_trans (g.ballot b) l)
    before b (inr w) = go (dec_lt r (H.ballot b))
      where
        settled : r < H.ballot b → Bears H Blankable r k m b
        settled l = record { vote = w.vote; cast = rw (g.settled b r l) at w.cast; shows = shows_map _ m silent w.shows }

        go : Dec (r < H.ballot b) → (H.ballot b ≤ r) ⊎ Bears H Blankable r k m b
        go (yes l) = inr (settled l)
        go (no n) = inl (omega (arith, n))
