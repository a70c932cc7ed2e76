-- What a reader learns is chosen: a line that a majority's held votes of a round have, Nil-extended over the racks
-- that said Nil in it.
use Rattle.std.proofs.Common.{ℕ, ◌+◌, ◌/◌, ◌≤◌, ◌<◌, ◌≡◌, sym, ap, ◌∙◌, Bool, true, inl, inr, ⊎_elim}
use Rattle.below.specs.Below.{count}
use Rattle.pages.specs.declared.line.Mark.{Mark}
use Rattle.pages.specs.declared.line.Mark.TheVariants.{Nil}
use Rattle.pages.specs.declared.page.Page.{Page}
use Rattle.pages.specs.Lines.{is_absent}
use Rattle.pages.specs.Pages.{at, nil_extension}
use Rattle.history.specs.History.{◌∈◌, History, Shows, Bears, Chosen, Present, Blank}
use Rattle.history.proofs.Lines.{extension_lines}

extended_shows : {blank : Type 0} (set : ℕ → Bool) (p : Page) (k : ℕ) (m : Mark) → Present m → (set k ≡ true → blank) →
    at (nil_extension set p) k ≡ m → Shows blank (at p k) m
extended_shows set p k m h s e =
    ⊎_elim (λ d. inl (sym d ∙ e)) (λ d. inr (sym e ∙ d.2, d.1, s d.0)) (extension_lines set p k (ap is_absent e ∙ h))

pub held_chosen : (A : ℕ) (H : History) (r k : ℕ) (m : Mark) (blank among : ℕ → Bool) (held : ℕ → Page) → Present m →
    (blank k ≡ true → H.said k r ≡ Nil) → A / 2 + 1 ≤ count A among →
    ((b : ℕ) → b < A → among b ≡ true → (held b ∈ H.votes b r) × (at (nil_extension blank (held b)) k ≡ m)) → Chosen A H k m
held_chosen A H r k m blank among held h s enough each =
    record { present = h; round = r; most = record { among = among; enough = enough; each = bears } }
  where
    bears : (b : ℕ) → b < A → among b ≡ true → Bears H Blank r k m b
    bears b l y = record { vote = held b; cast = (each b l y).0; shows = extended_shows blank (held b) k m h s (each b l y).1 }
