-- The racks of a hall are never all chosen blank: a vote of the highest of the rounds has a reading.
use Rattle.std.proofs.Common.{ℕ, zero, suc, ◌≤◌, ◌<◌, arith, le_refl, le_trans, ◌≡◌, refl, sym, ap, subst, ◌∙◌, true, true≢false, ⊎_elim}
use Rattle.std.proofs.Math.Decide.{dec_lt}
use Rattle.below.proofs.Tests.{below_suc}
use Rattle.pages.specs.declared.line.Mark.TheVariants.{Nil}
use Rattle.pages.specs.Lines.{is_reading}
use Rattle.pages.specs.declared.page.Page.{Page}
use Rattle.pages.specs.Pages.{at}
use Rattle.history.specs.History.{◌∈◌, History, Chosen}
use Rattle.history.specs.Sound.{Sound}
use Rattle.pages.proofs.Lines.{reading_present}
use Rattle.history.proofs.MajoritiesMeet.{most_some}
use Rattle.history.proofs.ChoosableBefore.{bears_blankable, chosen_choosable}
use Rattle.history.proofs.VotesAgree.{bears_agree}
use Rattle.history.proofs.VotesAreSafe.{vote_safe}
use Rattle.history.proofs.VotesAreValued.{vote_reads}

-- one that is as high as that of each number below n
Highest : (C : ℕ → Type 0) → ((k : ℕ) → C k → ℕ) → ℕ → Type 0
Highest C height n = (i : ℕ) × (c : C i) × ((j : ℕ) → j < n → (d : C j) × (height j d ≤ height i c))

highest : {C : ℕ → Type 0} (height : (k : ℕ) → C k → ℕ) (n k : ℕ) → C k → ((j : ℕ) → j < n → C j) → Highest C height n
unfolding Highest
highest height zero k c f = (k, c, λ j l. absurd (omega arith))
highest {C} height (suc n) k c f = go (f n (omega arith)) (highest height n k c (λ j l. f j (omega arith)))
  where
    -- the last one counts too
    up_to : (h : ℕ) (d : C n) → height n d ≤ h → ((j : ℕ) → j < n → (d : C j) × (height j d ≤ h)) → (j : ℕ) → j < suc n →
        (d : C j) × (height j d ≤ h)
    up_to h d l lower j b = ⊎_elim (λ e. rw e (d, l)) (lower j) (below_suc b)

    go : C n → Highest C height n → Highest C height (suc n)
    go d (i, c, lower) = pick (dec_lt (height i c) (height n d))
      where
        pick : Dec (height i c < height n d) → Highest C height (suc n)
        pick (yes h) = (n, d, up_to (height n d) d (le_refl _) (λ j b. let (x, l) = lower j b in (x, le_trans l (omega arith))))
        pick (no x) = (i, c, up_to (height i c) d (omega (arith, x)) lower)

module _ {P A : ℕ} {H : History} (S : Sound P A H) where
  -- where a vote has a reading, Nil is not chosen in its round or below
  reading_unblanked : (b r k : ℕ) (p : Page) → p ∈ H.votes b r → k < P → is_reading (at p k) ≡ true → (c : Chosen A H k Nil) →
      c.round ≤ r → ⊥
  reading_unblanked b r k p v l e c h = true≢false (sym e ∙ ap is_reading (go (dec_lt c.round r)))
    where
      go : Dec (c.round < r) → at p k ≡ Nil
      go (yes low) = vote_safe S b r c.round k p Nil v low l refl (chosen_choosable c)
      go (no x) =
          let same : r ≡ c.round = omega (arith, x) in
          let (_, _, w) = most_some c.most in
          bears_agree S (bears_blankable w) b p (subst (λ (i : ℕ). p ∈ H.votes b i) same v) refl (reading_present (at p k) e)

pub never_all_blank : {P A : ℕ} {H : History} → Sound P A H → 0 < P → ((k : ℕ) → k < P → Chosen A H k Nil) → ⊥
unfolding Highest
never_all_blank {P} S l c =
    let (k, top, lower) = highest (λ k d. d.round) P 0 (c 0 l) c in
    let (b, _, w) = most_some top.most in
    let (j, h, e) = vote_reads S b top.round w.vote w.cast in
    let (d, low) = lower j h in
    reading_unblanked S b top.round j w.vote w.cast h e d low
