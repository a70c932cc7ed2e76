-- The moves of an opening coordinator (step 5): with the empty page, or with the page gathered from the highest votes.
use Rattle.std.proofs.Common.{ℕ, ◌<◌, le_refl, ◌≡◌, refl, sym, ap, ◌∙◌, true, false, true≢false}
use Rattle.pages.specs.declared.line.Mark.{Mark}
use Rattle.pages.specs.declared.page.Page.{Page}
use Rattle.history.specs.History.{Opened, shut, free, fixed, is_shut, History, Choosable, Grows, Present}
use Rattle.history.specs.Sound.{Grounded, Agrees, Sound}
use Rattle.history.specs.Moves.{open_with}
use Rattle.history.specs.Reports.{Hearing, Heard, Gathered}
use Rattle.history.proofs.Updates.{put_cases}
use Rattle.history.proofs.FactsStay.{fits_stays}
use Rattle.history.proofs.ChoosableBefore.{choosable_before}
use Rattle.history.proofs.OpenedIsSafe.{nothing_choosable, gathered_safe, gathered_whole}

pub open_grows : (H : History) (r : ℕ) (o : Opened) → H.opened r ≡ shut → Grows H (open_with H r o)
open_grows H r o before =
    record {
      ballot = λ b. le_refl (H.ballot b);
      votes = λ b i p v. v;
      settled = λ b i l. refl;
      said = λ k i m h e. e;
      opened = λ i n h e. put_cases (λ j w. H.opened j ≡ n → w ≡ n) H.opened r o (was_shut n h) i (λ d. d) e;
      offers = λ o v. v;
    }
  where
    was_shut : (n : Opened) → is_shut n ≡ false → H.opened r ≡ n → o ≡ n
    was_shut n h d = absurd (true≢false (sym (ap is_shut before) ∙ ap is_shut d ∙ h))

open_sound : {P A : ℕ} {H : History} (r : ℕ) (o : Opened) → H.opened r ≡ shut → Grounded P H.offers o →
    ((j k : ℕ) (m : Mark) → j < r → k < P → Present m → Choosable A H j k m → Agrees o k m) → Sound P A H →
    Sound P A (open_with H r o)
open_sound {P} {A} {H} r o before grounded safe S =
    record {
      racks = S.racks;
      voted = λ b i p v. fits_stays (open_grows H r o before) P i p (S.voted b i p v);
      chains = S.chains;
      offered = S.offered;
      grounded = λ i. put_cases (λ j w. Grounded P H.offers w) H.opened r o grounded i (S.grounded i);
      safe =
          λ i j k m l h a c.
          let d = choosable_before A j k m (open_grows H r o before) c in
          put_cases (λ n w. j < n → Agrees w k m) H.opened r o (λ g. safe j k m g h a d) i (λ g. S.safe i j k m g h a d) l;
    }

module _ {P A : ℕ} {H : History} {r : ℕ} {h : Hearing} (S : Sound P A H) (before : H.opened r ≡ shut) (x : Heard A H r h) where
  -- with no vote among all heard, any cf
  pub open_free_sound : (cf : ℕ) → ((b : ℕ) → b < A → h.heard b ≡ true → (h.vval b).some ≡ false) →
      Sound P A (open_with H r (free cf))
  open_free_sound cf none = open_sound r (free cf) before tt (λ j k m l rack a. nothing_choosable x none j k m l) S

  pub open_fixed_sound : (i : ℕ) (p : Page) → Gathered P A h i p → Sound P A (open_with H r (fixed p))
  open_fixed_sound i p y = open_sound r (fixed p) before (gathered_whole S x y) (gathered_safe S x y) S
