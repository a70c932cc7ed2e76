-- What readers show, at whichever moments: their pages agree, their readings were offered, not every rack is blank.
use Rattle.std.proofs.Common.{ℕ, ◌<◌, ◌≡◌, ap, subst, true}
use Rattle.pages.specs.declared.line.Reading.{Reading}
use Rattle.pages.specs.declared.line.Mark.TheVariants.{Nil, Reading as reads}
use Rattle.pages.specs.declared.page.Page.{Page}
use Rattle.pages.specs.Lines.{is_absent}
use Rattle.pages.specs.Pages.{at}
use Rattle.rounds.specs.declared.setup.Setup.{Setup}
use Rattle.rounds.specs.Setups.{setup_in_range}
use Rattle.history.specs.History.{History, Grows, Offered, Present, Chosen}
use Rattle.history.proofs.ChosenAgree.{chosen_agree}
use Rattle.history.proofs.ChosenWasOffered.{chosen_offered}
use Rattle.history.proofs.NeverAllBlank.{never_all_blank}
use Rattle.safety.proofs.TrueRows.{Shown, shown_stays}
use Rattle.safety.proofs.Moved.{SoundHall}
use Rattle.safety.proofs.InRange.{setup_some_rack}
use Rattle.safety.proofs.Views.{View, Kept}

-- a reader's page at a moment up to that of H
pub record Seen (s : Setup) (H : History) (p : Page) : Type 1 where
  pub moment : History
  pub view : View
  pub kept : Kept s moment view
  pub until : Grows moment H
  pub reader : ℕ
  pub exists : reader < s.readers
  pub page_is : (view.readers reader).page ≡ p

seen_shown : (s : Setup) {H : History} (p : Page) → Seen s H p → Shown s H p
seen_shown s p w = subst (Shown s _) w.page_is (shown_stays s w.until _ (w.kept.readers w.reader w.exists).shown)

module _ (s : Setup) {H : History} (S : SoundHall s H) where
  -- two readers' pages, at any two moments, never differ on a line that both have
  pub pages_agree : (p q : Page) → Seen s H p → Seen s H q → (k : ℕ) → Present (at p k) → Present (at q k) → at p k ≡ at q k
  pages_agree p q v w k h g = chosen_agree S k (at p k) (at q k) (seen_shown s p v k h) (seen_shown s q w k g)

  -- every reading on a page was offered
  pub readings_offered : (p : Page) → Seen s H p → (k : ℕ) (v : Reading) → at p k ≡ reads v → Offered H.offers v
  readings_offered p w k v e = chosen_offered S k v (subst (Chosen s.boxes H k) e (seen_shown s p w k (ap is_absent e)))

  -- all pages laid together are never blank for every rack
  pub never_all_nil : setup_in_range s ≡ true → (page : ℕ → Page) → ((k : ℕ) → k < s.racks → Seen s H (page k)) →
      ((k : ℕ) → k < s.racks → at (page k) k ≡ Nil) → ⊥
  never_all_nil good page seen nil =
      never_all_blank S (setup_some_rack s good)
      (λ k l. subst (Chosen s.boxes H k) (nil k l) (seen_shown s (page k) (seen k l) k (ap is_absent (nil k l))))
