-- The moves of racks and of joining boxes: an offer, a higher round, a proposal.
use Rattle.std.proofs.Common.{ℕ, ◌≤◌, le_refl, ◌≡◌, refl, sym, ◌∙◌, ◌⊎◌, inl, inr}
use mathlib.Core.List.Memᴰ
use Rattle.pages.specs.declared.line.Reading.{Reading}
use Rattle.pages.specs.declared.line.Mark.{Mark}
use Rattle.pages.specs.declared.line.Mark.TheVariants.{Absent, Reading as reads}
use Rattle.history.specs.History.{Offer, Offered, History, Grows, Present}
use Rattle.history.specs.Sound.{Sound}
use Rattle.history.specs.Moves.{offer, join, say}
use Rattle.history.proofs.Lines.{absent_or_present}
use Rattle.history.proofs.Updates.{put₂_cases, put_raises}
use Rattle.history.proofs.SoundAfter.{sound_after}

pub offer_grows : (H : History) (o : Offer) → Grows H (offer H o)
offer_grows H o =
    record {
      ballot = λ b. le_refl (H.ballot b);
      votes = λ b r p v. v;
      settled = λ b r l. refl;
      said = λ k r m h e. e;
      opened = λ r o h e. e;
      offers = λ o v. Memᴰ.tail v;
    }

pub offer_sound : {P A : ℕ} {H : History} (o : Offer) → Sound P A H → Sound P A (offer H o)
offer_sound {H = H} o S = sound_after S (offer_grows H o) (λ r. refl) (λ b r p v. inl v) S.chains (λ k r v e. inl e)

pub join_grows : (H : History) (b r : ℕ) → H.ballot b ≤ r → Grows H (join H b r)
join_grows H b r l =
    record {
      ballot = put_raises H.ballot b r l;
      votes = λ b r p v. v;
      settled = λ b r l. refl;
      said = λ k r m h e. e;
      opened = λ r o h e. e;
      offers = λ o v. v;
    }

pub join_sound : {P A : ℕ} {H : History} (b r : ℕ) → H.ballot b ≤ r → Sound P A H → Sound P A (join H b r)
join_sound {H = H} b r l S = sound_after S (join_grows H b r l) (λ i. refl) (λ c i p v. inl v) S.chains (λ k i v e. inl e)

-- a rack proposes once in a round
pub say_grows : (H : History) (k r : ℕ) (m : Mark) → H.said k r ≡ Absent → Grows H (say H k r m)
say_grows H k r m silent =
    record {
      ballot = λ b. le_refl (H.ballot b);
      votes = λ b r p v. v;
      settled = λ b r l. refl;
      said = λ j i n h e. put₂_cases (λ x y s. H.said x y ≡ n → s ≡ n) H.said k r m (spoke n h) j i (λ d. d) e;
      opened = λ r o h e. e;
      offers = λ o v. v;
    }
  where
    spoke : (n : Mark) → Present n → H.said k r ≡ n → m ≡ n
    spoke n h d = absurd (absent_or_present (sym d ∙ silent) h)

pub say_sound : {P A : ℕ} {H : History} (k r : ℕ) (m : Mark) → H.said k r ≡ Absent →
    ((v : Reading) → m ≡ reads v → Offered H.offers v) → Sound P A H → Sound P A (say H k r m)
say_sound {H = H} k r m silent new S =
    sound_after S (say_grows H k r m silent) (λ i. refl) (λ b i p v. inl v) S.chains (λ j i v. offered v j i)
  where
    Right : Reading → ℕ → ℕ → Mark → Type 0
    Right v j i s = s ≡ reads v → (H.said j i ≡ reads v) ⊎ Offered H.offers v

    offered : (v : Reading) (j i : ℕ) → Right v j i ((say H k r m).said j i)
    offered v j i = put₂_cases (Right v) H.said k r m (λ d. inr (new v d)) j i inl
