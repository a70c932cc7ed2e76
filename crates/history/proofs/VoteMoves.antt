-- The moves of voting boxes: a vote for the page of its round, and a vote for a reading.
use Rattle.std.proofs.Common.{ℕ, ◌<◌, arith, ◌≡◌, refl, sym, subst, true, ◌⊎◌, inl, inr, ⊎_elim, List, ◌∷◌}
use mathlib.Core.List.Memᴰ
use Rattle.pages.specs.declared.line.Reading.{Reading}
use Rattle.pages.specs.declared.line.Mark.{Mark}
use Rattle.pages.specs.declared.line.Mark.TheVariants.{Reading as reads}
use Rattle.pages.specs.declared.page.Page.{Page}
use Rattle.pages.specs.Racks.{has}
use Rattle.pages.specs.Pages.{prefix_of}
use Rattle.history.specs.History.{◌∈◌, free, fixed, History, Grows}
use Rattle.history.specs.Sound.{FreeVote, Fits, Chain, Sound}
use Rattle.history.specs.Moves.{may_vote, vote, reading_vote}
use Rattle.history.proofs.Lines.{prefix_same}
use Rattle.history.proofs.Updates.{put₂_cases, put_raises}
use Rattle.history.proofs.SoundAfter.{sound_after}
use Rattle.history.proofs.ReadingVotes.{reading_free, reading_extends}

-- what holds of the new votes, and of the old ones, holds of all
vote_cases : (H : History) (b r : ℕ) (p : Page) (Q : ℕ → ℕ → List Page → Type 0) → Q b r (p ∷ H.votes b r) → (c i : ℕ) →
    Q c i (H.votes c i) → Q c i ((vote H b r p).votes c i)
vote_cases H b r p Q = put₂_cases Q H.votes b r (p ∷ H.votes b r)

pub vote_grows : (H : History) (b r : ℕ) (p : Page) → may_vote H b r → Grows H (vote H b r p)
vote_grows H b r p l =
    record {
      ballot = put_raises H.ballot b r l;
      votes = λ c i q v. vote_cases H b r p (λ x y t. q ∈ H.votes x y → q ∈ t) Memᴰ.tail c i (λ w. w) v;
      settled = λ c i. vote_cases H b r p (λ x y t. y < H.ballot x → t ≡ H.votes x y) (λ h. absurd (omega arith)) c i (λ h. refl);
      said = λ k i m h e. e;
      opened = λ i o h e. e;
      offers = λ o v. v;
    }

-- a vote that fits its round and extends the box's earlier ones there
vote_sound : {P A : ℕ} {H : History} (b r : ℕ) (p : Page) → may_vote H b r → Fits P (H.opened r) (λ k. H.said k r) p →
    ((q : Page) → q ∈ H.votes b r → prefix_of q p ≡ true) → Sound P A H → Sound P A (vote H b r p)
vote_sound {P} {A} {H} b r p l f extends S =
    sound_after S (vote_grows H b r p l) (λ i. refl) (λ c i q. vote_cases H b r p (Right q) (right q) c i inl)
    (λ c i. vote_cases H b r p (λ x y t. Chain t) (extends, S.chains b r) c i (S.chains c i)) (λ k i v e. inl e)
  where
    Right : Page → ℕ → ℕ → List Page → Type 0
    Right q c i votes = q ∈ votes → (q ∈ H.votes c i) ⊎ Fits P (H.opened i) (λ k. H.said k i) q

    right : (q : Page) → Right q b r (p ∷ H.votes b r)
    right q v = ⊎_elim (λ e. inr (subst (Fits P (H.opened r) (λ k. H.said k r)) (sym e) f)) inl (Memᴰ.cases_cons v)

-- step 9
pub vote_page_sound : {P A : ℕ} {H : History} (b r : ℕ) (p : Page) → H.opened r ≡ fixed p → may_vote H b r → Sound P A H →
    Sound P A (vote H b r p)
vote_page_sound b r p e l S = vote_sound b r p l (rw e refl) (λ q v. prefix_same q p (rw e at (S.voted b r q v))) S

-- step 10
pub vote_reading_sound : {P A : ℕ} {H : History} (b r cf k : ℕ) (v : Reading) → H.opened r ≡ free cf → k < P → has cf k ≡ true →
    H.said k r ≡ reads v → may_vote H b r → Sound P A H → Sound P A (vote H b r (reading_vote cf P k v (H.votes b r)))
vote_reading_sound {P} {A} {H} b r cf k v e rack fast spoke l S =
    vote_sound b r _ l (rw e free_vote) (reading_extends P cf said k v (H.votes b r) (S.chains b r)) S
  where
    said : ℕ → Mark
    said j = H.said j r

    free_vote : FreeVote P cf said (reading_vote cf P k v (H.votes b r))
    free_vote = reading_free P cf said k v S.racks rack fast spoke (H.votes b r) (λ q w. rw e at (S.voted b r q w))
