-- What step 5 opens a round with is safe (Proposition 2 of 004): it has every line that is still choosable below.
use Rattle.std.proofs.Common.{ℕ, ◌≤◌, ◌<◌, arith, le_trans, ◌≡◌, refl, sym, ap, subst, ◌∙◌, true, false, inl, inr, ⊎_elim}
use Rattle.std.proofs.Math.Decide.{dec_lt}
use mathlib.Core.List.Memᴰ
use Rattle.below.proofs.Tests.{decided}
use Rattle.pages.specs.declared.line.Reading.{Reading}
use Rattle.pages.specs.declared.line.Mark.{Mark}
use Rattle.pages.specs.declared.line.Mark.TheVariants.{Reading as reads}
use Rattle.pages.specs.declared.page.Page.{Page}
use Rattle.pages.specs.Lines.{is_absent, is_reading}
use Rattle.pages.specs.Pages.{at, prefix_of, valued_of}
use Rattle.history.specs.History.{◌∈◌, History, Shows, Bears, Most, Choosable, Offered, Present, Blankable}
use Rattle.history.specs.Sound.{Whole, Sound}
use Rattle.history.specs.Reports.{LastVote, Told, Hearing, page_of, Heard, VotedAt, GatheredLine, Gathered}
use Rattle.history.proofs.Lines.{absent_or_present, nil_or_reading, prefix_at, at_valued}
use Rattle.pages.proofs.Lines.{reading_present}
use Rattle.history.proofs.MajoritiesMeet.{most_meet}
use Rattle.history.proofs.VotesAgree.{bears_agree, votes_agree}
use Rattle.history.proofs.VotesAreSafe.{vote_safe}
use Rattle.history.proofs.VotesAreValued.{vote_reads}
use Rattle.history.proofs.VotesAreChains.{newest_extends}
use Rattle.history.proofs.ChosenWasOffered.{vote_offered}

heard_most : {A : ℕ} {H : History} {r : ℕ} {h : Hearing} → Heard A H r h → Most A (λ b. (b < A) × (h.heard b ≡ true))
heard_most {h = h} x = record { among = h.heard; enough = x.enough; each = λ b l e. (l, e) }

-- where a majority joined round r without a vote below, nothing is choosable below
pub nothing_choosable : {A : ℕ} {H : History} {r : ℕ} {h : Hearing} → Heard A H r h →
    ((b : ℕ) → b < A → h.heard b ≡ true → (h.vval b).some ≡ false) → (j k : ℕ) (m : Mark) → j < r → Choosable A H j k m → ⊥
nothing_choosable x none j k m l c =
    let (b, _, ((low, e), w)) = most_meet (heard_most x) c in
    let t = x.told b low e in
    ⊎_elim (λ s. omega (arith, t.joined)) (λ v. Memᴰ.not-nil (rw (t.none (none b low e) j l) at v.cast)) w

module _ {P A : ℕ} {H : History} {r i : ℕ} {h : Hearing} {p : Page} (S : Sound P A H) (x : Heard A H r h) (y : Gathered P A h i p) where
  last_vote : (b : ℕ) → VotedAt A h i b → LastVote (H.votes b) r i (page_of h b)
  last_vote b v = rw v.round at ((x.told b v.box v.heard).last v.some)

  page_cast : (b : ℕ) → VotedAt A h i b → page_of h b ∈ H.votes b i
  page_cast b v = rw (last_vote b v).newest (Memᴰ.head refl)

  -- a heard box has no vote between i and r, and where it has one at i, that is the one heard
  heard_vote : (b j : ℕ) (q : Page) → b < A → h.heard b ≡ true → i ≤ j → j < r → q ∈ H.votes b j → (j ≡ i) × VotedAt A h i b
  heard_vote b j q low e above l v = ⊎_elim some none (decided (h.vval b).some)
    where
      t : Told H b r (h.vrnd b) (h.vval b)
      t = x.told b low e

      none : (h.vval b).some ≡ false → (j ≡ i) × VotedAt A h i b
      none s = absurd (Memᴰ.not-nil (rw (t.none s j l) at v))

      some : (h.vval b).some ≡ true → (j ≡ i) × VotedAt A h i b
      some s = go (dec_lt (h.vrnd b) j)
        where
          go : Dec (h.vrnd b < j) → (j ≡ i) × VotedAt A h i b
          go (yes o) = absurd (Memᴰ.not-nil (rw ((t.last s).after j o l) at v))
          go (no n) =
              let top = y.highest b low e s in
              (omega (arith, top), record { box = low; heard = e; some = s; round = omega (arith, top) })

  -- the page extends every vote heard of round i
  page_extends : (b k : ℕ) → VotedAt A h i b → k < P → Present (at (page_of h b) k) → at p k ≡ at (page_of h b) k
  page_extends b k v l present = go (y.lines k l)
    where
      go : GatheredLine A h i p k → at p k ≡ at (page_of h b) k
      go (inl (c, w, o, e)) = e ∙ votes_agree S c b (page_of h c) (page_of h b) (page_cast c w) (page_cast b v) k o present
      go (inr (n, o)) = absurd (absent_or_present (o b v) present)

  -- below i: the votes heard of round i have the line
  safe_below : (j k : ℕ) (m : Mark) → j < i → k < P → Present m → Choosable A H j k m → at p k ≡ m
  safe_below j k m l rack a c =
      let b = y.voter in
      let e = vote_safe S b i j k (page_of h b) m (page_cast b y.voted) l rack a c in
      page_extends b k y.voted rack (ap is_absent e ∙ a) ∙ e

  -- at i: a box of both majorities was heard with a vote that extends the one that bears the line
  safe_at : (b k : ℕ) (m : Mark) → VotedAt A h i b → k < P → Present m → Bears H Blankable i k m b → at p k ≡ m
  safe_at b k m v l a w = go w.shows (y.lines k l)
    where
      heard_extends : prefix_of w.vote (page_of h b) ≡ true
      heard_extends =
          let t = last_vote b v in
          newest_extends (page_of h b) w.vote t.older (rw t.newest at (S.chains b i)) (rw t.newest at w.cast)

      go : Shows (Blankable (H.said k i)) (at w.vote k) m → GatheredLine A h i p k → at p k ≡ m
      go (inl e) z =
          let d = prefix_at w.vote (page_of h b) heard_extends k (le_trans l S.racks) (ap is_absent e ∙ a) ∙ e in
          page_extends b k v l (ap is_absent d ∙ a) ∙ d
      go (inr s) (inl (c, o, present, e)) = e ∙ bears_agree S w c (page_of h c) (page_cast c o) a present
      go (inr s) (inr (n, o)) = n ∙ sym s.0

  pub gathered_safe : (j k : ℕ) (m : Mark) → j < r → k < P → Present m → Choosable A H j k m → at p k ≡ m
  gathered_safe j k m l rack a c = go (dec_lt j i)
    where
      bears : i ≤ j → (b : ℕ) → b < A → h.heard b ≡ true → Bears H Blankable j k m b → at p k ≡ m
      bears above b low e w =
          let (same, v) = heard_vote b j w.vote low e above l w.cast in
          safe_at b k m v rack a (subst (λ (o : ℕ). Bears H Blankable o k m b) same w)

      go : Dec (j < i) → at p k ≡ m
      go (yes low) = safe_below j k m low rack a c
      go (no n) =
          let (b, _, ((low, e), w)) = most_meet (heard_most x) c in
          ⊎_elim (λ s. absurd (omega (arith, (x.told b low e).joined))) (bears (omega (arith, n)) b low e) w

  pub gathered_whole : Whole P H.offers p
  gathered_whole =
      record {
        complete = λ k l. ⊎_elim (λ (c, o, present, e). ap is_absent e ∙ present) (λ (n, o). ap is_absent n) (y.lines k l);
        valued = valued;
        within = y.within;
        offered = λ k v e. offered k v e (y.lines k (y.within k (ap is_absent e)));
      }
    where
      valued : valued_of p ≡ true
      valued =
          let b = y.voter in
          let (k, l, e) = vote_reads S b i (page_of h b) (page_cast b y.voted) in
          let same = page_extends b k y.voted l (reading_present (at (page_of h b) k) e) in
          at_valued p k (le_trans l S.racks) (ap is_reading same ∙ e)

      offered : (k : ℕ) (v : Reading) → at p k ≡ reads v → GatheredLine A h i p k → Offered H.offers v
      offered k v e (inl (c, o, present, d)) = vote_offered S c i k (page_of h c) v (page_cast c o) (sym d ∙ e)
      offered k v e (inr (n, o)) = absurd (nil_or_reading n e)
