-- A reader's page changes only by a granted learn of that reader, and so it only gains lines.
use Rattle.std.proofs.Common.{ℕ, ◌<◌, arith, ◌≡◌, ap, ◌∙◌, true, ◌⊎◌, inl, inr, ⊎_elim, ◌≢◌, List}
use Rattle.std.proofs.Math.Decide.{ℕ_discrete}
use Rattle.below.specs.Refusals.{granted}
use Rattle.pages.specs.Pages.{prefix_of}
use Rattle.pages.proofs.PageLaws.{prefix_of_refl}
use Rattle.rounds.specs.declared.setup.Setup.{Setup}
use Rattle.rounds.specs.declared.round.Round.{Round}
use Rattle.records.specs.declared.messages.TwoA.{TwoA}
use Rattle.records.specs.declared.messages.TwoB.{TwoB}
use Rattle.records.specs.declared.rows.ReaderRow.{ReaderRow}
use Rattle.records.specs.Answers.{Noted}
use Rattle.readers.specs.Notes.{note_vote_row, note_vote_of, note_blank_row, note_blank_of}
use Rattle.readers.specs.Learning.{Learns, too_few, not_compatible, all_nil, learnt}
use Rattle.readers.proofs.GrantedNotes.{note_vote_granted, note_blank_granted}
use Rattle.history.specs.History.{Offer}
use Rattle.safety.proofs.TrueMessages.{Message}
use Rattle.safety.proofs.Moved.{Agent, coordinator, box, rack, reader}
use Rattle.safety.proofs.Views.{View, Changes}
use Rattle.safety.proofs.StepsKeep.{Grants, offer, start, join, hear, opening, prepare, fast, blank, take_page, take_reading, note_vote, note_blank, learn}

pub note_vote_page : (r : ReaderRow) (b : ℕ) (m : TwoB) → (note_vote_of r b m).refusal ≡ granted → (note_vote_of r b m).row.page ≡ r.page
unfolding note_vote_row
note_vote_page r b m h = ap (λ (x : ReaderRow). x.page) (note_vote_granted r b m h).row_is

pub note_blank_page : (r : ReaderRow) (k : ℕ) (m : TwoA) → (note_blank_of r k m).refusal ≡ granted → (note_blank_of r k m).row.page ≡ r.page
unfolding note_blank_row
note_blank_page r k m h = ap (λ (x : ReaderRow). x.page) (note_blank_granted r k m h).row_is

-- the rule for learning gave the reader's new page
pub record Learnt (s : Setup) (hall hall' : View) (i : ℕ) : Type 0 where
  pub round : Round
  pub answer : Noted ReaderRow
  pub learns : Learns s (hall.readers i) round answer
  pub was_granted : answer.refusal ≡ granted
  pub row_is : hall'.readers i ≡ answer.row

learn_gains : (s : Setup) (r : ReaderRow) (round : Round) {a : Noted ReaderRow} → Learns s r round a → prefix_of r.page a.row.page ≡ true
learn_gains s r round (too_few n) = prefix_of_refl r.page
learn_gains s r round (not_compatible among y n) = prefix_of_refl r.page
learn_gains s r round (all_nil among y w j e) = prefix_of_refl r.page
learn_gains s r round (learnt among y w j e) = j.above.own

-- the sorts of agents are apart
pub coordinator_apart : (c i : ℕ) → coordinator c ≢ reader i
coordinator_apart c i e = let z : ◌≡◌ {A = ℕ} 0 1 = cc in omega arith

pub box_apart : (b i : ℕ) → box b ≢ reader i
box_apart b i e = let z : ◌≡◌ {A = ℕ} 0 1 = cc in omega arith

pub rack_apart : (k i : ℕ) → rack k ≢ reader i
rack_apart k i e = let z : ◌≡◌ {A = ℕ} 0 1 = cc in omega arith

pub reader_apart : (j i : ℕ) → i ≢ j → reader j ≢ reader i
reader_apart j i n e = n (cc)

-- the earlier page is a prefix of the later one
abbrev pub Gains : View → View → ℕ → Type 0
Gains hall hall' i = prefix_of (hall.readers i).page (hall'.readers i).page ≡ true

-- the page is as it was, or was learnt
abbrev pub PageChange : Setup → View → View → ℕ → Type 0
PageChange s hall hall' i = ((hall'.readers i).page ≡ (hall.readers i).page) ⊎ Learnt s hall hall' i

module _ (s : Setup) (hall hall' : View) where
  by_other : {who : Agent} {New : Message → Type 0} → Changes s who New hall hall' → (i : ℕ) → i < s.readers → who ≢ reader i →
      PageChange s hall hall' i
  by_other d i l n = inl (ap (λ (r : ReaderRow). r.page) (d.readers i l n))

  by_reader : {New : Message → Type 0} (j : ℕ) → Changes s (reader j) New hall hall' → PageChange s hall hall' j → (i : ℕ) → i < s.readers →
      PageChange s hall hall' i
  by_reader j d own i l = go (ℕ_discrete i j)
    where
      go : Dec (i ≡ j) → PageChange s hall hall' i
      go (yes e) = rw e own
      go (no n) = by_other d i l (reader_apart j i n)

  pub page_changes : {offered : List Offer} → Grants s hall hall' offered → (i : ℕ) → i < s.readers → PageChange s hall hall' i
  page_changes (offer k v l e d) i x = by_other d i x (rack_apart k i)
  page_changes (start c n cf l h e d) i x = by_other d i x (coordinator_apart c i)
  page_changes (join b c m l p h e d) i x = by_other d i x (box_apart b i)
  page_changes (hear c b m l p h e d) i x = by_other d i x (coordinator_apart c i)
  page_changes (opening c l h e d) i x = by_other d i x (coordinator_apart c i)
  page_changes (prepare k c m l p h e d) i x = by_other d i x (rack_apart k i)
  page_changes (fast k j m l p h e d) i x = by_other d i x (rack_apart k i)
  page_changes (blank k j m l p h e d) i x = by_other d i x (rack_apart k i)
  page_changes (take_page b c m l p h e d) i x = by_other d i x (box_apart b i)
  page_changes (take_reading b k m l p h e d) i x = by_other d i x (box_apart b i)
  page_changes (note_vote j b m l p h e d) i x =
      by_reader j d (inl (ap (λ (r : ReaderRow). r.page) e ∙ note_vote_page (hall.readers j) b m h)) i x
  page_changes (note_blank j k m l p h e d) i x =
      by_reader j d (inl (ap (λ (r : ReaderRow). r.page) e ∙ note_blank_page (hall.readers j) k m h)) i x
  page_changes (learn j round a l y h e d) i x =
      by_reader j d (inr (record { round = round; answer = a; learns = y; was_granted = h; row_is = e })) i x

  pub pages_gain : {offered : List Offer} → Grants s hall hall' offered → (i : ℕ) → i < s.readers → Gains hall hall' i
  pages_gain g i x =
      ⊎_elim (λ e. rw e (prefix_of_refl (hall.readers i).page)) (λ w. rw w.row_is (learn_gains s (hall.readers i) w.round w.learns))
      (page_changes g i x)
