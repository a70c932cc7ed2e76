-- What a granted note vote and note blank say: the tests that held, and the row. A refused step gives the row back.
use Rattle.std.proofs.Common.{ℕ, ◌<◌, arith, length, get_or, set, get_or-set_same, get_or-set_other, ◌≡◌, refl, sym, ap, ◌∙◌, Bool, true, false, cond, not, ◌⊎◌, inl, inr, ⊎_elim, List}
use Rattle.std.proofs.Math.Decide.{dec_lt, ℕ_discrete}
use Rattle.std.proofs.Math.Seq.{set_out}
use borrow.Author.Tests.{not-true}
use Rattle.below.specs.Refusals.{granted, wrong_message, already_done, lines_clash}
use Rattle.below.proofs.Granted.{unless_held, unless_later, answer_granted, answer_refused, answer_number}
use Rattle.pages.specs.declared.line.Mark.TheVariants.{Nil}
use Rattle.pages.specs.declared.page.Page.{Page}
use Rattle.pages.specs.Lines.{is_nil}
use Rattle.pages.specs.Pages.{prefix_of}
use Rattle.pages.proofs.Lines.{nil_is}
use Rattle.rounds.specs.declared.round.Round.{Round}
use Rattle.rounds.specs.declared.order.Order.{Order}
use Rattle.rounds.specs.declared.order.Order.TheVariants.{Below, Equal, Above, Clash}
use Rattle.rounds.specs.Rounds.{order_of}
use Rattle.rounds.proofs.Ordered.{Lower, Compared, compared}
use Rattle.records.specs.declared.messages.TwoA.{TwoA}
use Rattle.records.specs.declared.messages.TwoB.{TwoB}
use Rattle.records.specs.declared.rows.ReaderRow.{ReaderRow}
use Rattle.records.specs.Slots.{held_at, blank_at}
use Rattle.records.specs.Answers.{Noted}
use Rattle.readers.specs.Notes.{refused, by_order, same_round_refusal, note_vote_refusal, note_vote_row, note_vote_of, note_blank_refusal, note_blank_row, note_blank_of}

-- granted by the order of the rounds: lower, or the same and granted there
by_order_lem : (a b : Round) (same : ℕ) → by_order (order_of a b) same ≡ granted → Lower a b ⊎ ((a ≡ b) × (same ≡ granted))
by_order_lem a b same h = go (order_of a b) (compared a b) h
  where
    go : (o : Order) → Compared a b o → by_order o same ≡ granted → Lower a b ⊎ ((a ≡ b) × (same ≡ granted))
    go Below c h = inl c
    go Equal c h = inr (c, h)
    go Above c h = absurd (omega (arith, h))
    go Clash c h = absurd (omega (arith, h))

-- a slot that was filled or not, and granted
by_slot : (filled : Bool) (number : ℕ) → cond filled number granted ≡ granted → (filled ≡ false) ⊎ (number ≡ granted)
by_slot true number h = inr h
by_slot false number h = inl refl

module _ {A : Type 0} where
  -- a slot after one was put: it is that one, or as it was
  put_at : (l : List A) (i j : ℕ) (v d : A) → (get_or (set l i v) j d ≡ get_or l j d) ⊎ ((j ≡ i) × (get_or (set l i v) j d ≡ v))
  put_at l i j v d = go (ℕ_discrete j i) (dec_lt i (length l))
    where
      go : Dec (j ≡ i) → Dec (i < length l) → (get_or (set l i v) j d ≡ get_or l j d) ⊎ ((j ≡ i) × (get_or (set l i v) j d ≡ v))
      go (no e) b = inl (get_or-set_other l i j v d e)
      go (yes e) (yes b) = inr (e, ap (λ (k : ℕ). get_or (set l i v) k d) e ∙ get_or-set_same l i v d b)
      go (yes e) (no b) = inl (ap (λ (x : List A). get_or x j d) (set_out l i v (omega (arith, b))))

-- 11 note vote
pub record NoteVoteGranted (r : ReaderRow) (box : ℕ) (m : TwoB) : Type 0 where
  -- none was held, or of a lower round, or this is a strict extension
  pub newer : ((held_at r box).filled ≡ false) ⊎
      (Lower (held_at r box).round m.round ⊎
      (((held_at r box).round ≡ m.round) × (prefix_of (held_at r box).page m.page ≡ true) × (prefix_of m.page (held_at r box).page ≡ false)))
  pub row_is : (note_vote_of r box m).row ≡ note_vote_row r box m

strictly_longer : (held page : Page) → same_round_refusal held page ≡ granted → (prefix_of held page ≡ true) × (prefix_of page held ≡ false)
strictly_longer held page h = (
  unless_held (prefix_of held page) lines_clash granted (omega arith) (unless_later (not (prefix_of page held)) already_done _ (omega arith) h),
  not-true (prefix_of page held) (unless_held (not (prefix_of page held)) already_done _ (omega arith) h),
)

pub note_vote_granted : (r : ReaderRow) (box : ℕ) (m : TwoB) → (note_vote_of r box m).refusal ≡ granted → NoteVoteGranted r box m
unfolding note_vote_of note_vote_refusal
note_vote_granted r box m h =
    record {
      newer =
          ⊎_elim inl
          (λ e.
          inr
          (⊎_elim inl (λ d. inr (d.0, (longer d.1).0, (longer d.1).1))
          (by_order_lem (held_at r box).round m.round (same_round_refusal (held_at r box).page m.page) e)))
          (by_slot (held_at r box).filled _ number);
      row_is = ap (λ (a : Noted ReaderRow). a.row) (answer_granted (note_vote_refusal (held_at r box) m) _ _ number);
    }
  where
    longer : same_round_refusal (held_at r box).page m.page ≡ granted →
        (prefix_of (held_at r box).page m.page ≡ true) × (prefix_of m.page (held_at r box).page ≡ false)
    longer = strictly_longer (held_at r box).page m.page

    number : note_vote_refusal (held_at r box) m ≡ granted
    number = sym (answer_number (λ (a : Noted ReaderRow). a.refusal) (note_vote_refusal (held_at r box) m) _ _ refl refl) ∙ h

pub note_vote_refused : (r : ReaderRow) (box : ℕ) (m : TwoB) → (note_vote_refusal (held_at r box) m ≡ granted → ⊥) →
    note_vote_of r box m ≡ refused (note_vote_refusal (held_at r box) m) r
unfolding note_vote_of
note_vote_refused r box m h = answer_refused (note_vote_refusal (held_at r box) m) _ _ h

-- what is held of a box afterwards: this vote, or what was
pub note_vote_held : (r : ReaderRow) (box : ℕ) (m : TwoB) (b : ℕ) →
    (held_at (note_vote_row r box m) b ≡ held_at r b) ⊎
    ((b ≡ box) × (held_at (note_vote_row r box m) b ≡ record { filled = true; round = m.round; page = m.page }))
unfolding note_vote_row held_at
note_vote_held r box m b = put_at r.held box b _ _

-- 12 note blank
pub record NoteBlankGranted (r : ReaderRow) (rack : ℕ) (m : TwoA) : Type 0 where
  pub blank : m.line.mark ≡ Nil
  -- none was held, or of a lower round
  pub newer : ((blank_at r rack).filled ≡ false) ⊎ Lower (blank_at r rack).round m.round
  pub row_is : (note_blank_of r rack m).row ≡ note_blank_row r rack m

pub note_blank_granted : (r : ReaderRow) (rack : ℕ) (m : TwoA) → (note_blank_of r rack m).refusal ≡ granted → NoteBlankGranted r rack m
unfolding note_blank_of note_blank_refusal
note_blank_granted r rack m h =
    record {
      blank = nil_is m.line.mark (unless_held (is_nil m.line.mark) wrong_message _ (omega arith) number);
      newer =
          ⊎_elim inl (λ e. inr (⊎_elim (λ l. l) (λ d. absurd (omega (arith, d.1))) (by_order_lem (blank_at r rack).round m.round already_done e)))
          (by_slot (blank_at r rack).filled _ (unless_later (is_nil m.line.mark) wrong_message _ (omega arith) number));
      row_is = ap (λ (a : Noted ReaderRow). a.row) (answer_granted (note_blank_refusal (blank_at r rack) m) _ _ number);
    }
  where
    number : note_blank_refusal (blank_at r rack) m ≡ granted
    number = sym (answer_number (λ (a : Noted ReaderRow). a.refusal) (note_blank_refusal (blank_at r rack) m) _ _ refl refl) ∙ h

pub note_blank_refused : (r : ReaderRow) (rack : ℕ) (m : TwoA) → (note_blank_refusal (blank_at r rack) m ≡ granted → ⊥) →
    note_blank_of r rack m ≡ refused (note_blank_refusal (blank_at r rack) m) r
unfolding note_blank_of
note_blank_refused r rack m h = answer_refused (note_blank_refusal (blank_at r rack) m) _ _ h

-- in which round a rack is held blank afterwards: this one, or as it was
pub note_blank_held : (r : ReaderRow) (rack : ℕ) (m : TwoA) (k : ℕ) →
    (blank_at (note_blank_row r rack m) k ≡ blank_at r k) ⊎ ((k ≡ rack) × (blank_at (note_blank_row r rack m) k ≡ record { filled = true; round = m.round }))
unfolding note_blank_row blank_at
note_blank_held r rack m k = put_at r.blanks rack k _ _
