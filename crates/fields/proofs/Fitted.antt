-- Which values fit their field, and that every field of the layout is lawful.
use Rattle.std.proofs.Common.{ℕ, zero, suc, ◌≤◌, ◌<◌, arith, eqb, leb, ◌≡◌, refl, sym, ap, subst, ◌∙◌, Bool, true, false, cond, eqb-true, eq-eqb, leb-true, le-leb, ne_eqb}
use Rattle.below.proofs.Tests.{and_left}
use Rattle.pages.specs.declared.line.Reading
use Rattle.pages.specs.declared.line.Mark.{Mark}
use Rattle.pages.specs.declared.line.Mark.TheVariants.{Absent, Nil, Reading as reads}
use Rattle.pages.specs.declared.line.Line.{Line}
use Rattle.pages.specs.declared.page.Page.{Page}
use Rattle.pages.specs.declared.page.Vote.{Vote}
use Rattle.pages.specs.Racks.{most_racks}
use Rattle.pages.specs.Pages.{line}
use Rattle.rounds.specs.declared.round.Round.{Round}
use Rattle.rounds.specs.Setups.{most_boxes}
use Rattle.records.specs.declared.slots.Heard.{Heard}
use Rattle.records.specs.declared.slots.Held.{Held}
use Rattle.records.specs.declared.slots.Blank.{Blank}
use Rattle.records.specs.Slots.{no_blank}
use Rattle.fields.specs.Codecs.{one_byte, two_bytes, four_bytes, both, times}
use Rattle.fields.specs.Layout.{flag, round, reading, no_reading, is_no_reading, state_of, payload_of, line_of, line_exact, line_as, page, vote, heard, held, blank, five_heard, five_held, eight_blanks, past_heard, past_held}
use Rattle.fields.proofs.Lawful.{Lawful, one_lawful, two_lawful, four_lawful, both_lawful, like_lawful, some_lawful}
use Rattle.fields.proofs.Times.{Listed, times_lawful}

abbrev pub Any : {A : Type 0} → A → Type 0
Any v = Unit {0}

abbrev pub RoundFits : Round → Type 0
RoundFits r = (r.n.0 < 65536) × ((r.c < 256) × (r.cf < 256))

abbrev pub ReadingFits : Reading.Reading → Type 0
ReadingFits r = r.0 < 4294967296

abbrev pub LineFits : Line → Type 0
LineFits l = ReadingFits (payload_of l.mark)

abbrev pub PageFits : Page → Type 0
PageFits p = Listed most_racks (line Absent) LineFits p.lines

abbrev pub VoteFits : Vote → Type 0
VoteFits v = PageFits v.page

abbrev pub HeardFits : Heard → Type 0
HeardFits h = RoundFits h.vrnd × VoteFits h.vote

abbrev pub HeldFits : Held → Type 0
HeldFits h = RoundFits h.round × PageFits h.page

abbrev pub BlankFits : Blank → Type 0
BlankFits b = RoundFits b.round

pub flag_lawful : Lawful flag Any
flag_lawful =
    some_lawful (λ b. cond b 1 0) (λ x. eqb x 1) one_byte Any (λ x. x < 256) one_lawful fits (λ w h. tt) there (λ x. leb x 1) again tested
  where
    fits : (b : Bool) → Unit {0} → cond b 1 0 < 256
    fits true u = omega arith
    fits false u = omega arith

    there : (b : Bool) → Unit {0} → eqb (cond b 1 0) 1 ≡ b
    there true u = refl
    there false u = refl

    again : (x : ℕ) → x < 256 → leb x 1 ≡ true → cond (eqb x 1) 1 0 ≡ x
    again zero h t = refl
    again (suc zero) h t = refl
    again (suc (suc x)) h t = absurd (let l : suc (suc x) ≤ 1 = leb-true _ _ t in omega arith)

    tested : (x : ℕ) → cond (eqb x 1) 1 0 ≡ x → leb x 1 ≡ true
    tested x e = le-leb x 1 (subst (λ (m : ℕ). m ≤ 1) e (small (eqb x 1)))
      where
        small : (b : Bool) → cond b 1 0 ≤ 1
        small true = omega arith
        small false = omega arith

pub round_lawful : Lawful round RoundFits
round_lawful =
    like_lawful (λ r. (r.n.0, (r.c, r.cf))) (λ p. record { n = record { 0 = p.0 }; c = p.1.0; cf = p.1.1 }) (both two_bytes (both one_byte one_byte)) RoundFits
    (λ p. (p.0 < 65536) × ((p.1.0 < 256) × (p.1.1 < 256)))
    (both_lawful two_bytes (both one_byte one_byte) (λ x. x < 65536) (λ p. (p.0 < 256) × (p.1 < 256)) two_lawful
    (both_lawful one_byte one_byte (λ x. x < 256) (λ x. x < 256) one_lawful one_lawful))
    (λ v h. h) (λ w h. h) (λ v h. refl) (λ w h. refl)

pub reading_lawful : Lawful reading ReadingFits
reading_lawful =
    like_lawful (λ r. r.0) (λ x. record { 0 = x }) four_bytes ReadingFits (λ x. x < 4294967296) four_lawful (λ v h. h) (λ w h. h) (λ v h. refl) (λ w h. refl)

pub line_lawful : Lawful line_as LineFits
line_lawful =
    some_lawful (λ l. (state_of l.mark, payload_of l.mark)) (λ p. line_of p.0 p.1) (both one_byte reading) LineFits
    (λ p. (p.0 < 256) × ReadingFits p.1) (both_lawful one_byte reading (λ x. x < 256) ReadingFits one_lawful reading_lawful)
    (λ v h. (state_small v.mark, h)) (λ w h. fitting w.0 w.1 h.1) (λ v h. there v.mark) (λ p. line_exact p.0 p.1)
    (λ w h t. again w.0 w.1 t) (λ w e. tested w.0 w.1 (ap (λ (p : ℕ × Reading.Reading). p.0) e) (ap (λ (p : ℕ × Reading.Reading). p.1) e))
  where
    state_small : (m : Mark) → state_of m < 256
    state_small Absent = omega arith
    state_small Nil = omega arith
    state_small (reads r) = omega arith

    high : (s : ℕ) → suc (suc (suc s)) ≤ 1 → ⊥
    high s l = omega arith

    none_so : (s : ℕ) → 0 ≡ suc (suc (suc s)) → ⊥
    none_so s e = omega arith

    other : (s : ℕ) (r : Reading.Reading) → line_of (suc (suc (suc s))) r ≡ line Absent
    other s r = simp (ne_eqb (suc (suc (suc s))) 2 (λ e. omega (arith, e)), ne_eqb (suc (suc (suc s))) 1 (λ e. omega (arith, e)))

    fitting : (s : ℕ) (r : Reading.Reading) → ReadingFits r → LineFits (line_of s r)
    fitting zero r h = omega arith
    fitting (suc zero) r h = omega arith
    fitting (suc (suc zero)) r h = h
    fitting (suc (suc (suc s))) r h = subst LineFits (sym (other s r)) (omega arith)

    there : (m : Mark) → line_of (state_of m) (payload_of m) ≡ line m
    there Absent = refl
    there Nil = refl
    there (reads r) = refl

    none : (r : Reading.Reading) → is_no_reading r ≡ true → no_reading ≡ r
    none r e = λ i. record { 0 = sym (eqb-true r.0 0 e) i }

    again : (s : ℕ) (r : Reading.Reading) → line_exact s r ≡ true →
        ◌≡◌ {A = ℕ × Reading.Reading} (state_of (line_of s r).mark, payload_of (line_of s r).mark) (s, r)
    again zero r t = λ i. (0, none r t i)
    again (suc zero) r t = λ i. (1, none r t i)
    again (suc (suc zero)) r t = refl
    again (suc (suc (suc s))) r t =
        absurd (high s (leb-true _ _ (and_left (leb (suc (suc (suc s))) 1) _ (rw (ne_eqb (suc (suc (suc s))) 2 (λ e. omega (arith, e))) at t))))

    tested : (s : ℕ) (r : Reading.Reading) → state_of (line_of s r).mark ≡ s → payload_of (line_of s r).mark ≡ r → line_exact s r ≡ true
    tested zero r p q = eq-eqb _ _ (sym (ap (λ (x : Reading.Reading). x.0) q))
    tested (suc zero) r p q = eq-eqb _ _ (sym (ap (λ (x : Reading.Reading). x.0) q))
    tested (suc (suc zero)) r p q = refl
    tested (suc (suc (suc s))) r p q = absurd (none_so s (ap (λ (l : Line). state_of l.mark) (sym (other s r)) ∙ p))

pub page_lawful : Lawful page PageFits
page_lawful =
    like_lawful (λ p. p.lines) (λ l. record { lines = l }) (times most_racks (line Absent) line_as) PageFits (Listed most_racks (line Absent) LineFits)
    (times_lawful most_racks (line Absent) line_as LineFits line_lawful) (λ v h. h) (λ w h. h) (λ v h. refl) (λ w h. refl)

pub vote_lawful : Lawful vote VoteFits
vote_lawful =
    like_lawful (λ v. (v.some, v.page)) (λ p. record { some = p.0; page = p.1 }) (both flag page) VoteFits (λ p. Unit {0} × PageFits p.1)
    (both_lawful flag page Any PageFits flag_lawful page_lawful) (λ v h. (tt, h)) (λ w h. h.1) (λ v h. refl) (λ w h. refl)

pub heard_lawful : Lawful heard HeardFits
heard_lawful =
    like_lawful (λ h. (h.filled, (h.vrnd, h.vote))) (λ p. record { filled = p.0; vrnd = p.1.0; vote = p.1.1 }) (both flag (both round vote)) HeardFits
    (λ p. Unit {0} × (RoundFits p.1.0 × VoteFits p.1.1))
    (both_lawful flag (both round vote) Any (λ p. RoundFits p.0 × VoteFits p.1) flag_lawful (both_lawful round vote RoundFits VoteFits round_lawful vote_lawful))
    (λ v h. (tt, h)) (λ w h. h.1) (λ v h. refl) (λ w h. refl)

pub held_lawful : Lawful held HeldFits
held_lawful =
    like_lawful (λ h. (h.filled, (h.round, h.page))) (λ p. record { filled = p.0; round = p.1.0; page = p.1.1 }) (both flag (both round page)) HeldFits
    (λ p. Unit {0} × (RoundFits p.1.0 × PageFits p.1.1))
    (both_lawful flag (both round page) Any (λ p. RoundFits p.0 × PageFits p.1) flag_lawful (both_lawful round page RoundFits PageFits round_lawful page_lawful))
    (λ v h. (tt, h)) (λ w h. h.1) (λ v h. refl) (λ w h. refl)

pub blank_lawful : Lawful blank BlankFits
blank_lawful =
    like_lawful (λ b. (b.filled, b.round)) (λ p. record { filled = p.0; round = p.1 }) (both flag round) BlankFits (λ p. Unit {0} × RoundFits p.1)
    (both_lawful flag round Any RoundFits flag_lawful round_lawful) (λ v h. (tt, h)) (λ w h. h.1) (λ v h. refl) (λ w h. refl)

pub five_heard_lawful : Lawful five_heard (Listed most_boxes past_heard HeardFits)
five_heard_lawful = times_lawful most_boxes past_heard heard HeardFits heard_lawful

pub five_held_lawful : Lawful five_held (Listed most_boxes past_held HeldFits)
five_held_lawful = times_lawful most_boxes past_held held HeldFits held_lawful

pub eight_blanks_lawful : Lawful eight_blanks (Listed most_racks no_blank BlankFits)
eight_blanks_lawful = times_lawful most_racks no_blank blank BlankFits blank_lawful
