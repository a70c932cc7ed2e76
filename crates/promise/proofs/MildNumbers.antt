-- The numbers that the steps themselves refuse with: never 1, 2 or 3, and 9 only by open, note vote and learn.
use Rattle.std.proofs.Common.{ℕ, ◌≤◌, arith, leb, eqb, ◌≡◌, refl, Bool, true, false, cond, not, ◌&&◌, ◌⊎◌, inl, inr, ◌≢◌, List}
use Rattle.below.specs.Refusals.{unless, granted, wrong_message}
use Rattle.below.proofs.Tests.{and_right}
use Rattle.pages.specs.Lines.{is_nil, is_reading, is_absent}
use Rattle.pages.specs.Racks.{has}
use Rattle.pages.specs.Pages.{prefix_of, empty_of}
use Rattle.rounds.specs.declared.setup.Setup.{Setup}
use Rattle.rounds.specs.declared.round.Round.{Round}
use Rattle.rounds.specs.declared.order.Order.{Order}
use Rattle.rounds.specs.declared.order.Order.TheVariants.{Below, Equal, Above, Clash}
use Rattle.rounds.specs.Setups.{majority_of}
use Rattle.rounds.specs.Rounds.{order_of, is_above, is_equal}
use Rattle.records.specs.declared.slots.Held.{Held}
use Rattle.records.specs.declared.slots.Blank.{Blank}
use Rattle.records.specs.declared.messages.OneA.{OneA}
use Rattle.records.specs.declared.messages.OneB.{OneB}
use Rattle.records.specs.declared.messages.TwoS.{TwoS}
use Rattle.records.specs.declared.messages.TwoA.{TwoA}
use Rattle.records.specs.declared.messages.TwoB.{TwoB}
use Rattle.records.specs.declared.rows.CoordinatorRow.{CoordinatorRow}
use Rattle.records.specs.declared.rows.BoxRow.{BoxRow}
use Rattle.records.specs.declared.rows.RackRow.{RackRow}
use Rattle.records.specs.declared.rows.ReaderRow.{ReaderRow}
use Rattle.records.specs.Slots.{heard_at, held_at, blank_at}
use Rattle.records.specs.Answers.{Noted}
use Rattle.blocks.specs.Kinds.{Kind}
use Rattle.racks.specs.Steps.{prepare_refusal, fast_refusal, blank_refusal}
use Rattle.boxes.specs.Steps.{may_vote, join_refusal, take_page_refusal, take_reading_refusal}
use Rattle.coordinators.specs.Steps.{any_clash, heard_count, joined_votes, start_refusal, hear_refusal, open_refusal}
use Rattle.readers.specs.Notes.{by_order, same_round_refusal, note_vote_refusal, note_vote_of, note_blank_refusal, note_blank_of}
use Rattle.readers.specs.Learning.{Learns, too_few, not_compatible, all_nil, learnt}
use Rattle.below.proofs.Granted.{answer_number}
use Rattle.acts.specs.Acts.{Act, refused, is_a, body_of, on_row, on_both}

-- not 1, 2 or 3; and not 9 either
abbrev pub Low : ℕ → Type 0
Low n = (n ≡ 0) ⊎ (4 ≤ n)

pub record Mild (n : ℕ) : Type 0 where
  pub low : Low n
  pub fits : n ≢ 9

pub mild_unless : (b : Bool) {n m : ℕ} → Mild n → Mild m → Mild (unless b n m)
mild_unless true p q = q
mild_unless false p q = p

pub low_unless : (b : Bool) {n m : ℕ} → Low n → Low m → Low (unless b n m)
low_unless true p q = q
low_unless false p q = p

pub mild_0 : Mild 0
mild_0 = record { low = inl refl; fits = λ e. omega (arith, e) }

pub mild_5 : Mild 5
mild_5 = record { low = inr (omega arith); fits = λ e. omega (arith, e) }

pub mild_6 : Mild 6
mild_6 = record { low = inr (omega arith); fits = λ e. omega (arith, e) }

pub mild_7 : Mild 7
mild_7 = record { low = inr (omega arith); fits = λ e. omega (arith, e) }

pub low_8 : Low 8
low_8 = inr (omega arith)

pub low_9 : Low 9
low_9 = inr (omega arith)

-- the steps' own numbers
pub low_order : (o : Order) {n : ℕ} → Low n → Low (by_order o n)
low_order Below p = inl refl
low_order Equal p = p
low_order Above p = mild_6.low
low_order Clash p = mild_6.low

pub mild_order : (o : Order) → Mild (by_order o 7)
mild_order Below = mild_0
mild_order Equal = mild_7
mild_order Above = mild_6
mild_order Clash = mild_6

pub low_vote : (h : Held) (m : TwoB) → Low (note_vote_refusal h m)
unfolding note_vote_refusal
low_vote h m = go h.filled
  where
    go : (b : Bool) → Low (cond b (by_order (order_of h.round m.round) (same_round_refusal h.page m.page)) granted)
    go true =
        low_order (order_of h.round m.round)
        (low_unless (not (prefix_of m.page h.page)) mild_7.low (low_unless (prefix_of h.page m.page) low_9 (inl refl)))
    go false = inl refl

pub mild_blank : (h : Blank) (m : TwoA) → Mild (note_blank_refusal h m)
unfolding note_blank_refusal
mild_blank h m = mild_unless (is_nil m.line.mark) mild_5 (go h.filled)
  where
    go : (b : Bool) → Mild (cond b (by_order (order_of h.round m.round) 7) granted)
    go true = mild_order (order_of h.round m.round)
    go false = mild_0

pub low_learn : {s : Setup} {r : ReaderRow} {round : Round} {a : Noted ReaderRow} → Learns s r round a → Low a.refusal
low_learn (too_few n) = low_8
low_learn (not_compatible among m n) = low_9
low_learn (all_nil among m w j t) = low_9
low_learn (learnt among m w j t) = inl refl

pub note_vote_number : (r : ReaderRow) (b : ℕ) (m : TwoB) → (note_vote_of r b m).refusal ≡ note_vote_refusal (held_at r b) m
unfolding note_vote_of
note_vote_number r b m = answer_number (λ (a : Noted ReaderRow). a.refusal) (note_vote_refusal (held_at r b) m) _ _ refl refl

pub note_blank_number : (r : ReaderRow) (k : ℕ) (m : TwoA) → (note_blank_of r k m).refusal ≡ note_blank_refusal (blank_at r k) m
unfolding note_blank_of
note_blank_number r k m = answer_number (λ (a : Noted ReaderRow). a.refusal) (note_blank_refusal (blank_at r k) m) _ _ refl refl

pub mild_prepare : (r : RackRow) (m : TwoS) → Mild (prepare_refusal r m)
unfolding prepare_refusal
mild_prepare r m = mild_unless (is_above (order_of m.round r.prnd)) mild_6 mild_0

pub mild_fast : (a : ℕ) (r : RackRow) → Mild (fast_refusal a r)
unfolding fast_refusal
mild_fast a r = mild_unless (has r.prnd.cf a) mild_6 (mild_unless (is_absent r.pval.mark) mild_7 mild_0)

pub mild_say_blank : (a : ℕ) (r : RackRow) (m : TwoA) → Mild (blank_refusal a r m)
unfolding blank_refusal
mild_say_blank a r m =
    mild_unless (is_reading m.line.mark) mild_5
    (mild_unless (is_equal (order_of m.round r.prnd) && has r.prnd.cf a) mild_6 (mild_unless (is_absent r.pval.mark) mild_7 mild_0))

pub mild_join : (r : BoxRow) (m : OneA) → Mild (join_refusal r m)
unfolding join_refusal
mild_join r m = mild_unless (is_above (order_of m.round r.rnd)) mild_6 mild_0

pub mild_take_page : (r : BoxRow) (m : TwoS) → Mild (take_page_refusal r m)
unfolding take_page_refusal
mild_take_page r m =
    mild_unless (not (empty_of m.page)) mild_5
    (mild_unless (may_vote r m.round) mild_6 (mild_unless (not (is_equal (order_of r.vrnd m.round) && r.vval.some)) mild_7 mild_0))

pub mild_take_reading : (r : BoxRow) (m : TwoA) → Mild (take_reading_refusal r m)
unfolding take_reading_refusal
mild_take_reading r m = mild_unless (is_reading m.line.mark) mild_5 (mild_unless (may_vote r m.round) mild_6 mild_0)

pub mild_start : (r : CoordinatorRow) (round : Round) → Mild (start_refusal r round)
unfolding start_refusal
mild_start r round = mild_unless (is_above (order_of round r.crnd)) mild_6 mild_0

pub mild_hear : (r : CoordinatorRow) (b : ℕ) (m : OneB) → Mild (hear_refusal r b m)
unfolding hear_refusal
mild_hear r b m =
    mild_unless (is_equal (order_of m.round r.crnd)) mild_6 (mild_unless (not r.cval.some && not (heard_at r b).filled) mild_7 mild_0)

pub low_open : (s : Setup) (a : ℕ) (r : CoordinatorRow) → Low (open_refusal s a r)
unfolding open_refusal
low_open s a r =
    low_unless (eqb r.crnd.c a && not (any_clash r)) mild_6.low
    (low_unless (not r.cval.some) mild_7.low
    (low_unless (leb (majority_of s.boxes) (heard_count r)) low_8 (low_unless (joined_votes r).some low_9 (inl refl))))

-- a row or a message of another kind is 5
pub mild_right : (b : Bool) (act : Act) → Mild act.refusal → Mild (cond b act (refused wrong_message)).refusal
mild_right true act h = h
mild_right false act h = mild_5

pub mild_row : {R : Type 0} (k : Kind R) (row : List ℕ) (act : R → Act) → Mild (act (body_of k row)).refusal → Mild (on_row k row act).refusal
mild_row k row act h = mild_right (is_a k row) (act (body_of k row)) h

pub mild_both : {R M : Type 0} (k : Kind R) (m : Kind M) (row message : List ℕ) (act : R → M → Act) →
    (is_a m message ≡ true → Mild (act (body_of k row) (body_of m message)).refusal) → Mild (on_both k m row message act).refusal
mild_both k m row message act h = go (is_a k row && is_a m message) refl
  where
    go : (b : Bool) → is_a k row && is_a m message ≡ b → Mild (cond b (act (body_of k row) (body_of m message)) (refused wrong_message)).refusal
    go true e = h (and_right (is_a k row) (is_a m message) e)
    go false e = mild_5
