-- Both round trips, size, bytes and soundness, for the head and each row.
use Rattle.std.proofs.Common.{ℕ, ◌≤◌, arith, ltb, eqb, length, get_or, ◌≡◌, Bool, true, false, cond, not, ◌&&◌, ◌||◌, leb-true}
use Rattle.below.proofs.Tests.{and_left, and_right, all_at}
use Rattle.pages.specs.Racks.{most_racks, racks_below}
use Rattle.pages.specs.Pages.{empty_of, trivial_of, valued_of}
use Rattle.rounds.specs.declared.setup.Setup.{Setup}
use Rattle.rounds.specs.declared.round.Round.{Round}
use Rattle.rounds.specs.Setups.{most_boxes}
use Rattle.rounds.specs.Rounds.{round_in_range, same_round, zero_of, order_of, is_below}
use Rattle.records.specs.declared.slots.Heard.{Heard}
use Rattle.records.specs.declared.slots.Held.{Held}
use Rattle.records.specs.declared.slots.Blank.{Blank}
use Rattle.records.specs.declared.rows.Head.{Head}
use Rattle.records.specs.declared.rows.CoordinatorRow.{CoordinatorRow}
use Rattle.records.specs.declared.rows.BoxRow.{BoxRow}
use Rattle.records.specs.declared.rows.RackRow.{RackRow}
use Rattle.records.specs.declared.rows.ReaderRow.{ReaderRow}
use Rattle.records.specs.Slots.{no_round, no_blank, heard_at, held_at, blank_at}
use Rattle.records.specs.Rules.{page_rules, opened_rules, last_rules, nothing_heard, nothing_held, filled_heard, heard_rules, held_rules, blank_rules, all_heard, all_held, all_blanks, head_rules, coordinator_rules, box_rules, rack_rules, reader_rules}
use Rattle.fields.specs.Layout.{past_heard, past_held}
use Rattle.fields.proofs.Times.{Listed}
use Rattle.fields.proofs.Fitted.{Any, HeardFits, HeldFits, BlankFits}
use Rattle.blocks.proofs.Ranges.{SetupFits, round_fits, no_round_fits, line_fits, page_fits, empty_fits, opened_fits, last_fits}
use Rattle.blocks.proofs.Kept.{Kept, kept_of}
use Rattle.blocks.specs.Rows.{head, coordinator, box, rack, reader}
use Rattle.blocks.proofs.MessageKinds.{Lined}
use Rattle.blocks.specs.RowPropers.{HeadFits, head_proper, CoordinatorFits, coordinator_proper, BoxFits, box_proper, RackFits, rack_proper, ReaderFits, reader_proper}

-- pages have the eight lines of their type, and arrays of slots their slots
abbrev pub CoordinatorShaped : CoordinatorRow → Type 0
CoordinatorShaped r = Lined r.cval.page × Listed most_boxes past_heard (λ h. Lined h.vote.page) r.heard

abbrev pub ReaderShaped : ReaderRow → Type 0
ReaderShaped r = Lined r.page × (Listed most_boxes past_held (λ h. Lined h.page) r.held × (length r.blanks ≡ most_racks))

few : {x m : ℕ} → x ≤ m → m ≤ 256 → x ≤ 256
few p q = omega arith

head_fits : (s : Setup) (agent : ℕ) (r : Head) → head_rules s agent r ≡ true → HeadFits r
unfolding head_rules
head_fits s agent r h = let l : r.count ≤ 96 = leb-true _ _ h in omega arith

pub head_kept : Kept head Any
head_kept = kept_of head HeadFits Any head_proper (λ s f. omega arith) (λ s r f l h. head_fits s.setup s.agent r h)

-- slots, filled or empty
heard_fits : (s : Setup) (crnd : Round) (k : ℕ) (h : Heard) → SetupFits s → Lined h.vote.page → heard_rules s crnd k h ≡ true → HeardFits h
unfolding heard_rules filled_heard nothing_heard
heard_fits s crnd k h f l e = go h.filled e
  where
    go : (b : Bool) → cond b (ltb k s.boxes && not (same_round crnd (zero_of s)) && last_rules s h.vrnd h.vote && is_below (order_of h.vrnd crnd))
        (same_round h.vrnd no_round && not h.vote.some && empty_of h.vote.page) ≡ true → HeardFits h
    go true t =
        last_fits s f h.vrnd h.vote l
        (and_right (ltb k s.boxes && not (same_round crnd (zero_of s))) _
        (and_left (ltb k s.boxes && not (same_round crnd (zero_of s)) && last_rules s h.vrnd h.vote) _ t))
    go false t = (
      no_round_fits h.vrnd (and_left (same_round h.vrnd no_round) _ (and_left (same_round h.vrnd no_round && not h.vote.some) _ t)),
      empty_fits h.vote.page l (and_right (same_round h.vrnd no_round && not h.vote.some) _ t),
    )

held_fits : (s : Setup) (k : ℕ) (h : Held) → SetupFits s → Lined h.page → held_rules s k h ≡ true → HeldFits h
unfolding held_rules nothing_held
held_fits s k h f l e = go h.filled e
  where
    go : (b : Bool) → cond b (ltb k s.boxes && round_in_range s h.round && page_rules s h.page && valued_of h.page) (same_round h.round no_round && empty_of h.page) ≡ true →
        HeldFits h
    go true t = (
      round_fits s h.round f (and_right (ltb k s.boxes) _ (and_left (ltb k s.boxes && round_in_range s h.round) _ three)),
      page_fits (racks_below s.racks) h.page l (and_right (ltb k s.boxes && round_in_range s h.round) _ three),
    )
      where
        three : ltb k s.boxes && round_in_range s h.round && page_rules s h.page ≡ true
        three = and_left (ltb k s.boxes && round_in_range s h.round && page_rules s h.page) _ t
    go false t =
        (no_round_fits h.round (and_left (same_round h.round no_round) _ t), empty_fits h.page l (and_right (same_round h.round no_round) _ t))

blank_fits : (s : Setup) (k : ℕ) (b : Blank) → SetupFits s → blank_rules s k b ≡ true → BlankFits b
unfolding blank_rules
blank_fits s k b f e = go b.filled e
  where
    go : (c : Bool) → cond c (ltb k s.racks && round_in_range s b.round) (same_round b.round no_round) ≡ true → BlankFits b
    go true t = round_fits s b.round f (and_right (ltb k s.racks) _ t)
    go false t = no_round_fits b.round t

coordinator_fits : (s : Setup) (agent : ℕ) (r : CoordinatorRow) → SetupFits s → CoordinatorShaped r → coordinator_rules s agent r ≡ true → CoordinatorFits r
unfolding coordinator_rules all_heard heard_at
coordinator_fits s agent r f l h = (
  round_fits s r.crnd f (and_left (round_in_range s r.crnd) _ (and_left (round_in_range s r.crnd && own) _ three)),
  (
    opened_fits s f r.cval l.0 (and_right (round_in_range s r.crnd && own) _ three),
    record {
      many = l.1.many;
      each = λ k b. heard_fits s r.crnd k (get_or r.heard k past_heard) f (l.1.each k b)
          (all_at most_boxes (λ j. heard_rules s r.crnd j (heard_at r j)) (and_right (round_in_range s r.crnd && own && opened_rules s r.cval) _ h) k b);
    },
  ),
)
  where
    own : Bool
    own = same_round r.crnd (zero_of s) || eqb r.crnd.c agent

    three : round_in_range s r.crnd && own && opened_rules s r.cval ≡ true
    three = and_left (round_in_range s r.crnd && own && opened_rules s r.cval) (all_heard s r) h

pub coordinator_kept : Kept coordinator CoordinatorShaped
coordinator_kept =
    kept_of coordinator CoordinatorFits CoordinatorShaped coordinator_proper (λ s f. few f.coordinators (omega arith)) (λ s r f l h. coordinator_fits s.setup s.agent r f l h)

box_fits : (s : Setup) (agent : ℕ) (r : BoxRow) → SetupFits s → Lined r.vval.page → box_rules s agent r ≡ true → BoxFits r
unfolding box_rules
box_fits s agent r f l h =
    (round_fits s r.rnd f (and_left (round_in_range s r.rnd) _ both), last_fits s f r.vrnd r.vval l (and_right (round_in_range s r.rnd) _ both))
  where
    both : round_in_range s r.rnd && last_rules s r.vrnd r.vval ≡ true
    both = and_left (round_in_range s r.rnd && last_rules s r.vrnd r.vval) _ h

pub box_kept : Kept box (λ r. Lined r.vval.page)
box_kept = kept_of box BoxFits (λ r. Lined r.vval.page) box_proper (λ s f. few f.boxes (omega arith)) (λ s r f l h. box_fits s.setup s.agent r f l h)

rack_fits : (s : Setup) (agent : ℕ) (r : RackRow) → SetupFits s → rack_rules s agent r ≡ true → RackFits r
unfolding rack_rules
rack_fits s agent r f h = (round_fits s r.prnd f (and_left (round_in_range s r.prnd) _ h), line_fits r.pval (and_right (round_in_range s r.prnd) _ h))

pub rack_kept : Kept rack Any
rack_kept = kept_of rack RackFits Any rack_proper (λ s f. few f.racks (omega arith)) (λ s r f l h. rack_fits s.setup s.agent r f h)

reader_fits : (s : Setup) (agent : ℕ) (r : ReaderRow) → SetupFits s → ReaderShaped r → reader_rules s agent r ≡ true → ReaderFits r
unfolding reader_rules all_held all_blanks held_at blank_at
reader_fits s agent r f l h = (
  page_fits (racks_below s.racks) r.page l.0 (and_left (page_rules s r.page) _ (and_left (page_rules s r.page && fresh) _ three)),
  (
    record {
      many = l.1.0.many;
      each = λ k b. held_fits s k (get_or r.held k past_held) f (l.1.0.each k b)
          (all_at most_boxes (λ j. held_rules s j (held_at r j)) (and_right (page_rules s r.page && fresh) _ three) k b);
    },
    record {
      many = l.1.1;
      each = λ k b. blank_fits s k (get_or r.blanks k no_blank) f
          (all_at most_racks (λ j. blank_rules s j (blank_at r j)) (and_right (page_rules s r.page && fresh && all_held s r) _ h) k b);
    },
  ),
)
  where
    fresh : Bool
    fresh = not (trivial_of (racks_below s.racks) r.page)

    three : page_rules s r.page && fresh && all_held s r ≡ true
    three = and_left (page_rules s r.page && fresh && all_held s r) (all_blanks s r) h

pub reader_kept : Kept reader ReaderShaped
reader_kept =
    kept_of reader ReaderFits ReaderShaped reader_proper (λ s f. few f.readers (omega arith)) (λ s r f l h. reader_fits s.setup s.agent r f l h)
