-- Rows at the start keep the rules and have the shapes of their types.
use Rattle.std.proofs.Common.{ℕ, arith, eqb, ltb, length, ◌≡◌, refl, sym, ap, ◌∙◌, Bool, true, false, cond, not, ◌&&◌, eq-eqb, lt-ltb}
use Rattle.std.proofs.Math.Bool.{false≢true}
use Rattle.below.proofs.Tests.{and_true, and_left, and_right, or_true_left, all_true, not_true_false}
use Rattle.below.proofs.Rows.{length-row, row_at}
use Rattle.pages.specs.Lines.{is_nil}
use Rattle.pages.specs.Racks.{racks_below}
use Rattle.pages.specs.Pages.{empty, none, some, trivial_of}
use Rattle.pages.proofs.Kept.{Whole, empty_empty, empty_within, empty_whole}
use Rattle.pages.proofs.PageLaws.{at_empty, trivial_lines}
use Rattle.rounds.specs.declared.setup.Setup.{Setup}
use Rattle.rounds.specs.declared.order.Order.{Order}
use Rattle.rounds.specs.Setups.{setup_in_range, one_to, some_racks, most_boxes, most_racks, most_coordinators, most_readers}
use Rattle.rounds.specs.Rounds.{round_in_range, same_round, zero_of, is_above}
use Rattle.rounds.proofs.Ordered.{equal_order}
use Rattle.records.specs.declared.slots.Heard.{Heard}
use Rattle.records.specs.declared.slots.Held.{Held}
use Rattle.records.specs.Slots.{no_heard, no_held, no_blank, heard_at, held_at, blank_at}
use Rattle.records.specs.Rules.{vote_rules, opened_rules, last_rules, nothing_heard, nothing_held, heard_rules, held_rules, blank_rules, all_heard, all_held, all_blanks, coordinator_rules, box_rules, rack_rules, reader_rules}
use Rattle.records.proofs.RuleParts.{empty_open_rules}
use Rattle.blocks.proofs.RowKinds.{CoordinatorShaped, ReaderShaped}
use Rattle.hall.specs.Halls.{fresh_coordinator, fresh_box, fresh_rack, fresh_reader}
use Rattle.safety.proofs.InRange.{setup_some_rack}

zero_self : (s : Setup) → same_round (zero_of s) (zero_of s) ≡ true
zero_self s = and_true (eq-eqb s.c0 s.c0 refl) (eq-eqb s.cf0 s.cf0 refl)

module _ (s : Setup) (good : setup_in_range s ≡ true) where
  zero_range : round_in_range s (zero_of s) ≡ true
  unfolding setup_in_range round_in_range
  zero_range =
      and_true (and_left (ltb s.c0 s.coordinators) (some_racks s.racks s.cf0) last)
      (and_true (and_right (ltb s.c0 s.coordinators) (some_racks s.racks s.cf0) last) (zero_self s))
    where
      last : ltb s.c0 s.coordinators && some_racks s.racks s.cf0 ≡ true
      last =
          and_right (one_to most_readers s.readers) _
          (and_right (one_to most_coordinators s.coordinators) _ (and_right (one_to most_boxes s.boxes) _ (and_right (one_to most_racks s.racks) _ good)))

  pub coordinator_rules_lem : (c : ℕ) → coordinator_rules s c (fresh_coordinator s c) ≡ true
  unfolding coordinator_rules opened_rules all_heard heard_at heard_rules nothing_heard
  coordinator_rules_lem c =
      and_true (and_true (and_true zero_range (or_true_left _ (zero_self s))) (opened (eqb c s.c0)))
      (all_true most_boxes _ (λ b l. ap (heard_rules s (zero_of s) b) (row_at most_boxes (λ k. no_heard) b _ l) ∙ empty_empty))
    where
      opened : (b : Bool) → opened_rules s (cond b (some empty) none) ≡ true
      opened true = empty_open_rules s empty (empty_within (racks_below s.racks)) empty_empty
      opened false = empty_empty

  pub box_rules_lem : (b : ℕ) → box_rules s b (fresh_box s) ≡ true
  unfolding box_rules last_rules vote_rules
  box_rules_lem b =
      and_true
      (and_true zero_range (and_true (and_true zero_range (and_true (empty_within (racks_below s.racks)) empty_empty)) (zero_self s)))
      (ap (λ (o : Order). not (is_above o)) (equal_order (zero_of s)))

  pub rack_rules_lem : (k : ℕ) → rack_rules s k (fresh_rack s) ≡ true
  unfolding rack_rules
  rack_rules_lem k = and_true zero_range refl

  pub reader_rules_lem : (i : ℕ) → reader_rules s i fresh_reader ≡ true
  unfolding reader_rules all_held all_blanks held_at blank_at held_rules nothing_held blank_rules
  reader_rules_lem i =
      and_true
      (and_true (and_true (empty_within (racks_below s.racks)) (ap not not_trivial))
      (all_true most_boxes _ (λ b l. ap (held_rules s b) (row_at most_boxes (λ k. no_held) b _ l) ∙ empty_empty)))
      (all_true most_racks _ (λ k l. ap (blank_rules s k) (row_at most_racks (λ j. no_blank) k _ l)))
    where
      not_trivial : trivial_of (racks_below s.racks) empty ≡ false
      not_trivial =
          not_true_false _
          (λ e.
          false≢true
          (ap is_nil (sym (at_empty 0 (omega arith))) ∙
          trivial_lines (racks_below s.racks) empty e 0 (omega arith) (lt-ltb 0 s.racks (setup_some_rack s good))))

pub coordinator_shaped : (s : Setup) (c : ℕ) → CoordinatorShaped (fresh_coordinator s c)
coordinator_shaped s c =
    (opened (eqb c s.c0), record { many = length-row most_boxes (λ k. no_heard); each = λ b l. ap (λ (h : Heard). length h.vote.page.lines) (row_at most_boxes (λ k. no_heard) b _ l) ∙ empty_whole })
  where
    opened : (b : Bool) → Whole (cond b (some empty) none).page
    opened true = empty_whole
    opened false = empty_whole

pub reader_shaped : ReaderShaped fresh_reader
reader_shaped =
    (empty_whole, (record { many = length-row most_boxes (λ k. no_held); each = λ b l. ap (λ (h : Held). length h.page.lines) (row_at most_boxes (λ k. no_held) b _ l) ∙ empty_whole }, length-row most_racks (λ k. no_blank)))
