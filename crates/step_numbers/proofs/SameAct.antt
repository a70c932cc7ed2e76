-- An act looks only at the numbers and at the message that its step names; so the numbers that are in range may be narrowed, and
-- any block may stand where no message is named.
use Rattle.std.proofs.Common.{ℕ, zero, suc, ◌%◌, ◌≤◌, ◌<◌, arith, mod-eq_of_lt, eqb, ltb, ltb-true, leb-true, eqb-true, ◌≡◌, refl, ap, subst, ◌∙◌, Bool, true, false, not, ◌||◌, List}
use Rattle.below.specs.Refusals.{unless, granted, bad_block, other_hall}
use Rattle.below.proofs.Tests.{and_left, and_right}
use Rattle.rounds.specs.declared.setup.Setup.{Setup}
use Rattle.rounds.specs.declared.round.Round.{Round}
use Rattle.rounds.specs.Setups.{one_to}
use Rattle.rounds.specs.Rounds.{round_of, largest_number}
use Rattle.records.specs.declared.stamp.Stamp.{Stamp}
use Rattle.blocks.proofs.Ranges.{SetupFits, round_fits, some_small}
use Rattle.acts.specs.declared.step.Step.{Step}
use Rattle.acts.specs.Acts.{Act, act_of, join_act, hear_act, prepare_act, fast_act, blank_act, take_page_act, take_reading_act, note_vote_act, note_blank_act, learn_act}
use Rattle.acts.specs.Named.{is_good, stamp_of, same_hall, names, own_act, own_row, named_refusal}
use Rattle.acts.specs.Answers.{step_of}
use Rattle.hall.specs.Steps.{is_code, numbers_in_range}
use Rattle.step_numbers.specs.Narrowed.{narrowed}

abbrev step_with : (code agent message n c cf reading : ℕ) → Step
step_with code agent message n c cf reading = record { code = code; agent = agent; message = message; n = n; c = c; cf = cf; reading = reading }

-- two steps of one code that agree in what it names
module _ (h : Stamp) (row message message' : List ℕ) (a j a' j' n c cf n' c' cf' v : ℕ) where
  same_at : (code : ℕ) → 0 < code → code ≤ 13 → (eqb code 2 ≡ true → (n' ≡ n) × (cf' ≡ cf)) → (eqb code 13 ≡ true → round_of n' c' cf' ≡ round_of n c cf) →
      (names code ≡ true → message' ≡ message) →
      act_of h (step_with code a' j' n' c' cf' v) row message' ≡ act_of h (step_with code a j n c cf v) row message
  unfolding act_of
  same_at zero l b s r m = absurd (omega (arith, l))
  same_at (suc zero) l b s r m = refl
  same_at (suc (suc zero)) l b s r m = rw ((s refl).0, (s refl).1)
  same_at (suc (suc (suc zero))) l b s r m = ap (join_act h row) (m refl)
  same_at (suc (suc (suc (suc zero)))) l b s r m = ap (hear_act h row) (m refl)
  same_at (suc (suc (suc (suc (suc zero))))) l b s r m = refl
  same_at (suc (suc (suc (suc (suc (suc zero)))))) l b s r m = ap (prepare_act h row) (m refl)
  same_at (suc (suc (suc (suc (suc (suc (suc zero))))))) l b s r m = ap (fast_act h row) (m refl)
  same_at (suc (suc (suc (suc (suc (suc (suc (suc zero)))))))) l b s r m = ap (blank_act h row) (m refl)
  same_at (suc (suc (suc (suc (suc (suc (suc (suc (suc zero))))))))) l b s r m = ap (take_page_act h row) (m refl)
  same_at (suc (suc (suc (suc (suc (suc (suc (suc (suc (suc zero)))))))))) l b s r m = ap (take_reading_act h row) (m refl)
  same_at (suc (suc (suc (suc (suc (suc (suc (suc (suc (suc (suc zero))))))))))) l b s r m = ap (note_vote_act h row) (m refl)
  same_at (suc (suc (suc (suc (suc (suc (suc (suc (suc (suc (suc (suc zero)))))))))))) l b s r m = ap (note_blank_act h row) (m refl)
  same_at (suc (suc (suc (suc (suc (suc (suc (suc (suc (suc (suc (suc (suc zero))))))))))))) l b s r m = ap (λ (q : Round). learn_act q h row) (r refl)
  same_at (suc (suc (suc (suc (suc (suc (suc (suc (suc (suc (suc (suc (suc (suc code)))))))))))))) l b s r m = absurd (omega (arith, b))

module _ (s : Setup) (f : SetupFits s) (x : Step) (range : numbers_in_range s x ≡ true) where
  range_at : (code : ℕ) → eqb x.code code ≡ true → numbers_in_range s (step_with code x.agent x.message x.n x.c x.cf x.reading) ≡ true
  range_at code e = subst (λ (k : ℕ). numbers_in_range s (step_with k x.agent x.message x.n x.c x.cf x.reading) ≡ true) (eqb-true _ _ e) range

  start_kept : eqb x.code 2 ≡ true → (x.n % 65536 ≡ x.n) × (x.cf % 256 ≡ x.cf)
  unfolding numbers_in_range
  start_kept e = (
    mod-eq_of_lt (up (leb-true _ _ (and_right (ltb 0 x.n) _ (and_left (one_to largest_number x.n) _ (range_at 2 e))))),
    mod-eq_of_lt (some_small s.racks x.cf f.racks (and_right (one_to largest_number x.n) _ (range_at 2 e))),
  )
    where
      up : {k : ℕ} → k ≤ 65535 → k < 65536
      up l = omega arith

  learn_kept : eqb x.code 13 ≡ true → (narrowed x).round ≡ round_of x.n x.c x.cf
  unfolding numbers_in_range
  learn_kept e = let k = round_fits s (round_of x.n x.c x.cf) f (range_at 13 e) in rw (mod-eq_of_lt k.0, mod-eq_of_lt k.1.0, mod-eq_of_lt k.1.1)

  pub same_act : (h : Stamp) (row message message' : List ℕ) → is_code x.code ≡ true → (names x.code ≡ true → message' ≡ message) →
      act_of h (step_of x.code (narrowed x)) row message' ≡ act_of h x row message
  same_act h row message message' code m =
      same_at h row message message' x.agent x.message 0 0 x.n x.c x.cf (x.n % 65536) (x.c % 256) (x.cf % 256) x.reading x.code
      (ltb-true _ _ (and_left (ltb 0 x.code) _ code)) (leb-true _ _ (and_right (ltb 0 x.code) _ code)) start_kept learn_kept m

-- the refusals of the blocks that a step names: the act comes after a good row and numbers in range
module _ (x : Step) (own : Stamp) (late : ℕ) (row message message' : List ℕ) (m : names x.code ≡ true → message' ≡ message)
    (a : is_good row ≡ true → eqb late granted ≡ true → own_act (step_of x.code (narrowed x)) row message' ≡ own_act x row message) where
  pub same_named : named_refusal own late (step_of x.code (narrowed x)) row message' ≡ named_refusal own late x row message
  unfolding named_refusal
  same_named = go (is_good row) (eqb late granted) (names x.code) m (λ p q. ap (λ (y : Act). y.refusal) (a p q))
    where
      go : (g l n : Bool) {number number' : ℕ} → (n ≡ true → message' ≡ message) → (g ≡ true → l ≡ true → number' ≡ number) →
          unless g bad_block (unless l late (unless (not n || is_good message') bad_block (unless (own_row own (stamp_of row)) other_hall (unless (not n || same_hall own (stamp_of message')) other_hall number')))) ≡
          unless g bad_block (unless l late (unless (not n || is_good message) bad_block (unless (own_row own (stamp_of row)) other_hall (unless (not n || same_hall own (stamp_of message)) other_hall number))))
      go false l n e f = refl
      go true false n e f = refl
      go true true false e f = ap (λ (z : ℕ). unless (own_row own (stamp_of row)) other_hall z) (f refl refl)
      go true true true {number} {number'} e f =
          ap (λ (y : List ℕ). unless (is_good y) bad_block (unless (own_row own (stamp_of row)) other_hall (unless (same_hall own (stamp_of y)) other_hall number'))) (e refl) ∙
          ap (λ (z : ℕ). unless (is_good message) bad_block (unless (own_row own (stamp_of row)) other_hall (unless (same_hall own (stamp_of message)) other_hall z))) (f refl refl)
