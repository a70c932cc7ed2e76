-- What the blocks say of an act, once for every act: where the code finds a refusal in them that is the act's; where it finds none, the
-- act is what its own definition makes of what the blocks hold.
use Rattle.std.proofs.Common.{ℕ, eqb, ◌≡◌, refl, sym, ap, ◌∙◌, Bool, true, false, cond, ◌&&◌, ◌||◌, List, eq-eqb, ne_eqb}
use Rattle.below.specs.Refusals.{unless, granted, wrong_message}
use Rattle.below.proofs.Tests.{and_left, and_right}
use Rattle.records.specs.declared.stamp.Stamp.{Stamp}
use Rattle.blocks.specs.Kinds.{Kind, encode, good}
use Rattle.blocks.specs.Proper.{Proper}
use Rattle.blocks.proofs.Judged.{encode-decode}
use Rattle.kinds.specs.Known.{known}
use Rattle.acts.specs.Acts.{Act, refused, is_a, body_of, on_row, on_both}
use Rattle.acts.specs.Named.{stamp_of, same_hall, own_row, row_tests, both_tests, both_refusal, row_refusal, row_found, both_found}
use Rattle.acts.proofs.Familiar.{Familiar}
use Rattle.acts.proofs.Read.{row_right, both_right}

-- the act's own refusal stands where the code found none before it
row_found_lem : (r l h right is : Bool) (late own : ℕ) → eqb late granted ≡ l → (r ≡ true → right ≡ is) →
    row_tests r l h late (cond is own wrong_message) ≡
    cond (eqb (row_tests r l h late (unless right wrong_message granted)) granted) own (row_tests r l h late (unless right wrong_message granted))
row_found_lem false l h right is late own e k = refl
row_found_lem true false h right is late own e k = sym (rw e)
row_found_lem true true false right is late own e k = refl
row_found_lem true true true right is late own e k = go right is (k refl)
  where
    go : (a b : Bool) → a ≡ b → cond b own wrong_message ≡ cond (eqb (unless a wrong_message granted) granted) own (unless a wrong_message granted)
    go true b d = rw (← d)
    go false b d = rw (← d)

both_found_lem : (r l m h g right meant is one : Bool) (late own : ℕ) → eqb late granted ≡ l → (r ≡ true → right ≡ is) → (m ≡ true → meant ≡ one) →
    both_tests r l m h g late (cond (is && one) own wrong_message) ≡
    cond (eqb (both_tests r l m h g late (unless (right && meant) wrong_message granted)) granted) own
    (both_tests r l m h g late (unless (right && meant) wrong_message granted))
both_found_lem false l m h g right meant is one late own e k j = refl
both_found_lem true false m h g right meant is one late own e k j = sym (rw e)
both_found_lem true true false h g right meant is one late own e k j = refl
both_found_lem true true true false g right meant is one late own e k j = refl
both_found_lem true true true true false right meant is one late own e k j = refl
both_found_lem true true true true true right meant is one late own e k j = go right meant is one (k refl) (j refl)
  where
    go : (a b a' b' : Bool) → a ≡ a' → b ≡ b' → cond (a' && b') own wrong_message ≡ cond (eqb (unless (a && b) wrong_message granted) granted) own (unless (a && b) wrong_message granted)
    go true true a' b' p q = rw (← p, ← q)
    go true false a' b' p q = rw (← p, ← q)
    go false b a' b' p q = rw (← p)

-- a good block is known, so asking for either is asking for known
or_known : {A : Type 0} (k : Kind A) → Familiar k → (bytes : List ℕ) → good k bytes || known bytes ≡ known bytes
or_known k f bytes = go (good k bytes) refl
  where
    go : (b : Bool) → good k bytes ≡ b → b || known bytes ≡ known bytes
    go true e = sym (f.seen bytes e)
    go false e = refl

picked : (b : Bool) (a : Act) (n : ℕ) → (cond b a (refused n)).refusal ≡ cond b a.refusal n
picked true a n = refl
picked false a n = refl

-- the refusal that the code finds in the blocks
abbrev pub row_says : {R : Type 0} → Kind R → Stamp → ℕ → List ℕ → ℕ
row_says kr hall late row = row_found hall late row (good kr row)

abbrev pub both_say : {R M : Type 0} → Kind R → Kind M → Stamp → ℕ → List ℕ → List ℕ → ℕ
both_say kr km hall late row message = both_found hall late row (good kr row) message (good km message)

-- A step that names a row alone: `own` is what it makes of the row's body.
module _ {R : Type 0} (kr : Kind R) (fr : Familiar kr) (own : R → Act) (hall : Stamp) (late : ℕ) (row : List ℕ) where
  abbrev row_act : Act
  row_act = on_row kr row own

  row_named : row_says kr hall late row ≡ row_tests (known row) (eqb late granted) (own_row hall (stamp_of row)) late (unless (good kr row) wrong_message granted)
  row_named = ap (λ (b : Bool). row_tests b (eqb late granted) (own_row hall (stamp_of row)) late (unless (good kr row) wrong_message granted)) (or_known kr fr row)

  row_number : row_refusal hall late row row_act.refusal ≡ cond (eqb (row_says kr hall late row) granted) (own (body_of kr row)).refusal (row_says kr hall late row)
  unfolding row_refusal
  row_number =
      ap (λ (n : ℕ). row_tests (known row) (eqb late granted) (own_row hall (stamp_of row)) late n) (picked (is_a kr row) (own (body_of kr row)) wrong_message) ∙
      row_found_lem (known row) (eqb late granted) (own_row hall (stamp_of row)) (good kr row) (is_a kr row) late _ refl (fr.told row) ∙
      ap (λ (n : ℕ). cond (eqb n granted) (own (body_of kr row)).refusal n) (sym row_named)

  row_good : row_says kr hall late row ≡ granted → good kr row ≡ true
  row_good z = row_right (known row) (eqb late granted) (own_row hall (stamp_of row)) (good kr row) late refl (sym row_named ∙ z)

  pub row_own : row_says kr hall late row ≡ granted → row_act ≡ own (body_of kr row)
  row_own z = ap (λ (b : Bool). cond b (own (body_of kr row)) (refused wrong_message)) (sym (fr.told row (fr.seen row (row_good z))) ∙ row_good z)

  pub row_granted : row_says kr hall late row ≡ granted → row_refusal hall late row row_act.refusal ≡ (own (body_of kr row)).refusal
  row_granted z = row_number ∙ ap (λ (b : Bool). cond b (own (body_of kr row)).refusal (row_says kr hall late row)) (eq-eqb (row_says kr hall late row) granted z)

  pub row_refused : (row_says kr hall late row ≡ granted → ⊥) → row_refusal hall late row row_act.refusal ≡ row_says kr hall late row
  row_refused h = row_number ∙ ap (λ (b : Bool). cond b (own (body_of kr row)).refusal (row_says kr hall late row)) (ne_eqb (row_says kr hall late row) granted h)

  -- what the row holds is written as the row's very bytes
  pub row_again : (P : R → Type 0) → Proper kr P → (row_says kr hall late row) ≡ granted → encode kr (stamp_of row) (body_of kr row) ≡ row
  row_again P proper z = sym (encode-decode kr P proper row (row_good z))

-- A step that names a row and a message: of both the body.
module _ {R M : Type 0} (kr : Kind R) (km : Kind M) (fr : Familiar kr) (fm : Familiar km) (own : R → M → Act) (hall : Stamp) (late : ℕ) (row message : List ℕ) where
  abbrev both_act : Act
  both_act = on_both kr km row message own

  both_named : both_say kr km hall late row message ≡ both_tests (known row) (eqb late granted) (known message) (own_row hall (stamp_of row)) (same_hall hall (stamp_of message)) late (unless (good kr row && good km message) wrong_message granted)
  both_named = λ i. both_tests (or_known kr fr row i) (eqb late granted) (or_known km fm message i) (own_row hall (stamp_of row)) (same_hall hall (stamp_of message)) late (unless (good kr row && good km message) wrong_message granted)

  both_number : both_refusal hall late row message both_act.refusal ≡ cond (eqb (both_say kr km hall late row message) granted) (own (body_of kr row) (body_of km message)).refusal (both_say kr km hall late row message)
  unfolding both_refusal
  both_number =
      ap (λ (n : ℕ). both_tests (known row) (eqb late granted) (known message) (own_row hall (stamp_of row)) (same_hall hall (stamp_of message)) late n) (picked (is_a kr row && is_a km message) (own (body_of kr row) (body_of km message)) wrong_message) ∙
      both_found_lem (known row) (eqb late granted) (known message) (own_row hall (stamp_of row)) (same_hall hall (stamp_of message)) (good kr row) (good km message) (is_a kr row) (is_a km message) late _ refl (fr.told row) (fm.told message) ∙
      ap (λ (n : ℕ). cond (eqb n granted) (own (body_of kr row) (body_of km message)).refusal n) (sym both_named)

  both_good : both_say kr km hall late row message ≡ granted → good kr row && good km message ≡ true
  both_good z = both_right (known row) (eqb late granted) (known message) (own_row hall (stamp_of row)) (same_hall hall (stamp_of message)) (good kr row && good km message) late refl (sym both_named ∙ z)

  good_r : both_say kr km hall late row message ≡ granted → good kr row ≡ true
  good_r z = and_left (good kr row) (good km message) (both_good z)

  good_m : both_say kr km hall late row message ≡ granted → good km message ≡ true
  good_m z = and_right (good kr row) (good km message) (both_good z)

  pub both_own : both_say kr km hall late row message ≡ granted → both_act ≡ own (body_of kr row) (body_of km message)
  both_own z =
      ap (λ (b : Bool). cond b (own (body_of kr row) (body_of km message)) (refused wrong_message))
      ((λ i. sym (fr.told row (fr.seen row (good_r z))) i && sym (fm.told message (fm.seen message (good_m z))) i) ∙ both_good z)

  pub both_granted : both_say kr km hall late row message ≡ granted → both_refusal hall late row message both_act.refusal ≡ (own (body_of kr row) (body_of km message)).refusal
  both_granted z = both_number ∙ ap (λ (b : Bool). cond b (own (body_of kr row) (body_of km message)).refusal (both_say kr km hall late row message)) (eq-eqb (both_say kr km hall late row message) granted z)

  pub both_refused : (both_say kr km hall late row message ≡ granted → ⊥) → both_refusal hall late row message both_act.refusal ≡ both_say kr km hall late row message
  both_refused h = both_number ∙ ap (λ (b : Bool). cond b (own (body_of kr row) (body_of km message)).refusal (both_say kr km hall late row message)) (ne_eqb (both_say kr km hall late row message) granted h)
