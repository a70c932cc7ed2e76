-- The C step, from what its act answers.
use Rattle.std.proofs.Common.{ℕ, arith, eqb, eqb-true, ◌≡◌, refl, sym, ap, subst, ◌∙◌, Bool, true, false, cond, ◌&&◌, Some, Result, Ok, Err, List}
use borrow.Author.Tests.{eqb-false}
use Rattle.std.proofs.Math.Bool.{false≢true}
use Rattle.below.specs.declared.refusals.Refusal.{Refusal}
use Rattle.below.specs.declared.refusals.Refusal.TheVariants.{OutOfRange}
use Rattle.below.specs.Refusals.{unless, granted, bad_block, out_of_range, number_of, value_or}
use Rattle.below.proofs.Tests.{and_left}
use Rattle.rounds.specs.Setups.{setup_in_range}
use Rattle.records.specs.declared.stamp.Stamp.{Stamp}
use Rattle.records.specs.Rules.{stamp_rules}
use Rattle.words.specs.Bytes.{byte}
use Rattle.blocks.specs.Kinds.{Kind, decode, kept, good}
use Rattle.blocks.proofs.Ranges.{setup_fits, stamp_setup}
use Rattle.blocks.specs.Messages.{propose, one_a, one_b, two_s, two_a, two_b}
use Rattle.blocks.specs.Rows.{head, coordinator, box, rack, reader}
use Rattle.kinds.specs.Known.{good_as, known}
use Rattle.acts.specs.declared.step.Step.{Step}
use Rattle.acts.specs.declared.numbers.Numbers.{Numbers}
use Rattle.acts.specs.Acts.{Act}
use Rattle.acts.specs.Named.{stamp_of, own_act, named_refusal}
use Rattle.acts.specs.declared.code.Code.{Code}
use Rattle.acts.specs.Codes.{code_number, code_at}
use Rattle.acts.specs.Answers.{Acts, step_of}
use Rattle.hall.specs.Steps.{is_code, numbers_in_range}
use Rattle.step_numbers.specs.Narrowed.{narrowed}
use Rattle.step_numbers.proofs.Codes.{code_told, code_is}
use Rattle.step_numbers.proofs.SameAct.{same_act, same_named}
use Rattle.box_step.specs.BoxSteps.{is_block, range_refusal, box_refusal}

-- a good block of whichever kind has its setup in range
good_setup : {A : Type 0} (k : Kind A) (block : List ℕ) → good k block ≡ true → setup_in_range (stamp_of block).setup ≡ true
unfolding good
good_setup k block g =
    stamp_setup (decode k block).0 (k.agents (decode k block).0.setup)
    (and_left (stamp_rules (decode k block).0 (k.agents (decode k block).0.setup)) _ (and_left (kept k (decode k block).0 (decode k block).1) _ g))

known_setup : (block : List ℕ) → known block ≡ true → setup_in_range (stamp_of block).setup ≡ true
unfolding good_as
known_setup block h =
    at (eqb kind 1) propose
    (at (eqb kind 2) one_a
    (at (eqb kind 3) one_b
    (at (eqb kind 4) two_s
    (at (eqb kind 5) two_a
    (at (eqb kind 6) two_b
    (at (eqb kind 16) head
    (at (eqb kind 17) coordinator
    (at (eqb kind 18) box (at (eqb kind 19) rack (at (eqb kind 20) reader (λ e. absurd (false≢true e)))))))))))) h
  where
    kind : ℕ
    kind = byte block 2

    at : {A : Type 0} (b : Bool) (k : Kind A) {rest : Bool} → (rest ≡ true → setup_in_range (stamp_of block).setup ≡ true) →
        cond b (good k block) rest ≡ true → setup_in_range (stamp_of block).setup ≡ true
    at true k later e = good_setup k block e
    at false k later e = later e

-- what was found out of range, as it is handed to the act
abbrev outcome : Bool → Result (Unit {0}) Refusal
outcome b = cond b (Ok tt) (Err OutOfRange)

-- numbers out of range have a number of their own
in_range : (b : Bool) → eqb (unless b out_of_range granted) granted ≡ true → b ≡ true
in_range true e = refl
in_range false e = absurd (false≢true e)

-- a granted act had a good row, and numbers in range
named_good : (own : Stamp) (late : ℕ) (x : Step) (row message : List ℕ) → named_refusal own late x row message ≡ granted → (known row ≡ true) × (eqb late granted ≡ true)
unfolding named_refusal
named_good own late x row message h = go (known row) (eqb late granted) _ refl h
  where
    go : (g l : Bool) (rest : ℕ) → eqb late granted ≡ l → unless g bad_block (unless l late rest) ≡ granted → (g ≡ true) × (l ≡ true)
    go true true rest e k = (refl, refl)
    go true false rest e k = absurd (eqb-false _ _ e k)
    go false l rest e k = absurd (omega (arith, k))

-- an act is known by its refusal, and where it is granted by what it makes
same_acts : {n m refusal : ℕ} {y z : Act} {sends : Bool} {a b a' b' : List ℕ} → n ≡ m → (m ≡ granted → y ≡ z) → Acts n y refusal sends a b a' b' → Acts m z refusal sends a b a' b'
same_acts {n} {m} {refusal} {y} {z} {sends} {a} {b} {a'} {b'} e f s = go (eqb m granted) refl (subst (λ (k : ℕ). Acts k y refusal sends a b a' b') e s)
  where
    go : (t : Bool) → eqb m granted ≡ t → Acts m y refusal sends a b a' b' → Acts m z refusal sends a b a' b'
    go true h s = subst (λ (k : Act). Acts m k refusal sends a b a' b') (f (eqb-true _ _ h)) s
    go false h s = record { numbered = s.numbered; sending = s.sending ∙ rw h; kept = s.kept ∙ rw h; told = s.told ∙ rw h }

-- What the act answers is the C step's answer: `k` is the code's step, `own` the row's stamp.
module _ (row message sent : List ℕ) (x : Step) (result : Result Bool Refusal) {k : Code} {own : Stamp} {numbers : Numbers} {inside : Bool} {late : Result (Unit {0}) Refusal} {a a' b' : List ℕ}
    (long : is_block row && (is_block message && is_block sent) ≡ true) (told : code_at x.code ≡ Some k) (own_is : own ≡ stamp_of row)
    (inside_is : inside ≡ numbers_in_range own.setup x) (late_said : late ≡ outcome inside) (numbers_are : numbers ≡ narrowed x)
    (said : Acts (named_refusal own (number_of late) (step_of (code_number k) numbers) row message) (own_act (step_of (code_number k) numbers) row message) (number_of result)
    (value_or false result) a sent a' b') where
  code : is_code x.code ≡ true
  code = code_is x.code k told

  late_is : number_of late ≡ range_refusal (stamp_of row).setup x
  late_is = ap number_of late_said ∙ out inside ∙ ap (λ (b : Bool). unless b out_of_range granted) inside_is ∙ ap (λ (o : Stamp). range_refusal o.setup x) own_is
    where
      out : (b : Bool) → number_of (outcome b) ≡ unless b out_of_range granted
      out true = refl
      out false = refl

  act_is : known row ≡ true → eqb (number_of late) granted ≡ true → own_act (step_of x.code (narrowed x)) row message ≡ own_act x row message
  act_is g l =
      same_act (stamp_of row).setup (setup_fits (stamp_of row).setup (known_setup row g)) x
      (in_range (numbers_in_range (stamp_of row).setup x) (ap (λ (n : ℕ). eqb n granted) (sym late_is) ∙ l)) (stamp_of row) row message message code (λ _. refl)

  number_is : named_refusal (stamp_of row) (number_of late) (step_of x.code (narrowed x)) row message ≡ box_refusal row message sent x
  unfolding box_refusal
  number_is =
      same_named x (stamp_of row) (number_of late) row message message (λ _. refl) act_is ∙ ap (λ (n : ℕ). named_refusal (stamp_of row) n x row message) late_is ∙
      rw (long, code)

  abbrev Said : Stamp → Numbers → ℕ → Type 0
  Said o y n = Acts (named_refusal o (number_of late) (step_of n y) row message) (own_act (step_of n y) row message) (number_of result) (value_or false result) a sent a' b'

  pub acted : Acts (box_refusal row message sent x) (own_act x row message) (number_of result) (value_or false result) a sent a' b'
  acted =
      same_acts number_is (λ e. let f = named_good (stamp_of row) (number_of late) (step_of x.code (narrowed x)) row message (number_is ∙ e) in act_is f.0 f.1)
      (subst (λ (o : Stamp). Said o (narrowed x) x.code) own_is
      (subst (λ (y : Numbers). Said own y x.code) numbers_are (subst (Said own numbers) (code_told x.code k told) said)))
