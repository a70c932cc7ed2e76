-- What an act answers and writes, from what the code of its shape promises: once for each shape, over any step.
use Rattle.std.proofs.Common.{ℕ, eqb, ◌≡◌, refl, sym, ap, ◌∙◌, Bool, true, false, cond, ◌&&◌, List, eq-eqb, eqb-true, ne_eqb, subst, Result, Ok, Err}
use Rattle.std.specs.Result.{MatchResult}
use borrow.Author.Tests.{eqb-false}
use Rattle.below.proofs.Tests.{and_false_right}
use Rattle.below.specs.declared.refusals.Refusal.{Refusal}
use Rattle.below.specs.Refusals.{granted, number, number_of, value_or}
use Rattle.below.proofs.Refused.{number_some}
use Rattle.records.specs.declared.stamp.Stamp.{Stamp}
use Rattle.records.specs.declared.granted.Granted.{Granted}
use Rattle.records.specs.Answers.{Answer, Noted, answer_of, noted_of}
use Rattle.blocks.specs.Kinds.{Kind, encode}
use Rattle.acts.specs.Acts.{Act, body_of, on_row, on_both, sending, silent}
use Rattle.acts.specs.Named.{stamp_of, row_refusal, both_refusal}
use Rattle.acts.specs.Answers.{Acts}
use Rattle.acts.specs.Shapes.{Sends, Stays}
use Rattle.acts.proofs.Familiar.{Familiar}
use Rattle.acts.proofs.Ways.{row_says, row_own, row_granted, row_refused, both_say, both_own, both_granted, both_refused}

-- refused, by whatever number: the buffers stay
pub left : {found n : ℕ} {act : Act} {sends : Bool} {a s a' s' : List ℕ} → (found ≡ granted → ⊥) → n ≡ found → sends ≡ false → a' ≡ a → s' ≡ s →
    Acts found act n sends a s a' s'
left {found} {n} {act} {sends} {a} {s} h e b p q =
    record {
      numbered = e;
      sending = b ∙ ap (λ (x : Bool). x && act.sends) (sym off);
      kept = p ∙ ap (λ (x : Bool). cond x act.row a) (sym off);
      told = q ∙ ap (λ (x : Bool). cond (x && act.sends) act.sent s) (sym off);
    }
  where
    off : eqb found granted ≡ false
    off = ne_eqb found granted h

-- the same of what the code answers
pub stays : {found : ℕ} {act : Act} (result : Result Bool Refusal) {a s a' s' : List ℕ} → (found ≡ granted → ⊥) → number_of result ≡ found → a' ≡ a → s' ≡ s →
    Acts found act (number_of result) (value_or false result) a s a' s'
stays {found} result h e p q = left h e (silent result e) p q
  where
    silent : (r : Result Bool Refusal) → number_of r ≡ found → value_or false r ≡ false
    silent (Ok b) z = absurd (h (sym z))
    silent (Err e) z = refl

-- granted: the row after, and the message where one is sent
pub does : {number : ℕ} {act : Act} {a s a' s' : List ℕ} → number ≡ granted → act.sends ≡ true → a' ≡ act.row → s' ≡ act.sent → Acts number act granted true a s a' s'
does {number} {act} {a} {s} e t p q =
    record {
      numbered = sym e;
      sending = join (sym on) (sym t);
      kept = p ∙ ap (λ (b : Bool). cond b act.row a) (sym on);
      told = q ∙ ap (λ (b : Bool). cond b act.sent s) (join (sym on) (sym t));
    }
  where
    on : eqb number granted ≡ true
    on = eq-eqb number granted e

    join : {x y : Bool} → true ≡ x → true ≡ y → true ≡ x && y
    join u v = rw (← u, ← v)

pub rests : {number : ℕ} {act : Act} {a s a' : List ℕ} → number ≡ granted → act.sends ≡ false → a' ≡ act.row → Acts number act granted false a s a' s
rests {number} {act} {a} {s} e t p =
    record {
      numbered = sym e;
      sending = sym off;
      kept = p ∙ ap (λ (b : Bool). cond b act.row a) (sym (eq-eqb number granted e));
      told = ap (λ (b : Bool). cond b act.sent s) (sym off);
    }
  where
    off : eqb number granted && act.sends ≡ false
    off = and_false_right (eqb number granted) t

-- an answer is the code's result, whatever that is
answered : {n : ℕ} {act : Act} {result r : Result Bool Refusal} {a s a' s' : List ℕ} → result ≡ r → Acts n act (number_of r) (value_or false r) a s a' s' →
    Acts n act (number_of result) (value_or false result) a s a' s'
answered {n} {act} {result} {r} {a} {s} {a'} {s'} e h = subst (λ (x : Result Bool Refusal). Acts n act (number_of x) (value_or false x) a s a' s') (sym e) h

-- a step that sends has reached its own definition: `n` and `act` are what that makes of the records
sent : {R S : Type 0} (kr : Kind R) (ks : Kind S) (stamp : Stamp) (x : Answer R S) (row : R) (nothing : S) {n : ℕ} {act : Act} {post : Result (Granted R S) Refusal → Type 0} {result : Result Bool Refusal} {a s a' s' : List ℕ} →
    ((y : Result (Granted R S) Refusal) → post y → answer_of row nothing y ≡ x) → n ≡ x.refusal → act.sends ≡ true → act.row ≡ encode kr stamp x.row → act.sent ≡ encode ks stamp x.sent →
    Sends kr ks stamp post a s a' s' result → Acts n act (number_of result) (value_or false result) a s a' s'
sent {R} {S} kr ks stamp x row nothing {n} {act} {post} {result} {a} {s} {a'} {s'} h e on f t reached = go reached.0 reached.1 reached.2
  where
    go : (y : Result (Granted R S) Refusal) → post y → MatchResult y (λ g. (result ≡ Ok true) × (a' ≡ encode kr stamp g.row) × (s' ≡ encode ks stamp g.sent)) (λ e. (result ≡ Err e) × (a' ≡ a) × (s' ≡ s)) →
        Acts n act (number_of result) (value_or false result) a s a' s'
    go (Ok g) p m =
        answered m.0
        (does (e ∙ ap (λ (z : Answer R S). z.refusal) (sym (h (Ok g) p))) on
        (m.1 ∙ ap (λ (z : Answer R S). encode kr stamp z.row) (h (Ok g) p) ∙ sym f)
        (m.2 ∙ ap (λ (z : Answer R S). encode ks stamp z.sent) (h (Ok g) p) ∙ sym t))
    go (Err d) p m = answered m.0 (stays (Err d) (λ z. number_some d (sym own ∙ z)) (sym own) m.1 m.2)
      where
        own : n ≡ number d
        own = e ∙ ap (λ (z : Answer R S). z.refusal) (sym (h (Err d) p))

-- and one that doesn't
kept : {R : Type 0} (kr : Kind R) (stamp : Stamp) (x : Noted R) (row : R) {n : ℕ} {act : Act} {post : Result R Refusal → Type 0} {result : Result Bool Refusal} {a s a' : List ℕ} →
    ((y : Result R Refusal) → post y → noted_of row y ≡ x) → n ≡ x.refusal → act ≡ silent kr stamp x.refusal x.row →
    Stays kr stamp post a a' result → Acts n act (number_of result) (value_or false result) a s a' s
kept {R} kr stamp x row {n} {act} {post} {result} {a} {s} {a'} h e f reached = go reached.0 reached.1 reached.2
  where
    go : (y : Result R Refusal) → post y → MatchResult y (λ after. (result ≡ Ok false) × (a' ≡ encode kr stamp after)) (λ e. (result ≡ Err e) × (a' ≡ a)) →
        Acts n act (number_of result) (value_or false result) a s a' s
    go (Ok after) p m =
        answered m.0
        (rests (e ∙ ap (λ (z : Noted R). z.refusal) (sym (h (Ok after) p))) (ap (λ (z : Act). z.sends) f)
        (m.1 ∙ ap (λ (z : Noted R). encode kr stamp z.row) (h (Ok after) p) ∙ ap (λ (z : Act). z.row) (sym f)))
    go (Err d) p m = answered m.0 (stays (Err d) (λ z. number_some d (sym own ∙ z)) (sym own) m.1 refl)
      where
        own : n ≡ number d
        own = e ∙ ap (λ (z : Noted R). z.refusal) (sym (h (Err d) p))

-- a step on a row alone, and on a row and a message: `x` is its own definition
module _ {R : Type 0} (kr : Kind R) (fr : Familiar kr) (hall : Stamp) (late : ℕ) (row : List ℕ) where
  -- `own` is what the act's definition makes of the row's body, which may give the row back as the bytes that it was
  pub row_sent : {S : Type 0} (ks : Kind S) (own : R → Act) (x : R → Answer R S) (nothing : S) {post : Result (Granted R S) Refusal → Type 0} {result : Result Bool Refusal} {a s a' s' : List ℕ} →
      ((y : Result (Granted R S) Refusal) → post y → answer_of (body_of kr row) nothing y ≡ x (body_of kr row)) →
      (own (body_of kr row)).refusal ≡ (x (body_of kr row)).refusal → (own (body_of kr row)).sends ≡ true →
      (row_says kr hall late row ≡ granted → (own (body_of kr row)).row ≡ encode kr (stamp_of row) (x (body_of kr row)).row) →
      (own (body_of kr row)).sent ≡ encode ks (stamp_of row) (x (body_of kr row)).sent →
      ((row_says kr hall late row ≡ granted → ⊥) → (number_of result ≡ row_says kr hall late row) × (a' ≡ a) × (s' ≡ s)) →
      (row_says kr hall late row ≡ granted → Sends kr ks (stamp_of row) post a s a' s' result) →
      Acts (row_refusal hall late row (on_row kr row own).refusal) (on_row kr row own) (number_of result) (value_or false result) a s a' s'
  row_sent {S} ks own x nothing {post} {result} {a} {s} {a'} {s'} h n on r t refused reached = go (eqb (row_says kr hall late row) granted) refl
    where
      go : (b : Bool) → eqb (row_says kr hall late row) granted ≡ b → Acts (row_refusal hall late row (on_row kr row own).refusal) (on_row kr row own) (number_of result) (value_or false result) a s a' s'
      go true e =
          let z : row_says kr hall late row ≡ granted = eqb-true _ _ e in
          let f : on_row kr row own ≡ own (body_of kr row) = row_own kr fr own hall late row z in
          sent kr ks (stamp_of row) (x (body_of kr row)) (body_of kr row) nothing h (row_granted kr fr own hall late row z ∙ n) (ap (λ (v : Act). v.sends) f ∙ on) (ap (λ (v : Act). v.row) f ∙ r z) (ap (λ (v : Act). v.sent) f ∙ t) (reached z)
      go false e =
          let k : row_says kr hall late row ≡ granted → ⊥ = eqb-false _ _ e in
          stays result (λ z. k (sym (row_refused kr fr own hall late row k) ∙ z)) ((refused k).0 ∙ sym (row_refused kr fr own hall late row k)) (refused k).1 (refused k).2

  pub row_kept : (x : R → Noted R) {post : Result R Refusal → Type 0} {result : Result Bool Refusal} {a s a' : List ℕ} →
      ((y : Result R Refusal) → post y → noted_of (body_of kr row) y ≡ x (body_of kr row)) →
      ((row_says kr hall late row ≡ granted → ⊥) → (number_of result ≡ row_says kr hall late row) × (a' ≡ a)) →
      (row_says kr hall late row ≡ granted → Stays kr (stamp_of row) post a a' result) →
      Acts (row_refusal hall late row (on_row kr row (λ r. silent kr (stamp_of row) (x r).refusal (x r).row)).refusal)
      (on_row kr row (λ r. silent kr (stamp_of row) (x r).refusal (x r).row)) (number_of result) (value_or false result) a s a' s
  row_kept x {post} {result} {a} {s} {a'} h refused reached = go (eqb (row_says kr hall late row) granted) refl
    where
      own : R → Act
      own r = silent kr (stamp_of row) (x r).refusal (x r).row

      go : (b : Bool) → eqb (row_says kr hall late row) granted ≡ b → Acts (row_refusal hall late row (on_row kr row own).refusal) (on_row kr row own) (number_of result) (value_or false result) a s a' s
      go true e =
          let z : row_says kr hall late row ≡ granted = eqb-true _ _ e in
          kept kr (stamp_of row) (x (body_of kr row)) (body_of kr row) h (row_granted kr fr own hall late row z) (row_own kr fr own hall late row z) (reached z)
      go false e =
          let n : row_says kr hall late row ≡ granted → ⊥ = eqb-false _ _ e in
          stays result (λ z. n (sym (row_refused kr fr own hall late row n) ∙ z)) ((refused n).0 ∙ sym (row_refused kr fr own hall late row n)) (refused n).1 refl

module _ {R M : Type 0} (kr : Kind R) (km : Kind M) (fr : Familiar kr) (fm : Familiar km) (hall : Stamp) (late : ℕ) (row message : List ℕ) where
  pub both_sent : {S : Type 0} (ks : Kind S) (x : R → M → Answer R S) (nothing : S) {post : Result (Granted R S) Refusal → Type 0} {result : Result Bool Refusal} {a s a' s' : List ℕ} →
      ((y : Result (Granted R S) Refusal) → post y → answer_of (body_of kr row) nothing y ≡ x (body_of kr row) (body_of km message)) →
      ((both_say kr km hall late row message ≡ granted → ⊥) → (number_of result ≡ both_say kr km hall late row message) × (a' ≡ a) × (s' ≡ s)) →
      (both_say kr km hall late row message ≡ granted → Sends kr ks (stamp_of row) post a s a' s' result) →
      Acts (both_refusal hall late row message (on_both kr km row message (λ r m. sending kr ks (stamp_of row) (x r m).refusal (x r m).row (x r m).sent)).refusal)
      (on_both kr km row message (λ r m. sending kr ks (stamp_of row) (x r m).refusal (x r m).row (x r m).sent)) (number_of result) (value_or false result) a s a' s'
  both_sent {S} ks x nothing {post} {result} {a} {s} {a'} {s'} h refused reached = go (eqb (both_say kr km hall late row message) granted) refl
    where
      own : R → M → Act
      own r m = sending kr ks (stamp_of row) (x r m).refusal (x r m).row (x r m).sent

      go : (b : Bool) → eqb (both_say kr km hall late row message) granted ≡ b → Acts (both_refusal hall late row message (on_both kr km row message own).refusal) (on_both kr km row message own) (number_of result) (value_or false result) a s a' s'
      go true e =
          let z : both_say kr km hall late row message ≡ granted = eqb-true _ _ e in
          let f : on_both kr km row message own ≡ own (body_of kr row) (body_of km message) = both_own kr km fr fm own hall late row message z in
          sent kr ks (stamp_of row) (x (body_of kr row) (body_of km message)) (body_of kr row) nothing h (both_granted kr km fr fm own hall late row message z) (ap (λ (v : Act). v.sends) f) (ap (λ (v : Act). v.row) f) (ap (λ (v : Act). v.sent) f) (reached z)
      go false e =
          let n : both_say kr km hall late row message ≡ granted → ⊥ = eqb-false _ _ e in
          stays result (λ z. n (sym (both_refused kr km fr fm own hall late row message n) ∙ z)) ((refused n).0 ∙ sym (both_refused kr km fr fm own hall late row message n)) (refused n).1 (refused n).2

  pub both_kept : (x : R → M → Noted R) {post : Result R Refusal → Type 0} {result : Result Bool Refusal} {a s a' : List ℕ} →
      ((y : Result R Refusal) → post y → noted_of (body_of kr row) y ≡ x (body_of kr row) (body_of km message)) →
      ((both_say kr km hall late row message ≡ granted → ⊥) → (number_of result ≡ both_say kr km hall late row message) × (a' ≡ a)) →
      (both_say kr km hall late row message ≡ granted → Stays kr (stamp_of row) post a a' result) →
      Acts (both_refusal hall late row message (on_both kr km row message (λ r m. silent kr (stamp_of row) (x r m).refusal (x r m).row)).refusal)
      (on_both kr km row message (λ r m. silent kr (stamp_of row) (x r m).refusal (x r m).row)) (number_of result) (value_or false result) a s a' s
  both_kept x {post} {result} {a} {s} {a'} h refused reached = go (eqb (both_say kr km hall late row message) granted) refl
    where
      own : R → M → Act
      own r m = silent kr (stamp_of row) (x r m).refusal (x r m).row

      go : (b : Bool) → eqb (both_say kr km hall late row message) granted ≡ b → Acts (both_refusal hall late row message (on_both kr km row message own).refusal) (on_both kr km row message own) (number_of result) (value_or false result) a s a' s
      go true e =
          let z : both_say kr km hall late row message ≡ granted = eqb-true _ _ e in
          kept kr (stamp_of row) (x (body_of kr row) (body_of km message)) (body_of kr row) h (both_granted kr km fr fm own hall late row message z) (both_own kr km fr fm own hall late row message z) (reached z)
      go false e =
          let n : both_say kr km hall late row message ≡ granted → ⊥ = eqb-false _ _ e in
          stays result (λ z. n (sym (both_refused kr km fr fm own hall late row message n) ∙ z)) ((refused n).0 ∙ sym (both_refused kr km fr fm own hall late row message n)) (refused n).1 refl
