-- The course of a run of steps from a good hall: each moment is a moment of the run of rows and messages that safety speaks of.
use Rattle.std.proofs.Common.{ℕ, zero, suc, ◌+◌, arith, add-zero, eqb, ◌≡◌, refl, sym, ap, subst, ◌∙◌, Bool, true, false, cond, ◌&&◌, ◌⊎◌, inl, inr, ⊎_elim, List, [], ◌∷◌, ◌++◌, eqb-true}
use Rattle.std.proofs.Math.Seq.{take-nil}
use mathlib.Core.List.Memᴰ
use Rattle.below.specs.Refusals.{granted}
use Rattle.pages.specs.declared.line.Reading.{Reading}
use Rattle.rounds.specs.declared.setup.Setup.{Setup}
use Rattle.acts.specs.declared.step.Step.{Step}
use Rattle.hall.specs.Steps.{granting, hall_refusal, hall_after}
use Rattle.history.specs.History.{Offer, ◌∈◌}
use Rattle.safety.proofs.Views.{View}
use Rattle.safety.proofs.Runs.{Run, then, Moment, last, earlier}
use Rattle.promise.specs.Runs.{run_hall, moment_of, OfferedBy, sends, sent_by}
use Rattle.promise.proofs.GoodHalls.{GoodHall, view_of, hall_ruled}
use Rattle.promise.proofs.Stepped.{count_after, offers_of}
use Rattle.promise.proofs.EveryStep.{every_step}

-- a good hall that a run reaches
pub record Reached (instance : ℕ) (s : Setup) (start : View) (hall : List ℕ) : Type 1 where
  pub count : ℕ
  pub offered : List Offer
  pub good : GoodHall instance s count hall
  pub run : Run s start (view_of count hall) offered

-- an offer that came with a step
pub record Came (hall : List ℕ) (x : Step) (o : Offer) : Type 0 where
  pub code_is : x.code ≡ 1
  pub reading_is : record { 0 = x.reading } ≡ o.reading
  pub was_granted : hall_refusal hall x ≡ granted

offer_came : (x : Step) (o : Offer) → o ∈ offers_of x → (x.code ≡ 1) × (record { 0 = x.reading } ≡ o.reading)
offer_came x o = go (eqb x.code 1) refl
  where
    go : (b : Bool) → eqb x.code 1 ≡ b → o ∈ cond b (record { rack = x.agent; reading = record { 0 = x.reading } } ∷ []) [] →
        (x.code ≡ 1) × (record { 0 = x.reading } ≡ o.reading)
    go true e m = (eqb-true _ _ e, ap (λ (y : Offer). y.reading) (sym (Memᴰ.eq_of_singleton m)))
    go false e m = absurd (Memᴰ.not-nil m)

count_more : (x : Step) (n : ℕ) → count_after x n ≡ n + cond (sends x.code) 1 0
count_more x n = go (sends x.code)
  where
    go : (b : Bool) → cond b (n + 1) n ≡ n + cond b 1 0
    go true = refl
    go false = sym (add-zero n)

module _ {instance : ℕ} {s : Setup} {start : View} where
  abbrev pub MomentIn : {hall : List ℕ} → Reached instance s start hall → View → Type 1
  MomentIn {hall} r v = Moment s start v (view_of r.count hall) r.offered r.run

  -- one step on
  pub record Next {hall : List ℕ} (r : Reached instance s start hall) (x : Step) (hall' : List ℕ) : Type 1 where
    pub reached : Reached instance s start hall'
    pub keeps : (v : View) → MomentIn r v → MomentIn reached v
    pub offers : (o : Offer) → o ∈ reached.offered → (o ∈ r.offered) ⊎ Came hall x o
    pub counted : reached.count ≡ r.count + cond (eqb (hall_refusal hall x) granted && sends x.code) 1 0

  pub next : {hall : List ℕ} (r : Reached instance s start hall) (x : Step) → Next r x (hall_after hall x)
  unfolding hall_after
  next {hall} r x = go (eqb (hall_refusal hall x) granted) refl
    where
      go : (b : Bool) → eqb (hall_refusal hall x) granted ≡ b → Next r x (cond b (granting hall x) hall)
      go true e =
          record {
            reached =
                record {
                  count = count_after x r.count;
                  offered = offers_of x ++ r.offered;
                  good = (every_step r.good x (eqb-true _ _ e)).good;
                  run = then r.run (hall_ruled r.good) (every_step r.good x (eqb-true _ _ e)).grants;
                };
            keeps = λ v m. earlier {offered = r.offered} {more = offers_of x} m;
            offers =
                λ o m.
                ⊎_elim (λ p. inr (record { code_is = (offer_came x o p).0; reading_is = (offer_came x o p).1; was_granted = eqb-true _ _ e })) inl
                (Memᴰ.append_cases (offers_of x) m);
            counted = count_more x r.count ∙ ap (λ (b : Bool). r.count + cond (b && sends x.code) 1 0) (sym e);
          }
      go false e =
          record {
            reached = r;
            keeps = λ v m. m;
            offers = λ o m. inl m;
            counted = sym (add-zero r.count) ∙ ap (λ (b : Bool). r.count + cond (b && sends x.code) 1 0) (sym e);
          }

  -- a moment of a run
  pub record At {final : List ℕ} (r : Reached instance s start final) (hall : List ℕ) : Type 1 where
    pub count : ℕ
    pub good : GoodHall instance s count hall
    pub during : MomentIn r (view_of count hall)

  -- all steps on
  pub record Course {hall : List ℕ} (r : Reached instance s start hall) (steps : List Step) : Type 1 where
    pub reached : Reached instance s start (run_hall steps hall)
    pub keeps : (v : View) → MomentIn r v → MomentIn reached v
    pub moments : (t : ℕ) → At reached (moment_of steps hall t)
    pub offers : (o : Offer) → o ∈ reached.offered → (o ∈ r.offered) ⊎ OfferedBy hall steps o.reading
    pub counted : reached.count ≡ r.count + sent_by steps hall

  now : {hall : List ℕ} (r : Reached instance s start hall) → At r hall
  now r = record { count = r.count; good = r.good; during = last }

  pub course : {hall : List ℕ} (r : Reached instance s start hall) (steps : List Step) → Course r steps
  unfolding run_hall sent_by
  course {hall} r [] =
      record {
        reached = r;
        keeps = λ v m. m;
        moments = λ t. subst (λ (l : List Step). At r (run_hall l hall)) (sym (take-nil t)) (now r);
        offers = λ o m. inl m;
        counted = sym (add-zero r.count);
      }
  course {hall} r (x ∷ later) =
      let one = next r x in
      let rest = course {hall = hall_after hall x} one.reached later in
      record {
        reached = rest.reached;
        keeps = λ v m. rest.keeps v (one.keeps v m);
        moments = at_time one rest;
        offers = λ o m. ⊎_elim (λ p. ⊎_elim inl (λ q. inr (first o q)) (one.offers o p)) (λ w. inr (shift o.reading w)) (rest.offers o m);
        counted = rest.counted ∙ ap (λ (n : ℕ). n + sent_by later (hall_after hall x)) one.counted ∙ omega arith;
      }
    where
      at_time : (one : Next r x (hall_after hall x)) (rest : Course one.reached later) (t : ℕ) → At rest.reached (moment_of (x ∷ later) hall t)
      at_time one rest zero = record { count = r.count; good = r.good; during = rest.keeps _ (one.keeps _ last) }
      at_time one rest (suc t) = rest.moments t

      first : (o : Offer) → Came hall x o → OfferedBy hall (x ∷ later) o.reading
      first o q =
          record {
            before = [];
            offer = x;
            after = later;
            are = refl;
            code_is = q.code_is;
            reading_is = q.reading_is;
            was_granted = q.was_granted;
          }

      shift : (v : Reading) → OfferedBy (hall_after hall x) later v → OfferedBy hall (x ∷ later) v
      shift v w =
          record {
            before = x ∷ w.before;
            offer = w.offer;
            after = w.after;
            are = ap (λ (l : List Step). x ∷ l) w.are;
            code_is = w.code_is;
            reading_is = w.reading_is;
            was_granted = w.was_granted;
          }
