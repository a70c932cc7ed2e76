-- Runs of a hall and their moments: all histories of a run's moments grow to the last one.
use Rattle.std.proofs.Common.{ℕ, ◌<◌, refl, sym, ap, ◌∙◌, List, [], ◌++◌, append_assoc}
use Rattle.pages.proofs.PageLaws.{prefix_of_refl, prefix_of_trans}
use Rattle.rounds.specs.declared.setup.Setup.{Setup}
use Rattle.history.specs.History.{Offer, History}
use Rattle.history.proofs.Growth.{grows_refl, grows_trans}
use Rattle.safety.proofs.Views.{View, Kept}
use Rattle.safety.proofs.StepsKeep.{Grants, Ruled, Next, step_keeps}
use Rattle.safety.proofs.PagesChange.{Gains, pages_gain}
use Rattle.safety.proofs.ReadersShow.{Seen}

-- granted steps one after the other, each from rows and messages that keep their rules; a refused step changes nothing and is left out
pub data Run (s : Setup) (start : View) : View → List Offer → Type 1 where
  none : Run s start start []
  then : {hall hall' : View} {offered more : List Offer} → Run s start hall offered → Ruled s hall → Grants s hall hall' more →
      Run s start hall' (more ++ offered)

-- a moment of a run: after its last step, or an earlier one
pub data Moment (s : Setup) (start moment : View) : (hall : View) (offered : List Offer) → Run s start hall offered → Type 1 where
  last : {offered : List Offer} {run : Run s start moment offered} → Moment s start moment moment offered run
  earlier : {hall hall' : View} {offered more : List Offer} {run : Run s start hall offered} {rules : Ruled s hall}
      {step : Grants s hall hall' more} → Moment s start moment hall offered run → Moment s start moment hall' (more ++ offered) (then run rules step)

module _ (s : Setup) {H : History} {start : View} (kept : Kept s H start) where
  pub run_keeps : {hall : View} {offered : List Offer} → Run s start hall offered → Next s H hall offered
  run_keeps none = record { after = H; grows = grows_refl H; kept = kept; offers = refl }
  run_keeps (then {offered = offered} {more = more} run rules step) =
      let before = run_keeps run in
      let next = step_keeps s rules before.kept step in
      record {
        after = next.after;
        grows = grows_trans before.grows next.grows;
        kept = next.kept;
        offers = next.offers ∙ ap (λ (o : List Offer). more ++ o) before.offers ∙ sym (append_assoc more offered H.offers);
      }

  -- what readers show at a moment is seen from the end of the run
  pub moment_seen : {moment hall : View} {offered : List Offer} {run : Run s start hall offered} → Moment s start moment hall offered run → (i : ℕ) →
      i < s.readers → Seen s (run_keeps run).after (moment.readers i).page
  unfolding run_keeps
  moment_seen {run = run} last i l =
      let now = run_keeps run in
      record { moment = now.after; view = _; kept = now.kept; until = grows_refl now.after; reader = i; exists = l; page_is = refl }
  moment_seen (earlier {run = run} {rules = rules} {step = step} m) i l =
      let w = moment_seen m i l in
      record {
        moment = w.moment;
        view = w.view;
        kept = w.kept;
        until = grows_trans w.until (step_keeps s rules (run_keeps run).kept step).grows;
        reader = w.reader;
        exists = w.exists;
        page_is = w.page_is;
      }

-- from any moment on, pages only gain lines
pub run_gains : (s : Setup) {start moment hall : View} {offered : List Offer} {run : Run s start hall offered} → Moment s start moment hall offered run →
    (i : ℕ) → i < s.readers → Gains moment hall i
run_gains s {moment = moment} last i l = prefix_of_refl (moment.readers i).page
run_gains s {moment = moment} (earlier {hall = before} {hall' = hall} {step = step} m) i l =
    prefix_of_trans (moment.readers i).page (before.readers i).page (hall.readers i).page (run_gains s m i l) (pages_gain s before hall step i l)
