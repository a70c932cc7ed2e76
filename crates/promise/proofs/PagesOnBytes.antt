-- What readers' pages show over a run of steps from a fresh hall, and the message count.
use Rattle.std.proofs.Common.{zero-add, ℕ, ◌≤◌, ◌<◌, take, take-take, ◌≡◌, subst, ◌∙◌, true, false, ⊎_elim, List, []}
use mathlib.Core.List.Memᴰ
use Rattle.pages.specs.declared.line.Reading.{Reading}
use Rattle.pages.specs.declared.line.Mark.TheVariants.{Nil, Reading as reads}
use Rattle.pages.specs.Lines.{is_absent}
use Rattle.pages.specs.Pages.{at, prefix_of}
use Rattle.rounds.specs.declared.setup.Setup.{Setup}
use Rattle.rounds.specs.Setups.{setup_in_range}
use Rattle.acts.specs.declared.step.Step.{Step}
use Rattle.hall.specs.Halls.{fresh_hall}
use Rattle.hall.specs.Steps.{count_of}
use Rattle.history.specs.History.{Offered}
use Rattle.safety.proofs.Runs.{none, last, run_gains}
use Rattle.safety.proofs.FreshRuns.{shown_agree, shown_offered, shown_not_blank}
use Rattle.promise.specs.Runs.{run_hall, moment_of, page_of, OfferedBy, sent_by}
use Rattle.promise.proofs.GoodHalls.{view_of}
use Rattle.promise.proofs.Written.{count_is}
use Rattle.promise.proofs.FreshHalls.{fresh_good, fresh_view}
use Rattle.promise.proofs.Courses.{Reached, Course, course}

module _ (instance : ℕ) (s : Setup) (range : setup_in_range s ≡ true) (small : instance ≤ 65535) where
  abbrev pub fresh : List ℕ
  fresh = fresh_hall instance s

  abbrev pub begun : Reached instance s (view_of 0 fresh) fresh
  begun = record { count = 0; offered = []; good = fresh_good instance s range small; run = none }

  abbrev pub whole : (steps : List Step) → Course begun steps
  whole steps = course begun steps

  pub pages_gain : (steps : List Step) (t u : ℕ) → t ≤ u → (i : ℕ) → i < s.readers →
      prefix_of (page_of (moment_of steps fresh t) i) (page_of (moment_of steps fresh u) i) ≡ true
  pages_gain steps t u l i e =
      subst (λ (before : List Step). prefix_of (page_of (run_hall before fresh) i) (page_of (moment_of steps fresh u) i) ≡ true) (take-take t u steps l)
      (run_gains s ((whole (take u steps)).moments t).during i e)

  module _ (steps : List Step) where
    pub pages_agree : (t u i j : ℕ) → i < s.readers → j < s.readers → (k : ℕ) → is_absent (at (page_of (moment_of steps fresh t) i) k) ≡ false →
        is_absent (at (page_of (moment_of steps fresh u) j) k) ≡ false → at (page_of (moment_of steps fresh t) i) k ≡ at (page_of (moment_of steps fresh u) j) k
    pages_agree t u i j l m k =
        shown_agree s range (fresh_view instance s range small) (whole steps).reached.run ((whole steps).moments t).during ((whole steps).moments u).during i j l m k

    pub pages_not_blank : (moment reader : ℕ → ℕ) → ((k : ℕ) → k < s.racks → reader k < s.readers) →
        ((k : ℕ) → k < s.racks → at (page_of (moment_of steps fresh (moment k)) (reader k)) k ≡ Nil) → ⊥
    pages_not_blank moment reader exists nil =
        shown_not_blank s range (fresh_view instance s range small) (whole steps).reached.run
        (λ k. view_of ((whole steps).moments (moment k)).count (moment_of steps fresh (moment k))) reader (λ k l. ((whole steps).moments (moment k)).during) exists nil

    now_offered : (i : ℕ) → i < s.readers → (k : ℕ) (v : Reading) → at (page_of (run_hall steps fresh) i) k ≡ reads v → OfferedBy fresh steps v
    now_offered i l k v e = found (shown_offered s range (fresh_view instance s range small) (whole steps).reached.run last i l k v e)
      where
        found : Offered (whole steps).reached.offered v → OfferedBy fresh steps v
        found o = ⊎_elim (λ m. absurd (Memᴰ.not-nil m)) (λ w. w) ((whole steps).offers (record { rack = o.0; reading = v }) o.1)

    pub messages_counted : count_of (run_hall steps fresh) ≡ sent_by steps fresh
    messages_counted = count_is (whole steps).reached.good ∙ (whole steps).counted ∙ zero-add (sent_by steps fresh)

  pub readings_offered : (steps : List Step) (t i : ℕ) → i < s.readers → (k : ℕ) (v : Reading) → at (page_of (moment_of steps fresh t) i) k ≡ reads v →
      OfferedBy fresh (take t steps) v
  readings_offered steps t = now_offered (take t steps)
