-- Rows at the start: a freshly set up hall is kept true of the history in which nothing happened yet.
use Rattle.std.proofs.Common.{ℕ, ◌<◌, arith, ◌≡◌, refl, sym, ap, ◌∙◌, eqb, eq-eqb, true, false, cond, true≢false}
use Rattle.below.specs.Below.{row}
use Rattle.pages.specs.declared.line.Mark.TheVariants.{Absent}
use Rattle.pages.specs.Pages.{line, at, empty, none, some}
use Rattle.rounds.specs.declared.setup.Setup.{Setup}
use Rattle.rounds.specs.declared.round.Round.{Round}
use Rattle.rounds.specs.Setups.{setup_in_range, most_racks, most_boxes}
use Rattle.rounds.specs.Rounds.{zero_of}
use Rattle.rounds.proofs.Ordered.{key}
use Rattle.records.specs.declared.rows.CoordinatorRow.{CoordinatorRow}
use Rattle.records.specs.declared.rows.BoxRow.{BoxRow}
use Rattle.records.specs.declared.rows.RackRow.{RackRow}
use Rattle.records.specs.declared.rows.ReaderRow.{ReaderRow}
use Rattle.records.specs.Slots.{no_heard, no_held, no_blank, heard_at, held_at, blank_at}
use Rattle.records.proofs.RuleParts.{setup_racks}
use Rattle.history.specs.History.{shut, free, History}
use Rattle.history.specs.Moves.{fresh}
use Rattle.history.proofs.Lines.{absent_or_present, at_empty}
use Rattle.history.proofs.Updates.{put_same, put_other}
use Rattle.history.proofs.FreshIsSound.{fresh_sound}
use Rattle.safety.proofs.TrueMessages.{Message}
use Rattle.safety.proofs.TrueRows.{CoordinatorTrue, BoxTrue, RackTrue, ReaderTrue}
use Rattle.safety.proofs.Slots.{equal_slots}
use Rattle.safety.proofs.Views.{View, Kept}

-- what document 01 says of the rows at the start
pub record FreshCoordinator (s : Setup) (c : ℕ) (r : CoordinatorRow) : Type 0 where
  pub crnd : r.crnd ≡ zero_of s
  pub cval : c ≡ s.c0 → r.cval.some ≡ true
  pub heard : (b : ℕ) → (heard_at r b).filled ≡ false

pub record FreshBox (s : Setup) (r : BoxRow) : Type 0 where
  pub rnd : r.rnd ≡ zero_of s
  pub vval : r.vval.some ≡ false

pub record FreshRack (s : Setup) (r : RackRow) : Type 0 where
  pub prnd : r.prnd ≡ zero_of s

pub record FreshReader (r : ReaderRow) : Type 0 where
  pub page : (k : ℕ) → at r.page k ≡ Absent
  pub held : (b : ℕ) → (held_at r b).filled ≡ false
  pub blanks : (k : ℕ) → (blank_at r k).filled ≡ false

-- the rows that document 01 names are such
pub fresh_coordinator_lem : (s : Setup) (c : ℕ) →
    FreshCoordinator s c (record { crnd = zero_of s; cval = cond (eqb c s.c0) (some empty) none; heard = row most_boxes (λ box. no_heard) })
unfolding heard_at
fresh_coordinator_lem s c =
    record {
      crnd = refl;
      cval = λ e. rw (eq-eqb c s.c0 e);
      heard = equal_slots (λ slot. slot.filled ≡ false) most_boxes no_heard _ refl refl;
    }

pub fresh_box_lem : (s : Setup) → FreshBox s (record { rnd = zero_of s; vrnd = zero_of s; vval = none })
fresh_box_lem s = record { rnd = refl; vval = refl }

pub fresh_rack_lem : (s : Setup) → FreshRack s (record { prnd = zero_of s; pval = line Absent })
fresh_rack_lem s = record { prnd = refl }

pub fresh_reader_lem : FreshReader (record { page = empty; held = row most_boxes (λ box. no_held); blanks = row most_racks (λ rack. no_blank) })
unfolding held_at blank_at
fresh_reader_lem =
    record {
      page = at_empty;
      held = equal_slots (λ slot. slot.filled ≡ false) most_boxes no_held _ refl refl;
      blanks = equal_slots (λ slot. slot.filled ≡ false) most_racks no_blank _ refl refl;
    }

pub record FreshView (s : Setup) (hall : View) : Type 0 where
  pub coordinators : (c : ℕ) → c < s.coordinators → FreshCoordinator s c (hall.coordinators c)
  pub boxes : (b : ℕ) → b < s.boxes → FreshBox s (hall.boxes b)
  pub racks : (k : ℕ) → k < s.racks → FreshRack s (hall.racks k)
  pub readers : (i : ℕ) → i < s.readers → FreshReader (hall.readers i)
  pub posted : (m : Message) → hall.posted m → ⊥

abbrev pub fresh_of : Setup → History
fresh_of s = fresh (key (zero_of s)) s.cf0

module _ (s : Setup) where
  zero_open : (r : Round) → r ≡ zero_of s → (fresh_of s).opened (key r) ≡ free r.cf
  zero_open r e = rw e (put_same (λ r. shut) (key (zero_of s)) (free s.cf0))

  coordinator_true : (c : ℕ) (r : CoordinatorRow) → FreshCoordinator s c r → CoordinatorTrue (fresh_of s) c r
  coordinator_true c r f =
      record {
        ahead = λ n l. let e = ap key f.crnd in put_other (λ r. shut) (key (zero_of s)) (free s.cf0) _ (λ d. omega (arith, e));
        unopened = λ e v. absurd (true≢false (sym (f.cval (sym e ∙ ap (λ (x : Round). x.c) f.crnd)) ∙ v));
        heard = λ b h. absurd (true≢false (sym h ∙ f.heard b));
      }

  box_true : (b : ℕ) (r : BoxRow) → FreshBox s r → BoxTrue (fresh_of s) b r
  box_true b r f =
      record { ballot = ap key (sym f.rnd); none = λ e j. refl; last = λ e. absurd (true≢false (sym e ∙ f.vval)) }

  rack_true : (k : ℕ) (r : RackRow) → FreshRack s r → RackTrue (fresh_of s) k r
  rack_true k r f = record { ahead = λ j l. refl; unsaid = λ e. refl; opened = λ e. zero_open r.prnd f.prnd }

  reader_true : (r : ReaderRow) → FreshReader r → ReaderTrue s (fresh_of s) r
  reader_true r f =
      record {
        held = λ b h. absurd (true≢false (sym h ∙ f.held b));
        blanks = λ k h. absurd (true≢false (sym h ∙ f.blanks k));
        shown = λ k h. absurd (absent_or_present (f.page k) h);
      }

  pub fresh_kept : setup_in_range s ≡ true → (hall : View) → FreshView s hall → Kept s (fresh_of s) hall
  fresh_kept good hall f =
      record {
        sound = fresh_sound s.racks s.boxes (key (zero_of s)) s.cf0 (setup_racks s good);
        coordinators = λ c l. coordinator_true c (hall.coordinators c) (f.coordinators c l);
        boxes = λ b l. box_true b (hall.boxes b) (f.boxes b l);
        racks = λ k l. rack_true k (hall.racks k) (f.racks k l);
        readers = λ i l. reader_true (hall.readers i) (f.readers i l);
        posted = λ m p. absurd (f.posted m p);
      }
