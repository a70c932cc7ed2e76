-- What a row of each sort of agent says that is true of the history.
use Rattle.std.proofs.Common.{ℕ, ◌+◌, ◌*◌, ◌≤◌, ◌<◌, ◌≡◌, refl, ◌∙◌, true, false, List, [], ◌∷◌}
use Rattle.pages.specs.declared.line.Mark.TheVariants.{Absent, Nil}
use Rattle.pages.specs.declared.page.Page.{Page}
use Rattle.pages.specs.Pages.{at}
use Rattle.rounds.specs.declared.setup.Setup.{Setup}
use Rattle.rounds.proofs.Ordered.{key}
use Rattle.records.specs.declared.rows.CoordinatorRow.{CoordinatorRow}
use Rattle.records.specs.declared.rows.BoxRow.{BoxRow}
use Rattle.records.specs.declared.rows.RackRow.{RackRow}
use Rattle.records.specs.declared.rows.ReaderRow.{ReaderRow}
use Rattle.records.specs.Slots.{heard_at, held_at, blank_at}
use Rattle.history.specs.History.{◌∈◌, shut, free, History, Grows, Present, Chosen}
use Rattle.history.specs.Reports.{Told}
use Rattle.history.proofs.FactsStay.{told_stays}
use Rattle.history.proofs.ChosenGrows.{chosen_grows}

-- a box's newest vote is p, at round v, not above its round
pub record NewestVote (votes : ℕ → List Page) (rnd v : ℕ) (p : Page) : Type 0 where
  pub up_to : v ≤ rnd
  pub older : List Page
  pub newest : votes v ≡ p ∷ older
  pub after : (j : ℕ) → v < j → votes j ≡ []

-- A box's round is its rnd, and all it voted stands in vrnd and vval: no vote at all, or the newest.
pub record BoxTrue (H : History) (b : ℕ) (r : BoxRow) : Type 0 where
  pub ballot : H.ballot b ≡ key r.rnd
  pub none : r.vval.some ≡ false → (j : ℕ) → H.votes b j ≡ []
  pub last : r.vval.some ≡ true → NewestVote (H.votes b) (key r.rnd) (key r.vrnd) r.vval.page

-- What a rack may still say: nothing is said above prnd, and where pval is none, nothing in prnd, which is open to its racks.
pub record RackTrue (H : History) (k : ℕ) (r : RackRow) : Type 0 where
  pub ahead : (j : ℕ) → key r.prnd < j → H.said k j ≡ Absent
  pub unsaid : r.pval.mark ≡ Absent → H.said k (key r.prnd) ≡ Absent
  pub opened : r.pval.mark ≡ Absent → H.opened (key r.prnd) ≡ free r.prnd.cf

-- What a coordinator may still open: its rounds above crnd are shut, and crnd too if it is its own and cval is none.
-- What it heard was told for crnd.
pub record CoordinatorTrue (H : History) (c : ℕ) (r : CoordinatorRow) : Type 0 where
  pub ahead : (n : ℕ) → key r.crnd < 4 * n + c → H.opened (4 * n + c) ≡ shut
  pub unopened : r.crnd.c ≡ c → r.cval.some ≡ false → H.opened (key r.crnd) ≡ shut
  pub heard : (b : ℕ) → (heard_at r b).filled ≡ true → Told H b (key r.crnd) (key (heard_at r b).vrnd) (heard_at r b).vote

-- a page each of whose lines is chosen: what readers show
abbrev pub Shown : Setup → History → Page → Type 0
Shown s H p = (k : ℕ) → Present (at p k) → Chosen s.boxes H k (at p k)

-- What a reader holds was voted and said, and its page is chosen.
pub record ReaderTrue (s : Setup) (H : History) (r : ReaderRow) : Type 0 where
  pub held : (b : ℕ) → (held_at r b).filled ≡ true → (held_at r b).page ∈ H.votes b (key (held_at r b).round)
  pub blanks : (k : ℕ) → (blank_at r k).filled ≡ true → H.said k (key (blank_at r k).round) ≡ Nil
  pub shown : Shown s H r.page

-- Rows stay true as the history grows where it says the same of what only their agent changes.
module _ {H H' : History} where
  pub box_stays : (b : ℕ) (r : BoxRow) → H'.ballot b ≡ H.ballot b → ((j : ℕ) → H'.votes b j ≡ H.votes b j) → BoxTrue H b r → BoxTrue H' b r
  box_stays b r same votes t =
      record {
        ballot = same ∙ t.ballot;
        none = λ e j. votes j ∙ t.none e j;
        last = λ e. last (t.last e);
      }
    where
      last : NewestVote (H.votes b) (key r.rnd) (key r.vrnd) r.vval.page → NewestVote (H'.votes b) (key r.rnd) (key r.vrnd) r.vval.page
      last w = record { up_to = w.up_to; older = w.older; newest = votes _ ∙ w.newest; after = λ j l. votes j ∙ w.after j l }

  pub rack_stays : Grows H H' → (k : ℕ) (r : RackRow) → ((j : ℕ) → H'.said k j ≡ H.said k j) → RackTrue H k r → RackTrue H' k r
  rack_stays g k r same t =
      record {
        ahead = λ j l. same j ∙ t.ahead j l;
        unsaid = λ e. same _ ∙ t.unsaid e;
        opened = λ e. g.opened _ (free r.prnd.cf) refl (t.opened e);
      }

  pub coordinator_stays : Grows H H' → (c : ℕ) (r : CoordinatorRow) → ((n : ℕ) → H'.opened (4 * n + c) ≡ H.opened (4 * n + c)) →
      CoordinatorTrue H c r → CoordinatorTrue H' c r
  coordinator_stays g c r same t =
      record {
        ahead = λ n l. same n ∙ t.ahead n l;
        unopened = λ e v. own e ∙ t.unopened e v;
        heard = λ b f. told_stays g b (key r.crnd) (key (heard_at r b).vrnd) (heard_at r b).vote (t.heard b f);
      }
    where
      own : r.crnd.c ≡ c → H'.opened (key r.crnd) ≡ H.opened (key r.crnd)
      own e = rw e (same r.crnd.n.0)

  pub shown_stays : (s : Setup) → Grows H H' → (p : Page) → Shown s H p → Shown s H' p
  shown_stays s g p t k h = chosen_grows g (t k h)

  pub reader_stays : (s : Setup) → Grows H H' → (r : ReaderRow) → ReaderTrue s H r → ReaderTrue s H' r
  reader_stays s g r t =
      record {
        held = λ b f. g.votes b _ _ (t.held b f);
        blanks = λ k f. g.said k _ Nil refl (t.blanks k f);
        shown = shown_stays s g r.page t.shown;
      }
