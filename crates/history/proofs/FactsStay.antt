-- What a history says of an offer, a vote, an opening or a report stays true as it grows.
use Rattle.std.proofs.Common.{ℕ, ◌<◌, le_trans, ◌≡◌, refl, sym, ◌∙◌, Bool, true, false, cond}
use Rattle.pages.specs.declared.line.Reading.{Reading}
use Rattle.pages.specs.declared.line.Mark.TheVariants.{Nil}
use Rattle.pages.specs.declared.page.Page.{Page}
use Rattle.pages.specs.declared.page.Vote.{Vote}
use Rattle.pages.specs.Racks.{has}
use Rattle.pages.specs.Pages.{at}
use Rattle.history.specs.History.{Opened, shut, free, fixed, Offered, History, Present, Grows}
use Rattle.history.specs.Sound.{Fits, Grounded}
use Rattle.history.specs.Reports.{LastVote, Told}

module _ {H H' : History} (g : Grows H H') where
  pub offered_stays : (v : Reading) → Offered H.offers v → Offered H'.offers v
  offered_stays v w = (w.0, g.offers _ w.1)

  pub fits_stays : (P r : ℕ) (p : Page) → Fits P (H.opened r) (λ k. H.said k r) p → Fits P (H'.opened r) (λ k. H'.said k r) p
  fits_stays P r p f = go (H.opened r) refl f
    where
      stays : (b : Bool) (k : ℕ) → Present (at p k) → at p k ≡ cond b (H.said k r) Nil → at p k ≡ cond b (H'.said k r) Nil
      stays true k l e = sym (g.said k r (at p k) l (sym e))
      stays false k l e = e

      go : (o : Opened) → H.opened r ≡ o → Fits P o (λ k. H.said k r) p → Fits P (H'.opened r) (λ k. H'.said k r) p
      go shut e w = absurd w
      go (free cf) e w =
          rw (g.opened r (free cf) refl e)
          (record { lines = λ k l. stays (has cf k) k l (w.lines k l); valued = w.valued; within = w.within })
      go (fixed q) e w = rw (g.opened r (fixed q) refl e) w

  pub grounded_stays : (P : ℕ) (o : Opened) → Grounded P H.offers o → Grounded P H'.offers o
  grounded_stays P shut w = tt
  grounded_stays P (free cf) w = tt
  grounded_stays P (fixed p) w =
      record {
        complete = w.complete;
        valued = w.valued;
        within = w.within;
        offered = λ k v e. offered_stays v (w.offered k v e);
      }

  -- a 1B: the box votes no more below the round that it joined
  pub told_stays : (b r vrnd : ℕ) (vval : Vote) → Told H b r vrnd vval → Told H' b r vrnd vval
  told_stays b r vrnd vval t =
      record {
        joined = le_trans t.joined (g.ballot b);
        none = λ e j l. kept j l ∙ t.none e j l;
        last = λ e. last (t.last e);
      }
    where
      kept : (j : ℕ) → j < r → H'.votes b j ≡ H.votes b j
      kept j l = g.settled b j (le_trans l t.joined)

      last : LastVote (H.votes b) r vrnd vval.page → LastVote (H'.votes b) r vrnd vval.page
      last w =
          record {
            below = w.below;
            older = w.older;
            newest = kept vrnd w.below ∙ w.newest;
            after = λ j h l. kept j l ∙ w.after j h l;
          }
