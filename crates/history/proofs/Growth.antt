-- Histories grow step by step: from any moment to itself, and on from a later one.
use Rattle.std.proofs.Common.{le_refl, le_trans, refl, ◌∙◌}
use Rattle.history.specs.History.{History, Grows}

pub grows_refl : (H : History) → Grows H H
grows_refl H =
    record {
      ballot = λ b. le_refl (H.ballot b);
      votes = λ b r p m. m;
      settled = λ b r l. refl;
      said = λ k r m h e. e;
      opened = λ r o h e. e;
      offers = λ o m. m;
    }

pub grows_trans : {H H' H'' : History} → Grows H H' → Grows H' H'' → Grows H H''
grows_trans {H} {H'} {H''} g h =
    record {
      ballot = λ b. le_trans (g.ballot b) (h.ballot b);
      votes = λ b r p m. h.votes b r p (g.votes b r p m);
      settled = λ b r l. h.settled b r (le_trans l (g.ballot b)) ∙ g.settled b r l;
      said = λ k r m p e. h.said k r m p (g.said k r m p e);
      opened = λ r o p e. h.opened r o p (g.opened r o p e);
      offers = λ o m. h.offers o (g.offers o m);
    }
