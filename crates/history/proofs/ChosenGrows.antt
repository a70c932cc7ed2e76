-- A chosen line stays chosen.
use Rattle.std.proofs.Common.{ℕ, refl}
use Rattle.pages.specs.declared.line.Mark.{Mark}
use Rattle.pages.specs.declared.line.Mark.TheVariants.{Nil}
use Rattle.history.specs.History.{History, Blank, Bears, Chosen, Grows}
use Rattle.history.proofs.MajoritiesMeet.{most_map}
use Rattle.history.proofs.ChoosableBefore.{shows_map}

pub chosen_grows : {A : ℕ} {H H' : History} {k : ℕ} {m : Mark} → Grows H H' → Chosen A H k m → Chosen A H' k m
chosen_grows {A} {H} {H'} {k} {m} g c = record { present = c.present; round = c.round; most = most_map stays c.most }
  where
    stays : (b : ℕ) → Bears H Blank c.round k m b → Bears H' Blank c.round k m b
    stays b w =
        record {
          vote = w.vote;
          cast = g.votes b c.round w.vote w.cast;
          shows = shows_map _ m (g.said k c.round Nil refl) w.shows;
        }
