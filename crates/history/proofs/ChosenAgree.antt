-- Two chosen lines of one rack are equal (Proposition 1 of 004).
use Rattle.std.proofs.Common.{ℕ, ◌<◌, arith, ◌≡◌, sym, ap, subst, ◌∙◌, ◌⊎◌, inl, inr}
use Rattle.std.proofs.Math.Decide.{dec_lt}
use Rattle.std.proofs.Math.Logic.{⊎_map}
use Rattle.pages.specs.declared.line.Mark.{Mark}
use Rattle.pages.specs.declared.line.Mark.TheVariants.{Nil}
use Rattle.pages.specs.Lines.{is_absent}
use Rattle.pages.specs.Pages.{at}
use Rattle.history.specs.History.{History, Shows, Bears, Most, Chosen, Present, Blank}
use Rattle.history.specs.Sound.{Sound}
use Rattle.history.proofs.Lines.{absent_or_present}
use Rattle.history.proofs.MajoritiesMeet.{most_meet, most_some}
use Rattle.history.proofs.ChoosableBefore.{bears_blankable, chosen_choosable}
use Rattle.history.proofs.VotesAgree.{bears_agree}
use Rattle.history.proofs.VotesAreSafe.{vote_safe}
use Rattle.history.proofs.VotesAreValued.{vote_within}

-- a line that is present shows only itself
shows_present : {blank : Type 0} (line m : Mark) → Present line → Shows blank line m → line ≡ m
shows_present line m h (inl e) = e
shows_present line m h (inr (n, a, s)) = absurd (absent_or_present a h)

module _ {P A : ℕ} {H : History} (S : Sound P A H) (k : ℕ) where
  -- in one round: a box of both majorities shows both lines
  same_round_lem : (m n : Mark) (r : ℕ) → Present m → Present n → Most A (Bears H Blank r k m) → Most A (Bears H Blank r k n) → m ≡ n
  same_round_lem m n r a a' c d = let (b, _, (v, w)) = most_meet c d in go b v w v.shows w.shows
    where
      go : (b : ℕ) (v : Bears H Blank r k m b) (w : Bears H Blank r k n b) → Shows (Blank (H.said k r)) (at v.vote k) m →
          Shows (Blank (H.said k r)) (at w.vote k) n → m ≡ n
      go b v w (inl e) t = sym e ∙ bears_agree S (bears_blankable w) b v.vote v.cast a' (ap is_absent e ∙ a)
      go b v w (inr s) (inl e) = sym (bears_agree S (bears_blankable v) b w.vote w.cast a (ap is_absent e ∙ a')) ∙ e
      go b v w (inr s) (inr t) = s.0 ∙ sym t.0

  -- in two rounds: the lower line is choosable, so every vote of the higher round has it
  lower_round : k < P → (m n : Mark) (c : Chosen A H k m) (d : Chosen A H k n) → c.round < d.round → m ≡ n
  lower_round l m n c d h =
      let (b, _, w) = most_some d.most in
      let e = vote_safe S b d.round c.round k w.vote m w.cast h l c.present (chosen_choosable c) in
      sym e ∙ shows_present (at w.vote k) n (ap is_absent e ∙ c.present) w.shows

  on_rack : k < P → (m n : Mark) → Chosen A H k m → Chosen A H k n → m ≡ n
  on_rack l m n c d = go (dec_lt c.round d.round) (dec_lt d.round c.round)
    where
      go : Dec (c.round < d.round) → Dec (d.round < c.round) → m ≡ n
      go (yes h) y = lower_round l m n c d h
      go (no x) (yes h) = sym (lower_round l n m d c h)
      go (no x) (no y) =
          let same : c.round ≡ d.round = omega (arith, x, y) in
          let c' = subst (λ (r : ℕ). Most A (Bears H Blank r k m)) same c.most in
          same_round_lem m n d.round c.present d.present c' d.most

  -- beyond the racks of the hall nothing but Nil could be chosen
  rack_or_nil : (m : Mark) → Chosen A H k m → (k < P) ⊎ (m ≡ Nil)
  rack_or_nil m c =
      let (b, _, w) = most_some c.most in
      ⊎_map (λ e. vote_within S b c.round w.vote w.cast k (ap is_absent e ∙ c.present)) (λ n. n.0) w.shows

  pub chosen_agree : (m n : Mark) → Chosen A H k m → Chosen A H k n → m ≡ n
  chosen_agree m n c d = go (rack_or_nil m c) (rack_or_nil n d)
    where
      go : (k < P) ⊎ (m ≡ Nil) → (k < P) ⊎ (n ≡ Nil) → m ≡ n
      go (inl l) y = on_rack l m n c d
      go (inr e) (inl l) = on_rack l m n c d
      go (inr e) (inr e') = e ∙ sym e'
