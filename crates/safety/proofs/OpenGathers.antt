-- What open makes of the votes heard is what the history gathers: it is never refused with 9, and opens its round soundly.
use Rattle.std.proofs.Common.{ℕ, ◌≤◌, ◌<◌, arith, le_trans, ◌≡◌, refl, sym, ap, subst, ◌∙◌, true, false, true≢false, inl, inr}
use Rattle.std.proofs.Math.Decide.{dec_lt}
use mathlib.Core.List.Memᴰ
use Rattle.below.proofs.Tests.{and_left, and_right, and_true, not_false_true, not_true_false, any_none}
use Rattle.pages.specs.declared.line.Mark.TheVariants.{Absent}
use Rattle.pages.specs.declared.page.Page.{Page}
use Rattle.pages.specs.Lines.{is_absent}
use Rattle.pages.specs.Racks.{most_racks}
use Rattle.pages.specs.Pages.{at, nil_extension, compatible_of}
use Rattle.pages.proofs.Lines.{absent_is}
use Rattle.pages.proofs.Filled.{at_past}
use Rattle.rounds.specs.declared.setup.Setup.{Setup}
use Rattle.rounds.specs.Setups.{setup_in_range, most_boxes, majority_of}
use Rattle.rounds.specs.Rounds.{round_in_range}
use Rattle.rounds.proofs.Ordered.{key, Lower}
use Rattle.records.specs.declared.rows.CoordinatorRow.{CoordinatorRow}
use Rattle.records.specs.Slots.{heard_at}
use Rattle.records.specs.Rules.{coordinator_rules}
use Rattle.coordinators.specs.Steps.{is_vote, any_vote, heard_count, joined_votes, open_page}
use Rattle.coordinators.proofs.HighestVote.{highest_vote, highest_top, top_highest, highest_exists}
use Rattle.coordinators.proofs.OpenPage.{votes_highest, voted_page, open_some_vote, OpenLine, of_vote, all_absent, open_line, open_past, open_joins}
use Rattle.below.proofs.Counts.{count_cut}
use Rattle.history.specs.History.{◌∈◌, History, Present}
use Rattle.history.specs.Reports.{Hearing, Heard, VotedAt, GatheredLine, Gathered}
use Rattle.history.proofs.Lines.{absent_or_present}
use Rattle.history.proofs.VotesAgree.{votes_compatible}
use Rattle.history.proofs.VotesAreValued.{vote_within}
use Rattle.safety.proofs.TrueRows.{CoordinatorTrue}
use Rattle.safety.proofs.Moved.{SoundHall}
use Rattle.safety.proofs.InRange.{setup_boxes, lower_number, not_lower_number, heard_facts}

-- what a coordinator keeps, as the history reads it
abbrev pub hearing : CoordinatorRow → Hearing
hearing r = record { heard = λ b. (heard_at r b).filled; vrnd = λ b. key (heard_at r b).vrnd; vval = λ b. (heard_at r b).vote }

-- a page has no line from rack 8 on
past_absent : (s : Setup) (r : CoordinatorRow) → any_vote r ≡ true → (k : ℕ) → most_racks ≤ k → at (open_page s r) k ≡ Absent
unfolding nil_extension
past_absent s r v k l = ap (λ (p : Page). at p k) (open_some_vote s r v) ∙ at_past _ k l

module _ (s : Setup) {H : History} (S : SoundHall s H) (good : setup_in_range s ≡ true) (c : ℕ) (r : CoordinatorRow) (t : CoordinatorTrue H c r)
    (rules : coordinator_rules s c r ≡ true) where
  -- a majority heard is a majority of the hall's boxes, each with a 1B of crnd
  pub heard_most : majority_of s.boxes ≤ heard_count r → Heard s.boxes H (key r.crnd) (hearing r)
  unfolding heard_count
  heard_most m =
      record {
        enough =
            subst (λ (n : ℕ). majority_of s.boxes ≤ n)
            (count_cut most_boxes s.boxes (λ b. (heard_at r b).filled) (setup_boxes s good) (λ b l e. (heard_facts s c r rules b l e).0)) m;
        told = λ b l e. t.heard b e;
      }

  -- with no vote among all heard
  pub none_voted : any_vote r ≡ false → (b : ℕ) → b < s.boxes → (heard_at r b).filled ≡ true → (heard_at r b).vote.some ≡ false
  unfolding any_vote
  none_voted h b l e =
      let none = any_none most_boxes (λ box. is_vote (heard_at r box)) h b (le_trans l (setup_boxes s good)) in
      not_true_false _ (λ v. true≢false (sym (and_true e v) ∙ none))

  -- a heard vote is one of the box's, at its vrnd
  module _ (b : ℕ) (l : b < most_boxes) (v : is_vote (heard_at r b) ≡ true) where
    filled : (heard_at r b).filled ≡ true
    filled = and_left _ _ v

    voted : (heard_at r b).vote.some ≡ true
    voted = and_right (heard_at r b).filled _ v

    range : round_in_range s (heard_at r b).vrnd ≡ true
    range = (heard_facts s c r rules b l filled).1

    cast : voted_page r b ∈ H.votes b (key (heard_at r b).vrnd)
    cast = rw ((t.heard b filled).last voted).newest (Memᴰ.head refl)

  -- a vote of the highest vrnd: every other's is not above it
  not_above : (a : ℕ) → a < most_boxes → votes_highest r a ≡ true → (b : ℕ) → b < most_boxes → is_vote (heard_at r b) ≡ true →
      key (heard_at r b).vrnd ≤ key (heard_at r a).vrnd
  not_above a l h b m v =
      not_lower_number s good (heard_at r a).vrnd (heard_at r b).vrnd (range a l (highest_vote r (heard_at r a) h)) (range b m v)
      (highest_top r (heard_at r a) h b m v)

  level : (a b : ℕ) → a < most_boxes → b < most_boxes → votes_highest r a ≡ true → votes_highest r b ≡ true →
      key (heard_at r a).vrnd ≡ key (heard_at r b).vrnd
  level a b l m h g =
      omega (arith, not_above a l h b m (highest_vote r (heard_at r b) g), not_above b m g a l (highest_vote r (heard_at r a) h))

  -- votes of one round are compatible, so open is never refused with 9
  pub votes_join : (joined_votes r).some ≡ true
  votes_join = (open_joins r).1 compatible
    where
      compatible : (a b : ℕ) → a < most_boxes → b < most_boxes → votes_highest r a ≡ true → votes_highest r b ≡ true →
          compatible_of (voted_page r a) (voted_page r b) ≡ true
      compatible a b l m h g =
          let in_b = cast b m (highest_vote r (heard_at r b) g) in
          votes_compatible S a b (voted_page r a) (voted_page r b) (cast a l (highest_vote r (heard_at r a) h))
          (subst (λ (i : ℕ). voted_page r b ∈ H.votes b i) (sym (level a b l m h g)) in_b)

  -- where there is a vote, the page is the votes of the highest vrnd joined and Nil-extended
  pub open_gathers : any_vote r ≡ true → (i : ℕ) × Gathered s.racks s.boxes (hearing r) i (open_page s r)
  open_gathers v = go (highest_exists r v)
    where
      go : (b : ℕ) × (b < most_boxes) × (votes_highest r b ≡ true) → (i : ℕ) × Gathered s.racks s.boxes (hearing r) i (open_page s r)
      go (top, low, h) =
          (key (heard_at r top).vrnd, record { highest = highest; voter = top; voted = voted_at top low h; lines = lines; within = within })
        where
          VotedTop : ℕ → Type 0
          VotedTop = VotedAt s.boxes (hearing r) (key (heard_at r top).vrnd)

          highest : (b : ℕ) → b < s.boxes → (heard_at r b).filled ≡ true → (heard_at r b).vote.some ≡ true →
              key (heard_at r b).vrnd ≤ key (heard_at r top).vrnd
          highest b l f e = not_above top low h b (le_trans l (setup_boxes s good)) (and_true f e)

          voted_at : (b : ℕ) → b < most_boxes → votes_highest r b ≡ true → VotedTop b
          voted_at b l g =
              let w = highest_vote r (heard_at r b) g in
              record { box = (heard_facts s c r rules b l (filled b l w)).0; heard = filled b l w; some = voted b l w; round = level b top l low g h }

          is_highest : (b : ℕ) → b < most_boxes → VotedTop b → votes_highest r b ≡ true
          is_highest b l w = top_highest r b (record { below = l; vote = vote; highest = λ d m x lower. overtaken d m x lower })
            where
              vote : is_vote (heard_at r b) ≡ true
              vote = and_true w.heard w.some

              overtaken : (d : ℕ) → d < most_boxes → is_vote (heard_at r d) ≡ true → Lower (heard_at r b).vrnd (heard_at r d).vrnd → ⊥
              overtaken d m x lower =
                  let above = lower_number s good (heard_at r b).vrnd (heard_at r d).vrnd (range b l vote) (range d m x) lower in
                  omega (arith, above, not_above top low h d m x, w.round)

          lines : (k : ℕ) → k < s.racks → GatheredLine s.boxes (hearing r) (key (heard_at r top).vrnd) (open_page s r) k
          lines k l = line (open_line s r k v votes_join l (le_trans l S.racks))
            where
              line : OpenLine s r k → GatheredLine s.boxes (hearing r) (key (heard_at r top).vrnd) (open_page s r) k
              line (of_vote b m g present e) = inl (b, voted_at b m g, present, e)
              line (all_absent none e) =
                  inr (e, λ b w. let m = le_trans w.box (setup_boxes s good) in absent_is _ (none b m (is_highest b m w)))

          within : (k : ℕ) → Present (at (open_page s r) k) → k < s.racks
          within k present = rack (dec_lt k s.racks) (dec_lt k most_racks)
            where
              absent : s.racks ≤ k → (b : ℕ) → b < most_boxes → votes_highest r b ≡ true → is_absent (at (voted_page r b) k) ≡ true
              absent n b m g =
                  not_false_true _
                  (λ a. let l = vote_within S b (key (heard_at r b).vrnd) (voted_page r b) (cast b m (highest_vote r (heard_at r b) g)) k a in omega arith)

              rack : Dec (k < s.racks) → Dec (k < most_racks) → k < s.racks
              rack (yes l) d = l
              rack (no n) (yes l) =
                  let beyond : s.racks ≤ k = omega (arith, n) in
                  absurd (true≢false (sym (open_past s r k v beyond l (absent beyond)) ∙ present))
              rack (no n) (no m) = absurd (absent_or_present (past_absent s r v k (omega (arith, m))) present)
