-- The steps of a coordinator move the history: 2 start, 4 hear, 5 open.
use Rattle.std.proofs.Common.{ℕ, ◌+◌, ◌*◌, ◌<◌, arith, lt_trans, ◌≡◌, refl, sym, ap, subst, ◌∙◌, true, false, true≢false, ◌≢◌, ⊎_elim}
use Rattle.below.specs.Refusals.{granted}
use Rattle.below.proofs.Tests.{decided}
use Rattle.pages.specs.declared.page.Page.{Page}
use Rattle.pages.specs.Pages.{empty_of, some}
use Rattle.pages.proofs.Kept.{empty_empty, valued_not_empty}
use Rattle.rounds.specs.declared.setup.Setup.{Setup}
use Rattle.rounds.specs.declared.round.Round.{Round}
use Rattle.rounds.specs.Setups.{setup_in_range, most_boxes}
use Rattle.rounds.specs.Rounds.{round_of}
use Rattle.rounds.proofs.Ordered.{key, lower_key}
use Rattle.records.specs.declared.messages.OneB.{OneB}
use Rattle.records.specs.declared.rows.CoordinatorRow.{CoordinatorRow}
use Rattle.records.specs.Slots.{no_heard, heard_at}
use Rattle.records.specs.Rules.{coordinator_rules}
use Rattle.coordinators.specs.Steps.{start_row, start_of, hear_row, hear_of, any_vote, open_page, open_of}
use Rattle.coordinators.proofs.GrantedSteps.{StartGranted, start_granted, HearGranted, hear_granted, OpenGranted, open_granted}
use Rattle.coordinators.proofs.OpenPage.{open_no_vote}
use Rattle.history.specs.History.{Opened, shut, free, fixed, History}
use Rattle.history.specs.Moves.{open_with}
use Rattle.history.specs.Reports.{Told}
use Rattle.history.specs.Reports as R
use Rattle.history.proofs.FactsStay.{told_stays}
use Rattle.history.proofs.Updates.{put_same, put_other}
use Rattle.history.proofs.OpenedIsSafe.{gathered_whole}
use Rattle.history.proofs.OpenMoves.{open_grows, open_free_sound, open_fixed_sound}
use Rattle.safety.proofs.TrueMessages.{one_a, one_b, two_s, Says, TwoSTrue}
use Rattle.safety.proofs.TrueRows.{CoordinatorTrue}
use Rattle.safety.proofs.Moved.{coordinator, SoundHall, Stepped, Silent, still}
use Rattle.safety.proofs.InRange.{small, small_coordinator, crnd_range}
use Rattle.safety.proofs.Slots.{equal_slots, slot_cases}
use Rattle.safety.proofs.OpenGathers.{hearing, heard_most, none_voted, open_gathers}

-- a round that was just started heard nothing
none_heard : (round : Round) (b : ℕ) → (heard_at (start_row round) b).filled ≡ false
unfolding start_row heard_at
none_heard round = equal_slots (λ slot. slot.filled ≡ false) most_boxes no_heard _ refl refl

module _ (s : Setup) {H : History} (S : SoundHall s H) (good : setup_in_range s ≡ true) (c : ℕ) (r : CoordinatorRow) (t : CoordinatorTrue H c r)
    (rules : coordinator_rules s c r ≡ true) where
  -- step 2
  pub start_moves : (n cf : ℕ) → c < s.coordinators → (start_of c r n cf).refusal ≡ granted →
      Stepped s (coordinator c) H.offers H (λ H. CoordinatorTrue H c (start_of c r n cf).row) (λ H. Says H (one_a c (start_of c r n cf).sent))
  unfolding start_row
  start_moves n cf low h =
      record { after = H; moved = still (coordinator c) S; row = rw facts.row_is started; sent = tt }
    where
      facts : StartGranted c r n cf
      facts = start_granted c r n cf h

      above : key r.crnd < 4 * n + c
      above = lower_key r.crnd (round_of n c cf) (small s good r.crnd (crnd_range s c r rules)) (small_coordinator s good c low) facts.above

      started : CoordinatorTrue H c (start_row (round_of n c cf))
      started =
          record {
            ahead = λ m l. t.ahead m (lt_trans above l);
            unopened = λ e v. t.ahead n above;
            heard = λ b f. absurd (true≢false (sym f ∙ none_heard (round_of n c cf) b));
          }

  -- step 4
  pub hear_moves : (b : ℕ) (m : OneB) → Says H (one_b b m) → (hear_of r b m).refusal ≡ granted →
      Stepped s (coordinator c) H.offers H (λ H. CoordinatorTrue H c (hear_of r b m).row) Silent
  unfolding hear_row heard_at
  hear_moves b m x h = record { after = H; moved = still (coordinator c) S; row = rw facts.row_is heard; sent = tt }
    where
      facts : HearGranted r b m
      facts = hear_granted r b m h

      told : Told H b (key r.crnd) (key m.vrnd) m.vote
      told = subst (λ (round : Round). Told H b (key round) (key m.vrnd) m.vote) facts.same x.told

      heard : CoordinatorTrue H c (hear_row r b m)
      heard =
          record {
            ahead = t.ahead;
            unopened = t.unopened;
            heard =
                slot_cases (λ j slot. slot.filled ≡ true → Told H j (key r.crnd) (key slot.vrnd) slot.vote) r.heard b _ _ (λ f. told)
                t.heard;
          }

  -- a coordinator opens its round, which was shut
  module _ (own : r.crnd.c ≡ c) (o : Opened) (sound : SoundHall s (open_with H (key r.crnd) o)) (before : H.opened (key r.crnd) ≡ shut)
      (page : Page) (says : Says (open_with H (key r.crnd) o) (two_s c (record { round = r.crnd; page = page }))) where
    number : ℕ
    number = key r.crnd

    other : (d n : ℕ) → d < 4 → coordinator c ≢ coordinator d → 4 * n + d ≡ number → ⊥
    unfolding number
    other d n l x e =
        let low = small s good r.crnd (crnd_range s c r rules) in
        let same : d ≡ c = omega (arith, own, low) in x (ap coordinator (sym same))

    opened_row : CoordinatorTrue (open_with H number o) c (record { crnd = r.crnd; cval = some page; heard = r.heard })
    unfolding number heard_at
    opened_row =
        record {
          ahead = λ n l. put_other H.opened number o (4 * n + c) (λ e. omega arith) ∙ t.ahead n l;
          unopened = λ e v. absurd (true≢false v);
          heard = λ b f. told_stays (open_grows H number o before) b number _ _ (t.heard b f);
        }

    opens : Stepped s (coordinator c) H.offers H (λ H. CoordinatorTrue H c (record { crnd = r.crnd; cval = some page; heard = r.heard }))
        (λ H. Says H (two_s c (record { round = r.crnd; page = page })))
    unfolding number
    opens =
        record {
          after = open_with H number o;
          moved =
              record {
                grows = open_grows H number o before;
                sound = sound;
                offers_are = refl;
                ballots = λ b n. refl;
                votes = λ b n j. refl;
                said = λ k n j. refl;
                opened = λ d l x n. put_other H.opened number o (4 * n + d) (other d n l x);
              };
          row = opened_row;
          sent = says;
        }

  -- step 5
  pub open_moves : (open_of s c r).refusal ≡ granted →
      Stepped s (coordinator c) H.offers H (λ H. CoordinatorTrue H c (open_of s c r).row) (λ H. Says H (two_s c (open_of s c r).sent))
  open_moves h = rw (facts.row_is, facts.sent_is) (⊎_elim with_votes without (decided (any_vote r)))
    where
      facts : OpenGranted s c r
      facts = open_granted s c r h

      number : ℕ
      number = key r.crnd

      before : H.opened number ≡ shut
      before = t.unopened facts.own facts.not_opened

      heard : R.Heard s.boxes H number (hearing r)
      heard = heard_most s S good c r t rules facts.majority

      Opens : Type 0
      Opens =
          Stepped s (coordinator c) H.offers H (λ H. CoordinatorTrue H c (record { crnd = r.crnd; cval = some (open_page s r); heard = r.heard }))
          (λ H. Says H (two_s c (record { round = r.crnd; page = open_page s r })))

      without : any_vote r ≡ false → Opens
      without e = opens facts.own o sound before (open_page s r) says
        where
          o : Opened
          o = free r.crnd.cf

          sound : SoundHall s (open_with H number o)
          sound = open_free_sound S before heard r.crnd.cf (none_voted s S good c r t rules e)

          is_empty : empty_of (open_page s r) ≡ true
          is_empty = ap empty_of (open_no_vote s r e) ∙ empty_empty

          says : TwoSTrue (open_with H number o) (record { round = r.crnd; page = open_page s r })
          says =
              record { free_opened = λ d. put_same H.opened number o; fixed_opened = λ d. absurd (true≢false (sym is_empty ∙ d)) }

      with_votes : any_vote r ≡ true → Opens
      with_votes v = opens facts.own o sound before (open_page s r) says
        where
          o : Opened
          o = fixed (open_page s r)

          gathered : (i : ℕ) × R.Gathered s.racks s.boxes (hearing r) i (open_page s r)
          gathered = open_gathers s S good c r t rules v

          sound : SoundHall s (open_with H number o)
          sound = open_fixed_sound S before heard gathered.0 (open_page s r) gathered.1

          not_empty : empty_of (open_page s r) ≡ false
          not_empty = valued_not_empty (open_page s r) (gathered_whole S heard gathered.1).valued

          says : TwoSTrue (open_with H number o) (record { round = r.crnd; page = open_page s r })
          says =
              record { free_opened = λ d. absurd (true≢false (sym d ∙ not_empty)); fixed_opened = λ d. put_same H.opened number o }
