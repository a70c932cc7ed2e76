-- The steps of a box move the history: 3 join, 9 take page, 10 take reading.
use Rattle.std.proofs.Common.{ℕ, ◌≤◌, ◌<◌, arith, le_refl, le_of_eq, ◌≡◌, refl, sym, ap, subst, ◌∙◌, true, false, true≢false, ◌⊎◌, inl, inr, ⊎_elim, List, [], ◌∷◌}
use Rattle.std.proofs.Math.Decide.{dec_lt}
use mathlib.Core.List.Memᴰ
use Rattle.below.specs.Refusals.{granted}
use Rattle.below.proofs.Tests.{decided}
use Rattle.pages.specs.declared.line.Reading.{Reading}
use Rattle.pages.specs.declared.line.Mark.{Mark}
use Rattle.pages.specs.declared.line.Mark.TheVariants.{Reading as reads}
use Rattle.pages.specs.declared.page.Page.{Page}
use Rattle.pages.specs.Racks.{outside}
use Rattle.pages.specs.Pages.{empty, append_of, nil_extension}
use Rattle.rounds.specs.declared.setup.Setup.{Setup}
use Rattle.rounds.specs.declared.round.Round.{Round}
use Rattle.rounds.specs.Setups.{setup_in_range}
use Rattle.rounds.specs.Rounds.{round_in_range}
use Rattle.rounds.proofs.Ordered.{key, Lower, key_lower}
use Rattle.records.specs.declared.messages.OneA.{OneA}
use Rattle.records.specs.declared.messages.TwoS.{TwoS}
use Rattle.records.specs.declared.messages.TwoA.{TwoA}
use Rattle.records.specs.declared.rows.BoxRow.{BoxRow}
use Rattle.records.specs.Rules.{box_rules, one_a_rules, two_s_rules, two_a_rules}
use Rattle.boxes.specs.Steps.{may_vote, voted, telling, join_of, take_page_of, take_reading_of, take_reading_page}
use Rattle.boxes.proofs.GrantedSteps.{JoinGranted, join_granted, may_up_to, may_no_clash, TakePageGranted, take_page_granted, TakeReadingGranted, take_reading_granted, first_reading, next_reading}
use Rattle.history.specs.History.{History}
use Rattle.history.specs.Moves.{join, vote, reading_vote}
use Rattle.history.proofs.Updates.{put_same, put_other, put₂_same, put₂_other}
use Rattle.history.proofs.OfferJoinSay.{join_grows, join_sound}
use Rattle.history.proofs.VoteMoves.{vote_grows, vote_page_sound, vote_reading_sound}
use Rattle.safety.proofs.TrueMessages.{one_b, two_s, two_a, two_b, Says}
use Rattle.safety.proofs.TrueRows.{NewestVote, BoxTrue}
use Rattle.safety.proofs.Moved.{box, SoundHall, Stepped}
use Rattle.safety.proofs.InRange.{small, lower_number, same_number, rnd_range, vrnd_range, one_a_range, two_s_range, two_a_range, two_a_in_cf}

module _ (s : Setup) {H : History} (S : SoundHall s H) (good : setup_in_range s ≡ true) (b : ℕ) (row : BoxRow) (t : BoxTrue H b row)
    (rules : box_rules s b row ≡ true) where
  -- step 3
  pub join_moves : (sender : ℕ) (m : OneA) → one_a_rules s sender m ≡ true → (join_of row m).refusal ≡ granted →
      Stepped s (box b) H.offers H (λ H. BoxTrue H b (join_of row m).row) (λ H. Says H (one_b b (join_of row m).sent))
  join_moves sender m rules' h =
      rw (facts.row_is, facts.sent_is)
      (record {
        after = join H b r;
        moved =
            record {
              grows = join_grows H b r low;
              sound = join_sound b r low S;
              offers_are = refl;
              ballots = λ c n. put_other H.ballot b r c (λ e. n (ap box (sym e)));
              votes = λ c n j. refl;
              said = λ k n j. refl;
              opened = λ c l n j. refl;
            };
        row =
            record {
              ballot = put_same H.ballot b r;
              none = t.none;
              last =
                  λ e.
                  let w = t.last e in
                  record { up_to = omega (arith, above, w.up_to); older = w.older; newest = w.newest; after = w.after };
            };
        sent =
            record {
              told =
                  record {
                    joined = le_of_eq (sym (put_same H.ballot b r));
                    none = λ e j l. t.none e j;
                    last =
                        λ e.
                        let w = t.last e in
                        record { below = omega (arith, above, w.up_to); older = w.older; newest = w.newest; after = λ j l u. w.after j l };
                  };
            };
      })
    where
      r : ℕ
      r = key m.round

      facts : JoinGranted row m
      facts = join_granted row m h

      above : key row.rnd < r
      above = lower_number s good row.rnd m.round (rnd_range s b row rules) (one_a_range s sender m rules') facts.above

      low : H.ballot b ≤ r
      low = omega (arith, above, t.ballot)

  -- a box votes in a round that is not below its own
  module _ (round : Round) (range : round_in_range s round ≡ true) (may : may_vote row round ≡ true) where
    up_to : key row.rnd ≤ key round
    up_to =
        ⊎_elim (λ l. omega (arith, lower_number s good row.rnd round (rnd_range s b row rules) range l))
        (λ e. le_of_eq (ap (λ (r : Round). key r) e)) (may_up_to row round may)

    ballot_up_to : H.ballot b ≤ key round
    ballot_up_to = omega (arith, up_to, t.ballot)

    -- it has no vote above the round
    none_above : (j : ℕ) → key round < j → H.votes b j ≡ []
    none_above j l =
        ⊎_elim (λ e. let w = t.last e in w.after j (omega (arith, up_to, w.up_to))) (λ e. t.none e j) (decided row.vval.some)

    votes : (p : Page) → SoundHall s (vote H b (key round) p) →
        Stepped s (box b) H.offers H (λ H. BoxTrue H b (voted round p)) (λ H. Says H (two_b b (telling round p)))
    votes p sound =
        record {
          after = vote H b r p;
          moved =
              record {
                grows = vote_grows H b r p ballot_up_to;
                sound = sound;
                offers_are = refl;
                ballots = λ c n. put_other H.ballot b r c (λ e. n (ap box (sym e)));
                votes = λ c n j. put₂_other H.votes b r now c j (λ e. n (ap box (sym e.0)));
                said = λ k n j. refl;
                opened = λ c l n j. refl;
              };
          row =
              record {
                ballot = put_same H.ballot b r;
                none = λ e. absurd (true≢false e);
                last =
                    λ e.
                    record {
                      up_to = le_refl r;
                      older = H.votes b r;
                      newest = put₂_same H.votes b r now;
                      after = λ j l. put₂_other H.votes b r now b j (λ e. omega (arith, e.1)) ∙ none_above j l;
                    };
              };
          sent = record { cast = rw (put₂_same H.votes b r now) (Memᴰ.head refl) };
        }
      where
        r : ℕ
        r = key round

        now : List Page
        now = p ∷ H.votes b r

  -- step 9
  pub take_page_moves : (sender : ℕ) (m : TwoS) → two_s_rules s sender m ≡ true → Says H (two_s sender m) → (take_page_of row m).refusal ≡ granted →
      Stepped s (box b) H.offers H (λ H. BoxTrue H b (take_page_of row m).row) (λ H. Says H (two_b b (take_page_of row m).sent))
  take_page_moves sender m rules' x h =
      rw (facts.row_is, facts.sent_is)
      (votes m.round range facts.may m.page
      (vote_page_sound b (key m.round) m.page (x.fixed_opened facts.some_line) (ballot_up_to m.round range facts.may) S))
    where
      range : round_in_range s m.round ≡ true
      range = two_s_range s sender m rules'

      facts : TakePageGranted row m
      facts = take_page_granted row m h

  -- step 10, with a 2A of any rack of the hall
  module _ (k : ℕ) (m : TwoA) (low : k < s.racks) (rules' : two_a_rules s k m ≡ true) (x : Says H (two_a k m))
      (h : (take_reading_of s row k m).refusal ≡ granted) where
    facts : TakeReadingGranted s row k m
    facts = take_reading_granted s row k m h

    range : round_in_range s m.round ≡ true
    range = two_a_range s k m rules'

    -- the page is the history's: the first vote of the round, or the newest with the reading appended
    page_is : (v : Reading) → m.line.mark ≡ reads v →
        take_reading_page s row k m ≡ reading_vote m.round.cf s.racks k v (H.votes b (key m.round))
    page_is v spoke = ⊎_elim some (λ e. first (inr e) (t.none e _)) (decided row.vval.some)
      where
        the_page : List Page → Page
        the_page = reading_vote m.round.cf s.racks k v

        first : Lower row.vrnd m.round ⊎ (row.vval.some ≡ false) → H.votes b (key m.round) ≡ [] →
            take_reading_page s row k m ≡ the_page (H.votes b (key m.round))
        first new none =
            first_reading s row k m new ∙
            ap (λ (n : Mark). nil_extension (outside m.round.cf s.racks) (append_of empty k n)) spoke ∙
            sym (ap the_page none)

        some : row.vval.some ≡ true → take_reading_page s row k m ≡ the_page (H.votes b (key m.round))
        some e = go (dec_lt (key row.vrnd) (key m.round))
          where
            w : NewestVote (H.votes b) (key row.rnd) (key row.vrnd) row.vval.page
            w = t.last e

            old : round_in_range s row.vrnd ≡ true
            old = vrnd_range s b row rules

            go : Dec (key row.vrnd < key m.round) → take_reading_page s row k m ≡ the_page (H.votes b (key m.round))
            go (yes l) = first (inl (key_lower row.vrnd m.round (small s good _ old) (small s good _ range) l)) (w.after _ l)
            go (no n) =
                let level : key row.vrnd ≡ key m.round = omega (arith, n, w.up_to, up_to m.round range facts.may) in
                let same = same_number s good row.vrnd m.round old range level (may_no_clash row m.round facts.may) in
                let now : H.votes b (key m.round) ≡ row.vval.page ∷ w.older = subst (λ (r : ℕ). H.votes b r ≡ row.vval.page ∷ w.older) level w.newest in
                next_reading s row k m same e ∙ ap (append_of row.vval.page k) spoke ∙ sym (ap the_page now)

    pub take_reading_moves :
        Stepped s (box b) H.offers H (λ H. BoxTrue H b (take_reading_of s row k m).row) (λ H. Says H (two_b b (take_reading_of s row k m).sent))
    unfolding facts range
    take_reading_moves = rw (facts.row_is, facts.sent_is) (votes m.round range facts.may (take_reading_page s row k m) sound)
      where
        v : Reading
        v = facts.reading.0

        spoke : m.line.mark ≡ reads v
        spoke = facts.reading.1

        sound : SoundHall s (vote H b (key m.round) (take_reading_page s row k m))
        sound =
            subst (λ (p : Page). SoundHall s (vote H b (key m.round) p)) (sym (page_is v spoke))
            (vote_reading_sound b (key m.round) m.round.cf k v x.opened low (two_a_in_cf s k m rules') (x.said ∙ spoke)
            (ballot_up_to m.round range facts.may) S)
