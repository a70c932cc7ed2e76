-- The steps of a rack move the history: 1 offer, 6 prepare, 7 fast, 8 blank.
use Rattle.std.proofs.Common.{ℕ, ◌<◌, arith, ◌≡◌, refl, sym, ap, subst, ◌∙◌, Bool, true, false, cond, ◌∷◌}
use mathlib.Core.List.Memᴰ
use Rattle.below.specs.Refusals.{granted}
use Rattle.pages.specs.declared.line.Reading.{Reading}
use Rattle.pages.specs.declared.line.Mark.{Mark}
use Rattle.pages.specs.declared.line.Mark.TheVariants.{Absent, Nil, Reading as reads}
use Rattle.pages.specs.Pages.{at, empty_of}
use Rattle.rounds.specs.declared.setup.Setup.{Setup}
use Rattle.rounds.specs.declared.round.Round.{Round}
use Rattle.rounds.specs.Setups.{setup_in_range}
use Rattle.rounds.proofs.Ordered.{key}
use Rattle.records.specs.declared.messages.Propose.{Propose}
use Rattle.records.specs.declared.messages.TwoS.{TwoS}
use Rattle.records.specs.declared.messages.TwoA.{TwoA}
use Rattle.records.specs.declared.rows.RackRow.{RackRow}
use Rattle.records.specs.Rules.{rack_rules, two_s_rules}
use Rattle.racks.specs.Steps.{offer_of, prepare_of, fast_of, blank_of, said, saying}
use Rattle.racks.proofs.GrantedSteps.{PrepareGranted, prepare_granted, FastGranted, fast_granted, BlankGranted, blank_granted}
use Rattle.history.specs.History.{free, Offered, History, Present}
use Rattle.history.specs.Sound.{Grounded, Whole}
use Rattle.history.specs.Moves.{offer, say}
use Rattle.history.proofs.Lines.{absent_or_present, nil_or_reading}
use Rattle.history.proofs.Updates.{put₂_same, put₂_other}
use Rattle.history.proofs.OfferJoinSay.{offer_grows, offer_sound, say_grows, say_sound}
use Rattle.safety.proofs.TrueMessages.{propose, two_s, two_a, Says}
use Rattle.safety.proofs.TrueRows.{RackTrue}
use Rattle.safety.proofs.Moved.{rack, SoundHall, Stepped, Silent, still}
use Rattle.safety.proofs.InRange.{lower_number, rack_range, two_s_range}

module _ (s : Setup) {H : History} (S : SoundHall s H) (k : ℕ) (row : RackRow) (t : RackTrue H k row) where
  -- step 1
  pub offer_moves : (reading : Reading) →
      Stepped s (rack k) (record { rack = k; reading = reading } ∷ H.offers) H (λ H. RackTrue H k row) (λ H. Says H (propose k (offer_of reading)))
  offer_moves reading =
      record {
        after = offer H (record { rack = k; reading = reading });
        moved =
            record {
              grows = offer_grows H _;
              sound = offer_sound _ S;
              offers_are = refl;
              ballots = λ b n. refl;
              votes = λ b n j. refl;
              said = λ k n j. refl;
              opened = λ c l n j. refl;
            };
        row = record { ahead = t.ahead; unsaid = t.unsaid; opened = t.opened };
        sent = record { offered = Memᴰ.head refl };
      }

  -- step 6
  pub prepare_moves : (sender : ℕ) (m : TwoS) → setup_in_range s ≡ true → k < s.racks → rack_rules s k row ≡ true → two_s_rules s sender m ≡ true →
      Says H (two_s sender m) → (prepare_of k row m).refusal ≡ granted →
      Stepped s (rack k) H.offers H (λ H. RackTrue H k (prepare_of k row m).row) Silent
  prepare_moves sender m good low rules rules' x h = record { after = H; moved = still (rack k) S; row = prepared; sent = tt }
    where
      facts : PrepareGranted k row m
      facts = prepare_granted k row m h

      above : key row.prnd < key (prepare_of k row m).row.prnd
      above =
          rw facts.prnd_is (lower_number s good row.prnd m.round (rack_range s k row rules) (two_s_range s sender m rules') facts.above)

      -- a page that opens a round has a line for every rack
      no_page : empty_of m.page ≡ false → at m.page k ≡ Absent → ⊥
      no_page e a =
          let w : Whole s.racks H.offers m.page = subst (Grounded s.racks H.offers) (x.fixed_opened e) (S.grounded (key m.round)) in
          absent_or_present a (w.complete k low)

      opened : (b : Bool) → empty_of m.page ≡ b → cond b Absent (at m.page k) ≡ Absent → H.opened (key m.round) ≡ free m.round.cf
      opened true e a = x.free_opened e
      opened false e a = absurd (no_page e a)

      prepared : RackTrue H k (prepare_of k row m).row
      prepared =
          record {
            ahead = λ j l. t.ahead j (omega (arith, above));
            unsaid = λ e. t.ahead _ above;
            opened =
                λ e.
                subst (λ (r : Round). H.opened (key r) ≡ free r.cf) (sym facts.prnd_is)
                (opened (empty_of m.page) refl (sym facts.pval_is ∙ e));
          }

  -- a rack with no pval speaks, once, in its round
  speaks : (m : Mark) → Present m → ((v : Reading) → m ≡ reads v → Offered H.offers v) → row.pval.mark ≡ Absent →
      Stepped s (rack k) H.offers H (λ H. RackTrue H k (said row m)) (λ H. Says H (two_a k (saying row m)))
  speaks m h offered silent =
      record {
        after = say H k r m;
        moved =
            record {
              grows = say_grows H k r m (t.unsaid silent);
              sound = say_sound k r m (t.unsaid silent) offered S;
              offers_are = refl;
              ballots = λ b n. refl;
              votes = λ b n j. refl;
              said = λ i n j. put₂_other H.said k r m i j (λ e. n (ap rack (sym e.0)));
              opened = λ c l n j. refl;
            };
        row =
            record {
              ahead = λ j l. put₂_other H.said k r m k j (λ e. omega (arith, e.1)) ∙ t.ahead j l;
              unsaid = λ e. absurd (absent_or_present e h);
              opened = λ e. absurd (absent_or_present e h);
            };
        sent = record { present = h; said = put₂_same H.said k r m; opened = t.opened silent };
      }
    where
      r : ℕ
      r = key row.prnd

  -- step 7, with a PROPOSE of any rack
  pub fast_moves : (sender : ℕ) (m : Propose) → Says H (propose sender m) → (fast_of k row m).refusal ≡ granted →
      Stepped s (rack k) H.offers H (λ H. RackTrue H k (fast_of k row m).row) (λ H. Says H (two_a k (fast_of k row m).sent))
  fast_moves sender m x h = rw (facts.row_is, facts.sent_is) (speaks (reads m.reading) refl offered facts.silent)
    where
      facts : FastGranted k row m
      facts = fast_granted k row m h

      offered : (v : Reading) → reads m.reading ≡ reads v → Offered H.offers v
      offered v e = let d : m.reading ≡ v = cc in subst (Offered H.offers) d (sender, x.offered)

  -- step 8
  pub blank_moves : (m : TwoA) → (blank_of k row m).refusal ≡ granted →
      Stepped s (rack k) H.offers H (λ H. RackTrue H k (blank_of k row m).row) (λ H. Says H (two_a k (blank_of k row m).sent))
  blank_moves m h = rw (facts.row_is, facts.sent_is) (speaks Nil refl (λ v e. absurd (nil_or_reading refl e)) facts.silent)
    where
      facts : BlankGranted k row m
      facts = blank_granted k row m h
