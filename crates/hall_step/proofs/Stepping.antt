-- The hall's step, by the ways through its code.
use Rattle.std.proofs.Common.{ℕ, ◌+◌, ◌≤◌, ◌<◌, arith, eqb, leb, length, eq-eqb, ne_eqb, leb-true, ◌≡◌, refl, sym, ap, subst, ◌∙◌, Bool, true, false, cond, List, Result, Ok, Err}
use Rattle.below.specs.declared.refusals.Refusal.{Refusal}
use Rattle.below.specs.Refusals.{unless, granted, post_full}
use Rattle.below.proofs.Tests.{and_left, and_right}
use borrow.Rule.Slice.PartMut.{put_mid}
use Rattle.rounds.specs.Setups.{setup_in_range}
use Rattle.records.specs.declared.stamp.Stamp.{Stamp}
use Rattle.records.specs.Rules.{stamp_rules, head_rules}
use Rattle.blocks.specs.Frame.{block_size}
use Rattle.blocks.specs.Kinds.{encode, decode, kept, good}
use Rattle.blocks.proofs.Judged.{encode-length}
use Rattle.blocks.proofs.Ranges.{SetupFits, setup_fits, stamp_setup}
use Rattle.blocks.specs.Rows.{head}
use Rattle.blocks.specs.RowPropers.{HeadFits, head_proper}
use Rattle.acts.specs.declared.step.Step.{Step}
use Rattle.acts.specs.declared.numbers.Numbers.{Numbers}
use Rattle.acts.specs.Acts.{Act}
use Rattle.acts.specs.Named.{stamp_of, names, own_act, named_refusal}
use Rattle.acts.specs.Answers.{Acts, step_of}
use Rattle.hall.specs.Halls.{hall_size, blocks_of_hall, messages_at, block_at}
use Rattle.hall.specs.Steps.{rows_at, step_exists, numbers_in_range, head_of, count_of, row_place, row_of, message_of, hall_act, hall_for, most_messages, fits, hall_refusal, put_block, posted, granting, hall_after, Steps}
use Rattle.step_numbers.specs.Narrowed.{narrowed}
use Rattle.hall.proofs.Cells.{put_length}
use Rattle.hall_step.specs.Reached.{Reached}
use Rattle.hall_step.proofs.Parts.{put_part}
use Rattle.hall.proofs.StepFacts.{exists_code, exists_agent}
use Rattle.step_numbers.proofs.StepNumbers.{row_within, message_within}
use Rattle.step_numbers.proofs.SameAct.{same_act, same_named}

module _ (hall : List ℕ) (x : Step) where
  -- a refusal, and nothing changes
  refused_with : (n : ℕ) → eqb n granted ≡ false → hall_refusal hall x ≡ n → Steps hall hall x n
  unfolding hall_after
  refused_with n e h = record { answered = sym h; left = rw (h, e) }

  pub wrong_length_lem : (length hall ≡ hall_size → ⊥) → Steps hall hall x 1
  unfolding hall_refusal
  wrong_length_lem h = refused_with 1 refl (rw (ne_eqb (length hall) hall_size h))

  module _ (long : length hall ≡ hall_size) where
    pub bad_head : good head (block_at hall 0) ≡ false → Steps hall hall x 2
    unfolding hall_refusal
    bad_head h = refused_with 2 refl (rw (eq-eqb (length hall) hall_size long, h))

    module _ (headed : good head (block_at hall 0) ≡ true) where
      pub no_such_step_lem : step_exists (head_of hall).setup (count_of hall) x ≡ false → Steps hall hall x 4
      unfolding hall_refusal
      no_such_step_lem h = refused_with 4 refl (rw (eq-eqb (length hall) hall_size long, headed, h))

      pub out_of_range : step_exists (head_of hall).setup (count_of hall) x ≡ true → numbers_in_range (head_of hall).setup x ≡ false → Steps hall hall x 11
      unfolding hall_refusal
      out_of_range e h = refused_with 11 refl (rw (eq-eqb (length hall) hall_size long, headed, e, h))

  number : ℕ
  number = named_refusal (hall_for hall x) granted x (row_of hall x) (message_of hall x)

  module _ {stamp : Stamp} {count : ℕ} (r : Reached hall stamp count x) where
    past : hall_refusal hall x ≡ unless (eqb number granted) number (unless (fits (hall_act hall x).sends (count_of hall)) post_full granted)
    unfolding hall_refusal number
    past =
        rw (eq-eqb (length hall) hall_size r.long, r.headed, subst (λ (p : Stamp). step_exists p.setup (count_of hall) x ≡ true) r.stamped (subst (λ (n : ℕ). step_exists stamp.setup n x ≡ true) r.counted r.exists), subst (λ (p : Stamp). numbers_in_range p.setup x ≡ true) r.stamped r.ranged)

    rules : kept head (head_of hall) (decode head (block_at hall 0)).1 ≡ true
    unfolding good
    rules = and_left (kept head (head_of hall) (decode head (block_at hall 0)).1) _ r.headed

    pub setup_small : SetupFits stamp.setup
    setup_small = setup_fits stamp.setup (subst (λ (p : Stamp). setup_in_range p.setup ≡ true) (sym r.stamped) (stamp_setup (head_of hall) 1 (and_left _ _ rules)))

    pub few : count ≤ most_messages
    unfolding head_rules
    few = leb-true _ _ (subst (λ (n : ℕ). leb n most_messages ≡ true) (sym r.counted) (and_right (stamp_rules (head_of hall) 1) _ rules))

    -- what the step names lies within the hall
    pub place_within : {first : ℕ} → first ≡ rows_at x.code → first + x.agent < messages_at
    place_within e = subst (λ (n : ℕ). n + x.agent < messages_at) (sym e) (row_within stamp.setup setup_small x (exists_agent stamp.setup count x r.exists))

    pub message_fits : {place : ℕ} → place ≡ cond (names x.code) (messages_at + x.message) messages_at → place < blocks_of_hall
    message_fits e = subst (λ (n : ℕ). n < blocks_of_hall) (sym e) (message_within stamp.setup count x r.exists few)

    pub own_row : {first : ℕ} → first ≡ rows_at x.code → {part : List ℕ} → part ≡ block_at hall (first + x.agent) → part ≡ row_of hall x
    own_row e p = p ∙ ap (λ (n : ℕ). block_at hall (n + x.agent)) e

    pub own_message : {place : ℕ} → place ≡ cond (names x.code) (messages_at + x.message) messages_at → {part : List ℕ} → part ≡ block_at hall place → names x.code ≡ true →
        part ≡ message_of hall x
    own_message e p n = p ∙ ap (λ (k : ℕ). block_at hall k) (e ∙ rw n)

    pub own_hall : record { instance = stamp.instance; setup = stamp.setup; agent = x.agent } ≡ hall_for hall x
    own_hall = ap (λ (h : Stamp). record { instance = h.instance; setup = h.setup; agent = x.agent }) r.stamped

    -- what the act of the named blocks says is what the definition says
    module _ {own : Stamp} {numbers : Numbers} {row message : List ℕ} {refusal : ℕ} {sends : Bool} {a b a' b' : List ℕ} (own_is : own ≡ hall_for hall x) (numbers-are : numbers ≡ narrowed x) (row_is : row ≡ row_of hall x)
        (message-is : names x.code ≡ true → message ≡ message_of hall x)
        (said : Acts (named_refusal own granted (step_of x.code numbers) row message) (own_act (step_of x.code numbers) row message) refusal sends a b a' b') where
      acted : Acts (named_refusal own granted (step_of x.code (narrowed x)) row message) (own_act (step_of x.code (narrowed x)) row message) refusal sends a b a' b'
      acted =
          subst (λ (y : Numbers). Acts (named_refusal own granted (step_of x.code y) row message) (own_act (step_of x.code y) row message) refusal sends a b a' b') numbers-are said

      act_is : own_act (step_of x.code (narrowed x)) row message ≡ hall_act hall x
      unfolding hall_act
      act_is =
          same_act stamp.setup setup_small x r.ranged (stamp_of row) row (message_of hall x) message (exists_code stamp.setup count x r.exists) message-is ∙
          ap (λ (l : List ℕ). own_act x l (message_of hall x)) row_is

      number_is : refusal ≡ number
      unfolding number
      number_is =
          acted.numbered ∙
          same_named x own granted row (message_of hall x) message message-is
          (λ _ _. same_act stamp.setup setup_small x r.ranged (stamp_of row) row (message_of hall x) message (exists_code stamp.setup count x r.exists) message-is) ∙
          ap (λ (l : List ℕ). named_refusal own granted x l (message_of hall x)) row_is ∙ ap (λ (o : Stamp). named_refusal o granted x (row_of hall x) (message_of hall x)) own_is

      pub act_refused : (refusal ≡ granted → ⊥) → Steps hall hall x refusal
      act_refused h =
          refused_with refusal (ne_eqb refusal granted h)
          (past ∙ ap (λ (n : ℕ). unless (eqb n granted) n (unless (fits (hall_act hall x).sends (count_of hall)) post_full granted)) (sym number_is) ∙
          rw (ne_eqb refusal granted h))

      -- the act is granted
      module _ (h : refusal ≡ granted) where
        zero : number ≡ granted
        zero = sym number_is ∙ h

        own_zero : eqb (named_refusal own granted (step_of x.code (narrowed x)) row message) granted ≡ true
        own_zero = eq-eqb _ _ (sym acted.numbered ∙ h)

        pub sends_is : sends ≡ (hall_act hall x).sends
        sends_is = acted.sending ∙ rw own_zero (ap (λ (y : Act). y.sends) act_is)

        room : fits sends count ≡ fits (hall_act hall x).sends (count_of hall)
        room = ap (λ (y : Bool). fits y count) sends_is ∙ ap (λ (n : ℕ). fits (hall_act hall x).sends n) r.counted

        past_act : hall_refusal hall x ≡ unless (fits sends count) post_full granted
        past_act =
            past ∙ ap (λ (n : ℕ). unless (eqb n granted) n (unless (fits (hall_act hall x).sends (count_of hall)) post_full granted)) zero ∙
            ap (λ (y : Bool). unless y post_full granted) (sym room)

        pub post_is_full : fits sends count ≡ false → Steps hall hall x 10
        post_is_full f = refused_with 10 refl (past_act ∙ ap (λ (y : Bool). unless y post_full granted) f)

        row_left_lem : a' ≡ (hall_act hall x).row
        row_left_lem = acted.kept ∙ rw own_zero (ap (λ (y : Act). y.row) act_is)

        sent_left_lem : b' ≡ cond (hall_act hall x).sends (hall_act hall x).sent b
        sent_left_lem = acted.told ∙ rw own_zero (ap (λ (y : Act). cond y.sends y.sent b) act_is)

        post_left : cond sends (posted b' hall) hall ≡ cond (hall_act hall x).sends (posted (hall_act hall x).sent hall) hall
        post_left = ap (λ (y : Bool). cond y (posted b' hall) hall) sends_is ∙ go (hall_act hall x).sends sent_left_lem
          where
            go : (y : Bool) → b' ≡ cond y (hall_act hall x).sent b → cond y (posted b' hall) hall ≡ cond y (posted (hall_act hall x).sent hall) hall
            go true e = ap (λ (l : List ℕ). posted l hall) e
            go false e = refl

        pub stepped : {place : ℕ} {mid after : List ℕ} → place ≡ row_place x → fits sends count ≡ true → mid ≡ cond sends (posted b' hall) hall → after ≡ put_block place a' mid →
            Steps hall after x 0
        unfolding hall_after granting
        stepped {place} {mid} {after} p f m e =
            record {
              answered = sym zero_is;
              left =
                  e ∙ ap (λ (n : ℕ). put_block n a' mid) p ∙ ap (λ (l : List ℕ). put_block (row_place x) l mid) row_left_lem ∙
                  ap (λ (l : List ℕ). put_block (row_place x) (hall_act hall x).row l) (m ∙ post_left) ∙
                  ap (λ (n : ℕ). cond (eqb n granted) (granting hall x) hall) (sym zero_is);
            }
          where
            zero_is : hall_refusal hall x ≡ granted
            zero_is = past_act ∙ ap (λ (y : Bool). unless y post_full granted) f

-- what the code's test of a condition says
pub unless_passed : (b : Bool) (e : Refusal) {u : Unit {0}} {r : Result (Unit {0}) Refusal} → r ≡ cond b (Ok tt) (Err e) → r ≡ Ok u → b ≡ true
unless_passed true e p q = refl
unless_passed false e p q = cc

pub unless_failed : (b : Bool) (e f : Refusal) {r : Result (Unit {0}) Refusal} → r ≡ cond b (Ok tt) (Err e) → r ≡ Err f → (b ≡ false) × (f ≡ e)
unless_failed true e f p q = cc
unless_failed false e f p q = (refl, cc)

-- where a message that is sent goes
pub posted_is : (hall sent mid new : List ℕ) (stamp : Stamp) (count : ℕ) → length hall ≡ hall_size → length sent ≡ block_size → count < most_messages → stamp ≡ head_of hall → count ≡ count_of hall →
    mid ≡ put_block (messages_at + count) sent hall → new ≡ encode head stamp (record { count = count + 1 }) → put_mid 0 block_size mid new ≡ posted sent hall
unfolding posted
posted_is hall sent mid new stamp count long size room s c m e =
    put_part mid _ new 0 (ap length m ∙ put_length hall sent (messages_at + count) long (omega arith) size) (omega arith) (encode-length head HeadFits head_proper stamp _) e ∙
    ap (λ (l : List ℕ). put_block 0 (encode head stamp (record { count = count + 1 })) l) m ∙
    ap (λ (h : Stamp). put_block 0 (encode head h (record { count = count + 1 })) (put_block (messages_at + count) sent hall)) s ∙
    ap (λ (n : ℕ). put_block 0 (encode head (head_of hall) (record { count = n + 1 })) (put_block (messages_at + n) sent hall)) c
