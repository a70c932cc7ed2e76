-- On any bytes, a step changes no block but its row, the next message and the head, and the hall keeps its length.
use Rattle.std.proofs.Common.{ℕ, ◌+◌, ◌<◌, arith, eqb, length, eqb-true, ltb-true, ◌≡◌, refl, sym, ap, ◌∙◌, ◌≢◌, Bool, true, false, cond, not, ◌||◌, List}
use Rattle.below.specs.Refusals.{unless, granted, wrong_length, bad_block, other_hall, no_such_step, post_full, out_of_range}
use Rattle.below.proofs.Granted.{unless_held, unless_later}
use Rattle.blocks.specs.Frame.{block_size}
use Rattle.blocks.specs.Kinds.{encode, good}
use Rattle.blocks.proofs.Judged.{encode-length}
use Rattle.blocks.specs.Rows.{head}
use Rattle.blocks.specs.RowPropers.{HeadFits, head_proper}
use Rattle.acts.specs.declared.step.Step.{Step}
use Rattle.acts.specs.Named.{is_good, stamp_of, same_hall, names, own_act, own_row, named_refusal}
use Rattle.hall.specs.Halls.{hall_size, blocks_of_hall, messages_at, block_at}
use Rattle.hall.specs.Steps.{step_exists, numbers_in_range, head_of, count_of, row_place, row_of, message_of, hall_act, hall_for, most_messages, fits, hall_refusal, put_block, posted, granting, hall_after}
use Rattle.hall.proofs.StepFacts.{own_number}
use Rattle.hall.proofs.Cells.{length_block, put_length, put_other}
use Rattle.hall_step.specs.Reached.{Reached}
use Rattle.hall_step.proofs.ActSizes.{act_sized}
use Rattle.hall_step.proofs.Stepping.{place_within}

module _ (hall : List ℕ) (x : Step) (g : hall_refusal hall x ≡ granted) where
  number : ℕ
  number = named_refusal (hall_for hall x) granted x (row_of hall x) (message_of hall x)

  -- the refusals from a place on
  from_post : ℕ
  from_post = unless (fits (hall_act hall x).sends (count_of hall)) post_full granted

  from_blocks : ℕ
  from_blocks = unless (eqb number granted) number from_post

  from_range : ℕ
  from_range = unless (numbers_in_range (head_of hall).setup x) out_of_range from_blocks

  from_step : ℕ
  from_step = unless (step_exists (head_of hall).setup (count_of hall) x) no_such_step from_range

  from_head : ℕ
  from_head = unless (good head (block_at hall 0)) bad_block from_step

  facts : Reached hall (head_of hall) (count_of hall) x × ((number ≡ granted) × (fits (hall_act hall x).sends (count_of hall) ≡ true))
  unfolding hall_refusal number from_post from_blocks from_range from_step from_head
  facts = (
    record {
      long = eqb-true _ _ (unless_held (eqb (length hall) hall_size) wrong_length from_head (omega arith) g);
      headed = unless_held (good head (block_at hall 0)) bad_block from_step (omega arith) past_length;
      stamped = refl;
      counted = refl;
      exists = unless_held (step_exists (head_of hall).setup (count_of hall) x) no_such_step from_range (omega arith) past_head;
      ranged = unless_held (numbers_in_range (head_of hall).setup x) out_of_range from_blocks (omega arith) past_step;
    },
    (past_range.0, unless_held (fits (hall_act hall x).sends (count_of hall)) post_full granted (omega arith) past_range.1),
  )
    where
      past_length : from_head ≡ granted
      past_length = unless_later (eqb (length hall) hall_size) wrong_length from_head (omega arith) g

      past_head : from_step ≡ granted
      past_head = unless_later (good head (block_at hall 0)) bad_block from_step (omega arith) past_length

      past_step : from_range ≡ granted
      past_step = unless_later (step_exists (head_of hall).setup (count_of hall) x) no_such_step from_range (omega arith) past_head

      past_range : (number ≡ granted) × (from_post ≡ granted)
      past_range = own_number number from_post (unless_later (numbers_in_range (head_of hall).setup x) out_of_range from_blocks (omega arith) past_step)

  act_granted : (hall_act hall x).refusal ≡ granted
  unfolding named_refusal hall_act number
  act_granted =
      unless_later of_message other_hall own (omega arith)
      (unless_later of_row other_hall (unless of_message other_hall own) (omega arith)
      (unless_later heard bad_block (unless of_row other_hall (unless of_message other_hall own)) (omega arith)
      (unless_later (is_good (row_of hall x)) bad_block (unless heard bad_block (unless of_row other_hall (unless of_message other_hall own))) (omega arith) facts.1.0)))
    where
      own : ℕ
      own = (own_act x (row_of hall x) (message_of hall x)).refusal

      heard : Bool
      heard = not (names x.code) || is_good (message_of hall x)

      of_row : Bool
      of_row = own_row (hall_for hall x) (stamp_of (row_of hall x))

      of_message : Bool
      of_message = not (names x.code) || same_hall (hall_for hall x) (stamp_of (message_of hall x))

  within : row_place x < messages_at
  within = place_within hall x facts.0 refl

  sizes : (length (hall_act hall x).row ≡ block_size) × ((hall_act hall x).sends ≡ true → length (hall_act hall x).sent ≡ block_size)
  unfolding hall_act
  sizes = act_sized (stamp_of (row_of hall x)) (row_of hall x) (message_of hall x) x (length_block hall (row_place x) facts.0.long (omega (arith, within))) act_granted

  -- the blocks that stand where neither head, nor row, nor the next message is
  pub record Elsewhere (place : ℕ) : Type 0 where
    pub here : place < blocks_of_hall
    pub not_head : place ≢ 0
    pub not_row : place ≢ row_place x
    pub not_next : place ≢ messages_at + count_of hall

  record Kept (after : List ℕ) : Type 0 where
    pub long : length after ≡ hall_size
    pub stays : (place : ℕ) → Elsewhere place → block_at after place ≡ block_at hall place

  posted_keeps : (hall_act hall x).sends ≡ true → Kept (posted (hall_act hall x).sent hall)
  unfolding posted
  posted_keeps s =
      record {
        long = put_length first head' 0 first_long (omega arith) size;
        stays = λ place e. put_other first head' 0 first_long (omega arith) size place e.here e.not_head ∙ put_other hall sent (messages_at + count_of hall) facts.0.long room (sizes.1 s) place e.here e.not_next;
      }
    where
      sent : List ℕ
      sent = (hall_act hall x).sent

      room : messages_at + count_of hall < blocks_of_hall
      room = let l : count_of hall < most_messages = ltb-true _ _ (ap (λ (b : Bool). fits b (count_of hall)) (sym s) ∙ facts.1.1) in omega arith

      first : List ℕ
      first = put_block (messages_at + count_of hall) sent hall

      first_long : length first ≡ hall_size
      first_long = put_length hall sent (messages_at + count_of hall) facts.0.long room (sizes.1 s)

      head' : List ℕ
      head' = encode head (head_of hall) (record { count = count_of hall + 1 })

      size : length head' ≡ block_size
      size = encode-length head HeadFits head_proper (head_of hall) _

  post_keeps : (b : Bool) → (hall_act hall x).sends ≡ b → Kept (cond b (posted (hall_act hall x).sent hall) hall)
  post_keeps true s = posted_keeps s
  post_keeps false s = record { long = facts.0.long; stays = λ place e. refl }

  granting_keeps : Kept (granting hall x)
  unfolding granting
  granting_keeps =
      let mid = post_keeps (hall_act hall x).sends refl in
      record {
        long = put_length _ (hall_act hall x).row (row_place x) mid.long (omega (arith, within)) sizes.0;
        stays = λ place e. put_other _ (hall_act hall x).row (row_place x) mid.long (omega (arith, within)) sizes.0 place e.here e.not_row ∙ mid.stays place e;
      }

-- granted or refused
pub unnamed_stays : (hall : List ℕ) (x : Step) (place : ℕ) → place < blocks_of_hall → place ≢ 0 → place ≢ row_place x → place ≢ messages_at + count_of hall →
    block_at (hall_after hall x) place ≡ block_at hall place
unfolding hall_after
unnamed_stays hall x place a b c d = go (eqb (hall_refusal hall x) granted) refl
  where
    go : (t : Bool) → eqb (hall_refusal hall x) granted ≡ t → block_at (cond t (granting hall x) hall) place ≡ block_at hall place
    go true e = (granting_keeps hall x (eqb-true _ _ e)).stays place (record { here = a; not_head = b; not_row = c; not_next = d })
    go false e = refl

pub length_stays : (hall : List ℕ) (x : Step) → length (hall_after hall x) ≡ length hall
unfolding hall_after
length_stays hall x = go (eqb (hall_refusal hall x) granted) refl
  where
    go : (t : Bool) → eqb (hall_refusal hall x) granted ≡ t → length (cond t (granting hall x) hall) ≡ length hall
    go true e = (granting_keeps hall x (eqb-true _ _ e)).long ∙ sym (facts hall x (eqb-true _ _ e)).0.long
    go false e = refl
