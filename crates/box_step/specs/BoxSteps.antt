-- The C step, on three separate lent buffers: the row, of any sort of agent; the message read; the message sent.
use Rattle.std.specs.Prelude.{ℕ, eqb, length, ◌≡◌, Bool, cond, ◌&&◌, List}
use Rattle.below.specs.Refusals.{unless, granted, wrong_length, no_such_step, out_of_range}
use Rattle.rounds.specs.declared.setup.Setup.{Setup}
use Rattle.words.specs.Bytes.{zeros}
use Rattle.blocks.specs.Frame.{block_size}
use Rattle.acts.specs.declared.step.Step.{Step}
use Rattle.acts.specs.Named.{stamp_of, own_act, named_refusal}
use Rattle.hall.specs.Steps.{is_code, numbers_in_range}

abbrev pub is_block : List ℕ → Bool
is_block bytes = eqb (length bytes) block_size

abbrev pub range_refusal : Setup → Step → ℕ
range_refusal s x = unless (numbers_in_range s x) out_of_range granted

-- Order there: 1, 4 (code only), then by the blocks: row 2, 11 (step 2: n and cf only), message 2 (only for a step that names a
-- message), 3 (setup and instance), 5 to 9. The agent is the row's own; the step's agent and message number are ignored
unfoldable pub box_refusal : List ℕ → List ℕ → List ℕ → Step → ℕ
box_refusal row message sent x =
    unless (is_block row && (is_block message && is_block sent)) wrong_length
    (unless (is_code x.code) no_such_step (named_refusal (stamp_of row) (range_refusal (stamp_of row).setup x) x row message))

-- the row, rewritten
unfoldable pub box_row_after : List ℕ → List ℕ → List ℕ → Step → List ℕ
box_row_after row message sent x = cond (eqb (box_refusal row message sent x) granted) (own_act x row message).row row

-- the message sent, all zero where none is sent
unfoldable pub box_sent_after : List ℕ → List ℕ → List ℕ → Step → List ℕ
box_sent_after row message sent x =
    cond (eqb (box_refusal row message sent x) granted) (cond (own_act x row message).sends (own_act x row message).sent (zeros block_size)) sent

-- what the C step promises of its answer and of every lent byte
pub record BoxSteps (row message sent row_after sent_after : List ℕ) (x : Step) (answer : ℕ) : Type 0 where
  pub answered : answer ≡ box_refusal row message sent x
  pub row_left : row_after ≡ box_row_after row message sent x
  pub sent_left : sent_after ≡ box_sent_after row message sent x
