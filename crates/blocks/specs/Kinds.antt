-- One generic kind of block. A kind is its number, the codec of its body, how many agents of its sort a hall has, and the
-- rules of its record; every block of every kind is encoded and judged by these definitions.
use Rattle.std.specs.Prelude.{ℕ, ◌+◌, ◌-◌, eqb, length, Bool, ◌&&◌, List, ◌++◌}
use Rattle.below.specs.Below.{all}
use Rattle.rounds.specs.declared.setup.Setup.{Setup}
use Rattle.records.specs.declared.stamp.Stamp.{Stamp}
use Rattle.records.specs.Rules.{stamp_rules}
use Rattle.words.specs.Bytes.{byte}
use Rattle.fields.specs.Codecs.{Codec, both, like}
use Rattle.blocks.specs.Frame.{words_end, body_at, stamp_as, zero_run, checks}

pub record Kind (A : Type 0) : Type 0 where
  pub number : ℕ
  pub body : Codec A
  pub agents : Setup → ℕ
  pub rules : Setup → ℕ → A → Bool

module _ {A : Type 0} (k : Kind A) where
  -- the words of a block: stamp, body, the rest zero
  abbrev pub content : Codec (Stamp × A)
  content =
      like (λ v. (v.0, (v.1, tt))) (λ w. (w.0, w.1.0))
      (both (stamp_as k.number) (both k.body (zero_run (words_end - (body_at + k.body.size)))))

  -- the words, then the two check words
  unfoldable pub encode : Stamp → A → List ℕ
  encode stamp body = content.put (stamp, body) ++ checks (content.put (stamp, body))

  -- what any bytes hold, read as a block of this kind
  abbrev pub decode : List ℕ → Stamp × A
  decode bytes = content.get bytes 0

  -- the record keeps the rules
  abbrev pub kept : Stamp → A → Bool
  kept stamp body = stamp_rules stamp (k.agents stamp.setup) && k.rules stamp.setup stamp.agent body

-- two lists of bytes are equal
unfoldable pub same : List ℕ → List ℕ → Bool
same a b = eqb (length a) (length b) && all (length a) (λ k. eqb (byte a k) (byte b k))

-- a good block: what it holds keeps the rules, and is written as these very bytes
unfoldable pub good : {A : Type 0} → Kind A → List ℕ → Bool
good k bytes = kept k (decode k bytes).0 (decode k bytes).1 && same bytes (encode k (decode k bytes).0 (decode k bytes).1)
