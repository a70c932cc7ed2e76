-- All that document 01 and the round trips ask of a kind, from what is its own: its codec, how many agents there are, and that a
-- record that keeps its rules fits its bytes. `Shaped` says that the record's arrays have the lengths of their types.
use Rattle.std.proofs.Common.{ℕ, ◌≤◌, length, ◌≡◌, true, List}
use Rattle.below.proofs.Tests.{and_left, and_right}
use Rattle.records.specs.declared.stamp.Stamp.{Stamp}
use Rattle.records.specs.Rules.{stamp_rules}
use Rattle.words.specs.Bytes.{Small}
use Rattle.blocks.specs.Frame.{block_size}
use Rattle.blocks.specs.Kinds.{Kind, encode, decode, kept, good}
use Rattle.blocks.proofs.Framing.{StampFits}
use Rattle.blocks.specs.Proper.{Proper}
use Rattle.blocks.proofs.Judged.{encode-length, encode_small, decode-encode, encode-decode, encode-good, good_kept}
use Rattle.blocks.proofs.Ranges.{SetupFits, setup_fits, stamp_setup, stamp_fits}
use Rattle.blocks.proofs.Theorems.{Sound, good_sound, good_from}

pub record Kept {A : Type 0} (k : Kind A) (Shaped : A → Type 0) : Type 0 where
  -- (a) what a record that keeps the rules is written as reads back as that record
  pub reads_back : (stamp : Stamp) (body : A) → Shaped body → kept k stamp body ≡ true → (good k (encode k stamp body) ≡ true) × (decode k (encode k stamp body) ≡ (stamp, body))
  -- (b) a block that reads well is the one that its record writes
  pub writes_back : (bytes : List ℕ) → good k bytes ≡ true → bytes ≡ encode k (decode k bytes).0 (decode k bytes).1
  -- (d) 512 bytes
  pub long : (stamp : Stamp) (body : A) → length (encode k stamp body) ≡ block_size
  pub small : (stamp : Stamp) (body : A) → Shaped body → kept k stamp body ≡ true → Small (encode k stamp body)
  -- (e) good exactly if some record that keeps the rules encodes to it, and then sound
  pub from_record : (stamp : Stamp) (body : A) → Shaped body → kept k stamp body ≡ true → (bytes : List ℕ) → bytes ≡ encode k stamp body → good k bytes ≡ true
  pub to_record : (bytes : List ℕ) → good k bytes ≡ true → kept k (decode k bytes).0 (decode k bytes).1 ≡ true
  pub sound : (bytes : List ℕ) → Small bytes → good k bytes ≡ true → Sound k bytes

module _ {A : Type 0} (k : Kind A) (P : A → Type 0) (Shaped : A → Type 0) (proper : Proper k P) (few : (stamp : Stamp) → SetupFits stamp.setup → k.agents stamp.setup ≤ 256)
    (fits : (stamp : Stamp) (body : A) → SetupFits stamp.setup → Shaped body → k.rules stamp.setup stamp.agent body ≡ true → P body) where
  stamped : (stamp : Stamp) (body : A) → kept k stamp body ≡ true → stamp_rules stamp (k.agents stamp.setup) ≡ true
  stamped stamp body h = and_left (stamp_rules stamp (k.agents stamp.setup)) _ h

  stamp_in : (stamp : Stamp) (body : A) → kept k stamp body ≡ true → StampFits stamp
  stamp_in stamp body h = stamp_fits stamp (k.agents stamp.setup) (few stamp) (stamped stamp body h)

  body_in : (stamp : Stamp) (body : A) → Shaped body → kept k stamp body ≡ true → P body
  body_in stamp body l h =
      fits stamp body (setup_fits stamp.setup (stamp_setup stamp (k.agents stamp.setup) (stamped stamp body h))) l
      (and_right (stamp_rules stamp (k.agents stamp.setup)) _ h)

  pub kept_of : Kept k Shaped
  kept_of =
      record {
        reads_back = λ stamp body l h.
            (encode-good k P proper stamp body (stamp_in stamp body h) (body_in stamp body l h) h, decode-encode k P proper stamp body (stamp_in stamp body h) (body_in stamp body l h));
        writes_back = encode-decode k P proper;
        long = encode-length k P proper;
        small = λ stamp body l h. encode_small k P proper stamp body (stamp_in stamp body h) (body_in stamp body l h);
        from_record = λ stamp body l h. good_from k P proper stamp body (stamp_in stamp body h) (body_in stamp body l h) h;
        to_record = good_kept k P proper;
        sound = good_sound k P proper;
      }
