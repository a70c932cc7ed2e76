-- Each public contract of this crate determines its answer, and every lent byte.
use Rattle.std.proofs.Common.{ℕ, ◌≡◌, refl, sym, ◌∙◌, Bool, List, [], Result, Ok, Err}
use mir.Syntax.{Dict}
use contract.Lifetimes.{Lfts}
use denote.RattleType.{RattleType}
use denote.Param.Laws.{Laws, IsCopy}
use borrow.Fn.World.{ArgsD, ResD}
use borrow.Fn.Kinds.{sig_of, ended_of}
use denote.Triple.Clauses.{AtExit}
use Rattle.std.specs.declared.clone.Clone as clone_trait
use Rattle.below.proofs.Unique.{Determines}
use Rattle.below.specs.declared.refusals.Refusal.{Refusal}
use Rattle.below.specs.Refusals.{number_of, value_or}
use Rattle.below.proofs.Refused.{answer_one}
use Rattle.records.specs.declared.stamp.Stamp.{Stamp}
use Rattle.rounds.specs.declared.setup.Setup.{Setup}
use Rattle.words.specs.Bytes.{Spliced}
use Rattle.fields.specs.declared.field.Read.{Read}
use Rattle.fields.specs.Codecs.{Got}
use Rattle.fields.proofs.Unique.{got_one, spliced_one}
use Rattle.blocks.specs.Frame.{body_at}
use Rattle.blocks.specs.declared.body.Stamped.{Stamped}
use Rattle.blocks.specs.declared.body.Body as body_trait
use Rattle.blocks.specs.Kinds.{Kind, encode, decode}
use Rattle.blocks.specs.Answers.{Reads, Writes, stamp_in, body_in}
use Rattle.blocks.proofs.Theorems.{reads_unique, writes_unique}
use Rattle.blocks.proofs.kind.Kind.number.Kinds as number_kinds
use Rattle.blocks.proofs.kind.Kind.number.Reads as number_reads
use Rattle.blocks.proofs.kind.Kind.of.Kinds as of_kinds
use Rattle.blocks.proofs.kind.Kind.of.Reads as of_reads
use Rattle.blocks.proofs.frame.read_stamp.Kinds as read_stamp_kinds
use Rattle.blocks.proofs.frame.read_stamp.Reads as read_stamp
use Rattle.blocks.proofs.frame.put_stamp.Kinds as put_stamp_kinds
use Rattle.blocks.proofs.frame.put_stamp.Reads as put_stamp
use Rattle.blocks.proofs.frame.framed.Kinds as framed_kinds
use Rattle.blocks.proofs.frame.framed.Reads as framed
use Rattle.blocks.proofs.frame.seal.Kinds as seal_kinds
use Rattle.blocks.proofs.frame.seal.Reads as seal
use Rattle.blocks.proofs.body.read.Kinds as read_kinds
use Rattle.blocks.proofs.body.read.Reads as read_reads
use Rattle.blocks.proofs.body.put.Kinds as put_kinds
use Rattle.blocks.proofs.body.put.Reads as put_reads
use Rattle.blocks.proofs.body.write.Kinds as write_kinds
use Rattle.blocks.proofs.body.write.Reads as write_reads
use Rattle.blocks.proofs.body.Body.agents.Kinds as body_agents_kinds
use Rattle.blocks.proofs.body.Body.agents.Reads as body_agents_reads
use Rattle.blocks.proofs.body.Body.keeps.Kinds as body_keeps_kinds
use Rattle.blocks.proofs.body.Body.keeps.Reads as body_keeps_reads
use Rattle.blocks.proofs.body.Body.read.Kinds as body_read_kinds
use Rattle.blocks.proofs.body.Body.read.Reads as body_read_reads
use Rattle.blocks.proofs.body.Body.put.Kinds as body_put_kinds
use Rattle.blocks.proofs.body.Body.put.Reads as body_put_reads
use Rattle.blocks.proofs.propose.ProposeBody.agents.Kinds as propose_agents_kinds
use Rattle.blocks.proofs.propose.ProposeBody.agents.Reads as propose_agents
use Rattle.blocks.proofs.propose.ProposeBody.keeps.Kinds as propose_keeps_kinds
use Rattle.blocks.proofs.propose.ProposeBody.keeps.Reads as propose_keeps
use Rattle.blocks.proofs.propose.ProposeBody.read.Kinds as propose_read_kinds
use Rattle.blocks.proofs.propose.ProposeBody.read.Reads as propose_read
use Rattle.blocks.proofs.propose.ProposeBody.put.Kinds as propose_put_kinds
use Rattle.blocks.proofs.propose.ProposeBody.put.Reads as propose_put
use Rattle.blocks.proofs.one_a.OneABody.agents.Kinds as one_a_agents_kinds
use Rattle.blocks.proofs.one_a.OneABody.agents.Reads as one_a_agents
use Rattle.blocks.proofs.one_a.OneABody.keeps.Kinds as one_a_keeps_kinds
use Rattle.blocks.proofs.one_a.OneABody.keeps.Reads as one_a_keeps
use Rattle.blocks.proofs.one_a.OneABody.read.Kinds as one_a_read_kinds
use Rattle.blocks.proofs.one_a.OneABody.read.Reads as one_a_read
use Rattle.blocks.proofs.one_a.OneABody.put.Kinds as one_a_put_kinds
use Rattle.blocks.proofs.one_a.OneABody.put.Reads as one_a_put
use Rattle.blocks.proofs.one_b.OneBBody.agents.Kinds as one_b_agents_kinds
use Rattle.blocks.proofs.one_b.OneBBody.agents.Reads as one_b_agents
use Rattle.blocks.proofs.one_b.OneBBody.keeps.Kinds as one_b_keeps_kinds
use Rattle.blocks.proofs.one_b.OneBBody.keeps.Reads as one_b_keeps
use Rattle.blocks.proofs.one_b.OneBBody.read.Kinds as one_b_read_kinds
use Rattle.blocks.proofs.one_b.OneBBody.read.Reads as one_b_read
use Rattle.blocks.proofs.one_b.OneBBody.put.Kinds as one_b_put_kinds
use Rattle.blocks.proofs.one_b.OneBBody.put.Reads as one_b_put
use Rattle.blocks.proofs.two_s.TwoSBody.agents.Kinds as two_s_agents_kinds
use Rattle.blocks.proofs.two_s.TwoSBody.agents.Reads as two_s_agents
use Rattle.blocks.proofs.two_s.TwoSBody.keeps.Kinds as two_s_keeps_kinds
use Rattle.blocks.proofs.two_s.TwoSBody.keeps.Reads as two_s_keeps
use Rattle.blocks.proofs.two_s.TwoSBody.read.Kinds as two_s_read_kinds
use Rattle.blocks.proofs.two_s.TwoSBody.read.Reads as two_s_read
use Rattle.blocks.proofs.two_s.TwoSBody.put.Kinds as two_s_put_kinds
use Rattle.blocks.proofs.two_s.TwoSBody.put.Reads as two_s_put
use Rattle.blocks.proofs.two_a.TwoABody.agents.Kinds as two_a_agents_kinds
use Rattle.blocks.proofs.two_a.TwoABody.agents.Reads as two_a_agents
use Rattle.blocks.proofs.two_a.TwoABody.keeps.Kinds as two_a_keeps_kinds
use Rattle.blocks.proofs.two_a.TwoABody.keeps.Reads as two_a_keeps
use Rattle.blocks.proofs.two_a.TwoABody.read.Kinds as two_a_read_kinds
use Rattle.blocks.proofs.two_a.TwoABody.read.Reads as two_a_read
use Rattle.blocks.proofs.two_a.TwoABody.put.Kinds as two_a_put_kinds
use Rattle.blocks.proofs.two_a.TwoABody.put.Reads as two_a_put
use Rattle.blocks.proofs.two_b.TwoBBody.agents.Kinds as two_b_agents_kinds
use Rattle.blocks.proofs.two_b.TwoBBody.agents.Reads as two_b_agents
use Rattle.blocks.proofs.two_b.TwoBBody.keeps.Kinds as two_b_keeps_kinds
use Rattle.blocks.proofs.two_b.TwoBBody.keeps.Reads as two_b_keeps
use Rattle.blocks.proofs.two_b.TwoBBody.read.Kinds as two_b_read_kinds
use Rattle.blocks.proofs.two_b.TwoBBody.read.Reads as two_b_read
use Rattle.blocks.proofs.two_b.TwoBBody.put.Kinds as two_b_put_kinds
use Rattle.blocks.proofs.two_b.TwoBBody.put.Reads as two_b_put
use Rattle.blocks.proofs.head.HeadBody.agents.Kinds as head_agents_kinds
use Rattle.blocks.proofs.head.HeadBody.agents.Reads as head_agents
use Rattle.blocks.proofs.head.HeadBody.keeps.Kinds as head_keeps_kinds
use Rattle.blocks.proofs.head.HeadBody.keeps.Reads as head_keeps
use Rattle.blocks.proofs.head.HeadBody.read.Kinds as head_read_kinds
use Rattle.blocks.proofs.head.HeadBody.read.Reads as head_read
use Rattle.blocks.proofs.head.HeadBody.put.Kinds as head_put_kinds
use Rattle.blocks.proofs.head.HeadBody.put.Reads as head_put
use Rattle.blocks.proofs.coordinator.CoordinatorRowBody.agents.Kinds as coordinator_agents_kinds
use Rattle.blocks.proofs.coordinator.CoordinatorRowBody.agents.Reads as coordinator_agents
use Rattle.blocks.proofs.coordinator.CoordinatorRowBody.keeps.Kinds as coordinator_keeps_kinds
use Rattle.blocks.proofs.coordinator.CoordinatorRowBody.keeps.Reads as coordinator_keeps
use Rattle.blocks.proofs.coordinator.CoordinatorRowBody.read.Kinds as coordinator_read_kinds
use Rattle.blocks.proofs.coordinator.CoordinatorRowBody.read.Reads as coordinator_read
use Rattle.blocks.proofs.coordinator.CoordinatorRowBody.put.Kinds as coordinator_put_kinds
use Rattle.blocks.proofs.coordinator.CoordinatorRowBody.put.Reads as coordinator_put
use Rattle.blocks.proofs.box_row.BoxRowBody.agents.Kinds as box_agents_kinds
use Rattle.blocks.proofs.box_row.BoxRowBody.agents.Reads as box_agents
use Rattle.blocks.proofs.box_row.BoxRowBody.keeps.Kinds as box_keeps_kinds
use Rattle.blocks.proofs.box_row.BoxRowBody.keeps.Reads as box_keeps
use Rattle.blocks.proofs.box_row.BoxRowBody.read.Kinds as box_read_kinds
use Rattle.blocks.proofs.box_row.BoxRowBody.read.Reads as box_read
use Rattle.blocks.proofs.box_row.BoxRowBody.put.Kinds as box_put_kinds
use Rattle.blocks.proofs.box_row.BoxRowBody.put.Reads as box_put
use Rattle.blocks.proofs.rack.RackRowBody.agents.Kinds as rack_agents_kinds
use Rattle.blocks.proofs.rack.RackRowBody.agents.Reads as rack_agents
use Rattle.blocks.proofs.rack.RackRowBody.keeps.Kinds as rack_keeps_kinds
use Rattle.blocks.proofs.rack.RackRowBody.keeps.Reads as rack_keeps
use Rattle.blocks.proofs.rack.RackRowBody.read.Kinds as rack_read_kinds
use Rattle.blocks.proofs.rack.RackRowBody.read.Reads as rack_read
use Rattle.blocks.proofs.rack.RackRowBody.put.Kinds as rack_put_kinds
use Rattle.blocks.proofs.rack.RackRowBody.put.Reads as rack_put
use Rattle.blocks.proofs.reader.ReaderRowBody.agents.Kinds as reader_agents_kinds
use Rattle.blocks.proofs.reader.ReaderRowBody.agents.Reads as reader_agents
use Rattle.blocks.proofs.reader.ReaderRowBody.keeps.Kinds as reader_keeps_kinds
use Rattle.blocks.proofs.reader.ReaderRowBody.keeps.Reads as reader_keeps
use Rattle.blocks.proofs.reader.ReaderRowBody.read.Kinds as reader_read_kinds
use Rattle.blocks.proofs.reader.ReaderRowBody.read.Reads as reader_read
use Rattle.blocks.proofs.reader.ReaderRowBody.put.Kinds as reader_put_kinds
use Rattle.blocks.proofs.reader.ReaderRowBody.put.Reads as reader_put

pub read_stamp_unique : Determines 1 read_stamp_kinds.ps read_stamp_kinds.r read_stamp.Post
read_stamp_unique κs a x y s t p q = p ∙ sym q

pub put_stamp_unique : (κs : Lfts 1) (a : ArgsD (sig_of 1 put_stamp_kinds.ps put_stamp_kinds.r) κs) (x y : ResD (sig_of 1 put_stamp_kinds.ps put_stamp_kinds.r) κs)
    (s t : AtExit (ended_of 1 put_stamp_kinds.ps put_stamp_kinds.r) κs) → put_stamp.Post κs a x s → put_stamp.Post κs a y t → s.0.now ≡ t.0.now
put_stamp_unique κs a x y s t p q = p.is ∙ sym q.is

pub framed_unique : Determines 1 framed_kinds.ps framed_kinds.r framed.Post
framed_unique κs a x y s t p q = p ∙ sym q

pub seal_unique : (κs : Lfts 1) (a : ArgsD (sig_of 1 seal_kinds.ps seal_kinds.r) κs) (x y : ResD (sig_of 1 seal_kinds.ps seal_kinds.r) κs)
    (s t : AtExit (ended_of 1 seal_kinds.ps seal_kinds.r) κs) → seal.Post κs a x s → seal.Post κs a y t → s.0.now ≡ t.0.now
seal_unique κs a x y s t p q = p.is ∙ sym q.is

pub number_unique : Determines 0 number_kinds.ps number_kinds.r number_reads.Post
number_unique κs a x y s t p q = p ∙ sym q

pub of_unique : Determines 0 of_kinds.ps of_kinds.r of_reads.Post
of_unique κs a x y s t p q = p ∙ sym q

-- of any kind: what `read`, `put` and `write` promise, and what every `Body` does
module _ {A : Type 0} (k : Kind A) where
  pub read_unique : (bytes : List ℕ) (x y : Result (Stamped A) Refusal) → Reads k bytes (number_of x) (stamp_in k x) (body_in k x) →
      Reads k bytes (number_of y) (stamp_in k y) (body_in k y) → x ≡ y
  read_unique bytes x y p q =
      let u = reads_unique p q in answer_one zero x y u.0 (whole x ∙ (λ i. record { stamp = u.1.0 i; body = u.1.1 i }) ∙ sym (whole y))
    where
      zero : Stamped A
      zero = record { stamp = (decode k []).0; body = (decode k []).1 }

      whole : (z : Result (Stamped A) Refusal) → value_or zero z ≡ record { stamp = stamp_in k z; body = body_in k z }
      whole (Ok v) = refl
      whole (Err e) = refl

  pub put_unique : (stamp : Stamp) (body : A) (after late : List ℕ) → after ≡ encode k stamp body → late ≡ encode k stamp body → after ≡ late
  put_unique stamp body after late p q = p ∙ sym q

  pub write_unique : (stamp : Stamp) (body : A) (old after late : List ℕ) (x y : Result (Unit {0}) Refusal) → Writes k stamp body old after (number_of x) →
      Writes k stamp body old late (number_of y) → (x ≡ y) × (after ≡ late)
  write_unique stamp body old after late x y p q = let u = writes_unique p q in (answer_one tt x y u.0 refl, u.1)

  pub agents_unique : (setup : Setup) (x y : ℕ) → x ≡ k.agents setup → y ≡ k.agents setup → x ≡ y
  agents_unique setup x y p q = p ∙ sym q

  pub keeps_unique : (setup : Setup) (agent : ℕ) (body : A) (x y : Bool) → x ≡ k.rules setup agent body → y ≡ k.rules setup agent body → x ≡ y
  keeps_unique setup agent body x y p q = p ∙ sym q

  pub body_read_unique : (bytes : List ℕ) (x y : Read A) → Got k.body bytes body_at x.value x.exact → Got k.body bytes body_at y.value y.exact → x ≡ y
  body_read_unique bytes x y p q = got_one x y p q

  pub body_put_unique : (body : A) (old after late : List ℕ) → Spliced body_at (k.body.put body) old after → Spliced body_at (k.body.put body) old late → after ≡ late
  body_put_unique body old after late p q = spliced_one p q

-- `read`, `put` and `write` themselves, at any `Body`, and the trait's own contracts
module _ (B : RattleType) (laws : Laws B) (copies : IsCopy B) (body : body_trait.Ghosts B.Denot) (body_dict : Dict) (clone : clone_trait.Ghosts B.Denot)
    (clone_dict : Dict) where
  pub read_contract_unique : Determines 2 (read_kinds.ps B laws copies) (read_kinds.r B laws copies) (read_reads.Post B laws copies body body_dict clone clone_dict)
  read_contract_unique κs a x y s t p q = read_unique body.kind _ x y p q

  pub put_contract_unique : (κs : Lfts 2) (a : ArgsD (sig_of 2 (put_kinds.ps B laws copies) (put_kinds.r B laws copies)) κs)
      (x y : ResD (sig_of 2 (put_kinds.ps B laws copies) (put_kinds.r B laws copies)) κs)
      (s t : AtExit (ended_of 2 (put_kinds.ps B laws copies) (put_kinds.r B laws copies)) κs) → put_reads.Post B laws copies body body_dict clone clone_dict κs a x s →
      put_reads.Post B laws copies body body_dict clone clone_dict κs a y t → s.0.now ≡ t.0.now
  put_contract_unique κs a x y s t p q = put_unique body.kind _ _ _ _ p q

  pub write_contract_unique : (κs : Lfts 2) (a : ArgsD (sig_of 2 (write_kinds.ps B laws copies) (write_kinds.r B laws copies)) κs)
      (x y : ResD (sig_of 2 (write_kinds.ps B laws copies) (write_kinds.r B laws copies)) κs)
      (s t : AtExit (ended_of 2 (write_kinds.ps B laws copies) (write_kinds.r B laws copies)) κs) → write_reads.Post B laws copies body body_dict clone clone_dict κs a x s →
      write_reads.Post B laws copies body body_dict clone clone_dict κs a y t → (x ≡ y) × (s.0.now ≡ t.0.now)
  write_contract_unique κs a x y s t p q = write_unique body.kind _ _ _ _ _ x y p q

  pub agents_contract_unique : Determines 1 (body_agents_kinds.ps B laws copies) (body_agents_kinds.r B laws copies)
      (body_agents_reads.Post B laws copies body body_dict clone clone_dict)
  agents_contract_unique κs a x y s t p q = agents_unique body.kind _ x y p q

  pub keeps_contract_unique : Determines 1 (body_keeps_kinds.ps B laws copies) (body_keeps_kinds.r B laws copies)
      (body_keeps_reads.Post B laws copies body body_dict clone clone_dict)
  keeps_contract_unique κs a x y s t p q = keeps_unique body.kind _ _ _ x y p q

  pub body_read_contract_unique : Determines 2 (body_read_kinds.ps B laws copies) (body_read_kinds.r B laws copies)
      (body_read_reads.Post B laws copies body body_dict clone clone_dict)
  body_read_contract_unique κs a x y s t p q = body_read_unique body.kind _ x y p q

  pub body_put_contract_unique : (κs : Lfts 2) (a : ArgsD (sig_of 2 (body_put_kinds.ps B laws copies) (body_put_kinds.r B laws copies)) κs)
      (x y : ResD (sig_of 2 (body_put_kinds.ps B laws copies) (body_put_kinds.r B laws copies)) κs)
      (s t : AtExit (ended_of 2 (body_put_kinds.ps B laws copies) (body_put_kinds.r B laws copies)) κs) →
      body_put_reads.Post B laws copies body body_dict clone clone_dict κs a x s →
      body_put_reads.Post B laws copies body body_dict clone clone_dict κs a y t → s.1.0.now ≡ t.1.0.now
  body_put_contract_unique κs a x y s t p q = body_put_unique body.kind _ _ _ _ p q

-- what each of the eleven does as a `Body`
pub propose_agents_unique : Determines 0 propose_agents_kinds.ps propose_agents_kinds.r propose_agents.Post
propose_agents_unique κs a x y s t p q = p ∙ sym q

pub propose_keeps_unique : Determines 0 propose_keeps_kinds.ps propose_keeps_kinds.r propose_keeps.Post
propose_keeps_unique κs a x y s t p q = p ∙ sym q

pub propose_read_unique : Determines 1 propose_read_kinds.ps propose_read_kinds.r propose_read.Post
propose_read_unique κs a x y s t p q = got_one x y p q

pub propose_put_unique : (κs : Lfts 1) (a : ArgsD (sig_of 1 propose_put_kinds.ps propose_put_kinds.r) κs) (x y : ResD (sig_of 1 propose_put_kinds.ps propose_put_kinds.r) κs)
    (s t : AtExit (ended_of 1 propose_put_kinds.ps propose_put_kinds.r) κs) → propose_put.Post κs a x s → propose_put.Post κs a y t → s.1.0.now ≡ t.1.0.now
propose_put_unique κs a x y s t p q = spliced_one p q

pub one_a_agents_unique : Determines 0 one_a_agents_kinds.ps one_a_agents_kinds.r one_a_agents.Post
one_a_agents_unique κs a x y s t p q = p ∙ sym q

pub one_a_keeps_unique : Determines 0 one_a_keeps_kinds.ps one_a_keeps_kinds.r one_a_keeps.Post
one_a_keeps_unique κs a x y s t p q = p ∙ sym q

pub one_a_read_unique : Determines 1 one_a_read_kinds.ps one_a_read_kinds.r one_a_read.Post
one_a_read_unique κs a x y s t p q = got_one x y p q

pub one_a_put_unique : (κs : Lfts 1) (a : ArgsD (sig_of 1 one_a_put_kinds.ps one_a_put_kinds.r) κs) (x y : ResD (sig_of 1 one_a_put_kinds.ps one_a_put_kinds.r) κs)
    (s t : AtExit (ended_of 1 one_a_put_kinds.ps one_a_put_kinds.r) κs) → one_a_put.Post κs a x s → one_a_put.Post κs a y t → s.1.0.now ≡ t.1.0.now
one_a_put_unique κs a x y s t p q = spliced_one p q

pub one_b_agents_unique : Determines 0 one_b_agents_kinds.ps one_b_agents_kinds.r one_b_agents.Post
one_b_agents_unique κs a x y s t p q = p ∙ sym q

pub one_b_keeps_unique : Determines 0 one_b_keeps_kinds.ps one_b_keeps_kinds.r one_b_keeps.Post
one_b_keeps_unique κs a x y s t p q = p ∙ sym q

pub one_b_read_unique : Determines 1 one_b_read_kinds.ps one_b_read_kinds.r one_b_read.Post
one_b_read_unique κs a x y s t p q = got_one x y p q

pub one_b_put_unique : (κs : Lfts 1) (a : ArgsD (sig_of 1 one_b_put_kinds.ps one_b_put_kinds.r) κs) (x y : ResD (sig_of 1 one_b_put_kinds.ps one_b_put_kinds.r) κs)
    (s t : AtExit (ended_of 1 one_b_put_kinds.ps one_b_put_kinds.r) κs) → one_b_put.Post κs a x s → one_b_put.Post κs a y t → s.1.0.now ≡ t.1.0.now
one_b_put_unique κs a x y s t p q = spliced_one p q

pub two_s_agents_unique : Determines 0 two_s_agents_kinds.ps two_s_agents_kinds.r two_s_agents.Post
two_s_agents_unique κs a x y s t p q = p ∙ sym q

pub two_s_keeps_unique : Determines 0 two_s_keeps_kinds.ps two_s_keeps_kinds.r two_s_keeps.Post
two_s_keeps_unique κs a x y s t p q = p ∙ sym q

pub two_s_read_unique : Determines 1 two_s_read_kinds.ps two_s_read_kinds.r two_s_read.Post
two_s_read_unique κs a x y s t p q = got_one x y p q

pub two_s_put_unique : (κs : Lfts 1) (a : ArgsD (sig_of 1 two_s_put_kinds.ps two_s_put_kinds.r) κs) (x y : ResD (sig_of 1 two_s_put_kinds.ps two_s_put_kinds.r) κs)
    (s t : AtExit (ended_of 1 two_s_put_kinds.ps two_s_put_kinds.r) κs) → two_s_put.Post κs a x s → two_s_put.Post κs a y t → s.1.0.now ≡ t.1.0.now
two_s_put_unique κs a x y s t p q = spliced_one p q

pub two_a_agents_unique : Determines 0 two_a_agents_kinds.ps two_a_agents_kinds.r two_a_agents.Post
two_a_agents_unique κs a x y s t p q = p ∙ sym q

pub two_a_keeps_unique : Determines 0 two_a_keeps_kinds.ps two_a_keeps_kinds.r two_a_keeps.Post
two_a_keeps_unique κs a x y s t p q = p ∙ sym q

pub two_a_read_unique : Determines 1 two_a_read_kinds.ps two_a_read_kinds.r two_a_read.Post
two_a_read_unique κs a x y s t p q = got_one x y p q

pub two_a_put_unique : (κs : Lfts 1) (a : ArgsD (sig_of 1 two_a_put_kinds.ps two_a_put_kinds.r) κs) (x y : ResD (sig_of 1 two_a_put_kinds.ps two_a_put_kinds.r) κs)
    (s t : AtExit (ended_of 1 two_a_put_kinds.ps two_a_put_kinds.r) κs) → two_a_put.Post κs a x s → two_a_put.Post κs a y t → s.1.0.now ≡ t.1.0.now
two_a_put_unique κs a x y s t p q = spliced_one p q

pub two_b_agents_unique : Determines 0 two_b_agents_kinds.ps two_b_agents_kinds.r two_b_agents.Post
two_b_agents_unique κs a x y s t p q = p ∙ sym q

pub two_b_keeps_unique : Determines 0 two_b_keeps_kinds.ps two_b_keeps_kinds.r two_b_keeps.Post
two_b_keeps_unique κs a x y s t p q = p ∙ sym q

pub two_b_read_unique : Determines 1 two_b_read_kinds.ps two_b_read_kinds.r two_b_read.Post
two_b_read_unique κs a x y s t p q = got_one x y p q

pub two_b_put_unique : (κs : Lfts 1) (a : ArgsD (sig_of 1 two_b_put_kinds.ps two_b_put_kinds.r) κs) (x y : ResD (sig_of 1 two_b_put_kinds.ps two_b_put_kinds.r) κs)
    (s t : AtExit (ended_of 1 two_b_put_kinds.ps two_b_put_kinds.r) κs) → two_b_put.Post κs a x s → two_b_put.Post κs a y t → s.1.0.now ≡ t.1.0.now
two_b_put_unique κs a x y s t p q = spliced_one p q

pub head_agents_unique : Determines 0 head_agents_kinds.ps head_agents_kinds.r head_agents.Post
head_agents_unique κs a x y s t p q = p ∙ sym q

pub head_keeps_unique : Determines 0 head_keeps_kinds.ps head_keeps_kinds.r head_keeps.Post
head_keeps_unique κs a x y s t p q = p ∙ sym q

pub head_read_unique : Determines 1 head_read_kinds.ps head_read_kinds.r head_read.Post
head_read_unique κs a x y s t p q = got_one x y p q

pub head_put_unique : (κs : Lfts 1) (a : ArgsD (sig_of 1 head_put_kinds.ps head_put_kinds.r) κs) (x y : ResD (sig_of 1 head_put_kinds.ps head_put_kinds.r) κs)
    (s t : AtExit (ended_of 1 head_put_kinds.ps head_put_kinds.r) κs) → head_put.Post κs a x s → head_put.Post κs a y t → s.1.0.now ≡ t.1.0.now
head_put_unique κs a x y s t p q = spliced_one p q

pub coordinator_agents_unique : Determines 0 coordinator_agents_kinds.ps coordinator_agents_kinds.r coordinator_agents.Post
coordinator_agents_unique κs a x y s t p q = p ∙ sym q

pub coordinator_keeps_unique : Determines 0 coordinator_keeps_kinds.ps coordinator_keeps_kinds.r coordinator_keeps.Post
coordinator_keeps_unique κs a x y s t p q = p ∙ sym q

pub coordinator_read_unique : Determines 1 coordinator_read_kinds.ps coordinator_read_kinds.r coordinator_read.Post
coordinator_read_unique κs a x y s t p q = got_one x y p q

pub coordinator_put_unique : (κs : Lfts 1) (a : ArgsD (sig_of 1 coordinator_put_kinds.ps coordinator_put_kinds.r) κs) (x y : ResD (sig_of 1 coordinator_put_kinds.ps coordinator_put_kinds.r) κs)
    (s t : AtExit (ended_of 1 coordinator_put_kinds.ps coordinator_put_kinds.r) κs) → coordinator_put.Post κs a x s → coordinator_put.Post κs a y t → s.1.0.now ≡ t.1.0.now
coordinator_put_unique κs a x y s t p q = spliced_one p q

pub box_agents_unique : Determines 0 box_agents_kinds.ps box_agents_kinds.r box_agents.Post
box_agents_unique κs a x y s t p q = p ∙ sym q

pub box_keeps_unique : Determines 0 box_keeps_kinds.ps box_keeps_kinds.r box_keeps.Post
box_keeps_unique κs a x y s t p q = p ∙ sym q

pub box_read_unique : Determines 1 box_read_kinds.ps box_read_kinds.r box_read.Post
box_read_unique κs a x y s t p q = got_one x y p q

pub box_put_unique : (κs : Lfts 1) (a : ArgsD (sig_of 1 box_put_kinds.ps box_put_kinds.r) κs) (x y : ResD (sig_of 1 box_put_kinds.ps box_put_kinds.r) κs)
    (s t : AtExit (ended_of 1 box_put_kinds.ps box_put_kinds.r) κs) → box_put.Post κs a x s → box_put.Post κs a y t → s.1.0.now ≡ t.1.0.now
box_put_unique κs a x y s t p q = spliced_one p q

pub rack_agents_unique : Determines 0 rack_agents_kinds.ps rack_agents_kinds.r rack_agents.Post
rack_agents_unique κs a x y s t p q = p ∙ sym q

pub rack_keeps_unique : Determines 0 rack_keeps_kinds.ps rack_keeps_kinds.r rack_keeps.Post
rack_keeps_unique κs a x y s t p q = p ∙ sym q

pub rack_read_unique : Determines 1 rack_read_kinds.ps rack_read_kinds.r rack_read.Post
rack_read_unique κs a x y s t p q = got_one x y p q

pub rack_put_unique : (κs : Lfts 1) (a : ArgsD (sig_of 1 rack_put_kinds.ps rack_put_kinds.r) κs) (x y : ResD (sig_of 1 rack_put_kinds.ps rack_put_kinds.r) κs)
    (s t : AtExit (ended_of 1 rack_put_kinds.ps rack_put_kinds.r) κs) → rack_put.Post κs a x s → rack_put.Post κs a y t → s.1.0.now ≡ t.1.0.now
rack_put_unique κs a x y s t p q = spliced_one p q

pub reader_agents_unique : Determines 0 reader_agents_kinds.ps reader_agents_kinds.r reader_agents.Post
reader_agents_unique κs a x y s t p q = p ∙ sym q

pub reader_keeps_unique : Determines 0 reader_keeps_kinds.ps reader_keeps_kinds.r reader_keeps.Post
reader_keeps_unique κs a x y s t p q = p ∙ sym q

pub reader_read_unique : Determines 1 reader_read_kinds.ps reader_read_kinds.r reader_read.Post
reader_read_unique κs a x y s t p q = got_one x y p q

pub reader_put_unique : (κs : Lfts 1) (a : ArgsD (sig_of 1 reader_put_kinds.ps reader_put_kinds.r) κs) (x y : ResD (sig_of 1 reader_put_kinds.ps reader_put_kinds.r) κs)
    (s t : AtExit (ended_of 1 reader_put_kinds.ps reader_put_kinds.r) κs) → reader_put.Post κs a x s → reader_put.Post κs a y t → s.1.0.now ≡ t.1.0.now
reader_put_unique κs a x y s t p q = spliced_one p q
