-- Each public contract of this crate determines its answer, and every lent byte.
use Rattle.std.proofs.Common.{ℕ, ◌≡◌, sym, ◌∙◌, List}
use mir.Syntax.{Dict, w64}
use mir.Val.{Fits}
use contract.Lifetimes.{Lfts}
use denote.RattleType.{RattleType}
use denote.Param.Laws.{Laws, IsCopy}
use borrow.Fn.World.{ArgsD, ResD}
use borrow.Fn.Kinds.{sig_of, ended_of}
use denote.Triple.Clauses.{AtExit}
use Rattle.std.specs.declared.clone.Clone as clone_trait
use Rattle.below.proofs.Unique.{Determines}
use Rattle.records.specs.contracts.slots.Heard as heard
use Rattle.records.specs.contracts.slots.Held as held
use Rattle.records.specs.contracts.slots.Blank as blank
use Rattle.records.proofs.slots.Heard.TheLaws as heard_laws
use Rattle.records.proofs.slots.Held.TheLaws as held_laws
use Rattle.records.proofs.slots.Blank.TheLaws as blank_laws
use Rattle.words.specs.Bytes.{Spliced}
use Rattle.fields.specs.Codecs.{Codec, Got}
use Rattle.fields.specs.declared.field.Read.{Read}
use Rattle.fields.specs.declared.field.Field as field_trait
use Rattle.fields.specs.declared.array.Slot as slot_trait
use Rattle.fields.specs.contracts.slots.HeardField.TheImpl as heard_field
use Rattle.fields.specs.contracts.slots.HeardSlot.TheImpl as heard_slot
use Rattle.fields.specs.contracts.slots.HeldField.TheImpl as held_field
use Rattle.fields.specs.contracts.slots.HeldSlot.TheImpl as held_slot
use Rattle.fields.specs.contracts.slots.BlankField.TheImpl as blank_field
use Rattle.fields.specs.contracts.slots.BlankSlot.TheImpl as blank_slot
use Rattle.fields.proofs.field.Field.read.Kinds as field_read_kinds
use Rattle.fields.proofs.field.Field.read.Reads as field_read
use Rattle.fields.proofs.field.Field.put.Kinds as field_put_kinds
use Rattle.fields.proofs.field.Field.put.Reads as field_put
use Rattle.fields.proofs.array.read_all.Kinds as read_all_kinds
use Rattle.fields.proofs.array.read_all.Reads as read_all
use Rattle.fields.proofs.array.put_all.Kinds as put_all_kinds
use Rattle.fields.proofs.array.put_all.Reads as put_all
use Rattle.fields.proofs.basic.BoolField.read.Kinds as read_flag_kinds
use Rattle.fields.proofs.basic.BoolField.read.Reads as read_flag
use Rattle.fields.proofs.basic.BoolField.put.Kinds as put_flag_kinds
use Rattle.fields.proofs.basic.BoolField.put.Reads as put_flag
use Rattle.fields.proofs.basic.U16Field.read.Kinds as read_count_kinds
use Rattle.fields.proofs.basic.U16Field.read.Reads as read_count
use Rattle.fields.proofs.basic.U16Field.put.Kinds as put_count_kinds
use Rattle.fields.proofs.basic.U16Field.put.Reads as put_count
use Rattle.fields.proofs.basic.ReadingField.read.Kinds as read_reading_kinds
use Rattle.fields.proofs.basic.ReadingField.read.Reads as read_reading
use Rattle.fields.proofs.basic.ReadingField.put.Kinds as put_reading_kinds
use Rattle.fields.proofs.basic.ReadingField.put.Reads as put_reading
use Rattle.fields.proofs.basic.RoundField.read.Kinds as read_round_kinds
use Rattle.fields.proofs.basic.RoundField.read.Reads as read_round
use Rattle.fields.proofs.basic.RoundField.put.Kinds as put_round_kinds
use Rattle.fields.proofs.basic.RoundField.put.Reads as put_round
use Rattle.fields.proofs.lines.LineField.read.Kinds as read_line_kinds
use Rattle.fields.proofs.lines.LineField.read.Reads as read_line
use Rattle.fields.proofs.lines.LineField.put.Kinds as put_line_kinds
use Rattle.fields.proofs.lines.LineField.put.Reads as put_line
use Rattle.fields.proofs.lines.PageField.read.Kinds as read_page_kinds
use Rattle.fields.proofs.lines.PageField.read.Reads as read_page
use Rattle.fields.proofs.lines.PageField.put.Kinds as put_page_kinds
use Rattle.fields.proofs.lines.PageField.put.Reads as put_page
use Rattle.fields.proofs.lines.VoteField.read.Kinds as read_vote_kinds
use Rattle.fields.proofs.lines.VoteField.read.Reads as read_vote
use Rattle.fields.proofs.lines.VoteField.put.Kinds as put_vote_kinds
use Rattle.fields.proofs.lines.VoteField.put.Reads as put_vote
use Rattle.fields.proofs.slots.HeardField.read.Kinds as read_heard_kinds
use Rattle.fields.proofs.slots.HeardField.read.Reads as read_heard
use Rattle.fields.proofs.slots.HeardField.put.Kinds as put_heard_kinds
use Rattle.fields.proofs.slots.HeardField.put.Reads as put_heard
use Rattle.fields.proofs.slots.HeldField.read.Kinds as read_held_kinds
use Rattle.fields.proofs.slots.HeldField.read.Reads as read_held
use Rattle.fields.proofs.slots.HeldField.put.Kinds as put_held_kinds
use Rattle.fields.proofs.slots.HeldField.put.Reads as put_held
use Rattle.fields.proofs.slots.BlankField.read.Kinds as read_blank_kinds
use Rattle.fields.proofs.slots.BlankField.read.Reads as read_blank
use Rattle.fields.proofs.slots.BlankField.put.Kinds as put_blank_kinds
use Rattle.fields.proofs.slots.BlankField.put.Reads as put_blank

-- of any codec: what every field's `read` and `put` promise, and `read_all` and `put_all` of any type of slot
pub got_one : {A : Type 0} {c : Codec A} {bytes : List ℕ} {at : ℕ} (x y : Read A) → Got c bytes at x.value x.exact → Got c bytes at y.value y.exact → x ≡ y
got_one x y p q = λ i. record { value = (p.is ∙ sym q.is) i; exact = (p.tested ∙ sym q.tested) i }

pub spliced_one : {at : ℕ} {new old after late : List ℕ} → Spliced at new old after → Spliced at new old late → after ≡ late
spliced_one p q = p.is ∙ sym q.is

pub read_flag_unique : Determines 1 read_flag_kinds.ps read_flag_kinds.r read_flag.Post
read_flag_unique κs a x y s t p q = got_one x y p q

pub put_flag_unique : (κs : Lfts 1) (a : ArgsD (sig_of 1 put_flag_kinds.ps put_flag_kinds.r) κs) (x y : ResD (sig_of 1 put_flag_kinds.ps put_flag_kinds.r) κs)
    (s t : AtExit (ended_of 1 put_flag_kinds.ps put_flag_kinds.r) κs) → put_flag.Post κs a x s → put_flag.Post κs a y t → s.1.0.now ≡ t.1.0.now
put_flag_unique κs a x y s t p q = spliced_one p q

pub read_count_unique : Determines 1 read_count_kinds.ps read_count_kinds.r read_count.Post
read_count_unique κs a x y s t p q = got_one x y p q

pub put_count_unique : (κs : Lfts 1) (a : ArgsD (sig_of 1 put_count_kinds.ps put_count_kinds.r) κs) (x y : ResD (sig_of 1 put_count_kinds.ps put_count_kinds.r) κs)
    (s t : AtExit (ended_of 1 put_count_kinds.ps put_count_kinds.r) κs) → put_count.Post κs a x s → put_count.Post κs a y t → s.1.0.now ≡ t.1.0.now
put_count_unique κs a x y s t p q = spliced_one p q

pub read_reading_unique : Determines 1 read_reading_kinds.ps read_reading_kinds.r read_reading.Post
read_reading_unique κs a x y s t p q = got_one x y p q

pub put_reading_unique : (κs : Lfts 1) (a : ArgsD (sig_of 1 put_reading_kinds.ps put_reading_kinds.r) κs) (x y : ResD (sig_of 1 put_reading_kinds.ps put_reading_kinds.r) κs)
    (s t : AtExit (ended_of 1 put_reading_kinds.ps put_reading_kinds.r) κs) → put_reading.Post κs a x s → put_reading.Post κs a y t → s.1.0.now ≡ t.1.0.now
put_reading_unique κs a x y s t p q = spliced_one p q

pub read_round_unique : Determines 1 read_round_kinds.ps read_round_kinds.r read_round.Post
read_round_unique κs a x y s t p q = got_one x y p q

pub put_round_unique : (κs : Lfts 1) (a : ArgsD (sig_of 1 put_round_kinds.ps put_round_kinds.r) κs) (x y : ResD (sig_of 1 put_round_kinds.ps put_round_kinds.r) κs)
    (s t : AtExit (ended_of 1 put_round_kinds.ps put_round_kinds.r) κs) → put_round.Post κs a x s → put_round.Post κs a y t → s.1.0.now ≡ t.1.0.now
put_round_unique κs a x y s t p q = spliced_one p q

pub read_line_unique : Determines 1 read_line_kinds.ps read_line_kinds.r read_line.Post
read_line_unique κs a x y s t p q = got_one x y p q

pub put_line_unique : (κs : Lfts 1) (a : ArgsD (sig_of 1 put_line_kinds.ps put_line_kinds.r) κs) (x y : ResD (sig_of 1 put_line_kinds.ps put_line_kinds.r) κs)
    (s t : AtExit (ended_of 1 put_line_kinds.ps put_line_kinds.r) κs) → put_line.Post κs a x s → put_line.Post κs a y t → s.1.0.now ≡ t.1.0.now
put_line_unique κs a x y s t p q = spliced_one p q

pub read_page_unique : Determines 1 read_page_kinds.ps read_page_kinds.r read_page.Post
read_page_unique κs a x y s t p q = got_one x y p q

pub put_page_unique : (κs : Lfts 1) (a : ArgsD (sig_of 1 put_page_kinds.ps put_page_kinds.r) κs) (x y : ResD (sig_of 1 put_page_kinds.ps put_page_kinds.r) κs)
    (s t : AtExit (ended_of 1 put_page_kinds.ps put_page_kinds.r) κs) → put_page.Post κs a x s → put_page.Post κs a y t → s.1.0.now ≡ t.1.0.now
put_page_unique κs a x y s t p q = spliced_one p q

pub read_vote_unique : Determines 1 read_vote_kinds.ps read_vote_kinds.r read_vote.Post
read_vote_unique κs a x y s t p q = got_one x y p q

pub put_vote_unique : (κs : Lfts 1) (a : ArgsD (sig_of 1 put_vote_kinds.ps put_vote_kinds.r) κs) (x y : ResD (sig_of 1 put_vote_kinds.ps put_vote_kinds.r) κs)
    (s t : AtExit (ended_of 1 put_vote_kinds.ps put_vote_kinds.r) κs) → put_vote.Post κs a x s → put_vote.Post κs a y t → s.1.0.now ≡ t.1.0.now
put_vote_unique κs a x y s t p q = spliced_one p q

pub heard_slot_read_unique : Determines 1 read_heard_kinds.ps read_heard_kinds.r read_heard.Post
heard_slot_read_unique κs a x y s t p q = got_one x y p q

pub heard_slot_put_unique : (κs : Lfts 1) (a : ArgsD (sig_of 1 put_heard_kinds.ps put_heard_kinds.r) κs) (x y : ResD (sig_of 1 put_heard_kinds.ps put_heard_kinds.r) κs)
    (s t : AtExit (ended_of 1 put_heard_kinds.ps put_heard_kinds.r) κs) → put_heard.Post κs a x s → put_heard.Post κs a y t → s.1.0.now ≡ t.1.0.now
heard_slot_put_unique κs a x y s t p q = spliced_one p q

pub held_slot_read_unique : Determines 1 read_held_kinds.ps read_held_kinds.r read_held.Post
held_slot_read_unique κs a x y s t p q = got_one x y p q

pub held_slot_put_unique : (κs : Lfts 1) (a : ArgsD (sig_of 1 put_held_kinds.ps put_held_kinds.r) κs) (x y : ResD (sig_of 1 put_held_kinds.ps put_held_kinds.r) κs)
    (s t : AtExit (ended_of 1 put_held_kinds.ps put_held_kinds.r) κs) → put_held.Post κs a x s → put_held.Post κs a y t → s.1.0.now ≡ t.1.0.now
held_slot_put_unique κs a x y s t p q = spliced_one p q

pub read_blank_unique : Determines 1 read_blank_kinds.ps read_blank_kinds.r read_blank.Post
read_blank_unique κs a x y s t p q = got_one x y p q

pub put_blank_unique : (κs : Lfts 1) (a : ArgsD (sig_of 1 put_blank_kinds.ps put_blank_kinds.r) κs) (x y : ResD (sig_of 1 put_blank_kinds.ps put_blank_kinds.r) κs)
    (s t : AtExit (ended_of 1 put_blank_kinds.ps put_blank_kinds.r) κs) → put_blank.Post κs a x s → put_blank.Post κs a y t → s.1.0.now ≡ t.1.0.now
put_blank_unique κs a x y s t p q = spliced_one p q

-- the trait's own contracts, at any `Field`
module _ (T : RattleType) (laws : Laws T) (copies : IsCopy T) (field : field_trait.Ghosts T.Denot) (field_dict : Dict) (clone : clone_trait.Ghosts T.Denot)
    (clone_dict : Dict) where
  pub field_read_unique : Determines 2 (field_read_kinds.ps T laws copies) (field_read_kinds.r T laws copies)
      (field_read.Post T laws copies field field_dict clone clone_dict)
  field_read_unique κs a x y s t p q = got_one x y p q

  pub field_put_unique : (κs : Lfts 2) (a : ArgsD (sig_of 2 (field_put_kinds.ps T laws copies) (field_put_kinds.r T laws copies)) κs)
      (x y : ResD (sig_of 2 (field_put_kinds.ps T laws copies) (field_put_kinds.r T laws copies)) κs)
      (s t : AtExit (ended_of 2 (field_put_kinds.ps T laws copies) (field_put_kinds.r T laws copies)) κs) →
      field_put.Post T laws copies field field_dict clone clone_dict κs a x s → field_put.Post T laws copies field field_dict clone clone_dict κs a y t →
      s.1.0.now ≡ t.1.0.now
  field_put_unique κs a x y s t p q = spliced_one p q

-- `read_all` and `put_all` themselves, of any type of slot and any number of them
module _ (T : RattleType) (N : ℕ) (laws : Laws T) (fits : Fits w64 N) (copies : IsCopy T) (slot : slot_trait.Ghosts T.Denot) (slot_dict : Dict)
    (field : field_trait.Ghosts T.Denot) (field_dict : Dict) (clone : clone_trait.Ghosts T.Denot) (clone_dict : Dict) where
  abbrev pub ReadAllDetermines : Type 0
  ReadAllDetermines =
      Determines 3 (read_all_kinds.ps T N laws fits copies) (read_all_kinds.r T N laws fits copies)
      (read_all.Post T N laws fits copies slot slot_dict field field_dict clone clone_dict)

  abbrev pub PutAllDetermines : Type 0
  PutAllDetermines =
      (κs : Lfts 3) (a : ArgsD (sig_of 3 (put_all_kinds.ps T N laws fits copies) (put_all_kinds.r T N laws fits copies)) κs)
      (x y : ResD (sig_of 3 (put_all_kinds.ps T N laws fits copies) (put_all_kinds.r T N laws fits copies)) κs)
      (s t : AtExit (ended_of 3 (put_all_kinds.ps T N laws fits copies) (put_all_kinds.r T N laws fits copies)) κs) →
      put_all.Post T N laws fits copies slot slot_dict field field_dict clone clone_dict κs a x s →
      put_all.Post T N laws fits copies slot slot_dict field field_dict clone clone_dict κs a y t → s.1.0.now ≡ t.1.0.now

  pub read_all_unique : ReadAllDetermines
  read_all_unique κs a x y s t p q = got_one x y p q

  pub put_all_unique : PutAllDetermines
  put_all_unique κs a x y s t p q = spliced_one p q

-- and so at the slots of document 01's rows: five heard, five held, eight blanks
module _ (fits : Fits w64 5) (clone : clone_trait.Ghosts heard.the_row.Denot) (clone_dict : Dict) where
  pub read_heard_unique : ReadAllDetermines heard.the_row 5 heard_laws.the_row_laws fits heard_laws.the_row_copy heard_slot.ghosts heard_slot.dict heard_field.ghosts heard_field.dict clone clone_dict
  read_heard_unique = read_all_unique heard.the_row 5 heard_laws.the_row_laws fits heard_laws.the_row_copy heard_slot.ghosts heard_slot.dict heard_field.ghosts heard_field.dict clone clone_dict

  pub put_heard_unique : PutAllDetermines heard.the_row 5 heard_laws.the_row_laws fits heard_laws.the_row_copy heard_slot.ghosts heard_slot.dict heard_field.ghosts heard_field.dict clone clone_dict
  put_heard_unique = put_all_unique heard.the_row 5 heard_laws.the_row_laws fits heard_laws.the_row_copy heard_slot.ghosts heard_slot.dict heard_field.ghosts heard_field.dict clone clone_dict

module _ (fits : Fits w64 5) (clone : clone_trait.Ghosts held.the_row.Denot) (clone_dict : Dict) where
  pub read_held_unique : ReadAllDetermines held.the_row 5 held_laws.the_row_laws fits held_laws.the_row_copy held_slot.ghosts held_slot.dict held_field.ghosts held_field.dict clone clone_dict
  read_held_unique = read_all_unique held.the_row 5 held_laws.the_row_laws fits held_laws.the_row_copy held_slot.ghosts held_slot.dict held_field.ghosts held_field.dict clone clone_dict

  pub put_held_unique : PutAllDetermines held.the_row 5 held_laws.the_row_laws fits held_laws.the_row_copy held_slot.ghosts held_slot.dict held_field.ghosts held_field.dict clone clone_dict
  put_held_unique = put_all_unique held.the_row 5 held_laws.the_row_laws fits held_laws.the_row_copy held_slot.ghosts held_slot.dict held_field.ghosts held_field.dict clone clone_dict

module _ (fits : Fits w64 8) (clone : clone_trait.Ghosts blank.the_row.Denot) (clone_dict : Dict) where
  pub read_blanks_unique : ReadAllDetermines blank.the_row 8 blank_laws.the_row_laws fits blank_laws.the_row_copy blank_slot.ghosts blank_slot.dict blank_field.ghosts blank_field.dict clone clone_dict
  read_blanks_unique = read_all_unique blank.the_row 8 blank_laws.the_row_laws fits blank_laws.the_row_copy blank_slot.ghosts blank_slot.dict blank_field.ghosts blank_field.dict clone clone_dict

  pub put_blanks_unique : PutAllDetermines blank.the_row 8 blank_laws.the_row_laws fits blank_laws.the_row_copy blank_slot.ghosts blank_slot.dict blank_field.ghosts blank_field.dict clone clone_dict
  put_blanks_unique = put_all_unique blank.the_row 8 blank_laws.the_row_laws fits blank_laws.the_row_copy blank_slot.ghosts blank_slot.dict blank_field.ghosts blank_field.dict clone clone_dict
