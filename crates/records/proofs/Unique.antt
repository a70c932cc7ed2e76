-- Each public contract of this crate determines its answer.
use Rattle.std.proofs.Common.{sym, ◌∙◌}
use Rattle.below.proofs.Unique.{Determines}
use Rattle.records.proofs.messages.Propose.rules.Kinds as propose_rules_kinds
use Rattle.records.proofs.messages.Propose.rules.Reads as propose_rules
use Rattle.records.proofs.messages.OneA.rules.Kinds as onea_rules_kinds
use Rattle.records.proofs.messages.OneA.rules.Reads as onea_rules
use Rattle.records.proofs.messages.OneB.rules.Kinds as oneb_rules_kinds
use Rattle.records.proofs.messages.OneB.rules.Reads as oneb_rules
use Rattle.records.proofs.messages.TwoS.rules.Kinds as twos_rules_kinds
use Rattle.records.proofs.messages.TwoS.rules.Reads as twos_rules
use Rattle.records.proofs.messages.TwoA.rules.Kinds as twoa_rules_kinds
use Rattle.records.proofs.messages.TwoA.rules.Reads as twoa_rules
use Rattle.records.proofs.messages.TwoB.rules.Kinds as twob_rules_kinds
use Rattle.records.proofs.messages.TwoB.rules.Reads as twob_rules
use Rattle.records.proofs.rows.Head.rules.Kinds as head_rules_kinds
use Rattle.records.proofs.rows.Head.rules.Reads as head_rules
use Rattle.records.proofs.rows.CoordinatorRow.rules.Kinds as coordinatorrow_rules_kinds
use Rattle.records.proofs.rows.CoordinatorRow.rules.Reads as coordinatorrow_rules
use Rattle.records.proofs.rows.BoxRow.rules.Kinds as boxrow_rules_kinds
use Rattle.records.proofs.rows.BoxRow.rules.Reads as boxrow_rules
use Rattle.records.proofs.rows.RackRow.rules.Kinds as rackrow_rules_kinds
use Rattle.records.proofs.rows.RackRow.rules.Reads as rackrow_rules
use Rattle.records.proofs.rows.ReaderRow.rules.Kinds as readerrow_rules_kinds
use Rattle.records.proofs.rows.ReaderRow.rules.Reads as readerrow_rules
use Rattle.records.proofs.slots.Heard.rules.Kinds as heard_rules_kinds
use Rattle.records.proofs.slots.Heard.rules.Reads as heard_rules
use Rattle.records.proofs.slots.Held.rules.Kinds as held_rules_kinds
use Rattle.records.proofs.slots.Held.rules.Reads as held_rules
use Rattle.records.proofs.slots.Blank.rules.Kinds as blank_rules_kinds
use Rattle.records.proofs.slots.Blank.rules.Reads as blank_rules
use Rattle.records.proofs.stamp.Stamp.rules.Kinds as stamp_rules_kinds
use Rattle.records.proofs.stamp.Stamp.rules.Reads as stamp_rules
use Rattle.records.proofs.votes.vote_rules.Kinds as vote_rules_kinds
use Rattle.records.proofs.votes.vote_rules.Reads as vote_rules
use Rattle.records.proofs.votes.open_rules.Kinds as open_rules_kinds
use Rattle.records.proofs.votes.open_rules.Reads as open_rules
use Rattle.records.proofs.votes.opened_rules.Kinds as opened_rules_kinds
use Rattle.records.proofs.votes.opened_rules.Reads as opened_rules
use Rattle.records.proofs.votes.last_rules.Kinds as last_rules_kinds
use Rattle.records.proofs.votes.last_rules.Reads as last_rules
use Rattle.records.proofs.votes.own_rules.Kinds as own_rules_kinds
use Rattle.records.proofs.votes.own_rules.Reads as own_rules

pub propose_rules_unique : Determines 0 propose_rules_kinds.ps propose_rules_kinds.r propose_rules.Post
propose_rules_unique κs a x y s t p q = p ∙ sym q

pub onea_rules_unique : Determines 0 onea_rules_kinds.ps onea_rules_kinds.r onea_rules.Post
onea_rules_unique κs a x y s t p q = p ∙ sym q

pub oneb_rules_unique : Determines 0 oneb_rules_kinds.ps oneb_rules_kinds.r oneb_rules.Post
oneb_rules_unique κs a x y s t p q = p ∙ sym q

pub twos_rules_unique : Determines 0 twos_rules_kinds.ps twos_rules_kinds.r twos_rules.Post
twos_rules_unique κs a x y s t p q = p ∙ sym q

pub twoa_rules_unique : Determines 0 twoa_rules_kinds.ps twoa_rules_kinds.r twoa_rules.Post
twoa_rules_unique κs a x y s t p q = p ∙ sym q

pub twob_rules_unique : Determines 0 twob_rules_kinds.ps twob_rules_kinds.r twob_rules.Post
twob_rules_unique κs a x y s t p q = p ∙ sym q

pub head_rules_unique : Determines 0 head_rules_kinds.ps head_rules_kinds.r head_rules.Post
head_rules_unique κs a x y s t p q = p ∙ sym q

pub coordinatorrow_rules_unique : Determines 0 coordinatorrow_rules_kinds.ps coordinatorrow_rules_kinds.r coordinatorrow_rules.Post
coordinatorrow_rules_unique κs a x y s t p q = p ∙ sym q

pub boxrow_rules_unique : Determines 0 boxrow_rules_kinds.ps boxrow_rules_kinds.r boxrow_rules.Post
boxrow_rules_unique κs a x y s t p q = p ∙ sym q

pub rackrow_rules_unique : Determines 0 rackrow_rules_kinds.ps rackrow_rules_kinds.r rackrow_rules.Post
rackrow_rules_unique κs a x y s t p q = p ∙ sym q

pub readerrow_rules_unique : Determines 0 readerrow_rules_kinds.ps readerrow_rules_kinds.r readerrow_rules.Post
readerrow_rules_unique κs a x y s t p q = p ∙ sym q

pub heard_rules_unique : Determines 0 heard_rules_kinds.ps heard_rules_kinds.r heard_rules.Post
heard_rules_unique κs a x y s t p q = p ∙ sym q

pub held_rules_unique : Determines 0 held_rules_kinds.ps held_rules_kinds.r held_rules.Post
held_rules_unique κs a x y s t p q = p ∙ sym q

pub blank_rules_unique : Determines 0 blank_rules_kinds.ps blank_rules_kinds.r blank_rules.Post
blank_rules_unique κs a x y s t p q = p ∙ sym q

pub stamp_rules_unique : Determines 0 stamp_rules_kinds.ps stamp_rules_kinds.r stamp_rules.Post
stamp_rules_unique κs a x y s t p q = p ∙ sym q

pub vote_rules_unique : Determines 0 vote_rules_kinds.ps vote_rules_kinds.r vote_rules.Post
vote_rules_unique κs a x y s t p q = p ∙ sym q

pub open_rules_unique : Determines 0 open_rules_kinds.ps open_rules_kinds.r open_rules.Post
open_rules_unique κs a x y s t p q = p ∙ sym q

pub opened_rules_unique : Determines 0 opened_rules_kinds.ps opened_rules_kinds.r opened_rules.Post
opened_rules_unique κs a x y s t p q = p ∙ sym q

pub last_rules_unique : Determines 0 last_rules_kinds.ps last_rules_kinds.r last_rules.Post
last_rules_unique κs a x y s t p q = p ∙ sym q

pub own_rules_unique : Determines 0 own_rules_kinds.ps own_rules_kinds.r own_rules.Post
own_rules_unique κs a x y s t p q = p ∙ sym q
