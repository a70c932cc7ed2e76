-- Each public contract of this crate determines its answer and every lent byte.
use Rattle.std.proofs.Common.{◌≡◌, sym, ◌∙◌}
use contract.Lifetimes.{Lfts}
use borrow.Fn.World.{ArgsD, ResD}
use borrow.Fn.Kinds.{sig_of, ended_of}
use denote.Triple.Clauses.{AtExit}
use Rattle.below.proofs.Unique.{Determines}
use Rattle.lines.proofs.scan.Scan.feed.Kinds as feed_kinds
use Rattle.lines.proofs.scan.Scan.feed.Reads as feed
use Rattle.lines.proofs.scan.Scan.feed_on.Kinds as feed_on_kinds
use Rattle.lines.proofs.scan.Scan.feed_on.Reads as feed_on
use Rattle.lines.proofs.scan.Scan.finish.Kinds as finish_kinds
use Rattle.lines.proofs.scan.Scan.finish.Reads as finish
use Rattle.lines.proofs.text.put_answer.Kinds as put_answer_kinds
use Rattle.lines.proofs.text.put_answer.Reads as put_answer
use Rattle.lines.proofs.text.put_unreadable.Kinds as put_unreadable_kinds
use Rattle.lines.proofs.text.put_unreadable.Reads as put_unreadable
use Rattle.lines.proofs.text.put_page_line.Kinds as put_page_line_kinds
use Rattle.lines.proofs.text.put_page_line.Reads as put_page_line

pub feed_unique : Determines 0 feed_kinds.ps feed_kinds.r feed.Post
feed_unique κs a x y s t p q = p ∙ sym q

pub feed_on_unique : Determines 1 feed_on_kinds.ps feed_on_kinds.r feed_on.Post
feed_on_unique κs a x y s t p q = λ i. record { scan = (p.scanned ∙ sym q.scanned) i; to = (p.stopped ∙ sym q.stopped) i }

pub finish_unique : Determines 0 finish_kinds.ps finish_kinds.r finish.Post
finish_unique κs a x y s t p q = p ∙ sym q

pub put_answer_unique : (κs : Lfts 1) (a : ArgsD (sig_of 1 put_answer_kinds.ps put_answer_kinds.r) κs) (x y : ResD (sig_of 1 put_answer_kinds.ps put_answer_kinds.r) κs)
    (s t : AtExit (ended_of 1 put_answer_kinds.ps put_answer_kinds.r) κs) → put_answer.Post κs a x s → put_answer.Post κs a y t → (x ≡ y) × (s.0.now ≡ t.0.now)
put_answer_unique κs a x y s t p q = (p.ends ∙ sym q.ends, p.left ∙ sym q.left)

pub put_unreadable_unique : (κs : Lfts 1) (a : ArgsD (sig_of 1 put_unreadable_kinds.ps put_unreadable_kinds.r) κs)
    (x y : ResD (sig_of 1 put_unreadable_kinds.ps put_unreadable_kinds.r) κs) (s t : AtExit (ended_of 1 put_unreadable_kinds.ps put_unreadable_kinds.r) κs) →
    put_unreadable.Post κs a x s → put_unreadable.Post κs a y t → (x ≡ y) × (s.0.now ≡ t.0.now)
put_unreadable_unique κs a x y s t p q = (p.ends ∙ sym q.ends, p.left ∙ sym q.left)

pub put_page_line_unique : (κs : Lfts 1) (a : ArgsD (sig_of 1 put_page_line_kinds.ps put_page_line_kinds.r) κs)
    (x y : ResD (sig_of 1 put_page_line_kinds.ps put_page_line_kinds.r) κs) (s t : AtExit (ended_of 1 put_page_line_kinds.ps put_page_line_kinds.r) κs) →
    put_page_line.Post κs a x s → put_page_line.Post κs a y t → (x ≡ y) × (s.0.now ≡ t.0.now)
put_page_line_unique κs a x y s t p q = (p.ends ∙ sym q.ends, p.left ∙ sym q.left)
