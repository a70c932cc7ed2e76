use Rattle.std.proofs.Common.{◌≤◌, length, ◌≡◌}
use Rattle.book.specs.Book.{page_at}
use Rattle.book.proofs.Walks.{Between, Within}
use Rattle.book.proofs.walking.walk.Given as goal

abbrev pub invariant-loop-rack : goal.invariant-loop-rack
invariant-loop-rack l =
    (l.rack ≤ l.racks) × ((length l.list ≡ length l.initial.list) × Within (page_at l.blocks) l.count l.racks l.instance l.rack l.listed l.list)

abbrev pub invariant-walk : goal.invariant-walk
invariant-walk l =
    (l.instance ≤ l.count) × ((length l.list ≡ length l.initial.list) × Between (page_at l.blocks) l.count l.racks l.instance l.listed l.list)
