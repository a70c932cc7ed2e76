-- How the book's two answers stand in one number of C.
use Rattle.std.specs.Prelude.{ℕ, ◌+◌, ◌*◌, ◌≡◌, List}
use Rattle.book.specs.Book.{book_refusal, book_count, book_after}

-- the refusal, and 65,536 times the count
pub record BooksInC (blocks list after : List ℕ) (answer : ℕ) : Type 0 where
  pub answered : answer ≡ book_refusal blocks list + 65536 * book_count blocks list
  pub left : after ≡ book_after blocks list
