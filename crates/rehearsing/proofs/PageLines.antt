-- The pages at the end: the loops over racks and readers, and their room.
use Rattle.std.proofs.Common.{ℕ, zero, suc, ◌+◌, ◌*◌, ◌-◌, ◌≤◌, ◌<◌, le_antisymm, mul-suc, add-one, arith, length, take, drop, length-append, ◌≡◌, sym, ap, subst, ◌∙◌, List}
use Rattle.pages.specs.declared.line.Mark.{Mark}
use Rattle.pages.specs.declared.page.Page.{Page}
use Rattle.pages.specs.Pages.{at as mark_at}
use Rattle.fields.specs.Codecs.{run}
use Rattle.fields.specs.Layout.{page}
use Rattle.hall.specs.Halls.{block_at}
use Rattle.lines.specs.Texts.{page_line_text, page_line_room, Put, PutIn}
use Rattle.lines.proofs.Writing.{put_next, put_with_room, page_line_short}
use Rattle.rehearsing.specs.Rehearsals.{page_of}
use Rattle.rehearsing.specs.Turns.{pages_room}
use Rattle.rehearsing.proofs.Turning.{put_nothing}

-- a reader's page is read from its block
pub page_read : (hall : List ℕ) (i : ℕ) {v : Page} → v ≡ page.get (take ((18 + i) * 512 + 512 - (18 + i) * 512) (drop ((18 + i) * 512) hall)) 10 → v ≡ page_of hall i
unfolding block_at
page_read hall i e =
    e ∙ ap (λ (n : ℕ). page.get (take n (drop ((18 + i) * 512) hall)) 10) whole ∙ ap (λ (n : ℕ). page.get (take 512 (drop n hall)) 10) place
  where
    whole : (18 + i) * 512 + 512 - (18 + i) * 512 ≡ 512
    whole = omega arith

    place : (18 + i) * 512 ≡ 512 * (18 + i)
    place = omega arith

-- texts one behind the other
run_short : (room n : ℕ) (f : ℕ → List ℕ) → ((k : ℕ) → length (f k) ≤ room) → length (run n f) ≤ room * n
unfolding run
run_short room zero f h = omega arith
run_short room (suc n) f h = omega (arith, length-append (run n f) (f n), run_short room n f h, h n, mul-suc room n)

module _ (f : ℕ → List ℕ) where
  pub run_start : (at : ℕ) (old : List ℕ) → Put at (run 0 f) old old at
  unfolding run
  run_start at old = put_nothing at old

  pub run_more : {at to next k : ℕ} {old mid after : List ℕ} → to ≤ length old → Put at (run k f) old mid to → Put to (f k) mid after next → Put at (run (k + 1) f) old after next
  unfolding run
  run_more {at} {to} {next} {k} {old} {mid} {after} l p q =
      subst (λ (n : ℕ). Put at (run n f) old after next) (sym (add-one k)) (put_next (omega (arith, p.ends)) p q)

  pub run_ends : {at to k : ℕ} {old after : List ℕ} (n : ℕ) → k ≤ n → n ≤ k → Put at (run k f) old after to → Put at (run n f) old after to
  run_ends {at} {to} {k} {old} {after} n l m p = subst (λ (j : ℕ). Put at (run j f) old after to) (le_antisymm l m) p

-- the lines of one page
abbrev pub page_lines : Page → ℕ → ℕ → List ℕ
page_lines p i rack = page_line_text i rack (mark_at p rack)

module _ (p : Page) (i racks : ℕ) {at to rack : ℕ} {old mid : List ℕ} (room : at + page_line_room * racks ≤ length old) (b : rack < racks)
    (put : Put at (run rack (page_lines p i)) old mid to) where
  pub rack_room : (to + page_line_room ≤ length mid) × (to ≤ length old)
  rack_room =
      let l = run_short page_line_room rack (page_lines p i) (λ k. page_line_short i k (mark_at p k)) in
      let e = put.ends in
      let s = put.spliced.kept in
      (omega arith, omega arith)

pub rack_line : (p : Page) (i rack : ℕ) {to next : ℕ} {m : Mark} {mid after : List ℕ} → m ≡ mark_at p rack → to + page_line_room ≤ length mid →
    PutIn page_line_room to (page_line_text i rack m) mid after next → Put to (page_lines p i rack) mid after next
rack_line p i rack {to} {next} {m} {mid} {after} e l q = subst (λ (x : Mark). Put to (page_line_text i rack x) mid after next) e (put_with_room l q)

-- the pages of all readers
abbrev pub reader_lines : List ℕ → ℕ → ℕ → List ℕ
reader_lines hall racks i = run racks (page_lines (page_of hall i) i)

module _ (hall : List ℕ) (racks : ℕ) {at to i : ℕ} {old mid : List ℕ} (few : racks ≤ 8) (room : at + pages_room ≤ length old) (b : i < 4)
    (put : Put at (run i (reader_lines hall racks)) old mid to) where
  pub reader_room : (to + page_line_room * racks ≤ length mid) × (to ≤ length old)
  reader_room =
      let l = run_short 280 i (reader_lines hall racks) short in
      let e = put.ends in
      let s = put.spliced.kept in
      (omega arith, omega arith)
    where
      short : (k : ℕ) → length (reader_lines hall racks k) ≤ 280
      short k = omega (arith, run_short page_line_room racks (page_lines (page_of hall k) k) (λ j. page_line_short k j (mark_at (page_of hall k) j)))

pub reader_page : (hall : List ℕ) (racks i : ℕ) {to next : ℕ} {p : Page} {mid after : List ℕ} → p ≡ page_of hall i → Put to (run racks (page_lines p i)) mid after next →
    Put to (reader_lines hall racks i) mid after next
reader_page hall racks i {to} {next} {p} {mid} {after} e q = subst (λ (x : Page). Put to (run racks (page_lines x i)) mid after next) e q
