-- The book, by the ways through its code.
use Rattle.std.proofs.Common.{ℕ, eqb, leb, length, take, drop, length-take-le, eq-eqb, ne_eqb, ◌≡◌, refl, sym, ap, ◌∙◌, Bool, true, false, cond, Result, Ok, Err, IsErrAnd, List, ◌++◌}
use Rattle.below.specs.declared.refusals.Refusal.{Refusal}
use Rattle.below.specs.declared.refusals.Refusal.TheVariants.{PostFull}
use Rattle.below.specs.Refusals.{unless, granted, number, number_of, value_or}
use Rattle.below.proofs.Refused.{number_some}
use Rattle.book.specs.Lists.{list_of, Walked}
use Rattle.book.specs.Book.{too_short, pages_of, racks_of, book_list, blocks_refusal, book_refusal, book_count, book_after, Books}
use Rattle.book.proofs.Judged.{held, refuses}

-- the last refusal, and what its answer says of its test
abbrev fitting : Bool → Result (Unit {0}) Refusal
fitting b = cond b (Ok tt) (Err PostFull)

let_in : {u : Unit {0}} (b : Bool) → Ok u ≡ fitting b → b ≡ true
let_in true h = refl
let_in false h = cc

left_out : {e : Refusal} (b : Bool) → Err e ≡ fitting b → (b ≡ false) × (e ≡ PostFull)
left_out true h = cc
left_out false h = (refl, cc)

module _ (blocks list : List ℕ) where
  -- a refusal: it is handed on, nothing is counted, and the lent row stays
  books_refused : (e : Refusal) (r : Result ℕ Refusal) → number e ≡ book_refusal blocks list → IsErrAnd r (λ x. x ≡ e) → Books blocks list list (number_of r) (value_or 0 r)
  unfolding book_count book_after
  books_refused e (Ok x) answered is = absurd is
  books_refused e (Err x) answered is =
      let n = ne_eqb (book_refusal blocks list) granted (λ z. number_some e (answered ∙ z)) in
      record {
        answered = ap number is ∙ answered;
        counted = ap (λ (b : Bool). cond b (length (book_list blocks)) 0) (sym n);
        left = ap (λ (b : Bool). cond b (book_list blocks ++ drop (length (book_list blocks)) list) list) (sym n);
      }

  pub blocks_refused : (e : Refusal) (r : Result ℕ Refusal) → number e ≡ blocks_refusal blocks granted → IsErrAnd r (λ x. x ≡ e) → Books blocks list list (number_of r) (value_or 0 r)
  unfolding book_refusal
  blocks_refused e r found is = books_refused e r (found ∙ sym (refuses blocks _ (λ z. number_some e (found ∙ z)))) is

  module _ (found : granted ≡ blocks_refusal blocks granted) {racks count : ℕ} {room : List ℕ} (p : racks ≡ racks_of blocks) (w : Walked (list_of racks (pages_of blocks)) count room) where
    -- the refusals before the list have gone
    last : book_refusal blocks list ≡ unless (leb (length (book_list blocks)) (length list)) too_short granted
    unfolding book_refusal
    last = (held blocks _ (sym found)).1

    listing : take count room ≡ book_list blocks
    unfolding book_list
    listing = w.is ∙ ap (λ (k : ℕ). list_of k (pages_of blocks)) p

    counting : count ≡ length (book_list blocks)
    counting = sym (length-take-le count room w.fits) ∙ ap length listing

    answer : {b : Bool} → leb count (length list) ≡ b → book_refusal blocks list ≡ unless b too_short granted
    answer h = last ∙ ap (λ (n : ℕ). unless (leb n (length list)) too_short granted) (sym counting) ∙ ap (λ (b : Bool). unless b too_short granted) h

    pub row_too_short : (e : Refusal) (r : Result ℕ Refusal) → Err e ≡ fitting (leb count (length list)) → IsErrAnd r (λ x. x ≡ e) → Books blocks list list (number_of r) (value_or 0 r)
    row_too_short e r h is = let l = left_out (leb count (length list)) h in books_refused e r (ap number l.1 ∙ sym (answer l.0)) is

    pub booked : {u : Unit {0}} {new : List ℕ} → Ok u ≡ fitting (leb count (length list)) → new ≡ take count room → Books blocks list (new ++ drop count list) granted count
    unfolding book_count book_after
    booked h e =
        record {
          answered = sym (answer (let_in (leb count (length list)) h));
          counted = counting ∙ ap (λ (b : Bool). cond b (length (book_list blocks)) 0) (sym given);
          left =
              ap (λ (t : List ℕ). t ++ drop count list) (e ∙ listing) ∙ ap (λ (k : ℕ). book_list blocks ++ drop k list) counting ∙
              ap (λ (b : Bool). cond b (book_list blocks ++ drop (length (book_list blocks)) list) list) (sym given);
        }
      where
        given : eqb (book_refusal blocks list) granted ≡ true
        given = eq-eqb _ _ (answer (let_in (leb count (length list)) h))
