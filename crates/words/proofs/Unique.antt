-- Each public contract of this crate determines its answer, and every lent byte.
use Rattle.std.proofs.Common.{◌≡◌, sym, ◌∙◌}
use contract.Lifetimes.{Lfts}
use borrow.Fn.World.{ArgsD, ResD}
use borrow.Fn.Kinds.{sig_of, ended_of}
use denote.Triple.Clauses.{AtExit}
use Rattle.below.proofs.Unique.{Determines}
use Rattle.words.proofs.numbers.get_u16.Kinds as get_u16_kinds
use Rattle.words.proofs.numbers.get_u16.Reads as get_u16
use Rattle.words.proofs.numbers.get_u32.Kinds as get_u32_kinds
use Rattle.words.proofs.numbers.get_u32.Reads as get_u32
use Rattle.words.proofs.numbers.put_u8.Kinds as put_u8_kinds
use Rattle.words.proofs.numbers.put_u8.Reads as put_u8
use Rattle.words.proofs.numbers.put_u16.Kinds as put_u16_kinds
use Rattle.words.proofs.numbers.put_u16.Reads as put_u16
use Rattle.words.proofs.numbers.put_u32.Kinds as put_u32_kinds
use Rattle.words.proofs.numbers.put_u32.Reads as put_u32
use Rattle.words.proofs.sums.sums_of.Kinds as sums_of_kinds
use Rattle.words.proofs.sums.sums_of.Reads as sums_of
use Rattle.words.proofs.zeros.zero_bytes.Kinds as zero_bytes_kinds
use Rattle.words.proofs.zeros.zero_bytes.Reads as zero_bytes
use Rattle.words.proofs.zeros.zero_words.Kinds as zero_words_kinds
use Rattle.words.proofs.zeros.zero_words.Reads as zero_words
use Rattle.words.proofs.zeros.put_zeros.Kinds as put_zeros_kinds
use Rattle.words.proofs.zeros.put_zeros.Reads as put_zeros

pub get_u16_unique : Determines 1 get_u16_kinds.ps get_u16_kinds.r get_u16.Post
get_u16_unique κs a x y s t p q = p ∙ sym q

pub get_u32_unique : Determines 1 get_u32_kinds.ps get_u32_kinds.r get_u32.Post
get_u32_unique κs a x y s t p q = p ∙ sym q

pub put_u8_unique : (κs : Lfts 1) (a : ArgsD (sig_of 1 put_u8_kinds.ps put_u8_kinds.r) κs) (x y : ResD (sig_of 1 put_u8_kinds.ps put_u8_kinds.r) κs)
    (s t : AtExit (ended_of 1 put_u8_kinds.ps put_u8_kinds.r) κs) → put_u8.Post κs a x s → put_u8.Post κs a y t → s.0.now ≡ t.0.now
put_u8_unique κs a x y s t p q = p.is ∙ sym q.is

pub put_u16_unique : (κs : Lfts 1) (a : ArgsD (sig_of 1 put_u16_kinds.ps put_u16_kinds.r) κs) (x y : ResD (sig_of 1 put_u16_kinds.ps put_u16_kinds.r) κs)
    (s t : AtExit (ended_of 1 put_u16_kinds.ps put_u16_kinds.r) κs) → put_u16.Post κs a x s → put_u16.Post κs a y t → s.0.now ≡ t.0.now
put_u16_unique κs a x y s t p q = p.is ∙ sym q.is

pub put_u32_unique : (κs : Lfts 1) (a : ArgsD (sig_of 1 put_u32_kinds.ps put_u32_kinds.r) κs) (x y : ResD (sig_of 1 put_u32_kinds.ps put_u32_kinds.r) κs)
    (s t : AtExit (ended_of 1 put_u32_kinds.ps put_u32_kinds.r) κs) → put_u32.Post κs a x s → put_u32.Post κs a y t → s.0.now ≡ t.0.now
put_u32_unique κs a x y s t p q = p.is ∙ sym q.is

pub sums_of_unique : Determines 1 sums_of_kinds.ps sums_of_kinds.r sums_of.Post
sums_of_unique κs a x y s t p q = λ i. record { first = (p.0 ∙ sym q.0) i; second = (p.1 ∙ sym q.1) i }

pub zero_bytes_unique : Determines 1 zero_bytes_kinds.ps zero_bytes_kinds.r zero_bytes.Post
zero_bytes_unique κs a x y s t p q = p ∙ sym q

pub zero_words_unique : Determines 1 zero_words_kinds.ps zero_words_kinds.r zero_words.Post
zero_words_unique κs a x y s t p q = p ∙ sym q

pub put_zeros_unique : (κs : Lfts 1) (a : ArgsD (sig_of 1 put_zeros_kinds.ps put_zeros_kinds.r) κs) (x y : ResD (sig_of 1 put_zeros_kinds.ps put_zeros_kinds.r) κs)
    (s t : AtExit (ended_of 1 put_zeros_kinds.ps put_zeros_kinds.r) κs) → put_zeros.Post κs a x s → put_zeros.Post κs a y t → s.0.now ≡ t.0.now
put_zeros_unique κs a x y s t p q = p.is ∙ sym q.is
