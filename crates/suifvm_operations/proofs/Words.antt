-- Operations on numbers by the words of their operands.
use Rattle.std.proofs.Common.{◌≡◌, ℕ, Option, Some, None, Bool, true, false, if◌then◌else◌, refl, ap, ◌∙◌}
use Rattle.mem_model.specs.declared.value.Value.{Value}
use Rattle.mem_model.specs.declared.value.Value.TheVariants.{Word, Address, Unset}
use Rattle.bk_arithmetic.specs.declared.integer_type.IntegerType.{IntegerType}
use Rattle.bk_arithmetic.specs.declared.integer_type.IntegerType.TheVariants.{UnsignedLong}
use Rattle.bk_arithmetic.specs.Words.{is_word}
use Rattle.suifvm_ir.specs.declared.insn.ShiftOp.{ShiftOp}
use Rattle.suifvm_meaning.specs.declared.answer.Answer.{Answer}
use Rattle.suifvm_meaning.specs.declared.answer.Answer.TheVariants.{Fails}
use Rattle.suifvm_meaning.specs.Operations.{on_number, on_numbers, shift_number, shift_by}
use Rattle.suifvm_operations.specs.model.Words.{word_in}

-- an answer from a word, if there is one
abbrev from_word : Option ℕ → (ℕ → Answer) → Answer
from_word (Some n) f = f n
from_word None f = Fails

from_test : (b : Bool) (n : ℕ) (f : ℕ → Answer) → (if b then f n else Fails) ≡ from_word (if b then Some n else None) f
from_test true n f = refl
from_test false n f = refl

by_word : (t : IntegerType) (v : Value) (f : IntegerType → ℕ → Answer) → on_number (Some t) v f ≡ from_word (word_in t v) (f t)
by_word t (Word n) f = from_test (is_word t n) n (f t)
by_word t (Address p) f = refl
by_word t Unset f = refl

-- both words are there, or one is not
pub on_one : (t : IntegerType) (v : Value) (f : IntegerType → ℕ → Answer) (n : ℕ) → word_in t v ≡ Some n → on_number (Some t) v f ≡ f t n
on_one t v f n is = by_word t v f ∙ ap (λ w. from_word w (f t)) is

pub on_none : (t : IntegerType) (v : Value) (f : IntegerType → ℕ → Answer) → word_in t v ≡ None → on_number (Some t) v f ≡ Fails
on_none t v f is = by_word t v f ∙ ap (λ w. from_word w (f t)) is

pub on_two : (t : IntegerType) (a b : Value) (f : IntegerType → ℕ → ℕ → Answer) (n m : ℕ) → word_in t a ≡ Some n → word_in t b ≡ Some m → on_numbers (Some t) a b f ≡ f t n m
on_two t a b f n m x y = on_one t a (λ s p. on_number (Some t) b (λ u q. f s p q)) n x ∙ on_one t b (λ u q. f t n q) m y

pub on_first : (t : IntegerType) (a b : Value) (f : IntegerType → ℕ → ℕ → Answer) → word_in t a ≡ None → on_numbers (Some t) a b f ≡ Fails
on_first t a b f x = on_none t a (λ s p. on_number (Some t) b (λ u q. f s p q)) x

pub on_second : (t : IntegerType) (a b : Value) (f : IntegerType → ℕ → ℕ → Answer) (n : ℕ) → word_in t a ≡ Some n → word_in t b ≡ None → on_numbers (Some t) a b f ≡ Fails
on_second t a b f n x y = on_one t a (λ s p. on_number (Some t) b (λ u q. f s p q)) n x ∙ on_none t b (λ u q. f t n q) y

pub on_shift : (op : ShiftOp) (t : IntegerType) (a count : Value) (n k : ℕ) → word_in t a ≡ Some n → word_in UnsignedLong count ≡ Some k → on_number (Some t) a (shift_by op count) ≡ shift_number op t n k
on_shift op t a count n k x y = on_one t a (shift_by op count) n x ∙ on_one UnsignedLong count (λ u m. shift_number op t n m) k y

pub on_no_count : (op : ShiftOp) (t : IntegerType) (a count : Value) (n : ℕ) → word_in t a ≡ Some n → word_in UnsignedLong count ≡ None → on_number (Some t) a (shift_by op count) ≡ Fails
on_no_count op t a count n x y = on_one t a (shift_by op count) n x ∙ on_none UnsignedLong count (λ u m. shift_number op t n m) y
