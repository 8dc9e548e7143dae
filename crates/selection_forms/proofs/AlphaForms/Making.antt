-- The code of a constant makes its word.
use Rattle.std.proofs.Common.{◌≡◌, ℕ, ◌+◌, ◌*◌, ◌/◌, ◌%◌, ◌^◌, ◌<◌, ◌≤◌, List, [], ◌∷◌, ◌++◌, length, Bool, true, false, ℤ, pos, ◌*ℤ◌, refl, sym, ap, ◌∙◌, subst, arith}
use Rattle.std.specs.Prelude.{Some, ◌==◌, if◌then◌else◌}
use Rattle.std.proofs.lemmas.Bool.{eqb-true}
use Rattle.std.proofs.lemmas.Bool.Decides.{Decides-int_eq}
use Rattle.std.proofs.lemmas.List.{append-nil, append_assoc, length-append}
use Rattle.alpha_isa.proofs.Arithmetic.{word_at-below, kept_bytes-long}
use Rattle.mem_model.specs.World.{Outer}
use Rattle.alpha_isa.specs.Arithmetic.{Gives, operation_effect, word_at, word_from}
use Rattle.temp_ir.specs.declared.operation.AddressOp.{AddressOp}
use Rattle.temp_ir.specs.declared.operation.AddressOp.TheVariants.{Lda, Ldah}
use Rattle.temp_ir.specs.declared.operation.Operation.{Operation}
use Rattle.temp_ir.specs.declared.operation.Operation.TheVariants.{Bis, Sll, Srl, Zapnot}
use Rattle.temp_ir.specs.Operations.{operate_op}
use Rattle.temp_ir.specs.declared.insn.FirstOperand.TheVariants as source
use Rattle.temp_ir.specs.declared.insn.SecondOperand.TheVariants as operand
use Rattle.temp_ir.specs.declared.insn.TempInsn.{TempInsn}
use Rattle.temp_ir.specs.declared.insn.TempInsn.TheVariants.{Address, Operate}
use Rattle.alloc_model.specs.Contents.{word_content, content_answer, effect_answer, operate_answer, moved_bytes, moved_content}
use Rattle.alloc_model.specs.Effect.{writes}
use Rattle.alloc_model.specs.Temporaries.{Temps}
use Rattle.alpha_constants.specs.declared.recipe.Finish.{Finish}
use Rattle.alpha_constants.specs.declared.recipe.Finish.TheVariants.{Nothing, ShiftLeft, ShiftRight, LowHalf, AddLower}
use Rattle.alpha_constants.specs.declared.recipe.Recipe.{Recipe}
use Rattle.alpha_constants.specs.Recipes.{low_part, high_part, is_zero, near_word, near_length, lower_length, one_unless, finish_word, finish_length, recipe_word, recipe_of}
use Rattle.alpha_constants.proofs.Choices.{makes_words, are_short}
use Rattle.selection_forms.specs.alpha_forms.Straight.{PutsContent}
use Rattle.selection_forms.specs.alpha_forms.Constants.{constant_items, unless_zero, near_items, lower_items, with_literal, finish_items, recipe_items}
use Rattle.selection_forms.specs.alpha_forms.Laws.{ConstantsAreMade, RecipesHaveLengths, ConstantsAreShort}
use Rattle.selection_forms.proofs.AlphaForms.Runs.{WritesOne, first_put, then_put}

is_zero-true : (z : ℤ) → is_zero z ≡ true → z ≡ pos 0
is_zero-true z e = (Decides-int_eq z (pos 0)).0 e

nothing_more : (n w : ℕ) → w ≡ 0 → n < 2 ^ 64 → n ≡ word_at (n + w)
nothing_more n w none small = omega (arith, none)

twice : (x y : ℕ) → word_at (word_at (0 + x) + y) ≡ word_at (x + y)
twice x y = omega arith

thrice : (n x y : ℕ) → word_at (word_at (n + x) + y) ≡ word_at (n + word_at (x + y))
thrice n x y = omega arith

one_address : (op : AddressOp) (d : ℕ) (z : ℤ) → WritesOne (Address op d (source.Temp d) z) d
one_address op d z = record { turn = refl; call = refl; written = refl }

from_zero : (op : AddressOp) (d : ℕ) (z : ℤ) → WritesOne (Address op d source.Zero z) d
from_zero op d z = record { turn = refl; call = refl; written = refl }

one_literal : (op : Operation) (d n : ℕ) → WritesOne (with_literal op d n) d
one_literal op d n = record { turn = refl; call = refl; written = refl }

module _ (widest own : ℕ) (s : Temps) (o : Outer) (d : ℕ) where
  then_address : (xs : List TempInsn) (n : ℕ) (op : AddressOp) (z : ℤ) → PutsContent widest xs own s o d (word_content n) →
      PutsContent widest (xs ++ Address op d (source.Temp d) z ∷ []) own s o d (word_content (word_at (n + word_from (moved_bytes op z))))
  then_address xs n op z h =
      then_put widest own s o d xs (word_content n) (Address op d (source.Temp d) z) (word_content (word_at (n + word_from (moved_bytes op z)))) h (one_address op d z)
      (ap (λ c. writes (content_answer (moved_content o.memory c (moved_bytes op z))) o) h.holds)

  then_literal : (xs : List TempInsn) (n : ℕ) (op : Operation) (k m : ℕ) → operation_effect (operate_op op) n k ≡ Gives m →
      PutsContent widest xs own s o d (word_content n) → PutsContent widest (xs ++ with_literal op d k ∷ []) own s o d (word_content m)
  then_literal xs n op k m effect h =
      then_put widest own s o d xs (word_content n) (with_literal op d k) (word_content m) h (one_literal op d k)
      (ap (λ c. writes (operate_answer o.memory op c (word_content k)) o) h.holds ∙ ap (λ e. writes (effect_answer e) o) effect)

  -- a displacement more, which is left out where it is zero
  then_unless : (xs : List TempInsn) (n : ℕ) (op : AddressOp) (z : ℤ) → word_from (moved_bytes op (pos 0)) ≡ 0 → n < 2 ^ 64 →
      PutsContent widest xs own s o d (word_content n) →
      PutsContent widest (xs ++ unless_zero z (Address op d (source.Temp d) z)) own s o d (word_content (word_at (n + word_from (moved_bytes op z))))
  then_unless xs n op z none small h = by_zero (is_zero z) refl
    where
      by_zero : (b : Bool) → is_zero z ≡ b →
          PutsContent widest (xs ++ (if b then [] else Address op d (source.Temp d) z ∷ [])) own s o d (word_content (word_at (n + word_from (moved_bytes op z))))
      by_zero true e =
          subst (λ ys. PutsContent widest ys own s o d (word_content (word_at (n + word_from (moved_bytes op z))))) (sym (append-nil xs))
          (subst (λ k. PutsContent widest xs own s o d (word_content k)) (nothing_more n (word_from (moved_bytes op z)) (ap (λ y. word_from (moved_bytes op y)) (is_zero-true z e) ∙ none) small) h)
      by_zero false e = then_address xs n op z h

  near_puts : (n : ℕ) → PutsContent widest (near_items d n) own s o d (word_content (near_word n))
  near_puts n = by_high (is_zero (high_part n)) refl
    where
      high : TempInsn
      high = Address Ldah d source.Zero (high_part n)

      by_high : (b : Bool) → is_zero (high_part n) ≡ b →
          PutsContent widest (if b then Address Lda d source.Zero (low_part n) ∷ [] else (high ∷ unless_zero (low_part n) (Address Lda d (source.Temp d) (low_part n)))) own s o d (word_content (near_word n))
      by_high true e =
          first_put widest own s o d (Address Lda d source.Zero (low_part n)) (word_content (near_word n)) (from_zero Lda d (low_part n))
          (ap (λ k. writes (content_answer (Some (word_content k))) o) (ap (λ z. word_at (word_from (z *ℤ pos 65536) + word_from (low_part n))) (sym (is_zero-true (high_part n) e))))
      by_high false e =
          subst (λ k. PutsContent widest (high ∷ unless_zero (low_part n) (Address Lda d (source.Temp d) (low_part n))) own s o d (word_content k))
          (twice (word_from (high_part n *ℤ pos 65536)) (word_from (low_part n)))
          (then_unless (high ∷ []) (word_at (0 + word_from (high_part n *ℤ pos 65536))) Lda (low_part n) refl (word_at-below (0 + word_from (high_part n *ℤ pos 65536)))
          (first_put widest own s o d high (word_content (word_at (0 + word_from (high_part n *ℤ pos 65536)))) (from_zero Ldah d (high_part n)) refl))

  lower_puts : (xs : List TempInsn) (n lower : ℕ) → n < 2 ^ 64 → PutsContent widest xs own s o d (word_content n) →
      PutsContent widest (xs ++ lower_items d lower) own s o d (word_content (word_at (n + near_word lower)))
  lower_puts xs n lower small h =
      subst (λ ys. PutsContent widest ys own s o d (word_content (word_at (n + near_word lower))))
      (append_assoc xs (unless_zero (high_part lower) (Address Ldah d (source.Temp d) (high_part lower))) (unless_zero (low_part lower) (Address Lda d (source.Temp d) (low_part lower))))
      (subst (λ k. PutsContent widest ((xs ++ unless_zero (high_part lower) (Address Ldah d (source.Temp d) (high_part lower))) ++ unless_zero (low_part lower) (Address Lda d (source.Temp d) (low_part lower))) own s o d (word_content k))
      (thrice n (word_from (high_part lower *ℤ pos 65536)) (word_from (low_part lower)))
      (then_unless (xs ++ unless_zero (high_part lower) (Address Ldah d (source.Temp d) (high_part lower))) (word_at (n + word_from (high_part lower *ℤ pos 65536))) Lda (low_part lower) refl (word_at-below (n + word_from (high_part lower *ℤ pos 65536)))
      (then_unless xs n Ldah (high_part lower) refl small h)))

  finish_puts : (xs : List TempInsn) (n : ℕ) (f : Finish) → PutsContent widest xs own s o d (word_content n) →
      PutsContent widest (xs ++ finish_items d f) own s o d (word_content (finish_word f n))
  finish_puts xs n Nothing h = subst (λ ys. PutsContent widest ys own s o d (word_content n)) (sym (append-nil xs)) h
  finish_puts xs n (ShiftLeft k) h = then_literal xs n Sll k (word_at (n * 2 ^ (k % 64))) refl h
  finish_puts xs n (ShiftRight k) h = then_literal xs n Srl k (n / 2 ^ (k % 64)) refl h
  finish_puts xs n LowHalf h = then_literal xs n Zapnot 15 (n % 2 ^ 32) (ap Gives (kept_bytes-long n)) h
  finish_puts xs n (AddLower lower) h =
      subst (λ ys. PutsContent widest ys own s o d (word_content (word_at (word_at (n * 2 ^ 32) + near_word lower)))) (append_assoc xs (with_literal Sll d 32 ∷ []) (lower_items d lower))
      (lower_puts (xs ++ with_literal Sll d 32 ∷ []) (word_at (n * 2 ^ 32)) lower (word_at-below (n * 2 ^ 32)) (then_literal xs n Sll 32 (word_at (n * 2 ^ 32)) refl h))

  recipe_puts : (r : Recipe) → PutsContent widest (recipe_items d r) own s o d (word_content (recipe_word r))
  recipe_puts r = finish_puts (near_items d r.near) (near_word r.near) r.finish (near_puts r.near)

pub constants_made : ConstantsAreMade
unfolding constant_items
constants_made widest own d n s o small = by_zero (n == 0) refl
  where
    by_zero : (b : Bool) → (n == 0) ≡ b →
        PutsContent widest (if b then Operate Bis d source.Zero (operand.Literal 0) ∷ [] else recipe_items d (recipe_of n)) own s o d (word_content n)
    by_zero true e =
        first_put widest own s o d (Operate Bis d source.Zero (operand.Literal 0)) (word_content n) (record { turn = refl; call = refl; written = refl })
        (ap (λ k. writes (effect_answer (Gives k)) o) (sym (eqb-true n 0 e)))
    by_zero false e =
        subst (λ k. PutsContent widest (recipe_items d (recipe_of n)) own s o d (word_content k)) (makes_words n small) (recipe_puts widest own s o d (recipe_of n))

-- ---- lengths

unless_length : (z : ℤ) (x : TempInsn) → length (unless_zero z x) ≡ one_unless (is_zero z)
unless_length z x = by_zero (is_zero z)
  where
    by_zero : (b : Bool) → length (if b then [] else x ∷ []) ≡ one_unless b
    by_zero true = refl
    by_zero false = refl

near_length_is : (d n : ℕ) → length (near_items d n) ≡ near_length n
near_length_is d n = by_high (is_zero (high_part n))
  where
    by_high : (b : Bool) → length (if b then Address Lda d source.Zero (low_part n) ∷ [] else (Address Ldah d source.Zero (high_part n) ∷ unless_zero (low_part n) (Address Lda d (source.Temp d) (low_part n)))) ≡ (if b then 1 else 1 + one_unless (is_zero (low_part n)))
    by_high true = refl
    by_high false = let e = unless_length (low_part n) (Address Lda d (source.Temp d) (low_part n)) in omega (arith, e)

lower_length_is : (d n : ℕ) → length (lower_items d n) ≡ lower_length n
lower_length_is d n =
    length-append (unless_zero (high_part n) (Address Ldah d (source.Temp d) (high_part n))) (unless_zero (low_part n) (Address Lda d (source.Temp d) (low_part n)))
    ∙ ap (λ k. k + length (unless_zero (low_part n) (Address Lda d (source.Temp d) (low_part n)))) (unless_length (high_part n) (Address Ldah d (source.Temp d) (high_part n)))
    ∙ ap (λ k. one_unless (is_zero (high_part n)) + k) (unless_length (low_part n) (Address Lda d (source.Temp d) (low_part n)))

finish_length_is : (d : ℕ) (f : Finish) → length (finish_items d f) ≡ finish_length f
finish_length_is d Nothing = refl
finish_length_is d (ShiftLeft k) = refl
finish_length_is d (ShiftRight k) = refl
finish_length_is d LowHalf = refl
finish_length_is d (AddLower lower) = let e = lower_length_is d lower in omega (arith, e)

pub lengths : RecipesHaveLengths
lengths d r =
    length-append (near_items d r.near) (finish_items d r.finish)
    ∙ ap (λ k. k + length (finish_items d r.finish)) (near_length_is d r.near) ∙ ap (λ k. near_length r.near + k) (finish_length_is d r.finish)

pub short : ConstantsAreShort
unfolding constant_items
short d n = by_zero (n == 0)
  where
    by_zero : (b : Bool) → length (if b then Operate Bis d source.Zero (operand.Literal 0) ∷ [] else recipe_items d (recipe_of n)) ≤ 5
    by_zero true = omega arith
    by_zero false = subst (λ k. k ≤ 5) (sym (lengths d (recipe_of n))) (are_short n)
