-- The recipe of a word makes it, and is no longer than those that are tried.
use Rattle.std.proofs.Common.{◌≡◌, ℕ, ◌+◌, ◌<◌, ◌≤◌, Bool, true, false, refl, arith}
use Rattle.std.specs.Prelude.{◌==◌, ◌&&◌, nat_le, if◌then◌else◌}
use Rattle.std.proofs.lemmas.Bool.{eqb-true, leb-true, leb-false}
use Rattle.std.proofs.Common.{eq-eqb}
use Rattle.alpha_constants.specs.declared.recipe.Finish.{Finish}
use Rattle.alpha_constants.specs.declared.recipe.Finish.TheVariants.{Nothing, ShiftLeft, ShiftRight, LowHalf, AddLower}
use Rattle.alpha_constants.specs.declared.recipe.Recipe.{Recipe}
use Rattle.alpha_constants.specs.Recipes.{is_zero, low_part, high_part, one_unless, near_length, lower_length, finish_length, recipe_word, recipe_length, better_recipe, recipe_of, by_displacements, by_low_half, by_shift_left, by_shift_right, by_ones_shifted_right, by_halves}
use Rattle.alpha_constants.specs.Laws.{RecipesAreShortest, RecipesMakeWords, RecipesAreShort}
use Rattle.alpha_constants.proofs.Words.{halves_make}

le_trans : {x y z : ℕ} → x ≤ y → y ≤ z → x ≤ z
le_trans p q = omega (arith, p, q)

better_makes : (n : ℕ) (a b : Recipe) → recipe_word b ≡ n → recipe_word (better_recipe n a b) ≡ n
better_makes n a b made = by_word (recipe_word a == n) refl
  where
    by_length : (l : Bool) → recipe_word a ≡ n → recipe_word (if l then a else b) ≡ n
    by_length true e = e
    by_length false e = made

    by_word : (w : Bool) → (recipe_word a == n) ≡ w → recipe_word (if w && nat_le (recipe_length a) (recipe_length b) then a else b) ≡ n
    by_word true e = by_length (nat_le (recipe_length a) (recipe_length b)) (eqb-true (recipe_word a) n e)
    by_word false e = made

better_second : (n : ℕ) (a b : Recipe) → recipe_length (better_recipe n a b) ≤ recipe_length b
better_second n a b = by_word (recipe_word a == n)
  where
    by_length : (l : Bool) → nat_le (recipe_length a) (recipe_length b) ≡ l → recipe_length (if l then a else b) ≤ recipe_length b
    by_length true e = leb-true (recipe_length a) (recipe_length b) e
    by_length false e = omega arith

    by_word : (w : Bool) → recipe_length (if w && nat_le (recipe_length a) (recipe_length b) then a else b) ≤ recipe_length b
    by_word true = by_length (nat_le (recipe_length a) (recipe_length b)) refl
    by_word false = omega arith

better_first : (n : ℕ) (a b : Recipe) → recipe_word a ≡ n → recipe_length (better_recipe n a b) ≤ recipe_length a
better_first n a b made = by_word (recipe_word a == n) (eq-eqb (recipe_word a) n made)
  where
    by_length : (l : Bool) → nat_le (recipe_length a) (recipe_length b) ≡ l → recipe_length (if l then a else b) ≤ recipe_length a
    by_length true e = omega arith
    by_length false e = let gt : recipe_length b < recipe_length a = leb-false (recipe_length a) (recipe_length b) e in omega arith

    by_word : (w : Bool) → w ≡ true → recipe_length (if w && nat_le (recipe_length a) (recipe_length b) then a else b) ≤ recipe_length a
    by_word true e = by_length (nat_le (recipe_length a) (recipe_length b)) refl
    by_word false e = absurd cc

-- ---- the best of six recipes, the last of which makes the word

module _ (n : ℕ) (a b c d e f : Recipe) where
  abbrev best_of_five : Recipe
  best_of_five = better_recipe n b (better_recipe n c (better_recipe n d (better_recipe n e f)))

  abbrev best : Recipe
  best = better_recipe n a best_of_five

  best_makes : recipe_word f ≡ n → recipe_word best ≡ n
  best_makes made =
      better_makes n a best_of_five (better_makes n b (better_recipe n c (better_recipe n d (better_recipe n e f)))
      (better_makes n c (better_recipe n d (better_recipe n e f)) (better_makes n d (better_recipe n e f) (better_makes n e f made))))

  first_best : recipe_word a ≡ n → recipe_length best ≤ recipe_length a
  first_best made = better_first n a best_of_five made

  second_best : recipe_word b ≡ n → recipe_length best ≤ recipe_length b
  second_best made =
      le_trans (better_second n a best_of_five) (better_first n b (better_recipe n c (better_recipe n d (better_recipe n e f))) made)

  below_third : recipe_length best ≤ recipe_length (better_recipe n c (better_recipe n d (better_recipe n e f)))
  below_third =
      le_trans (better_second n a best_of_five) (better_second n b (better_recipe n c (better_recipe n d (better_recipe n e f))))

  third_best : recipe_word c ≡ n → recipe_length best ≤ recipe_length c
  third_best made = le_trans below_third (better_first n c (better_recipe n d (better_recipe n e f)) made)

  below_fourth : recipe_length best ≤ recipe_length (better_recipe n d (better_recipe n e f))
  below_fourth = le_trans below_third (better_second n c (better_recipe n d (better_recipe n e f)))

  fourth_best : recipe_word d ≡ n → recipe_length best ≤ recipe_length d
  fourth_best made = le_trans below_fourth (better_first n d (better_recipe n e f) made)

  below_fifth : recipe_length best ≤ recipe_length (better_recipe n e f)
  below_fifth = le_trans below_fourth (better_second n d (better_recipe n e f))

  fifth_best : recipe_word e ≡ n → recipe_length best ≤ recipe_length e
  fifth_best made = le_trans below_fifth (better_first n e f made)

  last_best : recipe_length best ≤ recipe_length f
  last_best = le_trans below_fifth (better_second n e f)

-- ---- the recipe of a word

pub makes_words : RecipesMakeWords
makes_words n small =
    best_makes n (by_displacements n) (by_low_half n) (by_shift_left n) (by_shift_right n) (by_ones_shifted_right n) (by_halves n)
    (halves_make n small)

pub are_shortest : (n : ℕ) → RecipesAreShortest n
are_shortest n = record {
  displacements = first_best n (by_displacements n) (by_low_half n) (by_shift_left n) (by_shift_right n) (by_ones_shifted_right n) (by_halves n);
  low_half = second_best n (by_displacements n) (by_low_half n) (by_shift_left n) (by_shift_right n) (by_ones_shifted_right n) (by_halves n);
  shift_left = third_best n (by_displacements n) (by_low_half n) (by_shift_left n) (by_shift_right n) (by_ones_shifted_right n) (by_halves n);
  shift_right = fourth_best n (by_displacements n) (by_low_half n) (by_shift_left n) (by_shift_right n) (by_ones_shifted_right n) (by_halves n);
  ones_shifted_right = fifth_best n (by_displacements n) (by_low_half n) (by_shift_left n) (by_shift_right n) (by_ones_shifted_right n) (by_halves n);
  halves = λ e. last_best n (by_displacements n) (by_low_half n) (by_shift_left n) (by_shift_right n) (by_ones_shifted_right n) (by_halves n);
}

-- ---- how long it is

one_at_most : (b : Bool) → one_unless b ≤ 1
one_at_most true = omega arith
one_at_most false = omega arith

near_by : (h l : Bool) → (if h then 1 else 1 + one_unless l) ≤ 2
near_by true l = omega arith
near_by false l = let m = one_at_most l in omega (arith, m)

near_short : (n : ℕ) → near_length n ≤ 2
near_short n = near_by (is_zero (high_part n)) (is_zero (low_part n))

lower_short : (n : ℕ) → lower_length n ≤ 2
lower_short n =
    let h = one_at_most (is_zero (high_part n)) in let l = one_at_most (is_zero (low_part n)) in omega (arith, h, l)

finish_short : (f : Finish) → finish_length f ≤ 3
finish_short Nothing = omega arith
finish_short (ShiftLeft places) = omega arith
finish_short (ShiftRight places) = omega arith
finish_short LowHalf = omega arith
finish_short (AddLower lower) = let l = lower_short lower in omega (arith, l)

pub are_short : RecipesAreShort
are_short n = by_recipe (recipe_of n)
  where
    by_recipe : (r : Recipe) → recipe_length r ≤ 5
    by_recipe r = let a = near_short r.near in let b = finish_short r.finish in omega (arith, a, b)
