-- How a word is made in a register, from nothing but the zero of register 31. `lda` adds a displacement of 16 bits, and
-- `ldah` one that is moved up by 16 bits; what they make is then shifted, cut to its low half, or moved up for a second
-- pair of them.
use Rattle.std.specs.Prelude.{ℕ, ◌+◌, ◌-◌, ◌*◌, ◌/◌, ◌%◌, ◌^◌, ◌==◌, ◌&&◌, nat_le, ℤ, pos, ◌*ℤ◌, Bool, if◌then◌else◌}
use Rattle.std.specs.Ordering.{int_eq}
use Rattle.std.specs.Int.{w16, w64, trailing_zeros, leading_zeros}
use Rattle.alpha_isa.specs.Arithmetic.{word_at, word_from, signed_value}
use Rattle.alpha_constants.specs.declared.recipe.Finish.{Finish}
use Rattle.alpha_constants.specs.declared.recipe.Finish.TheVariants.{Nothing, ShiftLeft, ShiftRight, LowHalf, AddLower}
use Rattle.alpha_constants.specs.declared.recipe.Recipe.{Recipe}

-- ---- two displacements

-- the low 16 bits of a number as a displacement, and the 16 bits above, where 1 is carried if the low ones are negative
abbrev pub low_part : ℕ → ℤ
low_part n = signed_value w16 n

abbrev pub high_part : ℕ → ℤ
high_part n = signed_value w16 (n / 2 ^ 16 + n / 2 ^ 15 % 2)

abbrev pub is_zero : ℤ → Bool
is_zero z = int_eq z (pos 0)

-- what both make: a word with the low 32 bits of the number
abbrev pub near_word : ℕ → ℕ
near_word n = word_at (word_from (high_part n *ℤ pos 65536) + word_from (low_part n))

-- how many instructions that takes: one that adds zero is left out, but from nothing there is at least one
abbrev pub one_unless : Bool → ℕ
one_unless b = if b then 0 else 1

abbrev pub near_length : ℕ → ℕ
near_length n = if is_zero (high_part n) then 1 else 1 + one_unless (is_zero (low_part n))

abbrev pub lower_length : ℕ → ℕ
lower_length n = one_unless (is_zero (high_part n)) + one_unless (is_zero (low_part n))

-- ---- recipes

abbrev pub finish_word : Finish → ℕ → ℕ
finish_word Nothing n = n
finish_word (ShiftLeft places) n = word_at (n * 2 ^ (places % 64))
finish_word (ShiftRight places) n = n / 2 ^ (places % 64)
finish_word LowHalf n = n % 2 ^ 32
finish_word (AddLower lower) n = word_at (word_at (n * 2 ^ 32) + near_word lower)

abbrev pub finish_length : Finish → ℕ
finish_length Nothing = 0
finish_length (ShiftLeft places) = 1
finish_length (ShiftRight places) = 1
finish_length LowHalf = 1
finish_length (AddLower lower) = 1 + lower_length lower

-- the word that a recipe makes, and the number of its instructions
abbrev pub recipe_word : Recipe → ℕ
recipe_word r = finish_word r.finish (near_word r.near)

abbrev pub recipe_length : Recipe → ℕ
recipe_length r = near_length r.near + finish_length r.finish

-- ---- the recipe of a word

abbrev pub recipe : (near : ℕ) → Finish → Recipe
recipe near finish = record { near = near; finish = finish }

-- the zeros at the low end of a word, and at its high end
abbrev pub low_zeros : ℕ → ℕ
low_zeros n = trailing_zeros w64 n % 64

abbrev pub high_zeros : ℕ → ℕ
high_zeros n = leading_zeros w64 n % 64

-- the low half goes with two displacements, and what is left is moved up by 32 bits
abbrev pub upper_part : ℕ → ℕ
upper_part n = word_at (n + (2 ^ 64 - near_word n)) / 2 ^ 32

abbrev pub by_halves : ℕ → Recipe
by_halves n = recipe (upper_part n) (AddLower n)

-- displacements alone; a number that is moved up; ones, or zeros, that are moved down; the low half
abbrev pub by_displacements : ℕ → Recipe
by_displacements n = recipe n Nothing

abbrev pub by_shift_left : ℕ → Recipe
by_shift_left n = recipe (n / 2 ^ low_zeros n) (ShiftLeft (low_zeros n))

abbrev pub by_shift_right : ℕ → Recipe
by_shift_right n = recipe (word_at (n * 2 ^ high_zeros n)) (ShiftRight (high_zeros n))

abbrev pub by_ones_shifted_right : ℕ → Recipe
by_ones_shifted_right n =
    recipe (word_at (word_at (n * 2 ^ high_zeros n) + (2 ^ high_zeros n - 1))) (ShiftRight (high_zeros n))

abbrev pub by_low_half : ℕ → Recipe
by_low_half n = recipe n LowHalf

-- the first of two recipes where it makes the word and is no longer
abbrev pub better_recipe : (n : ℕ) → (a b : Recipe) → Recipe
better_recipe n a b = if (recipe_word a == n) && nat_le (recipe_length a) (recipe_length b) then a else b

-- the shortest of these, the earlier where two are as short
abbrev pub recipe_of : ℕ → Recipe
recipe_of n =
    better_recipe n (by_displacements n) (better_recipe n (by_low_half n) (better_recipe n (by_shift_left n)
    (better_recipe n (by_shift_right n) (better_recipe n (by_ones_shifted_right n) (by_halves n)))))
