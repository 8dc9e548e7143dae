-- The laws of recipes.
use Rattle.std.specs.Prelude.{◌≡◌, ℕ, ◌^◌, ◌<◌, ◌≤◌}
use Rattle.alpha_constants.specs.declared.recipe.Recipe.{Recipe}
use Rattle.alpha_constants.specs.Recipes.{recipe_word, recipe_length, recipe_of, by_displacements, by_low_half, by_shift_left, by_shift_right, by_ones_shifted_right, by_halves}

-- the recipe of a word makes it, in five instructions at most
abbrev pub RecipesMakeWords : Type 0
RecipesMakeWords = (n : ℕ) → n < 2 ^ 64 → recipe_word (recipe_of n) ≡ n

abbrev pub RecipesAreShort : Type 0
RecipesAreShort = (n : ℕ) → recipe_length (recipe_of n) ≤ 5

-- no recipe of these that makes the word is shorter
abbrev pub IsNoLonger : (n : ℕ) → Recipe → Type 0
IsNoLonger n r = recipe_word r ≡ n → recipe_length (recipe_of n) ≤ recipe_length r

pub record RecipesAreShortest (n : ℕ) : Type 0 where
  pub displacements : IsNoLonger n (by_displacements n)
  pub low_half : IsNoLonger n (by_low_half n)
  pub shift_left : IsNoLonger n (by_shift_left n)
  pub shift_right : IsNoLonger n (by_shift_right n)
  pub ones_shifted_right : IsNoLonger n (by_ones_shifted_right n)
  pub halves : IsNoLonger n (by_halves n)
