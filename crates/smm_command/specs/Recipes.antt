-- What a generated platform is made from.
use Rattle.std.specs.Prelude.{ℕ, ◌≤◌, List, option_map, Option}
use Rattle.std.specs.Option.{option_and_then}
use Rattle.smm_command.specs.declared.recipe.Recipe.{Recipe}
use Rattle.smm_command.specs.Numbers.{number_of, processors_of}

-- a platform has 1 to 64 processors
pub record IsRecipe (recipe : Recipe) : Type 0 where
  pub some : 1 ≤ recipe.processors
  pub few : recipe.processors ≤ 64

-- the recipe of two words
abbrev pub recipe_of : List ℕ → List ℕ → Option Recipe
recipe_of seed processors = option_and_then (λ number. option_map (λ count. record { seed = number; processors = count }) (processors_of processors)) (number_of seed)
