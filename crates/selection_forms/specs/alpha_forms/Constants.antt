-- The code that makes a word in a temporary, after its recipe.
use Rattle.std.specs.Prelude.{ℕ, ◌==◌, ℤ, List, [], ◌∷◌, ◌++◌, if◌then◌else◌}
use Rattle.temp_ir.specs.declared.operation.AddressOp.TheVariants.{Lda, Ldah}
use Rattle.temp_ir.specs.declared.operation.Operation.{Operation}
use Rattle.temp_ir.specs.declared.operation.Operation.TheVariants.{Bis, Sll, Srl, Zapnot}
use Rattle.temp_ir.specs.declared.insn.FirstOperand.TheVariants as source
use Rattle.temp_ir.specs.declared.insn.SecondOperand.TheVariants as operand
use Rattle.temp_ir.specs.declared.insn.TempInsn.{TempInsn}
use Rattle.temp_ir.specs.declared.insn.TempInsn.TheVariants.{Address, Operate}
use Rattle.alpha_constants.specs.declared.recipe.Finish.{Finish}
use Rattle.alpha_constants.specs.declared.recipe.Finish.TheVariants.{Nothing, ShiftLeft, ShiftRight, LowHalf, AddLower}
use Rattle.alpha_constants.specs.declared.recipe.Recipe.{Recipe}
use Rattle.alpha_constants.specs.Recipes.{low_part, high_part, is_zero, recipe_of}

-- an instruction, but none where its displacement is zero
abbrev pub unless_zero : ℤ → TempInsn → List TempInsn
unless_zero z x = if is_zero z then [] else x ∷ []

-- the displacements of a number, from zero
abbrev pub near_items : (d n : ℕ) → List TempInsn
near_items d n =
    if is_zero (high_part n) then Address Lda d source.Zero (low_part n) ∷ []
    else Address Ldah d source.Zero (high_part n)
    ∷ unless_zero (low_part n) (Address Lda d (source.Temp d) (low_part n))

-- the displacements of a number, added to what the temporary holds
abbrev pub lower_items : (d n : ℕ) → List TempInsn
lower_items d n =
    unless_zero (high_part n) (Address Ldah d (source.Temp d) (high_part n)) ++
    unless_zero (low_part n) (Address Lda d (source.Temp d) (low_part n))

-- an operation on what the temporary holds, and a number
abbrev pub with_literal : Operation → (d n : ℕ) → TempInsn
with_literal op d n = Operate op d (source.Temp d) (operand.Literal n)

abbrev pub finish_items : (d : ℕ) → Finish → List TempInsn
finish_items d Nothing = []
finish_items d (ShiftLeft places) = with_literal Sll d places ∷ []
finish_items d (ShiftRight places) = with_literal Srl d places ∷ []
finish_items d LowHalf = with_literal Zapnot d 15 ∷ []
finish_items d (AddLower lower) = with_literal Sll d 32 ∷ lower_items d lower

abbrev pub recipe_items : (d : ℕ) → Recipe → List TempInsn
recipe_items d r = near_items d r.near ++ finish_items d r.finish

-- a temporary is set to a word
unfoldable pub constant_items : (d word : ℕ) → List TempInsn
constant_items d word =
    if word == 0 then Operate Bis d source.Zero (operand.Literal 0) ∷ [] else recipe_items d (recipe_of word)
