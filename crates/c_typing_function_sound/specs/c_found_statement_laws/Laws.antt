-- A function is found, unless a fault was noted or a use of what is never defined.
use Rattle.std.specs.Prelude.{Bool, true, false, IsTrue, List, [], ◌∷◌, Option, Some, None}
use Rattle.c_tree.specs.declared.types.Declaration.{Declaration}
use Rattle.c_tree.specs.declared.statements.Stmt.{Stmt}
use Rattle.c_typing_judgements.specs.Types.{JudgementState}
use Rattle.c_typing_statements.specs.declared.c_typing_function_bodies.functions.FunctionType.{FunctionType}
use Rattle.c_typing_statements.specs.c_typing_function_bodies.Functions.{parameters_of, judge_function}
use Rattle.c_typing_expression_sound.specs.c_found_laws.Laws.{Tells, IsFound}

-- whether there is a type for each parameter
abbrev pub are_as_many : {A B : Type 0} → List A → List B → Bool
are_as_many [] [] = true
are_as_many [] (y ∷ ys) = false
are_as_many (x ∷ xs) [] = false
are_as_many (x ∷ xs) (y ∷ ys) = are_as_many xs ys

-- a type that fits the declarator
abbrev pub type_fits : Option FunctionType → Declaration → Bool
type_fits None d = false
type_fits (Some of) d = are_as_many (parameters_of d.ty) of.parameters

-- what is judged of a function whose declarator has no fault
abbrev pub FunctionsAreFound : Type 0
FunctionsAreFound =
    (d : Declaration) (of : Option FunctionType) (list : List Stmt) (s : JudgementState) →
    Tells (IsTrue (type_fits of d) → IsFound (judge_function d of list s).0) s (judge_function d of list s).1
