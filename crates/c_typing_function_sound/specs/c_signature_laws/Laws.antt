-- A function that is made of a body has the name of its declaration and the type that its declarator gives.
use Rattle.std.specs.Prelude.{◌≡◌, List, map, Some, IfSome}
use Rattle.c_tree.specs.declared.types.Declaration.{Declaration}
use Rattle.c_tree.specs.declared.statements.Stmt.{Stmt}
use Rattle.c_typed_tree.specs.declared.units.TypedFn.{TypedFn}
use Rattle.c_typed_tree.specs.View.{type_view}
use Rattle.c_typed_tree.specs.Lawful.{signature_of}
use Rattle.c_typing_judgements.specs.Types.{JudgementState}
use Rattle.c_typing_statements.specs.declared.c_typing_function_bodies.functions.FunctionType.{FunctionType}
use Rattle.c_typing_statements.specs.c_typing_function_bodies.Functions.{judge_function}

pub record HasItsType (d : Declaration) (of : FunctionType) (f : TypedFn) : Type 0 where
  pub name : f.name ≡ d.name
  pub result : f.result ≡ of.result
  pub parameters : (signature_of f).params ≡ map type_view of.parameters

abbrev pub FunctionsHaveTheirTypes : Type 0
FunctionsHaveTheirTypes =
    (d : Declaration) (of : FunctionType) (list : List Stmt) (s : JudgementState) →
    IfSome (judge_function d (Some of) list s).0 (HasItsType d of)
