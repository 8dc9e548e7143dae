-- Typed functions are at most three times as high as the trees of their definitions.
use Rattle.std.specs.Prelude.{◌*◌, ◌≤◌, List, Option, IfSome}
use Rattle.c_tree.specs.declared.types.Declaration.{Declaration}
use Rattle.c_tree.specs.declared.statements.Stmt.{Stmt}
use Rattle.c_tree.specs.declared.declarations.Storage.{Storage}
use Rattle.c_tree.specs.declared.declarations.FunctionEnd.TheVariants.{Body}
use Rattle.c_tree.specs.declared.declarations.External.TheVariants.{Function}
use Rattle.c_tree.specs.Nodes.{external_node, node_height}
use Rattle.c_typed_tree.specs.c_typed_height.Heights.{function_height}
use Rattle.c_typing_judgements.specs.Types.{JudgementState}
use Rattle.c_typing_statements.specs.declared.c_typing_function_bodies.functions.FunctionType.{FunctionType}
use Rattle.c_typing_statements.specs.c_typing_function_bodies.Functions.{judge_function}

abbrev pub FunctionsAreWithin : Type 0
FunctionsAreWithin =
    (d : Declaration) (of : Option FunctionType) (storage : Option Storage) (list : List Stmt) (s : JudgementState) →
    IfSome (judge_function d of list s).0 (λ f.
    function_height f ≤ 3 * node_height (external_node (Function d storage (Body list))))
