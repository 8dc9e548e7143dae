-- Each function of a unit is made of a definition, and so within its height.
use Rattle.std.proofs.Common.{ℕ, ◌*◌, ◌≤◌, List, [], ◌∷◌, Option, IfSome, All}
use Rattle.std.proofs.lemmas.List.Elements.{All-nil, All-cons}
use Rattle.c_tree.specs.declared.types.Declaration.{Declaration}
use Rattle.c_tree.specs.declared.statements.Stmt.{Stmt}
use Rattle.c_tree.specs.declared.declarations.Storage.{Storage}
use Rattle.c_tree.specs.declared.declarations.FunctionEnd.TheVariants.{Body}
use Rattle.c_tree.specs.declared.declarations.External.{External}
use Rattle.c_tree.specs.declared.declarations.External.TheVariants.{Function}
use Rattle.c_tree.specs.declared.declarations.TranslationUnit.{TranslationUnit}
use Rattle.c_tree.specs.Nodes.{nodes_of, external_node, node_height, nodes_height, unit_height}
use Rattle.c_typed_tree.specs.declared.units.TypedFn.{TypedFn}
use Rattle.c_typed_tree.specs.c_typed_height.Heights.{function_height}
use Rattle.c_typing_judgements.specs.Types.{JudgementState}
use Rattle.c_typing_statements.specs.declared.c_typing_function_bodies.functions.FunctionType.{FunctionType}
use Rattle.c_typing_statements.specs.c_typing_function_bodies.Functions.{judge_function}
use Rattle.c_typing_function_sound.proofs.CTypingHeightLaws.CStatementHeightLaws.Parts.{IsLow, fits_left, fits_right, no_more, found_lower}
use Rattle.c_typing_function_sound.proofs.CTypingHeightLaws.CStatementHeightLaws.Statements.{function_within}
use Rattle.c_typing_units.specs.Units.{whole_unit}
use Rattle.c_typing_function_sound.proofs.CTypingHeightLaws.CFunctionNameLaws.Names.{unit_functions}

module _ (n : ℕ) where
  -- a declaration within n levels, and a function of such a one
  abbrev IsNoHigher : External → Type 0
  IsNoHigher e = node_height (external_node e) ≤ n

  abbrev IsWithin : TypedFn → Type 0
  IsWithin made = IsLow function_height n made

  made_within : (e : Declaration) (storage : Option Storage) (list : List Stmt) → IsNoHigher (Function e storage (Body list)) → (of : Option FunctionType) (s : JudgementState) → IfSome (judge_function e of list s).0 IsWithin
  made_within e storage list h of s =
      found_lower function_height (node_height (external_node (Function e storage (Body list)))) n (judge_function e of list s).0 h (function_within e of storage list s)

  declarations_within : (es : List External) → nodes_height (nodes_of external_node es) ≤ n → All IsNoHigher es
  declarations_within [] h = All-nil IsNoHigher
  declarations_within (e ∷ es) h =
      let own = node_height (external_node e) in let rest = nodes_height (nodes_of external_node es) in
      All-cons IsNoHigher e es (fits_left own rest n h) (declarations_within es (fits_right own rest n h))

pub functions_within : (unit : TranslationUnit) → All (λ f. function_height f.function ≤ 3 * unit_height unit) (whole_unit unit).0.functions
functions_within unit =
    let n = unit_height unit in
    unit_functions (IsWithin n) (IsNoHigher n) (made_within n) unit (declarations_within n unit.externals (no_more n))
