-- What a turn of the loops over declarators reads.
use Rattle.std.specs.Prelude.{ℕ, Option}
use Rattle.c_tree.specs.declared.types.TypeNode.{TypeNode}
use Rattle.c_tree.specs.declared.declarations.Storage.{Storage}
use Rattle.c_tree.specs.declared.declarations.External.{External}
use Rattle.c_tree.specs.declared.declarations.External.TheVariants as x
use Rattle.c_parser_grammar.specs.declared.shapes.NameRequirement.TheVariants as nm
use Rattle.c_parser_grammar.specs.Tokens.{TypeNames}
use Rattle.c_parser_grammar.specs.Units.{with_type}
use Rattle.c_parser_grammar.specs.Parser.{Parser, and_then, pure}
use Rattle.c_parser_grammar.specs.ParseExpr.{declarator}
use Rattle.c_parser_grammar.specs.ParseSpecifiers.{declaration}
use Rattle.c_parser_grammar.specs.ParseUnits.{object_named}

-- one declarator of a `typedef`, whose name is that of a type from then on
unfoldable pub typedef_declarator : TypeNames → ℕ → TypeNode → Parser (External × TypeNames)
typedef_declarator s n ty ts =
    and_then (declaration s n nm.Required ty ts) (λ d. pure (x.Typedef d, with_type s d.name))

-- one declarator of another declaration at file scope, with its initialiser
unfoldable pub object_declarator : TypeNames → ℕ → Option Storage → TypeNode → Parser External
object_declarator s n storage ty ts =
    and_then (declarator s n nm.Required ts) (λ d. object_named s n storage ty d.name d.shapes)
