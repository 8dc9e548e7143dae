-- What a declarator makes of the type that it stands behind.
use Rattle.std.specs.Prelude.{Bool, true, false, not, ℕ, List, [], ◌∷◌, ◌++◌, Option, Some, None}
use Rattle.c_tree.specs.declared.expressions.Expr.{Expr}
use Rattle.c_tree.specs.declared.expressions.Expr as e
use Rattle.c_tree.specs.declared.types.TypeNode.{TypeNode}
use Rattle.c_tree.specs.declared.types.TypeNode as y
use Rattle.c_tree.specs.declared.types.BasicType.TheVariants as w
use Rattle.c_tree.specs.declared.types.Declaration.{Declaration}
use Rattle.c_tree.specs.declared.types.Parameter.{Parameter}
use Rattle.c_parser_grammar.specs.declared.shapes.Shape.{Shape}
use Rattle.c_parser_grammar.specs.declared.shapes.Shape.TheVariants as h
use Rattle.c_parser_grammar.specs.declared.shapes.DeclaredName.{DeclaredName}
use Rattle.c_parser_grammar.specs.declared.shapes.Declarator.{Declarator}
use Rattle.c_parser_grammar.specs.declared.shapes.NameRequirement.{NameRequirement}
use Rattle.c_parser_grammar.specs.declared.shapes.NameRequirement.TheVariants as nm

abbrev pub nameless : Declarator
nameless = record { name = None; shapes = [] }

abbrev pub with_shape : Declarator → Shape → Declarator
with_shape d s = record { name = d.name; shapes = d.shapes ++ s ∷ [] }

-- whether a declarator may have this name, which is one of a type or not
abbrev pub takes_name : NameRequirement → Bool → Bool
takes_name nm.Required is_type = not is_type
takes_name nm.Member is_type = true
takes_name nm.Optional is_type = not is_type
takes_name nm.Refused is_type = false

abbrev pub may_be_nameless : NameRequirement → Bool
may_be_nameless nm.Required = false
may_be_nameless nm.Member = false
may_be_nameless nm.Optional = true
may_be_nameless nm.Refused = true

-- one shape round a type, and all of them: the first is the nearest to the name (C99 6.7.5)
abbrev pub with_one_shape : Shape → TypeNode → TypeNode
with_one_shape h.Pointer ty = y.Pointer ty
with_one_shape (h.Array length) ty = y.Array ty length
with_one_shape (h.Takes parameters) ty = y.Takes ty parameters

abbrev pub with_shapes : List Shape → TypeNode → TypeNode
with_shapes [] ty = ty
with_shapes (s ∷ ss) ty = with_one_shape s (with_shapes ss ty)

-- the type of the further declarators of a declaration: the body stands under the first alone
abbrev pub without_body : TypeNode → TypeNode
without_body (y.Enum' at tag constants) = y.Enum at tag None
without_body (y.Struct' at tag members) = y.Struct at tag None
without_body ty = ty

abbrev pub declaration_of : TypeNode → DeclaredName → List Shape → Declaration
declaration_of ty n shapes = record { at = n.at; name = n.name; ty = with_shapes shapes ty }

-- a parameter at its name, or at the place of its declaration
abbrev pub parameter_by : ℕ → TypeNode → Option DeclaredName → Parameter
parameter_by at ty (Some n) = record { at = n.at; name = Some n.name; ty = ty }
parameter_by at ty None = record { at = at; name = None; ty = ty }

abbrev pub parameter_of : ℕ → TypeNode → Declarator → Parameter
parameter_of at ty d = parameter_by at (with_shapes d.shapes ty) d.name

-- the lone parameter `void`, by its word and without a name, is none (C99 6.7.5.3)
abbrev pub lone_void : Option (List ℕ) → TypeNode → List Parameter → List Parameter
lone_void None (y.Basic w.Void) ps = []
lone_void _ _ ps = ps

abbrev pub without_void : List Parameter → List Parameter
without_void (p ∷ []) = lone_void p.name p.ty (p ∷ [])
without_void ps = ps

-- the operands of commas are one node; a lone operand is itself
abbrev pub comma_of : ℕ → List Expr → Expr
comma_of at (x ∷ []) = x
comma_of at xs = e.Comma at xs
