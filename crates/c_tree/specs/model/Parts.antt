-- The nodes of parts, as lists and options that code sees, and the line of a node apart from what stands under it.
use Rattle.std.specs.Prelude.{ℕ, List, [], ◌∷◌, ◌++◌, Option, Some, None, codes}
use Rattle.c_tree.specs.Words.{name_or_dash}
use Rattle.c_tree.specs.Nodes.{Node, Nodes, node, none, lone, nodes_of, type_node, optional, stmt_node, label_node}
use Rattle.c_tree.specs.declared.types.Constant.{Constant}
use Rattle.c_tree.specs.declared.types.Declaration.{Declaration}
use Rattle.c_tree.specs.declared.types.Parameter.{Parameter}
use Rattle.c_tree.specs.declared.statements.Stmt as s
use Rattle.c_tree.specs.declared.statements.Section.{Section}

-- the line of a node, and what stands under it
abbrev pub line_of : Node → List ℕ
line_of (node line children) = line

abbrev pub children_of : Node → Nodes
children_of (node line children) = children

abbrev pub line_text : List ℕ → List ℕ → List ℕ
line_text indent line = indent ++ line ++ 10 ∷ []

-- the parts of a type
abbrev pub constant_node : Constant → Node
constant_node c = node (codes "constant " ++ c.name) (optional c.value)

abbrev pub member_node : Declaration → Node
member_node d = node (codes "member " ++ d.name) (lone (type_node d.ty))

abbrev pub parameter_node : Parameter → Node
parameter_node p = node (codes "parameter " ++ name_or_dash p.name) (lone (type_node p.ty))

-- the parts of a statement
abbrev pub else_nodes : Option s.Stmt → Nodes
else_nodes None = none
else_nodes (Some y) = lone (stmt_node y)

abbrev pub section_node : Section → Node
section_node x = label_node x.label (nodes_of stmt_node x.statements)
