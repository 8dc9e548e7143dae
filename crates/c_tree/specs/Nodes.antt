-- The nodes of a tree: what the line of each says, and what stands under it.
use Rattle.std.specs.Prelude.{ℕ, suc, ◌+◌, max, List, [], ◌∷◌, ◌++◌, Option, Some, None, codes}
use Rattle.c_tree.specs.Words.{unary_word, step_word, binary_word, assign_word, basic_words, storage_text, name_or_dash, spellings_text}
use Rattle.c_tree.specs.declared.expressions.Expr as e
use Rattle.c_tree.specs.declared.types.TypeNode as t
use Rattle.c_tree.specs.declared.expressions.Expr.TheBlock as k
use Rattle.c_tree.specs.declared.types.Declaration.{Declaration}
use Rattle.c_tree.specs.declared.statements.Stmt as s
use Rattle.c_tree.specs.declared.statements.Stmt.TheBlock as b
use Rattle.c_tree.specs.declared.statements.LocalDeclarator.{LocalDeclarator}
use Rattle.c_tree.specs.declared.statements.Label.{Label}
use Rattle.c_tree.specs.declared.statements.Label.TheVariants as l
use Rattle.c_tree.specs.declared.statements.ForFirst.{ForFirst}
use Rattle.c_tree.specs.declared.statements.ForFirst.TheVariants as f
use Rattle.c_tree.specs.declared.declarations.Init as i
use Rattle.c_tree.specs.declared.declarations.FunctionEnd.{FunctionEnd}
use Rattle.c_tree.specs.declared.declarations.FunctionEnd.TheVariants as g
use Rattle.c_tree.specs.declared.declarations.External.{External}
use Rattle.c_tree.specs.declared.declarations.External.TheVariants as x
use Rattle.c_tree.specs.declared.declarations.TranslationUnit.{TranslationUnit}

-- A node: the text of its line, and its children in source order.
mutual
  pub data Node : Type 0 where
    node : List ℕ → Nodes → Node

  pub data Nodes : Type 0 where
    none : Nodes
    more : Node → Nodes → Nodes

abbrev pub lone : Node → Nodes
lone n = more n none

abbrev pub two_nodes : Node → Node → Nodes
two_nodes m n = more m (more n none)

-- the nodes of a list's elements
abbrev pub nodes_of : {A : Type 0} → (A → Node) → List A → Nodes
nodes_of f [] = none
nodes_of f (y ∷ ys) = more (f y) (nodes_of f ys)

abbrev pub append_nodes : Nodes → Nodes → Nodes
append_nodes none ns = ns
append_nodes (more m ms) ns = more m (append_nodes ms ns)

-- Expressions, types and what they hold.
unfoldable mutual
  pub expr_node : e.Expr → Node
  expr_node (e.Name at name) = node (codes "name " ++ name) none
  expr_node (e.Number at spelling) = node (codes "number " ++ spelling) none
  expr_node (e.Character at spelling) = node (codes "character " ++ spelling) none
  expr_node (e.Text at spellings) = node (codes "text" ++ spellings_text spellings) none
  expr_node (e.Call' at name _ arguments) = node (codes "call " ++ name) (expr_row arguments)
  expr_node (e.Unary' at op _ (k.more_of-Expr x k.end_of-Expr)) =
      node (codes "unary " ++ unary_word op) (lone (expr_node x))
  expr_node (e.Binary' at op _ (k.more_of-Expr x k.end_of-Expr) _ (k.more_of-Expr y k.end_of-Expr)) =
      node (codes "binary " ++ binary_word op) (two_nodes (expr_node x) (expr_node y))
  expr_node (e.Assign' at op _ (k.more_of-Expr x k.end_of-Expr) _ (k.more_of-Expr y k.end_of-Expr)) =
      node (codes "assign " ++ assign_word op) (two_nodes (expr_node x) (expr_node y))
  expr_node (e.Conditional' at _ (k.more_of-Expr x k.end_of-Expr) _ (k.more_of-Expr y k.end_of-Expr) _
      (k.more_of-Expr z k.end_of-Expr)) =
      node (codes "choose") (more (expr_node x) (two_nodes (expr_node y) (expr_node z)))
  expr_node (e.Cast' at _ (k.more_of-TypeName place ty k.end_of-TypeName) _ (k.more_of-Expr x k.end_of-Expr)) =
      node (codes "cast") (two_nodes (type_node ty) (expr_node x))
  expr_node (e.SizeOfValue' at _ (k.more_of-Expr x k.end_of-Expr)) = node (codes "sizeof") (lone (expr_node x))
  expr_node (e.SizeOfType' at _ (k.more_of-TypeName place ty k.end_of-TypeName)) =
      node (codes "sizeof") (lone (type_node ty))
  expr_node (e.Index' at _ (k.more_of-Expr x k.end_of-Expr) _ (k.more_of-Expr y k.end_of-Expr)) =
      node (codes "index") (two_nodes (expr_node x) (expr_node y))
  expr_node (e.Field' at _ (k.more_of-Expr x k.end_of-Expr) name) = node (codes "field " ++ name) (lone (expr_node x))
  expr_node (e.Arrow' at _ (k.more_of-Expr x k.end_of-Expr) name) = node (codes "arrow " ++ name) (lone (expr_node x))
  expr_node (e.Postfix' at op _ (k.more_of-Expr x k.end_of-Expr)) =
      node (codes "after " ++ step_word op) (lone (expr_node x))
  expr_node (e.Comma' at _ operands) = node (codes "comma") (expr_row operands)

  pub expr_row : {n : _} → k.Row_of-Expr n → Nodes
  expr_row k.end_of-Expr = none
  expr_row (k.more_of-Expr x xs) = more (expr_node x) (expr_row xs)

  pub type_node : t.TypeNode → Node
  type_node (t.Basic words) = node (codes "basic " ++ basic_words words) none
  type_node (t.Named name) = node (codes "named " ++ name) none
  type_node (t.Enum' at tag constants) = node (codes "enum " ++ name_or_dash tag) (constants_held constants)
  type_node (t.Struct' at tag members) = node (codes "struct " ++ name_or_dash tag) (members_held members)
  type_node (t.Pointer' _ (k.more_of-TypeNode target k.end_of-TypeNode)) =
      node (codes "pointer") (lone (type_node target))
  type_node (t.Array' _ (k.more_of-TypeNode element k.end_of-TypeNode) length) =
      node (codes "array") (more (type_node element) (length_held length))
  type_node (t.Takes' _ (k.more_of-TypeNode result k.end_of-TypeNode) _ parameters) =
      node (codes "takes") (more (type_node result) (parameter_row parameters))

  pub constants_held : k.Held-TypeNode-Enum-2 → Nodes
  constants_held k.TypeNode-Enum-2-None' = none
  constants_held (k.TypeNode-Enum-2-Some' _ constants) = constant_row constants

  pub constant_row : {n : _} → k.Row_of-Constant n → Nodes
  constant_row k.end_of-Constant = none
  constant_row (k.more_of-Constant at name value rest) =
      more (node (codes "constant " ++ name) (value_held value)) (constant_row rest)

  pub value_held : k.Held-Constant-value → Nodes
  value_held k.Constant-value-None' = none
  value_held (k.Constant-value-Some' x) = lone (expr_node x)

  pub members_held : k.Held-TypeNode-Struct-2 → Nodes
  members_held k.TypeNode-Struct-2-None' = none
  members_held (k.TypeNode-Struct-2-Some' _ members) = member_row members

  pub member_row : {n : _} → k.Row_of-Declaration n → Nodes
  member_row k.end_of-Declaration = none
  member_row (k.more_of-Declaration at name ty rest) =
      more (node (codes "member " ++ name) (lone (type_node ty))) (member_row rest)

  pub length_held : k.Held-TypeNode-Array-1 → Nodes
  length_held k.TypeNode-Array-1-None' = none
  length_held (k.TypeNode-Array-1-Some' _ (k.more_of-Expr x k.end_of-Expr)) = lone (expr_node x)

  pub parameter_row : {n : _} → k.Row_of-Parameter n → Nodes
  parameter_row k.end_of-Parameter = none
  parameter_row (k.more_of-Parameter at name ty rest) =
      more (node (codes "parameter " ++ name_or_dash name) (lone (type_node ty))) (parameter_row rest)

abbrev pub optional : Option e.Expr → Nodes
optional None = none
optional (Some y) = lone (expr_node y)

-- a part of `for`, which is said to be missing
abbrev pub part_of_for : Option e.Expr → Node
part_of_for None = node (codes "none") none
part_of_for (Some y) = expr_node y

-- Statements.
abbrev pub local_node : LocalDeclarator → Node
local_node d = node (codes "local " ++ d.declaration.name) (more (type_node d.declaration.ty) (optional d.init))

abbrev pub first_nodes : ForFirst → Nodes
first_nodes f.Nothing = lone (node (codes "none") none)
first_nodes (f.Value y) = lone (expr_node y)
first_nodes (f.Locals ys) = nodes_of local_node ys

abbrev pub label_line : Label → List ℕ
label_line (l.Case at value) = codes "case"
label_line (l.Default at) = codes "default"

abbrev pub label_nodes : Label → Nodes
label_nodes (l.Case at value) = lone (expr_node value)
label_nodes (l.Default at) = none

-- a label, its value, and the statements under it
abbrev pub label_node : Label → Nodes → Node
label_node label statements = node (label_line label) (append_nodes (label_nodes label) statements)

unfoldable mutual
  pub stmt_node : s.Stmt → Node
  stmt_node (s.Block' _ statements) = node (codes "block") (stmt_row statements)
  stmt_node (s.If' condition _ (b.more_of-Stmt y b.end_of-Stmt) otherwise) =
      node (codes "if") (more (expr_node condition) (more (stmt_node y) (stmt_held otherwise)))
  stmt_node (s.While' condition _ (b.more_of-Stmt y b.end_of-Stmt)) =
      node (codes "while") (two_nodes (expr_node condition) (stmt_node y))
  stmt_node (s.Do' _ (b.more_of-Stmt y b.end_of-Stmt) condition) =
      node (codes "do") (two_nodes (stmt_node y) (expr_node condition))
  stmt_node (s.For' first condition step _ (b.more_of-Stmt y b.end_of-Stmt)) =
      node (codes "for") (append_nodes (first_nodes first)
      (more (part_of_for condition) (two_nodes (part_of_for step) (stmt_node y))))
  stmt_node (s.Switch' operand _ sections) = node (codes "switch") (more (expr_node operand) (section_row sections))
  stmt_node (s.Break at) = node (codes "break") none
  stmt_node (s.Continue at) = node (codes "continue") none
  stmt_node (s.Return at value) = node (codes "return") (optional value)
  stmt_node (s.Expression y) = node (codes "expression") (lone (expr_node y))
  stmt_node s.Empty = node (codes "empty") none
  stmt_node (s.Local d) = local_node d

  pub stmt_row : {n : _} → b.Row_of-Stmt n → Nodes
  stmt_row b.end_of-Stmt = none
  stmt_row (b.more_of-Stmt y ys) = more (stmt_node y) (stmt_row ys)

  pub stmt_held : b.Held-Stmt-If-2 → Nodes
  stmt_held b.None' = none
  stmt_held (b.Some' _ (b.more_of-Stmt y b.end_of-Stmt)) = lone (stmt_node y)

  pub section_row : {n : _} → b.Row_of-Section n → Nodes
  section_row b.end_of-Section = none
  section_row (b.more_of-Section label _ statements rest) =
      more (label_node label (stmt_row statements)) (section_row rest)

-- What stands at file scope.
unfoldable mutual
  pub init_node : i.Init → Node
  init_node (i.Value y) = expr_node y
  init_node (i.List' at _ items) = node (codes "list") (init_row items)

  pub init_row : {n : _} → i.Row_of-Init n → Nodes
  init_row i.end_of-Init = none
  init_row (i.more_of-Init y ys) = more (init_node y) (init_row ys)

abbrev pub optional_init : Option i.Init → Nodes
optional_init None = none
optional_init (Some y) = lone (init_node y)

abbrev pub end_nodes : FunctionEnd → Nodes
end_nodes g.Nothing = none
end_nodes (g.Init y) = lone (init_node y)
end_nodes (g.Body statements) = lone (node (codes "block") (nodes_of stmt_node statements))

-- the word, the declared name and the storage word, the type, and what follows
abbrev pub declaration_node : List ℕ → Declaration → List ℕ → Nodes → Node
declaration_node word d storage rest = node (word ++ d.name ++ storage) (more (type_node d.ty) rest)

abbrev pub external_node : External → Node
external_node (x.Typedef d) = declaration_node (codes "typedef ") d [] none
external_node (x.Object d storage init) =
    declaration_node (codes "object ") d (storage_text storage) (optional_init init)
external_node (x.Function d storage rest) =
    declaration_node (codes "function ") d (storage_text storage) (end_nodes rest)
external_node (x.Tags storage ty) = node (codes "tags" ++ storage_text storage) (lone (type_node ty))

-- The text of a tree: one line for each node, two blanks for each level.
abbrev mutual
  pub node_text : List ℕ → Node → List ℕ
  node_text indent (node line children) = indent ++ line ++ 10 ∷ nodes_text (indent ++ 32 ∷ 32 ∷ []) children

  pub nodes_text : List ℕ → Nodes → List ℕ
  nodes_text indent none = []
  nodes_text indent (more n ns) = node_text indent n ++ nodes_text indent ns

abbrev pub text_of : TranslationUnit → List ℕ
text_of unit = nodes_text [] (nodes_of external_node unit.externals)

-- how many nodes there are
abbrev mutual
  pub node_count : Node → ℕ
  node_count (node line children) = suc (nodes_count children)

  pub nodes_count : Nodes → ℕ
  nodes_count none = 0
  nodes_count (more n ns) = node_count n + nodes_count ns

abbrev pub unit_nodes : TranslationUnit → ℕ
unit_nodes unit = nodes_count (nodes_of external_node unit.externals)

-- the greatest number of nodes that stand one under the other
abbrev mutual
  pub node_height : Node → ℕ
  node_height (node line children) = suc (nodes_height children)

  pub nodes_height : Nodes → ℕ
  nodes_height none = 0
  nodes_height (more n ns) = max (node_height n) (nodes_height ns)

abbrev pub unit_height : TranslationUnit → ℕ
unit_height unit = nodes_height (nodes_of external_node unit.externals)
