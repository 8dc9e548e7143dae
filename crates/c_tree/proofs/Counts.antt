-- How many nodes each form has.
use Rattle.std.proofs.Common.{◌≡◌, ℕ, suc, ◌+◌, List, [], ◌∷◌, Option, Some, None, refl, sym, ap, ◌∙◌, ◌++◌, add_assoc, zero-add}
use Rattle.c_tree.specs.declared.expressions.UnaryOp.{UnaryOp}
use Rattle.c_tree.specs.declared.expressions.StepOp.{StepOp}
use Rattle.c_tree.specs.declared.expressions.BinaryOp.{BinaryOp}
use Rattle.c_tree.specs.declared.expressions.AssignOp.{AssignOp}
use Rattle.c_tree.specs.declared.expressions.Expr as e
use Rattle.c_tree.specs.declared.types.BasicType.{BasicType}
use Rattle.c_tree.specs.declared.types.TypeNode as t
use Rattle.c_tree.specs.declared.types.TypeName.{TypeName}
use Rattle.c_tree.specs.declared.types.Constant.{Constant}
use Rattle.c_tree.specs.declared.types.Declaration.{Declaration}
use Rattle.c_tree.specs.declared.types.Parameter.{Parameter}
use Rattle.c_tree.specs.declared.statements.Stmt as s
use Rattle.c_tree.specs.declared.statements.Section.{Section}
use Rattle.c_tree.specs.declared.statements.LocalDeclarator.{LocalDeclarator}
use Rattle.c_tree.specs.declared.statements.ForFirst.{ForFirst}
use Rattle.c_tree.specs.declared.declarations.Init as i
use Rattle.c_tree.specs.Nodes.{Node, Nodes, node, none, more, nodes_of, node_count, nodes_count, append_nodes, expr_node, type_node, stmt_node, init_node, local_node, first_nodes, part_of_for, optional}
use Rattle.c_tree.specs.model.Parts.{children_of, constant_node, member_node, parameter_node, section_node, else_nodes}
use Rattle.c_tree.specs.model.Open.{opens}
use Rattle.c_tree.proofs.Rows.{expr_row-hidden, constant_row-hidden, member_row-hidden, parameter_row-hidden, stmt_row-hidden, section_row-hidden, init_row-hidden, if-children}

abbrev pub expr_count : e.Expr → ℕ
expr_count v = node_count (expr_node v)

abbrev pub type_count : t.TypeNode → ℕ
type_count ty = node_count (type_node ty)

abbrev pub stmt_count : s.Stmt → ℕ
stmt_count v = node_count (stmt_node v)

abbrev pub init_count : i.Init → ℕ
init_count v = node_count (init_node v)

abbrev pub list_count : {A : Type 0} → (A → Node) → List A → ℕ
list_count f vs = nodes_count (nodes_of f vs)

pub nodes_count-append_nodes : (ms ns : Nodes) → nodes_count (append_nodes ms ns) ≡ nodes_count ms + nodes_count ns
nodes_count-append_nodes none ns = sym (zero-add (nodes_count ns))
nodes_count-append_nodes (more m ms) ns = ap (λ n. node_count m + n) (nodes_count-append_nodes ms ns) ∙ sym (add_assoc (node_count m) (nodes_count ms) (nodes_count ns))

pub list_count-append : {A : Type 0} (f : A → Node) (xs ys : List A) → list_count f (xs ++ ys) ≡ list_count f xs + list_count f ys
list_count-append f [] ys = sym (zero-add (list_count f ys))
list_count-append f (x ∷ xs) ys = ap (λ n. node_count (f x) + n) (list_count-append f xs ys) ∙ sym (add_assoc (node_count (f x)) (list_count f xs) (list_count f ys))

-- a node, by its children
under : (n : Node) (ns : Nodes) → children_of n ≡ ns → node_count n ≡ suc (nodes_count ns)
under (node line children) ns e = ap (λ m. suc (nodes_count m)) e

pub count-Name : (at : ℕ) (name : List ℕ) → expr_count (e.Name at name) ≡ suc 0
unfolding opens
count-Name at name = refl

pub count-Number : (at : ℕ) (name : List ℕ) → expr_count (e.Number at name) ≡ suc 0
unfolding opens
count-Number at name = refl

pub count-Character : (at : ℕ) (name : List ℕ) → expr_count (e.Character at name) ≡ suc 0
unfolding opens
count-Character at name = refl

pub count-Text : (at : ℕ) (names : List (List ℕ)) → expr_count (e.Text at names) ≡ suc 0
unfolding opens
count-Text at names = refl

pub count-Unary : (at : ℕ) (op : UnaryOp) (v : e.Expr) → expr_count (e.Unary at op v) ≡ suc (expr_count v + 0)
unfolding opens
count-Unary at op v = refl

pub count-Binary : (at : ℕ) (op : BinaryOp) (v z : e.Expr) → expr_count (e.Binary at op v z) ≡ suc (expr_count v + (expr_count z + 0))
unfolding opens
count-Binary at op v z = refl

pub count-Assign : (at : ℕ) (op : AssignOp) (v z : e.Expr) → expr_count (e.Assign at op v z) ≡ suc (expr_count v + (expr_count z + 0))
unfolding opens
count-Assign at op v z = refl

pub count-Conditional : (at : ℕ) (u v z : e.Expr) → expr_count (e.Conditional at u v z) ≡ suc (expr_count u + (expr_count v + (expr_count z + 0)))
unfolding opens
count-Conditional at u v z = refl

pub count-SizeOfValue : (at : ℕ) (v : e.Expr) → expr_count (e.SizeOfValue at v) ≡ suc (expr_count v + 0)
unfolding opens
count-SizeOfValue at v = refl

pub count-Index : (at : ℕ) (v z : e.Expr) → expr_count (e.Index at v z) ≡ suc (expr_count v + (expr_count z + 0))
unfolding opens
count-Index at v z = refl

pub count-Field : (at : ℕ) (v : e.Expr) (name : List ℕ) → expr_count (e.Field at v name) ≡ suc (expr_count v + 0)
unfolding opens
count-Field at v name = refl

pub count-Arrow : (at : ℕ) (v : e.Expr) (name : List ℕ) → expr_count (e.Arrow at v name) ≡ suc (expr_count v + 0)
unfolding opens
count-Arrow at v name = refl

pub count-Postfix : (at : ℕ) (op : StepOp) (v : e.Expr) → expr_count (e.Postfix at op v) ≡ suc (expr_count v + 0)
unfolding opens
count-Postfix at op v = refl

pub count-Cast : (at : ℕ) (ty : TypeName) (v : e.Expr) → expr_count (e.Cast at ty v) ≡ suc (type_count ty.ty + (expr_count v + 0))
unfolding opens
count-Cast at ty v = refl

pub count-SizeOfType : (at : ℕ) (ty : TypeName) → expr_count (e.SizeOfType at ty) ≡ suc (type_count ty.ty + 0)
unfolding opens
count-SizeOfType at ty = refl

pub count-Call : (at : ℕ) (name : List ℕ) (vs : List e.Expr) → expr_count (e.Call at name vs) ≡ suc (list_count expr_node vs)
unfolding opens
count-Call at name vs = ap (λ ns. suc (nodes_count ns)) (expr_row-hidden vs)

pub count-Comma : (at : ℕ) (vs : List e.Expr) → expr_count (e.Comma at vs) ≡ suc (list_count expr_node vs)
unfolding opens
count-Comma at vs = ap (λ ns. suc (nodes_count ns)) (expr_row-hidden vs)

pub count-Basic : (w : BasicType) → type_count (t.Basic w) ≡ suc 0
unfolding opens
count-Basic w = refl

pub count-Named : (name : List ℕ) → type_count (t.Named name) ≡ suc 0
unfolding opens
count-Named name = refl

pub count-Pointer : (ty : t.TypeNode) → type_count (t.Pointer ty) ≡ suc (type_count ty + 0)
unfolding opens
count-Pointer ty = refl

pub count-Array-None : (ty : t.TypeNode) → type_count (t.Array ty None) ≡ suc (type_count ty + 0)
unfolding opens
count-Array-None ty = refl

pub count-Array-Some : (ty : t.TypeNode) (v : e.Expr) → type_count (t.Array ty (Some v)) ≡ suc (type_count ty + (expr_count v + 0))
unfolding opens
count-Array-Some ty v = refl

pub count-Takes : (ty : t.TypeNode) (ps : List Parameter) → type_count (t.Takes ty ps) ≡ suc (type_count ty + list_count parameter_node ps)
unfolding opens
count-Takes ty ps = ap (λ ns. suc (type_count ty + nodes_count ns)) (parameter_row-hidden ps)

pub count-Struct-None : (at : ℕ) (name : Option (List ℕ)) → type_count (t.Struct at name None) ≡ suc 0
unfolding opens
count-Struct-None at name = refl

pub count-Enum-None : (at : ℕ) (name : Option (List ℕ)) → type_count (t.Enum at name None) ≡ suc 0
unfolding opens
count-Enum-None at name = refl

pub count-Struct-Some : (at : ℕ) (name : Option (List ℕ)) (ds : List Declaration) → type_count (t.Struct at name (Some ds)) ≡ suc (list_count member_node ds)
unfolding opens
count-Struct-Some at name ds = ap (λ ns. suc (nodes_count ns)) (member_row-hidden ds)

pub count-Enum-Some : (at : ℕ) (name : Option (List ℕ)) (cs : List Constant) → type_count (t.Enum at name (Some cs)) ≡ suc (list_count constant_node cs)
unfolding opens
count-Enum-Some at name cs = ap (λ ns. suc (nodes_count ns)) (constant_row-hidden cs)

pub count-Block : (vs : List s.Stmt) → stmt_count (s.Block vs) ≡ suc (list_count stmt_node vs)
unfolding opens
count-Block vs = ap (λ ns. suc (nodes_count ns)) (stmt_row-hidden vs)

pub count-If : (c : e.Expr) (v : s.Stmt) (o : Option s.Stmt) → stmt_count (s.If c v o) ≡ suc (expr_count c + (stmt_count v + nodes_count (else_nodes o)))
unfolding opens
count-If c v o = under (stmt_node (s.If c v o)) _ (if-children c v o)

pub count-While : (c : e.Expr) (v : s.Stmt) → stmt_count (s.While c v) ≡ suc (expr_count c + (stmt_count v + 0))
unfolding opens
count-While c v = refl

pub count-Do : (v : s.Stmt) (c : e.Expr) → stmt_count (s.Do v c) ≡ suc (stmt_count v + (expr_count c + 0))
unfolding opens
count-Do v c = refl

pub count-For : (a : ForFirst) (b c : Option e.Expr) (v : s.Stmt) → stmt_count (s.For a b c v) ≡ suc (nodes_count (first_nodes a) + (node_count (part_of_for b) + (node_count (part_of_for c) + (stmt_count v + 0))))
unfolding opens
count-For a b c v = ap suc (nodes_count-append_nodes (first_nodes a) _)

pub count-Switch : (v : e.Expr) (xs : List Section) → stmt_count (s.Switch v xs) ≡ suc (expr_count v + list_count section_node xs)
unfolding opens
count-Switch v xs = ap (λ ns. suc (expr_count v + nodes_count ns)) (section_row-hidden xs)

pub count-Break : (at : ℕ) → stmt_count (s.Break at) ≡ suc 0
unfolding opens
count-Break at = refl

pub count-Continue : (at : ℕ) → stmt_count (s.Continue at) ≡ suc 0
unfolding opens
count-Continue at = refl

pub count-Return : (at : ℕ) (v : Option e.Expr) → stmt_count (s.Return at v) ≡ suc (nodes_count (optional v))
unfolding opens
count-Return at v = refl

pub count-Expression : (v : e.Expr) → stmt_count (s.Expression v) ≡ suc (expr_count v + 0)
unfolding opens
count-Expression v = refl

pub count-Empty : stmt_count s.Empty ≡ 1
unfolding opens
count-Empty = refl

pub count-LocalDeclarator : (v : LocalDeclarator) → stmt_count (s.Local v) ≡ node_count (local_node v)
unfolding opens
count-LocalDeclarator v = refl

pub count-Value : (v : e.Expr) → init_count (i.Value v) ≡ expr_count v
unfolding opens
count-Value v = refl

pub count-List : (at : ℕ) (vs : List i.Init) → init_count (i.List at vs) ≡ suc (list_count init_node vs)
unfolding opens
count-List at vs = ap (λ ns. suc (nodes_count ns)) (init_row-hidden vs)
