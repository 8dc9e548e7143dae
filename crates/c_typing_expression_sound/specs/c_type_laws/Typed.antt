-- What is well typed of what a rule gives (C99 6.5): the tree of an expression is well typed in a context, it has the
-- type that the expression has, and where the expression is a place, so is the tree.
use Rattle.std.specs.Prelude.{◌≡◌, ℕ, ◌<◌, ◌^◌, nat_le, Bool, true, false, IsTrue, IsFalse, List, [], ◌∷◌, map, slice_get, Option, Some, None}
use Rattle.c_tree.specs.declared.expressions.UnaryOp.{UnaryOp}
use Rattle.c_tree.specs.declared.expressions.UnaryOp.TheVariants as u
use Rattle.c_typing_rules.specs.declared.c_typing_declared_types.declared.DeclaredType.{DeclaredType}
use Rattle.c_typing_rules.specs.declared.c_typing_declared_types.declared.DeclaredType.TheVariants as d
use Rattle.c_typed_tree.specs.declared.types.CType.{CType}
use Rattle.c_typed_tree.specs.declared.types.StructDef.{StructDef}
use Rattle.c_typed_tree.specs.declared.units.Local.{Local}
use Rattle.c_typed_tree.specs.declared.expressions.TExpr.{TExpr}
use Rattle.c_typed_tree.specs.declared.expressions.Callee.{Callee}
use Rattle.c_typed_tree.specs.Types.{PlainType}
use Rattle.c_typed_tree.specs.Expressions.{Expr, type_of}
use Rattle.c_typed_tree.specs.View.{type_view, expr_view}
use Rattle.c_typed_tree.specs.Layout.{is_complete, is_object, size_of}
use Rattle.c_typed_tree.specs.Typing.{Context, callee_signature, is_promoted, is_scalar, is_array, is_fit, is_member, is_place, is_in_memory, is_typed, depth_behind, most_depth}
use Rattle.c_typing_rules.specs.declared.typed.LvalueKind.{LvalueKind}
use Rattle.c_typing_rules.specs.declared.typed.LvalueKind.TheVariants as p
use Rattle.c_typing_rules.specs.declared.typed.TypedExpression.{TypedExpression}
use Rattle.c_typing_rules.specs.Values.{type_of_integer}
use Rattle.c_typing_primary_rules.specs.declared.switches.SwitchValue.{SwitchValue}
use Rattle.c_typing_place_rules.specs.declared.members.FoundMember.{FoundMember}
use Rattle.c_typing_place_rules.specs.Places.{is_somewhere}

-- a local is in memory where it is there
abbrev pub may_be_memory : Option Local → Bool
may_be_memory None = true
may_be_memory (Some l) = l.in_memory

-- a place that is an object of memory or a part of one, where each local is as the list says
abbrev pub is_memory : List Local → LvalueKind → Bool
is_memory locals p.Nowhere = false
is_memory locals (p.Local number) = may_be_memory (slice_get locals number)
is_memory locals (p.Global number) = true
is_memory locals p.Elsewhere = true

-- the tree is a place too, of the memory where the expression is; and its type is one of which there may be an
-- address
pub record IsPlaced (c : Context) (stands : LvalueKind) (x : Expr) : Type 0 where
  pub place : IsTrue (is_place x)
  pub memory : IsTrue (is_memory c.locals stands) → IsTrue (is_in_memory c.locals x)
  pub depth : IsTrue (nat_le (depth_behind (type_of x)) most_depth)

-- an expression that was judged; an array always stands somewhere
pub record IsTypedIn (c : Context) (a : TypedExpression) : Type 0 where
  pub tree : IsTrue (is_typed c (expr_view a.tree))
  pub type : type_of (expr_view a.tree) ≡ type_view a.ty
  pub place : IsTrue (is_somewhere a.place) → IsPlaced c a.place (expr_view a.tree)
  pub array : IsTrue (is_array (type_view a.ty)) → IsTrue (is_somewhere a.place)

abbrev pub AreTypedIn : Context → List TypedExpression → Type 0
AreTypedIn c [] = Unit {0}
AreTypedIn c (a ∷ rest) = IsTypedIn c a × AreTypedIn c rest

-- a tree of a value of a type
pub record IsOfType (c : Context) (ty : PlainType) (tree : TExpr) : Type 0 where
  pub typed : IsTrue (is_typed c (expr_view tree))
  pub type : type_of (expr_view tree) ≡ ty

-- each tree has the type beside it
abbrev pub AreOfTypes : Context → List CType → List TExpr → Type 0
AreOfTypes c [] [] = Unit {0}
AreOfTypes c [] (x ∷ xs) = ⊥
AreOfTypes c (t ∷ ts) [] = ⊥
AreOfTypes c (t ∷ ts) (x ∷ xs) = IsOfType c (type_view t) x × AreOfTypes c ts xs

-- a struct that is complete in the one list is the same in the other
abbrev pub AreKnown : (structs known : List StructDef) → Type 0
AreKnown structs known = (number : ℕ) → IsTrue (is_complete (slice_get structs number)) →
    slice_get known number ≡ slice_get structs number

-- what was found of a name is a member of the struct, of a type of the unit
pub record IsMemberOf (c : Context) (structure : PlainType) (m : FoundMember) : Type 0 where
  pub member : IsTrue (is_member c.structs (type_view m.ty) structure m.number)
  pub fit : IsTrue (is_fit c.structs (type_view m.ty))
  pub depth : IsTrue (nat_le (depth_behind (type_view m.ty)) most_depth)

abbrev pub AreFit : List StructDef → List CType → Type 0
AreFit structs [] = Unit {0}
AreFit structs (ty ∷ tys) = IsTrue (is_fit structs (type_view ty)) × AreFit structs tys

-- a function that may be called: what it gives and takes, each of which is a type of values
pub record IsFunctionOf (c : Context) (callee : Callee) (result : CType) (parameters : List CType) : Type 0 where
  pub signature : callee_signature c callee
      ≡ Some (record { result = type_view result; params = map type_view parameters })
  pub fit : IsTrue (is_fit c.structs (type_view result))
  pub value : IsFalse (is_array (type_view result))
  pub parameter_types : AreFit c.structs parameters

-- the operand of a `switch`, of its promoted type
pub record IsSwitched (c : Context) (s : SwitchValue) : Type 0 where
  pub value : IsOfType c (type_view (type_of_integer s.ty)) s.tree
  pub promoted : IsTrue (is_promoted (type_view (type_of_integer s.ty)))

-- `&` takes the address of a place that is in memory
abbrev pub TakesMemory : Context → UnaryOp → LvalueKind → Type 0
TakesMemory c u.Address stands = IsTrue (is_somewhere stands) → IsTrue (is_memory c.locals stands)
TakesMemory c u.Increment stands = Unit {0}
TakesMemory c u.Decrement stands = Unit {0}
TakesMemory c u.Dereference stands = Unit {0}
TakesMemory c u.Plus stands = Unit {0}
TakesMemory c u.Minus stands = Unit {0}
TakesMemory c u.Invert stands = Unit {0}
TakesMemory c u.Not stands = Unit {0}

-- a type of values that a type name gives may be that of an expression
abbrev pub IsFitType : Context → DeclaredType → Type 0
IsFitType c (d.Value ty) = IsTrue (is_fit c.structs (type_view ty))
IsFitType c (d.Unsized element) = Unit {0}
IsFitType c (d.Function result parameters) = Unit {0}

-- the size of an object of a type is a word
abbrev pub IsSmall : List StructDef → CType → Type 0
IsSmall structs ty = IsTrue (is_object structs (type_view ty)) → size_of structs (type_view ty) < 2 ^ 64

abbrev pub IsSmallType : List StructDef → DeclaredType → Type 0
IsSmallType structs (d.Value ty) = IsSmall structs ty
IsSmallType structs (d.Unsized element) = Unit {0}
IsSmallType structs (d.Function result parameters) = Unit {0}

-- a condition, as a tree
pub record IsTested (c : Context) (tree : TExpr) : Type 0 where
  pub typed : IsTrue (is_typed c (expr_view tree))
  pub scalar : IsTrue (is_scalar (type_of (expr_view tree)))
