-- What names of file scope mean, against how they were declared, and against the functions that were kept.
use Rattle.std.specs.Prelude.{◌≡◌, ℕ, ◌<◌, IsTrue, IsFalse, List, [], ◌∷◌, map, Option, Some, None, codes}
use Rattle.c_typing_scopes.specs.Names.{find}
use Rattle.c_typed_tree.specs.declared.types.CType.{CType}
use Rattle.c_typed_tree.specs.declared.expressions.Builtin.{Builtin}
use Rattle.c_typed_tree.specs.declared.expressions.Callee.TheVariants as c
use Rattle.c_typed_tree.specs.Lawful.{signature_of}
use Rattle.c_typed_tree.specs.Typing.{is_same_type, int}
use Rattle.c_typed_tree.specs.View.{type_view}
use Rattle.c_typing_rules.specs.declared.c_typing_declared_types.declared.DeclaredType.{DeclaredType}
use Rattle.c_typing_rules.specs.declared.c_typing_declared_types.declared.DeclaredType.TheVariants as d
use Rattle.c_typing_state.specs.declared.env.Env.{Env}
use Rattle.c_typing_state.specs.declared.meanings.NameMeaning.{NameMeaning}
use Rattle.c_typing_state.specs.declared.meanings.NameMeaning.TheVariants as m
use Rattle.c_typing_state.specs.Scopes.{meaning_of}
use Rattle.c_typing_unit_names.specs.declared.names.NameDeclaration.{NameDeclaration}
use Rattle.c_typing_unit_names.specs.declared.names.UnitNames.{UnitNames}
use Rattle.c_typing_declarations.specs.declared.walk.UnitFunction.{UnitFunction}
use Rattle.c_typing_declarations.specs.declared.walk.UnitSoFar.{UnitSoFar}
use Rattle.c_typing_declarations.specs.Walk.{is_main}

-- what a name means it means later
abbrev pub Keeps : (env later : Env) → Type 0
Keeps env later = (q : List ℕ) (x : NameMeaning) → meaning_of env q ≡ Some x → meaning_of later q ≡ Some x

-- ---- a declaration of the type that the name has

abbrev pub IsDeclaredValue : DeclaredType → CType → Type 0
IsDeclaredValue (d.Value of) ty = type_view of ≡ type_view ty
IsDeclaredValue (d.Unsized element) ty = ⊥
IsDeclaredValue (d.Function of parameters) ty = ⊥

abbrev pub IsFunctionLike : DeclaredType → CType → List CType → Type 0
IsFunctionLike (d.Value ty) of tys = ⊥
IsFunctionLike (d.Unsized element) of tys = ⊥
IsFunctionLike (d.Function result parameters) of tys =
    (type_view result ≡ type_view of) × (map type_view parameters ≡ map type_view tys)

abbrev pub Agrees : DeclaredType → NameMeaning → Type 0
Agrees ty m.Faulty = Unit {0}
Agrees ty (m.Undefined number) = Unit {0}
Agrees ty (m.Local number of) = Unit {0}
Agrees ty (m.Object number of) = IsDeclaredValue ty of
Agrees ty (m.Constant word) = Unit {0}
Agrees ty (m.Function callee of tys) = IsFunctionLike ty of tys
Agrees ty (m.Typedef of) = Unit {0}

abbrev pub MeaningAgrees : DeclaredType → Option NameMeaning → Type 0
MeaningAgrees ty None = Unit {0}
MeaningAgrees ty (Some x) = Agrees ty x

-- so it is of each name that was declared
abbrev pub HasTypes : UnitNames → Env → Type 0
HasTypes u env =
    (q : List ℕ) (a : ℕ × NameDeclaration) → find q u.declared ≡ Some a → MeaningAgrees a.1.ty (meaning_of env q)

-- ---- functions

-- the name of a function that was kept means it
pub record IsNamed (env : Env) (g : UnitFunction) : Type 0 where
  pub of : CType
  pub tys : List CType
  pub meaning : meaning_of env g.function.name ≡ Some (m.Function (c.Function g.number) of tys)
  pub result : type_view g.function.result ≡ type_view of
  pub parameters : (signature_of g.function).params ≡ map type_view tys

abbrev pub AreNamed : Env → List UnitFunction → Type 0
AreNamed env [] = Unit {0}
AreNamed env (g ∷ gs) = IsNamed env g × AreNamed env gs

-- a function of the unit, of type `int (void)`
abbrev pub IsStart : Option NameMeaning → Type 0
IsStart None = ⊥
IsStart (Some m.Faulty) = ⊥
IsStart (Some (m.Undefined number)) = ⊥
IsStart (Some (m.Local number ty)) = ⊥
IsStart (Some (m.Object number ty)) = ⊥
IsStart (Some (m.Constant word)) = ⊥
IsStart (Some (m.Function (c.Builtin b) of tys)) = ⊥
IsStart (Some (m.Function (c.Function k) of tys)) =
    IsTrue (is_same_type (type_view of) int) × (map type_view tys ≡ [])
IsStart (Some (m.Typedef ty)) = ⊥

pub record HasNamedFunctions (u : UnitSoFar) (env : Env) : Type 0 where
  -- the numbers of functions are those of the unit
  pub below : (q : List ℕ) (k : ℕ) (of : CType) (tys : List CType) →
      meaning_of env q ≡ Some (m.Function (c.Function k) of tys) → k < u.names.functions
  -- two names of one number are one
  pub one : (q r : List ℕ) (k : ℕ) (of : CType) (tys : List CType) (also : CType) (others : List CType) →
      meaning_of env q ≡ Some (m.Function (c.Function k) of tys) →
      meaning_of env r ≡ Some (m.Function (c.Function k) also others) → q ≡ r
  pub kept : AreNamed env u.functions
  -- no built-in function is `main`
  pub apart : (q : List ℕ) (b : Builtin) (of : CType) (tys : List CType) →
      meaning_of env q ≡ Some (m.Function (c.Builtin b) of tys) → IsFalse (is_main q)
  pub main : IsTrue u.has_main → IsStart (meaning_of env (codes "main"))
