-- Something that is judged is found, unless a fault was noted or a use of what is never defined.
use Rattle.std.specs.Prelude.{◌≡◌, ℕ, Bool, true, false, IsTrue, List, [], Option, is_some}
use Rattle.std.specs.List.{list_all}
use Rattle.c_tree.specs.declared.expressions.Expr.{Expr}
use Rattle.c_tree.specs.declared.types.TypeNode.{TypeNode}
use Rattle.c_typing_rules.specs.declared.c_typing_declared_types.declared.DeclaredType.{DeclaredType}
use Rattle.c_typing_scopes.specs.Names.{Entry}
use Rattle.c_typing_state.specs.declared.env.Env.{Env}
use Rattle.c_typing_state.specs.declared.meanings.NameMeaning.{NameMeaning}
use Rattle.c_typing_state.specs.declared.meanings.NameMeaning.TheVariants as m
use Rattle.c_typing_state.specs.declared.notes.Notes.{Notes}
use Rattle.c_typing_judgements.specs.Leaves.{leaf}
use Rattle.c_typing_judgements.specs.Types.{JudgementState}
use Rattle.c_typing_expressions.specs.Expressions.{judge, derive}

-- no fault was noted, and no use of what is never defined
abbrev pub IsClean : Notes → Type 0
IsClean n = (n.faults ≡ []) × (n.uses ≡ [])

-- ---- no declaration of a name in scope, or of a member, has a fault

abbrev pub is_sound : NameMeaning → Bool
is_sound m.Faulty = false
is_sound (m.Undefined number) = true
is_sound (m.Local number ty) = true
is_sound (m.Object number ty) = true
is_sound (m.Constant word) = true
is_sound (m.Function callee result parameters) = true
is_sound (m.Typedef ty) = true

abbrev pub are_sound_names : List (Entry NameMeaning) → Bool
are_sound_names names = list_all (λ (e : Entry NameMeaning). is_sound e.value) names

abbrev pub are_sound_members : List (Entry (Option ℕ)) → Bool
are_sound_members names = list_all (λ (e : Entry (Option ℕ)). is_some e.value) names

abbrev pub NamesAreSound : JudgementState → Type 0
NamesAreSound s = IsTrue (are_sound_names s.0.names) × IsTrue (list_all are_sound_members s.1.members)

-- ---- from one state to a later one, in which nothing was noted

pub record Tells (X : Type 0) (s later : JudgementState) : Type 0 where
  pub before : IsClean later.1 → IsClean s.1
  pub stays : IsClean later.1 → NamesAreSound s → NamesAreSound later
  pub found : IsClean later.1 → NamesAreSound s → X

abbrev pub IsFound : {A : Type 0} → Option A → Type 0
IsFound o = IsTrue (is_some o)

-- what is judged is found
abbrev pub YieldsFound : {A : Type 0} → JudgementState → Option A × JudgementState → Type 0
YieldsFound s r = Tells (IsFound r.0) s r.1

abbrev pub ExpressionsAreFound : Type 0
ExpressionsAreFound = (x : Expr) (s : JudgementState) → YieldsFound s (judge x s)

abbrev pub SpecifiersAreFound : Type 0
SpecifiersAreFound =
    (env : Env) (at : ℕ) (node : TypeNode) (n : Notes) → Tells (IsFound (leaf env at node n).0) (env, n)
    (env, (leaf env at node n).1)

-- a declarator makes a type of the type of its specifier, if that was found
abbrev pub DeclaratorsAreFound : Type 0
DeclaratorsAreFound =
    (at : ℕ) (node : TypeNode) (of : Option DeclaredType) (s : JudgementState) →
    Tells (IsFound of → IsFound (derive at node of s).0) s (derive at node of s).1
