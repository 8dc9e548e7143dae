-- The typed unit of a unit without faults is lawful, where its text is spelled so and its parts can be counted.
use Rattle.std.proofs.Common.{◌≡◌, ℕ, List, [], ◌∷◌, Some, None, sym, ap, ◌∙◌, subst, All}
use Rattle.std.proofs.lemmas.List.Elements.{All-head, All-tail}
use Rattle.c_tree.specs.declared.declarations.TranslationUnit.{TranslationUnit}
use Rattle.c_typing_faults.specs.Faults.{sort_faults, head}
use Rattle.c_typing_faults.proofs.First.{some}
use Rattle.c_typed_tree.specs.declared.units.TypedUnit.{TypedUnit}
use Rattle.c_typed_tree.specs.Lawful.{IsLawfulUnit}
use Rattle.c_typing_struct_bodies.specs.Bodies.{TagScope}
use Rattle.c_typing_declarations.specs.declared.walk.UnitSoFar.{UnitSoFar}
use Rattle.c_typing_units.specs.Units.{whole_unit}
use Rattle.c_typing_counts.specs.unit_counts.Counts.{CanBeCounted}
use Rattle.c_typing_text_laws.specs.c_text_bytes.Bytes.{AreBytes}
use Rattle.c_types.specs.c_typed_unit_laws.Made.{HaveBytes, IsSpelled}
use Rattle.c_types.proofs.CTypedUnitLaws.Units.{unit_typed}
use Rattle.c_types.specs.Spellings.{HasSpellings}
use Rattle.c_types.specs.Units.{typed_unit_of, IsTyped}
use Rattle.c_types.proofs.Made.{unit_made}

pub typed_lawful : (unit : TranslationUnit) (typed : TypedUnit) → IsTyped unit typed → IsSpelled unit → CanBeCounted typed → IsLawfulUnit typed
typed_lawful unit typed is spelled counted = record {
  typed = unit_typed unit typed (some (whole_unit unit).1.1.1.faults is.0) (unit_made unit typed is.1) spelled counted;
  structs = counted.structs;
  functions = counted.functions;
  nodes = counted.nodes;
}

have_bytes : (texts : List (List ℕ)) → All AreBytes texts → HaveBytes texts
have_bytes [] all = tt
have_bytes (text ∷ texts) all = (All-head AreBytes text texts all, have_bytes texts (All-tail AreBytes text texts all))

spelled_lawful : (unit : TranslationUnit) (typed : TypedUnit) → IsTyped unit typed → CanBeCounted typed → All AreBytes (whole_unit unit).1.1.1.texts → HasSpellings unit → IsLawfulUnit typed
spelled_lawful unit typed is counted texts has =
    typed_lawful unit typed is (record { names = has.names; initialisers = has.initialisers; texts = have_bytes (whole_unit unit).1.1.1.texts texts }) counted

-- so it is of what is known behind the last declaration
pub state_lawful : (unit : TranslationUnit) (s : UnitSoFar × TagScope) (typed : TypedUnit) → s ≡ whole_unit unit → head (sort_faults s.1.1.1.faults) ≡ None → typed_unit_of s ≡ Some typed → CanBeCounted typed → All AreBytes s.1.1.1.texts → HasSpellings unit → IsLawfulUnit typed
state_lawful unit s typed same none made counted texts =
    spelled_lawful unit typed (ap (λ (v : UnitSoFar × TagScope). head (sort_faults v.1.1.1.faults)) (sym same) ∙ none, ap typed_unit_of (sym same) ∙ made) counted
    (subst (λ (v : UnitSoFar × TagScope). All AreBytes v.1.1.1.texts) same texts)
