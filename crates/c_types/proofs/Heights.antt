-- The functions of a typed unit are among those that were kept, and so within the height of the unit's tree.
use Rattle.std.proofs.Common.{◌≡◌, ℕ, zero, suc, ◌*◌, ◌≤◌, List, [], ◌∷◌, slice_get, Some, refl, sym, ap, ◌∙◌, subst, All}
use Rattle.std.proofs.lemmas.List.Elements.{All-head, All-tail}
use Rattle.c_tree.specs.declared.declarations.TranslationUnit.{TranslationUnit}
use Rattle.c_tree.specs.Nodes.{unit_height}
use Rattle.c_typed_tree.specs.declared.units.TypedFn.{TypedFn}
use Rattle.c_typed_tree.specs.declared.units.TypedUnit.{TypedUnit}
use Rattle.c_typed_tree.specs.c_typed_height.Heights.{list_height, function_height, typed_unit_height}
use Rattle.c_typing_struct_bodies.specs.Bodies.{TagScope}
use Rattle.c_typing_declarations.specs.declared.walk.UnitFunction.{UnitFunction}
use Rattle.c_typing_declarations.specs.declared.walk.UnitSoFar.{UnitSoFar}
use Rattle.c_typing_units.specs.Units.{whole_unit}
use Rattle.c_typing_function_sound.proofs.CTypingHeightLaws.CUnitHeightLaws.Parts.{IsLow, nothing_low, both_low}
use Rattle.c_typing_function_sound.proofs.CTypingHeightLaws.CUnitHeightLaws.Units.{functions_within}
use Rattle.c_types.specs.Units.{typed_unit, typed_unit_of, IsTyped}
use Rattle.c_types.proofs.Made.{unit_made}

-- what stands in a list of functions of which all are so
one_of : (P : UnitFunction → Type 0) (fs : List UnitFunction) (place : ℕ) (one : UnitFunction) → All P fs → slice_get fs place ≡ Some one → P one
one_of P [] place one h e = let clash : ⊥ = cc in absurd clash
one_of P (f ∷ fs) zero one h e = let same : f ≡ one = cc in subst P same (All-head P f fs h)
one_of P (f ∷ fs) (suc place) one h e = one_of P fs place one (All-tail P f fs h) e

tallest : (n : ℕ) (fs : List TypedFn) → ((k : ℕ) (made : TypedFn) → slice_get fs k ≡ Some made → IsLow function_height n made) → IsLow (list_height function_height) n fs
tallest n [] h = nothing_low n
tallest n (made ∷ fs) h = both_low (function_height made) (list_height function_height fs) n (h zero made refl) (tallest n fs (λ k more e. h (suc k) more e))

unit_within : (unit : TranslationUnit) (typed : TypedUnit) → typed_unit unit ≡ Some typed → typed_unit_height typed ≤ 3 * unit_height unit
unit_within unit typed e =
    let n = unit_height unit in
    let made = unit_made unit typed e in
    tallest n typed.functions (λ k f at.
    let kept = made.functions k f at in
    one_of (λ one. IsLow function_height n one.function) (whole_unit unit).0.functions kept.place (record { number = k; function = f }) (functions_within unit) kept.there)

pub typed_within : (unit : TranslationUnit) (typed : TypedUnit) → IsTyped unit typed → typed_unit_height typed ≤ 3 * unit_height unit
typed_within unit typed is = unit_within unit typed is.1

-- so it is of what is known behind the last declaration
pub state_within : (unit : TranslationUnit) (s : UnitSoFar × TagScope) (typed : TypedUnit) → s ≡ whole_unit unit → typed_unit_of s ≡ Some typed → typed_unit_height typed ≤ 3 * unit_height unit
state_within unit s typed same made = unit_within unit typed (ap typed_unit_of (sym same) ∙ made)
