-- Lawful objects are laid out. That they are lawful is kept as a proposition, and so is each part of what follows.
use Rattle.std.proofs.Common.{◌≡◌, ℕ, ◌+◌, List, [], ◌∷◌, Option, Some, None, refl, subst}
use Rattle.std.proofs.Math.Logic.{∥∥₁_elim}
use mathlib.Core.HLevel.{×_prop}
use native.Mathlib.Bridge.{le_prop}
use native.Mathlib.Nat.{ℕ_set}
use Rattle.std.specs.Prelude.{slice_get}
use Rattle.mem_objects.specs.declared.DataObject.{DataObject}
use Rattle.mem_objects.specs.declared.DataCell.TheVariants.{AddressPart}
use Rattle.mem_objects.specs.Layout.{place_after, ObjectsLieFrom}
use Rattle.mem_objects.specs.Globals.{Reaches, IsLawfulObject, AreLawful}
use Rattle.frame_memory.specs.flat_globals.Globals.{AreLaidOut}
use Rattle.frame_memory.proofs.FlatGlobals.Lists.{get-below, get-index}

one-lawful : (globals : List DataObject) → AreLawful globals → (k : ℕ) (o : DataObject) → slice_get globals k ≡ Some o → IsLawfulObject globals o
one-lawful globals h k o e = subst (IsLawfulObject globals) (get-index globals k o o e) (h.objects k o (get-below globals k o e))

reach-prop : (plus : ℕ) (o : Option DataObject) → IsProp (Reaches plus o)
reach-prop plus None = λ a b. absurd a
reach-prop plus (Some o) = le_prop

lie-prop : (end : ℕ) (globals : List DataObject) → IsProp (ObjectsLieFrom end globals)
lie-prop end [] = λ a b. refl
lie-prop end (o ∷ os) = ×_prop (ℕ_set o.offset (place_after end)) (lie-prop (o.offset + o.size) os)

pub lawful_ones_are_laid_out : (globals : List DataObject) → ∥ AreLawful globals ∥₁ → AreLaidOut globals
lawful_ones_are_laid_out globals h = record {
  layout = ∥∥₁_elim h (lie-prop 0 globals) (λ l. l.layout);
  cells = λ k o e. ∥∥₁_elim h le_prop (λ l. (one-lawful globals l k o e).cells);
  reaches = λ k o e at global plus part is. ∥∥₁_elim h (reach-prop plus (slice_get globals global)) (λ l. ((one-lawful globals l k o e).lawful at (AddressPart global plus part) is).2);
}
