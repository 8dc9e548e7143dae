-- The code of a unit within the limit of weight has few registers in each function.
use Rattle.std.proofs.Common.{ℕ, ◌+◌, ◌*◌, ◌^◌, ◌≤◌, List, [], ◌∷◌, sum_by, subst, arith}
use Rattle.std.specs.Prelude.{All}
use Rattle.std.proofs.lemmas.List.Elements.{All-nil, All-cons}
use Rattle.std.proofs.lemmas.List.Sums.{sum_by-cons}
use Rattle.c_typed_tree.specs.declared.types.StructDef.{StructDef}
use Rattle.c_typed_tree.specs.declared.units.TypedFn.{TypedFn}
use Rattle.c_typed_tree.specs.declared.units.TypedUnit.{TypedUnit}
use Rattle.c_typed_tree.specs.Weight.{function_weight, unit_weight}
use Rattle.c_typing_weight.specs.Limits.{most_weight}
use Rattle.suifvm_ir.specs.Programs.{VmFunction}
use Rattle.lowering.specs.Lowered.{AreLowered, AreWithinWeight, AllStandFor}

-- the functions that lowering gives stand for those of the unit
pub lowered_stand : (ds : List StructDef) (fs : List TypedFn) (gs : List VmFunction) → AreLowered ds fs gs → AreWithinWeight ds fs gs → AllStandFor ds fs gs
lowered_stand ds [] [] lowered within = tt
lowered_stand ds [] (g ∷ gs) lowered within = absurd lowered
lowered_stand ds (f ∷ fs) [] lowered within = absurd lowered
lowered_stand ds (f ∷ fs) (g ∷ gs) lowered within =
    let temps = lowered.0.temps in (
      record { name = lowered.0.name; params = lowered.0.params; objects = lowered.0.objects; registers = omega (arith, temps); within = within.0 },
      lowered_stand ds fs gs lowered.1 within.1,
    )

few : (weight more temps : ℕ) → temps ≤ 7 * weight → 1 + weight + more ≤ most_weight → temps ≤ 2 ^ 24
few weight more temps registers light = omega (arith, registers, light)

rest : (weight more : ℕ) → 1 + weight + more ≤ most_weight → more ≤ most_weight
rest weight more light = omega (arith, light)

few_registers : (ds : List StructDef) (fs : List TypedFn) (gs : List VmFunction) → AllStandFor ds fs gs → sum_by (λ (f : TypedFn). 1 + function_weight ds f) fs ≤ most_weight
    → All (λ (g : VmFunction). g.temps ≤ 2 ^ 24) gs
few_registers ds [] [] stand light = All-nil (λ (g : VmFunction). g.temps ≤ 2 ^ 24)
few_registers ds [] (g ∷ gs) stand light = absurd stand
few_registers ds (f ∷ fs) [] stand light = absurd stand
few_registers ds (f ∷ fs) (g ∷ gs) stand light =
    let registers = stand.0.within.registers in
    let both : 1 + function_weight ds f + sum_by (λ (x : TypedFn). 1 + function_weight ds x) fs ≤ most_weight =
    subst (λ n. n ≤ most_weight) (sum_by-cons (λ (x : TypedFn). 1 + function_weight ds x) f fs) light in
    All-cons (λ (x : VmFunction). x.temps ≤ 2 ^ 24) g gs (few (function_weight ds f) (sum_by (λ (x : TypedFn). 1 + function_weight ds x) fs) g.temps registers both)
    (few_registers ds fs gs stand.1 (rest (function_weight ds f) (sum_by (λ (x : TypedFn). 1 + function_weight ds x) fs) both))

pub unit_registers : (u : TypedUnit) (gs : List VmFunction) → AllStandFor u.structs u.functions gs → unit_weight u ≤ most_weight → All (λ (g : VmFunction). g.temps ≤ 2 ^ 24) gs
unit_registers u gs stand light = few_registers u.structs u.functions gs stand (rest 0 (sum_by (λ (x : TypedFn). 1 + function_weight u.structs x) u.functions) light)
