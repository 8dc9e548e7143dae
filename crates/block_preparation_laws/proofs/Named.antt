-- The names of functions over temporaries.
use Rattle.std.proofs.Common.{◌≡◌, ℕ, List, [], ◌∷◌, map, refl, sym, ap, ◌∙◌, subst}
use Rattle.std.specs.Prelude.{All, IsTrue}
use Rattle.std.specs.List.{AllZip}
use Rattle.std.proofs.lemmas.List.Elements.{All-nil, All-cons, All-head, All-tail}
use Rattle.alpha_items.specs.Items.{is_name}
use Rattle.c_typed_tree.specs.declared.types.StructDef.{StructDef}
use Rattle.c_typed_tree.specs.declared.units.TypedFn.{TypedFn}
use Rattle.c_typed_tree.specs.declared.units.TypedUnit.{TypedUnit}
use Rattle.c_typed_tree.specs.Lawful.{IsTypedFn}
use Rattle.suifvm_ir.specs.Programs.{VmFunction}
use Rattle.temp_ir.specs.Programs.{TempFn}
use Rattle.lowering.specs.Lowered.{AllStandFor}
use Rattle.alpha_select.specs.Selection.{AreSelected}
use Rattle.block_passes.specs.Keeps.{KeepsFunction}
use Rattle.block_preparation_laws.specs.Fit.{TempFunctionsHaveNames}

module _ (unit : TypedUnit) where
  abbrev IsNamed : TempFn → Type 0
  IsNamed g = IsTrue (is_name g.name)

  record AreNamed (fs : List TypedFn) (gs : List TempFn) : Type 0 where
    pub same : map (λ (g : TempFn). g.name) gs ≡ map (λ (f : TypedFn). f.name) fs
    pub names : All (IsTypedFn unit) fs → All IsNamed gs

  none : AreNamed [] []
  none = record { same = refl; names = λ h. All-nil IsNamed }

  more : (f : TypedFn) (g : TempFn) (fs : List TypedFn) (gs : List TempFn) → g.name ≡ f.name → AreNamed fs gs → AreNamed (f ∷ fs) (g ∷ gs)
  more f g fs gs e rest = record {
    same = ap (λ n. n ∷ map (λ (x : TempFn). x.name) gs) e ∙ ap (λ ns. f.name ∷ ns) rest.same;
    names = λ h.
        All-cons IsNamed g gs (subst (λ n. IsTrue (is_name n)) (sym e) (All-head (IsTypedFn unit) f fs h).name)
        (rest.names (All-tail (IsTypedFn unit) f fs h));
  }

  all : (splits : ℕ) (ds : List StructDef) (fs : List TypedFn) (vs : List VmFunction) (ss gs : List TempFn) → AllStandFor ds fs vs → AreSelected vs ss → AllZip (KeepsFunction splits) ss gs → AreNamed fs gs
  all splits ds [] [] [] [] lowered selected p = none
  all splits ds [] [] [] (g ∷ gs) lowered selected p = absurd p
  all splits ds [] [] (s ∷ ss) gs lowered selected p = absurd selected
  all splits ds [] (v ∷ vs) ss gs lowered selected p = absurd lowered
  all splits ds (f ∷ fs) [] ss gs lowered selected p = absurd lowered
  all splits ds (f ∷ fs) (v ∷ vs) [] gs lowered selected p = absurd selected
  all splits ds (f ∷ fs) (v ∷ vs) (s ∷ ss) [] lowered selected p = absurd p
  all splits ds (f ∷ fs) (v ∷ vs) (s ∷ ss) (g ∷ gs) lowered selected p =
      more f g fs gs (p.0.name ∙ selected.0.name ∙ lowered.0.name) (all splits ds fs vs ss gs lowered.1 selected.1 p.1)

pub functions_named : TempFunctionsHaveNames
functions_named splits unit program selected after lowered s p =
    let n = all unit splits unit.structs unit.functions program.functions selected.functions after.functions lowered s p.functions in
    record { same = n.same; names = n.names }
