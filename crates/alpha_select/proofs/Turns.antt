-- Turns of the loop over functions that are let go.
use Rattle.std.proofs.Common.{◌≡◌, List, [], ◌∷◌, ◌++◌, length, All, sym, ap, ◌∙◌, subst, arith}
use Rattle.std.proofs.lemmas.List.{append_assoc, append-nil}
use Rattle.std.proofs.lemmas.List.Elements.{All-nil, All-cons, All-head, All-tail}
use Rattle.pass_core.specs.Functions.{AllInsns}
use Rattle.suifvm_ir.specs.Programs.{VmFunction}
use Rattle.temp_ir.specs.Programs.{TempFn}
use Rattle.selection_code.specs.Fields.{HasFields}
use Rattle.alpha_select.specs.Selection.{IsSelectedFunction, AreSelected}
use Rattle.alpha_select.specs.model.Limits.{IsWithinLimits}

abbrev FieldsFit : VmFunction → Type 0
FieldsFit f = AllInsns HasFields f.blocks

-- those that are selected, with what the rest becomes behind them, are what all become; and all have fields that fit
-- where the rest has
pub record AreSelectedSoFar (all rest : List VmFunction) (selected : List TempFn) : Type 0 where
  pub whole : (others : List TempFn) → AreSelected rest others → AreSelected all (selected ++ others)
  pub fields : All (λ (f : VmFunction). AllInsns HasFields f.blocks) rest → All (λ (f : VmFunction). AllInsns HasFields f.blocks) all
  pub within : All IsWithinLimits rest

pub turn_within : (all left rest : List VmFunction) (selected : List TempFn) (f : VmFunction) → AreSelectedSoFar all left selected → left ≡ f ∷ rest → IsWithinLimits f
turn_within all left rest selected f so is = All-head IsWithinLimits f rest (subst (All IsWithinLimits) is so.within)

pub turn_more : (all left rest : List VmFunction) (selected new : List TempFn) (f : VmFunction) (g : TempFn) → AreSelectedSoFar all left selected → left ≡ f ∷ rest → IsSelectedFunction f g → AllInsns HasFields f.blocks
    → new ≡ selected ++ g ∷ [] → AreSelectedSoFar all rest new
turn_more all left rest selected new f g so is one fit put = record {
  whole = λ others h.
      subst (AreSelected all) (sym (append_assoc selected (g ∷ []) others) ∙ ap (λ l. l ++ others) (sym put))
      (so.whole (g ∷ others) (subst (λ l. AreSelected l (g ∷ others)) (sym is) (one, h)));
  fields = λ h. so.fields (subst (All FieldsFit) (sym is) (All-cons FieldsFit f rest fit h));
  within = All-tail IsWithinLimits f rest (subst (All IsWithinLimits) is so.within);
}

pub turn_last : (all left : List VmFunction) (selected : List TempFn) → AreSelectedSoFar all left selected → length left ≡ 0 → AreSelected all selected
turn_last all [] selected so none = subst (AreSelected all) (append-nil selected) (so.whole [] tt)
turn_last all (f ∷ left) selected so none = absurd (omega (arith, none))

pub fields_fit : (all left : List VmFunction) (selected : List TempFn) → AreSelectedSoFar all left selected → length left ≡ 0 → All (λ (f : VmFunction). AllInsns HasFields f.blocks) all
fields_fit all [] selected so none = so.fields (All-nil FieldsFit)
fields_fit all (f ∷ left) selected so none = absurd (omega (arith, none))
