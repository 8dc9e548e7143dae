-- Turns of the loop over functions that are let go.
use Rattle.std.proofs.Common.{◌≡◌, List, [], ◌∷◌, ◌++◌, length, All, sym, ap, ◌∙◌, subst, arith}
use Rattle.std.proofs.lemmas.List.{append_assoc, append-nil}
use Rattle.std.proofs.lemmas.List.Elements.{All-head, All-tail}
use Rattle.c_typed_tree.specs.declared.types.StructDef.{StructDef}
use Rattle.c_typed_tree.specs.declared.units.TypedFn.{TypedFn}
use Rattle.suifvm_ir.specs.Programs.{VmFunction}
use Rattle.lowering.specs.Lowered.{IsLowered, AreLowered}
use Rattle.lowering.specs.model.Premises.{CanBeLowered}

-- the code so far, with what the rest becomes behind it, is that of all
pub record AreLoweredSoFar (ds : List StructDef) (all rest : List TypedFn) (lowered : List VmFunction) : Type 0 where
  pub whole : (others : List VmFunction) → AreLowered ds rest others → AreLowered ds all (lowered ++ others)
  pub can : All (CanBeLowered ds) rest

pub turn_can : (ds : List StructDef) (all left rest : List TypedFn) (lowered : List VmFunction) (f : TypedFn) → AreLoweredSoFar ds all left lowered → left ≡ f ∷ rest → CanBeLowered ds f
turn_can ds all left rest lowered f so is = All-head (CanBeLowered ds) f rest (subst (All (CanBeLowered ds)) is so.can)

pub turn_more : (ds : List StructDef) (all left rest : List TypedFn) (lowered new : List VmFunction) (f : TypedFn) (g : VmFunction) → AreLoweredSoFar ds all left lowered → left ≡ f ∷ rest → IsLowered ds f g → new ≡ lowered ++ g ∷ []
    → AreLoweredSoFar ds all rest new
turn_more ds all left rest lowered new f g so is one put = record {
  whole = λ others h.
      subst (AreLowered ds all) (sym (append_assoc lowered (g ∷ []) others) ∙ ap (λ l. l ++ others) (sym put))
      (so.whole (g ∷ others) (subst (λ l. AreLowered ds l (g ∷ others)) (sym is) (one, h)));
  can = All-tail (CanBeLowered ds) f rest (subst (All (CanBeLowered ds)) is so.can);
}

pub turn_last : (ds : List StructDef) (all left : List TypedFn) (lowered : List VmFunction) → AreLoweredSoFar ds all left lowered → length left ≡ 0 → AreLowered ds all lowered
turn_last ds all [] lowered so none = subst (AreLowered ds all) (append-nil lowered) (so.whole [] tt)
turn_last ds all (f ∷ left) lowered so none = absurd (omega (arith, none))
