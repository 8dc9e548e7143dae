-- Functions over temporaries by those of a unit, one by one and all.
use Rattle.std.proofs.Common.{◌≡◌, ℕ, zero, suc, ◌^◌, ◌≤◌, List, [], ◌∷◌, length, map, Some, slice_get, refl, sym, ap, ◌∙◌, subst, arith}
use Rattle.std.specs.Prelude.{All}
use Rattle.std.specs.List.{AllZip}
use Rattle.std.proofs.lemmas.List.Sums.{sum_by-cons}
use Rattle.std.proofs.lemmas.List.Elements.{All-nil, All-cons, All-head, All-tail}
use Rattle.c_typed_tree.specs.declared.types.StructDef.{StructDef}
use Rattle.c_typed_tree.specs.declared.units.TypedFn.{TypedFn}
use Rattle.c_typed_tree.specs.Weight.{function_weight}
use Rattle.pass_core.specs.Functions.{AllInsns}
use Rattle.suifvm_ir.specs.Programs.{VmFunction, function_size, program_size}
use Rattle.suifvm_ir.specs.Cost.{cost}
use Rattle.temp_ir.specs.Programs.{TempFn}
use Rattle.temp_ir.specs.Cost.{bulk, bulk_when_split}
use Rattle.suifvm_zero_branches.specs.Tests.{tested_block}
use Rattle.suifvm_zero_branches.proofs.Functions.{tested_function, size_kept}
use Rattle.alloc_model.specs.Effect.{widest_call}
use Rattle.lowering.specs.Lowered.{StandsFor, AllStandFor}
use Rattle.alpha_select.specs.Selection.{IsSelectedFunction, AreSelected, CostLittle}
use Rattle.frame_emitter.specs.Settings.{most_arguments}
use Rattle.frame_bounds.specs.Near.{IsNear}
use Rattle.block_pass_laws.specs.argument_laws.Kept.{AreWithinBlocks, BlocksAreWithinFunctions}
use Rattle.block_passes.specs.Clauses.{IsSplit}
use Rattle.block_passes.specs.Keeps.{KeepsFunction}
use Rattle.block_preparation_laws.specs.near_arguments.Near.{SelectedFunctionsAreNear}
use Rattle.block_preparation_laws.specs.selected_widths.Widths.{SelectedBlocksAreWithin, SelectedCallsAreNarrow, HasWidths}
use Rattle.block_preparation_laws.proofs.NearArguments.Places.{near_places, places_near}
use Rattle.block_preparation_laws.specs.Fit.{IsTempFunctionOf, TempFunctionsFit}

-- where edges were split at most once, a function has at most the bulk that was counted before
bulk_kept : (f g : TempFn) → KeepsFunction 1 f g → bulk g ≤ bulk_when_split f
bulk_kept f g p =
    let insns = p.sizes.insns in
    let edges = p.sizes.edges in
    let calls = p.sizes.calls in
    omega (arith, insns, edges, calls)

module _ (selected_within : SelectedBlocksAreWithin) (calls_narrow : SelectedCallsAreNarrow) (selected_near : SelectedFunctionsAreNear) (functions_within : BlocksAreWithinFunctions) (ds : List StructDef) where
  -- the widths and the argument places of the code of a function, behind the passes
  widths : (most : ℕ) (s g : TempFn) → AreWithinBlocks s.blocks → widest_call s.blocks ≤ most → KeepsFunction 1 s g → HasWidths most g.blocks
  widths most s g within narrow p =
      let less = p.arguments.narrow in
      record {
        within = functions_within g.blocks (p.arguments.within within);
        narrow = omega (arith, narrow, less);
      }

  one : (f : TypedFn) (v : VmFunction) (s g : TempFn) → StandsFor ds f v → function_size v ≤ 2 ^ 24 → IsSelectedFunction v s → bulk_when_split s ≤ cost v → KeepsFunction 1 s g → IsSplit g → IsTempFunctionOf ds f g
  one f v s g stands small selected little p split =
      let size : function_size (tested_function v) ≤ 2 ^ 24 = omega (arith, size_kept v, small) in
      let near : AllInsns IsNear s.blocks = subst (AllInsns IsNear) (sym selected.blocks) (selected_near (tested_function v) size) in
      let writes : AreWithinBlocks s.blocks = subst AreWithinBlocks (sym selected.blocks) (selected_within v.params (map tested_block v.blocks)) in
      let narrow : widest_call s.blocks ≤ function_weight ds f = subst (λ bs. widest_call bs ≤ function_weight ds f) (sym selected.blocks) (calls_narrow v.params (function_weight ds f) v.blocks stands.within.arguments) in
      let cost_within = stands.within.cost in
      let bulk_within = bulk_kept s g p in
      let temps = p.temps in
      let selected_temps = selected.temps in
      record {
        code = v;
        stands = stands;
        name = p.name ∙ selected.name ∙ stands.name;
        params = p.params ∙ selected.params;
        temps = omega (arith, temps, selected_temps);
        objects = p.objects ∙ selected.objects;
        widths = widths (function_weight ds f) s g writes narrow p;
        near = places_near g.blocks (p.arguments.places most_arguments (near_places s.blocks near));
        split = split;
        bulk = omega (arith, bulk_within, little, cost_within);
      }

  -- all of them, by their numbers
  record AreBehind (fs : List TypedFn) (gs : List TempFn) : Type 0 where
    pub count : length gs ≡ length fs
    pub functions : (n : ℕ) (f : TypedFn) (g : TempFn) → slice_get fs n ≡ Some f → slice_get gs n ≡ Some g → IsTempFunctionOf ds f g
    pub near : All (λ (g : TempFn). AllInsns IsNear g.blocks) gs
    pub split : (n : ℕ) (g : TempFn) → slice_get gs n ≡ Some g → IsSplit g

  none : AreBehind [] []
  none = record {
    count = refl;
    functions = λ n f g there other. absurd (cc);
    near = All-nil (λ (g : TempFn). AllInsns IsNear g.blocks);
    split = λ n g there. absurd (cc);
  }

  more : (f : TypedFn) (g : TempFn) (fs : List TypedFn) (gs : List TempFn) → IsTempFunctionOf ds f g → AreBehind fs gs → AreBehind (f ∷ fs) (g ∷ gs)
  more f g fs gs new rest = record {
    count = ap suc rest.count;
    functions = numbered;
    near = All-cons (λ (x : TempFn). AllInsns IsNear x.blocks) g gs new.near rest.near;
    split = splits;
  }
    where
      first_is : (x : TypedFn) (y : TempFn) → f ≡ x → g ≡ y → IsTempFunctionOf ds x y
      first_is x y e h = subst (λ z. IsTempFunctionOf ds z y) e (subst (λ z. IsTempFunctionOf ds f z) h new)

      numbered : (n : ℕ) (x : TypedFn) (y : TempFn) → slice_get (f ∷ fs) n ≡ Some x → slice_get (g ∷ gs) n ≡ Some y → IsTempFunctionOf ds x y
      numbered zero x y e h = first_is x y (cc) (cc)
      numbered (suc n) x y e h = rest.functions n x y e h

      splits : (n : ℕ) (y : TempFn) → slice_get (g ∷ gs) n ≡ Some y → IsSplit y
      splits zero y h = let same : g ≡ y = cc in subst IsSplit same new.split
      splits (suc n) y h = rest.split n y h

  all : (fs : List TypedFn) (vs : List VmFunction) (ss gs : List TempFn) → AllStandFor ds fs vs → program_size vs ≤ 2 ^ 24 → AreSelected vs ss → CostLittle vs ss → AllZip (KeepsFunction 1) ss gs → All IsSplit gs → AreBehind fs gs
  all [] [] [] [] stand small selected little p split = none
  all [] [] [] (g ∷ gs) stand small selected little p split = absurd p
  all [] [] (s ∷ ss) gs stand small selected little p split = absurd selected
  all [] (v ∷ vs) ss gs stand small selected little p split = absurd stand
  all (f ∷ fs) [] ss gs stand small selected little p split = absurd stand
  all (f ∷ fs) (v ∷ vs) [] gs stand small selected little p split = absurd selected
  all (f ∷ fs) (v ∷ vs) (s ∷ ss) [] stand small selected little p split = absurd p
  all (f ∷ fs) (v ∷ vs) (s ∷ ss) (g ∷ gs) stand small selected little p split =
      let sum = sum_by-cons function_size v vs in
      more f g fs gs
      (one f v s g stand.0 (omega (arith, sum, small)) selected.0 little.0 p.0 (All-head IsSplit g gs split))
      (all fs vs ss gs stand.1 (omega (arith, sum, small)) selected.1 little.1 p.1 (All-tail IsSplit g gs split))

pub functions_fit : SelectedBlocksAreWithin → SelectedCallsAreNarrow → SelectedFunctionsAreNear → BlocksAreWithinFunctions → TempFunctionsFit
functions_fit selected_within calls_narrow selected_near functions_within unit program selected after stand small s little p split =
    let b = all selected_within calls_narrow selected_near functions_within unit.structs unit.functions program.functions selected.functions after.functions stand small s little p.functions split in
    record { count = b.count; functions = b.functions; near = b.near; split = b.split }
