-- Passes over the blocks of selected functions keep what selection keeps.
use Rattle.std.proofs.Common.{List, [], ◌∷◌, map, sym, subst}
use Rattle.std.specs.Prelude.{All}
use Rattle.std.proofs.lemmas.List.Elements.{All-nil, All-cons}
use Rattle.suifvm_ir.specs.Programs.{VmFunction}
use Rattle.temp_ir.specs.Programs.{TempFn}
use Rattle.suifvm_zero_branches.specs.Tests.{tested_block}
use Rattle.alpha_select.specs.Selection.{AreSelected}
use Rattle.block_pass_laws.specs.argument_laws.Kept.{AreWithinBlocks}
use Rattle.block_passes.specs.Keeps.{WritesWithinCalls}
use Rattle.block_preparation_laws.specs.selected_widths.Widths.{SelectedBlocksAreWithin}
use Rattle.block_preparation_laws.specs.Kept.{PassesKeepSelections}

module _ (selected_within : SelectedBlocksAreWithin) where
  all_within : (vs : List VmFunction) (fs : List TempFn) → AreSelected vs fs → All WritesWithinCalls fs
  all_within [] [] s = All-nil WritesWithinCalls
  all_within [] (f ∷ fs) s = absurd s
  all_within (v ∷ vs) [] s = absurd s
  all_within (v ∷ vs) (f ∷ fs) s =
      All-cons WritesWithinCalls f fs (subst AreWithinBlocks (sym s.0.blocks) (selected_within v.params (map tested_block v.blocks)))
      (all_within vs fs s.1)

  pub passes_keep : PassesKeepSelections
  passes_keep splits program selected after s kept keeps rooms input turns e bytes run defined =
      kept.endings (all_within program.functions selected.functions s) rooms input turns e defined
      (keeps rooms input turns e bytes run defined)
