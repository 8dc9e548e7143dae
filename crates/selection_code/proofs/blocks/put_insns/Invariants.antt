use Rattle.std.proofs.Common.{◌≡◌, ◌++◌, ◌-◌, ◌^◌, All}
use Rattle.bk_ilist.specs.Listing.{items}
use Rattle.selection_code.specs.Functions.{selected_insns}
use Rattle.selection_code.specs.Fields.{HasFields, HasNumbers}
use Rattle.suifvm_zero_branches.specs.Tests.{tested_from, tested_block}
use Rattle.suifvm_zero_branches.specs.model.Registers.{KnownIsBelow}
use Rattle.selection_code.proofs.blocks.put_insns.Given as goal

abbrev pub invariant-loop-line : goal.invariant-loop-line
invariant-loop-line l =
    (l.out ++ selected_insns (tested_from l.known (items l.line-iterator)) ≡ l.initial.out ++ selected_insns (tested_block l.block)) × All HasNumbers (items l.line-iterator)
    × (All HasFields (items l.line-iterator) → All HasFields l.block) × KnownIsBelow (2 ^ 32 - 4) l.known
