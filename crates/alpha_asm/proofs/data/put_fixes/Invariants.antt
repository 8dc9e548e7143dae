use Rattle.std.proofs.Common.{◌≡◌, take}
use Rattle.alpha_items.specs.Words.{fixed_data}
use Rattle.alpha_asm.proofs.data.put_fixes.Given as goal

abbrev pub invariant-loop-fix : goal.invariant-loop-fix
invariant-loop-fix l = l.bytes ≡ fixed_data l.start l.fn.bytes (take l.fix-index l.fixes)
