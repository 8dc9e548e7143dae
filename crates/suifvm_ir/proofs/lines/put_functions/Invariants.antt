use Rattle.std.proofs.Common.{◌≡◌, ◌≤◌, ◌*◌, ◌^◌, ◌++◌, drop}
use Rattle.suifvm_ir.specs.Lines.{functions_text}
use Rattle.suifvm_ir.proofs.lines.put_functions.Given as goal

abbrev pub invariant-loop-at : goal.invariant-loop-at
invariant-loop-at g l =
    (l.out.items ++ functions_text (g.T.InsnText.text l.insns) (λ f. f.name) (λ f. f.blocks) l.number (drop l.at l.functions) ≡ l.initial.out.items ++ functions_text (g.T.InsnText.text l.insns) (λ f. f.name) (λ f. f.blocks) 0 l.functions)
    × (l.number ≤ l.at * 2 ^ 30)
