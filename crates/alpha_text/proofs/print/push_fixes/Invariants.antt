use Rattle.std.proofs.Common.{◌≡◌, ◌++◌, take}
use Rattle.std.specs.Prelude.{flat_map}
use Rattle.alpha_lines.specs.Lines.{fix_line}
use Rattle.alpha_text.specs.Texts.{with_line_feed}
use Rattle.alpha_text.proofs.print.push_fixes.Given as goal

abbrev pub invariant-loop-fix : goal.invariant-loop-fix
invariant-loop-fix l = l.text.items ≡ l.fn.text.items ++ flat_map (λ fix. with_line_feed (fix_line fix)) (take l.fix-index l.fixes)
