-- The digits of the bytes so far.
use Rattle.std.proofs.Common.{◌≡◌, ◌++◌, take}
use Rattle.std.specs.Prelude.{flat_map, codes}
use Rattle.alpha_lines.specs.Lines.{hex_byte}
use Rattle.alpha_lines.proofs.print.push_hex.Given as goal

abbrev pub invariant-loop-b : goal.invariant-loop-b
invariant-loop-b l = l.line.items ≡ l.fn.line.items ++ codes ".hex " ++ flat_map hex_byte (take l.b-index l.bytes)
