-- The bytes so far stand before those of the digits that are left.
use Rattle.std.proofs.Common.{◌≡◌, ◌++◌, length}
use Rattle.std.specs.Prelude.{option_map}
use Rattle.alpha_lines.specs.model.Data.{hex_of}
use Rattle.alpha_lines.proofs.data.hex_bytes.Given as goal

abbrev pub invariant-loop-rest : goal.invariant-loop-rest
invariant-loop-rest l = hex_of l.fn.digits ≡ option_map (λ t. l.bytes.items ++ t) (hex_of l.rest)

abbrev pub decreases-loop-rest : goal.decreases-loop-rest
decreases-loop-rest l = length l.rest
