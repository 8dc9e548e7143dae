use Rattle.std.proofs.Common.{◌≡◌, ◌<◌, ℕ, length}
use Rattle.std.specs.Prelude.{slice_get}
use Rattle.binpack_blocks.specs.model.Uses.{uses_among}
use Rattle.binpack_blocks.specs.model.UseRows.{points_in}
use Rattle.binpack_blocks.proofs.fixed_uses.rows_of.Given as goal

abbrev pub invariant-loop-r : goal.invariant-loop-r
invariant-loop-r l = record {
  many : length l.rows.items ≡ l.r;
  uses : (q : ℕ) → q < l.r → points_in (slice_get l.rows.items q) ≡ uses_among q l.insns (length l.insns);
}
