-- The blocks so far are cleaned.
use Rattle.std.proofs.Common.{◌≡◌, length, take}
use Rattle.bitvector_flow.specs.Flows.{has_at}
use Rattle.flow_clean.specs.model.Walks.{cleaned_from}
use Rattle.flow_clean.proofs.dead.clean_blocks.Given as goal

abbrev pub invariant-loop-place : goal.invariant-loop-place
invariant-loop-place l = record {
  bound : length l.wanted ≡ l.registers;
  made : l.made ≡ cleaned_from (has_at l.bottoms) 0 (take l.place l.blocks);
}
