use Rattle.block_coalescing.proofs.Shape.{functions_keep_shape}
use Rattle.block_coalescing.proofs.laws.coalesced_functions_keep_shape.Goals as goal

pub returns : goal.returns
returns c = functions_keep_shape
