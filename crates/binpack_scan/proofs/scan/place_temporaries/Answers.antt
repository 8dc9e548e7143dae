use Rattle.std.proofs.Common.{subst}
use Rattle.std.specs.Prelude.{length}
use Rattle.binpack_blocks.specs.model.Whole.{ScansBlocks}
use Rattle.binpack_scan.proofs.Said.{lifetimes_rise, all_reads_wanted}
use Rattle.binpack_scan.proofs.scan.place_temporaries.Goals as goal

pub scan_blocks-requires-clause-rise : goal.scan_blocks-requires-clause-rise
scan_blocks-requires-clause-rise c = lifetimes_rise c.args.f.now c.args.lives.now c.requires.lives

pub scan_blocks-requires-clause-wanted : goal.scan_blocks-requires-clause-wanted
scan_blocks-requires-clause-wanted c = all_reads_wanted c.args.f.now c.args.lives.now c.args.live.now.top c.args.live.now.bottom c.requires.lives c.requires.live c.args.f.now.registers

pub returns : goal.returns
returns c = (
  c.in_ok-placed.ensures.0,
  subst (λ ts. ScansBlocks c.args.f.now.temps c.args.lives.now c.args.f.now.blocks ts (length c.args.f.now.blocks) c.in_ok-placed.placed.maps c.in_ok-placed.placed.lists c.in_ok-placed.ensures.0) c.as_slice.ensures c.in_ok-placed.ensures.1,
)
