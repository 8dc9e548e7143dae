use Rattle.std.proofs.Common.{sym, ap, ◌∙◌, refl, subst, ◌^◌}
use Rattle.std.specs.Prelude.{All, slice_get}
use Rattle.pass_core.specs.Functions.{UsesRegisters}
use Rattle.temp_ir.specs.Insns.{reads_of, writes_of}
use Rattle.binpack_blocks.specs.model.Whole.ScansBlocks.{NoBlock}
use Rattle.binpack_blocks.proofs.Rests.{all_at}
use Rattle.binpack_scan.proofs.Functions.{few_left, scans_next, number_next}
use Rattle.binpack_scan.proofs.scan.scan_blocks.Goals as goal

pub loop-place-init : goal.loop-place-init
loop-place-init c = record {
  scans = NoBlock c.in_ok-scan.scan.many c.in_ok-scan.ensures.none c.new.ensures c.new-2.ensures c.new-3.ensures c.new-4.ensures;
  number = refl;
  temps = c.in_ok-scan.ensures.temps;
}

pub scan_placed-requires-clause-few : goal.scan_placed-requires-clause-few
scan_placed-requires-clause-few c =
    few_left c.args.f.now.blocks c.loop-place.place c.loop-place.number (2 ^ 30) c.block_at-block.result.now (ap (λ z. slice_get z c.loop-place.place) (sym c.as_slice.ensures) ∙ c.block_at-block.ensures) c.loop-place.invariant.number c.args.f.now.few_insns

pub scan_placed-requires-clause-low : goal.scan_placed-requires-clause-low
scan_placed-requires-clause-low c =
    subst (λ n. All (UsesRegisters reads_of writes_of n) c.block_at-block.result.now) (sym c.loop-place.invariant.temps)
    (all_at (All (UsesRegisters reads_of writes_of c.args.f.now.temps)) c.args.f.now.blocks c.loop-place.place c.block_at-block.result.now c.args.f.now.registers (ap (λ z. slice_get z c.loop-place.place) (sym c.as_slice.ensures) ∙ c.block_at-block.ensures))

pub loop-place-preserved : goal.loop-place-preserved
loop-place-preserved c = record {
  scans = scans_next c.args.f.now.temps c.args.lives.now c.args.f.now.blocks c.args.tops.now c.loop-place.place c.loop-place.scan.temps c.loop-place.number c.block_at-block.result.now c.set_at.result.now
      c.loop-place.maps c.scan_placed.new.maps c.loop-place.lists c.scan_placed.new.lists c.loop-place.scan.bins.items c.scan_placed.new.self.bins.items
      (ap (λ z. slice_get z c.loop-place.place) (sym c.as_slice.ensures) ∙ c.block_at-block.ensures) c.loop-place.invariant.temps c.loop-place.invariant.number c.set_at.ensures c.in_ok-number.ensures.adds c.loop-place.invariant.scans;
  number = number_next c.args.f.now.blocks c.loop-place.place c.loop-place.number c.in_ok-number.number c.block_at-block.result.now (ap (λ z. slice_get z c.loop-place.place) (sym c.as_slice.ensures) ∙ c.block_at-block.ensures) c.loop-place.invariant.number c.in_ok-number.ensures.next;
  temps = c.in_ok-number.ensures.temps ∙ c.loop-place.invariant.temps;
}
