use Rattle.std.proofs.Common.{sym, ◌∙◌, refl, subst, ◌+◌}
use Rattle.std.specs.Prelude.{All}
use Rattle.pass_core.specs.Functions.{UsesRegisters}
use Rattle.temp_ir.specs.Insns.{reads_of, writes_of}
use Rattle.binpack_blocks.specs.model.Lists.{AddsRows}
use Rattle.binpack_blocks.specs.model.Scanning.{state_of}
use Rattle.binpack_blocks.proofs.Rests.{adds_none}
use Rattle.binpack_blocks.proofs.bins.Scan.scan_all.Goals as goal

pub loop-place-init : goal.loop-place-init
loop-place-init c = record { rows = adds_none c.args.self.now.temps c.args.lives.now c.args.first c.args.insns.now (state_of c.args.self.now) c.args.lists.now; temps = refl }

pub scan_next-requires-clause-low : goal.scan_next-requires-clause-low
scan_next-requires-clause-low c = subst (λ n. All (UsesRegisters reads_of writes_of n) c.args.insns.now) (sym c.loop-place.invariant.temps) c.requires.low

pub loop-place-preserved : goal.loop-place-preserved
loop-place-preserved c = record {
  rows = subst (λ n. AddsRows n c.args.lives.now c.args.first c.args.insns.now (state_of c.args.self.now) (c.loop-place.place + 1) c.args.lists.now c.scan_next.new.lists (state_of c.scan_next.new.self)) c.loop-place.invariant.temps
      (c.in_ok-scan_next.ensures.rows (state_of c.args.self.now) c.args.lists.now
      (subst (λ n. AddsRows n c.args.lives.now c.args.first c.args.insns.now (state_of c.args.self.now) c.loop-place.place c.args.lists.now c.loop-place.lists (state_of c.loop-place.self)) (sym c.loop-place.invariant.temps) c.loop-place.invariant.rows));
  temps = c.in_ok-scan_next.ensures.temps ∙ c.loop-place.invariant.temps;
}
