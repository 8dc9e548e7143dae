use Rattle.std.proofs.Common.{sym, ap, ◌∙◌, refl, subst, length, ◌++◌, ◌∷◌, []}
use Rattle.std.specs.Prelude.{All}
use Rattle.pass_core.specs.Functions.{UsesRegisters}
use Rattle.temp_ir.specs.Insns.{reads_of, writes_of}
use Rattle.binpack_blocks.specs.model.Lists.{AddsRows}
use Rattle.binpack_blocks.specs.model.Scanning.{state_of}
use Rattle.binpack_blocks.proofs.bins.Scan.scan_placed.Goals as goal

pub scan_block-requires-clause-low : goal.scan_block-requires-clause-low
scan_block-requires-clause-low c = subst (λ n. All (UsesRegisters reads_of writes_of n) c.args.block.now) (sym c.in_ok-begin.ensures.temps) c.requires.low

pub returns-clause-adds : goal.returns-clause-adds
returns-clause-adds c = record {
  begun = state_of c.begin.new.self;
  left = state_of c.scan_block.new.self;
  size = c.begin.new.self.many;
  lends = c.in_ok-begin.ensures.lent;
  top = c.in_ok-push.ensures.ok ∙ ap (λ t. c.args.maps.now.top ++ t ∷ []) c.in_ok-top.ensures;
  rows = subst (λ n. AddsRows n c.args.lives.now c.args.first c.args.block.now (state_of c.begin.new.self) (length c.args.block.now) c.args.lists.now c.scan_block.new.lists (state_of c.scan_block.new.self)) c.in_ok-begin.ensures.temps c.in_ok-next.ensures.rows;
  bottom = c.in_ok-push-2.ensures.ok ∙ ap (λ t. c.args.maps.now.bottom ++ t ∷ []) c.in_ok-bottom.ensures;
  is_left = refl;
}
