use Rattle.std.proofs.Common.{sym, ap, subst, ◌∙◌, []}
use Rattle.std.specs.Prelude.{flat_map, slice_index_or}
use Rattle.par_move.specs.Moves.{HaveDistinctTargets, IsInNoMove, ParallelMove, HasLength}
use Rattle.binpack_scan.specs.model.Edges.{store_of, load_of, shifts}
use Rattle.binpack_scan.proofs.EdgeMoves.{moves_distinct, scratch_free}
use Rattle.binpack_scan.proofs.Crossings.{the_code}
use Rattle.binpack_scan.proofs.crossing.code_between.Goals as goal

pub sequence-requires-clause-targets : goal.sequence-requires-clause-targets
sequence-requires-clause-targets c =
    subst HaveDistinctTargets (sym (c.as_slice.ensures.value ∙ c.in_ok-moves.ensures)) (moves_distinct c.args.bottom.now c.args.top.now c.requires.top.apart)

pub sequence-requires-clause-scratch : goal.sequence-requires-clause-scratch
sequence-requires-clause-scratch c =
    subst (IsInNoMove 28) (sym (c.as_slice.ensures.value ∙ c.in_ok-moves.ensures)) (scratch_free c.args.bottom.now c.args.top.now c.requires.bottom c.requires.top)

pub returns : goal.returns
returns c = record {
  made = c.in_ok-made.made.items;
  holders = c.in_ok-put_moves.ensures.0;
  moves = subst (λ z. ParallelMove z 28 c.in_ok-made.made.items) (c.as_slice.ensures.value ∙ c.in_ok-moves.ensures) c.in_ok-made.ensures.moves;
  long = subst (λ z. HasLength z c.in_ok-made.made.items) (c.as_slice.ensures.value ∙ c.in_ok-moves.ensures) c.in_ok-made.ensures.length;
  held = c.in_ok-put_moves.ensures.1;
  is = the_code c.new-code.result c.put_stores.new.code c.put_moves.new.code c.put_loads.new.code
      (flat_map (store_of (slice_index_or c.args.lives.now c.args.to []) (slice_index_or c.args.needs.now c.args.to []) c.args.top.now) c.args.bottom.now)
      (shifts c.as_slice-2.result.now c.in_ok-put_moves.ensures.0) (shifts c.in_ok-made.made.items c.in_ok-put_moves.ensures.0) (flat_map (load_of c.args.bottom.now) c.args.top.now)
      c.new-code.ensures c.in_ok-put_stores.ensures c.in_ok-put_moves.ensures.2 c.in_ok-put_loads.ensures (ap (λ z. shifts z c.in_ok-put_moves.ensures.0) c.as_slice-2.ensures.value);
}
