use Rattle.std.proofs.Common.{◌∙◌, ap, length, arith}
use Rattle.binpack_scan.proofs.EdgeCodes.{as_many, edges_next}
use Rattle.binpack_scan.proofs.edges.all_edges.Goals as goal

pub bounds-followers-from : goal.bounds-followers-from
bounds-followers-from c =
    let many = as_many 0 c.args.f.now.blocks in
    let size = ap (λ z. length z) (c.as_slice-followers.ensures ∙ c.requires.graph) in
    let within = c.loop-from-test.true in
    let end = c.len-from-end.ensures in
    omega (arith, many, size, within, end)

pub loop-from-preserved : goal.loop-from-preserved
loop-from-preserved c = record {
  ends = edges_next c.args.f.now.blocks c.as_slice-followers.result.now c.loop-from.from c.as_slice.result.now _ c.loop-from.edges c.put_rising_edges.new.out (c.as_slice-followers.ensures ∙ c.requires.graph)
      (let within = c.loop-from-test.true in let end = c.len-from-end.ensures in omega (arith, within, end)) (c.as_slice.ensures ∙ c.index-followers-from.is) c.in_ok-put_rising_edges.ensures.ends c.loop-from.invariant.ends;
  codes = c.in_ok-put_rising_edges.ensures.codes c.loop-from.invariant.codes;
}
