use Rattle.std.proofs.Common.{ap, ◌∙◌, length, arith}
use Rattle.alloc_model.specs.Temporaries.{code_of}
use Rattle.alloc_plain.proofs.Made.{all_few, inside_ends, bounded_tops, journal_made}
use Rattle.alloc_plain.proofs.journal.journal_of.Goals as goal

pub liveness-requires-clause-few : goal.liveness-requires-clause-few
liveness-requires-clause-few c = all_few c.args.f.now.blocks

pub put_blocks-requires-clause-few_ends : goal.put_blocks-requires-clause-few_ends
put_blocks-requires-clause-few_ends c =
    let same = ap length c.as_slice.ensures ∙ c.in_ok-ends.ensures.as_many in
    omega (arith, same)

pub put_blocks-requires-clause-inside : goal.put_blocks-requires-clause-inside
put_blocks-requires-clause-inside c =
    inside_ends c.args.f.now.blocks c.as_slice-2.result.now c.args.f.now.temps c.in_ok-ends.ends c.as_slice.result.now c.as_slice-2.ensures c.as_slice.ensures
    c.in_ok-ends.ensures.as_many c.args.f.now.registers

pub put_blocks-requires-clause-tops : goal.put_blocks-requires-clause-tops
put_blocks-requires-clause-tops c =
    bounded_tops c.args.f.now.blocks c.as_slice-2.result.now c.args.f.now.temps c.in_ok-ends.ends c.as_slice.result.now c.in_ok-live.live.top c.as_slice-3.result.now
    c.as_slice-2.ensures c.as_slice.ensures c.as_slice-3.ensures c.in_ok-ends.ensures.as_many c.in_ok-live.ensures.tops_bounded

pub returns : goal.returns
returns c =
    journal_made (code_of c.args.f.now) c.args.f.now.params c.args.f.now.temps c.in_ok-live.live.top c.in_ok-live.live.bottom c.in_ok-live.ensures
    c.in_ok-ends.ends c.in_ok-ends.ensures c.args.f.now.registers
    c.as_slice-2.result.now c.as_slice-3.result.now c.as_slice.result.now c.new-events.result c.put_blocks.new.out
    c.as_slice-2.ensures c.as_slice-3.ensures c.as_slice.ensures c.new-events.ensures c.in_ok-put_blocks.ensures
