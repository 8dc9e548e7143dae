use Rattle.std.proofs.Common.{ap, ◌+◌, ◌/◌, ◌^◌, ◌++◌, ◌∙◌, string_bytes}
use Rattle.work_gen.specs.Generator.{function_line}
use Rattle.work_gen.proofs.Loops.{draws_more, lines_more}
use Rattle.work_gen.proofs.lines.put_functions.Goals as goal

pub loop-k-preserved : goal.loop-k-preserved
loop-k-preserved c = record {
  lines =
      c.in_ok-put_function.ensures
      ∙ ap (λ x. x ++ function_line c.loop-k.k (1 + c.next_draw-first.result / 2 ^ 24) (c.next_draw-drawn.result / 2 ^ 16)) c.loop-k.invariant.lines
      ∙ lines_more (string_bytes c.args.text.now) c.args.seed c.loop-k.k c.loop-k.drawn c.next_draw-first.result c.next_draw-drawn.result c.loop-k.invariant.draws c.next_draw-first.ensures c.next_draw-drawn.ensures;
  draws = draws_more c.args.seed c.loop-k.k c.loop-k.drawn c.next_draw-first.result c.next_draw-drawn.result c.loop-k.invariant.draws c.next_draw-first.ensures c.next_draw-drawn.ensures;
}
