use Rattle.std.proofs.Common.{sym, ap, ◌∙◌, ◌≡◌, false}
use Rattle.alloc_model.specs.Faithful.{given_registers}
use Rattle.alloc_rules.specs.Visits.{reaches}
use Rattle.binpack_blocks.specs.model.Bests.{best_register}
use Rattle.binpack_blocks.specs.model.Choices.{is_free}
use Rattle.binpack_blocks.specs.model.Rows.{is_wanted}
use Rattle.binpack_blocks.specs.model.Spans.{part_end, span_end}
use Rattle.binpack_blocks.proofs.Bests.{given_has, found_best, found_none, none_free, none_reaches}
use Rattle.binpack_blocks.proofs.bins.Scan.refuge.Goals as goal

pub returns-in-None-clause-none : goal.returns-in-None-clause-none
returns-in-None-clause-none c r w is =
    let span = span_end c.args.self.now.fixed c.args.lives.now c.args.point c.args.self.now.bins.items in
    let free = is_free c.args.insn.now c.args.standing.now (is_wanted c.args.lives.now c.args.point) c.args.self.now.bins.items in
    let last = c.part_end-end.result in
    absurd (none_free last span free given_registers r (found_none last span free (best_register last span free given_registers) c.in-None.ensures.best) (given_has r w) is)

pub returns-then-reaches-clause-reaches : goal.returns-then-reaches-clause-reaches
returns-then-reaches-clause-reaches c =
    let span = span_end c.args.self.now.fixed c.args.lives.now c.args.point c.args.self.now.bins.items in
    let free = is_free c.args.insn.now c.args.standing.now (is_wanted c.args.lives.now c.args.point) c.args.self.now.bins.items in
    let last = c.part_end-end.result in
    let found = found_best last span free (best_register last span free given_registers) c.in-Some.free c.in-Some.ensures.best in
    ap (reaches (part_end c.args.lives.now c.args.point c.args.temp)) (sym found.1) ∙ ap (λ p. reaches p c.in-Some.free.end) (sym c.part_end-end.ensures) ∙ sym c.if-reaches.ensures

pub returns-else-reaches-clause-none : goal.returns-else-reaches-clause-none
returns-else-reaches-clause-none c r w is =
    let span = span_end c.args.self.now.fixed c.args.lives.now c.args.point c.args.self.now.bins.items in
    let free = is_free c.args.insn.now c.args.standing.now (is_wanted c.args.lives.now c.args.point) c.args.self.now.bins.items in
    let last = c.part_end-end.result in
    let found = found_best last span free (best_register last span free given_registers) c.in-Some.free c.in-Some.ensures.best in
    let short : reaches last (span c.in-Some.free.register) ≡ false = ap (reaches last) (sym found.1) ∙ sym c.if-reaches.ensures in
    ap (λ p. reaches p (span r)) (sym c.part_end-end.ensures) ∙ none_reaches last span free given_registers c.in-Some.free.register r found.0 short (given_has r w) is
