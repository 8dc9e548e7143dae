use Rattle.std.proofs.Common.{◌∙◌, ◌<◌, ◌≡◌, ap, true}
use Rattle.std.specs.Prelude.{None}
use Rattle.alloc_model.specs.Faithful.{given_registers}
use Rattle.binpack_blocks.specs.model.Bests.{best_from}
use Rattle.binpack_blocks.specs.model.Choices.{is_free}
use Rattle.binpack_blocks.specs.model.Rows.{is_wanted}
use Rattle.binpack_blocks.specs.model.Spans.{span_end}
use Rattle.binpack_blocks.proofs.Bests.{all_given, given_below, best_is, best_some}
use Rattle.binpack_blocks.proofs.bins.Scan.best_free.Goals as goal

pub best_of_these-requires-clause-given : goal.best_of_these-requires-clause-given
best_of_these-requires-clause-given c = all_given c.stated_registers.result.now c.stated_registers.ensures

pub returns-clause-best : goal.returns-clause-best
returns-clause-best c =
    let span = span_end c.args.self.now.fixed c.args.lives.now c.args.point c.args.self.now.bins.items in
    let free = is_free c.args.insn.now c.args.standing.now (is_wanted c.args.lives.now c.args.point) c.args.self.now.bins.items in
    c.best_of_these.ensures ∙ ap (best_from c.args.end span free None) c.stated_registers.ensures ∙ best_is c.args.end span free given_registers

pub returns-clause-given : goal.returns-clause-given
returns-clause-given c =
    let span = span_end c.args.self.now.fixed c.args.lives.now c.args.point c.args.self.now.bins.items in
    let free = is_free c.args.insn.now c.args.standing.now (is_wanted c.args.lives.now c.args.point) c.args.self.now.bins.items in
    best_some c.args.end span free (λ r. r < 26) given_registers c.best_of_these.result (returns-clause-best c) (λ q h is. given_below q h)

pub returns-clause-free : goal.returns-clause-free
returns-clause-free c =
    let span = span_end c.args.self.now.fixed c.args.lives.now c.args.point c.args.self.now.bins.items in
    let free = is_free c.args.insn.now c.args.standing.now (is_wanted c.args.lives.now c.args.point) c.args.self.now.bins.items in
    best_some c.args.end span free (λ r. free r ≡ true) given_registers c.best_of_these.result (returns-clause-best c) (λ q h is. is)
