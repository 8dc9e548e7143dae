use Rattle.std.proofs.Common.{◌≡◌, ap, sym, ◌∙◌, arith, length}
use Rattle.std.proofs.lemmas.List.FromFn.{length-map-range_with_len}
use Rattle.cfg.specs.model.Marked.{number_in}
use Rattle.cfg.proofs.Lists.{length-successors}
use Rattle.cfg.proofs.Kept.{told_part, part}
use Rattle.cfg.proofs.unreachable.reached_part.Goals as goal

pub reached_marks-requires : goal.reached_marks-requires
reached_marks-requires g c =
    let shown = ap length c.as_slice-2.ensures in
    let made = ap length c.in_ok-followers.ensures in
    let each = length-successors g.I.Insn.targets g.I.Insn.flows_on 0 c.as_slice.result.now in
    let blocks = ap length c.as_slice.ensures in
    let few = c.requires.few in
    omega arith

pub numbers_of-requires : goal.numbers_of-requires
numbers_of-requires g c =
    let shown = ap length c.as_slice-2.ensures in
    let made = ap length c.in_ok-followers.ensures in
    let each = length-successors g.I.Insn.targets g.I.Insn.flows_on 0 c.as_slice.result.now in
    let blocks = ap length c.as_slice.ensures in
    let marks = ap length c.as_slice-3.ensures.value in
    let count = c.in_ok-marks.ensures.count in
    let few = c.requires.few in
    omega arith

pub marked_blocks-requires-clause-count : goal.marked_blocks-requires-clause-count
marked_blocks-requires-clause-count g c =
    ap length c.as_slice-4.ensures.value ∙ c.in_ok-marks.ensures.count ∙ ap length c.as_slice-2.ensures ∙ ap length c.in_ok-followers.ensures
    ∙ length-successors g.I.Insn.targets g.I.Insn.flows_on 0 c.as_slice.result.now ∙ ap length c.as_slice.ensures

pub marked_blocks-requires-clause-within : goal.marked_blocks-requires-clause-within
marked_blocks-requires-clause-within g c =
    let long : length c.as_slice-5.result.now ≡ length c.args.blocks =
    ap length c.as_slice-5.ensures.value ∙ ap length c.in_ok-numbers.ensures
    ∙ length-map-range_with_len (number_in c.as_slice-3.result.now) 0 (length c.as_slice-3.result.now)
    ∙ ap length c.as_slice-3.ensures.value ∙ c.in_ok-marks.ensures.count ∙ ap length c.as_slice-2.ensures ∙ ap length c.in_ok-followers.ensures
    ∙ length-successors g.I.Insn.targets g.I.Insn.flows_on 0 c.as_slice.result.now ∙ ap length c.as_slice.ensures in
    λ k d below j e inside m x within. omega (arith, long, (c.requires.targets k d below j e inside m x within).1)

pub returns : goal.returns
returns g c =
    let tells = told_part g.I.Insn.reads g.I.Insn.writes g.I.Insn.targets g.I.Insn.with_target g.I.Insn.jump_to g.I.Insn.flows_on g.I.Insn.traps g.met.I.Insn.lawful c.args.blocks c.as_slice.result.now c.as_slice-2.result.now c.in_ok-followers.followers c.in_ok-marks.marks.items c.as_slice-4.result.now c.as_slice.ensures c.in_ok-followers.ensures c.as_slice-2.ensures c.as_slice-4.ensures.value c.in_ok-marks.ensures.count c.in_ok-marks.ensures.only c.in_ok-marks.ensures.all in
    part g.I.Insn.reads g.I.Insn.writes g.I.Insn.targets g.I.Insn.with_target g.I.Insn.jump_to g.I.Insn.flows_on g.I.Insn.traps g.met.I.Insn.lawful c.args.blocks c.as_slice-4.result.now c.as_slice-3.result.now c.in_ok-numbers.numbers.items c.as_slice-5.result.now c.in_ok-part.part c.requires.targets c.requires.straight c.requires.stops tells (c.as_slice-3.ensures.value ∙ sym c.as_slice-4.ensures.value) c.in_ok-numbers.ensures c.as_slice-5.ensures.value c.in_ok-part.ensures
