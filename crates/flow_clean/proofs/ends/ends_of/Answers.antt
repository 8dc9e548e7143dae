use Rattle.std.proofs.Common.{◌≡◌, ◌+◌, ◌-◌, ◌<◌, suc, length, set, sym, ap, ◌∙◌, subst, arith}
use Rattle.std.specs.Prelude.{IfSome}
use Rattle.flow_clean.specs.model.Ends.{AreEndsFrom, end_in}
use Rattle.flow_clean.proofs.ChainEnds.{ends_next, target_inside}
use Rattle.flow_clean.proofs.ends.ends_of.Goals as goal

pub end_of-requires : goal.end_of-requires
end_of-requires c =
    let within : length c.args.blocks.now - 1 - c.loop-turn.turn < length c.args.blocks.now = omega arith in
    subst (λ n. IfSome c.target_of_only_jump.result (λ next. next < n)) (sym (ap length c.as_slice.ensures.value ∙ c.loop-turn.invariant.as_many))
    (target_inside c.args.blocks.now c.requires.targets c.requires.marks (length c.args.blocks.now - 1 - c.loop-turn.turn) c.target_of_only_jump.result
    c.index-blocks-at.result within c.index-blocks-at.is c.target_of_only_jump.ensures)

pub loop-turn-preserved : goal.loop-turn-preserved
loop-turn-preserved c =
    let within : length c.args.blocks.now - 1 - c.loop-turn.turn < length c.args.blocks.now = omega arith in
    let step : length c.args.blocks.now - c.loop-turn.turn ≡ suc (length c.args.blocks.now - 1 - c.loop-turn.turn) = omega arith in
    let same : length c.args.blocks.now - 1 - c.loop-turn.turn ≡ length c.args.blocks.now - (c.loop-turn.turn + 1) = omega arith in
    subst (λ n. AreEndsFrom c.args.blocks.now n (set c.loop-turn.ends.items (length c.args.blocks.now - 1 - c.loop-turn.turn) c.end_of.result)) same
    (ends_next c.args.blocks.now c.requires.targets c.requires.marks (length c.args.blocks.now - c.loop-turn.turn) (length c.args.blocks.now - 1 - c.loop-turn.turn)
    c.end_of.result c.loop-turn.ends.items c.index-blocks-at.result step within c.index-blocks-at.is
    (c.end_of.ensures ∙ ap (λ es. end_in es (length c.args.blocks.now - 1 - c.loop-turn.turn) c.target_of_only_jump.result) c.as_slice.ensures.value
    ∙ ap (end_in c.loop-turn.ends.items (length c.args.blocks.now - 1 - c.loop-turn.turn)) c.target_of_only_jump.ensures)
    c.loop-turn.invariant)
