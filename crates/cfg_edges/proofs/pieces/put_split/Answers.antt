use Rattle.std.proofs.Common.{[], ◌∷◌, ◌∙◌, ap, subst, sym, ◌<◌, length, arith, slice_index_or}
use Rattle.cfg_edges.proofs.Redirects.{last_below, three_more}
use Rattle.cfg_edges.proofs.pieces.put_split.Goals as goal

pub bounds-numbers-target : goal.bounds-numbers-target
bounds-numbers-target g c =
    subst (λ n. n < length c.args.numbers.now) (sym c.redirect-target.ensures.target)
    (last_below g.I.Insn.targets g.I.Insn.with_target (length c.args.numbers.now) c.args.block c.requires.within (omega (arith, c.requires.there)))

pub returns : goal.returns
returns g c =
    three_more c.args.put.now _ _ _ _ _ _ _ _ _ c.in_ok-push.ensures.ok c.in_ok-push-2.ensures.ok c.in_ok-push-3.ensures.ok
    c.redirect-target.ensures.block c.in_ok-jump_block.ensures
    (c.in_ok-jump_block-2.ensures ∙ ap (λ n. g.I.Insn.jump_to (slice_index_or c.args.numbers.now n 0) ∷ []) c.redirect-target.ensures.target)
