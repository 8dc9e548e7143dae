use Rattle.std.proofs.Common.{sym, ap, ◌∙◌, ◌<◌, ◌^◌, subst, length}
use Rattle.std.specs.Prelude.{flat_map}
use Rattle.std.proofs.lemmas.List.Concat.{length-flat_map}
use Rattle.binpack_blocks.specs.model.Uses.{uses_among}
use Rattle.binpack_blocks.proofs.fixed_uses.FixedUses.of.Goals as goal

pub rows_of-requires : goal.rows_of-requires
rows_of-requires c = subst (λ n. n < 2 ^ 30) (sym (ap (λ xs. length xs) (c.as_slice.ensures.value ∙ c.in_ok-insns.ensures) ∙ length-flat_map (λ insns. insns) c.args.blocks.now)) c.requires

pub returns : goal.returns
returns c r w =
    c.in_ok-rows.ensures.uses r w
    ∙ ap (λ xs. uses_among r xs (length xs)) (c.as_slice.ensures.value ∙ c.in_ok-insns.ensures)
    ∙ ap (uses_among r (flat_map (λ insns. insns) c.args.blocks.now)) (length-flat_map (λ insns. insns) c.args.blocks.now)
