use Rattle.std.proofs.Common.{◌++◌, ◌∷◌, [], take, map, sym, ap, ◌∙◌, arith}
use Rattle.std.proofs.lemmas.List.Elements.{All-get_or}
use Rattle.std.proofs.lemmas.List.{map_more, length-map, length-take-le}
use Rattle.mem_model.specs.Memory.{byte_of, IsByte}
use Rattle.mem_model.specs.declared.value.Value.TheVariants.{Word}
use Rattle.mem_model.proofs.RowLaws.{with_row-step}
use Rattle.mem_model.proofs.rows.write_bytes.Goals as goal

pub byte_cell-requires : goal.byte_cell-requires
byte_cell-requires c = All-get_or IsByte c.args.values.now c.loop-k.k (Word 0) (omega arith) c.requires.bytes

pub loop-k-preserved : goal.loop-k-preserved
loop-k-preserved c =
    with_row-step _ _ _ _ _ c.args.at c.loop-k.k c.byte_cell.result c.loop-k.invariant c.set.ensures
    (map_more byte_of c.args.values.now c.loop-k.k (Word 0) (omega arith) ∙ ap (λ x. map byte_of (take c.loop-k.k c.args.values.now) ++ x ∷ []) (sym c.byte_cell.ensures))
    (length-map (take c.loop-k.k c.args.values.now) byte_of ∙ length-take-le c.loop-k.k c.args.values.now (omega arith)) (omega arith)
