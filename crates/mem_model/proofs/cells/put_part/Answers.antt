use Rattle.std.proofs.Common.{refl, arith, rules}
use Rattle.mem_model.proofs.Representation.{cells_kept-set, cell_of-home, cell_of-stray, same_part}
use Rattle.mem_model.proofs.TableLaws.{put-there, put-others}
use Rattle.mem_model.proofs.cells.put_part.Goals as goal

pub returns-then-eq-clause-cells : goal.returns-then-eq-clause-cells
returns-then-eq-clause-cells c = cells_kept-set _ _ _ _ _ _ c.requires.within (same_part _ _ _ _ (search rules) (omega arith)) (λ k h ne. refl)

pub returns-then-is_home_free-clause-cells : goal.returns-then-is_home_free-clause-cells
returns-then-is_home_free-clause-cells c =
    cells_kept-set _ _ _ _ _ _ c.requires.within (same_part _ _ _ _ (put-there _ _ _ _ c.put.ensures (omega arith)) (omega arith))
    (λ k h ne. cell_of-home _ _ _ c.args.at k _ (omega arith) (put-others _ _ _ _ c.put.ensures) (λ e is. c.if-is_home_free.ensures.free k (record { within = h; group = e; other = ne; home = is })))

pub returns-else-own-2-clause-cells : goal.returns-else-own-2-clause-cells
returns-else-own-2-clause-cells c =
    cells_kept-set _ _ _ _ _ _ c.requires.within (same_part _ _ _ _ (put-there _ _ _ _ c.put-else-own-2.ensures (omega arith)) refl)
    (λ k h ne. cell_of-stray _ _ _ c.args.at k _ (omega arith) ne (put-others _ _ _ _ c.put-else-own-2.ensures))
