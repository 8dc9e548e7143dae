use Rattle.frame_memory.proofs.Rows.{value-stays, cells-stay}
use Rattle.frame_memory.proofs.Objects.{extents_grow, others_may_change, objects_begin, objects_end}
use Rattle.frame_memory.proofs.laws.objects_begin_and_end.Goals as goal

pub returns : goal.returns
returns c = record {
  grow = extents_grow;
  values = λ xs ys v w more h. value-stays xs ys more v w h;
  cells = λ xs ys cs bs more h. cells-stay xs ys more cs bs h;
  others = others_may_change;
  begin = objects_begin;
  end = objects_end;
}
