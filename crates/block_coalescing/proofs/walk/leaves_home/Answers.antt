use Rattle.std.proofs.Common.{inl, sym, ◌∙◌}
use Rattle.block_coalescing.proofs.Taken.{leaves_none}
use Rattle.block_coalescing.proofs.walk.leaves_home.Goals as goal

pub returns-in-None : goal.returns-in-None
returns-in-None c = inl (leaves_none c.args.insn (sym c.in-None.is ∙ c.target_at.ensures))
