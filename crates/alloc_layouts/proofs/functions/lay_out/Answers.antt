-- What an allocator gives for a function is an allocation of it, so it fits.
use Rattle.alloc_layouts.proofs.functions.lay_out.Goals as goal

pub lay_out_one-requires-clause-fit : goal.lay_out_one-requires-clause-fit
lay_out_one-requires-clause-fit g c = c.requires.can.fits c.in_ok-a.a (g.met.A.Allocates.lawful c.args.f.now c.in_ok-a.a c.in_ok-a.ensures)
