use Rattle.std.proofs.Common.{arith}
use Rattle.image_assembly.specs.Layouts.{first_label}
use Rattle.image_assembly.proofs.Follow.{calls_later}
use Rattle.image_assembly.proofs.layouts.lay_out_one.Goals as goal

pub finalise-requires-clause-can : goal.finalise-requires-clause-can
finalise-requires-clause-can c =
    let fit = c.requires.fit in
    record {
      own = omega (arith, c.requires.number, c.requires.first);
      calls = calls_later (first_label c.args.functions) c.args.first c.args.a.now.func.blocks c.requires.first fit.calls;
      labels = omega (arith, c.requires.labels);
      layout = c.requires.layout;
      data_size = c.requires.data_size;
      names = fit.names;
      objects = fit.objects;
      temps = fit.temps;
      arguments = fit.arguments;
    }
