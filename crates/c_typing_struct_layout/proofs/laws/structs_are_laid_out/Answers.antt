use Rattle.c_typing_struct_layout.proofs.Laid.{laid_out_fields, deep}
use Rattle.c_typing_struct_layout.proofs.laws.structs_are_laid_out.Goals as goal

pub returns : goal.returns
returns c = record { layout = laid_out_fields; depth = deep }
