-- By the depth of types, and by the members in order.
use Rattle.c_typing_struct_layout.proofs.CLayoutLaws.Layouts.{aligned_type, struct_multiple, members_within}
use Rattle.c_typing_struct_layout.proofs.c_layout_laws.laws.structs_are_laid_out.Goals as goal

pub returns-clause-alignments : goal.returns-clause-alignments
returns-clause-alignments c = aligned_type

pub returns-clause-sizes : goal.returns-clause-sizes
returns-clause-sizes c = struct_multiple

pub returns-clause-members : goal.returns-clause-members
returns-clause-members c = members_within
