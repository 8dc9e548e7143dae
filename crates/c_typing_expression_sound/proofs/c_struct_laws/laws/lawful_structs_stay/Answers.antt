use Rattle.c_typing_expression_sound.proofs.CStructLaws.Growth.{struct_stays}
use Rattle.c_typing_expression_sound.proofs.c_struct_laws.laws.lawful_structs_stay.Goals as goal

pub returns : goal.returns
returns c = λ structs later d g h. struct_stays structs later g d h
