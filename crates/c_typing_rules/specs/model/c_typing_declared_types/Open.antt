-- What looks into a type, as one name that opens it.
use denote.Hole.Carrier as Carrier
use Rattle.c_typed_tree.specs.declared.types.CType.TheBlock as tb
use Rattle.c_typing_rules.specs.c_typing_declared_types.Declarators.{parameter_value}

unfoldable pub opens : Unit {0}
unfolding parameter_value tb.hidden-the_row-CType-0 Carrier.hidden
opens = tt
