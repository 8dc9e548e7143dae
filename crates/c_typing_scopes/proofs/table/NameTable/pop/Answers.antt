use Rattle.std.proofs.Common.{◌++◌, ◌∙◌, refl, ap}
use Rattle.std.specs.Option.{option_to_list}
use Rattle.c_typing_scopes.proofs.Tables.{popped_entry}
use Rattle.c_typing_scopes.proofs.table.NameTable.pop.Goals as goal

pub invariant_of-self-2 : goal.invariant_of-self-2
invariant_of-self-2 g c =
    popped_entry c.self.inside.newest c.self.inside.list.items c.self.invariant c.set_place.new.newest c.pop.new.self.items c.in-Some.field-0 c.in-Some.field-0.name.now c.set_place.ensures refl (c.pop.ensures.items ∙ ap (λ r. c.pop.new.self.items ++ option_to_list r) c.in-Some.is)
