use Rattle.std.proofs.Common.{◌∙◌, ap, sym}
use Rattle.c_typing_scopes.proofs.Tables.{set_absent}
use Rattle.c_typing_scopes.proofs.table.set_place.Goals as goal

pub returns-in-None : goal.returns-in-None
returns-in-None c = ap (λ m. m.entries) c.get_mut.follows.holds-at-none ∙ sym (set_absent c.args.newest.now.entries c.args.name.now c.args.place (sym c.in-None.ensures.value))
