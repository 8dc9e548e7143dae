-- What is equal to a lawful unit is lawful.
use Rattle.std.proofs.Common.{◌≡◌, sym, subst}
use Rattle.c_typed_tree.specs.declared.units.TypedUnit.{TypedUnit}
use Rattle.c_typed_tree.specs.Lawful.{IsLawfulUnit}

pub still_lawful : (r u : TypedUnit) → r ≡ u → IsLawfulUnit u → IsLawfulUnit r
still_lawful r u e h = subst (λ x. IsLawfulUnit x) (sym e) h
