use Rattle.std.proofs.Common.{◌∙◌, sym}
use Rattle.std.proofs.lemmas.Bool.{OnTrue_from, OnFalse_from}
use Rattle.bk_bits.proofs.Sets.{given_long, union_keeps, union_gives, union_same, union_other}
use Rattle.bk_bits.proofs.set.BitSet.union_with.Goals as goal

pub unite-requires : goal.unite-requires
unite-requires c = given_long _ _ _ _ _ _ _ c.self.invariant c.other.invariant c.self.view_is c.other.view_is c.requires c.as_slice.ensures.value

pub invariant_of-self : goal.invariant_of-self
invariant_of-self c = union_keeps _ _ _ _ _ _ _ c.self.invariant c.other.invariant c.self.view_is c.other.view_is c.requires c.as_slice.ensures.value _ c.unite.ensures.made

pub returns-clause-union : goal.returns-clause-union
returns-clause-union c = union_gives _ _ _ _ _ _ _ c.self.invariant c.other.invariant c.self.view_is c.other.view_is c.requires c.as_slice.ensures.value _ c.unite.ensures.made

pub returns-clause-same : goal.returns-clause-same
returns-clause-same c =
    OnFalse_from _ _ (λ e. union_same _ _ _ _ _ _ _ c.self.invariant c.other.invariant c.self.view_is c.other.view_is c.requires c.as_slice.ensures.value _ c.unite.ensures.made (sym c.unite.ensures.grew ∙ e))

pub returns-clause-changed : goal.returns-clause-changed
returns-clause-changed c =
    OnTrue_from _ _ (λ e. union_other _ _ _ _ _ _ _ c.self.invariant c.other.invariant c.self.view_is c.other.view_is c.requires c.as_slice.ensures.value _ c.unite.ensures.made c.unite.ensures.fits (sym c.unite.ensures.grew ∙ e))
