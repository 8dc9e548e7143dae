use Rattle.std.proofs.Common.{◌∙◌, subst, sym, ap, length, ◌<◌, ◌/◌}
use Rattle.bk_bits.specs.model.Words.{is_member}
use Rattle.bk_bits.proofs.Sets.{in_words, is_tested}
use Rattle.bk_bits.proofs.set.BitSet.test.Goals as goal

pub is_in-requires : goal.is_in-requires
is_in-requires c =
    subst (λ words. c.args.k / 64 < length words) (sym c.as_slice.ensures.value)
    (in_words _ _ _ _ c.self.invariant c.self.view_is c.requires)

pub returns : goal.returns
returns c =
    c.is_in.ensures
    ∙ ap (λ words. is_member words c.args.k) c.as_slice.ensures.value
    ∙ is_tested _ _ _ _ c.self.invariant c.self.view_is c.requires
