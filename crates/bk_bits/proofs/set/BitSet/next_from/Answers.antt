use Rattle.std.proofs.lemmas.Option.{IfSome_then}
use Rattle.bk_bits.proofs.Sets.{few_words, next_some, next_none, none_then}
use Rattle.bk_bits.proofs.set.BitSet.next_from.Goals as goal

pub next_in-requires : goal.next_in-requires
next_in-requires c = few_words _ _ _ _ c.self.invariant c.self.view_is c.as_slice.ensures.value

pub returns-clause-some : goal.returns-clause-some
returns-clause-some c =
    IfSome_then c.next_in.result c.next_in.ensures.some
    (next_some _ _ _ _ c.self.invariant c.self.view_is c.as_slice.ensures.value c.args.k)

pub returns-clause-none : goal.returns-clause-none
returns-clause-none c =
    none_then c.next_in.result c.next_in.ensures.none
    (next_none _ _ _ _ c.self.invariant c.self.view_is c.as_slice.ensures.value c.args.k)
