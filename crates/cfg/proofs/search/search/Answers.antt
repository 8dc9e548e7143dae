use Rattle.std.proofs.Common.{◌<◌, ap, sym, subst, arith, length, slice_index_or}
use Rattle.cfg.specs.model.Search.{search_of}
use Rattle.cfg.proofs.Searching.{search_begin, search_turn, search_all, found_within, found_most}
use Rattle.cfg.proofs.search.search.Goals as goal

pub loop-at-init : goal.loop-at-init
loop-at-init c = search_begin c.args.followers.now c.args.marks.now c.new-found.result _ c.requires.none c.new-found.ensures c.in_ok-visit.ensures

pub returns-then-at-len-clause-all : goal.returns-then-at-len-clause-all
returns-then-at-len-clause-all c =
    search_all c.args.followers.now (search_of c.loop-at.marks c.loop-at.found) c.loop-at.at c.loop-at.invariant (let count = c.len.ensures in let past = c.if-at-len.true in omega arith)

pub bounds-followers-block : goal.bounds-followers-block
bounds-followers-block c =
    subst (λ xs. slice_index_or xs c.loop-at.at 0 < length c.args.followers.now) (sym c.as_slice.ensures)
    (found_within c.args.followers.now (search_of c.loop-at.marks c.loop-at.found) c.loop-at.at c.loop-at.invariant (let count = c.len.ensures in let more = c.if-at-len.false in omega arith))

pub loop-at-preserved : goal.loop-at-preserved
loop-at-preserved c =
    search_turn c.args.followers.now (search_of c.loop-at.marks c.loop-at.found) _ c.loop-at.at (slice_index_or c.as_slice.result.now c.loop-at.at 0) c.index-followers-block.result c.as_slice-in-loop-at.result.now c.loop-at.invariant
    (let count = c.len.ensures in let more = c.if-at-len.false in omega arith)
    (ap (λ xs. slice_index_or xs c.loop-at.at 0) c.as_slice.ensures) c.index-followers-block.is c.as_slice-in-loop-at.ensures c.in_ok-visit_all.ensures

pub returns-clause-all : goal.returns-clause-all
returns-clause-all c =
    search_all c.args.followers.now (search_of c.loop-at.marks c.loop-at.found) c.loop-at.at c.loop-at.invariant
    (let most = found_most c.args.followers.now (search_of c.loop-at.marks c.loop-at.found) c.loop-at.at c.loop-at.invariant in omega arith)
