use Rattle.std.proofs.Common.{◌≡◌, ◌∷◌, rules, ap, ◌∙◌}
use Rattle.bk_ilist.specs.Listing.{items}
use Rattle.flow_clean.proofs.Fronts.{first_there, front_put}
use Rattle.flow_clean.proofs.lists.push_front.Goals as goal

pub insert_before-id-requires-clause-place : goal.insert_before-id-requires-clause-place
insert_before-id-requires-clause-place g c = first_there c.reserve.new.self.pairs c.first.result c.in-Some.first c.first.ensures c.in-Some.is

pub returns-in-Some-clause-ok : goal.returns-in-Some-clause-ok
returns-in-Some-clause-ok g c =
    let same : items c.reserve.new.self.pairs ≡ c.args.block.now = search rules in
    front_put c.reserve.new.self.pairs c.insert_before-id.new.self.pairs c.first.result c.in-Some.first c.insert_before-id.result c.args.insn
    c.first.ensures c.in-Some.is c.insert_before-id.ensures.pairs
    ∙ ap (λ l. c.args.insn ∷ l) same
