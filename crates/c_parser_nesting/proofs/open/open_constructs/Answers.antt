use Rattle.std.proofs.Common.{rules, ◌≡◌, [], map, max}
use Rattle.c_parser_nesting.specs.OpenConstructs.{most_open_from, kind_of_token}
use Rattle.c_parser_nesting.specs.model.Opening.{open_of}
use Rattle.c_parser_nesting.proofs.Opening.{turn}
use Rattle.c_parser_nesting.proofs.open.open_constructs.Goals as goal

pub loop-kind-preserved : goal.loop-kind-preserved
loop-kind-preserved c =
    let n = most_open_from [] (map kind_of_token c.args.tokens.now) in
    let greater : c.max-most.result ≡ max c.loop-kind.most c.count.result = search rules in
    let h = turn c.in-Some.kind c.first_kind.result c.loop-kind.left.now c.behind_first-left.result.now (open_of c.loop-kind.walk) (open_of c.step.new.self) c.loop-kind.most c.count.result c.max-most.result n c.in-Some.ensures c.behind_first-left.ensures c.first_kind.ensures c.in_ok-step.ensures c.count.ensures greater c.loop-kind.invariant.counted c.loop-kind.invariant.value in
    record { value = h.0; counted = h.1 }
