use Rattle.std.proofs.Common.{◌+◌, ap, arith}
use Rattle.c_parser_nesting.specs.declared.nesting.Group.{Group}
use Rattle.c_parser_nesting.specs.model.Walking.{state_of}
use Rattle.c_parser_nesting.proofs.Totals.{segment_within, at_token_within}
use Rattle.c_parser_nesting.proofs.nesting.Walk.step.Goals as goal

pub at_token-self-requires : goal.at_token-self-requires
at_token-self-requires c = let s = state_of c.args.self.now in omega (arith, segment_within s.outer s.group)

pub open-requires : goal.open-requires
open-requires c =
    let s = state_of c.args.self.now in
    omega (arith, at_token_within s.ended c.args.role s.outer s.group, ap (λ (g : Group). g.count) c.at_token-self.ensures)

pub close-requires : goal.close-requires
close-requires c =
    let s = state_of c.args.self.now in
    omega (arith, at_token_within s.ended c.args.role s.outer s.group, ap (λ (g : Group). g.count + g.value) c.at_token-self.ensures)

pub close-requires-in-ClosesBrace : goal.close-requires-in-ClosesBrace
close-requires-in-ClosesBrace c =
    let s = state_of c.args.self.now in
    omega (arith, at_token_within s.ended c.args.role s.outer s.group, ap (λ (g : Group). g.count + g.value) c.at_token-self.ensures)

pub with_one-self-requires : goal.with_one-self-requires
with_one-self-requires c =
    let s = state_of c.args.self.now in
    omega (arith, at_token_within s.ended c.args.role s.outer s.group, ap (λ (g : Group). g.count) c.at_token-self.ensures)
