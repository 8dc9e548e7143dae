use Rattle.std.proofs.Common.{ap, arith, ◌∙◌, map}
use Rattle.c_lexer.specs.declared.token.TokenKind.TheVariants.{Name}
use Rattle.c_parser_nesting.specs.Nesting.{nesting}
use Rattle.c_parser_nesting.specs.HasNesting.{role_of_token}
use Rattle.c_parser_nesting.specs.model.Walking.{State, state_of, total_of}
use Rattle.c_parser_nesting.proofs.Totals.{step_raises}
use Rattle.c_parser_nesting.proofs.Reading.{walk_further, walk_done}
use Rattle.c_parser_nesting.proofs.nesting.nesting_of.Goals as goal

pub loop-token-preserved : goal.loop-token-preserved
loop-token-preserved c =
    let tokens = c.args.tokens.now in
    let i = c.loop-token.token-index in
    let s = state_of c.loop-token.walk in
    let s' = state_of c.step.new.self in
    let stepped = c.in_ok-step.ensures in
    record {
      value = walk_further tokens i (nesting (map role_of_token tokens)) (record { kind = Name; at = 0; len = 0 }) c.role_of.result s s' c.loop-token-test.true c.role_of.ensures stepped c.loop-token.invariant.value;
      within = omega (arith, step_raises c.role_of.result s, ap (λ (s : State). total_of s) stepped);
    }

pub returns : goal.returns
returns c =
    let tokens = c.args.tokens.now in
    let s = state_of c.loop-token.walk in
    c.finish.ensures ∙ walk_done tokens c.loop-token.token-index (nesting (map role_of_token tokens)) s c.loop-token-test.false c.loop-token.invariant.value
