use Rattle.std.proofs.Common.{◌≡◌, sym, ap, subst, arith}
use Rattle.c_lexer.specs.Pieces.{Pieces, lexemes}
use Rattle.c_lexer.specs.Steps.{TextPlace}
use Rattle.c_lexer.proofs.Whole.{walk_push, walk_end, walk_fault}
use Rattle.c_parser_nesting.proofs.Reading.{none_yet, walk_on, fault_told}
use Rattle.c_parser_nesting.proofs.scan.tokens.Goals as goal

pub loop-tokens-init : goal.loop-tokens-init
loop-tokens-init c =
    let text : c.new-lexer.result.text ≡ c.args.text.now = ap (λ (p : TextPlace). p.text) c.new-lexer.ensures in
    let at : c.new-lexer.result.at ≡ 0 = ap (λ (p : TextPlace). p.at) c.new-lexer.ensures in
    record {
      same_text = sym text;
      so_far = none_yet c.args.text.now c.new-lexer.result.at c.new-tokens.result.items at c.new-tokens.ensures.items;
      count = omega arith;
      within = omega arith;
    }

pub returns-in_err-token-clause-fault : goal.returns-in_err-token-clause-fault
returns-in_err-token-clause-fault c =
    let text = c.args.text.now in
    let i = c.loop-tokens.invariant in
    let f = c.in_err-token.field-0.0 in
    fault_told text f c.from_residual.result (walk_fault text (lexemes text c.loop-tokens.tokens.items) c.loop-tokens.lexer c.next.new.self f i.same_text i.so_far c.in_err-token.ensures.fault) c.from_residual.ensures.1

pub returns-in-End-clause-all : goal.returns-in-End-clause-all
returns-in-End-clause-all c =
    let text = c.args.text.now in
    let i = c.loop-tokens.invariant in
    walk_end text (lexemes text c.loop-tokens.tokens.items) c.loop-tokens.lexer c.next.new.self c.in_ok-token.token i.same_text i.so_far c.in_ok-token.ensures.token c.in-End.is

pub loop-tokens-smaller : goal.loop-tokens-smaller
loop-tokens-smaller c =
    let m = walk_on c.args.text.now c.loop-tokens.lexer c.next.new.self c.in_ok-token.token c.loop-tokens.invariant.same_text c.in_ok-token.ensures.token c.in_default.not-End in
    omega (arith, m.0, m.1)

pub loop-tokens-preserved : goal.loop-tokens-preserved
loop-tokens-preserved c =
    let text = c.args.text.now in
    let i = c.loop-tokens.invariant in
    let t = c.in_ok-token.token in
    let m = walk_on text c.loop-tokens.lexer c.next.new.self t i.same_text c.in_ok-token.ensures.token c.in_default.not-End in
    let w = walk_push text c.loop-tokens.tokens.items c.loop-tokens.lexer c.next.new.self t i.same_text i.so_far c.in_ok-token.ensures.token c.in_default.not-End in
    record {
      same_text = w.0;
      so_far = subst (λ us. Pieces text 0 (lexemes text us) c.next.new.self.at) (sym c.in_ok-push.ensures.items) w.1;
      count = omega (arith, m.0, c.in_ok-push.ensures.len);
      within = m.1;
    }
