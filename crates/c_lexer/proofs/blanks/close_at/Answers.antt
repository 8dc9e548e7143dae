use Rattle.std.proofs.Common.{◌≡◌, suc, ◌+◌, ◌-◌, drop, arith, sym, subst, ap, ◌∙◌}
use Rattle.std.specs.Prelude.{option_map}
use Rattle.c_lexer.specs.Blanks.{close_at}
use Rattle.c_lexer.proofs.Close.{close_over, close_more, close_found}
use Rattle.c_lexer.proofs.blanks.close_at.Goals as goal

pub returns-then-ends-clause-value : goal.returns-then-ends-clause-value
returns-then-ends-clause-value c =
    let e : suc (c.loop-i.i - 1) ≡ c.loop-i.i = omega arith in
    close_found c.args.s.now c.loop-i.i (c.loop-i.i - 1) (close_at c.args.s.now) e c.loop-i-test.true (sym c.ends.ensures ∙ c.if-ends.true) c.loop-i.invariant

pub loop-i-preserved : goal.loop-i-preserved
loop-i-preserved c =
    let i = c.loop-i.i in
    let e : suc (i - 1) ≡ i = omega arith in
    let back : i ≡ (i + 1) - 1 = omega arith in
    subst (λ k. close_at c.args.s.now ≡ option_map (λ n. n + k) (close_at (drop k c.args.s.now))) back
    (close_more c.args.s.now i (i - 1) (close_at c.args.s.now) e c.loop-i-test.true (sym c.ends.ensures ∙ c.if-ends.false) c.loop-i.invariant)

pub returns-clause-value : goal.returns-clause-value
returns-clause-value c = sym (c.loop-i.invariant ∙ ap (option_map (λ n. n + (c.loop-i.i - 1))) (close_over c.args.s.now (c.loop-i.i - 1) (omega arith)))
