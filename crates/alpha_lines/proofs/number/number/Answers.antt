-- What was parsed is the one number that the bytes can spell.
use Rattle.std.proofs.Common.{◌≡◌, Bool, true, false, refl, sym, arith}
use Rattle.alpha_lines.proofs.Numbers.{number_complete, number_missed, number_other}
use Rattle.alpha_lines.proofs.number.number.Goals as goal

pub returns-in_default-clause-value : goal.returns-in_default-clause-value
returns-in_default-clause-value c = number_missed c.args.most c.args.s.now (omega arith) c.in_default.ensures

pub returns-then-n-most-clause-value : goal.returns-then-n-most-clause-value
returns-then-n-most-clause-value c = number_other c.args.most c.args.s.now c.in-Some.n (omega arith) c.in-Some.ensures (λ low e. absurd (omega arith))

pub returns-then-not-spells_number-clause-value : goal.returns-then-not-spells_number-clause-value
returns-then-not-spells_number-clause-value c = number_other c.args.most c.args.s.now c.in-Some.n (omega arith) c.in-Some.ensures (λ low e. let clash : ◌≡◌ {A = Bool} false true = c.if-not-spells_number.ensures.1 e in absurd (cc))

pub returns-clause-value : goal.returns-clause-value
returns-clause-value c = sym (number_complete c.args.most c.args.s.now c.in-Some.n (omega arith) (omega arith) (c.if-not-spells_number.ensures.0 refl))
