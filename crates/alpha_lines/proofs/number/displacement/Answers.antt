-- What was parsed is the one number that the bytes can spell.
use Rattle.std.proofs.Common.{Bool, true, false, refl, sym, ap, ◌∙◌, ◌≡◌}
use Rattle.std.specs.Fmt.{signed_decimal}
use Rattle.alpha_lines.specs.model.Numbers.{displacement_of}
use Rattle.alpha_lines.proofs.Numbers.{displacement_complete, displacement_missed, displacement_other, held_displacement}
use Rattle.alpha_lines.proofs.number.displacement.Goals as goal

pub returns-in_default-clause-value : goal.returns-in_default-clause-value
returns-in_default-clause-value c = displacement_missed c.args.s.now c.in_default.ensures.only

pub returns-then-not-spells_displacement-clause-value : goal.returns-then-not-spells_displacement-clause-value
returns-then-not-spells_displacement-clause-value c = displacement_other c.args.s.now c.in-Some.n c.in-Some.ensures.only (λ e. let clash : ◌≡◌ {A = Bool} false true = c.if-not-spells_displacement.ensures.1 (e ∙ ap signed_decimal (sym (held_displacement c.in-Some.n c.in-Some.ensures.within))) in absurd (cc))

pub returns-clause-value : goal.returns-clause-value
returns-clause-value c =
    let text = c.if-not-spells_displacement.ensures.0 refl in
    let same = held_displacement c.in-Some.n c.in-Some.ensures.within in
    rw same (sym (ap displacement_of (text ∙ ap signed_decimal same) ∙ displacement_complete c.in-Some.n c.in-Some.ensures.within))
