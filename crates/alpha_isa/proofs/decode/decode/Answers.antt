-- A word decodes to the one instruction that has it.
use Rattle.std.proofs.Common.{◌≡◌, Option, Some, None, sym, ap, ◌∙◌}
use Rattle.alpha_isa.specs.declared.insn.Fields.{Fields}
use Rattle.alpha_isa.specs.Words.{insn_word, insn_of}
use Rattle.alpha_isa.proofs.Words.{word_decoded, decoded_word}
use Rattle.alpha_isa.proofs.decode.decode.Goals as goal

pub returns-in_err-fields-clause-only : goal.returns-in_err-fields-clause-only
returns-in_err-fields-clause-only c i l e =
    let none : ◌≡◌ {A = Option Fields} None (insn_of c.args.word) = c.in_err-fields.ensures in
    let some : ◌≡◌ {A = Option Fields} (insn_of (insn_word i)) (Some i) = word_decoded i l in
    let same : insn_of (insn_word i) ≡ insn_of c.args.word = ap insn_of e in
    absurd (cc)

pub invariant_of-result : goal.invariant_of-result
invariant_of-result c = (decoded_word c.args.word c.in_ok-fields.fields (sym c.in_ok-fields.ensures)).0

pub returns-clause-found : goal.returns-clause-found
returns-clause-found c = (decoded_word c.args.word c.in_ok-fields.fields (sym c.in_ok-fields.ensures)).1

pub returns-clause-only : goal.returns-clause-only
returns-clause-only c i l e = c.in_ok-fields.ensures ∙ sym (ap insn_of e) ∙ word_decoded i l
