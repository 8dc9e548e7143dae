-- What stands at the end of a text with no wrong line is whole, and it is the only one.
use Rattle.std.proofs.Common.{◌≡◌, ◌≤◌, sym, ◌∙◌, subst}
use Rattle.alpha_isa.specs.Program.{most_bytes}
use Rattle.alpha_text.specs.declared.fault.TextFault.TheVariants as fault
use Rattle.alpha_text.specs.Texts.{Texts, HasText}
use Rattle.alpha_text.specs.Read.{IsTextFault}
use Rattle.alpha_text.proofs.Joined.{raised_fault, raised_only}
use Rattle.alpha_text.proofs.Whole.{read_whole, read_text, read_fields}
use Rattle.alpha_text.proofs.Again.{read_again, fault_again}
use Rattle.alpha_text.proofs.read.read_asm.Goals as goal

pub returns-in_err-parts-clause-fault : goal.returns-in_err-parts-clause-fault
returns-in_err-parts-clause-fault c = raised_fault (IsTextFault c.args.text.now) c.from_residual.result c.in_err-parts.field-0.0 c.in_err-parts.ensures.fault c.from_residual.ensures.1

pub returns-in_err-parts-clause-only : goal.returns-in_err-parts-clause-only
returns-in_err-parts-clause-only c asm whole has e =
    raised_only (λ found. found ≡ asm) c.from_residual.result c.in_err-parts.field-0.0 fault.NoMemory (fault_again c.args.text.now c.in_err-parts.field-0.0 asm c.in_err-parts.ensures.fault whole has e) c.from_residual.ensures.1

pub returns-in_err-within_limit-clause-only : goal.returns-in_err-within_limit-clause-only
returns-in_err-within_limit-clause-only c asm whole has e =
    let p = c.in_ok-parts.parts in
    let beyond = c.in_err-within_limit.ensures.beyond in
    raised_only (λ found. found ≡ asm) c.from_residual-in_err-within_limit.result c.in_err-within_limit.field-0.0 fault.NoMemory
    (beyond.0 ∙ fault_again c.args.text.now (fault.Data p.count) asm ((p.items.items, p.bytes.items, p.fixes.items, c.in_ok-parts.ensures.read), beyond.1) whole has e) c.from_residual-in_err-within_limit.ensures.1

pub new-requires : goal.new-requires
new-requires c =
    let p = c.in_ok-parts.parts in
    let low : p.count ≤ most_bytes = c.in_ok-within_limit.ensures.within in
    read_whole c.args.text.now p.items.items p.count p.bytes.items p.fixes.items c.in_ok-parts.ensures.read low

pub returns-clause-text : goal.returns-clause-text
returns-clause-text c =
    let p = c.in_ok-parts.parts in
    subst (Texts c.args.text.now) (sym c.new.ensures.asm) (read_text c.args.text.now p.items.items p.count p.bytes.items p.fixes.items c.in_ok-parts.ensures.read)

pub returns-clause-fields : goal.returns-clause-fields
returns-clause-fields c =
    let p = c.in_ok-parts.parts in
    subst HasText (sym c.new.ensures.asm) (read_fields c.args.text.now p.items.items p.count p.bytes.items p.fixes.items c.in_ok-parts.ensures.read)

pub returns-clause-only : goal.returns-clause-only
returns-clause-only c asm whole has e =
    let p = c.in_ok-parts.parts in
    c.new.ensures.asm ∙ read_again c.args.text.now p.items.items p.count p.bytes.items p.fixes.items asm c.in_ok-parts.ensures.read whole has e
