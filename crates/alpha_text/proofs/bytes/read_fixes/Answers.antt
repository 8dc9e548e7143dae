use Rattle.std.proofs.Common.{◌≡◌, ℕ, ◌+◌, List, [], length, sym, ap, ◌∙◌, subst}
use Rattle.std.specs.Prelude.{IsTrue}
use Rattle.alpha_items.specs.declared.item.Fix.{Fix}
use Rattle.alpha_text.specs.Wrong.{Data, Place, Says, is_ended}
use Rattle.alpha_text.specs.model.Judged.{HasFix}
use Rattle.alpha_items.specs.declared.item.AsmItem.{AsmItem}
use Rattle.alpha_text.specs.declared.fault.TextFault.TheVariants.{Line}
use Rattle.alpha_text.specs.model.Reaches.{Reaches, IsFaultFrom}
use Rattle.alpha_text.proofs.Joined.{raised_fault}
use Rattle.alpha_text.proofs.Lines.{ended_none}
use Rattle.alpha_text.proofs.Steps.{IsNextLine, reaches_step, fault_line, fault_end, well_end}
use Rattle.alpha_text.proofs.Judged.{no_place}
use Rattle.alpha_text.proofs.bytes.read_fixes.Goals as goal

pub returns-in_err-fix-clause-fault : goal.returns-in_err-fix-clause-fault
returns-in_err-fix-clause-fault c =
    let line = c.in-Some.line.now in
    let fixes = c.loop-line.fixes.items in
    let wrong = c.in_err-fix.ensures.none in
    let none = subst (λ (fs : List Fix). (fix : Fix) → HasFix line fs c.args.count fix → ⊥) c.as_slice.ensures.value wrong.1 in
    let next : IsNextLine c.loop-line.lines line c.next_line.new.self = record { lines = c.in-Some.ensures.line.0; ended = c.in-Some.ensures.line.1; count = c.in-Some.ensures.line.2 } in
    raised_fault (λ e. (all : List (List ℕ)) (items : List AsmItem) (bytes : List ℕ) → length bytes ≡ c.args.count → IsFaultFrom all (Data items c.args.count bytes []) c.args.lines.now e) c.from_residual.result c.in_err-fix.field-0.0
    (λ all items bytes full. subst (IsFaultFrom all (Data items c.args.count bytes []) c.args.lines.now) (sym wrong.0)
    (rw c.count.ensures (fault_line all (Data items c.args.count bytes []) (Data items c.args.count bytes fixes) c.args.lines.now c.loop-line.lines c.next_line.new.self line
    (c.loop-line.invariant all items bytes full) next (no_place all items c.args.count bytes fixes line full none)))) c.from_residual.ensures.1

pub loop-line-preserved : goal.loop-line-preserved
loop-line-preserved c all items bytes full =
    let has = subst (λ (fs : List Fix). HasFix c.in-Some.line.now fs c.args.count c.in_ok-fix.fix) c.as_slice.ensures.value c.in_ok-fix.ensures.fix in
    let next : IsNextLine c.loop-line.lines c.in-Some.line.now c.next_line.new.self = record { lines = c.in-Some.ensures.line.0; ended = c.in-Some.ensures.line.1; count = c.in-Some.ensures.line.2 } in
    let more = c.in_ok-push.ensures.items in
    let says : Says all (Data items c.args.count bytes c.loop-line.fixes.items) c.in-Some.line.now (Place c.in_ok-fix.fix) = record { fields = has.0; spelled = has.1; stands = (full, has.2, has.3) } in
    subst (λ (fs : List Fix). Reaches all (Data items c.args.count bytes []) c.args.lines.now (Data items c.args.count bytes fs) c.next_line.new.self) (sym more)
    (reaches_step all (Data items c.args.count bytes []) (Data items c.args.count bytes c.loop-line.fixes.items) c.args.lines.now c.loop-line.lines c.next_line.new.self c.in-Some.line.now (Place c.in_ok-fix.fix) (c.loop-line.invariant all items bytes full) next says)

pub returns-in_err-expect_end-clause-fault : goal.returns-in_err-expect_end-clause-fault
returns-in_err-expect_end-clause-fault c =
    let fixes = c.loop-line.fixes.items in
    let same = c.in_default.ensures.line.1 in
    let rest = c.in_err-expect_end.ensures.rest in
    let missing : IsTrue (is_ended c.loop-line.lines.0) → ⊥ = λ e.
    (let empty = ended_none c.loop-line.lines.0 c.in_default.ensures.line.0 e in
    rest.1 (ap (λ p. p.0) same ∙ empty)) in
    let number : c.in_err-expect_end.field-0.0 ≡ Line (c.loop-line.lines.1 + 1) = rest.0 ∙ ap (λ p. Line (p.1 + 1)) same in
    raised_fault (λ e. (all : List (List ℕ)) (items : List AsmItem) (bytes : List ℕ) → length bytes ≡ c.args.count → IsFaultFrom all (Data items c.args.count bytes []) c.args.lines.now e) c.from_residual-in_err-expect_end.result c.in_err-expect_end.field-0.0
    (λ all items bytes full. subst (IsFaultFrom all (Data items c.args.count bytes []) c.args.lines.now) (sym number)
    (fault_end all (Data items c.args.count bytes []) (Data items c.args.count bytes fixes) c.args.lines.now c.loop-line.lines (c.loop-line.invariant all items bytes full) c.in_default.ensures.line.0 (λ h. missing h.1))) c.from_residual-in_err-expect_end.ensures.1

pub returns-clause-read : goal.returns-clause-read
returns-clause-read c all items bytes full =
    let same = c.in_default.ensures.line.1 in
    let empty = sym (ap (λ p. p.0) same) ∙ c.in_ok-expect_end.ensures.end in
    well_end all (Data items c.args.count bytes []) (Data items c.args.count bytes c.loop-line.fixes.items) c.args.lines.now c.loop-line.lines (c.loop-line.invariant all items bytes full) c.in_default.ensures.line.0 full (ap is_ended empty)
