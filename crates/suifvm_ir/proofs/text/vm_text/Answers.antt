use Rattle.std.proofs.Common.{◌++◌, ap, ◌∙◌}
use Rattle.suifvm_ir.specs.Text.{program_text}
use Rattle.suifvm_ir.proofs.text.vm_text.Goals as goal

pub returns : goal.returns
returns c =
    c.in_ok-put_program.ensures ∙ ap (λ items. items ++ program_text c.as_slice.result.now) c.new-out.ensures.items
    ∙ ap program_text c.as_slice.ensures
