use Rattle.compiler.proofs.KeptCode.{clean_does}
use Rattle.compiler.proofs.Parts.{code_within}
use Rattle.compiler.proofs.Rewritten.{light_too}
use Rattle.compiler.proofs.code.code_of.Goals as goal

pub lower_unit-requires : goal.lower_unit-requires
lower_unit-requires c =
    light_too c.args.typed.unit c.in_ok-typed.field-0.made.unit c.in_ok-typed.ensures.made c.requires

pub clean_code-requires : goal.clean_code-requires
clean_code-requires c = c.in_ok-rewritten.ensures.made.size

pub select_code-requires-clause-size : goal.select_code-requires-clause-size
select_code-requires-clause-size c =
    (clean_does c.rewritten_code_does_as_unit.ensures c.kept_code_does_as_unit.ensures c.args.typed.unit
    c.in_ok-typed.field-0.made.unit c.in_ok-rewritten.field-0.made c.in_ok-copied.field-0.made c.args.wanted
    c.in_ok-copied.field-0.given c.in_ok-typed.ensures.made c.in_ok-rewritten.ensures.made c.in_ok-copied.ensures).size

pub select_code-requires-clause-registers : goal.select_code-requires-clause-registers
select_code-requires-clause-registers c =
    (clean_does c.rewritten_code_does_as_unit.ensures c.kept_code_does_as_unit.ensures c.args.typed.unit
    c.in_ok-typed.field-0.made.unit c.in_ok-rewritten.field-0.made c.in_ok-copied.field-0.made c.args.wanted
    c.in_ok-copied.field-0.given c.in_ok-typed.ensures.made c.in_ok-rewritten.ensures.made c.in_ok-copied.ensures).registers

pub clean_and_split-requires : goal.clean_and_split-requires
clean_and_split-requires c = record { few = c.in_ok-vm.ensures.made.few }

pub returns : goal.returns
returns c =
    let p = c.in_ok-temps.ensures in
    record {
      rewritten = c.in_ok-typed.field-0.made;
      lowered = c.in_ok-rewritten.field-0.made;
      copied = c.in_ok-copied.ensures.copied;
      vm = c.in_ok-copied.field-0.made;
      is_rewritten = c.in_ok-typed.ensures.made;
      is_code = c.in_ok-rewritten.ensures.made.code;
      without_copies = c.in_ok-copied.ensures.without_copies;
      clean = c.in_ok-copied.ensures.clean;
      within = code_within c.args.typed.unit c.in_ok-copied.field-0.made c.in_ok-vm.field-0.made c.in_ok-temps.temps
          (clean_does c.rewritten_code_does_as_unit.ensures c.kept_code_does_as_unit.ensures c.args.typed.unit
          c.in_ok-typed.field-0.made.unit c.in_ok-rewritten.field-0.made c.in_ok-copied.field-0.made c.args.wanted
          c.in_ok-copied.field-0.given c.in_ok-typed.ensures.made c.in_ok-rewritten.ensures.made c.in_ok-copied.ensures)
          c.in_ok-vm.ensures.made (record { keeps = p.keeps; reached = p.reached; split = p.split; labels = p.labels });
      typed_kept = c.in_ok-typed.ensures.kept;
      rewritten_kept = c.in_ok-rewritten.ensures.kept;
      copied_kept = c.in_ok-copied.ensures.kept;
      vm_kept = c.in_ok-vm.ensures.kept;
    }
