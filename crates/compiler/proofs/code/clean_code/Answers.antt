use Rattle.std.proofs.Common.{refl}
use Rattle.compiler.proofs.KeptCode.{kept_is_small}
use Rattle.compiler.proofs.code.clean_code.Goals as goal

pub clean-requires : goal.clean-requires
clean-requires c =
    kept_is_small c.args.lowered c.in_ok-copied.copied
    (c.copies_keep_code.ensures c.args.lowered c.in_ok-copied.copied c.in_ok-copied.ensures) c.requires

pub clean_in_turn-requires : goal.clean_in_turn-requires
clean_in_turn-requires c =
    kept_is_small c.args.lowered c.in_ok-copied.copied
    (c.copies_keep_code.ensures c.args.lowered c.in_ok-copied.copied c.in_ok-copied.ensures) c.requires

pub returns-in_ok-vm-in-Everything : goal.returns-in_ok-vm-in-Everything
returns-in_ok-vm-in-Everything c = record {
  copied = c.in_ok-copied.copied;
  without_copies = c.in_ok-copied.ensures;
  clean = c.in_ok-vm-in-Everything.ensures;
  keeps = c.code_is_kept_along.ensures c.args.lowered c.in_ok-copied.copied c.in_ok-vm-in-Everything.vm
      (c.copies_keep_code.ensures c.args.lowered c.in_ok-copied.copied c.in_ok-copied.ensures)
      (c.cleaning_keeps_code.ensures c.in_ok-copied.copied c.in_ok-vm-in-Everything.vm c.in_ok-vm-in-Everything.ensures);
  kept = λ e. refl;
}

pub returns-in_ok-vm-in-Image : goal.returns-in_ok-vm-in-Image
returns-in_ok-vm-in-Image c =
    let image = c.in-Image.is in
    record {
      copied = c.in_ok-copied.copied;
      without_copies = c.in_ok-copied.ensures;
      clean = c.in_ok-vm-in-Image.ensures;
      keeps = c.code_is_kept_along.ensures c.args.lowered c.in_ok-copied.copied c.in_ok-vm-in-Image.vm
          (c.copies_keep_code.ensures c.args.lowered c.in_ok-copied.copied c.in_ok-copied.ensures)
          (c.cleaning_keeps_code.ensures c.in_ok-copied.copied c.in_ok-vm-in-Image.vm c.in_ok-vm-in-Image.ensures);
      kept = λ e. let clash : ⊥ = cc in absurd clash;
    }
