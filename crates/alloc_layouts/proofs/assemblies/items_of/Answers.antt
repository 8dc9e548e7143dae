use Rattle.std.proofs.Common.{◌≡◌, ◌++◌, ap, ◌∙◌, subst}
use Rattle.std.specs.Prelude.{unwrap_or}
use Rattle.std.specs.List.{position}
use Rattle.temp_ir.specs.Programs.{is_main}
use Rattle.alloc_layouts.proofs.Whole.{whole_text}
use Rattle.alloc_layouts.proofs.assemblies.items_of.Goals as goal

pub returns : goal.returns
returns g c =
    whole_text g.A.Allocates.gives g.met.A.Allocates.lawful c.args.globals.now c.args.functions c.main_number-main.result c.in_ok-items.items.items
    c.lay_out_all.new.items.items c.append.new.self.items
    (subst (λ fs. c.main_number-main.result ≡ unwrap_or (position is_main fs) 0) c.as_slice.ensures c.main_number-main.ensures.number)
    (c.in_ok-items.ensures.items ∙ c.start_piece.ensures) c.in_ok-lay_out_all.ensures
    (c.in_ok-append.ensures.items ∙ ap (λ l. c.lay_out_all.new.items.items ++ l) c.in_ok-routines.ensures)
