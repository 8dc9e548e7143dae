use Rattle.std.proofs.Common.{◌≡◌, None, subst, All}
use Rattle.c_typing_faults.specs.Faults.{sort_faults, head}
use Rattle.c_typing_text_laws.specs.c_text_bytes.Bytes.{AreBytes}
use Rattle.c_types.proofs.Trees.{unit_trees}
use Rattle.c_types.proofs.Lawful.{state_lawful}
use Rattle.c_types.proofs.Heights.{state_within}
use Rattle.c_types.proofs.units.check.Goals as goal

pub make_unit-requires : goal.make_unit-requires
make_unit-requires c =
    let s = c.in_ok-so_far.field-0 in
    let none : head (sort_faults s.notes.faults) ≡ None = cc in
    record { trees = unit_trees c.args.unit.now (s.so_far, (s.defined, (s.env, s.notes))) c.in_ok-so_far.ensures none }

pub returns-in_ok-make_unit-in-None-clause-lawful :
    goal.returns-in_ok-make_unit-in-None-clause-lawful
returns-in_ok-make_unit-in-None-clause-lawful c =
    let s = c.in_ok-so_far.field-0 in
    let made = c.in_ok-make_unit-in-None in
    let none : head (sort_faults s.notes.faults) ≡ None = cc in
    let texts : c.as_slice-in-None.result.now ≡ s.notes.texts = cc in
    state_lawful c.args.unit.now (s.so_far, (s.defined, (s.env, s.notes))) made.field-0 c.in_ok-so_far.ensures none made.ensures.unit made.ensures.counted
    (subst (All AreBytes) texts c.read_texts.ensures)

pub returns-in_ok-make_unit-in-None-clause-height :
    goal.returns-in_ok-make_unit-in-None-clause-height
returns-in_ok-make_unit-in-None-clause-height c =
    let s = c.in_ok-so_far.field-0 in
    let made = c.in_ok-make_unit-in-None in
    state_within c.args.unit.now (s.so_far, (s.defined, (s.env, s.notes))) made.field-0 c.in_ok-so_far.ensures made.ensures.unit
