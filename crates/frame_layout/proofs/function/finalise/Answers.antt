use Rattle.std.proofs.Common.{◌∷◌, [], ◌∙◌, ap, arith}
use Rattle.alpha_items.specs.declared.item.AsmItem.TheVariants as item
use Rattle.alloc_model.specs.Effect.{widest_call}
use Rattle.alloc_model.specs.Places.{plan_of}
use Rattle.frame_emitter.specs.Items.{function_items}
use Rattle.frame_emitter.specs.Settings.{near_blocks, near_plan, with_blocks, setting_of}
use Rattle.frame_emitter.specs.Layouts.{setting_in}
use Rattle.frame_layout.proofs.Soundness.{near_widest, sound_of}
use Rattle.frame_layout.proofs.function.finalise.Goals as goal

pub layout_of-requires-clause-arguments : goal.layout_of-requires-clause-arguments
layout_of-requires-clause-arguments c =
    let e = c.as_slice-2.ensures ∙ c.in_ok-blocks.ensures ∙ ap near_blocks c.as_slice.ensures in
    let w = ap widest_call e ∙ near_widest c.args.a.now.func.blocks in
    omega (arith, w, c.requires.can.arguments)

pub items_of-requires-clause-sound : goal.items_of-requires-clause-sound
items_of-requires-clause-sound c =
    let a = c.args.a.now in
    let can = c.requires.can in
    let e = c.as_slice-2.ensures ∙ c.in_ok-blocks.ensures ∙ ap near_blocks c.as_slice.ensures in
    sound_of a c.args.globals.now c.args.first_label c.in_ok-layout.layout c.requires.faithful.lists
    can.calls can.labels can.layout can.data_size can.names can.objects can.temps can.arguments
    c.in_ok-layout.ensures.allocation (c.in_ok-layout.ensures.blocks ∙ e) c.in_ok-layout.ensures.label
    (c.in_ok-layout.ensures.setting ∙ ap (λ bs. setting_of (with_blocks (plan_of a) bs) c.args.globals.now c.args.first_label) e)

pub returns-clause-items : goal.returns-clause-items
returns-clause-items c =
    let a = c.args.a.now in
    let l = c.in_ok-layout.layout in
    let number = c.args.number in
    let e = c.as_slice-2.ensures ∙ c.in_ok-blocks.ensures ∙ ap near_blocks c.as_slice.ensures in
    let p = near_plan (plan_of a) in
    let plan = c.in_ok-layout.ensures.plan ∙ ap (with_blocks (plan_of a)) e in
    let setting = c.in_ok-layout.ensures.setting ∙ ap (λ bs. setting_of (with_blocks (plan_of a) bs) c.args.globals.now c.args.first_label) e in
    c.into_vec.ensures ∙ c.in_ok-put.ensures
    ∙ ap (λ n. item.Name n ∷ c.in_ok-items.items) (c.in_ok-from_slice.ensures ∙ c.as_slice-name.ensures)
    ∙ ap (λ is. item.Name a.func.name ∷ is)
    (c.in_ok-items.ensures ∙ ap (λ q. function_items q (setting_in l) number []) plan ∙ ap (λ g. function_items p g number []) setting)
