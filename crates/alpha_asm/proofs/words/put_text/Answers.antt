use Rattle.std.proofs.Common.{arith, ◌<◌, length, map}
use Rattle.alpha_isa.specs.Words.{insn_word}
use Rattle.alpha_items.specs.Layout.{label_place}
use Rattle.alpha_items.specs.Words.{text_insns}
use Rattle.alpha_asm.proofs.Text.{reaches_at, text_more}
use Rattle.alpha_asm.proofs.words.put_text.Goals as goal

pub put_item-requires-clause-reaches : goal.put_item-requires-clause-reaches
put_item-requires-clause-reaches c =
    let inside : c.loop-i.i < length c.args.items.now = omega arith in
    reaches_at c.args.items.now c.args.targets.now c.args.far.now c.args.places.now c.loop-i.words.items c.loop-i.i c.index-items-i.result
    c.requires.laid_out inside c.index-items-i.is c.loop-i.invariant.here

pub loop-i-preserved : goal.loop-i-preserved
loop-i-preserved c =
    let inside : c.loop-i.i < length c.args.items.now = omega arith in
    let both = text_more c.args.items.now c.args.targets.now c.args.far.now c.args.places.now c.args.start c.loop-i.i c.index-items-i.result
    c.loop-i.words.items c.put_item.new.words.items
    (map insn_word (text_insns (label_place c.args.items.now c.args.far.now) c.args.start 0 c.args.items.now c.args.far.now))
    c.requires.laid_out inside c.index-items-i.is c.loop-i.invariant.here c.in_ok-put_item.ensures c.loop-i.invariant.left in
    record { here = both.0; left = both.1 }
