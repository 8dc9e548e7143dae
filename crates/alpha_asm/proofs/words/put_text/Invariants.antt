use Rattle.std.proofs.Common.{◌≡◌, ◌++◌, length, map, drop}
use Rattle.alpha_isa.specs.Words.{insn_word}
use Rattle.alpha_items.specs.Layout.{item_place, label_place}
use Rattle.alpha_items.specs.Words.{text_insns}
use Rattle.alpha_asm.proofs.words.put_text.Given as goal

abbrev pub invariant-loop-i : goal.invariant-loop-i
invariant-loop-i l = record {
  here : length l.words.items ≡ item_place l.items l.far l.i;
  left : l.words.items ++ map insn_word (text_insns (label_place l.items l.far) l.start (item_place l.items l.far l.i) (drop l.i l.items) (drop l.i l.far))
      ≡ map insn_word (text_insns (label_place l.items l.far) l.start 0 l.items l.far);
}
