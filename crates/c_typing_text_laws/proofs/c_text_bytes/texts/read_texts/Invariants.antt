use Rattle.std.proofs.Common.{take, All}
use Rattle.mem_model.specs.Bytes.{AreBytes}
use Rattle.c_typing_text_laws.proofs.c_text_bytes.texts.read_texts.Given as goal

abbrev pub invariant-loop-text : goal.invariant-loop-text
invariant-loop-text l = All AreBytes (take l.text-index l.texts)
