use Rattle.std.proofs.Common.{drop}
use Rattle.mem_model.specs.Bytes.{AreBytes}
use Rattle.c_typing_text_laws.proofs.c_text_bytes.texts.read_text.Given as goal

abbrev pub invariant-loop-byte : goal.invariant-loop-byte
invariant-loop-byte l = AreBytes (drop l.byte-index l.text) → AreBytes l.text
