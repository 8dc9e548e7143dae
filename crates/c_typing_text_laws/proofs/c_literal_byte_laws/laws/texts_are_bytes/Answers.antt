use Rattle.c_typing_text_laws.proofs.CLiteralByteLaws.Literals.{texts_bytes}
use Rattle.c_typing_text_laws.proofs.c_literal_byte_laws.laws.texts_are_bytes.Goals as goal

pub returns : goal.returns
returns c = texts_bytes
