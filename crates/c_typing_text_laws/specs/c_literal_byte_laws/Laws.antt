-- String literals stand for bytes (C99 6.4.5).
use Rattle.std.specs.Prelude.{ℕ, List, All}
use Rattle.c_typing_judgements.specs.Texts.{spelling_bytes}
use Rattle.mem_model.specs.Bytes.{AreBytes}

-- those that stand side by side, where they are spelled by bytes
abbrev pub TextsAreBytes : Type 0
TextsAreBytes = (spellings : List (List ℕ)) → All AreBytes spellings → AreBytes (spelling_bytes spellings)
