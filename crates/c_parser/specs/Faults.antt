-- Why the nesting of a text is not given.
use Rattle.std.specs.Prelude.{ℕ, List}
use Rattle.bk_memory.specs.Shortage.{MemoryIsShort}
use Rattle.c_lexer.specs.Pieces.{FaultAt}
use Rattle.c_parser.specs.declared.fault.ParseFault.{ParseFault}
use Rattle.c_parser.specs.declared.fault.ParseFault.TheVariants.{Lex, Nesting, Syntax, NoMemory}

-- The text has a place at which no token begins, and this is the first; or memory is short.
abbrev pub HasNoNesting : List ℕ → ParseFault → Type 0
HasNoNesting text (Lex at) = FaultAt text at
HasNoNesting text (Nesting counted) = ⊥
HasNoNesting text (Syntax at) = ⊥
HasNoNesting text NoMemory = MemoryIsShort
