-- What comes of a parse of the words.
use Rattle.std.specs.Prelude.{◌≡◌, ◌≢◌, true, false, List}
use Rattle.bk_memory.specs.Shortage.{MemoryIsShort}
use Rattle.clap.specs.Words.{Text, found_of, kind_of, rows_of}
use Rattle.clap.specs.declared.error.Error.{Error}
use Rattle.clap.specs.declared.error.kind.ErrorKind.TheVariants.{OutOfMemory}
use Rattle.clap.specs.declared.parser.matches.ArgMatches.{ArgMatches}
use Rattle.call_words.specs.declared.read.WordsFault.{WordsFault}
use Rattle.call_words.specs.declared.read.WordsFault.TheVariants as fault
use Rattle.call_words.specs.Line.{are_well, rows_in}

-- the fault of an error
abbrev pub IsFaultBy : Error → WordsFault → Type 0
IsFaultBy error fault.Usage = kind_of error ≢ OutOfMemory
IsFaultBy error fault.NoMemory = MemoryIsShort

-- the words are well, and these are their matches
pub record IsMatched (words : List Text) (m : ArgMatches) : Type 0 where
  pub well : are_well words ≡ true
  pub rows : rows_of (found_of m) ≡ rows_in words

-- the words are not well, or memory is short
abbrev pub IsUnmatched : List Text → WordsFault → Type 0
IsUnmatched words fault.Usage = are_well words ≡ false
IsUnmatched words fault.NoMemory = MemoryIsShort
