-- Why a text is not read, by why its parts are not.
use Rattle.std.specs.Prelude.{ℕ}
use Rattle.c_parser_nesting.specs.declared.fault.ScanFault.{ScanFault}
use Rattle.c_parser_nesting.specs.declared.fault.ScanFault.TheVariants as scan
use Rattle.c_parser_cursor.specs.declared.cursor.ParseStop.{ParseStop}
use Rattle.c_parser_cursor.specs.declared.cursor.ParseStop.TheVariants as stop
use Rattle.c_parser.specs.declared.fault.ParseFault.{ParseFault}
use Rattle.c_parser.specs.declared.fault.ParseFault.TheVariants.{Lex, Syntax, NoMemory}

-- a text that gives no tokens
abbrev pub of_scan : ScanFault → ParseFault
of_scan (scan.Lex at) = Lex at
of_scan scan.NoMemory = NoMemory

-- a reading that has stopped at this offset
abbrev pub of_stop : ParseStop → ℕ → ParseFault
of_stop stop.Refused at = Syntax at
of_stop stop.NoMemory at = NoMemory
