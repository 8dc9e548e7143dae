-- The words of a basic type, in any order (C99 6.7.2).
use Rattle.std.specs.Prelude.{Bool, true, false, if◌then◌else◌, ◌&&◌, not, Option, Some, None}
use Rattle.c_tree.specs.declared.types.BasicType.{BasicType}
use Rattle.c_tree.specs.declared.types.BasicType.TheVariants as y
use Rattle.c_parser_grammar.specs.declared.classes.TypeWord.{TypeWord}
use Rattle.c_parser_grammar.specs.declared.classes.TypeWord.TheVariants as t
use Rattle.c_parser_grammar.specs.declared.word_set.BaseWord.{BaseWord}
use Rattle.c_parser_grammar.specs.declared.word_set.BaseWord.TheVariants as b
use Rattle.c_parser_grammar.specs.declared.word_set.Sign.{Sign}
use Rattle.c_parser_grammar.specs.declared.word_set.Sign.TheVariants as s
use Rattle.c_parser_grammar.specs.declared.word_set.WordSet.{WordSet}

abbrev pub no_words : WordSet
no_words = record { base = None; sign = None; int = false }

abbrev pub is_missing : {A : Type 0} → Option A → Bool
is_missing None = true
is_missing (Some a) = false

-- whether a base stands beside these others: `void` beside none, `char` beside a sign
abbrev pub base_fits : BaseWord → WordSet → Bool
base_fits b.Void x = is_missing x.sign && not x.int
base_fits b.Char x = not x.int
base_fits b.Short x = true
base_fits b.Long x = true

abbrev pub takes_int : Option BaseWord → Bool
takes_int (Some b.Void) = false
takes_int (Some b.Char) = false
takes_int _ = true

abbrev pub takes_sign : Option BaseWord → Bool
takes_sign (Some b.Void) = false
takes_sign _ = true

-- a word more: each stands once
abbrev pub with_base : WordSet → BaseWord → Option WordSet
with_base x base = if base_fits base x && is_missing x.base then Some (record x { base = Some base }) else None

abbrev pub with_int : WordSet → Option WordSet
with_int x = if takes_int x.base && not x.int then Some (record x { int = true }) else None

abbrev pub with_sign : WordSet → Sign → Option WordSet
with_sign x sign = if takes_sign x.base && is_missing x.sign then Some (record x { sign = Some sign }) else None

abbrev pub with_word : WordSet → TypeWord → Option WordSet
with_word x t.Void = with_base x b.Void
with_word x t.Char = with_base x b.Char
with_word x t.Short = with_base x b.Short
with_word x t.Long = with_base x b.Long
with_word x t.Int = with_int x
with_word x t.Signed = with_sign x s.Signed
with_word x t.Unsigned = with_sign x s.Unsigned

abbrev pub basic_by : Option BaseWord → Option Sign → Bool → Option BasicType
basic_by (Some b.Void) sign int = Some y.Void
basic_by (Some b.Char) None int = Some y.Char
basic_by (Some b.Char) (Some s.Signed) int = Some y.SignedChar
basic_by (Some b.Char) (Some s.Unsigned) int = Some y.UnsignedChar
basic_by (Some b.Short) None int = Some y.Short
basic_by (Some b.Short) (Some s.Signed) int = Some y.Short
basic_by (Some b.Short) (Some s.Unsigned) int = Some y.UnsignedShort
basic_by (Some b.Long) None int = Some y.Long
basic_by (Some b.Long) (Some s.Signed) int = Some y.Long
basic_by (Some b.Long) (Some s.Unsigned) int = Some y.UnsignedLong
basic_by None (Some s.Signed) int = Some y.Signed
basic_by None (Some s.Unsigned) int = Some y.Unsigned
basic_by None None true = Some y.Int
basic_by None None false = None

-- the type that the words spell
abbrev pub basic_of : WordSet → Option BasicType
basic_of x = basic_by x.base x.sign x.int
