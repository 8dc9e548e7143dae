-- Identifiers (C99 6.4.2.1), and the names that declarations at file scope have.
use Rattle.std.specs.Prelude.{◌≡◌, ℕ, Bool, false, ◌&&◌, IsTrue, List, [], ◌∷◌, None}
use Rattle.std.specs.List.{list_all}
use Rattle.c_lexer.specs.Bytes.{is_letter, is_word_byte}
use Rattle.c_lexer.specs.Words.{keyword_of}
use Rattle.c_tree.specs.declared.declarations.External.{External}
use Rattle.c_tree.specs.declared.declarations.External.TheVariants.{Typedef, Object, Function, Tags}

-- a letter or `_`, then letters, digits and `_`
abbrev pub has_letters : List ℕ → Bool
has_letters [] = false
has_letters (b ∷ bytes) = is_letter b && list_all is_word_byte bytes

-- which are no keyword
pub record IsIdentifier (name : List ℕ) : Type 0 where
  pub letters : IsTrue (has_letters name)
  pub no_keyword : keyword_of name ≡ None

-- the name of a declaration at file scope; one of tags alone has none
abbrev pub HasIdentifier : External → Type 0
HasIdentifier (Typedef d) = IsIdentifier d.name
HasIdentifier (Object d storage init) = IsIdentifier d.name
HasIdentifier (Function d storage end) = IsIdentifier d.name
HasIdentifier (Tags storage ty) = Unit {0}
