-- How deeply the constructs of a list of tokens stand in one another. No standard defines this number: C99 5.2.4.1 only
-- names depths that a compiler has to take.
use Rattle.std.specs.Prelude.{ℕ, max, ◌+◌, Bool, true, false, not, ◌&&◌, if◌then◌else◌, List, [], ◌∷◌, ◌++◌, map}
use Rattle.c_lexer.specs.declared.token.TokenKind.{TokenKind}
use Rattle.c_lexer.specs.declared.token.TokenKind.TheVariants as k
use Rattle.c_lexer.specs.declared.token.Keyword.{Keyword}
use Rattle.c_lexer.specs.declared.token.Keyword.TheVariants as w
use Rattle.c_lexer.specs.declared.token.Punct.{Punct}
use Rattle.c_lexer.specs.declared.token.Punct.TheVariants as p
use Rattle.c_lexer.specs.Pieces.{Lexeme}
use Rattle.c_parser_nesting.specs.declared.nesting.Role.{Role}
use Rattle.c_parser_nesting.specs.declared.nesting.Role.TheVariants.{Opens, Closes, ClosesBrace, Separates, Counts, Else, Plain}

-- ---- what a token is to the nesting

abbrev pub role_of_mark : Punct → Role
role_of_mark p.LeftParen = Opens
role_of_mark p.LeftBracket = Opens
role_of_mark p.LeftBrace = Opens
role_of_mark p.RightParen = Closes
role_of_mark p.RightBracket = Closes
role_of_mark p.RightBrace = ClosesBrace
role_of_mark p.Semicolon = Separates
role_of_mark p.Comma = Separates
role_of_mark p.Colon = Plain
role_of_mark _ = Counts

abbrev pub role_of_word : Keyword → Role
role_of_word w.If = Counts
role_of_word w.While = Counts
role_of_word w.For = Counts
role_of_word w.Do = Counts
role_of_word w.Switch = Counts
role_of_word w.Sizeof = Counts
role_of_word w.Else = Else
role_of_word _ = Plain

abbrev pub role_of : TokenKind → Role
role_of (k.Mark mark) = role_of_mark mark
role_of (k.Word word) = role_of_word word
role_of _ = Plain

-- ---- segments

-- What stands directly in a group, or outside all of them: a token, or a whole group, by its value and by whether a `}`
-- closes it.
pub data GroupItem : Type 0 where
  token : Role → GroupItem
  group : ℕ → Bool → GroupItem

-- Behind a `;`, a `,` and a group that a `}` closes a segment ends ..
abbrev pub ends_segment : GroupItem → Bool
ends_segment (token Separates) = true
ends_segment (token _) = false
ends_segment (group value brace) = brace

-- .. except before `else`. (Behind an item stands the next item, or a bracket that closes the group, or nothing.)
abbrev pub begins_else : List GroupItem → Bool
begins_else (token Else ∷ items) = true
begins_else _ = false

abbrev pub add_to_first : GroupItem → List (List GroupItem) → List (List GroupItem)
add_to_first item [] = (item ∷ []) ∷ []
add_to_first item (segment ∷ segments) = (item ∷ segment) ∷ segments

abbrev pub segments : List GroupItem → List (List GroupItem)
segments [] = []
segments (item ∷ items) =
    if ends_segment item && not (begins_else items) then (item ∷ []) ∷ segments items
    else add_to_first item (segments items)

-- ---- costs

-- An opening bracket counts, and stands for its group here.
abbrev pub count_of_item : GroupItem → ℕ
count_of_item (token Counts) = 1
count_of_item (token _) = 0
count_of_item (group value brace) = 1

abbrev pub item_value : GroupItem → ℕ
item_value (token role) = 0
item_value (group value brace) = value

abbrev pub count : List GroupItem → ℕ
count [] = 0
count (item ∷ items) = count_of_item item + count items

-- 0 where there is none
abbrev pub maximum : List ℕ → ℕ
maximum [] = 0
maximum (n ∷ ns) = max n (maximum ns)

abbrev pub segment_cost : List GroupItem → ℕ
segment_cost segment = count segment + maximum (map item_value segment)

-- the greatest cost of the segments: the value of the group that these items stand in
abbrev pub group_value : List GroupItem → ℕ
group_value items = maximum (map segment_cost (segments items))

-- ---- groups

-- The tokens from a place on, as they stand to it: the items of the group that is open there, and, where a bracket
-- closes that group, the bracket, and what follows it as it stands to the group around. Where no bracket does, the
-- group ends with the tokens.
pub data Levels : Type 0 where
  open_to_end : List GroupItem → Levels
  closed : List GroupItem → Role → Levels → Levels

-- the items of the group that is open
abbrev pub inner_items : Levels → List GroupItem
inner_items (open_to_end items) = items
inner_items (closed items bracket outer) = items

abbrev pub is_brace : Role → Bool
is_brace ClosesBrace = true
is_brace _ = false

-- whether a `}` closes it
abbrev pub brace : Levels → Bool
brace (open_to_end items) = false
brace (closed items bracket outer) = is_brace bracket

-- what follows behind the bracket that closes it
abbrev pub levels_around : Levels → Levels
levels_around (open_to_end items) = open_to_end []
levels_around (closed items bracket outer) = outer

abbrev pub prepend : GroupItem → Levels → Levels
prepend item (open_to_end items) = open_to_end (item ∷ items)
prepend item (closed items bracket outer) = closed (item ∷ items) bracket outer

-- one token more, in front
abbrev pub place_token : Role → Levels → Levels
place_token Opens rest = prepend (group (group_value (inner_items rest)) (brace rest)) (levels_around rest)
place_token Closes rest = closed [] Closes rest
place_token ClosesBrace rest = closed [] ClosesBrace rest
place_token role rest = prepend (token role) rest

abbrev pub levels : List Role → Levels
levels [] = open_to_end []
levels (role ∷ roles) = place_token role (levels roles)

-- What stands outside all groups. A bracket that closes no group is a token there.
abbrev pub outer_items : Levels → List GroupItem
outer_items (open_to_end items) = items
outer_items (closed items bracket rest) = items ++ token bracket ∷ outer_items rest

-- the greatest cost of the segments outside all groups
abbrev pub nesting : List Role → ℕ
nesting roles = group_value (outer_items (levels roles))

abbrev pub role_of_lexeme : Lexeme → Role
role_of_lexeme t = role_of t.kind

-- the nesting of the tokens of a text
abbrev pub nesting_of : List Lexeme → ℕ
nesting_of tokens = nesting (map role_of_lexeme tokens)
