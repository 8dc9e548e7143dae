-- A whole text: its tokens, its nesting and its reading.
use Rattle.std.proofs.Common.{◌≡◌, ℕ, ◌≤◌, ◌*◌, ◌<◌, List, length, map, Result, Ok, Err, inl, inr, sym, ap, ◌∙◌, subst, arith}
use Rattle.std.specs.Prelude.{◌⊎◌, [], IfOk, IfErr}
use Rattle.bk_memory.specs.Shortage.{MemoryIsShort}
use Rattle.c_lexer.specs.declared.token.Token.{Token}
use Rattle.c_lexer.specs.Pieces.{Lexeme, Toks}
use Rattle.c_tree.specs.declared.declarations.TranslationUnit.{TranslationUnit}
use Rattle.c_tree.specs.Nodes.{unit_nodes, unit_height}
use Rattle.c_parser_nesting.specs.Nesting.{nesting, nesting_of}
use Rattle.c_lexer.specs.Limits.{text_limit}
use Rattle.c_parser_nesting.specs.HasNesting.{IsTokens, HasNesting, toks_of, role_of_token}
use Rattle.c_parser_nesting.specs.OpenConstructs.{open_constructs, most_open_from, kind_of_token}
use Rattle.c_parser_nesting.proofs.Reading.{roles-lexemes}
use Rattle.c_parser_nesting.proofs.Opening.{kinds-lexemes}
use Rattle.c_parser_grammar.specs.ParseUnits.{unit}
use Rattle.c_parser_grammar.proofs.ReadUnits.{complete}
use Rattle.c_parser_grammar.proofs.SoundUnits.{sound}
use Rattle.c_parser_grammar.proofs.Exact.{refused_from}
use Rattle.c_parser_grammar.proofs.FewUnits.{unit_few}
use Rattle.c_parser_cursor.proofs.Lexemes.{length_lexemes}
use Rattle.c_parser.specs.declared.fault.ParseFault.{ParseFault}
use Rattle.c_parser.specs.declared.fault.ParseFault.TheVariants.{Lex, Nesting, Syntax, NoMemory}
use Rattle.c_parser.specs.Limits.{most_nesting, most_nodes, most_height, most_open}
use Rattle.c_parser.specs.Reading.{IsRead, IsNotRead, HasTooManyOpen}
use Rattle.c_parser.specs.model.Gives.{Gives}

pub nesting-roles : (text : List ℕ) (ts : List Token) (n : ℕ) → n ≡ nesting (map role_of_token ts) → n ≡ nesting_of (toks_of text ts).items
nesting-roles text ts n e = e ∙ ap nesting (sym (roles-lexemes text ts))

pub has_nesting : (text : List ℕ) (ts : List Token) (n : ℕ) → IsTokens text ts → n ≡ nesting (map role_of_token ts) → HasNesting text n
has_nesting text ts n are e = record { tokens = toks_of text ts; are_tokens = are; nesting = nesting-roles text ts n e }

pub within_limit : (text : List ℕ) (ts : List Token) (n : ℕ) → n ≡ nesting (map role_of_token ts) → n ≤ most_nesting → nesting_of (toks_of text ts).items ≤ most_nesting
within_limit text ts n e within = subst (λ m. m ≤ most_nesting) (nesting-roles text ts n e) within

not_both : (o : Result TranslationUnit (List Lexeme)) (tree : TranslationUnit) (rest : List Lexeme) → o ≡ Ok tree → o ≡ Err rest → ⊥
not_both o tree rest given refused = cc

-- a tree that is not higher than is taken, or the refusal of one that is
pub low_gives : (toks : Toks) (tree : TranslationUnit) (r : Result TranslationUnit ParseFault) → unit toks ≡ Ok tree → IfOk r (λ u. u ≡ tree) → IfErr r (λ e. (e ≡ NoMemory) × (most_height < unit_height tree)) → Gives toks r
low_gives toks tree (Ok u) spelled same high = spelled ∙ ap Ok (sym same)
low_gives toks tree (Err e) spelled same high = subst (λ e. Gives toks (Err e)) (sym high.0) (inr (record { tree = tree; spelled = spelled; high = high.1 }))

pub read_of : (text : List ℕ) (ts : List Token) (r : Result TranslationUnit ParseFault) → IsTokens text ts → nesting_of (toks_of text ts).items ≤ most_nesting → Gives (toks_of text ts) r → IfOk r (IsRead text)
read_of text ts (Ok tree) are within gives = record { toks = toks_of text ts; are_tokens = are; within = within; reads = sound (toks_of text ts) tree gives }
read_of text ts (Err e) are within gives = tt

pub not_read_of : (text : List ℕ) (ts : List Token) (r : Result TranslationUnit ParseFault) → IsTokens text ts → nesting_of (toks_of text ts).items ≤ most_nesting → Gives (toks_of text ts) r → IfErr r (IsNotRead text)
not_read_of text ts (Ok tree) are within gives = tt
not_read_of text ts (Err (Lex at)) are within gives = absurd gives
not_read_of text ts (Err (Nesting counted)) are within gives = absurd gives
not_read_of text ts (Err (Syntax at)) are within gives = record {
  toks = toks_of text ts;
  are_tokens = are;
  within = within;
  none = λ tree reads. not_both (unit (toks_of text ts)) tree gives.rest (complete (toks_of text ts) tree reads) gives.refused;
  rest = gives.rest;
  refused = refused_from (toks_of text ts) gives.rest gives.refused;
  place = gives.place;
}
not_read_of text ts (Err NoMemory) are within (inl short) = inl short
not_read_of text ts (Err NoMemory) are within (inr high) = inr (inl (record {
  tree = high.tree;
  read = record { toks = toks_of text ts; are_tokens = are; within = within; reads = sound (toks_of text ts) high.tree high.spelled };
  high = high.high;
}))

too_many : (text : List ℕ) (ts : List Token) → IsTokens text ts → nesting_of (toks_of text ts).items ≤ most_nesting → most_open < most_open_from [] (map kind_of_token ts) → HasTooManyOpen text
too_many text ts are within many = record {
  toks = toks_of text ts;
  are_tokens = are;
  within = within;
  many = subst (λ kinds. most_open < most_open_from [] kinds) (sym (kinds-lexemes text ts)) many;
}

by_count : (text : List ℕ) (ts : List Token) → IsTokens text ts → nesting_of (toks_of text ts).items ≤ most_nesting → MemoryIsShort ⊎ (most_open < most_open_from [] (map kind_of_token ts)) → IsNotRead text NoMemory
by_count text ts are within (inl short) = inl short
by_count text ts are within (inr many) = inr (inr (too_many text ts are within many))

-- the refusal of tokens of which too many constructs are open
pub not_few_open : (text : List ℕ) (ts : List Token) (e : ParseFault) → IsTokens text ts → nesting_of (toks_of text ts).items ≤ most_nesting
    → (e ≡ NoMemory) × (MemoryIsShort ⊎ (most_open < most_open_from [] (map kind_of_token ts))) → IsNotRead text e
not_few_open text ts e are within told = subst (IsNotRead text) (sym told.0) (by_count text ts are within told.1)

pub few_of : (text : List ℕ) (ts : List Token) (r : Result TranslationUnit ParseFault) → length ts ≤ length text → length text ≤ text_limit → Gives (toks_of text ts) r → IfOk r (λ tree. unit_nodes tree ≤ most_nodes)
few_of text ts (Ok tree) few short gives =
    let h : unit_nodes tree ≤ 2 * length (toks_of text ts).items = unit_few (toks_of text ts) tree (sound (toks_of text ts) tree gives) in
    omega (arith, length_lexemes text ts)
few_of text ts (Err e) few short gives = tt
