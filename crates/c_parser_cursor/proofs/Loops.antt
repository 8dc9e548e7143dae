-- The loops: a turn more of each, and none. A turn is what the grammar's function of that name does with one more than it has left.
use Rattle.std.proofs.Common.{◌≡◌, ℕ, suc, ◌+◌, ◌-◌, ◌<◌, ◌≤◌, List, [], ◌∷◌, ◌++◌, Ok, ap, arith}
use Rattle.std.specs.Prelude.{if◌then◌else◌}
use Rattle.c_lexer.specs.Pieces.{Lexeme}
use Rattle.c_lexer.specs.declared.token.Keyword.TheVariants as w
use Rattle.c_parser_grammar.specs.declared.word_set.WordSet.{WordSet}
use Rattle.c_parser_grammar.specs.declared.classes.Specifier.TheVariants as c
use Rattle.c_parser_grammar.specs.Classes.{specifier_of}
use Rattle.c_parser_grammar.specs.WordSets.{basic_of}
use Rattle.c_parser_grammar.specs.Tokens.{is_keyword, is_text, kind_at, token_tail, spelling_at}
use Rattle.c_parser_grammar.specs.Parser.{consts}
use Rattle.c_parser_grammar.specs.ParseExpr.{texts_from, words_from, extend, start_of, word_or_end}

-- a step down of a number that counts the turns left
pub turn : {X : Type 0} (f : ℕ → X) (n at : ℕ) → at < n → f (n - at) ≡ f (suc (n - (at + 1)))
turn f n at below = let e : n - at ≡ suc (n - (at + 1)) = omega arith in ap f e

pub end : {X : Type 0} (f : ℕ → X) (n at : ℕ) → n ≤ at → f (n - at) ≡ f 0
end f n at done = let e : n - at ≡ 0 = omega arith in ap f e

pub consts_turn : (n at : ℕ) (ts : List Lexeme) → at < n → consts (n - at) ts ≡ (if is_keyword w.Const (kind_at ts) then consts (n - (at + 1)) (token_tail ts) else Ok (tt, ts))
unfolding consts
consts_turn n at ts = turn (λ m. consts m ts) n at

pub consts_end : (n at : ℕ) (ts : List Lexeme) → n ≤ at → consts (n - at) ts ≡ Ok (tt, ts)
unfolding consts
consts_end n at ts = end (λ m. consts m ts) n at

pub texts_turn : (n at : ℕ) (found : List (List ℕ)) (ts : List Lexeme) → at < n
    → texts_from (n - at) found ts ≡ (if is_text (kind_at ts) then texts_from (n - (at + 1)) (found ++ spelling_at ts ∷ []) (token_tail ts) else Ok (found, ts))
unfolding texts_from
texts_turn n at found ts = turn (λ m. texts_from m found ts) n at

pub texts_end : (n at : ℕ) (found : List (List ℕ)) (ts : List Lexeme) → n ≤ at → texts_from (n - at) found ts ≡ Ok (found, ts)
unfolding texts_from
texts_end n at found ts = end (λ m. texts_from m found ts) n at

pub words_turn : (n at : ℕ) (x : WordSet) (ts : List Lexeme) → at < n
    → words_from (n - at) x ts ≡ word_or_end (extend x (specifier_of (kind_at ts))) (λ v. words_from (n - (at + 1)) v (token_tail ts)) (start_of (basic_of x) (specifier_of (kind_at ts)), ts)
unfolding words_from
words_turn n at x ts = turn (λ m. words_from m x ts) n at

pub words_end : (n at : ℕ) (x : WordSet) (ts : List Lexeme) → n ≤ at → words_from (n - at) x ts ≡ (start_of (basic_of x) c.Nothing, ts)
unfolding words_from
words_end n at x ts = end (λ m. words_from m x ts) n at
