-- The loops: a turn more of each, and none. A turn is what the grammar's function of that name does with one more than it has left.
use Rattle.std.proofs.Common.{◌≡◌, ℕ, zero, suc, ◌+◌, ◌-◌, ◌<◌, ◌≤◌, List, [], ◌∷◌, ◌++◌, length, Option, Ok, Err, refl, ◌∙◌, arith}
use Rattle.std.specs.Prelude.{if◌then◌else◌}
use Rattle.c_lexer.specs.Pieces.{Lexeme}
use Rattle.c_lexer.specs.declared.token.Punct.TheVariants as p
use Rattle.c_tree.specs.declared.types.TypeNode.{TypeNode}
use Rattle.c_tree.specs.declared.declarations.Storage.{Storage}
use Rattle.c_tree.specs.declared.declarations.External.{External}
use Rattle.c_tree.specs.declared.declarations.External.TheVariants as x
use Rattle.c_parser_grammar.specs.declared.shapes.NameRequirement.TheVariants as nm
use Rattle.c_parser_grammar.specs.Types.{without_body}
use Rattle.c_parser_grammar.specs.Units.{with_type}
use Rattle.c_parser_grammar.specs.Tokens.{TypeNames, is_mark, kind_at, token_tail}
use Rattle.c_parser_grammar.specs.Parser.{ParseOutcome, Parser, and_then, pure}
use Rattle.c_parser_grammar.specs.ParseExpr.{declarator}
use Rattle.c_parser_grammar.specs.ParseSpecifiers.{declaration}
use Rattle.c_parser_grammar.specs.ParseUnits.{typedefs_from, object_named, objects_from, external, externals_behind, externals_from}
use Rattle.c_parser.specs.model.Parts.{typedef_declarator, object_declarator}
use Rattle.c_parser_cursor.proofs.Loops.{turn, end}

-- one after another, from the left or from the right
then_then : {A B C : Type 0} (o : ParseOutcome A) (f : A → Parser B) (g : B → Parser C) → and_then o (λ a r. and_then (f a r) g) ≡ and_then (and_then o f) g
then_then (Ok p) f g = refl
then_then (Err r) f g = refl

pub typedefs_turn : (s : TypeNames) (depth n at : ℕ) (ty : TypeNode) (found : List External) (ts : List Lexeme) → at < n
    → typedefs_from s depth (n - at) ty found ts ≡ and_then (typedef_declarator s depth ty ts) (λ q r.
    if is_mark p.Comma (kind_at r) then typedefs_from q.1 depth (n - (at + 1)) (without_body ty) (found ++ q.0 ∷ []) (token_tail r)
    else Ok ((found ++ q.0 ∷ [], q.1), r))
unfolding typedefs_from typedef_declarator
typedefs_turn s depth n at ty found ts below = turn (λ m. typedefs_from s depth m ty found ts) n at below
    ∙ then_then (declaration s depth nm.Required ty ts) (λ d. pure (x.Typedef d, with_type s d.name)) (λ q r.
    if is_mark p.Comma (kind_at r) then typedefs_from q.1 depth (n - (at + 1)) (without_body ty) (found ++ q.0 ∷ []) (token_tail r)
    else Ok ((found ++ q.0 ∷ [], q.1), r))

pub typedefs_end : (s : TypeNames) (depth n at : ℕ) (ty : TypeNode) (found : List External) (ts : List Lexeme) → n ≤ at → typedefs_from s depth (n - at) ty found ts ≡ Err ts
unfolding typedefs_from
typedefs_end s depth n at ty found ts = end (λ m. typedefs_from s depth m ty found ts) n at

pub objects_turn : (s : TypeNames) (depth : ℕ) (storage : Option Storage) (n at : ℕ) (ty : TypeNode) (found : List External) (ts : List Lexeme) → at < n
    → objects_from s depth storage (n - at) ty found ts ≡ and_then (object_declarator s depth storage ty ts) (λ v r.
    if is_mark p.Comma (kind_at r) then objects_from s depth storage (n - (at + 1)) (without_body ty) (found ++ v ∷ []) (token_tail r) else Ok (found ++ v ∷ [], r))
unfolding objects_from object_declarator
objects_turn s depth storage n at ty found ts below = turn (λ m. objects_from s depth storage m ty found ts) n at below
    ∙ then_then (declarator s depth nm.Required ts) (λ d. object_named s depth storage ty d.name d.shapes) (λ v r.
    if is_mark p.Comma (kind_at r) then objects_from s depth storage (n - (at + 1)) (without_body ty) (found ++ v ∷ []) (token_tail r) else Ok (found ++ v ∷ [], r))

pub objects_end : (s : TypeNames) (depth : ℕ) (storage : Option Storage) (n at : ℕ) (ty : TypeNode) (found : List External) (ts : List Lexeme) → n ≤ at
    → objects_from s depth storage (n - at) ty found ts ≡ Err ts
unfolding objects_from
objects_end s depth storage n at ty found ts = end (λ m. objects_from s depth storage m ty found ts) n at

externals_more : (j : ℕ) (s : TypeNames) (found : List External) (ts : List Lexeme) → 0 < length ts
    → externals_from (suc j) s found ts ≡ externals_behind (external s (length ts) ts) (λ q r. externals_from j q.1 (found ++ q.0) r)
unfolding externals_from
externals_more j s found [] some = absurd (omega arith)
externals_more j s found (t ∷ ts) some = refl

pub externals_turn : (n at : ℕ) (s : TypeNames) (found : List External) (ts : List Lexeme) → at < n → 0 < length ts
    → externals_from (n - at) s found ts ≡ externals_behind (external s (length ts) ts) (λ q r. externals_from (n - (at + 1)) q.1 (found ++ q.0) r)
externals_turn n at s found ts below some = turn (λ m. externals_from m s found ts) n at below ∙ externals_more (n - (at + 1)) s found ts some

pub externals_end : (n at : ℕ) (s : TypeNames) (found : List External) (ts : List Lexeme) → n ≤ at → externals_from (n - at) s found ts ≡ Ok found
unfolding externals_from
externals_end n at s found ts = end (λ m. externals_from m s found ts) n at

-- no tokens are left
pub externals_none : (n : ℕ) (s : TypeNames) (found : List External) (ts : List Lexeme) → length ts ≡ 0 → externals_from n s found ts ≡ Ok found
unfolding externals_from
externals_none zero s found ts none = refl
externals_none (suc j) s found [] none = refl
externals_none (suc j) s found (t ∷ ts) none = absurd (omega arith)

pub ruleset externals_loop = (externals_turn, externals_end, externals_none)
