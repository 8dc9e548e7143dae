-- A shortest list of tokens for some of the grammar's forms.
use Rattle.std.proofs.Common.{◌≡◌, ℕ, ◌≤◌, ◌<◌, true, false, not, List, [], ◌∷◌, ◌++◌, length, Option, Some, None, refl, sym, ap, length-append, arith}
use Rattle.std.specs.Prelude.{bytes_eq}
use Rattle.std.proofs.lemmas.Slice.Eq.{bytes_eq-Decides}
use Rattle.c_lexer.specs.declared.token.TokenKind.TheVariants as k
use Rattle.c_lexer.specs.Pieces.{Lexeme}
use Rattle.c_tree.specs.declared.expressions.Expr.{Expr}
use Rattle.c_tree.specs.declared.expressions.Expr as e
use Rattle.c_parser_grammar.specs.declared.shapes.NameRequirement.{NameRequirement}
use Rattle.c_parser_grammar.specs.declared.shapes.NameRequirement.TheVariants as nm
use Rattle.c_parser_grammar.specs.declared.shapes.Declarator.{Declarator}
use Rattle.c_parser_grammar.specs.Tokens.{TypeNames, is_type_name, is_type}
use Rattle.c_parser_grammar.specs.Types.{may_be_nameless, nameless}
use Rattle.c_parser_grammar.specs.Grammar.{IsExpr, IsWhole, AreAssignments, IsDeclarator}
use Rattle.c_parser_grammar.proofs.Outcomes.{fails}
use Rattle.c_parser_grammar.proofs.Says.{Instance, lexeme_of}

-- ---- a name that is none of a type

all_names : TypeNames → List ℕ
all_names [] = []
all_names (x ∷ s) = x ++ all_names s

no_type : (s : TypeNames) (name : List ℕ) → length (all_names s) < length name → is_type_name s name ≡ false
unfolding is_type_name all_names
no_type [] name long = refl
no_type (x ∷ s) name long =
    let sizes = length-append x (all_names s) in
    let other = fails (bytes_eq x name) (λ e. let q = ap length ((bytes_eq-Decides x name).0 e) in absurd (omega arith)) in
    let rest = no_type s name (omega arith) in
    rw (other, rest) refl

-- a name that is none of a type
pub a_name : TypeNames → Lexeme
a_name s = record { kind = k.Name; spelling = 0 ∷ all_names s; at = 0; len = 0 }

pub a_name_is : (s : TypeNames) → (a_name s).kind ≡ k.Name
unfolding a_name
a_name_is s = refl

pub no_type_name : (s : TypeNames) → is_type s (a_name s) ≡ false
unfolding a_name
no_type_name s = no_type s (0 ∷ all_names s) (omega arith)

-- ---- expressions and declarators

no_some : {X Y : Type 0} {v : X} → ◌≡◌ {A = Option X} None (Some v) → Y
no_some e = cc

abbrev pub number : Lexeme
number = lexeme_of k.Number

pub some_number : (s : TypeNames) (m : ℕ) → m ≤ 19 → IsExpr s m (number ∷ []) (e.Number 0 [])
some_number s m low = IsExpr.number number low refl

pub whole_number : (s : TypeNames) → IsWhole s (number ∷ []) (e.Number 0 [])
whole_number s = IsWhole.commas (number ∷ []) (e.Number 0 [] ∷ []) (AreAssignments.one (number ∷ []) (e.Number 0 []) (some_number s 2 (omega arith)))

pub some_declarator : (s : TypeNames) (naming : NameRequirement) (m : ℕ) → Instance (λ a d. IsDeclarator s naming m a d)
some_declarator s nm.Required m = (a_name s ∷ [], record { name = Some (record { at = (a_name s).at; name = (a_name s).spelling }); shapes = [] }, IsDeclarator.own_name (a_name s) (a_name_is s) (ap not (no_type_name s)))
some_declarator s nm.Member m = (a_name s ∷ [], record { name = Some (record { at = (a_name s).at; name = (a_name s).spelling }); shapes = [] }, IsDeclarator.own_name (a_name s) (a_name_is s) refl)
some_declarator s nm.Optional m = ([], nameless, IsDeclarator.no_name refl)
some_declarator s nm.Refused m = ([], nameless, IsDeclarator.no_name refl)

-- a declarator has a name, unless it may do without
pub nameless_may : (s : TypeNames) {naming : NameRequirement} {m : ℕ} {a : List Lexeme} {d : Declarator} → IsDeclarator s naming m a d → d.name ≡ None → may_be_nameless naming ≡ true
nameless_may s (IsDeclarator.star t a b d low kind c h) e = nameless_may s h e
nameless_may s (IsDeclarator.own_name t kind takes) e = no_some (sym e)
nameless_may s (IsDeclarator.no_name may) e = may
nameless_may s (IsDeclarator.group l t a r d lk tk h rk) e = nameless_may s h e
nameless_may s (IsDeclarator.open_array a l r d h lk rk) e = nameless_may s h e
nameless_may s (IsDeclarator.array a l b r d x h lk g rk) e = nameless_may s h e
nameless_may s (IsDeclarator.function a l b r d xs h lk g rk) e = nameless_may s h e
