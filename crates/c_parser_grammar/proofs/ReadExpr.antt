-- What is in the grammar of expressions, declarators and type names is read.
use Rattle.std.proofs.Common.{◌≡◌, ℕ, ◌≤◌, false, List, [], ◌∷◌, ◌++◌, sym, ap, ◌∙◌, subst, append_assoc, length-append, arith}
use Rattle.c_lexer.specs.declared.token.TokenKind.TheVariants as k
use Rattle.c_lexer.specs.declared.token.Punct.{Punct}
use Rattle.c_lexer.specs.declared.token.Punct.TheVariants as p
use Rattle.c_lexer.specs.Pieces.{Lexeme}
use Rattle.c_tree.specs.declared.expressions.Expr.{Expr}
use Rattle.c_tree.specs.declared.expressions.Expr as e
use Rattle.c_tree.specs.declared.types.TypeName.{TypeName}
use Rattle.c_tree.specs.declared.types.Parameter.{Parameter}
use Rattle.c_parser_grammar.specs.declared.shapes.Declarator.{Declarator}
use Rattle.c_parser_grammar.specs.declared.shapes.NameRequirement.{NameRequirement}
use Rattle.c_parser_grammar.specs.Classes.{specifier_of}
use Rattle.c_parser_grammar.specs.Tokens.{TypeNames, is_type, begins_type}
use Rattle.c_parser_grammar.specs.Grammar.{IsExpr, IsWhole, AreAssignments, AreArguments, IsTypeName, IsDeclarator, AreParameters, AreSomeParameters, IsParameter}
use Rattle.c_parser_grammar.proofs.ReadPlain.{Stops, ends_by, BeginsType, plain_begins}
use Rattle.c_parser_grammar.proofs.Reach.{Reaches, Reads, reads}
use Rattle.c_parser_grammar.proofs.First.{first, first_listed, first_whole, no_cast}
use Rattle.c_parser_grammar.proofs.RulesExpr as x
use Rattle.c_parser_grammar.proofs.RulesExpr.{ReadsWhole, ReadsListed, ReadsType, EndsKind}
use Rattle.c_parser_grammar.proofs.RulesDecl as d
use Rattle.c_parser_grammar.proofs.RulesDecl.{ReachesD, ReadsD, ReadsP, ReadsPListed, ReadsParameters}

-- ---- what stands in front

mark_stops : (t : Lexeme) (r : List Lexeme) (m : Punct) → t.kind ≡ k.Mark m → Stops (t ∷ r)
mark_stops t r m e = ap (λ kd. ends_by (specifier_of kd)) e

through : (a b r : List Lexeme) → Stops (a ++ (b ++ r)) → Stops ((a ++ b) ++ r)
through a b r h = subst Stops (sym (append_assoc a b r)) h

pub declarator_stops : (s : TypeNames) {naming : NameRequirement} {m : ℕ} {b : List Lexeme} {d : Declarator} → IsDeclarator s naming m b d → (r : List Lexeme) → Stops r → Stops (b ++ r)
declarator_stops s (IsDeclarator.star t a b d low kind c h) r stop = mark_stops t ((a ++ b) ++ r) p.Star kind
declarator_stops s (IsDeclarator.own_name t takes kind) r stop = ap (λ kd. ends_by (specifier_of kd)) takes
declarator_stops s (IsDeclarator.no_name may) r stop = stop
declarator_stops s (IsDeclarator.group l t a r d lk tk h rk) u stop = mark_stops l ((t ∷ a ++ r ∷ []) ++ u) p.LeftParen lk
declarator_stops s (IsDeclarator.open_array a l r d h lk rk) u stop = through a (l ∷ r ∷ []) u (declarator_stops s h (l ∷ r ∷ u) (mark_stops l (r ∷ u) p.LeftBracket lk))
declarator_stops s (IsDeclarator.array a l b r d x h lk g rk) u stop = through a (l ∷ b ++ r ∷ []) u (declarator_stops s h ((l ∷ b ++ r ∷ []) ++ u) (mark_stops l ((b ++ r ∷ []) ++ u) p.LeftBracket lk))
declarator_stops s (IsDeclarator.function a l b r d xs h lk g rk) u stop = through a (l ∷ b ++ r ∷ []) u (declarator_stops s h ((l ∷ b ++ r ∷ []) ++ u) (mark_stops l ((b ++ r ∷ []) ++ u) p.LeftParen lk))

type_grows : (s : TypeNames) (a b : List Lexeme) → BeginsType s a → BeginsType s (a ++ b)
type_grows s a b h = (omega (arith, length-append a b, h.0), λ r. ap (begins_type s) (append_assoc a b r) ∙ h.1 (b ++ r))

pub type_begins : (s : TypeNames) {a : List Lexeme} {ty : TypeName} → IsTypeName s a ty → BeginsType s a
type_begins s (IsTypeName.type_name a b ty d h g) = type_grows s a b (plain_begins s h)

parameter_begins : (s : TypeNames) {a : List Lexeme} {x : Parameter} → IsParameter s a x → BeginsType s a
parameter_begins s (IsParameter.parameter a b ty d h g) = type_grows s a b (plain_begins s h)

parameters_begin : (s : TypeNames) {a : List Lexeme} {xs : List Parameter} → AreSomeParameters s a xs → BeginsType s a
parameters_begin s (AreSomeParameters.one_parameter a x h) = parameter_begins s h
parameters_begin s (AreSomeParameters.more_parameters a t b x xs h kind g) = type_grows s a (t ∷ b) (parameter_begins s h)

module _ (s : TypeNames) where
  reads_of : {m : ℕ} {a : List Lexeme} {x : Expr} → IsExpr s m a x → 1 ≤ m → Reaches s m a x → Reads s m a x
  reads_of {m} {a} {x} h one g = reads s m a x one (first s h).0 g

  mutual
    pub reach : {m : ℕ} {a : List Lexeme} {x : Expr} → IsExpr s m a x → Reaches s m a x
    reach (IsExpr.name t low kind listed) = x.name_rule s _ t low kind listed
    reach (IsExpr.number t low kind) = x.number_rule s _ t low kind
    reach (IsExpr.character t low kind) = x.character_rule s _ t low kind
    reach (IsExpr.texts a xs low h) = x.texts_rule s _ a xs low h
    reach (IsExpr.brackets l a r v low lk h rk) = x.brackets_rule s _ l a r v low lk (first_whole s h) (reach_whole h) rk
    reach (IsExpr.call t l a r xs low kind listed lk h rk) = reach_call h _ t l r low kind listed lk rk
    reach (IsExpr.index a l b r v z low h lk g rk) = x.index_rule s _ a l b r v z low (first s h).0 (reach h) lk (reach_whole g) rk
    reach (IsExpr.field a t n v low h tk nk) = x.field_rule s _ a t n v low (first s h).0 (reach h) tk nk
    reach (IsExpr.arrow a t n v low h tk nk) = x.arrow_rule s _ a t n v low (first s h).0 (reach h) tk nk
    reach (IsExpr.postfix a t op v low h kind) = x.after_rule s _ a t op v low (first s h).0 (reach h) kind
    reach (IsExpr.prefix_step t a op v low kind h) = x.step_rule s _ t a op v low kind (reads_of h (omega arith) (reach h))
    reach (IsExpr.unary t a op v low kind h) = x.unary_rule s _ t a op v low kind (reads_of h (omega arith) (reach h))
    reach (IsExpr.size_of t a v low kind h) = x.size_rule s _ t a v low kind (no_cast s h (omega arith)) (reads_of h (omega arith) (reach h))
    reach (IsExpr.size_of_type t l a r ty low kind lk h rk) = x.size_type_rule s _ t l a r ty low kind lk (type_begins s h) (reach_type h) rk
    reach (IsExpr.cast l a r b ty v low lk h rk g) = x.cast_rule s _ l a r b ty v low lk (type_begins s h) (reach_type h) rk (reads_of g (omega arith) (reach g))
    reach (IsExpr.binary a t b op v z low kind h g) = x.binary_rule s _ a t b op v z low kind (first s h).0 (reach h) (reads_of g (omega arith) (reach g))
    reach (IsExpr.conditional a t b r c v u z low h tk g rk o) = x.choose_rule s _ a t b r c v u z low (first s h).0 (reach h) tk (reach_whole g) rk (reads_of o (omega arith) (reach o))
    reach (IsExpr.assignment a t b op v z low h kind g) = x.assign_rule s _ a t b op v z low (first s h).0 (reach h) kind (reads_of g (omega arith) (reach g))

    pub reach_whole : {a : List Lexeme} {x : Expr} → IsWhole s a x → ReadsWhole s a x
    reach_whole (IsWhole.commas a xs h) = x.whole_rule s a xs (first_listed s h).0 (reach_listed h)

    reach_listed : {a : List Lexeme} {xs : List Expr} → AreAssignments s a xs → ReadsListed s a xs
    reach_listed (AreAssignments.one a v h) = x.one_rule s a v (first s h).0 (reads_of h (omega arith) (reach h))
    reach_listed (AreAssignments.more a t b v xs h kind g) = x.more_rule s a t b v xs (first s h).0 (reads_of h (omega arith) (reach h)) kind (reach_listed g)

    reach_call : {a : List Lexeme} {xs : List Expr} → AreArguments s a xs → (m : ℕ) (t l r : Lexeme) → m ≤ 19 → t.kind ≡ k.Name → is_type s t ≡ false → l.kind ≡ k.Mark p.LeftParen → r.kind ≡ k.Mark p.RightParen
        → Reaches s m (t ∷ l ∷ a ++ r ∷ []) (e.Call t.at t.spelling xs)
    reach_call AreArguments.none m t l r low kind listed lk rk = x.empty_call_rule s m t l r low kind listed lk rk
    reach_call (AreArguments.some a xs h) m t l r low kind listed lk rk = x.call_rule s m t l a r xs low kind listed lk (first_listed s h) (reach_listed h) rk

    pub reach_type : {a : List Lexeme} {ty : TypeName} → IsTypeName s a ty → ReadsType s a ty
    reach_type (IsTypeName.type_name a b ty c h g) = d.type_rule s a b ty c h (declarator_stops s g) (read_declarator g)

    pub read_declarator : {naming : NameRequirement} {m : ℕ} {a : List Lexeme} {d : Declarator} → IsDeclarator s naming m a d → ReadsD s naming a d
    read_declarator (IsDeclarator.star t a b c low kind o h) = d.star_rule s _ t a b c kind o (declarator_stops s h) (read_declarator h)
    read_declarator (IsDeclarator.own_name t kind takes) = d.reads_d s _ (t ∷ []) _ (d.named_rule s _ t kind takes)
    read_declarator (IsDeclarator.no_name may) = d.reads_d s _ [] _ (d.unnamed_rule s _ may)
    read_declarator (IsDeclarator.group l t a r c lk tk h rk) = d.reads_d s _ (l ∷ t ∷ a ++ r ∷ []) _ (d.group_rule s _ l t a r c lk tk (read_declarator h) rk)
    read_declarator (IsDeclarator.open_array a l r c h lk rk) = d.reads_d s _ (a ++ l ∷ r ∷ []) _ (d.open_array_rule s _ a l r c (reach_declarator h (omega arith)) lk rk)
    read_declarator (IsDeclarator.array a l b r c v h lk g rk) = d.reads_d s _ (a ++ (l ∷ b ++ r ∷ [])) _ (d.array_rule s _ a l b r c v (reach_declarator h (omega arith)) lk (first s g) (reads_of g (omega arith) (reach g)) rk)
    read_declarator (IsDeclarator.function a l b r c xs h lk g rk) = d.reads_d s _ (a ++ (l ∷ b ++ r ∷ [])) _ (d.takes_rule s _ a l b r c xs (reach_declarator h (omega arith)) lk (reach_parameters g) rk)

    reach_declarator : {naming : NameRequirement} {m : ℕ} {a : List Lexeme} {d : Declarator} → IsDeclarator s naming m a d → 1 ≤ m → ReachesD s naming a d
    reach_declarator (IsDeclarator.star t a b c low kind o h) one = absurd (omega arith)
    reach_declarator (IsDeclarator.own_name t kind takes) one = d.named_rule s _ t kind takes
    reach_declarator (IsDeclarator.no_name may) one = d.unnamed_rule s _ may
    reach_declarator (IsDeclarator.group l t a r c lk tk h rk) one = d.group_rule s _ l t a r c lk tk (read_declarator h) rk
    reach_declarator (IsDeclarator.open_array a l r c h lk rk) one = d.open_array_rule s _ a l r c (reach_declarator h (omega arith)) lk rk
    reach_declarator (IsDeclarator.array a l b r c v h lk g rk) one = d.array_rule s _ a l b r c v (reach_declarator h (omega arith)) lk (first s g) (reads_of g (omega arith) (reach g)) rk
    reach_declarator (IsDeclarator.function a l b r c xs h lk g rk) one = d.takes_rule s _ a l b r c xs (reach_declarator h (omega arith)) lk (reach_parameters g) rk

    reach_parameters : {a : List Lexeme} {xs : List Parameter} → AreParameters s a xs → ReadsParameters s a xs
    reach_parameters AreParameters.no_parameter = d.no_parameter_rule s
    reach_parameters (AreParameters.parameters a xs h) = d.parameters_rule s a xs (parameters_begin s h) (reach_parameters_listed h)

    reach_parameters_listed : {a : List Lexeme} {xs : List Parameter} → AreSomeParameters s a xs → ReadsPListed s a xs
    reach_parameters_listed (AreSomeParameters.one_parameter a v h) = d.one_parameter_rule s a v (parameter_begins s h).0 (reach_parameter h)
    reach_parameters_listed (AreSomeParameters.more_parameters a t b v xs h kind g) = d.more_parameters_rule s a t b v xs (parameter_begins s h).0 (reach_parameter h) kind (reach_parameters_listed g)

    reach_parameter : {a : List Lexeme} {x : Parameter} → IsParameter s a x → ReadsP s a x
    reach_parameter (IsParameter.parameter a b ty c h g) = d.parameter_rule s a b ty c h (declarator_stops s g) (read_declarator g)

  -- What is in the grammar is read, whatever token that goes on no expression follows it.
  pub read_expr : {m : ℕ} {a : List Lexeme} {x : Expr} → 1 ≤ m → IsExpr s m a x → Reads s m a x
  read_expr one h = reads_of h one (reach h)
