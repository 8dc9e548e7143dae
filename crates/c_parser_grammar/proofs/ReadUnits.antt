-- Units: what is in the grammar is read.
use Rattle.std.proofs.Common.{◌≡◌, ℕ, zero, suc, ◌≤◌, ◌<◌, Bool, true, false, List, [], ◌∷◌, ◌++◌, length, Option, Some, Ok, refl, sym, ap, ◌∙◌, subst, append_assoc, append-nil, length-append, arith}
use Rattle.c_lexer.specs.declared.token.TokenKind.{TokenKind}
use Rattle.c_lexer.specs.declared.token.TokenKind.TheVariants as k
use Rattle.c_lexer.specs.declared.token.Keyword.TheVariants as w
use Rattle.c_lexer.specs.declared.token.Punct.TheVariants as p
use Rattle.c_lexer.specs.Pieces.{Lexeme, Toks}
use Rattle.c_tree.specs.declared.expressions.Expr.{Expr}
use Rattle.c_tree.specs.declared.types.TypeNode.{TypeNode}
use Rattle.c_tree.specs.declared.types.Declaration.{Declaration}
use Rattle.c_tree.specs.declared.statements.Stmt.{Stmt}
use Rattle.c_tree.specs.declared.declarations.Storage.{Storage}
use Rattle.c_tree.specs.declared.declarations.Init.{Init}
use Rattle.c_tree.specs.declared.declarations.Init as i
use Rattle.c_tree.specs.declared.declarations.FunctionEnd.TheVariants as f
use Rattle.c_tree.specs.declared.declarations.External.{External}
use Rattle.c_tree.specs.declared.declarations.External.TheVariants as x
use Rattle.c_tree.specs.declared.declarations.TranslationUnit.{TranslationUnit}
use Rattle.c_parser_grammar.specs.declared.classes.StorageClass.TheVariants as o
use Rattle.c_parser_grammar.specs.declared.shapes.Shape.{Shape}
use Rattle.c_parser_grammar.specs.declared.shapes.DeclaredName.{DeclaredName}
use Rattle.c_parser_grammar.specs.declared.shapes.NameRequirement.TheVariants as nm
use Rattle.c_parser_grammar.specs.Classes.{specifier_of, storage_class_of, begins_type_by}
use Rattle.c_parser_grammar.specs.Levels.{binding_level}
use Rattle.c_parser_grammar.specs.Tokens.{TypeNames, is_mark, kind_at, is_type_at, begins_type}
use Rattle.c_parser_grammar.specs.Grammar.{IsExpr}
use Rattle.c_parser_grammar.specs.Specifiers.{IsDeclared, IsSpecifier}
use Rattle.c_parser_grammar.specs.Statements.{AreItems}
use Rattle.c_parser_grammar.specs.Units.{IsInit, AreInits, IsStorage, end_by, is_function, external_of, IsObject, AreObjects, with_type, AreTypedefs, IsExternal, AreExternals}
use Rattle.c_parser_grammar.specs.ParseExpr.{declarator}
use Rattle.c_parser_grammar.specs.ParseSpecifiers.{braced_list_from}
use Rattle.c_parser_grammar.specs.ParseUnits.{init_list, init_value, init, typedefs_from, typedefs, object_by, objects_from, objects_behind, body_behind, objects_named, behind_type, behind_storage, external_at, external, externals_behind, externals_from, unit_of, unit}
use Rattle.c_parser_grammar.specs.Units as units
use Rattle.c_parser_grammar.proofs.Outcomes.{no_true, is_mark_of, expect_at}
use Rattle.c_parser_grammar.proofs.Facts.{infix_at, weak, begins_no_mark}
use Rattle.c_parser_grammar.proofs.First.{first}
use Rattle.c_parser_grammar.proofs.RulesExpr.{EndsKind}
use Rattle.c_parser_grammar.proofs.ReadExpr.{read_expr, read_declarator}
use Rattle.c_parser_grammar.proofs.ReadSpecifiers.{Fronts, Follows, semicolon_follows, wider, declarator_fronts, declared_fronts, mark_ends, comma_ends, semicolon_ends, declared_read, braced_last, braced_comma, braced_more, read_specifier, specifier_begins}
use Rattle.c_parser_grammar.proofs.RulesStmt.{read_items}

-- ---- initialisers

abbrev ReadsInit : TypeNames → List Lexeme → Init → Type 0
ReadsInit s a v = (n : ℕ) (r : List Lexeme) → length (a ++ r) ≤ n → binding_level (infix_at r) < 2 → init s n (a ++ r) ≡ Ok (v, r)

abbrev ReadsInits : TypeNames → List Lexeme → List Init → Type 0
ReadsInits s a vs = (n j : ℕ) (found : List Init) (r : Lexeme) (u : List Lexeme) → r.kind ≡ k.Mark p.RightBrace → length (a ++ r ∷ u) ≤ n → length (a ++ r ∷ u) ≤ j → braced_list_from (init s n) j found (a ++ r ∷ u) ≡ Ok (found ++ vs, r ∷ u)

-- an initialiser takes a token, and does not begin with the brace that closes
abbrev OpensNoBrace : List Lexeme → Type 0
OpensNoBrace a = (0 < length a) × ((r : List Lexeme) → is_mark p.RightBrace (kind_at (a ++ r)) ≡ false)

init_opened : (s : TypeNames) {a : List Lexeme} {v : Init} → IsInit s a v → OpensNoBrace a
init_opened s (IsInit.value a v h) = let b = first s h in (b.0, λ r. begins_no_mark s (a ++ r) p.RightBrace refl (b.1 r))
init_opened s (IsInit.list l a r vs lk h rk) = (omega arith, λ u. ap (is_mark p.RightBrace) lk)

inits_opened : (s : TypeNames) {a : List Lexeme} {vs : List Init} → AreInits s a vs → OpensNoBrace a
inits_opened s (AreInits.one a v h) = init_opened s h
inits_opened s (AreInits.last a t v h kind) = let b = init_opened s h in (omega (arith, length-append a (t ∷ []), b.0), λ r. ap (λ z. is_mark p.RightBrace (kind_at z)) (append_assoc a (t ∷ []) r) ∙ b.1 (t ∷ r))
inits_opened s (AreInits.more a t b v vs h kind g) = let c = init_opened s h in (omega (arith, length-append a (t ∷ b), c.0), λ r. ap (λ z. is_mark p.RightBrace (kind_at z)) (append_assoc a (t ∷ b) r) ∙ c.1 (t ∷ b ++ r))

module _ (s : TypeNames) where
  value_rule : (a : List Lexeme) (v : Expr) → IsExpr s 2 a v → ReadsInit s a (i.Value v)
  unfolding init init_value
  value_rule a v h zero r len under = let b = (first s h).0 in absurd (omega (arith, length-append a r))
  value_rule a v h (suc n) r len under =
      let c = begins_no_mark s (a ++ r) p.LeftBrace refl ((first s h).1 r) in
      let e = read_expr s (omega arith) h (suc n) r len under in
      rw (c, e) refl

  list_rule : (l : Lexeme) (a : List Lexeme) (r : Lexeme) (vs : List Init) → l.kind ≡ k.Mark p.LeftBrace → ReadsInits s a vs → r.kind ≡ k.Mark p.RightBrace → ReadsInit s (l ∷ a ++ r ∷ []) (i.List l.at vs)
  unfolding init init_list
  list_rule l a r vs lk h rk zero u len under = absurd (omega arith)
  list_rule l a r vs lk h rk (suc n) u len under =
      let q = append_assoc a (r ∷ []) u in
      let all : length (a ++ r ∷ u) ≤ n = subst (λ z. length z ≤ n) q (omega arith) in
      let lb = is_mark_of p.LeftBrace l.kind lk in
      let e = h n (length (a ++ r ∷ u)) [] r u rk all (omega arith) in
      let d = expect_at r u p.RightBrace rk in
      rw (lb, q, e, d) refl

  one_init : (a : List Lexeme) (v : Init) → OpensNoBrace a → ReadsInit s a v → ReadsInits s a (v ∷ [])
  one_init a v b h n j found r u rk len le = let o = b.0 in braced_last (init s n) j found (a ++ r ∷ u) (r ∷ u) v (omega (arith, length-append a (r ∷ u))) (h n (r ∷ u) len (weak r u p.RightBrace 2 rk (omega arith))) (ap (is_mark p.Comma) rk)

  last_init : (a : List Lexeme) (t : Lexeme) (v : Init) → OpensNoBrace a → ReadsInit s a v → t.kind ≡ k.Mark p.Comma → ReadsInits s (a ++ t ∷ []) (v ∷ [])
  last_init a t v b h kind n j found r u rk len le =
      let q = append_assoc a (t ∷ []) (r ∷ u) in
      let all : length (a ++ (t ∷ r ∷ u)) ≤ n = subst (λ z. length z ≤ n) q len in
      let e = h n (t ∷ r ∷ u) all (weak t (r ∷ u) p.Comma 2 kind (omega arith)) in
      ap (braced_list_from (init s n) j found) q ∙ braced_comma (init s n) j found (a ++ (t ∷ r ∷ u)) t (r ∷ u) v (omega (arith, length-append (a ++ t ∷ []) (r ∷ u))) e kind (is_mark_of p.RightBrace r.kind rk)

  more_inits : (a : List Lexeme) (t : Lexeme) (b : List Lexeme) (v : Init) (vs : List Init) → OpensNoBrace a → ReadsInit s a v → t.kind ≡ k.Mark p.Comma → OpensNoBrace b → ReadsInits s b vs → ReadsInits s (a ++ t ∷ b) (v ∷ vs)
  more_inits a t b v vs c h kind d g n zero found r u rk len le = absurd (omega (arith, length-append (a ++ t ∷ b) (r ∷ u)))
  more_inits a t b v vs c h kind d g n (suc j) found r u rk len le =
      let q = append_assoc a (t ∷ b) (r ∷ u) in
      let sizes = length-append a (t ∷ b ++ r ∷ u) in
      let all : length (a ++ (t ∷ b ++ r ∷ u)) ≤ n = subst (λ z. length z ≤ n) q len in
      let fit : length (a ++ (t ∷ b ++ r ∷ u)) ≤ suc j = subst (λ z. length z ≤ suc j) q le in
      let e = h n (t ∷ b ++ r ∷ u) all (weak t (b ++ r ∷ u) p.Comma 2 kind (omega arith)) in
      ap (braced_list_from (init s n) (suc j) found) q ∙ braced_more (init s n) j found (a ++ (t ∷ b ++ r ∷ u)) t (b ++ r ∷ u) v e kind (d.1 (r ∷ u))
      ∙ g n j (found ++ v ∷ []) r u rk (omega arith) (omega arith) ∙ ap (λ z. Ok (z, r ∷ u)) (append_assoc found (v ∷ []) vs)

  mutual
    read_init : {a : List Lexeme} {v : Init} → IsInit s a v → ReadsInit s a v
    read_init (IsInit.value a v h) = value_rule a v h
    read_init (IsInit.list l a r vs lk h rk) = list_rule l a r vs lk (read_inits h) rk

    read_inits : {a : List Lexeme} {vs : List Init} → AreInits s a vs → ReadsInits s a vs
    read_inits (AreInits.one a v h) = one_init a v (init_opened s h) (read_init h)
    read_inits (AreInits.last a t v h kind) = last_init a t v (init_opened s h) (read_init h) kind
    read_inits (AreInits.more a t b v vs h kind g) = more_inits a t b v vs (init_opened s h) (read_init h) kind (inits_opened s g) (read_inits g)

-- ---- typedefs

typedefs_fronts : {s : TypeNames} {ty : TypeNode} {a : List Lexeme} {vs : List External} {z : TypeNames} → AreTypedefs s ty a vs z → Fronts a
typedefs_fronts (AreTypedefs.one {s = s} a d h) = declared_fronts s refl h
typedefs_fronts (AreTypedefs.more {s = s} a t b d vs z h kind g) = wider a (t ∷ b) (declared_fronts s refl h)

typedefs_read : {s : TypeNames} {ty : TypeNode} {a : List Lexeme} {vs : List External} {z : TypeNames} → AreTypedefs s ty a vs z → (n j : ℕ) (found : List External) (t : Lexeme) (r : List Lexeme) → t.kind ≡ k.Mark p.Semicolon → length (a ++ t ∷ r) < n → length (a ++ t ∷ r) ≤ j
    → typedefs_from s n j ty found (a ++ t ∷ r) ≡ Ok ((found ++ vs, z), t ∷ r)
unfolding typedefs_from
typedefs_read (AreTypedefs.one {s = s} a d h) n zero found t r kind len le = absurd (omega (arith, length-append a (t ∷ r)))
typedefs_read (AreTypedefs.one {s = s} a d h) n (suc j) found t r kind len le =
    let e = declared_read s h n (t ∷ r) len (semicolon_ends t.kind kind) in
    let c = ap (is_mark p.Comma) kind in
    rw (e, c) refl
typedefs_read (AreTypedefs.more a o b d vs z h ok g) n zero found t r kind len le = absurd (omega (arith, length-append (a ++ o ∷ b) (t ∷ r)))
typedefs_read (AreTypedefs.more {s = s} {ty = ty} a o b d vs z h ok g) n (suc j) found t r kind len le =
    let q = append_assoc a (o ∷ b) (t ∷ r) in
    let sizes = length-append a (o ∷ b ++ t ∷ r) in
    let all : length (a ++ (o ∷ b ++ t ∷ r)) < n = subst (λ z. length z < n) q len in
    let fit : length (a ++ (o ∷ b ++ t ∷ r)) ≤ suc j = subst (λ z. length z ≤ suc j) q le in
    let e = declared_read s h n (o ∷ b ++ t ∷ r) all (comma_ends o.kind ok) in
    let c = is_mark_of p.Comma o.kind ok in
    rw (q, e, c) (typedefs_read g n j (found ++ x.Typedef d ∷ []) t r kind (omega arith) (omega arith) ∙ ap (λ w'. Ok ((w', z), t ∷ r)) (append_assoc found (x.Typedef d ∷ []) vs))

-- ---- objects

-- what may follow an object
record Closes (r : List Lexeme) : Type 0 where
  ends : EndsKind (kind_at r)
  under : binding_level (infix_at r) < 2
  no_assign : is_mark p.Assign (kind_at r) ≡ false
  no_open : is_mark p.LeftBrace (kind_at r) ≡ false

semicolon_closes : (t : Lexeme) (r : List Lexeme) → t.kind ≡ k.Mark p.Semicolon → Closes (t ∷ r)
semicolon_closes t r e = record { ends = semicolon_ends t.kind e; under = weak t r p.Semicolon 2 e (omega arith); no_assign = ap (is_mark p.Assign) e; no_open = ap (is_mark p.LeftBrace) e }

comma_closes : (t : Lexeme) (r : List Lexeme) → t.kind ≡ k.Mark p.Comma → Closes (t ∷ r)
comma_closes t r e = record { ends = comma_ends t.kind e; under = weak t r p.Comma 2 e (omega arith); no_assign = ap (is_mark p.Assign) e; no_open = ap (is_mark p.LeftBrace) e }

-- an object: its declarator, and what is read behind it
record Start (s : TypeNames) (storage : Option Storage) (n : ℕ) (ty : TypeNode) (ts r : List Lexeme) (v : External) : Type 0 where
  u : DeclaredName
  shapes : List Shape
  rest : List Lexeme
  declarator_is : declarator s n nm.Required ts ≡ Ok (record { name = Some u; shapes = shapes }, rest)
  no_open : is_mark p.LeftBrace (kind_at rest) ≡ false
  gives : object_by s n storage ty u shapes rest ≡ Ok (v, r)

module _ (s : TypeNames) (storage : Option Storage) where
  object_start : {ty : TypeNode} {a : List Lexeme} {v : External} → IsObject s storage ty a v → (n : ℕ) (r : List Lexeme) → length (a ++ r) < n → Closes r → Start s storage n ty (a ++ r) r v
  unfolding object_by
  object_start (IsObject.plain a u shapes h) n r len c = record { u = u; shapes = shapes; rest = r; declarator_is = read_declarator s h n r len c.ends; no_open = c.no_open; gives = let e = c.no_assign in rw e refl }
  object_start {ty} (IsObject.with_init a t b u shapes v h kind g) n r len c =
      let q = append_assoc a (t ∷ b) r in
      let all : length (a ++ (t ∷ b ++ r)) < n = subst (λ z. length z < n) q len in
      let ends = mark_ends t.kind p.Assign kind (record { no_star = refl; no_paren = refl; no_bracket = refl; no_name = refl; stops = refl }) in
      record {
        u = u;
        shapes = shapes;
        rest = t ∷ b ++ r;
        declarator_is = ap (declarator s n nm.Required) q ∙ read_declarator s h n (t ∷ b ++ r) all ends;
        no_open = ap (is_mark p.LeftBrace) kind;
        gives = let o = is_mark_of p.Assign t.kind kind in let e = read_init s g n r (omega (arith, length-append a (t ∷ b ++ r))) c.under in rw (o, e) refl;
      }

  object_fronts : {ty : TypeNode} {a : List Lexeme} {v : External} → IsObject s storage ty a v → Fronts a
  object_fronts (IsObject.plain a u shapes h) = declarator_fronts s refl h
  object_fronts (IsObject.with_init a t b u shapes v h kind g) = wider a (t ∷ b) (declarator_fronts s refl h)

  objects_fronts : {ty : TypeNode} {a : List Lexeme} {vs : List External} → AreObjects s storage ty a vs → Fronts a
  objects_fronts (AreObjects.one a v h) = object_fronts h
  objects_fronts (AreObjects.more a t b v vs h kind g) = wider a (t ∷ b) (object_fronts h)

  objects_read : {ty : TypeNode} {a : List Lexeme} {vs : List External} → AreObjects s storage ty a vs → (n j : ℕ) (found : List External) (t : Lexeme) (r : List Lexeme) → t.kind ≡ k.Mark p.Semicolon → length (a ++ t ∷ r) < n → length (a ++ t ∷ r) ≤ j
      → objects_from s n storage j ty found (a ++ t ∷ r) ≡ Ok (found ++ vs, t ∷ r)
  unfolding objects_from
  objects_read (AreObjects.one a v h) n zero found t r kind len le = absurd (omega (arith, length-append a (t ∷ r)))
  objects_read (AreObjects.one a v h) n (suc j) found t r kind len le =
      let g = object_start h n (t ∷ r) len (semicolon_closes t r kind) in
      let e = g.declarator_is in
      let o = g.gives in
      let c = ap (is_mark p.Comma) kind in
      rw (e, o, c) refl
  objects_read (AreObjects.more a o b v vs h ok g) n zero found t r kind len le = absurd (omega (arith, length-append (a ++ o ∷ b) (t ∷ r)))
  objects_read (AreObjects.more a o b v vs h ok g) n (suc j) found t r kind len le =
      let q = append_assoc a (o ∷ b) (t ∷ r) in
      let sizes = length-append a (o ∷ b ++ t ∷ r) in
      let all : length (a ++ (o ∷ b ++ t ∷ r)) < n = subst (λ z. length z < n) q len in
      let fit : length (a ++ (o ∷ b ++ t ∷ r)) ≤ suc j = subst (λ z. length z ≤ suc j) q le in
      let d = object_start h n (o ∷ b ++ t ∷ r) all (comma_closes o (b ++ t ∷ r) ok) in
      let e = d.declarator_is in
      let i' = d.gives in
      let c = is_mark_of p.Comma o.kind ok in
      rw (q, e, i', c) (objects_read g n j (found ++ v ∷ []) t r kind (omega arith) (omega arith) ∙ ap (λ w'. Ok (w', t ∷ r)) (append_assoc found (v ∷ []) vs))

  -- the objects of a declaration, up to its semicolon
  behind_read : {ty : TypeNode} {a : List Lexeme} {vs : List External} → AreObjects s storage ty a vs → (n : ℕ) (t : Lexeme) (r : List Lexeme) → t.kind ≡ k.Mark p.Semicolon → length (a ++ t ∷ r) < n → behind_type s n storage ty (a ++ t ∷ r) ≡ Ok (vs, r)
  unfolding behind_type objects_named objects_behind
  behind_read (AreObjects.one a v h) n t r kind len =
      let f = (object_fronts h).no_end (t ∷ r) in
      let g = object_start h n (t ∷ r) len (semicolon_closes t r kind) in
      let e = g.declarator_is in
      let b = g.no_open in
      let o = g.gives in
      let c = ap (is_mark p.Comma) kind in
      let d = expect_at t r p.Semicolon kind in
      rw (f, e, b, o, c, d) refl
  behind_read (AreObjects.more a o b v vs h ok g) n t r kind len =
      let q = append_assoc a (o ∷ b) (t ∷ r) in
      let sizes = length-append a (o ∷ b ++ t ∷ r) in
      let all : length (a ++ (o ∷ b ++ t ∷ r)) < n = subst (λ z. length z < n) q len in
      let f = (object_fronts h).no_end (o ∷ b ++ t ∷ r) in
      let d = object_start h n (o ∷ b ++ t ∷ r) all (comma_closes o (b ++ t ∷ r) ok) in
      let e = d.declarator_is in
      let j = d.no_open in
      let i' = d.gives in
      let c = is_mark_of p.Comma o.kind ok in
      let m = objects_read g n (length (b ++ t ∷ r)) (v ∷ []) t r kind (omega arith) (omega arith) in
      let y = expect_at t r p.Semicolon kind in
      rw (q, f, e, j, i', c, m, y) refl

  tags_read : (ty : TypeNode) (n : ℕ) (t : Lexeme) (r : List Lexeme) → t.kind ≡ k.Mark p.Semicolon → behind_type s n storage ty (t ∷ r) ≡ Ok (x.Tags storage ty ∷ [], r)
  unfolding behind_type
  tags_read ty n t r kind = let e = is_mark_of p.Semicolon t.kind kind in rw e refl

  function_read : {ty : TypeNode} {a : List Lexeme} {d : Declaration} → IsDeclared s nm.Required ty a d → (n : ℕ) (l : Lexeme) (b : List Lexeme) (r : Lexeme) (u : List Lexeme) (body : List Stmt) → l.kind ≡ k.Mark p.LeftBrace → AreItems s b body → r.kind ≡ k.Mark p.RightBrace
      → length (a ++ (l ∷ (b ++ r ∷ u))) < n → behind_type s n storage ty (a ++ (l ∷ (b ++ r ∷ u))) ≡ Ok (x.Function d storage (f.Body body) ∷ [], u)
  unfolding behind_type objects_named body_behind
  function_read (IsDeclared.of a v shapes h) n l b r u body lk g rk len =
      let f = (declarator_fronts s refl h).no_end (l ∷ (b ++ r ∷ u)) in
      let ends = mark_ends l.kind p.LeftBrace lk (record { no_star = refl; no_paren = refl; no_bracket = refl; no_name = refl; stops = refl }) in
      let e = read_declarator s h n (l ∷ (b ++ r ∷ u)) len ends in
      let c = is_mark_of p.LeftBrace l.kind lk in
      let o = read_items s g n n (length (b ++ r ∷ u)) [] r u rk (omega (arith, length-append a (l ∷ (b ++ r ∷ u)))) (omega (arith, length-append a (l ∷ (b ++ r ∷ u)))) (omega arith) in
      rw (f, e, c, o) refl

  -- behind the storage word
  behind_storage_read : {b : List Lexeme} {ty : TypeNode} → IsSpecifier s b ty → (n : ℕ) (c r : List Lexeme) (vs : List External) → length (b ++ c) ≤ n → Follows c → behind_type s n storage ty c ≡ Ok (vs, r) → behind_storage s n storage (b ++ c) ≡ Ok ((vs, s), r)
  unfolding behind_storage
  behind_storage_read h n c r vs len next g = let e = read_specifier s h n c len next in rw (e, g) refl

-- ---- external declarations

other_opening : (kind : TokenKind) (listed : Bool) → begins_type_by (specifier_of kind) listed ≡ true → storage_class_of kind ≡ o.Other
other_opening (k.Word w.Typedef) listed e = no_true e
other_opening (k.Word w.Static) listed e = no_true e
other_opening (k.Word w.Extern) listed e = no_true e
other_opening (k.Word _) listed e = refl
other_opening _ listed e = refl

abbrev ReadsExternal : TypeNames → List Lexeme → List External → TypeNames → Type 0
ReadsExternal s a vs z = (n : ℕ) (r : List Lexeme) → length (a ++ r) ≤ n → external s n (a ++ r) ≡ Ok ((vs, z), r)

-- the storage word, if there is one, before a type
storage_read : (s : TypeNames) {a : List Lexeme} {storage : Option Storage} → IsStorage a storage → (n : ℕ) (ts : List Lexeme) → begins_type s ts ≡ true → external s n (a ++ ts) ≡ behind_storage s n storage ts
unfolding external
storage_read s IsStorage.none n ts b = ap (λ c. external_at s n c ts) (other_opening (kind_at ts) (is_type_at s ts) b)
storage_read s (IsStorage.static t kind) n ts b = ap (λ kd. external_at s n (storage_class_of kd) (t ∷ ts)) kind
storage_read s (IsStorage.extern t kind) n ts b = ap (λ kd. external_at s n (storage_class_of kd) (t ∷ ts)) kind

external_read : {s : TypeNames} {a : List Lexeme} {vs : List External} {z : TypeNames} → IsExternal s a vs z → ReadsExternal s a vs z
unfolding external typedefs
external_read (IsExternal.typedefs {s = s} t a b r ty vs z kind h g rk) n u len =
    let q : (a ++ (b ++ r ∷ [])) ++ u ≡ a ++ (b ++ r ∷ u) = append_assoc a (b ++ r ∷ []) u ∙ ap (λ z. a ++ z) (append_assoc b (r ∷ []) u) in
    let all : length (t ∷ (a ++ (b ++ r ∷ u))) ≤ n = subst (λ z. length (t ∷ z) ≤ n) q len in
    let sizes = length-append a (b ++ r ∷ u) in
    let some = (specifier_begins s h).0 in
    let e = read_specifier s h n (b ++ r ∷ u) (omega arith) ((typedefs_fronts g).follows (r ∷ u)) in
    let c = typedefs_read g n (length (b ++ r ∷ u)) [] r u rk (omega arith) (omega arith) in
    let d = expect_at r u p.Semicolon rk in
    ap (λ kd. external_at s n (storage_class_of kd) (t ∷ ((a ++ (b ++ r ∷ [])) ++ u))) kind ∙ rw (q, e, c, d) refl
external_read (IsExternal.tags {s = s} a b r storage ty h g rk) n u len =
    let q : (a ++ (b ++ r ∷ [])) ++ u ≡ a ++ (b ++ r ∷ u) = append_assoc a (b ++ r ∷ []) u ∙ ap (λ z. a ++ z) (append_assoc b (r ∷ []) u) in
    let all : length (a ++ (b ++ r ∷ u)) ≤ n = subst (λ z. length z ≤ n) q len in
    ap (external s n) q ∙ storage_read s h n (b ++ r ∷ u) ((specifier_begins s g).1 (r ∷ u)) ∙ behind_storage_read s storage g n (r ∷ u) u (x.Tags storage ty ∷ []) (omega (arith, length-append a (b ++ r ∷ u))) (semicolon_follows r u rk) (tags_read s storage ty n r u rk)
external_read (IsExternal.objects {s = s} a b c r storage ty vs h g o rk) n u len =
    let q : (a ++ (b ++ (c ++ r ∷ []))) ++ u ≡ a ++ (b ++ (c ++ r ∷ u)) = append_assoc a (b ++ (c ++ r ∷ [])) u ∙ ap (λ z. a ++ z) (append_assoc b (c ++ r ∷ []) u ∙ ap (λ z. b ++ z) (append_assoc c (r ∷ []) u)) in
    let all : length (a ++ (b ++ (c ++ r ∷ u))) ≤ n = subst (λ z. length z ≤ n) q len in
    let s1 = length-append a (b ++ (c ++ r ∷ u)) in
    let s2 = length-append b (c ++ r ∷ u) in
    let some = (specifier_begins s g).0 in
    ap (external s n) q ∙ storage_read s h n (b ++ (c ++ r ∷ u)) ((specifier_begins s g).1 (c ++ r ∷ u)) ∙ behind_storage_read s storage g n (c ++ r ∷ u) u vs (omega arith) ((objects_fronts s storage o).follows (r ∷ u)) (behind_read s storage o n r u rk (omega arith))
external_read (IsExternal.function {s = s} a b c l e r storage ty d body h g o lk i' rk) n u len =
    let q : (a ++ (b ++ (c ++ (l ∷ e ++ r ∷ [])))) ++ u ≡ a ++ (b ++ (c ++ (l ∷ (e ++ r ∷ u)))) = append_assoc a (b ++ (c ++ (l ∷ e ++ r ∷ []))) u ∙ ap (λ z. a ++ z) (append_assoc b (c ++ (l ∷ e ++ r ∷ [])) u ∙ ap (λ z. b ++ z) (append_assoc c (l ∷ e ++ r ∷ []) u ∙ ap (λ z. c ++ (l ∷ z)) (append_assoc e (r ∷ []) u))) in
    let all : length (a ++ (b ++ (c ++ (l ∷ (e ++ r ∷ u))))) ≤ n = subst (λ z. length z ≤ n) q len in
    let s1 = length-append a (b ++ (c ++ (l ∷ (e ++ r ∷ u)))) in
    let s2 = length-append b (c ++ (l ∷ (e ++ r ∷ u))) in
    let some = (specifier_begins s g).0 in
    ap (external s n) q ∙ storage_read s h n (b ++ (c ++ (l ∷ (e ++ r ∷ u)))) ((specifier_begins s g).1 (c ++ (l ∷ (e ++ r ∷ u)))) ∙ behind_storage_read s storage g n (c ++ (l ∷ (e ++ r ∷ u))) u (x.Function d storage (f.Body body) ∷ []) (omega arith) ((declared_fronts s refl o).follows (l ∷ (e ++ r ∷ u)))
    (function_read s storage o n l e r u body lk i' rk (omega arith))

pub external_some : {s : TypeNames} {a : List Lexeme} {vs : List External} {z : TypeNames} → IsExternal s a vs z → 0 < length a
external_some (IsExternal.typedefs t a b r ty vs z kind h g rk) = omega arith
external_some (IsExternal.tags a b r storage ty h g rk) = omega (arith, length-append a (b ++ r ∷ []), length-append b (r ∷ []))
external_some (IsExternal.objects a b c r storage ty vs h g o rk) = omega (arith, length-append a (b ++ (c ++ r ∷ [])), length-append b (c ++ r ∷ []), length-append c (r ∷ []))
external_some (IsExternal.function a b c l e r storage ty d body h g o lk i' rk) = omega (arith, length-append a (b ++ (c ++ (l ∷ e ++ r ∷ []))), length-append b (c ++ (l ∷ e ++ r ∷ [])), length-append c (l ∷ e ++ r ∷ []))

one_turn : (j : ℕ) (s : TypeNames) (found : List External) (ts : List Lexeme) → 0 < length ts → externals_from (suc j) s found ts ≡ externals_behind (external s (length ts) ts) (λ q r. externals_from j q.1 (found ++ q.0) r)
unfolding externals_from
one_turn j s found [] some = absurd (omega arith)
one_turn j s found (t ∷ ts) some = refl

pub externals_read : {s : TypeNames} {a : List Lexeme} {vs : List External} → AreExternals s a vs → (j : ℕ) (found : List External) → length a ≤ j → externals_from j s found a ≡ Ok (found ++ vs)
unfolding externals_from
externals_read AreExternals.none zero found le = ap Ok (sym (append-nil found))
externals_read AreExternals.none (suc j) found le = ap Ok (sym (append-nil found))
externals_read (AreExternals.more a b vs us z h g) zero found le = let some = external_some h in absurd (omega (arith, length-append a b))
externals_read (AreExternals.more {s = s} a b vs us z h g) (suc j) found le =
    let some = external_some h in
    let sizes = length-append a b in
    let e = external_read h (length (a ++ b)) b (omega arith) in
    let o = externals_read g j (found ++ vs) (omega arith) in
    one_turn j s found (a ++ b) (omega arith) ∙ rw (e, o) (ap Ok (append_assoc found vs us))

-- The unit that the tokens spell is read.
pub complete : (toks : Toks) (tree : TranslationUnit) → units.Reads toks tree → unit toks ≡ Ok tree
complete toks tree h =
    let e = externals_read h.externals (length toks.items) [] (omega arith) in
    ap (unit_of toks.size) e ∙ ap (λ n. Ok (record { externals = tree.externals; length = n })) (sym h.length)
