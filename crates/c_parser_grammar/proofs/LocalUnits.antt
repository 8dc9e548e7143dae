-- The same of statements and of units: what is read depends on no token behind the one at which it stops.
use Rattle.std.proofs.Common.{◌≡◌, ℕ, zero, suc, ◌-◌, ◌≤◌, ◌<◌, List, [], ◌∷◌, ◌++◌, length, Option, Some, None, Ok, Err, refl, ap, length-append, arith}
use Rattle.c_lexer.specs.declared.token.Punct.{Punct}
use Rattle.c_lexer.specs.declared.token.Punct.TheVariants as p
use Rattle.c_lexer.specs.declared.token.Keyword.TheVariants as w
use Rattle.c_lexer.specs.Pieces.{Lexeme}
use Rattle.c_tree.specs.declared.expressions.Expr.{Expr}
use Rattle.c_tree.specs.declared.types.TypeNode.{TypeNode}
use Rattle.c_tree.specs.declared.types.Declaration.{Declaration}
use Rattle.c_tree.specs.declared.statements.Stmt.{Stmt}
use Rattle.c_tree.specs.declared.statements.Stmt as st
use Rattle.c_tree.specs.declared.statements.LocalDeclarator.{LocalDeclarator}
use Rattle.c_tree.specs.declared.statements.Section.{Section}
use Rattle.c_tree.specs.declared.declarations.Storage.{Storage}
use Rattle.c_tree.specs.declared.declarations.Storage.TheVariants as sg
use Rattle.c_tree.specs.declared.declarations.Init.{Init}
use Rattle.c_tree.specs.declared.declarations.External.{External}
use Rattle.c_tree.specs.declared.declarations.External.TheVariants as ex
use Rattle.c_parser_grammar.specs.declared.classes.Head.{Head}
use Rattle.c_parser_grammar.specs.declared.classes.Head.TheVariants as hd
use Rattle.c_parser_grammar.specs.declared.classes.StorageClass.{StorageClass}
use Rattle.c_parser_grammar.specs.declared.classes.StorageClass.TheVariants as op
use Rattle.c_parser_grammar.specs.declared.shapes.Shape.{Shape}
use Rattle.c_parser_grammar.specs.declared.shapes.Declarator.{Declarator}
use Rattle.c_parser_grammar.specs.declared.shapes.DeclaredName.{DeclaredName}
use Rattle.c_parser_grammar.specs.declared.shapes.NameRequirement.TheVariants as nm
use Rattle.c_parser_grammar.specs.Classes.{head_of, storage_class_of}
use Rattle.c_parser_grammar.specs.Tokens.{TypeNames, is_mark, is_keyword, kind_at, token_place}
use Rattle.c_parser_grammar.specs.Types.{without_body, declaration_of}
use Rattle.c_parser_grammar.specs.Statements.{locals_of}
use Rattle.c_parser_grammar.specs.Units.{with_type}
use Rattle.c_parser_grammar.specs.Parser.{Parser, and_then, pure, expect}
use Rattle.c_parser_grammar.specs.ParseExpr.{expr, declarator}
use Rattle.c_parser_grammar.specs.ParseStatements.{expression, local_by, local_declarator, line, optional_expression, controlling_expression, first_expression, first_clause, case_behind, label, return_behind, value_line, items_from, ends_section, stmts_from, section, sections_from, alternative, if_behind, while_behind, do_behind, for_behind, switch_behind, stmt_by, stmt}
use Rattle.c_parser_grammar.specs.ParseUnits.{init_list, init_value, init_by, init, typedefs_from, typedefs, object_by, object_named, objects_from, objects_behind, body_behind, objects_named, objects_by, behind_type, behind_storage, external_at, external}
use Rattle.c_parser_grammar.proofs.SoundStmt.{SoundS, line_says, section_says, sound_stmt}
use Rattle.c_parser_grammar.proofs.ReadStatements.{line_begins, stmt_starts, label_word}
use Rattle.c_parser_grammar.proofs.Local.{Mode}
use Rattle.c_parser_grammar.proofs.Local.{Alike, Loop, State, begins_at, behind_local, bind_local, bind_some, braced_local, declaration_local, declarator_local, end_local, err_local, expect_word_local, expr_local, expr_takes, forget, list_local, loop_local, ok_local, plain_local, same_head, same_kind, same_place, turns_local, some_left, some_right, specifier_of_local, take_local, taken_local, test_local, then_expect, whole_local}

module _ (t : Lexeme) (left right : List Lexeme) where
  module _ (s : TypeNames) (n m : ℕ) where
    expression_local : Alike t left right n m (expression s n) (expression s m)
    expression_local = whole_local t left right s n m (expr s n) (expr s m) (declarator s n) (declarator s m) (expr_local t left right s n m) (declarator_local t left right s n m) (expr_takes t left right s n)

    local_by_local : (d : Declaration) → Alike t left right n m (local_by s n d) (local_by s m d)
    local_by_local d k b c u v h bn cm = test_local t left right (ap (is_mark p.Assign) (same_kind t left right h))
        (bind_local t left right _ _ _ _ (behind_local t left right (expr s n 2) (expr s m 2) (expr_local t left right s n m 2) h (omega arith) (omega arith)) (λ x k u v g. ok_local t left right _ _ g refl)) (ok_local t left right _ _ h refl)

    local_local : (ty : TypeNode) → Alike t left right n m (local_declarator s n ty) (local_declarator s m ty)
    unfolding local_declarator
    local_local ty k b c u v h bn cm = bind_local t left right _ _ _ _ (declaration_local t left right s n m nm.Required ty k b c u v h bn cm) (λ d k u v g. local_by_local d k b c u v g bn cm)

    line_local : Alike t left right n m (line s n) (line s m)
    unfolding line
    line_local k b c u v h bn cm = bind_local t left right _ _ _ _ (plain_local t left right s n m k b c u v h bn cm) (λ ty k u v g. bind_local t left right _ _ _ _ (list_local t left right n m (local_declarator s n ty) (local_declarator s m ty) (local_local ty) k b c u v g bn cm) (λ xs k u v g. end_local t left right p.Semicolon _ _ g refl))

    line_some : (u u' : List Lexeme) (vs : List LocalDeclarator) → line s n u ≡ Ok (vs, u') → length u' < length u
    line_some u u' vs e = let z = (line_says s n u).by (vs, u') e in let o = (line_begins s z.2).0 in let q = ap length z.1 in omega (arith, length-append z.0 u')

    optional_local : (mark : Punct) → Alike t left right n m (optional_expression s n mark) (optional_expression s m mark)
    unfolding optional_expression
    optional_local mark k b c u v h bn cm = test_local t left right (ap (is_mark mark) (same_kind t left right h)) (ok_local t left right _ _ h refl) (bind_local t left right _ _ _ _ (expression_local k b c u v h bn cm) (λ x k u v g. ok_local t left right _ _ g refl))

    condition_local : Alike t left right n m (controlling_expression s n) (controlling_expression s m)
    unfolding controlling_expression
    condition_local k b c u v h bn cm = then_expect t left right p.LeftParen _ _ h (λ k u v g. bind_local t left right _ _ _ _ (expression_local k b c u v g bn cm) (λ x k u v g. end_local t left right p.RightParen x x g refl))

    first_value_local : Alike t left right n m (first_expression s n) (first_expression s m)
    unfolding first_expression
    first_value_local k b c u v h bn cm = bind_local t left right _ _ _ _ (expression_local k b c u v h bn cm) (λ x k u v g. end_local t left right p.Semicolon _ _ g refl)

    first_local : Alike t left right n m (first_clause s n) (first_clause s m)
    unfolding first_clause
    first_local k b c u v h bn cm = test_local t left right (ap (is_mark p.Semicolon) (same_kind t left right h)) (taken_local t left right _ _ h refl)
        (test_local t left right (begins_at t left right s h) (bind_local t left right _ _ _ _ (line_local k b c u v h bn cm) (λ xs k u v g. ok_local t left right _ _ g refl)) (first_value_local k b c u v h bn cm))

    case_local : (at : ℕ) → Alike t left right n m (case_behind s n at) (case_behind s m at)
    unfolding case_behind
    case_local at k b c u v h bn cm = bind_local t left right _ _ _ _ (expr_local t left right s n m 4 k b c u v h bn cm) (λ x k u v g. end_local t left right p.Colon _ _ g refl)

    label_local : Alike t left right n m (label s n) (label s m)
    unfolding label
    label_local k b c u v h bn cm = rw (same_place t left right h) (test_local t left right (ap (is_keyword w.Case) (same_kind t left right h)) (behind_local t left right (case_behind s n (token_place v)) (case_behind s m (token_place v)) (case_local (token_place v)) h (omega arith) (omega arith))
        (bind_local t left right _ _ _ _ (expect_word_local t left right n m w.Default k b c u v h bn cm) (λ x k u v g. end_local t left right p.Colon _ _ g refl)))

    return_local : (at : ℕ) → Alike t left right n m (return_behind s n at) (return_behind s m at)
    unfolding return_behind
    return_local at k b c u v h bn cm = bind_local t left right _ _ _ _ (optional_local p.Semicolon k b c u v h bn cm) (λ x k u v g. end_local t left right p.Semicolon _ _ g refl)

    value_local : Alike t left right n m (value_line s n) (value_line s m)
    unfolding value_line
    value_local k b c u v h bn cm = bind_local t left right _ _ _ _ (expression_local k b c u v h bn cm) (λ x k u v g. end_local t left right p.Semicolon _ _ g refl)

    module _ (n2 m2 : ℕ) (le : n2 ≤ n) (le' : m2 ≤ m) (rec rec' : Parser Stmt) (rec_local : Alike t left right n2 m2 rec rec') (rec_says : SoundS s rec) where
      rec_some : (u u' : List Lexeme) (x : Stmt) → rec u ≡ Ok (x, u') → length u' < length u
      rec_some u u' x e = let z = (rec_says u).by (x, u') e in let o = (stmt_starts s z.2).0 in let q = ap length z.1 in omega (arith, length-append z.0 u')

      items_loop : (j i : ℕ) (found : List Stmt) → Loop t left right n2 m2 (items_from s n rec) (items_from s m rec') j i found
      unfolding items_from
      items_loop = loop_local t left right n2 m2 (items_from s n rec) (items_from s m rec') (λ found k b c u v h. err_local t left right h)
          (λ j i next found k b c u v h bn cm bj ci. test_local t left right (ap (is_mark p.RightBrace) (same_kind t left right h)) (taken_local t left right found found h refl)
          (test_local t left right (begins_at t left right s h)
          (bind_some t left right _ _ _ _ h (line_local k b c u v h (omega arith) (omega arith)) (λ x u' e. line_some u u' x e) (λ x k u v g. next (found ++ locals_of x) k (b - 1) (c - 1) u v g (omega arith) (omega arith) (omega arith) (omega arith)))
          (bind_some t left right _ _ _ _ h (rec_local k b c u v h bn cm) (λ x u' e. rec_some u u' x e) (λ x k u v g. next (found ++ x ∷ []) k (b - 1) (c - 1) u v g (omega arith) (omega arith) (omega arith) (omega arith)))))

      pub items_local : Alike t left right n2 m2 (λ ts. items_from s n rec (length ts) [] ts) (λ ts. items_from s m rec' (length ts) [] ts)
      items_local = turns_local t left right n2 m2 (items_from s n rec) (items_from s m rec') items_loop []

      ends_same : {k : Mode} {b c : ℕ} {u v : List Lexeme} → State t left right k b c u v → ends_section u ≡ ends_section v
      ends_same h = same_head t left right ends_section (λ x u v. refl) h

      stmts_loop : (j i : ℕ) (found : List Stmt) → Loop t left right n2 m2 (stmts_from s n rec) (stmts_from s m rec') j i found
      unfolding stmts_from
      stmts_loop = loop_local t left right n2 m2 (stmts_from s n rec) (stmts_from s m rec') (λ found k b c u v h. err_local t left right h)
          (λ j i next found k b c u v h bn cm bj ci. test_local t left right (ends_same h) (ok_local t left right found found h refl)
          (bind_some t left right _ _ _ _ h (rec_local k b c u v h bn cm) (λ x u' e. rec_some u u' x e) (λ x k u v g. next (found ++ x ∷ []) k (b - 1) (c - 1) u v g (omega arith) (omega arith) (omega arith) (omega arith))))

      section_local : Alike t left right n2 m2 (section s n rec) (section s m rec')
      unfolding section
      section_local k b c u v h bn cm = bind_local t left right _ _ _ _ (label_local k b c u v h (omega arith) (omega arith)) (λ x k u v g. bind_local t left right _ _ _ _ (turns_local t left right n2 m2 (stmts_from s n rec) (stmts_from s m rec') stmts_loop [] k b c u v g bn cm) (λ ys k u v g. ok_local t left right _ _ g refl))

      section_some : (u u' : List Lexeme) (x : Section) → section s n rec u ≡ Ok (x, u') → length u' < length u
      section_some u u' x e =
          let z = (section_says s n rec rec_says u).by (x, u') e in
          let q = ap length z.1 in
          let o = (label_word s z.2.label_is).0 in
          let size = ap length z.2.all_is in
          omega (arith, length-append z.0 u', length-append z.2.front z.2.back)

      sections_loop : (j i : ℕ) (found : List Section) → Loop t left right n2 m2 (sections_from s n rec) (sections_from s m rec') j i found
      unfolding sections_from
      sections_loop = loop_local t left right n2 m2 (sections_from s n rec) (sections_from s m rec') (λ found k b c u v h. err_local t left right h)
          (λ j i next found k b c u v h bn cm bj ci. test_local t left right (ap (is_mark p.RightBrace) (same_kind t left right h)) (taken_local t left right found found h refl)
          (bind_some t left right _ _ _ _ h (section_local k b c u v h bn cm) (λ x u' e. section_some u u' x e) (λ x k u v g. next (found ++ x ∷ []) k (b - 1) (c - 1) u v g (omega arith) (omega arith) (omega arith) (omega arith))))

      alternative_local : (x : Expr) (y : Stmt) → Alike t left right n2 m2 (alternative s n rec x y) (alternative s m rec' x y)
      unfolding alternative
      alternative_local x y k b c u v h bn cm = test_local t left right (ap (is_keyword w.Else) (same_kind t left right h)) (bind_local t left right _ _ _ _ (behind_local t left right rec rec' rec_local h (omega arith) (omega arith)) (λ z k u v g. ok_local t left right _ _ g refl)) (ok_local t left right _ _ h refl)

      if_else_local : Alike t left right n2 m2 (if_behind s n rec) (if_behind s m rec')
      unfolding if_behind
      if_else_local k b c u v h bn cm = bind_local t left right _ _ _ _ (condition_local k b c u v h (omega arith) (omega arith)) (λ x k u v g. bind_local t left right _ _ _ _ (rec_local k b c u v g bn cm) (λ y k u v g. alternative_local x y k b c u v g bn cm))

      while_local : Alike t left right n2 m2 (while_behind s n rec) (while_behind s m rec')
      unfolding while_behind
      while_local k b c u v h bn cm = bind_local t left right _ _ _ _ (condition_local k b c u v h (omega arith) (omega arith)) (λ x k u v g. bind_local t left right _ _ _ _ (rec_local k b c u v g bn cm) (λ y k u v g. ok_local t left right _ _ g refl))

      do_while_local : Alike t left right n2 m2 (do_behind s n rec) (do_behind s m rec')
      unfolding do_behind
      do_while_local k b c u v h bn cm = bind_local t left right _ _ _ _ (rec_local k b c u v h bn cm) (λ y k u v g. bind_local t left right _ _ _ _ (expect_word_local t left right n m w.While k b c u v g (omega arith) (omega arith))
          (λ _ k u v g. bind_local t left right _ _ _ _ (condition_local k b c u v g (omega arith) (omega arith)) (λ x k u v g. end_local t left right p.Semicolon _ _ g refl)))

      for_local : Alike t left right n2 m2 (for_behind s n rec) (for_behind s m rec')
      unfolding for_behind
      for_local k b c u v h bn cm = then_expect t left right p.LeftParen _ _ h (λ k u v g. bind_local t left right _ _ _ _ (first_local k b c u v g (omega arith) (omega arith)) (λ x k u v g. bind_local t left right _ _ _ _ (optional_local p.Semicolon k b c u v g (omega arith) (omega arith)) (λ y k u v g.
          then_expect t left right p.Semicolon _ _ g (λ k u v g. bind_local t left right _ _ _ _ (optional_local p.RightParen k b c u v g (omega arith) (omega arith)) (λ z k u v g. then_expect t left right p.RightParen _ _ g (λ k u v g.
          bind_local t left right _ _ _ _ (rec_local k b c u v g bn cm) (λ w' k u v g. ok_local t left right _ _ g refl)))))))

      switch_local : Alike t left right n2 m2 (switch_behind s n rec) (switch_behind s m rec')
      unfolding switch_behind
      switch_local k b c u v h bn cm = bind_local t left right _ _ _ _ (condition_local k b c u v h (omega arith) (omega arith)) (λ x k u v g. then_expect t left right p.LeftBrace _ _ g (λ k u v g.
          bind_local t left right _ _ _ _ (turns_local t left right n2 m2 (sections_from s n rec) (sections_from s m rec') sections_loop [] k b c u v g bn cm) (λ xs k u v g. ok_local t left right _ _ g refl)))

      last_local : (x : Stmt) → Alike t left right n2 m2 (λ ts. and_then (expect p.Semicolon ts) (λ _. pure x)) (λ ts. and_then (expect p.Semicolon ts) (λ _. pure x))
      last_local x k b c u v h bn cm = end_local t left right p.Semicolon x x h refl

      stmt_by_local : suc n2 ≤ n → suc m2 ≤ m → (head : Head) → Alike t left right (suc n2) (suc m2) (stmt_by s n rec head) (stmt_by s m rec' head)
      stmt_by_local ln lm hd.Block k b c u v h bn cm = bind_local t left right _ _ _ _ (behind_local t left right (λ ts. items_from s n rec (length ts) [] ts) (λ ts. items_from s m rec' (length ts) [] ts) items_local h bn cm) (λ xs k u v g. ok_local t left right _ _ g refl)
      stmt_by_local ln lm hd.Empty k b c u v h bn cm = taken_local t left right _ _ h refl
      stmt_by_local ln lm hd.If k b c u v h bn cm = behind_local t left right (if_behind s n rec) (if_behind s m rec') if_else_local h bn cm
      stmt_by_local ln lm hd.While k b c u v h bn cm = behind_local t left right (while_behind s n rec) (while_behind s m rec') while_local h bn cm
      stmt_by_local ln lm hd.Do k b c u v h bn cm = behind_local t left right (do_behind s n rec) (do_behind s m rec') do_while_local h bn cm
      stmt_by_local ln lm hd.For k b c u v h bn cm = behind_local t left right (for_behind s n rec) (for_behind s m rec') for_local h bn cm
      stmt_by_local ln lm hd.Switch k b c u v h bn cm = behind_local t left right (switch_behind s n rec) (switch_behind s m rec') switch_local h bn cm
      stmt_by_local ln lm hd.Break k b c u v h bn cm = rw (same_place t left right h) (behind_local t left right (λ ts. and_then (expect p.Semicolon ts) (λ _. pure (st.Break (token_place v)))) (λ ts. and_then (expect p.Semicolon ts) (λ _. pure (st.Break (token_place v)))) (last_local (st.Break (token_place v))) h bn cm)
      stmt_by_local ln lm hd.Continue k b c u v h bn cm = rw (same_place t left right h) (behind_local t left right (λ ts. and_then (expect p.Semicolon ts) (λ _. pure (st.Continue (token_place v)))) (λ ts. and_then (expect p.Semicolon ts) (λ _. pure (st.Continue (token_place v)))) (last_local (st.Continue (token_place v))) h bn cm)
      stmt_by_local ln lm hd.Return k b c u v h bn cm = rw (same_place t left right h) (behind_local t left right (return_behind s n (token_place v)) (return_behind s m (token_place v)) (return_local (token_place v)) h (omega arith) (omega arith))
      stmt_by_local ln lm hd.Other k b c u v h bn cm = value_local k b c u v h (omega arith) (omega arith)

  stmt_local : (s : TypeNames) (n m : ℕ) → Alike t left right n m (stmt s n) (stmt s m)
  unfolding stmt
  stmt_local s zero m k b c u v (State.near h lb lc) bn cm = let o = some_left t left right h in absurd (omega arith)
  stmt_local s zero m k b c u v (State.past l lb) bn cm = forget t left right {b = b} {c = c} {o' = Err u} (omega arith) (err_local t left right (State.past l lb))
  stmt_local s (suc n) zero k b c u v (State.near h lb lc) bn cm = let o = some_right t left right h in absurd (omega arith)
  stmt_local s (suc n) zero k b c u v (State.past l lb) bn cm = forget t left right (omega arith)
      (stmt_by_local s (suc n) 1 n zero (omega arith) (omega arith) (stmt s n) (stmt s zero) (stmt_local s n zero) (sound_stmt s n) (omega arith) (omega arith) (head_of (kind_at u)) Mode.past b 0 u u (State.past l lb) bn (omega arith))
  stmt_local s (suc n) (suc m) k b c u v h bn cm = rw (same_kind t left right h)
      (stmt_by_local s (suc n) (suc m) n m (omega arith) (omega arith) (stmt s n) (stmt s m) (stmt_local s n m) (sound_stmt s n) (omega arith) (omega arith) (head_of (kind_at v)) k b c u v h bn cm)

  -- ---- initialisers

  module _ (s : TypeNames) (n m n2 m2 : ℕ) (ln : suc n2 ≤ n) (lm : suc m2 ≤ m) (rec rec' : Parser Init) (rec_local : Alike t left right n2 m2 rec rec') where
    init_list_local : (at : ℕ) → Alike t left right n2 m2 (init_list s n rec at) (init_list s m rec' at)
    unfolding init_list
    init_list_local at k b c u v h bn cm = bind_local t left right _ _ _ _ (braced_local t left right n2 m2 rec rec' rec_local k b c u v h bn cm) (λ vs k u v g. end_local t left right p.RightBrace _ _ g refl)

    init_by_local : Alike t left right (suc n2) (suc m2) (init_by s n rec) (init_by s m rec')
    unfolding init_value
    init_by_local k b c u v h bn cm = test_local t left right (ap (is_mark p.LeftBrace) (same_kind t left right h)) (rw (same_place t left right h) (behind_local t left right (init_list s n rec (token_place v)) (init_list s m rec' (token_place v)) (init_list_local (token_place v)) h bn cm))
        (bind_local t left right _ _ _ _ (expr_local t left right s n m 2 k b c u v h (omega arith) (omega arith)) (λ x k u v g. ok_local t left right _ _ g refl))

  init_local : (s : TypeNames) (n m : ℕ) → Alike t left right n m (init s n) (init s m)
  unfolding init
  init_local s zero m k b c u v (State.near h lb lc) bn cm = let o = some_left t left right h in absurd (omega arith)
  init_local s zero m k b c u v (State.past l lb) bn cm = forget t left right {b = b} {c = c} {o' = Err u} (omega arith) (err_local t left right (State.past l lb))
  init_local s (suc n) zero k b c u v (State.near h lb lc) bn cm = let o = some_right t left right h in absurd (omega arith)
  init_local s (suc n) zero k b c u v (State.past l lb) bn cm = forget t left right (omega arith) (init_by_local s (suc n) 1 n zero (omega arith) (omega arith) (init s n) (init s zero) (init_local s n zero) Mode.past b 0 u u (State.past l lb) bn (omega arith))
  init_local s (suc n) (suc m) k b c u v h bn cm = init_by_local s (suc n) (suc m) n m (omega arith) (omega arith) (init s n) (init s m) (init_local s n m) k b c u v h bn cm

  -- ---- external declarations

  abbrev typedefs_by : ℕ → ℕ → TypeNames × TypeNode × List External → Parser (List External × TypeNames)
  typedefs_by n j q = typedefs_from q.0 n j q.1 q.2

  typedefs_loop : (n m j i : ℕ) (q : TypeNames × TypeNode × List External) → Loop t left right n m (typedefs_by n) (typedefs_by m) j i q
  unfolding typedefs_from
  typedefs_loop n m = loop_local t left right n m (typedefs_by n) (typedefs_by m) (λ q k b c u v h. err_local t left right h)
      (λ j i next q k b c u v h bn cm bj ci. bind_local t left right _ _ _ _ (declaration_local t left right q.0 n m nm.Required q.1 k b c u v h bn cm) (λ d k u v g. test_local t left right (ap (is_mark p.Comma) (same_kind t left right g))
      (take_local t left right (typedefs_from (with_type q.0 d.name) n j (without_body q.1) (q.2 ++ ex.Typedef d ∷ [])) (typedefs_from (with_type q.0 d.name) m i (without_body q.1) (q.2 ++ ex.Typedef d ∷ [])) g
      (λ k u v g. next (with_type q.0 d.name, without_body q.1, q.2 ++ ex.Typedef d ∷ []) k (b - 1) (c - 1) u v g (omega arith) (omega arith) (omega arith) (omega arith))) (ok_local t left right _ _ g refl)))

  module _ (s : TypeNames) (n m : ℕ) where
    typedefs_local : Alike t left right n m (typedefs s n) (typedefs s m)
    unfolding typedefs
    typedefs_local k b c u v h bn cm = bind_local t left right _ _ _ _ (specifier_of_local t left right s n m k b c u v h bn cm) (λ ty k u v g. bind_local t left right _ _ _ _ (turns_local t left right n m (typedefs_by n) (typedefs_by m) (typedefs_loop n m) (s, ty, []) k b c u v g bn cm) (λ q k u v g. end_local t left right p.Semicolon _ _ g refl))

    module _ (storage : Option Storage) where
      object_local : (ty : TypeNode) (w' : DeclaredName) (shapes : List Shape) → Alike t left right n m (object_by s n storage ty w' shapes) (object_by s m storage ty w' shapes)
      unfolding object_by
      object_local ty w' shapes k b c u v h bn cm = test_local t left right (ap (is_mark p.Assign) (same_kind t left right h))
          (bind_local t left right _ _ _ _ (behind_local t left right (init s n) (init s m) (init_local s n m) h (omega arith) (omega arith)) (λ x k u v g. ok_local t left right _ _ g refl)) (ok_local t left right _ _ h refl)

      object_named_local : (ty : TypeNode) (name : Option DeclaredName) (shapes : List Shape) → Alike t left right n m (object_named s n storage ty name shapes) (object_named s m storage ty name shapes)
      object_named_local ty (Some w') shapes k b c u v h bn cm = object_local ty w' shapes k b c u v h bn cm
      object_named_local ty None shapes k b c u v h bn cm = err_local t left right h

      abbrev objects : ℕ → ℕ → TypeNode × List External → Parser (List External)
      objects n j q = objects_from s n storage j q.0 q.1

      objects_loop : (j i : ℕ) (q : TypeNode × List External) → Loop t left right n m (objects n) (objects m) j i q
      unfolding objects_from
      objects_loop = loop_local t left right n m (objects n) (objects m) (λ q k b c u v h. err_local t left right h)
          (λ j i next q k b c u v h bn cm bj ci. bind_local t left right _ _ _ _ (declarator_local t left right s n m nm.Required k b c u v h bn cm) (λ d k u v g. bind_local t left right _ _ _ _ (object_named_local q.0 d.name d.shapes k b c u v g bn cm) (λ x k u v g.
          test_local t left right (ap (is_mark p.Comma) (same_kind t left right g))
          (take_local t left right (objects_from s n storage j (without_body q.0) (q.1 ++ x ∷ [])) (objects_from s m storage i (without_body q.0) (q.1 ++ x ∷ [])) g (λ k u v g. next (without_body q.0, q.1 ++ x ∷ []) k (b - 1) (c - 1) u v g (omega arith) (omega arith) (omega arith) (omega arith)))
          (ok_local t left right _ _ g refl))))

      objects_behind_local : (ty : TypeNode) (w' : DeclaredName) (shapes : List Shape) → Alike t left right n m (objects_behind s n storage ty w' shapes) (objects_behind s m storage ty w' shapes)
      unfolding objects_behind
      objects_behind_local ty w' shapes k b c u v h bn cm = bind_local t left right _ _ _ _ (object_local ty w' shapes k b c u v h bn cm) (λ x k u v g. test_local t left right (ap (is_mark p.Comma) (same_kind t left right g))
          (behind_local t left right (λ ts. objects n (length ts) (without_body ty, x ∷ []) ts) (λ ts. objects m (length ts) (without_body ty, x ∷ []) ts) (turns_local t left right n m (objects n) (objects m) objects_loop (without_body ty, x ∷ [])) g (omega arith) (omega arith)) (ok_local t left right _ _ g refl))

      body_behind_local : (d : Declaration) → Alike t left right n m (body_behind s n storage d) (body_behind s m storage d)
      unfolding body_behind
      body_behind_local d k b c u v h bn cm = bind_local t left right _ _ _ _ (items_local s n m n m (omega arith) (omega arith) (stmt s n) (stmt s m) (stmt_local s n m) (sound_stmt s n) k b c u v h bn cm) (λ x k u v g. ok_local t left right _ _ g refl)

      objects_named_local : (ty : TypeNode) (w' : DeclaredName) (shapes : List Shape) → Alike t left right n m (objects_named s n storage ty w' shapes) (objects_named s m storage ty w' shapes)
      unfolding objects_named
      objects_named_local ty w' shapes k b c u v h bn cm = test_local t left right (ap (is_mark p.LeftBrace) (same_kind t left right h))
          (behind_local t left right (body_behind s n storage (declaration_of ty w' shapes)) (body_behind s m storage (declaration_of ty w' shapes)) (body_behind_local (declaration_of ty w' shapes)) h (omega arith) (omega arith))
          (bind_local t left right _ _ _ _ (objects_behind_local ty w' shapes k b c u v h bn cm) (λ x k u v g. end_local t left right p.Semicolon _ _ g refl))

      objects_by_local : (ty : TypeNode) (d : Declarator) (name : Option DeclaredName) → Alike t left right n m (objects_by s n storage ty d name) (objects_by s m storage ty d name)
      objects_by_local ty d (Some w') k b c u v h bn cm = objects_named_local ty w' d.shapes k b c u v h bn cm
      objects_by_local ty d None k b c u v h bn cm = err_local t left right h

      behind_type_local : (ty : TypeNode) → Alike t left right n m (behind_type s n storage ty) (behind_type s m storage ty)
      unfolding behind_type
      behind_type_local ty k b c u v h bn cm = test_local t left right (ap (is_mark p.Semicolon) (same_kind t left right h)) (taken_local t left right _ _ h refl)
          (bind_local t left right _ _ _ _ (declarator_local t left right s n m nm.Required k b c u v h bn cm) (λ d k u v g. objects_by_local ty d d.name k b c u v g bn cm))

      behind_storage_local : Alike t left right n m (behind_storage s n storage) (behind_storage s m storage)
      unfolding behind_storage
      behind_storage_local k b c u v h bn cm = bind_local t left right _ _ _ _ (specifier_of_local t left right s n m k b c u v h bn cm) (λ ty k u v g. bind_local t left right _ _ _ _ (behind_type_local ty k b c u v g bn cm) (λ vs k u v g. ok_local t left right _ _ g refl))

    external_at_local : (opening : StorageClass) → Alike t left right n m (external_at s n opening) (external_at s m opening)
    external_at_local op.Typedef k b c u v h bn cm = behind_local t left right (typedefs s n) (typedefs s m) typedefs_local h (omega arith) (omega arith)
    external_at_local op.Static k b c u v h bn cm = behind_local t left right (behind_storage s n (Some sg.Static)) (behind_storage s m (Some sg.Static)) (behind_storage_local (Some sg.Static)) h (omega arith) (omega arith)
    external_at_local op.Extern k b c u v h bn cm = behind_local t left right (behind_storage s n (Some sg.Extern)) (behind_storage s m (Some sg.Extern)) (behind_storage_local (Some sg.Extern)) h (omega arith) (omega arith)
    external_at_local op.Other k b c u v h bn cm = behind_storage_local None k b c u v h bn cm

    pub external_local : Alike t left right n m (external s n) (external s m)
    unfolding external
    external_local k b c u v h bn cm = rw (same_kind t left right h) (external_at_local (storage_class_of (kind_at v)) k b c u v h bn cm)
