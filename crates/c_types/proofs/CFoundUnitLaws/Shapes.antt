-- A declarator of a function gives a type with as many parameters as it has.
use Rattle.std.proofs.Common.{◌≡◌, ◌+◌, ℕ, suc, Bool, true, false, IsTrue, List, [], ◌∷◌, ◌++◌, length, arith, Option, Some, None, IfSome, refl, ap, ◌∙◌, subst, if◌then◌else◌}
use Rattle.c_tree.specs.declared.types.Parameter.{Parameter}
use Rattle.c_tree.specs.declared.types.TypeNode as t
use Rattle.c_tree.specs.declared.expressions.Expr.TheBlock as k
use Rattle.c_typed_tree.specs.declared.types.CType.{CType}
use Rattle.c_typed_tree.specs.Typing.{is_void, is_scalar}
use Rattle.c_typed_tree.specs.View.{type_view}
use Rattle.c_typing_rules.specs.declared.c_typing_declared_types.declared.DeclaredType.{DeclaredType}
use Rattle.c_typing_rules.specs.declared.c_typing_declared_types.declared.DeclaredType.TheVariants as d
use Rattle.c_typing_rules.specs.c_typing_declared_types.Declarators.{function_with, function_of}
use Rattle.c_typing_state.specs.declared.notes.Notes.{Notes}
use Rattle.c_typing_state.specs.Checks.{both_parts, append_part}
use Rattle.c_typing_state.specs.Scopes.{enter, leave}
use Rattle.c_typing_judgements.specs.Leaves.{leaf}
use Rattle.c_typing_judgements.specs.Types.{JudgementState, required_type, function, parameter_declared}
use Rattle.c_typing_expressions.specs.Expressions.{derive, judge_parameter_row}
use Rattle.c_typing_struct_bodies.specs.Bodies.{TagScope, bodies, declared_type}
use Rattle.c_typing_statements.specs.declared.c_typing_function_bodies.functions.FunctionType.{FunctionType}
use Rattle.c_typing_function_sound.specs.c_found_statement_laws.Laws.{are_as_many}
use Rattle.c_types.specs.c_found_unit_laws.Steps.{declared_as}

as_many : {A B : Type 0} (xs : List A) (ys : List B) → length ys ≡ length xs → IsTrue (are_as_many xs ys)
as_many [] [] e = refl
as_many [] (y ∷ ys) e = absurd (no_more (length ys) e)
  where
    no_more : (n : ℕ) → suc n ≡ 0 → ⊥
    no_more n e = omega arith
as_many (x ∷ xs) [] e = absurd (no_fewer (length xs) e)
  where
    no_fewer : (n : ℕ) → 0 ≡ suc n → ⊥
    no_fewer n e = omega arith
as_many (x ∷ xs) (y ∷ ys) e = as_many xs ys (less (length ys) (length xs) e)
  where
    less : (n m : ℕ) → suc n ≡ suc m → n ≡ m
    less n m e = omega arith

-- a list is so long, if there is one
abbrev IsLong : {A : Type 0} → ℕ → Option (List A) → Type 0
IsLong n o = IfSome o (λ xs. length xs ≡ n)

one_longer : {A : Type 0} (xs : List A) (x : A) → length (xs ++ x ∷ []) ≡ suc (length xs)
one_longer [] x = refl
one_longer (y ∷ ys) x = ap suc (one_longer ys x)

append_long : {A : Type 0} (n : ℕ) (found : Option (List A)) (x : Option A) → IsLong n found → IsLong (suc n) (append_part found x)
append_long n None x h = tt
append_long n (Some xs) None h = tt
append_long n (Some xs) (Some x) h = one_longer xs x ∙ ap suc h

none_more : (n : ℕ) → n ≡ 0 + n
none_more n = omega arith

one_over : (b n : ℕ) → b + suc n ≡ suc b + n
one_over b n = omega arith

row_long : {m : _} (xs : k.Row_of-Parameter m) (n : ℕ) (found : Option (List CType)) (s : JudgementState) → IsLong n found → IsLong (length (k.items-the_row-Parameter m xs) + n) (judge_parameter_row xs found s).0
unfolding derive
row_long k.end_of-Parameter n found s h = subst (λ l. IsLong l found) (none_more n) h
row_long (k.more_of-Parameter at name ty rest) n found s h =
    let l = leaf s.0 at ty s.1 in let r = derive at ty l.0 (s.0, l.1) in let named = parameter_declared at name r.0 r.1 in
    subst (λ c. IsLong c (judge_parameter_row rest (append_part found named.0) named.1).0) (one_over (length (k.items-the_row-Parameter _ rest)) n) (row_long rest (suc n) (append_part found named.0) named.1 (append_long n found named.0 h))

-- a type of a function has so many parameters
abbrev HasMany : ℕ → DeclaredType → Type 0
HasMany n (d.Value ty) = Unit {0}
HasMany n (d.Unsized ty) = Unit {0}
HasMany n (d.Function of tys) = length tys ≡ n

with_many : (n : ℕ) (ty : CType) (tys : List CType) → length tys ≡ n → IfSome (function_with ty tys) (HasMany n)
with_many n ty tys h = choose (is_void (type_view ty)) (is_scalar (type_view ty))
  where
    choose : (b c : Bool) → IfSome (if b then Some (d.Function ty tys) else if c then Some (d.Function ty tys) else None) (HasMany n)
    choose true c = h
    choose false true = h
    choose false false = tt

of_many : (n : ℕ) (x : DeclaredType) (tys : List CType) → length tys ≡ n → IfSome (function_of x tys) (HasMany n)
of_many n (d.Value ty) tys h = with_many n ty tys h
of_many n (d.Unsized ty) tys h = tt
of_many n (d.Function of more) tys h = tt

there_many : (n at : ℕ) (o : Option DeclaredType) (notes : Notes) → IfSome o (HasMany n) → IfSome (required_type at o notes).0 (HasMany n)
there_many n at None notes h = tt
there_many n at (Some x) notes h = h

both_many : (n at : ℕ) (tys : Option (List CType)) (x : Option DeclaredType) (notes : Notes) → IsLong n tys → IfSome (both_parts tys x (function at) notes).0 (HasMany n)
both_many n at None x notes h = tt
both_many n at (Some tys) None notes h = tt
both_many n at (Some tys) (Some x) notes h = there_many n at (function_of x tys) notes (of_many n x tys h)

-- the parameters of a declarator of a function are those of its row
derive_fits : (at : ℕ) {m : _} (x : t.TypeNode) (list : k.Row_of-Parameter m) (of : Option DeclaredType) (s : JudgementState) →
    (let row = judge_parameter_row list (Some []) (enter s.0, s.1) in let r = derive at x of (leave s.0.outside row.1.0, row.1.1) in
    IfSome (both_parts row.0 r.0 (function at) r.1.1).0 (HasMany (length (k.items-the_row-Parameter m list))))
derive_fits at {m} x list of s =
    let row = judge_parameter_row list (Some []) (enter s.0, s.1) in let r = derive at x of (leave s.0.outside row.1.0, row.1.1) in
    both_many (length (k.items-the_row-Parameter m list)) at row.0 r.0 r.1.1 (plain row.0 (row_long list 0 (Some []) (enter s.0, s.1) refl))
  where
    plain : (o : Option (List CType)) → IsLong (length (k.items-the_row-Parameter m list) + 0) o → IsLong (length (k.items-the_row-Parameter m list)) o
    plain None h = tt
    plain (Some tys) h = no_more (length tys) (length (k.items-the_row-Parameter m list)) h
      where
        no_more : (a b : ℕ) → a ≡ b + 0 → a ≡ b
        no_more a b e = omega arith

-- a declarator of a function has as many parameters as a type
unfoldable pub declares_type : t.TypeNode → FunctionType → Bool
declares_type (t.Basic words) of = true
declares_type (t.Named name) of = true
declares_type (t.Enum' at tag constants) of = true
declares_type (t.Struct' at tag members) of = true
declares_type (t.Pointer' _ target) of = true
declares_type (t.Array' _ element size) of = true
declares_type (t.Takes' _ result _ list) of = are_as_many (k.items-the_row-Parameter _ list) of.parameters

many_types : (ps : List Parameter) (o : Option DeclaredType) (of : FunctionType) → IfSome o (HasMany (length ps)) → o ≡ Some (declared_as of) → IsTrue (are_as_many ps of.parameters)
many_types ps o of h e = as_many ps of.parameters (subst (λ (o : Option DeclaredType). IfSome o (HasMany (length ps))) e h)

pub derived_type : (at : ℕ) (node : t.TypeNode) (x : Option DeclaredType) (s : JudgementState) (of : FunctionType) → (derive at node x s).0 ≡ Some (declared_as of) → IsTrue (declares_type node of)
unfolding derive declares_type
derived_type at (t.Basic words) x s of e = refl
derived_type at (t.Named name) x s of e = refl
derived_type at (t.Enum' place tag constants) x s of e = refl
derived_type at (t.Struct' place tag members) x s of e = refl
derived_type at (t.Pointer' _ target) x s of e = refl
derived_type at (t.Array' _ element size) x s of e = refl
derived_type at (t.Takes' _ (k.more_of-TypeNode y k.end_of-TypeNode) _ list) x s of e = many_types (k.items-the_row-Parameter _ list) _ of (derive_fits at y list x s) e

pub declared_fits : (at : ℕ) (node : t.TypeNode) (s : TagScope) (of : FunctionType) → (declared_type at node s).0 ≡ Some (declared_as of) → IsTrue (declares_type node of)
declared_fits at node s of e = let u = bodies node s in let l = leaf u.1.0 at node u.1.1 in derived_type at node l.0 (u.1.0, l.1) of e
