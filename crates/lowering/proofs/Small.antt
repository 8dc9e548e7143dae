-- The unit whose only function is an empty `main` is lawful.
use Rattle.std.proofs.Common.{◌≡◌, ◌≤◌, ℕ, ◌+◌, ◌==◌, nat_le, nat_lt, Bool, true, false, ◌&&◌, [], ◌∷◌, length, map, filter, take, cond, refl, sym, ap, ◌∙◌, subst, arith, ltb-true}
use Rattle.std.specs.Prelude.{All, sum_by, codes, bytes_eq}
use Rattle.std.specs.List.{list_all}
use Rattle.std.proofs.lemmas.List.Elements.{All-nil, All-cons}
use Rattle.mem_objects.specs.Globals.{AreLawful, IsLawfulObject}
use Rattle.c_typed_tree.specs.declared.units.TypedFn.{TypedFn}
use Rattle.c_typed_tree.specs.declared.units.TypedUnit.{TypedUnit}
use Rattle.c_typed_tree.specs.Types.{Int}
use Rattle.c_typed_tree.specs.Statements.{Block, no_stmts}
use Rattle.c_typed_tree.specs.View.{type_view, stmt_view}
use Rattle.c_typed_tree.specs.Counts.{function_nodes, stmt_nodes}
use Rattle.c_typed_tree.specs.Declarations.{declarations, due_declarations}
use Rattle.c_typed_tree.specs.Typing.{is_scalar, is_same_type, int}
use Rattle.c_typed_tree.specs.TypingStatements.{no_jumps, is_typed_stmt}
use Rattle.c_typed_tree.specs.Weight.{stmt_weight, function_weight, unit_weight}
use Rattle.c_typing_weight.specs.Limits.{most_weight}
use Rattle.c_typed_tree.specs.Lawful.{IsLawfulUnit, IsTypedFn, IsLawfulStruct, is_identifier, is_result, type_of_local, is_lawful_local, is_block, context_of, is_main, is_start}

-- what the function is
pub record IsEmptyMain (f : TypedFn) : Type 0 where
  pub name : f.name ≡ codes "main"
  pub result : type_view f.result ≡ Int 4 true
  pub params : f.params ≡ 0
  pub locals : f.locals ≡ []
  pub body : stmt_view f.body ≡ Block no_stmts

never_below : (n : ℕ) → nat_lt n 0 ≡ false
never_below n = by (nat_lt n 0) refl
  where
    by : (b : Bool) → nat_lt n 0 ≡ b → b ≡ false
    by false e = refl
    by true e = absurd (omega (arith, ltb-true n 0 e))

none_due : (params n : ℕ) → due_declarations params 0 n ≡ 0
none_due params n = ap (λ b. cond (nat_le params n && b) 1 0) (never_below n) ∙ by (nat_le params n)
  where
    by : (b : Bool) → ◌≡◌ {A = ℕ} (cond (b && false) 1 0) 0
    by true = refl
    by false = refl

module _ (u : TypedUnit) (f : TypedFn) (structs : u.structs ≡ []) (globals : u.globals ≡ []) (functions : u.functions ≡ f ∷ []) (m : IsEmptyMain f) where
  main_typed : IsTypedFn u f
  main_typed = record {
    name = ap (λ n. is_identifier n) m.name;
    result = ap (λ t. is_result u.structs t) m.result;
    params = omega (arith, m.params);
    scalars = ap (λ n. list_all is_scalar (map type_of_local (take n f.locals))) m.params;
    count = omega (arith, ap (λ l. length l) m.locals);
    locals = ap (λ l. list_all (is_lawful_local u.structs) l) m.locals;
    block = ap is_block m.body;
    body = ap (λ s. is_typed_stmt (context_of u f) (type_view f.result) no_jumps s) m.body;
    declares = λ n. ap (λ s. declarations n s) m.body ∙ sym (ap (λ l. due_declarations f.params (length l) n) m.locals ∙ none_due f.params n);
  }

  main_is : is_main f ≡ true
  main_is = ap (λ n. bytes_eq n (codes "main")) m.name

  mains_are : filter is_main u.functions ≡ f ∷ []
  mains_are = ap (λ fs. filter is_main fs) functions ∙ ap (λ b. cond b (f ∷ []) []) main_is

  start_is : is_start f ≡ true
  start_is = ap (λ t. is_same_type t int && (f.params == 0)) m.result ∙ ap (λ n. n == 0) m.params

  no_globals : AreLawful []
  no_globals = record { count = omega arith; layout = tt; objects = All-nil (IsLawfulObject []) }

  nodes_are : function_nodes f ≡ 1
  nodes_are = ap (λ l. length l + stmt_nodes (stmt_view f.body)) m.locals ∙ ap (λ s. 0 + stmt_nodes s) m.body

  pub main_lawful : IsLawfulUnit u
  main_lawful = record {
    typed = record {
      structs = subst (λ ds. All (IsLawfulStruct u.structs) ds) (sym structs) (All-nil (IsLawfulStruct u.structs));
      globals = subst AreLawful (sym globals) no_globals;
      functions = subst (λ fs. All (IsTypedFn u) fs) (sym functions) (All-cons (IsTypedFn u) f [] main_typed (All-nil (IsTypedFn u)));
      main = record {
        one = ap (λ fs. length fs) mains_are;
        type = ap (λ fs. list_all is_start fs) mains_are ∙ ap (λ b. b && true) start_is;
      };
    };
    structs = omega (arith, ap (λ ds. length ds) structs);
    functions = omega (arith, ap (λ fs. length fs) functions);
    nodes = omega (arith, ap (λ fs. sum_by function_nodes fs) functions, nodes_are);
  }

  weight_is : function_weight u.structs f ≡ 1
  unfolding stmt_weight
  weight_is = ap (λ n. n + stmt_weight u.structs (stmt_view f.body)) m.params ∙ ap (λ s. 0 + stmt_weight u.structs s) m.body

  pub main_weight : unit_weight u ≤ most_weight
  main_weight = omega (arith, ap (λ fs. sum_by (λ (g : TypedFn). 1 + function_weight u.structs g) fs) functions, weight_is)
