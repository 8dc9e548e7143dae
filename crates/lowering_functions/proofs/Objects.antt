-- One more object, and one more parameter.
use Rattle.std.proofs.Common.{◌≡◌, ◌≤◌, ◌<◌, ℕ, zero, suc, ◌+◌, Bool, true, false, List, [], ◌∷◌, ◌++◌, length, get_or, slice_get, take, drop, refl, sym, ap, subst, ◌∙◌, arith}
use Rattle.std.proofs.lemmas.List.{take_more}
use Rattle.c_typed_tree.specs.declared.types.StructDef.{StructDef}
use Rattle.c_typed_tree.specs.declared.units.Local.{Local}
use Rattle.lowering_code.specs.declared.item.CodeItem.{CodeItem}
use Rattle.c_typed_tree.specs.declared.units.TypedFn.{TypedFn}
use Rattle.c_typed_tree.specs.View.{stmt_view}
use Rattle.lowering_code.specs.Functions.{object_for, objects_of, items_of}
use Rattle.lowering_code.specs.Functions as f
use Rattle.lowering_code.specs.Statements as c
use Rattle.lowering_statements.specs.Scopes.{stmt_code}
use Rattle.lowering_expressions.specs.declared.scope.LoweringScope.{LoweringScope}
use Rattle.lowering_functions.specs.model.Scopes.{parameters_code, number_code}

objects_end : (ds : List StructDef) (ls : List Local) (l : Local) → objects_of ds (ls ++ l ∷ []) ≡ objects_of ds ls ++ objects_of ds (l ∷ [])
objects_end ds [] l = refl
objects_end ds (k ∷ ls) l = by k.in_memory refl (objects_end ds ls l)
  where
    by : (memory : Bool) → k.in_memory ≡ memory → objects_of ds (ls ++ l ∷ []) ≡ objects_of ds ls ++ objects_of ds (l ∷ []) → objects_of ds (k ∷ (ls ++ l ∷ [])) ≡ objects_of ds (k ∷ ls) ++ objects_of ds (l ∷ [])
    by true e h = rw e (ap (λ o. object_for ds k ∷ o) h)
    by false e h = rw e h

pub objects_more : (ds : List StructDef) (ls : List Local) (i : ℕ) (l : Local) → i < length ls → l ≡ get_or ls i l
    → objects_of ds (take (i + 1) ls) ≡ objects_of ds (take i ls) ++ objects_of ds (l ∷ [])
objects_more ds ls i l lt is = ap (objects_of ds) (take_more ls i l lt ∙ ap (λ y. take i ls ++ y ∷ []) (sym is)) ∙ objects_end ds (take i ls) l

-- the parameters from one on
pub parameters_at : (s : LoweringScope) (k j params : ℕ) (ls : List Local) (rest : List CodeItem) → k < params → params ≤ length ls
    → parameters_code s (j + k) (drop k (take params ls)) rest ≡ number_code s (j + k) (slice_get ls k) (parameters_code s (suc (j + k)) (drop (suc k) (take params ls)) rest)
parameters_at s k j zero ls rest lt le = absurd (omega (arith, lt))
parameters_at s k j (suc params) [] rest lt le = absurd (omega (arith, le))
parameters_at s zero j (suc params) (l ∷ ls) rest lt le = refl
parameters_at s (suc k) j (suc params) (l ∷ ls) rest lt le =
    let e : suc j + k ≡ j + suc k = omega arith in
    ap (λ n. parameters_code s n (drop k (take params ls)) rest) (sym e) ∙ parameters_at s k (suc j) params ls rest (omega (arith, lt)) (omega (arith, le))
    ∙ ap (λ n. number_code s n (slice_get ls k) (parameters_code s (suc n) (drop (suc k) (take params ls)) rest)) e

pub parameter_more : (s : LoweringScope) (k next params : ℕ) (ls : List Local) (rest : List CodeItem) → next ≡ k + 1 → k < params → params ≤ length ls
    → number_code s k (slice_get ls k) (parameters_code s next (drop next (take params ls)) rest) ≡ parameters_code s k (drop k (take params ls)) rest
parameter_more s k next params ls rest is lt le =
    let e : next ≡ suc k = omega (arith, is) in
    let z : 0 + k ≡ k = omega arith in
    ap (λ n. number_code s k (slice_get ls k) (parameters_code s n (drop n (take params ls)) rest)) e
    ∙ subst (λ n. number_code s n (slice_get ls k) (parameters_code s (suc n) (drop (suc k) (take params ls)) rest) ≡ parameters_code s n (drop k (take params ls)) rest) z (sym (parameters_at s k 0 params ls rest lt le))

-- the code of a function, by its scope
pub items_same : (s : LoweringScope) (ds : List StructDef) (ls : List Local) (g : TypedFn) (is : List CodeItem) → s.structs.now ≡ ds → s.locals.now ≡ ls → ls ≡ g.locals → s.registers.locals ≡ length ls
    → is ≡ parameters_code s 0 (take g.params s.locals.now) (stmt_code s 0 0 (stmt_view g.body) []) → is ≡ items_of ds g
items_same s ds ls g is structs locals same registers code =
    let n : s.registers.locals ≡ length g.locals = registers ∙ ap (λ x. length x) same in
    let l : s.locals.now ≡ g.locals = locals ∙ same in
    code
    ∙ ap (λ m. f.parameters_code m s.structs.now s.locals.now 0 (take g.params s.locals.now) (c.stmt_code m s.structs.now s.locals.now 0 0 (stmt_view g.body) [])) n
    ∙ ap (λ d. f.parameters_code (length g.locals) d s.locals.now 0 (take g.params s.locals.now) (c.stmt_code (length g.locals) d s.locals.now 0 0 (stmt_view g.body) [])) structs
    ∙ ap (λ x. f.parameters_code (length g.locals) ds x 0 (take g.params x) (c.stmt_code (length g.locals) ds x 0 0 (stmt_view g.body) [])) l
