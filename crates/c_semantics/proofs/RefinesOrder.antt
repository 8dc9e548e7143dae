-- Everything refines itself, and a refinement of a refinement of something refines it.
use Rattle.std.proofs.Common.{refl, ◌∙◌, arith}
use Rattle.c_typed_tree.specs.Expressions.{Expr}
use Rattle.c_typed_tree.specs.Statements.{Stmt}
use Rattle.c_semantics.specs.Runs.{Run}
use Rattle.c_semantics.specs.Refines.{RunRefines, ExprRefines, StmtRefines}
use Rattle.c_semantics.proofs.Below.{below_same, gives_on}

run_itself : {A : Type 0} (c : Run A) → RunRefines c c
run_itself c = record { by = λ s. below_same (c s) }

run_on : {A : Type 0} {c d e : Run A} → RunRefines c d → RunRefines d e → RunRefines c e
run_on {c = c} {d = d} {e = e} h g = record { by = λ s. gives_on (c s) (d s) (e s) (h.by s) (g.by s) }

pub expr_itself : (x : Expr) → ExprRefines x x
expr_itself x c p = record {
  typed = p;
  types = refl;
  named = λ a h. h;
  weight = omega arith;
  places = λ h. h;
  memory = λ h. h;
  constants = λ n e. e;
  built = λ h. h;
  value = λ f i scope. run_itself _;
  stands = λ f i scope. run_itself _;
}

pub expr_on : (x y z : Expr) → ExprRefines x y → ExprRefines y z → ExprRefines x z
expr_on x y z h g c p =
    let k = g c p in
    let l = h c k.typed in
    record {
      typed = l.typed;
      types = l.types ∙ k.types;
      named = λ a m. k.named a (l.named a m);
      weight = omega (arith, l.weight, k.weight);
      places = λ m. l.places (k.places m);
      memory = λ m. l.memory (k.memory m);
      constants = λ n e. l.constants n (k.constants n e);
      built = λ m. l.built (k.built m);
      value = λ f i scope. run_on (l.value f i scope) (k.value f i scope);
      stands = λ f i scope. run_on (l.stands f i scope) (k.stands f i scope);
    }

pub stmt_itself : (s : Stmt) → StmtRefines s s
stmt_itself s unit n j p = record {
  typed = p;
  declares = refl;
  declarations = λ number. omega arith;
  named = λ a h. h;
  weight = omega arith;
  does = λ rooms m scope. run_itself _;
}

pub stmt_on : (s t u : Stmt) → StmtRefines s t → StmtRefines t u → StmtRefines s u
stmt_on s t u h g unit n j p =
    let k = g unit n j p in
    let l = h unit n j k.typed in
    record {
      typed = l.typed;
      declares = l.declares ∙ k.declares;
      declarations = λ number. omega (arith, l.declarations number, k.declarations number);
      named = λ a m. k.named a (l.named a m);
      weight = omega (arith, l.weight, k.weight);
      does = λ rooms m scope. run_on (l.does rooms m scope) (k.does rooms m scope);
    }
