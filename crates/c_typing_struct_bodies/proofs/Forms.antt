-- What a specifier with a body answers, from what its body answers.
use Rattle.std.proofs.Common.{◌≡◌, ℕ, List, Option, Some, Result, Ok, Err, OnOk, sym, ap, ◌∙◌}
use Rattle.c_tree.specs.declared.types.TypeNode as t
use Rattle.c_tree.specs.declared.types.Constant.{Constant}
use Rattle.c_tree.specs.declared.types.Declaration.{Declaration}
use Rattle.c_typing_struct_bodies.specs.Bodies.{TagScope, bodies}
use Rattle.c_typing_struct_bodies.specs.model.Parts.{enum_body, struct_body}
use Rattle.c_typing_struct_bodies.proofs.Rows.{bodies-Enum, bodies-Struct}

pub enum_done : {A E : Type 0} (v : t.TypeNode) (at : ℕ) (tag : Option (List ℕ)) (held : Option (List Constant)) (xs ys : List Constant) (s u : TagScope) (r : Result A E)
    → v ≡ t.Enum at tag held → held ≡ Some xs → ys ≡ xs → OnOk r (u ≡ enum_body at tag ys s) → OnOk r (u ≡ bodies v s)
enum_done v at tag held xs ys s u (Ok a) form there same given =
    given ∙ (ap (λ l. enum_body at tag l s) same ∙ (sym (bodies-Enum at tag xs s) ∙ (ap (λ h. bodies (t.Enum at tag h) s) (sym there) ∙ ap (λ w. bodies w s) (sym form))))
enum_done v at tag held xs ys s u (Err e) form there same given = tt

pub struct_done : {A E : Type 0} (v : t.TypeNode) (at : ℕ) (tag : Option (List ℕ)) (held : Option (List Declaration)) (xs ys : List Declaration) (s u : TagScope) (r : Result A E)
    → v ≡ t.Struct at tag held → held ≡ Some xs → ys ≡ xs → OnOk r (u ≡ struct_body at tag ys s) → OnOk r (u ≡ bodies v s)
struct_done v at tag held xs ys s u (Ok a) form there same given =
    given ∙ (ap (λ l. struct_body at tag l s) same ∙ (sym (bodies-Struct at tag xs s) ∙ (ap (λ h. bodies (t.Struct at tag h) s) (sym there) ∙ ap (λ w. bodies w s) (sym form))))
struct_done v at tag held xs ys s u (Err e) form there same given = tt
