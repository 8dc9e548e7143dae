-- The head of the sorted list is before none of the faults.
use Rattle.std.proofs.Common.{◌≡◌, ℕ, ◌+◌, ◌*◌, ◌<◌, ◌≤◌, Bool, true, false, cond, List, [], ◌∷◌, Option, Some, None, refl, ap, subst, arith}
use Rattle.std.specs.Prelude.{All}
use Rattle.std.proofs.lemmas.Bool.Decides.{nat_tests}
use Rattle.std.proofs.lemmas.List.Elements.{All-cons}
use Rattle.c_typing_faults.specs.declared.faults.Kind.{Kind}
use Rattle.c_typing_faults.specs.declared.faults.Kind.TheVariants as k
use Rattle.c_typing_faults.specs.declared.faults.Fault.{Fault}
use Rattle.c_typing_faults.specs.Faults.{kind_number, is_before, insert_fault, sorted_onto, sort_faults, head}
use Rattle.c_typing_faults.specs.model.Earlier.{earlier}
use Rattle.c_typing_faults.proofs.Sorted.{head-inserted}

-- a number by which faults are in order
worth : Fault → ℕ
worth f = f.at * 18 + kind_number f.kind

few : (kind : Kind) → kind_number kind < 18
few k.MissingMain = omega arith
few k.UnknownName = omega arith
few k.Redeclared = omega arith
few k.NotDefined = omega arith
few k.BadType = omega arith
few k.NotConstant = omega arith
few k.BadOperand = omega arith
few k.NotAssignable = omega arith
few k.BadConversion = omega arith
few k.NotFunction = omega arith
few k.BadCall = omega arith
few k.NoMember = omega arith
few k.BadLabel = omega arith
few k.BadJump = omega arith
few k.BadReturn = omega arith
few k.BadLiteral = omega arith
few k.BadInit = omega arith

before : (f g : Fault) → is_before f g ≡ true → worth f < worth g
unfolding is_before worth
before f g e =
    let a = few f.kind in
    let b = few g.kind in
    grind (arith, nat_tests)

not_before : (f g : Fault) → is_before f g ≡ false → worth g ≤ worth f
unfolding is_before worth
not_before f g e =
    let a = few f.kind in
    let b = few g.kind in
    grind (arith, nat_tests)

no_less : (f g : Fault) → worth f ≤ worth g → is_before g f ≡ false
no_less f g h = by (is_before g f) refl
  where
    by : (b : Bool) → is_before g f ≡ b → b ≡ false
    by false e = refl
    by true e = let less = before g f e in absurd (omega arith)

-- the earlier of two is worth no more than either
record IsLower (f g : Fault) (o : Option Fault) : Type 0 where
  pub first : worth f ≤ worth g
  pub other : (d : Fault) → o ≡ Some d → worth f ≤ worth d

lower : (g : Fault) (o : Option Fault) → IsLower (earlier g o) g o
lower g None = record { first = omega arith; other = λ d e. let clash : ⊥ = cc in absurd clash }
lower g (Some h) = by (is_before g h) refl
  where
    by : (b : Bool) → is_before g h ≡ b → IsLower (cond b g h) g (Some h)
    by true e =
        let less = before g h e in
        record {
          first = omega arith;
          other = λ d same. let is : h ≡ d = cc in subst (λ x. worth g ≤ worth x) is (omega arith);
        }
    by false e =
        let less = not_before g h e in
        record {
          first = less;
          other = λ d same. let is : h ≡ d = cc in subst (λ x. worth h ≤ worth x) is (omega arith);
        }

record IsLeast (f : Fault) (done fs : List Fault) : Type 0 where
  pub all : All (λ g. is_before g f ≡ false) fs
  pub before : (d : Fault) → head done ≡ Some d → worth f ≤ worth d

least_onto : (done fs : List Fault) (f : Fault) → head (sorted_onto done fs) ≡ Some f → IsLeast f done fs
least_onto done [] f e = record {
  all = λ k d h. absurd (omega arith);
  before = λ d same. let is : f ≡ d = cc in subst (λ x. worth f ≤ worth x) is (omega arith);
}
least_onto done (g ∷ gs) f e =
    let rest = least_onto (insert_fault g done) gs f e in
    let low = lower g (head done) in
    let first : worth f ≤ worth (earlier g (head done)) = rest.before (earlier g (head done)) (head-inserted g done) in
    record {
      all = All-cons (λ g. is_before g f ≡ false) g gs (no_less f g (omega (arith, first, low.first))) rest.all;
      before = λ d same. omega (arith, first, low.other d same);
    }

pub least : (fs : List Fault) (f : Fault) → head (sort_faults fs) ≡ Some f → All (λ g. is_before g f ≡ false) fs
least fs f e = (least_onto [] fs f e).all

-- some faults have a first one
not_empty : (f : Fault) (gs : List Fault) → insert_fault f gs ≡ [] → ⊥
not_empty f gs e = let h = ap head e in let g = head-inserted f gs in cc

onto_empty : (done fs : List Fault) → sorted_onto done fs ≡ [] → done ≡ []
onto_empty done [] e = e
onto_empty done (f ∷ fs) e = absurd (not_empty f done (onto_empty (insert_fault f done) fs e))

no_head : (fs : List Fault) → head fs ≡ None → fs ≡ []
no_head [] e = refl
no_head (f ∷ fs) e = let clash : ⊥ = cc in absurd clash

pub some : (fs : List Fault) → head (sort_faults fs) ≡ None → fs ≡ []
some [] e = refl
some (f ∷ fs) e = absurd (not_empty f [] (onto_empty (insert_fault f []) fs (no_head (sort_faults (f ∷ fs)) e)))
