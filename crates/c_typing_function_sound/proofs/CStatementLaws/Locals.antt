-- Lists of locals that grow, and those whose address was taken.
use Rattle.std.proofs.Common.{◌≡◌, ℕ, zero, suc, Bool, true, ◌||◌, IsTrue, List, [], ◌∷◌, ◌++◌, length, map, slice_get, slice_set, Option, Some, None, refl, sym, ap, ◌∙◌, subst, append_assoc}
use Rattle.std.proofs.lemmas.Option.{none-some, same_Some}
use Rattle.std.specs.List.{list_all}
use Rattle.c_typed_tree.specs.declared.types.StructDef.{StructDef}
use Rattle.c_typed_tree.specs.declared.units.Local.{Local}
use Rattle.c_typed_tree.specs.View.{type_view}
use Rattle.c_typed_tree.specs.Typing.{Context, is_scalar, has_local_type}
use Rattle.c_typed_tree.specs.Lawful.{type_of_local, is_object_type, is_lawful_local}
use Rattle.c_typing_statement_parts.specs.c_typing_local_rules.Locals.{memory_local_at, put_in_memory, with_addressed}
use Rattle.c_typing_expression_sound.specs.c_type_laws.Typed.{may_be_memory}
use Rattle.c_typing_expression_sound.proofs.CTypeLaws.Truth.{front, back, also, either_right}
use Rattle.c_typing_expression_sound.proofs.CTypeLaws.Types.{alike}
use Rattle.c_typing_expression_sound.specs.c_judgement_laws.Covers.{AreInMemory}

-- ---- more locals

pub record Grows (ls later : List Local) : Type 0 where
  pub more : List Local
  pub same : later ≡ ls ++ more

append_none : (ls : List Local) → ls ≡ ls ++ []
append_none [] = refl
append_none (l ∷ ls) = ap (λ xs. l ∷ xs) (append_none ls)

pub grows_itself : (ls : List Local) → Grows ls ls
grows_itself ls = record { more = []; same = append_none ls }

pub grows_then : (a b d : List Local) → Grows a b → Grows b d → Grows a d
grows_then a b d h g = record {
  more = h.more ++ g.more;
  same = g.same ∙ (ap (λ xs. xs ++ g.more) h.same ∙ append_assoc a h.more g.more);
}

get_front : (ls more : List Local) (k : ℕ) (l : Local) → slice_get ls k ≡ Some l → slice_get (ls ++ more) k ≡ Some l
get_front [] more k l e = absurd (none-some l e)
get_front (x ∷ ls) more zero l e = e
get_front (x ∷ ls) more (suc k) l e = get_front ls more k l e

pub get_last : (ls : List Local) (l : Local) → slice_get (ls ++ l ∷ []) (length ls) ≡ Some l
get_last [] l = refl
get_last (x ∷ ls) l = get_last ls l

-- ---- the locals of a context

-- each of these locals is one of the context's, of the same type
pub record HasLocals (c : Context) (ls : List Local) : Type 0 where
  pub at : (k : ℕ) (l : Local) → slice_get ls k ≡ Some l → IsTrue (has_local_type (slice_get c.locals k) (type_view l.ty))

pub has_fewer : (c : Context) (ls later : List Local) → Grows ls later → HasLocals c later → HasLocals c ls
has_fewer c ls later g h = record { at = λ k l e. h.at k l (ap (λ xs. slice_get xs k) g.same ∙ get_front ls g.more k l e) }

-- ---- what holds of each

pub all_front : {A : Type 0} (p : A → Bool) (xs ys : List A) → IsTrue (list_all p xs) → IsTrue (list_all p ys) → IsTrue (list_all p (xs ++ ys))
all_front p [] ys h g = g
all_front p (x ∷ xs) ys h g = also (p x) (list_all p (xs ++ ys)) (front (p x) (list_all p xs) h) (all_front p xs ys (back (p x) (list_all p xs) h) g)

pub one_more : {A : Type 0} (p : A → Bool) (xs : List A) (x : A) → IsTrue (list_all p xs) → IsTrue (p x) → IsTrue (list_all p (xs ++ x ∷ []))
one_more p xs x h g = all_front p xs (x ∷ []) h (also (p x) true g refl)

-- ---- locals whose address was taken

abbrev in_memory_too : Local → Local
in_memory_too l = record { ty = l.ty; in_memory = true }

-- a local is set to one of its own type
set_types : (ls : List Local) (k : ℕ) (l : Local) → slice_get ls k ≡ Some l → map type_of_local (slice_set ls k (in_memory_too l)) ≡ map type_of_local ls
set_types [] k l e = refl
set_types (x ∷ ls) zero l e = ap (λ (y : Local). type_view y.ty ∷ map type_of_local ls) (sym (same_Some x l e))
set_types (x ∷ ls) (suc k) l e = ap (λ ts. type_of_local x ∷ ts) (set_types ls k l e)

memory_types : (n : ℕ) (o : Option Local) (ls : List Local) → slice_get ls n ≡ o → map type_of_local (memory_local_at n o ls) ≡ map type_of_local ls
memory_types n None ls e = refl
memory_types n (Some l) ls e = set_types ls n l e

pub addressed_types : (ns : List ℕ) (ls : List Local) → map type_of_local (with_addressed ns ls) ≡ map type_of_local ls
addressed_types [] ls = refl
addressed_types (n ∷ ns) ls = addressed_types ns (put_in_memory n ls) ∙ memory_types n (slice_get ls n) ls refl

-- types tell where a local is
typed_at : (ls later : List Local) (k : ℕ) (l : Local) → map type_of_local later ≡ map type_of_local ls → slice_get ls k ≡ Some l → IsTrue (has_local_type (slice_get later k) (type_view l.ty))
typed_at [] later k l e f = absurd (none-some l f)
typed_at (x ∷ ls) [] k l e f = absurd (nothing e)
  where
    nothing : [] ≡ type_of_local x ∷ map type_of_local ls → ⊥
    nothing g = cc
typed_at (x ∷ ls) (y ∷ later) zero l e f = subst (λ t. IsTrue (has_local_type (Some y) t)) (heads e ∙ ap (λ (z : Local). type_view z.ty) (same_Some x l f)) (alike (type_view y.ty))
  where
    heads : type_of_local y ∷ map type_of_local later ≡ type_of_local x ∷ map type_of_local ls → type_of_local y ≡ type_of_local x
    heads g = cc
typed_at (x ∷ ls) (y ∷ later) (suc k) l e f = typed_at ls later k l (tails e) f
  where
    tails : type_of_local y ∷ map type_of_local later ≡ type_of_local x ∷ map type_of_local ls → map type_of_local later ≡ map type_of_local ls
    tails g = cc

-- a context whose locals are these
pub addressed_has : (c : Context) (ns : List ℕ) (ls : List Local) → c.locals ≡ with_addressed ns ls → HasLocals c ls
addressed_has c ns ls e = record { at = λ k l f. typed_at ls c.locals k l (ap (map type_of_local) e ∙ addressed_types ns ls) f }

-- ---- they are in memory

abbrev IsKept : Option Local → Option Local → Type 0
IsKept before later = IsTrue (may_be_memory before) → IsTrue (may_be_memory later)

set_keeps : (ls : List Local) (k j : ℕ) (l : Local) → IsKept (slice_get ls j) (slice_get (slice_set ls k (in_memory_too l)) j)
set_keeps [] k j l h = h
set_keeps (x ∷ ls) zero zero l h = refl
set_keeps (x ∷ ls) zero (suc j) l h = h
set_keeps (x ∷ ls) (suc k) zero l h = h
set_keeps (x ∷ ls) (suc k) (suc j) l h = set_keeps ls k j l h

memory_keeps : (n : ℕ) (o : Option Local) (ls : List Local) (j : ℕ) → IsKept (slice_get ls j) (slice_get (memory_local_at n o ls) j)
memory_keeps n None ls j h = h
memory_keeps n (Some l) ls j h = set_keeps ls n j l h

addressed_keeps : (ns : List ℕ) (ls : List Local) (j : ℕ) → IsKept (slice_get ls j) (slice_get (with_addressed ns ls) j)
addressed_keeps [] ls j h = h
addressed_keeps (n ∷ ns) ls j h = addressed_keeps ns (put_in_memory n ls) j (memory_keeps n (slice_get ls n) ls j h)

set_there : (ls : List Local) (k : ℕ) (l : Local) → IsTrue (may_be_memory (slice_get (slice_set ls k (in_memory_too l)) k))
set_there [] k l = refl
set_there (x ∷ ls) zero l = refl
set_there (x ∷ ls) (suc k) l = set_there ls k l

memory_there : (n : ℕ) (o : Option Local) (ls : List Local) → slice_get ls n ≡ o → IsTrue (may_be_memory (slice_get (memory_local_at n o ls) n))
memory_there n None ls e = ap may_be_memory e
memory_there n (Some l) ls e = set_there ls n l

pub addressed_in_memory : (c : Context) (ns : List ℕ) (ls : List Local) → c.locals ≡ with_addressed ns ls → AreInMemory c ns
addressed_in_memory c ns ls e = each ns ls e
  where
    each : (ns : List ℕ) (ls : List Local) → c.locals ≡ with_addressed ns ls → AreInMemory c ns
    each [] ls e = tt
    each (n ∷ ns) ls e = (
      ap (λ xs. may_be_memory (slice_get xs n)) e ∙ addressed_keeps ns (put_in_memory n ls) n (memory_there n (slice_get ls n) ls refl),
      each ns (put_in_memory n ls) e,
    )

-- ---- and lawful

set_lawful : (ds : List StructDef) (ls : List Local) (k : ℕ) (l : Local) → slice_get ls k ≡ Some l → IsTrue (list_all (is_lawful_local ds) ls) → IsTrue (list_all (is_lawful_local ds) (slice_set ls k (in_memory_too l)))
set_lawful ds [] k l e h = h
set_lawful ds (x ∷ ls) zero l e h =
    also (is_lawful_local ds (in_memory_too l)) (list_all (is_lawful_local ds) ls)
    (also (is_object_type ds (type_of_local l)) (is_scalar (type_of_local l) || true)
    (subst (λ (y : Local). IsTrue (is_object_type ds (type_view y.ty))) (same_Some x l e)
    (front (is_object_type ds (type_of_local x)) (is_scalar (type_of_local x) || x.in_memory) (front (is_lawful_local ds x) (list_all (is_lawful_local ds) ls) h)))
    (either_right (is_scalar (type_of_local l)) true refl))
    (back (is_lawful_local ds x) (list_all (is_lawful_local ds) ls) h)
set_lawful ds (x ∷ ls) (suc k) l e h =
    also (is_lawful_local ds x) (list_all (is_lawful_local ds) (slice_set ls k (in_memory_too l))) (front (is_lawful_local ds x) (list_all (is_lawful_local ds) ls) h)
    (set_lawful ds ls k l e (back (is_lawful_local ds x) (list_all (is_lawful_local ds) ls) h))

memory_lawful : (ds : List StructDef) (n : ℕ) (o : Option Local) (ls : List Local) → slice_get ls n ≡ o → IsTrue (list_all (is_lawful_local ds) ls) → IsTrue (list_all (is_lawful_local ds) (memory_local_at n o ls))
memory_lawful ds n None ls e h = h
memory_lawful ds n (Some l) ls e h = set_lawful ds ls n l e h

pub addressed_lawful : (ds : List StructDef) (ns : List ℕ) (ls : List Local) → IsTrue (list_all (is_lawful_local ds) ls) → IsTrue (list_all (is_lawful_local ds) (with_addressed ns ls))
addressed_lawful ds [] ls h = h
addressed_lawful ds (n ∷ ns) ls h = addressed_lawful ds ns (put_in_memory n ls) (memory_lawful ds n (slice_get ls n) ls refl h)
