-- What well typed trees say of their parts, their places and the objects of their locals.
use Rattle.std.proofs.Common.{◌≡◌, ◌≤◌, ◌<◌, ℕ, zero, suc, ◌+◌, ◌*◌, ◌-◌, ◌^◌, ◌%◌, ◌==◌, min, Bool, true, false, ◌&&◌, ◌||◌, IsTrue, List, [], ◌∷◌, Option, Some, None, length, filter, take, refl, sym, ap, ap₂, ◌∙◌, subst, cond, if◌then◌else◌, arith, eqb-true, le-leb}
use Rattle.std.specs.Prelude.{All, slice_get, count_by, option_map}
use Rattle.std.specs.Bool.{beq}
use Rattle.std.specs.List.{list_all}
use Rattle.std.specs.Int.{div_ceil}
use Rattle.std.proofs.lemmas.Option.{slice_get-map}
use Rattle.std.proofs.lemmas.List.Sums.{sum_by-cons}
use Rattle.std.proofs.lemmas.Grind.{div_ceil_times}
use Rattle.std.proofs.lemmas.Nat.{mod-mul-add}
use Rattle.mem_objects.specs.declared.TheConstants.{MOST_DATA}
use Rattle.mem_objects.specs.declared.DataObject.{DataObject}
use Rattle.c_typed_tree.specs.declared.types.StructDef.{StructDef}
use Rattle.c_typed_tree.specs.declared.types.Member.{Member}
use Rattle.c_typed_tree.specs.declared.units.Local as l
use Rattle.c_typed_tree.specs.Types.{PlainType, Void, Int, Pointer, Array, Struct}
use Rattle.c_typed_tree.specs.View.{type_view}
use Rattle.c_typed_tree.specs.Layout.{is_complete, is_object, size_of, align_of, struct_size, struct_align, struct_member}
use Rattle.c_typed_tree.specs.Expressions.{Expr, Number, Local, Global, Call, Unary, Binary, Assign, Conditional, Cast, Convert, Index, Field, Arrow, Postfix, Comma, Exprs, no_exprs, more_exprs, type_of}
use Rattle.c_typed_tree.specs.Constants.{is_integer}
use Rattle.c_typed_tree.specs.Typing.{is_same_type, is_scalar, is_fit, Context, is_typed, are_typed, has_rule, has_local_type, has_global_type, has_member_type, is_member, is_memory_local, is_in_memory, is_place, are_operands, are_arguments, is_cast, is_conversion}
use Rattle.c_typed_tree.specs.Lawful.{IsLawfulStruct, IsStruct, is_lawful_local, is_object_type, type_of_local}
use Rattle.c_typed_tree.specs.Weight.{expr_weight, copy_weight, exprs_count}
use Rattle.c_semantics.specs.Objects.{members_of, member_place}
use Rattle.suifvm_ir.specs.declared.types.Alignment.{Alignment}
use Rattle.suifvm_ir.specs.declared.types.Alignment.TheVariants.{One, Two, Four, Eight}
use Rattle.pass_core.specs.declared.function.MemoryLocal.{MemoryLocal}
use Rattle.suifvm_ir.specs.declared.insn.VmObject.TheVariants as p
use Rattle.suifvm_ir.specs.Programs.{place_reaches, global_reaches, local_reaches, alignment_bytes}
use Rattle.lowering_code.specs.Registers.{object_index}
use Rattle.lowering_code.specs.Functions.{object_for, objects_of}
use Rattle.lowering_code.specs.Expressions as code
use Rattle.c_typing_struct_layout.specs.c_layout_laws.Laws.{is_alignment}
use Rattle.c_typing_struct_layout.proofs.CLayoutLaws.Truth.{no_true, front, back, either, none_some, all_at}
use Rattle.c_typing_struct_layout.proofs.CLayoutLaws.Layouts.{complete_at, struct_multiple, members_within, struct_aligned_at}

-- ---- truth values

pub one : (f r x : Bool) → IsTrue (f && r && x) → IsTrue r × IsTrue x
one f r x h = (back f r (front (f && r) x h), back (f && r) x h)

pub two : (f r x y : Bool) → IsTrue (f && r && x && y) → IsTrue r × IsTrue x × IsTrue y
two f r x y h = let o = one f r x (front (f && r && x) y h) in (o.0, o.1, back (f && r && x) y h)

pub three : (f r x y z : Bool) → IsTrue (f && r && x && y && z) → IsTrue r × IsTrue x × IsTrue y × IsTrue z
three f r x y z h = let o = two f r x y (front (f && r && x && y) z h) in (o.0, o.1, o.2, back (f && r && x && y) z h)

-- ---- equal types

same_sign : (s r : Bool) → IsTrue (beq s r) → s ≡ r
same_sign true true h = refl
same_sign true false h = no_true h
same_sign false true h = no_true h
same_sign false false h = refl

pub same : (x y : PlainType) → IsTrue (is_same_type x y) → x ≡ y
same Void Void h = refl
same Void (Int m r) h = no_true h
same Void (Pointer u) h = no_true h
same Void (Array u m) h = no_true h
same Void (Struct m) h = no_true h
same (Int n s) Void h = no_true h
same (Int n s) (Int m r) h = ap₂ Int (eqb-true n m (front (n == m) (beq s r) h)) (same_sign s r (back (n == m) (beq s r) h))
same (Int n s) (Pointer u) h = no_true h
same (Int n s) (Array u m) h = no_true h
same (Int n s) (Struct m) h = no_true h
same (Pointer x) Void h = no_true h
same (Pointer x) (Int m r) h = no_true h
same (Pointer x) (Pointer u) h = ap Pointer (same x u h)
same (Pointer x) (Array u m) h = no_true h
same (Pointer x) (Struct m) h = no_true h
same (Array x n) Void h = no_true h
same (Array x n) (Int m r) h = no_true h
same (Array x n) (Pointer u) h = no_true h
same (Array x n) (Array u m) h = ap₂ Array (same x u (front (is_same_type x u) (n == m) h)) (eqb-true n m (back (is_same_type x u) (n == m) h))
same (Array x n) (Struct m) h = no_true h
same (Struct n) Void h = no_true h
same (Struct n) (Int m r) h = no_true h
same (Struct n) (Pointer u) h = no_true h
same (Struct n) (Array u m) h = no_true h
same (Struct n) (Struct m) h = ap Struct (eqb-true n m h)

-- ---- lists

filter_step : {A : Type 0} (test : A → Bool) (xs : List A) (y : A) (n : ℕ) (b : Bool) → slice_get (cond b (y ∷ filter test xs) (filter test xs)) (cond b 1 0 + n) ≡ slice_get (filter test xs) n
filter_step test xs y n true = ap (λ k. slice_get (y ∷ filter test xs) k) (one_more n)
  where
    one_more : (n : ℕ) → 1 + n ≡ suc n
    one_more n = omega arith
filter_step test xs y n false = ap (λ k. slice_get (filter test xs) k) (none_more n)
  where
    none_more : (n : ℕ) → 0 + n ≡ n
    none_more n = omega arith

filter_at : {A : Type 0} (test : A → Bool) (xs : List A) (k : ℕ) (x : A) → slice_get xs k ≡ Some x → test x ≡ true → slice_get (filter test xs) (count_by test (take k xs)) ≡ Some x
filter_at test [] k x e t = none_some x e
filter_at test (y ∷ xs) zero x e t =
    let same : x ≡ y = cc in
    let holds : test y ≡ true = ap test (sym same) ∙ t in
    ap (λ (b : Bool). slice_get (cond b (y ∷ filter test xs) (filter test xs)) 0) holds ∙ e
filter_at test (y ∷ xs) (suc k) x e t =
    let more : count_by test (take (suc k) (y ∷ xs)) ≡ cond (test y) 1 0 + count_by test (take k xs) = sum_by-cons (λ z. cond (test z) 1 0) y (take k xs) in
    ap (λ n. slice_get (filter test (y ∷ xs)) n) more ∙ filter_step test xs y (count_by test (take k xs)) (test y) ∙ filter_at test xs k x e t

-- ---- objects

pub local_there : (ds : List StructDef) (ls : List l.Local) (k plus : ℕ) (x : l.Local) → slice_get ls k ≡ Some x → x.in_memory ≡ true → plus ≤ size_of ds (type_view x.ty)
    → (gs : List DataObject) → IsTrue (place_reaches gs (objects_of ds ls) plus (p.Local (object_index ls k)))
local_there ds ls k plus x e memory small gs =
    let found : slice_get (objects_of ds ls) (object_index ls k) ≡ Some (object_for ds x) =
    slice_get-map (object_for ds) (filter (λ y. y.in_memory) ls) (object_index ls k) ∙ ap (λ o. option_map (object_for ds) o) (filter_at (λ y. y.in_memory) ls k x e memory) in
    ap (local_reaches plus) found ∙ le-leb plus (size_of ds (type_view x.ty)) small

global_there : (ds : List StructDef) (ty : PlainType) (plus : ℕ) (o : Option DataObject) → IsTrue (has_global_type ds o ty) → plus ≤ size_of ds ty → IsTrue (global_reaches plus o)
global_there ds ty plus None h small = no_true h
global_there ds ty plus (Some o) h small =
    let size : size_of ds ty ≡ o.size = eqb-true (size_of ds ty) o.size (back (is_object ds ty) (size_of ds ty == o.size) h) in
    le-leb plus o.size (omega (arith, size, small))

pub global_reached : (ds : List StructDef) (gs : List DataObject) (os : List MemoryLocal) (ty : PlainType) (k plus : ℕ) → IsTrue (has_global_type ds (slice_get gs k) ty) → plus ≤ size_of ds ty → IsTrue (place_reaches gs os plus (p.Global k))
global_reached ds gs os ty k plus h small = global_there ds ty plus (slice_get gs k) h small

-- ---- copies

whole : (a : ℕ) → IsTrue (is_alignment a) → alignment_bytes (code.alignment_of a) ≡ a
whole a h =
    either (a == 1 || a == 2 || a == 4) (a == 8)
    (either (a == 1 || a == 2) (a == 4)
    (either (a == 1) (a == 2) (λ e. of 1 refl (eqb-true a 1 e)) (λ e. of 2 refl (eqb-true a 2 e)))
    (λ e. of 4 refl (eqb-true a 4 e)))
    (λ e. of 8 refl (eqb-true a 8 e)) h
  where
    of : (n : ℕ) → alignment_bytes (code.alignment_of n) ≡ n → a ≡ n → alignment_bytes (code.alignment_of a) ≡ a
    of n done e = subst (λ m. alignment_bytes (code.alignment_of m) ≡ m) (sym e) done

no_rest : (q a : ℕ) → 0 < a → (q * a) % a ≡ 0
no_rest q a h = ap (λ n. n % a) (omega arith) ∙ mod-mul-add q a 0 h

nonzero : (a : ℕ) → IsTrue (is_alignment a) → 0 < a
nonzero zero h = no_true h
nonzero (suc a) h = omega arith

no_bytes : (a : Alignment) → IsTrue (0 % alignment_bytes a == 0)
no_bytes One = refl
no_bytes Two = refl
no_bytes Four = refl
no_bytes Eight = refl

-- a struct has a whole number of units of its alignment
pub struct_whole : (ds : List StructDef) → All (IsLawfulStruct ds) ds → (n : ℕ) → IsTrue (code.stride ds (Struct n) % alignment_bytes (code.alignment_of (align_of ds (Struct n))) == 0)
struct_whole ds lawful n = by (slice_get ds n) refl
  where
    Whole : Option StructDef → Type 0
    Whole d = IsTrue (min (struct_size d) (2 ^ 63 - 1) % alignment_bytes (code.alignment_of (struct_align d)) == 0)

    known : (d : StructDef) → slice_get ds n ≡ Some d → d.complete ≡ true → Whole (Some d)
    known d e c =
        let small : IsTrue (is_alignment d.align) = struct_aligned_at ds lawful n d e c in
        let whole_size = complete_at ds lawful n d e c in
        let q = struct_multiple ds lawful n d e c in
        let bound : d.size ≤ MOST_DATA = whole_size.size in
        let size : min d.size (2 ^ 63 - 1) ≡ d.size = omega (arith, bound) in
        ap (λ m. m % alignment_bytes (code.alignment_of d.align) == 0) (size ∙ q.1)
        ∙ ap (λ m. (q.0 * d.align) % m == 0) (whole d.align small)
        ∙ ap (λ m. m == 0) (no_rest q.0 d.align (nonzero d.align small))

    empty : (d : StructDef) → slice_get ds n ≡ Some d → d.complete ≡ false → Whole (Some d)
    empty d e c =
        let bare = subst (IsStruct ds d) c (all_at (IsLawfulStruct ds) ds n d lawful e) in
        let size : min d.size (2 ^ 63 - 1) ≡ 0 = omega (arith, bare.size) in
        ap (λ m. m % alignment_bytes (code.alignment_of d.align) == 0) size ∙ no_bytes (code.alignment_of d.align)

    some : (d : StructDef) (c : Bool) → slice_get ds n ≡ Some d → d.complete ≡ c → Whole (Some d)
    some d true e c = known d e c
    some d false e c = empty d e c

    by : (d : Option StructDef) → slice_get ds n ≡ d → Whole d
    by None e = refl
    by (Some d) e = some d d.complete e refl

-- what it counts besides pays for its copy
pub copy_paid : (ds : List StructDef) (n : ℕ) → 24 + 96 * code.stride ds (Struct n) ≤ 768 * copy_weight ds (Struct n) + 24
copy_paid ds n =
    let size = struct_size (slice_get ds n) in
    let up : size ≤ div_ceil size 8 * 8 = (div_ceil_times size 8 (omega arith)).0 in
    let cut : code.stride ds (Struct n) ≤ size = omega arith in
    omega (arith, up, cut)

module _ (c : Context) where
  abbrev pub IsTypedExpr : Expr → Type 0
  IsTypedExpr x = IsTrue (is_typed c x)

  -- ---- weights

  abbrev operands : (ty : PlainType) (xs : Exprs) → IsTrue (is_fit c.structs ty && has_rule c (Comma ty xs) && are_typed c xs) → IsTrue (are_operands ty xs)
  operands ty xs h = (one (is_fit c.structs ty) (are_operands ty xs) (are_typed c xs) h).0

  pub positive : (x : Expr) → IsTypedExpr x → 0 < expr_weight c.structs x
  unfolding expr_weight
  positive (Number ty n) h = omega arith
  positive (Local ty k) h = omega arith
  positive (Global ty k) h = omega arith
  positive (Call ty callee xs) h = omega arith
  positive (Unary ty op x) h = omega arith
  positive (Binary ty op x y) h = omega arith
  positive (Assign ty op x y) h = omega arith
  positive (Conditional ty x y z) h = omega arith
  positive (Cast ty x) h = omega arith
  positive (Convert ty x) h = omega arith
  positive (Index ty x y) h = omega arith
  positive (Field ty x k) h = omega arith
  positive (Arrow ty x k) h = omega arith
  positive (Postfix ty op x) h = omega arith
  positive (Comma ty no_exprs) h = no_true (operands ty no_exprs h)
  positive (Comma ty (more_exprs x no_exprs)) h = no_true (operands ty (more_exprs x no_exprs) h)
  positive (Comma ty (more_exprs x (more_exprs y ys))) h = omega arith

  -- ---- places

  abbrev AreLawful : Type 0
  AreLawful = IsTrue (list_all (is_lawful_local c.structs) c.locals)

  all_pass : {A : Type 0} (test : A → Bool) (xs : List A) (k : ℕ) (x : A) → IsTrue (list_all test xs) → slice_get xs k ≡ Some x → IsTrue (test x)
  all_pass test [] k x h e = none_some x e
  all_pass test (y ∷ xs) zero x h e = let same : y ≡ x = cc in subst (λ z. IsTrue (test z)) same (front (test y) (list_all test xs) h)
  all_pass test (y ∷ xs) (suc k) x h e = all_pass test xs k x (back (test y) (list_all test xs) h) e

  or_second : (b m : Bool) → b ≡ false → IsTrue (b || m) → IsTrue m
  or_second false m e h = h
  or_second true m e h = no_true (sym e)

  -- a local that is no scalar is in memory
  local_memory : (k : ℕ) (ty : PlainType) (o : Option l.Local) → slice_get c.locals k ≡ o → AreLawful → IsTrue (has_local_type o ty) → is_scalar ty ≡ false → IsTrue (is_memory_local o)
  local_memory k ty None e lawful h large = no_true h
  local_memory k ty (Some x) e lawful h large =
      let type : type_view x.ty ≡ ty = same (type_view x.ty) ty h in
      or_second (is_scalar (type_of_local x)) x.in_memory (ap is_scalar type ∙ large)
      (back (is_object_type c.structs (type_of_local x)) (is_scalar (type_of_local x) || x.in_memory) (all_pass (is_lawful_local c.structs) c.locals k x lawful e))

  pub member_struct : (ty t : PlainType) (k : ℕ) → IsTrue (is_member c.structs ty t k) → is_scalar t ≡ false
  member_struct ty Void k h = no_true h
  member_struct ty (Int n s) k h = no_true h
  member_struct ty (Pointer t) k h = no_true h
  member_struct ty (Array t n) k h = no_true h
  member_struct ty (Struct n) k h = refl

  -- a place that is no scalar is in memory
  pub large_memory : AreLawful → (x : Expr) → IsTypedExpr x → IsTrue (is_place x) → is_scalar (type_of x) ≡ false → IsTrue (is_in_memory c.locals x)
  large_memory lawful (Local ty k) h p large = local_memory k ty (slice_get c.locals k) refl lawful (back (is_fit c.structs ty) (has_rule c (Local ty k)) h) large
  large_memory lawful (Field ty x k) h p large =
      let o = one (is_fit c.structs ty) (is_place x && is_member c.structs ty (type_of x) k) (is_typed c x) h in
      large_memory lawful x o.1 p (member_struct ty (type_of x) k (back (is_place x) (is_member c.structs ty (type_of x) k) o.0))
  large_memory lawful (Number ty n) h p large = p
  large_memory lawful (Global ty k) h p large = p
  large_memory lawful (Call ty callee xs) h p large = p
  large_memory lawful (Unary ty op x) h p large = p
  large_memory lawful (Binary ty op x y) h p large = p
  large_memory lawful (Assign ty op x y) h p large = p
  large_memory lawful (Conditional ty x y z) h p large = p
  large_memory lawful (Cast ty x) h p large = p
  large_memory lawful (Convert ty x) h p large = p
  large_memory lawful (Index ty x y) h p large = p
  large_memory lawful (Arrow ty x k) h p large = p
  large_memory lawful (Postfix ty op x) h p large = p
  large_memory lawful (Comma ty xs) h p large = p

  abbrev register_of : Expr → Option ℕ
  register_of x = code.register_of (length c.locals) c.structs c.locals x

  unregistered : (k : ℕ) (ty : PlainType) (o : Option l.Local) → IsTrue (has_local_type o ty) → code.register_if (length c.locals) c.structs c.locals k o ≡ None → IsTrue (is_memory_local o)
  unregistered k ty None h e = no_true h
  unregistered k ty (Some x) h e = by x.in_memory e
    where
      by : (m : Bool) → (if m then None else Some k) ≡ None → IsTrue m
      by true e = refl
      by false e = let clash : ⊥ = cc in absurd clash

  -- a place that no register holds is in memory
  pub place_memory : AreLawful → (x : Expr) → IsTypedExpr x → IsTrue (is_place x) → register_of x ≡ None → IsTrue (is_in_memory c.locals x)
  place_memory lawful (Local ty k) h p e = unregistered k ty (slice_get c.locals k) (back (is_fit c.structs ty) (has_rule c (Local ty k)) h) e
  place_memory lawful (Field ty x k) h p e =
      let o = one (is_fit c.structs ty) (is_place x && is_member c.structs ty (type_of x) k) (is_typed c x) h in
      large_memory lawful x o.1 p (member_struct ty (type_of x) k (back (is_place x) (is_member c.structs ty (type_of x) k) o.0))
  place_memory lawful (Number ty n) h p e = p
  place_memory lawful (Global ty k) h p e = p
  place_memory lawful (Call ty callee xs) h p e = p
  place_memory lawful (Unary ty op x) h p e = p
  place_memory lawful (Binary ty op x y) h p e = p
  place_memory lawful (Assign ty op x y) h p e = p
  place_memory lawful (Conditional ty x y z) h p e = p
  place_memory lawful (Cast ty x) h p e = p
  place_memory lawful (Convert ty x) h p e = p
  place_memory lawful (Index ty x y) h p e = p
  place_memory lawful (Arrow ty x k) h p e = p
  place_memory lawful (Postfix ty op x) h p e = p
  place_memory lawful (Comma ty xs) h p e = p

  -- ---- members

  member_reaches : (structs : All (IsLawfulStruct c.structs) c.structs) (ty : PlainType) (n k plus : ℕ) (d : Option StructDef) (m : Option Member) → slice_get c.structs n ≡ d → struct_member d k ≡ m
      → IsTrue (has_member_type m ty) → plus ≤ size_of c.structs ty → member_place (slice_get (members_of d) k) + plus ≤ struct_size d
  member_reaches structs ty n k plus None m e at h small = no_true (subst (λ o. IsTrue (has_member_type o ty)) (sym at) h)
  member_reaches structs ty n k plus (Some d) None e at h small = no_true h
  member_reaches structs ty n k plus (Some d) (Some m) e at h small =
      let type : type_view m.ty ≡ ty = same (type_view m.ty) ty h in
      let size : size_of c.structs (type_view m.ty) ≡ size_of c.structs ty = ap (size_of c.structs) type in
      let place : member_place (slice_get d.members k) ≡ m.offset = ap member_place at in
      omega (arith, members_within c.structs structs n k d m e at, size, place, small)

  -- a place in a member lies in the struct
  pub member_fits : All (IsLawfulStruct c.structs) c.structs → (ty t : PlainType) (k plus : ℕ) → IsTrue (is_member c.structs ty t k) → plus ≤ size_of c.structs ty
      → code.member_plus c.structs t k plus ≤ size_of c.structs t
  member_fits structs ty Void k plus h small = no_true h
  member_fits structs ty (Int n s) k plus h small = no_true h
  member_fits structs ty (Pointer t) k plus h small = no_true h
  member_fits structs ty (Array t n) k plus h small = no_true h
  member_fits structs ty (Struct n) k plus h small =
      omega (
        arith,
        member_reaches structs ty n k plus (slice_get c.structs n) (struct_member (slice_get c.structs n) k) refl refl
            (back (is_complete (slice_get c.structs n)) (has_member_type (struct_member (slice_get c.structs n) k) ty) h) small,
      )

-- ---- conversions

-- an array is never cast, and a place where it is converted
pub array_cast : (to element : PlainType) (n : ℕ) (null : Bool) {X : Type 0} → IsTrue (is_cast to (Array element n) null) → X
array_cast Void element n null h = no_true h
array_cast (Int m s) element n null h = no_true (drop_last (is_integer (Int m s)) h)
  where
    drop_last : (b : Bool) → IsTrue (b && false || false) → IsTrue false
    drop_last true h = h
    drop_last false h = h
array_cast (Pointer t) element n null h = no_true h
array_cast (Array t m) element n null h = no_true h
array_cast (Struct m) element n null h = no_true h

pub array_place : (to element : PlainType) (n : ℕ) (null place : Bool) → IsTrue (is_conversion to (Array element n) null place) → IsTrue place
array_place Void element n null place h = no_true h
array_place (Int m s) element n null place h = no_true (drop_last (is_integer (Int m s)) h)
  where
    drop_last : (b : Bool) → IsTrue (b && false || false || false || false) → IsTrue false
    drop_last true h = h
    drop_last false h = h
array_place (Pointer t) element n null place h = by (is_same_type element t) place h
  where
    by : (b place : Bool) → IsTrue (b && place || false || false) → IsTrue place
    by true true h = refl
    by true false h = no_true h
    by false place h = no_true h
array_place (Array t m) element n null place h = no_true h
array_place (Struct m) element n null place h = no_true h

-- ---- calls

pub arguments_count : (ts : List PlainType) (xs : Exprs) → IsTrue (are_arguments ts xs) → length ts ≡ exprs_count xs
arguments_count [] no_exprs h = refl
arguments_count [] (more_exprs x xs) h = no_true h
arguments_count (t ∷ ts) no_exprs h = no_true h
arguments_count (t ∷ ts) (more_exprs x xs) h = omega (arith, arguments_count ts xs (back (is_same_type (type_of x) t) (are_arguments ts xs) h))

pub some_operands : (ty : PlainType) (xs : Exprs) → IsTrue (are_operands ty xs) → 0 < exprs_count xs
some_operands ty no_exprs h = no_true h
some_operands ty (more_exprs x xs) h = omega arith
