-- Facts on types: which are equal, how deep they are, and the integer types.
use Rattle.std.proofs.Common.{◌≡◌, ◌+◌, ◌*◌, ℕ, nat_le, nat_lt, ◌==◌, Bool, true, false, ◌&&◌, IsTrue, IsFalse, List, is_some, Some, refl, ap, ap₂, ◌∙◌, subst, if◌then◌else◌, arith, eqb-true, eq-eqb, leb-true, le-leb}
use Rattle.std.specs.Bool.{beq}
use Rattle.bk_arithmetic.specs.declared.integer_type.IntegerType.{IntegerType}
use Rattle.bk_arithmetic.specs.declared.integer_type.IntegerType.TheVariants as i
use Rattle.bk_arithmetic.specs.IntegerTypes.{bytes, is_signed, promote, longer, common}
use Rattle.mem_objects.specs.declared.TheConstants.{MOST_DATA}
use Rattle.c_typed_tree.specs.declared.types.StructDef.{StructDef}
use Rattle.c_typed_tree.specs.Types.{PlainType, Void, Int, Pointer, Array, Struct}
use Rattle.c_typed_tree.specs.View.{type_view}
use Rattle.c_typed_tree.specs.model.View.{opens}
use Rattle.c_typed_tree.specs.Layout.{integer_of, is_complete, is_object, size_of, struct_size}
use Rattle.c_typed_tree.specs.Constants.{is_integer}
use Rattle.c_typed_tree.specs.Typing.{is_same_type, is_same_integer, is_promoted_integer, is_promoted, is_common_integer, is_common, is_array, is_pointer, is_void, is_struct, is_scalar, is_pointer_to_void, points_to_object, is_valid_type, depth_behind, is_fit}
use Rattle.c_typing_rules.specs.Values.{type_of_integer}
use Rattle.c_typing_expression_sound.specs.c_type_laws.Typed.{AreKnown}
use Rattle.c_typing_expression_sound.proofs.CTypeLaws.Truth.{no_true, front, back, also, three, along, either, one_of}

-- ---- equal types

same_sign : (s r : Bool) → IsTrue (beq s r) → s ≡ r
same_sign true true h = refl
same_sign true false h = no_true h
same_sign false true h = no_true h
same_sign false false h = refl

sign_alike : (s : Bool) → IsTrue (beq s s)
sign_alike true = refl
sign_alike false = refl

pub same : (x y : PlainType) → IsTrue (is_same_type x y) → x ≡ y
same Void Void h = refl
same Void (Int m r) h = no_true h
same Void (Pointer u) h = no_true h
same Void (Array u m) h = no_true h
same Void (Struct m) h = no_true h
same (Int n s) Void h = no_true h
same (Int n s) (Int m r) h = ap₂ Int (eqb-true n m (front (n == m) (beq s r) h)) (same_sign s r (back (n == m) (beq s r) h))
same (Int n s) (Pointer u) h = no_true h
same (Int n s) (Array u m) h = no_true h
same (Int n s) (Struct m) h = no_true h
same (Pointer x) Void h = no_true h
same (Pointer x) (Int m r) h = no_true h
same (Pointer x) (Pointer u) h = ap Pointer (same x u h)
same (Pointer x) (Array u m) h = no_true h
same (Pointer x) (Struct m) h = no_true h
same (Array x n) Void h = no_true h
same (Array x n) (Int m r) h = no_true h
same (Array x n) (Pointer u) h = no_true h
same (Array x n) (Array u m) h = ap₂ Array (same x u (front (is_same_type x u) (n == m) h)) (eqb-true n m (back (is_same_type x u) (n == m) h))
same (Array x n) (Struct m) h = no_true h
same (Struct n) Void h = no_true h
same (Struct n) (Int m r) h = no_true h
same (Struct n) (Pointer u) h = no_true h
same (Struct n) (Array u m) h = no_true h
same (Struct n) (Struct m) h = ap Struct (eqb-true n m h)

pub alike : (x : PlainType) → IsTrue (is_same_type x x)
alike Void = refl
alike (Int n s) = also (n == n) (beq s s) (eq-eqb n n refl) (sign_alike s)
alike (Pointer x) = alike x
alike (Array x n) = also (is_same_type x x) (n == n) (alike x) (eq-eqb n n refl)
alike (Struct n) = eq-eqb n n refl

pub equal : (x y : PlainType) → x ≡ y → IsTrue (is_same_type x y)
equal x y e = subst (λ z. IsTrue (is_same_type x z)) e (alike x)

-- ---- integer types

pub integer_known : (u : IntegerType) → integer_of (type_view (type_of_integer u)) ≡ Some u
unfolding opens
integer_known i.Char = refl
integer_known i.UnsignedChar = refl
integer_known i.Short = refl
integer_known i.UnsignedShort = refl
integer_known i.Int = refl
integer_known i.UnsignedInt = refl
integer_known i.Long = refl
integer_known i.UnsignedLong = refl

pub integer_is : (u : IntegerType) → type_view (type_of_integer u) ≡ Int (bytes u) (is_signed u)
unfolding opens
integer_is u = refl

pub integer_from : (ty : PlainType) (u : IntegerType) → integer_of ty ≡ Some u → IsTrue (is_integer ty)
integer_from ty u e = ap is_some e

pub integer_fits : (ds : List StructDef) (u : IntegerType) → IsTrue (is_fit ds (type_view (type_of_integer u)))
unfolding opens
integer_fits ds i.Char = refl
integer_fits ds i.UnsignedChar = refl
integer_fits ds i.Short = refl
integer_fits ds i.UnsignedShort = refl
integer_fits ds i.Int = refl
integer_fits ds i.UnsignedInt = refl
integer_fits ds i.Long = refl
integer_fits ds i.UnsignedLong = refl

-- promoted types are promoted to themselves
abbrev pub IsPromoted : IntegerType → Type 0
IsPromoted u = IsTrue (is_promoted_integer (Some u))

pub promote_promoted : (u : IntegerType) → IsPromoted (promote u)
promote_promoted i.Char = refl
promote_promoted i.UnsignedChar = refl
promote_promoted i.Short = refl
promote_promoted i.UnsignedShort = refl
promote_promoted i.Int = refl
promote_promoted i.UnsignedInt = refl
promote_promoted i.Long = refl
promote_promoted i.UnsignedLong = refl

pub longer_is : (P : IntegerType → Type 0) (s u : IntegerType) → P s → P u → P (longer s u)
longer_is P s u h g =
    one_of P (nat_lt (bytes s) (bytes u)) u (if nat_lt (bytes u) (bytes s) then s else (if is_signed s then u else s)) g
    (one_of P (nat_lt (bytes u) (bytes s)) s (if is_signed s then u else s) h (one_of P (is_signed s) u s g h))

pub common_promoted : (s u : IntegerType) → IsPromoted (common s u)
common_promoted s u = longer_is IsPromoted (promote s) (promote u) (promote_promoted s) (promote_promoted u)

pub promoted_holds : (u : IntegerType) → IsPromoted u → IsTrue (is_promoted (type_view (type_of_integer u)))
promoted_holds u h = ap is_promoted_integer (integer_known u) ∙ h

pub common_again : (s u : IntegerType) → IsTrue (is_same_integer (common s (common s u)) (common s u))
common_again i.Char i.Char = refl
common_again i.Char i.UnsignedChar = refl
common_again i.Char i.Short = refl
common_again i.Char i.UnsignedShort = refl
common_again i.Char i.Int = refl
common_again i.Char i.UnsignedInt = refl
common_again i.Char i.Long = refl
common_again i.Char i.UnsignedLong = refl
common_again i.UnsignedChar i.Char = refl
common_again i.UnsignedChar i.UnsignedChar = refl
common_again i.UnsignedChar i.Short = refl
common_again i.UnsignedChar i.UnsignedShort = refl
common_again i.UnsignedChar i.Int = refl
common_again i.UnsignedChar i.UnsignedInt = refl
common_again i.UnsignedChar i.Long = refl
common_again i.UnsignedChar i.UnsignedLong = refl
common_again i.Short i.Char = refl
common_again i.Short i.UnsignedChar = refl
common_again i.Short i.Short = refl
common_again i.Short i.UnsignedShort = refl
common_again i.Short i.Int = refl
common_again i.Short i.UnsignedInt = refl
common_again i.Short i.Long = refl
common_again i.Short i.UnsignedLong = refl
common_again i.UnsignedShort i.Char = refl
common_again i.UnsignedShort i.UnsignedChar = refl
common_again i.UnsignedShort i.Short = refl
common_again i.UnsignedShort i.UnsignedShort = refl
common_again i.UnsignedShort i.Int = refl
common_again i.UnsignedShort i.UnsignedInt = refl
common_again i.UnsignedShort i.Long = refl
common_again i.UnsignedShort i.UnsignedLong = refl
common_again i.Int i.Char = refl
common_again i.Int i.UnsignedChar = refl
common_again i.Int i.Short = refl
common_again i.Int i.UnsignedShort = refl
common_again i.Int i.Int = refl
common_again i.Int i.UnsignedInt = refl
common_again i.Int i.Long = refl
common_again i.Int i.UnsignedLong = refl
common_again i.UnsignedInt i.Char = refl
common_again i.UnsignedInt i.UnsignedChar = refl
common_again i.UnsignedInt i.Short = refl
common_again i.UnsignedInt i.UnsignedShort = refl
common_again i.UnsignedInt i.Int = refl
common_again i.UnsignedInt i.UnsignedInt = refl
common_again i.UnsignedInt i.Long = refl
common_again i.UnsignedInt i.UnsignedLong = refl
common_again i.Long i.Char = refl
common_again i.Long i.UnsignedChar = refl
common_again i.Long i.Short = refl
common_again i.Long i.UnsignedShort = refl
common_again i.Long i.Int = refl
common_again i.Long i.UnsignedInt = refl
common_again i.Long i.Long = refl
common_again i.Long i.UnsignedLong = refl
common_again i.UnsignedLong i.Char = refl
common_again i.UnsignedLong i.UnsignedChar = refl
common_again i.UnsignedLong i.Short = refl
common_again i.UnsignedLong i.UnsignedShort = refl
common_again i.UnsignedLong i.Int = refl
common_again i.UnsignedLong i.UnsignedInt = refl
common_again i.UnsignedLong i.Long = refl
common_again i.UnsignedLong i.UnsignedLong = refl

pub common_with : (left right : PlainType) (s u : IntegerType) → integer_of left ≡ Some s → right ≡ type_view (type_of_integer (common s u)) → IsTrue (is_common left right)
common_with left right s u e f =
    ap (λ o. is_common_integer o (integer_of right)) e
    ∙ (ap (λ r. is_common_integer (Some s) (integer_of r)) f ∙ (ap (is_common_integer (Some s)) (integer_known (common s u)) ∙ common_again s u))

-- ---- depths

pub fit_type : (ds : List StructDef) (x : PlainType) → IsTrue (is_fit ds x) → IsTrue (is_valid_type ds x)
fit_type ds x h = front (is_valid_type ds x) (nat_le (depth_behind x) 257) h

pub fit_depth : (ds : List StructDef) (x : PlainType) → IsTrue (is_fit ds x) → IsTrue (nat_le (depth_behind x) 257)
fit_depth ds x h = back (is_valid_type ds x) (nat_le (depth_behind x) 257) h

-- a pointer to what is no deeper than a type may be
pub pointer_fits : (ds : List StructDef) (x : PlainType) → IsTrue (is_valid_type ds x) → IsTrue (nat_le (depth_behind x) 256) → IsTrue (is_fit ds (Pointer x))
pointer_fits ds x h d = also (is_valid_type ds x) (nat_le (1 + depth_behind x) 257) h (let k = leb-true (depth_behind x) 256 d in le-leb (1 + depth_behind x) 257 (omega arith))

-- what a pointer leads to, and an array has
pub target_depth : (ds : List StructDef) (x : PlainType) → IsTrue (is_fit ds (Pointer x)) → IsTrue (nat_le (depth_behind x) 256)
target_depth ds x h = let k = leb-true (1 + depth_behind x) 257 (fit_depth ds (Pointer x) h) in le-leb (depth_behind x) 256 (omega arith)

pub target_fits : (ds : List StructDef) (x : PlainType) → IsTrue (is_fit ds (Pointer x)) → IsTrue (is_fit ds x)
target_fits ds x h =
    let k = leb-true (1 + depth_behind x) 257 (fit_depth ds (Pointer x) h) in
    also (is_valid_type ds x) (nat_le (depth_behind x) 257) (fit_type ds (Pointer x) h) (le-leb (depth_behind x) 257 (omega arith))

pub decayed_fits : (ds : List StructDef) (x : PlainType) (n : ℕ) → IsTrue (is_fit ds (Array x n)) → IsTrue (is_fit ds (Pointer x))
decayed_fits ds x n h =
    let k = leb-true (1 + depth_behind x) 257 (fit_depth ds (Array x n) h) in
    pointer_fits ds x (front (is_valid_type ds x) (is_object ds (Array x n)) (fit_type ds (Array x n) h)) (le-leb (depth_behind x) 256 (omega arith))

-- ---- types that are no arrays

pub void_no_array : (x : PlainType) → IsTrue (is_void x) → IsFalse (is_array x)
void_no_array Void h = refl
void_no_array (Int n s) h = refl
void_no_array (Pointer x) h = refl
void_no_array (Array x n) h = no_true h
void_no_array (Struct n) h = refl

pub integer_no_array : (x : PlainType) → IsTrue (is_integer x) → IsFalse (is_array x)
integer_no_array Void h = refl
integer_no_array (Int n s) h = refl
integer_no_array (Pointer x) h = refl
integer_no_array (Array x n) h = no_true h
integer_no_array (Struct n) h = refl

pub pointer_no_array : (x : PlainType) → IsTrue (is_pointer x) → IsFalse (is_array x)
pointer_no_array Void h = refl
pointer_no_array (Int n s) h = refl
pointer_no_array (Pointer x) h = refl
pointer_no_array (Array x n) h = no_true h
pointer_no_array (Struct n) h = refl

pub struct_no_array : (x : PlainType) → IsTrue (is_struct x) → IsFalse (is_array x)
struct_no_array Void h = refl
struct_no_array (Int n s) h = refl
struct_no_array (Pointer x) h = refl
struct_no_array (Array x n) h = no_true h
struct_no_array (Struct n) h = refl

pub scalar_no_array : (x : PlainType) → IsTrue (is_scalar x) → IsFalse (is_array x)
scalar_no_array x h = either (is_integer x) (is_pointer x) (integer_no_array x) (pointer_no_array x) h

-- ---- pointers

pub void_pointer_is : (x : PlainType) → IsTrue (is_pointer_to_void x) → IsTrue (is_pointer x)
void_pointer_is Void h = no_true h
void_pointer_is (Int n s) h = no_true h
void_pointer_is (Pointer x) h = refl
void_pointer_is (Array x n) h = no_true h
void_pointer_is (Struct n) h = no_true h

pub object_pointer_is : (ds : List StructDef) (x : PlainType) → IsTrue (points_to_object ds x) → IsTrue (is_pointer x)
object_pointer_is ds Void h = no_true h
object_pointer_is ds (Int n s) h = no_true h
object_pointer_is ds (Pointer x) h = refl
object_pointer_is ds (Array x n) h = no_true h
object_pointer_is ds (Struct n) h = no_true h

-- ---- structs that are known

module _ (ds es : List StructDef) (k : AreKnown ds es) where
  pub known_size : (x : PlainType) → IsTrue (is_object ds x) → size_of es x ≡ size_of ds x
  known_size Void h = refl
  known_size (Int n s) h = refl
  known_size (Pointer x) h = refl
  known_size (Array x n) h =
      ap (λ s. s * n) (known_size x (front (is_object ds x) (nat_le 1 n) (front (is_object ds x && nat_le 1 n) (nat_le (size_of ds x * n) MOST_DATA) h)))
  known_size (Struct n) h = ap struct_size (k n h)

  pub known_object : (x : PlainType) → IsTrue (is_object ds x) → IsTrue (is_object es x)
  known_object Void h = h
  known_object (Int n s) h = refl
  known_object (Pointer x) h = refl
  known_object (Array x n) h =
      let parts = front (is_object ds x && nat_le 1 n) (nat_le (size_of ds x * n) MOST_DATA) h in
      let inner = front (is_object ds x) (nat_le 1 n) parts in
      three (is_object es x) (nat_le 1 n) (nat_le (size_of es x * n) MOST_DATA) (known_object x inner) (back (is_object ds x) (nat_le 1 n) parts)
      (along (λ s. nat_le (s * n) MOST_DATA) (known_size x inner) (back (is_object ds x && nat_le 1 n) (nat_le (size_of ds x * n) MOST_DATA) h))
  known_object (Struct n) h = ap is_complete (k n h) ∙ h

  pub known_pointer : (x : PlainType) → IsTrue (points_to_object ds x) → IsTrue (points_to_object es x)
  known_pointer Void h = h
  known_pointer (Int n s) h = h
  known_pointer (Pointer x) h = known_object x h
  known_pointer (Array x n) h = h
  known_pointer (Struct n) h = h
