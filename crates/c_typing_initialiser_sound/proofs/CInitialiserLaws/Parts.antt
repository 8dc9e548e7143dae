-- The parts of a type, by the structs of a context: where they stand, and how far they go.
use Rattle.std.proofs.Common.{◌≡◌, ◌≤◌, ◌==◌, ℕ, zero, suc, ◌+◌, ◌*◌, ◌-◌, ◌/◌, max, nat_le, nat_lt, Bool, true, false, ◌&&◌, ◌||◌, IsTrue, List, [], ◌∷◌, slice_get, Option, Some, None, refl, sym, ap, ◌∙◌, subst, if◌then◌else◌, arith}
use Rattle.std.proofs.lemmas.Option.{none-some, same_Some}
use Rattle.std.proofs.lemmas.Bool.{eqb-true, ltb-true}
use Rattle.std.proofs.Math.Nat.{mul_comm, mul_assoc, mul-add}
use Rattle.std.specs.Prelude.{All}
use Rattle.std.specs.List.{list_all}
use Rattle.mem_objects.specs.declared.TheConstants.{MOST_DATA}
use Rattle.c_typed_tree.specs.declared.types.CType as t
use Rattle.c_typed_tree.specs.declared.types.StructDef.{StructDef}
use Rattle.c_typed_tree.specs.declared.types.Member.{Member}
use Rattle.c_typed_tree.specs.Types.{PlainType, Void, Int, Pointer, Array, Struct}
use Rattle.c_typed_tree.specs.View.{type_view}
use Rattle.c_typed_tree.specs.model.View.{opens}
use Rattle.c_typed_tree.specs.Layout.{is_object, is_complete, size_of, align_of, struct_align, struct_size, struct_member, aligned_up, MembersLieFrom, greatest_align}
use Rattle.c_typed_tree.specs.Typing.{is_valid_type, depth_of, most_depth}
use Rattle.c_typed_tree.specs.Lawful.{IsLawfulStruct, IsCompleteStruct, is_object_type}
use Rattle.c_typing_struct_layout.proofs.Rounding.{aligned_up_ge}
use Rattle.c_typing_struct_layout.specs.c_layout_laws.Laws.{is_alignment}
use Rattle.c_typing_struct_layout.proofs.CLayoutLaws.Layouts.{aligned_type, complete_at, struct_multiple, members_within, struct_aligned_at}
use Rattle.c_typing_initial_values.specs.declared.parts.ObjectPart.{ObjectPart}
use Rattle.c_typing_initial_values.specs.Parts.{part_of_element, part_of_member, part_of}
use Rattle.c_typing_expression_sound.specs.c_type_laws.Typed.{AreKnown}
use Rattle.c_typing_expression_sound.proofs.CTypeLaws.Truth.{no_true, front, back, either}
use Rattle.c_typing_expression_sound.proofs.CTypeLaws.Types.{known_size}
use Rattle.c_typing_initialiser_sound.specs.c_initial_value_laws.Laws.{IsMultiple}

-- ---- multiples

spread : (p q a : ℕ) → (p + q) * a ≡ p * a + q * a
spread p q a = mul_comm (p + q) a ∙ (mul-add a p q ∙ (ap (λ x. x + a * q) (mul_comm a p) ∙ ap (λ x. p * a + x) (mul_comm a q)))

pub multiple_sum : (a n m : ℕ) → IsMultiple a n → IsMultiple a m → IsMultiple a (n + m)
multiple_sum a n m h g = record { times = h.times + g.times; same = ap (λ x. x + m) h.same ∙ (ap (λ x. h.times * a + x) g.same ∙ sym (spread h.times g.times a)) }

multiple_times : (a n k : ℕ) → IsMultiple a n → IsMultiple a (n * k)
multiple_times a n k h = record {
  times = h.times * k;
  same = ap (λ x. x * k) h.same ∙ (mul_assoc h.times a k ∙ (ap (λ x. h.times * x) (mul_comm a k) ∙ sym (mul_assoc h.times k a)));
}

multiple_through : (a b n : ℕ) → IsMultiple a b → IsMultiple b n → IsMultiple a n
multiple_through a b n h g = record { times = g.times * h.times; same = g.same ∙ (ap (λ x. g.times * x) h.same ∙ sym (mul_assoc g.times h.times a)) }

pub multiple_none : (a : ℕ) → IsMultiple a 0
multiple_none a = record { times = 0; same = let e : 0 ≡ 0 * a = omega arith in e }

-- ---- alignments: 1, 2, 4 and 8, so the less is a part of the greater

four : (a : ℕ) {X : Type 0} → (a ≡ 1 → X) → (a ≡ 2 → X) → (a ≡ 4 → X) → (a ≡ 8 → X) → IsTrue (is_alignment a) → X
four a f g h k s =
    either (a == 1 || a == 2 || a == 4) (a == 8)
    (λ p. either (a == 1 || a == 2) (a == 4) (λ q. either (a == 1) (a == 2) (λ r. f (eqb-true a 1 r)) (λ r. g (eqb-true a 2 r)) q) (λ q. h (eqb-true a 4 q)) p) (λ p. k (eqb-true a 8 p)) s

of_number : (n q a b : ℕ) → a ≡ n → b ≡ q * n → IsMultiple a b
of_number n q a b e f = record { times = q; same = f ∙ ap (λ x. q * x) (sym e) }

less_aligned : (a b : ℕ) → IsTrue (is_alignment a) → IsTrue (is_alignment b) → a ≤ b → IsMultiple a b
less_aligned a b h g less =
    four a
    (λ e. of_number 1 b a b e (omega arith))
    (λ e. four b (λ f. impossible 2 1 e f (λ l. omega arith)) (λ f. of_number 2 1 a b e f) (λ f. of_number 2 2 a b e f) (λ f. of_number 2 4 a b e f) g)
    (λ e. four b (λ f. impossible 4 1 e f (λ l. omega arith)) (λ f. impossible 4 2 e f (λ l. omega arith)) (λ f. of_number 4 1 a b e f) (λ f. of_number 4 2 a b e f) g)
    (λ e. four b (λ f. impossible 8 1 e f (λ l. omega arith)) (λ f. impossible 8 2 e f (λ l. omega arith)) (λ f. impossible 8 4 e f (λ l. omega arith)) (λ f. of_number 8 1 a b e f) g)
    h
  where
    impossible : (x y : ℕ) → a ≡ x → b ≡ y → (x ≤ y → ⊥) → IsMultiple a b
    impossible x y e f never = let l : x ≤ y = omega (arith, e, f, less) in absurd (never l)

aligned_multiple : (a end : ℕ) → IsTrue (is_alignment a) → IsMultiple a (aligned_up a end)
aligned_multiple zero end h = no_true h
aligned_multiple (suc a) end h = record { times = (end + a) / suc a; same = refl }

-- ---- members

member_multiple : (ds : List StructDef) (end k : ℕ) (ms : List Member) (m : Member) → MembersLieFrom ds end ms → slice_get ms k ≡ Some m → IsTrue (is_alignment (align_of ds (type_view m.ty))) → IsMultiple (align_of ds (type_view m.ty)) m.offset
member_multiple ds end k [] m h e s = absurd (none-some m e)
member_multiple ds end zero (x ∷ ms) m h e s =
    let same : x ≡ m = same_Some x m e in
    let own = align_of ds (type_view m.ty) in
    let multiple = aligned_multiple own end s in
    record { times = multiple.times; same = subst (λ (y : Member). y.offset ≡ aligned_up (align_of ds (type_view y.ty)) end) same h.0 ∙ multiple.same }
member_multiple ds end (suc k) (x ∷ ms) m h e s = member_multiple ds (x.offset + size_of ds (type_view x.ty)) k ms m h.1 e s

member_less : (ds : List StructDef) (k : ℕ) (ms : List Member) (m : Member) → slice_get ms k ≡ Some m → align_of ds (type_view m.ty) ≤ greatest_align ds ms
member_less ds k [] m e = absurd (none-some m e)
member_less ds zero (x ∷ ms) m e =
    subst (λ (y : Member). align_of ds (type_view y.ty) ≤ max (align_of ds (type_view x.ty)) (greatest_align ds ms)) (same_Some x m e) (omega arith)
member_less ds (suc k) (x ∷ ms) m e = omega (arith, member_less ds k ms m e)

-- each stands behind the one before it
members_follow : (ds : List StructDef) (end k : ℕ) (ms : List Member) (m next : Member) → MembersLieFrom ds end ms → slice_get ms k ≡ Some m → slice_get ms (suc k) ≡ Some next → m.offset + size_of ds (type_view m.ty) ≤ next.offset
members_follow ds end k [] m next h e f = absurd (none-some m e)
members_follow ds end zero (x ∷ []) m next h e f = absurd (none-some next f)
members_follow ds end zero (x ∷ y ∷ ms) m next h e f =
    subst (λ (z : Member). z.offset + size_of ds (type_view z.ty) ≤ next.offset) (same_Some x m e)
    (subst (λ (z : Member). x.offset + size_of ds (type_view x.ty) ≤ z.offset) (same_Some y next f)
    (omega (arith, h.1.0, aligned_up_ge (align_of ds (type_view y.ty)) (x.offset + size_of ds (type_view x.ty)))))
members_follow ds end (suc k) (x ∷ ms) m next h e f = members_follow ds (x.offset + size_of ds (type_view x.ty)) k ms m next h.1 e f

list_all_at : {A : Type 0} (p : A → Bool) (xs : List A) (k : ℕ) (x : A) → IsTrue (list_all p xs) → slice_get xs k ≡ Some x → IsTrue (p x)
list_all_at p [] k x h e = absurd (none-some x e)
list_all_at p (y ∷ ys) zero x h e = subst (λ z. IsTrue (p z)) (same_Some y x e) (front (p y) (list_all p ys) h)
list_all_at p (y ∷ ys) (suc k) x h e = list_all_at p ys k x (back (p y) (list_all p ys) h) e

-- ---- parts

module _ (ds : List StructDef) (lawful : All (IsLawfulStruct ds) ds) where
  -- the size of an object is a multiple of its alignment
  size_multiple : (x : PlainType) → IsTrue (is_valid_type ds x) → IsTrue (is_object ds x) → IsMultiple (align_of ds x) (size_of ds x)
  size_multiple Void h o = no_true o
  size_multiple (Int n s) h o = record { times = 1; same = omega arith }
  size_multiple (Pointer x) h o = record { times = 1; same = refl }
  size_multiple (Array x n) h o =
      multiple_times (align_of ds x) (size_of ds x) n
      (size_multiple x (front (is_valid_type ds x) (is_object ds (Array x n)) h) (front (is_object ds x) (nat_le 1 n) (front (is_object ds x && nat_le 1 n) (nat_le (size_of ds x * n) MOST_DATA) o)))
  size_multiple (Struct n) h o = of (slice_get ds n) refl o
    where
      of : (d : Option StructDef) → slice_get ds n ≡ d → IsTrue (is_complete d) → IsMultiple (struct_align d) (struct_size d)
      of None e c = no_true c
      of (Some d) e c = let q = struct_multiple ds lawful n d e c in record { times = q.0; same = q.1 }

  -- a part of a type: an object, at a multiple of its alignment wherever the whole is at one of its own, within the
  -- whole, and before the next one
  pub record IsPart (ty : t.CType) (k : ℕ) (p : ObjectPart) : Type 0 where
    pub type : IsTrue (is_valid_type ds (type_view p.ty))
    pub object : IsTrue (is_object ds (type_view p.ty))
    pub multiple : (place : ℕ) → IsMultiple (align_of ds (type_view ty)) place → IsMultiple (align_of ds (type_view p.ty)) (place + p.place)
    pub within : p.place + size_of ds (type_view p.ty) ≤ size_of ds (type_view ty)
    pub next : (q : ObjectPart) → part_of ds ty (k + 1) ≡ Some q → p.place + size_of ds (type_view p.ty) ≤ q.place

  -- so many elements are within the whole
  times_less : (s k n : ℕ) → suc k ≤ n → s * k + s ≤ s * n
  times_less s k n h =
      let rest = n - suc k in
      let same : n ≡ k + (1 + rest) = omega arith in
      subst (λ x. s * k + s ≤ s * x) (sym same) (omega (arith, mul-add s k (1 + rest), mul-add s 1 rest))

  element_part : (x : t.CType) (n k : ℕ) (p : ObjectPart) → IsTrue (is_valid_type ds (Array (type_view x) n)) → IsTrue (is_object ds (Array (type_view x) n)) → part_of_element ds x n k ≡ Some p
      → IsTrue (is_valid_type ds (type_view p.ty)) × IsTrue (is_object ds (type_view p.ty)) × (p.place ≡ size_of ds (type_view x) * k) × (type_view p.ty ≡ type_view x) × (suc k ≤ n)
  element_part x n k p h o e = of (nat_lt k n) refl e
    where
      of : (b : Bool) → nat_lt k n ≡ b → (if b then Some (record { place = size_of ds (type_view x) * k; ty = x }) else None) ≡ Some p
          → IsTrue (is_valid_type ds (type_view p.ty)) × IsTrue (is_object ds (type_view p.ty)) × (p.place ≡ size_of ds (type_view x) * k) × (type_view p.ty ≡ type_view x) × (suc k ≤ n)
      of true less e =
          let same = same_Some (record { place = size_of ds (type_view x) * k; ty = x }) p e in
          let own = type_view x in (
            subst (λ (q : ObjectPart). IsTrue (is_valid_type ds (type_view q.ty))) same (front (is_valid_type ds own) (is_object ds (Array own n)) h),
            subst (λ (q : ObjectPart). IsTrue (is_object ds (type_view q.ty))) same (front (is_object ds own) (nat_le 1 n) (front (is_object ds own && nat_le 1 n) (nat_le (size_of ds own * n) MOST_DATA) o)),
            sym (ap (λ (q : ObjectPart). q.place) same),
            sym (ap (λ (q : ObjectPart). type_view q.ty) same),
            ltb-true k n less,
          )
      of false less e = absurd (none-some p e)

  array_part : (ty x : t.CType) (n k : ℕ) (p : ObjectPart) → type_view ty ≡ Array (type_view x) n → ((j : ℕ) → part_of ds ty j ≡ part_of_element ds x n j) → IsTrue (is_valid_type ds (Array (type_view x) n)) → IsTrue (is_object ds (Array (type_view x) n))
      → part_of_element ds x n k ≡ Some p → IsPart ty k p
  array_part ty x n k p view parts h o e =
      let own = type_view x in
      let s = size_of ds own in
      let q = element_part x n k p h o e in
      let kind : IsTrue (is_valid_type ds own) = front (is_valid_type ds own) (is_object ds (Array own n)) h in
      let one : IsTrue (is_object ds own) = front (is_object ds own) (nat_le 1 n) (front (is_object ds own && nat_le 1 n) (nat_le (s * n) MOST_DATA) o) in
      record {
        type = q.0;
        object = q.1;
        multiple = λ place m.
            subst (λ v. IsMultiple (align_of ds v) (place + p.place)) (sym q.3)
            (subst (λ v. IsMultiple (align_of ds own) (place + v)) (sym q.2)
            (multiple_sum (align_of ds own) place (s * k) (subst (λ v. IsMultiple (align_of ds v) place) view m) (multiple_times (align_of ds own) s k (size_multiple own kind one))));
        within =
            subst (λ v. p.place + size_of ds (type_view p.ty) ≤ size_of ds v) (sym view)
            (subst (λ v. v + size_of ds (type_view p.ty) ≤ s * n) (sym q.2) (subst (λ v. s * k + size_of ds v ≤ s * n) (sym q.3) (times_less s k n q.4)));
        next = λ r f.
            let later = element_part x n (k + 1) r h o (sym (parts (k + 1)) ∙ f) in
            let size : size_of ds (type_view p.ty) ≡ s = ap (size_of ds) q.3 in
            let here : p.place ≡ s * k = q.2 in
            let there : r.place ≡ s * (k + 1) = later.2 in
            omega (arith, size, here, there, mul-add s k 1);
      }

  -- ---- members of a struct

  module _ (n : ℕ) (d : StructDef) (there : slice_get ds n ≡ Some d) (complete : d.complete ≡ true) where
    whole : IsCompleteStruct ds d
    whole = complete_at ds lawful n d there complete

    abbrev Holds : ℕ → Member → Type 0
    Holds k m = slice_get d.members k ≡ Some m

    member_type : (k : ℕ) (m : Member) → Holds k m → IsTrue (is_valid_type ds (type_view m.ty)) × IsTrue (is_object ds (type_view m.ty))
    member_type k m e =
        let own = type_view m.ty in
        let all = list_all_at (λ (x : Member). is_object_type ds (type_view x.ty)) d.members k m whole.types e in
        let both = front (is_valid_type ds own && is_object ds own) (nat_le (depth_of ds own) most_depth) all in
        (front (is_valid_type ds own) (is_object ds own) both, back (is_valid_type ds own) (is_object ds own) both)

    member_place : (k : ℕ) (m : Member) (place : ℕ) → Holds k m → IsMultiple d.align place → IsMultiple (align_of ds (type_view m.ty)) (place + m.offset)
    member_place k m place e h =
        let own = type_view m.ty in
        let kind = member_type k m e in
        let small = aligned_type ds lawful own kind.0 kind.1 in
        let less : align_of ds own ≤ d.align = omega (arith, whole.layout.align, member_less ds k d.members m e) in
        multiple_sum (align_of ds own) place m.offset
        (multiple_through (align_of ds own) d.align place (less_aligned (align_of ds own) d.align small (struct_aligned_at ds lawful n d there complete) less) h)
        (member_multiple ds 0 k d.members m whole.layout.members e small)

  abbrev IsMemberPart : ℕ → ℕ → ObjectPart → Type 0
  IsMemberPart n k p = part_of_member (struct_member (slice_get ds n) k) ≡ Some p

  member_part : (n k : ℕ) (p : ObjectPart) → IsTrue (is_complete (slice_get ds n)) → IsMemberPart n k p → IsPart (t.Struct n) k p
  unfolding opens part_of
  member_part n k p c e = of (slice_get ds n) refl c e
    where
      next_of : (d : StructDef) (m : Member) → slice_get ds n ≡ Some d → d.complete ≡ true → slice_get d.members k ≡ Some m → (o : Option Member) → slice_get d.members (k + 1) ≡ o → (q : ObjectPart) → part_of_member o ≡ Some q
          → m.offset + size_of ds (type_view m.ty) ≤ q.place
      next_of d m s c e None f q g = absurd (none-some q g)
      next_of d m s c e (Some next) f q g =
          let further : k + 1 ≡ suc k = omega arith in
          subst (λ (r : ObjectPart). m.offset + size_of ds (type_view m.ty) ≤ r.place) (same_Some (record { place = next.offset; ty = next.ty }) q g)
          (members_follow ds 0 k d.members m next (whole n d s c).layout.members e (subst (λ j. slice_get d.members j ≡ Some next) further f))

      made : (d : StructDef) → slice_get ds n ≡ Some d → d.complete ≡ true → (m : Member) → slice_get d.members k ≡ Some m → IsPart (t.Struct n) k (record { place = m.offset; ty = m.ty })
      made d s c m e = record {
        type = (member_type n d s c k m e).0;
        object = (member_type n d s c k m e).1;
        multiple = λ place h. member_place n d s c k m place e (subst (λ o. IsMultiple (struct_align o) place) s h);
        within = subst (λ o. m.offset + size_of ds (type_view m.ty) ≤ struct_size o) (sym s) (members_within ds lawful n k d m s e);
        next = λ q f. next_of d m s c e (slice_get d.members (k + 1)) refl q (subst (λ o. part_of_member (struct_member o (k + 1)) ≡ Some q) s f);
      }

      at_member : (d : StructDef) → slice_get ds n ≡ Some d → d.complete ≡ true → (o : Option Member) → slice_get d.members k ≡ o → part_of_member o ≡ Some p → IsPart (t.Struct n) k p
      at_member d s c None f e = absurd (none-some p e)
      at_member d s c (Some m) f e = subst (IsPart (t.Struct n) k) (same_Some (record { place = m.offset; ty = m.ty }) p e) (made d s c m f)

      of : (o : Option StructDef) → slice_get ds n ≡ o → IsTrue (is_complete o) → part_of_member (struct_member o k) ≡ Some p → IsPart (t.Struct n) k p
      of None s c e = no_true c
      of (Some d) s c e = at_member d s c (slice_get d.members k) refl e

  pub is_part : (ty : t.CType) (k : ℕ) (p : ObjectPart) → IsTrue (is_valid_type ds (type_view ty)) → IsTrue (is_object ds (type_view ty)) → part_of ds ty k ≡ Some p → IsPart ty k p
  unfolding opens part_of
  is_part t.Void k p h o e = absurd (none-some p e)
  is_part (t.Int n s) k p h o e = absurd (none-some p e)
  is_part (t.Pointer' _ x) k p h o e = absurd (none-some p e)
  is_part (t.Array' u (t.more_of-CType x t.end_of-CType) n) k p h o e = array_part (t.Array' u (t.more_of-CType x t.end_of-CType) n) x n k p refl (λ j. refl) h o e
  is_part (t.Struct n) k p h o e = member_part n k p o e

-- ---- parts by the structs of the notes are those of the context

module _ (ds es : List StructDef) (known : AreKnown ds es) where
  pub part_known : (ty : t.CType) (k : ℕ) → IsTrue (is_object ds (type_view ty)) → part_of es ty k ≡ part_of ds ty k
  unfolding opens part_of
  part_known t.Void k o = refl
  part_known (t.Int n s) k o = refl
  part_known (t.Pointer' _ x) k o = refl
  part_known (t.Array' _ (t.more_of-CType x t.end_of-CType) n) k o =
      ap (λ s. if nat_lt k n then Some (record { place = s * k; ty = x }) else None)
      (known_size ds es known (type_view x) (front (is_object ds (type_view x)) (nat_le 1 n) (front (is_object ds (type_view x) && nat_le 1 n) (nat_le (size_of ds (type_view x) * n) MOST_DATA) o)))
  part_known (t.Struct n) k o = ap (λ d. part_of_member (struct_member d k)) (known n o)
