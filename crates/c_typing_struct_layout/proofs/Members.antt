-- Members in their places, one by one.
use Rattle.std.proofs.Common.{◌≡◌, ℕ, suc, ◌+◌, ◌<◌, ◌≤◌, Bool, true, false, cond, List, [], ◌∷◌, Option, Some, None, refl, sym, ap, ◌∙◌, length, drop, get_or, drop-cons, add-one, nat_le, arith}
use Rattle.std.proofs.lemmas.Bool.Decides.{nat_tests}
use Rattle.mem_objects.specs.declared.TheConstants.{MOST_DATA}
use Rattle.c_typed_tree.specs.declared.types.StructDef.{StructDef}
use Rattle.c_typed_tree.specs.Layout.{align_of}
use Rattle.c_typed_tree.specs.View.{type_view}
use Rattle.c_typing_struct_layout.specs.declared.fields.Field.{Field}
use Rattle.c_typing_struct_layout.specs.declared.fields.Placement.{Placement}
use Rattle.c_typing_struct_layout.specs.declared.places.Span.{Span}
use Rattle.c_typing_struct_layout.specs.model.Spans.{span, placement_of_fields}
use Rattle.c_typing_struct_layout.specs.StructLayout.{offset_after, end_after, members_from, end_behind}
use Rattle.c_typing_struct_layout.proofs.Rounding.{aligned_up_ge}

pub behind_ge : (ds : List StructDef) (end : ℕ) (fs : List Field) → end ≤ end_behind ds end fs
behind_ge ds end [] = omega arith
behind_ge ds end (f ∷ fs) =
    omega (arith, aligned_up_ge (align_of ds (type_view f.ty)) end, behind_ge ds (end_after ds end f) fs)

module _ (ds : List StructDef) (fs : List Field) (i : ℕ) (x : Field) (within : i < length fs)
    (item : x ≡ get_or fs i x) where
  here : drop i fs ≡ x ∷ drop (i + 1) fs
  here =
      drop-cons fs i x within ∙ (ap (λ y. y ∷ drop (suc i) fs) (sym item) ∙ ap (λ k. x ∷ drop k fs) (sym (add-one i)))

  pub ends_more : (all end : ℕ) → all ≡ end_behind ds end (drop i fs)
      → all ≡ end_behind ds (end_after ds end x) (drop (i + 1) fs)
  ends_more all end so_far = so_far ∙ ap (end_behind ds end) here

  -- an end past the data stays past the data
  pub past_data : (all end : ℕ) → all ≡ end_behind ds end (drop i fs) → MOST_DATA < end_after ds end x → MOST_DATA < all
  past_data all end so_far past =
      omega (arith, ends_more all end so_far, behind_ge ds (end_after ds end x) (drop (i + 1) fs))

-- where no span was found
pub no_span : (ds : List StructDef) (end : ℕ) (f : Field) (r : Option Span) → r ≡ span ds end f → r ≡ None
    → MOST_DATA < end_after ds end f
no_span ds end f r is none = by (nat_le (end_after ds end f) MOST_DATA) refl (sym is ∙ none)
  where
    by : (b : Bool) → nat_le (end_after ds end f) MOST_DATA ≡ b
        → ◌≡◌ {A = Option Span} (cond b (Some (record { from = offset_after ds end f; to = end_after ds end f })) None) None
        → MOST_DATA < end_after ds end f
    by true e h = let clash : ⊥ = cc in absurd clash
    by false e h = grind (arith, nat_tests)

-- past the data nothing is placed
pub none_placed : (ds : List StructDef) (fs : List Field) → MOST_DATA < end_behind ds 0 fs
    → ◌≡◌ {A = Option Placement} None (placement_of_fields ds fs)
none_placed ds fs past = by (nat_le (end_behind ds 0 fs) MOST_DATA) refl
  where
    by : (b : Bool) → nat_le (end_behind ds 0 fs) MOST_DATA ≡ b
        → ◌≡◌ {A = Option Placement} None
        (cond b (Some (record { members = members_from ds 0 fs; end = end_behind ds 0 fs })) None)
    by true e = absurd (grind (arith, nat_tests))
    by false e = refl
