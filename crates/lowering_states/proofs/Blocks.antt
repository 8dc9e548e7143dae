-- The blocks of code have its items where they stand.
use Rattle.std.proofs.Common.{◌≡◌, ◌<◌, ℕ, suc, List, [], ◌∷◌, ◌++◌, length, Some, None, refl, sym, ap, ◌∙◌, subst, arith, append_assoc, append-nil, length-append}
use Rattle.std.specs.Prelude.{slice_get}
use Rattle.std.proofs.Math.Seq.{get_or-append_seam}
use Rattle.std.proofs.lemmas.Option.{slice_get-get_or, slice_get_past}
use Rattle.suifvm_ir.specs.declared.insn.VmBranchOp.TheVariants.{IfTrue}
use Rattle.suifvm_ir.specs.declared.insn.VmInsn.{VmInsn}
use Rattle.suifvm_ir.specs.declared.insn.VmInsn.TheVariants as n
use Rattle.lowering_code.specs.declared.item.CodeItem.{CodeItem}
use Rattle.lowering_code.specs.declared.item.CodeItem.TheVariants.{Start, Plain, Jump, Branch, Loop, Enter, Again, Repeat, Return}
use Rattle.lowering_code.specs.Items.{block_total}
use Rattle.lowering_code.specs.Layout.{Layout, with_insn, end_block, end_with, open_loop, close_loop, block_with, head_or_zero, outer_heads, add_item, with_items, no_block, blocks_of}
use Rattle.lowering_states.specs.Places.{CodePlace, next_place, start_of_block, in_block, stands_at, HasInsns, HasItems}
use Rattle.lowering_states.specs.Laws.{BlocksHaveItems}

seam : {A : Type 0} (a : List A) (x : A) (b : List A) → slice_get (a ++ x ∷ b) (length a) ≡ Some x
seam a x b =
    let within : length a < length (a ++ x ∷ b) = omega (arith, length-append a (x ∷ b)) in
    slice_get-get_or (a ++ x ∷ b) (length a) x within ∙ ap Some (get_or-append_seam a x b x)

-- what is done stays, and the block at hand goes on
record Stands (l : Layout) (blocks : List (List VmInsn)) : Type 0 where
  more : List VmInsn
  rest : List (List VmInsn)
  is : blocks ≡ l.blocks ++ (l.insns ++ more) ∷ rest

stands_end : (l : Layout) (w : List (List VmInsn)) → Stands (end_block l) w → Stands l w
stands_end l w h =
    let next : List (List VmInsn) = h.more ∷ h.rest in
    record { more = []; rest = next; is = h.is ∙ append_assoc l.blocks (l.insns ∷ []) next ∙ ap (λ is. l.blocks ++ is ∷ next) (sym (append-nil l.insns)) }

stands_insn : (i : VmInsn) (l : Layout) (w : List (List VmInsn)) → Stands (with_insn i l) w → Stands l w
stands_insn i l w h = record { more = i ∷ h.more; rest = h.rest; is = h.is ∙ ap (λ is. l.blocks ++ is ∷ h.rest) (append_assoc l.insns (i ∷ []) h.more) }

stands_end_with : (i : VmInsn) (l : Layout) (w : List (List VmInsn)) → Stands (end_with i l) w → Stands l w
stands_end_with i l w h = stands_insn i l w (stands_end (with_insn i l) w h)

stands_open : (l : Layout) (w : List (List VmInsn)) → Stands (open_loop l) w → Stands l w
stands_open l w h =
    let other : Layout = record l { heads = length l.blocks ∷ l.heads } in
    let k = stands_insn n.Mark other w h in record { more = k.more; rest = k.rest; is = k.is }

stands_close : (l : Layout) (w : List (List VmInsn)) → Stands (close_loop l) w → Stands l w
stands_close l w h = record { more = h.more; rest = h.rest; is = h.is }

stands_item : (i : CodeItem) (l : Layout) (w : List (List VmInsn)) → Stands (add_item i l) w → Stands l w
stands_item Start l w h = stands_end l w h
stands_item (Plain i) l w h = stands_insn i l w h
stands_item (Jump name) l w h = stands_end_with _ l w h
stands_item (Branch op ty source name) l w h = stands_end_with _ l w h
stands_item (Loop name) l w h = stands_end_with _ l w (stands_open _ w h)
stands_item Enter l w h = stands_end l w (stands_open _ w h)
stands_item (Again ty source) l w h = stands_end_with _ l w (stands_close _ w h)
stands_item Repeat l w h = stands_end_with _ l w (stands_close _ w h)
stands_item (Return value) l w h = stands_end_with _ l w h

-- the blocks that a layout comes to
abbrev laid : List VmInsn → List CodeItem → Layout → List (List VmInsn)
laid end is l = (with_items is l).blocks ++ ((with_items is l).insns ++ end) ∷ []

stands : (end : List VmInsn) (is : List CodeItem) (l : Layout) → Stands l (laid end is l)
stands end [] l = record { more = end; rest = []; is = refl }
stands end (i ∷ is) l = stands_item i l _ (stands end is (add_item i l))

stood : (end : List VmInsn) (is : List CodeItem) (l : Layout) (w : List (List VmInsn)) → laid end is l ≡ w → Stands l w
stood end is l w e = subst (Stands l) e (stands end is l)

-- where the next instruction will stand
abbrev place_of : Layout → CodePlace
place_of l = record { block = length l.blocks; at = length l.insns }

at_in : (w : List (List VmInsn)) (l : Layout) (k : ℕ) (h : Stands l w) → stands_at w (record { block = length l.blocks; at = k }) ≡ Some (slice_get (l.insns ++ h.more) k)
at_in w l k h = ap (λ c. in_block (slice_get c (length l.blocks)) k) h.is ∙ ap (λ o. in_block o k) (seam l.blocks (l.insns ++ h.more) h.rest)

at_insn : (w : List (List VmInsn)) (i : VmInsn) (l : Layout) → Stands (with_insn i l) w → stands_at w (place_of l) ≡ Some (Some i)
at_insn w i l h = at_in w (with_insn i l) (length l.insns) h ∙ ap Some (ap (λ is. slice_get is (length l.insns)) (append_assoc l.insns (i ∷ []) h.more) ∙ seam l.insns i h.more)

at_end_with : (w : List (List VmInsn)) (i : VmInsn) (l : Layout) → Stands (end_with i l) w → stands_at w (place_of l) ≡ Some (Some i)
at_end_with w i l h = at_insn w i l (stands_end (with_insn i l) w h)

at_end : (w : List (List VmInsn)) (l : Layout) → Stands (end_block l) w → stands_at w (place_of l) ≡ Some None
unfolding stands_end
at_end w l h = at_in w l (length l.insns) (stands_end l w h) ∙ ap Some (slice_get_past (l.insns ++ []) (length l.insns) (omega (arith, length-append l.insns [])))

one_more : {A : Type 0} (xs : List A) (x : A) → length (xs ++ x ∷ []) ≡ suc (length xs)
one_more xs x = omega (arith, length-append xs (x ∷ []))

-- behind an instruction that ends its block
at_past : (w : List (List VmInsn)) (i : VmInsn) (l : Layout) → Stands (end_with i l) w → stands_at w (next_place (place_of l)) ≡ Some None
at_past w i l h = ap (λ k. stands_at w (record { block = length l.blocks; at = k })) (sym (one_more l.insns i)) ∙ at_end w (with_insn i l) h

-- the end of the last block
has_end : (w : List (List VmInsn)) (last : ℕ) (end : List VmInsn) (blocks : List (List VmInsn)) (front back : List VmInsn) → w ≡ blocks ++ (front ++ back) ∷ []
    → HasInsns w last end (record { block = length blocks; at = length front }) back
has_end w last end blocks front [] e = tt
has_end w last end blocks front (i ∷ back) e =
    let here : stands_at w (record { block = length blocks; at = length front }) ≡ Some (Some i) =
    ap (λ c. in_block (slice_get c (length blocks)) (length front)) e ∙ ap (λ o. in_block o (length front)) (seam blocks (front ++ i ∷ back) []) ∙ ap Some (seam front i back) in
    let next = has_end w last end blocks (front ++ i ∷ []) back (e ∙ ap (λ is. blocks ++ is ∷ []) (sym (append_assoc front (i ∷ []) back))) in
    (here, subst (λ k. HasInsns w last end (record { block = length blocks; at = k }) back) (one_more front i) next)

module _ (end : List VmInsn) (w : List (List VmInsn)) where
  abbrev Has : Layout → (heads : List ℕ) → CodePlace → List CodeItem → Type 0
  Has l heads p is = HasItems w l.last end heads p is

  on_block : (l : Layout) (heads : List ℕ) (is : List CodeItem) (xs : List (List VmInsn)) (x : List VmInsn) → Has l heads (start_of_block (length (xs ++ x ∷ []))) is → Has l heads (start_of_block (suc (length xs))) is
  on_block l heads is xs x h = subst (λ b. Has l heads (start_of_block b) is) (one_more xs x) h

  on_loop : (l : Layout) (heads : List ℕ) (is : List CodeItem) (xs : List (List VmInsn)) (x : List VmInsn)
      → Has l (length (xs ++ x ∷ []) ∷ heads) (next_place (start_of_block (length (xs ++ x ∷ [])))) is → Has l (suc (length xs) ∷ heads) (next_place (start_of_block (suc (length xs)))) is
  on_loop l heads is xs x h = subst (λ b. Has l (b ∷ heads) (next_place (start_of_block b)) is) (one_more xs x) h

  has_laid : (is : List CodeItem) (l : Layout) → laid end is l ≡ w → Has l l.heads (place_of l) is
  has_laid [] l e = has_end w l.last end l.blocks l.insns end (sym e)
  has_laid (Start ∷ is) l e =
      (at_end w l (stood end is (end_block l) w e), on_block l l.heads is l.blocks l.insns (has_laid is (end_block l) e))
  has_laid (Plain i ∷ is) l e = (
    at_insn w i l (stood end is (with_insn i l) w e),
    subst (λ k. Has l l.heads (record { block = length l.blocks; at = k }) is) (one_more l.insns i) (has_laid is (with_insn i l) e),
  )
  has_laid (Jump name ∷ is) l e =
      (at_end_with w _ l (stood end is (add_item (Jump name) l) w e), on_block l l.heads is l.blocks _ (has_laid is (add_item (Jump name) l) e))
  has_laid (Branch op ty source name ∷ is) l e =
      let h = stood end is (add_item (Branch op ty source name) l) w e in
      (at_end_with w _ l h, at_past w _ l h, on_block l l.heads is l.blocks _ (has_laid is (add_item (Branch op ty source name) l) e))
  has_laid (Loop name ∷ is) l e =
      let jump : VmInsn = n.Jump (block_with name l) in
      let l1 : Layout = end_with jump l in
      let l2 : Layout = record l1 { heads = length l1.blocks ∷ l1.heads } in
      let h : Stands (open_loop l1) w = stood end is (add_item (Loop name) l) w e in (
        at_end_with w jump l (stands_open l1 w h),
        ap (λ b. stands_at w (start_of_block b)) (sym (one_more l.blocks (l.insns ++ jump ∷ []))) ∙ at_insn w n.Mark l2 h,
        on_loop l l.heads is l.blocks (l.insns ++ jump ∷ []) (has_laid is (open_loop l1) e),
      )
  has_laid (Enter ∷ is) l e =
      let l1 : Layout = end_block l in
      let l2 : Layout = record l1 { heads = length l1.blocks ∷ l1.heads } in
      let h : Stands (open_loop l1) w = stood end is (add_item Enter l) w e in (
        at_end w l (stands_open l1 w h),
        ap (λ b. stands_at w (start_of_block b)) (sym (one_more l.blocks l.insns)) ∙ at_insn w n.Mark l2 h,
        on_loop l l.heads is l.blocks l.insns (has_laid is (open_loop l1) e),
      )
  has_laid (Again ty source ∷ is) l e =
      let branch : VmInsn = n.Branch IfTrue ty source (head_or_zero l.heads) in
      let l1 : Layout = end_with branch l in
      let h : Stands l1 w = stands_close l1 w (stood end is (add_item (Again ty source) l) w e) in
      (at_end_with w branch l h, at_past w branch l h, on_block l (outer_heads l.heads) is l.blocks _ (has_laid is (close_loop l1) e))
  has_laid (Repeat ∷ is) l e =
      let jump : VmInsn = n.Jump (head_or_zero l.heads) in
      let l1 : Layout = end_with jump l in
      let h : Stands l1 w = stands_close l1 w (stood end is (add_item Repeat l) w e) in
      (at_end_with w jump l h, on_block l (outer_heads l.heads) is l.blocks _ (has_laid is (close_loop l1) e))
  has_laid (Return value ∷ is) l e =
      (at_end_with w _ l (stood end is (add_item (Return value) l) w e), on_block l l.heads is l.blocks _ (has_laid is (add_item (Return value) l) e))

pub blocks_have_items : BlocksHaveItems
blocks_have_items end is = record {
  has = has_laid end (blocks_of end is) is (no_block (block_total is)) refl;
  size = omega arith;
}
