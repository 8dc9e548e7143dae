-- How cells are kept: a mark for each, and the table of pointers.
use Rattle.std.proofs.Common.{◌≡◌, ◌≢◌, ℕ, zero, suc, ◌+◌, ◌/◌, ◌%◌, ◌<◌, List, [], ◌∷◌, ◌++◌, length, get_or, set, refl, sym, ap, ◌∙◌, subst, arith, length-set, inl, inr}
use Rattle.std.proofs.lemmas.List.{ext_get_or, get_or-set_same, get_or-set_other, get_or-replicate, length-replicate, get_or_read}
use Rattle.std.proofs.lemmas.Option.{slice_get_read}
use Rattle.std.specs.Prelude.{slice_get, Some, replicate}
use Rattle.std.proofs.lemmas.List.FromFn.{length-map-range_with_len, get_or-map-range_with_len}
use Rattle.std.proofs.lemmas.Bool.{cases_eq}
use Rattle.mem_model.specs.model.Representation.{homes_of, cell_of, cells_kept}
use Rattle.mem_model.specs.model.Table.{pointer_at}
use Rattle.mem_model.specs.declared.value.Ptr.{Ptr}
use Rattle.mem_model.specs.declared.value.Cell.{Cell}
use Rattle.mem_model.specs.declared.value.Cell.TheVariants.{Empty, Part}
use Rattle.mem_model.specs.declared.cells.Mark.{Mark}
use Rattle.mem_model.specs.declared.cells.Mark.TheVariants.{Unwritten, Number, Home, Stray}

-- a default at the end of a list changes no look-up with that default
pub get_or-push_default : {X : Type 0} (xs : List X) (i : ℕ) (d : X) → get_or (xs ++ d ∷ []) i d ≡ get_or xs i d
get_or-push_default [] zero d = refl
get_or-push_default [] (suc i) d = refl
get_or-push_default (x ∷ xs) zero d = refl
get_or-push_default (x ∷ xs) (suc i) d = get_or-push_default xs i d

pub length-cells_kept : (marks : List Mark) (ps : List Ptr) → length (cells_kept marks ps) ≡ length marks
unfolding cells_kept
length-cells_kept marks ps = length-map-range_with_len _ 0 (length marks)

pub get_or-cells_kept : (marks : List Mark) (ps : List Ptr) (k : ℕ) (d : Cell) → k < length marks → get_or (cells_kept marks ps) k d ≡ cell_of ps (homes_of (length marks)) k (get_or marks k Unwritten)
unfolding cells_kept
get_or-cells_kept marks ps k d within =
    get_or-map-range_with_len (λ at. cell_of ps (homes_of (length marks)) at (get_or marks at Unwritten)) 0 (length marks) k k d within (omega arith)

-- one mark is set, and no other cell reads another pointer
pub cells_kept-set : (marks : List Mark) (ps qs : List Ptr) (at : ℕ) (mark : Mark) (cell : Cell) → at < length marks →
    cell_of qs (homes_of (length marks)) at mark ≡ cell →
    ((k : ℕ) → k < length marks → k ≢ at → cell_of qs (homes_of (length marks)) k (get_or marks k Unwritten) ≡ cell_of ps (homes_of (length marks)) k (get_or marks k Unwritten)) →
    cells_kept (set marks at mark) qs ≡ set (cells_kept marks ps) at cell
cells_kept-set marks ps qs at mark cell within here others =
    ext_get_or Empty _ _
    (length-cells_kept (set marks at mark) qs ∙ length-set marks at mark ∙ sym (length-cells_kept marks ps) ∙ sym (length-set (cells_kept marks ps) at cell))
    (λ k h. each k (subst (λ n. k < n) (length-cells_kept (set marks at mark) qs ∙ length-set marks at mark) h))
  where
    same_len : length (set marks at mark) ≡ length marks
    same_len = length-set marks at mark

    read : (k : ℕ) → k < length marks → get_or (cells_kept (set marks at mark) qs) k Empty ≡ cell_of qs (homes_of (length marks)) k (get_or (set marks at mark) k Unwritten)
    read k h = subst (λ n. get_or (cells_kept (set marks at mark) qs) k Empty ≡ cell_of qs (homes_of n) k (get_or (set marks at mark) k Unwritten)) same_len (get_or-cells_kept (set marks at mark) qs k Empty (subst (λ n. k < n) (sym same_len) h))

    at_same : get_or (cells_kept (set marks at mark) qs) at Empty ≡ get_or (set (cells_kept marks ps) at cell) at Empty
    at_same = read at within ∙ ap (cell_of qs (homes_of (length marks)) at) (get_or-set_same marks at mark Unwritten within) ∙ here ∙ sym (get_or-set_same (cells_kept marks ps) at cell Empty (subst (λ n. at < n) (sym (length-cells_kept marks ps)) within))

    at_other : (k : ℕ) → k < length marks → k ≢ at → get_or (cells_kept (set marks at mark) qs) k Empty ≡ get_or (set (cells_kept marks ps) at cell) k Empty
    at_other k h ne = read k h ∙ ap (cell_of qs (homes_of (length marks)) k) (get_or-set_other marks at k mark Unwritten ne) ∙ others k h ne ∙ sym (get_or-cells_kept marks ps k Empty h) ∙ sym (get_or-set_other (cells_kept marks ps) at k cell Empty ne)

    each : (k : ℕ) → k < length marks → get_or (cells_kept (set marks at mark) qs) k Empty ≡ get_or (set (cells_kept marks ps) at cell) k Empty
    each k h = elim (cases_eq k at) [ inl e ↦ subst (λ j. get_or (cells_kept (set marks at mark) qs) j Empty ≡ get_or (set (cells_kept marks ps) at cell) j Empty) (sym e) at_same | inr ne ↦ at_other k h ne ]

-- a pointer is put into a home that no other cell reads
pub cell_of-home : (ps qs : List Ptr) (homes at k : ℕ) (mark : Mark) → at / 8 < homes →
    ((s : ℕ) → s ≢ at / 8 → pointer_at qs s ≡ pointer_at ps s) → (k / 8 ≡ at / 8 → mark ≢ Home) →
    cell_of qs homes k mark ≡ cell_of ps homes k mark
cell_of-home ps qs homes at k Unwritten below others free = refl
cell_of-home ps qs homes at k (Number b) below others free = refl
cell_of-home ps qs homes at k Home below others free = ap (λ p. Part p (k % 8)) (others (k / 8) (λ e. free e refl))
cell_of-home ps qs homes at k (Stray j) below others free =
    let ne : homes + k ≢ at / 8 = omega arith in ap (λ p. Part p j) (others (homes + k) ne)

-- a pointer is put into the slot of another cell
pub cell_of-stray : (ps qs : List Ptr) (homes at k : ℕ) (mark : Mark) → k / 8 < homes → k ≢ at →
    ((s : ℕ) → s ≢ homes + at → pointer_at qs s ≡ pointer_at ps s) →
    cell_of qs homes k mark ≡ cell_of ps homes k mark
cell_of-stray ps qs homes at k Unwritten below apart others = refl
cell_of-stray ps qs homes at k (Number b) below apart others = refl
cell_of-stray ps qs homes at k Home below apart others =
    let ne : k / 8 ≢ homes + at = omega arith in ap (λ p. Part p (k % 8)) (others (k / 8) ne)
cell_of-stray ps qs homes at k (Stray j) below apart others =
    let ne : homes + k ≢ homes + at = omega arith in ap (λ p. Part p j) (others (homes + k) ne)

pub same_part : (p q : Ptr) (j k : ℕ) → p ≡ q → j ≡ k → Part p j ≡ Part q k
same_part p q j k e h = cc

-- what is read where a mark says so
pub slice_get-cells_kept : (marks : List Mark) (ps : List Ptr) (xs : List Cell) (k : ℕ) (mark : Mark) (cell : Cell) → cells_kept marks ps ≡ xs → k < length marks →
    get_or marks k Unwritten ≡ mark → cell_of ps (homes_of (length marks)) k mark ≡ cell → slice_get xs k ≡ Some cell
slice_get-cells_kept marks ps xs k mark cell is within mark_at read =
    let n : length marks ≡ length xs = sym (length-cells_kept marks ps) ∙ ap length is in
    slice_get_read xs (length marks) k cell n within
    (sym (ap (λ ys. get_or ys k cell) (sym is) ∙ get_or-cells_kept marks ps k cell within ∙ ap (cell_of ps (homes_of (length marks)) k) mark_at ∙ read))

pub cells_kept-none : (ps : List Ptr) (marks : List Mark) → marks ≡ [] → cells_kept marks ps ≡ []
unfolding cells_kept
cells_kept-none ps marks e = ap (λ ms. cells_kept ms ps) e

pub cells_kept-fresh : (ps : List Ptr) (marks : List Mark) (size : ℕ) → marks ≡ replicate size Unwritten → cells_kept marks ps ≡ replicate size Empty
cells_kept-fresh ps marks size e =
    ext_get_or Empty _ _ (length-cells_kept marks ps ∙ ap length e ∙ length-replicate size Unwritten ∙ sym (length-replicate size Empty)) each
  where
    len : length marks ≡ size
    len = ap length e ∙ length-replicate size Unwritten

    each : (k : ℕ) → k < length (cells_kept marks ps) → get_or (cells_kept marks ps) k Empty ≡ get_or (replicate size Empty) k Empty
    each k h =
        let within : k < length marks = subst (λ n. k < n) (length-cells_kept marks ps) h in
        let small : k < size = subst (λ n. k < n) len within in
        get_or-cells_kept marks ps k Empty within ∙ ap (cell_of ps (homes_of (length marks)) k) (ap (λ ms. get_or ms k Unwritten) e ∙ get_or-replicate size k Unwritten Unwritten small) ∙ sym (get_or-replicate size k Empty Empty small)

-- the mark that was read
pub mark_at : (marks : List Mark) (k : ℕ) (read mark : Mark) → k < length marks → read ≡ get_or marks k read → read ≡ mark → get_or marks k Unwritten ≡ mark
mark_at marks k read mark within is same = sym (get_or_read marks k read within is Unwritten) ∙ same
