-- One turn of the loops over the objects of a call, and their ends.
use Rattle.std.proofs.Common.{◌≡◌, ℕ, suc, ◌+◌, ◌-◌, ◌<◌, ◌≤◌, List, length, map, drop, get_or, true, sym, ap, ◌∙◌, arith}
use Rattle.std.proofs.lemmas.List.{at_drop_more, at_drop_all}
use Rattle.mem_model.specs.Memory.{Memory, begin_object, begin_objects, end_object, end_objects}
use Rattle.pass_core.specs.declared.function.MemoryLocal.{MemoryLocal}

abbrev sizes : List MemoryLocal → List ℕ
sizes xs = map (λ o. o.size) xs

pub begin_next : (m new : Memory) (objects : List MemoryLocal) (i : ℕ) (o : MemoryLocal) → i < length objects → o ≡ get_or objects i o → new ≡ begin_object m o.size true → begin_objects new (map (λ x. x.size) (drop (i + 1) objects)) ≡ begin_objects m (map (λ x. x.size) (drop i objects))
begin_next m new objects i o within read is =
    ap (λ n. begin_objects n (sizes (drop (i + 1) objects))) (is ∙ ap (λ (x : MemoryLocal). begin_object m x.size true) read)
    ∙ sym (at_drop_more (λ xs. begin_objects m (sizes xs)) objects i o within)

pub begin_end : (m : Memory) (objects : List MemoryLocal) (i : ℕ) → length objects ≤ i → begin_objects m (map (λ x. x.size) (drop i objects)) ≡ m
begin_end m objects i past = at_drop_all (λ xs. begin_objects m (sizes xs)) objects i past

pub end_next : (m new : Memory) (first count k : ℕ) → k < count → new ≡ end_object m (first + k) → end_objects new (first + (k + 1)) (count - (k + 1)) ≡ end_objects m (first + k) (count - k)
end_next m new first count k within is =
    ap (λ n. end_objects n (first + (k + 1)) (count - (k + 1))) is
    ∙ ap (λ n. end_objects (end_object m (first + k)) n (count - (k + 1))) next
    ∙ ap (end_objects m (first + k)) rest
  where
    next : first + (k + 1) ≡ suc (first + k)
    next = omega arith

    rest : suc (count - (k + 1)) ≡ count - k
    rest = omega arith

pub end_none : (m : Memory) (first count : ℕ) → count ≡ 0 → end_objects m first count ≡ m
end_none m first count none = ap (end_objects m first) none
