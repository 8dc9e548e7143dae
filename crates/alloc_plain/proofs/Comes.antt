-- What an instruction reads and writes, by what stands at each place.
use Rattle.std.proofs.Common.{◌≡◌, ℕ, List, [], ◌∷◌, ◌++◌, Some, None, sym, ap, ◌∙◌, append-nil}
use Rattle.std.specs.Prelude.{slice_get}
use Rattle.temp_ir.specs.declared.insn.TempInsn.{TempInsn}
use Rattle.temp_ir.specs.Insns.{reads_of, writes_of}
use Rattle.alloc_model.specs.declared.allocation.Event.{Event}
use Rattle.alloc_model.specs.declared.allocation.Event.TheVariants as event
use Rattle.alloc_rules.specs.Journal.{assigned_unless}
use Rattle.alloc_plain_lists.proofs.Registers.{few}
use Rattle.alloc_plain_lists.proofs.Counts.{nothing, only_one, only_two, single}
use Rattle.alloc_plain.specs.declared.holders.HeldTemporaries.{HeldTemporaries}
use Rattle.alloc_plain.specs.model.Held.{register_in, comes, come}
use Rattle.alloc_plain.specs.model.Visits.{assignment_events, write_events}

pub none_comes : (h : HeldTemporaries) (x : TempInsn) → None ≡ slice_get (reads_of x) 0 → h ≡ come (reads_of x) 1 h
none_comes h x first = sym (ap (λ ts. come ts 1 h) (nothing (reads_of x) first))

pub one_comes : (h : HeldTemporaries) (x : TempInsn) (a : ℕ) → Some a ≡ slice_get (reads_of x) 0 → None ≡ slice_get (reads_of x) 1 → comes 1 a h ≡ come (reads_of x) 1 h
one_comes h x a first second = sym (ap (λ ts. come ts 1 h) (only_one (reads_of x) a first second))

pub two_come : (h : HeldTemporaries) (x : TempInsn) (a b : ℕ) → Some a ≡ slice_get (reads_of x) 0 → Some b ≡ slice_get (reads_of x) 1 → comes 2 b (comes 1 a h) ≡ come (reads_of x) 1 h
two_come h x a b first second = sym (ap (λ ts. come ts 1 h) (only_two (reads_of x) a b (few x).0 first second))

pub none_written : (h : HeldTemporaries) (x : TempInsn) (r : ℕ) → None ≡ slice_get (writes_of x) 0 → h ≡ come (writes_of x) r h
none_written h x r first = sym (ap (λ ts. come ts r h) (nothing (writes_of x) first))

pub one_written : (h : HeldTemporaries) (x : TempInsn) (r a : ℕ) → Some a ≡ slice_get (writes_of x) 0 → comes r a h ≡ come (writes_of x) r h
one_written h x r a first = sym (ap (λ ts. come ts r h) (single (writes_of x) a (few x).1 first))

pub no_write : (out : List Event) (h : HeldTemporaries) (x : TempInsn) (r : ℕ) → None ≡ slice_get (writes_of x) 0 → out ≡ out ++ assignment_events r h (writes_of x) ++ write_events r (writes_of x)
no_write out h x r first =
    sym (ap (λ ts. out ++ assignment_events r h ts ++ write_events r ts) (nothing (writes_of x) first) ∙ append-nil (out ++ []) ∙ append-nil out)

pub one_write : (out : List Event) (h : HeldTemporaries) (x : TempInsn) (r a : ℕ) → Some a ≡ slice_get (writes_of x) 0 →
    (out ++ assigned_unless (register_in h a) a r) ++ event.Write a r ∷ [] ≡ out ++ assignment_events r h (writes_of x) ++ write_events r (writes_of x)
one_write out h x r a first =
    sym (ap (λ ts. out ++ assignment_events r h ts ++ write_events r ts) (single (writes_of x) a (few x).1 first)
    ∙ ap (λ es. (out ++ es) ++ event.Write a r ∷ []) (append-nil (assigned_unless (register_in h a) a r)))
