-- Functions with the names and parameters of others, by their numbers: the same calls fit, and `main` stands where it did.
use Rattle.std.proofs.Common.{◌≡◌, ℕ, zero, suc, ◌+◌, Bool, List, [], ◌∷◌, length, Some, None, cond, not, refl, ap, sym, ◌∙◌}
use Rattle.std.specs.Prelude.{◌==◌, slice_get, unwrap_or, nat_lt, bytes_eq, codes}
use Rattle.std.specs.List.{AllZip, prefix_len}
use Rattle.std.proofs.lemmas.List.Sums.{sum_by-cons}
use Rattle.suifvm_ir.specs.declared.insn.VmCallee.{VmCallee}
use Rattle.suifvm_ir.specs.declared.insn.VmCallee.TheVariants as kinds
use Rattle.suifvm_ir.specs.Programs.{VmFunction, is_main, main_count, function_takes, callee_takes}
use Rattle.suifvm_meaning.specs.Behave.{main_of}
use Rattle.flow_clean.specs.Clean.{IsCleanOf}
use Rattle.flow_clean.specs.Copies.{IsWithoutCopiesOf}
use Rattle.flow_clean.proofs.Turns.{each_gives}

pub record IsAlike (f g : VmFunction) : Type 0 where
  pub name : g.name ≡ f.name
  pub params : g.params ≡ f.params

abbrev pub AreAlike : (fs gs : List VmFunction) → Type 0
AreAlike fs gs = AllZip IsAlike fs gs

pub copied_alike : (fs gs : List VmFunction) → AllZip IsWithoutCopiesOf fs gs → AreAlike fs gs
copied_alike fs gs all = each_gives IsWithoutCopiesOf IsAlike (λ f g k. record { name = k.name; params = k.params }) fs gs all

pub clean_alike : (fs gs : List VmFunction) → AllZip IsCleanOf fs gs → AreAlike fs gs
clean_alike fs gs all = each_gives IsCleanOf IsAlike (λ f g k. record { name = k.name; params = k.params }) fs gs all

pub many_same : (fs gs : List VmFunction) → AreAlike fs gs → length gs ≡ length fs
many_same [] [] all = refl
many_same [] (g ∷ gs) all = absurd all
many_same (f ∷ fs) [] all = absurd all
many_same (f ∷ fs) (g ∷ gs) all = ap suc (many_same fs gs all.1)

-- ---- what is called

takes_same : (fs gs : List VmFunction) → AreAlike fs gs → (k count : ℕ) → function_takes count (slice_get gs k) ≡ function_takes count (slice_get fs k)
takes_same [] [] all k count = refl
takes_same [] (g ∷ gs) all k count = absurd all
takes_same (f ∷ fs) [] all k count = absurd all
takes_same (f ∷ fs) (g ∷ gs) all zero count = ap (λ n. n == count) all.0.params
takes_same (f ∷ fs) (g ∷ gs) all (suc k) count = takes_same fs gs all.1 k count

pub callee_same : (fs gs : List VmFunction) → AreAlike fs gs → (count : ℕ) (callee : VmCallee) → callee_takes gs count callee ≡ callee_takes fs count callee
callee_same fs gs all count (kinds.Function k) = takes_same fs gs all k count
callee_same fs gs all count (kinds.Builtin b) = refl

-- ---- where a program begins

pub same_main : (f g : VmFunction) → g.name ≡ f.name → is_main g ≡ is_main f
same_main f g name = ap (λ n. bytes_eq n (codes "main")) name

pub mains_same : (fs gs : List VmFunction) → AreAlike fs gs → main_count gs ≡ main_count fs
mains_same [] [] all = refl
mains_same [] (g ∷ gs) all = absurd all
mains_same (f ∷ fs) [] all = absurd all
mains_same (f ∷ fs) (g ∷ gs) all =
    sum_by-cons (λ t. cond (is_main t) 1 0) g gs ∙ ap (λ b. cond b 1 0 + main_count gs) (same_main f g all.0.name)
    ∙ ap (λ n. cond (is_main f) 1 0 + n) (mains_same fs gs all.1) ∙ sym (sum_by-cons (λ t. cond (is_main t) 1 0) f fs)

abbrev is_other : VmFunction → Bool
is_other f = not (is_main f)

others_same : (fs gs : List VmFunction) → AreAlike fs gs → prefix_len is_other gs ≡ prefix_len is_other fs
others_same [] [] all = refl
others_same [] (g ∷ gs) all = absurd all
others_same (f ∷ fs) [] all = absurd all
others_same (f ∷ fs) (g ∷ gs) all =
    ap (λ name. cond (not (bytes_eq name (codes "main"))) (1 + prefix_len is_other gs) 0) all.0.name
    ∙ ap (λ n. cond (is_other f) (1 + n) 0) (others_same fs gs all.1)

abbrev main_at : (place count : ℕ) → ℕ
main_at place count = unwrap_or (cond (nat_lt place count) (Some place) None) 0

pub main_same : (fs gs : List VmFunction) → AreAlike fs gs → main_of gs ≡ main_of fs
main_same fs gs all =
    ap (λ place. main_at place (length gs)) (others_same fs gs all)
    ∙ ap (main_at (prefix_len is_other fs)) (many_same fs gs all)
