-- The steps of the walk.
use Rattle.std.proofs.Common.{◌≡◌, ◌≢◌, ℕ, suc, ◌+◌, ◌<◌, ◌≤◌, ◌⊎◌, List, [], ◌∷◌, Option, Some, None, Bool, true, false, refl, sym, ap, ◌∙◌, inl, inr, subst, drop, length, get_or, append-nil, arith}
use Rattle.std.proofs.Math.Seq.{drop-cons}
use Rattle.std.proofs.Math.ListN.{drop_of_length-le}
use Rattle.std.specs.Prelude.{IfSome, slice_get}
use Rattle.std.specs.Bool.{OnTrue}
use Rattle.temp_ir.specs.declared.insn.TempInsn.{TempInsn}
use Rattle.temp_ir.specs.Insns.{targets_of}
use Rattle.block_coalescing.specs.Forms.{write_of, is_pure, copy_of}
use Rattle.block_coalescing.specs.Walks.{Names, WriteName, IsBehind, CopyName, IsLost, IsRenamed, IsHome, Walked, Ends, Copies, Loses, Keeps}
use Rattle.block_coalescing.specs.model.Steps.{IsGone, IsKept, Leads, Puts}

pub on_true : {P Q : Type 0} → (b : Bool) → (P → Q) → OnTrue b P → OnTrue b Q
on_true true f p = f p
on_true false f p = tt

no_targets : (ts : List ℕ) → None ≡ slice_get ts 0 → ts ≡ []
no_targets [] e = refl
no_targets (t ∷ ts) e = absurd (cc)

pub leaves_none : (x : TempInsn) → None ≡ slice_get (targets_of x) 0 → targets_of x ≡ []
leaves_none x e = no_targets (targets_of x) e

pub behind_write : (x y : TempInsn) (n m : Names) (d e : ℕ) → Some d ≡ write_of x → Some e ≡ write_of y → ((r p : ℕ) → m r ≡ Some p → WriteName n d e r p) → IsBehind (write_of x) (write_of y) n m
behind_write x y n m d e f g w = subst (λ o. IsBehind o (write_of y) n m) f (subst (λ o. IsBehind (Some d) o n m) g (record { each = w }))

pub behind_none : (x y : TempInsn) (n : Names) → None ≡ write_of x → None ≡ write_of y → IsBehind (write_of x) (write_of y) n n
behind_none x y n f g = subst (λ o. IsBehind o (write_of y) n n) f (subst (λ o. IsBehind None o n n) g (record { each = λ r p is. is }))

lost_name : (n : Names) (d r p : ℕ) → ((r ≡ d) × (None ≡ Some p)) ⊎ ((r ≢ d) × (n r ≡ Some p)) → (Some d ≢ Some r) × (n r ≡ Some p)
lost_name n d r p (inl q) = absurd (let clash = q.1 in cc)
lost_name n d r p (inr q) = (λ e. q.0 (let same : d ≡ r = cc in sym same), q.1)

pub gone_lost : (temps : ℕ) (x : TempInsn) (n m : Names) (d : ℕ) → is_pure x ≡ true → Some d ≡ write_of x → ((r p : ℕ) → m r ≡ Some p → ((r ≡ d) × (None ≡ Some p)) ⊎ ((r ≢ d) × (n r ≡ Some p))) → IsGone temps n m x
gone_lost temps x n m d p f h bottom xs ys w =
    Loses m x p (subst (λ o. IsLost o n m) f (record { each = λ r q is. lost_name n d r q (h r q is) })) w

copied_name : (n : Names) (d s r p : ℕ) (o : Option ℕ) → IfSome o (λ q. n s ≡ Some q) → ((r ≡ d) × (o ≡ Some p)) ⊎ ((r ≢ d) × (n r ≡ Some p)) → CopyName n d s r p
copied_name n d s r p None h (inl q) = absurd (let clash = q.1 in cc)
copied_name n d s r p (Some k) h (inl q) = inl (q.0, h ∙ q.1)
copied_name n d s r p o h (inr q) = inr q

pub gone_copied : (temps : ℕ) (x : TempInsn) (n m : Names) (d s : ℕ) (o : Option ℕ) → x ≡ copy_of d s → IfSome o (λ q. n s ≡ Some q) → ((r p : ℕ) → m r ≡ Some p → ((r ≡ d) × (o ≡ Some p)) ⊎ ((r ≢ d) × (n r ≡ Some p))) → IsGone temps n m x
gone_copied temps x n m d s o f g h bottom xs ys w =
    subst (λ k. Walked temps bottom n (k ∷ xs) ys) (sym f) (Copies m d s (record { each = λ r p is. copied_name n d s r p o g (h r p is) }) w)

pub kept : (temps : ℕ) (x y : TempInsn) (n m : Names) (bottom : ℕ → Bool) → IsRenamed temps n x y → IsBehind (write_of x) (write_of y) n m → (targets_of x ≡ []) ⊎ IsHome bottom n → IsKept temps bottom n m x y
kept temps x y n m bottom same is leaves xs ys w = Keeps m x y same is leaves w

pub leads_more : (temps : ℕ) (bottom : ℕ → Bool) (start n m : Names) (all made more : List TempInsn) (at : ℕ) (x : TempInsn) (good : Bool) → at < length all → good ≡ true → OnTrue good (Puts temps bottom n m (get_or all at x) made more) → Leads temps bottom start all made n (drop at all) → Leads temps bottom start all more m (drop (at + 1) all)
leads_more temps bottom start n m all made more at x false within is puts leads = absurd (cc)
leads_more temps bottom start n m all made more at x true within is puts leads =
    let cons : drop at all ≡ get_or all at x ∷ drop (at + 1) all = drop-cons all at x within ∙ ap (λ k. get_or all at x ∷ drop k all) (let one : suc at ≡ at + 1 = omega arith in one) in
    puts start all (drop (at + 1) all) (subst (λ k. Leads temps bottom start all made n k) cons leads)

pub leads_end : (temps : ℕ) (bottom : ℕ → Bool) (start n : Names) (all made : List TempInsn) (at : ℕ) → length all ≤ at → IsHome bottom n → Leads temps bottom start all made n (drop at all) → Walked temps bottom start all made
leads_end temps bottom start n all made at past home leads =
    subst (λ k. Walked temps bottom start all k) (append-nil made) (leads [] (subst (λ k. Walked temps bottom n k []) (sym (drop_of_length-le all past)) (Ends home)))
