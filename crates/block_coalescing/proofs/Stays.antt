-- A function is a second version of itself.
use Rattle.std.proofs.Common.{◌≡◌, ◌≢◌, ℕ, ◌<◌, ◌⊎◌, List, [], ◌∷◌, Option, Some, None, Bool, true, false, refl, sym, ◌∙◌, subst, inl, inr, nat_eq, All}
use Rattle.std.specs.Prelude.{slice_get, IfSome}
use Rattle.std.proofs.lemmas.Bool.{eqb-true, eq-eqb}
use Rattle.std.proofs.lemmas.Option.{slice_get_within, get_or_from_slice_get}
use Rattle.std.proofs.lemmas.List.Elements.{All-head, All-tail}
use Rattle.pass_core.specs.Functions.{AllInsns, UsesRegisters}
use Rattle.temp_ir.specs.declared.insn.TempInsn.{TempInsn}
use Rattle.temp_ir.specs.Insns.{reads_of, writes_of}
use Rattle.block_coalescing.specs.Forms.{write_of}
use Rattle.block_coalescing.specs.Walks.{Names, BehindName, HaveTheseNames, Walked, Ends, Keeps, OptionWalked, AreCoalesced}

pub same_or : (m t : ℕ) → (m ≡ t) ⊎ (m ≢ t)
same_or m t = go (nat_eq m t) refl
  where
    go : (b : Bool) → nat_eq m t ≡ b → (m ≡ t) ⊎ (m ≢ t)
    go true e = inl (eqb-true m t e)
    go false e = inr (λ q. let f : nat_eq m t ≡ true = eq-eqb m t q in cc)

-- each temporary has its own name
abbrev own : Names
own r = Some r

own_reads : (temps : ℕ) (rs : List ℕ) → All (λ r. r < temps) rs → HaveTheseNames temps own rs rs
own_reads temps [] all = tt
own_reads temps (r ∷ rs) all = (refl, All-head (λ r. r < temps) r rs all, own_reads temps rs (All-tail (λ r. r < temps) r rs all))

own_write : (temps : ℕ) (ws : List ℕ) → All (λ r. r < temps) ws → IfSome (slice_get ws 0) (λ e. e < temps)
own_write temps [] all = tt
own_write temps (w ∷ ws) all = All-head (λ r. r < temps) w ws all

own_behind : (d : Option ℕ) (r q : ℕ) → own r ≡ Some q → BehindName own d d r q
own_behind None r q e = e
own_behind (Some d) r q e = go (same_or r d)
  where
    same : r ≡ q
    same = cc

    go : (r ≡ d) ⊎ (r ≢ d) → BehindName own (Some d) (Some d) r q
    go (inl f) = inl (f, sym same ∙ f)
    go (inr n) = inr (n, λ f. n (same ∙ f), e)

insns_stay : (temps : ℕ) (xs : List TempInsn) → All (UsesRegisters reads_of writes_of temps) xs → Walked temps (λ r. true) own xs xs
insns_stay temps [] all = Ends (λ r live. refl)
insns_stay temps (x ∷ xs) all =
    let uses = All-head (UsesRegisters reads_of writes_of temps) x xs all in
    Keeps own x x (record { form = refl; reads = own_reads temps (reads_of x) uses.0; within = own_write temps (writes_of x) uses.1 })
    (record { each = own_behind (write_of x) }) (inr (λ r live. refl))
    (insns_stay temps xs (All-tail (UsesRegisters reads_of writes_of temps) x xs all))

module _ (temps : ℕ) (blocks : List (List TempInsn)) (all : AllInsns (UsesRegisters reads_of writes_of temps) blocks) where
  block_stays : (block : ℕ) (o : Option (List TempInsn)) → slice_get blocks block ≡ o → OptionWalked temps (λ r. true) (λ r. true) o o
  block_stays block None e = tt
  block_stays block (Some xs) e = record {
    names = own;
    start = record { each = λ r q f. (let same : q ≡ r = cc in same, refl) };
    walked = insns_stay temps xs (subst (All (UsesRegisters reads_of writes_of temps)) (get_or_from_slice_get blocks block xs xs e) (all block xs (slice_get_within blocks block xs e)));
  }

  pub blocks_stay : AreCoalesced temps blocks blocks
  blocks_stay = record {
    tops = λ block r. true;
    bottoms = λ block r. true;
    flows = λ block next r insns e is live. refl;
    walked = record { each = λ block. block_stays block (slice_get blocks block) refl };
  }
