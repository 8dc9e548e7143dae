-- Functions that go alike, where an edge may lead by way of a block that is a jump alone.
use Rattle.std.proofs.Common.{◌≡◌, ℕ, zero, suc, ◌<◌, Bool, true, false, List, [], ◌∷◌, length, Some, slice_get, get_or, refl, sym, ap, subst, ◌∙◌, arith}
use Rattle.std.proofs.lemmas.Option.{slice_get_within, slice_get-get_or, same_Some}
use Rattle.pass_core.specs.Insns.{InsnLaws}
use Rattle.cfg.specs.Walks.{zero_targets, block_at, Step, Done, Taken, NotTaken, Walk, Stops, Goes, Returns, Passes, Takes, Jumps, Falls, SameWalks}

module _ {I : Type 0} (reads writes targets : I → List ℕ) (with_target : I → ℕ → ℕ → I) (jump_to : ℕ → I) (flows_on traps : I → Bool) (laws : InsnLaws reads writes targets with_target jump_to flows_on traps) where
  -- a block of the one function leads where a block of the other does, at once or by a jump alone
  pub data Lands (R : ℕ → ℕ → Type 0) (g : List (List I)) (t u : ℕ) : Type 0 where
    Direct : R t u → Lands R g t u
    ByJump : (v : ℕ) → block_at g u ≡ jump_to v ∷ [] → R t v → Lands R g t u

  pub record Leads (R : ℕ → ℕ → Type 0) (g : List (List I)) (t : ℕ) (j : I) (k : ℕ) : Type 0 where
    pub to : ℕ
    pub has : slice_get (targets j) k ≡ Some to
    pub lands : Lands R g t to

  -- two instructions do the same, and go where the same is done
  pub record AreAlike (R : ℕ → ℕ → Type 0) (g : List (List I)) (i j : I) : Type 0 where
    pub same : zero_targets targets with_target i ≡ zero_targets targets with_target j
    pub flows : flows_on i ≡ flows_on j
    pub count : length (targets i) ≡ length (targets j)
    pub leads : (k block : ℕ) → slice_get (targets i) k ≡ Some block → Leads R g block j k

  pub data Alike (R : ℕ → ℕ → Type 0) (g : List (List I)) (b c : ℕ) : List I → List I → Type 0 where
    AtEnd : Lands R g (suc b) (suc c) → Alike R g b c [] []
    More : {i j : I} {is js : List I} → AreAlike R g i j → (flows_on i ≡ true → Alike R g b c is js) → Alike R g b c (i ∷ is) (j ∷ js)

  only_target : (v k t : ℕ) → slice_get (targets (jump_to v)) k ≡ Some t → t ≡ v
  only_target v k t has = at k (ap (λ ts. slice_get ts k) (sym (laws.jump_targets v)) ∙ has)
    where
      at : (j : ℕ) → slice_get (v ∷ []) j ≡ Some t → t ≡ v
      at zero is = sym (same_Some v t is)
      at (suc j) is = let clash : ⊥ = cc in absurd clash

  module _ (f g : List (List I)) (R : ℕ → ℕ → Type 0) (blocks : (b c : ℕ) → R b c → Alike R g b c (block_at f b) (block_at g c)) where
    -- a walk of the block that is landed on is one from where it lands
    landed : (t u : ℕ) {steps : List (Step I)} → Lands R g t u → ((v : ℕ) → R t v → Walk targets with_target flows_on g v (block_at g v) steps) → Walk targets with_target flows_on g u (block_at g u) steps
    landed t u (Direct related) walk = walk u related
    landed t u {steps = steps} (ByJump v is related) walk =
        subst (λ xs. Walk targets with_target flows_on g u xs steps) (sym is)
        (Jumps (jump_to v) 0 v (ap (λ ts. slice_get ts 0) (laws.jump_targets v)) (laws.jump_stops v) (walk v related))

    pub follow : {b : ℕ} {is : List I} {steps : List (Step I)} → Walk targets with_target flows_on f b is steps → (c : ℕ) (js : List I) → Alike R g b c is js → Walk targets with_target flows_on g c js steps
    follow Stops c js alike = Stops
    follow (Goes {steps = steps} i none flows walk) c _ (More {j = j} {js = js} alike rest) =
        subst (λ x. Walk targets with_target flows_on g c (j ∷ js) (Done x ∷ steps)) (sym alike.same)
        (Goes j (sym alike.count ∙ none) (sym alike.flows ∙ flows) (follow walk c js (rest flows)))
    follow (Returns i none flows) c _ (More {j = j} {js = js} alike rest) =
        subst (λ x. Walk targets with_target flows_on g c (j ∷ js) (Done x ∷ [])) (sym alike.same)
        (Returns j (sym alike.count ∙ none) (sym alike.flows ∙ flows))
    follow (Passes {steps = steps} i some flows walk) c _ (More {j = j} {js = js} alike rest) =
        subst (λ x. Walk targets with_target flows_on g c (j ∷ js) (NotTaken x ∷ steps)) (sym alike.same)
        (Passes j (subst (λ n. 0 < n) alike.count some) (sym alike.flows ∙ flows) (follow walk c js (rest flows)))
    follow (Takes {steps = steps} i k block has flows walk) c _ (More {j = j} {js = js} alike rest) =
        let leads = alike.leads k block has in
        subst (λ x. Walk targets with_target flows_on g c (j ∷ js) (Taken x k ∷ steps)) (sym alike.same)
        (Takes j k leads.to leads.has (sym alike.flows ∙ flows)
        (landed block leads.to leads.lands (λ v related. follow walk v (block_at g v) (blocks block v related))))
    follow (Jumps i k block has flows walk) c _ (More {j = j} {js = js} alike rest) =
        let leads = alike.leads k block has in
        Jumps j k leads.to leads.has (sym alike.flows ∙ flows)
        (landed block leads.to leads.lands (λ v related. follow walk v (block_at g v) (blocks block v related)))
    follow (Falls {block = b} walk) c _ (AtEnd next) =
        Falls (landed (suc b) (suc c) next (λ v related. follow walk v (block_at g v) (blocks (suc b) v related)))

    -- where a walk of the second function stands: as far as one of the first, or on the way to its next block
    pub data Stands (b : ℕ) (is : List I) (c : ℕ) (js : List I) : Type 0 where
      At : Alike R g b c is js → Stands b is c js
      OnWay : (v : ℕ) → js ≡ jump_to v ∷ [] → is ≡ block_at f b → R b v → Stands b is c js

    stands : (t u : ℕ) → Lands R g t u → Stands t (block_at f t) u (block_at g u)
    stands t u (Direct related) = At (blocks t u related)
    stands t u (ByJump v is related) = OnWay v is refl related

    heads : (x y : I) (xs ys : List I) → x ∷ xs ≡ y ∷ ys → x ≡ y
    heads x y xs ys is = cc

    never_flows : (v : ℕ) (j : I) (rest : List I) → j ∷ rest ≡ jump_to v ∷ [] → flows_on j ≡ true → ⊥
    never_flows v j rest way flows =
        let is : true ≡ false = sym flows ∙ ap flows_on (heads j (jump_to v) rest [] way) ∙ laws.jump_stops v in
        let clash : ⊥ = cc in
        clash

    some_target : (v : ℕ) (j : I) (rest : List I) → j ∷ rest ≡ jump_to v ∷ [] → length (targets j) ≡ 0 → ⊥
    some_target v j rest way none =
        omega (arith, none, ap (λ x. length (targets x)) (heads j (jump_to v) rest [] way), ap length (laws.jump_targets v))

    came : (i j : I) → AreAlike R g i j → (k target : ℕ) → slice_get (targets j) k ≡ Some target → Lands R g (get_or (targets i) k 0) target
    came i j alike k target has =
        let below : k < length (targets i) = omega (arith, slice_get_within (targets j) k target has, alike.count) in
        let leads = alike.leads k (get_or (targets i) k 0) (slice_get-get_or (targets i) k 0 below) in
        subst (λ to. Lands R g (get_or (targets i) k 0) to) (same_Some leads.to target (sym leads.has ∙ has)) leads.lands

    from : (i j : I) → AreAlike R g i j → (k target : ℕ) → slice_get (targets j) k ≡ Some target → slice_get (targets i) k ≡ Some (get_or (targets i) k 0)
    from i j alike k target has = slice_get-get_or (targets i) k 0 (omega (arith, slice_get_within (targets j) k target has, alike.count))

    pub retrace : {c : ℕ} {js : List I} {steps : List (Step I)} → Walk targets with_target flows_on g c js steps → (b : ℕ) (is : List I) → Stands b is c js → Walk targets with_target flows_on f b is steps
    retrace Stops b is st = Stops
    retrace (Goes {steps = steps} j none flows walk) b _ (At (More {i = i} {is = is} alike rest)) =
        subst (λ x. Walk targets with_target flows_on f b (i ∷ is) (Done x ∷ steps)) alike.same
        (Goes i (alike.count ∙ none) (alike.flows ∙ flows) (retrace walk b is (At (rest (alike.flows ∙ flows)))))
    retrace (Goes {rest = rest} j none flows walk) b is (OnWay v way is_at related) = absurd (never_flows v j rest way flows)
    retrace (Returns j none flows) b _ (At (More {i = i} {is = is} alike rest)) =
        subst (λ x. Walk targets with_target flows_on f b (i ∷ is) (Done x ∷ [])) alike.same
        (Returns i (alike.count ∙ none) (alike.flows ∙ flows))
    retrace (Returns {rest = rest} j none flows) b is (OnWay v way is_at related) = absurd (some_target v j rest way none)
    retrace (Passes {steps = steps} j some flows walk) b _ (At (More {i = i} {is = is} alike rest)) =
        subst (λ x. Walk targets with_target flows_on f b (i ∷ is) (NotTaken x ∷ steps)) alike.same
        (Passes i (subst (λ n. 0 < n) (sym alike.count) some) (alike.flows ∙ flows) (retrace walk b is (At (rest (alike.flows ∙ flows)))))
    retrace (Passes {rest = rest} j some flows walk) b is (OnWay v way is_at related) = absurd (never_flows v j rest way flows)
    retrace (Takes {steps = steps} j k target has flows walk) b _ (At (More {i = i} {is = is} alike rest)) =
        let t : ℕ = get_or (targets i) k 0 in
        subst (λ x. Walk targets with_target flows_on f b (i ∷ is) (Taken x k ∷ steps)) alike.same
        (Takes i k t (from i j alike k target has) (alike.flows ∙ flows) (retrace walk t (block_at f t) (stands t target (came i j alike k target has))))
    retrace (Takes {rest = rest} j k target has flows walk) b is (OnWay v way is_at related) = absurd (never_flows v j rest way flows)
    retrace (Jumps j k target has flows walk) b _ (At (More {i = i} {is = is} alike rest)) =
        let t : ℕ = get_or (targets i) k 0 in
        Jumps i k t (from i j alike k target has) (alike.flows ∙ flows) (retrace walk t (block_at f t) (stands t target (came i j alike k target has)))
    retrace (Jumps {rest = rest} {steps = steps} j k target has flows walk) b is (OnWay v way is_at related) =
        let to : target ≡ v = only_target v k target (ap (λ x. slice_get (targets x) k) (sym (heads j (jump_to v) rest [] way)) ∙ has) in
        subst (λ xs. Walk targets with_target flows_on f b xs steps) (sym is_at)
        (retrace walk b (block_at f b) (At (subst (λ u. Alike R g b u (block_at f b) (block_at g u)) (sym to) (blocks b v related))))
    retrace (Falls {block = c} walk) b _ (At (AtEnd next)) = Falls (retrace walk (suc b) (block_at f (suc b)) (stands (suc b) (suc c) next))
    retrace (Falls walk) b is (OnWay v way is_at related) = let clash : ⊥ = cc in absurd clash

  -- two functions whose blocks go alike, but for jumps on the way, have the same walks
  pub same_walks : (f g : List (List I)) (R : ℕ → ℕ → Type 0) → ((b c : ℕ) → R b c → Alike R g b c (block_at f b) (block_at g c)) → R 0 0 → SameWalks targets with_target flows_on f g
  same_walks f g R blocks entry steps = (
    (λ walk. follow f g R blocks walk 0 (block_at g 0) (blocks 0 0 entry)),
    (λ walk. retrace f g R blocks walk 0 (block_at f 0) (At (blocks 0 0 entry))),
  )
