-- Functions that go alike have the same walks.
use Rattle.std.proofs.Common.{◌≡◌, ℕ, suc, ◌<◌, Bool, true, List, [], ◌∷◌, length, Some, slice_get, get_or, sym, subst, ◌∙◌, arith}
use Rattle.std.proofs.lemmas.Option.{slice_get_within, slice_get-get_or, same_Some}
use Rattle.cfg.specs.Walks.{zero_targets, block_at, Step, Done, Taken, NotTaken, Walk, Stops, Goes, Returns, Passes, Takes, Jumps, Falls, SameWalks}

module _ {I : Type 0} (targets : I → List ℕ) (with_target : I → ℕ → ℕ → I) (flows_on : I → Bool) where
  -- a target of this number that the other instruction has too, where a relation leads from the one to the other
  pub record Leads (R : ℕ → ℕ → Type 0) (block : ℕ) (j : I) (k : ℕ) : Type 0 where
    pub to : ℕ
    pub has : slice_get (targets j) k ≡ Some to
    pub related : R block to

  -- two instructions do the same, and go to related blocks
  pub record AreAlike (R : ℕ → ℕ → Type 0) (i j : I) : Type 0 where
    pub same : zero_targets targets with_target i ≡ zero_targets targets with_target j
    pub flows : flows_on i ≡ flows_on j
    pub count : length (targets i) ≡ length (targets j)
    pub leads : (k block : ℕ) → slice_get (targets i) k ≡ Some block → Leads R block j k

  -- so do what is left of two blocks, as far as it is done
  pub data Alike (R : ℕ → ℕ → Type 0) (b c : ℕ) : List I → List I → Type 0 where
    AtEnd : R (suc b) (suc c) → Alike R b c [] []
    More : {i j : I} {is js : List I} → AreAlike R i j → (flows_on i ≡ true → Alike R b c is js) → Alike R b c (i ∷ is) (j ∷ js)

  module _ (f g : List (List I)) (R : ℕ → ℕ → Type 0) (blocks : (b c : ℕ) → R b c → Alike R b c (block_at f b) (block_at g c)) where
    -- what one may do the other may do
    pub follow : {b : ℕ} {is : List I} {steps : List (Step I)} → Walk targets with_target flows_on f b is steps → (c : ℕ) (js : List I) → Alike R b c is js → Walk targets with_target flows_on g c js steps
    follow Stops c js alike = Stops
    follow (Goes {steps = steps} i none flows walk) c _ (More {j = j} {js = js} alike rest) =
        subst (λ x. Walk targets with_target flows_on g c (j ∷ js) (Done x ∷ steps)) (sym alike.same)
        (Goes j (sym alike.count ∙ none) (sym alike.flows ∙ flows) (follow walk c js (rest flows)))
    follow (Returns i none flows) c _ (More {j = j} {js = js} alike rest) =
        subst (λ x. Walk targets with_target flows_on g c (j ∷ js) (Done x ∷ [])) (sym alike.same)
        (Returns j (sym alike.count ∙ none) (sym alike.flows ∙ flows))
    follow (Passes {steps = steps} i some flows walk) c _ (More {j = j} {js = js} alike rest) =
        subst (λ x. Walk targets with_target flows_on g c (j ∷ js) (NotTaken x ∷ steps)) (sym alike.same)
        (Passes j (subst (λ n. 0 < n) alike.count some) (sym alike.flows ∙ flows) (follow walk c js (rest flows)))
    follow (Takes {steps = steps} i k block has flows walk) c _ (More {j = j} {js = js} alike rest) =
        let leads = alike.leads k block has in
        subst (λ x. Walk targets with_target flows_on g c (j ∷ js) (Taken x k ∷ steps)) (sym alike.same)
        (Takes j k leads.to leads.has (sym alike.flows ∙ flows) (follow walk leads.to (block_at g leads.to) (blocks block leads.to leads.related)))
    follow (Jumps i k block has flows walk) c _ (More {j = j} {js = js} alike rest) =
        let leads = alike.leads k block has in
        Jumps j k leads.to leads.has (sym alike.flows ∙ flows) (follow walk leads.to (block_at g leads.to) (blocks block leads.to leads.related))
    follow (Falls {block = b} walk) c _ (AtEnd next) = Falls (follow walk (suc c) (block_at g (suc c)) (blocks (suc b) (suc c) next))

  abbrev Back : (ℕ → ℕ → Type 0) → ℕ → ℕ → Type 0
  Back R c b = R b c

  leads_back : (R : ℕ → ℕ → Type 0) (i j : I) → AreAlike R i j → (k block : ℕ) → slice_get (targets j) k ≡ Some block → Leads (Back R) block i k
  leads_back R i j alike k block has =
      let below : k < length (targets i) = omega (arith, slice_get_within (targets j) k block has, alike.count) in
      let from : ℕ = get_or (targets i) k 0 in
      let found : slice_get (targets i) k ≡ Some from = slice_get-get_or (targets i) k 0 below in
      let leads = alike.leads k from found in
      let same : leads.to ≡ block = same_Some leads.to block (sym leads.has ∙ has) in
      record { to = from; has = found; related = subst (λ to. R from to) same leads.related }

  alike_back : (R : ℕ → ℕ → Type 0) (i j : I) → AreAlike R i j → AreAlike (Back R) j i
  alike_back R i j alike = record { same = sym alike.same; flows = sym alike.flows; count = sym alike.count; leads = leads_back R i j alike }

  turn_round : (R : ℕ → ℕ → Type 0) (b c : ℕ) (is js : List I) → Alike R b c is js → Alike (Back R) c b js is
  turn_round R b c _ _ (AtEnd next) = AtEnd next
  turn_round R b c _ _ (More {i = i} {j = j} {is = is} {js = js} alike rest) =
      More (alike_back R i j alike) (λ flows. turn_round R b c is js (rest (alike.flows ∙ flows)))

  -- two functions whose blocks go alike have the same walks
  pub same_walks : (f g : List (List I)) (R : ℕ → ℕ → Type 0) → ((b c : ℕ) → R b c → Alike R b c (block_at f b) (block_at g c)) → R 0 0 → SameWalks targets with_target flows_on f g
  same_walks f g R blocks entry steps = (
    (λ walk. follow f g R blocks walk 0 (block_at g 0) (blocks 0 0 entry)),
    (λ walk. follow g f (Back R) (λ c b related. turn_round R b c (block_at f b) (block_at g c) (blocks b c related)) walk 0 (block_at f 0) (turn_round R 0 0 (block_at f 0) (block_at g 0) (blocks 0 0 entry))),
  )
