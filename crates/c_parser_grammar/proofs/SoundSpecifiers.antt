-- Specifiers with braces that are read are in the grammar.
use Rattle.std.proofs.Common.{◌≡◌, ℕ, zero, suc, false, cond, List, [], ◌∷◌, ◌++◌, length, Option, Some, None, Ok, Err, refl, sym, ◌∙◌, subst, append_assoc}
use Rattle.c_lexer.specs.declared.token.TokenKind.TheVariants as k
use Rattle.c_lexer.specs.declared.token.Keyword.TheVariants as w
use Rattle.c_lexer.specs.declared.token.Punct.TheVariants as p
use Rattle.c_lexer.specs.Pieces.{Lexeme}
use Rattle.c_tree.specs.declared.types.TypeNode.{TypeNode}
use Rattle.c_tree.specs.declared.types.TypeNode as y
use Rattle.c_tree.specs.declared.types.Declaration.{Declaration}
use Rattle.c_tree.specs.declared.types.Constant.{Constant}
use Rattle.c_parser_grammar.specs.declared.classes.Specifier.{Specifier}
use Rattle.c_parser_grammar.specs.declared.classes.Specifier.TheVariants as c
use Rattle.c_parser_grammar.specs.declared.shapes.Shape.{Shape}
use Rattle.c_parser_grammar.specs.declared.shapes.DeclaredName.{DeclaredName}
use Rattle.c_parser_grammar.specs.declared.shapes.NameRequirement.{NameRequirement}
use Rattle.c_parser_grammar.specs.declared.shapes.NameRequirement.TheVariants as nm
use Rattle.c_parser_grammar.specs.WordSets.{no_words}
use Rattle.c_parser_grammar.specs.Tokens.{TypeNames, is_type, is_mark, is_name_token, kind_at, token_tail}
use Rattle.c_parser_grammar.specs.Types.{may_be_nameless, declaration_of, without_body}
use Rattle.c_parser_grammar.specs.Grammar.{AreConsts, IsPlain, IsExpr, IsDeclarator}
use Rattle.c_parser_grammar.specs.Specifiers.{IsTag, IsDeclared, AreDeclared, IsConstant, AreConstants, IsSpecifier, AreMembers, IsMember}
use Rattle.c_parser_grammar.specs.Parser.{Parser, consts}
use Rattle.c_parser_grammar.specs.ParseExpr.{tag_type, plain, specifier_from, expr, declarator}
use Rattle.c_parser_grammar.specs.ParseSpecifiers.{named_by, declaration, braced_list_from, enumerator_value, enumerator, declarators_from, struct_declaration, struct_declarations_from, braces, tag_or_body, specifier}
use Rattle.c_parser_grammar.proofs.Outcomes.{no_true, mark_is, name_is}
use Rattle.c_parser_grammar.proofs.Says.{Instance, Says, some_of, ok_says, refused_says, bind_says, if_says, token_says, done_says, expect_says, consts_says, after_says, weaker}
use Rattle.c_parser_grammar.proofs.Instances.{a_name, a_name_is, no_type_name, nameless_may}
use Rattle.c_parser_grammar.proofs.SoundPlain.{From, IsTail, specifier_says, plain_says}
use Rattle.c_parser_grammar.proofs.SoundExpr.{four_wanted, sound_expr, sound_declarator}

-- ---- declarators with their type

by_name_says : (s : TypeNames) (naming : NameRequirement) (ty : TypeNode) (a : List Lexeme) (o : Option DeclaredName) (shapes : List Shape) (r : List Lexeme) → may_be_nameless naming ≡ false → IsDeclarator s naming 0 a (record { name = o; shapes = shapes }) → Says (named_by ty o shapes r) r (λ b z. IsDeclared s naming ty (a ++ b) z)
by_name_says s naming ty a (Some u) shapes r must h = done_says (declaration_of ty u shapes) a r (λ a z. IsDeclared s naming ty a z) (IsDeclared.of a u shapes h)
by_name_says s naming ty a None shapes r must h = no_true (sym must ∙ nameless_may s h refl)

pub declaration_says : (s : TypeNames) (n : ℕ) (naming : NameRequirement) (ty : TypeNode) (ts : List Lexeme) → may_be_nameless naming ≡ false → Says (declaration s n naming ty ts) ts (λ a d. IsDeclared s naming ty a d)
unfolding declaration
declaration_says s n naming ty ts must = bind_says (declarator s n naming ts) _ ts (λ a d. IsDeclarator s naming 0 a d) _ (sound_declarator s n naming ts) (λ a d r h. by_name_says s naming ty a d.name d.shapes r must h)

declarators_says : (s : TypeNames) (n j : ℕ) (ty : TypeNode) (found : List Declaration) (ts : List Lexeme) → Says (declarators_from s n j ty found ts) ts (λ a ys. (xs : List Declaration) × (ys ≡ found ++ xs) × AreDeclared s ty a xs)
unfolding declarators_from
declarators_says s n zero ty found ts =
    let q = some_of (declaration s n nm.Member ty []) [] (λ a d. IsDeclared s nm.Member ty a d) (declaration_says s n nm.Member ty [] refl) in
    refused_says ts _ (q.0, found ++ q.1 ∷ [], (q.1 ∷ [], refl, AreDeclared.one q.0 q.1 q.2))
declarators_says s n (suc j) ty found ts = bind_says (declaration s n nm.Member ty ts) _ ts (λ a d. IsDeclared s nm.Member ty a d) _ (declaration_says s n nm.Member ty ts refl) (λ a d r h.
    after_says (λ a xs. AreDeclared s ty a xs) (declarators_from s n j (without_body ty) (found ++ d ∷ [])) found d a r (AreDeclared.one a d h) (λ t u kind.
    weaker (declarators_from s n j (without_body ty) (found ++ d ∷ []) u) u _ _ (λ b ys q. (q.0, q.1, AreDeclared.more a t b d q.0 h kind q.2)) (declarators_says s n j (without_body ty) (found ++ d ∷ []) u)))

-- ---- lists up to a brace

-- behind an element: a comma and more, a comma alone, or nothing
braced_after : {A : Type 0} (L : List Lexeme → List A → Type 0) (go : Parser (List A)) (found : List A) (x : A) (a r : List Lexeme) → L a (x ∷ []) → ((t : Lexeme) → t.kind ≡ k.Mark p.Comma → L (a ++ t ∷ []) (x ∷ []))
    → ((t : Lexeme) (u : List Lexeme) → t.kind ≡ k.Mark p.Comma → Says (go u) u (λ b ys. (xs : List A) × (ys ≡ (found ++ x ∷ []) ++ xs) × L (a ++ t ∷ b) (x ∷ xs)))
    → Says (cond (is_mark p.Comma (kind_at r)) (cond (is_mark p.RightBrace (kind_at (token_tail r))) (Ok (found ++ x ∷ [], token_tail r)) (go (token_tail r))) (Ok (found ++ x ∷ [], r))) r (λ b ys. (xs : List A) × (ys ≡ found ++ xs) × L (a ++ b) xs)
braced_after L go found x a [] one last more = done_says (found ++ x ∷ []) a [] (λ a ys. (xs : List _) × (ys ≡ found ++ xs) × L a xs) (x ∷ [], refl, one)
braced_after L go found x a (t ∷ r) one last more = if_says (is_mark p.Comma t.kind) _ (Ok (found ++ x ∷ [], t ∷ r)) (t ∷ r) _
    (λ yes. token_says _ t r _ (if_says (is_mark p.RightBrace (kind_at r)) (Ok (found ++ x ∷ [], r)) (go r) r _
    (λ brace. ok_says (found ++ x ∷ []) r _ (x ∷ [], refl, last t (mark_is p.Comma t.kind yes)))
    (λ goes. weaker (go r) r _ _ (λ b ys q. (x ∷ q.0, q.1 ∙ append_assoc found (x ∷ []) q.0, q.2)) (more t r (mark_is p.Comma t.kind yes)))))
    (λ other. done_says (found ++ x ∷ []) a (t ∷ r) (λ a ys. (xs : List _) × (ys ≡ found ++ xs) × L a xs) (x ∷ [], refl, one))

pub braced_list_says : {A : Type 0} (item : Parser A) (R : List Lexeme → A → Type 0) (L : List Lexeme → List A → Type 0)
    → ((ts : List Lexeme) → Says (item ts) ts R)
    → ((a : List Lexeme) (x : A) → R a x → L a (x ∷ []))
    → ((a : List Lexeme) (t : Lexeme) (x : A) → R a x → t.kind ≡ k.Mark p.Comma → L (a ++ t ∷ []) (x ∷ []))
    → ((a : List Lexeme) (t : Lexeme) (b : List Lexeme) (x : A) (xs : List A) → R a x → t.kind ≡ k.Mark p.Comma → L b xs → L (a ++ t ∷ b) (x ∷ xs))
    → (j : ℕ) (found : List A) (ts : List Lexeme) → Says (braced_list_from item j found ts) ts (λ a ys. (xs : List A) × (ys ≡ found ++ xs) × L a xs)
unfolding braced_list_from
braced_list_says item R L h one last more zero found ts = let q = some_of (item []) [] R (h []) in refused_says ts _ (q.0, found ++ q.1 ∷ [], (q.1 ∷ [], refl, one q.0 q.1 q.2))
braced_list_says item R L h one last more (suc j) found ts = bind_says (item ts) _ ts R _ (h ts) (λ a x r g.
    braced_after L (braced_list_from item j (found ++ x ∷ [])) found x a r (one a x g) (λ t kind. last a t x g kind) (λ t u kind.
    weaker (braced_list_from item j (found ++ x ∷ []) u) u _ _ (λ b ys q. (q.0, q.1, more a t b x q.0 g kind q.2)) (braced_list_says item R L h one last more j (found ++ x ∷ []) u)))

-- ---- enumeration constants

constant_value_says : (s : TypeNames) (n : ℕ) (t : Lexeme) (ts : List Lexeme) → t.kind ≡ k.Name → is_type s t ≡ false → Says (enumerator_value s n t.at t.spelling ts) ts (λ b x. IsConstant s (t ∷ b) x)
constant_value_says s n t [] kind listed = ok_says (record { at = t.at; name = t.spelling; value = None }) [] _ (IsConstant.plain t kind listed)
constant_value_says s n t (u ∷ r) kind listed = if_says (is_mark p.Assign u.kind) _ _ (u ∷ r) _
    (λ yes. token_says _ u r _ (bind_says (expr s n 4 r) _ r (λ a x. IsExpr s 4 a x) _ (sound_expr s n 4 r four_wanted) (λ a x v h.
    done_says (record { at = t.at; name = t.spelling; value = Some x }) a v (λ b z. IsConstant s (t ∷ u ∷ b) z) (IsConstant.with_value t u a x kind listed (mark_is p.Assign u.kind yes) h))))
    (λ other. ok_says (record { at = t.at; name = t.spelling; value = None }) (u ∷ r) _ (IsConstant.plain t kind listed))

some_constant : (s : TypeNames) → Instance (λ a x. IsConstant s a x)
some_constant s = (a_name s ∷ [], record { at = (a_name s).at; name = (a_name s).spelling; value = None }, IsConstant.plain (a_name s) (a_name_is s) (no_type_name s))

constant_says : (s : TypeNames) (n : ℕ) (ts : List Lexeme) → Says (enumerator s n ts) ts (λ a x. IsConstant s a x)
unfolding enumerator
constant_says s n [] = refused_says [] _ (some_constant s)
constant_says s n (t ∷ r) = if_says (is_name_token t.kind) _ _ (t ∷ r) _
    (λ yes. if_says (is_type s t) (Err (t ∷ r)) _ (t ∷ r) _ (λ type. refused_says (t ∷ r) _ (some_constant s)) (λ listed. token_says _ t r _ (constant_value_says s n t r (name_is t.kind yes) listed)))
    (λ other. refused_says (t ∷ r) _ (some_constant s))

-- ---- specifiers

-- what stands in the place of words
data IsBraced (s : TypeNames) (u : Lexeme) : List Lexeme → TypeNode → Type 0 where
  alone : (a : List Lexeme) (ty : TypeNode) → IsTail s u a ty → IsBraced s u a ty
  struct : (b : List Lexeme) (l : Lexeme) (e : List Lexeme) (r : Lexeme) (d : List Lexeme) (at : ℕ) (name : Option (List ℕ)) (ds : List Declaration) → u.kind ≡ k.Word w.Struct → IsTag u b at name → l.kind ≡ k.Mark p.LeftBrace → AreMembers s e ds → r.kind ≡ k.Mark p.RightBrace → AreConsts d
      → IsBraced s u (b ++ (l ∷ e ++ r ∷ d)) (y.Struct at name (Some ds))
  enum : (b : List Lexeme) (l : Lexeme) (e : List Lexeme) (r : Lexeme) (d : List Lexeme) (at : ℕ) (name : Option (List ℕ)) (xs : List Constant) → u.kind ≡ k.Word w.Enum → IsTag u b at name → l.kind ≡ k.Mark p.LeftBrace → AreConstants s e xs → r.kind ≡ k.Mark p.RightBrace → AreConsts d
      → IsBraced s u (b ++ (l ∷ e ++ r ∷ d)) (y.Enum at name (Some xs))

is_specifier : (s : TypeNames) {a : List Lexeme} {ty : TypeNode} → From (IsBraced s) no_words a ty → IsSpecifier s a ty
is_specifier s (From.words a z q h e) = IsSpecifier.plain a (y.Basic q) (IsPlain.words a z q h e)
is_specifier s (From.tail a u r ty n c (IsBraced.alone b ty' (IsTail.type_name b' kind listed h))) = IsSpecifier.plain (a ++ u ∷ b') (y.Named u.spelling) (IsPlain.type_name a u b' c kind listed h)
is_specifier s (From.tail a u r ty n c (IsBraced.alone b ty' (IsTail.struct v b' kind vk h))) = IsSpecifier.plain (a ++ u ∷ v ∷ b') (y.Struct v.at (Some v.spelling) None) (IsPlain.struct a u v b' c kind vk h)
is_specifier s (From.tail a u r ty n c (IsBraced.alone b ty' (IsTail.enum v b' kind vk h))) = IsSpecifier.plain (a ++ u ∷ v ∷ b') (y.Enum v.at (Some v.spelling) None) (IsPlain.enum a u v b' c kind vk h)
is_specifier s (From.tail a u r' ty n c (IsBraced.struct b l e r d at name ds kind g lk h rk o)) = IsSpecifier.struct a u b l e r d at name ds c kind g lk h rk o
is_specifier s (From.tail a u r' ty n c (IsBraced.enum b l e r d at name xs kind g lk h rk o)) = IsSpecifier.enum a u b l e r d at name xs c kind g lk h rk o

module _ (s : TypeNames) (n : ℕ) (spec : Parser TypeNode) (sound : (ts : List Lexeme) → Says (spec ts) ts (λ a ty. IsSpecifier s a ty)) where
  pub member_says : (ts : List Lexeme) → Says (struct_declaration s n spec ts) ts (λ a ds. IsMember s a ds)
  unfolding struct_declaration
  member_says ts = bind_says (spec ts) _ ts (λ a ty. IsSpecifier s a ty) _ (sound ts) (λ a ty r h.
      bind_says (declarators_from s n (length r) ty [] r) _ r _ _ (declarators_says s n (length r) ty [] r) (λ b ds u q. expect_says p.Semicolon _ u _ (λ t v kind.
      ok_says ds v _ (subst (λ z. IsMember s (a ++ (b ++ t ∷ [])) z) (sym q.1) (IsMember.member a b t ty q.0 h q.2 kind)))))

  members_says : (j : ℕ) (found : List Declaration) (ts : List Lexeme) → Says (struct_declarations_from s n spec j found ts) ts (λ a ys. (xs : List Declaration) × (ys ≡ found ++ xs) × AreMembers s a xs)
  unfolding struct_declarations_from
  members_says zero found ts = let q = some_of (struct_declaration s n spec []) [] (λ a ds. IsMember s a ds) (member_says []) in refused_says ts _ (q.0, found ++ q.1, (q.1, refl, AreMembers.one q.0 q.1 q.2))
  members_says (suc j) found ts = bind_says (struct_declaration s n spec ts) _ ts (λ a ds. IsMember s a ds) _ (member_says ts) (λ a ds r h. if_says (is_mark p.RightBrace (kind_at r)) (Ok (found ++ ds, r)) (struct_declarations_from s n spec j (found ++ ds) r) r _
      (λ brace. done_says (found ++ ds) a r (λ a ys. (xs : List Declaration) × (ys ≡ found ++ xs) × AreMembers s a xs) (ds, refl, AreMembers.one a ds h))
      (λ other. weaker (struct_declarations_from s n spec j (found ++ ds) r) r _ _ (λ b ys q. (ds ++ q.0, q.1 ∙ append_assoc found ds q.0, AreMembers.more a b ds q.0 h q.2)) (members_says j (found ++ ds) r)))

  struct_says : (u : Lexeme) (b : List Lexeme) (at : ℕ) (name : Option (List ℕ)) (ts : List Lexeme) → u.kind ≡ k.Word w.Struct → IsTag u b at name → Says (braces s n spec c.Struct at name ts) ts (λ e ty. IsBraced s u (b ++ e) ty)
  unfolding braces
  struct_says u b at name ts kind g = expect_says p.LeftBrace _ ts _ (λ l r lk. bind_says (struct_declarations_from s n spec (length r) [] r) _ r _ _ (members_says (length r) [] r) (λ e ds v q. expect_says p.RightBrace _ v _ (λ r' v' rk.
      bind_says (consts (length v') v') _ v' (λ a q. AreConsts a) _ (consts_says (length v') v') (λ d x z o.
      done_says (y.Struct at name (Some ds)) d z (λ d ty. IsBraced s u (b ++ (l ∷ (e ++ (r' ∷ d)))) ty) (subst (λ m. IsBraced s u (b ++ (l ∷ (e ++ (r' ∷ d)))) (y.Struct at name (Some m))) (sym q.1) (IsBraced.struct b l e r' d at name q.0 kind g lk q.2 rk o))))))

  enum_says : (u : Lexeme) (b : List Lexeme) (at : ℕ) (name : Option (List ℕ)) (ts : List Lexeme) → u.kind ≡ k.Word w.Enum → IsTag u b at name → Says (braces s n spec c.Enum at name ts) ts (λ e ty. IsBraced s u (b ++ e) ty)
  unfolding braces
  enum_says u b at name ts kind g = expect_says p.LeftBrace _ ts _ (λ l r lk. bind_says (braced_list_from (enumerator s n) (length r) [] r) _ r _ _
      (braced_list_says (enumerator s n) (λ a x. IsConstant s a x) (λ a xs. AreConstants s a xs) (constant_says s n) (λ a x h. AreConstants.one a x h) (λ a t x h kind. AreConstants.last a t x h kind) (λ a t b x xs h kind g. AreConstants.more a t b x xs h kind g) (length r) [] r) (λ e xs v q. expect_says p.RightBrace _ v _ (λ r' v' rk.
      bind_says (consts (length v') v') _ v' (λ a q. AreConsts a) _ (consts_says (length v') v') (λ d x z o.
      done_says (y.Enum at name (Some xs)) d z (λ d ty. IsBraced s u (b ++ (l ∷ (e ++ (r' ∷ d)))) ty) (subst (λ m. IsBraced s u (b ++ (l ∷ (e ++ (r' ∷ d)))) (y.Enum at name (Some m))) (sym q.1) (IsBraced.enum b l e r' d at name q.0 kind g lk q.2 rk o))))))

  -- behind the word
  on_says : (class : Specifier) (u : Lexeme) (ts : List Lexeme)
      → ((b : List Lexeme) (at : ℕ) (name : Option (List ℕ)) (ts : List Lexeme) → IsTag u b at name → Says (braces s n spec class at name ts) ts (λ e ty. IsBraced s u (b ++ e) ty))
      → ((v : Lexeme) (a : List Lexeme) → v.kind ≡ k.Name → AreConsts a → IsTail s u (v ∷ a) (tag_type class v.at v.spelling))
      → Says (tag_or_body s n spec class u.at ts) ts (λ b ty. IsBraced s u b ty)
  unfolding tag_or_body
  on_says class u [] h g = h [] u.at None [] IsTag.none
  on_says class u (v ∷ r) h g = if_says (is_name_token v.kind) _ _ (v ∷ r) _
      (λ yes. token_says _ v r _ (if_says (is_mark p.LeftBrace (kind_at r)) _ _ r _
      (λ brace. h (v ∷ []) v.at (Some v.spelling) r (IsTag.some v (name_is v.kind yes)))
      (λ other. bind_says (consts (length r) r) _ r (λ a q. AreConsts a) _ (consts_says (length r) r) (λ a x z o.
      done_says (tag_type class v.at v.spelling) a z (λ a ty. IsBraced s u (v ∷ a) ty) (IsBraced.alone (v ∷ a) (tag_type class v.at v.spelling) (g v a (name_is v.kind yes) o))))))
      (λ other. h [] u.at None (v ∷ r) IsTag.none)

pub sound_specifier : (s : TypeNames) (n : ℕ) (ts : List Lexeme) → Says (specifier s n ts) ts (λ a ty. IsSpecifier s a ty)
unfolding specifier
sound_specifier s zero ts =
    let q = some_of (plain s []) [] (λ a ty. IsPlain s a ty) (plain_says s []) in
    refused_says ts _ (q.0, q.1, IsSpecifier.plain q.0 q.1 q.2)
sound_specifier s (suc n) ts = weaker (specifier_from s (tag_or_body s n (specifier s n)) (length ts) no_words ts) ts _ _ (λ a ty h. is_specifier s h)
    (specifier_says s (tag_or_body s n (specifier s n)) (IsBraced s)
    (λ u r e. on_says s n (specifier s n) (sound_specifier s n) c.Struct u r (λ b at name ts g. struct_says s n (specifier s n) (sound_specifier s n) u b at name ts e g) (λ v a vk h. IsTail.struct v a e vk h))
    (λ u r e. on_says s n (specifier s n) (sound_specifier s n) c.Enum u r (λ b at name ts g. enum_says s n (specifier s n) (sound_specifier s n) u b at name ts e g) (λ v a vk h. IsTail.enum v a e vk h))
    (λ u b e listed h. IsBraced.alone b (y.Named u.spelling) (IsTail.type_name b e listed h))
    (length ts) no_words ts)
