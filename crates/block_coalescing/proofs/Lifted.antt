-- Facts on what options and results hold.
use Rattle.std.proofs.Common.{◌≡◌, Option, Some, None, subst}
use Rattle.std.specs.Prelude.{IfSome, IfOk, Result, Ok, Err}

pub if_some : {A : Type 0} {P Q : A → Type 0} → (o : Option A) → ((a : A) → P a → Q a) → IfSome o P → IfSome o Q
if_some None f p = p
if_some (Some a) f p = f a p

pub if_ok : {A E : Type 0} {P Q : A → Type 0} → (r : Result A E) → ((a : A) → P a → Q a) → IfOk r P → IfOk r Q
if_ok (Ok a) f p = f a p
if_ok (Err e) f p = p

pub some_then : {A : Type 0} → (P : A → Type 0) → (o : Option A) (a : A) → o ≡ Some a → IfSome o P → P a
some_then P None a e p = absurd (cc)
some_then P (Some b) a e p = let same : b ≡ a = cc in subst P same p
