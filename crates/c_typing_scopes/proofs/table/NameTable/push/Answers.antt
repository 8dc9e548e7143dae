use Rattle.std.proofs.Common.{◌≡◌, refl, sym, ap, ◌∙◌, length, arith}
use Rattle.c_typing_scopes.specs.Names.{find}
use Rattle.c_typing_scopes.specs.model.Shadows.{place_of}
use Rattle.c_typing_scopes.proofs.Tables.{pushed_entry}
use Rattle.c_typing_scopes.proofs.table.NameTable.push.Goals as goal

pub invariant_of-self-in-Ok : goal.invariant_of-self-in-Ok
invariant_of-self-in-Ok g c =
    let lens : c.len-place.result ≡ length c.self.inside.list.items = omega arith in
    pushed_entry c.self.inside.newest c.self.inside.list.items c.self.invariant c.insert.new.self c.push.new.self.items _ _ (λ k l. refl) c.args.name c.len-place.result c.in-Ok.ensures.entries refl lens
    (c.place-shadows.ensures ∙ ap place_of (ap (find c.args.name.now) (sym c.self.view_is))) c.in_ok-push.ensures.items
