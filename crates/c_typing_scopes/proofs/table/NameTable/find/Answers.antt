use Rattle.std.proofs.Common.{refl, sym, ap, ◌∙◌, slice_get, arith}
use Rattle.std.specs.Option.{option_map}
use Rattle.std.proofs.lemmas.Option.{slice_get_read}
use Rattle.std.proofs.lemmas.Bool.Decides.{nat_tests}
use Rattle.c_typing_scopes.specs.Names.{find}
use Rattle.c_typing_scopes.specs.model.Shadows.{place_of}
use Rattle.c_typing_scopes.proofs.Tables.{found_entry, within, no_place}
use Rattle.c_typing_scopes.proofs.table.NameTable.find.Goals as goal

pub returns-in-None-get : goal.returns-in-None-get
returns-in-None-get g c =
    let below = within c.self.inside.newest c.self.inside.list.items c.self.invariant c.args.name.now c.in-Some.place (ap (λ t. place_of (find c.args.name.now t)) c.self.view_is ∙ (sym c.place.ensures ∙ c.in-Some.is)) in
    let l = c.in-None-get.ensures.lookup.0 in
    let d = c.deref.ensures.len in
    absurd (grind (arith, nat_tests))

pub returns-in-Some-get : goal.returns-in-Some-get
returns-in-Some-get g c =
    let h = found_entry c.self.inside.newest c.self.inside.list.items c.self.invariant c.args.name.now c.in-Some.place (ap (λ t. place_of (find c.args.name.now t)) c.self.view_is ∙ (sym c.place.ensures ∙ c.in-Some.is)) in
    let k = slice_get_read c.deref.result.now _ c.in-Some.place c.in-Some-get.found.now refl c.in-Some-get.ensures.lookup.3.0 c.in-Some-get.ensures.lookup.1 in
    sym (sym (ap (find c.args.name.now) c.self.view_is) ∙ (h ∙ ap (option_map (λ d. (c.in-Some.place, d.value))) (sym (ap (λ l. slice_get l c.in-Some.place) c.deref.ensures.value) ∙ k)))

pub returns-in-None : goal.returns-in-None
returns-in-None g c = no_place _ (sym c.in-None.is ∙ c.place.ensures)
