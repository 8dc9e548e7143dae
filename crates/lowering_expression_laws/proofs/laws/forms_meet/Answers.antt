use Rattle.lowering_expression_laws.proofs.Forms as forms
use Rattle.lowering_expression_laws.proofs.Choices as choices
use Rattle.lowering_expression_laws.proofs.laws.forms_meet.Goals as goal

pub returns : goal.returns
returns g c found = record {
  numbers = forms.numbers c found;
  pluses = forms.pluses c found;
  negations = forms.negations c found;
  complements = forms.complements c found;
  operators = λ op t o x y h p same ex ey hx hy. forms.operators c found op h t o p same x y ex ey hx hy;
  conversions = λ t o x ex hx. forms.conversions c found t o x ex hx;
  casts = λ t o x ex hx. forms.casts c found t o x ex hx;
  conjunctions = choices.conjunctions c found;
  disjunctions = choices.disjunctions c found;
  choices = λ ty x y z sx ey ez hx hy hz. choices.choices c found ty x y z sx ey ez hx hy hz;
}
