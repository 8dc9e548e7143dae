use Rattle.c_typing_text_laws.proofs.CIdentifierLaws.Declarations.{read_names}
use Rattle.c_typing_text_laws.proofs.c_identifier_laws.laws.declared_names_are_identifiers.Goals as goal

pub returns : goal.returns
returns c = read_names
