use Rattle.c_typing_text_laws.proofs.CIdentifierLaws.Spellings.{name_tokens}
use Rattle.c_typing_text_laws.proofs.c_identifier_laws.laws.name_tokens_are_identifiers.Goals as goal

pub returns : goal.returns
returns c = name_tokens
