use Rattle.c_typing_expression_sound.proofs.CTypeLaws.Primary.{label_word, given_word, next_word}
use Rattle.c_typing_expression_sound.proofs.c_type_laws.laws.constants_are_words.Goals as goal

pub returns-clause-labels : goal.returns-clause-labels
returns-clause-labels c = label_word

pub returns-clause-enumerators : goal.returns-clause-enumerators
returns-clause-enumerators c = given_word

pub returns-clause-successors : goal.returns-clause-successors
returns-clause-successors c = next_word
