-- `form::name::is_qualifier` meets its contract.
use Rattle.rules.specs.Basics.{one_of}
use Rattle.form.proofs.name.is_qualifier.Goals as goal

pub is_word-requires : goal.is_word-requires
is_word-requires c = tt

pub returns : goal.returns
unfolding one_of
returns c = c.is_word.ensures
