use Rattle.std.proofs.Common.{sym, length-take-le, rules}
use Rattle.service_examples.proofs.escapes.decode.Goals as goal

pub returns : goal.returns
returns c = (search rules, sym (length-take-le _ _ (search rules)))
