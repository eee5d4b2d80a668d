use Rattle.element.proofs.Numbers.{five}
use Rattle.element.proofs.name.number_of_c.Goals as goal

pub returns : goal.returns
returns c =
    five _ c.number_if-version.ensures c.number_if-named.ensures c.number_if-system.ensures c.number_if-code.ensures c.number_if.ensures
