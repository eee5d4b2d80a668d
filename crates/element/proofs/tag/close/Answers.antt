use Rattle.element.proofs.Tagging.{opens, shuts}
use Rattle.text.proofs.Reading.{good}
use native.Mathlib.Omega.{arith}
use mathlib.Core.Path.{refl}
use Rattle.element.proofs.tag.close.Goals as goal

pub returns-in-Some : goal.returns-in-Some
returns-in-Some c =
    let g = good c.in-Some.ensures in
    record { places = refl; others = refl; namespaces = refl; name_is = refl; past_is = refl; low = omega (arith, c.skip_space-i.ensures.low, g.low); high = g.high; inner = λ n p kids after q. opens c.skip_space-i.ensures n p kids after q g }

pub returns : goal.returns
returns c =
    record { places = refl; others = refl; namespaces = refl; name_is = refl; past_is = refl; low = omega (arith, c.skip_space-i.ensures.low, c.past_literal.ensures.low); high = c.past_literal.ensures.high; inner = λ n p kids after q. shuts c.skip_space-i.ensures n p kids after q c.in_default.ensures c.past_literal.ensures }
