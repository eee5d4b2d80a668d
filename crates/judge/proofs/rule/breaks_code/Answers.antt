-- `judge::rule::breaks_code` meets its contract.
use Rattle.judge.proofs.rule.breaks_code.Goals as goal

pub returns : goal.returns
returns c = λ s n l k t d.
    let code = c.has-code.ensures s l t in
    let name = c.has-name.ensures s l t in
    rw (code, name, c.has-version.ensures s l t, c.has-system.ensures s l t, c.has-null.ensures s l t, d)
