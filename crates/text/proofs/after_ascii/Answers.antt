-- `text::after_ascii` meets its contract.
use Rattle.text.proofs.Following.{skips_on}
use Rattle.text.proofs.after_ascii.Goals as goal

pub returns-then-at-eq0 : goal.returns-then-at-eq0
returns-then-at-eq0 c = skips_on c.skip_ascii_blocks-end.ensures c.skip_ascii_blocks.ensures
